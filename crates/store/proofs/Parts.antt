-- Where an overlay's bytes are in the memory.
use Rattle.std.proofs.Common.{◌≡◌, ℕ, ◌+◌, ◌-◌, min, List, [], ◌∷◌, length, take, drop, refl, ap, ◌∙◌, arith}
use Rattle.std.specs.Option.{option_map}
use Rattle.std.proofs.lemmas.List.{take_rest, take_min, drop_min, drop-drop}
use Rattle.std.proofs.lemmas.Bool.Decides.{nat_tests}
use Rattle.store.specs.declared.entry.Entry.{Entry}
use Rattle.store.specs.declared.entry.Found.{Found}
use Rattle.store.specs.Entries.{found_from, found_in}
use Rattle.store.specs.Contents.{overlays_in, bytes_in}

abbrev pub part_of : List ℕ → Found → List ℕ
part_of m f = take f.size (drop f.start m)

-- the search finds the overlay's bytes
pub part_from : (es : List Entry) (m : List ℕ) (a s id : ℕ) → bytes_in (overlays_in es (drop s m)) id ≡ option_map (part_of m) (found_from a s es id)
part_from [] m a s id = refl
part_from (e ∷ es) m a s id =
    let later = part_from es m (a + 1) (s + e.size) id in
    rw (drop-drop e.size s m) (grind (arith, nat_tests))

pub part_in : (es : List Entry) (m : List ℕ) (id : ℕ) → bytes_in (overlays_in es m) id ≡ option_map (part_of m) (found_in es id)
part_in es m id = part_from es m 0 0 id

-- a part of the memory, cut where the memory ends
pub cut_part : (m : List ℕ) (s n a b : ℕ) → a ≡ min s (length m) → b ≡ min n (length (take (length m - a) (drop a m))) → take b (take (length m - a) (drop a m)) ≡ take n (drop s m)
cut_part m s n a b ea eb =
    ap (λ k. take k (take (length m - a) (drop a m))) eb ∙ take_min n (take (length m - a) (drop a m))
    ∙ ap (take n) (take_rest m a ∙ ap (λ k. drop k m) ea ∙ drop_min s m)
