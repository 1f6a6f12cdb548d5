-- What the memory holds, part by part.
use Rattle.std.proofs.Common.{◌≡◌, ℕ, ◌+◌, ◌-◌, ◌≤◌, List, [], ◌∷◌, ◌++◌, length, take, drop, sym, refl, ap, ◌∙◌, arith, take-add}
use Rattle.std.proofs.lemmas.List.{take-take, take_at, drop_at, drop-drop, drop-take}
use Rattle.std.proofs.lemmas.List.Sums.{sum_by-cons, sum_by-append}
use Rattle.store.specs.declared.entry.Entry.{Entry}
use Rattle.store.specs.Entries.{sizes}
use Rattle.store.specs.Stores.{Store, store, kept}
use Rattle.store.specs.Contents.{overlay, overlays_in, content, contents}
use Rattle.store.specs.Laws.{stored_bytes, Gapless}
use Rattle.store.proofs.Searching.{size_of}

-- one list of entries behind another
pub overlays_append : (xs ys : List Entry) (m : List ℕ) → overlays_in (xs ++ ys) m ≡ overlays_in xs m ++ overlays_in ys (drop (sizes xs) m)
overlays_append [] ys m = refl
overlays_append (x ∷ xs) ys m =
    ap (λ l. overlay x.id (take x.size m) ∷ l) (overlays_append xs ys (drop x.size m))
    ∙ ap (λ l. overlay x.id (take x.size m) ∷ (overlays_in xs (drop x.size m) ++ overlays_in ys l)) (drop-drop (sizes xs) x.size m ∙ ap (λ n. drop n m) (sym (sum_by-cons size_of x xs)))

-- a front of a list, and what is behind a front of it
drop_front : (n k : ℕ) (m : List ℕ) → n ≤ k → drop n (take k m) ≡ take (k - n) (drop n m)
drop_front n k m h = let e : k ≡ n + (k - n) = omega arith in ap (λ j. drop n (take j m)) e ∙ drop-take n (k - n) m

-- only the bytes in use matter
pub overlays_front : (es : List Entry) (m : List ℕ) (k : ℕ) → sizes es ≤ k → overlays_in es (take k m) ≡ overlays_in es m
overlays_front [] m k h = refl
overlays_front (e ∷ es) m k h =
    let all = sum_by-cons size_of e es in
    (λ i. overlay e.id (take-take e.size k m (omega arith) i) ∷ overlays_in es (drop_front e.size k m (omega arith) i))
    ∙ ap (λ l. overlay e.id (take e.size m) ∷ l) (overlays_front es (drop e.size m) (k - e.size) (omega arith))

pub contents_front : (s : Store) (m : List ℕ) (k : ℕ) → kept s ≤ k → contents (take k m) s ≡ contents m s
contents_front s m k h =
    let f : drop (sizes s.entries) (take k m) ≡ take (k - sizes s.entries) (drop (sizes s.entries) m) = drop_front (sizes s.entries) k m (omega arith) in
    λ i. content (overlays_front s.entries m k (omega arith) i)
    ((ap (take s.begun) f ∙ take-take s.begun (k - sizes s.entries) (drop (sizes s.entries) m) (omega arith)) i)

-- the same front, the same contents
pub same_front : (s : Store) (m n : List ℕ) (k : ℕ) → kept s ≤ k → take k m ≡ take k n → contents m s ≡ contents n s
same_front s m n k h e = sym (contents_front s m k h) ∙ ap (λ l. contents l s) e ∙ contents_front s n k h

-- the bytes of the contents are the front of the memory
stored_bytes_law : (es : List Entry) (m : List ℕ) → stored_bytes (overlays_in es m) ≡ take (sizes es) m
stored_bytes_law [] m = refl
stored_bytes_law (e ∷ es) m = ap (λ l. take e.size m ++ l) (stored_bytes_law es (drop e.size m)) ∙ sym (take-add e.size (sizes es) m) ∙ ap (λ n. take n m) (sym (sum_by-cons size_of e es))

pub gapless : Gapless
gapless s m =
    ap (λ l. l ++ take s.begun (drop (sizes s.entries) m)) (stored_bytes_law s.entries m) ∙ sym (take-add (sizes s.entries) s.begun m)

-- a memory in two parts, the first of them exactly that of some entries
module _ (xs ys : List Entry) (a b : List ℕ) (n : ℕ) (long : length a ≡ sizes xs) where
  pub contents_split : contents (a ++ b) (store (xs ++ ys) n) ≡ content (overlays_in xs a ++ overlays_in ys b) (take n (drop (sizes ys) b))
  contents_split =
      let front : overlays_in xs (a ++ b) ≡ overlays_in xs a =
      sym (overlays_front xs (a ++ b) (sizes xs) (omega arith)) ∙ ap (overlays_in xs) (take_at a b (sizes xs) long) in
      let behind : drop (sizes xs) (a ++ b) ≡ b = drop_at a b (sizes xs) long in
      let end : drop (sizes (xs ++ ys)) (a ++ b) ≡ drop (sizes ys) b =
      ap (λ k. drop k (a ++ b)) (sum_by-append size_of xs ys) ∙ sym (drop-drop (sizes ys) (sizes xs) (a ++ b)) ∙ ap (drop (sizes ys)) behind in
      λ i. content ((overlays_append xs ys (a ++ b) ∙ (λ j. front j ++ overlays_in ys (behind j))) i) (take n (end i))
