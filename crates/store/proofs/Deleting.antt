-- A deletion leaves every byte of the other overlays.
use Rattle.std.proofs.Common.{◌≡◌, ℕ, suc, ◌+◌, ◌-◌, ◌<◌, ◌≤◌, false, cond, eqb, ltb, List, [], ◌∷◌, ◌++◌, length, get_or, take, drop, is_some, is_ok, Some, None, Option, Result, sym, refl, ap, ◌∙◌, subst, arith, drop-cons}
use Rattle.std.specs.List.{remove}
use Rattle.std.proofs.lemmas.List.{take-append-drop, take-take, drop-drop, length-take-le, length-drop}
use Rattle.std.proofs.lemmas.Bool.{cond_both, cond-true, cond-false, eq-eqb, le-ltb, ne_eqb}
use Rattle.refusal.specs.declared.Refusal.{Refusal}
use Rattle.queue.proofs.Spans.{span_is, span_queue}
use Rattle.store.specs.declared.entry.Entry.{Entry}
use Rattle.store.specs.declared.entry.Found.{Found}
use Rattle.store.specs.Entries.{entry, sizes, found_in}
use Rattle.store.specs.Stores.{Store, store, kept, Held, held, closed_up, deleting_at, deleting}
use Rattle.store.specs.Contents.{Overlay, overlay, overlays_in, bytes_in, Contents, content, contents}
use Rattle.store.specs.Laws.{removed, deleted}
use Rattle.store.proofs.Searching.{Stands, stands, size_within, size_out}
use Rattle.store.proofs.Holding.{contents_front, contents_split}
use Rattle.store.proofs.Onces.{none_first}
use Rattle.store.proofs.Grounds.{stored_not}

-- the first overlay with the ID leaves
removed_middle : (id : ℕ) (xs : List Overlay) (o : Overlay) (ys : List Overlay) → bytes_in xs id ≡ None → o.id ≡ id → removed id (xs ++ (o ∷ ys)) ≡ xs ++ ys
removed_middle id [] o ys none same = cond-true _ _ _ (eq-eqb _ _ same)
removed_middle id (x ∷ xs) o ys none same =
    let h = none_first x xs id none in
    cond-false _ _ _ h.0 ∙ ap (λ l. x ∷ l) (removed_middle id xs o ys h.1 same)

-- the parts of the memory: before the overlay, its own, and behind it
module _ (s : Store) (m : List ℕ) (id : ℕ) (f : Found) (e : found_in s.entries id ≡ Some f) (room : kept s ≤ length m) where
  h : Stands s.entries id f
  h = stands s.entries id f e

  abbrev whole : List ℕ
  whole = take (kept s) m

  abbrev front : List ℕ
  front = take f.start whole

  abbrev own : List ℕ
  own = take f.size (drop f.start whole)

  abbrev back : List ℕ
  back = drop (f.start + f.size) whole

  abbrev before : List Entry
  before = take f.at s.entries

  abbrev it : Entry
  it = get_or s.entries f.at (entry 0 0)

  abbrev behind : List Entry
  behind = drop (suc f.at) s.entries

  fits : f.start + f.size ≤ kept s
  fits = omega (arith, size_within s.entries id f e)

  in_parts : whole ≡ front ++ (own ++ back)
  in_parts =
      sym (take-append-drop f.start (take (kept s) m))
      ∙ ap (λ l. take f.start (take (kept s) m) ++ l)
      (sym (take-append-drop f.size (drop f.start (take (kept s) m))) ∙ ap (λ l. take f.size (drop f.start (take (kept s) m)) ++ l) (drop-drop f.size f.start (take (kept s) m)))

  in_entries : s.entries ≡ before ++ (it ∷ behind)
  in_entries = sym (take-append-drop f.at s.entries) ∙ ap (λ l. take f.at s.entries ++ l) (drop-cons s.entries f.at (entry 0 0) h.inside)

  front_long : length front ≡ sizes before
  front_long =
      let a : length (take (kept s) m) ≡ kept s = length-take-le (kept s) m room in
      length-take-le f.start (take (kept s) m) (omega (arith, fits)) ∙ h.start

  own_long : length own ≡ sizes (it ∷ [])
  own_long =
      let a : length (take (kept s) m) ≡ kept s = length-take-le (kept s) m room in
      let b = length-drop f.start (take (kept s) m) in
      length-take-le f.size (drop f.start (take (kept s) m)) (omega (arith, fits)) ∙ h.size ∙ (omega arith)

  -- what was there
  was : contents m s ≡ content (overlays_in before front ++ (overlay it.id (take it.size own) ∷ overlays_in behind back)) (take s.begun (drop (sizes behind) back))
  was =
      let two = contents_split (it ∷ []) behind own back s.begun own_long in
      sym (contents_front s m (kept s) (omega arith))
      ∙ (λ i. contents (in_parts i) (store (in_entries i) s.begun))
      ∙ contents_split before (it ∷ behind) front (own ++ back) s.begun front_long
      ∙ (λ i. content (overlays_in before front ++ (two i).stored) (two i).begun)

  -- what is there now
  is : contents (closed_up m (kept s) f) (store (remove s.entries f.at) s.begun) ≡ content (overlays_in before front ++ overlays_in behind back) (take s.begun (drop (sizes behind) back))
  is =
      let t = store (remove s.entries f.at) s.begun in
      let n = kept s - f.size in
      let less : kept t ≤ n = omega (arith, size_out s.entries id f e) in
      let cut : take n (closed_up m (kept s) f) ≡ take f.start (take (kept s) m) ++ drop (f.start + f.size) (take (kept s) m) =
      ap (take n) (cond-true _ _ _ (span_is m (kept s) f.start f.size fits room))
      ∙ span_queue m (kept s) f.start f.size fits room
      ∙ ap (λ l. l ++ drop (f.start + f.size) (take (kept s) m)) (sym (take-take f.start (kept s) m (omega (arith, fits)))) in
      sym (contents_front t (closed_up m (kept s) f) n less)
      ∙ (λ i. contents (cut i) (store (remove s.entries f.at) s.begun))
      ∙ contents_split before behind front back s.begun front_long

  pub taken_away : contents (closed_up m (kept s) f) (store (remove s.entries f.at) s.begun) ≡ content (removed id (contents m s).stored) (contents m s).begun
  taken_away =
      let none : bytes_in (overlays_in before front) id ≡ None = stored_not before id (ap is_some h.before) front in
      is
      ∙ ap (λ os. content os (take s.begun (drop (sizes behind) back))) (sym (removed_middle id (overlays_in before front) (overlay it.id (take it.size own)) (overlays_in behind back) none h.here))
      ∙ ap (λ (c : Contents). content (removed id c.stored) c.begun) (sym was)

abbrev Deleted : ℕ → Store → List ℕ → Held → Type 0
Deleted id s m o = contents o.memory o.store ≡ cond (is_ok o.result) (deleted id (contents m s)) (contents m s)

deletes_found : (id : ℕ) (s : Store) (m : List ℕ) → kept s ≤ length m → eqb id 0 ≡ false → (o : Option Found) → found_in s.entries id ≡ o → Deleted id s m (deleting_at o s m)
deletes_found id s m room ne None e = refl
deletes_found id s m room ne (Some f) e = taken_away s m id f e room ∙ sym (cond-false _ _ _ ne)

pub deletes : (id : ℕ) (s t : Store) (m n : List ℕ) (r : Result (Unit {0}) Refusal) → kept s ≤ length m → held t n r ≡ deleting id s m → contents n t ≡ cond (is_ok r) (deleted id (contents m s)) (contents m s)
deletes id s t m n r room e =
    subst (Deleted id s m) (sym e)
    (cond_both (ltb 127 id) _ _ (Deleted id s m) (λ _. refl)
    (λ _. cond_both (eqb id 0) _ _ (Deleted id s m) (λ z. sym (cond-true _ _ _ z))
    (λ ne. deletes_found id s m room ne (found_in s.entries id) refl)))

-- one that is no deletion of all
pub deletes_one : (id : ℕ) (s : Store) (m : List ℕ) (h : Held) → 0 < id → id ≤ 127 → h ≡ deleting_at (found_in s.entries id) s m → h ≡ deleting id s m
deletes_one id s m h some le e = e ∙ sym (cond-false _ _ _ (ne_eqb id 0 (λ z. omega arith))) ∙ sym (cond-false _ _ _ (le-ltb 127 id le))
