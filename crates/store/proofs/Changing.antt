-- What the calls make of the contents.
use Rattle.std.proofs.Common.{◌≡◌, ℕ, ◌+◌, ◌-◌, ◌<◌, ◌≤◌, cond, leb, List, [], ◌∷◌, ◌++◌, length, take, drop, is_ok, Result, sym, refl, ap, ◌∙◌, subst, append_assoc, arith, length-append}
use Rattle.std.proofs.lemmas.List.{take_at, drop-append-le, drop-take, length-take-le, length-drop}
use Rattle.std.proofs.lemmas.Bool.{cond_both, cond-false, leb-true, lt-leb}
use Rattle.std.proofs.lemmas.Bool.Decides.{nat_tests}
use Rattle.refusal.specs.declared.Refusal.{Refusal}
use Rattle.store.specs.declared.entry.Entry.{Entry}
use Rattle.store.specs.Entries.{entry, sizes}
use Rattle.store.specs.Stores.{Store, store, kept, Answer, answer, Held, held, beginning, written, storing, closing}
use Rattle.store.specs.Contents.{overlays_in, Contents, content, contents}
use Rattle.store.specs.Laws.{emptied, appended, ended}
use Rattle.store.proofs.Holding.{overlays_append, same_front}

-- a beginning
abbrev Begun : Store → List ℕ → Answer → Type 0
Begun s m o = contents m o.store ≡ cond (is_ok o.result) (emptied (contents m s)) (contents m s)

begun : (id : ℕ) (s : Store) (m : List ℕ) → Begun s m (beginning id s)
begun id s m = grind (arith, nat_tests)

pub began : (id : ℕ) (s t : Store) (r : Result (Unit {0}) Refusal) → answer t r ≡ beginning id s → (m : List ℕ) → contents m t ≡ cond (is_ok r) (emptied (contents m s)) (contents m s)
began id s t r e m = subst (Begun s m) (sym e) (begun id s m)

-- an end
pub ends_pushed : (id : ℕ) (s : Store) (es : List Entry) (m : List ℕ) → length s.entries < 64 → es ≡ s.entries ++ (entry id s.begun ∷ []) → contents m (store es 0) ≡ ended id (contents m s)
ends_pushed id s es m h e = ap (λ l. contents m (store l 0)) e ∙ ap (λ os. content os []) (overlays_append s.entries (entry id s.begun ∷ []) m)

pub ends : (id : ℕ) (s : Store) (m : List ℕ) → length s.entries < 64 → contents m (closing id s) ≡ ended id (contents m s)
ends id s m h = ap (contents m) (cond-false _ _ _ (lt-leb 64 _ h)) ∙ ends_pushed id s _ m h refl

-- a command behind the bytes that are kept
pub appends : (bs : List ℕ) (s : Store) (m : List ℕ) → kept s + length bs ≤ length m → contents (written m (kept s) bs) (store s.entries (s.begun + length bs)) ≡ appended bs (contents m s)
appends bs s m h =
    let es = s.entries in
    let n = sizes es in
    let rest = drop (length bs) (drop (kept s) m) in
    let a : length (take (kept s) m) ≡ kept s = length-take-le (kept s) m (omega arith) in
    let stored : overlays_in es (written m (kept s) bs) ≡ overlays_in es m =
    ap (λ (c : Contents). c.stored) (same_front (store es s.begun) (written m (kept s) bs) m (kept s) (omega arith) (take_at (take (kept s) m) (bs ++ rest) (kept s) a)) in
    let front : drop n (written m (kept s) bs) ≡ (take s.begun (drop n m) ++ bs) ++ rest =
    drop-append-le n (take (kept s) m) (bs ++ rest) (omega arith)
    ∙ ap (λ l. l ++ (bs ++ rest)) (drop-take n s.begun m)
    ∙ sym (append_assoc (take s.begun (drop n m)) bs rest) in
    let d : length (drop n m) ≡ length m - n = length-drop n m in
    let b : length (take s.begun (drop n m)) ≡ s.begun = length-take-le s.begun (drop n m) (omega arith) in
    let c : length (take s.begun (drop n m) ++ bs) ≡ s.begun + length bs = length-append (take s.begun (drop n m)) bs ∙ ap (λ k. k + length bs) b in
    λ i. content (stored i) ((ap (take (s.begun + length bs)) front ∙ take_at (take s.begun (drop n m) ++ bs) rest (s.begun + length bs) c) i)

abbrev Stored : List ℕ → Store → List ℕ → Held → Type 0
Stored bs s m o = contents o.memory o.store ≡ cond (is_ok o.result) (appended bs (contents m s)) (contents m s)

pub stored : (bs : List ℕ) (s t : Store) (m n : List ℕ) (r : Result (Unit {0}) Refusal) → held t n r ≡ storing bs s m → contents n t ≡ cond (is_ok r) (appended bs (contents m s)) (contents m s)
stored bs s t m n r e =
    subst (Stored bs s m) (sym e)
    (cond_both (leb (kept s + length bs) (length m)) _ _ (Stored bs s m) (λ l. appends bs s m (leb-true _ _ l)) (λ _. refl))
