-- Nothing beyond the bytes that are then kept is written.
use Rattle.std.proofs.Common.{◌≡◌, ℕ, ◌+◌, ◌-◌, ◌≤◌, true, eqb, ltb, leb, List, ◌++◌, length, take, drop, Some, None, Option, sym, refl, ap, ◌∙◌, subst, append_assoc, arith, length-append}
use Rattle.std.specs.List.{remove}
use Rattle.std.proofs.lemmas.List.{drop_at, drop-drop, length-take-le}
use Rattle.std.proofs.lemmas.Bool.{cond_both, leb-true}
use Rattle.std.proofs.lemmas.Bool.Decides.{nat_tests}
use Rattle.queue.specs.Queues.{span_in, span_out}
use Rattle.queue.proofs.Spans.{span_behind}
use Rattle.store.specs.declared.entry.Found.{Found}
use Rattle.store.specs.Entries.{sizes, found_in}
use Rattle.store.specs.Stores.{Store, kept, Held, written, storing, closed_up, deleting_at, deleting}
use Rattle.store.proofs.Searching.{size_within, size_out}

abbrev Beyond : List ℕ → Held → Type 0
Beyond m h = drop (kept h.store) h.memory ≡ drop (kept h.store) m

written_beyond : (m : List ℕ) (at : ℕ) (bs : List ℕ) → at + length bs ≤ length m → drop (at + length bs) (written m at bs) ≡ drop (at + length bs) m
written_beyond m at bs le =
    let a : length (take at m) ≡ at = length-take-le at m (omega arith) in
    let b = length-append (take at m) bs in
    ap (λ t. drop (at + length bs) (take at m ++ (bs ++ t))) (drop-drop (length bs) at m)
    ∙ ap (drop (at + length bs)) (sym (append_assoc (take at m) bs (drop (at + length bs) m)))
    ∙ drop_at (take at m ++ bs) (drop (at + length bs) m) (at + length bs) (omega arith)

pub storing_beyond : (bs : List ℕ) (s : Store) (m : List ℕ) → Beyond m (storing bs s m)
storing_beyond bs s m =
    cond_both (leb (kept s + length bs) (length m)) _ _ (Beyond m)
    (λ e. let k : sizes s.entries + (s.begun + length bs) ≡ kept s + length bs = omega arith in
    subst (λ n. drop n (written m (kept s) bs) ≡ drop n m) (sym k) (written_beyond m (kept s) bs (leb-true _ _ e)))
    (λ _. refl)

span_beyond : (m : List ℕ) (n k : ℕ) (f : Found) → f.start + f.size ≤ n → k + f.size ≡ n → drop k (closed_up m n f) ≡ drop k m
span_beyond m n k f inside e =
    cond_both (span_in m n f.start f.size) _ _ (λ (x : List ℕ). drop k x ≡ drop k m) (λ t. fits t) (λ _. refl)
  where
    fits : span_in m n f.start f.size ≡ true → drop k (span_out m n f.start f.size) ≡ drop k m
    fits t =
        let j : n - f.size ≡ k = omega arith in
        let le : n ≤ length m = grind (arith, nat_tests) in
        subst (λ i. drop i (span_out m n f.start f.size) ≡ drop i m) j (span_behind m n f.start f.size inside le)

deleting_at_law : (id : ℕ) (s : Store) (m : List ℕ) (o : Option Found) → found_in s.entries id ≡ o → Beyond m (deleting_at o s m)
deleting_at_law id s m None e = refl
deleting_at_law id s m (Some f) e =
    let a = size_within s.entries id f e in
    let b = size_out s.entries id f e in
    span_beyond m (kept s) (sizes (remove s.entries f.at) + s.begun) f (omega arith) (omega arith)

pub deleting_beyond : (id : ℕ) (s : Store) (m : List ℕ) → Beyond m (deleting id s m)
deleting_beyond id s m =
    cond_both (ltb 127 id) _ _ (Beyond m) (λ _. refl)
    (λ _. cond_both (eqb id 0) _ _ (Beyond m) (λ _. refl) (λ _. deleting_at_law id s m (found_in s.entries id) refl))
