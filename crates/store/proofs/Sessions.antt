-- A whole overlay, from its beginning to its end.
use Rattle.std.proofs.Common.{◌≡◌, ℕ, ◌<◌, List, [], ◌∷◌, length, Ok, Err, Result, sym, refl, ap, ◌∙◌, append_assoc, arith}
use Rattle.std.proofs.lemmas.List.{append-nil}
use Rattle.std.proofs.lemmas.Bool.Decides.{nat_tests}
use Rattle.refusal.specs.declared.Refusal.{Refusal}
use Rattle.store.specs.Stores.{Store, Answer, Held, held, beginning, storing}
use Rattle.store.specs.Contents.{content, contents}
use Rattle.store.specs.Laws.{appended, ended, then_held, sent, bytes_of, Session}
use Rattle.store.proofs.Grounds.{begin_grounds}
use Rattle.store.proofs.Changing.{began, ends, stored}

-- a command that is stored leaves the entries
same_entries : (bs : List ℕ) (s : Store) (m : List ℕ) → (storing bs s m).store.entries ≡ s.entries
same_entries bs s m = grind (arith, nat_tests)

begun_entries : (id : ℕ) (s : Store) → (beginning id s).store.entries ≡ s.entries
begun_entries id s = grind (arith, nat_tests)

-- commands that are all stored
record Came (cs : List (List ℕ)) (s u : Store) (m n : List ℕ) : Type 0 where
  entries : u.entries ≡ s.entries
  held' : contents n u ≡ appended (bytes_of cs) (contents m s)

after : (cs : List (List ℕ)) (bs : List ℕ) (s t u : Store) (m k n : List ℕ) (r : Result (Unit {0}) Refusal) → t.entries ≡ s.entries → held t k r ≡ storing bs s m → ((u : Store) (n : List ℕ) → sent cs t k ≡ held u n (Ok tt) → Came cs t u k n) → then_held (held t k r) (sent cs) ≡ held u n (Ok tt) → Came (bs ∷ cs) s u m n
after cs bs s t u m k n (Ok x) es did more e =
    let h = more u n e in
    record {
      entries = h.entries ∙ es;
      held' = h.held' ∙ ap (appended (bytes_of cs)) (stored bs s t m k (Ok x) did) ∙ ap (content (contents m s).stored) (append_assoc (contents m s).begun bs (bytes_of cs));
    }
after cs bs s t u m k n (Err x) es did more e =
    let q : Err x ≡ Ok tt = ap (λ (h : Held). h.result) e in
    absurd cc

came : (cs : List (List ℕ)) (s u : Store) (m n : List ℕ) → sent cs s m ≡ held u n (Ok tt) → Came cs s u m n
came [] s u m n e =
    let es : s ≡ u = ap (λ (h : Held). h.store) e in
    let em : m ≡ n = ap (λ (h : Held). h.memory) e in
    record {
      entries = ap (λ (x : Store). x.entries) (sym es);
      held' = (λ i. contents (sym em i) (sym es i)) ∙ ap (content (contents m s).stored) (sym (append-nil (contents m s).begun));
    }
came (c ∷ cs) s u m n e =
    let h = storing c s m in
    after cs c s h.store u m h.memory n h.result (same_entries c s m) refl (λ v k. came cs h.store v h.memory k) e

pub session : Session
session id cs s t u m n begins sends =
    let g = (begin_grounds id s (Ok tt) (ap (λ (o : Answer). o.result) (sym begins))).free refl in
    let b = began id s t (Ok tt) (sym begins) m in
    let c = came cs t u m n sends in
    let entries : t.entries ≡ s.entries = ap (λ (o : Answer). o.store.entries) (sym begins) ∙ begun_entries id s in
    let few : length u.entries < 64 = omega (arith, ap length (c.entries ∙ entries), g.3) in
    ends id u n few ∙ ap (ended id) (c.held' ∙ ap (appended (bytes_of cs)) b)
