-- No two overlays have one ID.
use Rattle.std.proofs.Common.{◌≡◌, ℕ, false, cond, eqb, List, [], ◌∷◌, ◌++◌, Some, None, sym, refl, ap, ◌∙◌, subst, arith}
use Rattle.std.proofs.lemmas.Bool.{cond_both, cond-false, eqb-true, ne_eqb}
use Rattle.std.proofs.lemmas.Bool.Decides.{nat_tests}
use Rattle.store.specs.Contents.{Overlay, overlay, bytes_in, Contents}
use Rattle.store.specs.Laws.{removed, Once, OnceLaws}

-- an ID that is not among the overlays
pub none_first : (o : Overlay) (os : List Overlay) (k : ℕ) → bytes_in (o ∷ os) k ≡ None → (eqb o.id k ≡ false) × (bytes_in os k ≡ None)
none_first o os k e = grind (arith, nat_tests)

none_push : (os : List Overlay) (o : Overlay) (k : ℕ) → bytes_in os k ≡ None → eqb o.id k ≡ false → bytes_in (os ++ (o ∷ [])) k ≡ None
none_push [] o k e ne = cond-false _ _ _ ne
none_push (x ∷ xs) o k e ne =
    let h = none_first x xs k e in
    cond-false _ _ _ h.0 ∙ none_push xs o k h.1 ne

eqb_other : (a b : ℕ) → eqb a b ≡ false → eqb b a ≡ false
eqb_other a b e = grind (arith, nat_tests)

once_push : (os : List Overlay) (o : Overlay) → Once os → bytes_in os o.id ≡ None → Once (os ++ (o ∷ []))
once_push [] o u e = (refl, tt)
once_push (x ∷ xs) o u e =
    let h = none_first x xs o.id e in
    (none_push xs o x.id u.0 (eqb_other x.id o.id h.0), once_push xs o u.1 h.1)

none_removed : (id : ℕ) (os : List Overlay) (k : ℕ) → bytes_in os k ≡ None → bytes_in (removed id os) k ≡ None
none_removed id [] k e = refl
none_removed id (x ∷ xs) k e =
    let h = none_first x xs k e in
    cond_both (eqb x.id id) _ _ (λ (os : List Overlay). bytes_in os k ≡ None) (λ _. h.1) (λ _. cond-false _ _ _ h.0 ∙ none_removed id xs k h.1)

once_removed : (id : ℕ) (os : List Overlay) → Once os → Once (removed id os)
once_removed id [] u = tt
once_removed id (x ∷ xs) u = cond_both (eqb x.id id) _ _ Once (λ _. u.1) (λ _. (none_removed id xs x.id u.0, once_removed id xs u.1))

gone_removed : (id : ℕ) (os : List Overlay) → Once os → bytes_in (removed id os) id ≡ None
gone_removed id [] u = refl
gone_removed id (x ∷ xs) u =
    cond_both (eqb x.id id) _ _ (λ (os : List Overlay). bytes_in os id ≡ None)
    (λ is. subst (λ k. bytes_in xs k ≡ None) (eqb-true x.id id is) u.0) (λ ne. cond-false _ _ _ ne ∙ gone_removed id xs u.1)

other_removed : (id : ℕ) (os : List Overlay) (k : ℕ) → (k ≡ id → ⊥) → bytes_in (removed id os) k ≡ bytes_in os k
other_removed id [] k ne = refl
other_removed id (x ∷ xs) k ne =
    cond_both (eqb x.id id) _ _ (λ (os : List Overlay). bytes_in os k ≡ bytes_in (x ∷ xs) k)
    (λ is. sym (cond-false _ _ _ (ne_eqb x.id k (λ q. ne (sym q ∙ eqb-true x.id id is)))))
    (λ _. ap (cond (eqb x.id k) (Some x.bytes)) (other_removed id xs k ne))

pub once_laws : OnceLaws
once_laws =
    record {
      ends = λ id c u e. once_push c.stored (overlay id c.begun) u e;
      deletes = λ id c u. cond_both (eqb id 0) _ _ (λ (d : Contents). Once d.stored) (λ _. tt) (λ _. once_removed id c.stored u);
      gone = λ id c u. cond_both (eqb id 0) _ _ (λ (d : Contents). bytes_in d.stored id ≡ None) (λ _. refl) (λ _. gone_removed id c.stored u);
      others = λ id c k some ne. ap (λ (d : Contents). bytes_in d.stored k) (cond-false _ _ _ (ne_eqb id 0 some)) ∙ other_removed id c.stored k ne;
    }
