-- Each refusal has its ground.
use Rattle.std.proofs.Common.{◌≡◌, ℕ, ◌+◌, ◌<◌, ◌≤◌, Bool, true, false, eqb, ltb, leb, ◌⊎◌, List, length, is_some, Some, None, Option, Result, sym, refl, ap, ◌∙◌, subst, arith, rules}
use Rattle.std.specs.Option.{option_map}
use Rattle.std.proofs.lemmas.Bool.{cond_both, eqb-true, ltb-true, ltb-false, leb-true, leb-false}
use Rattle.std.proofs.lemmas.Bool.Decides.{nat_tests}
use Rattle.refusal.specs.declared.Refusal.{Refusal}
use Rattle.store.specs.declared.entry.Entry.{Entry}
use Rattle.store.specs.declared.entry.Found.{Found}
use Rattle.store.specs.Entries.{found_in}
use Rattle.store.specs.Stores.{Store, kept, Answer, Held, held, outside, is_stored, full, beginning, storing, deleting_at, deleting}
use Rattle.store.specs.Contents.{overlays_in, bytes_in}
use Rattle.store.specs.Laws.{BeginGrounds, StoreGrounds, DeleteGrounds}
use Rattle.store.proofs.Parts.{part_of, part_in}

-- an ID outside its range, and one inside
pub out_of_range : (id : ℕ) → outside id ≡ true → (id ≡ 0) ⊎ (127 < id)
out_of_range id e = grind (arith, nat_tests)

pub in_range_law : (id : ℕ) → outside id ≡ false → (0 < id) × (id ≤ 127)
in_range_law id e = grind (arith, nat_tests)

-- a search finds what the contents have
some_mapped : {A B : Type 0} (f : A → B) (o : Option A) → is_some (option_map f o) ≡ is_some o
some_mapped f None = refl
some_mapped f (Some x) = refl

not_some : {A : Type 0} (o : Option A) → is_some o ≡ false → o ≡ None
not_some None e = refl
not_some (Some x) e = absurd cc

pub stored_has : (es : List Entry) (id : ℕ) (b : Bool) → is_stored es id ≡ b → (m : List ℕ) → is_some (bytes_in (overlays_in es m) id) ≡ b
stored_has es id b e m = ap is_some (part_in es m id) ∙ some_mapped (part_of m) (found_in es id) ∙ e

pub stored_not : (es : List Entry) (id : ℕ) → is_stored es id ≡ false → (m : List ℕ) → bytes_in (overlays_in es m) id ≡ None
stored_not es id e m = not_some _ (stored_has es id false e m)

begin_at : (id : ℕ) (s : Store) → BeginGrounds id s (beginning id s).result
begin_at id s =
    cond_both (outside id) _ _ (λ (o : Answer). BeginGrounds id s o.result)
    (λ e. search (rules, out_of_range id e))
    (λ out. cond_both (is_stored s.entries id) _ _ (λ (o : Answer). BeginGrounds id s o.result)
    (λ e. search (rules, stored_has s.entries id true e))
    (λ new. cond_both (full s.entries) _ _ (λ (o : Answer). BeginGrounds id s o.result)
    (λ e. search (rules, leb-true 64 _ e))
    (λ e. search (rules, in_range_law id out, stored_not s.entries id new, leb-false 64 _ e))))

store_at : (bs : List ℕ) (s : Store) (m : List ℕ) → StoreGrounds bs s m (storing bs s m).result
store_at bs s m =
    cond_both (leb (kept s + length bs) (length m)) _ _ (λ (o : Held). StoreGrounds bs s m o.result)
    (λ e. search (rules, leb-true _ _ e))
    (λ e. search (rules, leb-false _ _ e))

delete_found : (id : ℕ) (s : Store) (m : List ℕ) → id ≤ 127 → (o : Option Found) → found_in s.entries id ≡ o → DeleteGrounds id s (deleting_at o s m).result
delete_found id s m le None e = search (rules, stored_not s.entries id (ap is_some e))
delete_found id s m le (Some f) e = search (rules, stored_has s.entries id true (ap is_some e))

delete_at : (id : ℕ) (s : Store) (m : List ℕ) → DeleteGrounds id s (deleting id s m).result
delete_at id s m =
    cond_both (ltb 127 id) _ _ (λ (o : Held). DeleteGrounds id s o.result)
    (λ e. search (rules, ltb-true 127 id e))
    (λ in'. cond_both (eqb id 0) _ _ (λ (o : Held). DeleteGrounds id s o.result)
    (λ e. search (rules, ltb-false 127 id in', eqb-true id 0 e))
    (λ ne. delete_found id s m (ltb-false 127 id in') (found_in s.entries id) refl))

-- the same of what a call answered
pub begin_grounds : (id : ℕ) (s : Store) (r : Result (Unit {0}) Refusal) → r ≡ (beginning id s).result → BeginGrounds id s r
begin_grounds id s r e = subst (BeginGrounds id s) (sym e) (begin_at id s)

pub store_grounds : (bs : List ℕ) (s t : Store) (m n : List ℕ) (r : Result (Unit {0}) Refusal) → held t n r ≡ storing bs s m → StoreGrounds bs s m r
store_grounds bs s t m n r e = subst (λ (o : Held). StoreGrounds bs s m o.result) (sym e) (store_at bs s m)

pub delete_grounds : (id : ℕ) (s t : Store) (m n : List ℕ) (r : Result (Unit {0}) Refusal) → held t n r ≡ deleting id s m → DeleteGrounds id s r
delete_grounds id s t m n r e = subst (λ (o : Held). DeleteGrounds id s o.result) (sym e) (delete_at id s m)
