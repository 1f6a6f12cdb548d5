-- Only a command whose kind is the end of a page makes an End Page.
use Rattle.std.proofs.Common.{◌≡◌, ℕ, Bool, true, false, cond, eqb, List, [], ◌∷◌, Some, None, Ok, Err, Option, sym, refl, ap, subst}
use Rattle.std.specs.Option.{option_map}
use Rattle.std.proofs.lemmas.Bool.{eqb-true}
use Rattle.command.specs.declared.header.Header.{Header}
use Rattle.refusal.specs.declared.Refusal.TheVariants.{UnknownCode, DataLength, NotAccepted}
use Rattle.command.specs.declared.state.State.{State}
use Rattle.command.specs.declared.state.Command.TheVariants.{EndPage, LoadCopyControl, DiscardBufferedData}
use Rattle.command.specs.declared.table.Row.{Row}
use Rattle.command.specs.declared.table.Kind.{Kind}
use Rattle.command.specs.declared.table.Kind.TheVariants as kinds
use Rattle.command.specs.declared.table.DataLength.TheVariants.{Exactly, Any}
use Rattle.command.specs.declared.table.Allowed.TheVariants.{Home, Open, Every}
use Rattle.command.specs.Headers.{two}
use Rattle.command.specs.Tables.{row, row_of, kind_of, ends}
use Rattle.command.specs.Commands.{page_in, copies_in, order_in, read_as, read_by, decoded}
use Rattle.command.proofs.Decoded.{err_ok, decoded_by_law}

page_other : (d : List ℕ) → page_in d ≡ Ok EndPage → ⊥
page_other [] e = err_ok EndPage DataLength e
page_other (a ∷ []) e = err_ok EndPage DataLength e
page_other (a ∷ b ∷ []) e = err_ok EndPage DataLength e
page_other (a ∷ b ∷ c ∷ []) e = err_ok EndPage DataLength e
page_other (a ∷ b ∷ c ∷ f ∷ []) e = cc
page_other (a ∷ b ∷ c ∷ f ∷ g ∷ d) e = err_ok EndPage DataLength e

copies_other : (d : List ℕ) → copies_in d ≡ Ok EndPage → ⊥
copies_other [] e = err_ok EndPage DataLength e
copies_other (a ∷ []) e = err_ok EndPage DataLength e
copies_other (a ∷ n ∷ []) e = go (eqb a 2) e
  where
    go : (b : Bool) → cond b (Ok (LoadCopyControl n)) (Err NotAccepted) ≡ Ok EndPage → ⊥
    go true e = cc
    go false e = err_ok EndPage NotAccepted e
copies_other (a ∷ n ∷ f ∷ d) e = err_ok EndPage DataLength e

order_other : (d : List ℕ) → order_in d ≡ Ok EndPage → ⊥
order_other [] e = err_ok EndPage DataLength e
order_other (a ∷ []) e = err_ok EndPage DataLength e
order_other (a ∷ c ∷ []) e = go (eqb (two a c) 0xF200) e
  where
    go : (b : Bool) → cond b (Ok DiscardBufferedData) (Err NotAccepted) ≡ Ok EndPage → ⊥
    go true e = cc
    go false e = err_ok EndPage NotAccepted e
order_other (a ∷ c ∷ f ∷ d) e = err_ok EndPage DataLength e

reads_end : (k : Kind) (d : List ℕ) → read_as k d ≡ Ok EndPage → k ≡ kinds.EndPage
reads_end kinds.BeginPage d e = absurd (page_other d e)
reads_end kinds.EndPage d e = refl
reads_end kinds.LoadCopyControl d e = absurd (copies_other d e)
reads_end kinds.NoOperation d e = absurd cc
reads_end kinds.SetHomeState d e = absurd cc
reads_end kinds.ExecuteOrderAnyState d e = absurd (order_other d e)

-- the end of a page is in the table at this code alone
pub ends_at : (c : ℕ) → ends (kind_of c) ≡ eqb 0xD6BF c
unfolding row_of
ends_at c = go (eqb 0xD6BF c) refl
  where
    other : (p q o h x : Bool) → ends (option_map (λ (r : Row). r.kind) (cond p (Some (row 0xD6AF kinds.BeginPage (Exactly 4) Home)) (cond q (Some (row 0xD69F kinds.LoadCopyControl (Exactly 2) Home)) (cond o (Some (row 0xD603 kinds.NoOperation Any Every)) (cond h (Some (row 0xD697 kinds.SetHomeState Any Every)) (cond x (Some (row 0xD633 kinds.ExecuteOrderAnyState (Exactly 2) Every)) None)))))) ≡ false
    other true q o h x = refl
    other false true o h x = refl
    other false false true h x = refl
    other false false false true x = refl
    other false false false false true = refl
    other false false false false false = refl

    go : (b : Bool) → eqb 0xD6BF c ≡ b → ends (kind_of c) ≡ b
    go true e = subst (λ n. ends (kind_of n) ≡ true) (eqb-true 0xD6BF c e) refl
    go false e = subst (λ n. ends (option_map (λ (r : Row). r.kind) (cond (eqb 0xD6AF c) (Some (row 0xD6AF kinds.BeginPage (Exactly 4) Home)) (cond (eqb 0xD69F c) (Some (row 0xD69F kinds.LoadCopyControl (Exactly 2) Home)) (cond n (Some (row 0xD6BF kinds.EndPage Any Open)) (cond (eqb 0xD603 c) (Some (row 0xD603 kinds.NoOperation Any Every)) (cond (eqb 0xD697 c) (Some (row 0xD697 kinds.SetHomeState Any Every)) (cond (eqb 0xD633 c) (Some (row 0xD633 kinds.ExecuteOrderAnyState (Exactly 2) Every)) None))))))) ≡ false) (sym e) (other (eqb 0xD6AF c) (eqb 0xD69F c) (eqb 0xD603 c) (eqb 0xD697 c) (eqb 0xD633 c))

pub decoded_end : (s : State) (h : Header) (d : List ℕ) → decoded s h d ≡ Ok EndPage → kind_of h.code ≡ Some kinds.EndPage
decoded_end s h d e = go (row_of h.code) (decoded_by_law (row_of h.code) s h d EndPage e)
  where
    go : (o : Option Row) → read_by o d ≡ Ok EndPage → option_map (λ (r : Row). r.kind) o ≡ Some kinds.EndPage
    go None r = err_ok EndPage UnknownCode r
    go (Some w) r = ap Some (reads_end w.kind d r)
