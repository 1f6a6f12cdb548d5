-- The header of a control: it lies within the bytes that it is read from.
use Rattle.std.proofs.Common.{◌≡◌, ℕ, ◌+◌, ◌-◌, ◌≤◌, Bool, true, false, ◌||◌, eqb, ltb, List, [], ◌∷◌, length, IfOk, Some, None, Ok, Err, Option, Result, ap, ◌∙◌, subst, arith}
use Rattle.std.proofs.lemmas.Bool.{cond_both, or_parts, ltb-false}
use Rattle.refusal.specs.declared.Refusal.{Refusal}
use Rattle.text.specs.declared.control.Kind.{Kind}
use Rattle.text.specs.declared.control.Control.{Control}
use Rattle.text.specs.Runs.{located_in}
use Rattle.text.specs.Controls.{kind_of, sized, named, headed, introduced, control_of, Whole}

abbrev Good : ℕ → Result Control Refusal → Type 0
Good n r = IfOk r (Whole n)

named_good : (before n size type : ℕ) (o : Option Kind) → 2 ≤ size → size ≤ n → Good (before + n) (named before o size type)
named_good before n size type None h l = tt
named_good before n size type (Some k) h l =
    cond_both (sized k size) _ _ (Good (before + n))
    (λ e. record { some = omega arith; starts = omega arith; ends = omega arith; sizes = (let i : before + size - (before + 2) + 2 ≡ size = omega arith in ap (sized k) i ∙ e) })
    (λ _. tt)

headed_good : (before : ℕ) (bs : List ℕ) → Good (before + length bs) (headed before bs)
headed_good before [] = tt
headed_good before (size ∷ []) = tt
headed_good before (size ∷ type ∷ bs) =
    cond_both (ltb size 2 || ltb (length (size ∷ type ∷ bs)) size) _ _ (Good (before + length (size ∷ type ∷ bs))) (λ _. tt)
    (λ e.
    let p = or_parts _ _ e in
    named_good before (length (size ∷ type ∷ bs)) size type (kind_of type) (ltb-false _ _ p.0) (ltb-false _ _ p.1))

introduced_good : (bs : List ℕ) → Good (length bs) (introduced bs)
introduced_good [] = tt
introduced_good (a ∷ []) = tt
introduced_good (a ∷ b ∷ bs) =
    let e : 2 + length bs ≡ length (a ∷ b ∷ bs) = omega arith in
    cond_both (eqb b 0xD3) _ _ (Good (length (a ∷ b ∷ bs))) (λ _. subst (λ n. Good n (headed 2 bs)) e (headed_good 2 bs)) (λ _. tt)

pub control_good : (chained : Bool) (bs : List ℕ) → Good (length bs) (control_of chained bs)
control_good true bs = let e : 0 + length bs ≡ length bs = omega arith in subst (λ n. Good n (headed 0 bs)) e (headed_good 0 bs)
control_good false bs = introduced_good bs

pub located_good : (at n : ℕ) (r : Result Control Refusal) → IfOk r (Whole n) → IfOk (located_in at r) (Whole n)
located_good at n (Ok h) w = w
located_good at n (Err f) w = tt
