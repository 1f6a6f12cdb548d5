-- What a control does, by the ways that its code goes.
use Rattle.std.proofs.Common.{◌≡◌, ℕ, true, false, ◌&&◌, eqb, List, length, ℤ, Ok, Err, Result, sym, ap, ◌∙◌}
use Rattle.std.proofs.lemmas.Bool.{cond-true, cond-false}
use Rattle.refusal.specs.declared.Refusal.{Refusal}
use Rattle.refusal.specs.declared.Refusal.TheVariants.{BadControl}
use Rattle.text.specs.declared.control.Kind.{Kind}
use Rattle.text.specs.declared.control.Kind.TheVariants.{Rule}
use Rattle.text.specs.declared.control.Control.{Control}
use Rattle.text.specs.declared.step.Step.{Step}
use Rattle.text.specs.declared.axis.Axis.{Axis}
use Rattle.text.specs.Axes.{usual_width}
use Rattle.text.specs.Canvases.{Canvas, out, done, refused, and_then}
use Rattle.text.specs.Steps.{taken}
use Rattle.text.specs.Rules.{rule}
use Rattle.text.specs.Controls.{parameters}
use Rattle.text.specs.Effects.{word, width, effect, succeeded, obeyed}

-- a rule that is refused
pub refused_rule : (axis : Axis) (k : Kind) (ps : List ℕ) (n w : ℤ) (s : Canvas) (p : Result Step Refusal) (f : Refusal) → k ≡ Rule axis → n ≡ word ps 0 → w ≡ width (usual_width axis) ps → p ≡ rule axis n w s.conditions → p ≡ Err f → refused f s ≡ effect k ps s
refused_rule axis k ps n w s p f is long wide e was =
    ap (λ q. taken q s) (sym was ∙ e) ∙ (λ i. taken (rule axis (long i) (wide i) s.conditions) s) ∙ ap (λ x. effect x ps s) (sym is)

-- a control: its effect was refused, it is chained to the end, or it is done
module _ (h : Control) (bs : List ℕ) (s s' : Canvas) (r : Result (Unit {0}) Refusal) (did : out s' r ≡ effect h.kind (parameters h bs) s) where
  so : and_then (out s' r) (succeeded h bs) ≡ obeyed h bs s
  unfolding obeyed
  so = ap (λ o. and_then o (succeeded h bs)) did

  pub obey_off : (f : Refusal) → r ≡ Err f → out s' (Err f) ≡ obeyed h bs s
  obey_off f was = ap (λ q. and_then (out s' q) (succeeded h bs)) (sym was) ∙ so

  pub obey_on : r ≡ Ok tt → succeeded h bs s' ≡ obeyed h bs s
  obey_on was = ap (λ q. and_then (out s' q) (succeeded h bs)) (sym was) ∙ so

  pub obey_chained : r ≡ Ok tt → (h.chained && eqb (length bs) h.end) ≡ true → out s' (Err BadControl) ≡ obeyed h bs s
  obey_chained was e = sym (cond-true _ _ _ e) ∙ obey_on was

  pub obey_done : r ≡ Ok tt → (h.chained && eqb (length bs) h.end) ≡ false → done s' ≡ obeyed h bs s
  obey_done was e = sym (cond-false _ _ _ e) ∙ obey_on was
