-- What one turn of the loop over a text keeps.
use Rattle.std.proofs.Common.{◌≡◌, ℕ, zero, suc, ◌+◌, ◌<◌, ◌≤◌, Bool, true, List, [], ◌∷◌, length, get_or, drop, Ok, Err, Result, sym, ap, ◌∙◌, arith, length-drop}
use Rattle.std.proofs.lemmas.Bool.{cond-true}
use Rattle.refusal.specs.declared.Refusal.{Refusal}
use Rattle.text.specs.declared.control.Control.{Control}
use Rattle.text.specs.declared.fault.TextFault.{TextFault}
use Rattle.text.specs.Canvases.{Canvas, Out, out, done, and_then}
use Rattle.text.specs.Runs.{fault, located_in, located}
use Rattle.text.specs.Controls.{control_of}
use Rattle.text.specs.Effects.{obeyed}
use Rattle.text.specs.Texts.{begins, control_at, controlled, walk}

-- what is left, from the canvas s on, gives end
pub record Sofar (chained : Bool) (at : ℕ) (rest : List ℕ) (s : Canvas) (end : Out TextFault) : Type 0 where
  pub fuel : ℕ
  pub enough : length rest ≤ fuel
  pub same : walk fuel chained at rest s ≡ end

pub ended : {chained : Bool} {at : ℕ} (rest : List ℕ) {s : Canvas} {end : Out TextFault} → Sofar chained at rest s end → length rest ≤ 0 → done s ≡ end
unfolding walk
ended [] h z = h.same
ended (b ∷ bs) h z = absurd (omega arith)

-- at a control
pub record Turn (chained : Bool) (at : ℕ) (rest : List ℕ) (s : Canvas) (end : Out TextFault) : Type 0 where
  pub fuel : ℕ
  pub enough : length rest ≤ suc fuel
  pub same : controlled (walk fuel) at rest (control_of chained rest) s ≡ end

turn_at : {chained : Bool} {at : ℕ} (rest : List ℕ) {s : Canvas} {end : Out TextFault} (n : ℕ) → length rest ≤ n → walk n chained at rest s ≡ end → 0 < length rest → begins chained (get_or rest 0 0) ≡ true → Turn chained at rest s end
unfolding walk
turn_at [] n h e z b = absurd (omega arith)
turn_at (b ∷ bs) zero h e z t = absurd (omega arith)
turn_at (b ∷ bs) (suc n) h e z t = record { fuel = n; enough = h; same = sym (cond-true _ _ _ t) ∙ e }

turn : {chained : Bool} {at : ℕ} (rest : List ℕ) {s : Canvas} {end : Out TextFault} → Sofar chained at rest s end → 0 < length rest → begins chained (get_or rest 0 0) ≡ true → Turn chained at rest s end
turn rest h z b = turn_at rest h.fuel h.enough h.same z b

headless : (at : ℕ) (rest : List ℕ) (s : Canvas) (n : ℕ) (r : Result Control Refusal) (f : TextFault) → located_in at r ≡ Err f → out s (Err f) ≡ controlled (walk n) at rest r s
unfolding controlled
headless at rest s n (Ok h) f e = cc
headless at rest s n (Err r) f e = ap (out s) (let e' : Err f ≡ Err (fault r at) = sym e in ap (λ (x : TextFault). Err x) (let i : f ≡ fault r at = cc in i))

pub no_header : {chained : Bool} {at : ℕ} (rest : List ℕ) {s : Canvas} {end : Out TextFault} (f : TextFault) → Sofar chained at rest s end → 0 < length rest → begins chained (get_or rest 0 0) ≡ true → control_at at chained rest ≡ Err f → out s (Err f) ≡ end
no_header {chained} {at} rest {s} f h z b e = let t = turn rest h z b in headless at rest s t.fuel (control_of chained rest) f e ∙ t.same

headed : (at : ℕ) (rest : List ℕ) (s : Canvas) (n : ℕ) (r : Result Control Refusal) (h : Control) → located_in at r ≡ Ok h → and_then (located at (obeyed h rest s)) (walk n h.chained (at + h.end) (drop h.end rest)) ≡ controlled (walk n) at rest r s
unfolding controlled
headed at rest s n (Ok x) h e = let i : h ≡ x = cc in ap (λ (y : Control). and_then (located at (obeyed y rest s)) (walk n y.chained (at + y.end) (drop y.end rest))) i
headed at rest s n (Err r) h e = cc

-- a control that was obeyed, or not
module _ {chained : Bool} {at : ℕ} (rest : List ℕ) {s : Canvas} {end : Out TextFault} (h : Control) (s' : Canvas) (r : Result (Unit {0}) TextFault) (sofar : Sofar chained at rest s end) (z : 0 < length rest) (b : begins chained (get_or rest 0 0) ≡ true) (e : control_at at chained rest ≡ Ok h) (did : out s' r ≡ located at (obeyed h rest s)) where
  t : Turn chained at rest s end
  t = turn rest sofar z b

  so : and_then (out s' r) (walk t.fuel h.chained (at + h.end) (drop h.end rest)) ≡ end
  so = ap (λ o. and_then o (walk t.fuel h.chained (at + h.end) (drop h.end rest))) did ∙ headed at rest s t.fuel (control_of chained rest) h e ∙ t.same

  pub obeyed_on : r ≡ Ok tt → 0 < h.end → (after : List ℕ) → after ≡ drop h.end rest → Sofar h.chained (at + h.end) after s' end
  obeyed_on was some after is = record {
    fuel = t.fuel;
    enough = omega (arith, ap length is, length-drop h.end rest, t.enough);
    same =
        ap (λ l. walk t.fuel h.chained (at + h.end) l s') is
        ∙ ap (λ q. and_then (out s' q) (walk t.fuel h.chained (at + h.end) (drop h.end rest))) (sym was) ∙ so;
  }

  pub obeyed_off : (f : TextFault) → r ≡ Err f → out s' (Err f) ≡ end
  obeyed_off f was = ap (λ q. and_then (out s' q) (walk t.fuel h.chained (at + h.end) (drop h.end rest))) (sym was) ∙ so
