-- The laws of texts, for callers.
use Rattle.std.proofs.Common.{◌≡◌, ℕ, ◌<◌, false, List, length, Err, Result, sym, subst}
use Rattle.text.specs.declared.fault.TextFault.{TextFault}
use Rattle.text.specs.Canvases.{Canvas, Out, out, Grows}
use Rattle.text.specs.Texts.{text_of}
use Rattle.text.specs.Laws.{Inside, Unbounded, Repeats}
use Rattle.text.specs.Judging.{Judged, GroundsDecide}
use Rattle.text.proofs.Bounds as bounds
use Rattle.text.proofs.Cycles.{length_cycled, get_d_cycled}
use Rattle.text.proofs.Growing as growing
use Rattle.text.proofs.Judging as judging
use Rattle.text.proofs.Meeting as meeting

-- a text only adds marks
pub text_grows : (bs : List ℕ) (s : Canvas) → Grows s (text_of bs s).left
text_grows bs s = growing.grows_text bs s

-- the same for what a call leaves
pub left_grows : (bs : List ℕ) (s s' : Canvas) (r : Result (Unit {0}) TextFault) → out s' r ≡ text_of bs s → Grows s s'
left_grows bs s s' r e = subst (λ (o : Out TextFault). Grows s o.left) (sym e) (text_grows bs s)

pub text_unbounded : Unbounded
text_unbounded = bounds.unbounded

pub text_repeats : Repeats
text_repeats = record { many = λ n p h. length_cycled n p (λ _. h); each = get_d_cycled }

-- a fault's offset lies inside the text
pub text_inside : (bs : List ℕ) (s : Canvas) → Inside (length bs) (text_of bs s).result
text_inside bs s = bounds.inside_text bs s

pub text_inside_at : (bs : List ℕ) (s : Canvas) (f : TextFault) → (text_of bs s).result ≡ Err f → f.offset < length bs
text_inside_at bs s f e = subst (Inside (length bs)) e (text_inside bs s)

pub left_inside : (bs : List ℕ) (s s' : Canvas) (r : Result (Unit {0}) TextFault) → out s' r ≡ text_of bs s → Inside (length bs) r
left_inside bs s s' r e = subst (λ (o : Out TextFault). Inside (length bs) o.result) (sym e) (text_inside bs s)

-- a text is read to its end, or up to a ground
pub text_judged : (bs : List ℕ) (s : Canvas) → Judged false 0 bs s (text_of bs s)
text_judged bs s = judging.judged_text bs s

pub left_judged : (bs : List ℕ) (s s' : Canvas) (r : Result (Unit {0}) TextFault) → out s' r ≡ text_of bs s → Judged false 0 bs s (out s' r)
left_judged bs s s' r e = subst (Judged false 0 bs s) (sym e) (text_judged bs s)

-- a text is refused where a ground is met, and accepted where none is
pub text_grounds : GroundsDecide
text_grounds = meeting.grounds_decide
