-- Every piece of text only adds marks.
use Rattle.std.proofs.Common.{◌≡◌, ℕ, zero, suc, ◌+◌, ◌-◌, ◌<◌, Bool, false, ◌&&◌, ◌||◌, eqb, ltb, List, [], ◌∷◌, length, get_or, take, drop, set, pos, ◌+ℤ◌, Some, None, Ok, Err, Option, Result, sym, refl, ap, ◌∙◌, subst, arith}
use Rattle.std.proofs.lemmas.List.{length-set, take-set-le, take-take, drop-set-lt, drop-drop}
use Rattle.std.proofs.lemmas.Bool.{cond_both, ltb-true}
use Rattle.refusal.specs.declared.Refusal.{Refusal}
use Rattle.refusal.specs.declared.Refusal.TheVariants.{BadControl}
use Rattle.text.specs.declared.mark.Mark.{Mark}
use Rattle.text.specs.declared.conditions.TextConditions.{TextConditions}
use Rattle.text.specs.declared.control.Kind.{Kind}
use Rattle.text.specs.declared.control.Kind.TheVariants.{Absolute, Relative, SetFont, Transparent, Repeat, Rule}
use Rattle.text.specs.declared.control.Control.{Control}
use Rattle.text.specs.declared.fault.TextFault.{TextFault}
use Rattle.text.specs.declared.step.Step.{Step}
use Rattle.text.specs.Axes.{usual_width, position}
use Rattle.text.specs.Canvases.{Canvas, canvas, Out, done, refused, and_then, Grows}
use Rattle.text.specs.Steps.{lettered, put, taken, character}
use Rattle.text.specs.Runs.{located, characters}
use Rattle.text.specs.Cycles.{cycled}
use Rattle.text.specs.Controls.{control_of, parameters}
use Rattle.text.specs.Effects.{two, word, width, repeated, effect, succeeded, obeyed}
use Rattle.text.specs.Moves.{moved, fonted}
use Rattle.text.specs.Rules.{rule}
use Rattle.text.proofs.Outs.{by_end}
use Rattle.text.specs.Texts.{Further, begins, controlled, walk, text_of}

pub stays : (s : Canvas) → Grows s s
stays s = record { long = refl; up = omega arith; room = λ h. h; kept = refl; beyond = refl }

pub along : (r s t : Canvas) → Grows r s → Grows s t → Grows r t
along r s t p q =
    let e : s.count + (t.count - s.count) ≡ t.count = omega (arith, q.up) in
    record {
      long = q.long ∙ p.long;
      up = omega (arith, p.up, q.up);
      room = λ h. q.room (p.room h);
      kept = sym (take-take r.count s.count t.marks p.up) ∙ ap (take r.count) q.kept ∙ take-take r.count s.count s.marks p.up ∙ p.kept;
      beyond =
          q.beyond ∙ ap (λ n. drop n s.marks) (sym e) ∙ sym (drop-drop (t.count - s.count) s.count s.marks) ∙ ap (drop (t.count - s.count)) p.beyond
          ∙ drop-drop (t.count - s.count) s.count r.marks ∙ ap (λ n. drop n r.marks) e;
    }

moves : (s : Canvas) (t : TextConditions) → Grows s (canvas s.marks s.count t)
moves s t = record { long = refl; up = omega arith; room = λ h. h; kept = refl; beyond = refl }

adds : (s : Canvas) (m : Mark) (t : TextConditions) → s.count < length s.marks → Grows s (canvas (set s.marks s.count m) (s.count + 1) t)
adds s m t l = record {
  long = length-set _ _ _;
  up = omega arith;
  room = λ h. simp length-set (omega arith);
  kept = take-set-le s.count s.marks s.count m (omega arith);
  beyond = drop-set-lt (s.count + 1) s.marks s.count m (omega arith);
}

grows_put : (m : Option Mark) (t : TextConditions) (s : Canvas) → Grows s (put m t s).left
grows_put None t s = moves s t
grows_put (Some m) t s = cond_both (ltb s.count (length s.marks)) _ _ (λ (o : Out Refusal). Grows s o.left) (λ e. adds s m t (ltb-true _ _ e)) (λ _. stays s)

pub grows_taken : (p : Result Step Refusal) (s : Canvas) → Grows s (taken p s).left
grows_taken (Ok p) s = grows_put p.mark p.next s
grows_taken (Err r) s = stays s

grows_then : {F : Type 0} (s : Canvas) (o : Out F) (more : Canvas → Out F) → Grows s o.left → ((r : Canvas) → Grows r (more r).left) → Grows s (and_then o more).left
grows_then {F} s o more h g = by_end o more (λ x. Grows s x.left) (λ t e. along s t (more t).left (subst (λ (x : Out F). Grows s x.left) e h) (g t)) (λ f e. h)

grows_characters : (cs : List ℕ) (s : Canvas) → Grows s (characters cs s).left
unfolding characters
grows_characters [] s = stays s
grows_characters (c ∷ cs) s = grows_then s (character c s) (characters cs) (grows_taken (lettered c s.conditions) s) (grows_characters cs)

grows_repeated : (n : ℕ) (p : List ℕ) (s : Canvas) → Grows s (repeated n p s).left
grows_repeated n p s =
    cond_both (ltb 32767 n || (eqb (length p) 0 && ltb 0 n)) (refused BadControl s) (characters (cycled n p) s) (λ (o : Out Refusal). Grows s o.left) (λ _. stays s) (λ _. grows_characters (cycled n p) s)

grows_effect : (k : Kind) (ps : List ℕ) (s : Canvas) → Grows s (effect k ps s).left
grows_effect (Absolute axis) ps s = grows_taken (moved axis (word ps 0) s.conditions) s
grows_effect (Relative axis) ps s = grows_taken (moved axis (pos (position axis s.conditions) +ℤ word ps 0) s.conditions) s
grows_effect SetFont ps s = grows_taken (fonted (get_or ps 0 0) s.conditions) s
grows_effect Transparent ps s = grows_characters ps s
grows_effect Repeat ps s = grows_repeated (two ps 0) (drop 2 ps) s
grows_effect (Rule axis) ps s = grows_taken (rule axis (word ps 0) (width (usual_width axis) ps) s.conditions) s

pub grows_obeyed : (h : Control) (bs : List ℕ) (s : Canvas) → Grows s (obeyed h bs s).left
unfolding obeyed
grows_obeyed h bs s =
    grows_then s (effect h.kind (parameters h bs) s) (succeeded h bs) (grows_effect h.kind (parameters h bs) s)
    (λ r. cond_both (h.chained && eqb (length bs) h.end) (refused BadControl r) (done r) (λ (o : Out Refusal). Grows r o.left) (λ _. stays r) (λ _. stays r))

grows_controlled : (further : Further) → ((c : Bool) (at : ℕ) (bs : List ℕ) (s : Canvas) → Grows s (further c at bs s).left) → (at : ℕ) (bs : List ℕ) (r : Result Control Refusal) (s : Canvas) → Grows s (controlled further at bs r s).left
unfolding controlled
grows_controlled further g at bs (Err r) s = stays s
grows_controlled further g at bs (Ok h) s = grows_then s (located at (obeyed h bs s)) (further h.chained (at + h.end) (drop h.end bs)) (grows_obeyed h bs s) (g h.chained (at + h.end) (drop h.end bs))

grows_walk : (n : ℕ) (c : Bool) (at : ℕ) (bs : List ℕ) (s : Canvas) → Grows s (walk n c at bs s).left
unfolding walk
grows_walk n c at [] s = stays s
grows_walk zero c at (b ∷ bs) s = stays s
grows_walk (suc n) c at (b ∷ bs) s =
    cond_both (begins c b) _ _ (λ (o : Out TextFault). Grows s o.left) (λ _. grows_controlled (walk n) (grows_walk n) at (b ∷ bs) (control_of c (b ∷ bs)) s)
    (λ _. grows_then s (located at (character b s)) (walk n false (at + 1) bs) (grows_taken (lettered b s.conditions) s) (grows_walk n false (at + 1) bs))

pub grows_text : (bs : List ℕ) (s : Canvas) → Grows s (text_of bs s).left
unfolding text_of
grows_text bs s = grows_walk _ _ _ bs s
