-- Where a ground is met on the way through a text, the text is refused there; where none is, it is accepted.
use Rattle.std.proofs.Common.{◌≡◌, ℕ, ◌+◌, ◌<◌, Bool, true, false, List, [], ◌∷◌, length, drop, Ok, Err, Result, sym, refl, ap, ◌∙◌, subst, arith, length-drop}
use Rattle.std.proofs.lemmas.Bool.{cond-true, cond-false}
use Rattle.refusal.specs.declared.Refusal.{Refusal}
use Rattle.text.specs.declared.control.Control.{Control}
use Rattle.text.specs.declared.fault.TextFault.{TextFault}
use Rattle.text.specs.Canvases.{Canvas, Out, out, and_then}
use Rattle.text.specs.Steps.{character}
use Rattle.text.specs.Runs.{fault, located}
use Rattle.text.specs.Controls.{control_of}
use Rattle.text.specs.Effects.{obeyed}
use Rattle.text.specs.Texts.{begins, controlled, text_from, text_of}
use Rattle.text.specs.Grounds as grounds
use Rattle.text.specs.Grounds.{Ground, Unobeyed, misheaded, unperformed, no_successor}
use Rattle.text.specs.Judging as judging
use Rattle.text.specs.Judging.{Reach, here, Refuses, Judged, Met, GroundsDecide}
use Rattle.text.proofs.Bounds.{unbounded}
use Rattle.text.proofs.Failing.{Bad, Fails, fails_character}
use Rattle.text.proofs.Failed.{fails_control, fails_effect, fails_obeyed, fails_chained}
use Rattle.text.proofs.Judging.{judged_text}

-- at a character and at a control, with no bound on the steps
at_character : (c : Bool) (at b : ℕ) (bs : List ℕ) (s : Canvas) → begins c b ≡ false → text_from c at (b ∷ bs) s ≡ and_then (located at (character b s)) (text_from false (at + 1) bs)
at_character c at b bs s n = unbounded.next c at b bs s ∙ cond-false (begins c b) _ _ n

at_control : (c : Bool) (at b : ℕ) (bs : List ℕ) (s : Canvas) → begins c b ≡ true → text_from c at (b ∷ bs) s ≡ controlled text_from at (b ∷ bs) (control_of c (b ∷ bs)) s
at_control c at b bs s n = unbounded.next c at b bs s ∙ cond-true (begins c b) _ _ n

-- what is left at a later place is what was left at the earlier one
reach_same : {c' : Bool} {at' : ℕ} {bs' : List ℕ} {s' : Canvas} (c : Bool) (at : ℕ) (bs : List ℕ) (s : Canvas) → Reach c' at' bs' s' c at bs s → text_from c at bs s ≡ text_from c' at' bs' s'
unfolding controlled
reach_same c at bs s here = refl
reach_same c at (b ∷ bs) s (judging.placed {t = t} n e more) =
    at_character c at b bs s n ∙ ap (λ (o : Out Refusal). and_then (located at o) (text_from false (at + 1) bs)) e ∙ reach_same false (at + 1) bs t more
reach_same c at (b ∷ bs) s (judging.controlled {t = t} h n e did more) =
    at_control c at b bs s n ∙ ap (λ r. controlled text_from at (b ∷ bs) r s) e
    ∙ ap (λ (o : Out Refusal). and_then (located at o) (text_from h.chained (at + h.end) (drop h.end (b ∷ bs)))) did ∙ reach_same h.chained (at + h.end) (drop h.end (b ∷ bs)) t more

-- refused at an offset
abbrev RefusedAt : ℕ → Out TextFault → Type 0
RefusedAt at o = (r : Refusal) × (o.result ≡ Err (fault r at))

refused_then : (at : ℕ) (o : Out Refusal) (more : Canvas → Out TextFault) → Fails o → RefusedAt at (and_then (located at o) more)
refused_then at o more b = (b.0, ap (λ r. (and_then (located at (out o.left r)) more).result) b.1)

refused_since : (at : ℕ) (o o' : Out TextFault) → o ≡ o' → RefusedAt at o' → RefusedAt at o
refused_since at o o' e b = subst (RefusedAt at) (sym e) b

refused_control : (at : ℕ) (bs : List ℕ) (s : Canvas) (r : Result Control Refusal) → Bad r → RefusedAt at (controlled text_from at bs r s)
unfolding controlled
refused_control at bs s r b = (b.0, ap (λ x. (controlled text_from at bs x s).result) b.1)

refused_obeyed : (at : ℕ) (bs : List ℕ) (s : Canvas) (r : Result Control Refusal) (h : Control) → r ≡ Ok h → Fails (obeyed h bs s) → RefusedAt at (controlled text_from at bs r s)
unfolding controlled
refused_obeyed at bs s r h e b =
    refused_since at (controlled text_from at bs r s) (and_then (located at (obeyed h bs s)) (text_from h.chained (at + h.end) (drop h.end bs))) (ap (λ x. controlled text_from at bs x s) e)
    (refused_then at (obeyed h bs s) (text_from h.chained (at + h.end) (drop h.end bs)) b)

unobeyed : (c : Bool) (at : ℕ) (bs : List ℕ) (s : Canvas) (r : Refusal) → Unobeyed c bs s r → RefusedAt at (controlled text_from at bs (control_of c bs) s)
unobeyed c at bs s r (misheaded m) = refused_control at bs s (control_of c bs) (fails_control c bs r m)
unobeyed c at bs s r (unperformed {h = h} e u) = refused_obeyed at bs s (control_of c bs) h e (fails_obeyed h bs s (fails_effect h.kind _ s r u))
unobeyed c at bs s r (no_successor {h} {t} e did chain end) = refused_obeyed at bs s (control_of c bs) h e (fails_chained h bs s t did chain end)

ground_refuses : (c : Bool) (at : ℕ) (bs : List ℕ) (s : Canvas) (r : Refusal) → 0 < length bs → Ground c bs s r → RefusedAt at (text_from c at bs s)
ground_refuses c at [] s r z g = absurd (omega arith)
ground_refuses c at (b ∷ bs) s r z (grounds.character n u) =
    refused_since at (text_from c at (b ∷ bs) s) (and_then (located at (character b s)) (text_from false (at + 1) bs)) (at_character c at b bs s n) (refused_then at (character b s) (text_from false (at + 1) bs) (fails_character b s r u))
ground_refuses c at (b ∷ bs) s r z (grounds.control n u) =
    refused_since at (text_from c at (b ∷ bs) s) (controlled text_from at (b ∷ bs) (control_of c (b ∷ bs)) s) (at_control c at b bs s n) (unobeyed c at (b ∷ bs) s r u)

met_refuses : (bs : List ℕ) (s : Canvas) (at : ℕ) → Met bs s at → RefusedAt at (text_of bs s)
met_refuses bs s at m =
    refused_since at (text_of bs s) (text_from m.chained at m.rest m.reached) (unbounded.whole bs s ∙ reach_same false 0 bs s m.through) (ground_refuses m.chained at m.rest m.reached m.refusal m.some m.ground)

accepted : (bs : List ℕ) (s : Canvas) (o : Out TextFault) → Judged false 0 bs s o → ((at : ℕ) → Met bs s at → ⊥) → o.result ≡ Ok tt
accepted bs s o j free = go o.result o.left j
  where
    go : (r : Result (Unit {0}) TextFault) (l : Canvas) → Judged false 0 bs s (out l r) → r ≡ Ok tt
    go (Ok x) l j = refl
    go (Err f) l j = absurd (free f.offset (record { chained = j.chained; rest = drop j.away bs; reached = j.reached; refusal = f.refusal; through = j.through; some = omega (arith, j.inside, length-drop j.away bs); ground = j.ground }))

pub grounds_decide : GroundsDecide
grounds_decide = record { refused = met_refuses; accepted = λ bs s free. accepted bs s (text_of bs s) (judged_text bs s) free }
