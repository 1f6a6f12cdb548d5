-- Every text is judged: read to its end, or up to a ground.
use Rattle.std.proofs.Common.{◌≡◌, ℕ, zero, suc, ◌+◌, ◌<◌, ◌≤◌, Bool, true, false, ◌&&◌, eqb, List, [], ◌∷◌, length, get_or, drop, IfOk, Ok, Err, Result, sym, refl, ap, ◌∙◌, subst, inl, inr, arith, length-drop}
use Rattle.std.proofs.lemmas.List.{drop-drop}
use Rattle.std.proofs.lemmas.Bool.{cond_both, cond-true, cases_Bool, and_from, eq-eqb}
use Rattle.refusal.specs.declared.Refusal.{Refusal}
use Rattle.refusal.specs.declared.Refusal.TheVariants.{BadControl}
use Rattle.text.specs.declared.control.Control.{Control}
use Rattle.text.specs.declared.fault.TextFault.{TextFault}
use Rattle.text.specs.Canvases.{Canvas, Out, out, done, refused, and_then, Grows}
use Rattle.text.specs.Steps.{lettered, character}
use Rattle.text.specs.Runs.{fault, located}
use Rattle.text.specs.Controls.{control_of, parameters, Whole}
use Rattle.text.specs.Effects.{effect, succeeded, obeyed}
use Rattle.text.specs.Texts.{begins, controlled, walk, text_of}
use Rattle.text.specs.Grounds as grounds
use Rattle.text.specs.Grounds.{Unplaced, Misheaded, Unobeyed, misheaded, Ground}
use Rattle.text.specs.Judging as judging
use Rattle.text.specs.Judging.{Reach, here, Refuses, Judged}
use Rattle.text.proofs.Why.{Why, weaker}
use Rattle.text.proofs.Grounded.{why_character}
use Rattle.text.proofs.Refusing.{why_control, why_obeyed}
use Rattle.text.proofs.Headers.{control_good}
use Rattle.text.proofs.Growing.{stays, grows_taken, grows_obeyed}

-- refused right here
refused_here : (c : Bool) (at : ℕ) (bs : List ℕ) (s left : Canvas) (r : Refusal) → 0 < length bs → Ground c bs s r → Grows s left → Refuses c at bs s (fault r at) left
refused_here c at bs s left r z g grow = record { away = 0; offset = omega arith; inside = z; chained = c; reached = s; through = here; ground = g; stands = grow }

judged_at : (c : Bool) (at : ℕ) (bs : List ℕ) (s l : Canvas) (r : Result (Unit {0}) Refusal) (more : Canvas → Out TextFault) → 0 < length bs → Why r (Ground c bs s) → Grows s l → ((t : Canvas) → out l r ≡ done t → Judged c at bs s (more t)) → Judged c at bs s (and_then (located at (out l r)) more)
judged_at c at bs s l (Ok x) more z w grow g = g l refl
judged_at c at bs s l (Err r) more z w grow g = refused_here c at bs s l r z w grow

-- one piece of work at the front, and then the rest
judged_then : (c : Bool) (at : ℕ) (bs : List ℕ) (s : Canvas) (o : Out Refusal) (more : Canvas → Out TextFault) → 0 < length bs → Why o.result (Ground c bs s) → Grows s o.left → ((t : Canvas) → o ≡ done t → Judged c at bs s (more t)) → Judged c at bs s (and_then (located at o) more)
judged_then c at bs s o more z w grow g = judged_at c at bs s o.left o.result more z w grow g

-- further from a character
past_character : (c : Bool) (at b : ℕ) (bs : List ℕ) (s t l : Canvas) (r : Result (Unit {0}) TextFault) → begins c b ≡ false → character b s ≡ done t → Judged false (at + 1) bs t (out l r) → Judged c at (b ∷ bs) s (out l r)
past_character c at b bs s t l (Ok x) n e j =
    let k : at + 1 + length bs ≡ at + length (b ∷ bs) = omega arith in
    judging.placed n e (subst (λ i. Reach false i [] l false (at + 1) bs t) k j)
past_character c at b bs s t l (Err f) n e j = record {
  away = suc j.away;
  offset = omega (arith, j.offset);
  inside = omega (arith, j.inside);
  chained = j.chained;
  reached = j.reached;
  through = judging.placed n e j.through;
  ground = j.ground;
  stands = j.stands;
}

-- further from a control
past_control : (c : Bool) (at b : ℕ) (bs : List ℕ) (s t l : Canvas) (h : Control) (r : Result (Unit {0}) TextFault) → Whole (length (b ∷ bs)) h → begins c b ≡ true → control_of c (b ∷ bs) ≡ Ok h → obeyed h (b ∷ bs) s ≡ done t → Judged h.chained (at + h.end) (drop h.end (b ∷ bs)) t (out l r) → Judged c at (b ∷ bs) s (out l r)
past_control c at b bs s t l h (Ok x) w n e did j =
    let k : at + h.end + length (drop h.end (b ∷ bs)) ≡ at + length (b ∷ bs) = omega (arith, length-drop h.end (b ∷ bs), w.ends) in
    judging.controlled h n e did (subst (λ i. Reach false i [] l h.chained (at + h.end) (drop h.end (b ∷ bs)) t) k j)
past_control c at b bs s t l h (Err f) w n e did j =
    let d : drop j.away (drop h.end (b ∷ bs)) ≡ drop (h.end + j.away) (b ∷ bs) = drop-drop j.away h.end (b ∷ bs) in
    record {
      away = h.end + j.away;
      offset = omega (arith, j.offset);
      inside = omega (arith, j.inside, length-drop h.end (b ∷ bs));
      chained = j.chained;
      reached = j.reached;
      through = judging.controlled h n e did (subst (λ q. Reach j.chained f.offset q j.reached h.chained (at + h.end) (drop h.end (b ∷ bs)) t) d j.through);
      ground = subst (λ q. Ground j.chained q j.reached f.refusal) d j.ground;
      stands = j.stands;
    }

-- a control that is done and ends the bytes is not chained
never_done : (s : Canvas) (r : Result (Unit {0}) Refusal) (more : Canvas → Out Refusal) (t : Canvas) → ((x : Canvas) → more x ≡ refused BadControl x) → and_then (out s r) more ≡ done t → ⊥
never_done s (Ok x) more t m e =
    let r : Err BadControl ≡ Ok tt = ap (λ (o : Out Refusal). o.result) (sym (m s) ∙ e) in cc
never_done s (Err f) more t m e = let r : Err f ≡ Ok tt = ap (λ (o : Out Refusal). o.result) e in cc

done_free : (h : Control) (bs : List ℕ) (s t : Canvas) → obeyed h bs s ≡ done t → length bs ≡ h.end → h.chained ≡ false
unfolding obeyed
done_free h bs s t e l =
    elim (cases_Bool h.chained) [
      | inl c ↦ absurd (never_done (effect h.kind (parameters h bs) s).left (effect h.kind (parameters h bs) s).result (succeeded h bs) t (λ x. cond-true (h.chained && eqb (length bs) h.end) (refused BadControl x) (done x) (and_from _ _ c (eq-eqb _ _ l))) e)
      | inr f ↦ f
    ]

-- at the end
ended : (c : Bool) (at : ℕ) (s : Canvas) → c ≡ false → Reach false (at + 0) [] s c at [] s
ended c at s e =
    let k : at ≡ at + 0 = omega arith in
    subst (λ x. Reach false (at + 0) [] s x at [] s) (sym e) (subst (λ i. Reach false i [] s false at [] s) k here)

grounded : (c : Bool) (bs : List ℕ) (s : Canvas) (r : Result (Unit {0}) Refusal) → begins c (get_or bs 0 0) ≡ true → Why r (Unobeyed c bs s) → Why r (Ground c bs s)
grounded c bs s r b w = weaker r (Unobeyed c bs s) (Ground c bs s) (λ f u. grounds.control b u) w

-- a control at the front, where what is done further on is judged
judged_controlled : (n : ℕ) → ((c : Bool) (at : ℕ) (bs : List ℕ) (s : Canvas) → length bs ≤ n → (length bs ≡ 0 → c ≡ false) → Judged c at bs s (walk n c at bs s)) → (c : Bool) (at b : ℕ) (bs : List ℕ) (s : Canvas) (r : Result Control Refusal) → length bs ≤ n → begins c b ≡ true → control_of c (b ∷ bs) ≡ r → Why r (Misheaded c (b ∷ bs)) → IfOk r (Whole (length (b ∷ bs))) → Judged c at (b ∷ bs) s (controlled (walk n) at (b ∷ bs) r s)
unfolding controlled
judged_controlled n further c at b bs s (Err r) l t e w g = refused_here c at (b ∷ bs) s s r (omega arith) (grounds.control t (misheaded w)) (stays s)
judged_controlled n further c at b bs s (Ok h) l t e w g =
    judged_then c at (b ∷ bs) s (obeyed h (b ∷ bs) s) (walk n h.chained (at + h.end) (drop h.end (b ∷ bs))) (omega arith)
    (grounded c (b ∷ bs) s (obeyed h (b ∷ bs) s).result t (why_obeyed c (b ∷ bs) s h e)) (grows_obeyed h (b ∷ bs) s)
    (λ x did.
    let o = walk n h.chained (at + h.end) (drop h.end (b ∷ bs)) x in
    past_control c at b bs s x o.left h o.result g t e did
    (further h.chained (at + h.end) (drop h.end (b ∷ bs)) x (omega (arith, length-drop h.end (b ∷ bs), g.some))
    (λ z. done_free h (b ∷ bs) s x did (omega (arith, length-drop h.end (b ∷ bs), g.ends)))))

-- with steps enough, and bytes left where a control is chained
judged_walk : (n : ℕ) (c : Bool) (at : ℕ) (bs : List ℕ) (s : Canvas) → length bs ≤ n → (length bs ≡ 0 → c ≡ false) → Judged c at bs s (walk n c at bs s)
unfolding walk
judged_walk n c at [] s l f = ended c at s (f refl)
judged_walk zero c at (b ∷ bs) s l f = absurd (omega arith)
judged_walk (suc n) c at (b ∷ bs) s l f =
    cond_both (begins c b) (controlled (walk n) at (b ∷ bs) (control_of c (b ∷ bs)) s) (and_then (located at (character b s)) (walk n false (at + 1) bs)) (Judged c at (b ∷ bs) s)
    (λ t. judged_controlled n (judged_walk n) c at b bs s (control_of c (b ∷ bs)) (omega arith) t refl (why_control c (b ∷ bs)) (control_good c (b ∷ bs)))
    (λ t. judged_then c at (b ∷ bs) s (character b s) (walk n false (at + 1) bs) (omega arith)
    (weaker (character b s).result (Unplaced b s) (Ground c (b ∷ bs) s) (λ r u. grounds.character t u) (why_character b s)) (grows_taken (lettered b s.conditions) s)
    (λ x e. let o = walk n false (at + 1) bs x in past_character c at b bs s x o.left o.result t e (judged_walk n false (at + 1) bs x (omega arith) (λ _. refl))))

pub judged_text : (bs : List ℕ) (s : Canvas) → Judged false 0 bs s (text_of bs s)
unfolding text_of
judged_text bs s = judged_walk (length bs) false 0 bs s (omega arith) (λ _. refl)
