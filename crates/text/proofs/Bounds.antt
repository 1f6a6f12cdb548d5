-- The bound on the steps of a walk is enough, and faults lie inside the text.
use Rattle.std.proofs.Common.{◌≡◌, ℕ, zero, suc, ◌+◌, ◌<◌, ◌≤◌, Bool, false, cond, List, [], ◌∷◌, length, drop, IfOk, Ok, Err, Result, refl, subst, arith, length-drop}
use Rattle.std.proofs.lemmas.Bool.{cond_both}
use Rattle.refusal.specs.declared.Refusal.{Refusal}
use Rattle.text.specs.declared.control.Control.{Control}
use Rattle.text.specs.declared.fault.TextFault.{TextFault}
use Rattle.text.specs.Canvases.{Canvas, Out, out, and_then}
use Rattle.text.specs.Steps.{character}
use Rattle.text.specs.Runs.{located}
use Rattle.text.specs.Controls.{control_of, Whole}
use Rattle.text.specs.Effects.{obeyed}
use Rattle.text.specs.Texts.{Further, begins, controlled, walk, text_from, text_of}
use Rattle.text.specs.Laws.{Inside, Unbounded}
use Rattle.text.proofs.Outs.{by_end}
use Rattle.text.proofs.Headers.{control_good}

then_same_at : {F : Type 0} (s : Canvas) (r : Result (Unit {0}) F) (f g : Canvas → Out F) → ((t : Canvas) → f t ≡ g t) → and_then (out s r) f ≡ and_then (out s r) g
then_same_at s (Ok x) f g e = e s
then_same_at s (Err x) f g e = refl

then_same : {F : Type 0} (o : Out F) (f g : Canvas → Out F) → ((t : Canvas) → f t ≡ g t) → and_then o f ≡ and_then o g
then_same o f g e = then_same_at o.left o.result f g e

same_controlled : (f g : Further) (at : ℕ) (bs : List ℕ) (r : Result Control Refusal) (s : Canvas) → IfOk r (Whole (length bs)) → ((h : Control) (t : Canvas) → 0 < h.end → f h.chained (at + h.end) (drop h.end bs) t ≡ g h.chained (at + h.end) (drop h.end bs) t) → controlled f at bs r s ≡ controlled g at bs r s
unfolding controlled
same_controlled f g at bs (Err r) s w e = refl
same_controlled f g at bs (Ok h) s w e = then_same (located at (obeyed h bs s)) _ _ (λ t. e h t w.some)

-- steps enough are as good as any others
walk_enough : (n m : ℕ) (c : Bool) (at : ℕ) (bs : List ℕ) (s : Canvas) → length bs ≤ n → length bs ≤ m → walk n c at bs s ≡ walk m c at bs s
unfolding walk
walk_enough n m c at [] s h k = refl
walk_enough zero m c at (b ∷ bs) s h k = absurd (omega arith)
walk_enough (suc n) zero c at (b ∷ bs) s h k = absurd (omega arith)
walk_enough (suc n) (suc m) c at (b ∷ bs) s h k =
    (λ i. cond (begins c b) (same_controlled (walk n) (walk m) at (b ∷ bs) (control_of c (b ∷ bs)) s (control_good c (b ∷ bs)) (λ x t z. walk_enough n m _ _ (drop x.end (b ∷ bs)) t (omega (arith, length-drop x.end (b ∷ bs))) (omega (arith, length-drop x.end (b ∷ bs)))) i)
    (then_same (located at (character b s)) (walk n false (at + 1) bs) (walk m false (at + 1) bs) (λ t. walk_enough n m false (at + 1) bs t (omega arith) (omega arith)) i))

pub unbounded : Unbounded
unfolding walk text_of
unbounded = record {
  whole = λ bs s. refl;
  end = λ c at s. refl;
  next = λ c at b bs s. λ i. cond (begins c b)
      (same_controlled (walk (length bs)) text_from at (b ∷ bs) (control_of c (b ∷ bs)) s (control_good c (b ∷ bs)) (λ x t z. walk_enough (length bs) _ _ _ (drop x.end (b ∷ bs)) t (omega (arith, length-drop x.end (b ∷ bs))) (omega arith)) i)
      (and_then (located at (character b s)) (walk (length bs) false (at + 1) bs));
}

-- faults
inside_then : (n at : ℕ) (o : Out Refusal) (more : Canvas → Out TextFault) → at < n → ((t : Canvas) → Inside n (more t).result) → Inside n (and_then (located at o) more).result
inside_then n at o more h g = by_end (located at o) more (λ x. Inside n x.result) (λ t e. g t) (λ f e. inside_located o.result)
  where
    inside_located : (r : Result (Unit {0}) Refusal) → Inside n (located at (out o.left r)).result
    inside_located (Ok x) = tt
    inside_located (Err r) = h

inside_controlled : (further : Further) (at : ℕ) (bs : List ℕ) (r : Result Control Refusal) (s : Canvas) → 0 < length bs → IfOk r (Whole (length bs)) → ((h : Control) (t : Canvas) → Whole (length bs) h → Inside (at + length bs) (further h.chained (at + h.end) (drop h.end bs) t).result) → Inside (at + length bs) (controlled further at bs r s).result
unfolding controlled
inside_controlled further at bs (Err r) s z w g = omega arith
inside_controlled further at bs (Ok h) s z w g = inside_then (at + length bs) at (obeyed h bs s) (further h.chained (at + h.end) (drop h.end bs)) (omega arith) (λ t. g h t w)

inside_walk : (n : ℕ) (c : Bool) (at : ℕ) (bs : List ℕ) (s : Canvas) → Inside (at + length bs) (walk n c at bs s).result
unfolding walk
inside_walk n c at [] s = tt
inside_walk zero c at (b ∷ bs) s = tt
inside_walk (suc n) c at (b ∷ bs) s =
    cond_both (begins c b) _ _ (λ (o : Out TextFault). Inside (at + length (b ∷ bs)) o.result)
    (λ _. inside_controlled (walk n) at (b ∷ bs) (control_of c (b ∷ bs)) s (omega arith) (control_good c (b ∷ bs)) (λ h t w.
    let e : at + h.end + length (drop h.end (b ∷ bs)) ≡ at + length (b ∷ bs) = omega (arith, length-drop h.end (b ∷ bs), w.ends) in
    subst (λ k. Inside k (walk n h.chained (at + h.end) (drop h.end (b ∷ bs)) t).result) e (inside_walk n h.chained (at + h.end) (drop h.end (b ∷ bs)) t)))
    (λ _. inside_then (at + length (b ∷ bs)) at (character b s) (walk n false (at + 1) bs) (omega arith) (λ t.
    let e : at + 1 + length bs ≡ at + length (b ∷ bs) = omega arith in
    subst (λ k. Inside k (walk n false (at + 1) bs t).result) e (inside_walk n false (at + 1) bs t)))

pub inside_text : (bs : List ℕ) (s : Canvas) → Inside (length bs) (text_of bs s).result
unfolding text_of
inside_text bs s = let e : 0 + length bs ≡ length bs = omega arith in subst (λ k. Inside k (walk (length bs) false 0 bs s).result) e (inside_walk (length bs) false 0 bs s)
