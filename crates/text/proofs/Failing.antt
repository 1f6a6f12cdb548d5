-- Where a ground stands, the work is refused.
use Rattle.std.proofs.Common.{◌≡◌, ℕ, ◌+◌, ◌≤◌, Bool, true, false, cond, ◌||◌, T, eqb, ltb, leb, List, [], ◌∷◌, ◌++◌, length, ℤ, pos, ◌+ℤ◌, nat_abs, ◌≤ℤ◌, ◌<ℤ◌, Some, Ok, Err, Result, sym, refl, ap, ◌∙◌, subst, inl, inr, arith}
use lib.Signed.{lt_z, le_z, le_z_yes}
use Rattle.std.proofs.lemmas.Int.{ints}
use Rattle.std.proofs.lemmas.Bool.{cond-true, cond-false, cases_Bool, and_left, and_right, and_parts, or_left, or_right, or_from, le-ltb, lt-leb, ne_eqb}
use Rattle.refusal.specs.declared.Refusal.{Refusal}
use Rattle.refusal.specs.declared.Refusal.TheVariants.{Outside, MarksFull}
use Rattle.text.specs.declared.axis.Axis.{Axis}
use Rattle.text.specs.declared.axis.Axis.TheVariants.{Inline}
use Rattle.text.specs.declared.mark.Mark.{Mark}
use Rattle.text.specs.declared.conditions.TextConditions.{TextConditions}
use Rattle.text.specs.declared.step.Step.{Step}
use Rattle.text.specs.Axes.{extent}
use Rattle.text.specs.Fonts.{advance_of}
use Rattle.text.specs.Canvases.{Canvas, Out, out, and_then}
use Rattle.text.specs.Steps.{fits, marked, onward, step, put, taken, character}
use Rattle.text.specs.Moves.{place, moved, moved_by}
use Rattle.text.specs.Rules.{spans, nothing, bar, ruled}
use Rattle.text.specs.Runs.{characters}
use Rattle.text.specs.Grounds.{Unplaced, past_edge, under_page, list_full, Unplaceds, Off, Ruled}
use Rattle.text.proofs.Outs.{then_assoc}
use Rattle.text.proofs.Grounded.{Far}

-- a result that refuses, and work that does
abbrev pub Bad : {A F : Type 0} → Result A F → Type 0
Bad {A} {F} r = (f : F) × (r ≡ Err f)

abbrev pub Fails : Out Refusal → Type 0
Fails o = Bad o.result

-- work that begins with work that fails
pub fails_then : (o : Out Refusal) (more : Canvas → Out Refusal) → Fails o → Fails (and_then o more)
fails_then o more b = (b.0, ap (λ r. (and_then (out o.left r) more).result) b.1)

pub fails_since : (o o' : Out Refusal) → o ≡ o' → Fails o' → Fails o
fails_since o o' e b = subst Fails (sym e) b

-- a step outside, and a mark without a place
outside : (p : Result Step Refusal) (r : Refusal) (s : Canvas) → p ≡ Err r → Fails (taken p s)
outside p r s e = (r, ap (λ q. (taken q s).result) e)

full : (m : Mark) (t : TextConditions) (s : Canvas) → length s.marks ≤ s.count → Fails (put (Some m) t s)
full m t s l = (MarksFull, ap (λ (o : Out Refusal). o.result) (cond-false (ltb s.count (length s.marks)) _ _ (le-ltb _ _ l)))

unfit : (c : ℕ) (s : Canvas) → fits c s.conditions ≡ false → Fails (character c s)
unfit c s e = outside _ Outside s (cond-false (fits c s.conditions) _ _ e)

pub fails_character : (c : ℕ) (s : Canvas) (r : Refusal) → Unplaced c s r → Fails (character c s)
fails_character c s r (past_edge h) = unfit c s (and_left _ _ (lt-leb _ _ h))
fails_character c s r (under_page h) = unfit c s (and_right (leb (s.conditions.i + advance_of s.conditions.font c) (extent Inline)) _ (lt-leb _ _ h))
fails_character c s r (list_full ne h) =
    elim (cases_Bool (fits c s.conditions)) [
      | inl e ↦ fails_since (character c s) (put (Some (marked c s.conditions)) (onward c s.conditions) s)
          (ap (λ p. taken p s) (cond-true (fits c s.conditions) _ _ e) ∙ ap (λ m. put m (onward c s.conditions) s) (cond-false (eqb c 0x40) _ _ (ne_eqb _ _ ne)))
          (full (marked c s.conditions) (onward c s.conditions) s h)
      | inr e ↦ unfit c s e
    ]

-- characters in a row
characters_append : (xs ys : List ℕ) (s : Canvas) → characters (xs ++ ys) s ≡ and_then (characters xs s) (characters ys)
unfolding characters
characters_append [] ys s = refl
characters_append (x ∷ xs) ys s = then_assoc (character x s) (characters (xs ++ ys)) (characters xs) (characters ys) (characters_append xs ys)

pub fails_characters : (cs : List ℕ) (s : Canvas) (r : Refusal) → Unplaceds cs s r → Fails (characters cs s)
unfolding characters
fails_characters cs s r u =
    fails_since (characters cs s) (characters (u.code ∷ u.after) u.reached)
    (ap (λ l. characters l s) u.parts ∙ characters_append u.before (u.code ∷ u.after) s ∙ ap (λ (o : Out Refusal). and_then o (characters (u.code ∷ u.after))) u.placed)
    (fails_then (character u.code u.reached) (characters u.after) (fails_character u.code u.reached r u.ground))

-- signed numbers
under : (a b : ℤ) → a <ℤ b → lt_z a b ≡ true
under a b h = grind (arith, ints)

over : (a b : ℤ) → a <ℤ b → le_z b a ≡ false
over a b h = grind (arith, ints)

nought : (z : ℤ) → pos 0 ≤ℤ z → z ≤ℤ pos 0 → z ≡ pos 0
nought z a b = omega (arith, ints)

some : (z : ℤ) → (z ≡ pos 0 → ⊥) → nothing z ≡ false
some z ne =
    elim (cases_Bool (nothing z)) [
      | inl e ↦ (let p = and_parts (le_z (pos 0) z) (le_z z (pos 0)) e in absurd (ne (nought z (le_z_yes (subst T (sym p.0) tt)) (le_z_yes (subst T (sym p.1) tt)))))
      | inr f ↦ f
    ]

-- moves
beyond : (z : ℤ) → Far z → place z ≡ Err Outside
beyond z f = cond-true (lt_z z (pos 0) || lt_z (pos 32767) z) (Err Outside) (Ok (nat_abs z)) (elim f [ inl h ↦ or_left _ _ (under _ _ h) | inr h ↦ or_right _ _ (under _ _ h) ])

pub fails_moved : (axis : Axis) (z : ℤ) (s : Canvas) → Far z → Fails (taken (moved axis z s.conditions) s)
fails_moved axis z s f = (Outside, ap (λ o. (taken (moved_by axis o s.conditions) s).result) (beyond z f))

-- rules
pub off_spans : (from : ℕ) (by : ℤ) (limit : ℕ) → Off from by limit → spans from by limit ≡ false
off_spans from by limit (inl h) = and_left _ _ (lt-leb _ _ h)
off_spans from by limit (inr (inl h)) = and_right (leb from limit) _ (and_left _ _ (over _ _ h))
off_spans from by limit (inr (inr h)) = and_right (leb from limit) _ (and_right (le_z (pos 0) (pos from +ℤ by)) _ (over _ _ h))

ruled_is : (axis : Axis) (inside : Bool) (l w : ℤ) (t : TextConditions) → Ruled l w → ruled axis inside l w t ≡ cond inside (Ok (step (Some (bar axis l w t)) t)) (Err Outside)
ruled_is axis inside l w t u = cond-false (nothing l || nothing w) _ _ (or_from _ _ (some l u.long) (some w u.wide))

pub ruled_off : (axis : Axis) (inside : Bool) (l w : ℤ) (s : Canvas) → Ruled l w → inside ≡ false → Fails (taken (ruled axis inside l w s.conditions) s)
ruled_off axis inside l w s u e = outside _ Outside s (ruled_is axis inside l w s.conditions u ∙ cond-false inside _ _ e)

pub ruled_full : (axis : Axis) (inside : Bool) (l w : ℤ) (s : Canvas) → Ruled l w → length s.marks ≤ s.count → Fails (taken (ruled axis inside l w s.conditions) s)
ruled_full axis inside l w s u h =
    elim (cases_Bool inside) [
      | inl e ↦ fails_since (taken (ruled axis inside l w s.conditions) s) (put (Some (bar axis l w s.conditions)) s.conditions s)
          (ap (λ p. taken p s) (ruled_is axis inside l w s.conditions u ∙ cond-true inside _ _ e)) (full (bar axis l w s.conditions) s.conditions s h)
      | inr e ↦ ruled_off axis inside l w s u e
    ]
