-- Where a ground stands, a control is refused.
use Rattle.std.proofs.Common.{◌≡◌, ℕ, ◌<◌, Bool, true, false, ◌&&◌, ◌||◌, eqb, ltb, ◌⊎◌, List, [], ◌∷◌, length, get_or, drop, ℤ, pos, ◌+ℤ◌, Some, None, ok_or, Err, sym, refl, ap, ◌∙◌, subst, inl, inr, arith}
use Rattle.std.proofs.lemmas.Bool.{cond-true, cond-false, cases_Bool, cases_eq, and_left, and_right, and_from, or_left, or_right, both_ways, lt-ltb, eq-eqb, ne_eqb}
use Rattle.refusal.specs.declared.Refusal.{Refusal}
use Rattle.refusal.specs.declared.Refusal.TheVariants.{ControlLength, BadControl}
use Rattle.text.specs.declared.control.Kind.{Kind}
use Rattle.text.specs.declared.control.Kind.TheVariants.{Absolute, Relative, SetFont, Transparent, Repeat, Rule}
use Rattle.text.specs.declared.control.Control.{Control}
use Rattle.text.specs.Axes.{usual_width, position}
use Rattle.text.specs.Fonts.{font_of}
use Rattle.text.specs.Canvases.{Canvas, Out, done, refused, and_then}
use Rattle.text.specs.Steps.{taken}
use Rattle.text.specs.Moves.{fonted, fonted_by}
use Rattle.text.specs.Runs.{characters}
use Rattle.text.specs.Cycles.{cycled}
use Rattle.text.specs.Controls.{kind_of, sized, named, headed, control_of, parameters}
use Rattle.text.specs.Effects.{two, word, width, repeated, effect, succeeded, obeyed}
use Rattle.text.specs.Grounds.{body_of, Misheaded, not_introduced, no_length, too_short, too_long, not_its_length, unknown, target_of, Unperformed, no_position, no_font, letters, too_many, no_pattern, repetitions, off_page, list_full_rule}
use Rattle.text.proofs.Grounded.{Far}
use Rattle.std.proofs.lemmas.Option.{none-some}
use Rattle.text.proofs.Failing.{Bad, Fails, fails_then, fails_since, fails_characters, fails_moved, off_spans, ruled_off, ruled_full}

-- the header, from the length byte on
measured : (before size type : ℕ) (more : List ℕ) → ((ltb size 2 || ltb (length (size ∷ type ∷ more)) size) ≡ false → Bad (named before (kind_of type) size type)) → Bad (headed before (size ∷ type ∷ more))
measured before size type more g =
    elim (cases_Bool (ltb size 2 || ltb (length (size ∷ type ∷ more)) size)) [
      | inl e ↦ (ControlLength, cond-true _ _ _ e)
      | inr e ↦ (let b = g e in (b.0, cond-false (ltb size 2 || ltb (length (size ∷ type ∷ more)) size) _ _ e ∙ b.1))
    ]

badly : (before size type : ℕ) (more : List ℕ) → (ltb size 2 || ltb (length (size ∷ type ∷ more)) size) ≡ true → Bad (headed before (size ∷ type ∷ more))
badly before size type more e = (ControlLength, cond-true _ _ _ e)

no_body : (before : ℕ) (body : List ℕ) → length body ≡ 0 → Bad (headed before body)
no_body before [] h = (ControlLength, refl)
no_body before (a ∷ bs) h = absurd (omega arith)

short_body : (before : ℕ) (body : List ℕ) → get_or body 0 0 < 2 → Bad (headed before body)
short_body before [] h = (ControlLength, refl)
short_body before (a ∷ []) h = (ControlLength, refl)
short_body before (a ∷ b ∷ bs) h = badly before a b bs (or_left _ _ (lt-ltb _ _ h))

long_body : (before : ℕ) (body : List ℕ) → length body < get_or body 0 0 → Bad (headed before body)
long_body before [] h = (ControlLength, refl)
long_body before (a ∷ []) h = (ControlLength, refl)
long_body before (a ∷ b ∷ bs) h = badly before a b bs (or_right _ _ (lt-ltb _ _ h))

wrong_body : (before : ℕ) (body : List ℕ) (k : Kind) → kind_of (get_or body 1 0) ≡ Some k → sized k (get_or body 0 0) ≡ false → Bad (headed before body)
wrong_body before [] k e h = (ControlLength, refl)
wrong_body before (a ∷ []) k e h = (ControlLength, refl)
wrong_body before (a ∷ b ∷ bs) k e h = measured before a b bs (λ _. (ControlLength, ap (λ o. named before o a b) e ∙ cond-false (sized k a) _ _ h))

strange_body : (before : ℕ) (body : List ℕ) → kind_of (get_or body 1 0) ≡ None → Bad (headed before body)
strange_body before [] e = (ControlLength, refl)
strange_body before (a ∷ []) e = (ControlLength, refl)
strange_body before (a ∷ b ∷ bs) e = measured before a b bs (λ _. (BadControl, ap (λ o. named before o a b) e))

lifted : (c : Bool) (bs : List ℕ) → ((before : ℕ) → Bad (headed before (body_of c bs))) → Bad (control_of c bs)
lifted true bs g = g 0
lifted false [] g = (BadControl, refl)
lifted false (a ∷ []) g = (BadControl, refl)
lifted false (a ∷ b ∷ bs) g =
    elim (cases_eq b 0xD3) [
      | inl e ↦ (let r = g 2 in (r.0, cond-true (eqb b 0xD3) (headed 2 bs) (Err BadControl) (eq-eqb _ _ e) ∙ r.1))
      | inr n ↦ (BadControl, cond-false (eqb b 0xD3) (headed 2 bs) (Err BadControl) (ne_eqb _ _ n))
    ]

unled : (c : Bool) (bs : List ℕ) → c ≡ false → (get_or bs 1 0 ≡ 0xD3 → ⊥) → Bad (control_of c bs)
unled true bs e n = absurd (both_ways true e refl)
unled false [] e n = (BadControl, refl)
unled false (a ∷ []) e n = (BadControl, refl)
unled false (a ∷ b ∷ bs) e n = (BadControl, cond-false (eqb b 0xD3) (headed 2 bs) (Err BadControl) (ne_eqb _ _ n))

pub fails_control : (c : Bool) (bs : List ℕ) (r : Refusal) → Misheaded c bs r → Bad (control_of c bs)
fails_control c bs r (not_introduced e n) = unled c bs e n
fails_control c bs r (no_length h) = lifted c bs (λ before. no_body before (body_of c bs) h)
fails_control c bs r (too_short z h) = lifted c bs (λ before. short_body before (body_of c bs) h)
fails_control c bs r (too_long h) = lifted c bs (λ before. long_body before (body_of c bs) h)
fails_control c bs r (not_its_length {k} e h) = lifted c bs (λ before. wrong_body before (body_of c bs) k e h)
fails_control c bs r (unknown z e) = lifted c bs (λ before. strange_body before (body_of c bs) e)

-- the effect
fails_move : (k : Kind) (ps : List ℕ) (s : Canvas) (z : ℤ) → target_of k ps s.conditions ≡ Some z → Far z → Fails (effect k ps s)
fails_move (Absolute axis) ps s z e f = let i : z ≡ word ps 0 = cc in fails_moved axis (word ps 0) s (subst Far i f)
fails_move (Relative axis) ps s z e f = let i : z ≡ pos (position axis s.conditions) +ℤ word ps 0 = cc in fails_moved axis (pos (position axis s.conditions) +ℤ word ps 0) s (subst Far i f)
fails_move SetFont ps s z e f = absurd (none-some _ e)
fails_move Transparent ps s z e f = absurd (none-some _ e)
fails_move Repeat ps s z e f = absurd (none-some _ e)
fails_move (Rule axis) ps s z e f = absurd (none-some _ e)

fails_font : (n : ℕ) (s : Canvas) → (n ≡ 0) ⊎ (3 < n) → Fails (taken (fonted n s.conditions) s)
fails_font n s f =
    let a : n ≡ 1 → ⊥ = λ e. elim f [ inl h ↦ omega arith | inr h ↦ omega arith ] in
    let b : n ≡ 2 → ⊥ = λ e. elim f [ inl h ↦ omega arith | inr h ↦ omega arith ] in
    let c : n ≡ 3 → ⊥ = λ e. elim f [ inl h ↦ omega arith | inr h ↦ omega arith ] in
    let none : font_of n ≡ None = cond-false (eqb n 1) _ _ (ne_eqb _ _ a) ∙ cond-false (eqb n 2) _ _ (ne_eqb _ _ b) ∙ cond-false (eqb n 3) _ _ (ne_eqb _ _ c) in
    (BadControl, ap (λ o. (taken (fonted_by (ok_or o BadControl) s.conditions) s).result) none)

fails_count : (n : ℕ) (p : List ℕ) (s : Canvas) → (ltb 32767 n || (eqb (length p) 0 && ltb 0 n)) ≡ true → Fails (repeated n p s)
fails_count n p s e = (BadControl, ap (λ (o : Out Refusal). o.result) (cond-true (ltb 32767 n || (eqb (length p) 0 && ltb 0 n)) _ _ e))

fails_cycled : (n : ℕ) (p : List ℕ) (s : Canvas) → Fails (characters (cycled n p) s) → Fails (repeated n p s)
fails_cycled n p s b =
    elim (cases_Bool (ltb 32767 n || (eqb (length p) 0 && ltb 0 n))) [
      | inl e ↦ fails_count n p s e
      | inr e ↦ fails_since (repeated n p s) (characters (cycled n p) s) (cond-false (ltb 32767 n || (eqb (length p) 0 && ltb 0 n)) _ _ e) b
    ]

pub fails_effect : (k : Kind) (ps : List ℕ) (s : Canvas) (r : Refusal) → Unperformed k ps s r → Fails (effect k ps s)
fails_effect k ps s r (no_position {z} e f) = fails_move k ps s z e f
fails_effect k ps s r (no_font e f) = subst (λ k. Fails (effect k ps s)) (sym e) (fails_font (get_or ps 0 0) s f)
fails_effect k ps s r (letters e u) = subst (λ k. Fails (effect k ps s)) (sym e) (fails_characters ps s r u)
fails_effect k ps s r (too_many e h) = subst (λ k. Fails (effect k ps s)) (sym e) (fails_count (two ps 0) (drop 2 ps) s (or_left _ _ (lt-ltb _ _ h)))
fails_effect k ps s r (no_pattern e h l) = subst (λ k. Fails (effect k ps s)) (sym e) (fails_count (two ps 0) (drop 2 ps) s (or_right _ _ (and_from _ _ (eq-eqb _ _ l) (lt-ltb _ _ h))))
fails_effect k ps s r (repetitions e u) = subst (λ k. Fails (effect k ps s)) (sym e) (fails_cycled (two ps 0) (drop 2 ps) s (fails_characters (cycled (two ps 0) (drop 2 ps)) s r u))
fails_effect k ps s r (off_page {axis} e u o) =
    subst (λ k. Fails (effect k ps s)) (sym e)
    (ruled_off axis _ (word ps 0) (width (usual_width axis) ps) s u (elim o [ inl h ↦ and_left _ _ (off_spans _ _ _ h) | inr h ↦ and_right _ _ (off_spans _ _ _ h) ]))
fails_effect k ps s r (list_full_rule {axis} e u h) = subst (λ k. Fails (effect k ps s)) (sym e) (ruled_full axis _ (word ps 0) (width (usual_width axis) ps) s u h)

-- and the successor
pub fails_obeyed : (h : Control) (bs : List ℕ) (s : Canvas) → Fails (effect h.kind (parameters h bs) s) → Fails (obeyed h bs s)
unfolding obeyed
fails_obeyed h bs s b = fails_then (effect h.kind (parameters h bs) s) (succeeded h bs) b

pub fails_chained : (h : Control) (bs : List ℕ) (s t : Canvas) → effect h.kind (parameters h bs) s ≡ done t → h.chained ≡ true → h.end ≡ length bs → Fails (obeyed h bs s)
unfolding obeyed
fails_chained h bs s t e c l =
    fails_since (obeyed h bs s) (refused BadControl t)
    (ap (λ (o : Out Refusal). and_then o (succeeded h bs)) e ∙ cond-true (h.chained && eqb (length bs) h.end) _ _ (and_from _ _ c (eq-eqb _ _ (sym l)))) (BadControl, refl)
