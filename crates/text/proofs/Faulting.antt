-- A text is refused by faults alone.
use Rattle.std.proofs.Common.{ℕ, zero, suc, ◌+◌, Bool, true, false, ◌&&◌, ◌||◌, eqb, ltb, List, [], ◌∷◌, length, get_or, drop, ℤ, pos, ◌+ℤ◌, Some, None, ok_or, Ok, Err, Option, Result, refl}
use lib.Signed.{lt_z}
use Rattle.std.proofs.lemmas.Bool.{cond_both}
use Rattle.refusal.specs.declared.Refusal.{Refusal}
use Rattle.refusal.specs.declared.Refusal.TheVariants.{BadControl}
use Rattle.refusal.specs.Refusals.{Faulty}
use Rattle.text.specs.declared.axis.Axis.{Axis}
use Rattle.text.specs.declared.mark.Mark.{Mark}
use Rattle.text.specs.declared.conditions.TextConditions.{TextConditions}
use Rattle.text.specs.declared.control.Control.{Control}
use Rattle.text.specs.declared.control.Kind.{Kind}
use Rattle.text.specs.declared.control.Kind.TheVariants.{Absolute, Relative, SetFont, Transparent, Repeat, Rule}
use Rattle.text.specs.declared.fault.TextFault.{TextFault}
use Rattle.text.specs.declared.font.Font.{Font}
use Rattle.text.specs.declared.step.Step.{Step}
use Rattle.text.specs.Axes.{usual_width, position}
use Rattle.text.specs.Canvases.{Canvas, Out, and_then}
use Rattle.text.specs.Fonts.{font_of}
use Rattle.text.specs.Steps.{fits, lettered, put, taken, character}
use Rattle.text.specs.Moves.{place, moved_by, moved, fonted_by, fonted}
use Rattle.text.specs.Rules.{nothing, on_page, ruled}
use Rattle.text.specs.Runs.{characters, located_in, located}
use Rattle.text.specs.Cycles.{cycled}
use Rattle.text.specs.Controls.{kind_of, sized, named, headed, introduced, control_of, parameters}
use Rattle.text.specs.Effects.{two, word, width, repeated, effect, succeeded, obeyed}
use Rattle.text.proofs.Outs.{by_end}
use Rattle.text.specs.Texts.{begins, Further, controlled, walk, text_of}

abbrev same : Refusal → Refusal
same r = r

abbrev Told : {A : Type 0} → Result A Refusal → Type 0
Told r = Faulty same r

abbrev pub refusal_of : TextFault → Refusal
refusal_of f = f.refusal

pub faults_then : {F : Type 0} (of : F → Refusal) (o : Out F) (more : Canvas → Out F) → Faulty of o.result → ((r : Canvas) → Faulty of (more r).result) → Faulty of (and_then o more).result
faults_then of o more h g = by_end o more (λ x. Faulty of x.result) (λ t e. g t) (λ f e. h)

faults_put : (m : Option Mark) (t : TextConditions) (s : Canvas) → Told (put m t s).result
faults_put None t s = tt
faults_put (Some m) t s = cond_both (ltb s.count (length s.marks)) _ _ (λ (o : Out Refusal). Told o.result) (λ _. tt) (λ _. refl)

faults_taken : (p : Result Step Refusal) (s : Canvas) → Told p → Told (taken p s).result
faults_taken (Ok p) s h = faults_put p.mark p.next s
faults_taken (Err r) s h = h

faults_character : (c : ℕ) (s : Canvas) → Told (character c s).result
faults_character c s = faults_taken (lettered c s.conditions) s (cond_both (fits c s.conditions) _ _ (λ (p : Result Step Refusal). Told p) (λ _. tt) (λ _. refl))

faults_characters : (cs : List ℕ) (s : Canvas) → Told (characters cs s).result
unfolding characters
faults_characters [] s = tt
faults_characters (c ∷ cs) s = faults_then same (character c s) (characters cs) (faults_character c s) (faults_characters cs)

faults_move : (axis : Axis) (o : Result ℕ Refusal) (t : TextConditions) → Told o → Told (moved_by axis o t)
faults_move axis (Err r) t h = h
faults_move axis (Ok n) t h = tt

faults_place : (z : ℤ) → Told (place z)
faults_place z = cond_both (lt_z z (pos 0) || lt_z (pos 32767) z) _ _ (λ (o : Result ℕ Refusal). Told o) (λ _. refl) (λ _. tt)

faults_font : (o : Option Font) (t : TextConditions) → Told (fonted_by (ok_or o BadControl) t)
faults_font None t = refl
faults_font (Some f) t = tt

faults_rule : (axis : Axis) (inside : Bool) (l w : ℤ) (t : TextConditions) → Told (ruled axis inside l w t)
faults_rule axis inside l w t =
    cond_both (nothing l || nothing w) _ _ (λ (p : Result Step Refusal). Told p) (λ _. tt) (λ _. cond_both inside _ _ (λ (p : Result Step Refusal). Told p) (λ _. tt) (λ _. refl))

faults_repeated : (n : ℕ) (pattern : List ℕ) (s : Canvas) → Told (repeated n pattern s).result
faults_repeated n pattern s =
    cond_both (ltb 32767 n || (eqb (length pattern) 0 && ltb 0 n)) _ _ (λ (o : Out Refusal). Told o.result) (λ _. refl) (λ _. faults_characters (cycled n pattern) s)

faults_moved : (axis : Axis) (z : ℤ) (s : Canvas) → Told (taken (moved axis z s.conditions) s).result
faults_moved axis z s = faults_taken (moved axis z s.conditions) s (faults_move axis (place z) s.conditions (faults_place z))

faults_ruled : (axis : Axis) (inside : Bool) (l w : ℤ) (s : Canvas) → Told (taken (ruled axis inside l w s.conditions) s).result
faults_ruled axis inside l w s = faults_taken (ruled axis inside l w s.conditions) s (faults_rule axis inside l w s.conditions)

faults_effect : (k : Kind) (ps : List ℕ) (s : Canvas) → Told (effect k ps s).result
faults_effect (Absolute axis) ps s = faults_moved axis (word ps 0) s
faults_effect (Relative axis) ps s = faults_moved axis (pos (position axis s.conditions) +ℤ word ps 0) s
faults_effect SetFont ps s = faults_taken (fonted (get_or ps 0 0) s.conditions) s (faults_font (font_of (get_or ps 0 0)) s.conditions)
faults_effect Transparent ps s = faults_characters ps s
faults_effect Repeat ps s = faults_repeated (two ps 0) (drop 2 ps) s
faults_effect (Rule axis) ps s = let w = width (usual_width axis) ps in faults_ruled axis (on_page axis (word ps 0) w s.conditions) (word ps 0) w s

faults_obeyed : (h : Control) (bs : List ℕ) (s : Canvas) → Told (obeyed h bs s).result
unfolding obeyed
faults_obeyed h bs s =
    faults_then same (effect h.kind (parameters h bs) s) (succeeded h bs) (faults_effect h.kind (parameters h bs) s)
    (λ r. cond_both (h.chained && eqb (length bs) h.end) _ _ (λ (o : Out Refusal). Told o.result) (λ _. refl) (λ _. tt))

faults_named : (before : ℕ) (k : Option Kind) (size type : ℕ) → Told (named before k size type)
faults_named before None size type = refl
faults_named before (Some k) size type = cond_both (sized k size) _ _ (λ (p : Result Control Refusal). Told p) (λ _. tt) (λ _. refl)

faults_headed : (before : ℕ) (bs : List ℕ) → Told (headed before bs)
faults_headed before [] = refl
faults_headed before (size ∷ []) = refl
faults_headed before (size ∷ type ∷ bs) = cond_both (ltb size 2 || ltb (length (size ∷ type ∷ bs)) size) _ _ (λ (p : Result Control Refusal). Told p) (λ _. refl) (λ _. faults_named before (kind_of type) size type)

faults_introduced : (bs : List ℕ) → Told (introduced bs)
faults_introduced [] = refl
faults_introduced (a ∷ []) = refl
faults_introduced (a ∷ b ∷ bs) = cond_both (eqb b 0xD3) _ _ (λ (p : Result Control Refusal). Told p) (λ _. faults_headed 2 bs) (λ _. refl)

faults_control : (chained : Bool) (bs : List ℕ) → Told (control_of chained bs)
faults_control true bs = faults_headed 0 bs
faults_control false bs = faults_introduced bs

faults_located : (at : ℕ) (r : Result (Unit {0}) Refusal) → Told r → Faulty refusal_of (located_in at r)
faults_located at (Ok x) h = tt
faults_located at (Err r) h = h

faults_controlled : (further : Further) → ((c : Bool) (at : ℕ) (bs : List ℕ) (s : Canvas) → Faulty refusal_of (further c at bs s).result) → (at : ℕ) (bs : List ℕ) (p : Result Control Refusal) (s : Canvas) → Told p → Faulty refusal_of (controlled further at bs p s).result
unfolding controlled
faults_controlled further more at bs (Err r) s h = h
faults_controlled further more at bs (Ok k) s h =
    faults_then refusal_of (located at (obeyed k bs s)) (further k.chained (at + k.end) (drop k.end bs)) (faults_located at (obeyed k bs s).result (faults_obeyed k bs s)) (more k.chained (at + k.end) (drop k.end bs))

faults_walk : (n : ℕ) (chained : Bool) (at : ℕ) (bs : List ℕ) (s : Canvas) → Faulty refusal_of (walk n chained at bs s).result
unfolding walk
faults_walk n chained at [] s = tt
faults_walk zero chained at (b ∷ bs) s = tt
faults_walk (suc n) chained at (b ∷ bs) s =
    cond_both (begins chained b) _ _ (λ (o : Out TextFault). Faulty refusal_of o.result)
    (λ _. faults_controlled (walk n) (faults_walk n) at (b ∷ bs) (control_of chained (b ∷ bs)) s (faults_control chained (b ∷ bs)))
    (λ _. faults_then refusal_of (located at (character b s)) (walk n false (at + 1) bs) (faults_located at (character b s).result (faults_character b s)) (faults_walk n false (at + 1) bs))

pub text_faults : (bs : List ℕ) (s : Canvas) → Faulty refusal_of (text_of bs s).result
unfolding text_of
text_faults bs s = faults_walk (length bs) false 0 bs s
