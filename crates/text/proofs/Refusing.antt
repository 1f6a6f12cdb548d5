-- Each refusal of a control has its ground: its header, its parameters, or its missing successor.
use Rattle.std.proofs.Common.{◌≡◌, ℕ, ◌+◌, ◌%◌, ◌<◌, Bool, true, false, cond, ◌&&◌, ◌||◌, eqb, ltb, ◌⊎◌, List, [], ◌∷◌, length, get_or, drop, pos, ◌+ℤ◌, Some, None, ok_or, Ok, Err, Option, Result, sym, refl, ap, ◌∙◌, inl, inr, arith}
use Rattle.std.proofs.lemmas.Bool.{cond_both, cases_lt, ltb-true, eqb-true, eqb-false, and_cases, and_parts, or_cases}
use Rattle.refusal.specs.declared.Refusal.{Refusal}
use Rattle.refusal.specs.declared.Refusal.TheVariants.{ControlLength, BadControl}
use Rattle.text.specs.declared.font.Font.{Font}
use Rattle.text.specs.declared.font.Font.TheVariants.{Ten, Twelve, Fifteen}
use Rattle.text.specs.declared.control.Kind.{Kind}
use Rattle.text.specs.declared.control.Kind.TheVariants.{Absolute, Relative, SetFont, Transparent, Repeat, Rule}
use Rattle.text.specs.declared.control.Control.{Control}
use Rattle.text.specs.Axes.{across, extent, usual_width, position}
use Rattle.text.specs.Canvases.{Canvas, Out, done, refused}
use Rattle.text.specs.Steps.{taken}
use Rattle.text.specs.Moves.{fonted, fonted_by}
use Rattle.text.specs.Rules.{spans}
use Rattle.text.specs.Runs.{characters}
use Rattle.text.specs.Cycles.{cycled}
use Rattle.text.specs.Controls.{kind_of, sized, named, control, headed, control_of, parameters}
use Rattle.text.specs.Effects.{two, word, width, repeated, effect, succeeded, obeyed}
use Rattle.text.specs.Grounds.{body_of, Misheaded, not_introduced, no_length, too_short, too_long, not_its_length, unknown, Unplaceds, Unperformed, no_position, no_font, letters, too_many, no_pattern, repetitions, off_page, list_full_rule, Unobeyed, unperformed, no_successor}
use Rattle.text.proofs.Why.{Why, why_then, weaker}
use Rattle.text.proofs.Grounded.{why_characters, why_moved, off, why_ruled}

why_named : (c : Bool) (bs : List ℕ) (before size type : ℕ) (more : List ℕ) → body_of c bs ≡ size ∷ type ∷ more → (o : Option Kind) → kind_of type ≡ o → Why (named before o size type) (Misheaded c bs)
why_named c bs before size type more is None e =
    unknown (let l : length (body_of c bs) ≡ length (size ∷ type ∷ more) = ap length is in omega arith) (ap (λ l. kind_of (get_or l 1 0)) is ∙ e)
why_named c bs before size type more is (Some k) e =
    cond_both (sized k size) (Ok (control k (eqb (type % 2) 1) (before + 2) (before + size))) (Err ControlLength) (λ (r : Result Control Refusal). Why r (Misheaded c bs)) (λ _. tt)
    (λ f. not_its_length (ap (λ l. kind_of (get_or l 1 0)) is ∙ e) (ap (λ l. sized k (get_or l 0 0)) is ∙ f))

why_headed : (c : Bool) (bs : List ℕ) (before : ℕ) (body : List ℕ) → body_of c bs ≡ body → Why (headed before body) (Misheaded c bs)
why_headed c bs before [] is = no_length (ap length is)
why_headed c bs before (size ∷ []) is =
    let l : length (body_of c bs) ≡ 1 = ap length is in
    let g : get_or (body_of c bs) 0 0 ≡ size = ap (λ l. get_or l 0 0) is in
    elim (cases_lt size 2) [ inl p ↦ too_short (omega arith) (omega arith) | inr p ↦ too_long (omega arith) ]
why_headed c bs before (size ∷ type ∷ more) is =
    let l : length (body_of c bs) ≡ length (size ∷ type ∷ more) = ap length is in
    let g : get_or (body_of c bs) 0 0 ≡ size = ap (λ l. get_or l 0 0) is in
    cond_both (ltb size 2 || ltb (length (size ∷ type ∷ more)) size) (Err ControlLength) (named before (kind_of type) size type) (λ (r : Result Control Refusal). Why r (Misheaded c bs))
    (λ e. elim (or_cases (ltb size 2) (ltb (length (size ∷ type ∷ more)) size) e) [ inl p ↦ too_short (omega arith) (omega (arith, ltb-true size 2 p)) | inr p ↦ too_long (omega (arith, ltb-true (length (size ∷ type ∷ more)) size p)) ])
    (λ _. why_named c bs before size type more is (kind_of type) refl)

pub why_control : (c : Bool) (bs : List ℕ) → Why (control_of c bs) (Misheaded c bs)
why_control true bs = why_headed true bs 0 bs refl
why_control false [] = not_introduced refl (λ e. omega arith)
why_control false (a ∷ []) = not_introduced refl (λ e. omega arith)
why_control false (a ∷ b ∷ bs) =
    cond_both (eqb b 0xD3) (headed 2 bs) (Err BadControl) (λ (r : Result Control Refusal). Why r (Misheaded false (a ∷ b ∷ bs))) (λ _. why_headed false (a ∷ b ∷ bs) 2 bs refl) (λ e. not_introduced refl (eqb-false b 0xD3 e))

none_of : (n : ℕ) → (n ≡ 1 → ⊥) → (n ≡ 2 → ⊥) → (n ≡ 3 → ⊥) → (n ≡ 0) ⊎ (3 < n)
none_of n a b c = elim (cases_lt 3 n) [ inl p ↦ inr p | inr p ↦ inl (omega arith) ]

why_fonted : (n : ℕ) (s : Canvas) (P : Refusal → Type 0) → ((n ≡ 0) ⊎ (3 < n) → P BadControl) → Why (taken (fonted n s.conditions) s).result P
why_fonted n s P g =
    let Q : Option Font → Type 0 = λ o. Why (taken (fonted_by (ok_or o BadControl) s.conditions) s).result P in
    cond_both (eqb n 1) (Some Ten) (cond (eqb n 2) (Some Twelve) (cond (eqb n 3) (Some Fifteen) None)) Q (λ _. tt)
    (λ a. cond_both (eqb n 2) (Some Twelve) (cond (eqb n 3) (Some Fifteen) None) Q (λ _. tt)
    (λ b. cond_both (eqb n 3) (Some Fifteen) None Q (λ _. tt) (λ c. g (none_of n (eqb-false n 1 a) (eqb-false n 2 b) (eqb-false n 3 c)))))

why_repeated : (ps : List ℕ) (s : Canvas) → Why (repeated (two ps 0) (drop 2 ps) s).result (Unperformed Repeat ps s)
why_repeated ps s =
    let n = two ps 0 in
    let p = drop 2 ps in
    cond_both (ltb 32767 n || (eqb (length p) 0 && ltb 0 n)) (refused BadControl s) (characters (cycled n p) s) (λ (o : Out Refusal). Why o.result (Unperformed Repeat ps s))
    (λ e. elim (or_cases (ltb 32767 n) (eqb (length p) 0 && ltb 0 n) e) [
      | inl q ↦ too_many refl (ltb-true 32767 n q)
      | inr q ↦ (let both = and_parts (eqb (length p) 0) (ltb 0 n) q in no_pattern refl (ltb-true 0 n both.1) (eqb-true (length p) 0 both.0))
    ])
    (λ _. weaker (characters (cycled n p) s).result (Unplaceds (cycled n p) s) (Unperformed Repeat ps s) (λ r u. repetitions refl u) (why_characters (cycled n p) s))

why_effect : (k : Kind) (ps : List ℕ) (s : Canvas) → Why (effect k ps s).result (Unperformed k ps s)
why_effect (Absolute axis) ps s = why_moved axis (word ps 0) s (Unperformed (Absolute axis) ps s) (no_position refl)
why_effect (Relative axis) ps s = why_moved axis (pos (position axis s.conditions) +ℤ word ps 0) s (Unperformed (Relative axis) ps s) (no_position refl)
why_effect SetFont ps s = why_fonted (get_or ps 0 0) s (Unperformed SetFont ps s) (no_font refl)
why_effect Transparent ps s = weaker (characters ps s).result (Unplaceds ps s) (Unperformed Transparent ps s) (λ r u. letters refl u) (why_characters ps s)
why_effect Repeat ps s = why_repeated ps s
why_effect (Rule axis) ps s =
    let w = width (usual_width axis) ps in
    let x = spans (position axis s.conditions) (word ps 0) (extent axis) in
    let y = spans (position (across axis) s.conditions) w (extent (across axis)) in
    why_ruled axis (x && y) (word ps 0) w s (Unperformed (Rule axis) ps s)
    (λ some e. off_page refl some (elim (and_cases x y e) [ inl p ↦ inl (off _ _ _ p) | inr p ↦ inr (off _ _ _ p) ])) (list_full_rule refl)

pub why_obeyed : (c : Bool) (bs : List ℕ) (s : Canvas) (h : Control) → control_of c bs ≡ Ok h → Why (obeyed h bs s).result (Unobeyed c bs s)
unfolding obeyed
why_obeyed c bs s h e =
    why_then (effect h.kind (parameters h bs) s) (succeeded h bs) (Unobeyed c bs s)
    (weaker (effect h.kind (parameters h bs) s).result (Unperformed h.kind (parameters h bs) s) (Unobeyed c bs s) (λ r u. unperformed e u) (why_effect h.kind (parameters h bs) s))
    (λ t did. cond_both (h.chained && eqb (length bs) h.end) (refused BadControl t) (done t) (λ (o : Out Refusal). Why o.result (Unobeyed c bs s))
    (λ p. let both = and_parts h.chained (eqb (length bs) h.end) p in no_successor e did both.0 (sym (eqb-true (length bs) h.end both.1))) (λ _. tt))
