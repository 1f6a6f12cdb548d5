-- Each refusal of a character or a control has its ground.
use Rattle.std.proofs.Common.{◌≡◌, ℕ, ◌+◌, ◌≤◌, Bool, true, false, cond, ◌&&◌, ◌||◌, eqb, ltb, leb, ◌⊎◌, List, [], ◌∷◌, length, ℤ, pos, ◌+ℤ◌, nat_abs, ◌<ℤ◌, Some, None, Ok, Err, Option, Result, refl, ap, ◌∙◌, inl, inr}
use lib.Signed.{lt_z, le_z}
use Rattle.std.proofs.lemmas.Bool.{cond_both, ltb-false, leb-false, eqb-false, and_cases, or_cases, or_parts, both_ways}
use Rattle.refusal.specs.declared.Refusal.{Refusal}
use Rattle.refusal.specs.declared.Refusal.TheVariants.{Outside, MarksFull}
use Rattle.text.specs.declared.axis.Axis.{Axis}
use Rattle.text.specs.declared.axis.Axis.TheVariants.{Inline, Baseline}
use Rattle.text.specs.declared.mark.Mark.{Mark}
use Rattle.text.specs.declared.conditions.TextConditions.{TextConditions}
use Rattle.text.specs.declared.step.Step.{Step}
use Rattle.text.specs.Axes.{extent}
use Rattle.text.specs.Fonts.{advance_of}
use Rattle.text.specs.Canvases.{Canvas, Out, done, and_then}
use Rattle.text.specs.Steps.{step, fits, marked, onward, put, taken, character}
use Rattle.text.specs.Moves.{moved, moved_by}
use Rattle.text.specs.Rules.{spans, nothing, bar, ruled}
use Rattle.text.specs.Runs.{characters}
use Rattle.text.specs.Grounds.{Unplaced, past_edge, under_page, list_full, Unplaceds, Off, Ruled}
use Rattle.text.proofs.Why.{Why, why_then, weaker, less, not_most}

-- a mark has no place
why_put : (m : Mark) (t : TextConditions) (s : Canvas) (P : Refusal → Type 0) → (length s.marks ≤ s.count → P MarksFull) → Why (put (Some m) t s).result P
why_put m t s P full = cond_both (ltb s.count (length s.marks)) _ _ (λ (o : Out Refusal). Why o.result P) (λ _. tt) (λ e. full (ltb-false _ _ e))

pub why_character : (c : ℕ) (s : Canvas) → Why (character c s).result (Unplaced c s)
why_character c s =
    let t = s.conditions in
    cond_both (fits c t) (Ok (step (cond (eqb c 0x40) None (Some (marked c t))) (onward c t))) (Err Outside) (λ (p : Result Step Refusal). Why (taken p s).result (Unplaced c s))
    (λ _. cond_both (eqb c 0x40) None (Some (marked c t)) (λ (m : Option Mark). Why (put m (onward c t) s).result (Unplaced c s)) (λ _. tt)
    (λ e. why_put (marked c t) (onward c t) s (Unplaced c s) (list_full (eqb-false c 0x40 e))))
    (λ e. elim (and_cases (leb (t.i + advance_of t.font c) (extent Inline)) (leb t.b (extent Baseline)) e) [ inl p ↦ past_edge (leb-false _ _ p) | inr p ↦ under_page (leb-false _ _ p) ])

-- characters in a row
first_unplaced : (c : ℕ) (cs : List ℕ) (s : Canvas) (r : Refusal) → Unplaced c s r → Unplaceds (c ∷ cs) s r
unfolding characters
first_unplaced c cs s r g = record { before = []; code = c; after = cs; reached = s; parts = refl; placed = refl; ground = g }

later_unplaced : (c : ℕ) (cs : List ℕ) (s t : Canvas) (r : Refusal) → character c s ≡ done t → Unplaceds cs t r → Unplaceds (c ∷ cs) s r
unfolding characters
later_unplaced c cs s t r e u = record {
  before = c ∷ u.before;
  code = u.code;
  after = u.after;
  reached = u.reached;
  parts = ap (λ l. c ∷ l) u.parts;
  placed = ap (λ (o : Out Refusal). and_then o (characters u.before)) e ∙ u.placed;
  ground = u.ground;
}

pub why_characters : (cs : List ℕ) (s : Canvas) → Why (characters cs s).result (Unplaceds cs s)
unfolding characters
why_characters [] s = tt
why_characters (c ∷ cs) s =
    why_then (character c s) (characters cs) (Unplaceds (c ∷ cs) s) (weaker (character c s).result (Unplaced c s) (Unplaceds (c ∷ cs) s) (first_unplaced c cs s) (why_character c s))
    (λ t e. weaker (characters cs t).result (Unplaceds cs t) (Unplaceds (c ∷ cs) s) (λ r. later_unplaced c cs s t r e) (why_characters cs t))

-- moves
abbrev pub Far : ℤ → Type 0
Far z = (z <ℤ pos 0) ⊎ (pos 32767 <ℤ z)

far : (z : ℤ) → (lt_z z (pos 0) || lt_z (pos 32767) z) ≡ true → Far z
far z e = elim (or_cases (lt_z z (pos 0)) (lt_z (pos 32767) z) e) [ inl p ↦ inl (less _ _ p) | inr p ↦ inr (less _ _ p) ]

pub why_moved : (axis : Axis) (z : ℤ) (s : Canvas) (P : Refusal → Type 0) → (Far z → P Outside) → Why (taken (moved axis z s.conditions) s).result P
why_moved axis z s P g =
    cond_both (lt_z z (pos 0) || lt_z (pos 32767) z) (Err Outside) (Ok (nat_abs z)) (λ (o : Result ℕ Refusal). Why (taken (moved_by axis o s.conditions) s).result P) (λ e. g (far z e)) (λ _. tt)

-- rules
pub off : (from : ℕ) (by : ℤ) (limit : ℕ) → spans from by limit ≡ false → Off from by limit
off from by limit e =
    elim (and_cases (leb from limit) (le_z (pos 0) (pos from +ℤ by) && le_z (pos from +ℤ by) (pos limit)) e) [
      | inl p ↦ inl (leb-false _ _ p)
      | inr q ↦ elim (and_cases (le_z (pos 0) (pos from +ℤ by)) (le_z (pos from +ℤ by) (pos limit)) q) [ inl p ↦ inr (inl (not_most _ _ p)) | inr p ↦ inr (inr (not_most _ _ p)) ]
    ]

some : (z : ℤ) → nothing z ≡ false → z ≡ pos 0 → ⊥
some z e is = both_ways (nothing z) e (ap nothing is)

pub why_ruled : (axis : Axis) (inside : Bool) (l w : ℤ) (s : Canvas) (P : Refusal → Type 0) → (Ruled l w → inside ≡ false → P Outside) → (Ruled l w → length s.marks ≤ s.count → P MarksFull) → Why (taken (ruled axis inside l w s.conditions) s).result P
why_ruled axis inside l w s P out_of_lem full =
    let t = s.conditions in
    cond_both (nothing l || nothing w) (Ok (step None t)) (cond inside (Ok (step (Some (bar axis l w t)) t)) (Err Outside)) (λ (p : Result Step Refusal). Why (taken p s).result P) (λ _. tt)
    (λ e.
    let n = or_parts (nothing l) (nothing w) e in
    let some_of : Ruled l w = record { long = some l n.0; wide = some w n.1 } in
    cond_both inside (Ok (step (Some (bar axis l w t)) t)) (Err Outside) (λ (p : Result Step Refusal). Why (taken p s).result P)
    (λ _. why_put (bar axis l w t) t s P (full some_of)) (λ i. out_of_lem some_of i))
