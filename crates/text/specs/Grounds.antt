-- The grounds on which a text is refused.
--   Unplaced      why a character is not placed: past the page's edge, under the page, or the list of marks is full
--   Unplaceds     why one of several characters is not placed: those before it were
--   Misheaded     why a control's header is refused
--   Off           from a position by a signed number, something lies past 0 or a limit
--   Ruled         a rule that is neither of length 0 nor of width 0, and where it stands
--   Unperformed   why a control with parameters is not performed
--   Unobeyed      why a control is refused: its header, its parameters, or that it is chained to the end
--   Ground        why what begins at the first of the bytes is refused
use Rattle.std.specs.Prelude.{◌≡◌, ℕ, ◌+◌, ◌<◌, ◌≤◌, Bool, true, false, ◌⊎◌, List, ◌∷◌, ◌++◌, length, drop, ℤ, pos, ◌+ℤ◌, ◌<ℤ◌, Some, None, Ok, Option, ◌≢◌, slice_index}
use Rattle.refusal.specs.declared.Refusal.{Refusal}
use Rattle.refusal.specs.declared.Refusal.TheVariants.{ControlLength, BadControl, Outside, MarksFull}
use Rattle.text.specs.declared.axis.Axis.{Axis}
use Rattle.text.specs.declared.axis.Axis.TheVariants.{Inline, Baseline}
use Rattle.text.specs.declared.conditions.TextConditions.{TextConditions}
use Rattle.text.specs.declared.control.Kind.{Kind}
use Rattle.text.specs.declared.control.Kind.TheVariants.{Absolute, Relative, SetFont, Transparent, Repeat, Rule}
use Rattle.text.specs.declared.control.Control.{Control}
use Rattle.text.specs.Axes.{across, extent, usual_width, position}
use Rattle.text.specs.Fonts.{advance_of}
use Rattle.text.specs.Canvases.{Canvas, done}
use Rattle.text.specs.Runs.{characters}
use Rattle.text.specs.Cycles.{cycled}
use Rattle.text.specs.Controls.{kind_of, sized, control_of, parameters}
use Rattle.text.specs.Effects.{two, word, width, effect}
use Rattle.text.specs.Texts.{begins}

pub data Unplaced (c : ℕ) (s : Canvas) : Refusal → Type 0 where
  past_edge : extent Inline < s.conditions.i + advance_of s.conditions.font c → Unplaced c s Outside
  under_page : extent Baseline < s.conditions.b → Unplaced c s Outside
  list_full : (c ≢ 0x40) → length s.marks ≤ s.count → Unplaced c s MarksFull

pub record Unplaceds (cs : List ℕ) (s : Canvas) (r : Refusal) : Type 0 where
  pub before : List ℕ
  pub code : ℕ
  pub after : List ℕ
  pub reached : Canvas
  pub parts : cs ≡ before ++ code ∷ after
  pub placed : characters before s ≡ done reached
  pub ground : Unplaced code reached r

-- the bytes from the length byte on
abbrev pub body_of : Bool → List ℕ → List ℕ
body_of true bs = bs
body_of false bs = drop 2 bs

pub data Misheaded (chained : Bool) (bs : List ℕ) : Refusal → Type 0 where
  not_introduced : chained ≡ false → (slice_index bs 1 ≢ 0xD3) → Misheaded chained bs BadControl
  no_length : length (body_of chained bs) ≡ 0 → Misheaded chained bs ControlLength
  too_short : 0 < length (body_of chained bs) → slice_index (body_of chained bs) 0 < 2 → Misheaded chained bs ControlLength
  too_long : length (body_of chained bs) < slice_index (body_of chained bs) 0 → Misheaded chained bs ControlLength
  not_its_length : {k : Kind} → kind_of (slice_index (body_of chained bs) 1) ≡ Some k → sized k (slice_index (body_of chained bs) 0) ≡ false → Misheaded chained bs ControlLength
  unknown : 1 < length (body_of chained bs) → kind_of (slice_index (body_of chained bs) 1) ≡ None → Misheaded chained bs BadControl

-- where a move goes
abbrev pub target_of : Kind → List ℕ → TextConditions → Option ℤ
target_of (Absolute axis) ps t = Some (word ps 0)
target_of (Relative axis) ps t = Some (pos (position axis t) +ℤ word ps 0)
target_of SetFont ps t = None
target_of Transparent ps t = None
target_of Repeat ps t = None
target_of (Rule axis) ps t = None

abbrev pub Off : ℕ → ℤ → ℕ → Type 0
Off from by limit = (limit < from) ⊎ (((pos from +ℤ by) <ℤ pos 0) ⊎ (pos limit <ℤ (pos from +ℤ by)))

pub record Ruled (length width : ℤ) : Type 0 where
  pub long : length ≡ pos 0 → ⊥
  pub wide : width ≡ pos 0 → ⊥

pub data Unperformed (k : Kind) (ps : List ℕ) (s : Canvas) : Refusal → Type 0 where
  no_position : {z : ℤ} → target_of k ps s.conditions ≡ Some z → (z <ℤ pos 0) ⊎ (pos 32767 <ℤ z) → Unperformed k ps s Outside
  no_font : k ≡ SetFont → (slice_index ps 0 ≡ 0) ⊎ (3 < slice_index ps 0) → Unperformed k ps s BadControl
  letters : {r : Refusal} → k ≡ Transparent → Unplaceds ps s r → Unperformed k ps s r
  too_many : k ≡ Repeat → 32767 < two ps 0 → Unperformed k ps s BadControl
  no_pattern : k ≡ Repeat → 0 < two ps 0 → length (drop 2 ps) ≡ 0 → Unperformed k ps s BadControl
  repetitions : {r : Refusal} → k ≡ Repeat → Unplaceds (cycled (two ps 0) (drop 2 ps)) s r → Unperformed k ps s r
  off_page : {axis : Axis} → k ≡ Rule axis → Ruled (word ps 0) (width (usual_width axis) ps) → Off (position axis s.conditions) (word ps 0) (extent axis) ⊎ Off (position (across axis) s.conditions) (width (usual_width axis) ps) (extent (across axis)) → Unperformed k ps s Outside
  list_full_rule : {axis : Axis} → k ≡ Rule axis → Ruled (word ps 0) (width (usual_width axis) ps) → length s.marks ≤ s.count → Unperformed k ps s MarksFull

pub data Unobeyed (chained : Bool) (bs : List ℕ) (s : Canvas) : Refusal → Type 0 where
  misheaded : {r : Refusal} → Misheaded chained bs r → Unobeyed chained bs s r
  unperformed : {r : Refusal} {h : Control} → control_of chained bs ≡ Ok h → Unperformed h.kind (parameters h bs) s r → Unobeyed chained bs s r
  no_successor : {h : Control} {t : Canvas} → control_of chained bs ≡ Ok h → effect h.kind (parameters h bs) s ≡ done t → h.chained ≡ true → h.end ≡ length bs → Unobeyed chained bs s BadControl

pub data Ground (chained : Bool) (bs : List ℕ) (s : Canvas) : Refusal → Type 0 where
  character : {r : Refusal} → begins chained (slice_index bs 0) ≡ false → Unplaced (slice_index bs 0) s r → Ground chained bs s r
  control : {r : Refusal} → begins chained (slice_index bs 0) ≡ true → Unobeyed chained bs s r → Ground chained bs s r
