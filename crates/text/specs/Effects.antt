-- What a control does.
--   two         two bytes of the parameters as a number, the high byte first
--   word        the same as a signed number
--   width       a rule's width; omitted, or with every bit set, it is the usual one
--   repeated    so many characters of a pattern; at most 32,767, and none of an empty pattern
--   effect      each kind with its parameters
--   succeeded   where another control is to follow and the bytes end, a refusal
--   obeyed      a control: its effect, and then whether it has its successor
use Rattle.std.specs.Prelude.{ℕ, ◌+◌, ◌*◌, cond, ◌&&◌, ◌||◌, List, length, drop, ℤ, pos, ◌+ℤ◌, ◌==◌, nat_lt, slice_index}
use Rattle.std.specs.Int.{w16}
use Rattle.std.proofs.Common.{to_z}
use Rattle.refusal.specs.declared.Refusal.{Refusal}
use Rattle.refusal.specs.declared.Refusal.TheVariants.{BadControl}
use Rattle.text.specs.declared.control.Kind.{Kind}
use Rattle.text.specs.declared.control.Kind.TheVariants.{Absolute, Relative, SetFont, Transparent, Repeat, Rule}
use Rattle.text.specs.declared.control.Control.{Control}
use Rattle.text.specs.Axes.{usual_width, position}
use Rattle.text.specs.Canvases.{Canvas, Out, done, refused, and_then}
use Rattle.text.specs.Steps.{taken}
use Rattle.text.specs.Moves.{moved, fonted}
use Rattle.text.specs.Rules.{rule}
use Rattle.text.specs.Runs.{characters}
use Rattle.text.specs.Cycles.{cycled}
use Rattle.text.specs.Controls.{parameters}

abbrev pub two : List ℕ → ℕ → ℕ
two ps k = slice_index ps k * 256 + slice_index ps (k + 1)

abbrev pub word : List ℕ → ℕ → ℤ
word ps k = to_z w16 (two ps k)

abbrev pub width : ℤ → List ℕ → ℤ
width usual ps = cond (nat_lt (length ps) 4 || two ps 2 == 0xFFFF) usual (word ps 2)

abbrev pub repeated : ℕ → List ℕ → Canvas → Out Refusal
repeated n pattern s =
    cond (nat_lt 32767 n || (length pattern == 0 && nat_lt 0 n)) (refused BadControl s) (characters (cycled n pattern) s)

abbrev pub effect : Kind → List ℕ → Canvas → Out Refusal
effect (Absolute axis) ps s = taken (moved axis (word ps 0) s.conditions) s
effect (Relative axis) ps s = taken (moved axis (pos (position axis s.conditions) +ℤ word ps 0) s.conditions) s
effect SetFont ps s = taken (fonted (slice_index ps 0) s.conditions) s
effect Transparent ps s = characters ps s
effect Repeat ps s = repeated (two ps 0) (drop 2 ps) s
effect (Rule axis) ps s = taken (rule axis (word ps 0) (width (usual_width axis) ps) s.conditions) s

abbrev pub succeeded : Control → List ℕ → Canvas → Out Refusal
succeeded h bs s = cond (h.chained && length bs == h.end) (refused BadControl s) (done s)

unfoldable pub obeyed : Control → List ℕ → Canvas → Out Refusal
obeyed h bs s = and_then (effect h.kind (parameters h bs) s) (succeeded h bs)
