-- The two directions of a page.
--   across        the other direction
--   extent        how far the page reaches in a direction, in 1/1440 inch: it is 12,240 by 15,840
--   usual_width   how wide a rule in a direction is, where it does not tell
--   position      the position in a direction
--   rule_kind     the kind of the mark of a rule in a direction
use Rattle.std.specs.Prelude.{ℕ, ℤ, pos}
use Rattle.text.specs.declared.axis.Axis.{Axis}
use Rattle.text.specs.declared.axis.Axis.TheVariants.{Inline, Baseline}
use Rattle.text.specs.declared.conditions.TextConditions.{TextConditions}

abbrev pub across : Axis → Axis
across Inline = Baseline
across Baseline = Inline

abbrev pub extent : Axis → ℕ
extent Inline = 12240
extent Baseline = 15840

abbrev pub usual_width : Axis → ℤ
usual_width Inline = pos 5
usual_width Baseline = pos 4

abbrev pub position : Axis → TextConditions → ℕ
position Inline t = t.i
position Baseline t = t.b

unfoldable pub rule_kind : Axis → ℕ
rule_kind Inline = 2
rule_kind Baseline = 3
