-- Rules: bars from the position on, of a signed length and a signed width.
--   spans     from a position by a signed number, both ends are within 0 and a limit
--   nothing   a length or a width of 0
--   bar       a rule's mark: the kind of its direction, its length and its width
--   on_page   a rule from the position on stands within the page: its length in its direction, and its width across it
--   ruled     the step of a rule that stands within the page or not
--   rule      the step of a rule in a direction
-- A rule of length 0 or width 0 leaves no mark, wherever it stands. The position stays.
use Rattle.std.specs.Prelude.{ℕ, Bool, cond, ◌&&◌, ◌||◌, ℤ, pos, ◌+ℤ◌, Some, None, Ok, Err, Result, int_le, nat_le}
use Rattle.refusal.specs.declared.Refusal.{Refusal}
use Rattle.refusal.specs.declared.Refusal.TheVariants.{Outside}
use Rattle.text.specs.declared.axis.Axis.{Axis}
use Rattle.text.specs.declared.mark.Mark.{Mark}
use Rattle.text.specs.declared.conditions.TextConditions.{TextConditions}
use Rattle.text.specs.declared.step.Step.{Step}
use Rattle.text.specs.Axes.{across, extent, position, rule_kind}
use Rattle.text.specs.Steps.{step}

abbrev pub spans : ℕ → ℤ → ℕ → Bool
spans from by limit = nat_le from limit && (int_le (pos 0) (pos from +ℤ by) && int_le (pos from +ℤ by) (pos limit))

abbrev pub nothing : ℤ → Bool
nothing z = int_le (pos 0) z && int_le z (pos 0)

abbrev pub bar : Axis → ℤ → ℤ → TextConditions → Mark
bar axis length width t = record { kind = rule_kind axis; i = t.i; b = t.b; first = length; second = width }

abbrev pub on_page : Axis → ℤ → ℤ → TextConditions → Bool
on_page axis length width t = spans (position axis t) length (extent axis) && spans (position (across axis) t) width (extent (across axis))

abbrev pub ruled : Axis → Bool → ℤ → ℤ → TextConditions → Result Step Refusal
ruled axis inside length width t =
    cond (nothing length || nothing width) (Ok (step None t)) (cond inside (Ok (step (Some (bar axis length width t)) t)) (Err Outside))

abbrev pub rule : Axis → ℤ → ℤ → TextConditions → Result Step Refusal
rule axis length width t = ruled axis (on_page axis length width t) length width t
