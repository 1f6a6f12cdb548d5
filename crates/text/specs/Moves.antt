-- Controls that change the conditions.
--   place        a position from a signed number: 0 to 32,767, and any other is refused
--   positioned   the position in a direction becomes a number
--   moved        the same by a signed number, where it is a position
--   fonted       the font becomes that of a number: 1, 2 or 3
-- A position may lie outside the page: what is placed there is judged when it is placed.
use Rattle.std.specs.Prelude.{ℕ, cond, ◌||◌, ℤ, pos, None, Ok, Err, Result, int_lt, unsigned_abs}
use Rattle.refusal.specs.declared.Refusal.{Refusal}
use Rattle.refusal.specs.declared.Refusal.TheVariants.{Outside}
use Rattle.text.specs.declared.axis.Axis.{Axis}
use Rattle.text.specs.declared.axis.Axis.TheVariants.{Inline, Baseline}
use Rattle.text.specs.declared.font.Font.{Font}
use Rattle.text.specs.declared.conditions.TextConditions.{TextConditions}
use Rattle.text.specs.declared.step.Step.{Step}
use Rattle.text.specs.Fonts.{font_named}
use Rattle.text.specs.Steps.{step}

abbrev pub place : ℤ → Result ℕ Refusal
place z = cond (int_lt z (pos 0) || int_lt (pos 32767) z) (Err Outside) (Ok (unsigned_abs z))

abbrev pub positioned : Axis → ℕ → TextConditions → TextConditions
positioned Inline n t = record { i = n; b = t.b; font = t.font }
positioned Baseline n t = record { i = t.i; b = n; font = t.font }

abbrev pub moved_by : Axis → Result ℕ Refusal → TextConditions → Result Step Refusal
moved_by axis (Err r) t = Err r
moved_by axis (Ok n) t = Ok (step None (positioned axis n t))

abbrev pub moved : Axis → ℤ → TextConditions → Result Step Refusal
moved axis z t = moved_by axis (place z) t

abbrev pub fonted_by : Result Font Refusal → TextConditions → Result Step Refusal
fonted_by (Err r) t = Err r
fonted_by (Ok f) t = Ok (step None (record { i = t.i; b = t.b; font = f }))

abbrev pub fonted : ℕ → TextConditions → Result Step Refusal
fonted n t = fonted_by (font_named n) t
