-- The fonts.
--   number_of    a font's number: 1, 2 or 3
--   font_of      the font of a number, where there is one
--   font_named   the same for a text that names the number: another one is refused
--   advance_of   how far a code of a font advances, in 1/1440 inch
use Rattle.std.specs.Prelude.{ℕ, cond, Some, None, Option, Result, ok_or, ◌==◌}
use Rattle.refusal.specs.declared.Refusal.{Refusal}
use Rattle.refusal.specs.declared.Refusal.TheVariants.{BadControl}
use Rattle.text.specs.declared.font.Font.{Font}
use Rattle.text.specs.declared.font.Font.TheVariants.{Ten, Twelve, Fifteen}

abbrev pub number_of : Font → ℕ
number_of Ten = 1
number_of Twelve = 2
number_of Fifteen = 3

abbrev pub font_of : ℕ → Option Font
font_of n = cond (n == 1) (Some Ten) (cond (n == 2) (Some Twelve) (cond (n == 3) (Some Fifteen) None))

abbrev pub font_named : ℕ → Result Font Refusal
font_named n = ok_or (font_of n) BadControl

-- ten, twelve and fifteen characters to the inch
abbrev pub advance_of : Font → ℕ → ℕ
advance_of Ten code = 144
advance_of Twelve code = 120
advance_of Fifteen code = 96
