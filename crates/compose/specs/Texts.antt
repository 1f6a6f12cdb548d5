-- The data of a Write Text command, piece by piece, and the command.
--   high, low      the two bytes of a number
--   position       controls that set the position: inline, and chained to it baseline
--   font_control    a control that sets the font
--   characters     the EBCDIC codes of characters
--   rule_type       the type of the control that draws a rule with its length in a direction
--   rule_control    a control of a type that draws a rule: its length and width, signed
--   command        Write Text with this data and without a request; none where it would pass 32,767 bytes
use Rattle.std.specs.Prelude.{ℕ, ◌+◌, ◌/◌, ◌%◌, cond, List, [], ◌∷◌, ◌++◌, length, ℤ, Some, None, Option, nat_lt}
use Rattle.compose.specs.Ebcdic.{ebcdic_of}
use Rattle.compose.specs.declared.builder.Rule.{Rule}
use Rattle.compose.specs.declared.builder.Rule.TheVariants.{Inline, Baseline}
use Rattle.std.specs.Int.{w16}
use Rattle.std.proofs.Common.{of_z}

abbrev pub high : ℕ → ℕ
high n = n / 256 % 256

abbrev pub low : ℕ → ℕ
low n = n % 256

abbrev pub position : ℕ → ℕ → List ℕ
position i b = 0x2B ∷ 0xD3 ∷ 0x04 ∷ 0xC7 ∷ high i ∷ low i ∷ 0x04 ∷ 0xD2 ∷ high b ∷ low b ∷ []

abbrev pub font_control : ℕ → List ℕ
font_control number = 0x2B ∷ 0xD3 ∷ 0x03 ∷ 0xF0 ∷ number ∷ []

abbrev pub characters : List ℕ → List ℕ
characters [] = []
characters (c ∷ cs) = ebcdic_of c ∷ characters cs

abbrev pub rule_type : Rule → ℕ
rule_type Inline = 0xE4
rule_type Baseline = 0xE6

abbrev pub rule_control : ℕ → ℤ → ℤ → List ℕ
rule_control type length width =
    0x2B ∷ 0xD3 ∷ 0x07 ∷ type ∷ high (of_z w16 length) ∷ low (of_z w16 length) ∷ high (of_z w16 width) ∷ low (of_z w16 width) ∷ 0x00 ∷ []

abbrev pub header : ℕ → List ℕ
header n = high n ∷ low n ∷ 0xD6 ∷ 0x2D ∷ 0x00 ∷ []

abbrev pub command : List ℕ → Option (List ℕ)
command text = cond (nat_lt 32767 (length text + 5)) None (Some (header (length text + 5) ++ text))
