-- Bytes as text.
--   hex_digit   a number below sixteen as a hexadecimal digit in upper case
--   hex_text    bytes as two hexadecimal digits each
--   page_text   a page's ID as eight hexadecimal digits
--   spaced_hex  bytes as hexadecimal digits after a space; nothing where there are none
use Rattle.std.specs.Prelude.{ℕ, ◌+◌, ◌/◌, ◌%◌, cond, List, [], ◌∷◌, length, ◌==◌, nat_lt}

abbrev pub hex_digit : ℕ → ℕ
hex_digit d = cond (nat_lt d 10) (48 + d) (55 + d)

abbrev pub hex_text : List ℕ → List ℕ
hex_text [] = []
hex_text (b ∷ bs) = hex_digit (b / 16) ∷ hex_digit (b % 16) ∷ hex_text bs

unfoldable pub page_text : ℕ → List ℕ
page_text page = hex_text ((page / 16777216 % 256) ∷ (page / 65536 % 256) ∷ (page / 256 % 256) ∷ (page % 256) ∷ [])

abbrev pub spaced_hex : List ℕ → List ℕ
spaced_hex bytes = cond (length bytes == 0) [] (32 ∷ hex_text bytes)
