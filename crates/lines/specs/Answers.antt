-- The lines that answer a script, each with its newline.
--   number_line     a name and the number that follows it
--   hex_line        a name and bytes
--   take_line       what a take used, its number, the size of its reply, and how many marks it told
--   counters_line   pages received, and the pages and copies that are committed and stacked
--   place_text      a number that may be negative, after a space
--   mark_line       a mark: its kind, its place, and its two numbers
--   areas_line      the sizes of the areas
--   memory_line     bytes of the memory: their address, how many they are, and what they are
--   flag_text       a yes as 1, a no as 0
--   sheet_line      a sheet, between words: its page, its copy, and whether that copy is the page's last
use Rattle.std.specs.Prelude.{ℕ, Bool, cond, List, ◌++◌, length, ℤ, codes, decimal}
use Rattle.std.specs.Fmt.{signed_decimal}
use Rattle.engine.specs.declared.sheet.Sheet.{Sheet}
use Rattle.script.specs.declared.call.Areas.{Areas}
use Rattle.hexadecimal.specs.Hex.{page_text, spaced_hex}

abbrev pub number_line : List ℕ → ℕ → List ℕ
number_line name n = name ++ (decimal n ++ codes "\n")

abbrev pub hex_line : List ℕ → List ℕ → List ℕ
hex_line name bytes = name ++ (spaced_hex bytes ++ codes "\n")

abbrev pub take_line : ℕ → ℕ → ℕ → ℕ → List ℕ
take_line used number reply marks =
    codes "take used=" ++ (decimal used
    ++ (codes " number=" ++ (decimal number
    ++ (codes " reply=" ++ (decimal reply
    ++ (codes " marks=" ++ (decimal marks
    ++ codes "\n")))))))

abbrev pub counters_line : ℕ → ℕ × ℕ → ℕ × ℕ → List ℕ
counters_line received committed stacked =
    codes "counters received=" ++ (decimal received
    ++ (codes " committed=" ++ (decimal committed.0
    ++ (codes "/" ++ (decimal committed.1
    ++ (codes " stacked=" ++ (decimal stacked.0
    ++ (codes "/" ++ (decimal stacked.1
    ++ codes "\n")))))))))

abbrev pub place_text : ℤ → List ℕ
place_text z = codes " " ++ signed_decimal z

abbrev pub mark_line : ℕ → ℤ → ℤ → ℤ → ℤ → List ℕ
mark_line kind i b first second =
    codes "mark " ++ (decimal kind
    ++ (place_text i
    ++ (place_text b
    ++ (place_text first
    ++ (place_text second
    ++ codes "\n")))))

abbrev pub areas_line : Areas → List ℕ
areas_line areas =
    codes "areas " ++ (decimal areas.reply
    ++ (codes " " ++ (decimal areas.marks
    ++ (codes " " ++ (decimal areas.memory
    ++ codes "\n")))))

abbrev pub memory_line : ℕ → List ℕ → List ℕ
memory_line at bytes = hex_line (codes "memory " ++ (decimal at ++ (codes " " ++ decimal (length bytes)))) bytes

abbrev pub flag_text : Bool → List ℕ
flag_text b = cond b (codes "1") (codes "0")

abbrev pub sheet_line : List ℕ → Sheet → List ℕ → List ℕ
sheet_line name sheet end =
    name
    ++ (codes "page=" ++ (page_text sheet.page
    ++ (codes " copy=" ++ (decimal sheet.copy
    ++ (codes " last=" ++ (flag_text sheet.last
    ++ (end ++ codes "\n")))))))
