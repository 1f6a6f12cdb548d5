-- Sheets as records of eight bytes.
--   bytes_of    the record of a sheet: the page's ID in four bytes, the high one first, the copy's number in two,
--              1 for a last copy and 0 for another, and a 0
--   sheet_of    the sheet that a record tells
--   sheets_in   the sheets that the first so many records of a list of bytes tell
use Rattle.std.specs.Prelude.{ℕ, zero, suc, ◌+◌, ◌*◌, ◌/◌, ◌%◌, cond, List, [], ◌∷◌, take, drop, ◌==◌, slice_index}
use Rattle.engine.specs.declared.sheet.Sheet.{Sheet}

abbrev pub bytes_of : Sheet → List ℕ
bytes_of s = (s.page / 16777216 % 256) ∷ (s.page / 65536 % 256) ∷ (s.page / 256 % 256) ∷ (s.page % 256) ∷ 0 ∷ s.copy ∷ cond s.last 1 0 ∷ 0 ∷ []

abbrev pub sheet_of : List ℕ → Sheet
sheet_of bs =
    record {
      page = slice_index bs 0 * 16777216 + slice_index bs 1 * 65536 + slice_index bs 2 * 256 + slice_index bs 3;
      copy = slice_index bs 4 * 256 + slice_index bs 5;
      last = (slice_index bs 6 == 1);
    }

abbrev pub sheets_in : ℕ → List ℕ → List Sheet
sheets_in zero bs = []
sheets_in (suc n) bs = sheet_of (take 8 bs) ∷ sheets_in n (drop 8 bs)
