-- Bins of records in bytes.
--   sheets_of   the stacked sheets: those that the first records of the bytes tell
--   room_of     how many more whole records the bytes have a place for
--   Filed       the bytes have a sheet's record more behind the others, and nothing else has changed
use Rattle.std.specs.Prelude.{◌≡◌, ℕ, ◌+◌, ◌-◌, ◌*◌, ◌/◌, List, vec_items, vec_len}
use Rattle.std.specs.Vec.{with_items_from}
use Rattle.engine.specs.declared.sheet.Sheet.{Sheet}
use Rattle.engines.specs.declared.file.Records.{Records}
use Rattle.engines.specs.Records.{bytes_of, sheets_in}

abbrev pub sheets_of : Records → List Sheet
sheets_of b = sheets_in b.stacked (vec_items b.bytes)

abbrev pub room_of : Records → ℕ
room_of b = vec_len b.bytes / 8 - b.stacked

pub record Filed (b : Records) (s : Sheet) (c : Records) : Type 0 where
  pub bytes : c.bytes ≡ with_items_from b.bytes (8 * b.stacked) (bytes_of s)
  pub stacked : c.stacked ≡ b.stacked + 1
