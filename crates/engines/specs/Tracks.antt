-- Bins in a list.
--   sheets_of   the stacked sheets: the list's first ones
--   room_of     how many of the list's places are left
--   Written     the list has a sheet more at its first unused place, and nothing else has changed
use Rattle.std.specs.Prelude.{◌≡◌, ℕ, ◌+◌, ◌-◌, List, take, vec_items, vec_len}
use Rattle.std.specs.Vec.{with_item}
use Rattle.engine.specs.declared.sheet.Sheet.{Sheet}
use Rattle.engines.specs.declared.track.SheetList.{SheetList}

abbrev pub sheets_of : SheetList → List Sheet
sheets_of b = take b.stacked (vec_items b.list)

abbrev pub room_of : SheetList → ℕ
room_of b = vec_len b.list - b.stacked

pub record Written (b : SheetList) (s : Sheet) (c : SheetList) : Type 0 where
  pub list : c.list ≡ with_item b.list b.stacked s
  pub stacked : c.stacked ≡ b.stacked + 1
