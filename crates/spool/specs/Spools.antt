-- The code's counters, as definitions see them.
--   Numbers    the five counters: received, the committed pair, the stacked pair
--   told       the counters that the code hands out
--   bytes_of    the five counters in two bytes each, the high byte first
use Rattle.std.specs.Prelude.{ℕ, ◌/◌, ◌%◌, List, [], ◌∷◌}
use Rattle.engine.specs.Sheets.{Pair}
use Rattle.engine.specs.Tallies.{counted}
use Rattle.spool.specs.declared.page.Counters.{Counters}
use Rattle.spool.specs.Spooled.{Spooled}

pub record Numbers : Type 0 where
  pub received : ℕ
  pub committed : Pair
  pub stacked : Pair

abbrev pub numbers : ℕ → Pair → Pair → Numbers
numbers r c s = record { received = r; committed = c; stacked = s }

abbrev pub told : Counters → Numbers
told c = numbers c.received.0 (counted c.committed) (counted c.stacked)

abbrev pub numbers_of : Spooled → Numbers
numbers_of b = numbers b.received b.committed b.stacked

-- before the other bytes
abbrev pub two : ℕ → List ℕ → List ℕ
two n bs = n / 256 ∷ (n % 256 ∷ bs)

abbrev pub bytes_of : Numbers → List ℕ
bytes_of n = two n.received (two n.committed.pages (two n.committed.copies (two n.stacked.pages (two n.stacked.copies []))))
