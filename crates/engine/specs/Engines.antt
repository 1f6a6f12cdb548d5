-- What an engine does, by the paper in it.
--   Paper      the path (sheets that were fed, the oldest first), the bin (stacked sheets, the latest last)
--              and the room (how many more sheets the bin takes)
--   taken      whether a sheet that is fed is taken: not where the path holds K sheets
--   fed        the paper once a sheet is fed
--   advance    the paper once the path's oldest sheet is stacked; as it was where there is none or no room
--   advanced   what an advance answers
--   purged     the paper with the path emptied
--   Sound      what holds of every engine: K is from 1 to 8, and the path holds at most K sheets
use Rattle.std.specs.Prelude.{ℕ, zero, suc, ◌<◌, ◌≤◌, Bool, cond, List, [], ◌∷◌, ◌++◌, length, nat_lt}
use Rattle.engine.specs.declared.sheet.Sheet.{Sheet}
use Rattle.engine.specs.declared.sheet.Advanced.{Advanced}
use Rattle.engine.specs.declared.sheet.Advanced.TheVariants.{Stacked, PathEmpty, BinFull}

pub record Paper : Type 0 where
  pub path : List Sheet
  pub bin : List Sheet
  pub room : ℕ

abbrev pub paper : List Sheet → List Sheet → ℕ → Paper
paper p b n = record { path = p; bin = b; room = n }

abbrev pub taken : ℕ → Paper → Bool
taken K p = nat_lt (length p.path) K

-- a sheet at the end of the path
abbrev pub put : Sheet → Paper → Paper
put s p = paper (p.path ++ (s ∷ [])) p.bin p.room

abbrev pub fed : ℕ → Sheet → Paper → Paper
fed K s p = cond (taken K p) (put s p) p

abbrev pub advance_at : List Sheet → List Sheet → ℕ → Paper
advance_at [] bin n = paper [] bin n
advance_at (s ∷ ss) bin zero = paper (s ∷ ss) bin zero
advance_at (s ∷ ss) bin (suc n) = paper ss (bin ++ (s ∷ [])) n

abbrev pub advance : Paper → Paper
advance p = advance_at p.path p.bin p.room

abbrev pub advanced_at : List Sheet → ℕ → Advanced
advanced_at [] n = PathEmpty
advanced_at (s ∷ ss) zero = BinFull
advanced_at (s ∷ ss) (suc n) = Stacked s

abbrev pub advanced : Paper → Advanced
advanced p = advanced_at p.path p.room

abbrev pub purged : Paper → Paper
purged p = paper [] p.bin p.room

pub record Sound (K : ℕ) (path : List Sheet) : Type 0 where
  pub some : 0 < K
  pub few : K ≤ 8
  pub short : length path ≤ K
