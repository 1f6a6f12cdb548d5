-- Tallies as the code keeps them.
--   counted   a tally's two counts as numbers
--   plus_of    a tally with one more sheet, where its counts can hold it
--   tally_in   a tally with a list of sheets, where its counts can hold them
use Rattle.std.specs.Prelude.{Bool, cond, List, [], ◌∷◌, Some, None, Option, nat_lt}
use Rattle.engine.specs.declared.sheet.Sheet.{Sheet}
use Rattle.engine.specs.declared.count.Tally.{Tally}
use Rattle.engine.specs.Sheets.{Pair, pair, after}

abbrev pub counted : Tally → Pair
counted t = pair t.pages.0 t.copies.0

-- the counts can hold one more sheet
abbrev pub fits : Pair → Sheet → Bool
fits t s = cond s.last (nat_lt t.pages 65535) (nat_lt t.copies 255)

abbrev pub plus_of : Pair → Sheet → Option Pair
plus_of t s = cond (fits t s) (Some (after t s)) None

abbrev pub tally_in : Pair → List Sheet → Option Pair
tally_in t [] = Some t
tally_in t (s ∷ ss) = cond (fits t s) (tally_in (after t s) ss) None
