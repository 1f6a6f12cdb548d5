use Rattle.std.proofs.Common.{◌≡◌, drop}
use Rattle.engine.specs.Sheets.{pair}
use Rattle.engine.specs.Tallies.{counted, tally_in}
use Rattle.engine.proofs.count.Tally.of.Given as goal

abbrev pub invariant-loop-sheet : goal.invariant-loop-sheet
invariant-loop-sheet l = tally_in (counted l.tally) (drop l.sheet-index l.sheets) ≡ tally_in (pair 0 0) l.sheets
