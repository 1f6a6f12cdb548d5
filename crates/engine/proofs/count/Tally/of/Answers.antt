use Rattle.std.proofs.Common.{◌+◌, drop, sym, ap, ◌∙◌}
use Rattle.std.specs.Option.{option_map}
use Rattle.engine.specs.Tallies.{counted}
use Rattle.engine.proofs.Tallying.{tallied}
use Rattle.engine.proofs.Counting.{on_from, counts_on, counted_all}
use Rattle.engine.proofs.count.Tally.of.Goals as goal

pub returns-in_err-tally : goal.returns-in_err-tally
returns-in_err-tally c =
    let left = drop (c.loop-sheet.sheet-index + 1) c.args.sheets.now in
    let on = counts_on c.args.sheets.now c.loop-sheet.sheet-index _ (counted c.loop-sheet.tally) c.plus.result _ c.loop-sheet-test.true c.plus.ensures c.loop-sheet.invariant in
    record { tally = ap (option_map counted) c.from_residual.ensures ∙ ap (λ o. on_from left (option_map counted o)) (sym c.in_err-tally.was) ∙ on; words = tallied }

pub loop-sheet-preserved : goal.loop-sheet-preserved
loop-sheet-preserved c =
    let left = drop (c.loop-sheet.sheet-index + 1) c.args.sheets.now in
    ap (λ o. on_from left (option_map counted o)) (sym c.in_ok-tally.was)
    ∙ counts_on c.args.sheets.now c.loop-sheet.sheet-index _ (counted c.loop-sheet.tally) c.plus.result _ c.loop-sheet-test.true c.plus.ensures c.loop-sheet.invariant

pub returns : goal.returns
returns c = record { tally = counted_all c.args.sheets.now c.loop-sheet.sheet-index _ _ c.loop-sheet-test.false c.loop-sheet.invariant; words = tallied }
