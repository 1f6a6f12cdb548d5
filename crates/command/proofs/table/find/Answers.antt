use Rattle.std.proofs.Common.{eqb, ◌∙◌, rules, tests}
use Rattle.std.proofs.lemmas.Iterator.{YieldsList-from_slice}
use Rattle.std.proofs.lemmas.Iterator.Search.{find_from_yields_List}
use Rattle.command.specs.Tables.{row_of, table}
use Rattle.command.specs.declared.table.Row.{Row}
use Rattle.command.proofs.table.find.Goals as goal

pub returns : goal.returns
unfolding row_of
returns c = c.copied.ensures ∙ find_from_yields_List (λ (r : Row). eqb r.code c.args.code) _ _ _ c.find.ensures.ran (YieldsList-from_slice table cc) (λ x b q k. search (rules, tests))
