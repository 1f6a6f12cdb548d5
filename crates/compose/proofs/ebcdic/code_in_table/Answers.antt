use Rattle.std.proofs.Common.{rules}
use Rattle.compose.specs.Ebcdic.{table}
use Rattle.compose.proofs.ebcdic.code_in_table.Goals as goal

pub returns : goal.returns
unfolding table
returns c = search rules
