use Rattle.std.proofs.Common.{rules}
use Rattle.compose.proofs.Places.{read_back}
use Rattle.compose.proofs.ebcdic.to_ebcdic.Goals as goal

pub returns : goal.returns
returns c = record { value = search rules; back = λ low high. read_back c.args.character _ _ c.code_in_table.ensures c.from.ensures low high }
