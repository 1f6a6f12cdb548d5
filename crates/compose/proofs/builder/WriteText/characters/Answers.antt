use Rattle.std.proofs.Common.{arith, rules}
use Rattle.compose.proofs.Pieces.{went_on, ended}
use Rattle.compose.proofs.builder.WriteText.characters.Goals as goal

pub loop-c-preserved : goal.loop-c-preserved
loop-c-preserved c = went_on _ _ _ _ c.loop-c.c-index c.loop-c-test.true (search rules) c.loop-c.invariant

pub returns : goal.returns
returns c = ended _ _ _ c.loop-c.c-index (omega arith) c.loop-c.invariant
