use Rattle.std.proofs.Common.{◌∙◌, arith}
use Rattle.text.proofs.Cycles.{cycle_on, cycle_off, cycle_end}
use Rattle.text.proofs.Outs.{handed_on}
use Rattle.text.proofs.writer.Writer.cycle.Goals as goal

pub returns-in_err-character-clause-cycle : goal.returns-in_err-character-clause-cycle
returns-in_err-character-clause-cycle c =
    rw (handed_on c.from_residual.result c.from_residual.ensures.1) (cycle_off _ _ c.requires c.loop-k.k _ _ _ _ _ _ (omega arith) c.code_at.ensures c.character.ensures.character c.in_err-character.was c.loop-k.invariant.1)

pub loop-k-preserved : goal.loop-k-preserved
loop-k-preserved c = (
  c.character.ensures.same_list ∙ c.loop-k.invariant.0,
  cycle_on _ _ c.requires c.loop-k.k _ _ _ _ _ (omega arith) c.code_at.ensures c.character.ensures.character c.in_ok-character.was c.loop-k.invariant.1,
)

pub returns-clause-cycle : goal.returns-clause-cycle
returns-clause-cycle c = cycle_end _ _ c.requires c.loop-k.k _ _ (omega arith) c.loop-k.invariant.1
