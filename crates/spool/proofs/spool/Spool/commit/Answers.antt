use Rattle.std.proofs.Common.{arith}
use Rattle.std.proofs.lemmas.Grind.{common_steps}
use Rattle.spool.proofs.Keeping.{kept_commit}
use Rattle.spool.proofs.spool.Spool.commit.Goals as goal

pub invariant_of-self : goal.invariant_of-self
invariant_of-self c = kept_commit _ _ c.self.invariant (grind (arith, common_steps))

pub invariant_of-self-else-sheet : goal.invariant_of-self-else-sheet
invariant_of-self-else-sheet c = kept_commit _ _ c.self.invariant (grind (arith, common_steps))

pub returns-then-sheet-clause-kept : goal.returns-then-sheet-clause-kept
returns-then-sheet-clause-kept c = kept_commit _ _ c.self.invariant (grind (arith, common_steps))

pub returns-else-sheet-clause-kept : goal.returns-else-sheet-clause-kept
returns-else-sheet-clause-kept c = kept_commit _ _ c.self.invariant (grind (arith, common_steps))
