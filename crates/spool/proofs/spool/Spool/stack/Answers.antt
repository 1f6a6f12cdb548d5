use Rattle.std.proofs.Common.{arith}
use Rattle.std.proofs.lemmas.Grind.{common_steps}
use Rattle.spool.proofs.Keeping.{kept_stack, stack_counts}
use Rattle.spool.proofs.spool.Spool.stack.Goals as goal

pub returns-in_default-plus : goal.returns-in_default-plus
returns-in_default-plus c = absurd (stack_counts _ _ c.self.invariant c.in-Some.ensures c.in_default-plus.ensures)

pub invariant_of-self : goal.invariant_of-self
invariant_of-self c = kept_stack _ _ c.self.invariant (grind (arith, common_steps))

pub returns-clause-kept : goal.returns-clause-kept
returns-clause-kept c = kept_stack _ _ c.self.invariant (grind (arith, common_steps))
