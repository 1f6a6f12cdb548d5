use Rattle.std.proofs.Common.{arith}
use Rattle.std.proofs.lemmas.Grind.{common_steps}
use Rattle.spool.proofs.Keeping.{kept_receive}
use Rattle.spool.proofs.spool.Spool.receive.Goals as goal

pub invariant_of-self : goal.invariant_of-self
invariant_of-self c =
    kept_receive _ _ c.args.page c.args.copies c.self.invariant (omega arith) (omega arith) (grind (arith, common_steps)) (grind (arith, common_steps))

pub returns-clause-kept : goal.returns-clause-kept
returns-clause-kept c =
    kept_receive _ _ c.args.page c.args.copies c.self.invariant (omega arith) (omega arith) (grind (arith, common_steps)) (grind (arith, common_steps))
