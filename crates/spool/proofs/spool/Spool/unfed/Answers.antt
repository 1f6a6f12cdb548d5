use Rattle.std.proofs.Common.{◌≡◌, arith, rules}
use Rattle.spool.specs.Spooled.{unfed_in}
use Rattle.spool.proofs.Keeping.{unfed_most}
use Rattle.spool.proofs.spool.Spool.unfed.Goals as goal

pub returns-clause-most : goal.returns-clause-most
returns-clause-most c =
    let sum : c.sum.result ≡ unfed_in c.self.inside.pages = search rules in
    omega (arith, unfed_most c.self.inside.pages c.self.invariant.small, c.self.invariant.short)
