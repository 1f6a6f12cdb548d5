use Rattle.std.proofs.Common.{ap, arith}
use Rattle.store.specs.Stores.{store, kept}
use Rattle.store.proofs.Changing.{appends}
use Rattle.store.proofs.overlays.Overlays.store.Goals as goal

pub returns-clause-contents : goal.returns-clause-contents
returns-clause-contents c =
    rw (← c.self.view_is, c.put.ensures, c.kept-kept.ensures, ← c.self.view_is) (appends c.args.command.now (store c.self.inside.entries c.self.inside.begun) c.args.memory.now (omega (arith, ap kept c.self.view_is)))
