use Rattle.std.proofs.Common.{ap, arith}
use Rattle.store.specs.Entries.{sizes}
use Rattle.store.proofs.Searching.{size_out}
use Rattle.store.proofs.overlays.Overlays.remove.Goals as goal

pub overflow_sub-self : goal.overflow_sub-self
overflow_sub-self c = omega (arith, c.self.invariant.0, size_out c.self.inside.entries c.args.id c.in_ok-found.found (grind arith))

pub invariant_of-self : goal.invariant_of-self
invariant_of-self c =
    let out = size_out c.self.inside.entries c.args.id c.in_ok-found.found (grind arith) in
    (omega (arith, c.self.invariant.0, out, ap sizes c.remove.ensures.queue), omega (arith, c.self.invariant.1))
