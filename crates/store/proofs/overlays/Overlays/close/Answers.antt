use Rattle.std.proofs.Common.{ap, ◌∙◌, arith, rules}
use Rattle.std.proofs.lemmas.List.Sums.{sum_by_push}
use Rattle.store.specs.Entries.{entry, sizes}
use Rattle.store.specs.Contents.{contents}
use Rattle.store.proofs.Changing.{ends}
use Rattle.store.proofs.Holding.{gapless}
use Rattle.store.proofs.Sessions.{session}
use Rattle.store.proofs.Searching.{size_of}
use Rattle.store.proofs.overlays.Overlays.close.Goals as goal

pub invariant_of-self : goal.invariant_of-self
invariant_of-self c =
    let o = c.self.inside in
    let more = sum_by_push size_of o.entries (entry c.args.id o.begun) in
    (omega (arith, c.self.invariant.0, ap sizes c.if-push.ensures.queue, more), omega (arith, c.self.invariant.1))

pub returns-clause-contents : goal.returns-clause-contents
returns-clause-contents c = λ m few. ap (contents m) (search rules) ∙ ends c.args.id c.args.self.now m few

pub returns-clause-session : goal.returns-clause-session
returns-clause-session c = session

pub returns-clause-gapless : goal.returns-clause-gapless
returns-clause-gapless c = gapless
