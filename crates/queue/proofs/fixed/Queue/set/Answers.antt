use Rattle.std.proofs.Math.Seq.{take-set-lt}
use Rattle.std.proofs.Common.{take, ap, ◌∙◌, arith}
use Rattle.std.proofs.Common.{slice_set}
use Rattle.queue.proofs.fixed.Queue.set.Goals as goal

pub returns-then-at-self : goal.returns-then-at-self
returns-then-at-self g c =
    ap (λ place. take c.self.inside.count (slice_set c.self.inside.slots place c.args.element)) (omega arith)
    ∙ take-set-lt c.self.inside.count c.self.inside.slots c.args.at c.args.element c.if-at-self.true
    ∙ ap (λ l. slice_set l c.args.at c.args.element) c.self.view_is
