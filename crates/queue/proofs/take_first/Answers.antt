use Rattle.std.proofs.Common.{cond, Some, sym, ap, ◌∙◌, arith}
use Rattle.queue.specs.Queues.{closed}
use Rattle.queue.proofs.Laws.{first_is}
use Rattle.queue.proofs.take_first.Goals as goal

pub returns : goal.returns
returns g c =
    record {
      first = ap Some c.index-slots-0.is ∙ sym (first_is c.args.slots.now c.args.count c.index-slots-0.result (omega arith) (omega arith));
      slots = c.close_gap.ensures.slots ∙ ap (λ b. cond b (closed c.args.slots.now c.args.count 0) c.args.slots.now) c.close_gap.ensures.closed;
    }
