use Rattle.std.proofs.Common.{sym, ◌∙◌, arith}
use Rattle.queue.proofs.Spans.{span_is, moved_all}
use Rattle.queue.proofs.close_span.Goals as goal

pub returns : goal.returns
returns g c =
    record {
      closed = sym (span_is c.args.slots.now c.args.count c.args.at c.args.width (omega arith) (omega arith));
      slots = c.copy_within.ensures.after ∙ moved_all c.args.slots.now c.args.count c.args.at c.args.width _ (omega arith) (omega arith);
    }
