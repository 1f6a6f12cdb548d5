use Rattle.std.proofs.Common.{sym, arith}
use Rattle.queue.proofs.Laws.{gap_is, turned}
use Rattle.queue.proofs.close_gap.Goals as goal

pub returns-then-count-slots : goal.returns-then-count-slots
returns-then-count-slots g c =
    record {
      closed = sym (gap_is c.args.slots.now c.args.count c.args.at (omega arith) (omega arith));
      slots = turned c.args.slots.now _ c.args.count c.args.at (omega arith) (omega arith) c.rotate_left.ensures.after;
    }
