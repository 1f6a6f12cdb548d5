use Rattle.std.proofs.Common.{sym}
use Rattle.std.proofs.lemmas.List.{set_past}
use Rattle.std.proofs.lemmas.Bool.{le-ltb}
use Rattle.queue.proofs.add.Goals as goal

pub returns-else-count-slots : goal.returns-else-count-slots
returns-else-count-slots g c =
    record {
      added = sym (le-ltb c.args.count _ c.if-count-slots.false);
      slots = sym (set_past c.args.slots.now c.args.count c.args.element c.if-count-slots.false);
    }
