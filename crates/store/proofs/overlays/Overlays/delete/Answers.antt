use Rattle.std.proofs.Common.{arith}
use Rattle.store.proofs.Deleting.{deletes_one, deletes}
use Rattle.store.proofs.Grounds.{delete_grounds}
use Rattle.store.proofs.Onces.{once_laws}
use Rattle.store.proofs.overlays.Overlays.delete.Goals as goal

pub returns-in-0-clause-once : goal.returns-in-0-clause-once
returns-in-0-clause-once c = once_laws

pub returns-in-1-to-127-clause-contents : goal.returns-in-1-to-127-clause-contents
returns-in-1-to-127-clause-contents c =
    λ room. deletes c.args.id c.args.self.now _ _ _ _ room (deletes_one c.args.id c.args.self.now c.args.memory.now _ (omega arith) (omega arith) c.remove.ensures.store)

pub returns-in-1-to-127-clause-grounds : goal.returns-in-1-to-127-clause-grounds
returns-in-1-to-127-clause-grounds c =
    delete_grounds c.args.id c.args.self.now _ _ _ _ (deletes_one c.args.id c.args.self.now c.args.memory.now _ (omega arith) (omega arith) c.remove.ensures.store)

pub returns-in-1-to-127-clause-once : goal.returns-in-1-to-127-clause-once
returns-in-1-to-127-clause-once c = once_laws

pub returns-in_default-clause-once : goal.returns-in_default-clause-once
returns-in_default-clause-once c = once_laws
