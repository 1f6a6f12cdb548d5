use Rattle.std.proofs.Common.{sym, ◌∙◌, rules}
use Rattle.store.proofs.Grounds.{begin_grounds}
use Rattle.store.proofs.overlays.Overlays.begin.Goals as goal

pub returns-in_err-check_new-clause-grounds : goal.returns-in_err-check_new-clause-grounds
returns-in_err-check_new-clause-grounds c = begin_grounds c.args.id c.args.self.now _ (search rules)

pub returns-clause-grounds : goal.returns-clause-grounds
returns-clause-grounds c = begin_grounds c.args.id c.args.self.now _ (sym c.in_ok-check_new.was ∙ c.check_new.ensures)
