use Rattle.std.proofs.Common.{sym, ◌∙◌}
use Rattle.text.proofs.Outs.{handed_on}
use Rattle.text.proofs.Effects.{obey_off, obey_chained, obey_done}
use Rattle.text.proofs.writer.Writer.obey.Goals as goal

pub returns-in_err-perform-clause-obeyed : goal.returns-in_err-perform-clause-obeyed
returns-in_err-perform-clause-obeyed c =
    rw (handed_on c.from_residual.result c.from_residual.ensures.1) (obey_off c.args.control c.args.bytes.now _ _ _ c.perform.ensures.effect _ c.in_err-perform.was)

pub returns-then-lacks_successor-clause-obeyed : goal.returns-then-lacks_successor-clause-obeyed
returns-then-lacks_successor-clause-obeyed c =
    obey_chained c.args.control c.args.bytes.now _ _ _ c.perform.ensures.effect c.in_ok-perform.was (sym c.lacks_successor.ensures ∙ c.if-lacks_successor.true)

pub returns-clause-obeyed : goal.returns-clause-obeyed
returns-clause-obeyed c = obey_done c.args.control c.args.bytes.now _ _ _ c.perform.ensures.effect c.in_ok-perform.was (sym c.lacks_successor.ensures ∙ c.if-lacks_successor.false)
