use Rattle.std.proofs.Common.{eqb, length, get_or, sym, ap, ◌∙◌, arith, length-drop}
use Rattle.std.proofs.lemmas.List.{take_rest}
use Rattle.std.proofs.lemmas.Bool.{or_parts}
use Rattle.text.specs.Texts.{text_of}
use Rattle.text.proofs.Plain.{plain_some}
use Rattle.text.proofs.Turns.{ended, no_header, obeyed_on, obeyed_off}
use Rattle.text.proofs.Placed.{placed_on, placed_off}
use Rattle.text.proofs.Outs.{handed_on}
use Rattle.text.proofs.writer.Writer.write_all.Goals as goal

pub returns-in_err-control-clause-text : goal.returns-in_err-control-clause-text
unfolding text_of
returns-in_err-control-clause-text c =
    rw (handed_on c.from_residual.result c.from_residual.ensures.1) (no_header _ _ c.loop-rest.invariant.1 (omega arith) (sym c.begins.ensures ∙ c.if-begins.true) (sym c.read_at.ensures.control ∙ c.in_err-control.was))

pub returns-in_err-obey_at-clause-text : goal.returns-in_err-obey_at-clause-text
unfolding text_of
returns-in_err-obey_at-clause-text c =
    rw (handed_on c.from_residual-in_err-obey_at.result c.from_residual-in_err-obey_at.ensures.1) (obeyed_off _ c.in_ok-control.control _ _ c.loop-rest.invariant.1 (omega arith) (sym c.begins.ensures ∙ c.if-begins.true)
    (sym c.read_at.ensures.control ∙ c.in_ok-control.was) c.obey_at.ensures.obeyed _ c.in_err-obey_at.was)

pub loop-rest-preserved-then-begins : goal.loop-rest-preserved-then-begins
loop-rest-preserved-then-begins c =
    let rest = c.loop-rest.rest.now in
    let size = c.in_ok-control.control.end in
    let w = c.in_ok-control.ensures.whole in (
      c.obey_at.ensures.same_list ∙ c.loop-rest.invariant.0,
      obeyed_on _ c.in_ok-control.control _ _ c.loop-rest.invariant.1 (omega arith) (sym c.begins.ensures ∙ c.if-begins.true)
          (sym c.read_at.ensures.control ∙ c.in_ok-control.was) c.obey_at.ensures.obeyed c.in_ok-obey_at.was w.some _ (take_rest rest size),
      omega (arith, ap length (take_rest rest size), length-drop size rest, w.ends, c.loop-rest.invariant.2),
    )

pub returns-in_err-run-clause-text : goal.returns-in_err-run-clause-text
unfolding text_of
returns-in_err-run-clause-text c =
    let not = or_parts _ _ (sym c.begins.ensures ∙ c.if-begins.false) in
    rw (handed_on c.from_residual-in_err-run.result c.from_residual-in_err-run.ensures.1) (placed_off c.loop-rest.rest.now c.plain-size.result _ _ _ not.0 c.loop-rest.invariant.1 c.plain-size.ensures.plain
    c.run.ensures.run _ c.in_err-run.was)

pub loop-rest-smaller : goal.loop-rest-smaller
loop-rest-smaller c =
    let rest = c.loop-rest.rest.now in
    let size = c.plain-size.result in
    let not = or_parts c.loop-rest.chained (eqb (get_or rest 0 0) 0x2B) (sym c.begins.ensures ∙ c.if-begins.false) in
    omega (arith, ap length (take_rest rest size), length-drop size rest, c.plain-size.ensures.plain, plain_some rest (omega arith) not.1)

pub loop-rest-preserved : goal.loop-rest-preserved
loop-rest-preserved c =
    let rest = c.loop-rest.rest.now in
    let size = c.plain-size.result in
    let not = or_parts c.loop-rest.chained (eqb (get_or rest 0 0) 0x2B) (sym c.begins.ensures ∙ c.if-begins.false) in (
      c.run.ensures.same_list ∙ c.loop-rest.invariant.0,
      placed_on rest size _ _ _ not.0 c.loop-rest.invariant.1 c.plain-size.ensures.plain c.run.ensures.run c.in_ok-run.was _ (take_rest rest size),
      omega (arith, ap length (take_rest rest size), length-drop size rest, c.plain-size.ensures.within, c.loop-rest.invariant.2),
    )

pub returns-clause-text : goal.returns-clause-text
unfolding text_of
returns-clause-text c = ended _ c.loop-rest.invariant.1 (omega arith)
