use Rattle.std.proofs.Common.{◌≡◌, sym, ap, ◌∙◌, subst}
use Rattle.interpreter.specs.Machines.{machine_of, receiver_of}
use Rattle.interpreter.specs.Taking.{taking, take_of}
use Rattle.interpreter.specs.Takes.{meaning, take_seen}
use Rattle.interpreter.proofs.Effects.{Seen, take_seen_law}
use Rattle.printer.specs.Ends.{printer_end, areas, took_as, took_by, station_of}
use Rattle.printer.specs.Printers.{end_of}
use Rattle.spool.specs.Runs.{took, Stands, after_still}
use Rattle.spool.proofs.Calls.{take_law}
use Rattle.printer.proofs.printer.Printer.take.Goals as goal

pub returns : goal.returns
returns g c =
    let m = g.E.Engine in
    let p = c.args.self.now in
    let q = c.carry_out.new.self in
    let bs = c.args.bytes.now in
    let area = c.carry_out.new.reply in
    let before = machine_of p.interpreter in
    let after = machine_of q.interpreter in
    let same : q.engine ≡ p.engine = c.carry_out.ensures.engine in
    let e : taking after area c.carry_out.result ≡ take_of bs before c.args.reply.now = c.carry_out.ensures.took in
    let seen : Seen bs before (taking after area c.carry_out.result) = subst (Seen bs before) (sym e) (take_seen_law bs before c.args.reply.now) in
    let given = areas c.args.reply.now c.args.marks.now c.args.memory.now in
    record {
      took = ap (λ x. took_as (printer_end (m.paper x) after) (areas area c.args.marks.now c.args.memory.now) c.carry_out.result) same ∙ ap (λ t. took_by t (end_of m p) given) e;
      law = λ run s. subst (λ x. Stands meaning m.K (after_still meaning run (took (take_seen bs c.carry_out.result area))) (station_of (printer_end (m.paper x) after))) (sym same) (take_law meaning m.K (m.sound p.engine).some run (station_of (end_of m p)) c.carry_out.ensures.whole s (take_seen bs c.carry_out.result area) (receiver_of after) seen.effect q.interpreter.some seen.counts);
      kept = c.carry_out.ensures.kept;
    }
