use Rattle.std.proofs.Common.{sym, subst}
use Rattle.interpreter.specs.Takes.{meaning}
use Rattle.printer.specs.Ends.{PrinterEnd, station_of}
use Rattle.printer.specs.Printers.{end_of}
use Rattle.spool.specs.Runs.{Stands, after_jam}
use Rattle.spool.proofs.Calls.{jam_law}
use Rattle.printer.proofs.printer.Printer.jam.Goals as goal

pub returns : goal.returns
returns g c =
    let m = g.E.Engine in
    let p = c.args.self.now in
    let now = c.lose_paper.ensures.end in
    record {
      end = now;
      law = λ run s. subst (λ (e : PrinterEnd). Stands meaning m.K (after_jam meaning run) (station_of e)) (sym now) (jam_law meaning m.K (m.sound p.engine).some run (station_of (end_of m p)) s);
      kept = c.lose_paper.ensures.kept;
    }
