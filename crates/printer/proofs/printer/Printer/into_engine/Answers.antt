use Rattle.std.proofs.Common.{◌++◌, ap, ◌∙◌}
use Rattle.interpreter.specs.Takes.{meaning}
use Rattle.printer.specs.Ends.{station_of}
use Rattle.printer.specs.Printers.{end_of, owed_by}
use Rattle.spool.proofs.Seen.{job_done}
use Rattle.printer.proofs.printer.Printer.into_engine.Goals as goal

pub returns : goal.returns
returns g c =
    let m = g.E.Engine in
    let p = c.args.self in
    let e = c.release.ensures in
    record {
      engine = e;
      law = λ run s. (ap (λ x. (m.paper x).bin) e ∙ s.holds.bin, ap (λ x. (m.paper x).path) e ∙ s.holds.path);
      job = λ run s J pr f all. ap (λ x. (m.paper x).bin ++ owed_by run) e ∙ job_done meaning m.K run (station_of (end_of m p)) s J pr f all;
    }
