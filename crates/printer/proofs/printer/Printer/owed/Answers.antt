use Rattle.std.proofs.Common.{◌≡◌, ◌+◌, ◌^◌, ◌<◌, ◌≤◌, arith, rules}
use Rattle.interpreter.specs.Takes.{meaning}
use Rattle.printer.specs.Ends.{view_of, station_of}
use Rattle.printer.specs.Printers.{end_of}
use Rattle.spool.specs.Flows.{owed}
use Rattle.spool.specs.Views.{flow_of}
use Rattle.spool.proofs.Calls.{owed_law}
use Rattle.spool.proofs.Seen.{owed_is}
use Rattle.printer.proofs.printer.Printer.owed.Goals as goal

pub overflow_add-result : goal.overflow_add-result
overflow_add-result g c =
    let m = g.E.Engine in
    let sound = m.sound c.args.self.now.engine in
    let few : m.K ≤ 8 = sound.few in
    let short = sound.short in
    let small : c.count_owed-path.result.0 + c.count_owed-path.result.1 < 2 ^ 64 = omega (arith, c.count_owed-path.ensures.path, c.count_owed-path.ensures.few) in
    search rules

pub returns : goal.returns
returns g c =
    let m = g.E.Engine in
    let p = c.args.self.now in
    let sound = m.sound p.engine in
    let few : m.K ≤ 8 = sound.few in
    let short = sound.short in
    let v = view_of (end_of m p) in
    let q = c.count_owed-path.ensures in
    let is : c.count_owed-path.result.0 + c.count_owed-path.result.1 ≡ owed (flow_of v) = omega (arith, q.path, q.waiting, owed_is v) in
    record {
      owed = is;
      most = omega (arith, q.path, q.few);
      law = λ run s. owed_law meaning m.K run (station_of (end_of m p)) s _ is;
      kept = c.kept.ensures;
    }
