use Rattle.std.proofs.Common.{◌≡◌, ap, ◌∙◌}
use Rattle.interpreter.specs.Machines.{open_page}
use Rattle.interpreter.specs.Takes.{meaning}
use Rattle.printer.specs.Ends.{PrinterEnd, view_of, station_of}
use Rattle.printer.specs.Printers.{end_of}
use Rattle.spool.specs.Views.{flow_of, turn_v}
use Rattle.spool.specs.declared.page.Turned.{Turned}
use Rattle.spool.proofs.Calls.{turn_law}
use Rattle.spool.proofs.Flowing.{flow_turn}
use Rattle.spool.proofs.Seen.{turned_so}
use Rattle.printer.proofs.printer.Printer.turn.Goals as goal

pub returns : goal.returns
returns g c =
    let m = g.E.Engine in
    let p = c.args.self.now in
    let q = c.turn_once.new.self in
    let sound = m.sound p.engine in
    let t = c.turn_once.ensures in
    let v = view_of (end_of m p) in
    let now : view_of (end_of m q) ≡ turn_v m.K v = ap view_of t.end in
    let advanced = ap (λ (r : Turned). r.advanced) t.told in
    let fed = ap (λ (r : Turned). r.fed) t.told in
    let w = station_of (end_of m p) in
    record {
      told = t.told;
      end = t.end;
      answer = λ run s. turned_so meaning m.K sound.few run w t.whole s _ advanced fed;
      flow = λ run s. ap flow_of now ∙ flow_turn m.K sound.few v s.holds.known t.whole.unfed;
      law = λ run s. turn_law meaning m.K sound.some sound.few run w t.whole s (station_of (end_of m q)) now _ advanced fed (ap (λ (e : PrinterEnd). open_page e.machine.state) t.end) (ap (λ (e : PrinterEnd). e.machine.copies) t.end);
      kept = t.kept;
    }
