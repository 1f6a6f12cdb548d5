use Rattle.std.proofs.Common.{◌≡◌, suc, ◌+◌, ◌-◌, sym, refl, ap, ◌∙◌, subst, add-one, arith}
use Rattle.interpreter.specs.Takes.{meaning}
use Rattle.printer.specs.Ends.{view_of, station_of, turned_times}
use Rattle.printer.specs.Printers.{end_of, Stands, Turns, after_turn}
use Rattle.spool.specs.Flows.{Flow, turns, owed}
use Rattle.spool.specs.Views.{flow_of}
use Rattle.spool.proofs.Calls.{owed_so}
use Rattle.printer.proofs.printer.Printer.turns.Goals as goal

pub loop-init : goal.loop-init
loop-init g c =
    let m = g.E.Engine in
    let p = c.args.self.now in
    let z : c.args.n - 0 ≡ c.args.n = omega arith in
    (ap (λ k. turned_times k m.K (end_of m p)) z, λ run s. (run, (refl, (s, ap (λ k. turns k m.K (flow_of (view_of (end_of m p)))) z))))

pub loop-preserved : goal.loop-preserved
loop-preserved g c =
    let m = g.E.Engine in
    let q = c.loop.self in
    let n = c.args.n in
    let i = c.loop.counter in
    let t = c.turn.ensures in
    let e : n - i ≡ suc (n - (i + 1)) = omega arith in (
      ap (turned_times (n - (i + 1)) m.K) t.end ∙ ap (λ k. turned_times k m.K (end_of m q)) (sym e) ∙ c.loop.invariant.0,
      λ run s.
          let h = c.loop.invariant.1 run s in
          let st : Stands m h.0 q = h.1.1.0 in
          let f = t.flow h.0 st in
          let r = c.turn.result in
          let p = (m.paper c.turn.new.self.engine).path in
          let next = after_turn r p h.0 in
          (next, (subst (λ k. Turns k run next) (sym (add-one i)) (h.0, (h.1.0, (r, (p, refl)))), (t.law h.0 st, ap (turns (n - (i + 1)) m.K) f ∙ ap (λ k. turns k m.K (flow_of (view_of (end_of m q)))) (sym e) ∙ h.1.1.1))),
    )

pub returns : goal.returns
returns g c =
    let m = g.E.Engine in
    let p = c.args.self.now in
    let q = c.loop.self in
    let n = c.args.n in
    let full : c.loop.counter ≡ n = omega arith in
    let z : 0 ≡ n - c.loop.counter = omega arith in
    record {
      end = ap (λ k. turned_times k m.K (end_of m q)) z ∙ c.loop.invariant.0;
      law = λ run s. let h = c.loop.invariant.1 run s in (h.0, (subst (λ k. Turns k run h.0) full h.1.0, h.1.1.0));
      delivers = λ run s en fits.
          let h = c.loop.invariant.1 run s in
          let o = owed_so meaning m.K run (station_of (end_of m p)) s in
          let k : n ≡ owed (flow_of (view_of (end_of m p))) + 1 = omega arith in
          ap (λ (f : Flow). f.paper.bin) (ap (λ k. turns k m.K (flow_of (view_of (end_of m q)))) z ∙ h.1.1.1) ∙ ap (λ k. (turns k m.K (flow_of (view_of (end_of m p)))).paper.bin) k ∙ s.holds.delivers (omega arith);
      kept = c.kept.ensures;
    }
