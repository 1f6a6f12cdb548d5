use Rattle.std.proofs.Common.{◌≡◌, ◌-◌}
use Rattle.printer.specs.Ends.{view_of, turned_times}
use Rattle.printer.specs.Printers.{end_of, Run, Stands, Turns}
use Rattle.spool.specs.Flows.{turns}
use Rattle.spool.specs.Views.{flow_of}
use Rattle.printer.proofs.printer.Printer.turns.Given as goal

-- the turns so far are in the run, and those that are left bring the flow where all of them do
abbrev pub invariant-loop : goal.invariant-loop
invariant-loop g l =
    let m = g.E.Engine in
    (turned_times (l.n - l.counter) m.K (end_of m l.self) ≡ turned_times l.n m.K (end_of m l.initial.self)) × (
    (run : Run) → Stands m run l.initial.self → (after : Run) × (Turns l.counter run after × (Stands m after l.self × (turns (l.n - l.counter) m.K (flow_of (view_of (end_of m l.self))) ≡ turns l.n m.K (flow_of (view_of (end_of m l.initial.self)))))))
