-- Printer ends over an engine of any make, and the law of their runs.
--   end_of      what a printer end and its engine hold
--   Run        a run of calls
--   Stands     what stands of a printer end after a run
--   Keeps      what stood before a call stands after it, of the run with that call
--   Turns      so many turns in a row
use Rattle.std.specs.Prelude.{ℕ, List}
use Rattle.engine.specs.declared.sheet.Sheet.{Sheet}
use Rattle.engine.specs.declared.engine.Engine.{Ghosts}
use Rattle.spool.specs.declared.page.Turned.{Turned}
use Rattle.spool.specs.declared.page.Counters.{Counters}
use Rattle.spool.specs.Courses.{bin_of}
use Rattle.spool.specs.Flows.{Flow}
use Rattle.spool.specs.Jobs.{Page}
use Rattle.spool.specs.Runs as runs
use Rattle.spool.specs.Spools.{Numbers}
use Rattle.interpreter.specs.Machines.{machine_of}
use Rattle.interpreter.specs.Takes.{Take, meaning}
use Rattle.printer.specs.declared.printer.Printer.{Printer}
use Rattle.printer.specs.Ends.{PrinterEnd, printer_end, station_of}

abbrev pub end_of : {E : Type 0} → Ghosts E → Printer E → PrinterEnd
end_of m p = printer_end (m.paper p.engine) (machine_of p.interpreter)

abbrev pub Run : Type 0
Run = runs.Run Take

abbrev pub made : List Sheet → Run
made b = runs.made b

-- the bin before the making
abbrev pub bin_before : Run → List Sheet
bin_before run = bin_of (runs.course meaning run)

-- the sheets that the bin gained since
abbrev pub stacked_by : Run → List Sheet
stacked_by run = runs.stacked meaning run

abbrev pub path_after : Run → List Sheet
path_after run = runs.path meaning run

-- the path, then the waiting copies
abbrev pub owed_by : Run → List Sheet
owed_by run = runs.owed_by meaning run

abbrev pub received_by : Run → ℕ
received_by run = runs.received meaning run

abbrev pub counters_of : Run → Numbers
counters_of run = runs.counters meaning run

-- what flows into a bin with this room
abbrev pub flow_by : Run → ℕ → Flow
flow_by run room = runs.flow_by meaning run room

-- the run receives the pages of a job in their order
abbrev pub Receiving : List Page → Run → Type 0
Receiving J run = runs.Receiving meaning J run

abbrev pub Stands : {E : Type 0} → Ghosts E → Run → Printer E → Type 0
Stands m run p = runs.Stands meaning m.K run (station_of (end_of m p))

abbrev pub Keeps : {E : Type 0} → Ghosts E → Printer E → Printer E → (Run → Run) → Type 0
Keeps m p q call = (run : Run) → Stands m run p → Stands m (call run) q

-- the run and then this call
abbrev pub after_take : Take → Run → Run
after_take t run = runs.after_still meaning run (runs.took t)

abbrev pub after_turn : Turned → List Sheet → Run → Run
after_turn t path run = runs.after_turn meaning run t path

abbrev pub after_jam : Run → Run
after_jam run = runs.after_jam meaning run

abbrev pub after_counters : Counters → Run → Run
after_counters c run = runs.after_still meaning run (runs.counted c)

abbrev pub after_owed : ℕ → Run → Run
after_owed n run = runs.after_still meaning run (runs.owing n)

abbrev pub Turns : ℕ → Run → Run → Type 0
Turns n r s = runs.Turns meaning n r s
