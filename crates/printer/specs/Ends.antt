-- A printer end with its engine and the areas of its caller, and what each call makes of them.
--   PrinterEnd   the paper in the engine, and the machine over it
--   Areas        the reply area, the mark list and the memory
--   Took         what a take leaves and tells
--   took         a take: the engine, the mark list and the memory stay as they are
--   turned       a turn: the engine advances, then the next copy is fed
--   turned_times  so many turns in a row
--   turn_told     what a turn answers
--   jammed       a jam: the path is purged
use Rattle.std.specs.Prelude.{ℕ, zero, suc, List, []}
use Rattle.engine.specs.declared.sheet.Sheet.{Sheet}
use Rattle.engine.specs.Engines.{Paper, paper, advanced, purged}
use Rattle.spool.specs.declared.page.Turned.{Turned}
use Rattle.spool.specs.Views.{View, view, advance_v, feeds_v, turn_v}
use Rattle.spool.specs.Receivers.{Station, station}
use Rattle.text.specs.declared.mark.Mark.{Mark}
use Rattle.interpreter.specs.declared.taken.Taken.{Taken}
use Rattle.interpreter.specs.Machines.{Machine, machine, fresh, open_page}
use Rattle.interpreter.specs.Taking.{Taking, take_of}
use Rattle.interpreter.specs.Taking as taking

pub record PrinterEnd : Type 0 where
  pub paper : Paper
  pub machine : Machine

abbrev pub printer_end : Paper → Machine → PrinterEnd
printer_end p m = record { paper = p; machine = m }

-- nothing is received, and the bin is as it was
abbrev pub made : List Sheet → ℕ → PrinterEnd
made bin room = printer_end (paper [] bin room) fresh

pub record Areas : Type 0 where
  pub reply : List ℕ
  pub marks : List Mark
  pub memory : List ℕ

abbrev pub areas : List ℕ → List Mark → List ℕ → Areas
areas r k m = record { reply = r; marks = k; memory = m }

pub record Took : Type 0 where
  pub end : PrinterEnd
  pub areas : Areas
  pub told : Taken

abbrev pub took_as : PrinterEnd → Areas → Taken → Took
took_as e a t = record { end = e; areas = a; told = t }

abbrev pub took_by : Taking → PrinterEnd → Areas → Took
took_by t e a = took_as (printer_end e.paper t.machine) (areas t.area a.marks a.memory) t.told

abbrev pub took : List ℕ → PrinterEnd → Areas → Took
took bs e a = took_by (take_of bs e.machine a.reply) e a

abbrev pub view_of : PrinterEnd → View
view_of e = view e.paper e.machine.spool

abbrev pub with_view : View → PrinterEnd → PrinterEnd
with_view v e = printer_end v.paper (machine v.spool e.machine.state e.machine.copies e.machine.pending e.machine.marks)

abbrev pub turned : ℕ → PrinterEnd → PrinterEnd
turned K e = with_view (turn_v K (view_of e)) e

-- so many turns in a row
abbrev pub turned_times : ℕ → ℕ → PrinterEnd → PrinterEnd
turned_times zero K e = e
turned_times (suc n) K e = turned_times n K (turned K e)

abbrev pub turn_told : ℕ → PrinterEnd → Turned
turn_told K e = record { advanced = advanced e.paper; fed = feeds_v K (advance_v (view_of e)) }

abbrev pub jammed : PrinterEnd → PrinterEnd
jammed e = printer_end (purged e.paper) (taking.jammed e.machine)

-- as far as sheets and counters go
abbrev pub station_of : PrinterEnd → Station
station_of e = station (view_of e) (open_page e.machine.state) e.machine.copies
