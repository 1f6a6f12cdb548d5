-- A printer end without its engine.
--   Machine     the spool, what is open, the copies in force, the negative reply that is pending, and how many
--               marks are on the open or latest page
--   home        what is open is dropped
--   pend        a negative reply is pending
--   open_page    the page that is open
--   receiver_of  the machine as far as sheets and counters go
use Rattle.std.specs.Prelude.{ℕ, Some, None, Option}
use Rattle.refusal.specs.declared.Fault.{Fault}
use Rattle.command.specs.declared.state.State.{State}
use Rattle.command.specs.declared.state.State.TheVariants.{Home, Page}
use Rattle.spool.specs.Spooled.{Spooled, empty}
use Rattle.spool.specs.Receivers.{Receiver, receiver}
use Rattle.interpreter.specs.declared.interpreter.Interpreter.{Interpreter}

pub record Machine : Type 0 where
  pub spool : Spooled
  pub state : State
  pub copies : ℕ
  pub pending : Option Fault
  pub marks : ℕ

abbrev pub machine : Spooled → State → ℕ → Option Fault → ℕ → Machine
machine b s n p k = record { spool = b; state = s; copies = n; pending = p; marks = k }

abbrev pub machine_of : Interpreter → Machine
machine_of i = machine i.spool i.state i.copies i.pending i.marks

abbrev pub fresh : Machine
fresh = machine empty Home 1 None 0

abbrev pub home : Machine → Machine
home m = machine m.spool Home m.copies m.pending m.marks

abbrev pub pend : Option Fault → Machine → Machine
pend f m = machine m.spool m.state m.copies f m.marks

abbrev pub open_page : State → Option ℕ
open_page Home = None
open_page (Page id) = Some id

abbrev pub receiver_of : Machine → Receiver
receiver_of m = receiver m.spool (open_page m.state) m.copies
