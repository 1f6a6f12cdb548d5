-- What a command does to a machine in each state, or why it is refused there.
--   end_page      the open page waits with the copies in force, or is refused
--   perform      each command in each state
--   Obeys        a machine after a command, by the answer
use Rattle.std.specs.Prelude.{◌≡◌, ℕ, cond, Some, None, Ok, Err, Option, Result, ◌==◌}
use Rattle.refusal.specs.declared.Refusal.{Refusal}
use Rattle.refusal.specs.declared.Refusal.TheVariants.{NotAccepted, NotAllowed}
use Rattle.command.specs.declared.state.Command.{Command}
use Rattle.command.specs.declared.state.Command.TheVariants.{BeginPage, EndPage, LoadCopyControl, NoOperation, SetHomeState, DiscardBufferedData}
use Rattle.command.specs.declared.state.State.{State}
use Rattle.command.specs.declared.state.State.TheVariants.{Home, Page}
use Rattle.spool.specs.declared.page.NotReceived.{NotReceived}
use Rattle.spool.specs.Refusing.{refusal_for}
use Rattle.spool.specs.Spooled.{refusal_of, receive, discard}
use Rattle.interpreter.specs.Machines.{Machine, machine, home}

abbrev pub end_page : Option NotReceived → ℕ → Machine → Result Machine Refusal
end_page None id m = Ok (machine (receive id m.copies m.spool) Home m.copies m.pending m.marks)
end_page (Some e) id m = Err (refusal_for e)

abbrev pub begin_page : ℕ → Machine → Machine
begin_page id m = machine m.spool (Page id) m.copies m.pending 0

abbrev pub load_copies : ℕ → Machine → Result Machine Refusal
load_copies n m = cond (n == 0) (Err NotAccepted) (Ok (machine m.spool m.state n m.pending m.marks))

abbrev pub discard_all : Machine → Machine
discard_all m = machine (discard m.spool) Home m.copies m.pending m.marks

abbrev pub perform_in : State → Command → Machine → Result Machine Refusal
perform_in Home (BeginPage id) m = Ok (begin_page id m)
perform_in Home EndPage m = Err NotAllowed
perform_in Home (LoadCopyControl n) m = load_copies n m
perform_in Home NoOperation m = Ok m
perform_in Home SetHomeState m = Ok (home m)
perform_in Home DiscardBufferedData m = Ok (discard_all m)
perform_in (Page p) (BeginPage id) m = Err NotAllowed
perform_in (Page p) EndPage m = end_page (refusal_of m.copies m.spool) p m
perform_in (Page p) (LoadCopyControl n) m = Err NotAllowed
perform_in (Page p) NoOperation m = Ok m
perform_in (Page p) SetHomeState m = Ok (home m)
perform_in (Page p) DiscardBufferedData m = Ok (discard_all m)

abbrev pub perform : Command → Machine → Result Machine Refusal
perform c m = perform_in m.state c m

-- what a function that answers a refusal leaves: w is what it should, where it does not refuse
abbrev pub Leaves : Result Machine Refusal → Machine → Machine → Result (Unit {0}) Refusal → Type 0
Leaves w m n (Ok u) = w ≡ Ok n
Leaves w m n (Err e) = (w ≡ Err e) × (n ≡ m)
