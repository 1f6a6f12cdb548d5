-- What a take does: to the machine, to the reply area, and what it tells.
--   untouched    refused with nothing used and nothing changed
--   fault_of      what the host is told of a refusal
--   unreadable   a length that cannot be: every byte is used, nothing is replied, and the fault is pending unless
--                one already is
--   handed       discarded while a negative reply is pending; with a request the reply is handed over
--   settled      accepted, or refused by a fault: what is open is dropped, and the negative reply is handed over or
--                is pending
--   take_of       the checks in their order
--   jammed       paper was lost: what waits and what is open is dropped, and this fault is pending instead of any other
use Rattle.std.specs.Prelude.{ℕ, Bool, false, cond, List, length, Some, None, Ok, Err, Option, Result, nat_lt}
use Rattle.std.specs.Option.{unwrap_or}
use Rattle.command.specs.declared.header.Header.{Header}
use Rattle.refusal.specs.declared.Fault.{Fault}
use Rattle.refusal.specs.declared.Refusal.{Refusal}
use Rattle.refusal.specs.declared.Refusal.TheVariants.{Incomplete, AreaShort, LengthOutOfRange, SixteenWait, PaperLost, ReplyPending}
use Rattle.command.specs.declared.state.Command.{Command}
use Rattle.command.specs.declared.state.State.{State}
use Rattle.command.specs.declared.state.State.TheVariants.{Home, Page}
use Rattle.command.specs.Headers.{header_of, in_range, asks_reply, data_of}
use Rattle.command.specs.Tables.{kind_of, ends}
use Rattle.command.specs.Commands.{decoded}
use Rattle.spool.specs.Spooled.{full, jam}
use Rattle.spool.specs.Spools.{numbers_of}
use Rattle.reply.specs.Replies.{ack, nack, written}
use Rattle.interpreter.specs.declared.taken.Taken.{Taken}
use Rattle.interpreter.specs.Outcomes.{told}
use Rattle.interpreter.specs.Machines.{Machine, machine, home, pend, open_page}
use Rattle.interpreter.specs.Performing.{perform}

pub record Taking : Type 0 where
  pub machine : Machine
  pub area : List ℕ
  pub told : Taken

abbrev pub taking : Machine → List ℕ → Taken → Taking
taking m a t = record { machine = m; area = a; told = t }

abbrev pub untouched : Refusal → Machine → List ℕ → Taking
untouched r m area = taking m area (told 0 (Err r) 0 m.marks)

abbrev pub fault_of : Refusal → Header → State → Fault
fault_of r h s = record { refusal = r; place = Some (record { host = h.code; command = h.code; offset = 0 }); overlay = None; page = open_page s }

abbrev pub unreadable : Header → ℕ → Machine → List ℕ → Taking
unreadable h n m area =
    taking (pend (Some (unwrap_or m.pending (fault_of LengthOutOfRange h m.state))) (home m)) area
    (told n (Err LengthOutOfRange) 0 m.marks)

abbrev pub handed : Fault → Header → Machine → List ℕ → Taking
handed f h m area =
    cond (asks_reply h)
    (taking (pend None m) (written (nack f (numbers_of m.spool)) area) (told h.length (Err ReplyPending) 40 m.marks))
    (taking m area (told h.length (Err ReplyPending) 0 m.marks))

abbrev pub accepted : Header → Machine → List ℕ → Taking
accepted h m area =
    cond (asks_reply h)
    (taking m (written (ack (numbers_of m.spool)) area) (told h.length (Ok tt) 16 m.marks))
    (taking m area (told h.length (Ok tt) 0 m.marks))

abbrev pub faulted : Fault → Header → Machine → List ℕ → Taking
faulted f h m area =
    cond (asks_reply h)
    (taking (home m) (written (nack f (numbers_of m.spool)) area) (told h.length (Err f.refusal) 40 m.marks))
    (taking (pend (Some f) (home m)) area (told h.length (Err f.refusal) 0 m.marks))

abbrev pub settled : Result Machine Refusal → Header → Machine → List ℕ → Taking
settled (Ok n) h m area = accepted h n area
settled (Err r) h m area = faulted (fault_of r h m.state) h m area

-- the end of a page that cannot wait yet
abbrev pub blocked_in : State → Header → Machine → Bool
blocked_in Home h m = false
blocked_in (Page id) h m = cond (ends (kind_of h.code)) (full m.spool) false

abbrev pub blocked : Header → Machine → Bool
blocked h m = blocked_in m.state h m

abbrev pub performed : Result Command Refusal → Machine → Result Machine Refusal
performed (Ok c) m = perform c m
performed (Err r) m = Err r

-- decoded for the state that it meets, and performed
abbrev pub interpreted : Header → List ℕ → Machine → Result Machine Refusal
interpreted h d m = performed (decoded m.state h d) m

-- a command whose length is right: first a pending reply, then a page that cannot wait, then the command itself
abbrev pub whole : Option Fault → Header → List ℕ → Machine → List ℕ → Taking
whole (Some f) h d m area = handed f h m area
whole None h d m area = cond (blocked h m) (untouched SixteenWait m area) (settled (interpreted h d m) h m area)

-- the grounds that come before the command is known to be whole
abbrev pub headed : Option Header → List ℕ → Machine → List ℕ → Taking
headed None bs m area = untouched Incomplete m area
headed (Some h) bs m area =
    cond (nat_lt (length area) 40) (untouched AreaShort m area)
    (cond (in_range h)
    (cond (nat_lt (length bs) h.length) (untouched Incomplete m area) (whole m.pending h (data_of h bs) m area))
    (unreadable h (length bs) m area))

abbrev pub take_of : List ℕ → Machine → List ℕ → Taking
take_of bs m area = headed (header_of bs) bs m area

-- no command is to blame
abbrev pub lost_paper : State → Fault
lost_paper s = record { refusal = PaperLost; place = None; overlay = None; page = open_page s }

abbrev pub jammed : Machine → Machine
jammed m = machine (jam m.spool) Home m.copies (Some (lost_paper m.state)) m.marks
