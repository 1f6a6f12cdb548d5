-- Whole runs of a printer end, by its calls and what they told, and what stands after each.
-- The takes are of any type C; its meaning tells what each came to and the bytes of its reply.
--   Call            a take, a turn with its answer, a jam, a reading of the counters or of the sheets owed
--   Run             a printer end made over a bin, and then call after call, each with the stacked sheets
--                   and the engine's path after it
--   open_page        the page that is open, by the calls
--   copies_in_force   the copies in force, by the calls
--   course          the run by what came about
--   counters        the counters, by sheets and calls
--   Receiving       the run receives the pages of a job in their order
--   Told            each reply and each reading gave what sheets and calls count
--   Stands          what stands of a printer end after a run
use Rattle.std.specs.Prelude.{◌≡◌, ℕ, zero, suc, ◌<◌, cond, List, [], ◌∷◌, ◌++◌, length, take, drop, Some, None, Option}
use Rattle.engine.specs.declared.sheet.Sheet.{Sheet}
use Rattle.engine.specs.Engines.{paper}
use Rattle.engine.specs.Sheets.{tally}
use Rattle.spool.specs.declared.page.Turned.{Turned}
use Rattle.spool.specs.declared.page.Counters.{Counters}
use Rattle.spool.specs.Jobs.{Page}
use Rattle.spool.specs.Spools.{Numbers, numbers, told, bytes_of}
use Rattle.spool.specs.Flows.{Flow, flow}
use Rattle.spool.specs.Views.{stacked_by}
use Rattle.spool.specs.Courses.{Event, page, discarded, jammed, fed, other, Course, start, later, step, bin_of, stacked_of, path_of, received_of, waiting_of, Follows, Holds}
use Rattle.spool.specs.Receivers.{Effect, nothing, setting, opening, ending, closing, clearing, Station}

pub record Meaning (C : Type 0) : Type 0 where
  pub effect : C → Effect
  pub reply : C → List ℕ

pub data Call (C : Type 0) : Type 0 where
  took : C → Call C
  turned : Turned → Call C
  jam : Call C
  counted : Counters → Call C
  owing : ℕ → Call C

pub record Moment (C : Type 0) : Type 0 where
  pub call : Call C
  pub stacked : List Sheet
  pub path : List Sheet

pub data Run (C : Type 0) : Type 0 where
  made : List Sheet → Run C
  then : Run C → Moment C → Run C

abbrev pub open_by : Effect → Option ℕ → Option ℕ
open_by nothing o = o
open_by (setting n) o = o
open_by (opening id) o = Some id
open_by ending o = None
open_by closing o = None
open_by clearing o = None

abbrev pub open_after : {C : Type 0} → Meaning C → Call C → Option ℕ → Option ℕ
open_after m (took c) o = open_by (m.effect c) o
open_after m (turned t) o = o
open_after m jam o = None
open_after m (counted n) o = o
open_after m (owing n) o = o

abbrev pub open_page : {C : Type 0} → Meaning C → Run C → Option ℕ
open_page m (made b) = None
open_page m (then r x) = open_after m x.call (open_page m r)

abbrev pub copies_by : Effect → ℕ → ℕ
copies_by nothing k = k
copies_by (setting n) k = n
copies_by (opening id) k = k
copies_by ending k = k
copies_by closing k = k
copies_by clearing k = k

abbrev pub copies_after : {C : Type 0} → Meaning C → Call C → ℕ → ℕ
copies_after m (took c) k = copies_by (m.effect c) k
copies_after m (turned t) k = k
copies_after m jam k = k
copies_after m (counted n) k = k
copies_after m (owing n) k = k

abbrev pub copies_in_force : {C : Type 0} → Meaning C → Run C → ℕ
copies_in_force m (made b) = 1
copies_in_force m (then r x) = copies_after m x.call (copies_in_force m r)

-- an end with no page open is no page
abbrev pub end_event : Option ℕ → ℕ → Event
end_event None k = other
end_event (Some id) k = page id k

abbrev pub event_by : Effect → Option ℕ → ℕ → Event
event_by nothing o k = other
event_by (setting n) o k = other
event_by (opening id) o k = other
event_by ending o k = end_event o k
event_by closing o k = other
event_by clearing o k = discarded

abbrev pub event_of : {C : Type 0} → Meaning C → Call C → Option ℕ → ℕ → Event
event_of m (took c) o k = event_by (m.effect c) o k
event_of m (turned t) o k = cond t.fed fed other
event_of m jam o k = jammed
event_of m (counted n) o k = other
event_of m (owing n) o k = other

abbrev pub course : {C : Type 0} → Meaning C → Run C → Course
course m (made b) = start b
course m (then r x) = later (course m r) (step (event_of m x.call (open_page m r) (copies_in_force m r)) x.stacked x.path)

abbrev pub stacked : {C : Type 0} → Meaning C → Run C → List Sheet
stacked m run = stacked_of (course m run)

abbrev pub path : {C : Type 0} → Meaning C → Run C → List Sheet
path m run = path_of (course m run)

abbrev pub waiting : {C : Type 0} → Meaning C → Run C → List Sheet
waiting m run = waiting_of (course m run)

abbrev pub received : {C : Type 0} → Meaning C → Run C → ℕ
received m run = received_of (course m run)

-- the sheets owed: the path, then the waiting copies
abbrev pub owed_by : {C : Type 0} → Meaning C → Run C → List Sheet
owed_by m run = path m run ++ waiting m run

abbrev pub counters : {C : Type 0} → Meaning C → Run C → Numbers
counters m run = numbers (received m run) (tally (stacked m run ++ path m run)) (tally (stacked m run))

-- what flows into a bin with this room
abbrev pub flow_by : {C : Type 0} → Meaning C → Run C → ℕ → Flow
flow_by m run room = flow (paper (path m run) (bin_of (course m run) ++ stacked m run) room) (waiting m run)

abbrev pub Receiving : {C : Type 0} → Meaning C → List Page → Run C → Type 0
Receiving m J run = Follows J (course m run)

-- a reply gives these counters, in the ten bytes behind its first six
abbrev pub Replies : List ℕ → Numbers → Type 0
Replies [] n = Unit {0}
Replies (b ∷ bs) n = take 10 (drop 6 (b ∷ bs)) ≡ bytes_of n

abbrev pub Gives : {C : Type 0} → Meaning C → Call C → Numbers → ℕ → Type 0
Gives m (took c) n k = Replies (m.reply c) n
Gives m (turned t) n k = Unit {0}
Gives m jam n k = Unit {0}
Gives m (counted c) n k = told c ≡ n
Gives m (owing w) n k = w ≡ k

abbrev pub Told : {C : Type 0} → Meaning C → Run C → Type 0
Told m (made b) = Unit {0}
Told m (then r x) = Told m r × Gives m x.call (counters m (then r x)) (length (owed_by m (then r x)))

pub record Stands {C : Type 0} (m : Meaning C) (K : ℕ) (run : Run C) (w : Station) : Type 0 where
  pub current : w.current ≡ open_page m run
  pub copies : w.copies ≡ copies_in_force m run
  pub some : 0 < copies_in_force m run
  pub told : Told m run
  pub holds : Holds K (course m run) w.view

abbrev pub after_call : {C : Type 0} → Run C → Call C → List Sheet → List Sheet → Run C
after_call run c s p = then run (record { call = c; stacked = s; path = p })

-- a call that leaves stacked sheets and path as they were
abbrev pub after_still : {C : Type 0} → Meaning C → Run C → Call C → Run C
after_still m run c = after_call run c (stacked m run) (path m run)

-- a turn with this answer that leaves this path
abbrev pub after_turn : {C : Type 0} → Meaning C → Run C → Turned → List Sheet → Run C
after_turn m run t p = after_call run (turned t) (stacked m run ++ stacked_by t.advanced) p

abbrev pub after_jam : {C : Type 0} → Meaning C → Run C → Run C
after_jam m run = after_call run jam (stacked m run) []

-- n turns in a row
abbrev pub Turns : {C : Type 0} → Meaning C → ℕ → Run C → Run C → Type 0
Turns m zero r s = s ≡ r
Turns {C} m (suc n) r s = (q : Run C) × (Turns m n r q × ((t : Turned) × ((p : List Sheet) × (s ≡ after_turn m q t p))))
