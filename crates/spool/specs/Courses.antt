-- The course of a printer end by what came about, and what holds after it.
--   Event        a page was received, pages were discarded, paper was lost, a sheet was fed, or nothing of these
--   Course       a printer end was made over a bin, and then came event after event, each with the stacked
--                sheets and the path after it
--   received_of   the received counter by the course: one more for each page; the committed pages at a
--                discard and at a jam
--   waiting_of    the waiting copies by the course: a page adds its copies, numbered on from the committed
--                ones where it continues a page; a feed takes the first; a discard and a jam drop all
--   Follows      the pages that came are those of a job, in their order
--   Holds        what holds of an engine and its spool after a course
use Rattle.std.specs.Prelude.{◌≡◌, ℕ, ◌+◌, ◌-◌, ◌<◌, ◌≤◌, List, [], ◌++◌, length, drop, slice_index_or}
use Rattle.engine.specs.declared.sheet.Sheet.{Sheet}
use Rattle.engine.specs.Sheets.{Pair, tally, Before}
use Rattle.spool.specs.Jobs.{Page, blank, Proper, numbered, begun, so_far}
use Rattle.spool.specs.Flows.{turns, owed}
use Rattle.spool.specs.Views.{View, waits, flow_of}

pub data Event : Type 0 where
  page : ℕ → ℕ → Event
  discarded : Event
  jammed : Event
  fed : Event
  other : Event

pub record Step : Type 0 where
  pub event : Event
  pub stacked : List Sheet
  pub path : List Sheet

abbrev pub step : Event → List Sheet → List Sheet → Step
step e s p = record { event = e; stacked = s; path = p }

pub data Course : Type 0 where
  start : List Sheet → Course
  later : Course → Step → Course

-- the bin before the making
abbrev pub bin_of : Course → List Sheet
bin_of (start b) = b
bin_of (later r m) = bin_of r

-- what the bin has gained since
abbrev pub stacked_of : Course → List Sheet
stacked_of (start b) = []
stacked_of (later r m) = m.stacked

abbrev pub path_of : Course → List Sheet
path_of (start b) = []
path_of (later r m) = m.path

-- the committed pair
abbrev pub committed_of : Course → Pair
committed_of r = tally (stacked_of r ++ path_of r)

abbrev pub received_after : Event → ℕ → Pair → ℕ
received_after (page id n) r t = r + 1
received_after discarded r t = t.pages
received_after jammed r t = t.pages
received_after fed r t = r
received_after other r t = r

abbrev pub received_of : Course → ℕ
received_of (start b) = 0
received_of (later r m) = received_after m.event (received_of r) (tally (m.stacked ++ m.path))

-- how many copies of the next page to come are committed
abbrev pub begun_of : Course → ℕ
begun_of r = begun (received_of r) (committed_of r)

abbrev pub waiting_after : Event → List Sheet → ℕ → List Sheet
waiting_after (page id n) ws c = ws ++ numbered id (c + 1) n
waiting_after discarded ws c = []
waiting_after jammed ws c = []
waiting_after fed ws c = drop 1 ws
waiting_after other ws c = ws

abbrev pub waiting_of : Course → List Sheet
waiting_of (start b) = []
waiting_of (later r m) = waiting_after m.event (waiting_of r) (begun_of r)

-- a page that comes is the one at this place of the job: its ID, and its copies less those committed
abbrev pub Closes : List Page → Event → ℕ → ℕ → Type 0
Closes J (page id n) r c = (r < length J) × ((slice_index_or J r blank).id ≡ id) × (n ≡ (slice_index_or J r blank).copies - c)
Closes J discarded r c = Unit {0}
Closes J jammed r c = Unit {0}
Closes J fed r c = Unit {0}
Closes J other r c = Unit {0}

abbrev pub Follows : List Page → Course → Type 0
Follows J (start b) = Unit {0}
Follows J (later r m) = Follows J r × Closes J m.event (received_of r) (begun_of r)

pub record Holds (K : ℕ) (run : Course) (v : View) : Type 0 where
  pub bin : v.paper.bin ≡ bin_of run ++ stacked_of run
  pub path : v.paper.path ≡ path_of run
  pub known : v.spool.path ≡ v.paper.path
  pub received : v.spool.received ≡ received_of run
  pub committed : v.spool.committed ≡ committed_of run
  pub stacked : v.spool.stacked ≡ tally (stacked_of run)
  pub waiting : waits v ≡ waiting_of run
  pub job : (J : List Page) → Proper J → Follows J run → stacked_of run ++ (path_of run ++ waiting_of run) ≡ so_far J (received_of run) (committed_of run)
  pub order : Before v.spool.stacked v.spool.committed
  pub whole : v.spool.committed.pages ≤ v.spool.received
  pub delivers : owed (flow_of v) ≤ v.paper.room → (turns (owed (flow_of v) + 1) K (flow_of v)).paper.bin ≡ v.paper.bin ++ (path_of run ++ waiting_of run)
