-- What a spool holds, and what its operations make of it.
--   Spooled         the waiting pages, the counters, and the sheets in the path as the spool knows them
--   waiting_sheets   the sheets that the waiting pages are still to give
--   next_sheet       the next copy of the first waiting page
--   next_of          the next copy to feed, where a page waits and the path has a place
--   commit          the next copy is fed
--   stack           the path's oldest sheet is stacked
--   refusal_of       why a page with n copies is not received
--   receive         a page with n copies waits
--   discard         the waiting pages are dropped
--   jam             the waiting pages and the sheets in the path are dropped
use Rattle.std.specs.Prelude.{◌≡◌, ℕ, ◌+◌, ◌-◌, Bool, cond, List, [], ◌∷◌, ◌++◌, length, Some, None, Ok, Err, Option, Result, ◌==◌, nat_lt}
use Rattle.std.specs.List.{sum_by}
use Rattle.engine.specs.declared.sheet.Sheet.{Sheet}
use Rattle.engine.specs.Sheets.{Pair, pair, after}
use Rattle.spool.specs.declared.page.WaitingPage.{WaitingPage}
use Rattle.spool.specs.declared.page.NotReceived.{NotReceived}
use Rattle.spool.specs.declared.page.NotReceived.TheVariants.{SixteenWait, PagesSpent, CopiesSpent}
use Rattle.spool.specs.Jobs.{sheet, numbered}

pub record Spooled : Type 0 where
  pub waiting : List WaitingPage
  pub received : ℕ
  pub committed : Pair
  pub stacked : Pair
  pub path : List Sheet

abbrev pub spooled : List WaitingPage → ℕ → Pair → Pair → List Sheet → Spooled
spooled w r c s p = record { waiting = w; received = r; committed = c; stacked = s; path = p }

abbrev pub waiting_page : ℕ → ℕ → WaitingPage
waiting_page id n = record { page = id; unfed = n }

-- c copies of the first page are fed already
abbrev pub waiting_sheets : ℕ → List WaitingPage → List Sheet
waiting_sheets c [] = []
waiting_sheets c (w ∷ ws) = numbered w.page (c + 1) w.unfed ++ waiting_sheets 0 ws

-- how many copies the waiting pages are still to give
abbrev pub unfed_in : List WaitingPage → ℕ
unfed_in ws = sum_by (λ (w : WaitingPage). w.unfed) ws

-- nothing waits and nothing is in the path
abbrev pub idle : Pair → Spooled
idle t = spooled [] t.pages t t []

abbrev pub empty : Spooled
empty = idle (pair 0 0)

abbrev pub next_sheet : Pair → WaitingPage → Sheet
next_sheet t w = sheet w.page (t.copies + 1) (w.unfed == 1)

-- the path has a place, as far as the spool knows
abbrev pub free : Spooled → Bool
free b = nat_lt (length b.path) 8

abbrev pub next_at : List WaitingPage → Pair → Option Sheet
next_at [] t = None
next_at (w ∷ ws) t = Some (next_sheet t w)

abbrev pub next_of : Spooled → Option Sheet
next_of b = cond (free b) (next_at b.waiting b.committed) None

-- the waiting pages once a copy of the first is fed: it leaves with its last copy
abbrev pub fed_pages : WaitingPage → List WaitingPage → List WaitingPage
fed_pages w ws = cond (w.unfed == 1) ws (waiting_page w.page (w.unfed - 1) ∷ ws)

abbrev pub commit_at : List WaitingPage → Spooled → Spooled
commit_at [] b = b
commit_at (w ∷ ws) b = spooled (fed_pages w ws) b.received (after b.committed (next_sheet b.committed w)) b.stacked (b.path ++ (next_sheet b.committed w ∷ []))

abbrev pub commit : Spooled → Spooled
commit b = cond (free b) (commit_at b.waiting b) b

abbrev pub stack_at : List Sheet → Spooled → Spooled
stack_at [] b = b
stack_at (s ∷ ss) b = spooled b.waiting b.received b.committed (after b.stacked s) ss

abbrev pub stack : Spooled → Spooled
stack b = stack_at b.path b

-- sixteen pages wait
abbrev pub full : Spooled → Bool
full b = length b.waiting == 16

abbrev pub refusal_of : ℕ → Spooled → Option NotReceived
refusal_of n b =
    cond (full b) (Some SixteenWait)
    (cond (b.received == 65535) (Some PagesSpent)
    (cond (b.received == b.committed.pages)
    (cond (nat_lt 255 (b.committed.copies + n)) (Some CopiesSpent) None)
    None))

abbrev pub receive : ℕ → ℕ → Spooled → Spooled
receive id n b = spooled (b.waiting ++ (waiting_page id n ∷ [])) (b.received + 1) b.committed b.stacked b.path

-- a page is received, or refused with nothing changed
abbrev pub Receives : ℕ → ℕ → Spooled → Spooled → Result (Unit {0}) NotReceived → Type 0
Receives id n b c (Ok u) = (refusal_of n b ≡ None) × (c ≡ receive id n b)
Receives id n b c (Err e) = (refusal_of n b ≡ Some e) × (c ≡ b)

abbrev pub discard : Spooled → Spooled
discard b = spooled [] b.committed.pages b.committed b.stacked b.path

-- what is committed then is what is stacked
abbrev pub jam : Spooled → Spooled
jam b = idle b.stacked
