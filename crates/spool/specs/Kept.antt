-- What holds of every spool.
--   Unfed         each waiting page has a copy to feed
--   first_copies  the copies that a spool makes of the page that is being fed
--   Whole         the counters and the waiting pages agree
--   Small         each waiting page has at most 255 copies to feed
--   Kept          the spool is whole, holds no more than it has places for, and counts as committed what is stacked
--                 and then what is in the path
use Rattle.std.specs.Prelude.{◌≡◌, ℕ, ◌+◌, ◌<◌, ◌≤◌, List, [], ◌∷◌, length, take}
use Rattle.engine.specs.Sheets.{onward}
use Rattle.spool.specs.declared.page.WaitingPage.{WaitingPage}
use Rattle.spool.specs.Spooled.{Spooled}

abbrev pub Unfed : List WaitingPage → Type 0
Unfed [] = Unit {0}
Unfed (w ∷ ws) = (0 < w.unfed) × Unfed ws

-- with c of them fed
abbrev pub first_copies : ℕ → List WaitingPage → ℕ
first_copies c [] = c
first_copies c (w ∷ ws) = c + w.unfed

pub record Whole (b : Spooled) : Type 0 where
  pub paged : b.committed.pages + length b.waiting ≡ b.received
  pub unfed : Unfed b.waiting
  pub first : first_copies b.committed.copies b.waiting ≤ 255
  pub few : b.committed.copies ≤ 254

abbrev pub Small : List WaitingPage → Type 0
Small [] = Unit {0}
Small (w ∷ ws) = (w.unfed ≤ 255) × Small ws

pub record Kept (b : Spooled) : Type 0 where
  pub whole : Whole b
  pub small : Small b.waiting
  pub short : length b.waiting ≤ 16
  pub within : length b.path ≤ 8
  pub fits : b.received ≤ 65535
  pub tied : b.committed ≡ onward b.stacked b.path
  pub each : (k : ℕ) → k ≤ length b.path → (onward b.stacked (take k b.path)).copies ≤ 254
