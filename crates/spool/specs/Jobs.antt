-- Jobs and their sheets.
--   Page         a page of a job: its ID and how many copies of it are wanted
--   Proper       each page of a job has from 1 to 255 copies
--   numbered     copies of a page, numbered from k on, the last of them flagged
--   page_sheets   all copies of a page
--   job_sheets    the sheets of a job, page by page
--   begun        how many copies of the next page to come are committed already
--   so_far        the sheets of a job's first r pages, and then the committed copies of the next
use Rattle.std.specs.Prelude.{ℕ, zero, suc, ◌+◌, ◌<◌, ◌≤◌, Bool, true, false, cond, List, [], ◌∷◌, ◌++◌, take, ◌==◌, slice_index_or}
use Rattle.engine.specs.declared.sheet.Sheet.{Sheet}
use Rattle.engine.specs.Sheets.{Pair}

pub record Page : Type 0 where
  pub id : ℕ
  pub copies : ℕ

abbrev pub page : ℕ → ℕ → Page
page i n = record { id = i; copies = n }

-- what stands behind a job's end
abbrev pub blank : Page
blank = page 0 0

abbrev pub Proper : List Page → Type 0
Proper [] = Unit {0}
Proper (p ∷ ps) = ((0 < p.copies) × (p.copies ≤ 255)) × Proper ps

abbrev pub sheet : ℕ → ℕ → Bool → Sheet
sheet id k b = record { page = id; copy = k; last = b }

-- no copy follows
abbrev pub ended : ℕ → Bool
ended zero = true
ended (suc n) = false

abbrev pub numbered : ℕ → ℕ → ℕ → List Sheet
numbered id k zero = []
numbered id k (suc n) = sheet id k (ended n) ∷ numbered id (k + 1) n

abbrev pub page_sheets : Page → List Sheet
page_sheets p = numbered p.id 1 p.copies

abbrev pub job_sheets : List Page → List Sheet
job_sheets [] = []
job_sheets (p ∷ ps) = page_sheets p ++ job_sheets ps

abbrev pub begun : ℕ → Pair → ℕ
begun r t = cond (r == t.pages) t.copies 0

-- the sheets of a job up to a place in it
abbrev pub upto : List Page → ℕ → ℕ → List Sheet
upto J r c = job_sheets (take r J) ++ take c (page_sheets (slice_index_or J r blank))

abbrev pub so_far : List Page → ℕ → Pair → List Sheet
so_far J r t = upto J r (begun r t)
