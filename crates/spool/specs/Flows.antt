-- The flow of sheets into the bin, by sheets alone.
--   Flow      the paper in the engine, and the sheets that wait
--   turn      one advance, and then one feed
--   turned    what a turn answers
--   turns     so many turns in a row
--   owed      how many sheets are in the path or wait
use Rattle.std.specs.Prelude.{ℕ, zero, suc, Bool, false, cond, List, [], ◌∷◌, ◌++◌, length}
use Rattle.engine.specs.declared.sheet.Sheet.{Sheet}
use Rattle.engine.specs.Engines.{Paper, put, taken, advance, advanced}
use Rattle.spool.specs.declared.page.Turned.{Turned}

pub record Flow : Type 0 where
  pub paper : Paper
  pub waiting : List Sheet

abbrev pub flow : Paper → List Sheet → Flow
flow p ws = record { paper = p; waiting = ws }

-- the first sheet that waits is fed, where the path has a place
abbrev pub feed : ℕ → List Sheet → Paper → Flow
feed K [] p = flow p []
feed K (w ∷ ws) p = cond (taken K p) (flow (put w p) ws) (flow p (w ∷ ws))

abbrev pub feeds : ℕ → List Sheet → Paper → Bool
feeds K [] p = false
feeds K (w ∷ ws) p = taken K p

abbrev pub turn : ℕ → Flow → Flow
turn K f = feed K f.waiting (advance f.paper)

abbrev pub turned : ℕ → Flow → Turned
turned K f = record { advanced = advanced f.paper; fed = feeds K f.waiting (advance f.paper) }

abbrev pub turns : ℕ → ℕ → Flow → Flow
turns zero K f = f
turns (suc n) K f = turns n K (turn K f)

abbrev pub owed : Flow → ℕ
owed f = length (f.paper.path ++ f.waiting)
