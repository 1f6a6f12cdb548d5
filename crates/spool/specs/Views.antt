-- An engine and its spool, and what an advance, a feed and a turn do to both.
--   View      the paper in the engine, and what the spool holds
--   waits     the sheets that wait
--   flow_of    the same by sheets alone
--   advance_v  the engine advances; what it stacked the spool counts
--   feed_v     the spool's next copy is fed; what the engine took the spool commits
--   turn_v     one after the other
use Rattle.std.specs.Prelude.{ℕ, Bool, false, cond, List, [], ◌∷◌, Some, None, Option}
use Rattle.engine.specs.declared.sheet.Sheet.{Sheet}
use Rattle.engine.specs.declared.sheet.Advanced.{Advanced}
use Rattle.engine.specs.declared.sheet.Advanced.TheVariants.{Stacked, PathEmpty, BinFull}
use Rattle.engine.specs.Engines.{Paper, fed, taken, advance, advanced, purged}
use Rattle.spool.specs.Spooled.{Spooled, waiting_sheets, next_of, commit, stack, jam}
use Rattle.spool.specs.Flows.{Flow, flow}

pub record View : Type 0 where
  pub paper : Paper
  pub spool : Spooled

abbrev pub view : Paper → Spooled → View
view p b = record { paper = p; spool = b }

abbrev pub waits : View → List Sheet
waits v = waiting_sheets v.spool.committed.copies v.spool.waiting

abbrev pub flow_of : View → Flow
flow_of v = flow v.paper (waits v)

abbrev pub stack_by : Advanced → Spooled → Spooled
stack_by (Stacked s) b = stack b
stack_by PathEmpty b = b
stack_by BinFull b = b

abbrev pub advance_v : View → View
advance_v v = view (advance v.paper) (stack_by (advanced v.paper) v.spool)

abbrev pub feed_by : ℕ → Option Sheet → View → View
feed_by K None v = v
feed_by K (Some s) v = view (fed K s v.paper) (cond (taken K v.paper) (commit v.spool) v.spool)

abbrev pub feed_v : ℕ → View → View
feed_v K v = feed_by K (next_of v.spool) v

abbrev pub feeds_by : ℕ → Option Sheet → View → Bool
feeds_by K None v = false
feeds_by K (Some s) v = taken K v.paper

-- whether a sheet is fed
abbrev pub feeds_v : ℕ → View → Bool
feeds_v K v = feeds_by K (next_of v.spool) v

abbrev pub turn_v : ℕ → View → View
turn_v K v = feed_v K (advance_v v)

abbrev pub jam_v : View → View
jam_v v = view (purged v.paper) (jam v.spool)

-- the sheets that an advance stacked
abbrev pub stacked_by : Advanced → List Sheet
stacked_by (Stacked s) = s ∷ []
stacked_by PathEmpty = []
stacked_by BinFull = []
