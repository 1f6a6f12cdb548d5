-- A turn of an engine and its spool is a turn of the sheets.
use Rattle.std.proofs.Common.{◌≡◌, ℕ, ◌≤◌, Bool, true, false, cond, List, [], ◌∷◌, sym, refl, ap, ◌∙◌, subst}
use Rattle.engine.specs.Engines.{put, taken, advance, advanced}
use Rattle.spool.specs.declared.page.WaitingPage.{WaitingPage}
use Rattle.spool.specs.Spooled.{waiting_sheets, next_sheet}
use Rattle.spool.specs.Kept.{Unfed}
use Rattle.spool.specs.Flows.{flow, feed, feeds, turn, turned}
use Rattle.spool.specs.Views.{View, waits, flow_of, stacked_by, advance_v, feeds_v, turn_v}
use Rattle.spool.proofs.Turning.{unrolled, Turning, advances, fed_view, feed_at, feeds_at, feed_known, feeds_known, advance_waiting}

flow_feed : (K : ℕ) (v : View) (ws : List WaitingPage) → v.spool.waiting ≡ ws → Unfed ws → flow_of (feed_at K ws v) ≡ feed K (waiting_sheets v.spool.committed.copies ws) v.paper
flow_feed K v [] e l = ap (λ m. flow v.paper (waiting_sheets v.spool.committed.copies m)) e
flow_feed K v (w ∷ ws) e l = go (taken K v.paper) ∙ ap (λ s. feed K s v.paper) (sym (unrolled v.spool.committed w ws l.0))
  where
    go : (b : Bool) → flow_of (cond b (fed_view w ws v) v) ≡ cond b (flow (put (next_sheet v.spool.committed w) v.paper) (waits (fed_view w ws v))) (flow v.paper (next_sheet v.spool.committed w ∷ waits (fed_view w ws v)))
    go true = refl
    go false = ap (λ s. flow v.paper s) (ap (waiting_sheets v.spool.committed.copies) e ∙ unrolled v.spool.committed w ws l.0)

flow_feeds : (K : ℕ) (v : View) (ws : List WaitingPage) → Unfed ws → feeds_at K ws v ≡ feeds K (waiting_sheets v.spool.committed.copies ws) v.paper
flow_feeds K v [] l = refl
flow_feeds K v (w ∷ ws) l = ap (λ s. feeds K s v.paper) (sym (unrolled v.spool.committed w ws l.0))

module _ (K : ℕ) (k : K ≤ 8) (v : View) (known : v.spool.path ≡ v.paper.path) (unfed : Unfed v.spool.waiting) where
  next : Turning v (advance_v v) (stacked_by (advanced v.paper)) []
  next = advances v known

  unfed_then : Unfed (advance_v v).spool.waiting
  unfed_then = subst Unfed (sym (advance_waiting v)) unfed

  pub flow_turn : flow_of (turn_v K v) ≡ turn K (flow_of v)
  flow_turn =
      ap flow_of (feed_known K k (advance_v v) next.known) ∙ flow_feed K (advance_v v) (advance_v v).spool.waiting refl unfed_then ∙ ap (λ s. feed K s (advance v.paper)) (sym next.waiting)

  pub flow_fed : feeds_v K (advance_v v) ≡ (turned K (flow_of v)).fed
  flow_fed =
      feeds_known K k (advance_v v) next.known ∙ flow_feeds K (advance_v v) (advance_v v).spool.waiting unfed_then ∙ ap (λ s. feeds K s (advance v.paper)) (sym next.waiting)
