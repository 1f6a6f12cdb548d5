-- A turn keeps what holds.
use Rattle.std.proofs.Common.{◌≡◌, ℕ, ◌+◌, ◌<◌, ◌≤◌, Bool, true, false, cond, eqb, List, [], ◌∷◌, ◌++◌, length, get_or, take, drop, sym, refl, ap, ◌∙◌, subst, append_assoc, append-nil, arith}
use Rattle.std.proofs.lemmas.Bool.{ne_eqb}
use Rattle.engine.specs.declared.sheet.Sheet.{Sheet}
use Rattle.engine.specs.declared.sheet.Advanced.{Advanced}
use Rattle.engine.specs.Sheets.{Pair, pair, Before, after, onward, tally}
use Rattle.engine.specs.Engines.{taken, advanced}
use Rattle.engine.proofs.Tallying.{onward_append, after_pages, before_onward}
use Rattle.spool.specs.declared.page.WaitingPage.{WaitingPage}
use Rattle.spool.specs.Jobs.{blank, page_sheets, job_sheets, begun, so_far}
use Rattle.spool.specs.Spooled.{next_sheet}
use Rattle.spool.specs.Kept.{Unfed, Whole}
use Rattle.spool.specs.Flows.{turns, owed}
use Rattle.spool.specs.Views.{View, waits, flow_of, stacked_by, advance_v, feeds_v, turn_v}
use Rattle.spool.specs.Courses.{Event, fed, other, step, Course, later, bin_of, stacked_of, path_of, received_after, received_of, begun_of, waiting_after, waiting_of, Holds}
use Rattle.spool.proofs.Delivery.{delivers}
use Rattle.spool.proofs.Turning.{Turning, advances, fed_view, feeds_one, both, feed_at, feeds_at, feed_known, feeds_known, advance_waiting}

-- no copy of the next page to come is committed while a page waits
pub begun_none : (r : ℕ) (t : Pair) → t.pages < r → begun r t ≡ 0
begun_none r t h = ap (λ b. cond b t.copies 0) (ne_eqb r t.pages (omega arith))

begun_after : (r : ℕ) (t : Pair) (x : Sheet) → t.pages < r → begun r (after t x) ≡ 0
begun_after r t x h = go x.last
  where
    same : (b : Bool) → cond {A = ℕ} b 0 0 ≡ 0
    same true = refl
    same false = refl

    go : (b : Bool) → begun r (cond b (pair (t.pages + 1) 0) (pair t.pages (t.copies + 1))) ≡ 0
    go true = same (eqb r (t.pages + 1))
    go false = begun_none r (pair t.pages (t.copies + 1)) h

-- what is owed is delivered, whatever the run calls it
pub delivers_so : (K : ℕ) → 0 < K → (w : View) (path ws : List Sheet) → w.paper.path ≡ path → waits w ≡ ws → owed (flow_of w) ≤ w.paper.room → (turns (owed (flow_of w) + 1) K (flow_of w)).paper.bin ≡ w.paper.bin ++ (path ++ ws)
delivers_so K k w path ws ep ew fits = delivers K k (flow_of w) fits ∙ ap (λ p. w.paper.bin ++ (p ++ waits w)) ep ∙ ap (λ l. w.paper.bin ++ (path ++ l)) ew

-- the sheets `out` went into the bin and the sheets `new` into the path
module _ (K : ℕ) (k : 0 < K) (run : Course) (v w : View) (s : Holds K run v) (out new : List Sheet) (t : Turning v w out new) where
  flowed : stacked_of run ++ (path_of run ++ new) ≡ (stacked_of run ++ out) ++ w.paper.path
  flowed = ap (λ p. stacked_of run ++ (p ++ new)) (sym s.path) ∙ ap (λ p. stacked_of run ++ p) t.moved ∙ sym (append_assoc (stacked_of run) out w.paper.path)

  committed_is : w.spool.committed ≡ tally ((stacked_of run ++ out) ++ w.paper.path)
  committed_is = t.committed ∙ ap (λ c. onward c new) s.committed ∙ sym (onward_append (pair 0 0) (stacked_of run ++ path_of run) new) ∙ ap tally (append_assoc (stacked_of run) (path_of run) new ∙ flowed)

  stacked_is : w.spool.stacked ≡ tally (stacked_of run ++ out)
  stacked_is = t.stacked ∙ ap (λ c. onward c out) s.stacked ∙ sym (onward_append (pair 0 0) (stacked_of run) out)

  order_is : Before w.spool.stacked w.spool.committed
  order_is = subst (Before w.spool.stacked) (sym (committed_is ∙ onward_append (pair 0 0) (stacked_of run ++ out) w.paper.path ∙ ap (λ c. onward c w.paper.path) (sym stacked_is))) (before_onward w.spool.stacked w.paper.path)

  same_sheets : (stacked_of run ++ out) ++ (w.paper.path ++ waits w) ≡ stacked_of run ++ (path_of run ++ waiting_of run)
  same_sheets =
      sym (append_assoc (stacked_of run ++ out) w.paper.path (waits w)) ∙ ap (λ l. l ++ waits w) (sym flowed) ∙ append_assoc (stacked_of run) (path_of run ++ new) (waits w) ∙ ap (λ l. stacked_of run ++ l) (append_assoc (path_of run) new (waits w)) ∙ ap (λ l. stacked_of run ++ (path_of run ++ l)) (sym t.waiting ∙ s.waiting)

  holds_by : (e : Event) → w.spool.committed.pages ≤ w.spool.received → waits w ≡ waiting_after e (waiting_of run) (begun_of run) → received_after e (received_of run) (tally ((stacked_of run ++ out) ++ w.paper.path)) ≡ received_of run → begun (received_of run) (tally ((stacked_of run ++ out) ++ w.paper.path)) ≡ begun_of run → Holds K (later run (step e (stacked_of run ++ out) w.paper.path)) w
  holds_by e whole waiting same begun-same = record {
    bin = t.bin ∙ ap (λ b. b ++ out) s.bin ∙ append_assoc (bin_of run) (stacked_of run) out;
    path = refl;
    known = t.known;
    received = t.received ∙ s.received ∙ sym same;
    committed = committed_is;
    stacked = stacked_is;
    waiting = waiting;
    job = λ J pr f. ap (λ l. (stacked_of run ++ out) ++ (w.paper.path ++ l)) (sym waiting) ∙ same_sheets ∙ s.job J pr f.0 ∙ ap (λ b. job_sheets (take (received_of run) J) ++ take b (page_sheets (get_or J (received_of run) blank))) (sym begun-same) ∙ ap (λ r. so_far J r (tally ((stacked_of run ++ out) ++ w.paper.path))) (sym same);
    order = order_is;
    whole = whole;
    delivers = λ fits. delivers_so K k w _ _ refl waiting fits;
  }

-- nothing was fed
idle_holds : (K : ℕ) → 0 < K → (run : Course) (v w : View) → Holds K run v → (out : List Sheet) → Turning v w out [] → Holds K (later run (step other (stacked_of run ++ out) w.paper.path)) w
idle_holds K k run v w s out t =
    let same = sym (flowed K k run v w s out [] t) ∙ ap (λ p. stacked_of run ++ p) (append-nil (path_of run)) in
    let whole : w.spool.committed.pages ≤ w.spool.received = rw (t.committed, t.received) s.whole in
    holds_by K k run v w s out [] t other whole (sym t.waiting ∙ s.waiting) refl (ap (λ l. begun (received_of run) (tally l)) same)

-- a sheet was fed
fed_holds : (K : ℕ) → 0 < K → (run : Course) (v w : View) → Holds K run v → (out : List Sheet) (x : Sheet) → Turning v w out (x ∷ []) → v.spool.committed.pages < v.spool.received → Holds K (later run (step fed (stacked_of run ++ out) w.paper.path)) w
fed_holds K k run v w s out x t less =
    let r : v.spool.received ≡ received_of run = s.received in
    let whole : w.spool.committed.pages ≤ w.spool.received = rw (t.committed, t.received) (omega (arith, (after_pages v.spool.committed x).1)) in
    let before : begun_of run ≡ 0 = ap (begun (received_of run)) (sym s.committed) ∙ begun_none (received_of run) v.spool.committed (omega arith) in
    let now : begun (received_of run) (tally ((stacked_of run ++ out) ++ w.paper.path)) ≡ 0 = ap (begun (received_of run)) (sym (committed_is K k run v w s out (x ∷ []) t) ∙ t.committed) ∙ begun_after (received_of run) v.spool.committed x (omega arith) in
    holds_by K k run v w s out (x ∷ []) t fed whole (ap (drop 1) (sym t.waiting ∙ s.waiting)) refl (now ∙ sym before)

module _ (K : ℕ) (k : 0 < K) (k8 : K ≤ 8) (run : Course) (v : View) (kept : Whole v.spool) (s : Holds K run v) where
  out : List Sheet
  out = stacked_by (advanced v.paper)

  adv : Turning v (advance_v v) (stacked_by (advanced v.paper)) []
  adv = advances v s.known

  by_place : (w : WaitingPage) (ws : List WaitingPage) (b : Bool) → (advance_v v).spool.waiting ≡ w ∷ ws → Holds K (later run (step (cond b fed other) (stacked_of run ++ stacked_by (advanced v.paper)) (cond b (fed_view w ws (advance_v v)) (advance_v v)).paper.path)) (cond b (fed_view w ws (advance_v v)) (advance_v v))
  by_place w ws false e = idle_holds K k run v (advance_v v) s (stacked_by (advanced v.paper)) adv
  by_place w ws true e =
      let l : v.spool.waiting ≡ w ∷ ws = sym (advance_waiting v) ∙ e in
      let pos : Unfed (w ∷ ws) = subst Unfed l kept.unfed in
      let n : length v.spool.waiting ≡ length (w ∷ ws) = ap length l in
      let less : v.spool.committed.pages < v.spool.received = omega (arith, kept.paged) in
      let t = both v (advance_v v) (fed_view w ws (advance_v v)) (stacked_by (advanced v.paper)) _ adv (feeds_one (advance_v v) adv.known w ws e pos.0) in
      fed_holds K k run v (fed_view w ws (advance_v v)) s (stacked_by (advanced v.paper)) (next_sheet (advance_v v).spool.committed w) t less

  by_pages : (ws : List WaitingPage) → (advance_v v).spool.waiting ≡ ws → Holds K (later run (step (cond (feeds_at K ws (advance_v v)) fed other) (stacked_of run ++ stacked_by (advanced v.paper)) (feed_at K ws (advance_v v)).paper.path)) (feed_at K ws (advance_v v))
  by_pages [] e = idle_holds K k run v (advance_v v) s (stacked_by (advanced v.paper)) adv
  by_pages (w ∷ ws) e = by_place w ws (taken K (advance_v v).paper) e

  -- of what a turn answered and left
  pub turn_holds : (w : View) → w ≡ turn_v K v → (a : Advanced) → a ≡ advanced v.paper → (b : Bool) → b ≡ feeds_v K (advance_v v) → Holds K (later run (step (cond b fed other) (stacked_of run ++ stacked_by a) w.paper.path)) w
  turn_holds w ew a ea b eb =
      let at = feed_at K (advance_v v).spool.waiting (advance_v v) in
      subst (λ (w : View). Holds K (later run (step (cond b fed other) (stacked_of run ++ stacked_by a) w.paper.path)) w) (sym (ew ∙ feed_known K k8 (advance_v v) adv.known))
      (subst (λ (a : Advanced). Holds K (later run (step (cond b fed other) (stacked_of run ++ stacked_by a) at.paper.path)) at) (sym ea)
      (subst (λ (b : Bool). Holds K (later run (step (cond b fed other) (stacked_of run ++ stacked_by (advanced v.paper)) at.paper.path)) at) (sym (eb ∙ feeds_known K k8 (advance_v v) adv.known))
      (by_pages (advance_v v).spool.waiting refl)))
