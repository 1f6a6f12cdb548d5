-- What an advance and a feed do to the sheets of an engine and its spool.
use Rattle.std.proofs.Common.{◌≡◌, ℕ, zero, suc, ◌+◌, ◌-◌, ◌<◌, ◌≤◌, Bool, true, false, cond, eqb, List, [], ◌∷◌, ◌++◌, length, None, sym, refl, ap, ◌∙◌, append_assoc, append-nil, arith}
use Rattle.std.proofs.lemmas.Bool.{eq-eqb, ne_eqb, le-ltb, ltb-false}
use Rattle.engine.specs.declared.sheet.Sheet.{Sheet}
use Rattle.engine.specs.Sheets.{Pair, pair, after, onward}
use Rattle.engine.specs.Engines.{Paper, paper, put, taken, advance_at, advanced_at, advanced}
use Rattle.spool.specs.declared.page.WaitingPage.{WaitingPage}
use Rattle.spool.specs.Jobs.{sheet, numbered}
use Rattle.spool.specs.Spooled.{Spooled, waiting_page, waiting_sheets, next_sheet, free, next_at, fed_pages, commit_at, stack_at, stack}
use Rattle.spool.specs.Views.{View, view, waits, stack_by, stacked_by, advance_v, feed_by, feeds_by, feed_v, feeds_v}

-- the sheets that wait, with the next one's flag
abbrev form : Pair → WaitingPage → List WaitingPage → Bool → List Sheet
form t w ws b =
    sheet w.page (t.copies + 1) b ∷ waiting_sheets (cond b (pair (t.pages + 1) 0) (pair t.pages (t.copies + 1))).copies (cond b ws (waiting_page w.page (w.unfed - 1) ∷ ws))

-- the sheets that wait are the next one and those that wait after it
pub unrolled : (t : Pair) (w : WaitingPage) (ws : List WaitingPage) → 0 < w.unfed → waiting_sheets t.copies (w ∷ ws) ≡ next_sheet t w ∷ waiting_sheets (after t (next_sheet t w)).copies (fed_pages w ws)
unrolled t w ws pos = go w.unfed refl
  where
    go : (m : ℕ) → w.unfed ≡ m → numbered w.page (t.copies + 1) w.unfed ++ waiting_sheets 0 ws ≡ form t w ws (eqb w.unfed 1)
    go zero e = absurd (omega arith)
    go (suc zero) e =
        ap (λ m. numbered w.page (t.copies + 1) m ++ waiting_sheets 0 ws) e ∙ ap (form t w ws) (sym (eq-eqb w.unfed 1 e))
    go (suc (suc n)) e =
        let less : w.unfed - 1 ≡ suc n = omega arith in
        ap (λ m. numbered w.page (t.copies + 1) m ++ waiting_sheets 0 ws) e ∙ ap (λ m. sheet w.page (t.copies + 1) false ∷ (numbered w.page (t.copies + 1 + 1) m ++ waiting_sheets 0 ws)) (sym less) ∙ ap (form t w ws) (sym (ne_eqb w.unfed 1 (omega arith)))

-- from v to w, the sheets `out` left the path for the bin and the sheets `new` came into it
pub record Turning (v w : View) (out new : List Sheet) : Type 0 where
  pub bin : w.paper.bin ≡ v.paper.bin ++ out
  pub moved : v.paper.path ++ new ≡ out ++ w.paper.path
  pub known : w.spool.path ≡ w.paper.path
  pub received : w.spool.received ≡ v.spool.received
  pub committed : w.spool.committed ≡ onward v.spool.committed new
  pub stacked : w.spool.stacked ≡ onward v.spool.stacked out
  pub waiting : waits v ≡ new ++ waits w

still : (p : Paper) (b : Spooled) → b.path ≡ p.path → Turning (view p b) (view p b) [] []
still p b l = record {
  bin = sym (append-nil p.bin);
  moved = append-nil p.path;
  known = l;
  received = refl;
  committed = refl;
  stacked = refl;
  waiting = refl;
}

advances_at : (path bin : List Sheet) (room : ℕ) (b : Spooled) → b.path ≡ path → Turning (view (paper path bin room) b) (view (advance_at path bin room) (stack_by (advanced_at path room) b)) (stacked_by (advanced_at path room)) []
advances_at [] bin room b l = still (paper [] bin room) b l
advances_at (s ∷ ss) bin zero b l = still (paper (s ∷ ss) bin zero) b l
advances_at (s ∷ ss) bin (suc n) b l =
    let e : stack b ≡ stack_at (s ∷ ss) b = ap (λ m. stack_at m b) l in
    record {
      bin = refl;
      moved = append-nil (s ∷ ss);
      known = ap (λ (c : Spooled). c.path) e;
      received = ap (λ (c : Spooled). c.received) e;
      committed = ap (λ (c : Spooled). c.committed) e;
      stacked = ap (λ (c : Spooled). c.stacked) e;
      waiting = ap (λ (c : Spooled). waiting_sheets c.committed.copies c.waiting) (sym e);
    }

pub advances : (v : View) → v.spool.path ≡ v.paper.path → Turning v (advance_v v) (stacked_by (advanced v.paper)) []
advances v l = advances_at v.paper.path v.paper.bin v.paper.room v.spool l

-- the next copy is put into the path
abbrev pub fed_view : WaitingPage → List WaitingPage → View → View
fed_view w ws v = view (put (next_sheet v.spool.committed w) v.paper) (commit_at (w ∷ ws) v.spool)

pub feeds_one : (v : View) → v.spool.path ≡ v.paper.path → (w : WaitingPage) (ws : List WaitingPage) → v.spool.waiting ≡ w ∷ ws → 0 < w.unfed → Turning v (fed_view w ws v) [] (next_sheet v.spool.committed w ∷ [])
feeds_one v l w ws e pos = record {
  bin = sym (append-nil v.paper.bin);
  moved = refl;
  known = ap (λ m. m ++ (next_sheet v.spool.committed w ∷ [])) l;
  received = refl;
  committed = refl;
  stacked = refl;
  waiting = ap (waiting_sheets v.spool.committed.copies) e ∙ unrolled v.spool.committed w ws pos;
}

pub both : (u v w : View) (out new : List Sheet) → Turning u v out [] → Turning v w [] new → Turning u w out new
both u v w out new a f = record {
  bin = f.bin ∙ append-nil v.paper.bin ∙ a.bin;
  moved = ap (λ l. l ++ new) (sym (append-nil u.paper.path) ∙ a.moved) ∙ append_assoc out v.paper.path new ∙ ap (λ l. out ++ l) f.moved;
  known = f.known;
  received = f.received ∙ a.received;
  committed = f.committed ∙ ap (λ t. onward t new) a.committed;
  stacked = f.stacked ∙ a.stacked;
  waiting = a.waiting ∙ f.waiting;
}

-- one feed by the waiting pages and the engine's own place alone
abbrev pub feed_at : ℕ → List WaitingPage → View → View
feed_at K [] v = v
feed_at K (w ∷ ws) v = cond (taken K v.paper) (fed_view w ws v) v

abbrev pub feeds_at : ℕ → List WaitingPage → View → Bool
feeds_at K [] v = false
feeds_at K (w ∷ ws) v = taken K v.paper

-- where the spool knows the path, the engine has a place only where the spool sees one
module _ (K : ℕ) (k : K ≤ 8) (v : View) (l : v.spool.path ≡ v.paper.path) where
  full_both : free v.spool ≡ false → taken K v.paper ≡ false
  full_both e =
      let n : length v.spool.path ≡ length v.paper.path = ap length l in
      let h = ltb-false (length v.spool.path) 8 e in
      le-ltb (length v.paper.path) K (omega arith)

  pub feed_known : feed_v K v ≡ feed_at K v.spool.waiting v
  feed_known = go v.spool.waiting refl (free v.spool) refl
    where
      fed_both : (w : WaitingPage) (ws : List WaitingPage) (b : Bool) → v.spool.waiting ≡ w ∷ ws → free v.spool ≡ true → view (cond b (put (next_sheet v.spool.committed w) v.paper) v.paper) (cond b (cond (free v.spool) (commit_at v.spool.waiting v.spool) v.spool) v.spool) ≡ cond b (fed_view w ws v) v
      fed_both w ws true e f = ap (λ t. view (put (next_sheet v.spool.committed w) v.paper) (cond t (commit_at v.spool.waiting v.spool) v.spool)) f ∙ ap (λ m. view (put (next_sheet v.spool.committed w) v.paper) (commit_at m v.spool)) e
      fed_both w ws false e f = refl

      go : (ws : List WaitingPage) → v.spool.waiting ≡ ws → (b : Bool) → free v.spool ≡ b → feed_by K (cond b (next_at ws v.spool.committed) None) v ≡ feed_at K ws v
      go [] e true f = refl
      go [] e false f = refl
      go (w ∷ ws) e true f = fed_both w ws (taken K v.paper) e f
      go (w ∷ ws) e false f = ap (λ b. cond b (fed_view w ws v) v) (sym (full_both f))

  pub feeds_known : feeds_v K v ≡ feeds_at K v.spool.waiting v
  feeds_known = go v.spool.waiting (free v.spool) refl
    where
      go : (ws : List WaitingPage) (b : Bool) → free v.spool ≡ b → feeds_by K (cond b (next_at ws v.spool.committed) None) v ≡ feeds_at K ws v
      go [] true f = refl
      go [] false f = refl
      go (w ∷ ws) true f = refl
      go (w ∷ ws) false f = sym (full_both f)

stacks_none : (p : List Sheet) (b : Spooled) → (stack_at p b).waiting ≡ b.waiting
stacks_none [] b = refl
stacks_none (s ∷ ss) b = refl

-- an advance leaves the waiting pages
pub advance_waiting : (v : View) → (advance_v v).spool.waiting ≡ v.spool.waiting
advance_waiting v = go v.paper.path v.paper.room
  where
    go : (p : List Sheet) (n : ℕ) → (stack_by (advanced_at p n) v.spool).waiting ≡ v.spool.waiting
    go [] n = refl
    go (s ∷ ss) zero = refl
    go (s ∷ ss) (suc n) = stacks_none v.spool.path v.spool
