-- The making, a page, a discard and a jam keep what holds.
use Rattle.std.proofs.Common.{◌≡◌, ℕ, ◌+◌, ◌-◌, ◌<◌, ◌≤◌, cond, List, [], ◌∷◌, ◌++◌, length, get_or, take, sym, refl, ap, ◌∙◌, subst, inr, append_assoc, append-nil, arith}
use Rattle.std.proofs.lemmas.Bool.{eq-eqb}
use Rattle.engine.specs.declared.sheet.Sheet.{Sheet}
use Rattle.engine.specs.Engines.{paper}
use Rattle.engine.specs.Sheets.{Pair, tally}
use Rattle.spool.specs.declared.page.WaitingPage.{WaitingPage}
use Rattle.spool.specs.Jobs.{Page, page as page_of, blank, numbered, page_sheets, job_sheets, begun, upto, so_far}
use Rattle.spool.specs.Spooled.{Spooled, empty, waiting_page, waiting_sheets, receive, discard}
use Rattle.spool.specs.Kept.{Whole}
use Rattle.spool.specs.Views.{View, view, waits, jam_v}
use Rattle.spool.specs.Courses.{page, discarded, jammed, other, step, Course, start, later, stacked_of, path_of, committed_of, received_of, begun_of, waiting_of, Holds}
use Rattle.spool.proofs.Jobs.{regained, job_more, page_whole}
use Rattle.spool.proofs.Turns.{begun_none, delivers_so}

pub made_holds : (K : ℕ) → 0 < K → (bin : List Sheet) (room : ℕ) → Holds K (start bin) (view (paper [] bin room) empty)
made_holds K k bin room = record {
  bin = sym (append-nil bin);
  path = refl;
  known = refl;
  received = refl;
  committed = refl;
  stacked = refl;
  waiting = refl;
  job = λ J pr f. refl;
  order = inr (refl, omega arith);
  whole = omega arith;
  delivers = λ fits. delivers_so K k (view (paper [] bin room) empty) [] [] refl refl fits;
}

-- nothing came about
pub same_holds : (K : ℕ) (run : Course) (v : View) → Holds K run v → Holds K (later run (step other (stacked_of run) (path_of run))) v
same_holds K run v s = record {
  bin = s.bin;
  path = s.path;
  known = s.known;
  received = s.received;
  committed = s.committed;
  stacked = s.stacked;
  waiting = s.waiting;
  job = λ J pr f. s.job J pr f.0;
  order = s.order;
  whole = s.whole;
  delivers = s.delivers;
}

-- the sheets that wait once a page joins the others
waits_push : (c : ℕ) (ws : List WaitingPage) (w : WaitingPage) → 0 < length ws → waiting_sheets c (ws ++ (w ∷ [])) ≡ waiting_sheets c ws ++ numbered w.page 1 w.unfed
waits_push c [] w h = absurd (omega arith)
waits_push c (x ∷ []) w h = ap (λ l. numbered x.page (c + 1) x.unfed ++ l) (append-nil (numbered w.page 1 w.unfed)) ∙ ap (λ l. l ++ numbered w.page 1 w.unfed) (sym (append-nil (numbered x.page (c + 1) x.unfed)))
waits_push c (x ∷ (y ∷ ws)) w h =
    ap (λ l. numbered x.page (c + 1) x.unfed ++ l) (waits_push 0 (y ∷ ws) w (omega arith)) ∙ sym (append_assoc (numbered x.page (c + 1) x.unfed) (waiting_sheets 0 (y ∷ ws)) (numbered w.page 1 w.unfed))

begun_all : (t : Pair) → begun t.pages t ≡ t.copies
begun_all t = ap (λ b. cond b t.copies 0) (eq-eqb t.pages t.pages refl)

waits_more : (b : Spooled) → b.committed.pages + length b.waiting ≡ b.received → (ws : List WaitingPage) → b.waiting ≡ ws → (id n : ℕ) → waiting_sheets b.committed.copies (ws ++ (waiting_page id n ∷ [])) ≡ waiting_sheets b.committed.copies ws ++ numbered id (begun b.received b.committed + 1) n
waits_more b paged [] e id n =
    let l : length b.waiting ≡ 0 = ap length e in
    let same : b.received ≡ b.committed.pages = omega arith in
    append-nil (numbered id (b.committed.copies + 1) n) ∙ ap (λ c. numbered id (c + 1) n) (sym (ap (λ r. begun r b.committed) same ∙ begun_all b.committed))
waits_more b paged (x ∷ ws) e id n =
    let l : length b.waiting ≡ length (x ∷ ws) = ap length e in
    let z : begun b.received b.committed ≡ 0 = begun_none b.received b.committed (omega arith) in
    let one : 0 + 1 ≡ 1 = refl in
    waits_push b.committed.copies (x ∷ ws) (waiting_page id n) (omega arith) ∙ ap (λ c. waiting_sheets b.committed.copies (x ∷ ws) ++ numbered id (c + 1) n) (sym z)

page_is : (p : Page) (id m : ℕ) → p.id ≡ id → p.copies ≡ m → p ≡ page_of id m
page_is p id m ei em = ap (λ i. page_of i p.copies) ei ∙ ap (λ n. page_of id n) em

-- a page joins the others: the job has grown by it
module _ (K : ℕ) (k : 0 < K) (run : Course) (v : View) (kept : Whole v.spool) (s : Holds K run v) (id n : ℕ) (pos : 0 < n) where
  grown : (J : List Page) → received_of run < length J → (get_or J (received_of run) blank).id ≡ id → n ≡ (get_or J (received_of run) blank).copies - begun_of run → stacked_of run ++ (path_of run ++ waiting_of run) ≡ so_far J (received_of run) (committed_of run) → (committed_of run).pages ≤ received_of run → stacked_of run ++ (path_of run ++ (waiting_of run ++ numbered id (begun_of run + 1) n)) ≡ so_far J (received_of run + 1) (committed_of run)
  grown J inside ei en was less =
      let r = received_of run in
      let b = begun_of run in
      let new = numbered id (b + 1) n in
      let p = get_or J r blank in
      let e : p ≡ page_of id (b + n) = page_is p id (b + n) ei (omega arith) in
      let none : begun (r + 1) (committed_of run) ≡ 0 = begun_none (r + 1) (committed_of run) (omega arith) in
      ap (λ l. stacked_of run ++ l) (sym (append_assoc (path_of run) (waiting_of run) new)) ∙ sym (append_assoc (stacked_of run) (path_of run ++ waiting_of run) new) ∙ ap (λ l. l ++ new) was ∙ append_assoc (job_sheets (take r J)) (take b (page_sheets p)) new ∙ ap (λ q. job_sheets (take r J) ++ (take b (page_sheets q) ++ new)) e ∙ ap (λ l. job_sheets (take r J) ++ l) (page_whole id b n pos) ∙ ap (λ q. job_sheets (take r J) ++ page_sheets q) (sym e) ∙ sym (job_more J r inside) ∙ sym (append-nil (job_sheets (take (r + 1) J))) ∙ ap (λ c. job_sheets (take (r + 1) J) ++ take c (page_sheets (get_or J (r + 1) blank))) (sym none)

  pub page_holds : Holds K (later run (step (page id n) (stacked_of run) (path_of run))) (view v.paper (receive id n v.spool))
  page_holds =
      let r : v.spool.received ≡ received_of run = s.received in
      let eb : begun v.spool.received v.spool.committed ≡ begun_of run = ap (λ m. begun m v.spool.committed) r ∙ ap (begun (received_of run)) s.committed in
      let waiting : waits (view v.paper (receive id n v.spool)) ≡ waiting_of run ++ numbered id (begun_of run + 1) n = waits_more v.spool kept.paged v.spool.waiting refl id n ∙ ap (λ l. l ++ numbered id (begun v.spool.received v.spool.committed + 1) n) s.waiting ∙ ap (λ c. waiting_of run ++ numbered id (c + 1) n) eb in
      let less : (committed_of run).pages ≤ received_of run = subst (λ (c : Pair). c.pages ≤ received_of run) s.committed (omega (arith, s.whole)) in
      record {
        bin = s.bin;
        path = s.path;
        known = s.known;
        received = ap (λ m. m + 1) r;
        committed = s.committed;
        stacked = s.stacked;
        waiting = waiting;
        job = λ J pr f. grown J f.1.0 f.1.1 f.1.2 (s.job J pr f.0) less;
        order = s.order;
        whole = omega (arith, s.whole);
        delivers = λ fits. delivers_so K k (view v.paper (receive id n v.spool)) _ _ s.path waiting fits;
      }

pub discard_holds : (K : ℕ) → 0 < K → (run : Course) (v : View) → Holds K run v → Holds K (later run (step discarded (stacked_of run) (path_of run))) (view v.paper (discard v.spool))
discard_holds K k run v s = record {
  bin = s.bin;
  path = s.path;
  known = s.known;
  received = ap (λ (c : Pair). c.pages) s.committed;
  committed = s.committed;
  stacked = s.stacked;
  waiting = refl;
  job = λ J pr f. ap (λ l. stacked_of run ++ l) (append-nil (path_of run)) ∙ regained J pr (received_of run) (begun_of run) (stacked_of run ++ path_of run) (waiting_of run) (append_assoc (stacked_of run) (path_of run) (waiting_of run) ∙ s.job J pr f.0) ∙ ap (λ c. upto J (committed_of run).pages c) (sym (begun_all (committed_of run)));
  order = s.order;
  whole = omega arith;
  delivers = λ fits. delivers_so K k (view v.paper (discard v.spool)) _ [] s.path refl fits;
}

pub jam_holds : (K : ℕ) → 0 < K → (run : Course) (v : View) → Holds K run v → Holds K (later run (step jammed (stacked_of run) [])) (jam_v v)
jam_holds K k run v s =
    let e : tally (stacked_of run ++ []) ≡ tally (stacked_of run) = ap tally (append-nil (stacked_of run)) in
    let now : v.spool.stacked ≡ tally (stacked_of run ++ []) = s.stacked ∙ sym e in
    record {
      bin = s.bin;
      path = refl;
      known = refl;
      received = ap (λ (c : Pair). c.pages) now;
      committed = now;
      stacked = s.stacked;
      waiting = refl;
      job = λ J pr f. append-nil (stacked_of run) ∙ regained J pr (received_of run) (begun_of run) (stacked_of run) (path_of run ++ waiting_of run) (s.job J pr f.0) ∙ ap (λ c. upto J (tally (stacked_of run)).pages c) (sym (begun_all (tally (stacked_of run)))) ∙ ap (λ (t : Pair). so_far J t.pages t) (sym e);
      order = inr (refl, omega arith);
      whole = omega arith;
      delivers = λ fits. delivers_so K k (jam_v v) [] [] refl refl fits;
    }
