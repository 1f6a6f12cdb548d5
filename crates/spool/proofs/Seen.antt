-- What calls answer and leave, by the run alone.
use Rattle.std.proofs.Common.{◌≡◌, ℕ, zero, suc, ◌+◌, ◌≤◌, Bool, List, [], ◌∷◌, ◌++◌, length, sym, refl, ap, ◌∙◌, append_assoc, arith, length-append}
use Rattle.std.proofs.lemmas.List.Sums.{sum_by-cons}
use Rattle.engine.specs.declared.sheet.Advanced.{Advanced}
use Rattle.engine.specs.Engines.{paper, advanced}
use Rattle.spool.specs.declared.page.WaitingPage.{WaitingPage}
use Rattle.spool.specs.declared.page.Turned.{Turned}
use Rattle.spool.specs.Jobs.{Page, Proper, numbered, job_sheets}
use Rattle.spool.specs.Spooled.{waiting_sheets, unfed_in}
use Rattle.spool.specs.Kept.{Whole}
use Rattle.spool.specs.Flows.{flow, turn, turned, owed}
use Rattle.spool.specs.Views.{View, waits, flow_of, advance_v, feeds_v, turn_v}
use Rattle.spool.specs.Courses.{bin_of, stacked_of, path_of, received_of, begun_of, waiting_of}
use Rattle.spool.specs.Receivers.{Station}
use Rattle.spool.specs.Runs.{Meaning, Run, course, stacked, path, received, owed_by, flow_by, Receiving, Stands, after_turn}
use Rattle.spool.proofs.Jobs.{upto_all}
use Rattle.spool.proofs.Flowing.{flow_turn, flow_fed}

length_numbered : (id k n : ℕ) → length (numbered id k n) ≡ n
length_numbered id k zero = refl
length_numbered id k (suc n) = ap suc (length_numbered id (k + 1) n)

length_waiting : (c : ℕ) (ws : List WaitingPage) → length (waiting_sheets c ws) ≡ unfed_in ws
length_waiting c [] = refl
length_waiting c (w ∷ ws) =
    length-append (numbered w.page (c + 1) w.unfed) (waiting_sheets 0 ws) ∙ ap (λ n. n + length (waiting_sheets 0 ws)) (length_numbered w.page (c + 1) w.unfed) ∙ ap (λ n. w.unfed + n) (length_waiting 0 ws) ∙ sym (sum_by-cons (λ (w : WaitingPage). w.unfed) w ws)

-- so many sheets are owed
pub owed_is : (v : View) → length v.paper.path + unfed_in v.spool.waiting ≡ owed (flow_of v)
owed_is v = sym (length-append v.paper.path (waits v) ∙ ap (λ n. length v.paper.path + n) (length_waiting v.spool.committed.copies v.spool.waiting))

module _ {C : Type 0} (m : Meaning C) (K : ℕ) (run : Run C) (w : Station) (st : Stands m K run w) where
  -- all pages of a job are received: what is in the bin, in the path and waits is the job
  pub job_done : (J : List Page) → Proper J → Receiving m J run → received m run ≡ length J → w.view.paper.bin ++ owed_by m run ≡ bin_of (course m run) ++ job_sheets J
  job_done J pr fol e =
      let s = st.holds in
      let r = course m run in
      ap (λ l. l ++ (path_of r ++ waiting_of r)) s.bin ∙ append_assoc (bin_of r) (stacked_of r) (path_of r ++ waiting_of r) ∙ ap (λ l. bin_of r ++ l) (s.job J pr fol ∙ upto_all J (received_of r) (begun_of r) (omega arith))

  -- what flows, by the run
  pub flow_so : flow_of w.view ≡ flow_by m run w.view.paper.room
  flow_so =
      let s = st.holds in
      let p = w.view.paper in
      ap (λ l. flow (paper l p.bin p.room) (waits w.view)) s.path ∙ ap (λ b. flow (paper (path m run) b p.room) (waits w.view)) s.bin ∙ ap (λ l. flow (paper (path m run) (bin_of (course m run) ++ stacked m run) p.room) l) s.waiting

turned_same : (a a' : Advanced) (b b' : Bool) → a ≡ a' → b ≡ b' → ◌≡◌ {A = Turned} (record { advanced = a; fed = b }) (record { advanced = a'; fed = b' })
turned_same a a' b b' ea eb = cc

-- what a turn answers and leaves, by the run
module _ {C : Type 0} (m : Meaning C) (K : ℕ) (k8 : K ≤ 8) (run : Run C) (w : Station) (kept : Whole w.view.spool) (s : Stands m K run w) where
  pub turned_so : (t : Turned) → t.advanced ≡ advanced w.view.paper → t.fed ≡ feeds_v K (advance_v w.view) → t ≡ turned K (flow_by m run w.view.paper.room)
  turned_so t ea ef =
      turned_same t.advanced (advanced w.view.paper) t.fed (turned K (flow_of w.view)).fed ea (ef ∙ flow_fed K k8 w.view s.holds.known kept.unfed) ∙ ap (turned K) (flow_so m K run w s)

  pub turn_so : (u : Station) (t : Turned) → u.view ≡ turn_v K w.view → Stands m K (after_turn m run t u.view.paper.path) u → flow_by m (after_turn m run t u.view.paper.path) u.view.paper.room ≡ turn K (flow_by m run w.view.paper.room)
  turn_so u t ev su =
      sym (flow_so m K (after_turn m run t u.view.paper.path) u su) ∙ ap flow_of ev ∙ flow_turn K k8 w.view s.holds.known kept.unfed ∙ ap (turn K) (flow_so m K run w s)
