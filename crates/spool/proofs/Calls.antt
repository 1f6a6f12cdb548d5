-- Each call of a run keeps what stands.
use Rattle.std.proofs.Common.{◌≡◌, ℕ, ◌<◌, ◌≤◌, List, [], ◌++◌, length, Some, None, Option, sym, refl, ap, ◌∙◌, subst, arith}
use Rattle.engine.specs.declared.sheet.Sheet.{Sheet}
use Rattle.engine.specs.Engines.{paper, advanced}
use Rattle.engine.specs.Sheets.{tally}
use Rattle.spool.specs.declared.page.Counters.{Counters}
use Rattle.spool.specs.declared.page.Turned.{Turned}
use Rattle.spool.specs.Spooled.{Spooled, empty}
use Rattle.spool.specs.Spools.{Numbers, numbers, numbers_of, told}
use Rattle.spool.specs.Kept.{Whole}
use Rattle.spool.specs.Flows.{owed}
use Rattle.spool.specs.Views.{View, view, waits, flow_of, advance_v, feeds_v, turn_v}
use Rattle.spool.specs.Courses.{Course, later, step, stacked_of, path_of, committed_of, received_of, Holds}
use Rattle.spool.specs.Receivers.{Receiver, Effect, nothing, setting, opening, ending, closing, clearing, end_by, done_by, Station, station, receiver_of, with_receiver, jam_s}
use Rattle.spool.specs.Runs.{Meaning, Run, made, took, counted, owing, open_by, open_page, copies_by, copies_in_force, end_event, event_by, course, path, owed_by, counters, Replies, Stands, after_still, after_turn, after_jam}
use Rattle.spool.proofs.Turns.{turn_holds}
use Rattle.spool.proofs.Events.{made_holds, same_holds, page_holds, discard_holds, jam_holds}

counted_so : (K : ℕ) (run : Course) (v : View) → Holds K run v → numbers_of v.spool ≡ numbers (received_of run) (committed_of run) (tally (stacked_of run))
counted_so K run v s =
    ap (λ r. numbers r v.spool.committed v.spool.stacked) s.received ∙ ap (λ c. numbers (received_of run) c v.spool.stacked) s.committed ∙ ap (λ c. numbers (received_of run) (committed_of run) c) s.stacked

-- what a printer end counts is what its run counts
pub counters_so : {C : Type 0} (m : Meaning C) (K : ℕ) (run : Run C) (w : Station) → Stands m K run w → numbers_of w.view.spool ≡ counters m run
counters_so m K run w s = counted_so K (course m run) w.view s.holds

-- an effect, with the page open and the copies in force that the run tells
record Done (K : ℕ) (run : Course) (w : Station) (o : Option ℕ) (n : ℕ) (e : Effect) : Type 0 where
  current : (done_by e (receiver_of w)).current ≡ open_by e o
  copies : (done_by e (receiver_of w)).copies ≡ copies_by e n
  holds : Holds K (later run (step (event_by e o n) (stacked_of run) (path_of run))) (view w.view.paper (done_by e (receiver_of w)).spool)

ends : (K : ℕ) → 0 < K → (run : Course) (w : Station) → Whole w.view.spool → Holds K run w.view → 0 < w.copies → (o : Option ℕ) → Holds K (later run (step (end_event o w.copies) (stacked_of run) (path_of run))) (view w.view.paper (end_by o (receiver_of w)))
ends K k run w kept s some None = same_holds K run w.view s
ends K k run w kept s some (Some id) = page_holds K k run w.view kept s id w.copies some

does : (K : ℕ) → 0 < K → (run : Course) (w : Station) → Whole w.view.spool → Holds K run w.view → (o : Option ℕ) (n : ℕ) → w.current ≡ o → w.copies ≡ n → 0 < n → (e : Effect) → Done K run w o n e
does K k run w kept s o n eo en some nothing = record { current = eo; copies = en; holds = same_holds K run w.view s }
does K k run w kept s o n eo en some (setting m) = record { current = eo; copies = refl; holds = same_holds K run w.view s }
does K k run w kept s o n eo en some (opening id) = record { current = refl; copies = en; holds = same_holds K run w.view s }
does K k run w kept s o n eo en some ending = record {
  current = refl;
  copies = en;
  holds =
      subst (λ o. Holds K (later run (step (end_event o n) (stacked_of run) (path_of run))) (view w.view.paper (end_by w.current (receiver_of w)))) eo
      (subst (λ n. Holds K (later run (step (end_event w.current n) (stacked_of run) (path_of run))) (view w.view.paper (end_by w.current (receiver_of w)))) en
      (ends K k run w kept s (subst (λ n. 0 < n) (sym en) some) w.current));
}
does K k run w kept s o n eo en some closing = record { current = refl; copies = en; holds = same_holds K run w.view s }
does K k run w kept s o n eo en some clearing = record { current = refl; copies = en; holds = discard_holds K k run w.view s }

-- a reply that gives the spool's counters
abbrev pub Counts : List ℕ → Spooled → Type 0
Counts bs b = Replies bs (numbers_of b)

replies_so : (bs : List ℕ) (n n' : Numbers) → n ≡ n' → Replies bs n → Replies bs n'
replies_so bs n n' e h = subst (Replies bs) e h

-- a take: the receiver is what its effect makes of it, and the reply gives the counters then
pub take_law : {C : Type 0} (m : Meaning C) (K : ℕ) → 0 < K → (run : Run C) (w : Station) → Whole w.view.spool → Stands m K run w → (c : C) (t : Receiver) → t ≡ done_by (m.effect c) (receiver_of w) → 0 < t.copies → Counts (m.reply c) t.spool → Stands m K (after_still m run (took c)) (with_receiver t w)
take_law m K k run w kept s c t et some says =
    let d = does K k (course m run) w kept s.holds (open_page m run) (copies_in_force m run) s.current s.copies s.some (m.effect c) in
    let copies : t.copies ≡ copies_by (m.effect c) (copies_in_force m run) = ap (λ (t : Receiver). t.copies) et ∙ d.copies in
    let holds = subst (λ (t : Receiver). Holds K (course m (after_still m run (took c))) (view w.view.paper t.spool)) (sym et) d.holds in
    record {
      current = ap (λ (t : Receiver). t.current) et ∙ d.current;
      copies = copies;
      some = subst (λ n. 0 < n) copies some;
      told = (s.told, replies_so (m.reply c) _ _ (counted_so K (course m (after_still m run (took c))) (view w.view.paper t.spool) holds) says);
      holds = holds;
    }

pub read_law : {C : Type 0} (m : Meaning C) (K : ℕ) (run : Run C) (w : Station) → Stands m K run w → (c : Counters) → told c ≡ numbers_of w.view.spool → Stands m K (after_still m run (counted c)) w
read_law m K run w s c e = record {
  current = s.current;
  copies = s.copies;
  some = s.some;
  told = (s.told, e ∙ counted_so K (course m run) w.view s.holds);
  holds = same_holds K (course m run) w.view s.holds;
}

pub owed_so : {C : Type 0} (m : Meaning C) (K : ℕ) (run : Run C) (w : Station) → Stands m K run w → owed (flow_of w.view) ≡ length (owed_by m run)
owed_so m K run w s = ap (λ p. length (p ++ waits w.view)) s.holds.path ∙ ap (λ l. length (path m run ++ l)) s.holds.waiting

pub owed_law : {C : Type 0} (m : Meaning C) (K : ℕ) (run : Run C) (w : Station) → Stands m K run w → (n : ℕ) → n ≡ owed (flow_of w.view) → Stands m K (after_still m run (owing n)) w
owed_law m K run w s n e = record {
  current = s.current;
  copies = s.copies;
  some = s.some;
  told = (s.told, e ∙ owed_so m K run w s);
  holds = same_holds K (course m run) w.view s.holds;
}

pub jam_law : {C : Type 0} (m : Meaning C) (K : ℕ) → 0 < K → (run : Run C) (w : Station) → Stands m K run w → Stands m K (after_jam m run) (jam_s w)
jam_law m K k run w s = record {
  current = refl;
  copies = s.copies;
  some = s.some;
  told = (s.told, tt);
  holds = jam_holds K k (course m run) w.view s.holds;
}

pub make_law : {C : Type 0} (m : Meaning C) (K : ℕ) → 0 < K → (bin : List Sheet) (room : ℕ) → Stands m K (made bin) (station (view (paper [] bin room) empty) None 1)
make_law m K k bin room = record { current = refl; copies = refl; some = omega arith; told = tt; holds = made_holds K k bin room }

-- a turn, by what it answered and left
module _ {C : Type 0} (m : Meaning C) (K : ℕ) (k : 0 < K) (k8 : K ≤ 8) (run : Run C) (w : Station) (kept : Whole w.view.spool) (s : Stands m K run w) (u : Station) (ev : u.view ≡ turn_v K w.view) (t : Turned) (ea : t.advanced ≡ advanced w.view.paper) (ef : t.fed ≡ feeds_v K (advance_v w.view)) where
  pub turn_law : u.current ≡ w.current → u.copies ≡ w.copies → Stands m K (after_turn m run t u.view.paper.path) u
  turn_law eo en = record {
    current = eo ∙ s.current;
    copies = en ∙ s.copies;
    some = s.some;
    told = (s.told, tt);
    holds = turn_holds K k k8 (course m run) w.view kept s.holds u.view ev t.advanced ea t.fed ef;
  }
