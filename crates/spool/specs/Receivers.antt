-- What commands act on, as far as sheets and counters go.
--   Receiver   the spool, the page that is open, and the copies in force
--   Effect     what a take comes to: nothing that counts, new copies in force, a page opened, the open page
--              ended, what is open dropped, or the waiting pages and what is open dropped
--   done_by     the receiver after an effect
--   Station    a receiver over an engine
use Rattle.std.specs.Prelude.{ℕ, Some, None, Option}
use Rattle.spool.specs.Spooled.{Spooled, receive, discard}
use Rattle.spool.specs.Views.{View, view, jam_v, turn_v}

pub record Receiver : Type 0 where
  pub spool : Spooled
  pub current : Option ℕ
  pub copies : ℕ

abbrev pub receiver : Spooled → Option ℕ → ℕ → Receiver
receiver b o n = record { spool = b; current = o; copies = n }

pub data Effect : Type 0 where
  nothing : Effect
  setting : ℕ → Effect
  opening : ℕ → Effect
  ending : Effect
  closing : Effect
  clearing : Effect

-- an end of what is no page counts for nothing
abbrev pub end_by : Option ℕ → Receiver → Spooled
end_by None t = t.spool
end_by (Some id) t = receive id t.copies t.spool

abbrev pub done_by : Effect → Receiver → Receiver
done_by nothing t = t
done_by (setting n) t = receiver t.spool t.current n
done_by (opening id) t = receiver t.spool (Some id) t.copies
done_by ending t = receiver (end_by t.current t) None t.copies
done_by closing t = receiver t.spool None t.copies
done_by clearing t = receiver (discard t.spool) None t.copies

pub record Station : Type 0 where
  pub view : View
  pub current : Option ℕ
  pub copies : ℕ

abbrev pub station : View → Option ℕ → ℕ → Station
station v o n = record { view = v; current = o; copies = n }

abbrev pub receiver_of : Station → Receiver
receiver_of w = receiver w.view.spool w.current w.copies

abbrev pub with_receiver : Receiver → Station → Station
with_receiver t w = station (view w.view.paper t.spool) t.current t.copies

abbrev pub turn_s : ℕ → Station → Station
turn_s K w = station (turn_v K w.view) w.current w.copies

abbrev pub jam_s : Station → Station
jam_s w = station (jam_v w.view) None w.copies
