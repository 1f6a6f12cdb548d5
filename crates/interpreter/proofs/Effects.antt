-- A take touches sheets and counters only by its effect, and its reply gives the counters.
use Rattle.std.proofs.Common.{◌≡◌, ℕ, ◌≤◌, Bool, true, false, cond, ltb, List, length, take, Some, None, Ok, Err, Option, Result, sym, refl, ap, subst, arith}
use Rattle.std.proofs.lemmas.Bool.{ltb-false, le-leb, cond-true}
use Rattle.command.specs.declared.header.Header.{Header}
use Rattle.refusal.specs.declared.Fault.{Fault}
use Rattle.refusal.specs.declared.Refusal.{Refusal}
use Rattle.refusal.specs.declared.Refusal.TheVariants.{Incomplete, AreaShort, SixteenWait, ReplyPending}
use Rattle.refusal.specs.Refusals.{untouching}
use Rattle.command.specs.Headers.{header_of, in_range, asks_reply, data_of}
use Rattle.command.specs.Commands.{command_in}
use Rattle.spool.specs.Spools.{Numbers, numbers_of}
use Rattle.spool.specs.Receivers.{nothing, closing, done_by}
use Rattle.spool.specs.Runs.{Replies}
use Rattle.reply.specs.Replies.{ack, nack, written}
use Rattle.interpreter.specs.Machines.{Machine, home, pend, receiver_of}
use Rattle.interpreter.specs.Outcomes.{told}
use Rattle.interpreter.specs.Taking.{Taking, taking, fault_of, untouched, unreadable, handed, accepted, faulted, settled, blocked, interpreted, whole, headed, take_of}
use Rattle.interpreter.specs.Takes.{effect_by, effect_read}
use Rattle.interpreter.proofs.Performed.{performed_effect, performed_refusal}

pub record Seen (bs : List ℕ) (m : Machine) (t : Taking) : Type 0 where
  pub effect : receiver_of t.machine ≡ done_by (effect_by t.told.outcome bs) (receiver_of m)
  pub counts : Replies (take t.told.reply t.area) (numbers_of t.machine.spool)

-- a written reply is at the area's front
ack_front : (n : Numbers) (area : List ℕ) → 40 ≤ length area → Replies (take 16 (written (ack n) area)) n
ack_front n area le = subst (λ a. Replies (take 16 a) n) (sym (cond-true _ _ _ (le-leb 16 (length area) (omega arith)))) refl

nack_front : (f : Fault) (n : Numbers) (area : List ℕ) → 40 ≤ length area → Replies (take 40 (written (nack f n) area)) n
nack_front f n area le = subst (λ a. Replies (take 40 a) n) (sym (cond-true _ _ _ (le-leb 40 (length area) le))) refl

-- a refusal that changes nothing
nothing_done : (bs : List ℕ) (m : Machine) (area : List ℕ) (r : Refusal) → untouching r ≡ true → Seen bs m (untouched r m area)
nothing_done bs m area r e = record { effect = ap (λ b. done_by (cond b nothing closing) (receiver_of m)) (sym e); counts = tt }

handed_over : (bs : List ℕ) (m : Machine) (area : List ℕ) (f : Fault) (h : Header) → 40 ≤ length area → Seen bs m (handed f h m area)
handed_over bs m area f h le = go (asks_reply h)
  where
    go : (b : Bool) → Seen bs m (cond b (taking (pend None m) (written (nack f (numbers_of m.spool)) area) (told h.length (Err ReplyPending) 40 m.marks)) (taking m area (told h.length (Err ReplyPending) 0 m.marks)))
    go true = record { effect = refl; counts = nack_front f (numbers_of m.spool) area le }
    go false = record { effect = refl; counts = tt }

obeyed : (bs : List ℕ) (m n : Machine) (area : List ℕ) (h : Header) → 40 ≤ length area → receiver_of n ≡ done_by (effect_read (command_in bs)) (receiver_of m) → Seen bs m (accepted h n area)
obeyed bs m n area h le e = go (asks_reply h)
  where
    go : (b : Bool) → Seen bs m (cond b (taking n (written (ack (numbers_of n.spool)) area) (told h.length (Ok tt) 16 n.marks)) (taking n area (told h.length (Ok tt) 0 n.marks)))
    go true = record { effect = e; counts = ack_front (numbers_of n.spool) area le }
    go false = record { effect = e; counts = tt }

at_fault : (bs : List ℕ) (m : Machine) (area : List ℕ) (f : Fault) (h : Header) → 40 ≤ length area → untouching f.refusal ≡ false → Seen bs m (faulted f h m area)
at_fault bs m area f h le e = go (asks_reply h)
  where
    closed : receiver_of (home m) ≡ done_by (cond (untouching f.refusal) nothing closing) (receiver_of m)
    closed = ap (λ b. done_by (cond b nothing closing) (receiver_of m)) (sym e)

    go : (b : Bool) → Seen bs m (cond b (taking (home m) (written (nack f (numbers_of m.spool)) area) (told h.length (Err f.refusal) 40 m.marks)) (taking (pend (Some f) (home m)) area (told h.length (Err f.refusal) 0 m.marks)))
    go true = record { effect = closed; counts = nack_front f (numbers_of m.spool) area le }
    go false = record { effect = closed; counts = tt }

settling : (bs : List ℕ) (m : Machine) (area : List ℕ) (h : Header) → header_of bs ≡ Some h → 40 ≤ length area → blocked h m ≡ false → (w : Result Machine Refusal) → interpreted h (data_of h bs) m ≡ w → Seen bs m (settled w h m area)
settling bs m area h eh le free (Ok n) e = obeyed bs m n area h le (performed_effect bs m h n eh e)
settling bs m area h eh le free (Err r) e = at_fault bs m area (fault_of r h m.state) h le (performed_refusal bs m h r free e)

whole_seen : (bs : List ℕ) (m : Machine) (area : List ℕ) (h : Header) → header_of bs ≡ Some h → 40 ≤ length area → (p : Option Fault) → Seen bs m (whole p h (data_of h bs) m area)
whole_seen bs m area h eh le (Some f) = handed_over bs m area f h le
whole_seen bs m area h eh le None = go (blocked h m) refl
  where
    go : (b : Bool) → blocked h m ≡ b → Seen bs m (cond b (untouched SixteenWait m area) (settled (interpreted h (data_of h bs) m) h m area))
    go true e = nothing_done bs m area SixteenWait refl
    go false e = settling bs m area h eh le e (interpreted h (data_of h bs) m) refl

pub take_seen_law : (bs : List ℕ) (m : Machine) (area : List ℕ) → Seen bs m (take_of bs m area)
take_seen_law bs m area = go (header_of bs) refl
  where
    long : (h : Header) → header_of bs ≡ Some h → 40 ≤ length area → (c : Bool) → Seen bs m (cond c (untouched Incomplete m area) (whole m.pending h (data_of h bs) m area))
    long h eh le true = nothing_done bs m area Incomplete refl
    long h eh le false = whole_seen bs m area h eh le m.pending

    ranged : (h : Header) → header_of bs ≡ Some h → 40 ≤ length area → (b : Bool) → Seen bs m (cond b (cond (ltb (length bs) h.length) (untouched Incomplete m area) (whole m.pending h (data_of h bs) m area)) (unreadable h (length bs) m area))
    ranged h eh le true = long h eh le (ltb (length bs) h.length)
    ranged h eh le false = record { effect = refl; counts = tt }

    placed : (h : Header) → header_of bs ≡ Some h → (a : Bool) → ltb (length area) 40 ≡ a → Seen bs m (cond a (untouched AreaShort m area) (cond (in_range h) (cond (ltb (length bs) h.length) (untouched Incomplete m area) (whole m.pending h (data_of h bs) m area)) (unreadable h (length bs) m area)))
    placed h eh true e = nothing_done bs m area AreaShort refl
    placed h eh false e = ranged h eh (ltb-false (length area) 40 e) (in_range h)

    go : (o : Option Header) → header_of bs ≡ o → Seen bs m (headed o bs m area)
    go None e = nothing_done bs m area Incomplete refl
    go (Some h) e = placed h e (ltb (length area) 40) refl
