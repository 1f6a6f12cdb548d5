-- What a command that is obeyed comes to, and that a command at fault is refused by no ground that changes nothing.
use Rattle.std.proofs.Common.{◌≡◌, ℕ, ◌+◌, Bool, true, false, cond, eqb, ltb, List, [], ◌∷◌, length, Some, None, Ok, Err, Option, Result, sym, refl, ap, ◌∙◌}
use Rattle.std.proofs.lemmas.Bool.{both_ways}
use Rattle.command.specs.declared.header.Header.{Header}
use Rattle.refusal.specs.declared.Refusal.{Refusal}
use Rattle.refusal.specs.declared.Refusal.TheVariants.{UnknownCode, DataLength, NotAccepted, NotAllowed}
use Rattle.refusal.specs.declared.Refusal.TheVariants as refusals
use Rattle.command.specs.declared.state.Command.{Command}
use Rattle.command.specs.declared.state.Command.TheVariants.{BeginPage, EndPage, LoadCopyControl, NoOperation, SetHomeState, DiscardBufferedData}
use Rattle.command.specs.declared.state.State.{State}
use Rattle.command.specs.declared.state.State.TheVariants.{Home, Page}
use Rattle.command.specs.declared.table.Row.{Row}
use Rattle.command.specs.declared.table.Kind.{Kind}
use Rattle.command.specs.declared.table.Kind.TheVariants as kinds
use Rattle.refusal.specs.Refusals.{untouching}
use Rattle.command.specs.Headers.{two, header_of, plain_flag, data_of}
use Rattle.command.specs.Tables.{row_of, kind_of, ends, fits, permits}
use Rattle.command.specs.Commands.{page_in, copies_in, order_in, read_as, decoded_by, decoded, command_in}
use Rattle.command.proofs.Decoded.{err_ok, ok_err, decoded_is}
use Rattle.command.proofs.Ends.{decoded_end}
use Rattle.spool.specs.declared.page.NotReceived.{NotReceived}
use Rattle.spool.specs.declared.page.NotReceived.TheVariants.{SixteenWait, PagesSpent, CopiesSpent}
use Rattle.spool.specs.Refusing.{refusal_for}
use Rattle.spool.specs.Spooled.{full, refusal_of}
use Rattle.spool.specs.Receivers.{Receiver, receiver, done_by}
use Rattle.interpreter.specs.Machines.{Machine, machine, open_page, receiver_of}
use Rattle.interpreter.specs.Performing.{end_page, load_copies, perform_in}
use Rattle.interpreter.specs.Taking.{performed, interpreted, blocked_in, blocked}
use Rattle.interpreter.specs.Takes.{effect_in, effect_read}

ok_is : (a b : Machine) → ◌≡◌ {A = Result Machine Refusal} (Ok a) (Ok b) → b ≡ a
ok_is a b e = cc

err_is : (q r : Refusal) → ◌≡◌ {A = Result Machine Refusal} (Err q) (Err r) → r ≡ q
err_is q r e = cc

-- what the law sees of a machine in a state
abbrev seen_in : State → Machine → Receiver
seen_in s m = receiver m.spool (open_page s) m.copies

end_effect : (o : Option NotReceived) (p : ℕ) (m n : Machine) → end_page o p m ≡ Ok n → receiver_of n ≡ done_by (effect_in EndPage) (seen_in (Page p) m)
end_effect None p m n e = ap receiver_of (ok_is _ n e)
end_effect (Some r) p m n e = err_ok n (refusal_for r) e

load_effect : (k : ℕ) (m n : Machine) → load_copies k m ≡ Ok n → receiver_of n ≡ done_by (effect_in (LoadCopyControl k)) (receiver_of m)
load_effect k m n e = go (eqb k 0) e
  where
    go : (b : Bool) → cond b (Err NotAccepted) (Ok (machine m.spool m.state k m.pending m.marks)) ≡ Ok n → receiver_of n ≡ done_by (effect_in (LoadCopyControl k)) (receiver_of m)
    go true e = err_ok n NotAccepted e
    go false e = ap receiver_of (ok_is _ n e)

-- each command in each state
perform_effect : (s : State) (c : Command) (m n : Machine) → m.state ≡ s → perform_in s c m ≡ Ok n → receiver_of n ≡ done_by (effect_in c) (seen_in s m)
perform_effect Home (BeginPage id) m n es e = ap receiver_of (ok_is _ n e)
perform_effect Home EndPage m n es e = err_ok n NotAllowed e
perform_effect Home (LoadCopyControl k) m n es e = load_effect k m n e ∙ ap (λ s. done_by (effect_in (LoadCopyControl k)) (seen_in s m)) es
perform_effect Home NoOperation m n es e = ap receiver_of (ok_is _ n e) ∙ ap (λ s. seen_in s m) es
perform_effect Home SetHomeState m n es e = ap receiver_of (ok_is _ n e)
perform_effect Home DiscardBufferedData m n es e = ap receiver_of (ok_is _ n e)
perform_effect (Page p) (BeginPage id) m n es e = err_ok n NotAllowed e
perform_effect (Page p) EndPage m n es e = end_effect (refusal_of m.copies m.spool) p m n e
perform_effect (Page p) (LoadCopyControl k) m n es e = err_ok n NotAllowed e
perform_effect (Page p) NoOperation m n es e = ap receiver_of (ok_is _ n e) ∙ ap (λ s. seen_in s m) es
perform_effect (Page p) SetHomeState m n es e = ap receiver_of (ok_is _ n e)
perform_effect (Page p) DiscardBufferedData m n es e = ap receiver_of (ok_is _ n e)

-- a command that is obeyed comes to the effect of the command in its bytes
pub performed_effect : (bs : List ℕ) (m : Machine) (h : Header) (n : Machine) → header_of bs ≡ Some h → interpreted h (data_of h bs) m ≡ Ok n → receiver_of n ≡ done_by (effect_read (command_in bs)) (receiver_of m)
performed_effect bs m h n eh e = go (decoded m.state h (data_of h bs)) refl e
  where
    go : (w : Result Command Refusal) → decoded m.state h (data_of h bs) ≡ w → performed w m ≡ Ok n → receiver_of n ≡ done_by (effect_read (command_in bs)) (receiver_of m)
    go (Ok c) ew e = perform_effect m.state c m n refl e ∙ ap (λ r. done_by (effect_read r) (receiver_of m)) (sym (decoded_is bs m.state h c eh ew))
    go (Err r) ew e = err_ok n r e

-- grounds found in a command's bytes
told_by : (q r : Refusal) → ◌≡◌ {A = Result Command Refusal} (Err q) (Err r) → untouching q ≡ false → untouching r ≡ false
told_by q r e h = ap untouching (let x : r ≡ q = cc in x) ∙ h

page_refusal : (d : List ℕ) (r : Refusal) → page_in d ≡ Err r → untouching r ≡ false
page_refusal [] r e = told_by DataLength r e refl
page_refusal (a ∷ []) r e = told_by DataLength r e refl
page_refusal (a ∷ b ∷ []) r e = told_by DataLength r e refl
page_refusal (a ∷ b ∷ c ∷ []) r e = told_by DataLength r e refl
page_refusal (a ∷ b ∷ c ∷ f ∷ []) r e = ok_err _ r e
page_refusal (a ∷ b ∷ c ∷ f ∷ g ∷ d) r e = told_by DataLength r e refl

one_of_two : (b : Bool) (c : Command) (r : Refusal) → cond b (Ok c) (Err NotAccepted) ≡ Err r → untouching r ≡ false
one_of_two true c r e = ok_err c r e
one_of_two false c r e = told_by NotAccepted r e refl

copies_refusal : (d : List ℕ) (r : Refusal) → copies_in d ≡ Err r → untouching r ≡ false
copies_refusal [] r e = told_by DataLength r e refl
copies_refusal (a ∷ []) r e = told_by DataLength r e refl
copies_refusal (a ∷ n ∷ []) r e = one_of_two (eqb a 2) (LoadCopyControl n) r e
copies_refusal (a ∷ n ∷ f ∷ d) r e = told_by DataLength r e refl

order_refusal : (d : List ℕ) (r : Refusal) → order_in d ≡ Err r → untouching r ≡ false
order_refusal [] r e = told_by DataLength r e refl
order_refusal (a ∷ []) r e = told_by DataLength r e refl
order_refusal (a ∷ b ∷ []) r e = one_of_two (eqb (two a b) 0xF200) DiscardBufferedData r e
order_refusal (a ∷ b ∷ f ∷ d) r e = told_by DataLength r e refl

read_refusal : (k : Kind) (d : List ℕ) (r : Refusal) → read_as k d ≡ Err r → untouching r ≡ false
read_refusal kinds.BeginPage d r e = page_refusal d r e
read_refusal kinds.EndPage d r e = ok_err EndPage r e
read_refusal kinds.LoadCopyControl d r e = copies_refusal d r e
read_refusal kinds.NoOperation d r e = ok_err NoOperation r e
read_refusal kinds.SetHomeState d r e = ok_err SetHomeState r e
read_refusal kinds.ExecuteOrderAnyState d r e = order_refusal d r e

decoded_refusal : (o : Option Row) (s : State) (h : Header) (d : List ℕ) (r : Refusal) → decoded_by o s h d ≡ Err r → untouching r ≡ false
decoded_refusal None s h d r e = told_by UnknownCode r e refl
decoded_refusal (Some w) s h d r e = go (permits w.allowed s) (fits w.length (length d)) (plain_flag h) e
  where
    go : (a b f : Bool) → cond a (cond b (cond f (read_as w.kind d) (Err NotAccepted)) (Err DataLength)) (Err NotAllowed) ≡ Err r → untouching r ≡ false
    go true true true e = read_refusal w.kind d r e
    go true true false e = told_by NotAccepted r e refl
    go true false f e = told_by DataLength r e refl
    go false b f e = told_by NotAllowed r e refl

-- grounds found in the state
found_by : (q r : Refusal) → ◌≡◌ {A = Result Machine Refusal} (Err q) (Err r) → untouching q ≡ false → untouching r ≡ false
found_by q r e h = ap untouching (err_is q r e) ∙ h

end_refusal : (p : ℕ) (m : Machine) (r : Refusal) → full m.spool ≡ false → end_page (refusal_of m.copies m.spool) p m ≡ Err r → untouching r ≡ false
end_refusal p m r free e = go (full m.spool) (eqb m.spool.received 65535) (eqb m.spool.received m.spool.committed.pages) (ltb 255 (m.spool.committed.copies + m.copies)) free e
  where
    go : (a b c d : Bool) → a ≡ false → end_page (cond a (Some SixteenWait) (cond b (Some PagesSpent) (cond c (cond d (Some CopiesSpent) None) None))) p m ≡ Err r → untouching r ≡ false
    go true b c d f e = absurd (both_ways true f refl)
    go false true c d f e = found_by refusals.PagesSpent r e refl
    go false false true true f e = found_by refusals.CopiesSpent r e refl
    go false false true false f e = ok_err _ r e
    go false false false d f e = ok_err _ r e

load_refusal : (k : ℕ) (m : Machine) (r : Refusal) → load_copies k m ≡ Err r → untouching r ≡ false
load_refusal k m r e = go (eqb k 0) e
  where
    go : (b : Bool) → cond b (Err NotAccepted) (Ok (machine m.spool m.state k m.pending m.marks)) ≡ Err r → untouching r ≡ false
    go true e = found_by NotAccepted r e refl
    go false e = ok_err _ r e

-- an End Page in page state that is not blocked finds a place to wait
perform_refusal : (s : State) (c : Command) (m : Machine) (r : Refusal) → (c ≡ EndPage → (p : ℕ) → s ≡ Page p → full m.spool ≡ false) → perform_in s c m ≡ Err r → untouching r ≡ false
perform_refusal Home (BeginPage id) m r free e = ok_err _ r e
perform_refusal Home EndPage m r free e = found_by NotAllowed r e refl
perform_refusal Home (LoadCopyControl k) m r free e = load_refusal k m r e
perform_refusal Home NoOperation m r free e = ok_err _ r e
perform_refusal Home SetHomeState m r free e = ok_err _ r e
perform_refusal Home DiscardBufferedData m r free e = ok_err _ r e
perform_refusal (Page p) (BeginPage id) m r free e = found_by NotAllowed r e refl
perform_refusal (Page p) EndPage m r free e = end_refusal p m r (free refl p refl) e
perform_refusal (Page p) (LoadCopyControl k) m r free e = found_by NotAllowed r e refl
perform_refusal (Page p) NoOperation m r free e = ok_err _ r e
perform_refusal (Page p) SetHomeState m r free e = ok_err _ r e
perform_refusal (Page p) DiscardBufferedData m r free e = ok_err _ r e

free_place : (m : Machine) (h : Header) (p : ℕ) → m.state ≡ Page p → kind_of h.code ≡ Some kinds.EndPage → blocked h m ≡ false → full m.spool ≡ false
free_place m h p es ek f = sym (ap (λ o. cond (ends o) (full m.spool) false) ek) ∙ ap (λ s. blocked_in s h m) (sym es) ∙ f

pub performed_refusal : (bs : List ℕ) (m : Machine) (h : Header) (r : Refusal) → blocked h m ≡ false → interpreted h (data_of h bs) m ≡ Err r → untouching r ≡ false
performed_refusal bs m h r free e = go (decoded m.state h (data_of h bs)) refl e
  where
    go : (w : Result Command Refusal) → decoded m.state h (data_of h bs) ≡ w → performed w m ≡ Err r → untouching r ≡ false
    go (Ok c) ew e = perform_refusal m.state c m r (λ ec p es. free_place m h p es (decoded_end m.state h (data_of h bs) (ew ∙ ap Ok ec)) free) e
    go (Err q) ew e = decoded_refusal (row_of h.code) m.state h (data_of h bs) r (ew ∙ (let x : ◌≡◌ {A = Result Command Refusal} (Err q) (Err r) = ap Err (sym (err_is q r e)) in x))
