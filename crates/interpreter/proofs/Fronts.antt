-- A take that writes to the front of the reply area leaves what is behind it.
use Rattle.std.proofs.Common.{◌≡◌, ℕ, ◌≤◌, Bool, true, false, cond, List, ◌++◌, length, drop, sym, ap, ◌∙◌, append_assoc, length-append, arith}
use Rattle.std.proofs.lemmas.Bool.{le-leb, cond-true}
use Rattle.std.proofs.lemmas.List.{drop-append-le, take-append-drop, length-take-le}
use Rattle.std.specs.Array.{IsFirstChunk}
use Rattle.command.specs.declared.header.Header.{Header}
use Rattle.command.specs.Headers.{asks_reply}
use Rattle.refusal.specs.declared.Fault.{Fault}
use Rattle.spool.specs.Spools.{numbers_of}
use Rattle.reply.specs.Replies.{ack, nack, written}
use Rattle.interpreter.specs.declared.taken.Taken.{Taken}
use Rattle.interpreter.specs.Machines.{Machine}
use Rattle.interpreter.specs.Taking.{Taking, taking, handed, accepted, faulted}

abbrev pub behind : List ℕ → Taking → Taking
behind rest t = taking t.machine (t.area ++ rest) t.told

-- the front, and what is behind it, make the area
module _ (area front : List ℕ) (first : IsFirstChunk area front 40) where
  pub joined : front ++ drop 40 area ≡ area
  joined = ap (λ xs. xs ++ drop 40 area) first.same ∙ take-append-drop 40 area

  written_front : (bs : List ℕ) → length bs ≤ 40 → written bs front ++ drop 40 area ≡ written bs area
  written_front bs le =
      let rest = drop 40 area in
      let long : length front ≡ 40 = ap length first.same ∙ length-take-le 40 area first.enough in
      let within : length bs ≤ length front = omega (arith, long) in
      let further : length bs ≤ length (front ++ rest) = omega (arith, length-append front rest) in
      ap (λ xs. xs ++ rest) (cond-true _ _ _ (le-leb (length bs) (length front) within))
      ∙ append_assoc bs (drop (length bs) front) rest
      ∙ ap (λ xs. bs ++ xs) (sym (drop-append-le (length bs) front rest within))
      ∙ sym (cond-true _ _ _ (le-leb (length bs) (length (front ++ rest)) further))
      ∙ ap (written bs) joined

  -- a reply where the host asks for one, and else none
  replied : (asks : Bool) (x y : Machine) (bs : List ℕ) (t u : Taken) → length bs ≤ 40 → behind (drop 40 area) (cond asks (taking x (written bs front) t) (taking y front u)) ≡ cond asks (taking x (written bs area) t) (taking y area u)
  replied true x y bs t u le = ap (λ a. taking x a t) (written_front bs le)
  replied false x y bs t u le = ap (λ a. taking y a u) joined

  module _ (h : Header) (m : Machine) where
    pub handed_front : (f : Fault) → behind (drop 40 area) (handed f h m front) ≡ handed f h m area
    handed_front f = replied (asks_reply h) _ _ (nack f (numbers_of m.spool)) _ _ (omega arith)

    pub accepted_front : behind (drop 40 area) (accepted h m front) ≡ accepted h m area
    accepted_front = replied (asks_reply h) _ _ (ack (numbers_of m.spool)) _ _ (omega arith)

    pub faulted_front : (f : Fault) → behind (drop 40 area) (faulted f h m front) ≡ faulted f h m area
    faulted_front f = replied (asks_reply h) _ _ (nack f (numbers_of m.spool)) _ _ (omega arith)
