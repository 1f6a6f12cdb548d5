-- Where the checks of a take end.
use Rattle.std.proofs.Common.{◌≡◌, ℕ, ◌<◌, ◌≤◌, true, false, List, length, Some, None, Result, sym, ap, ◌∙◌}
use Rattle.std.proofs.lemmas.Bool.{le-ltb, lt-ltb, cond-false, cond-true}
use Rattle.command.specs.declared.header.Header.{Header}
use Rattle.command.specs.Headers.{header_of, in_range, data_of}
use Rattle.refusal.specs.declared.Fault.{Fault}
use Rattle.refusal.specs.declared.Refusal.{Refusal}
use Rattle.refusal.specs.declared.Refusal.TheVariants.{Incomplete, SixteenWait}
use Rattle.interpreter.specs.Machines.{Machine}
use Rattle.interpreter.specs.Taking.{headed, take_of, untouched, unreadable, handed, settled, blocked, interpreted, whole}

module _ (bs : List ℕ) (m : Machine) (area : List ℕ) (h : Header) (eh : header_of bs ≡ Some h) (le : 40 ≤ length area) where
  -- at a length that cannot be
  pub take_unreadable : in_range h ≡ false → take_of bs m area ≡ unreadable h (length bs) m area
  take_unreadable out =
      ap (λ o. headed o bs m area) eh ∙ cond-false _ _ _ (le-ltb (length area) 40 le) ∙ cond-false _ _ _ out

  -- before the last byte came
  pub take_incomplete : in_range h ≡ true → length bs < h.length → take_of bs m area ≡ untouched Incomplete m area
  take_incomplete inside short =
      ap (λ o. headed o bs m area) eh
      ∙ cond-false _ _ _ (le-ltb (length area) 40 le)
      ∙ cond-true _ _ _ inside
      ∙ cond-true _ _ _ (lt-ltb (length bs) h.length short)

  -- past them all
  pub take_whole : in_range h ≡ true → h.length ≤ length bs → take_of bs m area ≡ whole m.pending h (data_of h bs) m area
  take_whole inside long =
      ap (λ o. headed o bs m area) eh
      ∙ cond-false _ _ _ (le-ltb (length area) 40 le)
      ∙ cond-true _ _ _ inside
      ∙ cond-false _ _ _ (le-ltb (length bs) h.length long)

  module _ (inside : in_range h ≡ true) (long : h.length ≤ length bs) where
    -- while a negative reply is pending
    pub take_pending : (f : Fault) → m.pending ≡ Some f → take_of bs m area ≡ handed f h m area
    take_pending f e = take_whole inside long ∙ ap (λ p. whole p h (data_of h bs) m area) e

    -- at a page that cannot wait
    pub take_blocked : m.pending ≡ None → blocked h m ≡ true → take_of bs m area ≡ untouched SixteenWait m area
    take_blocked e b = take_whole inside long ∙ ap (λ p. whole p h (data_of h bs) m area) e ∙ cond-true _ _ _ b

    -- at none of them
    pub take_settled : m.pending ≡ None → blocked h m ≡ false → (d : List ℕ) → d ≡ data_of h bs → (w : Result Machine Refusal) → interpreted h d m ≡ w → take_of bs m area ≡ settled w h m area
    take_settled e b d is w i =
        take_whole inside long
        ∙ ap (λ p. whole p h (data_of h bs) m area) e
        ∙ cond-false _ _ _ b
        ∙ ap (λ d. settled (interpreted h d m) h m area) (sym is)
        ∙ ap (λ w. settled w h m area) i
