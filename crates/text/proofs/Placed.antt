-- A run of plain characters in one turn of the loop over a text.
use Rattle.std.proofs.Common.{◌≡◌, ℕ, zero, suc, ◌+◌, ◌-◌, ◌≤◌, Bool, false, List, [], ◌∷◌, length, take, drop, Ok, Err, Result, sym, refl, ap, ◌∙◌, arith, length-drop}
use Rattle.std.proofs.lemmas.Bool.{cond-false, cond_both}
use Rattle.text.specs.declared.fault.TextFault.{TextFault}
use Rattle.text.specs.Canvases.{Canvas, Out, out, and_then}
use Rattle.text.specs.Steps.{character}
use Rattle.text.specs.Runs.{located, run}
use Rattle.text.specs.Texts.{begins, plain, walk}
use Rattle.text.proofs.Outs.{then_assoc}
use Rattle.text.proofs.Turns.{Sofar}

-- plain characters up to the next control are a run
pub walk_plain : (n at : ℕ) (bs : List ℕ) (s : Canvas) → length bs ≤ n → walk n false at bs s ≡ and_then (run at (take (plain bs) bs) s) (walk (n - plain bs) false (at + plain bs) (drop (plain bs) bs))
unfolding walk run
walk_plain n at [] s h = refl
walk_plain zero at (b ∷ bs) s h = absurd (omega arith)
walk_plain (suc n) at (b ∷ bs) s h =
    cond_both (begins false b) 0 (suc (plain bs)) (λ k. walk (suc n) false at (b ∷ bs) s ≡ and_then (run at (take k (b ∷ bs)) s) (walk (suc n - k) false (at + k) (drop k (b ∷ bs))))
    (λ e. let p : suc n ≡ suc n - 0 = omega arith in let q : at ≡ at + 0 = omega arith in λ i. walk (p i) false (q i) (b ∷ bs) s)
    (λ e.
    let p : n - plain bs ≡ suc n - suc (plain bs) = omega arith in
    let q : at + 1 + plain bs ≡ at + suc (plain bs) = omega arith in
    cond-false _ _ _ e
    ∙ then_assoc (located at (character b s)) (walk n false (at + 1) bs) (run (at + 1) (take (plain bs) bs)) (walk (n - plain bs) false (at + 1 + plain bs) (drop (plain bs) bs))
    (λ t. walk_plain n (at + 1) bs t (omega arith))
    ∙ (λ i. and_then (and_then (located at (character b s)) (run (at + 1) (take (plain bs) bs))) (walk (p i) false (q i) (drop (plain bs) bs))))

module _ {at : ℕ} (rest : List ℕ) {s : Canvas} {end : Out TextFault} (k : ℕ) (s' : Canvas) (r : Result (Unit {0}) TextFault) (chained : Bool) (not : chained ≡ false) (sofar : Sofar chained at rest s end) (is : k ≡ plain rest) (did : out s' r ≡ run at (take k rest) s) where
  abbrev further : Canvas → Out TextFault
  further = walk (sofar.fuel - k) false (at + k) (drop k rest)

  so : and_then (out s' r) further ≡ end
  so =
      ap (λ o. and_then o further) did
      ∙ ap (λ j. and_then (run at (take j rest) s) (walk (sofar.fuel - j) false (at + j) (drop j rest))) is
      ∙ sym (walk_plain sofar.fuel at rest s sofar.enough) ∙ ap (λ c. walk sofar.fuel c at rest s) (sym not) ∙ sofar.same

  pub placed_on : r ≡ Ok tt → (after : List ℕ) → after ≡ drop k rest → Sofar chained (at + k) after s' end
  placed_on was after rests = record {
    fuel = sofar.fuel - k;
    enough = omega (arith, ap length rests, length-drop k rest, sofar.enough);
    same =
        ap (λ c. walk (sofar.fuel - k) c (at + k) after s') not ∙ ap (λ l. walk (sofar.fuel - k) false (at + k) l s') rests
        ∙ ap (λ q. and_then (out s' q) further) (sym was) ∙ so;
  }

  pub placed_off : (f : TextFault) → r ≡ Err f → out s' (Err f) ≡ end
  placed_off f was = ap (λ q. and_then (out s' q) further) (sym was) ∙ so
