-- A pattern repeated: its length, and each of its characters.
use Rattle.std.proofs.Common.{◌≡◌, ℕ, zero, suc, ◌+◌, ◌-◌, ◌*◌, ◌%◌, ◌<◌, ◌≤◌, List, length, get_or, drop, Ok, Err, Result, sym, refl, ap, ◌∙◌, inl, inr, mod-eq_of_lt, suc-mul, zero-mul, arith}
use native.Mathlib.Nat.{mod-eq-sub-mod}
use Rattle.std.proofs.lemmas.List.{length-append, length-take-le, get_or_append_left, get_or-append_right, get_or-take}
use Rattle.std.proofs.lemmas.Bool.{cases_lt}
use Rattle.refusal.specs.declared.Refusal.{Refusal}
use Rattle.text.specs.Canvases.{Canvas, Out, out, done}
use Rattle.text.specs.Steps.{character}
use Rattle.text.specs.Runs.{characters}
use Rattle.text.specs.Cycles.{copies, cycled}
use Rattle.text.proofs.Runs.{characters_on, characters_off, characters_end}

pub length_copies : (n : ℕ) (p : List ℕ) → length (copies n p) ≡ n * length p
unfolding copies
length_copies zero p = sym (zero-mul (length p))
length_copies (suc n) p = simp length-append (omega (arith, length_copies n p, suc-mul n (length p)))

-- of a pattern that is not empty there are characters enough
pub copies_enough : (n : ℕ) (p : List ℕ) → 0 < length p → n ≤ length (copies n p)
unfolding copies
copies_enough zero p h = omega arith
copies_enough (suc n) p h = simp length-append (omega (arith, copies_enough n p h))

pub get_d_copies : (n : ℕ) (p : List ℕ) (k : ℕ) → 0 < length p → k < length (copies n p) → get_or (copies n p) k 0 ≡ get_or p (k % length p) 0
unfolding copies
get_d_copies zero p k z h = absurd (omega arith)
get_d_copies (suc n) p k z h =
    elim (cases_lt k (length p)) [
      | inl lt ↦ get_or_append_left p (copies n p) 0 k lt ∙ ap (λ j. get_or p j 0) (sym (mod-eq_of_lt lt))
      | inr le ↦
          get_or-append_right p (copies n p) (length p) k 0 refl le
          ∙ get_d_copies n p (k - length p) z (omega (arith, simp length-append at h))
          ∙ ap (λ j. get_or p j 0) (sym (mod-eq-sub-mod le))
    ]

pub length_cycled : (n : ℕ) (p : List ℕ) → (0 < n → 0 < length p) → length (cycled n p) ≡ n
unfolding copies
length_cycled zero p h = refl
length_cycled (suc n) p h = length-take-le (suc n) (copies (suc n) p) (copies_enough (suc n) p (h (omega arith)))

pub get_d_cycled : (n : ℕ) (p : List ℕ) (k : ℕ) → 0 < length p → k < n → get_or (cycled n p) k 0 ≡ get_or p (k % length p) 0
get_d_cycled n p k z h = get_or-take n (copies n p) k 0 h ∙ get_d_copies n p k z (omega (arith, copies_enough n p z))

-- the loop over the characters of a pattern repeated, at the character x
module _ (n : ℕ) (p : List ℕ) (some : 0 < n → 0 < length p) (k : ℕ) where
  within : k < n → k < length (cycled n p)
  within h = omega (arith, length_cycled n p some)

  at : (s : Canvas) (o : Out Refusal) (x : ℕ) → k < n → x ≡ get_or p (k % length p) 0 → o ≡ character x s → o ≡ character (get_or (cycled n p) k 0) s
  at s o x h is e = e ∙ ap (λ y. character y s) (is ∙ sym (get_d_cycled n p k (some (omega arith)) h))

  pub cycle_on : (s s' : Canvas) (r : Result (Unit {0}) Refusal) (end : Out Refusal) (x : ℕ) → k < n → x ≡ get_or p (k % length p) 0 → out s' r ≡ character x s → r ≡ Ok tt → characters (drop k (cycled n p)) s ≡ end → characters (drop (k + 1) (cycled n p)) s' ≡ end
  cycle_on s s' r end x h is e was inv = characters_on (cycled n p) k s s' r end (within h) (at s _ x h is e) was inv

  pub cycle_off : (s s' : Canvas) (r : Result (Unit {0}) Refusal) (f : Refusal) (end : Out Refusal) (x : ℕ) → k < n → x ≡ get_or p (k % length p) 0 → out s' r ≡ character x s → r ≡ Err f → characters (drop k (cycled n p)) s ≡ end → out s' (Err f) ≡ end
  cycle_off s s' r f end x h is e was inv = characters_off (cycled n p) k s s' r f end (within h) (at s _ x h is e) was inv

  pub cycle_end : (s : Canvas) (end : Out Refusal) → n ≤ k → characters (drop k (cycled n p)) s ≡ end → done s ≡ end
  cycle_end s end h inv = characters_end (cycled n p) k s end (omega (arith, length_cycled n p some)) inv
