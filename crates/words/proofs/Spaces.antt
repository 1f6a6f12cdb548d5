-- The words of a line, by the place of its first space.
use Rattle.std.proofs.Common.{◌≡◌, ℕ, suc, ◌+◌, ◌<◌, ◌≤◌, ◌==◌, Bool, true, false, not, cond, List, [], ◌∷◌, length, take, drop, Some, None, refl, ap, arith}
use Rattle.std.specs.List.{position_or_len}
use Rattle.words.specs.Words.{word_of, rest_of}

abbrev pub is_space : ℕ → Bool
is_space b = b == 32

abbrev pub first_space : List ℕ → ℕ
first_space line = position_or_len is_space line

word_by : (space : Bool) (b : ℕ) (bs : List ℕ) (k : ℕ) → take k bs ≡ word_of bs → take (cond (not space) (1 + k) 0) (b ∷ bs) ≡ cond space [] (b ∷ word_of bs)
word_by true b bs k h = refl
word_by false b bs k h = let e : 1 + k ≡ suc k = omega arith in rw e (ap (λ w. b ∷ w) h)

pub word_before : (line : List ℕ) → take (first_space line) line ≡ word_of line
word_before [] = refl
word_before (b ∷ bs) = word_by (is_space b) b bs (first_space bs) (word_before bs)

rest_by : (space : Bool) (bs : List ℕ) (k : ℕ) → (k < length bs → rest_of bs ≡ Some (drop (suc k) bs)) → cond (not space) (1 + k) 0 < suc (length bs) → cond space (Some bs) (rest_of bs) ≡ Some (drop (cond (not space) (1 + k) 0) bs)
rest_by true bs k h below = refl
rest_by false bs k h below = let e : 1 + k ≡ suc k = omega arith in rw e (h (omega arith))

pub rest_behind : (line : List ℕ) → first_space line < length line → rest_of line ≡ Some (drop (suc (first_space line)) line)
rest_behind [] below = absurd (omega arith)
rest_behind (b ∷ bs) below = rest_by (is_space b) bs (first_space bs) (rest_behind bs) below

none_by : (space : Bool) (bs : List ℕ) (k : ℕ) → (length bs ≤ k → rest_of bs ≡ None) → suc (length bs) ≤ cond (not space) (1 + k) 0 → cond space (Some bs) (rest_of bs) ≡ None
none_by true bs k h past = absurd (omega arith)
none_by false bs k h past = h (omega arith)

pub no_rest : (line : List ℕ) → length line ≤ first_space line → rest_of line ≡ None
no_rest [] past = refl
no_rest (b ∷ bs) past = none_by (is_space b) bs (first_space bs) (no_rest bs) past
