-- Queues in slices.
--   gap_in    there is an element at this place of the queue
--   closed   the slice once that element is out, the later ones one place down, and itself behind them
--   first_of  the first element of the queue
--   span_in   there are so many elements from this place of the queue on
--   span_out  the slice once these are out, the later ones moved down; the places that are freed keep their content
use Rattle.std.specs.Prelude.{ℕ, ◌+◌, ◌-◌, Bool, false, cond, List, [], ◌∷◌, ◌++◌, length, take, drop, Some, None, Option, nat_le, nat_lt}

abbrev pub gap_in : {A : Type 0} → List A → ℕ → ℕ → Bool
gap_in xs count at = cond (nat_lt at count) (nat_le count (length xs)) false

abbrev pub closed : {A : Type 0} → List A → ℕ → ℕ → List A
closed xs count at = take at xs ++ (drop (at + 1) (take count xs) ++ (take 1 (drop at xs) ++ drop count xs))

abbrev pub head_of : {A : Type 0} → List A → Option A
head_of [] = None
head_of (x ∷ xs) = Some x

abbrev pub first_of : {A : Type 0} → List A → ℕ → Option A
first_of xs count = cond (nat_le count (length xs)) (head_of (take count xs)) None

abbrev pub span_in : {A : Type 0} → List A → ℕ → ℕ → ℕ → Bool
span_in xs count at width = cond (nat_le (at + width) count) (nat_le count (length xs)) false

abbrev pub span_out : {A : Type 0} → List A → ℕ → ℕ → ℕ → List A
span_out xs count at width = take at xs ++ (drop (at + width) (take count xs) ++ drop (count - width) xs)
