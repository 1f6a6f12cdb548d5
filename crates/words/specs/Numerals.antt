-- What digits write.
--   digit_of    the value of a decimal digit
--   number_of   the number that one to nine decimal digits write
--   up_to       the number that a word writes, where it is at most a limit
--   nibble_of   the value of a hexadecimal digit, in upper or lower case
--   byte_of     the byte that two hexadecimal digits write
--   hex_of      the bytes that pairs of hexadecimal digits write
--   bytes_of    the same of a word, which is not empty
use Rattle.std.specs.Prelude.{ℕ, ◌+◌, ◌-◌, ◌*◌, Bool, cond, ◌&&◌, List, [], ◌∷◌, length, Some, None, Option, ◌==◌, nat_le, nat_lt}

-- what follows from a value, where there is one
abbrev pub and_then : {A B : Type 0} → Option A → (A → Option B) → Option B
and_then o f = elim o [ Some x ↦ f x | None ↦ None ]

-- a value that passes a test
abbrev pub only : {A : Type 0} → Bool → A → Option A
only b x = cond b (Some x) None

abbrev pub within : ℕ → ℕ → ℕ → Bool
within low high b = nat_le low b && nat_le b high

abbrev pub digit_of : ℕ → Option ℕ
digit_of b = only (within 48 57 b) (b - 48)

abbrev pub nibble_of : ℕ → Option ℕ
nibble_of b = cond (within 48 57 b) (Some (b - 48)) (cond (within 65 70 b) (Some (b - 55)) (only (within 97 102 b) (b - 87)))

-- the digits that are left, after a number
abbrev pub digits_from : ℕ → List ℕ → Option ℕ
digits_from n [] = Some n
digits_from n (b ∷ bs) = and_then (digit_of b) (λ d. digits_from (n * 10 + d) bs)

abbrev pub number_of : List ℕ → Option ℕ
number_of w = cond (length w == 0) None (cond (nat_lt 9 (length w)) None (digits_from 0 w))

abbrev pub up_to : ℕ → List ℕ → Option ℕ
up_to limit w = and_then (number_of w) (λ n. only (nat_le n limit) n)

abbrev pub byte_of : ℕ → ℕ → Option ℕ
byte_of first second = and_then (nibble_of first) (λ h. and_then (nibble_of second) (λ l. Some (h * 16 + l)))

abbrev pub hex_of : List ℕ → Option (List ℕ)
hex_of [] = Some []
hex_of (a ∷ []) = None
hex_of (a ∷ b ∷ bs) = and_then (nibble_of a) (λ h. and_then (nibble_of b) (λ l. and_then (hex_of bs) (λ rest. Some ((h * 16 + l) ∷ rest))))

abbrev pub bytes_of : List ℕ → Option (List ℕ)
bytes_of w = cond (length w == 0) None (hex_of w)
