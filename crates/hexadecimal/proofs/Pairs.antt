-- What the library encodes: two digits for each byte.
use Rattle.std.proofs.Common.{◌≡◌, ℕ, zero, suc, ◌/◌, ◌%◌, ◌<◌, ◌&&◌, Bool, true, eqb, List, [], ◌∷◌, get_or, refl, ⊎_elim, arith}
use Rattle.std.proofs.lemmas.Bool.{cases_eq, and_parts, eqb-true}
use Rattle.hex.specs.Hex.{upper_digits, encode_with, IsBytes}
use Rattle.hexadecimal.specs.Hex.{hex_digit, hex_text}

-- the digits below a number stand in the table
stand : ℕ → Bool
stand zero = true
stand (suc n) = eqb (get_or upper_digits n 0) (hex_digit n) && stand n

at_digit : (n d : ℕ) → stand n ≡ true → d < n → get_or upper_digits d 0 ≡ hex_digit d
unfolding stand
at_digit zero d h below = absurd (omega arith)
at_digit (suc n) d h below =
    let p = and_parts (eqb (get_or upper_digits n 0) (hex_digit n)) (stand n) h in
    ⊎_elim (λ same. rw same (eqb-true (get_or upper_digits n 0) (hex_digit n) p.0)) (λ other. at_digit n d p.1 (omega arith)) (cases_eq d n)

all_stand : stand 16 ≡ true
unfolding stand
all_stand = refl

pub encoded : (bytes : List ℕ) → IsBytes bytes → encode_with upper_digits bytes ≡ hex_text bytes
unfolding encode_with
encoded [] small = refl
encoded (b ∷ bs) small =
    let first : b < 256 = small 0 in
    rw (at_digit 16 (b / 16) all_stand (omega arith), at_digit 16 (b % 16) all_stand (omega arith), encoded bs (λ i. small (suc i))) refl
