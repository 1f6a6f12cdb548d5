-- Pairs of hexadecimal digits, one after the other.
use Rattle.std.proofs.Common.{◌≡◌, ℕ, ◌+◌, ◌-◌, ◌*◌, ◌<◌, ◌≤◌, SomeIff, List, [], ◌∷◌, ◌++◌, length, get_or, take, drop, Some, None, Option, sym, refl, ap, ◌∙◌, append_assoc, arith}
use Rattle.std.specs.Char.{digit_value}
use Rattle.std.proofs.lemmas.List.{take_all}
use Rattle.std.proofs.lemmas.Bool.Decides.{nat_tests}
use Rattle.words.specs.Numerals.{and_then, nibble_of, byte_of, hex_of}

is_digit : (b : ℕ) → digit_value b < 16 → Some (digit_value b) ≡ nibble_of b
is_digit b h = grind (arith, nat_tests, h)

no_digit : (b : ℕ) → ¬ (digit_value b < 16) → None ≡ nibble_of b
no_digit b h = grind (arith, nat_tests, h)

-- what the library says of a digit
pub digit : (b : ℕ) (d : Option ℕ) → SomeIff d (digit_value b < 16) (digit_value b) → d ≡ nibble_of b
digit b (Some d) h = ap Some h.1 ∙ is_digit b h.0
digit b None h = no_digit b h

-- bytes after those that are there
abbrev pub hex_after : List ℕ → Option (List ℕ) → Option (List ℕ)
hex_after had o = and_then o (λ bs. Some (had ++ bs))

-- a byte, where there is one, before the bytes of the rest
abbrev before : Option ℕ → Option (List ℕ) → Option (List ℕ)
before byte rest = and_then byte (λ b. and_then rest (λ bs. Some (b ∷ bs)))

of_pair : (high low : Option ℕ) (rest : Option (List ℕ)) → and_then high (λ h. and_then low (λ l. and_then rest (λ bs. Some ((h * 16 + l) ∷ bs)))) ≡ before (and_then high (λ h. and_then low (λ l. Some (h * 16 + l)))) rest
of_pair (Some h) (Some l) rest = refl
of_pair (Some h) None rest = refl
of_pair None low rest = refl

-- the first pair's byte, before those of the others
split : (a b : ℕ) (bs : List ℕ) → hex_of (a ∷ b ∷ bs) ≡ before (byte_of a b) (hex_of bs)
split a b bs = of_pair (nibble_of a) (nibble_of b) (hex_of bs)

joined : (had : List ℕ) (b : ℕ) (o : Option (List ℕ)) → hex_after (had ++ b ∷ []) o ≡ hex_after had (before (Some b) o)
joined had b (Some bs) = ap Some (append_assoc had (b ∷ []) bs)
joined had b None = refl

-- a byte more
pub paired : (w had had' : List ℕ) (b : ℕ) (end : Option (List ℕ)) → 2 ≤ length w → byte_of (get_or w 0 0) (get_or w 1 0) ≡ Some b → had' ≡ had ++ b ∷ [] → hex_after had (hex_of w) ≡ end → hex_after had' (hex_of (take (length w - 2) (drop 2 w))) ≡ end
paired [] had had' b end long byte more inv = absurd (omega (arith, long))
paired (x ∷ []) had had' b end long byte more inv = absurd (omega (arith, long))
paired (x ∷ y ∷ bs) had had' b end long byte more inv =
    let whole : take (length (x ∷ y ∷ bs) - 2) (drop 2 (x ∷ y ∷ bs)) ≡ bs = take_all (length (x ∷ y ∷ bs) - 2) bs (omega arith) in
    rw (whole, more) (joined had b (hex_of bs) ∙ ap (λ o. hex_after had (before o (hex_of bs))) (sym byte) ∙ ap (hex_after had) (sym (split x y bs)) ∙ inv)

pub none_yet : (had : List ℕ) (o : Option (List ℕ)) → had ≡ [] → hex_after had o ≡ o
none_yet had (Some bs) e = rw e refl
none_yet had None e = refl
