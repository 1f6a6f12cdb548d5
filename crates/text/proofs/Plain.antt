-- The characters before the next control.
use Rattle.std.proofs.Common.{◌≡◌, ℕ, suc, ◌+◌, ◌<◌, Bool, true, false, cond, not, ltb, List, [], ◌∷◌, length, get_or, Some, None, Option, refl, arith}
use Rattle.std.specs.List.{position, position_or_len}
use Rattle.std.specs.Option.{unwrap_or}
use Rattle.std.proofs.lemmas.List.Sums.{prefix_len-le-length}
use Rattle.std.proofs.lemmas.Bool.{cond_both, cond-false, ltb-false}
use Rattle.text.specs.Texts.{begins, plain}

turned : (t : Bool) (m n : ℕ) → m ≡ n → cond (not t) (1 + m) 0 ≡ cond t 0 (suc n)
turned true m n e = refl
turned false m n e = omega arith

plain_first : (bs : List ℕ) → position_or_len (begins false) bs ≡ plain bs
plain_first [] = refl
plain_first (b ∷ bs) = turned (begins false b) _ _ (plain_first bs)

-- the place of the next control, or the end
pub plain_position : (bs : List ℕ) → unwrap_or (position (begins false) bs) (length bs) ≡ plain bs
plain_position bs =
    cond_both (ltb (position_or_len (begins false) bs) (length bs)) (Some (position_or_len (begins false) bs)) None (λ (o : Option ℕ). unwrap_or o (length bs) ≡ plain bs) (λ _. plain_first bs)
    (λ e. omega (arith, plain_first bs, prefix_len-le-length (λ b. not (begins false b)) bs, ltb-false _ _ e))

pub plain_some : (bs : List ℕ) → 0 < length bs → begins false (get_or bs 0 0) ≡ false → 0 < plain bs
plain_some [] h e = absurd (omega arith)
plain_some (b ∷ bs) h e = omega (arith, cond-false (begins false b) 0 (suc (plain bs)) e)
