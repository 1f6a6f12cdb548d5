-- A number's digits, one after the other.
use Rattle.std.proofs.Common.{◌≡◌, ℕ, ◌+◌, ◌*◌, ◌^◌, ◌<◌, ◌≤◌, zero-lt-suc, arith, pow-add}
use native.Mathlib.Nat.{pow-le-pow_right}

-- k digits write a number below the kth power of ten
pub grows : (n d k : ℕ) → n < 10 ^ k → d < 10 → n * 10 + d < 10 ^ (k + 1)
grows n d k h below = let p : 10 ^ (k + 1) ≡ 10 ^ k * 10 = pow-add 10 k 1 in omega (arith, p, h, below)

pub small : (n k : ℕ) → n < 10 ^ k → k < 9 → n < 100000000
small n k h few = let most : k ≤ 8 = omega (arith, few) in let p : 10 ^ k ≤ 10 ^ 8 = pow-le-pow_right (zero-lt-suc 9) most in omega (arith, p, h)
