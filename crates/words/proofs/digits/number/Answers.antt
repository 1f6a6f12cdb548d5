use Rattle.std.proofs.Common.{◌<◌, arith, rules}
use Rattle.words.proofs.Numbers.{small}
use Rattle.words.proofs.digits.number.Goals as goal

pub overflow_mul-n : goal.overflow_mul-n
overflow_mul-n c = let s = small _ c.loop-b.b-index c.loop-b.invariant.small (omega arith) in omega (arith, s)

pub overflow_add-n : goal.overflow_add-n
overflow_add-n c =
    let s = small _ c.loop-b.b-index c.loop-b.invariant.small (omega arith) in
    let d : c.in_ok-n.field-0 < 10 = search rules in
    omega (arith, s, d)
