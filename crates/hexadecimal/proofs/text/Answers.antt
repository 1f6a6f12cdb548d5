use Rattle.std.proofs.Common.{arith, rules}
use Rattle.hexadecimal.proofs.Pairs.{encoded}
use Rattle.hexadecimal.proofs.text.Goals as goal

pub returns : goal.returns
returns c =
    let same = encoded c.args.bytes.now (λ i. omega (arith, c.type_inv.bytes i)) in
    search (rules, same)
