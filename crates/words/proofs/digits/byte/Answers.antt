use Rattle.std.proofs.Common.{◌≡◌, Some, None, rules}
use Rattle.words.proofs.Pairs.{digit}
use Rattle.words.specs.Numerals.{nibble_of}
use Rattle.words.proofs.digits.byte.Goals as goal

pub returns-in_err-low : goal.returns-in_err-low
returns-in_err-low c =
    let high : Some c.in_ok-high.high ≡ nibble_of c.args.first = digit c.args.first (Some c.in_ok-high.high) (search rules) in
    let low : None ≡ nibble_of c.args.second = digit c.args.second None (search rules) in
    search (rules, high, low)

pub returns : goal.returns
returns c =
    let high : Some c.in_ok-high.high ≡ nibble_of c.args.first = digit c.args.first (Some c.in_ok-high.high) (search rules) in
    let low : Some c.in_ok-low.low ≡ nibble_of c.args.second = digit c.args.second (Some c.in_ok-low.low) (search rules) in
    search (rules, high, low)
