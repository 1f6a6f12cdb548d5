use Rattle.std.proofs.Common.{◌≡◌, ◌^◌, ◌<◌, drop}
use Rattle.words.specs.Numerals.{digits_from}
use Rattle.words.proofs.digits.number.Given as goal

abbrev pub invariant-loop-b : goal.invariant-loop-b
invariant-loop-b l = record {
  number : digits_from l.n (drop l.b-index l.word) ≡ digits_from 0 l.word;
  small : l.n < 10 ^ l.b-index;
}
