use Rattle.std.proofs.Common.{◌≡◌, length, vec_items}
use Rattle.words.specs.Numerals.{hex_of}
use Rattle.words.proofs.Pairs.{hex_after}
use Rattle.words.proofs.digits.hex.Given as goal

abbrev pub invariant-loop-rest : goal.invariant-loop-rest
invariant-loop-rest l = hex_after (vec_items l.out) (hex_of l.rest) ≡ hex_of l.word

abbrev pub decreases-loop-rest : goal.decreases-loop-rest
decreases-loop-rest l = length l.rest
