use Rattle.std.proofs.Common.{◌<◌, length, take, sym, ap, ◌∙◌, add-one, arith, rules}
use Rattle.std.proofs.lemmas.List.Sums.{position_or_len_is}
use Rattle.std.proofs.lemmas.List.{take_rest, take_all}
use Rattle.words.proofs.Spaces.{is_space, first_space, word_before, rest_behind, no_rest}
use Rattle.words.proofs.split.first_word.Goals as goal

pub returns-in-Some : goal.returns-in-Some
returns-in-Some c =
    let line = c.args.line.now in
    let found = position_or_len_is is_space line c.in-Some.i 0 (search rules) (search rules) (search rules) in
    let below : c.in-Some.i < length line = search rules in
    let inside : first_space line < length line = omega (arith, found) in
    record {
      word = ap (λ n. take n line) (sym found) ∙ word_before line;
      rest = rw (take_rest, ← found, add-one) (rest_behind line inside);
    }

pub returns-in-None : goal.returns-in-None
returns-in-None c =
    let line = c.args.line.now in
    let none = position_or_len_is is_space line (length line) 0 (omega arith) (search rules) (search rules) in
    record {
      word = sym (take_all (length line) line (omega arith)) ∙ ap (λ n. take n line) (sym none) ∙ word_before line;
      rest = no_rest line (omega arith);
    }
