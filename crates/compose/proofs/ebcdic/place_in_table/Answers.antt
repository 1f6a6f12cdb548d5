use Rattle.std.proofs.Common.{ℕ, ◌==◌, ◌∙◌, rules, tests}
use Rattle.std.proofs.lemmas.Iterator.{YieldsList-from_slice}
use Rattle.std.proofs.lemmas.Iterator.Search.{position_from_yields_List}
use Rattle.compose.specs.Ebcdic.{table}
use Rattle.compose.proofs.Places.{found_or_length}
use Rattle.compose.proofs.ebcdic.place_in_table.Goals as goal

pub returns : goal.returns
unfolding table
returns c =
    let found = position_from_yields_List (λ (b : ℕ). b == c.args.code) _ _ c.position.result c.position.ensures.ran (YieldsList-from_slice table cc) (λ x b q k. search (rules, tests)) in
    c.unwrap_or.ensures ∙ found_or_length c.args.code _ found
