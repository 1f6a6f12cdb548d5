use Rattle.std.proofs.Common.{take, sym, ◌∙◌, rules, tests}
use Rattle.std.proofs.lemmas.Iterator.{YieldsList-from_slice, YieldsList-from_map}
use Rattle.std.proofs.lemmas.Iterator.Search.{position_from_yields_List}
use Rattle.std.proofs.lemmas.Iterator.Consumers.{sum_from_yields_List, fits_from_yields_list}
use Rattle.store.proofs.Searching.{size_of, has_id, sum_fits, found_by, not_found_by}
use Rattle.store.proofs.entry.find_in.Goals as goal

pub returns-in_err-at : goal.returns-in_err-at
returns-in_err-at c =
    let p = position_from_yields_List (has_id c.args.id) _ _ c.position.result c.position.ensures.ran (YieldsList-from_slice c.args.entries.now cc) (λ x b q k. search (rules, tests)) in
    c.from_residual.ensures ∙ not_found_by c.args.entries.now c.args.id (sym p ∙ c.in_err-at.was)

pub sum-start-requires-clause-fits : goal.sum-start-requires-clause-fits
sum-start-requires-clause-fits c =
    fits_from_yields_list c.map.result _ (YieldsList-from_map _ size_of (YieldsList-from_slice (take c.in_ok-at.at c.args.entries.now) cc) c.map.ensures.closure (λ x b q k. search (rules, tests))) (sum_fits c.args.entries.now c.in_ok-at.at c.requires)

pub returns : goal.returns
returns c =
    let p = position_from_yields_List (has_id c.args.id) _ _ c.position.result c.position.ensures.ran (YieldsList-from_slice c.args.entries.now cc) (λ x b q k. search (rules, tests)) in
    found_by c.args.entries.now c.args.id c.in_ok-at.at _ (sym p ∙ c.in_ok-at.was) (sum_from_yields_List c.map.result _ c.sum-start.ensures.ran (YieldsList-from_map _ size_of (YieldsList-from_slice (take c.in_ok-at.at c.args.entries.now) cc) c.map.ensures.closure (λ x b q k. search (rules, tests))))
