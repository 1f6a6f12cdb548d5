use Rattle.std.proofs.Common.{rules, sym, ◌∙◌}
use Rattle.words.proofs.Pairs.{paired, none_yet}
use Rattle.words.proofs.digits.hex.Goals as goal

pub loop-rest-preserved : goal.loop-rest-preserved
loop-rest-preserved c =
    paired c.loop-rest.rest.now _ _ _ _ (search rules) (sym c.byte.ensures ∙ c.in-Some.is) c.in_ok-push.ensures.items c.loop-rest.invariant

pub loop-rest-init : goal.loop-rest-init
loop-rest-init c = none_yet _ _ (search rules)
