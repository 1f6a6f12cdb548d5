use Rattle.std.proofs.Common.{refl}
use Rattle.text.proofs.Laws.{text_unbounded, text_repeats, text_grounds}
use Rattle.text.proofs.theorems.laws_stand.Goals as goal

pub returns : goal.returns
returns c = record { answer = refl; unbounded = text_unbounded; repeats = text_repeats; grounds = text_grounds }
