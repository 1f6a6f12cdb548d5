use Rattle.std.proofs.lemmas.Slice.Eq.{slice_eq-Decides}
use Rattle.words.proofs.Comparing.{tested}
use Rattle.words.proofs.split.same.Goals as goal
use Rattle.std.proofs.lemmas.Bool.Decides.{Decides-eqb}

pub returns : goal.returns
returns c = tested c.args.word.now c.args.name.now _ (slice_eq-Decides Decides-eqb _ _ _ c.eq.ensures)
