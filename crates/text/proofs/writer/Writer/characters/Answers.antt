use Rattle.std.proofs.Common.{rules}
use Rattle.text.proofs.Runs.{run_unlocated}
use Rattle.text.proofs.writer.Writer.characters.Goals as goal

pub returns-clause-characters : goal.returns-clause-characters
returns-clause-characters c = run_unlocated _ _ _ _ _ _ c.run.ensures.run (search rules)
