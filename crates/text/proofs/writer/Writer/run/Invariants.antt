use Rattle.std.proofs.Common.{◌≡◌, ◌+◌, drop}
use Rattle.text.specs.Canvases.{canvas_of}
use Rattle.text.specs.Runs.{run}
use Rattle.text.proofs.writer.Writer.run.Given as goal

abbrev pub invariant-loop-k : goal.invariant-loop-k
invariant-loop-k l =
    (l.self.marks.ghost_name ≡ l.initial.self.marks.ghost_name)
    × (run (l.at + l.k-counter) (drop l.k-counter l.codes) (canvas_of l.self) ≡ run l.at l.codes (canvas_of l.initial.self))
