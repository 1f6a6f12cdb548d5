use Rattle.std.proofs.Common.{◌≡◌, drop}
use Rattle.text.specs.Canvases.{canvas_of}
use Rattle.text.specs.Cycles.{cycled}
use Rattle.text.specs.Runs.{characters}
use Rattle.text.proofs.writer.Writer.cycle.Given as goal

abbrev pub invariant-loop-k : goal.invariant-loop-k
invariant-loop-k l =
    (l.self.marks.ghost_name ≡ l.initial.self.marks.ghost_name)
    × (characters (drop l.k (cycled l.times l.pattern)) (canvas_of l.self) ≡ characters (cycled l.times l.pattern) (canvas_of l.initial.self))
