use Rattle.std.proofs.Common.{◌≡◌, ◌+◌, false, length}
use Rattle.text.specs.Canvases.{canvas_of}
use Rattle.text.specs.Texts.{walk}
use Rattle.text.proofs.Turns.{Sofar}
use Rattle.text.proofs.writer.Writer.write_all.Given as goal

abbrev pub invariant-loop-rest : goal.invariant-loop-rest
invariant-loop-rest l =
    (l.self.marks.ghost_name ≡ l.initial.self.marks.ghost_name)
    × Sofar l.chained l.at l.rest (canvas_of l.self) (walk (length l.data) false 0 l.data (canvas_of l.initial.self))
    × (l.at + length l.rest ≡ length l.data)

abbrev pub decreases-loop-rest : goal.decreases-loop-rest
decreases-loop-rest l = length l.rest
