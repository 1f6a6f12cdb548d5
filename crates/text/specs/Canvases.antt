-- The marks of a page with the text conditions, and how a piece of work leaves them.
--   Canvas     a list of places for marks, how many of its places are in use, and the text conditions
--   canvas_of  the canvas that a writer writes on
--   starting   the conditions as a page begins
--   Out        a canvas as it is left, and how the work ended; F is what is told of a refusal
--   done       the work ended well
--   refused    the work was refused
--   and_then    further work, unless what came before was refused
--   Grows      s has the marks of r and maybe more after them, and nothing else of the list is changed
use Rattle.std.specs.Prelude.{◌≡◌, ℕ, ◌≤◌, List, length, take, drop, Ok, Err, Result}
use Rattle.text.specs.declared.mark.Mark.{Mark}
use Rattle.text.specs.declared.font.Font.TheVariants.{Ten}
use Rattle.text.specs.declared.conditions.TextConditions.{TextConditions}
use Rattle.text.specs.declared.writer.Writer.{Writer}

pub record Canvas : Type 0 where
  pub marks : List Mark
  pub count : ℕ
  pub conditions : TextConditions

abbrev pub canvas : List Mark → ℕ → TextConditions → Canvas
canvas ms n t = record { marks = ms; count = n; conditions = t }

abbrev pub canvas_of : Writer → Canvas
canvas_of w = canvas w.marks.now w.count w.conditions

abbrev pub starting : TextConditions
starting = record { i = 0; b = 0; font = Ten }

pub record Out (F : Type 0) : Type 0 where
  pub left : Canvas
  pub result : Result (Unit {0}) F

abbrev pub out : {F : Type 0} → Canvas → Result (Unit {0}) F → Out F
out s r = record { left = s; result = r }

abbrev pub done : {F : Type 0} → Canvas → Out F
done s = out s (Ok tt)

abbrev pub refused : {F : Type 0} → F → Canvas → Out F
refused f s = out s (Err f)

abbrev pub and_then : {F : Type 0} → Out F → (Canvas → Out F) → Out F
and_then o more = elim o.result [ Ok x ↦ more o.left | Err f ↦ o ]

pub record Grows (r s : Canvas) : Type 0 where
  -- the list keeps its length
  pub long : length s.marks ≡ length r.marks
  -- no mark is taken away
  pub up : r.count ≤ s.count
  -- the count does not pass the list
  pub room : r.count ≤ length r.marks → s.count ≤ length s.marks
  -- the marks that were there stand
  pub kept : take r.count s.marks ≡ take r.count r.marks
  -- what lies beyond the marks is as it was
  pub beyond : drop s.count s.marks ≡ drop s.count r.marks
