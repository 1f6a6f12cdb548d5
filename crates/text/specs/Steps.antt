-- What a character does where the text stands, and how a step is taken on a canvas.
--   step        a mark, if any, and the conditions after it
--   fits        a character stands within the page: its end inline, and its baseline
--   marked      a character's mark: kind 1, its code and its font's number
--   onward      the position inline, moved on
--   lettered    the step of a character: a space moves on and leaves no mark; outside the page there is none
--   put         a mark, if any, goes to the first free place, where there is one, and the conditions follow
--   taken       a step on a canvas, or its refusal
--   character   a character on a canvas
-- The page's edges are judged before the list's room. A space is judged for the edges alike, and asks for no room.
use Rattle.std.specs.Prelude.{ℕ, ◌+◌, Bool, cond, ◌&&◌, length, pos, Some, None, Ok, Err, Option, Result, ◌==◌, nat_le, nat_lt, slice_set}
use Rattle.refusal.specs.declared.Refusal.{Refusal}
use Rattle.refusal.specs.declared.Refusal.TheVariants.{Outside, MarksFull}
use Rattle.text.specs.declared.mark.Mark.{Mark}
use Rattle.text.specs.declared.axis.Axis.TheVariants.{Inline, Baseline}
use Rattle.text.specs.declared.conditions.TextConditions.{TextConditions}
use Rattle.text.specs.declared.step.Step.{Step}
use Rattle.text.specs.Axes.{extent}
use Rattle.text.specs.Fonts.{advance_of, number_of}
use Rattle.text.specs.Canvases.{Canvas, canvas, Out, done, refused}

abbrev pub step : Option Mark → TextConditions → Step
step m t = record { mark = m; next = t }

abbrev pub fits : ℕ → TextConditions → Bool
fits code t = nat_le (t.i + advance_of t.font code) (extent Inline) && nat_le t.b (extent Baseline)

abbrev pub marked : ℕ → TextConditions → Mark
marked code t = record { kind = 1; i = t.i; b = t.b; first = pos code; second = pos (number_of t.font) }

abbrev pub onward : ℕ → TextConditions → TextConditions
onward code t = record { i = t.i + advance_of t.font code; b = t.b; font = t.font }

-- X'40' is the space
abbrev pub lettered : ℕ → TextConditions → Result Step Refusal
lettered code t = cond (fits code t) (Ok (step (cond (code == 0x40) None (Some (marked code t))) (onward code t))) (Err Outside)

abbrev pub put : Option Mark → TextConditions → Canvas → Out Refusal
put None t s = done (canvas s.marks s.count t)
put (Some m) t s = cond (nat_lt s.count (length s.marks)) (done (canvas (slice_set s.marks s.count m) (s.count + 1) t)) (refused MarksFull s)

abbrev pub taken : Result Step Refusal → Canvas → Out Refusal
taken (Ok p) s = put p.mark p.next s
taken (Err r) s = refused r s

abbrev pub character : ℕ → Canvas → Out Refusal
character code s = taken (lettered code s.conditions) s
