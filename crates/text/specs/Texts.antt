-- A text: plain characters and controls, judged from left to right.
--   begins       a control begins at a byte: where one is chained, and at X'2B'
--   plain        how many characters stand before the next control or the end
--   control_at    the header of a control, refused at an offset
--   controlled   a control at the front of the bytes, and then the rest
--   walk         the text from an offset on: at a control's first byte where one is chained, else at any byte;
--                in at most so many characters and controls
--   text_from     the same in as many as there are bytes: that is always enough
--   text_of       a whole text
-- A fault's offset is the character's own, or that of its control's first byte: X'2B', or the length byte of a control
-- that is chained. Marks placed before a fault stand.
use Rattle.std.specs.Prelude.{ℕ, zero, suc, ◌+◌, Bool, false, cond, ◌||◌, List, [], ◌∷◌, length, drop, Ok, Err, Result, ◌==◌}
use Rattle.refusal.specs.declared.Refusal.{Refusal}
use Rattle.text.specs.declared.control.Control.{Control}
use Rattle.text.specs.declared.fault.TextFault.{TextFault}
use Rattle.text.specs.Canvases.{Canvas, Out, done, refused, and_then}
use Rattle.text.specs.Steps.{character}
use Rattle.text.specs.Runs.{fault, located_in, located}
use Rattle.text.specs.Controls.{control_of}
use Rattle.text.specs.Effects.{obeyed}

abbrev pub begins : Bool → ℕ → Bool
begins chained b = chained || b == 0x2B

abbrev pub plain : List ℕ → ℕ
plain [] = 0
plain (b ∷ bs) = cond (begins false b) 0 (suc (plain bs))

abbrev pub control_at : ℕ → Bool → List ℕ → Result Control TextFault
control_at at chained bs = located_in at (control_of chained bs)

abbrev pub Further : Type 0
Further = Bool → ℕ → List ℕ → Canvas → Out TextFault

unfoldable pub controlled : Further → ℕ → List ℕ → Result Control Refusal → Canvas → Out TextFault
controlled further at bs (Err r) s = refused (fault r at) s
controlled further at bs (Ok h) s = and_then (located at (obeyed h bs s)) (further h.chained (at + h.end) (drop h.end bs))

unfoldable pub walk : ℕ → Further
walk n chained at [] s = done s
walk zero chained at (b ∷ bs) s = done s
walk (suc n) chained at (b ∷ bs) s =
    cond (begins chained b)
    (controlled (walk n) at (b ∷ bs) (control_of chained (b ∷ bs)) s)
    (and_then (located at (character b s)) (walk n false (at + 1) bs))

-- every character and every control has a byte at least
abbrev pub text_from : Further
text_from chained at bs s = walk (length bs) chained at bs s

unfoldable pub text_of : List ℕ → Canvas → Out TextFault
text_of bs s = text_from false 0 bs s
