-- The grounds on which a command is refused: one table of their numbers, layers and exception codes.
--   layer_number  the number of a layer: 1 commands, 2 overlays, 3 text
--   Told          a number, the layer that finds it, and the exception code: sense bytes 0, 1 and 19
--   plain         a ground without an exception code of its own: 02, 00 and the number
--   told_of        the table
--   number_of      the number that a take tells
--   found_by       the layer that finds it
--   layer_of       sense byte 8: that layer's number
--   exception_of   sense bytes 0, 1 and 19
--   names_overlay  the overlay in sense bytes 9 and 10 is the one asked for: numbers 9 and 14 to 17
--   untouching    a refusal that uses no byte or changes nothing but a pending reply: 1, 2, 10 and 21; the others are
--                 faults
use Rattle.std.specs.Prelude.{◌≡◌, ℕ, Bool, true, false, cond, Ok, Err, Result, ◌==◌, nat_le, nat_lt}
use Rattle.refusal.specs.declared.Layer.{Layer}
use Rattle.refusal.specs.declared.Layer.TheVariants.{Commands, Overlays, Text}
use Rattle.refusal.specs.declared.Refusal.{Refusal}
use Rattle.refusal.specs.declared.Refusal.TheVariants.{Incomplete, AreaShort, LengthOutOfRange, UnknownCode, DataLength, NotAccepted, ControlLength, BadControl, Outside, IdOutOfRange, SixteenWait, NotAllowed, PagesSpent, CopiesSpent, AlreadyStored, NotStored, IncludesItself, TooDeep, StoreFull, PaperLost, MarksFull, ReplyPending}

abbrev pub layer_number : Layer → ℕ
layer_number Commands = 1
layer_number Overlays = 2
layer_number Text = 3

pub record Told : Type 0 where
  pub number : ℕ
  pub layer : Layer
  pub exception : ℕ × ℕ × ℕ

abbrev pub coded : ℕ → Layer → ℕ → ℕ → ℕ → Told
coded n l a b c = record { number = n; layer = l; exception = (a, b, c) }

abbrev pub plain : ℕ → Layer → Told
plain n l = coded n l 0x02 0x00 n

abbrev pub told_of : Refusal → Told
told_of Incomplete = plain 1 Commands
told_of AreaShort = plain 2 Commands
told_of LengthOutOfRange = plain 3 Commands
told_of UnknownCode = coded 4 Commands 0x80 0x01 0x00
told_of DataLength = plain 5 Commands
told_of NotAccepted = plain 6 Commands
told_of ControlLength = coded 7 Text 0x02 0x1E 0x01
told_of BadControl = plain 7 Text
told_of Outside = plain 8 Text
told_of IdOutOfRange = plain 9 Overlays
told_of SixteenWait = plain 10 Commands
told_of NotAllowed = plain 11 Commands
told_of PagesSpent = plain 12 Commands
told_of CopiesSpent = plain 13 Commands
told_of AlreadyStored = plain 14 Overlays
told_of NotStored = coded 15 Overlays 0x02 0x92 0x01
told_of IncludesItself = coded 16 Overlays 0x02 0x93 0x01
told_of TooDeep = coded 17 Overlays 0x02 0x97 0x01
told_of StoreFull = plain 18 Overlays
told_of PaperLost = coded 19 Commands 0x40 0x00 19
told_of MarksFull = plain 20 Text
told_of ReplyPending = plain 21 Commands

abbrev pub number_of : Refusal → ℕ
number_of r = (told_of r).number

abbrev pub found_by : Refusal → Layer
found_by r = (told_of r).layer

abbrev pub layer_of : Refusal → ℕ
layer_of r = layer_number (found_by r)

abbrev pub exception_of : Refusal → ℕ × ℕ × ℕ
exception_of r = (told_of r).exception

abbrev pub names_overlay : Refusal → Bool
names_overlay r = cond (number_of r == 9) true (cond (nat_le 14 (number_of r)) (nat_le (number_of r) 17) false)

abbrev pub untouching : Refusal → Bool
untouching r = cond (nat_lt (number_of r) 3) true (cond (number_of r == 10) true (number_of r == 21))

abbrev pub IsFault : Refusal → Type 0
IsFault r = untouching r ≡ false

-- what refuses a piece of work, if anything does, is a fault
abbrev pub Faulty : {A F : Type 0} → (F → Refusal) → Result A F → Type 0
Faulty of (Ok x) = Unit {0}
Faulty of (Err f) = IsFault (of f)
