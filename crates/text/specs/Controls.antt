-- The header of a control: its length, its type and where its parameters lie.
--   pair         a type is an even number or the odd one after it
--   kind_of       the kind that a type names; the odd type is the even one's, chained
--   kind_named   the same for a text that names the type: another one is refused
--   sized        a length that a kind may have: the length byte counts itself, the type and the parameters
--   named        the header of a control of a kind: its length is one that the kind may have
--   headed       the header of a control whose length is the first of the bytes: the length byte is there, tells two
--                at least and does not pass the bytes
--   introduced   the same behind the introducer X'2B' X'D3'
--   control_of    the header of a control that is chained, or else introduced
--   parameters   the parameters of a control at the front of the bytes
--   Whole        a control lies within so many bytes, with a length that its kind may have
-- A length byte that is absent, below 2, past the bytes or, for a known type, not the type's is one ground
-- (ControlLength); no introducer and an unknown type are another (BadControl).
use Rattle.std.specs.Prelude.{◌≡◌, ℕ, ◌+◌, ◌-◌, ◌%◌, ◌<◌, ◌≤◌, Bool, true, false, cond, ◌||◌, List, [], ◌∷◌, length, take, drop, Some, None, Ok, Err, Option, Result, ok_or, ◌==◌, nat_le, nat_lt}
use Rattle.refusal.specs.declared.Refusal.{Refusal}
use Rattle.refusal.specs.declared.Refusal.TheVariants.{ControlLength, BadControl}
use Rattle.text.specs.declared.axis.Axis.TheVariants.{Inline, Baseline}
use Rattle.text.specs.declared.control.Kind.{Kind}
use Rattle.text.specs.declared.control.Kind.TheVariants.{Absolute, Relative, SetFont, Transparent, Repeat, Rule}
use Rattle.text.specs.declared.control.Control.{Control}

abbrev pub pair : ℕ → ℕ → Bool
pair type even = type == even || type == even + 1

abbrev pub kind_of : ℕ → Option Kind
kind_of type =
    cond (pair type 0xC6) (Some (Absolute Inline))
    (cond (pair type 0xC8) (Some (Relative Inline))
    (cond (pair type 0xD2) (Some (Absolute Baseline))
    (cond (pair type 0xD4) (Some (Relative Baseline))
    (cond (pair type 0xF0) (Some SetFont)
    (cond (pair type 0xDA) (Some Transparent)
    (cond (pair type 0xEE) (Some Repeat)
    (cond (pair type 0xE4) (Some (Rule Inline))
    (cond (pair type 0xE6) (Some (Rule Baseline)) None))))))))

abbrev pub kind_named : ℕ → Result Kind Refusal
kind_named type = ok_or (kind_of type) BadControl

abbrev pub sized : Kind → ℕ → Bool
sized (Absolute axis) size = size == 4
sized (Relative axis) size = size == 4
sized SetFont size = size == 3
sized Transparent size = nat_le 2 size
sized Repeat size = nat_le 4 size
sized (Rule axis) size = size == 4 || size == 7

abbrev pub control : Kind → Bool → ℕ → ℕ → Control
control k c from to = record { kind = k; chained = c; start = from; end = to }

-- so many bytes lie before the length byte
abbrev pub named : ℕ → Option Kind → ℕ → ℕ → Result Control Refusal
named before None size type = Err BadControl
named before (Some k) size type =
    cond (sized k size) (Ok (control k (type % 2 == 1) (before + 2) (before + size))) (Err ControlLength)

abbrev pub headed : ℕ → List ℕ → Result Control Refusal
headed before [] = Err ControlLength
headed before (size ∷ []) = Err ControlLength
headed before (size ∷ type ∷ bs) =
    cond (nat_lt size 2 || nat_lt (length (size ∷ type ∷ bs)) size) (Err ControlLength) (named before (kind_of type) size type)

abbrev pub introduced : List ℕ → Result Control Refusal
introduced [] = Err BadControl
introduced (a ∷ []) = Err BadControl
introduced (a ∷ b ∷ bs) = cond (b == 0xD3) (headed 2 bs) (Err BadControl)

abbrev pub control_of : Bool → List ℕ → Result Control Refusal
control_of true bs = headed 0 bs
control_of false bs = introduced bs

abbrev pub parameters : Control → List ℕ → List ℕ
parameters h bs = take (h.end - h.start) (drop h.start bs)

pub record Whole (n : ℕ) (h : Control) : Type 0 where
  pub some : 0 < h.end
  pub starts : h.start ≤ h.end
  pub ends : h.end ≤ n
  pub sizes : sized h.kind (h.end - h.start + 2) ≡ true
