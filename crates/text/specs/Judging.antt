-- How a text is judged, in its own words: it is read from left to right, and ends at its end or at a ground.
--   Reach     from one place of a text to a later one: characters were placed and controls obeyed
--   Accepts   the text is read to its end, and the last control has no successor to wait for
--   Refuses   the text is read up to the fault's place, and there stands a ground for this refusal; what was placed
--             before stands
--   Judged    a text is accepted, or else refused on a ground
--   Met       a ground stands at an offset that the text is read up to
--   GroundsDecide   a text is refused where a ground is met, and accepted where none is
-- A place is: whether a control is chained there, the offset, the bytes from there on, and the canvas reached.
use Rattle.std.specs.Prelude.{◌≡◌, ℕ, ◌+◌, ◌<◌, Bool, true, false, List, [], ◌∷◌, length, drop, Ok, Err}
use Rattle.refusal.specs.declared.Refusal.{Refusal}
use Rattle.text.specs.declared.control.Control.{Control}
use Rattle.text.specs.declared.fault.TextFault.{TextFault}
use Rattle.text.specs.Canvases.{Canvas, Out, done, Grows}
use Rattle.text.specs.Steps.{character}
use Rattle.text.specs.Runs.{fault}
use Rattle.text.specs.Controls.{control_of}
use Rattle.text.specs.Effects.{obeyed}
use Rattle.text.specs.Texts.{begins, text_of}
use Rattle.text.specs.Grounds.{Ground}

-- the later place comes first
pub data Reach (c' : Bool) (at' : ℕ) (bs' : List ℕ) (s' : Canvas) : Bool → ℕ → List ℕ → Canvas → Type 0 where
  here : Reach c' at' bs' s' c' at' bs' s'
  placed : {c : Bool} {at b : ℕ} {bs : List ℕ} {s t : Canvas} → begins c b ≡ false → character b s ≡ done t → Reach c' at' bs' s' false (at + 1) bs t → Reach c' at' bs' s' c at (b ∷ bs) s
  controlled : {c : Bool} {at : ℕ} {b : ℕ} {bs : List ℕ} {s t : Canvas} (h : Control) → begins c b ≡ true → control_of c (b ∷ bs) ≡ Ok h → obeyed h (b ∷ bs) s ≡ done t → Reach c' at' bs' s' h.chained (at + h.end) (drop h.end (b ∷ bs)) t → Reach c' at' bs' s' c at (b ∷ bs) s

abbrev pub Accepts : Bool → ℕ → List ℕ → Canvas → Canvas → Type 0
Accepts c at bs s left = Reach false (at + length bs) [] left c at bs s

pub record Refuses (c : Bool) (at : ℕ) (bs : List ℕ) (s : Canvas) (f : TextFault) (left : Canvas) : Type 0 where
  -- how far on the fault's place is
  pub away : ℕ
  pub offset : f.offset ≡ at + away
  pub inside : away < length bs
  pub chained : Bool
  pub reached : Canvas
  pub through : Reach chained f.offset (drop away bs) reached c at bs s
  pub ground : Ground chained (drop away bs) reached f.refusal
  pub stands : Grows reached left

abbrev pub Judged : Bool → ℕ → List ℕ → Canvas → Out TextFault → Type 0
Judged c at bs s o = elim o.result [ Ok x ↦ Accepts c at bs s o.left | Err f ↦ Refuses c at bs s f o.left ]

-- a ground is met at an offset of a text
pub record Met (bs : List ℕ) (s : Canvas) (at : ℕ) : Type 0 where
  pub chained : Bool
  pub rest : List ℕ
  pub reached : Canvas
  pub refusal : Refusal
  pub through : Reach chained at rest reached false 0 bs s
  pub some : 0 < length rest
  pub ground : Ground chained rest reached refusal

pub record GroundsDecide : Type 0 where
  -- where a ground is met the text is refused, at that place
  pub refused : (bs : List ℕ) (s : Canvas) (at : ℕ) → Met bs s at → (r : Refusal) × ((text_of bs s).result ≡ Err (fault r at))
  -- where none is met it is accepted
  pub accepted : (bs : List ℕ) (s : Canvas) → ((at : ℕ) → Met bs s at → ⊥) → (text_of bs s).result ≡ Ok tt
