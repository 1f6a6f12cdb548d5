-- What holds of every text.
--   Inside      a fault's offset lies inside so many bytes
--   Unbounded   the bound on the steps never cuts a text short: a text is its first character or control and then the
--               text that is left, with no bound in sight
--   Repeats     a pattern repeated has as many characters as are asked for, and each is the pattern's at its place
--               counted from the last repetition's beginning
use Rattle.std.specs.Prelude.{◌≡◌, ℕ, ◌+◌, ◌%◌, ◌<◌, Bool, false, cond, List, [], ◌∷◌, length, Ok, Err, Result, slice_index}
use Rattle.text.specs.declared.fault.TextFault.{TextFault}
use Rattle.text.specs.Canvases.{Canvas, done, and_then}
use Rattle.text.specs.Steps.{character}
use Rattle.text.specs.Runs.{located}
use Rattle.text.specs.Cycles.{cycled}
use Rattle.text.specs.Controls.{control_of}
use Rattle.text.specs.Texts.{begins, controlled, text_from, text_of}

abbrev pub Inside : ℕ → Result (Unit {0}) TextFault → Type 0
Inside n (Ok x) = Unit {0}
Inside n (Err f) = f.offset < n

pub record Unbounded : Type 0 where
  pub whole : (bs : List ℕ) (s : Canvas) → text_of bs s ≡ text_from false 0 bs s
  pub end : (chained : Bool) (at : ℕ) (s : Canvas) → text_from chained at [] s ≡ done s
  pub next : (chained : Bool) (at b : ℕ) (bs : List ℕ) (s : Canvas) → text_from chained at (b ∷ bs) s ≡ cond (begins chained b) (controlled text_from at (b ∷ bs) (control_of chained (b ∷ bs)) s) (and_then (located at (character b s)) (text_from false (at + 1) bs))

pub record Repeats : Type 0 where
  pub many : (n : ℕ) (p : List ℕ) → 0 < length p → length (cycled n p) ≡ n
  pub each : (n : ℕ) (p : List ℕ) (k : ℕ) → 0 < length p → k < n → slice_index (cycled n p) k ≡ slice_index p (k % length p)
