-- Characters in a row.
--   fault        a refusal with its offset
--   located      work whose refusal is told with an offset
--   characters   the characters of a control, one after another
--   run          plain characters from an offset on: each is refused at its own offset
use Rattle.std.specs.Prelude.{ℕ, ◌+◌, List, [], ◌∷◌, Ok, Err, Result}
use Rattle.refusal.specs.declared.Refusal.{Refusal}
use Rattle.text.specs.declared.fault.TextFault.{TextFault}
use Rattle.text.specs.Canvases.{Canvas, Out, out, done, and_then}
use Rattle.text.specs.Steps.{character}

abbrev pub fault : Refusal → ℕ → TextFault
fault r at = record { refusal = r; offset = at }

abbrev pub located_in : {A : Type 0} → ℕ → Result A Refusal → Result A TextFault
located_in at (Ok x) = Ok x
located_in at (Err r) = Err (fault r at)

abbrev pub located : ℕ → Out Refusal → Out TextFault
located at o = out o.left (located_in at o.result)

unfoldable pub characters : List ℕ → Canvas → Out Refusal
characters [] s = done s
characters (c ∷ cs) s = and_then (character c s) (characters cs)

unfoldable pub run : ℕ → List ℕ → Canvas → Out TextFault
run at [] s = done s
run at (c ∷ cs) s = and_then (located at (character c s)) (run (at + 1) cs)
