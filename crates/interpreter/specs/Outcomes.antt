-- What a take tells.
--   Outcome       accepted, or refused on a ground
--   number_told   0 for accepted, else the refusal's number
--   told          the bytes used, the outcome, the reply's length and the marks on the open or latest page
use Rattle.std.specs.Prelude.{ℕ, Ok, Err, Result}
use Rattle.refusal.specs.declared.Refusal.{Refusal}
use Rattle.refusal.specs.Refusals.{number_of}
use Rattle.interpreter.specs.declared.taken.Taken.{Taken}

abbrev pub Outcome : Type 0
Outcome = Result (Unit {0}) Refusal

abbrev pub number_told : Outcome → ℕ
number_told (Ok u) = 0
number_told (Err r) = number_of r

abbrev pub told : ℕ → Outcome → ℕ → ℕ → Taken
told used outcome size marks = record { used = used; outcome = outcome; reply = size; marks = marks }
