-- The words of a line.
--   word_of    the letters before the first space: all of them where there is none
--   rest_of    what stands after the first space, where there is one
--   skipped   whether a line says nothing: it is empty, or it begins with #
use Rattle.std.specs.Prelude.{ℕ, Bool, true, cond, List, [], ◌∷◌, Some, None, Option, ◌==◌}

abbrev pub word_of : List ℕ → List ℕ
word_of [] = []
word_of (b ∷ bs) = cond (b == 32) [] (b ∷ word_of bs)

abbrev pub rest_of : List ℕ → Option (List ℕ)
rest_of [] = None
rest_of (b ∷ bs) = cond (b == 32) (Some bs) (rest_of bs)

abbrev pub skipped : List ℕ → Bool
skipped [] = true
skipped (b ∷ bs) = b == 35
