-- A pattern repeated.
--   copies    the pattern, so many times whole
--   cycled    so many characters of the pattern repeated: the last repetition is cut
use Rattle.std.specs.Prelude.{ℕ, zero, suc, List, [], ◌++◌, take}

unfoldable pub copies : ℕ → List ℕ → List ℕ
copies zero p = []
copies (suc n) p = p ++ copies n p

-- n characters are cut from n repetitions: of a pattern that is not empty these are enough
abbrev pub cycled : ℕ → List ℕ → List ℕ
cycled n p = take n (copies n p)
