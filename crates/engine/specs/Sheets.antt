-- Lists of sheets and how they are counted.
--   Pair      how many pages are complete, and how many copies there are of the page after them
--   Before    the order of pairs: by pages, then by copies
--   after     a pair with one more sheet counted
--   onward    a pair with a list of sheets counted
--   tally     the pair of a list of sheets
--   Tallied   what the tally of a list says in words
use Rattle.std.specs.Prelude.{◌≡◌, ℕ, ◌+◌, ◌<◌, ◌≤◌, true, false, cond, ◌⊎◌, List, [], ◌∷◌, ◌++◌, length}
use Rattle.engine.specs.declared.sheet.Sheet.{Sheet}

pub record Pair : Type 0 where
  pub pages : ℕ
  pub copies : ℕ

abbrev pub pair : ℕ → ℕ → Pair
pair p c = record { pages = p; copies = c }

abbrev pub Before : Pair → Pair → Type 0
Before t u = (t.pages < u.pages) ⊎ ((t.pages ≡ u.pages) × (t.copies ≤ u.copies))

abbrev pub after : Pair → Sheet → Pair
after t s = cond s.last (pair (t.pages + 1) 0) (pair t.pages (t.copies + 1))

abbrev pub onward : Pair → List Sheet → Pair
onward t [] = t
onward t (s ∷ ss) = onward (after t s) ss

abbrev pub tally : List Sheet → Pair
tally ss = onward (pair 0 0) ss

-- how many of the sheets are last copies
abbrev pub lasts : List Sheet → ℕ
lasts [] = 0
lasts (s ∷ ss) = cond s.last 1 0 + lasts ss

-- none of the sheets is a last copy
abbrev pub NoLast : List Sheet → Type 0
NoLast [] = Unit {0}
NoLast (s ∷ ss) = (s.last ≡ false) × NoLast ss

-- a tally is how many sheets are last copies, and how many follow the latest of these
pub record Tallied (ss : List Sheet) : Type 0 where
  pub pages : (tally ss).pages ≡ lasts ss
  pub none : NoLast ss → (tally ss).copies ≡ length ss
  pub since : (xs : List Sheet) (s : Sheet) (ys : List Sheet) → ss ≡ xs ++ (s ∷ ys) → s.last ≡ true → NoLast ys → (tally ss).copies ≡ length ys
