-- A tally that is counted sheet by sheet.
use Rattle.std.proofs.Common.{◌≡◌, ℕ, ◌+◌, ◌<◌, ◌≤◌, Bool, true, false, cond, ltb, List, ◌∷◌, length, get_or, drop, Some, None, Option, sym, refl, ap, ◌∙◌}
use Rattle.std.specs.Option.{option_map}
use Rattle.std.proofs.lemmas.List.{at_drop_more, at_drop_all}
use Rattle.std.proofs.lemmas.Bool.{lt-ltb}
use Rattle.engine.specs.declared.sheet.Sheet.{Sheet}
use Rattle.engine.specs.declared.count.Tally.{Tally}
use Rattle.engine.specs.Sheets.{Pair, after}
use Rattle.engine.specs.Tallies.{counted, fits, plus_of, tally_in}

-- the rest of the tally, once a sheet was counted or not
abbrev pub on_from : List Sheet → Option Pair → Option Pair
on_from ss None = None
on_from ss (Some t) = tally_in t ss

one_more : (t : Pair) (s : Sheet) (ss : List Sheet) → tally_in t (s ∷ ss) ≡ on_from ss (plus_of t s)
one_more t s ss = go (fits t s)
  where
    go : (b : Bool) → cond b (tally_in (after t s) ss) None ≡ on_from ss (cond b (Some (after t s)) None)
    go true = refl
    go false = refl

-- what is left to count after the sheet at i
pub counts_on : (ss : List Sheet) (i : ℕ) (d : Sheet) (t : Pair) (o : Option Tally) (whole : Option Pair) → i < length ss → option_map counted o ≡ plus_of t (get_or ss i d) → tally_in t (drop i ss) ≡ whole → on_from (drop (i + 1) ss) (option_map counted o) ≡ whole
counts_on ss i d t o whole h e inv = ap (on_from (drop (i + 1) ss)) e ∙ sym (one_more t (get_or ss i d) (drop (i + 1) ss)) ∙ sym (at_drop_more (tally_in t) ss i d h) ∙ inv

pub counted_all : (ss : List Sheet) (i : ℕ) (t : Pair) (whole : Option Pair) → length ss ≤ i → tally_in t (drop i ss) ≡ whole → Some t ≡ whole
counted_all ss i t whole h inv = sym (at_drop_all (tally_in t) ss i h) ∙ inv

-- the tally with one more sheet is the one after it
pub plus_is : (t u : Pair) (s : Sheet) → Some u ≡ plus_of t s → u ≡ after t s
plus_is t u s e = go (fits t s) e
  where
    go : (b : Bool) → Some u ≡ cond b (Some (after t s)) None → u ≡ after t s
    go true h = cc
    go false h = absurd cc

-- and it is there where the counts can grow
pub plus_fits : (t : Pair) (s : Sheet) → None ≡ plus_of t s → fits t s ≡ false
plus_fits t s e = go (fits t s) refl e
  where
    go : (b : Bool) → fits t s ≡ b → None ≡ cond b (Some (after t s)) None → b ≡ false
    go true f h = absurd cc
    go false f h = refl

pub fits_is : (t : Pair) (s : Sheet) → (s.last ≡ true → t.pages < 65535) → t.copies < 255 → fits t s ≡ true
fits_is t s p c = go s.last refl
  where
    go : (b : Bool) → s.last ≡ b → cond b (ltb t.pages 65535) (ltb t.copies 255) ≡ true
    go true e = lt-ltb t.pages 65535 (p e)
    go false e = lt-ltb t.copies 255 c
