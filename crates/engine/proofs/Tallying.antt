-- Laws of tallies.
use Rattle.std.proofs.Common.{◌≡◌, ◌+◌, ◌≤◌, Bool, true, false, cond, List, [], ◌∷◌, ◌++◌, length, sym, refl, ap, ◌∙◌, inl, inr, add-zero, zero-add, arith}
use Rattle.engine.specs.declared.sheet.Sheet.{Sheet}
use Rattle.engine.specs.Sheets.{Pair, pair, Before, after, onward, tally, lasts, NoLast, Tallied}

-- a last copy completes a page
pub after_last : (t : Pair) (x : Sheet) → x.last ≡ true → after t x ≡ pair (t.pages + 1) 0
after_last t x e = ap (λ b. cond b (pair (t.pages + 1) 0) (pair t.pages (t.copies + 1))) e

-- another copy is one more of the next page
pub after_other : (t : Pair) (x : Sheet) → x.last ≡ false → after t x ≡ pair t.pages (t.copies + 1)
after_other t x e = ap (λ b. cond b (pair (t.pages + 1) 0) (pair t.pages (t.copies + 1))) e

pub onward_append : (t : Pair) (xs ys : List Sheet) → onward t (xs ++ ys) ≡ onward (onward t xs) ys
onward_append t [] ys = refl
onward_append t (x ∷ xs) ys = onward_append (after t x) xs ys

pub after_pages : (t : Pair) (x : Sheet) → (t.pages ≤ (after t x).pages) × ((after t x).pages ≤ t.pages + 1)
after_pages t x =
    elim x.last as (λ b. (t.pages ≤ (cond b (pair (t.pages + 1) 0) (pair t.pages (t.copies + 1))).pages) × ((cond b (pair (t.pages + 1) 0) (pair t.pages (t.copies + 1))).pages ≤ t.pages + 1)) [ true ↦ (omega arith, omega arith) | false ↦ (omega arith, omega arith) ]

-- more sheets never make fewer pages
pub onward_pages : (t : Pair) (xs : List Sheet) → t.pages ≤ (onward t xs).pages
onward_pages t [] = omega arith
onward_pages t (x ∷ xs) = omega (arith, (after_pages t x).0, onward_pages (after t x) xs)

-- nor a pair that comes before
pub before_onward : (t : Pair) (xs : List Sheet) → Before t (onward t xs)
before_onward t [] = inr (refl, omega arith)
before_onward t (x ∷ xs) = go x.last (onward (after t x) xs) (before_onward (after t x) xs)
  where
    go : (b : Bool) (u : Pair) → Before (cond b (pair (t.pages + 1) 0) (pair t.pages (t.copies + 1))) u → Before t u
    go true u (inl h) = inl (omega arith)
    go true u (inr h) = inl (omega arith)
    go false u (inl h) = inl h
    go false u (inr h) = inr (h.0, omega arith)

onward_lasts : (t : Pair) (ss : List Sheet) → (onward t ss).pages ≡ t.pages + lasts ss
onward_lasts t [] = sym (add-zero t.pages)
onward_lasts t (s ∷ ss) = onward_lasts (after t s) ss ∙ go s.last
  where
    go : (b : Bool) → (cond b (pair (t.pages + 1) 0) (pair t.pages (t.copies + 1))).pages + lasts ss ≡ t.pages + (cond b 1 0 + lasts ss)
    go true = omega arith
    go false = omega arith

onward_others : (t : Pair) (ys : List Sheet) → NoLast ys → (onward t ys).copies ≡ t.copies + length ys
onward_others t [] h = sym (add-zero t.copies)
onward_others t (y ∷ ys) h =
    let e : (after t y).copies ≡ t.copies + 1 = ap (λ (u : Pair). u.copies) (after_other t y h.0) in
    let r = onward_others (after t y) ys h.1 in
    omega arith

-- a tally says what its words say
pub tallied : (ss : List Sheet) → Tallied ss
tallied ss = record {
  pages = onward_lasts (pair 0 0) ss ∙ zero-add (lasts ss);
  none = λ h. onward_others (pair 0 0) ss h ∙ zero-add (length ss);
  since = λ xs s ys e last h.
      let u = tally xs in
      let f : (after u s).copies ≡ 0 = ap (λ (v : Pair). v.copies) (after_last u s last) in
      let r : (onward (after u s) ys).copies ≡ (after u s).copies + length ys = onward_others (after u s) ys h in
      ap (λ l. (tally l).copies) e ∙ ap (λ (c : Pair). c.copies) (onward_append (pair 0 0) xs (s ∷ ys)) ∙ r ∙ ap (λ n. n + length ys) f ∙ zero-add (length ys);
}
