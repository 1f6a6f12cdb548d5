-- What a search through the table finds: the first entry with the ID.
use Rattle.std.proofs.Common.{◌≡◌, ℕ, zero, suc, ◌+◌, ◌<◌, ◌≤◌, ◌^◌, Bool, true, false, eqb, List, [], ◌∷◌, length, get_or, map, sum, take, Some, None, Option, sym, refl, ap, ◌∙◌, subst, arith}
use Rattle.std.specs.List.{position, position_or_len, remove}
use Rattle.std.proofs.lemmas.List.{length-take-le, get_or-take}
use Rattle.std.proofs.lemmas.Bool.{cond-true, cond-false, eqb-true}
use Rattle.std.proofs.lemmas.Bool.Decides.{nat_tests}
use Rattle.std.proofs.lemmas.List.Sums.{sum_by-cons, sum_by-take-le, sum_by_more_le, sum_by-remove, sum-map, fails_before_first}
use Rattle.std.proofs.lemmas.List.Quantifiers.{position-Some}
use Rattle.store.specs.declared.entry.Entry.{Entry}
use Rattle.store.specs.declared.entry.Found.{Found}
use Rattle.store.specs.Entries.{entry, found, sizes, found_from, found_in}

abbrev pub size_of : Entry → ℕ
size_of e = e.size

abbrev pub has_id : ℕ → Entry → Bool
has_id id e = eqb e.id id

-- the entries before a place have no more bytes than all
pub sum_fits : (es : List Entry) (at : ℕ) → sizes es < 2 ^ 64 → sum (map size_of (take at es)) < 2 ^ 64
sum_fits es at h = omega (arith, sum-map size_of (take at es), sum_by-take-le size_of es at)

found_first : (es : List Entry) (a s id at : ℕ) (d : Entry) → at < length es → has_id id (get_or es at d) ≡ true → ((k : ℕ) → k < at → has_id id (get_or es k d) ≡ false) → found_from a s es id ≡ Some (found (a + at) (s + sizes (take at es)) (get_or es at d).size)
found_first [] a s id at d h is before = absurd (omega arith)
found_first (x ∷ xs) a s id zero d h is before =
    let i : a ≡ a + 0 = omega arith in
    let j : s ≡ s + 0 = omega arith in
    cond-true _ _ _ is ∙ (λ k. Some (found (i k) (j k) x.size))
found_first (x ∷ xs) a s id (suc at) d h is before =
    let i : a + 1 + at ≡ a + suc at = omega arith in
    let j : s + x.size + sizes (take at xs) ≡ s + sizes (x ∷ take at xs) = omega (arith, sum_by-cons size_of x (take at xs)) in
    cond-false _ _ _ (before 0 (omega arith))
    ∙ found_first xs (a + 1) (s + x.size) id at d (omega arith) is (λ k l. before (suc k) (omega arith))
    ∙ (λ k. Some (found (i k) (j k) (get_or xs at d).size))

not_found : (es : List Entry) (a s id : ℕ) (d : Entry) → ((k : ℕ) → k < length es → has_id id (get_or es k d) ≡ false) → found_from a s es id ≡ None
not_found [] a s id d none = refl
not_found (x ∷ xs) a s id d none = cond-false _ _ _ (none 0 (omega arith)) ∙ not_found xs (a + 1) (s + x.size) id d (λ k l. none (suc k) (omega arith))

-- by what the library's search answers
pub found_by : (es : List Entry) (id at n : ℕ) → position (has_id id) es ≡ Some at → n ≡ sum (map size_of (take at es)) → Some (found at n (get_or es at (entry 0 0)).size) ≡ found_in es id
found_by es id at n e is =
    let h = position-Some (has_id id) es at (entry 0 0) e in
    let i : at ≡ 0 + at = omega arith in
    let j : n ≡ 0 + sizes (take at es) = omega (arith, sum-map size_of (take at es)) in
    (λ k. Some (found (i k) (j k) (get_or es at (entry 0 0)).size)) ∙ sym (found_first es 0 0 id at (entry 0 0) h.0 h.1 h.2)

pub not_found_by : (es : List Entry) (id : ℕ) → position (has_id id) es ≡ None → None ≡ found_in es id
not_found_by es id e =
    let past : length es ≤ position_or_len (has_id id) es = grind (arith, nat_tests) in
    sym (not_found es 0 0 id (entry 0 0) (λ k l. fails_before_first (has_id id) es k (entry 0 0) (omega arith)))

-- what was found is an entry of the table, and none before it has the ID
pub record Stands (es : List Entry) (id : ℕ) (f : Found) : Type 0 where
  pub inside : f.at < length es
  pub start : f.start ≡ sizes (take f.at es)
  pub size : f.size ≡ (get_or es f.at (entry 0 0)).size
  pub here : (get_or es f.at (entry 0 0)).id ≡ id
  pub before : found_in (take f.at es) id ≡ None

pub stands : (es : List Entry) (id : ℕ) (f : Found) → found_in es id ≡ Some f → Stands es id f
stands es id f e = go (position (has_id id) es) refl
  where
    go : (o : Option ℕ) → position (has_id id) es ≡ o → Stands es id f
    go None p = let no : None ≡ Some f = not_found_by es id p ∙ e in absurd cc
    go (Some at) p =
        let h = position-Some (has_id id) es at (entry 0 0) p in
        let yes = found_by es id at _ p (sym (sum-map size_of (take at es))) ∙ e in
        let is : found at (sizes (take at es)) (get_or es at (entry 0 0)).size ≡ f = cc in
        let long : length (take at es) ≡ at = length-take-le at es (omega (arith, h.0)) in
        subst (Stands es id) is (record {
          inside = h.0;
          start = refl;
          size = refl;
          here = eqb-true _ _ h.1;
          before = not_found (take at es) 0 0 id (entry 0 0) (λ k l. ap (has_id id) (get_or-take at es k (entry 0 0) (omega arith)) ∙ h.2 k (omega arith));
        })

module _ (es : List Entry) (id : ℕ) (f : Found) (e : found_in es id ≡ Some f) where
  pub size_within : f.start + f.size ≤ sizes es
  size_within = let h = stands es id f e in omega (arith, sum_by_more_le size_of es f.at (entry 0 0) h.inside)

  pub size_out : sizes (remove es f.at) + f.size ≡ sizes es
  size_out = let h = stands es id f e in ap (λ n. sizes (remove es f.at) + n) h.size ∙ sum_by-remove size_of es f.at (entry 0 0) h.inside
