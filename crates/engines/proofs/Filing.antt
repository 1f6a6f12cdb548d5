-- What it makes of the bytes that a record is written behind the others.
use Rattle.std.proofs.Common.{◌≡◌, ℕ, ◌+◌, ◌*◌, ◌/◌, ◌<◌, ◌≤◌, List, [], ◌∷◌, ◌++◌, length, take, drop, vec_items, vec_len, Vec, sym, refl, ap, ◌∙◌, arith}
use borrow.Rule.Slice.PartMut.{put_mid}
use Rattle.std.specs.Vec.{with_items, with_items_from}
use Rattle.std.specs.List.{flat_map}
use Rattle.std.proofs.lemmas.List.{flat_map_more, with_items_is, length-append, length-take-le, length-drop}
use Rattle.std.proofs.lemmas.Slice.{take-put_mid}
use Rattle.engine.specs.declared.sheet.Sheet.{Sheet}
use Rattle.engines.specs.Records.{bytes_of, sheet_of, sheets_in}
use Rattle.engines.proofs.Packing.{sheets_push}

-- a part that was written over by a list
written_over : {Z : Type 0} (v : Vec ℕ Z) (at k : ℕ) (xs ys bs : List ℕ) → k ≡ length bs → xs ≡ vec_items v → ys ≡ bs → with_items v (put_mid at k xs ys) ≡ with_items_from v at bs
written_over v at k xs ys bs n e f =
    ap (with_items v) (ap (λ m. put_mid at m xs ys) n ∙ ap (λ zs. put_mid at (length bs) zs ys) e ∙ ap (put_mid at (length bs) (vec_items v)) f)

over_long : (xs bs : List ℕ) (at : ℕ) → at + length bs ≤ length xs → length (put_mid at (length bs) xs bs) ≡ length xs
over_long xs bs at le =
    let a = length-take-le at xs (omega arith) in
    let b = length-append (take at xs) (bs ++ drop (length bs) (drop at xs)) in
    let c = length-append bs (drop (length bs) (drop at xs)) in
    let d = length-drop (length bs) (drop at xs) in
    let e = length-drop at xs in
    omega arith

-- the bytes w are the bytes v with the record of s behind n others
pub record Behind {Z : Type 0} (n : ℕ) (v w : Vec ℕ Z) (s : Sheet) : Type 0 where
  pub within : n + 1 ≤ vec_len w / 8
  pub told : take (8 * (n + 1)) (vec_items w) ≡ flat_map bytes_of (sheets_in (n + 1) (vec_items w))
  pub sheets : sheets_in (n + 1) (vec_items w) ≡ sheets_in n (vec_items v) ++ (s ∷ [])
  pub bytes : w ≡ with_items_from v (8 * n) (bytes_of s)

module _ {Z : Type 0} (n : ℕ) (v : Vec ℕ Z) (s : Sheet) (lt : n < vec_len v / 8) (told : take (8 * n) (vec_items v) ≡ flat_map bytes_of (sheets_in n (vec_items v))) where
  behind : (w : Vec ℕ Z) → sheet_of (bytes_of s) ≡ s → w ≡ with_items_from v (8 * n) (bytes_of s) → Behind n v w s
  behind w back e =
      let xs = vec_items v in
      let len : vec_len v ≡ length xs = v.ok.0 in
      let long : vec_len w ≡ vec_len v = ap vec_len e in
      let fits : 8 * n + 8 ≤ length xs = omega arith in
      let same : vec_items w ≡ put_mid (8 * n) 8 xs (bytes_of s) = ap vec_items e ∙ with_items_is v (put_mid (8 * n) 8 xs (bytes_of s)) (over_long xs (bytes_of s) (8 * n) fits ∙ sym len) in
      let front : take (8 * n + 8) (vec_items w) ≡ take (8 * n) xs ++ bytes_of s = ap (take (8 * n + 8)) same ∙ take-put_mid (8 * n) 8 xs (bytes_of s) (8 * n + 8) refl (omega arith) in
      let more : sheets_in (n + 1) (vec_items w) ≡ sheets_in n xs ++ (s ∷ []) = sheets_push n xs (vec_items w) (bytes_of s) (omega arith) front ∙ ap (λ t. sheets_in n xs ++ (t ∷ [])) back in
      let m : 8 * (n + 1) ≡ 8 * n + 8 = omega arith in
      record {
        within = omega arith;
        told = ap (λ k. take k (vec_items w)) m ∙ front ∙ ap (λ l. l ++ bytes_of s) told ∙ flat_map_more bytes_of [] (sheets_in n xs) s ∙ ap (flat_map bytes_of) (sym more);
        sheets = more;
        bytes = e;
      }

  -- the bytes xs were written over by ys at the place of the next record, and ys is the record of s
  pub files : (at k : ℕ) (xs ys packed : List ℕ) → at ≡ 8 * n → k ≡ 8 → xs ≡ vec_items v → ys ≡ packed → packed ≡ bytes_of s → sheet_of packed ≡ s → Behind n v (with_items v (put_mid at k xs ys)) s
  files at k xs ys packed place e all copied is back =
      behind _ (ap sheet_of (sym is) ∙ back) (ap (λ a. with_items v (put_mid a k xs ys)) place ∙ written_over v (8 * n) k xs ys (bytes_of s) e all (copied ∙ is))
