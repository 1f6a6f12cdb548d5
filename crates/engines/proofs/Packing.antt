-- Records behind one another in bytes.
use Rattle.std.proofs.Common.{◌≡◌, ℕ, zero, suc, ◌+◌, ◌*◌, ◌≤◌, List, [], ◌∷◌, ◌++◌, length, take, drop, sym, refl, ap, ◌∙◌, add-one, arith}
use Rattle.std.proofs.lemmas.List.{take-take, take_at, drop-take, drop_at, drop-drop, length-take-le}
use Rattle.engines.specs.Records.{sheet_of, sheets_in}

-- the sheets hang on the bytes of their records alone
sheets_same : (n : ℕ) (xs ys : List ℕ) → take (8 * n) xs ≡ take (8 * n) ys → sheets_in n xs ≡ sheets_in n ys
sheets_same zero xs ys e = refl
sheets_same (suc n) xs ys e =
    let m : 8 * suc n ≡ 8 + 8 * n = omega arith in
    let le : 8 ≤ 8 * suc n = omega arith in
    let all : take (8 + 8 * n) xs ≡ take (8 + 8 * n) ys = ap (λ k. take k xs) (sym m) ∙ (e ∙ ap (λ k. take k ys) m) in
    let front : take 8 xs ≡ take 8 ys = sym (take-take 8 (8 * suc n) xs le) ∙ (ap (take 8) e ∙ take-take 8 (8 * suc n) ys le) in
    let back : take (8 * n) (drop 8 xs) ≡ take (8 * n) (drop 8 ys) = sym (drop-take 8 (8 * n) xs) ∙ (ap (drop 8) all ∙ drop-take 8 (8 * n) ys) in
    ap (λ b. sheet_of b ∷ sheets_in n (drop 8 xs)) front ∙ ap (λ ss. sheet_of (take 8 ys) ∷ ss) (sheets_same n (drop 8 xs) (drop 8 ys) back)

-- the record behind them tells the next sheet
sheets_next : (n : ℕ) (xs : List ℕ) → sheets_in (suc n) xs ≡ sheets_in n xs ++ (sheet_of (take 8 (drop (8 * n) xs)) ∷ [])
sheets_next zero xs = refl
sheets_next (suc n) xs =
    let m : 8 + 8 * n ≡ 8 * suc n = omega arith in
    let on : drop (8 * n) (drop 8 xs) ≡ drop (8 * suc n) xs = drop-drop (8 * n) 8 xs ∙ ap (λ k. drop k xs) m in
    ap (λ ss. sheet_of (take 8 xs) ∷ ss) (sheets_next n (drop 8 xs) ∙ ap (λ ys. sheets_in n (drop 8 xs) ++ (sheet_of (take 8 ys) ∷ [])) on)

-- one more record is one more sheet
pub sheets_push : (n : ℕ) (xs ys bs : List ℕ) → 8 * n ≤ length xs → take (8 * n + 8) ys ≡ take (8 * n) xs ++ bs → sheets_in (n + 1) ys ≡ sheets_in n xs ++ (sheet_of bs ∷ [])
sheets_push n xs ys bs le e =
    let long : length (take (8 * n) xs) ≡ 8 * n = length-take-le (8 * n) xs le in
    let front : take (8 * n) ys ≡ take (8 * n) xs = sym (take-take (8 * n) (8 * n + 8) ys (omega arith)) ∙ (ap (take (8 * n)) e ∙ take_at (take (8 * n) xs) bs (8 * n) long) in
    let back : take 8 (drop (8 * n) ys) ≡ bs = sym (drop-take (8 * n) 8 ys) ∙ (ap (drop (8 * n)) e ∙ drop_at (take (8 * n) xs) bs (8 * n) long) in
    rw add-one (sheets_next n ys ∙ ap (λ ss. ss ++ (sheet_of (take 8 (drop (8 * n) ys)) ∷ [])) (sheets_same n ys xs front) ∙ ap (λ b. sheets_in n xs ++ (sheet_of b ∷ [])) back)
