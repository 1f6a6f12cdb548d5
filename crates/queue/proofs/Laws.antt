-- What the operations leave of the queue itself, and of the places behind it.
use Rattle.std.proofs.Common.{◌≡◌, ℕ, ◌+◌, ◌-◌, ◌<◌, ◌≤◌, true, cond, List, ◌∷◌, ◌++◌, length, get_or, take, drop, Some, sym, ap, ◌∙◌, append_assoc, arith, length-append}
use borrow.Rule.Slice.PartMut.{put_mid}
use Rattle.std.proofs.lemmas.List.{take-take, drop-drop, take_at, length-take-le, length-drop, drop_more, get_or-take}
use Rattle.std.proofs.lemmas.Slice.{between_is}
use Rattle.std.proofs.lemmas.Bool.{lt-ltb, le-leb, cond-true}
use Rattle.queue.specs.Queues.{gap_in, closed, head_of, first_of}

pub gap_is : {A : Type 0} (xs : List A) (n at : ℕ) → at < n → n ≤ length xs → gap_in xs n at ≡ true
gap_is xs n at l le = cond-true _ _ _ (lt-ltb at n l) ∙ le-leb n (length xs) le

-- a turn of the part by one place closes the gap
pub turned : {A : Type 0} (xs ys : List A) (n at : ℕ) → at < n → n ≤ length xs → ys ≡ drop 1 (take (n - at) (drop at xs)) ++ take 1 (take (n - at) (drop at xs)) → put_mid at (n - at) xs ys ≡ closed xs n at
turned xs ys n at l le e =
    let k : at + (n - at) ≡ n = omega arith in
    let front : drop 1 (take (n - at) (drop at xs)) ≡ drop (at + 1) (take n xs) = ap (drop 1) (between_is xs at n) ∙ drop-drop 1 at (take n xs) in
    let one : take 1 (take (n - at) (drop at xs)) ≡ take 1 (drop at xs) = take-take 1 (n - at) (drop at xs) (omega arith) in
    let back : drop (n - at) (drop at xs) ≡ drop n xs = drop-drop (n - at) at xs ∙ ap (λ m. drop m xs) k in
    ap (λ zs. take at xs ++ (zs ++ drop (n - at) (drop at xs))) (e ∙ ap (λ zs. zs ++ take 1 (take (n - at) (drop at xs))) front ∙ ap (λ zs. drop (at + 1) (take n xs) ++ zs) one)
    ∙ ap (λ zs. take at xs ++ ((drop (at + 1) (take n xs) ++ take 1 (drop at xs)) ++ zs)) back
    ∙ ap (λ zs. take at xs ++ zs) (append_assoc (drop (at + 1) (take n xs)) (take 1 (drop at xs)) (drop n xs))

long_front : {A : Type 0} (xs : List A) (n at : ℕ) → at < n → n ≤ length xs → length (take at xs ++ drop (at + 1) (take n xs)) ≡ n - 1
long_front xs n at l le =
    let a : length (take at xs) ≡ at = length-take-le at xs (omega arith) in
    let b : length (take n xs) ≡ n = length-take-le n xs le in
    let c : length (drop (at + 1) (take n xs)) ≡ length (take n xs) - (at + 1) = length-drop (at + 1) (take n xs) in
    let d = length-append (take at xs) (drop (at + 1) (take n xs)) in
    omega arith

-- the queue is left without the element
pub closed_queue : {A : Type 0} (xs : List A) (n at : ℕ) → at < n → n ≤ length xs → take (n - 1) (closed xs n at) ≡ take at xs ++ drop (at + 1) (take n xs)
closed_queue xs n at l le =
    ap (take (n - 1)) (sym (append_assoc (take at xs) (drop (at + 1) (take n xs)) (take 1 (drop at xs) ++ drop n xs)))
    ∙ take_at (take at xs ++ drop (at + 1) (take n xs)) (take 1 (drop at xs) ++ drop n xs) (n - 1) (long_front xs n at l le)

-- a slice keeps its length
pub closed_length : {A : Type 0} (xs : List A) (n at : ℕ) → at < n → n ≤ length xs → length (closed xs n at) ≡ length xs
closed_length xs n at l le =
    let a : length (take at xs) ≡ at = length-take-le at xs (omega arith) in
    let b : length (take n xs) ≡ n = length-take-le n xs le in
    let c = length-drop (at + 1) (take n xs) in
    let d = length-drop at xs in
    let e : length (take 1 (drop at xs)) ≡ 1 = length-take-le 1 (drop at xs) (omega arith) in
    let f = length-drop n xs in
    let g = length-append (take 1 (drop at xs)) (drop n xs) in
    let h = length-append (drop (at + 1) (take n xs)) (take 1 (drop at xs) ++ drop n xs) in
    let i = length-append (take at xs) (drop (at + 1) (take n xs) ++ (take 1 (drop at xs) ++ drop n xs)) in
    omega arith

-- a queue that is not empty is its first element and the rest
pub first_and_rest : {A : Type 0} (xs : List A) (n : ℕ) (d : A) → 0 < n → n ≤ length xs → take n xs ≡ get_or xs 0 d ∷ drop 1 (take n xs)
first_and_rest xs n d some le =
    let long : length (take n xs) ≡ n = length-take-le n xs le in
    drop_more (take n xs) 0 d (omega arith) ∙ ap (λ y. y ∷ drop 1 (take n xs)) (get_or-take n xs 0 d some)

-- the first element is answered, and the rest is left
pub first_taken : {A : Type 0} (xs : List A) (n : ℕ) (d : A) → 0 < n → n ≤ length xs → take n xs ≡ get_or xs 0 d ∷ take (n - 1) (closed xs n 0)
first_taken xs n d some le = first_and_rest xs n d some le ∙ ap (λ ys. get_or xs 0 d ∷ ys) (sym (closed_queue xs n 0 some le))

pub first_is : {A : Type 0} (xs : List A) (n : ℕ) (d : A) → 0 < n → n ≤ length xs → first_of xs n ≡ Some (get_or xs 0 d)
first_is xs n d some le = cond-true _ _ _ (le-leb n (length xs) le) ∙ ap head_of (first_and_rest xs n d some le)

-- the same of what `take_first` left: ys in the place of xs
module _ {A : Type 0} (xs ys : List A) (n : ℕ) (some : 0 < n) (le : n ≤ length xs) (is : ys ≡ cond (gap_in xs n 0) (closed xs n 0) xs) where
  left : ys ≡ closed xs n 0
  left = is ∙ cond-true _ _ _ (gap_is xs n 0 some le)

  pub left_rest : take (n - 1) ys ≡ drop 1 (take n xs)
  left_rest = ap (take (n - 1)) left ∙ closed_queue xs n 0 some le

  pub left_first : (d : A) → take n xs ≡ get_or xs 0 d ∷ take (n - 1) ys
  left_first d = first_taken xs n d some le ∙ ap (λ zs. get_or xs 0 d ∷ take (n - 1) zs) (sym left)

  pub left_length : length ys ≡ length xs
  left_length = ap length left ∙ closed_length xs n 0 some le
