-- Elements that are taken out together: what the copy writes, and what is left of the queue and behind it.
use Rattle.std.proofs.Common.{◌≡◌, ℕ, ◌+◌, ◌-◌, ◌≤◌, true, List, ◌++◌, length, take, drop, sym, ap, ◌∙◌, append_assoc, arith, length-append}
use lib.Seq.{paste}
use Rattle.std.proofs.lemmas.List.{take_at, drop_at, length-take-le, length-drop}
use Rattle.std.proofs.lemmas.Slice.{between_is}
use Rattle.std.proofs.lemmas.Bool.{le-leb, cond-true}
use Rattle.queue.specs.Queues.{span_in, span_out}

pub span_is : {A : Type 0} (xs : List A) (n at w : ℕ) → at + w ≤ n → n ≤ length xs → span_in xs n at w ≡ true
span_is xs n at w l le = cond-true _ _ _ (le-leb (at + w) n l) ∙ le-leb n (length xs) le

-- the copy of all that lie behind them
pub moved_all : {A : Type 0} (xs : List A) (n at w i : ℕ) → at + w ≤ n → i ≡ n - at - w → paste xs at (drop (at + w) xs) i ≡ span_out xs n at w
moved_all xs n at w i l e =
    let k : i ≡ n - (at + w) = omega arith in
    let j : at + i ≡ n - w = omega arith in
    append_assoc (take at xs) (take i (drop (at + w) xs)) (drop (at + i) xs)
    ∙ ap (λ m. take at xs ++ (take i (drop (at + w) xs) ++ drop m xs)) j
    ∙ ap (λ m. take at xs ++ (take m (drop (at + w) xs) ++ drop (n - w) xs)) k
    ∙ ap (λ l. take at xs ++ (l ++ drop (n - w) xs)) (between_is xs (at + w) n)

module _ {A : Type 0} (xs : List A) (n at w : ℕ) (l : at + w ≤ n) (le : n ≤ length xs) where
  long : length (take at xs ++ drop (at + w) (take n xs)) ≡ n - w
  long =
      let a : length (take at xs) ≡ at = length-take-le at xs (omega arith) in
      let b : length (take n xs) ≡ n = length-take-le n xs le in
      let c = length-drop (at + w) (take n xs) in
      let d = length-append (take at xs) (drop (at + w) (take n xs)) in
      omega arith

  two_parts : span_out xs n at w ≡ (take at xs ++ drop (at + w) (take n xs)) ++ drop (n - w) xs
  two_parts = sym (append_assoc (take at xs) (drop (at + w) (take n xs)) (drop (n - w) xs))

  -- the queue is left without the elements
  pub span_queue : take (n - w) (span_out xs n at w) ≡ take at xs ++ drop (at + w) (take n xs)
  span_queue = ap (take (n - w)) two_parts ∙ take_at (take at xs ++ drop (at + w) (take n xs)) (drop (n - w) xs) (n - w) long

  -- the places behind it keep their content
  pub span_behind : drop (n - w) (span_out xs n at w) ≡ drop (n - w) xs
  span_behind = ap (drop (n - w)) two_parts ∙ drop_at (take at xs ++ drop (at + w) (take n xs)) (drop (n - w) xs) (n - w) long

  -- a slice keeps its length
  pub span_length : length (span_out xs n at w) ≡ length xs
  span_length =
      let a = length-append (take at xs ++ drop (at + w) (take n xs)) (drop (n - w) xs) in
      let b = length-drop (n - w) xs in
      let c = long in
      ap length two_parts ∙ (omega arith)
