-- The place of a code in a list, and that each place of the table is the first with its code.
use Rattle.std.proofs.Common.{◌≡◌, ℕ, zero, suc, ◌+◌, ◌-◌, ◌<◌, ◌≤◌, Bool, true, ◌&&◌, ◌==◌, cond, eqb, ltb, List, refl, ap, ◌∙◌, ⊎_elim, Option, Some, None, unwrap_or, length, false, not, sym, arith}
use Rattle.std.specs.List.{position_or_len}
use Rattle.std.proofs.lemmas.List.Recursion.{is_position_or_len}
use Rattle.std.proofs.lemmas.List.Sums.{prefix_len-le-length}
use Rattle.std.proofs.lemmas.Bool.{cond-true, cases_eq, and_parts, eqb-true, lt-ltb, ltb-false}
use Rattle.compose.specs.Ebcdic.{table, place_in, code_at, ascii_of}

-- the first place of a code is where the library finds it
pub found : (cs : List ℕ) (code : ℕ) → place_in cs code ≡ position_or_len (λ c. c == code) cs
found cs code = is_position_or_len (λ cs. place_in cs code) (λ c. c == code) refl (λ c cs. ap (λ k. cond (c == code) 0 k) (omega arith)) cs

-- a place where it is below the length, and else the length
place_or : (place size : ℕ) → place ≤ size → unwrap_or (cond (ltb place size) (Some place) None) size ≡ place
place_or place size le = by (ltb place size) refl
  where
    by : (b : Bool) → ltb place size ≡ b → unwrap_or (cond b (Some place) None) size ≡ place
    by true e = refl
    by false e = let above = ltb-false place size e in omega arith

-- the place that the library finds, or the length
pub found_or_length : (code : ℕ) (r : Option ℕ) → r ≡ cond (ltb (position_or_len (λ c. c == code) table) (length table)) (Some (position_or_len (λ c. c == code) table)) None → unwrap_or r (length table) ≡ place_in table code
found_or_length code r e =
    let p = position_or_len (λ c. c == code) table in
    let le : p ≤ length table = prefix_len-le-length (λ c. not (c == code)) table in
    ap (λ o. unwrap_or o (length table)) e ∙ place_or p (length table) le ∙ sym (found table code)

-- every place below a number is the first with its code
firsts : List ℕ → ℕ → Bool
firsts cs zero = true
firsts cs (suc n) = eqb (place_in cs (code_at cs n)) n && firsts cs n

first_of : (cs : List ℕ) (n : ℕ) → firsts cs n ≡ true → (k : ℕ) → k < n → place_in cs (code_at cs k) ≡ k
unfolding firsts
first_of cs zero e k h = absurd (omega arith)
first_of cs (suc n) e k h =
    let p = and_parts (eqb (place_in cs (code_at cs n)) n) (firsts cs n) e in
    ⊎_elim (λ same. rw same (eqb-true (place_in cs (code_at cs n)) n p.0)) (λ other. first_of cs n p.1 k (omega arith)) (cases_eq k n)

all_first : firsts table 95 ≡ true
unfolding firsts table
all_first = refl

pub read_back : (c r place : ℕ) → r ≡ code_at table place → place ≡ c - 32 → 32 ≤ c → c < 127 → ascii_of r ≡ c
read_back c r place is there low high =
    let at : place_in table r ≡ place = rw is (first_of table 95 all_first place (omega arith)) in
    rw at (cond-true (ltb place 95) (32 + place) 63 (lt-ltb place 95 (omega arith)) ∙ omega arith)
