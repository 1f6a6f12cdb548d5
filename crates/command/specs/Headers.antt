-- The header of a command: its length, its code and its flag byte.
--   header_of    the header at the front of the bytes, where there are five
--   in_range     the length is from 5 to 32,767
--   asks_reply   the flag requests a reply
--   plain_flag   the flag has no other bit
--   data_of      the data behind the header, as far as the length tells
use Rattle.std.specs.Prelude.{ℕ, ◌+◌, ◌-◌, ◌*◌, Bool, true, false, cond, List, [], ◌∷◌, take, drop, Some, None, Option, ◌==◌, nat_le, slice_index}
use Rattle.command.specs.declared.header.Header.{Header}

-- two bytes, the high one first
abbrev pub two : ℕ → ℕ → ℕ
two high low = high * 256 + low

abbrev pub header : ℕ → ℕ → ℕ → Header
header l c f = record { length = l; code = c; flag = f }

-- from the bytes of its parts
abbrev pub header_from : List ℕ → List ℕ → ℕ → Header
header_from l c f = header (two (slice_index l 0) (slice_index l 1)) (two (slice_index c 0) (slice_index c 1)) f

abbrev pub header_of : List ℕ → Option Header
header_of [] = None
header_of (a ∷ []) = None
header_of (a ∷ b ∷ []) = None
header_of (a ∷ b ∷ c ∷ []) = None
header_of (a ∷ b ∷ c ∷ d ∷ []) = None
header_of (a ∷ b ∷ c ∷ d ∷ f ∷ rest) = Some (header (two a b) (two c d) f)

abbrev pub in_range : Header → Bool
in_range h = cond (nat_le 5 h.length) (nat_le h.length 32767) false

abbrev pub asks_reply : Header → Bool
asks_reply h = nat_le 128 h.flag

abbrev pub plain_flag : Header → Bool
plain_flag h = cond (h.flag == 0) true (h.flag == 128)

abbrev pub data_of : Header → List ℕ → List ℕ
data_of h bs = take (h.length - 5) (drop 5 bs)
