-- What a host sends and reads.
--   load_copy_control, begin_page, end_page, no_operation   commands as bytes; the last two request a reply
--   short_command     a command without data, from the low byte of its code and its flag
--   overlay_command   a command with an overlay's ID, from the low byte of its code: X'DF' begins it, X'EF' deletes it,
--                    X'7D' includes it
--   end_overlay       the end of an overlay, without a request
--   counted_at  pages and copies at a place of a reply
--   reply_in    the counters in a reply, and the refusal's number in a negative one
--   next_in     the job rule: the page behind those received, less its committed copies where none waits
use Rattle.std.specs.Prelude.{ℕ, ◌+◌, ◌-◌, ◌*◌, ◌/◌, ◌%◌, Bool, true, cond, List, [], ◌∷◌, length, Some, None, Option, ◌==◌, nat_lt, slice_index, slice_index_or}
use Rattle.host.specs.declared.job.Page.{Page}
use Rattle.host.specs.declared.reply.Counted.{Counted}
use Rattle.host.specs.declared.reply.Reply.{Reply}

abbrev pub load_copy_control : ℕ → List ℕ
load_copy_control n = 0x00 ∷ 0x07 ∷ 0xD6 ∷ 0x9F ∷ 0x00 ∷ 0x02 ∷ n ∷ []

abbrev pub begin_page : ℕ → List ℕ
begin_page id = 0x00 ∷ 0x09 ∷ 0xD6 ∷ 0xAF ∷ 0x00 ∷ id / 16777216 % 256 ∷ id / 65536 % 256 ∷ id / 256 % 256 ∷ id % 256 ∷ []

abbrev pub short_command : ℕ → ℕ → List ℕ
short_command code flag = 0x00 ∷ 0x05 ∷ 0xD6 ∷ code ∷ flag ∷ []

abbrev pub end_page : List ℕ
end_page = short_command 0xBF 0x80

abbrev pub no_operation : List ℕ
no_operation = short_command 0x03 0x80

abbrev pub overlay_command : ℕ → ℕ → List ℕ
overlay_command code id = 0x00 ∷ 0x07 ∷ 0xD6 ∷ code ∷ 0x00 ∷ id / 256 % 256 ∷ id % 256 ∷ []

abbrev pub end_overlay : List ℕ
end_overlay = short_command 0xBF 0x00

-- two bytes, the high one first
abbrev pub two_at : List ℕ → ℕ → ℕ
two_at bs at = slice_index bs at * 256 + slice_index bs (at + 1)

abbrev pub counted_at : List ℕ → ℕ → Counted
counted_at bs at = record { pages = two_at bs at; copies = two_at bs (at + 2) }

abbrev pub number_in : List ℕ → Option ℕ
number_in bs = cond (length bs == 40) (Some (slice_index bs 27)) None

abbrev pub counters_in : List ℕ → Reply
counters_in bs = record {
  received = two_at bs 6;
  committed = counted_at bs 8;
  stacked = counted_at bs 12;
  number = number_in bs;
}

-- the length of an acknowledgement or of a negative reply
abbrev pub reply_length : ℕ → Bool
reply_length n = cond (n == 16) true (n == 40)

abbrev pub reply_in : List ℕ → Option Reply
reply_in bs = cond (reply_length (length bs)) (cond (two_at bs 2 == 0xD6FF) (Some (counters_in bs)) None) None

abbrev pub begun : Reply → ℕ
begun r = cond (r.received == r.committed.pages) r.committed.copies 0

abbrev pub page_less : Page → ℕ → Page
page_less p n = record { id = p.id; copies = p.copies - n }

abbrev pub next_in : List Page → Reply → Option Page
next_in job r = cond (nat_lt r.received (length job)) (Some (page_less (slice_index_or job r.received (record { id = 0; copies = 0 })) (begun r))) None
