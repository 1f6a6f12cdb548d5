-- A command's data, and the checks that come before it is obeyed.
--   page_in      Begin Page: a page ID of four bytes
--   copies_in    Load Copy Control: 02 and a number of copies
--   order_in     Execute Order Any State: F200, discard buffered data
--   read_as      the command that a kind's data makes
--   decoded     the command that a header and its data make in a state: refused for its code, the state,
--               its data length, its flag, and then for what its data says
--   command_in   the command in a sequence of bytes, whatever the state
use Rattle.std.specs.Prelude.{ℕ, ◌+◌, ◌*◌, cond, List, [], ◌∷◌, length, Some, None, Ok, Err, Option, Result, ◌==◌}
use Rattle.command.specs.declared.header.Header.{Header}
use Rattle.command.specs.declared.state.State.{State}
use Rattle.command.specs.declared.state.Command.{Command}
use Rattle.command.specs.declared.state.Command.TheVariants.{BeginPage, EndPage, LoadCopyControl, NoOperation, SetHomeState, DiscardBufferedData}
use Rattle.refusal.specs.declared.Refusal.{Refusal}
use Rattle.refusal.specs.declared.Refusal.TheVariants.{UnknownCode, DataLength, NotAccepted, NotAllowed}
use Rattle.command.specs.declared.table.Row.{Row}
use Rattle.command.specs.declared.table.Kind.{Kind}
use Rattle.command.specs.declared.table.Kind.TheVariants as kinds
use Rattle.command.specs.Headers.{two, header_of, plain_flag, data_of}
use Rattle.command.specs.Tables.{row_of, fits, permits}

abbrev pub page_in : List ℕ → Result Command Refusal
page_in [] = Err DataLength
page_in (a ∷ []) = Err DataLength
page_in (a ∷ b ∷ []) = Err DataLength
page_in (a ∷ b ∷ c ∷ []) = Err DataLength
page_in (a ∷ b ∷ c ∷ d ∷ []) = Ok (BeginPage (two a b * 65536 + two c d))
page_in (a ∷ b ∷ c ∷ d ∷ e ∷ rest) = Err DataLength

abbrev pub copies_in : List ℕ → Result Command Refusal
copies_in [] = Err DataLength
copies_in (a ∷ []) = Err DataLength
copies_in (a ∷ n ∷ []) = cond (a == 2) (Ok (LoadCopyControl n)) (Err NotAccepted)
copies_in (a ∷ n ∷ e ∷ rest) = Err DataLength

abbrev pub order_in : List ℕ → Result Command Refusal
order_in [] = Err DataLength
order_in (a ∷ []) = Err DataLength
order_in (a ∷ b ∷ []) = cond (two a b == 0xF200) (Ok DiscardBufferedData) (Err NotAccepted)
order_in (a ∷ b ∷ e ∷ rest) = Err DataLength

abbrev pub read_as : Kind → List ℕ → Result Command Refusal
read_as kinds.BeginPage d = page_in d
read_as kinds.EndPage d = Ok EndPage
read_as kinds.LoadCopyControl d = copies_in d
read_as kinds.NoOperation d = Ok NoOperation
read_as kinds.SetHomeState d = Ok SetHomeState
read_as kinds.ExecuteOrderAnyState d = order_in d

abbrev pub decoded_by : Option Row → State → Header → List ℕ → Result Command Refusal
decoded_by None s h d = Err UnknownCode
decoded_by (Some r) s h d =
    cond (permits r.allowed s)
    (cond (fits r.length (length d))
    (cond (plain_flag h) (read_as r.kind d) (Err NotAccepted))
    (Err DataLength))
    (Err NotAllowed)

abbrev pub decoded : State → Header → List ℕ → Result Command Refusal
decoded s h d = decoded_by (row_of h.code) s h d

abbrev pub read_by : Option Row → List ℕ → Result Command Refusal
read_by None d = Err UnknownCode
read_by (Some r) d = read_as r.kind d

abbrev pub command_by : Option Header → List ℕ → Result Command Refusal
command_by None bs = Err UnknownCode
command_by (Some h) bs = read_by (row_of h.code) (data_of h bs)

abbrev pub command_in : List ℕ → Result Command Refusal
command_in bs = command_by (header_of bs) bs
