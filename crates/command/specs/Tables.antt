-- The table of command codes.
--   table     each code with its command, its data length and the states that allow it
--   row_of     the row of a code
--   kind_of   the command that a code names
--   ends      it is the end of a page: of the code D6BF and no other
--   fits      a data length is the row's
--   permits   a state allows the row's command
use Rattle.std.specs.Prelude.{ℕ, Bool, true, false, List, [], ◌∷◌, Some, None, Option, ◌==◌}
use Rattle.std.specs.List.{find}
use Rattle.std.specs.Option.{option_map}
use Rattle.command.specs.declared.state.State.{State}
use Rattle.command.specs.declared.state.State.TheVariants.{Home as InHome, Page}
use Rattle.command.specs.declared.table.Row.{Row}
use Rattle.command.specs.declared.table.Kind.{Kind}
use Rattle.command.specs.declared.table.Kind.TheVariants.{BeginPage, EndPage, LoadCopyControl, NoOperation, SetHomeState, ExecuteOrderAnyState}
use Rattle.command.specs.declared.table.DataLength.{DataLength}
use Rattle.command.specs.declared.table.DataLength.TheVariants.{Exactly, Any}
use Rattle.command.specs.declared.table.Allowed.{Allowed}
use Rattle.command.specs.declared.table.Allowed.TheVariants.{Home, Open, Every}

abbrev pub row : ℕ → Kind → DataLength → Allowed → Row
row c k l a = record { code = c; kind = k; length = l; allowed = a }

abbrev pub table : List Row
table =
    row 0xD6AF BeginPage (Exactly 4) Home
    ∷ row 0xD69F LoadCopyControl (Exactly 2) Home
    ∷ row 0xD6BF EndPage Any Open
    ∷ row 0xD603 NoOperation Any Every
    ∷ row 0xD697 SetHomeState Any Every
    ∷ row 0xD633 ExecuteOrderAnyState (Exactly 2) Every
    ∷ []

unfoldable pub row_of : ℕ → Option Row
row_of c = find (λ r. r.code == c) table

abbrev pub kind_of : ℕ → Option Kind
kind_of c = option_map (λ r. r.kind) (row_of c)

abbrev pub ends : Option Kind → Bool
ends None = false
ends (Some BeginPage) = false
ends (Some EndPage) = true
ends (Some LoadCopyControl) = false
ends (Some NoOperation) = false
ends (Some SetHomeState) = false
ends (Some ExecuteOrderAnyState) = false

abbrev pub fits : DataLength → ℕ → Bool
fits (Exactly n) k = k == n
fits Any k = true

abbrev pub permits : Allowed → State → Bool
permits Every s = true
permits Home InHome = true
permits Home (Page id) = false
permits Open InHome = false
permits Open (Page id) = true
