-- The table's entries.
--   sizes     how many bytes the overlays of the entries have
--   found_in   where the first overlay with an ID is: its place in the table, where its bytes begin, and how many
--             they are
use Rattle.std.specs.Prelude.{ℕ, ◌+◌, cond, List, [], ◌∷◌, Some, None, Option, ◌==◌}
use Rattle.std.specs.List.{sum_by}
use Rattle.store.specs.declared.entry.Entry.{Entry}
use Rattle.store.specs.declared.entry.Found.{Found}

abbrev pub entry : ℕ → ℕ → Entry
entry i n = record { id = i; size = n }

abbrev pub found : ℕ → ℕ → ℕ → Found
found a s n = record { at = a; start = s; size = n }

abbrev pub sizes : List Entry → ℕ
sizes es = sum_by (λ e. e.size) es

-- the entries are from a place of the table on, and their bytes begin at s
abbrev pub found_from : ℕ → ℕ → List Entry → ℕ → Option Found
found_from a s [] id = None
found_from a s (e ∷ es) id = cond (e.id == id) (Some (found a s e.size)) (found_from (a + 1) (s + e.size) es id)

abbrev pub found_in : List Entry → ℕ → Option Found
found_in es id = found_from 0 0 es id
