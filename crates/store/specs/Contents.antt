-- What the memory holds, by overlays.
--   Overlay      an ID and bytes
--   overlays_in   the overlays of the entries, one behind the other from the memory's start on
--   bytes_in      the bytes of the first overlay with an ID
--   Contents     the stored overlays, and the bytes of the one that is being sent
--   contents     what a store and the memory hold
use Rattle.std.specs.Prelude.{ℕ, cond, List, [], ◌∷◌, take, drop, Some, None, Option, ◌==◌}
use Rattle.store.specs.declared.entry.Entry.{Entry}
use Rattle.store.specs.Entries.{sizes}
use Rattle.store.specs.Stores.{Store}

pub record Overlay : Type 0 where
  pub id : ℕ
  pub bytes : List ℕ

abbrev pub overlay : ℕ → List ℕ → Overlay
overlay i bs = record { id = i; bytes = bs }

abbrev pub overlays_in : List Entry → List ℕ → List Overlay
overlays_in [] m = []
overlays_in (e ∷ es) m = overlay e.id (take e.size m) ∷ overlays_in es (drop e.size m)

abbrev pub bytes_in : List Overlay → ℕ → Option (List ℕ)
bytes_in [] id = None
bytes_in (o ∷ os) id = cond (o.id == id) (Some o.bytes) (bytes_in os id)

pub record Contents : Type 0 where
  pub stored : List Overlay
  pub begun : List ℕ

abbrev pub content : List Overlay → List ℕ → Contents
content os bs = record { stored = os; begun = bs }

abbrev pub contents : List ℕ → Store → Contents
contents m s = content (overlays_in s.entries m) (take s.begun (drop (sizes s.entries) m))
