-- What a table of overlays holds, and what its operations make of it and of the memory.
--   Store        the entries of the stored overlays, and how many bytes of the overlay that is being sent have come
--   kept         how many bytes of the memory are in use: those of the stored overlays, and then those that have come
--   Bounded      what holds of every table: at most 64 overlays are stored, and the bytes in use fit a number of 64 bits
--   Answer       a store as it is left, and how the call ended
--   Held         a store and the memory as they are left, and how the call ended
--   outside      an ID that no overlay has
--   beginning    an overlay begins: refused for its ID, where it is stored already, and where 64 are
--   storing      a command's bytes go behind the bytes that are kept: refused where the memory has no room for them
--   closing      the overlay that is being sent is stored, unless 64 are
--   dropping     the overlay that is being sent is dropped
--   deleting     the overlay with an ID, or all with ID 0, leave the table; the bytes behind it move down, and what
--                lies behind the bytes that are then kept stays
use Rattle.std.specs.Prelude.{ℕ, ◌+◌, ◌<◌, ◌≤◌, ◌^◌, Bool, true, cond, List, [], ◌∷◌, ◌++◌, length, take, drop, is_some, Some, None, Ok, Err, Option, Result, ◌==◌, nat_le, nat_lt}
use Rattle.std.specs.List.{remove}
use Rattle.queue.specs.Queues.{span_in, span_out}
use Rattle.refusal.specs.declared.Refusal.{Refusal}
use Rattle.refusal.specs.declared.Refusal.TheVariants.{IdOutOfRange, AlreadyStored, NotStored, StoreFull}
use Rattle.store.specs.declared.entry.Entry.{Entry}
use Rattle.store.specs.declared.entry.Found.{Found}
use Rattle.store.specs.Entries.{entry, sizes, found_in}

pub record Store : Type 0 where
  pub entries : List Entry
  pub begun : ℕ

abbrev pub store : List Entry → ℕ → Store
store es n = record { entries = es; begun = n }

abbrev pub empty_store : Store
empty_store = store [] 0

abbrev pub kept : Store → ℕ
kept s = sizes s.entries + s.begun

pub record Bounded (s : Store) : Type 0 where
  pub few : length s.entries ≤ 64
  pub fits : kept s < 2 ^ 64

pub record Answer : Type 0 where
  pub store : Store
  pub result : Result (Unit {0}) Refusal

abbrev pub answer : Store → Result (Unit {0}) Refusal → Answer
answer s r = record { store = s; result = r }

pub record Held : Type 0 where
  pub store : Store
  pub memory : List ℕ
  pub result : Result (Unit {0}) Refusal

abbrev pub held : Store → List ℕ → Result (Unit {0}) Refusal → Held
held s m r = record { store = s; memory = m; result = r }

abbrev pub outside : ℕ → Bool
outside id = cond (id == 0) true (nat_lt 127 id)

abbrev pub is_stored : List Entry → ℕ → Bool
is_stored es id = is_some (found_in es id)

abbrev pub full : List Entry → Bool
full es = nat_le 64 (length es)

abbrev pub beginning : ℕ → Store → Answer
beginning id s =
    cond (outside id) (answer s (Err IdOutOfRange))
    (cond (is_stored s.entries id) (answer s (Err AlreadyStored))
    (cond (full s.entries) (answer s (Err StoreFull))
    (answer (store s.entries 0) (Ok tt))))

-- the bytes at a place of the memory
abbrev pub written : List ℕ → ℕ → List ℕ → List ℕ
written m at bs = take at m ++ (bs ++ drop (length bs) (drop at m))

abbrev pub storing : List ℕ → Store → List ℕ → Held
storing bs s m =
    cond (nat_le (kept s + length bs) (length m))
    (held (store s.entries (s.begun + length bs)) (written m (kept s) bs) (Ok tt))
    (held s m (Err StoreFull))

abbrev pub closing : ℕ → Store → Store
closing id s = cond (full s.entries) s (store (s.entries ++ (entry id s.begun ∷ [])) 0)

abbrev pub dropping : Store → Store
dropping s = store s.entries 0

-- the bytes of an overlay leave the memory, where it has all that are kept
abbrev pub closed_up : List ℕ → ℕ → Found → List ℕ
closed_up m n f = cond (span_in m n f.start f.size) (span_out m n f.start f.size) m

abbrev pub deleting_at : Option Found → Store → List ℕ → Held
deleting_at None s m = held s m (Err NotStored)
deleting_at (Some f) s m = held (store (remove s.entries f.at) s.begun) (closed_up m (kept s) f) (Ok tt)

abbrev pub deleting : ℕ → Store → List ℕ → Held
deleting id s m =
    cond (nat_lt 127 id) (held s m (Err IdOutOfRange))
    (cond (id == 0) (held empty_store m (Ok tt))
    (deleting_at (found_in s.entries id) s m))
