-- What a line of a script asks for.
--   track_room, file_room, reply_size, mark_places, memory_size   the limits
--   with_bytes   a call, with its bytes seen in another way
--   seen         a call, where there is one, with its bytes as a list
--   bare_of      the call of a line of one word
--   engine_of, areas_of, memory_of   the call of what follows the word of that name
--   numbered     the call of a first word that numbers follow
--   poke_of      the call of what follows poke
--   followed     what a first word says with what follows it
--   spoken       what a first word says, whether more follows it or not
--   said_of      what a line says: None where it is malformed
use Rattle.std.specs.Prelude.{ℕ, ◌-◌, cond, List, [], length, Some, None, codes, Option, nat_le}
use Rattle.std.specs.Borrow.{Bor}
use Rattle.std.specs.Option.{option_map}
use Rattle.std.specs.Str.{bytes_eq}
use Rattle.words.specs.Numerals.{and_then, only, number_of, up_to, bytes_of}
use Rattle.words.specs.Words.{word_of, rest_of, skipped}
use Rattle.script.specs.declared.call.EngineKind.TheVariants.{Track, File}
use Rattle.script.specs.declared.call.Call.{Call}
use Rattle.script.specs.declared.call.Call.TheVariants.{Skip, Engine, Areas as AreaSizes, Take, Turn, Jam, Counters, Owed, Marks, Memory, Poke, ReplyArea, End}

-- the most sheet records of a track, and the most bytes of a file
abbrev pub track_room : ℕ
track_room = 10000000

abbrev pub file_room : ℕ
file_room = 100000000

-- the most that the areas hold
abbrev pub reply_size : ℕ
reply_size = 64

abbrev pub mark_places : ℕ
mark_places = 1000

abbrev pub memory_size : ℕ
memory_size = 65536

abbrev pub with_bytes : {A B : Type 0} → (A → B) → Call A → Call B
with_bytes f Skip = Skip
with_bytes f (Engine kind room) = Engine kind room
with_bytes f (AreaSizes sizes) = AreaSizes sizes
with_bytes f (Take bytes) = Take (f bytes)
with_bytes f (Turn n) = Turn n
with_bytes f Jam = Jam
with_bytes f Counters = Counters
with_bytes f Owed = Owed
with_bytes f Marks = Marks
with_bytes f (Memory at size) = Memory at size
with_bytes f (Poke at bytes) = Poke at (f bytes)
with_bytes f (ReplyArea size) = ReplyArea size
with_bytes f End = End

abbrev pub seen : Option (Call (Bor (List ℕ))) → Option (Call (List ℕ))
seen call = option_map (with_bytes (λ bytes. bytes.now)) call

abbrev pub bare_of : List ℕ → Option (Call (List ℕ))
bare_of w =
    cond (bytes_eq w (codes "take")) (Some (Take []))
    (cond (bytes_eq w (codes "turn")) (Some (Turn 1))
    (cond (bytes_eq w (codes "jam")) (Some Jam)
    (cond (bytes_eq w (codes "counters")) (Some Counters)
    (cond (bytes_eq w (codes "owed")) (Some Owed)
    (cond (bytes_eq w (codes "marks")) (Some Marks)
    (only (bytes_eq w (codes "end")) End))))))

-- the kind of an engine and its room
abbrev pub engine_of : List ℕ → Option (Call (List ℕ))
engine_of r =
    and_then (rest_of r) (λ room.
    cond (bytes_eq (word_of r) (codes "track")) (and_then (up_to track_room room) (λ n. Some (Engine Track n)))
    (cond (bytes_eq (word_of r) (codes "file")) (and_then (up_to file_room room) (λ n. Some (Engine File n)))
    None))

-- the sizes of the reply area, the list of marks and the memory
abbrev pub areas_of : List ℕ → Option (Call (List ℕ))
areas_of r =
    and_then (rest_of r) (λ s.
    and_then (rest_of s) (λ t.
    and_then (up_to reply_size (word_of r)) (λ reply.
    and_then (up_to mark_places (word_of s)) (λ marks.
    and_then (up_to memory_size t) (λ memory.
    Some (AreaSizes (record { reply = reply; marks = marks; memory = memory })))))))

-- an address, and how many bytes from there on
abbrev pub memory_of : List ℕ → Option (Call (List ℕ))
memory_of r =
    and_then (rest_of r) (λ s.
    and_then (up_to memory_size (word_of r)) (λ at.
    and_then (up_to (memory_size - at) s) (λ n.
    Some (Memory at n))))

abbrev pub numbered : List ℕ → List ℕ → Option (Call (List ℕ))
numbered w r =
    cond (bytes_eq w (codes "turn")) (and_then (number_of r) (λ n. Some (Turn n)))
    (cond (bytes_eq w (codes "memory")) (memory_of r)
    (cond (bytes_eq w (codes "reply-area")) (and_then (up_to reply_size r) (λ n. Some (ReplyArea n)))
    (cond (bytes_eq w (codes "areas")) (areas_of r)
    (cond (bytes_eq w (codes "engine")) (engine_of r)
    None))))

-- an address, and the bytes to write from there on
abbrev pub poke_of : List ℕ → Option (Call (List ℕ))
poke_of r =
    and_then (rest_of r) (λ s.
    and_then (up_to memory_size (word_of r)) (λ at.
    and_then (bytes_of s) (λ bs.
    only (nat_le (length bs) (memory_size - at)) (Poke at bs))))

-- what a first word says with what follows it
abbrev pub followed : List ℕ → List ℕ → Option (Call (List ℕ))
followed w r =
    cond (bytes_eq w (codes "take")) (and_then (bytes_of r) (λ bs. Some (Take bs)))
    (cond (bytes_eq w (codes "poke")) (poke_of r)
    (numbered w r))

abbrev pub spoken : List ℕ → Option (List ℕ) → Option (Call (List ℕ))
spoken w rest = elim rest [ Some r ↦ followed w r | None ↦ bare_of w ]

abbrev pub said_of : List ℕ → Option (Call (List ℕ))
said_of line = cond (skipped line) (Some Skip) (spoken (word_of line) (rest_of line))
