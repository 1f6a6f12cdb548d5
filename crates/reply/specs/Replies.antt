-- The bytes of a reply.
--   heading   length, code D6FF, flag, type, and the five counters: sixteen bytes
--   type_of   the type byte: 00 of an acknowledgement, 80 of a negative reply
--   place_of  where a fault was found; what is absent is told as 0
--   sense     the twenty-four sense bytes of a fault: exception code (0, 1, 19), the host's command (2, 3), the
--             innermost command (4, 5), the offset in its data (6, 7), layer (8), overlay (9, 10), number (11),
--             zeros (12 to 18), page (20 to 23)
--   ack       an acknowledgement
--   nack      a negative reply
--   written   an area whose front is a reply, where it has place for one
use Rattle.std.specs.Prelude.{ℕ, ◌/◌, ◌%◌, cond, List, [], ◌∷◌, ◌++◌, length, drop, nat_le}
use Rattle.std.specs.Option.{unwrap_or}
use Rattle.refusal.specs.declared.Fault.{Fault}
use Rattle.refusal.specs.declared.Place.{Place}
use Rattle.refusal.specs.Refusals.{number_of, layer_of, exception_of}
use Rattle.reply.specs.declared.bytes.ReplyType.{ReplyType}
use Rattle.reply.specs.declared.bytes.ReplyType.TheVariants.{Acknowledgement, Negative}
use Rattle.spool.specs.Spools.{Numbers, two, bytes_of}

abbrev pub heading : ℕ → ℕ → Numbers → List ℕ
heading size kind n = 0x00 ∷ size ∷ 0xD6 ∷ 0xFF ∷ 0x00 ∷ kind ∷ bytes_of n

abbrev pub type_of : ReplyType → ℕ
type_of Acknowledgement = 0x00
type_of Negative = 0x80

abbrev pub place_of : Fault → Place
place_of f = unwrap_or f.place (record { host = 0; command = 0; offset = 0 })

abbrev pub sense : Fault → List ℕ
sense f =
    (exception_of f.refusal).0
    ∷ (exception_of f.refusal).1
    ∷ two (place_of f).host (two (place_of f).command (two (place_of f).offset (layer_of f.refusal ∷ two (unwrap_or f.overlay 0) (number_of f.refusal
    ∷ 0 ∷ 0 ∷ 0 ∷ 0 ∷ 0 ∷ 0 ∷ 0
    ∷ (exception_of f.refusal).2
    ∷ two (unwrap_or f.page 0 / 65536) (two (unwrap_or f.page 0 % 65536) [])))))

abbrev pub ack : Numbers → List ℕ
ack n = heading 16 0x00 n

abbrev pub nack : Fault → Numbers → List ℕ
nack f n = heading 40 0x80 n ++ sense f

abbrev pub written : List ℕ → List ℕ → List ℕ
written bs area = cond (nat_le (length bs) (length area)) (bs ++ drop (length bs) area) area
