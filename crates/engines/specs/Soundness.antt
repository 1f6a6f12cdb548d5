-- A path is never longer than its places.
--   sound_path    at most K sheets, where K is from 1 to 8
--   eight_sound   a path that is the first places of a track of eight
--   one_sound     a path that is a single place
use Rattle.std.specs.Prelude.{ℕ, ◌<◌, ◌≤◌, List, length, take, Some, None, Option}
use Rattle.std.proofs.Common.{arith, length-take}
use Rattle.std.specs.Option.{option_to_list}
use Rattle.engine.specs.declared.sheet.Sheet.{Sheet}
use Rattle.engine.specs.Engines.{Sound}

pub sound_path : (K : ℕ) (path : List Sheet) → 0 < K → K ≤ 8 → length path ≤ K → Sound K path
sound_path K path some few short = record { some = some; few = few; short = short }

pub eight_sound : (n : ℕ) (places : List Sheet) → n ≤ 8 → Sound 8 (take n places)
eight_sound n places h = sound_path 8 (take n places) (omega arith) (omega arith) (simp length-take (omega arith))

pub one_sound : (place : Option Sheet) → Sound 1 (option_to_list place)
one_sound None = sound_path 1 (option_to_list None) (omega arith) (omega arith) (omega arith)
one_sound (Some s) = sound_path 1 (option_to_list (Some s)) (omega arith) (omega arith) (omega arith)
