use Rattle.std.proofs.Common.{◌≡◌, ◌++◌, drop, vec_items}
use Rattle.compose.specs.Texts.{characters}
use Rattle.compose.proofs.builder.WriteText.characters.Given as goal

abbrev pub invariant-loop-c : goal.invariant-loop-c
invariant-loop-c l = vec_items l.self.text ++ characters (drop l.c-index l.ascii) ≡ vec_items l.initial.self.text ++ characters l.ascii
