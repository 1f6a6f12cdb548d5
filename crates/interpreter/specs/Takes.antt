-- Takes as the law over runs sees them: by the bytes handed in, what was told, and the reply.
--   Take         a take as its caller sees it
--   effect_in     what an accepted command comes to
--   effect_of     what a take comes to
--   meaning      the effects and replies of takes
use Rattle.std.specs.Prelude.{ℕ, cond, List, take, Ok, Err, Result}
use Rattle.refusal.specs.declared.Refusal.{Refusal}
use Rattle.refusal.specs.Refusals.{untouching}
use Rattle.command.specs.declared.state.Command.{Command}
use Rattle.command.specs.declared.state.Command.TheVariants.{BeginPage, EndPage, LoadCopyControl, NoOperation, SetHomeState, DiscardBufferedData}
use Rattle.command.specs.Commands.{command_in}
use Rattle.spool.specs.Receivers.{Effect, nothing, setting, opening, ending, closing, clearing}
use Rattle.spool.specs.Runs.{Meaning}
use Rattle.interpreter.specs.Outcomes.{Outcome}
use Rattle.interpreter.specs.declared.taken.Taken.{Taken}

pub record Take : Type 0 where
  pub bytes : List ℕ
  pub told : Taken
  pub reply : List ℕ

-- the bytes handed in, and what the take told and left in the reply area
abbrev pub take_seen : List ℕ → Taken → List ℕ → Take
take_seen bs t area = record { bytes = bs; told = t; reply = take t.reply area }

abbrev pub effect_in : Command → Effect
effect_in (BeginPage id) = opening id
effect_in EndPage = ending
effect_in (LoadCopyControl n) = setting n
effect_in NoOperation = nothing
effect_in SetHomeState = closing
effect_in DiscardBufferedData = clearing

abbrev pub effect_read : Result Command Refusal → Effect
effect_read (Ok c) = effect_in c
effect_read (Err r) = nothing

abbrev pub effect_by : Outcome → List ℕ → Effect
effect_by (Ok u) bs = effect_read (command_in bs)
effect_by (Err r) bs = cond (untouching r) nothing closing

abbrev pub effect_of : Take → Effect
effect_of t = effect_by t.told.outcome t.bytes

abbrev pub meaning : Meaning Take
meaning = record { effect = effect_of; reply = λ t. t.reply }
