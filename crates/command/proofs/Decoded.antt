-- What is decoded in a state is the command in the bytes.
use Rattle.std.proofs.Common.{◌≡◌, ℕ, Bool, true, false, cond, List, length, Some, None, Ok, Err, Option, Result, sym, ap, ◌∙◌}
use Rattle.command.specs.declared.header.Header.{Header}
use Rattle.command.specs.declared.state.State.{State}
use Rattle.command.specs.declared.state.Command.{Command}
use Rattle.refusal.specs.declared.Refusal.TheVariants.{UnknownCode, DataLength, NotAccepted, NotAllowed}
use Rattle.command.specs.declared.table.Row.{Row}
use Rattle.command.specs.Headers.{header_of, plain_flag, data_of}
use Rattle.command.specs.Tables.{row_of, fits, permits}
use Rattle.command.specs.Commands.{read_as, decoded_by, decoded, read_by, command_by, command_in}

-- no answer is both a command and a refusal
module _ {A F C : Type 0} (a : A) (f : F) where
  pub err_ok : ◌≡◌ {A = Result A F} (Err f) (Ok a) → C
  err_ok e = absurd cc

  pub ok_err : ◌≡◌ {A = Result A F} (Ok a) (Err f) → C
  ok_err e = err_ok (sym e)

pub decoded_by_law : (o : Option Row) (s : State) (h : Header) (d : List ℕ) (c : Command) → decoded_by o s h d ≡ Ok c → read_by o d ≡ Ok c
decoded_by_law None s h d c e = err_ok c UnknownCode e
decoded_by_law (Some r) s h d c e = go (permits r.allowed s) (fits r.length (length d)) (plain_flag h) e
  where
    go : (a b f : Bool) → cond a (cond b (cond f (read_as r.kind d) (Err NotAccepted)) (Err DataLength)) (Err NotAllowed) ≡ Ok c → read_as r.kind d ≡ Ok c
    go true true true e = e
    go true true false e = err_ok c NotAccepted e
    go true false f e = err_ok c DataLength e
    go false b f e = err_ok c NotAllowed e

pub decoded_is : (bs : List ℕ) (s : State) (h : Header) (c : Command) → header_of bs ≡ Some h → decoded s h (data_of h bs) ≡ Ok c → command_in bs ≡ Ok c
decoded_is bs s h c eh e = ap (λ o. command_by o bs) eh ∙ decoded_by_law (row_of h.code) s h (data_of h bs) c e
