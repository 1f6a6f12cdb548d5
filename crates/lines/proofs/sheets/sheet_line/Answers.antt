use Rattle.std.proofs.Common.{◌≡◌, Bool, true, false, cond, arith, rules}
use Rattle.std.proofs.lemmas.Fmt.{decimal_digit}
use Rattle.std.specs.Prelude.{decimal}
use Rattle.lines.specs.Answers.{flag_text}
use Rattle.lines.proofs.sheets.sheet_line.Goals as goal

told : (yes : Bool) → decimal (cond yes 1 0) ≡ flag_text yes
told true = decimal_digit 1 (omega arith)
told false = decimal_digit 0 (omega arith)

pub returns : goal.returns
returns c = let last = told c.args.sheet.last in search (rules, last)
