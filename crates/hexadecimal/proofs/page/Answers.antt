use Rattle.std.proofs.Common.{rules}
use Rattle.hexadecimal.specs.Hex.{page_text}
use Rattle.hexadecimal.proofs.page.Goals as goal

pub returns : goal.returns
unfolding page_text
returns c = search rules
