use Rattle.std.proofs.Common.{◌≡◌, rules}
use Rattle.text.specs.Runs.{located_in}
use Rattle.text.proofs.Headers.{control_good, located_good}
use Rattle.text.proofs.write.read_at.Goals as goal

pub returns-clause-whole : goal.returns-clause-whole
returns-clause-whole c =
    let e : c.map_err.result ≡ located_in c.args.at c.read.result = search rules in
    rw (e, c.read.ensures) (located_good c.args.at _ _ (control_good c.args.chained c.args.bytes.now))
