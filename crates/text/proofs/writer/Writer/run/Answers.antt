use Rattle.std.proofs.Common.{◌≡◌, ◌+◌, ◌∙◌, arith, rules}
use Rattle.text.specs.Runs.{located_in}
use Rattle.text.proofs.Runs.{run_on, run_off, run_end}
use Rattle.text.proofs.Outs.{handed_on}
use Rattle.text.proofs.writer.Writer.run.Goals as goal

pub returns-in_err-map_err-clause-run : goal.returns-in_err-map_err-clause-run
returns-in_err-map_err-clause-run c =
    let q : c.map_err.result ≡ located_in (c.args.at + c.loop-k.k-counter) c.character.result = search rules in
    rw (handed_on c.from_residual.result c.from_residual.ensures.1) (run_off _ _ c.loop-k.k-counter _ _ _ _ _ _ (omega arith) c.character.ensures.character q c.in_err-map_err.was c.loop-k.invariant.1)

pub loop-k-preserved : goal.loop-k-preserved
loop-k-preserved c =
    let q : c.map_err.result ≡ located_in (c.args.at + c.loop-k.k-counter) c.character.result = search rules in (
      c.character.ensures.same_list ∙ c.loop-k.invariant.0,
      run_on _ _ c.loop-k.k-counter _ _ _ _ _ (omega arith) c.character.ensures.character q c.in_ok-map_err.was c.loop-k.invariant.1,
    )

pub returns-clause-run : goal.returns-clause-run
returns-clause-run c = run_end _ _ c.loop-k.k-counter _ _ (omega arith) c.loop-k.invariant.1
