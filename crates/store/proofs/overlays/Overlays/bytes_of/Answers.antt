use Rattle.std.proofs.Common.{Some, sym, ap, ◌∙◌, arith}
use Rattle.std.specs.Option.{option_map}
use Rattle.store.proofs.Parts.{part_of, part_in, cut_part}
use Rattle.store.proofs.overlays.Overlays.bytes_of.Goals as goal

pub returns-in_err-found : goal.returns-in_err-found
returns-in_err-found c =
    ap (option_map (λ x. x.now)) c.from_residual.ensures
    ∙ ap (option_map (part_of c.args.memory.now)) (sym c.in_err-found.was ∙ c.find.ensures)
    ∙ sym (part_in c.args.self.now.entries c.args.memory.now c.args.id)

pub returns : goal.returns
returns c =
    let f = c.in_ok-found.found in
    ap Some (cut_part c.args.memory.now f.start f.size _ _ (omega arith) c.min-2.ensures)
    ∙ ap (option_map (part_of c.args.memory.now)) (sym c.in_ok-found.was ∙ c.find.ensures)
    ∙ sym (part_in c.args.self.now.entries c.args.memory.now c.args.id)
