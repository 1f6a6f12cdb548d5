use Rattle.std.proofs.Common.{◌≡◌, ℕ, ◌*◌, refl, arith, rules}
use Rattle.engines.proofs.Filing.{files}
use Rattle.engines.proofs.file.RecordsBin.stack.Goals as goal

pub invariant_of-self : goal.invariant_of-self
invariant_of-self c =
    let b = c.args.self.now in
    let copied : c.copy_from_slice.new.self ≡ c.record.result = search rules in
    let packed = c.record.ensures in
    let filed = λ (at k : ℕ) (place : at ≡ 8 * b.stacked) (size : k ≡ 8). files b.stacked b.bytes c.args.sheet (omega arith) b.told at k _ _ _ place size c.as_mut_slice.ensures.value copied packed.bytes packed.back in
    record { within = omega arith; told = (filed _ _ (omega arith) (omega arith)).told }

pub returns : goal.returns
returns c =
    let b = c.args.self.now in
    let copied : c.copy_from_slice.new.self ≡ c.record.result = search rules in
    let packed = c.record.ensures in
    let filed = λ (at k : ℕ) (place : at ≡ 8 * b.stacked) (size : k ≡ 8). files b.stacked b.bytes c.args.sheet (omega arith) b.told at k _ _ _ place size c.as_mut_slice.ensures.value copied packed.bytes packed.back in
    record {
      taken = search rules;
      sheets = (filed _ _ (omega arith) (omega arith)).sheets;
      room = omega arith;
      gives = record { bytes = (filed _ _ (omega arith) (omega arith)).bytes; stacked = refl };
    }
