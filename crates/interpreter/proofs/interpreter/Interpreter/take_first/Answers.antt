use Rattle.std.proofs.Common.{◌≡◌, ◌-◌, ◌≤◌, length, drop, Ok, Err, sym, ap, ◌∙◌, arith, rules}
use Rattle.std.proofs.lemmas.List.{length-drop}
use Rattle.std.proofs.lemmas.Grind.{common_steps}
use Rattle.interpreter.specs.Machines.{Machine, machine_of}
use Rattle.interpreter.specs.Taking.{taking, faulted, fault_of}
use Rattle.interpreter.proofs.Refusing.{take_unreadable, take_incomplete, take_pending, take_blocked, take_settled}
use Rattle.interpreter.proofs.Fronts.{behind, joined, handed_front, accepted_front, faulted_front}
use Rattle.interpreter.proofs.interpreter.Interpreter.take_first.Goals as goal

pub returns-then-not-in_range : goal.returns-then-not-in_range
returns-then-not-in_range c =
    let first = c.in-Some-first_chunk_mut.ensures.cases in
    let m = machine_of c.args.self.now in
    let e = joined c.args.reply.now c.in-Some-first_chunk_mut.front.now first in
    let is = take_unreadable c.args.bytes.now m c.args.reply.now c.in-Some.header c.in-Some.ensures.0 first.enough (sym c.if-not-in_range.ensures) in
    ap (λ a. taking (machine_of c.unreadable.new.self) a c.unreadable.result) e ∙ c.unreadable.ensures c.args.reply.now ∙ sym is

pub returns-then-bytes-length : goal.returns-then-bytes-length
returns-then-bytes-length c =
    let first = c.in-Some-first_chunk_mut.ensures.cases in
    let m = machine_of c.args.self.now in
    let e = joined c.args.reply.now c.in-Some-first_chunk_mut.front.now first in
    let is = take_incomplete c.args.bytes.now m c.args.reply.now c.in-Some.header c.in-Some.ensures.0 first.enough (sym c.if-not-in_range.ensures) (omega (arith, c.if-bytes-length.true, c.from-length.ensures)) in
    let t = c.untouched-then-bytes-length in
    ap (λ a. taking m a t.result) e ∙ ap (taking m c.args.reply.now) t.ensures ∙ sym is

pub returns-in-Some-pending : goal.returns-in-Some-pending
returns-in-Some-pending c =
    let first = c.in-Some-first_chunk_mut.ensures.cases in
    let m = machine_of c.args.self.now in
    let area = c.args.reply.now in
    let h = c.in-Some.header in
    let f = c.in-Some-pending.fault in
    let is = take_pending c.args.bytes.now m area h c.in-Some.ensures.0 first.enough (sym c.if-not-in_range.ensures) (omega (arith, c.if-bytes-length.false, c.from-length.ensures)) f c.in-Some-pending.is in
    ap (behind (drop 40 area)) c.hand_over.ensures ∙ handed_front area c.in-Some-first_chunk_mut.front.now first h m f ∙ sym is

pub returns-then-is_blocked : goal.returns-then-is_blocked
returns-then-is_blocked c =
    let first = c.in-Some-first_chunk_mut.ensures.cases in
    let m = machine_of c.args.self.now in
    let e = joined c.args.reply.now c.in-Some-first_chunk_mut.front.now first in
    let is = take_blocked c.args.bytes.now m c.args.reply.now c.in-Some.header c.in-Some.ensures.0 first.enough (sym c.if-not-in_range.ensures) (omega (arith, c.if-bytes-length.false, c.from-length.ensures)) c.in_default-pending.is (sym c.if-is_blocked.ensures) in
    let t = c.untouched-then-is_blocked in
    ap (λ a. taking m a t.result) e ∙ ap (taking m c.args.reply.now) t.ensures ∙ sym is

pub slice_bounds-interpret-end : goal.slice_bounds-interpret-end
slice_bounds-interpret-end c =
    let l : length c.in-Some.rest.now ≡ length c.args.bytes.now - 5 = ap length c.in-Some.ensures.1 ∙ length-drop 5 c.args.bytes.now in
    let n : c.from-length.result ≤ length c.args.bytes.now = c.if-bytes-length.false in
    search rules

pub returns-in-Ok : goal.returns-in-Ok
returns-in-Ok c =
    let first = c.in-Some-first_chunk_mut.ensures.cases in
    let m = machine_of c.args.self.now in
    let n = machine_of c.interpret.new.self in
    let area = c.args.reply.now in
    let h = c.in-Some.header in
    let long : h.length ≤ length c.args.bytes.now = omega (arith, c.if-bytes-length.false, c.from-length.ensures) in
    let is = take_settled c.args.bytes.now m area h c.in-Some.ensures.0 first.enough (sym c.if-not-in_range.ensures) long c.in_default-pending.is (sym c.if-is_blocked.ensures) _ (grind (arith, common_steps)) (Ok n) c.in-Ok.ensures in
    ap (behind (drop 40 area)) c.accept.ensures ∙ accepted_front area c.in-Some-first_chunk_mut.front.now first h n ∙ sym is

pub returns-in-Err : goal.returns-in-Err
returns-in-Err c =
    let first = c.in-Some-first_chunk_mut.ensures.cases in
    let front = c.in-Some-first_chunk_mut.front.now in
    let m = machine_of c.args.self.now in
    let area = c.args.reply.now in
    let h = c.in-Some.header in
    let r = c.in-Err.refusal in
    let long : h.length ≤ length c.args.bytes.now = omega (arith, c.if-bytes-length.false, c.from-length.ensures) in
    let is = take_settled c.args.bytes.now m area h c.in-Some.ensures.0 first.enough (sym c.if-not-in_range.ensures) long c.in_default-pending.is (sym c.if-is_blocked.ensures) _ (grind (arith, common_steps)) (Err r) c.in-Err.ensures.0 in
    let same = ap (λ (n : Machine). faulted (fault_of r h n.state) h n front) c.in-Err.ensures.1 in
    ap (behind (drop 40 area)) (c.refuse.ensures ∙ same) ∙ faulted_front area front first h m (fault_of r h m.state) ∙ sym is
