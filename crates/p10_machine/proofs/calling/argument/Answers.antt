-- The argument stands in its slot, or there is none.
use Rattle.std.proofs.Common.{ℕ, ◌+◌, ◌∙◌, sym, ap, take, get_or, Some, arith}
use Rattle.p10_meaning.specs.Values.{Held, absent}
use Rattle.p10_code.specs.Machine.{scalar_in, or_zero}
use Rattle.p10_machine.specs.Slots.{held_in}
use Rattle.p10_machine.proofs.Entered.{gathered_at, none_gathered}
use Rattle.p10_machine.proofs.Framing.{past_end}
use Rattle.p10_machine.proofs.calling.argument.Goals as goal

pub returns-then-i-count : goal.returns-then-i-count
returns-then-i-count c =
    let slot : ℕ → Held = λ k. get_or (take c.args.end (held_in c.args.m.now.targets.items c.args.m.now.slots.items)) k absent in
    sym (none_gathered c.args.arguments.0 c.args.arguments.1 c.args.i slot (omega (arith, c.if-i-count.true)))

pub returns-in-Some : goal.returns-in-Some
returns-in-Some c =
    let slot : ℕ → Held = λ k. get_or (take c.args.end (held_in c.args.m.now.targets.items c.args.m.now.slots.items)) k absent in
    ap (λ x. Some x) (c.or_zero.ensures ∙ (ap or_zero c.scalar_below.ensures ∙ ap (λ k. or_zero (scalar_in (slot k))) c.in-Some.ensures.1)) ∙ sym (gathered_at c.args.arguments.0 c.args.arguments.1 c.args.i slot (omega (arith, c.if-i-count.false)))

pub returns-in-None : goal.returns-in-None
returns-in-None c =
    let slot : ℕ → Held = λ k. get_or (take c.args.end (held_in c.args.m.now.targets.items c.args.m.now.slots.items)) k absent in
    ap (λ held. Some (or_zero (scalar_in held))) (past_end (held_in c.args.m.now.targets.items c.args.m.now.slots.items) c.args.end (c.args.arguments.0 + c.args.i) (omega (arith, c.in-None.ensures, c.ranges.end))) ∙ sym (gathered_at c.args.arguments.0 c.args.arguments.1 c.args.i slot (omega (arith, c.if-i-count.false)))
