use Rattle.std.proofs.Common.{◌≡◌, ◌≤◌, false, true, length, refl, arith}
use Rattle.p10_fit.specs.private.Scoping.{count_of}
use Rattle.p10_fit.proofs.Counting.{counts_declared, counts_beside, counted_here, count_most, at_most}
use Rattle.p10_fit.proofs.scope.Scope.declare.Goals as goal

pub overflow_add-count : goal.overflow_add-count
overflow_add-count c =
    let here : c.in-Some.count.now ≡ count_of c.args.number c.args.self.now.numbers.items =
    counted_here c.args.self.now.counts.items c.args.self.now.numbers.items c.args.number c.in-Some.count.now c.args.self.now.counted (omega (arith, c.in-Some.ensures.variant.0 refl, c.args.self.now.counts.ok.0)) c.in-Some.ensures.value in
    let most : count_of c.args.number c.args.self.now.numbers.items ≤ length c.args.self.now.numbers.items = count_most c.args.number c.args.self.now.numbers.items in
    grind (arith, here, most, c.args.self.now.numbers.ok)

pub invariant_of-self-in-Some : goal.invariant_of-self-in-Some
invariant_of-self-in-Some c = record {
  counted = counts_declared c.args.self.now.counts.items c.args.self.now.numbers.items c.push.new.self.items c.args.number c.in-Some.count.now c.args.self.now.counted (omega (arith, c.in-Some.ensures.variant.0 refl, c.args.self.now.counts.ok.0)) c.in-Some.ensures.value c.in_ok-push.ensures.items;
}

pub invariant_of-self-in_default : goal.invariant_of-self-in_default
invariant_of-self-in_default c =
    let past : length c.args.self.now.counts.items ≤ c.args.number = at_most c.args.number (length c.args.self.now.counts.items) (λ lt.
    let there : false ≡ true = c.in_default.ensures.variant.1 (omega (arith, lt, c.args.self.now.counts.ok.0)) in cc) in
    record { counted = counts_beside c.args.self.now.counts.items c.args.self.now.numbers.items c.push.new.self.items c.args.number c.args.self.now.counted past c.in_ok-push.ensures.items }
