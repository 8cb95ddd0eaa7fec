use Rattle.std.proofs.Common.{◌≡◌, ◌+◌, ◌≤◌, false, true, length, refl, arith}
use Rattle.p10_fit.specs.private.Scoping.{count_of}
use Rattle.p10_fit.proofs.Counting.{counts_left, counts_left_beside, last_counted, at_most}
use Rattle.p10_fit.proofs.scope.Scope.leave.Goals as goal

pub overflow_sub-seen : goal.overflow_sub-seen
overflow_sub-seen c =
    let more : c.in-Some-get_mut.seen.now ≡ count_of c.in-Some.number c.pop.new.self.items + 1 =
    last_counted c.loop-self.self.counts.items c.loop-self.self.numbers.items c.pop.new.self.items c.in-Some.number c.in-Some-get_mut.seen.now c.loop-self.self.counted (omega (arith, c.in-Some-get_mut.ensures.variant.0 refl, c.loop-self.self.counts.ok.0)) c.in-Some-get_mut.ensures.value c.in-Some.ensures.items in
    omega (arith, more)

pub invariant_of-self : goal.invariant_of-self
invariant_of-self c = record {
  counted = counts_left c.loop-self.self.counts.items c.loop-self.self.numbers.items c.pop.new.self.items c.in-Some.number c.in-Some-get_mut.seen.now c.loop-self.self.counted (omega (arith, c.in-Some-get_mut.ensures.variant.0 refl, c.loop-self.self.counts.ok.0)) c.in-Some-get_mut.ensures.value c.in-Some.ensures.items;
}

pub invariant_of-self-in_default-get_mut : goal.invariant_of-self-in_default-get_mut
invariant_of-self-in_default-get_mut c =
    let past : length c.loop-self.self.counts.items ≤ c.in-Some.number = at_most c.in-Some.number (length c.loop-self.self.counts.items) (λ lt.
    let there : false ≡ true = c.in_default-get_mut.ensures.variant.1 (omega (arith, lt, c.loop-self.self.counts.ok.0)) in cc) in
    record { counted = counts_left_beside c.loop-self.self.counts.items c.loop-self.self.numbers.items c.pop.new.self.items c.in-Some.number c.loop-self.self.counted past c.in-Some.ensures.items }
