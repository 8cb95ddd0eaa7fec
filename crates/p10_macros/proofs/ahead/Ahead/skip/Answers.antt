use Rattle.std.proofs.Common.{◌-◌, ℕ, take, ap, ◌∙◌}
use Rattle.p10_macros.proofs.Links.{linked_taken, exits_taken}
use Rattle.p10_macros.proofs.ahead.Ahead.skip.Goals as goal

pub invariant_of-self : goal.invariant_of-self
invariant_of-self c = record {
  linked = linked_taken c.args.self.now.words.items c.pop.new.self.items (c.pop.ensures.rest ∙ ap (λ (n : ℕ). take (n - 1) c.args.self.now.words.items) c.args.self.now.words.ok.0) c.args.self.now.linked;
}

pub returns-in-Some-clause-exits : goal.returns-in-Some-clause-exits
returns-in-Some-clause-exits c = exits_taken c.pop.new.self.items c.in-Some.next c.args.self.now.words.items c.in-Some.ensures.items c.args.self.now.linked
