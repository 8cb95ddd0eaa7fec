use Rattle.p10_base.proofs.Naming.{place_before}
use Rattle.p10_macros.proofs.SetsOfMacros.{below_more, continues_with, has_one}
use Rattle.p10_macros.proofs.Results.{if_ok_so}
use Rattle.p10_macros.proofs.origin.Origins.with_macro.Goals as goal

pub invariant_of-self-2 : goal.invariant_of-self-2
invariant_of-self-2 c = record {
  below = c.with_number.ensures.below _
      (below_more c.args.self.now.names c.add.new.self c.args.self.now.sets.items (continues_with c.args.self.now.names c.add.new.self c.args.name.now c.in_ok-number.ensures.ok).longer c.args.self.now.below)
      (place_before c.add.new.self c.args.name.now c.in_ok-number.number c.in_ok-number.ensures.place);
}

pub returns-clause-one : goal.returns-clause-one
returns-clause-one c =
    if_ok_so c.with_number.result c.with_number.ensures.one (λ set' more.
    has_one c.args.self.now _ c.args.name.now c.in_ok-number.number c.args.set set' c.in_ok-number.ensures.ok c.in_ok-number.ensures.place more)
