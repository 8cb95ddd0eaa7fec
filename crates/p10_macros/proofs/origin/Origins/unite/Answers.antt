use Rattle.std.proofs.Common.{refl}
use Rattle.p10_macros.proofs.SetsOfMacros.{has_both}
use Rattle.p10_macros.proofs.Results.{if_ok_so}
use Rattle.p10_macros.proofs.origin.Origins.unite.Goals as goal

pub invariant_of-self : goal.invariant_of-self
invariant_of-self c = record { below = c.unite.ensures.below _ c.args.self.now.below }

pub returns-clause-both : goal.returns-clause-both
returns-clause-both c =
    if_ok_so c.unite.result c.unite.ensures.both (λ set all. λ known known'. has_both c.args.self.now _ c.args.these c.args.those set refl (all known known'))
