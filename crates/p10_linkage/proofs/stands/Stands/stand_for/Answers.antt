use Rattle.std.proofs.Common.{subst, sym}
use Rattle.p10_linkage.specs.private.Reaching.{IsWithin}
use Rattle.p10_linkage.proofs.Reaching.{reached_on}
use Rattle.p10_linkage.proofs.stands.Stands.stand_for.Goals as goal

pub swap_within-requires : goal.swap_within-requires
swap_within-requires c = λ place there.
    subst (λ part. IsWithin part place) (sym c.part_of-part.ensures) (c.args.self.now.reached place c.args.old there)

pub invariant_of-self : goal.invariant_of-self
invariant_of-self c = record {
  reached =
      reached_on c.args.self.now.numbers.items c.swap_within.new.numbers.items c.args.self.now.reaches.items c.widen.new.reaches.items c.args.old c.args.new c.part_of-part.result c.args.self.now.reached c.part_of-part.ensures c.widen.ensures c.swap_within.ensures;
}
