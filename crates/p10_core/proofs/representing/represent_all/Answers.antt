use Rattle.std.proofs.Common.{◌∙◌, map, refl, sym, arith}
use Rattle.std.proofs.lemmas.List.{length-map, length-set}
use Rattle.p10_core.specs.Types.{plain_structure}
use Rattle.p10_core.proofs.StandingFor.{none_represented, one_represented}
use Rattle.p10_core.proofs.representing.represent_all.Goals as goal

pub loop-place-init : goal.loop-place-init
loop-place-init c = record { long = refl; set = sym (none_represented (map plain_structure c.args.structures.now)) }

pub loop-place-preserved : goal.loop-place-preserved
loop-place-preserved c = record {
  long = length-set _ _ _ ∙ c.loop-place.invariant.long;
  set = one_represented c.loop-place.structures (map plain_structure c.args.structures.now) c.args.numbers.now c.loop-place.place 0 c.index-structures-place.result
      c.loop-place.invariant.set
      (omega (arith, c.loop-place-test.true, c.requires.as_many, c.loop-place.invariant.long))
      (omega (arith, c.loop-place-test.true, c.loop-place.invariant.long))
      (omega (arith, c.loop-place-test.true, c.loop-place.invariant.long, length-map c.args.structures.now plain_structure));
}
