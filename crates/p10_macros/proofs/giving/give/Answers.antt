use Rattle.std.proofs.Common.{refl, ◌∙◌, arith}
use Rattle.std.proofs.lemmas.List.{length-set}
use Rattle.p10_macros.proofs.SetsOfMacros.{extends_all, extends_itself}
use Rattle.p10_macros.proofs.Uniting.{none_given, one_given, all_given}
use Rattle.p10_macros.proofs.giving.give.Goals as goal

pub loop-part-init : goal.loop-part-init
loop-part-init c = record { grown = extends_itself c.args.origins.now; long = refl; gives = none_given _ c.args.name c.args.from _ }

pub returns-in_err-joined-clause-grown : goal.returns-in_err-joined-clause-grown
returns-in_err-joined-clause-grown c = extends_all _ _ _ c.loop-part.invariant.grown c.join.ensures.grown

pub loop-part-preserved : goal.loop-part-preserved
loop-part-preserved c = record {
  grown = extends_all _ _ _ c.loop-part.invariant.grown c.in_ok-joined.ensures.grown;
  long = length-set _ _ _ ∙ c.loop-part.invariant.long;
  gives = one_given _ _ _ c.args.name c.args.from _ c.in_ok-joined.joined.own _ c.in_ok-joined.joined.all _ c.loop-part.value c.loop-part.part-index _ _ c.at_use.result
      c.in_ok-joined.ensures.grown (omega arith) (omega arith) c.at_use.ensures c.in_ok-joined.ensures.own c.in_ok-joined.ensures.joined c.loop-part.invariant.gives;
}

pub returns-clause-given : goal.returns-clause-given
returns-clause-given c = all_given _ _ c.args.name c.args.from _ _ _ _ c.loop-part.part-index (omega (arith, c.loop-part.invariant.long)) c.loop-part.invariant.gives
