use Rattle.std.proofs.Common.{get_or, refl, ◌∙◌, arith}
use Rattle.std.proofs.lemmas.List.{length-set, length-map, with_items_is}
use Rattle.p10_macros.proofs.SetsOfMacros.{extends_all, extends_itself}
use Rattle.p10_macros.specs.private.Traces.{lists_of}
use Rattle.p10_macros.proofs.Uniting.{no_value_given, one_vec_given, all_values_given}
use Rattle.p10_macros.proofs.giving.give_all.Goals as goal

pub loop-value-init : goal.loop-value-init
loop-value-init c = record { grown = extends_itself c.args.origins.now; long = refl; gives = no_value_given _ c.args.name c.args.from (lists_of c.args.values.now) }

pub returns-in_err-give-clause-grown : goal.returns-in_err-give-clause-grown
returns-in_err-give-clause-grown c = extends_all _ _ _ c.loop-value.invariant.grown c.give.ensures.grown

pub loop-value-preserved : goal.loop-value-preserved
loop-value-preserved c = record {
  grown = extends_all _ _ _ c.loop-value.invariant.grown c.in_ok-give.ensures.grown;
  long = length-set _ _ _ ∙ c.loop-value.invariant.long;
  gives = one_vec_given _ _ _ c.args.name c.args.from (lists_of c.args.values.now) c.loop-value.values c.loop-value.value-index _ c.value-item.result _ _ c.give.new.value
      c.in_ok-give.ensures.grown (omega arith) (omega arith) c.as_mut_slice.ensures.value (with_items_is (get_or c.loop-value.values c.loop-value.value-index c.value-item.result) _ (omega (arith, c.give.auto.value, c.as_mut_slice.ensures.len))) c.in_ok-give.ensures.given c.loop-value.invariant.gives;
}

pub returns-clause-given : goal.returns-clause-given
returns-clause-given c =
    all_values_given _ _ c.args.name c.args.from (lists_of c.args.values.now) (lists_of c.loop-value.values) c.loop-value.value-index
    (omega (arith, c.loop-value.invariant.long, length-map c.args.values.now (λ value. value.items))) c.loop-value.invariant.gives
