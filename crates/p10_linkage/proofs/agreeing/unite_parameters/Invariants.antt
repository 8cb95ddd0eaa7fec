use Rattle.std.proofs.Common.{◌≡◌, length, drop}
use Rattle.p10_core.specs.Representing.{represented}
use Rattle.p10_core.specs.Views.{plain_types}
use Rattle.p10_linkage.specs.Between.{parameters_united}
use Rattle.p10_linkage.specs.Linkage.{parameters_of}
use Rattle.p10_linkage.specs.LinkedViews.{plain_kind}
use Rattle.p10_linkage.proofs.agreeing.unite_parameters.Given as goal

abbrev pub invariant-loop-place : goal.invariant-loop-place
invariant-loop-place l = record {
  long : length l.stands.numbers.items ≡ length l.fn.stands.numbers.items;
  same : parameters_united (drop l.place (parameters_of (plain_kind l.one))) (drop l.place (parameters_of (plain_kind l.other))) (represented (plain_types l.types) l.stands.numbers.items)
      ≡ parameters_united (parameters_of (plain_kind l.one)) (parameters_of (plain_kind l.other)) (represented (plain_types l.types) l.fn.stands.numbers.items);
}
