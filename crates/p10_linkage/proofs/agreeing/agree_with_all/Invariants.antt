use Rattle.std.proofs.Common.{◌≡◌, map, length, drop}
use Rattle.p10_core.specs.Representing.{represented}
use Rattle.p10_core.specs.Views.{plain_types}
use Rattle.p10_linkage.specs.LinkedViews.{linked_of_name}
use Rattle.p10_linkage.specs.Between.{agreed}
use Rattle.p10_linkage.specs.private.Grouping.{rows_at}
use Rattle.p10_linkage.proofs.agreeing.agree_with_all.Given as goal

abbrev pub invariant-loop-place : goal.invariant-loop-place
invariant-loop-place l = record {
  long : length l.stands.numbers.items ≡ length l.fn.stands.numbers.items;
  same : agreed (rows_at (drop l.place-index l.before) (map linked_of_name l.linked)) (linked_of_name l.now) (represented (plain_types l.types) l.stands.numbers.items)
      ≡ agreed (rows_at l.before (map linked_of_name l.linked)) (linked_of_name l.now) (represented (plain_types l.types) l.fn.stands.numbers.items);
}
