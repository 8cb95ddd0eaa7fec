use Rattle.std.proofs.Common.{◌≡◌, [], map, length, take, drop}
use Rattle.p10_core.specs.Completing.{AreBuilt}
use Rattle.p10_core.specs.Representing.{represented}
use Rattle.p10_core.specs.Views.{plain_types}
use Rattle.p10_elabx.specs.First.{only_first, problems}
use Rattle.p10_elabd.specs.Standing.{PlainStanding}
use Rattle.p10_linkage.specs.Linkage.{Linked}
use Rattle.p10_linkage.specs.LinkedViews.{linked_of_name}
use Rattle.p10_linkage.specs.Between.{all_agreeing}
use Rattle.p10_linkage.specs.private.Grouping.{group_of}
use Rattle.p10_linkage.specs.private.Agreeing.{stood}
use Rattle.p10_linkage.specs.private.Covering.{NamesAreCovered}
use Rattle.p10_linkage.proofs.Turns.{AreGrouped}
use Rattle.p10_linkage.proofs.between.agree_in_turn.Given as goal

abbrev pub invariant-loop-place : goal.invariant-loop-place
invariant-loop-place l = record {
  long : length l.stands.numbers.items ≡ length l.fn.stands.numbers.items;
  built : AreBuilt (represented (plain_types l.types) l.stands.numbers.items);
  grouped : AreGrouped (λ (x : Linked). x.name) (map linked_of_name l.linked) l.place (group_of l.known.all);
  covered : NamesAreCovered (represented (plain_types l.types) l.stands.numbers.items) (map linked_of_name l.linked) l.place (group_of l.known.kept);
  told : (s : PlainStanding) → all_agreeing only_first [] (map linked_of_name l.linked) (stood s (represented (plain_types l.types) l.fn.stands.numbers.items) (problems l.fn.problem))
      ≡ all_agreeing only_first (take l.place (map linked_of_name l.linked)) (drop l.place (map linked_of_name l.linked)) (stood s (represented (plain_types l.types) l.stands.numbers.items) (problems l.found));
}
