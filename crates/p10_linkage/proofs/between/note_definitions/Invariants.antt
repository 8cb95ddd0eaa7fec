use Rattle.std.proofs.Common.{◌≡◌, [], map, take, drop}
use Rattle.p10_elabx.specs.First.{only_first, problems}
use Rattle.p10_elabd.specs.Standing.{PlainStanding}
use Rattle.p10_heads.specs.HeadViews.{plain_head}
use Rattle.p10_linkage.specs.Between.{definitions_noted}
use Rattle.p10_linkage.specs.private.Grouping.{group_of}
use Rattle.p10_linkage.proofs.SharedNames.{AreShared}
use Rattle.p10_linkage.proofs.between.note_definitions.Given as goal

abbrev pub invariant-loop-place : goal.invariant-loop-place
invariant-loop-place l = record {
  grouped : AreShared (map plain_head l.heads) l.place (group_of l.groups);
  told : (s : PlainStanding) → definitions_noted only_first [] (map plain_head l.heads) (record s { problems = problems l.fn.problem })
      ≡ definitions_noted only_first (take l.place (map plain_head l.heads)) (drop l.place (map plain_head l.heads)) (record s { problems = problems l.found });
}
