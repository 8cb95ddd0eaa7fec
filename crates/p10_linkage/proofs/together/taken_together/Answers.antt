use Rattle.std.proofs.Common.{[], map, ◌∙◌, ap}
use Rattle.p10_elabx.specs.First.{only_first}
use Rattle.p10_heads.specs.HeadViews.{plain_head}
use Rattle.p10_linkage.specs.Between.{definitions_noted, taken_together}
use Rattle.p10_linkage.proofs.together.taken_together.Goals as goal

pub returns : goal.returns
unfolding taken_together
returns c =
    c.in_ok-note_all-2.ensures
    ∙ ap (definitions_noted only_first [] (map plain_head c.args.objects.now))
    (c.in_ok-note_all.ensures ∙ ap (definitions_noted only_first [] (map plain_head c.args.functions.now)) c.in_ok-agree_all.ensures)
