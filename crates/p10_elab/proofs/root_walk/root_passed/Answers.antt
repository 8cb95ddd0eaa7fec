use Rattle.std.proofs.Common.{map, ap, ◌∙◌}
use Rattle.p10_syn.specs.BuiltStatements.{external_of}
use Rattle.p10_elabx.specs.First.{only_first}
use Rattle.p10_heads.specs.PlainHeads.{plain_heads}
use Rattle.p10_elab.specs.Knowledge.{Known}
use Rattle.p10_elab.specs.RootEnds.{known_after_all, root_ended}
use Rattle.p10_elab.proofs.root_walk.root_passed.Goals as goal

pub returns : goal.returns
returns c =
    let root = map external_of c.args.root.now in
    let done = c.in_ok-known_after_all.ensures ∙ ap (λ (k : Known). known_after_all only_first (plain_heads c.args.setting.now.heads.now) k root) c.begin_root.ensures in
    c.in_ok-end_root.ensures ∙ ap (root_ended only_first) done
