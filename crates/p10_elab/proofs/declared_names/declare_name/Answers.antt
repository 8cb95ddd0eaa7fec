use Rattle.std.proofs.Common.{refl, ap, ◌∙◌}
use Rattle.p10_elabx.specs.First.{only_first}
use Rattle.p10_heads.specs.PlainHeads.{plain_heads}
use Rattle.p10_elab.specs.Knowledge.{Known, with_linked}
use Rattle.p10_elab.specs.KnownViews.{plain_known}
use Rattle.p10_elab.proofs.declared_names.declare_name.Goals as goal

pub returns : goal.returns
returns c =
    let k : Known = plain_known c.args.known.now in
    c.in_ok-declare_linked.ensures ∙ ap (λ l. with_linked only_first (plain_heads c.args.setting.now.heads.now) l k) (c.linked_of-linked.ensures k refl refl)
