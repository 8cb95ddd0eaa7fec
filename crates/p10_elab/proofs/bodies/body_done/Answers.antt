use Rattle.std.proofs.Common.{map, ap, ◌∙◌}
use Rattle.p10_syn.specs.Trees.{statement_row}
use Rattle.p10_syn.specs.BuiltStatements.{statement_of}
use Rattle.p10_elabx.specs.First.{only_first}
use Rattle.p10_elabd.specs.Views.{plain_standing, plain_function}
use Rattle.p10_heads.specs.PlainHeads.{plain_heads}
use Rattle.p10_elabs.specs.Statements.{Block'}
use Rattle.p10_elab.specs.Knowledge.{Known}
use Rattle.p10_elab.specs.KnownViews.{plain_known}
use Rattle.p10_elab.specs.private.Bodies.{items_of_body, body_ended}
use Rattle.p10_elab.specs.private.BodyHeads.{plain_body_head}
use Rattle.p10_elab.proofs.bodies.body_done.Goals as goal

pub returns : goal.returns
returns c =
    let k : Known = plain_known c.args.known.now in
    let x = plain_body_head c.args.head in
    c.in_ok-end_body.ensures
    ∙ ap (λ (b : Block'). body_ended only_first x b k)
    (c.in_ok-done.ensures
    ∙ ap (λ s. items_of_body only_first (plain_heads c.args.setting.now.heads.now) x (plain_function c.args.function) (statement_row (map statement_of c.args.body.now)) (plain_standing s)) c.replace-standing.ensures.value)
