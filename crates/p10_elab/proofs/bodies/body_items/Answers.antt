use Rattle.std.proofs.Common.{map, ap, ◌∙◌}
use Rattle.p10_syn.specs.Trees.{statement_row}
use Rattle.p10_syn.specs.BuiltStatements.{statement_of}
use Rattle.p10_elabx.specs.First.{only_first}
use Rattle.p10_elabd.specs.Views.{plain_standing, plain_parameter, plain_function}
use Rattle.p10_heads.specs.PlainHeads.{plain_heads}
use Rattle.p10_elabs.specs.LocalViews.{plain_local}
use Rattle.p10_elabs.specs.Statements.{no_items_yet, items_done}
use Rattle.p10_elab.specs.Outer.{names_noted, body_begun}
use Rattle.p10_elab.specs.private.Bodies.{frame_for}
use Rattle.p10_elab.specs.private.BodyHeads.{plain_body_head}
use Rattle.p10_elab.proofs.bodies.body_items.Goals as goal

pub returns : goal.returns
returns c =
    let body = statement_row (map statement_of c.args.body.now) in
    let t = plain_function c.args.function in
    let standing = c.note_names.ensures ∙ ap (λ ps. names_noted only_first (map plain_parameter ps) (plain_standing c.args.standing)) c.deref.ensures.value in
    let frame = c.in_ok-frame.ensures ∙ ap (λ ps. frame_for (plain_heads c.args.setting.now.heads.now) (plain_body_head c.args.head.now) (map plain_parameter ps) body) c.deref-2.ensures.value in
    let local = c.in_ok-local.ensures ∙ (λ i. body_begun (frame i) t (standing i)) in
    let items = c.no_items.ensures (plain_local c.in_ok-local.local) ∙ ap no_items_yet local in
    c.in_ok-items.ensures ∙ (λ i. items_done only_first (frame i) (c.is_main_name-in_main.ensures i) (c.nothing.ensures i) (items i) body)
