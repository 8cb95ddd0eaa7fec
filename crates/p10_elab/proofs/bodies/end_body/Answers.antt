use Rattle.std.proofs.Common.{◌++◌, map, ap, ◌∙◌}
use Rattle.std.proofs.lemmas.List.{map-append}
use Rattle.p10_elabx.specs.First.{only_first}
use Rattle.p10_elabx.specs.Scopes.{left}
use Rattle.p10_elabd.specs.Standing.{PlainStanding}
use Rattle.p10_elabd.specs.Views.{plain_standing}
use Rattle.p10_elabs.specs.LocalViews.{numbered_object}
use Rattle.p10_elab.specs.Knowledge.{Known}
use Rattle.p10_elab.specs.KnownViews.{plain_known}
use Rattle.p10_elab.specs.private.Bodies.{marks_where}
use Rattle.p10_elab.proofs.bodies.end_body.Goals as goal

pub returns : goal.returns
returns c =
    let k : Known = plain_known c.args.known.now in
    let s = c.note_marks.ensures ∙ (λ i. marks_where only_first (c.is_main_name.ensures i) (c.deref.ensures.value i) (plain_standing c.args.done.local.standing)) in
    let standing = (λ i. record (plain_standing c.note_marks.new.standing) { scope = c.leave.ensures i }) ∙ ap (λ (r : PlainStanding). record r { scope = left r.scope }) s in
    let objects = ap (map numbered_object) c.in_ok-append.ensures.items ∙ map-append numbered_object c.args.known.now.block_objects.items c.args.done.local.objects.items in
    λ i. record k { standing = standing i; functions = c.in_ok-put_function.ensures i; block_objects = objects i }
