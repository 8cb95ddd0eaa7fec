use Rattle.std.proofs.Common.{◌≡◌, ◌++◌, map, IfOk, List, ◌∙◌, ap, subst}
use Rattle.p10_core.specs.Typed.{PlainObject}
use Rattle.p10_core.specs.Views.{plain_object}
use Rattle.p10_program.specs.Numbered.{objects_from}
use Rattle.p10_elab.proofs.NumberedObjects.{with_number}
use Rattle.p10_elab.proofs.numbered.objects_of.Goals as goal

pub returns : goal.returns
returns c =
    let P : List PlainObject → Type 0 = λ all. IfOk c.objects_by_number.result (λ objects. map plain_object objects.items ≡ all) in
    subst P
    (ap (λ outer. objects_from 0 c.args.count (map with_number c.args.block_objects.items ++ outer))
    (c.in_ok-outer.ensures c.args.count c.args.visible.now (c.as_slice.ensures.value ∙ c.in_ok-groups.ensures)))
    c.objects_by_number.ensures
