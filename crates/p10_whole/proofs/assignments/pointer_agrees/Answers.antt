use Rattle.std.proofs.Common.{◌≡◌, false, ap, subst, inl, inr}
use Rattle.p10_core.specs.Types.{integer, pointer, plain_type}
use Rattle.p10_core.specs.Rows.{binary_row}
use Rattle.p10_whole.specs.private.Shows.{Shows}
use Rattle.p10_whole.proofs.Updating.{move_agrees}
use Rattle.p10_whole.proofs.assignments.pointer_agrees.Goals as goal

pub returns-in-Add : goal.returns-in-Add
returns-in-Add c = λ ss mark whole.
    let by = subst (λ i. Shows c.is_kind.result (c.args.by ≡ i)) c.promote.ensures c.is_kind.ensures in
    elim c.in-Add.is [ inl e ↦ move_agrees ss _ mark _ _ _ _ _ whole (ap (λ op. binary_row ss op false false (pointer false (plain_type c.args.target.now)) (integer false c.args.by)) e) c.is_pointer_to.ensures by | inr e ↦ move_agrees ss _ mark _ _ _ _ _ whole (ap (λ op. binary_row ss op false false (pointer false (plain_type c.args.target.now)) (integer false c.args.by)) e) c.is_pointer_to.ensures by ]
