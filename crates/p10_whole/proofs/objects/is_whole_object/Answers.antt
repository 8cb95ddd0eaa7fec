use Rattle.std.proofs.Common.{List, ◌∙◌, ap, length, sym, subst, refl}
use Rattle.std.specs.List.{All}
use Rattle.p10_core.specs.declared.program.Extent.{Extent}
use Rattle.p10_core.specs.Views.{plain_program, plain_function, plain_object}
use Rattle.p10_core.specs.WholePrograms.{IsExtent}
use Rattle.p10_whole.specs.private.Shows.{Shows}
use Rattle.p10_whole.proofs.Assembling.{object_is}
use Rattle.p10_whole.proofs.Each.{map_length}
use Rattle.p10_whole.proofs.Numbers.{at_most_shown}
use Rattle.p10_whole.proofs.objects.is_whole_object.Goals as goal

pub returns : goal.returns
returns c =
    let P : List Extent → Type 0 = λ extents. Shows c.are_extents-visible.result (All (IsExtent (plain_program c.args.program.now)) extents) in
    object_is (plain_program c.args.program.now) _ (plain_object c.args.object.now) _ _ _ _ _ _ _ _ refl (ap length c.as_slice.ensures ∙ sym (map_length plain_function c.args.program.now.functions))
    c.has_size.ensures (at_most_shown _ _) c.is_whole_initializer.ensures c.is_static_initializer.ensures c.is_below-owner.ensures c.is_integer.ensures (subst P c.as_slice-2.ensures c.are_extents-visible.ensures)
