use Rattle.std.proofs.Common.{◌≡◌, List, Some, false, ◌∙◌, ap, sym, subst, option_map, option_copied}
use Rattle.std.specs.Prelude.{All, map}
use Rattle.p10_core.specs.declared.structures.Member.{Member}
use Rattle.p10_core.specs.Types.{PlainMember, plain_type, plain_member, plain_body, body_of, structure}
use Rattle.p10_core.specs.Views.{plain_types}
use Rattle.p10_core.specs.WholePrograms.{IsObjectType}
use Rattle.p10_whole.specs.declared.scalars.Part.{Part}
use Rattle.p10_whole.specs.private.Scalars.{SameScalar, HasMember}
use Rattle.p10_whole.proofs.ScalarPlaces.{if_some_on, same_on, structure_place, body_objects}
use Rattle.p10_whole.proofs.scalars.part_of_structure.Goals as goal

pub member_at_scalar-requires : goal.member_at_scalar-requires
member_at_scalar-requires c =
    let P : List Member → Type 0 = λ ms. All (λ (m : PlainMember). IsObjectType (plain_types c.args.types.now) m.type) (map plain_member ms) in
    let known : Some (plain_body c.in_ok-body.body.now) ≡ body_of (plain_types c.args.types.now) c.args.number = sym (ap (λ r. option_map plain_body (option_copied r)) c.in_ok-body.was) ∙ c.body.ensures in
    record { objects = subst P (sym c.as_slice.ensures) (body_objects (plain_types c.args.types.now) c.are_whole.ensures c.args.number (plain_body c.in_ok-body.body.now) known) }

pub returns : goal.returns
returns c =
    let P : Part → Type 0 = λ e. SameScalar (plain_types c.args.types.now) (plain_type c.in_ok-member.member.ty.now) c.in_ok-member.member.place (plain_type e.ty.now) e.place in
    let Q : Part → Type 0 = λ e. SameScalar (plain_types c.args.types.now) (structure false c.args.number) c.args.place (plain_type e.ty.now) e.place in
    let R : List Member → Type 0 = λ ms. HasMember (plain_types c.args.types.now) (map plain_member ms) c.args.place (plain_type c.in_ok-member.member.ty.now) c.in_ok-member.member.place in
    let known : Some (plain_body c.in_ok-body.body.now) ≡ body_of (plain_types c.args.types.now) c.args.number = sym (ap (λ r. option_map plain_body (option_copied r)) c.in_ok-body.was) ∙ c.body.ensures in
    let at = structure_place (plain_types c.args.types.now) c.are_whole.ensures c.args.number (plain_body c.in_ok-body.body.now) c.args.place c.in_ok-member.member.place (plain_type c.in_ok-member.member.ty.now) known
    (subst R c.as_slice.ensures c.in_ok-member.ensures.scalar) in
    if_some_on P Q
    (λ e h. same_on (plain_types c.args.types.now) (structure false c.args.number) (plain_type c.in_ok-member.member.ty.now) (plain_type e.ty.now) c.args.place c.in_ok-member.member.place e.place at h)
    c.part_in_array.result c.part_in_array.ensures
