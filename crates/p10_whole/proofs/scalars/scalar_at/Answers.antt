use Rattle.std.proofs.Common.{false, ap, Bor}
use Rattle.p10_core.specs.declared.c_type.CType.{CType}
use Rattle.p10_core.specs.Types.{plain_type, plain_form_of_type, structure}
use Rattle.p10_core.specs.Views.{plain_types}
use Rattle.p10_whole.specs.private.Scalars.{HasScalar}
use Rattle.p10_whole.proofs.ScalarPlaces.{if_some_on, scalar_on, structure_scalar}
use Rattle.p10_whole.proofs.scalars.scalar_at.Goals as goal

pub returns-in-Struct : goal.returns-in-Struct
returns-in-Struct c =
    let P : Bor CType → Type 0 = λ u. HasScalar (plain_types c.args.types.now) (structure false c.in-Struct.number) c.in_ok-base.base.place (plain_type u.now) in
    let Q : Bor CType → Type 0 = λ u. HasScalar (plain_types c.args.types.now) (plain_type c.args.t.now) c.args.place (plain_type u.now) in
    if_some_on P Q
    (λ u h. scalar_on (plain_types c.args.types.now) (plain_type c.args.t.now) (plain_type c.in_ok-base.base.ty.now) (plain_type u.now) c.args.place c.in_ok-base.base.place c.in_ok-base.ensures
    (structure_scalar (plain_types c.args.types.now) (plain_type c.in_ok-base.base.ty.now) (plain_type u.now) c.in_ok-base.base.ty.now.is_const c.in-Struct.number c.in_ok-base.base.place
    (ap (plain_form_of_type c.in_ok-base.base.ty.now.is_const) c.in-Struct.is) h))
    c.scalar_in_structure.result c.scalar_in_structure.ensures

pub returns-in_default : goal.returns-in_default
returns-in_default c =
    let P : Bor CType → Type 0 = λ u. HasScalar (plain_types c.args.types.now) (plain_type c.in_ok-base.base.ty.now) c.in_ok-base.base.place (plain_type u.now) in
    let Q : Bor CType → Type 0 = λ u. HasScalar (plain_types c.args.types.now) (plain_type c.args.t.now) c.args.place (plain_type u.now) in
    if_some_on P Q
    (λ u h. scalar_on (plain_types c.args.types.now) (plain_type c.args.t.now) (plain_type c.in_ok-base.base.ty.now) (plain_type u.now) c.args.place c.in_ok-base.base.place c.in_ok-base.ensures h)
    c.only_scalar.result (c.only_scalar.ensures (plain_types c.args.types.now))
