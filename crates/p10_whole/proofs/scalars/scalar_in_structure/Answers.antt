use Rattle.std.proofs.Common.{false, ap, Bor}
use Rattle.p10_core.specs.declared.c_type.CType.{CType}
use Rattle.p10_core.specs.Types.{plain_type, plain_form_of_type, structure}
use Rattle.p10_core.specs.Views.{plain_types}
use Rattle.p10_whole.specs.private.Scalars.{HasScalar}
use Rattle.p10_whole.proofs.ScalarPlaces.{if_some_on, same_on, scalar_on, structure_same}
use Rattle.p10_whole.proofs.scalars.scalar_in_structure.Goals as goal

pub loop-turn-preserved : goal.loop-turn-preserved
loop-turn-preserved c =
    same_on (plain_types c.args.types.now) (structure false c.args.number) (structure false c.loop-turn.number) (structure false c.in-Struct.inner) c.args.place c.loop-turn.place c.in_ok-base.base.place c.loop-turn.invariant
    (structure_same (plain_types c.args.types.now) (structure false c.loop-turn.number) (plain_type c.in_ok-base.base.ty.now) c.in_ok-base.base.ty.now.is_const c.in-Struct.inner c.loop-turn.place c.in_ok-base.base.place
    (ap (plain_form_of_type c.in_ok-base.base.ty.now.is_const) c.in-Struct.is) c.in_ok-base.ensures)

pub returns-in_default : goal.returns-in_default
returns-in_default c =
    let P : Bor CType → Type 0 = λ u. HasScalar (plain_types c.args.types.now) (plain_type c.in_ok-base.base.ty.now) c.in_ok-base.base.place (plain_type u.now) in
    let Q : Bor CType → Type 0 = λ u. HasScalar (plain_types c.args.types.now) (structure false c.args.number) c.args.place (plain_type u.now) in
    let known = same_on (plain_types c.args.types.now) (structure false c.args.number) (structure false c.loop-turn.number) (plain_type c.in_ok-base.base.ty.now) c.args.place c.loop-turn.place c.in_ok-base.base.place c.loop-turn.invariant c.in_ok-base.ensures in
    if_some_on P Q (λ u h. scalar_on (plain_types c.args.types.now) (structure false c.args.number) (plain_type c.in_ok-base.base.ty.now) (plain_type u.now) c.args.place c.in_ok-base.base.place known h)
    c.only_scalar.result (c.only_scalar.ensures (plain_types c.args.types.now))
