-- The next member is passed.
use Rattle.std.proofs.Common.{map, arith}
use Rattle.p10_core.specs.Types.{PlainMember, plain_member, bare}
use Rattle.p10_core.specs.Sizes.{scalars_of}
use Rattle.p10_core.specs.Views.{plain_types}
use Rattle.p10_machine.proofs.Items.{item_there}
use Rattle.p10_machine.proofs.TypesOfScalars.{left_next}
use Rattle.p10_machine.proofs.kinds.place_within.Goals as goal

pub loop-place-preserved : goal.loop-place-preserved
loop-place-preserved c =
    left_next (λ (x : PlainMember). scalars_of (plain_types c.args.types.now) (bare (plain_types c.args.types.now) x.type)) (map plain_member c.args.members.now) c.loop-place.place (plain_member c.index-members-place.result) c.loop-place.left c.in-Some.scalars c.args.number
    (item_there plain_member c.args.members.now c.loop-place.place c.index-members-place.result c.loop-place-test.true c.index-members-place.is) c.in-Some.ensures (omega (arith, c.if-left-scalars.false)) c.loop-place.invariant
