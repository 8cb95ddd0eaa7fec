-- The scalars of the next member are counted.
use Rattle.std.proofs.Common.{map, arith}
use Rattle.p10_core.specs.Types.{PlainMember, plain_member, bare}
use Rattle.p10_core.specs.Sizes.{scalars_of}
use Rattle.p10_core.specs.Views.{plain_types}
use Rattle.p10_compile.proofs.Items.{item_there}
use Rattle.p10_compile.proofs.Members.{taken_next}
use Rattle.p10_compile.proofs.widths.scalars_of_first.Goals as goal

pub loop-place-preserved : goal.loop-place-preserved
loop-place-preserved c = (
  omega (arith, c.if-place-number.false),
  taken_next (λ (x : PlainMember). scalars_of (plain_types c.args.types.now) (bare (plain_types c.args.types.now) x.type)) (map plain_member c.args.members.now) c.loop-place.place (plain_member c.index-members-place.result) c.loop-place.before c.in-Some.scalars c.in-Some-checked_add.more
      (item_there plain_member c.args.members.now c.loop-place.place c.index-members-place.result c.loop-place-test.true c.index-members-place.is) c.in-Some.ensures c.loop-place.invariant.1 c.in-Some-checked_add.ensures.1,
)
