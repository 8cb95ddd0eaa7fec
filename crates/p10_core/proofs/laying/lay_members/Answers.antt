use Rattle.std.proofs.Common.{map, arith}
use Rattle.p10_core.specs.Types.{plain_member}
use Rattle.p10_core.proofs.MemberLayouts.{cut_members, first_object, large_first, padded_lies}
use Rattle.p10_core.proofs.laying.lay_members.Goals as goal

pub with_type-requires-clause-object : goal.with_type-requires-clause-object
with_type-requires-clause-object c =
    first_object _ _ _ _ c.loop-member.invariant.objects (cut_members c.args.members.now c.loop-member.member-index c.member-item.result c.loop-member-test.true c.member-item.is)

pub returns-in-None : goal.returns-in-None
returns-in-None c =
    large_first _ c.args.types.now.built.whole (map plain_member c.args.members.now) _ _ _ _ c.loop-member.invariant.together c.loop-member.invariant.objects
    (cut_members c.args.members.now c.loop-member.member-index c.member-item.result c.loop-member-test.true c.member-item.is) c.in-None.ensures

pub returns : goal.returns
returns c = padded_lies _ c.args.members.now c.loop-member.member-index c.loop-member.lay _ (omega (arith, c.loop-member-test.false)) c.loop-member.invariant.together c.padded.ensures
