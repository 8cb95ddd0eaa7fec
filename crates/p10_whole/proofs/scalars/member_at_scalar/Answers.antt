use Rattle.std.proofs.Common.{◌+◌, ◌-◌, ◌∙◌, ap, drop, subst, sym, ◌<◌, ◌≤◌, ℕ}
use Rattle.std.specs.Prelude.{map, slice_get}
use Rattle.p10_core.specs.Types.{plain_member}
use Rattle.p10_core.specs.Sizes.{layout_of, scalars_of_members}
use Rattle.p10_core.specs.Views.{plain_types}
use Rattle.p10_whole.proofs.ScalarPlaces.{member_object, member_here, member_past}
use Rattle.p10_whole.proofs.scalars.member_at_scalar.Goals as goal

pub scalars-count-requires : goal.scalars-count-requires
scalars-count-requires c = record {
  object = member_object (plain_types c.args.types.now) c.args.members.now c.loop-member.member-index c.member-item.result c.loop-member-test.true c.member-item.is c.requires.objects;
}

pub returns-then-place-count-clause-object : goal.returns-then-place-count-clause-object
returns-then-place-count-clause-object c =
    member_object (plain_types c.args.types.now) c.args.members.now c.loop-member.member-index c.member-item.result c.loop-member-test.true c.member-item.is c.requires.objects

pub returns-then-place-count-clause-scalar : goal.returns-then-place-count-clause-scalar
returns-then-place-count-clause-scalar c =
    let P : ℕ → Type 0 = λ n. c.loop-member.place < n in
    record {
      same = c.loop-member.invariant
          ∙ member_here (plain_types c.args.types.now) c.args.members.now c.loop-member.member-index c.member-item.result c.loop-member.place c.loop-member-test.true c.member-item.is
          (subst P c.scalars-count.ensures c.if-place-count.true);
    }

pub loop-member-preserved : goal.loop-member-preserved
loop-member-preserved c =
    let P : ℕ → Type 0 = λ n. n ≤ c.loop-member.place in
    c.loop-member.invariant
    ∙ member_past (plain_types c.args.types.now) c.args.members.now c.loop-member.member-index c.member-item.result c.loop-member.place c.loop-member-test.true c.member-item.is
    (subst P c.scalars-count.ensures c.if-place-count.false)
    ∙ ap (λ n. slice_get (scalars_of_members (layout_of (plain_types c.args.types.now)) (map plain_member (drop (c.loop-member.member-index + 1) c.args.members.now))) (c.loop-member.place - n)) (sym c.scalars-count.ensures)
