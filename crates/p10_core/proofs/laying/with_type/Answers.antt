use Rattle.std.proofs.Common.{◌+◌, ◌||◌, max, ◌∙◌, ap, arith}
use Rattle.p10_core.specs.Sizes.{aligned}
use Rattle.p10_core.proofs.ScalarCounts.{filled}
use Rattle.p10_core.proofs.MemberLayouts.{most_is, object_small, alignment_some, alignment_low, aligned_at_most, with_small}
use Rattle.p10_core.proofs.laying.with_type.Goals as goal

pub aligned-requires-clause-place : goal.aligned-requires-clause-place
aligned-requires-clause-place c = omega (arith, c.requires.small.bytes, most_is)

pub aligned-requires-clause-low : goal.aligned-requires-clause-low
aligned-requires-clause-low c = omega (arith, c.alignment-alignment.ensures, alignment_some _ c.args.types.now.built.whole _ c.requires.object)

pub aligned-requires-clause-high : goal.aligned-requires-clause-high
aligned-requires-clause-high c = omega (arith, c.alignment-alignment.ensures, alignment_low _ c.args.types.now.built.whole _ c.requires.object)

pub overflow_add-bytes : goal.overflow_add-bytes
overflow_add-bytes c =
    let e = c.aligned.ensures ∙ ap (aligned c.args.lay.now.bytes) c.alignment-alignment.ensures in
    omega (
      arith,
      e,
      aligned_at_most c.args.lay.now.bytes _ (alignment_low _ c.args.types.now.built.whole _ c.requires.object),
      c.requires.small.bytes,
      c.size.ensures,
      object_small _ c.args.types.now.built.whole _ c.requires.object,
      most_is,
    )

pub returns-then-bytes-gt-MOST_BYTES : goal.returns-then-bytes-gt-MOST_BYTES
returns-then-bytes-gt-MOST_BYTES c =
    let e = c.aligned.ensures ∙ ap (aligned c.args.lay.now.bytes) c.alignment-alignment.ensures in
    omega (arith, c.if-bytes-gt-MOST_BYTES.true, e, c.size.ensures, most_is)

pub overflow_add-result : goal.overflow_add-result
overflow_add-result c =
    omega (
      arith,
      c.requires.small.filled,
      c.requires.small.bytes,
      c.scalars.ensures,
      (filled _ c.args.types.now.built.whole _ c.requires.object).enough,
      object_small _ c.args.types.now.built.whole _ c.requires.object,
      most_is,
    )

pub returns : goal.returns
returns c =
    let e = c.aligned.ensures ∙ ap (aligned c.args.lay.now.bytes) c.alignment-alignment.ensures in (
      λ i. record {
        past = e i + c.size.ensures i;
        alignment = (c.max.ensures ∙ ap (max c.args.lay.now.alignment) c.alignment-alignment.ensures) i;
        scalars = c.args.lay.now.scalars + c.scalars.ensures i;
        constant = c.args.lay.now.has_const || c.has_const.ensures i;
      },
      with_small _ _ c.requires.small (filled _ c.args.types.now.built.whole _ c.requires.object) (omega (arith, c.if-bytes-gt-MOST_BYTES.false, e, c.size.ensures, most_is)),
    )
