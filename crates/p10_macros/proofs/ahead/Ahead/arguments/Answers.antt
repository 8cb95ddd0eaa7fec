use Rattle.std.proofs.Common.{ap, ◌∙◌, arith}
use Rattle.std.specs.Prelude.{reverse}
use Rattle.std.proofs.lemmas.List.{length-reverse}
use Rattle.p10_macros.specs.declared.pending.Pending.{Pending}
use Rattle.p10_macros.proofs.Links.{past_at}
use Rattle.p10_macros.proofs.Parts.{counting_begun, counting_done, counting_more, place_within, next_place}
use Rattle.p10_macros.proofs.ahead.Ahead.arguments.Goals as goal

pub loop-place-init : goal.loop-place-init
loop-place-init c = counting_begun (reverse c.args.self.now.words.items) c.args.exits c.requires.exits

pub overflow_sub-place : goal.overflow_sub-place
overflow_sub-place c = (place_within _ _ _ _ c.requires.closed c.loop-place.invariant c.loop-place-test.true).0

pub index-requires : goal.index-requires
index-requires c =
    let (more, less) = place_within _ _ _ _ c.requires.closed c.loop-place.invariant c.loop-place-test.true in
    omega (arith, more, less, length-reverse c.args.self.now.words.items, c.args.self.now.words.ok.0)

pub loop-place-smaller : goal.loop-place-smaller
loop-place-smaller c =
    let (more, less) = place_within _ _ _ _ c.requires.closed c.loop-place.invariant c.loop-place-test.true in
    next_place _ _ _ _ c.requires.closed c.loop-place.invariant c.loop-place-test.true _
    (ap (λ (p : Pending). p.exits) c.index.ensures ∙ past_at c.args.self.now.words.items c.loop-place.place _ more (omega (arith, less, length-reverse c.args.self.now.words.items))) c.args.self.now.linked

pub loop-place-preserved : goal.loop-place-preserved
loop-place-preserved c =
    let (more, less) = place_within _ _ _ _ c.requires.closed c.loop-place.invariant c.loop-place-test.true in
    counting_more _ _ _ _ c.requires.closed c.loop-place.invariant c.loop-place-test.true _
    (ap (λ (p : Pending). p.exits) c.index.ensures ∙ past_at c.args.self.now.words.items c.loop-place.place _ more (omega (arith, less, length-reverse c.args.self.now.words.items))) c.args.self.now.linked

pub returns : goal.returns
returns c = counting_done _ _ _ _ c.requires.closed c.loop-place.invariant c.loop-place-test.false
