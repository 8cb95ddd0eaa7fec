use Rattle.std.proofs.Common.{List, map, sym, subst}
use Rattle.std.specs.Prelude.{All}
use Rattle.p10_core.specs.Views.{plain_function, plain_object}
use Rattle.p10_userules.specs.declared.parts.Stretch.{Stretch}
use Rattle.p10_userules.specs.declared.parts.BlockParts.{BlockParts}
use Rattle.p10_userules.specs.Occurrences.{occurrences_in_statements}
use Rattle.p10_userules.specs.Blocks.{blocks_of}
use Rattle.p10_userules.specs.private.Spreads.{HasRising}
use Rattle.p10_userules.proofs.Laying.{has_rising}
use Rattle.p10_userules.proofs.Collected.{function_at}
use Rattle.p10_userules.proofs.rules.put_functions.Goals as goal

pub put_function-requires-clause-rising : goal.put_function-requires-clause-rising
put_function-requires-clause-rising c =
    let none : Stretch = record { start = 0; end = 0 } in
    let objects = map plain_object c.args.uses.now.objects.now in
    let is = function_at objects c.args.uses.now.all.now c.args.functions.now c.args.stretches.now c.args.blocks.now c.loop-place.place c.loop-place.invariant.1 c.requires.stretches c.requires.blocks c.loop-place-test.true
    c.index-functions-place.result none c.index-blocks-place.result c.index-functions-place.is c.index-blocks-place.is in
    subst (λ (bs : List BlockParts). All HasRising bs) (sym c.as_slice.ensures)
    (has_rising objects _ (occurrences_in_statements objects (plain_function c.index-functions-place.result).body) c.index-blocks-place.result (blocks_of (plain_function c.index-functions-place.result)) is.are)
