use Rattle.std.proofs.Common.{◌+◌, ap, map, take, drop, refl, arith, length}
use Rattle.p10_syn.specs.BuiltStatements.{external_of}
use Rattle.p10_heads.specs.PlainHeads.{plain_heads}
use Rattle.p10_heads.proofs.CutRoots.{split_rest, some_left, none_left, fits_after}
use Rattle.p10_elab.specs.KnownViews.{plain_known}
use Rattle.p10_elab.proofs.PassedRoots.{root_more, no_root_more}
use Rattle.p10_elab.proofs.root_walk.roots_passed.Goals as goal

pub loop-place-preserved : goal.loop-place-preserved
loop-place-preserved c =
    let two = split_rest c.args.units.now c.rest_from-rest.result.now c.loop-place.place c.root_length-count.result (c.loop-place.place + c.root_length-count.result) c.rest_from-rest.ensures c.root_length-count.ensures.value refl in
    let some = some_left c.args.units.now c.loop-place.place c.loop-place-test.true in
    record {
      within = fits_after c.args.units.now c.loop-place.place c.root_length-count.result c.loop-place.invariant.within (omega (arith, c.root_length-count.ensures.within, ap length c.rest_from-rest.ensures));
      passed = root_more (plain_heads c.args.heads.now) (plain_known c.loop-place.known) _ _ (map external_of (drop c.loop-place.place c.args.units.now)) _ _ some two c.in_ok-root_passed.ensures c.loop-place.invariant.passed;
    }

pub returns : goal.returns
returns c = no_root_more (plain_heads c.args.heads.now) (plain_known c.loop-place.known) _ _ (none_left c.args.units.now c.loop-place.place c.loop-place-test.false) c.loop-place.invariant.passed
