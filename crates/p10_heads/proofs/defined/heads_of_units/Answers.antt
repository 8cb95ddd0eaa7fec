use Rattle.std.proofs.Common.{◌+◌, ap, map, take, drop, refl, arith, length}
use Rattle.p10_syn.specs.BuiltStatements.{external_of}
use Rattle.p10_heads.specs.Heads.{heads_of_roots}
use Rattle.p10_heads.specs.Roots.{roots_of}
use Rattle.p10_heads.proofs.CutRoots.{split_rest, some_left, none_left, fits_after}
use Rattle.p10_heads.proofs.RootHeads.{functions_more, objects_more, all_heads}
use Rattle.p10_heads.proofs.defined.heads_of_units.Goals as goal

pub loop-place-preserved : goal.loop-place-preserved
loop-place-preserved c =
    let two = split_rest c.args.units.now c.rest_from-rest.result.now c.loop-place.place c.root_length-count.result (c.loop-place.place + c.root_length-count.result) c.rest_from-rest.ensures c.root_length-count.ensures.value refl in
    let some = some_left c.args.units.now c.loop-place.place c.loop-place-test.true in
    record {
      within = fits_after c.args.units.now c.loop-place.place c.root_length-count.result c.loop-place.invariant.within (omega (arith, c.root_length-count.ensures.within, ap length c.rest_from-rest.ensures));
      functions = functions_more c.loop-place.number _ (map external_of (drop c.loop-place.place c.args.units.now)) (map external_of (take c.root_length-count.result c.rest_from-rest.result.now)) (map external_of (drop (c.loop-place.place + c.root_length-count.result) c.args.units.now)) _ _ _ some two c.in_ok-number.ensures c.in_ok-put_root.ensures.functions c.loop-place.invariant.functions;
      objects = objects_more c.loop-place.number _ (map external_of (drop c.loop-place.place c.args.units.now)) (map external_of (take c.root_length-count.result c.rest_from-rest.result.now)) (map external_of (drop (c.loop-place.place + c.root_length-count.result) c.args.units.now)) _ _ _ some two c.in_ok-number.ensures c.in_ok-put_root.ensures.objects c.loop-place.invariant.objects;
    }

pub returns : goal.returns
returns c =
    all_heads c.loop-place.number _ _ (roots_of (map external_of (drop c.loop-place.place c.args.units.now))) _ (heads_of_roots 0 (roots_of (map external_of c.args.units.now))) c.in_ok-heads.ensures
    (none_left c.args.units.now c.loop-place.place c.loop-place-test.false) c.loop-place.invariant.functions c.loop-place.invariant.objects
