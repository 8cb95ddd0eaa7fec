use Rattle.std.proofs.Common.{arith}
use Rattle.std.proofs.lemmas.Result.{err_from_is_err_and}
use Rattle.p10_macros.specs.private.KnownMacros.{plain_known}
use Rattle.p10_macros.specs.private.Putting.{part_of}
use Rattle.p10_macros.specs.private.Traces.{lists_of}
use Rattle.p10_macros.proofs.Putting.{part_is, list_more, list_short}
use Rattle.p10_macros.proofs.replacement.put_list.Goals as goal

pub loop-index-preserved : goal.loop-index-preserved
loop-index-preserved c = record {
  inside = omega arith;
  puts = list_more (part_of (plain_known c.args.known.now) (lists_of c.args.values.now) c.args.site.at c.args.site.from) c.args.known.now.made.body.now c.args.chosen.now _ _ _ c.loop-index.index _ _ _ _ _
      c.loop-index-test.true c.loop-index.invariant.inside c.requires
      (part_is (plain_known c.args.known.now) (lists_of c.args.values.now) c.args.site.at c.args.site.from c.args.known.now.made.body.now _ c.place_chosen-place.result _ _ _ _ c.place_chosen-place.ensures (c.parameter.ensures _) c.value_at.ensures c.at_use-word.ensures)
      c.loop-index.invariant.puts c.in_ok-left.ensures.ok;
}

pub returns-in_err-left-clause-err : goal.returns-in_err-left-clause-err
returns-in_err-left-clause-err c =
    let p = err_from_is_err_and c.from_residual.result c.from_residual.ensures.1 in
    rw (p.1, p.2) (list_short (part_of (plain_known c.args.known.now) (lists_of c.args.values.now) c.args.site.at c.args.site.from) c.args.known.now.made.body.now c.args.chosen.now _ _ c.loop-index.index _ _ _ _ c.in_err-left.field-0.0
    c.loop-index-test.true c.loop-index.invariant.inside c.requires
    (part_is (plain_known c.args.known.now) (lists_of c.args.values.now) c.args.site.at c.args.site.from c.args.known.now.made.body.now _ c.place_chosen-place.result _ _ _ _ c.place_chosen-place.ensures (c.parameter.ensures _) c.value_at.ensures c.at_use-word.ensures)
    c.loop-index.invariant.puts c.in_err-left.ensures.err)
