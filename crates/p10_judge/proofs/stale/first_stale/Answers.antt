use Rattle.std.proofs.Common.{length, map, sym, ap, ◌∙◌}
use Rattle.std.specs.Prelude.{option_map}
use Rattle.p10_cert.specs.Sealed.{bytes_of}
use Rattle.p10_judge.specs.Kept.{kept_of, stale_of}
use Rattle.p10_judge.proofs.Differing.{counted, found_here, passed_over}
use Rattle.p10_judge.proofs.stale.first_stale.Goals as goal

pub returns-in-Some : goal.returns-in-Some
returns-in-Some c =
    sym (c.loop-digests.invariant.same
    ∙ found_here c.loop-digests.number (map kept_of c.loop-digests.digests.now) (map bytes_of c.loop-digests.others.now) (stale_of c.in-Some.stale) (sym c.stale_head.ensures ∙ ap (option_map stale_of) c.in-Some.is))

pub loop-digests-preserved : goal.loop-digests-preserved
loop-digests-preserved c = record {
  same = c.loop-digests.invariant.same
      ∙ passed_over c.loop-digests.number c.loop-digests.digests.now c.loop-digests.others.now c.in-len1-up.len_at_least c.in-len1-up-others.len_at_least (sym c.stale_head.ensures ∙ ap (option_map stale_of) c.in-None.is);
  count = counted c.loop-digests.number (length c.args.kept.now) c.loop-digests.digests.now c.in-len1-up.len_at_least c.loop-digests.invariant.count;
}
