use Rattle.std.proofs.Common.{false, slice_index_or}
use Rattle.std.specs.Result.{is_ok}
use Rattle.p10_elab.proofs.Flags.{flags_kept}
use Rattle.p10_elab.proofs.sightings.Sightings.add.Goals as goal

pub invariant_of-self : goal.invariant_of-self
invariant_of-self c = record {
  flagged = λ n.
      flags_kept (is_ok c.put_sighting.result) n c.args.self.now.rows.items c.put_sighting.new.rows.items c.args.sighting (slice_index_or c.args.self.now.flags.items n false) _ c.put_sighting.ensures.rows
      (c.put_sighting.ensures.flags n) (c.args.self.now.flagged n);
}
