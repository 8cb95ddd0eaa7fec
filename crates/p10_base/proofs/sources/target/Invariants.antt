use Rattle.std.proofs.Common.{◌≡◌, drop}
use Rattle.p10_base.specs.Gathered.{target_of}
use Rattle.p10_base.proofs.sources.target.Given as goal

abbrev pub invariant-loop-link : goal.invariant-loop-link
invariant-loop-link l = target_of l.name l.angle l.links ≡ target_of l.name l.angle (drop l.link-index l.links)
