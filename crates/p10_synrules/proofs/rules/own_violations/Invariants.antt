use Rattle.std.proofs.Common.{◌≡◌, take}
use Rattle.std.specs.Prelude.{filter}
use Rattle.p10_synrules.specs.private.Listing.{is_own}
use Rattle.p10_synrules.proofs.rules.own_violations.Given as goal

-- those of the violations so far
abbrev pub invariant-loop-violation : goal.invariant-loop-violation
invariant-loop-violation l = l.own.items ≡ filter (is_own l.sources) (take l.violation-index l.all)
