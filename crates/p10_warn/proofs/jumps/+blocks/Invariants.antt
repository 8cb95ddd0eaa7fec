use Rattle.std.proofs.Common.{◌≡◌, ◌++◌, flat_map, drop}
use Rattle.p10_core.specs.Views.{plain_statements}
use Rattle.p10_warn.specs.Jumps.{blocks_among}
use Rattle.p10_warn.specs.private.Listing.{block_violations}
use Rattle.p10_warn.proofs.jumps.+blocks.Given as goal

-- the violations in the statements so far, and in those that are left, are those in all
abbrev pub invariant-push_among-loop-statement : goal.invariant-push_among-loop-statement
invariant-push_among-loop-statement l =
    l.violations.items ++ flat_map block_violations (blocks_among (plain_statements (drop l.statement-index l.all))) ≡ l.initial.violations.items ++ flat_map block_violations (blocks_among (plain_statements l.all))
