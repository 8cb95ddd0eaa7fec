use Rattle.std.proofs.Common.{◌≡◌, ◌++◌, drop}
use Rattle.std.specs.List.{flat_map}
use Rattle.p10_userules.specs.private.Knowing.{function_uses_of}
use Rattle.p10_userules.specs.private.Listing.{wide_in_block}
use Rattle.p10_userules.proofs.wide.put_blocks.Given as goal

abbrev pub invariant-loop-block : goal.invariant-loop-block
invariant-loop-block l =
    l.found.items ++ flat_map (wide_in_block (function_uses_of l.known)) (drop l.block-index l.blocks) ≡ l.initial.found.items ++ flat_map (wide_in_block (function_uses_of l.known)) l.blocks
