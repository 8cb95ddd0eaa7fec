use Rattle.std.proofs.Common.{◌≡◌, ◌++◌, drop}
use Rattle.std.specs.List.{flat_map}
use Rattle.p10_userules.specs.private.Knowing.{function_uses_of}
use Rattle.p10_userules.specs.private.Listing.{wide_in}
use Rattle.p10_userules.proofs.wide.put_block.Given as goal

abbrev pub invariant-loop-x : goal.invariant-loop-x
invariant-loop-x l =
    l.found.items ++ flat_map (wide_in (function_uses_of l.known) l.nested) (drop l.x-index l.declared) ≡ l.initial.found.items ++ flat_map (wide_in (function_uses_of l.known) l.nested) l.declared
