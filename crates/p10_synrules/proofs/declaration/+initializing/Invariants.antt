use Rattle.std.proofs.Common.{◌≡◌, ◌++◌, map, drop}
use Rattle.p10_syn.specs.Trees.{initializer_row}
use Rattle.p10_syn.specs.BuiltStatements.{initializer_of}
use Rattle.p10_synrules.specs.Parts.{initializers_parts}
use Rattle.p10_synrules.specs.private.Views.{plain_parts}
use Rattle.p10_synrules.proofs.declaration.+initializing.Given as goal

-- what is put down, and what is left
abbrev pub invariant-put_initializers-loop-item : goal.invariant-put_initializers-loop-item
invariant-put_initializers-loop-item l =
    plain_parts l.into ++ initializers_parts (initializer_row (map initializer_of (drop l.item-index l.items))) ≡ plain_parts l.fn.into ++ initializers_parts (initializer_row (map initializer_of l.items))
