use Rattle.std.proofs.Common.{◌≡◌, ◌++◌, map, take}
use Rattle.std.specs.List.{flat_map}
use Rattle.p10_syn.specs.BuiltStatements.{init_declarator_of}
use Rattle.p10_synrules.specs.Parts.{init_declarator_parts}
use Rattle.p10_synrules.specs.private.Views.{plain_parts}
use Rattle.p10_synrules.proofs.declaration.put_init_declarators.Given as goal

-- the parts of the declarators so far were put down
abbrev pub invariant-loop-declared : goal.invariant-loop-declared
invariant-loop-declared l = plain_parts l.into ≡ plain_parts l.initial.into ++ flat_map (init_declarator_parts l.typedef) (map init_declarator_of (take l.declared-index l.all))
