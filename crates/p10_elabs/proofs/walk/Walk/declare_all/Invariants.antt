use Rattle.std.proofs.Common.{◌≡◌, map, drop}
use Rattle.p10_syn.specs.BuiltStatements.{init_declarator_of}
use Rattle.p10_elabs.specs.Addresses.{walked_declarators}
use Rattle.p10_elabs.specs.private.Walking.{plain_walk}
use Rattle.p10_elabs.proofs.walk.Walk.declare_all.Given as goal

abbrev pub invariant-loop-d : goal.invariant-loop-d
invariant-loop-d l =
    walked_declarators (plain_walk l.self) l.storage (map init_declarator_of (drop l.d-index l.all))
    ≡ walked_declarators (plain_walk l.fn.self) l.storage (map init_declarator_of l.all)
