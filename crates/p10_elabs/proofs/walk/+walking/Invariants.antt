use Rattle.std.proofs.Common.{◌≡◌, map, drop}
use Rattle.p10_syn.specs.Trees.{statement_row}
use Rattle.p10_syn.specs.BuiltStatements.{statement_of}
use Rattle.p10_elabs.specs.Addresses.{walked_all}
use Rattle.p10_elabs.specs.private.Walking.{plain_walk}
use Rattle.p10_elabs.proofs.walk.+walking.Given as goal

abbrev pub invariant-walk_all-loop-s : goal.invariant-walk_all-loop-s
invariant-walk_all-loop-s l =
    walked_all (plain_walk l.walk) (statement_row (map statement_of (drop l.s-index l.all)))
    ≡ walked_all (plain_walk l.fn.walk) (statement_row (map statement_of l.all))
