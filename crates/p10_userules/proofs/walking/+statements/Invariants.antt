use Rattle.std.proofs.Common.{◌≡◌, drop, map}
use Rattle.p10_core.specs.Views.{plain_statements, plain_object}
use Rattle.p10_userules.specs.private.Walking.{walk_of, walk_over_all}
use Rattle.p10_userules.proofs.walking.+statements.Given as goal

abbrev pub invariant-walk_all-loop-s : goal.invariant-walk_all-loop-s
invariant-walk_all-loop-s l =
    walk_over_all (map plain_object l.objects) (plain_statements (drop l.s-index l.all)) (walk_of l.walk l.nested.items)
    ≡ walk_over_all (map plain_object l.objects) (plain_statements l.all) (walk_of l.fn.walk l.fn.nested.items)
