use Rattle.std.proofs.Common.{◌≡◌, ◌++◌, [], drop, map}
use Rattle.p10_core.specs.Views.{plain_object, plain_function}
use Rattle.p10_userules.specs.private.Walking.{passed_all, parts_of_all, stretches_of_all}
use Rattle.p10_userules.proofs.functions.walk_functions.Given as goal

abbrev pub invariant-loop-f : goal.invariant-loop-f
invariant-loop-f l =
    (l.walk.blocks.items ≡ [])
    × (passed_all (map plain_object l.objects) l.walk.occurrences.items (map plain_function (drop l.f-index l.functions)) ≡ passed_all (map plain_object l.objects) [] (map plain_function l.functions))
    × (l.parts.stretches.items ++ stretches_of_all (map plain_object l.objects) l.walk.occurrences.items (map plain_function (drop l.f-index l.functions))
    ≡ stretches_of_all (map plain_object l.objects) [] (map plain_function l.functions))
    × (l.parts.blocks.items ++ parts_of_all (map plain_object l.objects) l.walk.occurrences.items (map plain_function (drop l.f-index l.functions))
    ≡ parts_of_all (map plain_object l.objects) [] (map plain_function l.functions))
