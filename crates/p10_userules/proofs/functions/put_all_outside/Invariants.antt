use Rattle.std.proofs.Common.{◌≡◌, ◌++◌, drop, map}
use Rattle.std.specs.List.{flat_map}
use Rattle.p10_core.specs.Views.{plain_object}
use Rattle.p10_userules.specs.Occurrences.{occurrences_outside}
use Rattle.p10_userules.proofs.functions.put_all_outside.Given as goal

abbrev pub invariant-loop-o : goal.invariant-loop-o
invariant-loop-o l =
    l.occurrences.items ++ flat_map occurrences_outside (map plain_object (drop l.o-index l.objects)) ≡ l.fn.occurrences.items ++ flat_map occurrences_outside (map plain_object l.objects)
