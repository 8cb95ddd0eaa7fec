use Rattle.std.proofs.Common.{◌≡◌, ◌++◌, drop}
use Rattle.p10_core.specs.Views.{plain_values}
use Rattle.p10_userules.specs.Occurrences.{occurrences_in_values}
use Rattle.p10_userules.proofs.occurrences.+values.Given as goal

abbrev pub invariant-put_values-loop-v : goal.invariant-put_values-loop-v
invariant-put_values-loop-v l =
    l.out.items ++ occurrences_in_values l.checked (plain_values (drop l.v-index l.all))
    ≡ l.fn.out.items ++ occurrences_in_values l.checked (plain_values l.all)
