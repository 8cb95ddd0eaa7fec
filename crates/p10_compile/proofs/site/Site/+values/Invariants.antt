-- The values so far are compiled, and what is handed on unchanged goes to a function that is lower.
use Rattle.std.proofs.Common.{◌≡◌, ◌+◌, ◌*◌, ◌++◌, length, map, drop}
use Rattle.p10_core.specs.Views.{plain_values}
use Rattle.p10_code.specs.ValueCode.{values_code}
use Rattle.p10_compile.specs.Views.{plain_op, plain_site}
use Rattle.p10_compile.proofs.site.Site.+values.Given as goal

abbrev pub invariant-values_code-loop-v : goal.invariant-values_code-loop-v
invariant-values_code-loop-v l =
    map plain_op l.code.items ++ values_code (plain_site l.self) l.slot l.owed (l.at + length (map plain_op l.code.items)) (plain_values (drop l.v-index l.values))
    ≡ values_code (plain_site l.self) l.free l.debt l.at (plain_values l.values)

abbrev pub decreases-form_code : goal.decreases-form_code
decreases-form_code l = 16 * goal.size-form_code l

abbrev pub decreases-part : goal.decreases-part
decreases-part l = 16 * goal.size-part l + 1

abbrev pub decreases-into_code : goal.decreases-into_code
decreases-into_code l = 16 * goal.size-into_code l + 1

abbrev pub decreases-part_after : goal.decreases-part_after
decreases-part_after l = 16 * goal.size-part_after l + 2

abbrev pub decreases-place_code : goal.decreases-place_code
decreases-place_code l = 16 * goal.size-place_code l

abbrev pub decreases-place_part : goal.decreases-place_part
decreases-place_part l = 16 * goal.size-place_part l + 1

abbrev pub decreases-scalar_code : goal.decreases-scalar_code
decreases-scalar_code l = 16 * goal.size-scalar_code l + 1

abbrev pub decreases-read_code : goal.decreases-read_code
decreases-read_code l = 16 * goal.size-read_code l + 2

abbrev pub decreases-address_code : goal.decreases-address_code
decreases-address_code l = 16 * goal.size-address_code l + 2

abbrev pub decreases-decay_code : goal.decreases-decay_code
decreases-decay_code l = 16 * goal.size-decay_code l + 2

abbrev pub decreases-convert_code : goal.decreases-convert_code
decreases-convert_code l = 16 * goal.size-convert_code l + 2

abbrev pub decreases-cast_code : goal.decreases-cast_code
decreases-cast_code l = 16 * goal.size-cast_code l + 2

abbrev pub decreases-unary_code : goal.decreases-unary_code
decreases-unary_code l = 16 * goal.size-unary_code l + 2

abbrev pub decreases-member_code : goal.decreases-member_code
decreases-member_code l = 16 * goal.size-member_code l + 2

abbrev pub decreases-deref_code : goal.decreases-deref_code
decreases-deref_code l = 16 * goal.size-deref_code l + 2

abbrev pub decreases-values_code : goal.decreases-values_code
decreases-values_code l = 16 * goal.size-values_code l + 5

abbrev pub decreases-call_code : goal.decreases-call_code
decreases-call_code l = 16 * goal.size-call_code l + 6

abbrev pub decreases-library_code : goal.decreases-library_code
decreases-library_code l = 16 * goal.size-library_code l + 6
