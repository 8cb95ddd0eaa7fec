-- The depth falls at each value and each place.
use Rattle.std.proofs.Common.{◌+◌, ◌*◌}
use Rattle.p10_interp.proofs.values_at_once.+at_once.Given as goal

abbrev pub decreases-binary_at_once : goal.decreases-binary_at_once
decreases-binary_at_once l = 16 * l.depth + 6

abbrev pub decreases-cast_at_once : goal.decreases-cast_at_once
decreases-cast_at_once l = 16 * l.depth + 6

abbrev pub decreases-cell_at_once : goal.decreases-cell_at_once
decreases-cell_at_once l = 16 * l.depth + 2

abbrev pub decreases-converted_at_once : goal.decreases-converted_at_once
decreases-converted_at_once l = 16 * l.depth + 6

abbrev pub decreases-decay_at_once : goal.decreases-decay_at_once
decreases-decay_at_once l = 16 * l.depth + 6

abbrev pub decreases-dereference_at_once : goal.decreases-dereference_at_once
decreases-dereference_at_once l = 16 * l.depth + 6

abbrev pub decreases-element_at_once : goal.decreases-element_at_once
decreases-element_at_once l = 16 * l.depth + 1

abbrev pub decreases-index_at_once : goal.decreases-index_at_once
decreases-index_at_once l = 16 * l.depth + 7

abbrev pub decreases-index_by_pointer : goal.decreases-index_by_pointer
decreases-index_by_pointer l = 16 * l.depth + 6

abbrev pub decreases-index_from : goal.decreases-index_from
decreases-index_from l = 16 * l.depth + 6

abbrev pub decreases-logic_at_once : goal.decreases-logic_at_once
decreases-logic_at_once l = 16 * l.depth + 6

abbrev pub decreases-member_at_once : goal.decreases-member_at_once
decreases-member_at_once l = 16 * l.depth + 6

abbrev pub decreases-number_at_once : goal.decreases-number_at_once
decreases-number_at_once l = 16 * l.depth + 5

abbrev pub decreases-number_by_form : goal.decreases-number_by_form
decreases-number_by_form l = 16 * l.depth

abbrev pub decreases-number_by_pointer : goal.decreases-number_by_pointer
decreases-number_by_pointer l = 16 * l.depth + 2

abbrev pub decreases-number_from : goal.decreases-number_from
decreases-number_from l = 16 * l.depth + 6

abbrev pub decreases-number_in_object : goal.decreases-number_in_object
decreases-number_in_object l = 16 * l.depth + 3

abbrev pub decreases-place_at_once : goal.decreases-place_at_once
decreases-place_at_once l = 16 * l.depth

abbrev pub decreases-pointer_at_once : goal.decreases-pointer_at_once
decreases-pointer_at_once l = 16 * l.depth

abbrev pub decreases-read_number : goal.decreases-read_number
decreases-read_number l = 16 * l.depth + 4

abbrev pub decreases-read_pointer : goal.decreases-read_pointer
decreases-read_pointer l = 16 * l.depth + 6

abbrev pub decreases-unary_at_once : goal.decreases-unary_at_once
decreases-unary_at_once l = 16 * l.depth + 6
