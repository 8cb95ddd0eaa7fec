-- What becomes of the two programs, computed.
use Rattle.std.proofs.Common.{◌≡◌, refl}
use Rattle.p10_core.specs.Sizes.{layout_of}
use Rattle.p10_core.specs.WholePrograms.{most_bytes}
use Rattle.p10_elabx.specs.Calls.{argument_judged, with_argument, call_judged, operand_call, other_call}
use Rattle.p10_elabx.specs.Judging.{unary_judged, address_judged, values_judged, truth_judged, conditional_judged, index_judged, member_judged, arrow_judged, size_judged, type_size_judged, cast_judged, target_judged, assignment_judged, with_read, update_judged, step_judged, nested, comma_judged, one_element, counted_elements, two_sizes, other_allocation}
use Rattle.p10_elabx.specs.Operands.{any_value, as_value}
use Rattle.p10_elabx.specs.TypeNames.{specifiers_judged, pointer_judged, array_judged, open_array_judged}
use Rattle.p10_linkage.specs.Between.{taken_together}
use Rattle.p10_elabs.specs.LocalDeclarations.{declared_locally}
use Rattle.p10_elab.specs.Outer.{declared_outside, defined_outside}
use Rattle.p10_elab.specs.Programs.{known_of}
use Rattle.p10_int.specs.Conversion.{reduced}
use Rattle.p10_int.specs.Operators.{fitted, quotient, remainder, shifted_left, shifted_right, bitwise, complement}
use Rattle.p10_lex.specs.Bytes.{is_digit, is_octal, is_hexadecimal, digit_value}
use Rattle.p10_lex.specs.Characters.{simple_escape, is_allowed}
use Rattle.p10_lex.specs.Splices.{joined_after, splice_length, line_end_length}
use Rattle.p10_lex.specs.Integers.{value_from, small_value, suffix_of, integer_constant}
use Rattle.p10_lex.specs.Literals.{begin_character, add_octal, add_hexadecimal, begin_escape, read_byte, last_values, values_from, character_value}
use Rattle.p10_syn.specs.Places.{place_at}
use Rattle.p10_elab.specs.Examples.{fine, said_of}
use Rattle.p10_equal_words.specs.Completed.{apart, completing, width_in, own_in, WidthsMayDiffer}

apart_holds : said_of apart ≡ fine
unfolding layout_of most_bytes argument_judged with_argument call_judged operand_call other_call unary_judged address_judged values_judged truth_judged conditional_judged index_judged member_judged arrow_judged size_judged type_size_judged cast_judged target_judged assignment_judged with_read update_judged step_judged nested comma_judged one_element counted_elements two_sizes other_allocation any_value as_value specifiers_judged pointer_judged array_judged open_array_judged taken_together declared_locally declared_outside defined_outside known_of reduced fitted quotient remainder shifted_left shifted_right bitwise complement is_digit is_octal is_hexadecimal digit_value simple_escape value_from small_value suffix_of integer_constant begin_character add_octal add_hexadecimal begin_escape read_byte last_values values_from character_value is_allowed joined_after splice_length line_end_length place_at
apart_holds = refl

completed_holds : said_of completing ≡ fine
unfolding layout_of most_bytes argument_judged with_argument call_judged operand_call other_call unary_judged address_judged values_judged truth_judged conditional_judged index_judged member_judged arrow_judged size_judged type_size_judged cast_judged target_judged assignment_judged with_read update_judged step_judged nested comma_judged one_element counted_elements two_sizes other_allocation any_value as_value specifiers_judged pointer_judged array_judged open_array_judged taken_together declared_locally declared_outside defined_outside known_of reduced fitted quotient remainder shifted_left shifted_right bitwise complement is_digit is_octal is_hexadecimal digit_value simple_escape value_from small_value suffix_of integer_constant begin_character add_octal add_hexadecimal begin_escape read_byte last_values values_from character_value is_allowed joined_after splice_length line_end_length place_at
completed_holds = refl

apart_wide : width_in 1 apart ≡ 0
unfolding layout_of most_bytes argument_judged with_argument call_judged operand_call other_call unary_judged address_judged values_judged truth_judged conditional_judged index_judged member_judged arrow_judged size_judged type_size_judged cast_judged target_judged assignment_judged with_read update_judged step_judged nested comma_judged one_element counted_elements two_sizes other_allocation any_value as_value specifiers_judged pointer_judged array_judged open_array_judged taken_together declared_locally declared_outside defined_outside known_of reduced fitted quotient remainder shifted_left shifted_right bitwise complement is_digit is_octal is_hexadecimal digit_value simple_escape value_from small_value suffix_of integer_constant begin_character add_octal add_hexadecimal begin_escape read_byte last_values values_from character_value is_allowed joined_after splice_length line_end_length place_at
apart_wide = refl

completed_wide : width_in 1 completing ≡ 1
unfolding layout_of most_bytes argument_judged with_argument call_judged operand_call other_call unary_judged address_judged values_judged truth_judged conditional_judged index_judged member_judged arrow_judged size_judged type_size_judged cast_judged target_judged assignment_judged with_read update_judged step_judged nested comma_judged one_element counted_elements two_sizes other_allocation any_value as_value specifiers_judged pointer_judged array_judged open_array_judged taken_together declared_locally declared_outside defined_outside known_of reduced fitted quotient remainder shifted_left shifted_right bitwise complement is_digit is_octal is_hexadecimal digit_value simple_escape value_from small_value suffix_of integer_constant begin_character add_octal add_hexadecimal begin_escape read_byte last_values values_from character_value is_allowed joined_after splice_length line_end_length place_at
completed_wide = refl

completed_own : own_in 1 completing ≡ 0
unfolding layout_of most_bytes argument_judged with_argument call_judged operand_call other_call unary_judged address_judged values_judged truth_judged conditional_judged index_judged member_judged arrow_judged size_judged type_size_judged cast_judged target_judged assignment_judged with_read update_judged step_judged nested comma_judged one_element counted_elements two_sizes other_allocation any_value as_value specifiers_judged pointer_judged array_judged open_array_judged taken_together declared_locally declared_outside defined_outside known_of reduced fitted quotient remainder shifted_left shifted_right bitwise complement is_digit is_octal is_hexadecimal digit_value simple_escape value_from small_value suffix_of integer_constant begin_character add_octal add_hexadecimal begin_escape read_byte last_values values_from character_value is_allowed joined_after splice_length line_end_length place_at
completed_own = refl

pub widths_may_differ : WidthsMayDiffer
widths_may_differ = record { apart_is = apart_holds; completed_is = completed_holds; apart_width = apart_wide; completed_width = completed_wide; completed_own = completed_own }
