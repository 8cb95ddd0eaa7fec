use Rattle.std.proofs.Common.{refl}
use Rattle.p10_synrules.proofs.laws.pointers_are_right.Goals as goal

pub returns-clause-dereferences : goal.returns-clause-dereferences
returns-clause-dereferences c = record { twice = refl; arrows = refl; star_of_arrow = refl; member_between = refl; right_operand = refl; left_operand = refl; indexed = refl; cast = refl; once = refl; index_between = refl; in_index = refl; address_between = refl; member_of_arrow = refl }

pub returns-clause-declarators : goal.returns-clause-declarators
returns-clause-declarators c = record { star = refl; star_in_group = refl; star_of_array = refl; star_of_function = refl; no_star = refl; pointer = refl; pointer_to_pointer = refl; array_of_pointers = refl; function_to_pointer = refl; result_is_pointer = refl; function_alone = refl; grouped_name = refl; pointer_to_array = refl }
