-- What declarators are made of, by steps.
use Rattle.std.proofs.Common.{◌≡◌, refl, ℕ, Bool, true, false, List, length, Option, Some, None, Ok}
use Rattle.p10_base.specs.declared.at.At.{At}
use Rattle.p10_base.specs.declared.codes.SubsetCode.TheVariants as subset
use Rattle.p10_syn.specs.Trees.{Identifier, Qualifier, Expression, Declarator, Named, Unnamed, Pointer, Parenthesised, Array, Function}
use Rattle.p10_core.specs.Types.{PlainType, void, integer, pointer, array, structure}
use Rattle.p10_core.specs.Rows.{is_void, is_complete}
use Rattle.p10_elabx.specs.First.{Keep, lift, ruled}
use Rattle.p10_elabx.specs.Scopes.{local, unknown_name}
use Rattle.p10_elabx.specs.TypeNames.{declarator_place, other_word, has_const_word, length_found, sized_array}
use Rattle.p10_elabx.specs.declared.shape.Length.{Length}
use Rattle.p10_elabd.specs.Standing.{PlainStanding, Passed, refusing}
use Rattle.p10_elabd.specs.Expressions.{value_by}
use Rattle.p10_elabd.specs.Shapes.{ListedParameter, DeclaredType, of_type, of_open_array, of_function, of_part_function, name_in, place_or, declares_function, pointed_to, pointer_declared, element_declared, array_with, array_declared, array_inside, function_inside, result_type, result_declared, plain_parameter_type, parameter_declared}
use Rattle.p10_elabd.specs.Declaring.{with_parameter, with_declared_parameter}
use Rattle.p10_declaration_steps.specs.Steps.{Steps, same, followed}
use Rattle.p10_declaration_steps.proofs.Steps.{over_refusing, over_noted, over_declaring, over_value, either_way}

pub over_pointed : (h : Keep) (at name_at : At) (constant : Bool) (d : DeclaredType) (s : PlainStanding) → Steps h s (pointed_to h at name_at constant d s).after
over_pointed h at name_at constant (of_type t) s = either_way (is_void t) s _ _ (over_refusing h true subset.BadPointer at s) (same s)
over_pointed h at name_at constant (of_open_array t) s = over_refusing h true subset.IncompleteType name_at s
over_pointed h at name_at constant (of_function f) s = same s
over_pointed h at name_at constant (of_part_function f) s = same s

pub over_pointer_by : (h : Keep) (at name_at : At) (qualifiers : List (Qualifier At)) (target : Option DeclaredType) (s : PlainStanding) (o : Option At) → other_word qualifiers ≡ o →
    Steps h s (pointer_declared h at name_at qualifiers target s).after
over_pointer_by h at name_at qualifiers None s None e = rw e (same s)
over_pointer_by h at name_at qualifiers None s (Some word_at) e = rw e (over_refusing h true subset.BadSpecifier word_at s)
over_pointer_by h at name_at qualifiers (Some d) s None e = rw e (over_pointed h at name_at (has_const_word qualifiers) d s)
over_pointer_by h at name_at qualifiers (Some d) s (Some word_at) e =
    let t : PlainStanding = refusing h true subset.BadSpecifier word_at s in
    rw e (followed (over_refusing h true subset.BadSpecifier word_at s) (over_pointed h at name_at (has_const_word qualifiers) d t))

pub over_pointer : (h : Keep) (at name_at : At) (qualifiers : List (Qualifier At)) (target : Option DeclaredType) (s : PlainStanding) → Steps h s (pointer_declared h at name_at qualifiers target s).after
over_pointer h at name_at qualifiers target s = over_pointer_by h at name_at qualifiers target s (other_word qualifiers) refl

pub over_element : (h : Keep) (name_at : At) (o : Option DeclaredType) (s : PlainStanding) → Steps h s (element_declared h name_at o s).after
over_element h name_at None s = same s
over_element h name_at (Some (of_type t)) s = either_way (is_complete s.scope.structures t) s _ _ (same s) (over_refusing h true subset.IncompleteType name_at s)
over_element h name_at (Some (of_open_array t)) s = over_refusing h true subset.IncompleteType name_at s
over_element h name_at (Some (of_function f)) s = same s
over_element h name_at (Some (of_part_function f)) s = same s

pub over_array_with : (h : Keep) (o : Option PlainType) (n : Option Length) (s : PlainStanding) → Steps h s (array_with h o n s).after
over_array_with h (Some t) (Some n) s = over_noted h (lift (ruled (sized_array s.scope.structures t n) (λ u. Ok (of_type u)))) s
over_array_with h (Some t) None s = same s
over_array_with h None n s = same s

pub over_array : (h : Keep) (e : Expression At) (element : Passed PlainType) → Steps h element.after (array_declared h e element).after
over_array h e element =
    let n : Passed Length = value_by h element.after e length_found in
    followed (over_value h element.after e length_found) (over_array_with h element.made n.made n.after)

pub over_array_inside : (h : Keep) (name_at : At) (lacking : Bool) (d : Declarator At) (s : PlainStanding) → Steps h s (array_inside h name_at lacking d s)
over_array_inside h name_at lacking (Named name) s = same s
over_array_inside h name_at lacking (Unnamed at) s = same s
over_array_inside h name_at lacking (Pointer at qualifiers d) s = over_refusing h lacking subset.IncompleteType name_at s
over_array_inside h name_at lacking (Parenthesised at d) s = over_array_inside h name_at lacking d s
over_array_inside h name_at lacking (Array at d brackets length) s = over_refusing h lacking subset.IncompleteType name_at s
over_array_inside h name_at lacking (Function at d parentheses all more) s = over_refusing h true subset.IncompleteType name_at s

pub over_function_inside : (h : Keep) (name_at : At) (d : Declarator At) (s : PlainStanding) → Steps h s (function_inside h name_at d s)
over_function_inside h name_at (Named name) s = same s
over_function_inside h name_at (Unnamed at) s = same s
over_function_inside h name_at (Pointer at qualifiers d) s = over_refusing h true subset.BadPointer at s
over_function_inside h name_at (Parenthesised at d) s = over_function_inside h name_at d s
over_function_inside h name_at (Array at d brackets length) s = over_refusing h true subset.IncompleteType name_at s
over_function_inside h name_at (Function at d parentheses all more) s = over_refusing h true subset.IncompleteType name_at s

pub over_result_type : (h : Keep) (at name_at : At) (d : DeclaredType) (s : PlainStanding) → Steps h s (result_type h at name_at d s).after
over_result_type h at name_at (of_type (structure c n)) s = over_refusing h true subset.StructurePassed at s
over_result_type h at name_at (of_type (array c t n)) s = over_refusing h true subset.IncompleteType name_at s
over_result_type h at name_at (of_type (void c)) s = same s
over_result_type h at name_at (of_type (integer c i)) s = same s
over_result_type h at name_at (of_type (pointer c t)) s = same s
over_result_type h at name_at (of_open_array t) s = over_refusing h true subset.IncompleteType name_at s
over_result_type h at name_at (of_function f) s = same s
over_result_type h at name_at (of_part_function f) s = same s

pub over_result : (h : Keep) (at name_at : At) (o : Option DeclaredType) (s : PlainStanding) → Steps h s (result_declared h at name_at o s).after
over_result h at name_at None s = same s
over_result h at name_at (Some d) s = over_result_type h at name_at d s

pub over_plain_parameter : (h : Keep) (at name_at : At) (t : PlainType) (s : PlainStanding) → Steps h s (plain_parameter_type h at name_at t s).after
over_plain_parameter h at name_at (structure c n) s = over_refusing h true subset.StructurePassed at s
over_plain_parameter h at name_at (array c t n) s = same s
over_plain_parameter h at name_at (void c) s = over_refusing h true subset.IncompleteType name_at s
over_plain_parameter h at name_at (integer c i) s = same s
over_plain_parameter h at name_at (pointer c t) s = same s

pub over_parameter : (h : Keep) (at name_at : At) (o : Option DeclaredType) (s : PlainStanding) → Steps h s (parameter_declared h at name_at o s).after
over_parameter h at name_at None s = same s
over_parameter h at name_at (Some (of_type t)) s = over_plain_parameter h at name_at t s
over_parameter h at name_at (Some (of_open_array t)) s = same s
over_parameter h at name_at (Some (of_function f)) s = same s
over_parameter h at name_at (Some (of_part_function f)) s = same s

pub over_with_parameter : (h : Keep) (i : ℕ) (name : Option (Identifier At)) (t : Option PlainType) (s : PlainStanding) → Steps h s (with_parameter h i name t s)
over_with_parameter h i None t s = same s
over_with_parameter h i (Some name) None s = over_declaring h name unknown_name s tt
over_with_parameter h i (Some name) (Some t) s = over_declaring h name (local i t false) s tt

pub over_declared_parameter : (h : Keep) (i : ℕ) (before : List ListedParameter) (at : At) (d : Declarator At) (j : Passed DeclaredType) → Steps h j.after (with_declared_parameter h i before at d j).after
over_declared_parameter h i before at d j =
    let s : PlainStanding = refusing h (declares_function d) subset.BadPointer (declarator_place d) j.after in
    let u : Passed PlainType = parameter_declared h at (place_or at (name_in d)) j.made s in
    followed (over_refusing h (declares_function d) subset.BadPointer (declarator_place d) j.after)
    (followed (over_parameter h at (place_or at (name_in d)) j.made s) (over_with_parameter h i (name_in d) u.made u.after))
