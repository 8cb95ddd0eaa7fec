-- Names, words and declarators where what stands is alike.
use Rattle.std.proofs.Common.{◌≡◌, Bool, true, false, Option, Some, None, option_map, Ok, List, refl, subst}
use Rattle.p10_base.specs.Words.{Text}
use Rattle.p10_base.specs.declared.at.At.{At}
use Rattle.p10_base.specs.declared.codes.SubsetCode.{SubsetCode}
use Rattle.p10_base.specs.declared.codes.SubsetCode.TheVariants as subset
use Rattle.p10_syn.specs.Trees.{Identifier, Qualifier, Expression, Declarator, Named, Unnamed, Pointer, Parenthesised, Array, Function}
use Rattle.p10_core.specs.Types.{PlainType, void, pointer, array, structure}
use Rattle.p10_core.specs.Rows.{is_void, is_complete}
use Rattle.p10_elabx.specs.declared.problem.Problem.{Problem}
use Rattle.p10_elabx.specs.First.{every, only_first, lift, ruled}
use Rattle.p10_elabx.specs.Scopes.{Meaning, declared, entered, left}
use Rattle.p10_elabx.specs.TypeNames.{other_word, has_const_word, length_found, sized_array}
use Rattle.p10_elabx.specs.declared.shape.Length.{Length}
use Rattle.p10_elabx.proofs.Firsts.{kept_lift}
use Rattle.p10_elabd.specs.Standing.{PlainStanding, Passed}
use Rattle.p10_elabd.specs.Blocks.{is_taken, with_name, declaring}
use Rattle.p10_elabd.specs.Words.{by_row}
use Rattle.p10_elabd.specs.Expressions.{value_by}
use Rattle.p10_elabd.specs.declared.declaration.ParameterList.{ParameterList}
use Rattle.p10_elabd.specs.Shapes.{ListedParameter, DeclaredType, of_type, of_open_array, of_function, of_part_function, pointed_to, pointer_declared, element_type, element_declared, array_with, array_declared, open_declared, array_inside, function_inside, result_type, result_declared, plain_parameter_type, parameter_type, parameter_declared, among_parameters, function_declared}
use Rattle.p10_refusals.proofs.Alike.{Alike, AlikePassed, with_kept, for_alike, followed, alike_passed, alike_nothing, alike_map, alike_refusing, alike_refusing_in, alike_noted, alike_where, alike_where_in, alike_scoped}
use Rattle.p10_refusals.proofs.Values.{alike_value}

-- ## Names and words

pub alike_named : {s t : PlainStanding} (name : Text) (what : Meaning) → Alike s t → Alike (with_name s name what) (with_name t name what)
alike_named name what a = alike_scoped (λ x. declared x name what) a

pub alike_declaring : {s t : PlainStanding} (name : Identifier At) (what : Meaning) → Alike s t → Alike (declaring every name what s) (declaring only_first name what t)
alike_declaring name what a = alike_named name.name what (alike_refusing_in (λ x. is_taken x name.name) subset.DefinedTwice name.place a)

pub alike_row : {s t : PlainStanding} (o : Option SubsetCode) (at : At) → Alike s t → Alike (by_row every o at s) (by_row only_first o at t)
alike_row None at a = a
alike_row (Some code) at a = alike_refusing true code at a

-- ## Pointers

alike_pointed : {s t : PlainStanding} (at name_at : At) (constant : Bool) (d : DeclaredType) → Alike s t →
    AlikePassed DeclaredType (pointed_to every at name_at constant d s) (pointed_to only_first at name_at constant d t)
alike_pointed at name_at constant (of_type u) a =
    alike_where (is_void u) (alike_nothing (alike_refusing true subset.BadPointer at a)) (alike_passed (of_type (pointer constant u)) a)
alike_pointed at name_at constant (of_open_array u) a = alike_nothing (alike_refusing true subset.IncompleteType name_at a)
alike_pointed at name_at constant (of_function f) a = alike_nothing a
alike_pointed at name_at constant (of_part_function f) a = alike_nothing a

-- by the word that isn't `const`
alike_pointer_by : {s t : PlainStanding} (at name_at : At) (qualifiers : List (Qualifier At)) (target : Option DeclaredType) (o : Option At) → other_word qualifiers ≡ o → Alike s t →
    AlikePassed DeclaredType (pointer_declared every at name_at qualifiers target s) (pointer_declared only_first at name_at qualifiers target t)
alike_pointer_by at name_at qualifiers None None e a = rw e (alike_nothing a)
alike_pointer_by at name_at qualifiers None (Some word_at) e a = rw e (alike_nothing (alike_refusing true subset.BadSpecifier word_at a))
alike_pointer_by at name_at qualifiers (Some d) None e a = rw e (alike_pointed at name_at (has_const_word qualifiers) d a)
alike_pointer_by at name_at qualifiers (Some d) (Some word_at) e a =
    rw e (alike_pointed at name_at (has_const_word qualifiers) d (alike_refusing true subset.BadSpecifier word_at a))

pub alike_pointer : {s t : PlainStanding} (at name_at : At) (qualifiers : List (Qualifier At)) (target : Option DeclaredType) → Alike s t →
    AlikePassed DeclaredType (pointer_declared every at name_at qualifiers target s) (pointer_declared only_first at name_at qualifiers target t)
alike_pointer at name_at qualifiers target a = alike_pointer_by at name_at qualifiers target (other_word qualifiers) refl a

-- ## Arrays

alike_element_type : {s t : PlainStanding} (name_at : At) (d : DeclaredType) → Alike s t → AlikePassed PlainType (element_type every name_at d s) (element_type only_first name_at d t)
alike_element_type name_at (of_type u) a =
    alike_where_in (λ x. is_complete x.structures u) a (alike_passed u a) (alike_nothing (alike_refusing true subset.IncompleteType name_at a))
alike_element_type name_at (of_open_array u) a = alike_nothing (alike_refusing true subset.IncompleteType name_at a)
alike_element_type name_at (of_function f) a = alike_nothing a
alike_element_type name_at (of_part_function f) a = alike_nothing a

pub alike_element : {s t : PlainStanding} (name_at : At) (o : Option DeclaredType) → Alike s t → AlikePassed PlainType (element_declared every name_at o s) (element_declared only_first name_at o t)
alike_element name_at None a = alike_nothing a
alike_element name_at (Some d) a = alike_element_type name_at d a

alike_array_with : {s t : PlainStanding} (u : Option PlainType) (n : Option Length) → Alike s t → AlikePassed DeclaredType (array_with every u n s) (array_with only_first u n t)
alike_array_with {s = s} {t = t} (Some u) (Some n) a =
    for_alike (λ t. AlikePassed DeclaredType (array_with every (Some u) (Some n) s) (array_with only_first (Some u) (Some n) t)) s t
    (λ ps k. alike_noted (lift (ruled (sized_array s.scope.structures u n) (λ v. Ok (of_type v)))) (lift (ruled (sized_array s.scope.structures u n) (λ v. Ok (of_type v))))
    (kept_lift (ruled (sized_array s.scope.structures u n) (λ v. Ok (of_type v)))) (with_kept s ps k)) a
alike_array_with (Some u) None a = alike_nothing a
alike_array_with None n a = alike_nothing a

pub alike_array : {p q : Passed PlainType} (e : Expression At) → AlikePassed PlainType p q → AlikePassed DeclaredType (array_declared every e p) (array_declared only_first e q)
alike_array {p = p} {q = q} e a =
    let n = alike_value length_found e a.after in
    followed (AlikePassed DeclaredType) (λ o s. array_with every p.made o s) (λ o s. array_with only_first q.made o s) n
    (λ o. subst (λ m. AlikePassed DeclaredType (array_with every p.made o (value_by every p.after e length_found).after) (array_with only_first m o (value_by only_first q.after e length_found).after)) a.made
    (alike_array_with p.made o n.after))

pub alike_open : {p q : Passed PlainType} → AlikePassed PlainType p q → AlikePassed DeclaredType (open_declared p) (open_declared q)
alike_open a = alike_map (λ o. option_map of_open_array o) a

pub alike_array_inside : {s t : PlainStanding} (name_at : At) (lacking : Bool) (d : Declarator At) → Alike s t → Alike (array_inside every name_at lacking d s) (array_inside only_first name_at lacking d t)
alike_array_inside name_at lacking (Named name) a = a
alike_array_inside name_at lacking (Unnamed at) a = a
alike_array_inside name_at lacking (Pointer at qualifiers d) a = alike_refusing lacking subset.IncompleteType name_at a
alike_array_inside name_at lacking (Parenthesised at d) a = alike_array_inside name_at lacking d a
alike_array_inside name_at lacking (Array at d brackets length) a = alike_refusing lacking subset.IncompleteType name_at a
alike_array_inside name_at lacking (Function at d parentheses all more) a = alike_refusing true subset.IncompleteType name_at a

-- ## Functions

pub alike_inside : {s t : PlainStanding} (name_at : At) (d : Declarator At) → Alike s t → Alike (function_inside every name_at d s) (function_inside only_first name_at d t)
alike_inside name_at (Named name) a = a
alike_inside name_at (Unnamed at) a = a
alike_inside name_at (Pointer at qualifiers d) a = alike_refusing true subset.BadPointer at a
alike_inside name_at (Parenthesised at d) a = alike_inside name_at d a
alike_inside name_at (Array at d brackets length) a = alike_refusing true subset.IncompleteType name_at a
alike_inside name_at (Function at d parentheses all more) a = alike_refusing true subset.IncompleteType name_at a

alike_result_type : {s t : PlainStanding} (at name_at : At) (d : DeclaredType) → Alike s t → AlikePassed PlainType (result_type every at name_at d s) (result_type only_first at name_at d t)
alike_result_type at name_at (of_type (structure c n)) a = alike_nothing (alike_refusing true subset.StructurePassed at a)
alike_result_type at name_at (of_type (array c u n)) a = alike_nothing (alike_refusing true subset.IncompleteType name_at a)
alike_result_type at name_at (of_type u) a = alike_passed u a
alike_result_type at name_at (of_open_array u) a = alike_nothing (alike_refusing true subset.IncompleteType name_at a)
alike_result_type at name_at (of_function f) a = alike_nothing a
alike_result_type at name_at (of_part_function f) a = alike_nothing a

pub alike_result : {s t : PlainStanding} (at name_at : At) (o : Option DeclaredType) → Alike s t → AlikePassed PlainType (result_declared every at name_at o s) (result_declared only_first at name_at o t)
alike_result at name_at None a = alike_nothing a
alike_result at name_at (Some d) a = alike_result_type at name_at d a

alike_plain_parameter : {s t : PlainStanding} (at name_at : At) (u : PlainType) → Alike s t → AlikePassed PlainType (plain_parameter_type every at name_at u s) (plain_parameter_type only_first at name_at u t)
alike_plain_parameter at name_at (structure c n) a = alike_nothing (alike_refusing true subset.StructurePassed at a)
alike_plain_parameter at name_at (array c u n) a = alike_passed (pointer false u) a
alike_plain_parameter at name_at (void c) a = alike_nothing (alike_refusing true subset.IncompleteType name_at a)
alike_plain_parameter at name_at u a = alike_passed u a

alike_parameter_type : {s t : PlainStanding} (at name_at : At) (d : DeclaredType) → Alike s t →
    AlikePassed PlainType (parameter_type every at name_at d s) (parameter_type only_first at name_at d t)
alike_parameter_type at name_at (of_type u) a = alike_plain_parameter at name_at u a
alike_parameter_type at name_at (of_open_array u) a = alike_passed (pointer false u) a
alike_parameter_type at name_at (of_function f) a = alike_nothing a
alike_parameter_type at name_at (of_part_function f) a = alike_nothing a

pub alike_parameter : {s t : PlainStanding} (at name_at : At) (o : Option DeclaredType) → Alike s t →
    AlikePassed PlainType (parameter_declared every at name_at o s) (parameter_declared only_first at name_at o t)
alike_parameter at name_at None a = alike_nothing a
alike_parameter at name_at (Some d) a = alike_parameter_type at name_at d a

pub alike_among : {s t : PlainStanding} → Alike s t → Alike (among_parameters s) (among_parameters t)
alike_among a = alike_scoped (λ x. entered x) a

alike_ended_scope : (s : PlainStanding) (ps : List Problem) → Alike s (record s { problems = ps }) → Alike (record s { scope = left s.scope }) (record s { scope = left s.scope; problems = ps })
alike_ended_scope s ps a = record { scope = refl; open_structures = refl; problems = a.problems }

alike_function_kept : (list : ParameterList) (r : Option PlainType) (listed : List ListedParameter) (s : PlainStanding) (ps : List Problem) → Alike s (record s { problems = ps }) →
    AlikePassed DeclaredType (function_declared list r listed s) (function_declared list r listed (record s { problems = ps }))
alike_function_kept list r listed s ps a = record { made = refl; after = alike_ended_scope s ps a }

pub alike_function : {s t : PlainStanding} (list : ParameterList) (r : Option PlainType) (listed : List ListedParameter) → Alike s t →
    AlikePassed DeclaredType (function_declared list r listed s) (function_declared list r listed t)
alike_function {s = s} {t = t} list r listed a =
    for_alike (λ t. AlikePassed DeclaredType (function_declared list r listed s) (function_declared list r listed t)) s t (λ ps k. alike_function_kept list r listed s ps (with_kept s ps k)) a
