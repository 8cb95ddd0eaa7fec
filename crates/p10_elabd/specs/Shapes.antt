-- What declarators make of types (C99 6.7.5), and what may be declared with them.
use Rattle.std.specs.Prelude.{option_map, Bool, true, false, if◌then◌else◌, List, [], ◌∷◌, Option, Some, None, Ok, drop}
use Rattle.p10_base.specs.declared.at.At.{At}
use Rattle.p10_base.specs.declared.codes.SubsetCode.TheVariants as subset
use Rattle.p10_syn.specs.Trees.{Identifier, Qualifier, Expression, Declarator, Named, Unnamed, Pointer, Parenthesised, Array, Function, Parameters, NoParameters, MoreParameters}
use Rattle.p10_core.specs.Types.{PlainType, void, pointer, array, structure}
use Rattle.p10_core.specs.Rows.{is_void, is_complete}
use Rattle.p10_elabx.specs.First.{Keep, ruled, lift}
use Rattle.p10_elabx.specs.Scopes.{Binding, PlainScope, last_floor, entered, left}
use Rattle.p10_elabx.specs.declared.shape.Length.{Length}
use Rattle.p10_elabx.specs.declared.shape.Made.TheVariants as around
use Rattle.p10_elabx.specs.TypeNames.{has_const_word, other_word, is_of_open_array, made_by, length_found, sized_array}
use Rattle.p10_elabd.specs.Standing.{PlainStanding, Passed, passed, nothing_made, refusing, noted}
use Rattle.p10_elabd.specs.Expressions.{value_by}
use Rattle.p10_elabd.specs.declared.declaration.ParameterList.{ParameterList}
use Rattle.p10_elabd.specs.declared.declaration.ParameterList.TheVariants as list_is

-- ## Declared types

-- a parameter: where it stands, its name, if it has one, and its type
pub record PlainParameter : Type 0 where
  pub at : At
  pub name : Option (Identifier At)
  pub type : PlainType

-- a function: its parameters and its result, and the names and tags that are declared among its parameters
pub record FunctionType : Type 0 where
  pub parameters : List PlainParameter
  pub result : PlainType
  pub names : List Binding
  pub tags : List Binding

-- a parameter where it is listed: its type may be refused
pub record ListedParameter : Type 0 where
  pub at : At
  pub name : Option (Identifier At)
  pub type : Option PlainType

-- a function that is refused, as far as it is known: its parameters, in which form they are listed, and its result
pub record PartFunction : Type 0 where
  pub parameters : List ListedParameter
  pub list : ParameterList
  pub result : Option PlainType

-- what is declared: something of a type; an array whose length is lacking, with the type of its elements; a function; a function of
-- which a part is refused
pub data DeclaredType : Type 0 where
  of_type : PlainType → DeclaredType
  of_open_array : PlainType → DeclaredType
  of_function : FunctionType → DeclaredType
  of_part_function : PartFunction → DeclaredType

-- ## Places

-- the name that a declarator declares
abbrev pub name_in : Declarator At → Option (Identifier At)
name_in (Named name) = Some name
name_in (Unnamed at) = None
name_in (Pointer at qualifiers d) = name_in d
name_in (Parenthesised at d) = name_in d
name_in (Array at d brackets length) = name_in d
name_in (Function at d parentheses _ _) = name_in d

-- where a name stands, or where it doesn't a given tree
abbrev pub place_or : At → Option (Identifier At) → At
place_or at None = at
place_or at (Some name) = name.place

-- whether a declarator declares a function, where it is known whether parameters stand directly round it
abbrev pub function_from : Bool → Declarator At → Bool
function_from found (Named name) = found
function_from found (Unnamed at) = found
function_from found (Pointer at qualifiers d) = function_from false d
function_from found (Parenthesised at d) = function_from found d
function_from found (Array at d brackets length) = function_from false d
function_from found (Function at d parentheses _ _) = function_from true d

-- whether a declarator declares a function: what stands directly after its name are parameters
abbrev pub declares_function : Declarator At → Bool
declares_function d = function_from false d

-- whether a declarator declares an array without a length
abbrev pub declares_open_array : Declarator At → Bool
declares_open_array d = is_of_open_array (made_by around.Nothing d)

-- whether a function's parameters stand anywhere in a declarator
abbrev pub has_parameters : Declarator At → Bool
has_parameters (Named name) = false
has_parameters (Unnamed at) = false
has_parameters (Pointer at qualifiers d) = has_parameters d
has_parameters (Parenthesised at d) = has_parameters d
has_parameters (Array at d brackets length) = has_parameters d
has_parameters (Function at d parentheses _ _) = true

-- whether a declarator is a name alone, perhaps in parentheses
abbrev pub is_plain_name : Declarator At → Bool
is_plain_name (Named name) = true
is_plain_name (Parenthesised at d) = is_plain_name d
is_plain_name d = false

-- ## Pointers

-- a pointer to a type: not to `void`; one to a function is refused by its form; an array without a length has no type
abbrev pub pointed_to : Keep → At → At → Bool → DeclaredType → PlainStanding → Passed DeclaredType
pointed_to h at name_at constant (of_type t) s =
    if is_void t then nothing_made (refusing h true subset.BadPointer at s) else passed (of_type (pointer constant t)) s
pointed_to h at name_at constant (of_open_array t) s = nothing_made (refusing h true subset.IncompleteType name_at s)
pointed_to h at name_at constant (of_function f) s = nothing_made s
pointed_to h at name_at constant (of_part_function f) s = nothing_made s

-- a pointer where its target may be refused; of the qualifiers `const` alone is in the subset
abbrev pub pointer_declared : Keep → At → At → List (Qualifier At) → Option DeclaredType → PlainStanding → Passed DeclaredType
pointer_declared h at name_at qualifiers target s = by_target target (refusing_word (other_word qualifiers) s)
  where
    refusing_word : Option At → PlainStanding → PlainStanding
    refusing_word None s = s
    refusing_word (Some at) s = refusing h true subset.BadSpecifier at s

    by_target : Option DeclaredType → PlainStanding → Passed DeclaredType
    by_target None s = nothing_made s
    by_target (Some t) s = pointed_to h at name_at (has_const_word qualifiers) t s

-- ## Arrays

-- an element: it has a size (C99 6.7.5.2p1); an array of functions is refused by its form
abbrev pub element_type : Keep → At → DeclaredType → PlainStanding → Passed PlainType
element_type h name_at (of_type t) s =
    if is_complete s.scope.structures t then passed t s else nothing_made (refusing h true subset.IncompleteType name_at s)
element_type h name_at (of_open_array t) s = nothing_made (refusing h true subset.IncompleteType name_at s)
element_type h name_at (of_function f) s = nothing_made s
element_type h name_at (of_part_function f) s = nothing_made s

-- an element whose type may be refused
abbrev pub element_declared : Keep → At → Option DeclaredType → PlainStanding → Passed PlainType
element_declared h name_at None s = nothing_made s
element_declared h name_at (Some d) s = element_type h name_at d s

-- an array of elements with a length, where neither is refused: it is no larger than a type may be
abbrev pub array_with : Keep → Option PlainType → Option Length → PlainStanding → Passed DeclaredType
array_with h (Some t) (Some n) s = noted h (lift (ruled (sized_array s.scope.structures t n) (λ u. Ok (of_type u)))) s
array_with h t n s = nothing_made s

-- an array with a length, which is a constant of at least 1 whatever its elements are
abbrev pub array_declared : Keep → Expression At → Passed PlainType → Passed DeclaredType
array_declared h e element =
    let n : Passed Length = value_by h element.after e length_found in
    array_with h element.made n.made n.after

-- an array without a length
abbrev pub open_declared : Passed PlainType → Passed DeclaredType
open_declared element = record { made = option_map of_open_array element.made; after = element.after }

-- the declarator inside that of an array, by its form: no function gives an array, and there is neither an array of arrays without a
-- length nor a pointer to one (C99 6.7.5.2p1, 6.7.5.3p1). These rows hold whatever else is refused
abbrev pub array_inside : Keep → At → Bool → Declarator At → PlainStanding → PlainStanding
array_inside h name_at lacking (Named name) s = s
array_inside h name_at lacking (Unnamed at) s = s
array_inside h name_at lacking (Pointer at qualifiers d) s = refusing h lacking subset.IncompleteType name_at s
array_inside h name_at lacking (Parenthesised at d) s = array_inside h name_at lacking d s
array_inside h name_at lacking (Array at d brackets length) s = refusing h lacking subset.IncompleteType name_at s
array_inside h name_at lacking (Function at d parentheses _ _) s = refusing h true subset.IncompleteType name_at s

-- ## Functions

-- the declarator inside that of a function, by its form: it makes no pointer to the function, no array of such functions and no
-- function that gives one (C99 6.7.5.2p1, 6.7.5.3p1). These rows hold whatever else is refused
abbrev pub function_inside : Keep → At → Declarator At → PlainStanding → PlainStanding
function_inside h name_at (Named name) s = s
function_inside h name_at (Unnamed at) s = s
function_inside h name_at (Pointer at qualifiers d) s = refusing h true subset.BadPointer at s
function_inside h name_at (Parenthesised at d) s = function_inside h name_at d s
function_inside h name_at (Array at d brackets length) s = refusing h true subset.IncompleteType name_at s
function_inside h name_at (Function at d parentheses _ _) s = refusing h true subset.IncompleteType name_at s

-- the result of a function: no structure and no array (C99 6.7.5.3p1); a function is refused by its form
abbrev pub result_type : Keep → At → At → DeclaredType → PlainStanding → Passed PlainType
result_type h at name_at (of_type (structure c n)) s = nothing_made (refusing h true subset.StructurePassed at s)
result_type h at name_at (of_type (array c t n)) s = nothing_made (refusing h true subset.IncompleteType name_at s)
result_type h at name_at (of_type t) s = passed t s
result_type h at name_at (of_open_array t) s = nothing_made (refusing h true subset.IncompleteType name_at s)
result_type h at name_at (of_function f) s = nothing_made s
result_type h at name_at (of_part_function f) s = nothing_made s

-- a result whose type may be refused
abbrev pub result_declared : Keep → At → At → Option DeclaredType → PlainStanding → Passed PlainType
result_declared h at name_at None s = nothing_made s
result_declared h at name_at (Some d) s = result_type h at name_at d s

-- the type of a parameter that has one: that of an array is a pointer to its elements (C99 6.7.5.3p7); a structure isn't passed, and
-- `void` is no type of a parameter
abbrev pub plain_parameter_type : Keep → At → At → PlainType → PlainStanding → Passed PlainType
plain_parameter_type h at name_at (structure c n) s = nothing_made (refusing h true subset.StructurePassed at s)
plain_parameter_type h at name_at (array c t n) s = passed (pointer false t) s
plain_parameter_type h at name_at (void c) s = nothing_made (refusing h true subset.IncompleteType name_at s)
plain_parameter_type h at name_at t s = passed t s

-- the type of a parameter; a function is refused by its form
abbrev pub parameter_type : Keep → At → At → DeclaredType → PlainStanding → Passed PlainType
parameter_type h at name_at (of_type t) s = plain_parameter_type h at name_at t s
parameter_type h at name_at (of_open_array t) s = passed (pointer false t) s
parameter_type h at name_at (of_function f) s = nothing_made s
parameter_type h at name_at (of_part_function f) s = nothing_made s

-- the type of a parameter that may be refused
abbrev pub parameter_declared : Keep → At → At → Option DeclaredType → PlainStanding → Passed PlainType
parameter_declared h at name_at None s = nothing_made s
parameter_declared h at name_at (Some d) s = parameter_type h at name_at d s

-- what stands where parameters are declared: names among them hide others up to the end of the declarator (C99 6.2.1p4)
abbrev pub among_parameters : PlainStanding → PlainStanding
among_parameters s = record s { scope = entered s.scope }

-- in which form parameters are listed: by types alone, with `...` after them, or not at all (C99 6.7.5.3)
abbrev pub list_of : Parameters At → Bool → ParameterList
list_of NoParameters more = list_is.Empty
list_of (MoreParameters one rest) true = list_is.Variadic
list_of (MoreParameters one rest) false = list_is.Fixed

-- a parameter before others, if its type is known and theirs are
abbrev pub before_known : ListedParameter → Option PlainType → Option (List PlainParameter) → Option (List PlainParameter)
before_known p (Some t) (Some rest) = Some (record { at = p.at; name = p.name; type = t } ∷ rest)
before_known p t rest = None

-- parameters whose types are all known
abbrev pub known_parameters : List ListedParameter → Option (List PlainParameter)
known_parameters [] = Some []
known_parameters (p ∷ rest) = before_known p p.type (known_parameters rest)

-- a function by its parts: it has a prototype, and none of its types is refused
abbrev pub function_of : ParameterList → Option PlainType → List ListedParameter → Option (List PlainParameter) → PlainScope → DeclaredType
function_of list_is.Fixed (Some result) listed (Some parameters) s = of_function (record {
  parameters = parameters;
  result = result;
  names = drop (last_floor s.floors).0 s.names;
  tags = drop (last_floor s.floors).1 s.tags;
})
function_of list result listed parameters s = of_part_function (record { parameters = listed; list = list; result = result })

-- a function with these parameters, whose names end with its declarator
abbrev pub function_declared : ParameterList → Option PlainType → List ListedParameter → PlainStanding → Passed DeclaredType
function_declared list result listed s =
    passed (function_of list result listed (known_parameters listed) s.scope) (record s { scope = left s.scope })
