-- Functions and objects that are declared outside of functions: their linkage, and when a name is declared twice or differently within a
-- root (C99 6.2.2, 6.7p4, 6.9).
use Rattle.std.specs.Prelude.{ℕ, nat_eq, Bool, true, false, not, ◌&&◌, ◌||◌, if◌then◌else◌, List, [], ◌∷◌, map, Option, Some, None, codes, bytes_eq}
use Rattle.std.specs.Bool.{beq}
use Rattle.p10_base.specs.Words.{Text}
use Rattle.p10_base.specs.declared.at.At.{At}
use Rattle.p10_base.specs.declared.codes.SubsetCode.TheVariants as subset
use Rattle.p10_int.specs.Types.{promoted}
use Rattle.p10_core.specs.Types.{PlainType, integer}
use Rattle.p10_core.specs.Rows.{same, same_integer, int_type}
use Rattle.p10_elabx.specs.declared.problem.Problem.{Problem}
use Rattle.p10_elabx.specs.First.{Keep}
use Rattle.p10_elabd.specs.Standing.{PlainStanding, refusing}
use Rattle.p10_elabd.specs.declared.declaration.ParameterList.{ParameterList}
use Rattle.p10_elabd.specs.declared.declaration.ParameterList.TheVariants as list_is
use Rattle.p10_elabd.specs.declared.site.Storage.{Storage}
use Rattle.p10_elabd.specs.declared.site.Storage.TheVariants as storage_is
use Rattle.p10_elabd.specs.Blocks.{is_taken}

-- a function of which a part is refused, as far as it is known: the types of its parameters, without marks, in which form they are
-- listed, and its result
pub record PartType : Type 0 where
  pub parameters : List (Option PlainType)
  pub list : ParameterList
  pub result : Option PlainType

-- what is declared: a function with the types of its parameters, without marks, and its result; an object; a function of which a part
-- is refused; an object of which no more is known, since its type is refused
pub data LinkedType : Type 0 where
  a_function : List PlainType → PlainType → LinkedType
  an_object : PlainType → LinkedType
  a_part_function : PartType → LinkedType
  unknown_object : LinkedType

-- a declaration of a function or an object outside of functions: its root, its name, what it declares, whether that is internal to the
-- root, whether it has a body or an initialiser, and whether it is a sensor
pub record Linked : Type 0 where
  pub root : ℕ
  pub name : Text
  pub at : At
  pub type : LinkedType
  pub internal : Bool
  pub defines : Bool
  pub sensor : Bool

-- whether a function is declared
abbrev pub is_function : LinkedType → Bool
is_function (a_function ts r) = true
is_function (an_object t) = false
is_function (a_part_function p) = true
is_function unknown_object = false

-- ## Functions, as far as they are known

-- types that are known
abbrev pub all_known : List PlainType → List (Option PlainType)
all_known ts = map (λ t. Some t) ts

-- the types of a function's parameters, where they are known
abbrev pub parameters_of : LinkedType → List (Option PlainType)
parameters_of (a_function ts r) = all_known ts
parameters_of (a_part_function p) = p.parameters
parameters_of t = []

-- in which form they are listed
abbrev pub list_form : LinkedType → ParameterList
list_form (a_function ts r) = list_is.Fixed
list_form (a_part_function p) = p.list
list_form t = list_is.Empty

-- the type of a function's result, where it is known
abbrev pub known_result : LinkedType → Option PlainType
known_result (a_function ts r) = Some r
known_result (a_part_function p) = p.result
known_result t = None

-- whether two types are the same, as far as both are known
abbrev pub same_known : Option PlainType → Option PlainType → Bool
same_known (Some t) (Some u) = same t u
same_known t u = true

-- whether types of parameters are the same, as far as they are known
abbrev pub same_parameters : List (Option PlainType) → List (Option PlainType) → Bool
same_parameters [] [] = true
same_parameters (t ∷ ts) (u ∷ us) = same_known t u && same_parameters ts us
same_parameters ts us = false

-- whether a type is left as it is by the promotions of arguments (C99 6.5.2.2p6), as far as it is known
abbrev pub is_left_alone : Option PlainType → Bool
is_left_alone (Some (integer c i)) = same_integer (promoted i) i
is_left_alone t = true

-- whether all of these types are
abbrev pub are_left_alone : List (Option PlainType) → Bool
are_left_alone [] = true
are_left_alone (t ∷ ts) = is_left_alone t && are_left_alone ts

-- whether there are no parameters
abbrev pub is_bare : List (Option PlainType) → Bool
is_bare [] = true
is_bare (t ∷ ts) = false

-- whether parameters may be listed so where another declaration has `()`: they don't end with `...`; where that is a definition there
-- are none, and else the promotions of arguments leave their types as they are (C99 6.7.5.3p15)
abbrev pub goes_with_none : Bool → ParameterList → List (Option PlainType) → Bool
goes_with_none defines list_is.Fixed ts = if defines then is_bare ts else are_left_alone ts
goes_with_none defines list_is.Variadic ts = false
goes_with_none defines list_is.Empty ts = true

-- whether two forms go together, with the parameters that are listed so
abbrev pub forms_agree : Bool → Bool → ParameterList → ParameterList → List (Option PlainType) → List (Option PlainType) → Bool
forms_agree defines defining list_is.Empty m ts us = goes_with_none defines m us
forms_agree defines defining l list_is.Empty ts us = goes_with_none defining l ts
forms_agree defines defining list_is.Variadic list_is.Variadic ts us = true
forms_agree defines defining list_is.Fixed list_is.Fixed ts us = true
forms_agree defines defining l m ts us = false

-- whether two declarations of a function list their parameters in forms that go together, where it is known which of them define it
-- (C99 6.7.5.3p15): `...` stands in both or in none
abbrev pub lists_agree : Bool → Bool → LinkedType → LinkedType → Bool
lists_agree defines defining t u = forms_agree defines defining (list_form t) (list_form u) (parameters_of t) (parameters_of u)

-- whether `()` stands
abbrev pub is_empty_list : ParameterList → Bool
is_empty_list list_is.Empty = true
is_empty_list l = false

-- whether one of two declarations of a function has `()`
abbrev pub is_none_listed : LinkedType → LinkedType → Bool
is_none_listed t u = is_empty_list (list_form t) || is_empty_list (list_form u)

-- ## Declarations of one root

-- whether two declarations of functions declare the same, as far as that is known
abbrev pub same_functions : Linked → Linked → Bool
same_functions before now =
    lists_agree before.defines now.defines before.type now.type
    && (same_known (known_result before.type) (known_result now.type)
    && (is_none_listed before.type now.type || same_parameters (parameters_of before.type) (parameters_of now.type)))

-- whether two declarations of which one is no function declare the same, as far as that is known
abbrev pub same_objects : LinkedType → LinkedType → Bool
same_objects (an_object t) (an_object u) = same t u
same_objects t u = beq (is_function t) (is_function u)

-- whether two declarations of a root declare the same, as far as that is known
abbrev pub same_linked : Linked → Linked → Bool
same_linked before now =
    if is_function before.type && is_function now.type then same_functions before now else same_objects before.type now.type

-- the last declaration of a name in a root so far
abbrev pub last_linked : Option Linked → ℕ → Text → List Linked → Option Linked
last_linked found root name [] = found
last_linked found root name (l ∷ rest) = last_linked (if nat_eq l.root root && bytes_eq l.name name then Some l else found) root name rest

-- whether a name of a root is defined by a body or an initialiser so far
abbrev pub is_defined : ℕ → Text → List Linked → Bool
is_defined root name [] = false
is_defined root name (l ∷ rest) = (l.defines && (nat_eq l.root root && bytes_eq l.name name)) || is_defined root name rest

-- whether `static` stands at a declaration
abbrev pub is_static : Storage → Bool
is_static storage_is.Static = true
is_static s = false

-- whether a declaration is as `extern` ones are: a function without a storage word is too (C99 6.2.2p5)
abbrev pub is_like_extern : Storage → LinkedType → Bool
is_like_extern storage_is.Extern t = true
is_like_extern storage_is.Unnamed t = is_function t
is_like_extern s t = false

-- whether what is declared is internal to its root: `static` makes it so, and `extern` leaves it as it was (C99 6.2.2p3 to p5)
abbrev pub internal_by : Storage → LinkedType → Option Linked → Bool
internal_by s t None = is_static s
internal_by s t (Some before) = is_static s || (is_like_extern s t && before.internal)

-- whether a declaration doesn't agree with one before it in its root: in its type, its linkage or its mark for sensors
abbrev pub differs : Linked → Linked → Bool
differs before now =
    not (same_linked before now) || (not (beq before.internal now.internal) || not (beq before.sensor now.sensor))

-- whether a declaration may not stand after those before it: it doesn't agree, or both define; or its name is taken by something else
abbrev pub is_refused : PlainStanding → List Linked → Option Linked → Linked → Bool
is_refused s linked None now = is_taken s.scope now.name
is_refused s linked (Some before) now = differs before now || (now.defines && is_defined now.root now.name linked)

-- a declaration after those before it
abbrev pub linked_noted : Keep → List Linked → Linked → PlainStanding → PlainStanding
linked_noted h linked now s =
    refusing h (is_refused s linked (last_linked None now.root now.name linked) now) subset.DefinedTwice now.at s

-- ## `main`

-- whether a name is `main`
abbrev pub is_main_name : Text → Bool
is_main_name name = bytes_eq name (codes "main")

-- whether a function has no parameters and gives an `int`, as far as that is known
abbrev pub has_main_form : LinkedType → Bool
has_main_form (a_function [] r) = same r int_type
has_main_form (a_part_function p) = true
has_main_form t = false

-- whether a declaration is `int main(void)` with external linkage (C99 5.1.2.2.1)
abbrev pub is_main : Linked → Bool
is_main l = not l.internal && has_main_form l.type

-- a `main` of another form, at its name
abbrev pub main_problem : Bool → Text → At → List Problem
main_problem good name at = if is_main_name name && not good then record { code = subset.BadMain; at = at } ∷ [] else []
