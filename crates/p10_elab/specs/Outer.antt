-- Declarations and functions outside of functions (C99 6.9): what they add to what is known of the program.
use Rattle.std.specs.Prelude.{ℕ, ◌+◌, nat_eq, Bool, true, false, not, ◌&&◌, ◌||◌, if◌then◌else◌, List, [], ◌∷◌, ◌++◌, map, length, Option, Some, None, is_some, option_map}
use Rattle.p10_base.specs.declared.at.At.{At}
use Rattle.p10_base.specs.declared.codes.SubsetCode.TheVariants as subset
use Rattle.p10_syn.specs.Trees.{Identifier, Initializer, InitDeclarator, Declaration, Definition, Statements}
use Rattle.p10_core.specs.Types.{PlainType, array, unqualified}
use Rattle.p10_core.specs.Sizes.{size_of}
use Rattle.p10_core.specs.Rows.{same, is_complete, is_void}
use Rattle.p10_core.specs.Typed.{PlainInitializer, PlainVariable, PlainFunction, statements_of_list, PlainStatement}
use Rattle.p10_elabx.specs.declared.problem.Problem.{Problem}
use Rattle.p10_elabx.specs.First.{Keep}
use Rattle.p10_elabx.specs.Scopes.{Meaning, local, PlainScope, entered, left, Binding}
use Rattle.p10_elabx.specs.TypeNames.{declarator_place}
use Rattle.p10_elabd.specs.Standing.{PlainStanding, Passed, passed, nothing_made, refusing}
use Rattle.p10_elabd.specs.Words.{storage_of}
use Rattle.p10_elabd.specs.declared.site.Site.TheVariants as site_is
use Rattle.p10_elabd.specs.declared.site.Storage.{Storage}
use Rattle.p10_elabd.specs.declared.site.Storage.TheVariants as storage_is
use Rattle.p10_elabd.specs.declared.site.Allowed.{Allowed}
use Rattle.p10_elabd.specs.Shapes.{PlainParameter, ListedParameter, FunctionType, PartFunction, DeclaredType, of_type, of_open_array, of_function, of_part_function, name_in, has_parameters}
use Rattle.p10_elabd.specs.Declaring.{specified, declarator_passed, based}
use Rattle.p10_elabd.specs.declared.lifetime.Lifetime.TheVariants as life_is
use Rattle.p10_heads.specs.Heads.{Heads, Head, number_in}
use Rattle.p10_elabs.specs.Addresses.{addresses_taken, constants_of}
use Rattle.p10_elabs.specs.Locals.{Frame, Local, specified_in, makes_sensors, no_initializer, unknown_in, typedef_passed, filled_array, is_written, open_noted, brackets_of, initialized_by}
use Rattle.p10_elabs.specs.LocalDeclarations.{is_frame_variable, is_typedef}
use Rattle.p10_elabd.specs.Initializers.{elements_given}
use Rattle.p10_linkage.specs.Linkage.{LinkedType, a_function, an_object, a_part_function, unknown_object, Linked, last_linked, is_static, is_main_name, main_problem}
use Rattle.p10_elabs.specs.Marks.{marks_noted}
use Rattle.p10_elabs.specs.Statements.{in_nothing, Block', no_items_yet, items_done}
use Rattle.p10_elab.specs.Knowledge.{Known, linked_of, with_linked, with_standing, without_linkage}

-- ## Objects

-- whether an object outside of functions is defined at a word
abbrev pub is_defined_at : ℕ → List Head → Bool
is_defined_at first [] = false
is_defined_at first (f ∷ rest) = (nat_eq f.at.first first && not f.in_block) || is_defined_at first rest

-- whether a declaration is the one that defines its object: the first with an initialiser, or else the first tentative one (C99 6.9.2p2)
abbrev pub is_site : Heads → Identifier At → Bool
is_site heads name = is_defined_at name.place.first heads.objects

-- an object with its initialiser
abbrev pub with_defined : Heads → Linked → Identifier At → PlainType → Option PlainInitializer → Known → Known
with_defined heads l name t None k = k
with_defined heads l name t (Some i) k =
    if is_site heads name
    then record k { objects = k.objects ++ record { number = number_in heads.objects l.root l.internal l.name; name = name; type = t; initializer = i; sensor = l.sensor } ∷ [] }
    else k

-- whether storage is `extern`
abbrev pub is_extern : Storage → Bool
is_extern storage_is.Extern = true
is_extern s = false

-- a tentative definition more: a declaration without an initialiser and without `extern` is one
abbrev pub with_tentative : Identifier At → PlainType → Storage → Option (Initializer At) → Known → Known
with_tentative name t s i k =
    if is_written i || is_extern s then k else record k { tentative = k.tentative ++ record { name = name; type = t } ∷ [] }

-- an object of a type, in scope in its own initialiser
abbrev pub object_declared : Keep → Heads → Identifier At → PlainType → Storage → Bool → Option (Initializer At) → Known → Known
object_declared h heads name t s sensor i k =
    let l : Linked = linked_of k name (an_object t) s (is_written i) sensor in
    let m : Known = with_tentative name t s i (with_linked h heads l k) in
    let p : Passed PlainInitializer = initialized_by h life_is.Static t i m.standing in
    with_defined heads l name t p.made (with_standing m p.after)

-- the declaration of a name in this root before
abbrev pub before_in : Known → Identifier At → Option Linked
before_in k name = last_linked None k.root name.name k.linked

-- the type of an array with elements of a type, where an array of such was declared before
abbrev pub composite_of : PlainType → LinkedType → Option PlainType
composite_of t (an_object (array c u n)) = if same t u then Some (array c u n) else None
composite_of t other = None

-- the type of an array without a length that was declared before with one: the composite type (C99 6.2.7p4)
abbrev pub composite : PlainType → Option Linked → Option PlainType
composite t None = None
composite t (Some before) = composite_of t before.type

-- whether an array is declared
abbrev pub is_array_object : LinkedType → Bool
is_array_object (an_object (array c u n)) = true
is_array_object t = false

-- whether an array was declared before
abbrev pub is_array_before : Option Linked → Bool
is_array_before None = false
is_array_before (Some before) = is_array_object before.type

-- whether an array without a length gets one from a declaration before; where its elements are refused, any array before gives one
abbrev pub gets_length : Option Linked → Option DeclaredType → Bool
gets_length before (Some (of_open_array t)) = is_some (composite t before)
gets_length before j = is_array_before before

-- an object that is an array without a length, and gets none from an initialiser or a declaration before, has no size: a row on the form
abbrev pub open_outside : Keep → Identifier At → InitDeclarator At → Option Linked → Option DeclaredType → PlainStanding → PlainStanding
open_outside h name d before j s =
    if gets_length before j then s else open_noted h name.place d.declarator d.initial s

-- the type of an array without a length, by the one that it has together with a declaration before
abbrev pub array_outside : Keep → Identifier At → At → PlainType → Option (Initializer At) → Option PlainType → PlainStanding → Passed PlainType
array_outside h name brackets t i (Some u) s = passed u s
array_outside h name brackets t None None s = nothing_made s
array_outside h name brackets t (Some i) None s = filled_array h name brackets t i (elements_given t i) s

-- the type of an object at its declaration: with an initialiser, or where `static` stands, it has a size (C99 6.9.2p3); else it may get
-- one before the root ends
abbrev pub outer_type : Keep → Identifier At → At → Storage → Option (Initializer At) → Option Linked → DeclaredType → PlainStanding → Passed PlainType
outer_type h name brackets s i before (of_type t) standing =
    if is_complete standing.scope.structures t || not (is_written i || (is_static s || is_void_type t)) then record { made = Some t; after = standing }
    else record { made = None; after = refusing h true subset.IncompleteType name.place standing }
  where
    is_void_type : PlainType → Bool
    is_void_type t = is_void t
outer_type h name brackets s i before (of_open_array t) standing = array_outside h name brackets t i (composite t before) standing
outer_type h name brackets s i before (of_function f) standing = record { made = None; after = standing }
outer_type h name brackets s i before (of_part_function f) standing = record { made = None; after = standing }

-- an object whose type may be refused
abbrev pub object_outside : Keep → Heads → Identifier At → Storage → Bool → Option (Initializer At) → Known → Passed PlainType → Known
object_outside h heads name s sensor i k t = by_type t.made (with_standing k t.after)
  where
    by_type : Option PlainType → Known → Known
    by_type None k = with_linked h heads (linked_of k name unknown_object s (is_written i) sensor) k
    by_type (Some t) k = object_declared h heads name t s sensor i k

-- ## Functions

-- the type of a function with linkage
abbrev pub function_type : FunctionType → LinkedType
function_type f = a_function (map (λ p. unqualified p.type) f.parameters) f.result

-- the type of a function of which a part is refused
abbrev pub part_type : PartFunction → LinkedType
part_type f = a_part_function (record {
  parameters = map (λ p. option_map unqualified p.type) f.parameters;
  list = f.list;
  result = f.result;
})

-- a prototype; it has no initialiser
abbrev pub prototype_declared : Keep → Heads → Identifier At → LinkedType → Storage → Option (Initializer At) → Known → Known
prototype_declared h heads name t s i k =
    let m : Known = with_linked h heads (linked_of k name t s false false) k in
    with_standing m (no_initializer h i m.standing)

-- an object outside of functions by what its declarator declares, which may be refused
abbrev pub object_by_type : Keep → Heads → Storage → Bool → Identifier At → InitDeclarator At → Known → Option DeclaredType → Known
object_by_type h heads s sensor name d k None = with_linked h heads (linked_of k name unknown_object s (is_written d.initial) sensor) k
object_by_type h heads s sensor name d k (Some t) =
    object_outside h heads name s sensor d.initial k (outer_type h name (brackets_of d.declarator) s d.initial (before_in k name) t k.standing)

-- the same, where rows on the form of the declarator may hold
abbrev pub object_by_form : Keep → Heads → Storage → Bool → Identifier At → InitDeclarator At → Known → Option DeclaredType → Known
object_by_form h heads s sensor name d k j =
    object_by_type h heads s sensor name d (with_standing k (open_outside h name d (before_in k name) j k.standing)) j

-- ## Declarations

-- a declarator outside of functions by what it declares
abbrev pub by_type_outside : Keep → Heads → Storage → Bool → Identifier At → InitDeclarator At → Known → Option DeclaredType → Known
by_type_outside h heads s sensor name d k (Some (of_function f)) = prototype_declared h heads name (function_type f) s d.initial k
by_type_outside h heads s sensor name d k (Some (of_part_function f)) = prototype_declared h heads name (part_type f) s d.initial k
by_type_outside h heads s sensor name d k j = object_by_form h heads s sensor name d k j

-- a declarator outside of functions with its name
abbrev pub outer_named : Keep → Heads → Storage → Bool → Option PlainType → Known → InitDeclarator At → Option (Identifier At) → Known
outer_named h heads s sensor t k d None = k
outer_named h heads s sensor t k d (Some name) =
    let j : Passed DeclaredType = declarator_passed h name.place (based t k.standing) d.declarator in
    if is_typedef s then without_linkage name (no_initializer h d.initial (typedef_passed h name d.declarator j.made j.after)) k
    else by_type_outside h heads s sensor name d (with_standing k j.after) j.made

-- declarators outside of functions, one after the other
abbrev pub outer_declarators : Keep → Heads → Storage → Bool → Option PlainType → Known → List (InitDeclarator At) → Known
outer_declarators h heads s sensor t k [] = k
outer_declarators h heads s sensor t k (d ∷ rest) = outer_declarators h heads s sensor t (outer_named h heads s sensor t k d (name_in d.declarator)) rest

-- the constants of enumerations among specifiers outside of functions that are named `main`
abbrev pub main_constants : List (Identifier At) → List Problem
main_constants [] = []
main_constants (x ∷ rest) = main_problem false x.name x.place ++ main_constants rest

-- a declaration outside of functions
unfoldable pub declared_outside : Keep → Heads → Known → Declaration At → Known
declared_outside h heads k d =
    let t : Passed PlainType = specified_in h true site_is.Outside k.standing d in
    outer_declarators h heads (storage_of d.specifiers) (makes_sensors d) t.made
    (record k { standing = t.after; mains = k.mains ++ main_constants (constants_of d.specifiers) }) d.declarators

-- ## Functions with their bodies

-- whether there is no name
abbrev pub is_nameless : Option (Identifier At) → Bool
is_nameless None = true
is_nameless (Some name) = false

-- the parameters of a function with a body have names (C99 6.9.1p5)
abbrev pub names_noted : Keep → List PlainParameter → PlainStanding → PlainStanding
names_noted h [] s = s
names_noted h (p ∷ rest) s = names_noted h rest (refusing h (is_nameless p.name) subset.NoPrototype p.at s)

-- the same, where the function is refused
abbrev pub listed_names_noted : Keep → List ListedParameter → PlainStanding → PlainStanding
listed_names_noted h [] s = s
listed_names_noted h (p ∷ rest) s = listed_names_noted h rest (refusing h (is_nameless p.name) subset.NoPrototype p.at s)

-- a parameter as a variable of its function
abbrev pub parameter_variable : Frame → PlainStanding → ℕ → PlainParameter → Identifier At → PlainVariable
parameter_variable f s n p name = record {
  name = name.name;
  type = p.type;
  bytes = size_of s.scope.structures p.type;
  frame = is_frame_variable f n p.type;
  span = name.place.span;
}

-- the parameters as the first variables
abbrev pub parameter_variables : Frame → PlainStanding → ℕ → List PlainParameter → List PlainVariable
parameter_variables f s n [] = []
parameter_variables f s n (p ∷ rest) = with_name_of p.name (parameter_variables f s (n + 1) rest)
  where
    with_name_of : Option (Identifier At) → List PlainVariable → List PlainVariable
    with_name_of None others = others
    with_name_of (Some name) others = parameter_variable f s n p name ∷ others

-- what a name among the parameters stands for in the body, where it is known which are frame variables
abbrev pub meaning_in_body : Frame → Meaning → Meaning
meaning_in_body f (local n t frame) = local n t (is_frame_variable f n t)
meaning_in_body f what = what

-- the block of a body: its names begin with those of the parameters (C99 6.2.1p4)
abbrev pub body_scope : Frame → FunctionType → PlainScope → PlainScope
body_scope f t s =
    let inner : PlainScope = entered s in
    record inner {
      names = inner.names ++ map (λ (b : Binding). record b { what = meaning_in_body f b.what }) t.names;
      tags = inner.tags ++ t.tags;
    }

-- where a body begins
abbrev pub body_begun : Frame → FunctionType → PlainStanding → Local
body_begun f t s = record {
  standing = record s { scope = body_scope f t s.scope };
  count = length t.parameters;
  variables = parameter_variables f s 0 t.parameters;
  objects = [];
  loops = 0;
}

-- a function, if its body isn't refused
abbrev pub function_made : Linked → FunctionType → Local → Option (List PlainStatement) → At → List PlainFunction
function_made l t after None name_at = []
function_made l t after (Some ss) name_at = record {
  name = l.name;
  span = name_at.span;
  static = l.internal;
  parameters = length t.parameters;
  result = t.result;
  variables = after.variables;
  body = statements_of_list ss;
} ∷ []

-- the body of a function, after its declaration
abbrev pub body_done : Keep → Heads → Linked → FunctionType → Statements At → Known → Known
body_done h heads l t body k =
    let f : Frame = record { heads = heads; taken = addresses_taken t.parameters body; number = number_in heads.functions l.root l.internal l.name; result = t.result } in
    let b : Block' = items_done h f (is_main_name l.name) in_nothing (no_items_yet (body_begun f t (names_noted h t.parameters k.standing))) body in
    let s : PlainStanding = if is_main_name l.name then marks_noted h true false false b.kinds b.after.standing else b.after.standing in
    record k {
      standing = record s { scope = left s.scope };
      functions = k.functions ++ function_made l t b.after b.made l.at;
      block_objects = k.block_objects ++ b.after.objects;
    }

-- a body after a declarator that declares no function: one without parameters is refused, which is a row on the form
abbrev pub bodyless : Keep → Definition At → Identifier At → Known → Known
bodyless h d name k =
    without_linkage name
    (unknown_in h name (refusing h (not (has_parameters d.declarator)) subset.NoPrototype (declarator_place d.declarator) k.standing)) k

-- a function by what its declarator declares
abbrev pub function_by_type : Keep → Heads → Storage → Definition At → Identifier At → Known → Option DeclaredType → Known
function_by_type h heads s d name k (Some (of_function f)) =
    let l : Linked = linked_of k name (function_type f) s true false in
    body_done h heads l f d.body (with_linked h heads l k)
function_by_type h heads s d name k (Some (of_part_function f)) =
    with_linked h heads (linked_of k name (part_type f) s true false) (with_standing k (listed_names_noted h f.parameters k.standing))
function_by_type h heads s d name k j = bodyless h d name k

-- what a function's declarator allows among its specifiers
abbrev pub allowed_at_definition : Definition At → Allowed
allowed_at_definition d = record { inline = is_static (storage_of d.specifiers); volatile = false }

-- a function with its name
abbrev pub function_named : Keep → Heads → Definition At → Known → Option PlainType → Option (Identifier At) → Known
function_named h heads d k t None = k
function_named h heads d k t (Some name) =
    let j : Passed DeclaredType = declarator_passed h name.place (based t k.standing) d.declarator in
    function_by_type h heads (storage_of d.specifiers) d name (with_standing k j.after) j.made

-- a function with its body (C99 6.9.1)
unfoldable pub defined_outside : Keep → Heads → Known → Definition At → Known
defined_outside h heads k d =
    let t : Passed PlainType = specified h site_is.OfDefinition (allowed_at_definition d) false k.standing d.specifiers in
    function_named h heads d (record k { standing = t.after; mains = k.mains ++ main_constants (constants_of d.specifiers) }) t.made (name_in d.declarator)
