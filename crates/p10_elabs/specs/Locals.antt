-- What is known while the body of a function is elaborated, and what a declaration in a block adds to it (C99 6.7, 6.8.2).
use Rattle.std.specs.Prelude.{ℕ, ◌+◌, ◌*◌, nat_le, Bool, true, false, not, ◌&&◌, ◌||◌, if◌then◌else◌, List, [], ◌∷◌, length, Option, Some, None}
use Rattle.p10_base.specs.declared.at.At.{At}
use Rattle.p10_base.specs.declared.codes.SubsetCode.{SubsetCode}
use Rattle.p10_base.specs.declared.codes.SubsetCode.TheVariants as subset
use Rattle.p10_syn.specs.Trees.{Identifier, Declarator, Pointer, Parenthesised, Array, Function, Specifiers, NoSpecifiers, MoreSpecifiers, Keyword, Structure, Initializer, InitDeclarator, Declaration}
use Rattle.p10_core.specs.Types.{PlainType, array}
use Rattle.p10_core.specs.Sizes.{size_of}
use Rattle.p10_core.specs.Rows.{is_integer, is_complete}
use Rattle.p10_core.specs.Typed.{PlainInitializer, not_initialized, PlainVariable, PlainObject}
use Rattle.p10_core.specs.WholePrograms.{most_bytes}
use Rattle.p10_elabx.specs.First.{Keep}
use Rattle.p10_elabx.specs.Scopes.{named_type, unknown_name, local, entered, left}
use Rattle.p10_elabx.specs.TypeNames.{declarator_place}
use Rattle.p10_elabd.specs.Standing.{PlainStanding, Passed, passed, nothing_made, refusing}
use Rattle.p10_elabd.specs.Words.{storage_of, has_word, is_volatile, is_other_word}
use Rattle.p10_elabd.specs.declared.site.Site.{Site}
use Rattle.p10_elabd.specs.declared.site.Storage.{Storage}
use Rattle.p10_elabd.specs.declared.site.Storage.TheVariants as storage_is
use Rattle.p10_elabd.specs.declared.site.Allowed.{Allowed}
use Rattle.p10_elabd.specs.Blocks.{declaring, with_name}
use Rattle.p10_elabd.specs.Shapes.{DeclaredType, of_type, of_open_array, of_function, of_part_function, declares_function, declares_open_array, is_plain_name}
use Rattle.p10_elabd.specs.Declaring.{specified}
use Rattle.p10_elabd.specs.Initializers.{initialized, elements_given, surplus_item}
use Rattle.p10_elabd.specs.declared.lifetime.Lifetime.{Lifetime}
use Rattle.p10_elabd.specs.declared.lifetime.Lifetime.TheVariants as life_is
use Rattle.p10_heads.specs.Heads.{Heads}

-- ## What is known

-- what doesn't change in a function: what the roots define; the variables whose addresses are taken; its number; the type of its
-- result
pub record Frame : Type 0 where
  pub heads : Heads
  pub taken : List ℕ
  pub number : ℕ
  pub result : PlainType

-- what a body has so far: what stands where the next statement does; how many variables there were; the variables and the static
-- objects with their numbers, of which none was refused; how many loops there were
pub record Local : Type 0 where
  pub standing : PlainStanding
  pub count : ℕ
  pub variables : List PlainVariable
  pub objects : List (ℕ × PlainObject)
  pub loops : ℕ

-- what a part of a body makes, if none of it is refused, and what the body has then
pub record Done (A : Type 0) : Type 0 where
  pub made : Option A
  pub after : Local

-- what is declared in a part of a body is done for the body
abbrev pub with_standing : Local → PlainStanding → Local
with_standing l s = record l { standing = s }

-- a part that stands in the body
abbrev pub done_in : {A : Type 0} → Local → Passed A → Done A
done_in l p = record { made = p.made; after = with_standing l p.after }

-- a row that holds at a tree, where a condition is met
abbrev pub refusing_in : Keep → Bool → SubsetCode → At → Local → Local
refusing_in h holds code at l = with_standing l (refusing h holds code at l.standing)

-- a block is opened
abbrev pub opened : Local → Local
opened l = with_standing l (record l.standing { scope = entered l.standing.scope })

-- a block is closed
abbrev pub closed : Local → Local
closed l = with_standing l (record l.standing { scope = left l.standing.scope })

-- ## What declarators allow

-- whether each declarator passes a test, and there is one
abbrev pub are_all : (InitDeclarator At → Bool) → List (InitDeclarator At) → Bool
are_all test [] = false
are_all test (d ∷ []) = test d
are_all test (d ∷ rest) = test d && are_all test rest

-- whether storage gives a static lifetime to objects
abbrev pub is_lasting : Bool → Storage → Bool
is_lasting outside storage_is.Static = true
is_lasting outside storage_is.Extern = outside
is_lasting outside storage_is.Unnamed = outside
is_lasting outside storage_is.Typedef = false

-- whether a specifier names a type that is no integer type, whatever its parts are
abbrev pub names_other : Specifiers At → Bool
names_other NoSpecifiers = false
names_other (MoreSpecifiers (Keyword at word) rest) = is_other_word word || names_other rest
names_other (MoreSpecifiers (Structure at word tag _) rest) = true
names_other (MoreSpecifiers one rest) = names_other rest

-- whether the type that specifiers name is an integer type; where it is refused, by their forms alone
abbrev pub names_integer : Option PlainType → Specifiers At → Bool
names_integer (Some t) _ = is_integer t
names_integer None specifiers = not (names_other specifiers)

-- whether a declaration declares sensors alone: each declarator is an object of integer type and of static lifetime
abbrev pub declares_sensors : Bool → Option PlainType → Declaration At → Bool
declares_sensors outside t d =
    is_lasting outside (storage_of d.specifiers) && (names_integer t d.specifiers && are_all (λ i. is_plain_name i.declarator) d.declarators)

-- `volatile` on anything but sensors (C99 6.7.3), at the word
abbrev pub volatile_noted : Keep → Bool → Specifiers At → PlainStanding → PlainStanding
volatile_noted h may NoSpecifiers s = s
volatile_noted h may (MoreSpecifiers (Keyword at word) rest) s =
    volatile_noted h may rest (refusing h (is_volatile word && not may) subset.BadSpecifier at s)
volatile_noted h may (MoreSpecifiers one rest) s = volatile_noted h may rest s

-- what the declarators of a declaration allow among its specifiers: `inline` where each declares a function that is `static`; whether
-- `volatile` may stand is known once the type is
abbrev pub allowed_by : Declaration At → Allowed
allowed_by d = record { inline = is_static (storage_of d.specifiers) && are_all (λ i. declares_function i.declarator) d.declarators; volatile = true }
  where
    is_static : Storage → Bool
    is_static storage_is.Static = true
    is_static s = false

-- whether there are no specifiers
abbrev pub are_none : Specifiers At → Bool
are_none NoSpecifiers = true
are_none (MoreSpecifiers one rest) = false

-- whether there is one specifier
abbrev pub is_one : Specifiers At → Bool
is_one NoSpecifiers = false
is_one (MoreSpecifiers one rest) = are_none rest

-- whether there are no declarators
abbrev pub is_none : List (InitDeclarator At) → Bool
is_none [] = true
is_none ds = false

-- whether specifiers are the only one of a declaration that declares nothing else
abbrev pub is_alone : Declaration At → Bool
is_alone d = is_one d.specifiers && is_none d.declarators

-- `volatile` on anything but sensors, once the type is known that the specifiers name
abbrev pub sensors_noted : Keep → Bool → Declaration At → Passed PlainType → Passed PlainType
sensors_noted h outside d t = record { made = t.made; after = volatile_noted h (declares_sensors outside t.made d) d.specifiers t.after }

-- the type that the specifiers of a declaration name
abbrev pub specified_in : Keep → Bool → Site → PlainStanding → Declaration At → Passed PlainType
specified_in h outside site s d = sensors_noted h outside d (specified h site (allowed_by d) (is_alone d) s d.specifiers)

-- ## One declarator

-- whether the objects of a declaration are sensors
abbrev pub makes_sensors : Declaration At → Bool
makes_sensors d = has_word is_volatile d.specifiers

-- an initialiser where none may stand
abbrev pub no_initializer : Keep → Option (Initializer At) → PlainStanding → PlainStanding
no_initializer h None s = s
no_initializer h (Some i) s = (surplus_item h s i).after

-- a name that stands for something unknown, since its declaration is refused
abbrev pub unknown_in : Keep → Identifier At → PlainStanding → PlainStanding
unknown_in h name s = declaring h name unknown_name s

-- a typedef by what is declared
abbrev pub typedef_of : Keep → Identifier At → Option DeclaredType → PlainStanding → PlainStanding
typedef_of h name None s = unknown_in h name s
typedef_of h name (Some (of_type t)) s = declaring h name (named_type t) s
typedef_of h name (Some (of_open_array t)) s = unknown_in h name s
typedef_of h name (Some (of_function f)) s = unknown_in h name s
typedef_of h name (Some (of_part_function f)) s = unknown_in h name s

-- a typedef: of a function, or of an array without a length, it isn't in the subset, which are rows on the form
abbrev pub typedef_passed : Keep → Identifier At → Declarator At → Option DeclaredType → PlainStanding → PlainStanding
typedef_passed h name d o s =
    typedef_of h name o
    (refusing h (declares_open_array d) subset.IncompleteType name.place (refusing h (declares_function d) subset.BadSpecifier (declarator_place d) s))

-- an array of n elements; one that is too large is refused at its brackets
abbrev pub counted_array : Keep → At → PlainType → ℕ → PlainStanding → Passed PlainType
counted_array h brackets t n s =
    if nat_le (n * size_of s.scope.structures t) most_bytes then passed (array false t n) s else nothing_made (refusing h true subset.BadLength brackets s)

-- an array with more elements than any type may have, in place of one without a length: like that, it has no size
abbrev pub without_size : PlainType → PlainType
without_size t = array false t (most_bytes + 1)

-- a block round the name of an array without a length, up to the end of its initialiser
abbrev pub awaiting : Identifier At → PlainType → PlainStanding → PlainStanding
awaiting name t s = with_name (record s { scope = entered s.scope }) name.name (local 0 (without_size t) false)

-- the rows that hold in the initialiser of an array without a length, since the array has none before its end (C99 6.7.8p22)
abbrev pub awaited : Keep → Identifier At → PlainType → PlainType → Initializer At → PlainStanding → PlainStanding
awaited h name t whole i s =
    let p : Passed PlainInitializer = initialized h life_is.Automatic whole (awaiting name t s) i in
    record p.after { scope = left p.after.scope }

-- an array that gets its length from an initialiser, unless it is too large
abbrev pub measured : Keep → Identifier At → PlainType → Initializer At → Option PlainType → PlainStanding → Passed PlainType
measured h name t i None s = nothing_made s
measured h name t i (Some whole) s = passed whole (awaited h name t whole i s)

-- an array of as many elements as an initialiser gives
abbrev pub filled_array : Keep → Identifier At → At → PlainType → Initializer At → Option ℕ → PlainStanding → Passed PlainType
filled_array h name brackets t i None s = nothing_made (surplus_item h s i).after
filled_array h name brackets t i (Some n) s =
    let p : Passed PlainType = counted_array h brackets t n s in
    measured h name t i p.made p.after

-- whether an initialiser is written
abbrev pub is_written : Option (Initializer At) → Bool
is_written None = false
is_written (Some i) = true

-- an object that is an array without a length, and gets none from an initialiser, has no size (C99 6.7p7): a row on the form
abbrev pub open_noted : Keep → At → Declarator At → Option (Initializer At) → PlainStanding → PlainStanding
open_noted h name_at d i s = refusing h (declares_open_array d && not (is_written i)) subset.IncompleteType name_at s

-- the type of an object: it has a size; the length of an array may come from its initialiser (C99 6.7p7, 6.7.8p22)
abbrev pub object_type : Keep → Identifier At → At → DeclaredType → Option (Initializer At) → PlainStanding → Passed PlainType
object_type h name brackets (of_type t) i s =
    if is_complete s.scope.structures t then passed t s else nothing_made (refusing h true subset.IncompleteType name.place s)
object_type h name brackets (of_open_array t) None s = nothing_made s
object_type h name brackets (of_open_array t) (Some i) s = filled_array h name brackets t i (elements_given t i) s
object_type h name brackets (of_function f) i s = nothing_made s
object_type h name brackets (of_part_function f) i s = nothing_made s

-- the brackets next to the name of a declarator of an array; where it is of none, the place that is given
abbrev pub brackets_from : At → Declarator At → At
brackets_from at (Array place d brackets length) = brackets_from brackets d
brackets_from at (Parenthesised place d) = brackets_from at d
brackets_from at (Function place d parentheses _ _) = brackets_from at d
brackets_from at (Pointer place qualifiers d) = brackets_from at d
brackets_from at d = at

-- the brackets of an array whose length is lacking: those next to its name
abbrev pub brackets_of : Declarator At → At
brackets_of d = brackets_from (declarator_place d) d

-- an initialiser, if one is written, for an object of a type
abbrev pub initialized_by : Keep → Lifetime → PlainType → Option (Initializer At) → PlainStanding → Passed PlainInitializer
initialized_by h life t None s = passed not_initialized s
initialized_by h life t (Some i) s = initialized h life t s i
