-- What is known of the program after some declarations and functions of the roots, and what a name with linkage adds to it (C99 6.2.2).
use Rattle.std.specs.Prelude.{ℕ, ◌+◌, nat_eq, nat_le, Bool, true, false, ◌&&◌, ◌||◌, if◌then◌else◌, List, [], ◌∷◌, ◌++◌, length, None}
use Rattle.p10_base.specs.Words.{Text}
use Rattle.p10_base.specs.declared.at.At.{At}
use Rattle.p10_core.specs.declared.program.Extent.{Extent}
use Rattle.p10_elab.specs.declared.outer_object.Sighting.{Sighting}
use Rattle.p10_syn.specs.Trees.{Identifier}
use Rattle.p10_core.specs.Types.{PlainType}
use Rattle.p10_core.specs.Typed.{PlainInitializer, PlainFunction, PlainObject, PlainSeen}
use Rattle.p10_elabx.specs.declared.problem.Problem.{Problem}
use Rattle.p10_elabx.specs.First.{Keep}
use Rattle.p10_elabx.specs.Scopes.{Meaning, object, callable, unknown_name}
use Rattle.p10_elabd.specs.Standing.{PlainStanding}
use Rattle.p10_elabd.specs.declared.site.Storage.{Storage}
use Rattle.p10_elabd.specs.Blocks.{with_name}
use Rattle.p10_heads.specs.Heads.{Heads, number_in}
use Rattle.p10_linkage.specs.Linkage.{is_function, LinkedType, a_function, an_object, Linked, last_linked, internal_by, linked_noted, is_main, main_problem}

-- an object that a root defines outside of functions: its number, its name, its type, its initialiser, if it has one, and whether it is
-- a sensor
pub record Defined : Type 0 where
  pub number : ℕ
  pub name : Identifier At
  pub type : PlainType
  pub initializer : PlainInitializer
  pub sensor : Bool

-- a declaration of an object that defines it unless another one does: its name and its type
pub record Tentative : Type 0 where
  pub name : Identifier At
  pub type : PlainType

-- what is known after some declarations and functions of the roots: what stands where the next one does; the root's number; all
-- declarations with linkage; the functions; the objects of blocks with their numbers, and those that are defined outside of functions;
-- the objects that are declared in the root; at which functions of the roots before each object is in scope; the problems of `main`; the
-- tentative definitions of the root (C99 6.9.2p2); the names of the objects that it declares and no root defines, each with how many
-- functions stand before; and those of the roots before, with the functions at which they are in scope
pub record Known : Type 0 where
  pub standing : PlainStanding
  pub root : ℕ
  pub linked : List Linked
  pub functions : List PlainFunction
  pub block_objects : List (ℕ × PlainObject)
  pub objects : List Defined
  pub sightings : List Sighting
  pub visible : List (ℕ × Extent)
  pub mains : List Problem
  pub tentative : List Tentative
  pub undefined : List (Text × ℕ)
  pub outside : List PlainSeen

-- a declaration more
abbrev pub with_standing : Known → PlainStanding → Known
with_standing k s = record k { standing = s }

-- ## Names with linkage

-- whether an object was declared in this root
abbrev pub is_sighted : ℕ → List Sighting → Bool
is_sighted n [] = false
is_sighted n (s ∷ rest) = nat_eq s.number n || is_sighted n rest

-- the objects that a root declares, with one more, unless it was declared before
abbrev pub with_sighting : Sighting → List Sighting → List Sighting
with_sighting s all = if is_sighted s.number all then all else all ++ s ∷ []

-- the same where that is asked for, by the object's number and how many functions stand before
abbrev pub sighted_where : Bool → ℕ → ℕ → List Sighting → List Sighting
sighted_where wanted n from all = if wanted then with_sighting (record { number = n; from = from }) all else all

-- the number of the function or object that a declared name stands for
abbrev pub linked_number : Heads → Linked → ℕ
linked_number heads l = number_in (if is_function l.type then heads.functions else heads.objects) l.root l.internal l.name

-- what a declared name stands for, by its number
abbrev pub meaning_by : LinkedType → ℕ → Bool → Meaning
meaning_by (a_function ts r) n sensor = callable n ts r
meaning_by (an_object t) n sensor = object n t sensor
meaning_by unknown n sensor = unknown_name

-- what a declared name stands for: a function or an object by its number
abbrev pub linked_meaning : Heads → Linked → Meaning
linked_meaning heads l = meaning_by l.type (linked_number heads l) l.sensor

-- whether an object of a known type is declared
abbrev pub is_object : LinkedType → Bool
is_object (an_object t) = true
is_object t = false

-- the objects that a root declares and no root defines, with one more where that is wanted
abbrev pub undefined_where : Bool → Text → ℕ → List (Text × ℕ) → List (Text × ℕ)
undefined_where wanted name from all = if wanted then all ++ (name, from) ∷ [] else all

-- an object is in scope from its first declaration on; the number of one that no root defines is past those that are
abbrev pub sighted_by : Heads → Linked → Known → Known
sighted_by heads l k = record k {
  sightings = sighted_where (is_object l.type) (linked_number heads l) (length k.functions) k.sightings;
  undefined = undefined_where (is_object l.type && nat_le (length heads.objects) (linked_number heads l)) l.name (length k.functions) k.undefined;
}

-- a declaration with linkage
abbrev pub with_linked : Keep → Heads → Linked → Known → Known
with_linked h heads l k = sighted_by heads l (record k {
  standing = with_name (linked_noted h k.linked l k.standing) l.name (linked_meaning heads l);
  linked = k.linked ++ l ∷ [];
  mains = k.mains ++ main_problem (is_main l) l.name l.at;
})

-- a declaration with linkage by its storage and those before it
abbrev pub linked_of : Known → Identifier At → LinkedType → Storage → Bool → Bool → Linked
linked_of k name t s defines sensor = record {
  root = k.root;
  name = name.name;
  at = name.place;
  type = t;
  internal = internal_by s t (last_linked None k.root name.name k.linked);
  defines = defines;
  sensor = sensor;
}

-- a name outside of functions that has no linkage, and isn't `main` then
abbrev pub without_linkage : Identifier At → PlainStanding → Known → Known
without_linkage name s k = record k { standing = s; mains = k.mains ++ main_problem false name.name name.place }
