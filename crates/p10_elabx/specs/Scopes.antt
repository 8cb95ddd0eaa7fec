-- Scopes: what names stand for (C99 6.2.1, 6.2.3), in the blocks that are open.
use Rattle.std.specs.Prelude.{ℕ, ◌-◌, ℤ, Bool, true, false, if◌then◌else◌, Option, Some, None, List, [], ◌∷◌, ◌++◌, take, length, slice_index_or, bytes_eq}
use Rattle.p10_base.specs.Words.{Text}
use Rattle.p10_core.specs.Types.{PlainType, PlainStructure}
use Rattle.p10_core.specs.declared.typed.Library.{Library}
use Rattle.p10_core.specs.declared.typed.Library.TheVariants.{Assert, CAssert, Getchar, Putchar, Malloc, Calloc, Free}
use Rattle.std.specs.Prelude.{codes}

-- what a name stands for: a variable of the function by its number, with its type and whether it is a frame variable; an
-- object of static lifetime by its number, with its type and whether it is a sensor; a function by its number, with the types
-- of its parameters and its result; a constant of an enumeration; a type that `typedef` named; a type by its tag; or nothing
-- that is known, since its declaration was refused
pub data Meaning : Type 0 where
  local : ℕ → PlainType → Bool → Meaning
  object : ℕ → PlainType → Bool → Meaning
  callable : ℕ → List PlainType → PlainType → Meaning
  number : ℤ → Meaning
  named_type : PlainType → Meaning
  tagged_type : PlainType → Meaning
  unknown_name : Meaning
  unknown_tag : Meaning

-- whether what a name stands for is a tag: tags are apart from other names (C99 6.2.3)
abbrev pub is_tag : Meaning → Bool
is_tag (local n t frame) = false
is_tag (object n t sensor) = false
is_tag (callable n parameters result) = false
is_tag (number z) = false
is_tag (named_type t) = false
is_tag (tagged_type t) = true
is_tag unknown_name = false
is_tag unknown_tag = true

-- a name and what it stands for
pub record Binding : Type 0 where
  pub name : Text
  pub what : Meaning

-- a scope: the structures that are declared; the names and the tags in the open blocks, in the order in which they were declared;
-- how many of both stood where each block inside the outermost one was opened, in order; and whether an expression that stands
-- there is evaluated, which the operand of a `sizeof` isn't (C99 6.5.3.4p2)
pub record PlainScope : Type 0 where
  pub structures : List PlainStructure
  pub names : List Binding
  pub tags : List Binding
  pub floors : List (ℕ × ℕ)
  pub evaluated : Bool

-- what the last declared of the names with this spelling stands for, or what was found before
abbrev pub last_named : Option Meaning → Text → List Binding → Option Meaning
last_named found name [] = found
last_named found name (b ∷ rest) = last_named (if bytes_eq b.name name then Some b.what else found) name rest

-- what a name stands for that is no tag (C99 6.2.1p4)
abbrev pub named : PlainScope → Text → Option Meaning
named s name = last_named None name s.names

-- what a tag stands for
abbrev pub tagged : PlainScope → Text → Option Meaning
tagged s name = last_named None name s.tags

-- no types, and one open block without names
abbrev pub empty_scope : PlainScope
empty_scope = record { structures = []; names = []; tags = []; floors = []; evaluated = true }

-- a block is opened
abbrev pub entered : PlainScope → PlainScope
entered s = record s { floors = s.floors ++ (length s.names, length s.tags) ∷ [] }

-- the names and tags that stood where the innermost block was opened
abbrev pub last_floor : List (ℕ × ℕ) → ℕ × ℕ
last_floor floors = slice_index_or floors (length floors - 1) (0, 0)

-- the innermost block is closed, with all that was declared in it
abbrev pub left : PlainScope → PlainScope
left s = record s {
  names = take (last_floor s.floors).0 s.names;
  tags = take (last_floor s.floors).1 s.tags;
  floors = take (length s.floors - 1) s.floors;
}

-- all names and tags are forgotten, and the structures stay: each root begins with no names (C99 6.2.1p4)
abbrev pub without_names : PlainScope → PlainScope
without_names s = record { structures = s.structures; names = []; tags = []; floors = []; evaluated = true }

-- the same names, where expressions aren't evaluated
abbrev pub unevaluated : PlainScope → PlainScope
unevaluated s = record s { evaluated = false }

-- the same names, where expressions are evaluated
abbrev pub evaluating : PlainScope → PlainScope
evaluating s = record s { evaluated = true }

-- a name is declared in the innermost block
abbrev pub declared : PlainScope → Text → Meaning → PlainScope
declared s name what =
    if is_tag what then record s { tags = s.tags ++ record { name = name; what = what } ∷ [] }
    else record s { names = s.names ++ record { name = name; what = what } ∷ [] }

-- the library function with a name, which needs no declaration
abbrev pub library_named : Text → Option Library
library_named name =
    if bytes_eq name (codes "assert") then Some Assert
    else if bytes_eq name (codes "c_assert") then Some CAssert
    else if bytes_eq name (codes "getchar") then Some Getchar
    else if bytes_eq name (codes "putchar") then Some Putchar
    else if bytes_eq name (codes "malloc") then Some Malloc
    else if bytes_eq name (codes "calloc") then Some Calloc
    else if bytes_eq name (codes "free") then Some Free
    else None
