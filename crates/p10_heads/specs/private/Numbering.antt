-- Numbers of what the roots define, as the code keeps them.
use Rattle.std.specs.Prelude.{ℕ, zero, suc, ◌+◌, max, nat_eq, Bool, not, ◌&&◌, if◌then◌else◌, Option, Some, None, List, [], ◌∷◌, ◌++◌, length, map, slice_get}
use Rattle.std.specs.List.{position_from}
use Rattle.p10_base.specs.Words.{Text}
use Rattle.p10_bindings.specs.Bound.{bound_in}
use Rattle.p10_bindings.specs.Lookup.{last_bound}
use Rattle.p10_heads.specs.declared.numbers.Numbers.{Numbers}
use Rattle.p10_heads.specs.declared.numbers.Whose.{Whose}
use Rattle.p10_heads.specs.declared.numbers.Whose.TheVariants.{Own, Shared}
use Rattle.p10_heads.specs.Heads.{Head, number_by}
use Rattle.p10_heads.specs.private.Firsts.{firsts}

-- whether a definition is meant
abbrev pub is_meant : Whose → Head → Bool
is_meant (Own root) f = nat_eq f.root root && not f.in_block
is_meant Shared f = not f.in_block && not f.internal

-- a definition that is meant, with its number
abbrev pub number_among : Whose → ℕ → Head → List (Text × ℕ)
number_among whose n f = if is_meant whose f then (f.name, n) ∷ [] else []

-- the definitions that are meant, from one with a number on
abbrev pub numbers_among : Whose → ℕ → List Head → List (Text × ℕ)
numbers_among whose n [] = []
numbers_among whose n (f ∷ rest) = number_among whose n f ++ numbers_among whose (n + 1) rest

-- the first number for each name of the definitions that are meant
abbrev pub first_numbers : Whose → List Head → List (Text × ℕ)
first_numbers whose heads = firsts [] (numbers_among whose 0 heads)

-- those of each of the first roots
abbrev pub tables_upto : ℕ → List Head → List (List (Text × ℕ))
tables_upto zero heads = []
tables_upto (suc n) heads = tables_upto n heads ++ first_numbers (Own n) heads ∷ []

-- how many roots there are, as far as definitions say
abbrev pub roots_in : List Head → ℕ
roots_in [] = 0
roots_in (f ∷ rest) = max (f.root + 1) (roots_in rest)

-- the numbers of definitions by their names: those of each root, those that all roots share, and how many there are
pub record PlainNumbers : Type 0 where
  pub own : List (List (Text × ℕ))
  pub shared : List (Text × ℕ)
  pub count : ℕ

-- numbers that the code keeps
abbrev pub plain_numbers : Numbers → PlainNumbers
plain_numbers k = record { own = map bound_in k.own.items; shared = bound_in k.shared; count = k.count }

-- the numbers of definitions
abbrev pub numbers_of : List Head → PlainNumbers
numbers_of heads = record { own = tables_upto (roots_in heads) heads; shared = first_numbers Shared heads; count = length heads }

-- what a name stands for in a table, if there is one
abbrev pub in_table : Text → Option (List (Text × ℕ)) → Option ℕ
in_table name None = None
in_table name (Some table) = last_bound name table

-- the number of what a root defines by a name
abbrev pub own_number : PlainNumbers → ℕ → Text → Option ℕ
own_number k root name = in_table name (slice_get k.own root)

-- the number of what all roots share by a name, unless it is internal
abbrev pub shared_number : PlainNumbers → Bool → Text → Option ℕ
shared_number k internal name = if internal then None else last_bound name k.shared

-- the number of what a name of a root stands for
abbrev pub number_from : PlainNumbers → ℕ → Bool → Text → ℕ
number_from k root internal name = number_by (own_number k root name) (shared_number k internal name) k.count

-- ## Objects in blocks

-- whether a definition stands in a block, with its name at a first word
abbrev pub stands_at : ℕ → Head → Bool
stands_at first f = f.in_block && nat_eq f.at.first first

-- the number of the first one that does
abbrev pub block_place : ℕ → List Head → Option ℕ
block_place first heads = position_from (stands_at first) 0 heads

-- a number that was found, or else another one, where that is told
abbrev pub or_at : Option ℕ → Bool → ℕ → Option ℕ
or_at (Some n) here m = Some n
or_at None here m = if here then Some m else None

-- a number that was found, or else what is found then
abbrev pub or_found : Option ℕ → Option ℕ → Option ℕ
or_found (Some n) o = Some n
or_found None o = o
