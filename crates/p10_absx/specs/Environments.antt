-- Environments: what is known of the integer frame variables in scope, by their numbers.
use Rattle.std.specs.Prelude.{ℕ, List, [], ◌∷◌, slice_get, slice_set, Option, Some, None}
use Rattle.p10_absx.specs.Abstract.{Abstract, hull_abstract}

-- an abstract value for each integer frame variable in scope, at the place of its number; nothing for other variables
abbrev pub Environment : Type 0
Environment = List (Option Abstract)

-- an entry that may be lacking
abbrev pub known_in : Option (Option Abstract) → Option Abstract
known_in None = None
known_in (Some entry) = entry

-- what is known of the variable with a number
abbrev pub known : Environment → ℕ → Option Abstract
known env n = known_in (slice_get env n)

-- the environment in which something else is known of a variable
abbrev pub learned : Environment → ℕ → Abstract → Environment
learned env n a = slice_set env n (Some a)

-- the environment in which a variable isn't in scope
abbrev pub out_of_scope : Environment → ℕ → Environment
out_of_scope env n = slice_set env n None

-- what is known of a variable where it is one of two: nothing where one of them doesn't have it in scope
abbrev pub hull_entry : Option Abstract → Option Abstract → Option Abstract
hull_entry None b = None
hull_entry (Some a) None = None
hull_entry (Some a) (Some b) = Some (hull_abstract a b)

-- the least environment over two, variable by variable
abbrev pub hull_environment : Environment → Environment → Environment
hull_environment [] others = []
hull_environment (a ∷ env) [] = []
hull_environment (a ∷ env) (b ∷ others) = hull_entry a b ∷ hull_environment env others

-- the hull of two environments of which each may be one that no state reaches
abbrev pub hull_reached : Option Environment → Option Environment → Option Environment
hull_reached None b = b
hull_reached (Some a) None = Some a
hull_reached (Some a) (Some b) = Some (hull_environment a b)
