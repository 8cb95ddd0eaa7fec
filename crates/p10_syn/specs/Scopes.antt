-- Names in scope.
use Rattle.std.specs.Prelude.{List, [], ◌∷◌, ◌++◌, map, Bool, true, false, cond, bytes_eq, Option, Some, None}
use Rattle.p10_base.specs.Words.{Text}

-- the declared names that are in scope, each with whether it is a typedef name; the innermost and, in one scope, the
-- later one stands last (C99 6.2.1)
abbrev pub Scope : Type 0
Scope = List (Text × Bool)

-- the answer of the last of these names that is this one, or else the answer so far
abbrev pub last_said : Bool → Scope → Text → Bool
last_said answer [] name = answer
last_said answer (n ∷ names) name = last_said (cond (bytes_eq n.0 name) n.1 answer) names name

-- whether a name is a typedef name: the innermost declaration in scope counts (C99 6.2.1, 6.7.7)
abbrev pub is_type : Scope → Text → Bool
is_type names name = last_said false names name

-- the scope after a declaration of this name
abbrev pub with_name : Scope → Bool → Text → Scope
with_name names types name = names ++ (name, types) ∷ []

-- the scope after a declarator that may have a name
abbrev pub with_optional : Scope → Bool → Option Text → Scope
with_optional names types None = names
with_optional names types (Some name) = with_name names types name

-- the scope in which exactly these names are typedef names
abbrev pub typedefs : List Text → Scope
typedefs names = map (λ name. (name, true)) names
