-- Declarations with linkage, looked up by their names and roots.
use Rattle.std.specs.Prelude.{ℕ, nat_eq, Bool, if◌then◌else◌, List, [], ◌∷◌, Option, Some, None}
use Rattle.p10_base.specs.Words.{Text}
use Rattle.p10_linkage.specs.Linkage.{Linked}

-- the name of a declaration
abbrev pub name_of : Linked → Text
name_of l = l.name

-- whether a declaration has a body or an initialiser
abbrev pub defines : Linked → Bool
defines l = l.defines

-- the last one of declarations that is one of a root, or what was found before
abbrev pub last_in_root : Option Linked → ℕ → List Linked → Option Linked
last_in_root found root [] = found
last_in_root found root (l ∷ rest) = last_in_root (if nat_eq l.root root then Some l else found) root rest

-- a declaration, if it is one of a root
abbrev pub of_root : ℕ → Option Linked → Option Linked
of_root root None = None
of_root root (Some l) = if nat_eq l.root root then Some l else None

-- a declaration, or else another one
abbrev pub or_else : Option Linked → Option Linked → Option Linked
or_else None other = other
or_else (Some l) other = Some l
