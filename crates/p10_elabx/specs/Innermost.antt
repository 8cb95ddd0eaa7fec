-- Names of the innermost block (C99 6.2.1, 6.7p3).
use Rattle.std.specs.Prelude.{ℕ, Bool, true, false, Option, None, List, [], ◌∷◌, ◌++◌, drop}
use Rattle.p10_base.specs.Words.{Text}
use Rattle.p10_elabx.specs.Scopes.{Meaning, unknown_name, PlainScope, last_named, last_floor}

-- what a name stands for that is declared in the innermost block
abbrev pub named_here : PlainScope → Text → Option Meaning
named_here s name = last_named None name (drop (last_floor s.floors).0 s.names)

-- what a tag stands for that is declared in the innermost block
abbrev pub tagged_here : PlainScope → Text → Option Meaning
tagged_here s name = last_named None name (drop (last_floor s.floors).1 s.tags)

-- whether there is no block inside the outermost one
abbrev pub no_floor : List (ℕ × ℕ) → Bool
no_floor [] = true
no_floor (f ∷ rest) = false

-- whether no block is open inside the outermost one
abbrev pub is_outermost : PlainScope → Bool
is_outermost s = no_floor s.floors

-- a tag that names nothing yet, in the innermost block
abbrev pub hidden : PlainScope → Text → PlainScope
hidden s name = record s { tags = s.tags ++ record { name = name; what = unknown_name } ∷ [] }
