-- Roots, whose declarations and functions follow one another in one list.
use Rattle.std.specs.Prelude.{nat_eq, Bool, true, if◌then◌else◌, List, [], ◌∷◌}
use Rattle.p10_base.specs.declared.at.At.{At}
use Rattle.p10_syn.specs.Trees.{External, Outer, Defines}

-- whether a declaration or function begins its root: its first word is the root's first
abbrev pub begins_root : External At → Bool
begins_root (Outer at d) = nat_eq at.first 0
begins_root (Defines d) = nat_eq d.landmarks.whole.first 0

-- whether what comes next, if anything, begins a root
abbrev pub root_follows : List (External At) → Bool
root_follows [] = true
root_follows (e ∷ rest) = begins_root e

-- roots, of which the first one has one declaration or function more at its beginning
abbrev pub with_first : External At → List (List (External At)) → List (List (External At))
with_first e [] = (e ∷ []) ∷ []
with_first e (root ∷ rest) = (e ∷ root) ∷ rest

-- the roots of declarations and functions that follow one another: each root has one of them at least (C99 6.9p1)
abbrev pub roots_of : List (External At) → List (List (External At))
roots_of [] = []
roots_of (e ∷ rest) = if root_follows rest then (e ∷ []) ∷ roots_of rest else with_first e (roots_of rest)
