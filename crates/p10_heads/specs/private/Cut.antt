-- The first of the roots that follow one another in one list.
use Rattle.std.specs.Prelude.{ℕ, zero, suc, if◌then◌else◌, List, [], ◌∷◌, take, drop}
use Rattle.p10_base.specs.declared.at.At.{At}
use Rattle.p10_syn.specs.Trees.{External}
use Rattle.p10_heads.specs.Roots.{begins_root}

-- how many declarations and functions come before the next root
abbrev pub inside_length : List (External At) → ℕ
inside_length [] = zero
inside_length (e ∷ rest) = if begins_root e then zero else suc (inside_length rest)

-- how many are in the first root
abbrev pub root_length : List (External At) → ℕ
root_length all = suc (inside_length (drop 1 all))

-- the first root, and the rest
abbrev pub split_root : List (External At) → List (External At) × List (External At)
split_root all = (take (root_length all) all, drop (root_length all) all)
