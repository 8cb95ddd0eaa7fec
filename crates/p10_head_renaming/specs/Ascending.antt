-- Numbers in order.
use Rattle.std.specs.Prelude.{ℕ, ◌+◌, ◌≤◌, List, [], ◌∷◌, map}
use Rattle.p10_base.specs.declared.at.At.{At}
use Rattle.p10_syn.specs.Trees.{External}
use Rattle.p10_heads.specs.Heads.{Outline, outlines}

-- each number is greater than those before it; none is below the first of two others, and each is below the second
abbrev pub Ascend : ℕ → List ℕ → ℕ → Type 0
Ascend low [] high = low ≤ high
Ascend low (n ∷ rest) high = (low ≤ n) × Ascend (n + 1) rest high

-- the numbers of the words of outlines
abbrev pub numbers_of : List Outline → List ℕ
numbers_of all = map (λ (o : Outline). o.at.first) all

-- the numbers of the words that are names of objects and functions, where these are declared outside of functions
abbrev pub name_numbers : List (External At) → List ℕ
name_numbers trees = numbers_of (outlines trees)
