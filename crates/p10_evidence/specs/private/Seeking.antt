-- The loop with a number, sought among loops one after the other.
use Rattle.std.specs.Prelude.{ℕ, ◌-◌, nat_eq, if◌then◌else◌, List, [], ◌∷◌, Option, Some, None}
use Rattle.p10_core.specs.Typed.{PlainStatement}
use Rattle.p10_core.specs.Views.{plain_statement}
use Rattle.p10_turns.specs.LoopParts.{LoopParts, parts_of, loops_within}
use Rattle.p10_evidence.specs.declared.seeking.Sought.{Sought as CodeSought}
use Rattle.p10_evidence.specs.declared.seeking.Sought.TheVariants.{Found, Passed}

-- what a statement that was found consists of, if it is a loop
abbrev pub parts_found : Option PlainStatement → Option LoopParts
parts_found None = None
parts_found (Some s) = parts_of s

-- what a search comes to: the parts of the loop that was found, or its number among those that follow
pub data Sought : Type 0 where
  found : Option LoopParts → Sought
  passed : ℕ → Sought

-- the search for the loop with a number among loops
abbrev pub sought : List LoopParts → ℕ → Sought
sought [] number = passed number
sought (l ∷ loops) number = if nat_eq number 0 then found (Some l) else sought loops (number - 1)

-- what the code's search comes to
abbrev pub sought_by : CodeSought → Sought
sought_by (Found s) = found (parts_of (plain_statement s.now))
sought_by (Passed number) = passed number

-- the loops in the second branch of an `if`, if there is one
abbrev pub loops_in_else : Option PlainStatement → List LoopParts
loops_in_else None = []
loops_in_else (Some s) = loops_within s
