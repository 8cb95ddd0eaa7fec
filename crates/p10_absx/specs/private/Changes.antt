-- Changes of environments, as the code lists them.
use Rattle.std.specs.Prelude.{ℕ, eqb, if◌then◌else◌, List, [], ◌∷◌, map, slice_set, Option, Some, None}
use Rattle.std.specs.Option.{option_map}
use Rattle.p10_range.specs.Ranges.{Interval, meet_of}
use Rattle.p10_absx.specs.declared.changes.Change.{Change}
use Rattle.p10_absx.specs.Abstract.{Abstract, abstract_of}
use Rattle.p10_absx.specs.Environments.{Environment, known, hull_entry}

-- something else in the entry of a variable
pub record Replaced : Type 0 where
  pub variable : ℕ
  pub known : Option Abstract

-- a change of the code
abbrev pub replaced_of : Change → Replaced
replaced_of c = record { variable = c.variable; known = option_map abstract_of c.known }

-- changes of the code
abbrev pub replaced_in : List Change → List Replaced
replaced_in changes = map replaced_of changes

-- the environment after changes, the first one first
abbrev pub applied : List Replaced → Environment → Environment
applied [] env = env
applied (c ∷ changes) env = applied changes (slice_set env c.variable c.known)

-- the change that a side of a comparison has where it lies in an interval too, if it has one; none at all where it can't
abbrev pub change_met : Option ℕ → Interval → Option Abstract → Option (List Replaced)
change_met None r a = Some []
change_met (Some n) r None = Some []
change_met (Some n) r (Some a) = option_map (λ s. record { variable = n; known = Some (record { range = s; offset = a.offset }) } ∷ []) (meet_of a.range r)

-- what is known of a variable, if there is one
abbrev pub known_side : Option ℕ → Environment → Option Abstract
known_side None env = None
known_side (Some n) env = known env n

-- what is known of a variable after one change at most
abbrev pub known_after : Option ℕ → Option ℕ → List Replaced → Environment → Option Abstract
known_after left right [] env = known_side right env
known_after left right (c ∷ changes) env = of left right
  where
    of : Option ℕ → Option ℕ → Option Abstract
    of (Some m) (Some n) = if eqb m n then c.known else known env n
    of m n = known_side n env

-- a change after which its variable has what it has there and in another environment
abbrev pub widened_one : Environment → Replaced → Replaced
widened_one env c = record { variable = c.variable; known = hull_entry (known env c.variable) c.known }

-- changes after which each variable that they change has what it has there and in another environment
abbrev pub widened : Environment → List Replaced → List Replaced
widened env changes = map (widened_one env) changes
