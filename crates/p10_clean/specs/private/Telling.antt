-- The first flaw, as the code comes to it.
use Rattle.std.specs.Prelude.{nat_lt, if◌then◌else◌, List, [], ◌∷◌, Option, Some, None}
use Rattle.p10_clean.specs.declared.flaw.Flaw.{Flaw}

-- the first of a flaw, if there is one, and of one that stands after it
abbrev pub earlier : Option Flaw → Flaw → Option Flaw
earlier None next = Some next
earlier (Some f) next = Some (if nat_lt next.c f.c then next else f)

-- the first of a flaw, if there is one, and of others after it
abbrev pub first_after : Option Flaw → List Flaw → Option Flaw
first_after first [] = first
first_after first (f ∷ flaws) = first_after (earlier first f) flaws
