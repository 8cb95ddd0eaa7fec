-- The first of problems.
use Rattle.std.specs.Prelude.{List, [], ◌∷◌, Option, Some, None}
use Rattle.p10_elabx.specs.declared.problem.Problem.{Problem}
use Rattle.p10_elabx.specs.First.{least}

-- the first of problems and of one more
abbrev pub first_of : Problem → List Problem → Problem
first_of r [] = r
first_of r (q ∷ rest) = first_of (least r q) rest

-- the first of problems and of one that may be known already
abbrev pub first_with : Option Problem → List Problem → Option Problem
first_with None [] = None
first_with None (r ∷ rest) = Some (first_of r rest)
first_with (Some r) rest = Some (first_of r rest)
