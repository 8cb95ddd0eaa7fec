-- The ranks by which claims on loops stand that a program's guards offer.
use Rattle.std.specs.Prelude.{◌≡◌, ℕ, suc, List, [], ◌∷◌, ◌++◌, Option, Some, None}
use Rattle.p10_core.specs.Typed.{PlainFunction, PlainProgram}
use Rattle.p10_cert.specs.Claims.{Claims}
use Rattle.p10_diff.specs.Evidence.{Rank}
use Rattle.p10_candidates.specs.Approaches.{Approach}
use Rattle.p10_approach.specs.Approaches.{approach_rank}
use Rattle.p10_approach.specs.Offers.{Offers}
use Rattle.p10_finder.specs.Functions.{loops_of}

-- the rank of a loop, if it has one, by the numbers of its function and its own
abbrev pub rank_for_loop : ℕ → ℕ → Option Approach → List Rank
rank_for_loop n k None = []
rank_for_loop n k (Some a) = approach_rank n k a ∷ []

-- the ranks of the loops of a function from number k on
abbrev pub ranks_by : ℕ → ℕ → List (Option Approach) → List Rank
ranks_by n k [] = []
ranks_by n k (a ∷ rest) = rank_for_loop n k a ++ ranks_by n (suc k) rest

-- the ranks of the loops of functions from number n on
abbrev pub ranks_from : Offers → PlainProgram → Claims → ℕ → List PlainFunction → List Rank
ranks_from o p c n [] = []
ranks_from o p c n (f ∷ rest) = ranks_by n 0 (loops_of o p c n f).approaches ++ ranks_from o p c (suc n) rest

-- the ranks of the loops of a program, where these claims stand
abbrev pub ranks_of : Offers → PlainProgram → Claims → List Rank
ranks_of o p c = ranks_from o p c 0 p.functions
