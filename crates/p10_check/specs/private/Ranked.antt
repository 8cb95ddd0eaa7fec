-- What the pass over a function gives as failing conditions, by what evidence was found to say of its loops.
use Rattle.std.specs.Prelude.{ℕ, Bool, if◌then◌else◌, List, [], ◌∷◌, ◌++◌, map, slice_get}
use Rattle.p10_base.specs.declared.span.Span.{Span}
use Rattle.p10_cert.specs.Claims.{Claims}
use Rattle.p10_sums.specs.Counting.{loops_claimed}
use Rattle.p10_pass.specs.Claiming.{loop_claimed}
use Rattle.p10_pass.specs.Passing.{Failing, Weakness}
use Rattle.p10_pass.specs.Findings.{Findings}
use Rattle.p10_check.specs.Passes.{Standing, places_of}
use Rattle.p10_check.specs.Conditions.{failing_at_each}

-- the places at which a condition on ranks fails in loops, where it is given of each whether it stands in another way
abbrev pub unranked_by : ℕ → List Bool → List Weakness → List Span
unranked_by k stood [] = []
unranked_by k [] (w ∷ rest) = []
unranked_by k (b ∷ stood) (w ∷ rest) = (if b then [] else places_of k w.fails) ++ unranked_by k stood rest

-- the failing K8 to K10 of these
abbrev pub rank_failures : List Bool → List Weakness → List Failing
rank_failures stood weak = failing_at_each 8 (unranked_by 8 stood weak) ++ (failing_at_each 9 (unranked_by 9 stood weak) ++ failing_at_each 10 (unranked_by 10 stood weak))

-- whether evidence stands for a loop of the function with a number
abbrev pub stands_for : Standing → Claims → ℕ → Weakness → Bool
stands_for stands c n w = stands n w.at w.entry (loop_claimed (loops_claimed (slice_get c.funcs n)) w.at)

-- the failing K3 and K5 to K10 of what is found in the function with a number
abbrev pub found_failures : Standing → Claims → ℕ → Findings → List Failing
found_failures stands c n found = found.fails ++ rank_failures (map (stands_for stands c n) found.weak) found.weak
