-- The conditions on values and loops, as the pass over each function finds them: K3 and K5 to K10.
use Rattle.std.specs.Prelude.{ℕ, nat_eq, Bool, if◌then◌else◌, List, [], ◌∷◌, ◌++◌, map, slice_get}
use Rattle.std.specs.List.{filter}
use Rattle.p10_base.specs.declared.span.Span.{Span}
use Rattle.p10_core.specs.Typed.{PlainProgram}
use Rattle.p10_cert.specs.Claims.{Loop, Claims}
use Rattle.p10_absx.specs.Environments.{Environment}
use Rattle.p10_absx.specs.Entering.{entry_at}
use Rattle.p10_sums.specs.Counting.{loops_claimed}
use Rattle.p10_pass.specs.Claiming.{loop_claimed}
use Rattle.p10_pass.specs.Passing.{Failing, Weakness, Left, pass_of}
use Rattle.p10_check.specs.Places.{all_places}

-- what stands for loops: whether a loop of a function, by both numbers, enters its body no more often than is claimed from each
-- state that is described at its entry
abbrev pub Standing : Type 0
Standing = ℕ → ℕ → Environment → Loop → Bool

-- what the pass over the function with a number leaves, from the claims on its parameters on
abbrev pub left_by : PlainProgram → Claims → ℕ → Left
left_by p c n = pass_of p c n (entry_at p c n)

-- the places of the failures of one condition
abbrev pub places_of : ℕ → List Failing → List Span
places_of k fails = map (λ e. e.at) (filter (λ e. nat_eq e.k k) fails)

-- the places at which a condition on ranks fails in loops of which a function says whether they stand in another way
abbrev pub unranked : ℕ → (Weakness → Bool) → List Weakness → List Span
unranked k stands [] = []
unranked k stands (w ∷ rest) = (if stands w then [] else places_of k w.fails) ++ unranked k stands rest

-- the same for the loops of the function with a number, with what evidence stands for
abbrev pub unranked_loops : Standing → Claims → ℕ → ℕ → List Weakness → List Span
unranked_loops stands c n k weak = unranked k (λ w. stands n w.at w.entry (loop_claimed (loops_claimed (slice_get c.funcs n)) w.at)) weak

-- K3: the names of the calls whose arguments don't lie in the ranges of the parameters
abbrev pub wrong_arguments : PlainProgram → Claims → List Span
wrong_arguments p c = all_places p (λ n f. (left_by p c n).arguments)

-- K5: the words `return` whose values don't lie in the range of the result
abbrev pub wrong_results : PlainProgram → Claims → List Span
wrong_results p c = all_places p (λ n f. (left_by p c n).results)

-- K6: the loops whose ranges don't hold at entry
abbrev pub wrong_entries : PlainProgram → Claims → List Span
wrong_entries p c = all_places p (λ n f. (left_by p c n).entries)

-- K7: the loops whose ranges don't hold again on a way back
abbrev pub wrong_backs : PlainProgram → Claims → List Span
wrong_backs p c = all_places p (λ n f. (left_by p c n).backs)

-- K8 to K10, by number: the loops whose ranks don't show that they end, and for which no evidence stands
abbrev pub wrong_ranks : Standing → PlainProgram → Claims → ℕ → List Span
wrong_ranks stands p c k = all_places p (λ n f. unranked_loops stands c n k (left_by p c n).weak)
