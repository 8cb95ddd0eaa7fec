-- The ranks of loops, one after the other, and under claims with the same results.
use Rattle.std.proofs.Common.{◌≡◌, ℕ, ◌+◌, ◌<◌, List, [], ◌∷◌, ◌++◌, length, drop, get_or, Option, map, suc, refl, sym, ap, ◌∙◌, append_assoc, add-one}
use Rattle.std.specs.Option.{option_map}
use Rattle.std.proofs.lemmas.List.{drop_more}
use Rattle.p10_core.specs.declared.program.Func.{Func as CodeFunc}
use Rattle.p10_core.specs.Typed.{PlainFunction, PlainProgram}
use Rattle.p10_core.specs.Nodes.{nodes_of_statements}
use Rattle.p10_core.specs.Views.{plain_function}
use Rattle.p10_cert.specs.Claims.{Claims}
use Rattle.p10_diff.specs.Evidence.{Rank}
use Rattle.p10_candidates.specs.declared.offers.Approach.{Approach as CodeApproach}
use Rattle.p10_candidates.specs.Offering.{approach_by}
use Rattle.p10_approach.specs.Offers.{Offers}
use Rattle.p10_finder.specs.Functions.{loops_of}
use Rattle.p10_finder.specs.Ranking.{rank_for_loop, ranks_by, ranks_from}
use Rattle.p10_finder.proofs.Called.{all_called}
use Rattle.p10_finder.proofs.SameValues.{Same}
use Rattle.p10_finder.proofs.SameLoops.{loops_of_same}

-- the ranks of functions so far, and the next one's
pub ranks_more : (o : Offers) (p : PlainProgram) (c : Claims) (fs : List CodeFunc) (n : ℕ) (f : CodeFunc) (old new all : List Rank) → n < length fs → f ≡ get_or fs n f → new ≡ old ++ ranks_by n 0 (loops_of o p c n (plain_function f)).approaches →
    old ++ ranks_from o p c n (map plain_function (drop n fs)) ≡ all → new ++ ranks_from o p c (n + 1) (map plain_function (drop (n + 1) fs)) ≡ all
ranks_more o p c fs n f old new all inside is put so-far =
    let rest : List PlainFunction = map plain_function (drop (n + 1) fs) in
    let own : List Rank = ranks_by n 0 (loops_of o p c n (plain_function f)).approaches in
    let next : map plain_function (drop n fs) ≡ plain_function f ∷ rest = ap (map plain_function) (drop_more fs n f inside) ∙ ap (λ (g : CodeFunc). plain_function g ∷ rest) (sym is) in
    ap (λ l. l ++ ranks_from o p c (n + 1) rest) put
    ∙ (append_assoc old own (ranks_from o p c (n + 1) rest) ∙ (ap (λ m. old ++ (own ++ ranks_from o p c m rest)) (add-one n) ∙ (ap (λ l. old ++ ranks_from o p c n l) (sym next) ∙ so-far)))

-- the ranks of loops so far, and the next one's
pub loop_ranks_more : (number : ℕ) (xs : List (Option CodeApproach)) (k : ℕ) (d : Option CodeApproach) (old new all : List Rank) → k < length xs → new ≡ old ++ rank_for_loop number k (option_map approach_by (get_or xs k d)) →
    old ++ ranks_by number k (map (option_map approach_by) (drop k xs)) ≡ all → new ++ ranks_by number (k + 1) (map (option_map approach_by) (drop (k + 1) xs)) ≡ all
loop_ranks_more number xs k d old new all inside put so-far =
    let rest : List (Option _) = map (option_map approach_by) (drop (k + 1) xs) in
    let own : List Rank = rank_for_loop number k (option_map approach_by (get_or xs k d)) in
    let next : map (option_map approach_by) (drop k xs) ≡ option_map approach_by (get_or xs k d) ∷ rest = ap (map (option_map approach_by)) (drop_more xs k d inside) in
    ap (λ l. l ++ ranks_by number (k + 1) rest) put
    ∙ (append_assoc old own (ranks_by number (k + 1) rest) ∙ (ap (λ m. old ++ (own ++ ranks_by number m rest)) (add-one k) ∙ (ap (λ l. old ++ ranks_by number k l) (sym next) ∙ so-far)))

-- under claims with the same results the ranks are the same
pub ranks_same : (o : Offers) (p : PlainProgram) (c d : Claims) → ((n : ℕ) → Same c d n) → (n : ℕ) (fs : List PlainFunction) → ranks_from o p c n fs ≡ ranks_from o p d n fs
ranks_same o p c d same n [] = refl
ranks_same o p c d same n (f ∷ rest) =
    let loops = loops_of_same o p c d n f (all_called (Same c d) same (nodes_of_statements f.body)) in
    let later = ranks_same o p c d same (suc n) rest in
    λ i. ranks_by n 0 (loops i).approaches ++ later i
