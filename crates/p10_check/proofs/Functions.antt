-- The failing conditions of a function, put together.
use Rattle.std.proofs.Common.{◌≡◌, ◌∙◌, ℕ, Bool, List, [], ◌∷◌, ◌++◌, map, Option, Some, ap, refl, append_assoc}
use Rattle.std.specs.Prelude.{if◌then◌else◌}
use Rattle.p10_core.specs.Typed.{PlainFunction, PlainProgram}
use Rattle.p10_cert.specs.Claims.{Claims}
use Rattle.p10_pass.specs.Passing.{Failing, Weakness, Left}
use Rattle.p10_pass.specs.Findings.{findings_of}
use Rattle.p10_check.specs.Sums.{short_steps, short_depths}
use Rattle.p10_check.specs.Passes.{Standing, left_by, places_of, unranked, unranked_loops}
use Rattle.p10_check.specs.Conditions.{failing_at_each, function_failures_at}
use Rattle.p10_check.specs.private.Ranked.{unranked_by, stands_for, found_failures}

told_of_each : (k : ℕ) (stands : Weakness → Bool) (weak : List Weakness) → unranked_by k (map stands weak) weak ≡ unranked k stands weak
told_of_each k stands [] = refl
told_of_each k stands (w ∷ rest) = ap (λ places. (if stands w then [] else places_of k w.fails) ++ places) (told_of_each k stands rest)

-- lists that are joined from the left, and from the right
regrouped : (a b c d e f g s t : List Failing) → ((a ++ (b ++ (c ++ d))) ++ (e ++ (f ++ g))) ++ (s ++ t) ≡ a ++ (b ++ (c ++ (d ++ (e ++ (f ++ (g ++ (s ++ t)))))))
regrouped a b c d e f g s t = simp append_assoc

ranks_told : (stands : Standing) (p : PlainProgram) (c : Claims) (n : ℕ) (l : Left) →
    found_failures stands c n (findings_of l)
    ≡ (failing_at_each 3 l.arguments ++ (failing_at_each 5 l.results ++ (failing_at_each 6 l.entries ++ failing_at_each 7 l.backs)))
    ++ (failing_at_each 8 (unranked_loops stands c n 8 l.weak) ++ (failing_at_each 9 (unranked_loops stands c n 9 l.weak) ++ failing_at_each 10 (unranked_loops stands c n 10 l.weak)))
ranks_told stands p c n l =
    λ i. (failing_at_each 3 l.arguments ++ (failing_at_each 5 l.results ++ (failing_at_each 6 l.entries ++ failing_at_each 7 l.backs))) ++ (failing_at_each 8 (told_of_each 8 (stands_for stands c n) l.weak i) ++ (failing_at_each 9 (told_of_each 9 (stands_for stands c n) l.weak i) ++ failing_at_each 10 (told_of_each 10 (stands_for stands c n) l.weak i)))

-- what the pass and the sums find of a function
pub one_told : (stands : Standing) (p : PlainProgram) (c : Claims) (n : ℕ) (f : PlainFunction) (o : Option PlainFunction) (mid fails : List Failing) → Some f ≡ o
    → mid ≡ found_failures stands c n (findings_of (left_by p c n))
    → fails ≡ mid ++ (failing_at_each 11 (short_steps p c.funcs n f) ++ failing_at_each 12 (short_depths p c.funcs n f))
    → fails ≡ function_failures_at stands p c n o
one_told stands p c n f o mid fails there passed sums =
    sums
    ∙ ap (λ xs. xs ++ (failing_at_each 11 (short_steps p c.funcs n f) ++ failing_at_each 12 (short_depths p c.funcs n f))) (passed ∙ ranks_told stands p c n (left_by p c n))
    ∙ regrouped (failing_at_each 3 (left_by p c n).arguments) (failing_at_each 5 (left_by p c n).results) (failing_at_each 6 (left_by p c n).entries) (failing_at_each 7 (left_by p c n).backs)
    (failing_at_each 8 (unranked_loops stands c n 8 (left_by p c n).weak)) (failing_at_each 9 (unranked_loops stands c n 9 (left_by p c n).weak)) (failing_at_each 10 (unranked_loops stands c n 10 (left_by p c n).weak))
    (failing_at_each 11 (short_steps p c.funcs n f)) (failing_at_each 12 (short_depths p c.funcs n f))
    ∙ ap (function_failures_at stands p c n) there
