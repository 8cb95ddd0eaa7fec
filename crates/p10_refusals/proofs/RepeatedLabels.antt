-- A label that stands twice is told.
use Rattle.std.specs.Prelude.{◌≡◌, refl, ℕ, ℤ, Bool, true, false, if◌then◌else◌, List, [], ◌∷◌, Option, Some, None, Ok}
use Rattle.std.specs.Ordering.{int_eq}
use Rattle.std.proofs.Common.{inl, inr, sym, subst, ap, ◌∙◌}
use Rattle.std.proofs.lemmas.Bool.Decides.{Decides-int_eq}
use Rattle.p10_base.specs.declared.at.At.{At}
use Rattle.p10_base.specs.declared.codes.SubsetCode.TheVariants as subset
use Rattle.p10_core.specs.declared.statements.Label.{Label as CaseLabel}
use Rattle.p10_elabx.specs.First.{Found, Among, every, on}
use Rattle.p10_elabd.specs.Standing.{PlainStanding, noted}
use Rattle.p10_elabd.specs.Expressions.{for_expression, value_found}
use Rattle.p10_elabs.specs.Locals.{Local, with_standing}
use Rattle.p10_elabs.specs.Statements.{Labelled, is_labelled, case_noted, case_value, default_done}
use Rattle.p10_refusals.specs.RepeatedLabels.{repeated_at, IsLabelled, RepeatedLabelsAreTold}
use Rattle.p10_refusals.proofs.Growing.{refusing_told}
use Rattle.p10_refusals.proofs.Tests.{first_true, second_true}

default_told : (at : At) (n m : ℕ) (cases : Option (List CaseLabel)) (o : Option ℕ) (l : Local) → o ≡ Some m →
    Among (repeated_at at) (default_done every at n (record { cases = cases; otherwise = o; after = l })).after.standing.problems
default_told at n m cases None l e = absurd cc
default_told at n m cases (Some i) l e = refusing_told true subset.BadJump at l.standing refl

found_among : (z : ℤ) (cases : List CaseLabel) → IsLabelled z cases → is_labelled z (Some cases) ≡ true
found_among z [] h = absurd h
found_among z (l ∷ rest) (inl e) = first_true (int_eq l.value z) (is_labelled z (Some rest)) ((Decides-int_eq l.value z).1 e)
found_among z (l ∷ rest) (inr h) = second_true (int_eq l.value z) (is_labelled z (Some rest)) (found_among z rest h)

either_told : (at : At) (b : Bool) (k j : Labelled) → b ≡ true → Among (repeated_at at) k.after.standing.problems → Among (repeated_at at) (if b then k else j).after.standing.problems
either_told at true k j e h = h
either_told at false k j e h = absurd cc

-- a value that is found, where labels have it
value_told : (at : At) (n : ℕ) (k : Labelled) (cases : List CaseLabel) (f : Found ℤ) (s : PlainStanding) (z : ℤ) → k.cases ≡ Some cases → IsLabelled z cases → f ≡ Ok z →
    Among (repeated_at at) (case_noted every at n k (noted every f s).made (with_standing k.after (noted every f s).after)).after.standing.problems
value_told at n k cases f s z e h found =
    subst (λ g. Among (repeated_at at) (case_noted every at n k (noted every g s).made (with_standing k.after (noted every g s).after)).after.standing.problems) (sym found)
    (either_told at (is_labelled z k.cases) _ _ (ap (is_labelled z) e ∙ found_among z cases h) (refusing_told true subset.BadJump at s refl))

pub repeated_labels_are_told : RepeatedLabelsAreTold
repeated_labels_are_told = record {
  of_default = λ at n m k e. default_told at n m k.cases k.otherwise k.after e;
  of_value = λ at n on' k e z cases known found h.
      value_told at n k cases (on (value_found every k.after.standing e) (case_value on')) (for_expression k.after.standing e) z known h found;
}
