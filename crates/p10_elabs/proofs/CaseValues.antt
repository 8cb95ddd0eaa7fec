-- Values of `case` labels that are noted in a list of numbers.
use Rattle.std.proofs.Common.{◌≡◌, ℤ, ◌||◌, List, [], ◌∷◌, ◌++◌, Some, sym, ◌∙◌, ap}
use Rattle.std.specs.List.{list_any}
use Rattle.std.specs.Ordering.{int_eq}
use Rattle.std.proofs.Math.Bool.{or_assoc, or-false}
use Rattle.p10_numbers.specs.Numbers.{with_number}
use Rattle.p10_numbers.proofs.Numbering.{either_way, number_after}
use Rattle.p10_core.specs.declared.statements.Label.{Label}
use Rattle.p10_elabs.specs.Statements.{is_labelled}

labelled_after : (z : ℤ) (labels : List Label) (l : Label) → is_labelled z (Some (labels ++ l ∷ [])) ≡ (is_labelled z (Some labels) || int_eq l.value z)
labelled_after z [] l = or-false (int_eq l.value z)
labelled_after z (k ∷ labels) l =
    ap (λ b. int_eq k.value z || b) (labelled_after z labels l) ∙ sym (or_assoc (int_eq k.value z) (is_labelled z (Some labels)) (int_eq l.value z))

-- the values of labels, with that of one more
pub labelled_with : (before values : List ℤ) (labels list : List Label) (l : Label) → ((z : ℤ) → list_any (int_eq z) before ≡ is_labelled z (Some labels)) →
    values ≡ with_number before l.value → list ≡ labels ++ l ∷ [] → (z : ℤ) → list_any (int_eq z) values ≡ is_labelled z (Some list)
labelled_with before values labels list l h is more z =
    ap (list_any (int_eq z)) is
    ∙ number_after z l.value before
    ∙ (λ i. h z i || either_way z l.value i)
    ∙ sym (labelled_after z labels l)
    ∙ ap (λ ls. is_labelled z (Some ls)) (sym more)
