-- Lengths of arrays that are told.
use Rattle.std.specs.Prelude.{◌≡◌, List, [], ◌∷◌, ◌++◌, Option, Some, None, Ok, Err, refl}
use Rattle.std.proofs.Common.{ap, sym, ◌∙◌, subst, inl, inr}
use Rattle.p10_base.specs.declared.at.At.{At}
use Rattle.p10_syn.specs.Trees.{Expression}
use Rattle.p10_core.specs.Types.{PlainType}
use Rattle.p10_core.specs.Typed.{PlainValue}
use Rattle.p10_elabx.specs.declared.problem.Problem.{Problem}
use Rattle.p10_elabx.specs.First.{Among, Found, every, lift, on}
use Rattle.p10_elabx.specs.TypeNames.{length_found}
use Rattle.p10_elabx.specs.declared.shape.Length.{Length}
use Rattle.p10_elabd.specs.Standing.{PlainStanding, Passed, noted}
use Rattle.p10_elabd.specs.Expressions.{for_expression, value_found}
use Rattle.p10_elabd.specs.Shapes.{array_with, array_declared}
use Rattle.p10_elabd.specs.Laws.{elements_in, LengthsAreTold}
use Rattle.p10_elabd.proofs.Growing.{grows_declarator}

pub among_last : (rs : List Problem) (r : Problem) → Among r (rs ++ r ∷ [])
among_last [] r = inl refl
among_last (q ∷ rs) r = inr (among_last rs r)

told_with : (o : Option PlainType) (s : PlainStanding) (r : Problem) → Among r s.problems → Among r (array_with every o None s).after.problems
told_with None s r h = h
told_with (Some t) s r h = h

told_of_array : (e : Expression At) (element : Passed PlainType) (v : PlainValue) (r : Problem) → value_found every element.after e ≡ Ok v → length_found v ≡ Err (Some r) →
    Among r (array_declared every e element).after.problems
told_of_array e element v r found refused =
    let s : PlainStanding = for_expression element.after e in
    subst (λ (f : Found Length). Among r (array_with every element.made (noted every f s).made (noted every f s).after).after.problems)
    (sym (ap (λ f. on f length_found) found ∙ ap lift refused))
    (told_with element.made (noted {A = Length} every (Err (r ∷ [])) s).after r (among_last element.after.problems r))

pub lengths_are_told : LengthsAreTold
lengths_are_told = record {
  of_array = told_of_array;
  in_declarator = λ name_at p at brackets d e v r found refused.
      (grows_declarator name_at (array_declared every e (elements_in name_at p d)) d).among r (told_of_array e (elements_in name_at p d) v r found refused);
}
