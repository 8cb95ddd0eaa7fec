-- Lengths of arrays and rows on the form are told of the declarations in which their declarators stand.
use Rattle.std.specs.Prelude.{true}
use Rattle.std.proofs.Common.{inl, inr}
use Rattle.p10_base.specs.declared.at.At.{At}
use Rattle.p10_syn.specs.Trees.{Absent, Present, Declarator, Named, Unnamed, Pointer, Parenthesised, Array, Function}
use Rattle.p10_elabx.specs.declared.problem.Problem.{Problem}
use Rattle.p10_elabx.specs.First.{Among, every}
use Rattle.p10_elabd.specs.Laws.{elements_in, LengthsAreTold, FormRowsAreTold}
use Rattle.p10_elabd.specs.Standing.{Passed}
use Rattle.p10_elabd.specs.Shapes.{DeclaredType, pointer_declared, element_declared, array_inside, array_declared, open_declared}
use Rattle.p10_elabd.specs.Declaring.{declarator_passed}
use Rattle.p10_refusals.specs.Forms.{reached_outside, reached_in_function, function_made_of, IsLengthRow, DeclaratorsAreTold, FormRowsOfDeclarationsAreTold, LengthsOfDeclarationsAreTold}
use Rattle.p10_refusals.proofs.FormsInFunctions.{told_in_function}
use Rattle.p10_refusals.proofs.FormsOutside.{told_outside}

pub length_told : LengthsAreTold → (name_at : At) (p : Passed DeclaredType) (d : Declarator At) (r : Problem) → IsLengthRow name_at p d r → Among r (declarator_passed every name_at p d).after.problems
length_told law name_at p (Named name) r h = absurd h
length_told law name_at p (Unnamed at) r h = absurd h
length_told law name_at p (Pointer at qualifiers d) r h = length_told law name_at (pointer_declared every at name_at qualifiers p.made p.after) d r h
length_told law name_at p (Parenthesised at d) r h = length_told law name_at p d r h
length_told law name_at p (Array at d brackets Absent) r h = length_told law name_at (open_declared (element_declared every name_at p.made (array_inside every name_at true d p.after))) d r h
length_told law name_at p (Array at d brackets (Present e)) r (inl here) = law.in_declarator name_at p at brackets d e here.value r here.found here.refused
length_told law name_at p (Array at d brackets (Present e)) r (inr inside) = length_told law name_at (array_declared every e (elements_in name_at p d)) d r inside
length_told law name_at p (Function at d parentheses all more) r h = length_told law name_at (function_made_of name_at at p d parentheses all more) d r h

pub declarators_told : FormRowsAreTold → DeclaratorsAreTold
declarators_told law = record { outside = told_outside; in_function = told_in_function }

pub forms_told : FormRowsAreTold → FormRowsOfDeclarationsAreTold
forms_told law = record {
  outside = λ heads k d before one name r is h. told_outside heads k d before one name r is (law.told name.place (reached_outside heads k d before) one.declarator r h);
  in_function = λ f site l d before one name r is h. told_in_function f site l d before one name r is (law.told name.place (reached_in_function f site l d before) one.declarator r h);
}

pub lengths_told : LengthsAreTold → FormRowsAreTold → LengthsOfDeclarationsAreTold
lengths_told lengths law = record {
  declarator = length_told lengths;
  outside = λ heads k d before one name r is h. told_outside heads k d before one name r is (length_told lengths name.place (reached_outside heads k d before) one.declarator r h);
  in_function = λ f site l d before one name r is h. told_in_function f site l d before one name r is (length_told lengths name.place (reached_in_function f site l d before) one.declarator r h);
}
