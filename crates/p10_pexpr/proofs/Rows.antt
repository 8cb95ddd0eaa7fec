-- Rows of trees as lists, and back.
use Rattle.std.proofs.Common.{◌≡◌, List, [], ◌∷◌, refl, ap}
use Rattle.p10_syn.specs.Trees.{Bare, Expression, Expressions, NoExpressions, MoreExpressions, Specifier, Specifiers, NoSpecifiers, MoreSpecifiers, MemberDeclaration, Members, NoMembers, MoreMembers, Field, Fields, NoFields, MoreFields, Enumerator, Enumerators, NoEnumerators, MoreEnumerators, Parameter, Parameters, NoParameters, MoreParameters, expression_row, specifier_row, member_row, field_row, enumerator_row, parameter_row}

abbrev pub expression_list : Expressions Bare → List (Expression Bare)
expression_list NoExpressions = []
expression_list (MoreExpressions t ts) = t ∷ expression_list ts

pub expression_again : (ts : Expressions Bare) → expression_row (expression_list ts) ≡ ts
expression_again NoExpressions = refl
expression_again (MoreExpressions t ts) = ap (MoreExpressions t) (expression_again ts)

abbrev pub specifier_list : Specifiers Bare → List (Specifier Bare)
specifier_list NoSpecifiers = []
specifier_list (MoreSpecifiers s ss) = s ∷ specifier_list ss

pub specifier_again : (ss : Specifiers Bare) → specifier_row (specifier_list ss) ≡ ss
specifier_again NoSpecifiers = refl
specifier_again (MoreSpecifiers s ss) = ap (MoreSpecifiers s) (specifier_again ss)

abbrev pub member_list : Members Bare → List (MemberDeclaration Bare)
member_list NoMembers = []
member_list (MoreMembers m ms) = m ∷ member_list ms

pub member_again : (ms : Members Bare) → member_row (member_list ms) ≡ ms
member_again NoMembers = refl
member_again (MoreMembers m ms) = ap (MoreMembers m) (member_again ms)

abbrev pub field_list : Fields Bare → List (Field Bare)
field_list NoFields = []
field_list (MoreFields f fs) = f ∷ field_list fs

pub field_again : (fs : Fields Bare) → field_row (field_list fs) ≡ fs
field_again NoFields = refl
field_again (MoreFields f fs) = ap (MoreFields f) (field_again fs)

abbrev pub enumerator_list : Enumerators Bare → List (Enumerator Bare)
enumerator_list NoEnumerators = []
enumerator_list (MoreEnumerators e es) = e ∷ enumerator_list es

pub enumerator_again : (es : Enumerators Bare) → enumerator_row (enumerator_list es) ≡ es
enumerator_again NoEnumerators = refl
enumerator_again (MoreEnumerators e es) = ap (MoreEnumerators e) (enumerator_again es)

abbrev pub parameter_list : Parameters Bare → List (Parameter Bare)
parameter_list NoParameters = []
parameter_list (MoreParameters x xs) = x ∷ parameter_list xs

pub parameter_again : (xs : Parameters Bare) → parameter_row (parameter_list xs) ≡ xs
parameter_again NoParameters = refl
parameter_again (MoreParameters x xs) = ap (MoreParameters x) (parameter_again xs)
