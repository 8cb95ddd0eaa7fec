-- The tags in a tree that stands at two places are the same.
use Rattle.std.proofs.Common.{◌≡◌, refl, Option, Some, None, option_map, ◌++◌}
use Rattle.p10_base.specs.declared.at.At.{At}
use Rattle.p10_syn.specs.declared.sign.Sign.{Sign}
use Rattle.p10_syn.specs.declared.sign.Sign.TheVariants as sign
use Rattle.p10_syn.specs.Trees.{Identifier, Expression, expression, Name, Number, Character, Strings, Unary, Step, Binary, Assign, Conditional, Call, Index, Member, Arrow, Cast, SizeofExpression, SizeofType, Comma, Expressions, NoExpressions, MoreExpressions, Absent, Present, TypeName, type_name, Specifiers, NoSpecifiers, MoreSpecifiers, Specifier, Keyword, Typedef, Structure, Enumeration, Declarator, Named, Unnamed, Pointer, Parenthesised, Array, Function, Parameters, NoParameters, MoreParameters, Parameter, parameter}
use Rattle.p10_elabd.specs.Tags.{structure_tag, tag_of, tags_of, tags_in, tags_in_all, tags_in_type, tags_in_declarator, tags_in_parameters, tags_in_parameter}
use Rattle.p10_expression_renaming.specs.Mapped.{mapped_identifier, mapped_expression, mapped_expressions, mapped_type_name, mapped_specifiers, mapped_specifier, mapped_declarator, mapped_parameters, mapped_parameter}
use Rattle.p10_expression_renaming.proofs.TypeNames.{left, right}

structure_tag_same : (word : Sign) (tag : Option (Identifier (At × At))) → structure_tag word (option_map (mapped_identifier left) tag) ≡ structure_tag word (option_map (mapped_identifier right) tag)
structure_tag_same sign.Struct None = refl
structure_tag_same sign.Struct (Some x) = refl
structure_tag_same word tag = refl

tag_of_same : (one : Specifier (At × At)) → tag_of (mapped_specifier left one) ≡ tag_of (mapped_specifier right one)
tag_of_same (Keyword at word) = refl
tag_of_same (Typedef x) = refl
tag_of_same (Structure at word tag _) = structure_tag_same word tag
tag_of_same (Enumeration at tag constants comma) = refl

tags_of_same : (all : Specifiers (At × At)) → tags_of (mapped_specifiers left all) ≡ tags_of (mapped_specifiers right all)
tags_of_same NoSpecifiers = refl
tags_of_same (MoreSpecifiers one rest) = λ i. tag_of_same one i ++ tags_of_same rest i

mutual
  pub tags_same : (e : Expression (At × At)) → tags_in (mapped_expression left e) ≡ tags_in (mapped_expression right e)
  tags_same (expression at n (Name x)) = refl
  tags_same (expression at n (Number text)) = refl
  tags_same (expression at n (Character text)) = refl
  tags_same (expression at n (Strings texts)) = refl
  tags_same (expression at n (Unary word e)) = tags_same e
  tags_same (expression at n (Step side word e)) = tags_same e
  tags_same (expression at n (Binary word a b)) = λ i. tags_same a i ++ tags_same b i
  tags_same (expression at n (Assign word a b)) = λ i. tags_same a i ++ tags_same b i
  tags_same (expression at n (Conditional c a b)) = λ i. tags_same c i ++ (tags_same a i ++ tags_same b i)
  tags_same (expression at n (Call e all)) = λ i. tags_same e i ++ tags_all_same all i
  tags_same (expression at n (Index a b)) = λ i. tags_same a i ++ tags_same b i
  tags_same (expression at n (Member e x)) = tags_same e
  tags_same (expression at n (Arrow e x)) = tags_same e
  tags_same (expression at n (Cast t e)) = λ i. tags_type_same t i ++ tags_same e i
  tags_same (expression at n (SizeofExpression e)) = tags_same e
  tags_same (expression at n (SizeofType t)) = tags_type_same t
  tags_same (expression at n (Comma all)) = tags_all_same all

  tags_all_same : (all : Expressions (At × At)) → tags_in_all (mapped_expressions left all) ≡ tags_in_all (mapped_expressions right all)
  tags_all_same NoExpressions = refl
  tags_all_same (MoreExpressions e rest) = λ i. tags_same e i ++ tags_all_same rest i

  tags_type_same : (t : TypeName (At × At)) → tags_in_type (mapped_type_name left t) ≡ tags_in_type (mapped_type_name right t)
  tags_type_same (type_name at specifiers d) = λ i. tags_of_same specifiers i ++ tags_declarator_same d i

  tags_declarator_same : (d : Declarator (At × At)) → tags_in_declarator (mapped_declarator left d) ≡ tags_in_declarator (mapped_declarator right d)
  tags_declarator_same (Named x) = refl
  tags_declarator_same (Unnamed at) = refl
  tags_declarator_same (Pointer at qualifiers d) = tags_declarator_same d
  tags_declarator_same (Parenthesised at d) = tags_declarator_same d
  tags_declarator_same (Array at d brackets Absent) = tags_declarator_same d
  tags_declarator_same (Array at d brackets (Present e)) = λ i. tags_declarator_same d i ++ tags_same e i
  tags_declarator_same (Function at d parentheses all more) = λ i. tags_declarator_same d i ++ tags_parameters_same all i

  tags_parameters_same : (all : Parameters (At × At)) → tags_in_parameters (mapped_parameters left all) ≡ tags_in_parameters (mapped_parameters right all)
  tags_parameters_same NoParameters = refl
  tags_parameters_same (MoreParameters one rest) = λ i. tags_parameter_same one i ++ tags_parameters_same rest i

  tags_parameter_same : (one : Parameter (At × At)) → tags_in_parameter (mapped_parameter left one) ≡ tags_in_parameter (mapped_parameter right one)
  tags_parameter_same (parameter at specifiers d) = λ i. tags_of_same specifiers i ++ tags_declarator_same d i
