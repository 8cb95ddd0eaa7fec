-- Structures that a type name in an expression is the first to name: it declares them (C99 6.7.2.3p8).
use Rattle.std.specs.Prelude.{List, [], ◌∷◌, ◌++◌, Option, Some, None}
use Rattle.p10_base.specs.Words.{Text}
use Rattle.p10_base.specs.declared.at.At.{At}
use Rattle.p10_syn.specs.declared.sign.Sign.{Sign}
use Rattle.p10_syn.specs.declared.sign.Sign.TheVariants as sign
use Rattle.p10_syn.specs.Trees.{Identifier, Expression, expression, Name, Number, Character, Strings, Unary, Step, Binary, Assign, Conditional, Call, Index, Member, Arrow, Cast, SizeofExpression, SizeofType, Comma, Expressions, NoExpressions, MoreExpressions, Absent, Present, TypeName, type_name, Specifiers, NoSpecifiers, MoreSpecifiers, Specifier, Structure, Declarator, Named, Unnamed, Pointer, Parenthesised, Array, Function, Parameters, NoParameters, MoreParameters, Parameter, parameter}
use Rattle.p10_core.specs.Types.{structure}
use Rattle.p10_core.specs.Completing.{with_structure}
use Rattle.std.specs.Prelude.{length, false}
use Rattle.p10_elabx.specs.Scopes.{PlainScope, Meaning, tagged_type, tagged, declared}

-- the tag after `struct`
abbrev pub structure_tag : Sign → Option (Identifier At) → List Text
structure_tag sign.Struct (Some tag) = tag.name ∷ []
structure_tag word tag = []

-- the tag of a structure as a specifier
abbrev pub tag_of : Specifier At → List Text
tag_of (Structure at word tag _) = structure_tag word tag
tag_of one = []

-- the tags of structures among specifiers
abbrev pub tags_of : Specifiers At → List Text
tags_of NoSpecifiers = []
tags_of (MoreSpecifiers one rest) = tag_of one ++ tags_of rest

abbrev mutual
  -- the tags of structures in the type names of an expression
  pub tags_in : Expression At → List Text
  tags_in (expression at n (Name name)) = []
  tags_in (expression at n (Number text)) = []
  tags_in (expression at n (Character text)) = []
  tags_in (expression at n (Strings texts)) = []
  tags_in (expression at n (Unary word e)) = tags_in e
  tags_in (expression at n (Step side word e)) = tags_in e
  tags_in (expression at n (Binary word a b)) = tags_in a ++ tags_in b
  tags_in (expression at n (Assign word a b)) = tags_in a ++ tags_in b
  tags_in (expression at n (Conditional c a b)) = tags_in c ++ (tags_in a ++ tags_in b)
  tags_in (expression at n (Call e all)) = tags_in e ++ tags_in_all all
  tags_in (expression at n (Index a i)) = tags_in a ++ tags_in i
  tags_in (expression at n (Member e name)) = tags_in e
  tags_in (expression at n (Arrow e name)) = tags_in e
  tags_in (expression at n (Cast t e)) = tags_in_type t ++ tags_in e
  tags_in (expression at n (SizeofExpression e)) = tags_in e
  tags_in (expression at n (SizeofType t)) = tags_in_type t
  tags_in (expression at n (Comma all)) = tags_in_all all

  -- the same for expressions in a row
  pub tags_in_all : Expressions At → List Text
  tags_in_all NoExpressions = []
  tags_in_all (MoreExpressions e rest) = tags_in e ++ tags_in_all rest

  -- the same for a type name
  pub tags_in_type : TypeName At → List Text
  tags_in_type (type_name at specifiers d) = tags_of specifiers ++ tags_in_declarator d

  -- the same for its declarator. What parameters name is declared up to the declarator's end (C99 6.2.1p4); here it is declared where the
  -- expression stands: a type name with parameters is always refused, so nothing after it tells the difference
  pub tags_in_declarator : Declarator At → List Text
  tags_in_declarator (Named name) = []
  tags_in_declarator (Unnamed at) = []
  tags_in_declarator (Pointer at qualifiers d) = tags_in_declarator d
  tags_in_declarator (Parenthesised at d) = tags_in_declarator d
  tags_in_declarator (Array at d brackets Absent) = tags_in_declarator d
  tags_in_declarator (Array at d brackets (Present e)) = tags_in_declarator d ++ tags_in e
  tags_in_declarator (Function at d parentheses all _) = tags_in_declarator d ++ tags_in_parameters all

  -- the same of parameters
  pub tags_in_parameters : Parameters At → List Text
  tags_in_parameters NoParameters = []
  tags_in_parameters (MoreParameters one rest) = tags_in_parameter one ++ tags_in_parameters rest

  -- the same of a parameter
  pub tags_in_parameter : Parameter At → List Text
  tags_in_parameter (parameter at specifiers d) = tags_of specifiers ++ tags_in_declarator d

-- a structure that isn't complete, with its tag, in the innermost block
abbrev pub with_tag : PlainScope → Text → PlainScope
with_tag s name =
    declared (record s { structures = with_structure s.structures (Some name) }) name (tagged_type (structure false (length s.structures)))

-- a tag is declared where nothing by this name is
abbrev pub with_unknown : Option Meaning → PlainScope → Text → PlainScope
with_unknown None s name = with_tag s name
with_unknown (Some what) s name = s

-- tags are declared where nothing by their names is
abbrev pub with_tags : PlainScope → List Text → PlainScope
with_tags s [] = s
with_tags s (name ∷ rest) = with_tags (with_unknown (tagged s name) s name) rest

-- the scope in which an expression is judged
abbrev pub scope_of_expression : PlainScope → Expression At → PlainScope
scope_of_expression s e = with_tags s (tags_in e)
