-- How large trees are, and how much of an expression was read after its first operand.
use Rattle.std.proofs.Common.{◌≡◌, ℕ, zero, suc, ◌+◌, ◌<◌, ◌≤◌, arith}
use Rattle.p10_syn.specs.declared.place.Side.TheVariants.{Before, After}
use Rattle.p10_syn.specs.Precedence.{binary_level, level_of}
use Rattle.p10_syn.specs.Trees.{Bare, Expression, expression, Form, Name, Number, Character, Strings, Unary, Step, Binary, Assign, Conditional, Call, Index, Member, Arrow, Cast, SizeofExpression, SizeofType, Comma, Expressions, NoExpressions, MoreExpressions, Optional, Absent, Present, TypeName, type_name, Specifiers, NoSpecifiers, MoreSpecifiers, Specifier, Keyword, Typedef, Structure, Enumeration, Members, NoMembers, MoreMembers, MemberDeclaration, member_declaration, Fields, NoFields, MoreFields, Field, field, Enumerators, NoEnumerators, MoreEnumerators, Enumerator, enumerator, Declarator, Named, Unnamed, Pointer, Parenthesised, Array, Function, Parameters, NoParameters, MoreParameters, Parameter, parameter}

abbrev mutual
  pub size : Expression Bare → ℕ
  size (expression p n f) = n + form_size f

  pub form_size : Form Bare → ℕ
  form_size (Name x) = 1
  form_size (Number x) = 1
  form_size (Character x) = 1
  form_size (Strings xs) = 1
  form_size (Unary s t) = 1 + size t
  form_size (Step side s t) = 1 + size t
  form_size (Binary s l r) = 1 + (size l + size r)
  form_size (Assign s l r) = 1 + (size l + size r)
  form_size (Conditional a b c) = 1 + (size a + (size b + size c))
  form_size (Call f ts) = 1 + (size f + expressions_size ts)
  form_size (Index l r) = 1 + (size l + size r)
  form_size (Member t x) = 1 + size t
  form_size (Arrow t x) = 1 + size t
  form_size (Cast k t) = 1 + (type_size k + size t)
  form_size (SizeofExpression t) = 1 + size t
  form_size (SizeofType k) = 1 + type_size k
  form_size (Comma ts) = 2 + expressions_size ts

  pub expressions_size : Expressions Bare → ℕ
  expressions_size NoExpressions = 0
  expressions_size (MoreExpressions t ts) = 1 + (size t + expressions_size ts)

  pub optional_size : Optional Bare → ℕ
  optional_size Absent = 0
  optional_size (Present t) = 1 + size t

  pub type_size : TypeName Bare → ℕ
  type_size (type_name p ss d) = 1 + (specifiers_size ss + declarator_size d)

  pub specifiers_size : Specifiers Bare → ℕ
  specifiers_size NoSpecifiers = 0
  specifiers_size (MoreSpecifiers s ss) = 1 + (specifier_size s + specifiers_size ss)

  pub specifier_size : Specifier Bare → ℕ
  specifier_size (Keyword p s) = 1
  specifier_size (Typedef x) = 1
  specifier_size (Structure p s tag ms) = 1 + members_size ms
  specifier_size (Enumeration p tag es comma) = 1 + enumerators_size es

  pub members_size : Members Bare → ℕ
  members_size NoMembers = 0
  members_size (MoreMembers m ms) = 1 + (member_size m + members_size ms)

  pub member_size : MemberDeclaration Bare → ℕ
  member_size (member_declaration p ss fs) = 1 + (specifiers_size ss + fields_size fs)

  pub fields_size : Fields Bare → ℕ
  fields_size NoFields = 0
  fields_size (MoreFields f fs) = 1 + (field_size f + fields_size fs)

  pub field_size : Field Bare → ℕ
  field_size (field p d width) = 1 + (declarator_size d + optional_size width)

  pub enumerators_size : Enumerators Bare → ℕ
  enumerators_size NoEnumerators = 0
  enumerators_size (MoreEnumerators e es) = 1 + (enumerator_size e + enumerators_size es)

  pub enumerator_size : Enumerator Bare → ℕ
  enumerator_size (enumerator p x value) = 1 + optional_size value

  pub declarator_size : Declarator Bare → ℕ
  declarator_size (Named x) = 1
  declarator_size (Unnamed p) = 1
  declarator_size (Pointer p qs d) = 1 + declarator_size d
  declarator_size (Parenthesised p d) = 1 + declarator_size d
  declarator_size (Array p d b length) = 1 + (declarator_size d + optional_size length)
  declarator_size (Function p d b ps ellipsis) = 1 + (declarator_size d + parameters_size ps)

  pub parameters_size : Parameters Bare → ℕ
  parameters_size NoParameters = 0
  parameters_size (MoreParameters x xs) = 1 + (parameter_size x + parameters_size xs)

  pub parameter_size : Parameter Bare → ℕ
  parameter_size (parameter p ss d) = 1 + (specifiers_size ss + declarator_size d)

-- ## Expressions

-- how many parts were put after the first operand
abbrev mutual
  pub spine : Expression Bare → ℕ
  spine (expression p zero f) = form_spine f
  spine (expression p (suc n) f) = 0

  pub form_spine : Form Bare → ℕ
  form_spine (Step After s t) = 1 + spine t
  form_spine (Binary s l r) = 1 + spine l
  form_spine (Assign s l r) = 1 + spine l
  form_spine (Conditional a b c) = 1 + spine a
  form_spine (Call f ts) = 1 + spine f
  form_spine (Index l r) = 1 + spine l
  form_spine (Member t x) = 1 + spine t
  form_spine (Arrow t x) = 1 + spine t
  form_spine (Comma ts) = 1 + row_spine ts
  form_spine _ = 0

  pub row_spine : Expressions Bare → ℕ
  row_spine NoExpressions = 0
  row_spine (MoreExpressions t ts) = spine t

mutual
  pub spine_less : (t : Expression Bare) → spine t < size t
  spine_less (expression p zero f) = omega (arith, form_spine_less f)
  spine_less (expression p (suc n) f) = omega arith

  form_spine_less : (f : Form Bare) → form_spine f < form_size f
  form_spine_less (Name x) = omega arith
  form_spine_less (Number x) = omega arith
  form_spine_less (Character x) = omega arith
  form_spine_less (Strings xs) = omega arith
  form_spine_less (Unary s t) = omega arith
  form_spine_less (Step Before s t) = omega arith
  form_spine_less (Step After s t) = omega (arith, spine_less t)
  form_spine_less (Binary s l r) = omega (arith, spine_less l)
  form_spine_less (Assign s l r) = omega (arith, spine_less l)
  form_spine_less (Conditional a b c) = omega (arith, spine_less a)
  form_spine_less (Call f ts) = omega (arith, spine_less f)
  form_spine_less (Index l r) = omega (arith, spine_less l)
  form_spine_less (Member t x) = omega (arith, spine_less t)
  form_spine_less (Arrow t x) = omega (arith, spine_less t)
  form_spine_less (Cast k t) = omega arith
  form_spine_less (SizeofExpression t) = omega arith
  form_spine_less (SizeofType k) = omega arith
  form_spine_less (Comma ts) = omega (arith, row_spine_less ts)

  row_spine_less : (ts : Expressions Bare) → row_spine ts ≤ expressions_size ts
  row_spine_less NoExpressions = omega arith
  row_spine_less (MoreExpressions t ts) = omega (arith, spine_less t)

-- what pulls less than this is not taken by the last operand
abbrev pub form_absorbs : Form Bare → ℕ
form_absorbs (Unary s t) = 16
form_absorbs (Step Before s t) = 16
form_absorbs (Cast k t) = 16
form_absorbs (SizeofExpression t) = 16
form_absorbs (Binary s l r) = binary_level s + 1
form_absorbs (Assign s l r) = 2
form_absorbs (Conditional a b c) = 3
form_absorbs (Comma ts) = 1
form_absorbs _ = 17

abbrev pub absorbs : Expression Bare → ℕ
absorbs (expression p zero f) = form_absorbs f
absorbs (expression p (suc n) f) = 17

form_holds : (p : Bare) (f : Form Bare) → (level_of (expression p zero f) ≤ form_absorbs f) × (4 ≤ level_of (expression p zero f) → level_of (expression p zero f) < form_absorbs f)
form_holds p (Name x) = (omega arith, λ h. omega arith)
form_holds p (Number x) = (omega arith, λ h. omega arith)
form_holds p (Character x) = (omega arith, λ h. omega arith)
form_holds p (Strings xs) = (omega arith, λ h. omega arith)
form_holds p (Unary s t) = (omega arith, λ h. omega arith)
form_holds p (Step Before s t) = (omega arith, λ h. omega arith)
form_holds p (Step After s t) = (omega arith, λ h. omega arith)
form_holds p (Binary s l r) = (omega arith, λ h. omega arith)
form_holds p (Assign s l r) = (omega arith, λ h. absurd (omega (arith, h)))
form_holds p (Conditional a b c) = (omega arith, λ h. absurd (omega (arith, h)))
form_holds p (Call f ts) = (omega arith, λ h. omega arith)
form_holds p (Index l r) = (omega arith, λ h. omega arith)
form_holds p (Member t x) = (omega arith, λ h. omega arith)
form_holds p (Arrow t x) = (omega arith, λ h. omega arith)
form_holds p (Cast k t) = (omega arith, λ h. omega arith)
form_holds p (SizeofExpression t) = (omega arith, λ h. omega arith)
form_holds p (SizeofType k) = (omega arith, λ h. omega arith)
form_holds p (Comma ts) = (omega arith, λ h. absurd (omega (arith, h)))

-- no less than its level, and more where it may stand on the left of an operator
pub holds : (t : Expression Bare) → (level_of t ≤ absorbs t) × (4 ≤ level_of t → level_of t < absorbs t)
holds (expression p zero f) = form_holds p f
holds (expression p (suc n) f) = (omega arith, λ h. omega arith)

-- ## Declarators

-- how many arrays and functions were put after the name
abbrev pub declarator_spine : Declarator Bare → ℕ
declarator_spine (Array p d b length) = 1 + declarator_spine d
declarator_spine (Function p d b ps ellipsis) = 1 + declarator_spine d
declarator_spine _ = 0

pub declarator_spine_less : (d : Declarator Bare) → declarator_spine d < declarator_size d
declarator_spine_less (Named x) = omega arith
declarator_spine_less (Unnamed p) = omega arith
declarator_spine_less (Pointer p qs d) = omega arith
declarator_spine_less (Parenthesised p d) = omega arith
declarator_spine_less (Array p d b length) = omega (arith, declarator_spine_less d)
declarator_spine_less (Function p d b ps ellipsis) = omega (arith, declarator_spine_less d)

eta : (p : Bare) (f : Form Bare) → let q : Bare = tt in expression p 0 f ≡ expression q 0 f
eta p f = λ i. expression p 0 f
