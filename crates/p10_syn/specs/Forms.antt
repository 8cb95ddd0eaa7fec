-- Which trees there are where names are in scope: the conditions of the grammar (C99 6.5 to 6.9), in its order.
use Rattle.std.specs.Prelude.{◌≡◌, ℕ, ◌≤◌, ◌<◌, List, [], ◌∷◌, Bool, true, false, ◌||◌, ◌&&◌, Option, Some, None}
use Rattle.p10_base.specs.Words.{Text}
use Rattle.p10_syn.specs.declared.sign.Sign.{Sign}
use Rattle.p10_syn.specs.declared.sign.Sign.TheVariants as sign
use Rattle.p10_syn.specs.declared.place.Side.TheVariants.{Before, After}
use Rattle.p10_syn.specs.declared.setting.Naming.{Naming}
use Rattle.p10_syn.specs.declared.setting.Naming.TheVariants.{Required, Allowed, Forbidden}
use Rattle.p10_syn.specs.declared.setting.Said.{Said}
use Rattle.p10_syn.specs.declared.setting.Said.TheVariants.{Nothing, Words, TypedefName}
use Rattle.p10_syn.specs.declared.setting.Setting.{Setting}
use Rattle.p10_syn.specs.declared.setting.Setting.TheVariants as setting
use Rattle.p10_syn.specs.Scopes.{Scope, is_type}
use Rattle.p10_syn.specs.Precedence.{binary_level, is_unary, is_step, is_assign, level_of}
use Rattle.p10_syn.specs.Declaring.{after_enumerator, after_specifier, after_specifiers, after_member, after_parameter}
use Rattle.p10_syn.specs.Trees.{Bare, Identifier, Qualifier, Expression, expression, Form, Name, Number, Character, Strings, Unary, Step, Binary, Assign, Conditional, Call, Index, Member, Arrow, Cast, SizeofExpression, SizeofType, Comma, Expressions, NoExpressions, MoreExpressions, Optional, Absent, Present, TypeName, type_name, Specifiers, NoSpecifiers, MoreSpecifiers, Specifier, Keyword, Typedef, Structure, Enumeration, Members, NoMembers, MoreMembers, MemberDeclaration, member_declaration, Fields, NoFields, MoreFields, Field, field, Enumerators, NoEnumerators, MoreEnumerators, Enumerator, enumerator, Declarator, Named, Unnamed, Pointer, Parenthesised, Array, Function, Parameters, NoParameters, MoreParameters, Parameter, parameter}

-- ## Specifiers

-- storage classes (C99 6.7.1)
abbrev pub is_storage : Sign → Bool
is_storage sign.Typedef = true
is_storage sign.Extern = true
is_storage sign.Static = true
is_storage sign.Auto = true
is_storage sign.Register = true
is_storage _ = false

-- qualifiers (C99 6.7.3)
abbrev pub is_qualifier : Sign → Bool
is_qualifier sign.Const = true
is_qualifier sign.Restrict = true
is_qualifier sign.Volatile = true
is_qualifier _ = false

-- the function specifier (C99 6.7.4)
abbrev pub is_inline : Sign → Bool
is_inline sign.Inline = true
is_inline _ = false

-- the words of types (C99 6.7.2)
abbrev pub is_type_word : Sign → Bool
is_type_word sign.Void = true
is_type_word sign.Char = true
is_type_word sign.Short = true
is_type_word sign.Int = true
is_type_word sign.Long = true
is_type_word sign.Float = true
is_type_word sign.Double = true
is_type_word sign.Signed = true
is_type_word sign.Unsigned = true
is_type_word sign.Bool = true
is_type_word sign.Complex = true
is_type_word sign.Imaginary = true
is_type_word _ = false

-- the first words of structures and unions (C99 6.7.2.1)
abbrev pub is_structure : Sign → Bool
is_structure sign.Struct = true
is_structure sign.Union = true
is_structure _ = false

-- whether a typedef name may follow: there is at most one, beside no other word of a type
abbrev pub says_nothing : Said → Bool
says_nothing Nothing = true
says_nothing _ = false

-- whether a word of a type, a structure, a union or an enumeration may follow: there is no typedef name
abbrev pub says_no_name : Said → Bool
says_no_name TypedefName = false
says_no_name _ = true

-- what is said of the type after a keyword: the same as before, unless the keyword is a word of a type
abbrev pub said_by_keyword : Said → Bool → Said
said_by_keyword said true = Words
said_by_keyword said false = said

-- what is said of the type after one more specifier
abbrev pub after_saying : {P : Type 0} → Said → Specifier P → Said
after_saying said (Keyword p s) = said_by_keyword said (is_type_word s)
after_saying said (Typedef x) = TypedefName
after_saying said (Structure p s tag ms) = Words
after_saying said (Enumeration p tag es comma) = Words

-- what specifiers say of a type
abbrev pub said_by : {P : Type 0} → Said → Specifiers P → Said
said_by said NoSpecifiers = said
said_by said (MoreSpecifiers s ss) = said_by (after_saying said s) ss

-- whether there may be a storage class here: the name of a type has none (C99 6.7.6)
abbrev pub may_store : Setting → Bool
may_store setting.Type = false
may_store _ = true

-- whether a structure, union or enumeration may have a body here: in the name of a type none has
abbrev pub may_have_body : Setting → Bool
may_have_body setting.Outside = true
may_have_body _ = false

-- whether a keyword may be a specifier here, after others that said this of the type
abbrev pub is_specifier_word : Setting → Said → Sign → Bool
is_specifier_word setting said s = (is_storage s && may_store setting) || (is_qualifier s || (is_inline s || (is_type_word s && says_no_name said)))

-- at least one specifier is there (C99 6.7)
abbrev pub HasSpecifiers : {P : Type 0} → Specifiers P → Type 0
HasSpecifiers NoSpecifiers = ⊥
HasSpecifiers (MoreSpecifiers s ss) = Unit {0}

-- a structure or union has a name or a body
abbrev pub HasTagOrMembers : {P : Type 0} → Option (Identifier P) → Members P → Type 0
HasTagOrMembers (Some x) ms = Unit {0}
HasTagOrMembers None NoMembers = ⊥
HasTagOrMembers None (MoreMembers m ms) = Unit {0}

-- an enumeration has a name or a body
abbrev pub HasTagOrEnumerators : {P : Type 0} → Option (Identifier P) → Enumerators P → Type 0
HasTagOrEnumerators (Some x) es = Unit {0}
HasTagOrEnumerators None NoEnumerators = ⊥
HasTagOrEnumerators None (MoreEnumerators e es) = Unit {0}

-- a body only where there may be one
abbrev pub MayHaveMembers : {P : Type 0} → Setting → Members P → Type 0
MayHaveMembers setting NoMembers = Unit {0}
MayHaveMembers setting (MoreMembers m ms) = may_have_body setting ≡ true

-- a body only where there may be one, and a last comma only in a body
abbrev pub MayHaveEnumerators : {P : Type 0} → Setting → Enumerators P → Bool → Type 0
MayHaveEnumerators setting NoEnumerators comma = comma ≡ false
MayHaveEnumerators setting (MoreEnumerators e es) comma = may_have_body setting ≡ true

-- a declaration of members declares at least one (C99 6.7.2.1)
abbrev pub HasFields : {P : Type 0} → Fields P → Type 0
HasFields NoFields = ⊥
HasFields (MoreFields f fs) = Unit {0}

-- ## Declarators

-- whether a declarator may have a name here: in the name of a type it has none (C99 6.7.6)
abbrev pub may_be_named : Naming → Bool
may_be_named Forbidden = false
may_be_named _ = true

-- whether a declarator may lack its name here: only in a parameter or the name of a type (C99 6.7.6)
abbrev pub may_be_nameless : Naming → Bool
may_be_nameless Required = false
may_be_nameless _ = true

-- a declarator that begins with `*` ends there: brackets after it belong to what it points to
abbrev pub IsSuffixed : {P : Type 0} → Declarator P → Type 0
IsSuffixed (Pointer p qs d) = ⊥
IsSuffixed _ = Unit {0}

-- it spells some word
abbrev pub IsSomething : {P : Type 0} → Declarator P → Type 0
IsSomething (Unnamed p) = ⊥
IsSomething _ = Unit {0}

-- whether its first word is a typedef name
abbrev pub leads : {P : Type 0} → Scope → Declarator P → Bool
leads names (Named x) = is_type names x.name
leads names (Unnamed p) = false
leads names (Pointer p qs d) = false
leads names (Parenthesised p d) = false
leads names (Array p d b length) = leads names d
leads names (Function p d b ps ellipsis) = leads names d

-- a declarator directly after specifiers that say nothing of a type doesn't begin with a typedef name
abbrev pub IsApart : {P : Type 0} → Scope → Said → Declarator P → Type 0
IsApart names Nothing d = leads names d ≡ false
IsApart names _ d = Unit {0}

-- of the declarators of members only the one directly after the specifiers is told apart from them
abbrev pub AreApart : {P : Type 0} → Scope → Said → Fields P → Type 0
AreApart names said NoFields = Unit {0}
AreApart names said (MoreFields (field p d width) fs) = IsApart names said d

-- each of these is a qualifier, as those of a pointer are (C99 6.7.5.1)
abbrev pub AreQualifiers : List (Qualifier Bare) → Type 0
AreQualifiers [] = Unit {0}
AreQualifiers (q ∷ qs) = (is_qualifier q.word ≡ true) × AreQualifiers qs

-- `...` only after a parameter
abbrev pub MayEnd : {P : Type 0} → Parameters P → Bool → Type 0
MayEnd NoParameters ellipsis = ellipsis ≡ false
MayEnd (MoreParameters x xs) ellipsis = Unit {0}

-- ## Expressions

-- at least one string is there
abbrev pub AreSome : List Text → Type 0
AreSome [] = ⊥
AreSome (x ∷ xs) = Unit {0}

-- at least two operands have a comma between them
abbrev pub AreSeveral : {P : Type 0} → Expressions P → Type 0
AreSeveral NoExpressions = ⊥
AreSeveral (MoreExpressions t NoExpressions) = ⊥
AreSeveral (MoreExpressions t (MoreExpressions u ts)) = Unit {0}

-- ## The conditions

abbrev mutual
  -- an expression of the grammar, with any pairs of parentheses round it (C99 6.5)
  pub IsExpression : Scope → Expression Bare → Type 0
  IsExpression names (expression p n f) = IsForm names f

  -- a name that is no typedef name, a constant, strings, or an operator with operands that hold together as tightly as it
  -- asks (C99 6.5.1 to 6.5.17)
  pub IsForm : Scope → Form Bare → Type 0
  -- a typedef name is no expression
  IsForm names (Name x) = is_type names x.name ≡ false
  IsForm names (Number x) = Unit {0}
  IsForm names (Character x) = Unit {0}
  IsForm names (Strings xs) = AreSome xs
  IsForm names (Unary s t) = (is_unary s ≡ true) × IsExpression names t × (14 ≤ level_of t)
  IsForm names (Step Before s t) = (is_step s ≡ true) × IsExpression names t × (15 ≤ level_of t)
  IsForm names (Step After s t) = (is_step s ≡ true) × IsExpression names t × (16 ≤ level_of t)
  -- binary operators bind to the left
  IsForm names (Binary s l r) = (4 ≤ binary_level s) × IsExpression names l × IsExpression names r × (binary_level s ≤ level_of l) × (binary_level s < level_of r)
  IsForm names (Assign s l r) = (is_assign s ≡ true) × IsExpression names l × IsExpression names r × (15 ≤ level_of l) × (2 ≤ level_of r)
  IsForm names (Conditional a b c) = IsExpression names a × IsExpression names b × IsExpression names c × (4 ≤ level_of a) × (3 ≤ level_of c)
  IsForm names (Call f ts) = IsExpression names f × (16 ≤ level_of f) × AreExpressions names ts
  IsForm names (Index l r) = IsExpression names l × IsExpression names r × (16 ≤ level_of l)
  IsForm names (Member t x) = IsExpression names t × (16 ≤ level_of t)
  IsForm names (Arrow t x) = IsExpression names t × (16 ≤ level_of t)
  IsForm names (Cast k t) = IsTypeName names k × IsExpression names t × (14 ≤ level_of t)
  IsForm names (SizeofExpression t) = IsExpression names t × (15 ≤ level_of t)
  IsForm names (SizeofType k) = IsTypeName names k
  IsForm names (Comma ts) = AreExpressions names ts × AreSeveral ts

  -- each is an assignment expression
  pub AreExpressions : Scope → Expressions Bare → Type 0
  AreExpressions names NoExpressions = Unit {0}
  AreExpressions names (MoreExpressions t ts) = IsExpression names t × (2 ≤ level_of t) × AreExpressions names ts

  -- of this level, if it is there
  pub IsOptional : Scope → ℕ → Optional Bare → Type 0
  IsOptional names level Absent = Unit {0}
  IsOptional names level (Present t) = IsExpression names t × (level ≤ level_of t)

  -- no storage class, no body, no name
  pub IsTypeName : Scope → TypeName Bare → Type 0
  IsTypeName names (type_name p ss d) = AreSpecifiers names setting.Type Nothing ss × HasSpecifiers ss × IsDeclarator names setting.Inside Forbidden d

  -- where these were said before them, each in the scope after those before it
  pub AreSpecifiers : Scope → Setting → Said → Specifiers Bare → Type 0
  AreSpecifiers names setting said NoSpecifiers = Unit {0}
  AreSpecifiers names setting said (MoreSpecifiers s ss) = IsSpecifier names setting said s × AreSpecifiers (after_specifier names s) setting (after_saying said s) ss

  -- a specifier that may stand here, after others that said this of the type (C99 6.7.1 to 6.7.4)
  pub IsSpecifier : Scope → Setting → Said → Specifier Bare → Type 0
  IsSpecifier names setting said (Keyword p s) = is_specifier_word setting said s ≡ true
  IsSpecifier names setting said (Typedef x) = (is_type names x.name ≡ true) × (says_nothing said ≡ true)
  IsSpecifier names setting said (Structure p s tag ms) = (is_structure s ≡ true) × (says_no_name said ≡ true) × HasTagOrMembers tag ms × MayHaveMembers setting ms × AreMembers names ms
  IsSpecifier names setting said (Enumeration p tag es comma) = (says_no_name said ≡ true) × HasTagOrEnumerators tag es × MayHaveEnumerators setting es comma × AreEnumerators names es

  -- each declaration of members in the scope after those before it (C99 6.7.2.1)
  pub AreMembers : Scope → Members Bare → Type 0
  AreMembers names NoMembers = Unit {0}
  AreMembers names (MoreMembers m ms) = IsMember names m × AreMembers (after_member names m) ms

  -- specifiers, and at least one declarator after them, of which the first is told apart from them (C99 6.7.2.1)
  pub IsMember : Scope → MemberDeclaration Bare → Type 0
  IsMember names (member_declaration p ss fs) = AreSpecifiers names setting.Outside Nothing ss × HasSpecifiers ss × HasFields fs × AreApart (after_specifiers names ss) (said_by Nothing ss) fs × AreFields (after_specifiers names ss) fs

  -- each declarator of members in the same scope: the names of members aren't in it
  pub AreFields : Scope → Fields Bare → Type 0
  AreFields names NoFields = Unit {0}
  AreFields names (MoreFields f fs) = IsField names f × AreFields names fs

  -- a declarator with a name, and the width of a bit-field, which is a constant expression (C99 6.6, 6.7.2.1)
  pub IsField : Scope → Field Bare → Type 0
  IsField names (field p d width) = IsDeclarator names setting.Outside Required d × IsOptional names 3 width

  -- each constant of an enumeration in the scope after those before it (C99 6.7.2.2)
  pub AreEnumerators : Scope → Enumerators Bare → Type 0
  AreEnumerators names NoEnumerators = Unit {0}
  AreEnumerators names (MoreEnumerators e es) = IsEnumerator names e × AreEnumerators (after_enumerator names e) es

  -- the value of a constant, if one is written, is a constant expression (C99 6.6, 6.7.2.2)
  pub IsEnumerator : Scope → Enumerator Bare → Type 0
  IsEnumerator names (enumerator p x value) = IsOptional names 3 value

  -- a declarator that may stand here: with a name, without one, or either, as the place asks (C99 6.7.5, 6.7.6)
  pub IsDeclarator : Scope → Setting → Naming → Declarator Bare → Type 0
  IsDeclarator names setting naming (Named x) = may_be_named naming ≡ true
  IsDeclarator names setting naming (Unnamed p) = may_be_nameless naming ≡ true
  IsDeclarator names setting naming (Pointer p qs d) = AreQualifiers qs × IsDeclarator names setting naming d
  -- where a declarator may lack its name, `(` before a typedef name opens parameters
  IsDeclarator names setting naming (Parenthesised p d) = IsDeclarator names setting naming d × IsSomething d × (may_be_nameless naming ≡ true → leads names d ≡ false)
  IsDeclarator names setting naming (Array p d b length) = IsDeclarator names setting naming d × IsSuffixed d × IsOptional names 3 length
  IsDeclarator names setting naming (Function p d b ps ellipsis) = IsDeclarator names setting naming d × IsSuffixed d × AreParameters names setting ps × MayEnd ps ellipsis

  -- each in the scope after those before it
  pub AreParameters : Scope → Setting → Parameters Bare → Type 0
  AreParameters names setting NoParameters = Unit {0}
  AreParameters names setting (MoreParameters x xs) = IsParameter names setting x × AreParameters (after_parameter names x) setting xs

  -- specifiers, and a declarator that may lack its name and is told apart from them (C99 6.7.5.3)
  pub IsParameter : Scope → Setting → Parameter Bare → Type 0
  IsParameter names setting (parameter p ss d) = AreSpecifiers names setting Nothing ss × HasSpecifiers ss × IsApart (after_specifiers names ss) (said_by Nothing ss) d × IsDeclarator (after_specifiers names ss) setting Allowed d
