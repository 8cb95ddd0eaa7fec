-- A tree that stands among the words of two roots: each part has its place in both.
use Rattle.std.proofs.Common.{ℕ, ◌+◌, ◌*◌, length, List, [], ◌∷◌, Option, Some, None}
use Rattle.p10_base.specs.declared.at.At.{At}
use Rattle.p10_syn.specs.declared.place.Side.TheVariants.{Before, After}
use Rattle.p10_syn.specs.Counts.{count_bool, count_tag, count, count_form, count_optional, count_valued, count_type, count_specifiers, count_specifier, count_members, count_member, count_fields, count_field, count_enumerators, count_enumerator, count_declarator, count_parameters, count_parameter, count_initializer, count_initializers, count_init_declarator, count_declaration, count_statement, count_statements}
use Rattle.p10_syn.specs.Trees.{Bare, Identifier, Qualifier, Expression, expression, Form, Name, Number, Character, Strings, Unary, Step, Binary, Assign, Conditional, Call, Index, Member, Arrow, Cast, SizeofExpression, SizeofType, Comma, Expressions, NoExpressions, MoreExpressions, Optional, Absent, Present, TypeName, type_name, Specifiers, NoSpecifiers, MoreSpecifiers, Specifier, Keyword, Typedef, Structure, Enumeration, Members, NoMembers, MoreMembers, MemberDeclaration, member_declaration, Fields, NoFields, MoreFields, Field, field, Enumerators, NoEnumerators, MoreEnumerators, Enumerator, enumerator, Declarator, Named, Unnamed, Pointer, Parenthesised, Array, Function, Parameters, NoParameters, MoreParameters, Parameter, parameter}
use Rattle.p10_syn.specs.Trees.{Initializer, Value, Braced, Initializers, NoInitializers, MoreInitializers, InitDeclarator, Declaration, Statement, Empty, Evaluate, Block, If, IfElse, Switch, While, Do, For, Case, Default, Label, Goto, Break, Continue, Return, Declare, Pragma, Statements, NoStatements, MoreStatements}
use Rattle.p10_syn.specs.Places.{Source, place_at}

abbrev pub both_name : Source → ℕ → Source → ℕ → Identifier Bare → Identifier (At × At)
both_name s n o h x = record { place = (place_at s n 1, place_at o h 1); name = x.name }

abbrev pub both_tag : Source → ℕ → Source → ℕ → Option (Identifier Bare) → Option (Identifier (At × At))
both_tag s n o h None = None
both_tag s n o h (Some x) = Some (both_name s n o h x)

abbrev pub both_qualifier : Source → ℕ → Source → ℕ → Qualifier Bare → Qualifier (At × At)
both_qualifier s n o h q = record { place = (place_at s n 1, place_at o h 1); word = q.word }

abbrev pub both_qualifiers : Source → ℕ → Source → ℕ → List (Qualifier Bare) → List (Qualifier (At × At))
both_qualifiers s n o h [] = []
both_qualifiers s n o h (q ∷ qs) = both_qualifier s n o h q ∷ both_qualifiers s (n + 1) o (h + 1) qs

abbrev mutual
  pub both : Source → ℕ → Source → ℕ → Expression Bare → Expression (At × At)
  both s n o h (expression p k f) = expression (place_at s n (2 * k + count_form f), place_at o h (2 * k + count_form f)) k (both_form s (n + k) o (h + k) f)

  pub both_form : Source → ℕ → Source → ℕ → Form Bare → Form (At × At)
  both_form s n o h (Name x) = Name (both_name s n o h x)
  both_form s n o h (Number x) = Number x
  both_form s n o h (Character x) = Character x
  both_form s n o h (Strings xs) = Strings xs
  both_form s n o h (Unary op t) = Unary op (both s (n + 1) o (h + 1) t)
  both_form s n o h (Step Before op t) = Step Before op (both s (n + 1) o (h + 1) t)
  both_form s n o h (Step After op t) = Step After op (both s n o h t)
  both_form s n o h (Binary op l r) = Binary op (both s n o h l) (both s (n + count l + 1) o (h + count l + 1) r)
  both_form s n o h (Assign op l r) = Assign op (both s n o h l) (both s (n + count l + 1) o (h + count l + 1) r)
  both_form s n o h (Conditional a b c) = Conditional (both s n o h a) (both s (n + count a + 1) o (h + count a + 1) b) (both s (n + count a + 1 + count b + 1) o (h + count a + 1 + count b + 1) c)
  both_form s n o h (Call f ts) = Call (both s n o h f) (both_list s (n + count f + 1) o (h + count f + 1) ts)
  both_form s n o h (Index l r) = Index (both s n o h l) (both s (n + count l + 1) o (h + count l + 1) r)
  both_form s n o h (Member t x) = Member (both s n o h t) (both_name s (n + count t + 1) o (h + count t + 1) x)
  both_form s n o h (Arrow t x) = Arrow (both s n o h t) (both_name s (n + count t + 1) o (h + count t + 1) x)
  both_form s n o h (Cast k t) = Cast (both_type s (n + 1) o (h + 1) k) (both s (n + 1 + count_type k + 1) o (h + 1 + count_type k + 1) t)
  both_form s n o h (SizeofExpression t) = SizeofExpression (both s (n + 1) o (h + 1) t)
  both_form s n o h (SizeofType k) = SizeofType (both_type s (n + 2) o (h + 2) k)
  both_form s n o h (Comma ts) = Comma (both_list s n o h ts)

  pub both_list : Source → ℕ → Source → ℕ → Expressions Bare → Expressions (At × At)
  both_list s n o h NoExpressions = NoExpressions
  both_list s n o h (MoreExpressions t ts) = MoreExpressions (both s n o h t) (both_list s (n + count t + 1) o (h + count t + 1) ts)

  pub both_optional : Source → ℕ → Source → ℕ → Optional Bare → Optional (At × At)
  both_optional s n o h Absent = Absent
  both_optional s n o h (Present t) = Present (both s n o h t)

  pub both_type : Source → ℕ → Source → ℕ → TypeName Bare → TypeName (At × At)
  both_type s n o h (type_name p ss d) = type_name (place_at s n (count_specifiers ss + count_declarator d), place_at o h (count_specifiers ss + count_declarator d)) (both_specifiers s n o h ss) (both_declarator s (n + count_specifiers ss) o (h + count_specifiers ss) d)

  pub both_specifiers : Source → ℕ → Source → ℕ → Specifiers Bare → Specifiers (At × At)
  both_specifiers s n o h NoSpecifiers = NoSpecifiers
  both_specifiers s n o h (MoreSpecifiers x xs) = MoreSpecifiers (both_specifier s n o h x) (both_specifiers s (n + count_specifier x) o (h + count_specifier x) xs)

  pub both_specifier : Source → ℕ → Source → ℕ → Specifier Bare → Specifier (At × At)
  both_specifier s n o h (Keyword p word) = Keyword (place_at s n 1, place_at o h 1) word
  both_specifier s n o h (Typedef x) = Typedef (both_name s n o h x)
  both_specifier s n o h (Structure p word tag ms) = Structure (place_at s n (1 + count_tag tag + count_members ms), place_at o h (1 + count_tag tag + count_members ms)) word (both_tag s (n + 1) o (h + 1) tag) (both_members s (n + 1 + count_tag tag + 1) o (h + 1 + count_tag tag + 1) ms)
  both_specifier s n o h (Enumeration p tag es comma) = Enumeration (place_at s n (1 + count_tag tag + count_enumerators es comma), place_at o h (1 + count_tag tag + count_enumerators es comma)) (both_tag s (n + 1) o (h + 1) tag) (both_enumerators s (n + 1 + count_tag tag + 1) o (h + 1 + count_tag tag + 1) es) comma

  pub both_members : Source → ℕ → Source → ℕ → Members Bare → Members (At × At)
  both_members s n o h NoMembers = NoMembers
  both_members s n o h (MoreMembers m ms) = MoreMembers (both_member s n o h m) (both_members s (n + count_member m) o (h + count_member m) ms)

  pub both_member : Source → ℕ → Source → ℕ → MemberDeclaration Bare → MemberDeclaration (At × At)
  both_member s n o h (member_declaration p ss fs) = member_declaration (place_at s n (count_specifiers ss + count_fields fs), place_at o h (count_specifiers ss + count_fields fs)) (both_specifiers s n o h ss) (both_fields s (n + count_specifiers ss) o (h + count_specifiers ss) fs)

  pub both_fields : Source → ℕ → Source → ℕ → Fields Bare → Fields (At × At)
  both_fields s n o h NoFields = NoFields
  both_fields s n o h (MoreFields f fs) = MoreFields (both_field s n o h f) (both_fields s (n + count_field f + 1) o (h + count_field f + 1) fs)

  pub both_field : Source → ℕ → Source → ℕ → Field Bare → Field (At × At)
  both_field s n o h (field p d width) = field (place_at s n (count_declarator d + count_valued width), place_at o h (count_declarator d + count_valued width)) (both_declarator s n o h d) (both_optional s (n + count_declarator d + 1) o (h + count_declarator d + 1) width)

  pub both_enumerators : Source → ℕ → Source → ℕ → Enumerators Bare → Enumerators (At × At)
  both_enumerators s n o h NoEnumerators = NoEnumerators
  both_enumerators s n o h (MoreEnumerators e es) = MoreEnumerators (both_enumerator s n o h e) (both_enumerators s (n + count_enumerator e + 1) o (h + count_enumerator e + 1) es)

  pub both_enumerator : Source → ℕ → Source → ℕ → Enumerator Bare → Enumerator (At × At)
  both_enumerator s n o h (enumerator p x value) = enumerator (place_at s n (1 + count_valued value), place_at o h (1 + count_valued value)) (both_name s n o h x) (both_optional s (n + 2) o (h + 2) value)

  pub both_declarator : Source → ℕ → Source → ℕ → Declarator Bare → Declarator (At × At)
  both_declarator s n o h (Named x) = Named (both_name s n o h x)
  both_declarator s n o h (Unnamed p) = Unnamed (place_at s n 0, place_at o h 0)
  both_declarator s n o h (Pointer p qs d) = Pointer (place_at s n (1 + length qs + count_declarator d), place_at o h (1 + length qs + count_declarator d)) (both_qualifiers s (n + 1) o (h + 1) qs) (both_declarator s (n + 1 + length qs) o (h + 1 + length qs) d)
  both_declarator s n o h (Parenthesised p d) = Parenthesised (place_at s n (1 + count_declarator d + 1), place_at o h (1 + count_declarator d + 1)) (both_declarator s (n + 1) o (h + 1) d)
  both_declarator s n o h (Array p d b size) = Array (place_at s n (count_declarator d + 1 + count_optional size + 1), place_at o h (count_declarator d + 1 + count_optional size + 1)) (both_declarator s n o h d) (place_at s (n + count_declarator d) (1 + count_optional size + 1), place_at o (h + count_declarator d) (1 + count_optional size + 1)) (both_optional s (n + count_declarator d + 1) o (h + count_declarator d + 1) size)
  both_declarator s n o h (Function p d b ps ellipsis) = Function (place_at s n (count_declarator d + 1 + count_parameters ps + 2 * count_bool ellipsis + 1), place_at o h (count_declarator d + 1 + count_parameters ps + 2 * count_bool ellipsis + 1)) (both_declarator s n o h d) (place_at s (n + count_declarator d) (1 + count_parameters ps + 2 * count_bool ellipsis + 1), place_at o (h + count_declarator d) (1 + count_parameters ps + 2 * count_bool ellipsis + 1)) (both_parameters s (n + count_declarator d + 1) o (h + count_declarator d + 1) ps) ellipsis

  pub both_parameters : Source → ℕ → Source → ℕ → Parameters Bare → Parameters (At × At)
  both_parameters s n o h NoParameters = NoParameters
  both_parameters s n o h (MoreParameters x xs) = MoreParameters (both_parameter s n o h x) (both_parameters s (n + count_parameter x + 1) o (h + count_parameter x + 1) xs)

  pub both_parameter : Source → ℕ → Source → ℕ → Parameter Bare → Parameter (At × At)
  both_parameter s n o h (parameter p ss d) = parameter (place_at s n (count_specifiers ss + count_declarator d), place_at o h (count_specifiers ss + count_declarator d)) (both_specifiers s n o h ss) (both_declarator s (n + count_specifiers ss) o (h + count_specifiers ss) d)

abbrev mutual
  pub both_initializer : Source → ℕ → Source → ℕ → Initializer Bare → Initializer (At × At)
  both_initializer s n o h (Value t) = Value (both s n o h t)
  both_initializer s n o h (Braced p is comma) = Braced (place_at s n (1 + count_initializers is + count_bool comma + 1), place_at o h (1 + count_initializers is + count_bool comma + 1)) (both_initializers s (n + 1) o (h + 1) is) comma

  pub both_initializers : Source → ℕ → Source → ℕ → Initializers Bare → Initializers (At × At)
  both_initializers s n o h NoInitializers = NoInitializers
  both_initializers s n o h (MoreInitializers i is) = MoreInitializers (both_initializer s n o h i) (both_initializers s (n + count_initializer i + 1) o (h + count_initializer i + 1) is)

abbrev pub both_initial : Source → ℕ → Source → ℕ → Option (Initializer Bare) → Option (Initializer (At × At))
both_initial s n o h None = None
both_initial s n o h (Some i) = Some (both_initializer s n o h i)

abbrev pub both_init_declarator : Source → ℕ → Source → ℕ → InitDeclarator Bare → InitDeclarator (At × At)
both_init_declarator s n o h d = record { place = (place_at s n (count_init_declarator d), place_at o h (count_init_declarator d)); declarator = both_declarator s n o h d.declarator; initial = both_initial s (n + count_declarator d.declarator + 1) o (h + count_declarator d.declarator + 1) d.initial }

abbrev pub both_init_declarators : Source → ℕ → Source → ℕ → List (InitDeclarator Bare) → List (InitDeclarator (At × At))
both_init_declarators s n o h [] = []
both_init_declarators s n o h (d ∷ ds) = both_init_declarator s n o h d ∷ both_init_declarators s (n + count_init_declarator d + 1) o (h + count_init_declarator d + 1) ds

abbrev pub both_declaration : Source → ℕ → Source → ℕ → Declaration Bare → Declaration (At × At)
both_declaration s n o h d = record { place = (place_at s n (count_declaration d), place_at o h (count_declaration d)); specifiers = both_specifiers s n o h d.specifiers; declarators = both_init_declarators s (n + count_specifiers d.specifiers) o (h + count_specifiers d.specifiers) d.declarators }

abbrev mutual
  pub both_statement : Source → ℕ → Source → ℕ → Statement Bare → Statement (At × At)
  both_statement s n o h (Empty p) = Empty (place_at s n 1, place_at o h 1)
  both_statement s n o h (Evaluate p t) = Evaluate (place_at s n (count t + 1), place_at o h (count t + 1)) (both s n o h t)
  both_statement s n o h (Block p ss) = Block (place_at s n (1 + count_statements ss + 1), place_at o h (1 + count_statements ss + 1)) (both_statements s (n + 1) o (h + 1) ss)
  both_statement s n o h (If p t u) = If (place_at s n (2 + count t + 1 + count_statement u), place_at o h (2 + count t + 1 + count_statement u)) (both s (n + 2) o (h + 2) t) (both_statement s (n + 2 + count t + 1) o (h + 2 + count t + 1) u)
  both_statement s n o h (IfElse p t u v) = IfElse (place_at s n (2 + count t + 1 + count_statement u + 1 + count_statement v), place_at o h (2 + count t + 1 + count_statement u + 1 + count_statement v)) (both s (n + 2) o (h + 2) t) (both_statement s (n + 2 + count t + 1) o (h + 2 + count t + 1) u) (both_statement s (n + 2 + count t + 1 + count_statement u + 1) o (h + 2 + count t + 1 + count_statement u + 1) v)
  both_statement s n o h (Switch p k t u) = Switch (place_at s n (2 + count t + 1 + count_statement u), place_at o h (2 + count t + 1 + count_statement u)) (place_at s n 1, place_at o h 1) (both s (n + 2) o (h + 2) t) (both_statement s (n + 2 + count t + 1) o (h + 2 + count t + 1) u)
  both_statement s n o h (While p k t u) = While (place_at s n (2 + count t + 1 + count_statement u), place_at o h (2 + count t + 1 + count_statement u)) (place_at s n 1, place_at o h 1) (both s (n + 2) o (h + 2) t) (both_statement s (n + 2 + count t + 1) o (h + 2 + count t + 1) u)
  both_statement s n o h (Do p k u t) = Do (place_at s n (1 + count_statement u + 2 + count t + 2), place_at o h (1 + count_statement u + 2 + count t + 2)) (place_at s n 1, place_at o h 1) (both_statement s (n + 1) o (h + 1) u) (both s (n + 1 + count_statement u + 2) o (h + 1 + count_statement u + 2) t)
  both_statement s n o h (For p k start test step u) = For (place_at s n (2 + count_statement start + count_optional test + 1 + count_optional step + 1 + count_statement u), place_at o h (2 + count_statement start + count_optional test + 1 + count_optional step + 1 + count_statement u)) (place_at s n 1, place_at o h 1) (both_statement s (n + 2) o (h + 2) start) (both_optional s (n + 2 + count_statement start) o (h + 2 + count_statement start) test) (both_optional s (n + 2 + count_statement start + count_optional test + 1) o (h + 2 + count_statement start + count_optional test + 1) step) (both_statement s (n + 2 + count_statement start + count_optional test + 1 + count_optional step + 1) o (h + 2 + count_statement start + count_optional test + 1 + count_optional step + 1) u)
  both_statement s n o h (Case p t u) = Case (place_at s n (1 + count t + 1 + count_statement u), place_at o h (1 + count t + 1 + count_statement u)) (both s (n + 1) o (h + 1) t) (both_statement s (n + 1 + count t + 1) o (h + 1 + count t + 1) u)
  both_statement s n o h (Default p u) = Default (place_at s n (2 + count_statement u), place_at o h (2 + count_statement u)) (both_statement s (n + 2) o (h + 2) u)
  both_statement s n o h (Label p x u) = Label (place_at s n (2 + count_statement u), place_at o h (2 + count_statement u)) (both_name s n o h x) (both_statement s (n + 2) o (h + 2) u)
  both_statement s n o h (Goto p x) = Goto (place_at s n 3, place_at o h 3) (both_name s (n + 1) o (h + 1) x)
  both_statement s n o h (Break p) = Break (place_at s n 2, place_at o h 2)
  both_statement s n o h (Continue p) = Continue (place_at s n 2, place_at o h 2)
  both_statement s n o h (Return p k t) = Return (place_at s n (1 + count_optional t + 1), place_at o h (1 + count_optional t + 1)) (place_at s n 1, place_at o h 1) (both_optional s (n + 1) o (h + 1) t)
  both_statement s n o h (Declare d) = Declare (both_declaration s n o h d)
  both_statement s n o h (Pragma p x) = Pragma (place_at s n 1, place_at o h 1) x

  pub both_statements : Source → ℕ → Source → ℕ → Statements Bare → Statements (At × At)
  both_statements s n o h NoStatements = NoStatements
  both_statements s n o h (MoreStatements u us) = MoreStatements (both_statement s n o h u) (both_statements s (n + count_statement u) o (h + count_statement u) us)
