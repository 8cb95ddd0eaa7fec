-- Where the parts of a tree stand among the words that it spells.
use Rattle.std.specs.Prelude.{ℕ, zero, suc, ◌+◌, ◌*◌, nat_eq, nat_le, min, ◌&&◌, cond, slice_get, length, List, [], ◌∷◌, Option, Some, None}
use Rattle.p10_base.specs.declared.span.Span.{Span}
use Rattle.p10_base.specs.Words.{PlainWord, span_of}
use Rattle.p10_base.specs.declared.at.At.{At}
use Rattle.p10_syn.specs.declared.place.Side.TheVariants.{Before, After}
use Rattle.p10_syn.specs.Counts.{count_bool, count_tag, count, count_form, count_optional, count_valued, count_type, count_specifiers, count_specifier, count_members, count_member, count_fields, count_field, count_enumerators, count_enumerator, count_declarator, count_parameters, count_parameter, count_initializer, count_initializers, count_init_declarator, count_declaration, count_statement, count_statements, count_head, count_definition, count_external}
use Rattle.p10_syn.specs.Trees.{Bare, Identifier, Qualifier, Expression, expression, Form, Name, Number, Character, Strings, Unary, Step, Binary, Assign, Conditional, Call, Index, Member, Arrow, Cast, SizeofExpression, SizeofType, Comma, Expressions, NoExpressions, MoreExpressions, Optional, Absent, Present, TypeName, type_name, Specifiers, NoSpecifiers, MoreSpecifiers, Specifier, Keyword, Typedef, Structure, Enumeration, Members, NoMembers, MoreMembers, MemberDeclaration, member_declaration, Fields, NoFields, MoreFields, Field, field, Enumerators, NoEnumerators, MoreEnumerators, Enumerator, enumerator, Declarator, Named, Unnamed, Pointer, Parenthesised, Array, Function, Parameters, NoParameters, MoreParameters, Parameter, parameter}
use Rattle.p10_syn.specs.Trees.{Initializer, Value, Braced, Initializers, NoInitializers, MoreInitializers, InitDeclarator, Declaration, Statement, Empty, Evaluate, Block, If, IfElse, Switch, While, Do, For, Case, Default, Label, Goto, Break, Continue, Return, Declare, Pragma, Statements, NoStatements, MoreStatements, Landmarks, Definition, External, Outer, Defines}

-- ## Places

-- the words of a root, and how many words the roots before it have
pub record Source : Type 0 where
  pub words : List PlainWord
  pub before : ℕ

-- bytes from the first of two words to the last, where they stand in one file in this order; else those of the first
abbrev pub joined : Span → Span → Span
joined a b = cond (nat_eq a.file b.file && nat_le a.end b.end) (span_of a.file a.start b.end) a

-- the bytes from the first of two words to the last, where both are there; else bytes 0 to 0 of file 0
abbrev pub span_between : Option PlainWord → Option PlainWord → Span
span_between (Some a) (Some b) = joined a.at b.at
span_between (Some a) None = span_of 0 0 0
span_between None b = span_of 0 0 0

-- the bytes of the words from number n on, this many; of no words bytes 0 to 0 of file 0
abbrev pub span_at : List PlainWord → ℕ → ℕ → Span
span_at words n zero = span_of 0 0 0
span_at words n (suc k) = span_between (slice_get words n) (slice_get words (n + k))

-- the place of a tree whose place isn't known
abbrev pub nowhere : At
nowhere = record { first = 0; past = 0; span = span_of 0 0 0 }

-- the number of a word, counted through all roots; it stands still at the end of its type
abbrev pub number_at : Source → ℕ → ℕ
number_at s n = min (s.before + n) 4294967295

-- the place of what spells this many words, from word n of the root on
unfoldable pub place_at : Source → ℕ → ℕ → At
place_at s n k = record { first = number_at s n; past = number_at s (n + k); span = span_at s.words n k }

-- ## Trees in their places

-- a name that is word n
abbrev pub locate_name : Source → ℕ → Identifier Bare → Identifier At
locate_name s n x = record { place = place_at s n 1; name = x.name }

-- the own name of a structure or enumeration, which is word n if it has one
abbrev pub locate_tag : Source → ℕ → Option (Identifier Bare) → Option (Identifier At)
locate_tag s n None = None
locate_tag s n (Some x) = Some (locate_name s n x)

-- a qualifier that is word n
abbrev pub locate_qualifier : Source → ℕ → Qualifier Bare → Qualifier At
locate_qualifier s n q = record { place = place_at s n 1; word = q.word }

-- qualifiers one after the other, the first of which is word n
abbrev pub locate_qualifiers : Source → ℕ → List (Qualifier Bare) → List (Qualifier At)
locate_qualifiers s n [] = []
locate_qualifiers s n (q ∷ qs) = locate_qualifier s n q ∷ locate_qualifiers s (n + 1) qs

-- each part where its words stand, if the whole begins at word n
abbrev mutual
  pub locate : Source → ℕ → Expression Bare → Expression At
  locate s n (expression p k f) = expression (place_at s n (2 * k + count_form f)) k (locate_form s (n + k) f)

  -- the operands of a form whose first word is word n
  pub locate_form : Source → ℕ → Form Bare → Form At
  locate_form s n (Name x) = Name (locate_name s n x)
  locate_form s n (Number x) = Number x
  locate_form s n (Character x) = Character x
  locate_form s n (Strings xs) = Strings xs
  locate_form s n (Unary op t) = Unary op (locate s (n + 1) t)
  locate_form s n (Step Before op t) = Step Before op (locate s (n + 1) t)
  locate_form s n (Step After op t) = Step After op (locate s n t)
  locate_form s n (Binary op l r) = Binary op (locate s n l) (locate s (n + count l + 1) r)
  locate_form s n (Assign op l r) = Assign op (locate s n l) (locate s (n + count l + 1) r)
  locate_form s n (Conditional a b c) = Conditional (locate s n a) (locate s (n + count a + 1) b) (locate s (n + count a + 1 + count b + 1) c)
  locate_form s n (Call f ts) = Call (locate s n f) (locate_list s (n + count f + 1) ts)
  locate_form s n (Index l r) = Index (locate s n l) (locate s (n + count l + 1) r)
  locate_form s n (Member t x) = Member (locate s n t) (locate_name s (n + count t + 1) x)
  locate_form s n (Arrow t x) = Arrow (locate s n t) (locate_name s (n + count t + 1) x)
  locate_form s n (Cast k t) = Cast (locate_type s (n + 1) k) (locate s (n + 1 + count_type k + 1) t)
  locate_form s n (SizeofExpression t) = SizeofExpression (locate s (n + 1) t)
  locate_form s n (SizeofType k) = SizeofType (locate_type s (n + 2) k)
  locate_form s n (Comma ts) = Comma (locate_list s n ts)

  -- with a comma between each two
  pub locate_list : Source → ℕ → Expressions Bare → Expressions At
  locate_list s n NoExpressions = NoExpressions
  locate_list s n (MoreExpressions t ts) = MoreExpressions (locate s n t) (locate_list s (n + count t + 1) ts)

  -- an expression that begins at word n, unless it is left out
  pub locate_optional : Source → ℕ → Optional Bare → Optional At
  locate_optional s n Absent = Absent
  locate_optional s n (Present t) = Present (locate s n t)

  -- the name of a type: specifiers from word n on, and the declarator directly after them
  pub locate_type : Source → ℕ → TypeName Bare → TypeName At
  locate_type s n (type_name p ss d) = type_name (place_at s n (count_specifiers ss + count_declarator d)) (locate_specifiers s n ss) (locate_declarator s (n + count_specifiers ss) d)

  -- specifiers one after the other, the first from word n on
  pub locate_specifiers : Source → ℕ → Specifiers Bare → Specifiers At
  locate_specifiers s n NoSpecifiers = NoSpecifiers
  locate_specifiers s n (MoreSpecifiers x xs) = MoreSpecifiers (locate_specifier s n x) (locate_specifiers s (n + count_specifier x) xs)

  -- a specifier from word n on: in a structure or enumeration the own name stands after the first word, and the body from
  -- the `{` on
  pub locate_specifier : Source → ℕ → Specifier Bare → Specifier At
  locate_specifier s n (Keyword p word) = Keyword (place_at s n 1) word
  locate_specifier s n (Typedef x) = Typedef (locate_name s n x)
  locate_specifier s n (Structure p word tag ms) =
      Structure (place_at s n (1 + count_tag tag + count_members ms)) word (locate_tag s (n + 1) tag) (locate_members s (n + 1 + count_tag tag + 1) ms)
  locate_specifier s n (Enumeration p tag es comma) =
      Enumeration (place_at s n (1 + count_tag tag + count_enumerators es comma)) (locate_tag s (n + 1) tag) (locate_enumerators s (n + 1 + count_tag tag + 1) es) comma

  -- after the `{`
  pub locate_members : Source → ℕ → Members Bare → Members At
  locate_members s n NoMembers = NoMembers
  locate_members s n (MoreMembers m ms) = MoreMembers (locate_member s n m) (locate_members s (n + count_member m) ms)

  -- specifiers from word n on, and what they declare directly after them
  pub locate_member : Source → ℕ → MemberDeclaration Bare → MemberDeclaration At
  locate_member s n (member_declaration p ss fs) = member_declaration (place_at s n (count_specifiers ss + count_fields fs)) (locate_specifiers s n ss) (locate_fields s (n + count_specifiers ss) fs)

  -- with a comma between each two
  pub locate_fields : Source → ℕ → Fields Bare → Fields At
  locate_fields s n NoFields = NoFields
  locate_fields s n (MoreFields f fs) = MoreFields (locate_field s n f) (locate_fields s (n + count_field f + 1) fs)

  -- a declarator from word n on, and the width of a bit-field after the `:`
  pub locate_field : Source → ℕ → Field Bare → Field At
  locate_field s n (field p d width) = field (place_at s n (count_declarator d + count_valued width)) (locate_declarator s n d) (locate_optional s (n + count_declarator d + 1) width)

  -- after the `{`, with a comma between each two
  pub locate_enumerators : Source → ℕ → Enumerators Bare → Enumerators At
  locate_enumerators s n NoEnumerators = NoEnumerators
  locate_enumerators s n (MoreEnumerators e es) = MoreEnumerators (locate_enumerator s n e) (locate_enumerators s (n + count_enumerator e + 1) es)

  -- the name of a constant, which is word n, and its value after the `=`
  pub locate_enumerator : Source → ℕ → Enumerator Bare → Enumerator At
  locate_enumerator s n (enumerator p x value) = enumerator (place_at s n (1 + count_valued value)) (locate_name s n x) (locate_optional s (n + 2) value)

  -- a declarator from word n on; a name that is left out stands before word n and has no words
  pub locate_declarator : Source → ℕ → Declarator Bare → Declarator At
  locate_declarator s n (Named x) = Named (locate_name s n x)
  locate_declarator s n (Unnamed p) = Unnamed (place_at s n 0)
  locate_declarator s n (Pointer p qs d) = Pointer (place_at s n (1 + length qs + count_declarator d)) (locate_qualifiers s (n + 1) qs) (locate_declarator s (n + 1 + length qs) d)
  locate_declarator s n (Parenthesised p d) = Parenthesised (place_at s n (1 + count_declarator d + 1)) (locate_declarator s (n + 1) d)
  locate_declarator s n (Array p d b size) =
      Array (place_at s n (count_declarator d + 1 + count_optional size + 1)) (locate_declarator s n d) (place_at s (n + count_declarator d) (1 + count_optional size + 1))
      (locate_optional s (n + count_declarator d + 1) size)
  locate_declarator s n (Function p d b ps ellipsis) =
      Function (place_at s n (count_declarator d + 1 + count_parameters ps + 2 * count_bool ellipsis + 1)) (locate_declarator s n d)
      (place_at s (n + count_declarator d) (1 + count_parameters ps + 2 * count_bool ellipsis + 1)) (locate_parameters s (n + count_declarator d + 1) ps) ellipsis

  -- with a comma between each two
  pub locate_parameters : Source → ℕ → Parameters Bare → Parameters At
  locate_parameters s n NoParameters = NoParameters
  locate_parameters s n (MoreParameters x xs) = MoreParameters (locate_parameter s n x) (locate_parameters s (n + count_parameter x + 1) xs)

  -- specifiers from word n on, and the declarator directly after them
  pub locate_parameter : Source → ℕ → Parameter Bare → Parameter At
  locate_parameter s n (parameter p ss d) = parameter (place_at s n (count_specifiers ss + count_declarator d)) (locate_specifiers s n ss) (locate_declarator s (n + count_specifiers ss) d)

abbrev mutual
  -- a value from word n on, or a list whose `{` is word n
  pub locate_initializer : Source → ℕ → Initializer Bare → Initializer At
  locate_initializer s n (Value t) = Value (locate s n t)
  locate_initializer s n (Braced p is comma) = Braced (place_at s n (1 + count_initializers is + count_bool comma + 1)) (locate_initializers s (n + 1) is) comma

  -- with a comma between each two
  pub locate_initializers : Source → ℕ → Initializers Bare → Initializers At
  locate_initializers s n NoInitializers = NoInitializers
  locate_initializers s n (MoreInitializers i is) = MoreInitializers (locate_initializer s n i) (locate_initializers s (n + count_initializer i + 1) is)

-- an initialiser that begins at word n, if there is one
abbrev pub locate_initial : Source → ℕ → Option (Initializer Bare) → Option (Initializer At)
locate_initial s n None = None
locate_initial s n (Some i) = Some (locate_initializer s n i)

-- a declarator from word n on, and its initialiser after the `=`
abbrev pub locate_init_declarator : Source → ℕ → InitDeclarator Bare → InitDeclarator At
locate_init_declarator s n d = record { place = place_at s n (count_init_declarator d); declarator = locate_declarator s n d.declarator; initial = locate_initial s (n + count_declarator d.declarator + 1) d.initial }

-- with a comma between each two
abbrev pub locate_init_declarators : Source → ℕ → List (InitDeclarator Bare) → List (InitDeclarator At)
locate_init_declarators s n [] = []
locate_init_declarators s n (d ∷ ds) = locate_init_declarator s n d ∷ locate_init_declarators s (n + count_init_declarator d + 1) ds

-- specifiers from word n on, and what they declare directly after them
abbrev pub locate_declaration : Source → ℕ → Declaration Bare → Declaration At
locate_declaration s n d = record { place = place_at s n (count_declaration d); specifiers = locate_specifiers s n d.specifiers; declarators = locate_init_declarators s (n + count_specifiers d.specifiers) d.declarators }

abbrev mutual
  -- a statement from word n on, and its parts where they stand among its keywords and punctuators
  pub locate_statement : Source → ℕ → Statement Bare → Statement At
  locate_statement s n (Empty p) = Empty (place_at s n 1)
  locate_statement s n (Evaluate p t) = Evaluate (place_at s n (count t + 1)) (locate s n t)
  locate_statement s n (Block p ss) = Block (place_at s n (1 + count_statements ss + 1)) (locate_statements s (n + 1) ss)
  locate_statement s n (If p t u) = If (place_at s n (2 + count t + 1 + count_statement u)) (locate s (n + 2) t) (locate_statement s (n + 2 + count t + 1) u)
  locate_statement s n (IfElse p t u v) =
      IfElse (place_at s n (2 + count t + 1 + count_statement u + 1 + count_statement v)) (locate s (n + 2) t) (locate_statement s (n + 2 + count t + 1) u) (locate_statement s (n + 2 + count t + 1 + count_statement u + 1) v)
  locate_statement s n (Switch p k t u) = Switch (place_at s n (2 + count t + 1 + count_statement u)) (place_at s n 1) (locate s (n + 2) t) (locate_statement s (n + 2 + count t + 1) u)
  locate_statement s n (While p k t u) = While (place_at s n (2 + count t + 1 + count_statement u)) (place_at s n 1) (locate s (n + 2) t) (locate_statement s (n + 2 + count t + 1) u)
  locate_statement s n (Do p k u t) = Do (place_at s n (1 + count_statement u + 2 + count t + 2)) (place_at s n 1) (locate_statement s (n + 1) u) (locate s (n + 1 + count_statement u + 2) t)
  locate_statement s n (For p k start test step u) =
      For (place_at s n (2 + count_statement start + count_optional test + 1 + count_optional step + 1 + count_statement u)) (place_at s n 1)
      (locate_statement s (n + 2) start)
      (locate_optional s (n + 2 + count_statement start) test)
      (locate_optional s (n + 2 + count_statement start + count_optional test + 1) step)
      (locate_statement s (n + 2 + count_statement start + count_optional test + 1 + count_optional step + 1) u)
  locate_statement s n (Case p t u) = Case (place_at s n (1 + count t + 1 + count_statement u)) (locate s (n + 1) t) (locate_statement s (n + 1 + count t + 1) u)
  locate_statement s n (Default p u) = Default (place_at s n (2 + count_statement u)) (locate_statement s (n + 2) u)
  locate_statement s n (Label p x u) = Label (place_at s n (2 + count_statement u)) (locate_name s n x) (locate_statement s (n + 2) u)
  locate_statement s n (Goto p x) = Goto (place_at s n 3) (locate_name s (n + 1) x)
  locate_statement s n (Break p) = Break (place_at s n 2)
  locate_statement s n (Continue p) = Continue (place_at s n 2)
  locate_statement s n (Return p k t) = Return (place_at s n (1 + count_optional t + 1)) (place_at s n 1) (locate_optional s (n + 1) t)
  locate_statement s n (Declare d) = Declare (locate_declaration s n d)
  locate_statement s n (Pragma p x) = Pragma (place_at s n 1) x

  -- the items of a block one after the other, the first from word n on
  pub locate_statements : Source → ℕ → Statements Bare → Statements At
  locate_statements s n NoStatements = NoStatements
  locate_statements s n (MoreStatements u us) = MoreStatements (locate_statement s n u) (locate_statements s (n + count_statement u) us)

-- the numbers of its words in its root
abbrev pub landmarks_at : Source → ℕ → Definition Bare → Landmarks At
landmarks_at s n d =
    let root : Source = record { words = s.words; before = 0 } in
    record { whole = place_at root n (count_definition d); first_word = place_at root n 1; brace = place_at root (n + count_head d) 1; last_word = place_at root (n + count_head d + 1 + count_statements d.body) 1 }

-- a function from word n on: specifiers, the declarator directly after them, and its body from the `{` on
abbrev pub locate_definition : Source → ℕ → Definition Bare → Definition At
locate_definition s n d = record {
  place = place_at s n (count_definition d);
  landmarks = landmarks_at s n d;
  specifiers = locate_specifiers s n d.specifiers;
  declarator = locate_declarator s (n + count_specifiers d.specifiers) d.declarator;
  body_place = place_at s (n + count_head d) (1 + count_statements d.body + 1);
  body = locate_statements s (n + count_head d + 1) d.body;
}

-- a declaration outside of functions, or a function, from word n on
abbrev pub locate_external : Source → ℕ → External Bare → External At
locate_external s n (Outer p d) = Outer (place_at (record { words = s.words; before = 0 }) n (count_declaration d)) (locate_declaration s n d)
locate_external s n (Defines d) = Defines (locate_definition s n d)

-- one after the other
abbrev pub locate_externals : Source → ℕ → List (External Bare) → List (External At)
locate_externals s n [] = []
locate_externals s n (e ∷ es) = locate_external s n e ∷ locate_externals s (n + count_external e) es
