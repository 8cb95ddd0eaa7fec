-- A tree spells as many words as its form says.
use Rattle.std.proofs.Common.{◌≡◌, ℕ, zero, suc, ◌+◌, ◌*◌, length, List, [], ◌∷◌, Bool, true, false, Option, Some, None, arith}
use Rattle.p10_base.specs.Words.{Text}
use Rattle.p10_syn.specs.declared.sign.Sign.{Sign}
use Rattle.p10_syn.specs.declared.sign.Sign.TheVariants as sign
use Rattle.p10_syn.specs.declared.place.Side.TheVariants.{Before, After}
use Rattle.p10_syn.specs.Symbols.{Symbol, Fixed}
use Rattle.p10_syn.specs.Symbols as symbol
use Rattle.p10_syn.specs.Spelling.{open_all, close_all, spell_strings, spell_qualifiers, spell_tag, spell_last_comma, spell_ellipsis, spell, spell_form, spell_list, spell_more, spell_optional, spell_valued, spell_type, spell_specifiers, spell_specifier, spell_members, spell_more_members, spell_member, spell_fields, spell_more_fields, spell_field, spell_enumerators, spell_more_enumerators, spell_enumerator, spell_declarator, spell_parameters, spell_more_parameters, spell_parameter, spell_initializer, spell_initializers, spell_more_initializers, spell_initial, spell_init_declarator, spell_more_declarators, spell_declarators, spell_declaration, spell_statement, spell_statements, spell_definition, spell_external}
use Rattle.p10_syn.specs.Counts.{count_bool, count_tag, count, count_form, count_list, count_more, count_optional, count_valued, count_type, count_specifiers, count_specifier, count_members, count_more_members, count_member, count_fields, count_more_fields, count_field, count_enumerators, count_more_enumerators, count_enumerator, count_declarator, count_parameters, count_more_parameters, count_parameter, count_initializer, count_initializers, count_more_initializers, count_initial, count_init_declarator, count_more_declarators, count_declarators, count_declaration, count_statement, count_statements, count_definition, count_external}
use Rattle.p10_syn.specs.Trees.{Bare, Identifier, Qualifier, Expression, expression, Form, Name, Number, Character, Strings, Unary, Step, Binary, Assign, Conditional, Call, Index, Member, Arrow, Cast, SizeofExpression, SizeofType, Comma, Expressions, NoExpressions, MoreExpressions, Optional, Absent, Present, TypeName, type_name, Specifiers, NoSpecifiers, MoreSpecifiers, Specifier, Keyword, Typedef, Structure, Enumeration, Members, NoMembers, MoreMembers, MemberDeclaration, member_declaration, Fields, NoFields, MoreFields, Field, field, Enumerators, NoEnumerators, MoreEnumerators, Enumerator, enumerator, Declarator, Named, Unnamed, Pointer, Parenthesised, Array, Function, Parameters, NoParameters, MoreParameters, Parameter, parameter}
use Rattle.p10_syn.specs.Trees.{Initializer, Value, Braced, Initializers, NoInitializers, MoreInitializers, InitDeclarator, Declaration, Statement, Empty, Evaluate, Block, If, IfElse, Switch, While, Do, For, Case, Default, Label, Goto, Break, Continue, Return, Declare, Pragma, Statements, NoStatements, MoreStatements, Definition, External, Outer, Defines}

pub length-open_all : (n : ℕ) (rest : List Symbol) → length (open_all n rest) ≡ n + length rest
length-open_all zero rest = omega arith
length-open_all (suc n) rest = omega (arith, length-open_all n rest)

pub length-close_all : (n : ℕ) (rest : List Symbol) → length (close_all n rest) ≡ n + length rest
length-close_all zero rest = omega arith
length-close_all (suc n) rest = omega (arith, length-close_all n (Fixed sign.Close ∷ rest))

pub length-strings : (xs : List Text) (rest : List Symbol) → length (spell_strings xs rest) ≡ length xs + length rest
length-strings [] rest = omega arith
length-strings (x ∷ xs) rest = omega (arith, length-strings xs rest)

pub length-qualifiers : (qs : List (Qualifier Bare)) (rest : List Symbol) → length (spell_qualifiers qs rest) ≡ length qs + length rest
length-qualifiers [] rest = omega arith
length-qualifiers (q ∷ qs) rest = omega (arith, length-qualifiers qs rest)

pub length-tag : (tag : Option (Identifier Bare)) (rest : List Symbol) → length (spell_tag tag rest) ≡ count_tag tag + length rest
length-tag None rest = omega arith
length-tag (Some x) rest = omega arith

pub length-last_comma : (comma : Bool) (rest : List Symbol) → length (spell_last_comma comma rest) ≡ count_bool comma + length rest
length-last_comma false rest = omega arith
length-last_comma true rest = omega arith

pub length-ellipsis : (ellipsis : Bool) (rest : List Symbol) → length (spell_ellipsis ellipsis rest) ≡ 2 * count_bool ellipsis + length rest
length-ellipsis false rest = omega arith
length-ellipsis true rest = omega arith

mutual
  pub counts : (t : Expression Bare) (rest : List Symbol) → length (spell t rest) ≡ count t + length rest
  counts (expression p n f) rest = omega (arith, length-open_all n (spell_form f (close_all n rest)), counts_form f (close_all n rest), length-close_all n rest)

  pub counts_form : (f : Form Bare) (rest : List Symbol) → length (spell_form f rest) ≡ count_form f + length rest
  counts_form (Name x) rest = omega arith
  counts_form (Number x) rest = omega arith
  counts_form (Character x) rest = omega arith
  counts_form (Strings xs) rest = length-strings xs rest
  counts_form (Unary s t) rest = omega (arith, counts t rest)
  counts_form (Step Before s t) rest = omega (arith, counts t rest)
  counts_form (Step After s t) rest = omega (arith, counts t (Fixed s ∷ rest))
  counts_form (Binary s l r) rest = omega (arith, counts l (Fixed s ∷ spell r rest), counts r rest)
  counts_form (Assign s l r) rest = omega (arith, counts l (Fixed s ∷ spell r rest), counts r rest)
  counts_form (Conditional a b c) rest =
      omega (arith, counts a (Fixed sign.Question ∷ spell b (Fixed sign.Colon ∷ spell c rest)), counts b (Fixed sign.Colon ∷ spell c rest), counts c rest)
  counts_form (Call f ts) rest = omega (arith, counts f (Fixed sign.Open ∷ spell_list ts (Fixed sign.Close ∷ rest)), counts_list ts (Fixed sign.Close ∷ rest))
  counts_form (Index l r) rest = omega (arith, counts l (Fixed sign.OpenSquare ∷ spell r (Fixed sign.CloseSquare ∷ rest)), counts r (Fixed sign.CloseSquare ∷ rest))
  counts_form (Member t x) rest = omega (arith, counts t (Fixed sign.Dot ∷ (symbol.Name x.name ∷ rest)))
  counts_form (Arrow t x) rest = omega (arith, counts t (Fixed sign.Arrow ∷ (symbol.Name x.name ∷ rest)))
  counts_form (Cast k t) rest = omega (arith, counts_type k (Fixed sign.Close ∷ spell t rest), counts t rest)
  counts_form (SizeofExpression t) rest = omega (arith, counts t rest)
  counts_form (SizeofType k) rest = omega (arith, counts_type k (Fixed sign.Close ∷ rest))
  counts_form (Comma ts) rest = counts_list ts rest

  pub counts_list : (ts : Expressions Bare) (rest : List Symbol) → length (spell_list ts rest) ≡ count_list ts + length rest
  counts_list NoExpressions rest = omega arith
  counts_list (MoreExpressions t ts) rest = omega (arith, counts t (spell_more ts rest), counts_more ts rest)

  pub counts_more : (ts : Expressions Bare) (rest : List Symbol) → length (spell_more ts rest) ≡ count_more ts + length rest
  counts_more NoExpressions rest = omega arith
  counts_more (MoreExpressions t ts) rest = omega (arith, counts t (spell_more ts rest), counts_more ts rest)

  pub counts_optional : (t : Optional Bare) (rest : List Symbol) → length (spell_optional t rest) ≡ count_optional t + length rest
  counts_optional Absent rest = omega arith
  counts_optional (Present t) rest = counts t rest

  pub counts_valued : (s : Sign) (t : Optional Bare) (rest : List Symbol) → length (spell_valued s t rest) ≡ count_valued t + length rest
  counts_valued s Absent rest = omega arith
  counts_valued s (Present t) rest = omega (arith, counts t rest)

  pub counts_type : (k : TypeName Bare) (rest : List Symbol) → length (spell_type k rest) ≡ count_type k + length rest
  counts_type (type_name p ss d) rest = omega (arith, counts_specifiers ss (spell_declarator d rest), counts_declarator d rest)

  pub counts_specifiers : (ss : Specifiers Bare) (rest : List Symbol) → length (spell_specifiers ss rest) ≡ count_specifiers ss + length rest
  counts_specifiers NoSpecifiers rest = omega arith
  counts_specifiers (MoreSpecifiers x xs) rest = omega (arith, counts_specifier x (spell_specifiers xs rest), counts_specifiers xs rest)

  pub counts_specifier : (x : Specifier Bare) (rest : List Symbol) → length (spell_specifier x rest) ≡ count_specifier x + length rest
  counts_specifier (Keyword p word) rest = omega arith
  counts_specifier (Typedef x) rest = omega arith
  counts_specifier (Structure p word tag ms) rest = omega (arith, length-tag tag (spell_members ms rest), counts_members ms rest)
  counts_specifier (Enumeration p tag es comma) rest = omega (arith, length-tag tag (spell_enumerators es comma rest), counts_enumerators es comma rest)

  pub counts_members : (ms : Members Bare) (rest : List Symbol) → length (spell_members ms rest) ≡ count_members ms + length rest
  counts_members NoMembers rest = omega arith
  counts_members (MoreMembers m ms) rest = omega (arith, counts_member m (spell_more_members ms rest), counts_more_members ms rest)

  pub counts_more_members : (ms : Members Bare) (rest : List Symbol) → length (spell_more_members ms rest) ≡ count_more_members ms + length rest
  counts_more_members NoMembers rest = omega arith
  counts_more_members (MoreMembers m ms) rest = omega (arith, counts_member m (spell_more_members ms rest), counts_more_members ms rest)

  pub counts_member : (m : MemberDeclaration Bare) (rest : List Symbol) → length (spell_member m rest) ≡ count_member m + length rest
  counts_member (member_declaration p ss fs) rest = omega (arith, counts_specifiers ss (spell_fields fs rest), counts_fields fs rest)

  pub counts_fields : (fs : Fields Bare) (rest : List Symbol) → length (spell_fields fs rest) ≡ count_fields fs + length rest
  counts_fields NoFields rest = omega arith
  counts_fields (MoreFields f fs) rest = omega (arith, counts_field f (spell_more_fields fs rest), counts_more_fields fs rest)

  pub counts_more_fields : (fs : Fields Bare) (rest : List Symbol) → length (spell_more_fields fs rest) ≡ count_more_fields fs + length rest
  counts_more_fields NoFields rest = omega arith
  counts_more_fields (MoreFields f fs) rest = omega (arith, counts_field f (spell_more_fields fs rest), counts_more_fields fs rest)

  pub counts_field : (f : Field Bare) (rest : List Symbol) → length (spell_field f rest) ≡ count_field f + length rest
  counts_field (field p d width) rest = omega (arith, counts_declarator d (spell_valued sign.Colon width rest), counts_valued sign.Colon width rest)

  pub counts_enumerators : (es : Enumerators Bare) (comma : Bool) (rest : List Symbol) → length (spell_enumerators es comma rest) ≡ count_enumerators es comma + length rest
  counts_enumerators NoEnumerators comma rest = omega arith
  counts_enumerators (MoreEnumerators e es) comma rest =
      omega (arith, counts_enumerator e (spell_more_enumerators es (spell_last_comma comma (Fixed sign.CloseBrace ∷ rest))), counts_more_enumerators es (spell_last_comma comma (Fixed sign.CloseBrace ∷ rest)), length-last_comma comma (Fixed sign.CloseBrace ∷ rest))

  pub counts_more_enumerators : (es : Enumerators Bare) (rest : List Symbol) → length (spell_more_enumerators es rest) ≡ count_more_enumerators es + length rest
  counts_more_enumerators NoEnumerators rest = omega arith
  counts_more_enumerators (MoreEnumerators e es) rest = omega (arith, counts_enumerator e (spell_more_enumerators es rest), counts_more_enumerators es rest)

  pub counts_enumerator : (e : Enumerator Bare) (rest : List Symbol) → length (spell_enumerator e rest) ≡ count_enumerator e + length rest
  counts_enumerator (enumerator p x value) rest = omega (arith, counts_valued sign.Assign value rest)

  pub counts_declarator : (d : Declarator Bare) (rest : List Symbol) → length (spell_declarator d rest) ≡ count_declarator d + length rest
  counts_declarator (Named x) rest = omega arith
  counts_declarator (Unnamed p) rest = omega arith
  counts_declarator (Pointer p qs d) rest = omega (arith, length-qualifiers qs (spell_declarator d rest), counts_declarator d rest)
  counts_declarator (Parenthesised p d) rest = omega (arith, counts_declarator d (Fixed sign.Close ∷ rest))
  counts_declarator (Array p d b size) rest =
      omega (arith, counts_declarator d (Fixed sign.OpenSquare ∷ spell_optional size (Fixed sign.CloseSquare ∷ rest)), counts_optional size (Fixed sign.CloseSquare ∷ rest))
  counts_declarator (Function p d b ps ellipsis) rest =
      omega (arith, counts_declarator d (Fixed sign.Open ∷ spell_parameters ps (spell_ellipsis ellipsis (Fixed sign.Close ∷ rest))), counts_parameters ps (spell_ellipsis ellipsis (Fixed sign.Close ∷ rest)), length-ellipsis ellipsis (Fixed sign.Close ∷ rest))

  pub counts_parameters : (xs : Parameters Bare) (rest : List Symbol) → length (spell_parameters xs rest) ≡ count_parameters xs + length rest
  counts_parameters NoParameters rest = omega arith
  counts_parameters (MoreParameters x xs) rest = omega (arith, counts_parameter x (spell_more_parameters xs rest), counts_more_parameters xs rest)

  pub counts_more_parameters : (xs : Parameters Bare) (rest : List Symbol) → length (spell_more_parameters xs rest) ≡ count_more_parameters xs + length rest
  counts_more_parameters NoParameters rest = omega arith
  counts_more_parameters (MoreParameters x xs) rest = omega (arith, counts_parameter x (spell_more_parameters xs rest), counts_more_parameters xs rest)

  pub counts_parameter : (x : Parameter Bare) (rest : List Symbol) → length (spell_parameter x rest) ≡ count_parameter x + length rest
  counts_parameter (parameter p ss d) rest = omega (arith, counts_specifiers ss (spell_declarator d rest), counts_declarator d rest)

mutual
  pub counts_initializer : (i : Initializer Bare) (rest : List Symbol) → length (spell_initializer i rest) ≡ count_initializer i + length rest
  counts_initializer (Value t) rest = counts t rest
  counts_initializer (Braced p is comma) rest =
      omega (arith, counts_initializers is (spell_last_comma comma (Fixed sign.CloseBrace ∷ rest)), length-last_comma comma (Fixed sign.CloseBrace ∷ rest))

  pub counts_initializers : (is : Initializers Bare) (rest : List Symbol) → length (spell_initializers is rest) ≡ count_initializers is + length rest
  counts_initializers NoInitializers rest = omega arith
  counts_initializers (MoreInitializers i is) rest = omega (arith, counts_initializer i (spell_more_initializers is rest), counts_more_initializers is rest)

  pub counts_more_initializers : (is : Initializers Bare) (rest : List Symbol) → length (spell_more_initializers is rest) ≡ count_more_initializers is + length rest
  counts_more_initializers NoInitializers rest = omega arith
  counts_more_initializers (MoreInitializers i is) rest = omega (arith, counts_initializer i (spell_more_initializers is rest), counts_more_initializers is rest)

pub counts_initial : (i : Option (Initializer Bare)) (rest : List Symbol) → length (spell_initial i rest) ≡ count_initial i + length rest
counts_initial None rest = omega arith
counts_initial (Some i) rest = omega (arith, counts_initializer i rest)

pub counts_init_declarator : (d : InitDeclarator Bare) (rest : List Symbol) → length (spell_init_declarator d rest) ≡ count_init_declarator d + length rest
counts_init_declarator d rest = omega (arith, counts_declarator d.declarator (spell_initial d.initial rest), counts_initial d.initial rest)

pub counts_more_declarators : (ds : List (InitDeclarator Bare)) (rest : List Symbol) → length (spell_more_declarators ds rest) ≡ count_more_declarators ds + length rest
counts_more_declarators [] rest = omega arith
counts_more_declarators (d ∷ ds) rest = omega (arith, counts_init_declarator d (spell_more_declarators ds rest), counts_more_declarators ds rest)

pub counts_declarators : (ds : List (InitDeclarator Bare)) (rest : List Symbol) → length (spell_declarators ds rest) ≡ count_declarators ds + length rest
counts_declarators [] rest = omega arith
counts_declarators (d ∷ ds) rest = omega (arith, counts_init_declarator d (spell_more_declarators ds rest), counts_more_declarators ds rest)

pub counts_declaration : (d : Declaration Bare) (rest : List Symbol) → length (spell_declaration d rest) ≡ count_declaration d + length rest
counts_declaration d rest = omega (arith, counts_specifiers d.specifiers (spell_declarators d.declarators rest), counts_declarators d.declarators rest)

mutual
  pub counts_statement : (u : Statement Bare) (rest : List Symbol) → length (spell_statement u rest) ≡ count_statement u + length rest
  counts_statement (Empty p) rest = omega arith
  counts_statement (Evaluate p t) rest = omega (arith, counts t (Fixed sign.Semicolon ∷ rest))
  counts_statement (Block p us) rest = omega (arith, counts_statements us (Fixed sign.CloseBrace ∷ rest))
  counts_statement (If p t u) rest = omega (arith, counts t (Fixed sign.Close ∷ spell_statement u rest), counts_statement u rest)
  counts_statement (IfElse p t u v) rest =
      omega (arith, counts t (Fixed sign.Close ∷ spell_statement u (Fixed sign.Else ∷ spell_statement v rest)), counts_statement u (Fixed sign.Else ∷ spell_statement v rest), counts_statement v rest)
  counts_statement (Switch p k t u) rest = omega (arith, counts t (Fixed sign.Close ∷ spell_statement u rest), counts_statement u rest)
  counts_statement (While p k t u) rest = omega (arith, counts t (Fixed sign.Close ∷ spell_statement u rest), counts_statement u rest)
  counts_statement (Do p k u t) rest =
      omega (arith, counts_statement u (Fixed sign.While ∷ (Fixed sign.Open ∷ spell t (Fixed sign.Close ∷ (Fixed sign.Semicolon ∷ rest)))), counts t (Fixed sign.Close ∷ (Fixed sign.Semicolon ∷ rest)))
  counts_statement (For p k start test step u) rest =
      omega (
        arith,
        counts_statement start (spell_optional test (Fixed sign.Semicolon ∷ spell_optional step (Fixed sign.Close ∷ spell_statement u rest))),
        counts_optional test (Fixed sign.Semicolon ∷ spell_optional step (Fixed sign.Close ∷ spell_statement u rest)),
        counts_optional step (Fixed sign.Close ∷ spell_statement u rest),
        counts_statement u rest,
      )
  counts_statement (Case p t u) rest = omega (arith, counts t (Fixed sign.Colon ∷ spell_statement u rest), counts_statement u rest)
  counts_statement (Default p u) rest = omega (arith, counts_statement u rest)
  counts_statement (Label p x u) rest = omega (arith, counts_statement u rest)
  counts_statement (Goto p x) rest = omega arith
  counts_statement (Break p) rest = omega arith
  counts_statement (Continue p) rest = omega arith
  counts_statement (Return p k t) rest = omega (arith, counts_optional t (Fixed sign.Semicolon ∷ rest))
  counts_statement (Declare d) rest = counts_declaration d rest
  counts_statement (Pragma p x) rest = omega arith

  pub counts_statements : (us : Statements Bare) (rest : List Symbol) → length (spell_statements us rest) ≡ count_statements us + length rest
  counts_statements NoStatements rest = omega arith
  counts_statements (MoreStatements u us) rest = omega (arith, counts_statement u (spell_statements us rest), counts_statements us rest)

pub counts_definition : (d : Definition Bare) (rest : List Symbol) → length (spell_definition d rest) ≡ count_definition d + length rest
counts_definition d rest =
    omega (
      arith,
      counts_specifiers d.specifiers (spell_declarator d.declarator (Fixed sign.OpenBrace ∷ spell_statements d.body (Fixed sign.CloseBrace ∷ rest))),
      counts_declarator d.declarator (Fixed sign.OpenBrace ∷ spell_statements d.body (Fixed sign.CloseBrace ∷ rest)),
      counts_statements d.body (Fixed sign.CloseBrace ∷ rest),
    )

pub counts_external : (e : External Bare) (rest : List Symbol) → length (spell_external e rest) ≡ count_external e + length rest
counts_external (Outer p d) rest = counts_declaration d rest
counts_external (Defines d) rest = counts_definition d rest
