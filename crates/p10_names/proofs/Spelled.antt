-- What holds of each symbol that a tree spells before others holds of the others: a tree is spelled before what stands after it.
use Rattle.std.proofs.Common.{ℕ, zero, suc, Bool, true, false, List, [], ◌∷◌, Option, Some, None}
use Rattle.std.specs.List.{AllByRecursion}
use Rattle.p10_base.specs.Words.{Text}
use Rattle.p10_syn.specs.declared.sign.Sign.{Sign}
use Rattle.p10_syn.specs.declared.sign.Sign.TheVariants as sign
use Rattle.p10_syn.specs.declared.place.Side.TheVariants.{Before, After}
use Rattle.p10_syn.specs.Symbols.{Symbol, Fixed}
use Rattle.p10_syn.specs.Symbols as symbol
use Rattle.p10_syn.specs.Trees.{Bare, Identifier, Qualifier, Expression, expression, Form, Name, Number, Character, Strings, Unary, Step, Binary, Assign, Conditional, Call, Index, Member, Arrow, Cast, SizeofExpression, SizeofType, Comma, Expressions, NoExpressions, MoreExpressions, Optional, Absent, Present, TypeName, type_name, Specifiers, NoSpecifiers, MoreSpecifiers, Specifier, Keyword, Typedef, Structure, Enumeration, Members, NoMembers, MoreMembers, MemberDeclaration, member_declaration, Fields, NoFields, MoreFields, Field, field, Enumerators, NoEnumerators, MoreEnumerators, Enumerator, enumerator, Declarator, Named, Unnamed, Pointer, Parenthesised, Array, Function, Parameters, NoParameters, MoreParameters, Parameter, parameter}
use Rattle.p10_syn.specs.Trees.{Initializer, Value, Braced, Initializers, NoInitializers, MoreInitializers, InitDeclarator, Declaration, Statement, Empty, Evaluate, Block, If, IfElse, Switch, While, Do, For, Case, Default, Label, Goto, Break, Continue, Return, Declare, Pragma, Statements, NoStatements, MoreStatements, Definition, External, Outer, Defines}
use Rattle.p10_syn.specs.Spelling.{open_all, close_all, spell_strings, spell_qualifiers, spell_tag, spell_last_comma, spell_ellipsis, spell, spell_form, spell_list, spell_more, spell_optional, spell_valued, spell_type, spell_specifiers, spell_specifier, spell_members, spell_more_members, spell_member, spell_fields, spell_more_fields, spell_field, spell_enumerators, spell_more_enumerators, spell_enumerator, spell_declarator, spell_parameters, spell_more_parameters, spell_parameter, spell_initializer, spell_initializers, spell_more_initializers, spell_initial, spell_init_declarator, spell_more_declarators, spell_declarators, spell_declaration, spell_statement, spell_statements, spell_definition, spell_external, spell_externals}

module _ (P : Symbol → Type 0) where
  pub kept_open_all : (x : ℕ) (rest : List Symbol) → AllByRecursion P (open_all x rest) → AllByRecursion P rest
  kept_open_all zero rest h = h
  kept_open_all (suc n) rest h = kept_open_all n rest h.1

  pub kept_close_all : (x : ℕ) (rest : List Symbol) → AllByRecursion P (close_all x rest) → AllByRecursion P rest
  kept_close_all zero rest h = h
  kept_close_all (suc n) rest h = (kept_close_all n (Fixed sign.Close ∷ rest) h).1

  pub kept_spell_strings : (x : List Text) (rest : List Symbol) → AllByRecursion P (spell_strings x rest) → AllByRecursion P rest
  kept_spell_strings [] rest h = h
  kept_spell_strings (text ∷ texts) rest h = kept_spell_strings texts rest h.1

  pub kept_spell_qualifiers : (x : List (Qualifier Bare)) (rest : List Symbol) → AllByRecursion P (spell_qualifiers x rest) → AllByRecursion P rest
  kept_spell_qualifiers [] rest h = h
  kept_spell_qualifiers (q ∷ qs) rest h = kept_spell_qualifiers qs rest h.1

  pub kept_spell_tag : (x : Option (Identifier Bare)) (rest : List Symbol) → AllByRecursion P (spell_tag x rest) → AllByRecursion P rest
  kept_spell_tag None rest h = h
  kept_spell_tag (Some x) rest h = h.1

  pub kept_spell_last_comma : (x : Bool) (rest : List Symbol) → AllByRecursion P (spell_last_comma x rest) → AllByRecursion P rest
  kept_spell_last_comma false rest h = h
  kept_spell_last_comma true rest h = h.1

  pub kept_spell_ellipsis : (x : Bool) (rest : List Symbol) → AllByRecursion P (spell_ellipsis x rest) → AllByRecursion P rest
  kept_spell_ellipsis false rest h = h
  kept_spell_ellipsis true rest h = h.1.1

  mutual
    pub kept_spell : (x : Expression Bare) (rest : List Symbol) → AllByRecursion P (spell x rest) → AllByRecursion P rest
    kept_spell (expression p n f) rest h = kept_close_all n rest (kept_spell_form f (close_all n rest) (kept_open_all n (spell_form f (close_all n rest)) h))

    pub kept_spell_form : (x : Form Bare) (rest : List Symbol) → AllByRecursion P (spell_form x rest) → AllByRecursion P rest
    kept_spell_form (Name x) rest h = h.1
    kept_spell_form (Number x) rest h = h.1
    kept_spell_form (Character x) rest h = h.1
    kept_spell_form (Strings xs) rest h = kept_spell_strings xs rest h
    kept_spell_form (Unary s t) rest h = kept_spell t rest h.1
    kept_spell_form (Step Before s t) rest h = kept_spell t rest h.1
    kept_spell_form (Step After s t) rest h = (kept_spell t (Fixed s ∷ rest) h).1
    kept_spell_form (Binary s l r) rest h = kept_spell r rest (kept_spell l (Fixed s ∷ spell r rest) h).1
    kept_spell_form (Assign s l r) rest h = kept_spell r rest (kept_spell l (Fixed s ∷ spell r rest) h).1
    kept_spell_form (Conditional a b c) rest h = kept_spell c rest (kept_spell b (Fixed sign.Colon ∷ spell c rest) (kept_spell a (Fixed sign.Question ∷ spell b (Fixed sign.Colon ∷ spell c rest)) h).1).1
    kept_spell_form (Call f ts) rest h = (kept_spell_list ts (Fixed sign.Close ∷ rest) (kept_spell f (Fixed sign.Open ∷ spell_list ts (Fixed sign.Close ∷ rest)) h).1).1
    kept_spell_form (Index l r) rest h = (kept_spell r (Fixed sign.CloseSquare ∷ rest) (kept_spell l (Fixed sign.OpenSquare ∷ spell r (Fixed sign.CloseSquare ∷ rest)) h).1).1
    kept_spell_form (Member t x) rest h = (kept_spell t (Fixed sign.Dot ∷ (symbol.Name x.name ∷ rest)) h).1.1
    kept_spell_form (Arrow t x) rest h = (kept_spell t (Fixed sign.Arrow ∷ (symbol.Name x.name ∷ rest)) h).1.1
    kept_spell_form (Cast k t) rest h = kept_spell t rest (kept_spell_type k (Fixed sign.Close ∷ spell t rest) h.1).1
    kept_spell_form (SizeofExpression t) rest h = kept_spell t rest h.1
    kept_spell_form (SizeofType k) rest h = (kept_spell_type k (Fixed sign.Close ∷ rest) h.1.1).1
    kept_spell_form (Comma ts) rest h = kept_spell_list ts rest h

    pub kept_spell_list : (x : Expressions Bare) (rest : List Symbol) → AllByRecursion P (spell_list x rest) → AllByRecursion P rest
    kept_spell_list NoExpressions rest h = h
    kept_spell_list (MoreExpressions t ts) rest h = kept_spell_more ts rest (kept_spell t (spell_more ts rest) h)

    pub kept_spell_more : (x : Expressions Bare) (rest : List Symbol) → AllByRecursion P (spell_more x rest) → AllByRecursion P rest
    kept_spell_more NoExpressions rest h = h
    kept_spell_more (MoreExpressions t ts) rest h = kept_spell_more ts rest (kept_spell t (spell_more ts rest) h.1)

    pub kept_spell_optional : (x : Optional Bare) (rest : List Symbol) → AllByRecursion P (spell_optional x rest) → AllByRecursion P rest
    kept_spell_optional Absent rest h = h
    kept_spell_optional (Present t) rest h = kept_spell t rest h

    pub kept_spell_valued : (x : Sign) (y : Optional Bare) (rest : List Symbol) → AllByRecursion P (spell_valued x y rest) → AllByRecursion P rest
    kept_spell_valued s Absent rest h = h
    kept_spell_valued s (Present t) rest h = kept_spell t rest h.1

    pub kept_spell_type : (x : TypeName Bare) (rest : List Symbol) → AllByRecursion P (spell_type x rest) → AllByRecursion P rest
    kept_spell_type (type_name p ss d) rest h = kept_spell_declarator d rest (kept_spell_specifiers ss (spell_declarator d rest) h)

    pub kept_spell_specifiers : (x : Specifiers Bare) (rest : List Symbol) → AllByRecursion P (spell_specifiers x rest) → AllByRecursion P rest
    kept_spell_specifiers NoSpecifiers rest h = h
    kept_spell_specifiers (MoreSpecifiers s ss) rest h = kept_spell_specifiers ss rest (kept_spell_specifier s (spell_specifiers ss rest) h)

    pub kept_spell_specifier : (x : Specifier Bare) (rest : List Symbol) → AllByRecursion P (spell_specifier x rest) → AllByRecursion P rest
    kept_spell_specifier (Keyword p s) rest h = h.1
    kept_spell_specifier (Typedef x) rest h = h.1
    kept_spell_specifier (Structure p s tag ms) rest h = kept_spell_members ms rest (kept_spell_tag tag (spell_members ms rest) h.1)
    kept_spell_specifier (Enumeration p tag es comma) rest h = kept_spell_enumerators es comma rest (kept_spell_tag tag (spell_enumerators es comma rest) h.1)

    pub kept_spell_members : (x : Members Bare) (rest : List Symbol) → AllByRecursion P (spell_members x rest) → AllByRecursion P rest
    kept_spell_members NoMembers rest h = h
    kept_spell_members (MoreMembers m ms) rest h = kept_spell_more_members ms rest (kept_spell_member m (spell_more_members ms rest) h.1)

    pub kept_spell_more_members : (x : Members Bare) (rest : List Symbol) → AllByRecursion P (spell_more_members x rest) → AllByRecursion P rest
    kept_spell_more_members NoMembers rest h = h.1
    kept_spell_more_members (MoreMembers m ms) rest h = kept_spell_more_members ms rest (kept_spell_member m (spell_more_members ms rest) h)

    pub kept_spell_member : (x : MemberDeclaration Bare) (rest : List Symbol) → AllByRecursion P (spell_member x rest) → AllByRecursion P rest
    kept_spell_member (member_declaration p ss fs) rest h = kept_spell_fields fs rest (kept_spell_specifiers ss (spell_fields fs rest) h)

    pub kept_spell_fields : (x : Fields Bare) (rest : List Symbol) → AllByRecursion P (spell_fields x rest) → AllByRecursion P rest
    kept_spell_fields NoFields rest h = h.1
    kept_spell_fields (MoreFields f fs) rest h = kept_spell_more_fields fs rest (kept_spell_field f (spell_more_fields fs rest) h)

    pub kept_spell_more_fields : (x : Fields Bare) (rest : List Symbol) → AllByRecursion P (spell_more_fields x rest) → AllByRecursion P rest
    kept_spell_more_fields NoFields rest h = h.1
    kept_spell_more_fields (MoreFields f fs) rest h = kept_spell_more_fields fs rest (kept_spell_field f (spell_more_fields fs rest) h.1)

    pub kept_spell_field : (x : Field Bare) (rest : List Symbol) → AllByRecursion P (spell_field x rest) → AllByRecursion P rest
    kept_spell_field (field p d width) rest h = kept_spell_valued sign.Colon width rest (kept_spell_declarator d (spell_valued sign.Colon width rest) h)

    pub kept_spell_enumerators : (x : Enumerators Bare) (y : Bool) (rest : List Symbol) → AllByRecursion P (spell_enumerators x y rest) → AllByRecursion P rest
    kept_spell_enumerators NoEnumerators comma rest h = h
    kept_spell_enumerators (MoreEnumerators e es) comma rest h = (kept_spell_last_comma comma (Fixed sign.CloseBrace ∷ rest) (kept_spell_more_enumerators es (spell_last_comma comma (Fixed sign.CloseBrace ∷ rest)) (kept_spell_enumerator e (spell_more_enumerators es (spell_last_comma comma (Fixed sign.CloseBrace ∷ rest))) h.1))).1

    pub kept_spell_more_enumerators : (x : Enumerators Bare) (rest : List Symbol) → AllByRecursion P (spell_more_enumerators x rest) → AllByRecursion P rest
    kept_spell_more_enumerators NoEnumerators rest h = h
    kept_spell_more_enumerators (MoreEnumerators e es) rest h = kept_spell_more_enumerators es rest (kept_spell_enumerator e (spell_more_enumerators es rest) h.1)

    pub kept_spell_enumerator : (x : Enumerator Bare) (rest : List Symbol) → AllByRecursion P (spell_enumerator x rest) → AllByRecursion P rest
    kept_spell_enumerator (enumerator p x value) rest h = kept_spell_valued sign.Assign value rest h.1

    pub kept_spell_declarator : (x : Declarator Bare) (rest : List Symbol) → AllByRecursion P (spell_declarator x rest) → AllByRecursion P rest
    kept_spell_declarator (Named x) rest h = h.1
    kept_spell_declarator (Unnamed p) rest h = h
    kept_spell_declarator (Pointer p qs d) rest h = kept_spell_declarator d rest (kept_spell_qualifiers qs (spell_declarator d rest) h.1)
    kept_spell_declarator (Parenthesised p d) rest h = (kept_spell_declarator d (Fixed sign.Close ∷ rest) h.1).1
    kept_spell_declarator (Array p d b length) rest h = (kept_spell_optional length (Fixed sign.CloseSquare ∷ rest) (kept_spell_declarator d (Fixed sign.OpenSquare ∷ spell_optional length (Fixed sign.CloseSquare ∷ rest)) h).1).1
    kept_spell_declarator (Function p d b ps ellipsis) rest h = (kept_spell_ellipsis ellipsis (Fixed sign.Close ∷ rest) (kept_spell_parameters ps (spell_ellipsis ellipsis (Fixed sign.Close ∷ rest)) (kept_spell_declarator d (Fixed sign.Open ∷ spell_parameters ps (spell_ellipsis ellipsis (Fixed sign.Close ∷ rest))) h).1)).1

    pub kept_spell_parameters : (x : Parameters Bare) (rest : List Symbol) → AllByRecursion P (spell_parameters x rest) → AllByRecursion P rest
    kept_spell_parameters NoParameters rest h = h
    kept_spell_parameters (MoreParameters x xs) rest h = kept_spell_more_parameters xs rest (kept_spell_parameter x (spell_more_parameters xs rest) h)

    pub kept_spell_more_parameters : (x : Parameters Bare) (rest : List Symbol) → AllByRecursion P (spell_more_parameters x rest) → AllByRecursion P rest
    kept_spell_more_parameters NoParameters rest h = h
    kept_spell_more_parameters (MoreParameters x xs) rest h = kept_spell_more_parameters xs rest (kept_spell_parameter x (spell_more_parameters xs rest) h.1)

    pub kept_spell_parameter : (x : Parameter Bare) (rest : List Symbol) → AllByRecursion P (spell_parameter x rest) → AllByRecursion P rest
    kept_spell_parameter (parameter p ss d) rest h = kept_spell_declarator d rest (kept_spell_specifiers ss (spell_declarator d rest) h)

  mutual
    pub kept_spell_initializer : (x : Initializer Bare) (rest : List Symbol) → AllByRecursion P (spell_initializer x rest) → AllByRecursion P rest
    kept_spell_initializer (Value t) rest h = kept_spell t rest h
    kept_spell_initializer (Braced p is comma) rest h = (kept_spell_last_comma comma (Fixed sign.CloseBrace ∷ rest) (kept_spell_initializers is (spell_last_comma comma (Fixed sign.CloseBrace ∷ rest)) h.1)).1

    pub kept_spell_initializers : (x : Initializers Bare) (rest : List Symbol) → AllByRecursion P (spell_initializers x rest) → AllByRecursion P rest
    kept_spell_initializers NoInitializers rest h = h
    kept_spell_initializers (MoreInitializers i is) rest h = kept_spell_more_initializers is rest (kept_spell_initializer i (spell_more_initializers is rest) h)

    pub kept_spell_more_initializers : (x : Initializers Bare) (rest : List Symbol) → AllByRecursion P (spell_more_initializers x rest) → AllByRecursion P rest
    kept_spell_more_initializers NoInitializers rest h = h
    kept_spell_more_initializers (MoreInitializers i is) rest h = kept_spell_more_initializers is rest (kept_spell_initializer i (spell_more_initializers is rest) h.1)

  pub kept_spell_initial : (x : Option (Initializer Bare)) (rest : List Symbol) → AllByRecursion P (spell_initial x rest) → AllByRecursion P rest
  kept_spell_initial None rest h = h
  kept_spell_initial (Some i) rest h = kept_spell_initializer i rest h.1

  pub kept_spell_init_declarator : (x : InitDeclarator Bare) (rest : List Symbol) → AllByRecursion P (spell_init_declarator x rest) → AllByRecursion P rest
  kept_spell_init_declarator d rest h = kept_spell_initial d.initial rest (kept_spell_declarator d.declarator (spell_initial d.initial rest) h)

  pub kept_spell_more_declarators : (x : List (InitDeclarator Bare)) (rest : List Symbol) → AllByRecursion P (spell_more_declarators x rest) → AllByRecursion P rest
  kept_spell_more_declarators [] rest h = h.1
  kept_spell_more_declarators (d ∷ ds) rest h = kept_spell_more_declarators ds rest (kept_spell_init_declarator d (spell_more_declarators ds rest) h.1)

  pub kept_spell_declarators : (x : List (InitDeclarator Bare)) (rest : List Symbol) → AllByRecursion P (spell_declarators x rest) → AllByRecursion P rest
  kept_spell_declarators [] rest h = h.1
  kept_spell_declarators (d ∷ ds) rest h = kept_spell_more_declarators ds rest (kept_spell_init_declarator d (spell_more_declarators ds rest) h)

  pub kept_spell_declaration : (x : Declaration Bare) (rest : List Symbol) → AllByRecursion P (spell_declaration x rest) → AllByRecursion P rest
  kept_spell_declaration d rest h = kept_spell_declarators d.declarators rest (kept_spell_specifiers d.specifiers (spell_declarators d.declarators rest) h)

  mutual
    pub kept_spell_statement : (x : Statement Bare) (rest : List Symbol) → AllByRecursion P (spell_statement x rest) → AllByRecursion P rest
    kept_spell_statement (Empty p) rest h = h.1
    kept_spell_statement (Evaluate p t) rest h = (kept_spell t (Fixed sign.Semicolon ∷ rest) h).1
    kept_spell_statement (Block p is) rest h = (kept_spell_statements is (Fixed sign.CloseBrace ∷ rest) h.1).1
    kept_spell_statement (If p t s) rest h = kept_spell_statement s rest (kept_spell t (Fixed sign.Close ∷ spell_statement s rest) h.1.1).1
    kept_spell_statement (IfElse p t s u) rest h = kept_spell_statement u rest (kept_spell_statement s (Fixed sign.Else ∷ spell_statement u rest) (kept_spell t (Fixed sign.Close ∷ spell_statement s (Fixed sign.Else ∷ spell_statement u rest)) h.1.1).1).1
    kept_spell_statement (Switch p k t s) rest h = kept_spell_statement s rest (kept_spell t (Fixed sign.Close ∷ spell_statement s rest) h.1.1).1
    kept_spell_statement (While p k t s) rest h = kept_spell_statement s rest (kept_spell t (Fixed sign.Close ∷ spell_statement s rest) h.1.1).1
    kept_spell_statement (Do p k s t) rest h = (kept_spell t (Fixed sign.Close ∷ (Fixed sign.Semicolon ∷ rest)) (kept_spell_statement s (Fixed sign.While ∷ (Fixed sign.Open ∷ spell t (Fixed sign.Close ∷ (Fixed sign.Semicolon ∷ rest)))) h.1).1.1).1.1
    kept_spell_statement (For p k start test step s) rest h = kept_spell_statement s rest (kept_spell_optional step (Fixed sign.Close ∷ spell_statement s rest) (kept_spell_optional test (Fixed sign.Semicolon ∷ spell_optional step (Fixed sign.Close ∷ spell_statement s rest)) (kept_spell_statement start (spell_optional test (Fixed sign.Semicolon ∷ spell_optional step (Fixed sign.Close ∷ spell_statement s rest))) h.1.1)).1).1
    kept_spell_statement (Case p t s) rest h = kept_spell_statement s rest (kept_spell t (Fixed sign.Colon ∷ spell_statement s rest) h.1).1
    kept_spell_statement (Default p s) rest h = kept_spell_statement s rest h.1.1
    kept_spell_statement (Label p x s) rest h = kept_spell_statement s rest h.1.1
    kept_spell_statement (Goto p x) rest h = h.1.1.1
    kept_spell_statement (Break p) rest h = h.1.1
    kept_spell_statement (Continue p) rest h = h.1.1
    kept_spell_statement (Return p k t) rest h = (kept_spell_optional t (Fixed sign.Semicolon ∷ rest) h.1).1
    kept_spell_statement (Declare d) rest h = kept_spell_declaration d rest h
    kept_spell_statement (Pragma p x) rest h = h.1

    pub kept_spell_statements : (x : Statements Bare) (rest : List Symbol) → AllByRecursion P (spell_statements x rest) → AllByRecursion P rest
    kept_spell_statements NoStatements rest h = h
    kept_spell_statements (MoreStatements s ss) rest h = kept_spell_statements ss rest (kept_spell_statement s (spell_statements ss rest) h)

  pub kept_spell_definition : (x : Definition Bare) (rest : List Symbol) → AllByRecursion P (spell_definition x rest) → AllByRecursion P rest
  kept_spell_definition d rest h = (kept_spell_statements d.body (Fixed sign.CloseBrace ∷ rest) (kept_spell_declarator d.declarator (Fixed sign.OpenBrace ∷ spell_statements d.body (Fixed sign.CloseBrace ∷ rest)) (kept_spell_specifiers d.specifiers (spell_declarator d.declarator (Fixed sign.OpenBrace ∷ spell_statements d.body (Fixed sign.CloseBrace ∷ rest))) h)).1).1

  pub kept_spell_external : (x : External Bare) (rest : List Symbol) → AllByRecursion P (spell_external x rest) → AllByRecursion P rest
  kept_spell_external (Outer p d) rest h = kept_spell_declaration d rest h
  kept_spell_external (Defines d) rest h = kept_spell_definition d rest h

  pub kept_spell_externals : (x : List (External Bare)) (rest : List Symbol) → AllByRecursion P (spell_externals x rest) → AllByRecursion P rest
  kept_spell_externals [] rest h = h
  kept_spell_externals (e ∷ es) rest h = kept_spell_externals es rest (kept_spell_external e (spell_externals es rest) h)
