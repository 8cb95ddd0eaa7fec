-- What a tree spells before words that are followed by others: these follow what it spells.
use Rattle.std.proofs.Common.{◌≡◌, ℕ, zero, suc, List, [], ◌∷◌, ◌++◌, Bool, true, false, Option, Some, None, refl, ap, ◌∙◌}
use Rattle.p10_base.specs.Words.{Text}
use Rattle.p10_syn.specs.declared.sign.Sign.{Sign}
use Rattle.p10_syn.specs.declared.sign.Sign.TheVariants as sign
use Rattle.p10_syn.specs.declared.place.Side.TheVariants.{Before, After}
use Rattle.p10_syn.specs.Symbols.{Symbol, Fixed}
use Rattle.p10_syn.specs.Symbols as symbol
use Rattle.p10_syn.specs.Trees.{Bare, Identifier, Qualifier, Expression, expression, Form, Name, Number, Character, Strings, Unary, Step, Binary, Assign, Conditional, Call, Index, Member, Arrow, Cast, SizeofExpression, SizeofType, Comma, Expressions, NoExpressions, MoreExpressions, Optional, Absent, Present, TypeName, type_name, Specifiers, NoSpecifiers, MoreSpecifiers, Specifier, Keyword, Typedef, Structure, Enumeration, Members, NoMembers, MoreMembers, MemberDeclaration, member_declaration, Fields, NoFields, MoreFields, Field, field, Enumerators, NoEnumerators, MoreEnumerators, Enumerator, enumerator, Declarator, Named, Unnamed, Pointer, Parenthesised, Array, Function, Parameters, NoParameters, MoreParameters, Parameter, parameter}
use Rattle.p10_syn.specs.Trees.{Initializer, Value, Braced, Initializers, NoInitializers, MoreInitializers, InitDeclarator, Declaration, Statement, Empty, Evaluate, Block, If, IfElse, Switch, While, Do, For, Case, Default, Label, Goto, Break, Continue, Return, Declare, Pragma, Statements, NoStatements, MoreStatements, Definition, External, Outer, Defines}
use Rattle.p10_syn.specs.Spelling.{close_all, open_all, spell, spell_declaration, spell_declarator, spell_declarators, spell_definition, spell_ellipsis, spell_enumerator, spell_enumerators, spell_external, spell_externals, spell_field, spell_fields, spell_form, spell_init_declarator, spell_initial, spell_initializer, spell_initializers, spell_last_comma, spell_list, spell_member, spell_members, spell_more, spell_more_declarators, spell_more_enumerators, spell_more_fields, spell_more_initializers, spell_more_members, spell_more_parameters, spell_optional, spell_parameter, spell_parameters, spell_qualifiers, spell_specifier, spell_specifiers, spell_statement, spell_statements, spell_strings, spell_tag, spell_type, spell_valued}

pub follow_open_all : (t : ℕ) (these more : List Symbol) → open_all t (these ++ more) ≡ open_all t these ++ more
follow_open_all zero these more = refl
follow_open_all (suc n) these more = ap (λ rest. Fixed sign.Open ∷ rest) (follow_open_all n these more)

pub follow_close_all : (t : ℕ) (these more : List Symbol) → close_all t (these ++ more) ≡ close_all t these ++ more
follow_close_all zero these more = refl
follow_close_all (suc n) these more = follow_close_all n (Fixed sign.Close ∷ these) more

pub follow_strings : (t : List Text) (these more : List Symbol) → spell_strings t (these ++ more) ≡ spell_strings t these ++ more
follow_strings [] these more = refl
follow_strings (text ∷ texts) these more = ap (λ rest. symbol.String text ∷ rest) (follow_strings texts these more)

pub follow_qualifiers : (t : List (Qualifier Bare)) (these more : List Symbol) → spell_qualifiers t (these ++ more) ≡ spell_qualifiers t these ++ more
follow_qualifiers [] these more = refl
follow_qualifiers (q ∷ qs) these more = ap (λ rest. Fixed q.word ∷ rest) (follow_qualifiers qs these more)

pub follow_tag : (t : Option (Identifier Bare)) (these more : List Symbol) → spell_tag t (these ++ more) ≡ spell_tag t these ++ more
follow_tag None these more = refl
follow_tag (Some x) these more = refl

pub follow_last_comma : (t : Bool) (these more : List Symbol) → spell_last_comma t (these ++ more) ≡ spell_last_comma t these ++ more
follow_last_comma false these more = refl
follow_last_comma true these more = refl

pub follow_ellipsis : (t : Bool) (these more : List Symbol) → spell_ellipsis t (these ++ more) ≡ spell_ellipsis t these ++ more
follow_ellipsis false these more = refl
follow_ellipsis true these more = refl

mutual
  pub follow : (t : Expression Bare) (these more : List Symbol) → spell t (these ++ more) ≡ spell t these ++ more
  follow (expression p n f) these more = ap (λ rest. open_all n (spell_form f rest)) (follow_close_all n these more) ∙ ap (λ rest. open_all n rest) (follow_form f (close_all n these) more) ∙ follow_open_all n (spell_form f (close_all n these)) more

  pub follow_form : (t : Form Bare) (these more : List Symbol) → spell_form t (these ++ more) ≡ spell_form t these ++ more
  follow_form (Name x) these more = refl
  follow_form (Number x) these more = refl
  follow_form (Character x) these more = refl
  follow_form (Strings xs) these more = follow_strings xs these more
  follow_form (Unary s t) these more = ap (λ rest. Fixed s ∷ rest) (follow t these more)
  follow_form (Step Before s t) these more = ap (λ rest. Fixed s ∷ rest) (follow t these more)
  follow_form (Step After s t) these more = follow t (Fixed s ∷ these) more
  follow_form (Binary s l r) these more = ap (λ rest. spell l (Fixed s ∷ rest)) (follow r these more) ∙ follow l (Fixed s ∷ spell r these) more
  follow_form (Assign s l r) these more = ap (λ rest. spell l (Fixed s ∷ rest)) (follow r these more) ∙ follow l (Fixed s ∷ spell r these) more
  follow_form (Conditional a b c) these more = ap (λ rest. spell a (Fixed sign.Question ∷ spell b (Fixed sign.Colon ∷ rest))) (follow c these more) ∙ ap (λ rest. spell a (Fixed sign.Question ∷ rest)) (follow b (Fixed sign.Colon ∷ spell c these) more) ∙ follow a (Fixed sign.Question ∷ spell b (Fixed sign.Colon ∷ spell c these)) more
  follow_form (Call f ts) these more = ap (λ rest. spell f (Fixed sign.Open ∷ rest)) (follow_list ts (Fixed sign.Close ∷ these) more) ∙ follow f (Fixed sign.Open ∷ spell_list ts (Fixed sign.Close ∷ these)) more
  follow_form (Index l r) these more = ap (λ rest. spell l (Fixed sign.OpenSquare ∷ rest)) (follow r (Fixed sign.CloseSquare ∷ these) more) ∙ follow l (Fixed sign.OpenSquare ∷ spell r (Fixed sign.CloseSquare ∷ these)) more
  follow_form (Member t x) these more = follow t (Fixed sign.Dot ∷ symbol.Name x.name ∷ these) more
  follow_form (Arrow t x) these more = follow t (Fixed sign.Arrow ∷ symbol.Name x.name ∷ these) more
  follow_form (Cast k t) these more = ap (λ rest. Fixed sign.Open ∷ spell_type k (Fixed sign.Close ∷ rest)) (follow t these more) ∙ ap (λ rest. Fixed sign.Open ∷ rest) (follow_type k (Fixed sign.Close ∷ spell t these) more)
  follow_form (SizeofExpression t) these more = ap (λ rest. Fixed sign.Sizeof ∷ rest) (follow t these more)
  follow_form (SizeofType k) these more = ap (λ rest. Fixed sign.Sizeof ∷ Fixed sign.Open ∷ rest) (follow_type k (Fixed sign.Close ∷ these) more)
  follow_form (Comma ts) these more = follow_list ts these more

  pub follow_list : (t : Expressions Bare) (these more : List Symbol) → spell_list t (these ++ more) ≡ spell_list t these ++ more
  follow_list NoExpressions these more = refl
  follow_list (MoreExpressions t ts) these more = ap (λ rest. spell t rest) (follow_more ts these more) ∙ follow t (spell_more ts these) more

  pub follow_more : (t : Expressions Bare) (these more : List Symbol) → spell_more t (these ++ more) ≡ spell_more t these ++ more
  follow_more NoExpressions these more = refl
  follow_more (MoreExpressions t ts) these more = ap (λ rest. Fixed sign.Comma ∷ spell t rest) (follow_more ts these more) ∙ ap (λ rest. Fixed sign.Comma ∷ rest) (follow t (spell_more ts these) more)

  pub follow_optional : (t : Optional Bare) (these more : List Symbol) → spell_optional t (these ++ more) ≡ spell_optional t these ++ more
  follow_optional Absent these more = refl
  follow_optional (Present t) these more = follow t these more

  pub follow_valued : (t : Sign) (u : Optional Bare) (these more : List Symbol) → spell_valued t u (these ++ more) ≡ spell_valued t u these ++ more
  follow_valued s Absent these more = refl
  follow_valued s (Present t) these more = ap (λ rest. Fixed s ∷ rest) (follow t these more)

  pub follow_type : (t : TypeName Bare) (these more : List Symbol) → spell_type t (these ++ more) ≡ spell_type t these ++ more
  follow_type (type_name p ss d) these more = ap (λ rest. spell_specifiers ss rest) (follow_declarator d these more) ∙ follow_specifiers ss (spell_declarator d these) more

  pub follow_specifiers : (t : Specifiers Bare) (these more : List Symbol) → spell_specifiers t (these ++ more) ≡ spell_specifiers t these ++ more
  follow_specifiers NoSpecifiers these more = refl
  follow_specifiers (MoreSpecifiers s ss) these more = ap (λ rest. spell_specifier s rest) (follow_specifiers ss these more) ∙ follow_specifier s (spell_specifiers ss these) more

  pub follow_specifier : (t : Specifier Bare) (these more : List Symbol) → spell_specifier t (these ++ more) ≡ spell_specifier t these ++ more
  follow_specifier (Keyword p s) these more = refl
  follow_specifier (Typedef x) these more = refl
  follow_specifier (Structure p s tag ms) these more = ap (λ rest. Fixed s ∷ spell_tag tag rest) (follow_members ms these more) ∙ ap (λ rest. Fixed s ∷ rest) (follow_tag tag (spell_members ms these) more)
  follow_specifier (Enumeration p tag es comma) these more = ap (λ rest. Fixed sign.Enum ∷ spell_tag tag rest) (follow_enumerators es comma these more) ∙ ap (λ rest. Fixed sign.Enum ∷ rest) (follow_tag tag (spell_enumerators es comma these) more)

  pub follow_members : (t : Members Bare) (these more : List Symbol) → spell_members t (these ++ more) ≡ spell_members t these ++ more
  follow_members NoMembers these more = refl
  follow_members (MoreMembers m ms) these more = ap (λ rest. Fixed sign.OpenBrace ∷ spell_member m rest) (follow_more_members ms these more) ∙ ap (λ rest. Fixed sign.OpenBrace ∷ rest) (follow_member m (spell_more_members ms these) more)

  pub follow_more_members : (t : Members Bare) (these more : List Symbol) → spell_more_members t (these ++ more) ≡ spell_more_members t these ++ more
  follow_more_members NoMembers these more = refl
  follow_more_members (MoreMembers m ms) these more = ap (λ rest. spell_member m rest) (follow_more_members ms these more) ∙ follow_member m (spell_more_members ms these) more

  pub follow_member : (t : MemberDeclaration Bare) (these more : List Symbol) → spell_member t (these ++ more) ≡ spell_member t these ++ more
  follow_member (member_declaration p ss fs) these more = ap (λ rest. spell_specifiers ss rest) (follow_fields fs these more) ∙ follow_specifiers ss (spell_fields fs these) more

  pub follow_fields : (t : Fields Bare) (these more : List Symbol) → spell_fields t (these ++ more) ≡ spell_fields t these ++ more
  follow_fields NoFields these more = refl
  follow_fields (MoreFields f fs) these more = ap (λ rest. spell_field f rest) (follow_more_fields fs these more) ∙ follow_field f (spell_more_fields fs these) more

  pub follow_more_fields : (t : Fields Bare) (these more : List Symbol) → spell_more_fields t (these ++ more) ≡ spell_more_fields t these ++ more
  follow_more_fields NoFields these more = refl
  follow_more_fields (MoreFields f fs) these more = ap (λ rest. Fixed sign.Comma ∷ spell_field f rest) (follow_more_fields fs these more) ∙ ap (λ rest. Fixed sign.Comma ∷ rest) (follow_field f (spell_more_fields fs these) more)

  pub follow_field : (t : Field Bare) (these more : List Symbol) → spell_field t (these ++ more) ≡ spell_field t these ++ more
  follow_field (field p d width) these more = ap (λ rest. spell_declarator d rest) (follow_valued sign.Colon width these more) ∙ follow_declarator d (spell_valued sign.Colon width these) more

  pub follow_enumerators : (t : Enumerators Bare) (u : Bool) (these more : List Symbol) → spell_enumerators t u (these ++ more) ≡ spell_enumerators t u these ++ more
  follow_enumerators NoEnumerators comma these more = refl
  follow_enumerators (MoreEnumerators e es) comma these more = ap (λ rest. Fixed sign.OpenBrace ∷ spell_enumerator e (spell_more_enumerators es rest)) (follow_last_comma comma (Fixed sign.CloseBrace ∷ these) more) ∙ ap (λ rest. Fixed sign.OpenBrace ∷ spell_enumerator e rest) (follow_more_enumerators es (spell_last_comma comma (Fixed sign.CloseBrace ∷ these)) more) ∙ ap (λ rest. Fixed sign.OpenBrace ∷ rest) (follow_enumerator e (spell_more_enumerators es (spell_last_comma comma (Fixed sign.CloseBrace ∷ these))) more)

  pub follow_more_enumerators : (t : Enumerators Bare) (these more : List Symbol) → spell_more_enumerators t (these ++ more) ≡ spell_more_enumerators t these ++ more
  follow_more_enumerators NoEnumerators these more = refl
  follow_more_enumerators (MoreEnumerators e es) these more = ap (λ rest. Fixed sign.Comma ∷ spell_enumerator e rest) (follow_more_enumerators es these more) ∙ ap (λ rest. Fixed sign.Comma ∷ rest) (follow_enumerator e (spell_more_enumerators es these) more)

  pub follow_enumerator : (t : Enumerator Bare) (these more : List Symbol) → spell_enumerator t (these ++ more) ≡ spell_enumerator t these ++ more
  follow_enumerator (enumerator p x value) these more = ap (λ rest. symbol.Name x.name ∷ rest) (follow_valued sign.Assign value these more)

  pub follow_declarator : (t : Declarator Bare) (these more : List Symbol) → spell_declarator t (these ++ more) ≡ spell_declarator t these ++ more
  follow_declarator (Named x) these more = refl
  follow_declarator (Unnamed p) these more = refl
  follow_declarator (Pointer p qs d) these more = ap (λ rest. Fixed sign.Star ∷ spell_qualifiers qs rest) (follow_declarator d these more) ∙ ap (λ rest. Fixed sign.Star ∷ rest) (follow_qualifiers qs (spell_declarator d these) more)
  follow_declarator (Parenthesised p d) these more = ap (λ rest. Fixed sign.Open ∷ rest) (follow_declarator d (Fixed sign.Close ∷ these) more)
  follow_declarator (Array p d b length) these more = ap (λ rest. spell_declarator d (Fixed sign.OpenSquare ∷ rest)) (follow_optional length (Fixed sign.CloseSquare ∷ these) more) ∙ follow_declarator d (Fixed sign.OpenSquare ∷ spell_optional length (Fixed sign.CloseSquare ∷ these)) more
  follow_declarator (Function p d b ps ellipsis) these more = ap (λ rest. spell_declarator d (Fixed sign.Open ∷ spell_parameters ps rest)) (follow_ellipsis ellipsis (Fixed sign.Close ∷ these) more) ∙ ap (λ rest. spell_declarator d (Fixed sign.Open ∷ rest)) (follow_parameters ps (spell_ellipsis ellipsis (Fixed sign.Close ∷ these)) more) ∙ follow_declarator d (Fixed sign.Open ∷ spell_parameters ps (spell_ellipsis ellipsis (Fixed sign.Close ∷ these))) more

  pub follow_parameters : (t : Parameters Bare) (these more : List Symbol) → spell_parameters t (these ++ more) ≡ spell_parameters t these ++ more
  follow_parameters NoParameters these more = refl
  follow_parameters (MoreParameters x xs) these more = ap (λ rest. spell_parameter x rest) (follow_more_parameters xs these more) ∙ follow_parameter x (spell_more_parameters xs these) more

  pub follow_more_parameters : (t : Parameters Bare) (these more : List Symbol) → spell_more_parameters t (these ++ more) ≡ spell_more_parameters t these ++ more
  follow_more_parameters NoParameters these more = refl
  follow_more_parameters (MoreParameters x xs) these more = ap (λ rest. Fixed sign.Comma ∷ spell_parameter x rest) (follow_more_parameters xs these more) ∙ ap (λ rest. Fixed sign.Comma ∷ rest) (follow_parameter x (spell_more_parameters xs these) more)

  pub follow_parameter : (t : Parameter Bare) (these more : List Symbol) → spell_parameter t (these ++ more) ≡ spell_parameter t these ++ more
  follow_parameter (parameter p ss d) these more = ap (λ rest. spell_specifiers ss rest) (follow_declarator d these more) ∙ follow_specifiers ss (spell_declarator d these) more

mutual
  pub follow_initializer : (t : Initializer Bare) (these more : List Symbol) → spell_initializer t (these ++ more) ≡ spell_initializer t these ++ more
  follow_initializer (Value t) these more = follow t these more
  follow_initializer (Braced p is comma) these more = ap (λ rest. Fixed sign.OpenBrace ∷ spell_initializers is rest) (follow_last_comma comma (Fixed sign.CloseBrace ∷ these) more) ∙ ap (λ rest. Fixed sign.OpenBrace ∷ rest) (follow_initializers is (spell_last_comma comma (Fixed sign.CloseBrace ∷ these)) more)

  pub follow_initializers : (t : Initializers Bare) (these more : List Symbol) → spell_initializers t (these ++ more) ≡ spell_initializers t these ++ more
  follow_initializers NoInitializers these more = refl
  follow_initializers (MoreInitializers i is) these more = ap (λ rest. spell_initializer i rest) (follow_more_initializers is these more) ∙ follow_initializer i (spell_more_initializers is these) more

  pub follow_more_initializers : (t : Initializers Bare) (these more : List Symbol) → spell_more_initializers t (these ++ more) ≡ spell_more_initializers t these ++ more
  follow_more_initializers NoInitializers these more = refl
  follow_more_initializers (MoreInitializers i is) these more = ap (λ rest. Fixed sign.Comma ∷ spell_initializer i rest) (follow_more_initializers is these more) ∙ ap (λ rest. Fixed sign.Comma ∷ rest) (follow_initializer i (spell_more_initializers is these) more)

pub follow_initial : (t : Option (Initializer Bare)) (these more : List Symbol) → spell_initial t (these ++ more) ≡ spell_initial t these ++ more
follow_initial None these more = refl
follow_initial (Some i) these more = ap (λ rest. Fixed sign.Assign ∷ rest) (follow_initializer i these more)

pub follow_init_declarator : (t : InitDeclarator Bare) (these more : List Symbol) → spell_init_declarator t (these ++ more) ≡ spell_init_declarator t these ++ more
follow_init_declarator d these more = ap (λ rest. spell_declarator d.declarator rest) (follow_initial d.initial these more) ∙ follow_declarator d.declarator (spell_initial d.initial these) more

pub follow_more_declarators : (t : List (InitDeclarator Bare)) (these more : List Symbol) → spell_more_declarators t (these ++ more) ≡ spell_more_declarators t these ++ more
follow_more_declarators [] these more = refl
follow_more_declarators (d ∷ ds) these more = ap (λ rest. Fixed sign.Comma ∷ spell_init_declarator d rest) (follow_more_declarators ds these more) ∙ ap (λ rest. Fixed sign.Comma ∷ rest) (follow_init_declarator d (spell_more_declarators ds these) more)

pub follow_declarators : (t : List (InitDeclarator Bare)) (these more : List Symbol) → spell_declarators t (these ++ more) ≡ spell_declarators t these ++ more
follow_declarators [] these more = refl
follow_declarators (d ∷ ds) these more = ap (λ rest. spell_init_declarator d rest) (follow_more_declarators ds these more) ∙ follow_init_declarator d (spell_more_declarators ds these) more

pub follow_declaration : (t : Declaration Bare) (these more : List Symbol) → spell_declaration t (these ++ more) ≡ spell_declaration t these ++ more
follow_declaration d these more = ap (λ rest. spell_specifiers d.specifiers rest) (follow_declarators d.declarators these more) ∙ follow_specifiers d.specifiers (spell_declarators d.declarators these) more

mutual
  pub follow_statement : (t : Statement Bare) (these more : List Symbol) → spell_statement t (these ++ more) ≡ spell_statement t these ++ more
  follow_statement (Empty p) these more = refl
  follow_statement (Evaluate p t) these more = follow t (Fixed sign.Semicolon ∷ these) more
  follow_statement (Block p is) these more = ap (λ rest. Fixed sign.OpenBrace ∷ rest) (follow_statements is (Fixed sign.CloseBrace ∷ these) more)
  follow_statement (If p t s) these more = ap (λ rest. Fixed sign.If ∷ Fixed sign.Open ∷ spell t (Fixed sign.Close ∷ rest)) (follow_statement s these more) ∙ ap (λ rest. Fixed sign.If ∷ Fixed sign.Open ∷ rest) (follow t (Fixed sign.Close ∷ spell_statement s these) more)
  follow_statement (IfElse p t s u) these more = ap (λ rest. Fixed sign.If ∷ Fixed sign.Open ∷ spell t (Fixed sign.Close ∷ spell_statement s (Fixed sign.Else ∷ rest))) (follow_statement u these more) ∙ ap (λ rest. Fixed sign.If ∷ Fixed sign.Open ∷ spell t (Fixed sign.Close ∷ rest)) (follow_statement s (Fixed sign.Else ∷ spell_statement u these) more) ∙ ap (λ rest. Fixed sign.If ∷ Fixed sign.Open ∷ rest) (follow t (Fixed sign.Close ∷ spell_statement s (Fixed sign.Else ∷ spell_statement u these)) more)
  follow_statement (Switch p k t s) these more = ap (λ rest. Fixed sign.Switch ∷ Fixed sign.Open ∷ spell t (Fixed sign.Close ∷ rest)) (follow_statement s these more) ∙ ap (λ rest. Fixed sign.Switch ∷ Fixed sign.Open ∷ rest) (follow t (Fixed sign.Close ∷ spell_statement s these) more)
  follow_statement (While p k t s) these more = ap (λ rest. Fixed sign.While ∷ Fixed sign.Open ∷ spell t (Fixed sign.Close ∷ rest)) (follow_statement s these more) ∙ ap (λ rest. Fixed sign.While ∷ Fixed sign.Open ∷ rest) (follow t (Fixed sign.Close ∷ spell_statement s these) more)
  follow_statement (Do p k s t) these more = ap (λ rest. Fixed sign.Do ∷ spell_statement s (Fixed sign.While ∷ Fixed sign.Open ∷ rest)) (follow t (Fixed sign.Close ∷ Fixed sign.Semicolon ∷ these) more) ∙ ap (λ rest. Fixed sign.Do ∷ rest) (follow_statement s (Fixed sign.While ∷ Fixed sign.Open ∷ spell t (Fixed sign.Close ∷ Fixed sign.Semicolon ∷ these)) more)
  follow_statement (For p k start test step s) these more = ap (λ rest. Fixed sign.For ∷ Fixed sign.Open ∷ spell_statement start (spell_optional test (Fixed sign.Semicolon ∷ spell_optional step (Fixed sign.Close ∷ rest)))) (follow_statement s these more) ∙ ap (λ rest. Fixed sign.For ∷ Fixed sign.Open ∷ spell_statement start (spell_optional test (Fixed sign.Semicolon ∷ rest))) (follow_optional step (Fixed sign.Close ∷ spell_statement s these) more) ∙ ap (λ rest. Fixed sign.For ∷ Fixed sign.Open ∷ spell_statement start rest) (follow_optional test (Fixed sign.Semicolon ∷ spell_optional step (Fixed sign.Close ∷ spell_statement s these)) more) ∙ ap (λ rest. Fixed sign.For ∷ Fixed sign.Open ∷ rest) (follow_statement start (spell_optional test (Fixed sign.Semicolon ∷ spell_optional step (Fixed sign.Close ∷ spell_statement s these))) more)
  follow_statement (Case p t s) these more = ap (λ rest. Fixed sign.Case ∷ spell t (Fixed sign.Colon ∷ rest)) (follow_statement s these more) ∙ ap (λ rest. Fixed sign.Case ∷ rest) (follow t (Fixed sign.Colon ∷ spell_statement s these) more)
  follow_statement (Default p s) these more = ap (λ rest. Fixed sign.Default ∷ Fixed sign.Colon ∷ rest) (follow_statement s these more)
  follow_statement (Label p x s) these more = ap (λ rest. symbol.Name x.name ∷ Fixed sign.Colon ∷ rest) (follow_statement s these more)
  follow_statement (Goto p x) these more = refl
  follow_statement (Break p) these more = refl
  follow_statement (Continue p) these more = refl
  follow_statement (Return p k t) these more = ap (λ rest. Fixed sign.Return ∷ rest) (follow_optional t (Fixed sign.Semicolon ∷ these) more)
  follow_statement (Declare d) these more = follow_declaration d these more
  follow_statement (Pragma p x) these more = refl

  pub follow_statements : (t : Statements Bare) (these more : List Symbol) → spell_statements t (these ++ more) ≡ spell_statements t these ++ more
  follow_statements NoStatements these more = refl
  follow_statements (MoreStatements s ss) these more = ap (λ rest. spell_statement s rest) (follow_statements ss these more) ∙ follow_statement s (spell_statements ss these) more

pub follow_definition : (t : Definition Bare) (these more : List Symbol) → spell_definition t (these ++ more) ≡ spell_definition t these ++ more
follow_definition d these more = ap (λ rest. spell_specifiers d.specifiers (spell_declarator d.declarator (Fixed sign.OpenBrace ∷ rest))) (follow_statements d.body (Fixed sign.CloseBrace ∷ these) more) ∙ ap (λ rest. spell_specifiers d.specifiers rest) (follow_declarator d.declarator (Fixed sign.OpenBrace ∷ spell_statements d.body (Fixed sign.CloseBrace ∷ these)) more) ∙ follow_specifiers d.specifiers (spell_declarator d.declarator (Fixed sign.OpenBrace ∷ spell_statements d.body (Fixed sign.CloseBrace ∷ these))) more

pub follow_external : (t : External Bare) (these more : List Symbol) → spell_external t (these ++ more) ≡ spell_external t these ++ more
follow_external (Outer p d) these more = follow_declaration d these more
follow_external (Defines d) these more = follow_definition d these more

pub follow_externals : (t : List (External Bare)) (these more : List Symbol) → spell_externals t (these ++ more) ≡ spell_externals t these ++ more
follow_externals [] these more = refl
follow_externals (e ∷ es) these more = ap (λ rest. spell_external e rest) (follow_externals es these more) ∙ follow_external e (spell_externals es these) more
