-- No tree spells `#` or `##`.
use Rattle.std.proofs.Common.{◌≡◌, ℕ, zero, suc, ◌≤◌, List, [], ◌∷◌, Bool, true, false, Option, Some, None, refl, arith}
use Rattle.std.proofs.lemmas.Bool.{false≢true}
use Rattle.p10_syn.specs.declared.setting.Naming.{Naming}
use Rattle.p10_syn.specs.declared.setting.Naming.TheVariants.{Required, Allowed, Forbidden}
use Rattle.p10_syn.specs.declared.setting.Said.{Said}
use Rattle.p10_syn.specs.declared.setting.Said.TheVariants.{Nothing}
use Rattle.p10_syn.specs.declared.setting.Setting.{Setting}
use Rattle.p10_syn.specs.declared.setting.Setting.TheVariants as setting
use Rattle.p10_syn.specs.Scopes.{Scope}
use Rattle.p10_syn.specs.Precedence.{binary_level, is_unary, is_step, is_assign}
use Rattle.p10_syn.specs.Declaring.{after_enumerator, after_specifier, after_specifiers, after_member, after_parameter, after_declarator, after_statement, in_body, after_external}
use Rattle.p10_syn.specs.Forms.{is_qualifier, is_structure, is_specifier_word, after_saying, AreQualifiers, IsExpression, IsForm, AreExpressions, IsOptional, IsTypeName, AreSpecifiers, IsSpecifier, AreMembers, IsMember, AreFields, IsField, AreEnumerators, IsEnumerator, IsDeclarator, AreParameters, IsParameter}
use Rattle.p10_syn.specs.StatementForms.{IsInitializer, AreInitializers, IsInitial, IsInitDeclarator, AreInitDeclarators, IsDeclaration, IsStart, Role, Item, Part, IsStatement, AreItems, IsDefinition, IsExternal, AreExternals}
use Rattle.p10_base.specs.Words.{Text}
use Rattle.p10_syn.specs.declared.sign.Sign.{Sign}
use Rattle.p10_syn.specs.declared.sign.Sign.TheVariants as sign
use Rattle.p10_syn.specs.declared.place.Side.TheVariants.{Before, After}
use Rattle.p10_syn.specs.Symbols.{Symbol, Fixed}
use Rattle.p10_syn.specs.Symbols as symbol
use Rattle.p10_syn.specs.Trees.{Bare, Identifier, Qualifier, Expression, expression, Form, Name, Number, Character, Strings, Unary, Step, Binary, Assign, Conditional, Call, Index, Member, Arrow, Cast, SizeofExpression, SizeofType, Comma, Expressions, NoExpressions, MoreExpressions, Optional, Absent, Present, TypeName, type_name, Specifiers, NoSpecifiers, MoreSpecifiers, Specifier, Keyword, Typedef, Structure, Enumeration, Members, NoMembers, MoreMembers, MemberDeclaration, member_declaration, Fields, NoFields, MoreFields, Field, field, Enumerators, NoEnumerators, MoreEnumerators, Enumerator, enumerator, Declarator, Named, Unnamed, Pointer, Parenthesised, Array, Function, Parameters, NoParameters, MoreParameters, Parameter, parameter}
use Rattle.p10_syn.specs.Trees.{Initializer, Value, Braced, Initializers, NoInitializers, MoreInitializers, InitDeclarator, Declaration, Statement, Empty, Evaluate, Block, If, IfElse, Switch, While, Do, For, Case, Default, Label, Goto, Break, Continue, Return, Declare, Pragma, Statements, NoStatements, MoreStatements, Definition, External, Outer, Defines}
use Rattle.p10_syn.specs.Spelling.{close_all, open_all, spell, spell_declaration, spell_declarator, spell_declarators, spell_definition, spell_ellipsis, spell_enumerator, spell_enumerators, spell_external, spell_externals, spell_field, spell_fields, spell_form, spell_init_declarator, spell_initial, spell_initializer, spell_initializers, spell_last_comma, spell_list, spell_member, spell_members, spell_more, spell_more_declarators, spell_more_enumerators, spell_more_fields, spell_more_initializers, spell_more_members, spell_more_parameters, spell_optional, spell_parameter, spell_parameters, spell_qualifiers, spell_specifier, spell_specifiers, spell_statement, spell_statements, spell_strings, spell_tag, spell_type, spell_valued}
use Rattle.p10_spelling_laws.specs.Lexed.{is_hash_sign, HaveNoHash}

-- ## Signs

-- a sign of which something holds that doesn't hold of `#` and `##`
no_hash_sign : (P : Sign → Type 0) → (P sign.Hash → ⊥) → (P sign.HashHash → ⊥) → (s : Sign) → P s → is_hash_sign s ≡ false
no_hash_sign P one two sign.Hash holds = absurd (one holds)
no_hash_sign P one two sign.HashHash holds = absurd (two holds)
no_hash_sign P one two _ holds = refl

qualifier_fair : (s : Sign) → is_qualifier s ≡ true → is_hash_sign s ≡ false
qualifier_fair = no_hash_sign (λ s. is_qualifier s ≡ true) false≢true false≢true

unary_fair : (s : Sign) → is_unary s ≡ true → is_hash_sign s ≡ false
unary_fair = no_hash_sign (λ s. is_unary s ≡ true) false≢true false≢true

step_fair : (s : Sign) → is_step s ≡ true → is_hash_sign s ≡ false
step_fair = no_hash_sign (λ s. is_step s ≡ true) false≢true false≢true

binary_fair : (s : Sign) → 4 ≤ binary_level s → is_hash_sign s ≡ false
binary_fair = no_hash_sign (λ s. 4 ≤ binary_level s) (λ h. omega (arith, h)) (λ h. omega (arith, h))

assign_fair : (s : Sign) → is_assign s ≡ true → is_hash_sign s ≡ false
assign_fair = no_hash_sign (λ s. is_assign s ≡ true) false≢true false≢true

word_fair : (setting : Setting) (said : Said) (s : Sign) → is_specifier_word setting said s ≡ true → is_hash_sign s ≡ false
word_fair setting said = no_hash_sign (λ s. is_specifier_word setting said s ≡ true) false≢true false≢true

structure_fair : (s : Sign) → is_structure s ≡ true → is_hash_sign s ≡ false
structure_fair = no_hash_sign (λ s. is_structure s ≡ true) false≢true false≢true

start_is : (names : Scope) (s : Statement Bare) → IsStart names s → IsStatement names Item s
start_is names (Empty p) h = tt
start_is names (Evaluate p t) h = h
start_is names (Declare d) h = (tt, h)
start_is names (Block p ss) h = absurd h
start_is names (If p t s) h = absurd h
start_is names (IfElse p t s u) h = absurd h
start_is names (Switch p k t s) h = absurd h
start_is names (While p k t s) h = absurd h
start_is names (Do p k s t) h = absurd h
start_is names (For p k start test step s) h = absurd h
start_is names (Case p t s) h = absurd h
start_is names (Default p s) h = absurd h
start_is names (Label p x s) h = absurd h
start_is names (Goto p x) h = absurd h
start_is names (Break p) h = absurd h
start_is names (Continue p) h = absurd h
start_is names (Return p k t) h = absurd h
start_is names (Pragma p x) h = absurd h

-- ## Trees

fair_open_all : (t : ℕ) (rest : List Symbol) → HaveNoHash rest → HaveNoHash (open_all t rest)
fair_open_all zero rest good = good
fair_open_all (suc n) rest good = (refl, fair_open_all n rest good)

fair_close_all : (t : ℕ) (rest : List Symbol) → HaveNoHash rest → HaveNoHash (close_all t rest)
fair_close_all zero rest good = good
fair_close_all (suc n) rest good = fair_close_all n (Fixed sign.Close ∷ rest) (refl, good)

fair_strings : (t : List Text) (rest : List Symbol) → HaveNoHash rest → HaveNoHash (spell_strings t rest)
fair_strings [] rest good = good
fair_strings (text ∷ texts) rest good = (refl, fair_strings texts rest good)

fair_qualifiers : (t : List (Qualifier Bare)) (rest : List Symbol) → AreQualifiers t → HaveNoHash rest → HaveNoHash (spell_qualifiers t rest)
fair_qualifiers [] rest h good = good
fair_qualifiers (q ∷ qs) rest h good = ((qualifier_fair q.word h.0), fair_qualifiers qs rest h.1 good)

fair_tag : (t : Option (Identifier Bare)) (rest : List Symbol) → HaveNoHash rest → HaveNoHash (spell_tag t rest)
fair_tag None rest good = good
fair_tag (Some x) rest good = (refl, good)

fair_last_comma : (t : Bool) (rest : List Symbol) → HaveNoHash rest → HaveNoHash (spell_last_comma t rest)
fair_last_comma false rest good = good
fair_last_comma true rest good = (refl, good)

fair_ellipsis : (t : Bool) (rest : List Symbol) → HaveNoHash rest → HaveNoHash (spell_ellipsis t rest)
fair_ellipsis false rest good = good
fair_ellipsis true rest good = (refl, (refl, good))

mutual
  fair : (names : Scope) (t : Expression Bare) (rest : List Symbol) → IsExpression names t → HaveNoHash rest → HaveNoHash (spell t rest)
  fair names (expression p n f) rest h good = fair_open_all n (spell_form f (close_all n rest)) (fair_form names f (close_all n rest) h (fair_close_all n rest good))

  fair_form : (names : Scope) (t : Form Bare) (rest : List Symbol) → IsForm names t → HaveNoHash rest → HaveNoHash (spell_form t rest)
  fair_form names (Name x) rest h good = (refl, good)
  fair_form names (Number x) rest h good = (refl, good)
  fair_form names (Character x) rest h good = (refl, good)
  fair_form names (Strings xs) rest h good = fair_strings xs rest good
  fair_form names (Unary s t) rest h good = ((unary_fair s h.0), fair names t rest h.1 good)
  fair_form names (Step Before s t) rest h good = ((step_fair s h.0), fair names t rest h.1 good)
  fair_form names (Step After s t) rest h good = fair names t (Fixed s ∷ rest) h.1 ((step_fair s h.0), good)
  fair_form names (Binary s l r) rest h good = fair names l (Fixed s ∷ spell r rest) h.1 ((binary_fair s h.0), fair names r rest h.2 good)
  fair_form names (Assign s l r) rest h good = fair names l (Fixed s ∷ spell r rest) h.1 ((assign_fair s h.0), fair names r rest h.2 good)
  fair_form names (Conditional a b c) rest h good = fair names a (Fixed sign.Question ∷ spell b (Fixed sign.Colon ∷ spell c rest)) h.0 (refl, fair names b (Fixed sign.Colon ∷ spell c rest) h.1 (refl, fair names c rest h.2 good))
  fair_form names (Call f ts) rest h good = fair names f (Fixed sign.Open ∷ spell_list ts (Fixed sign.Close ∷ rest)) h.0 (refl, fair_list names ts (Fixed sign.Close ∷ rest) h.2 (refl, good))
  fair_form names (Index l r) rest h good = fair names l (Fixed sign.OpenSquare ∷ spell r (Fixed sign.CloseSquare ∷ rest)) h.0 (refl, fair names r (Fixed sign.CloseSquare ∷ rest) h.1 (refl, good))
  fair_form names (Member t x) rest h good = fair names t (Fixed sign.Dot ∷ symbol.Name x.name ∷ rest) h.0 (refl, (refl, good))
  fair_form names (Arrow t x) rest h good = fair names t (Fixed sign.Arrow ∷ symbol.Name x.name ∷ rest) h.0 (refl, (refl, good))
  fair_form names (Cast k t) rest h good = (refl, fair_type names k (Fixed sign.Close ∷ spell t rest) h.0 (refl, fair names t rest h.1 good))
  fair_form names (SizeofExpression t) rest h good = (refl, fair names t rest h.0 good)
  fair_form names (SizeofType k) rest h good = (refl, (refl, fair_type names k (Fixed sign.Close ∷ rest) h (refl, good)))
  fair_form names (Comma ts) rest h good = fair_list names ts rest h.0 good

  fair_list : (names : Scope) (t : Expressions Bare) (rest : List Symbol) → AreExpressions names t → HaveNoHash rest → HaveNoHash (spell_list t rest)
  fair_list names NoExpressions rest h good = good
  fair_list names (MoreExpressions t ts) rest h good = fair names t (spell_more ts rest) h.0 (fair_more names ts rest h.2 good)

  fair_more : (names : Scope) (t : Expressions Bare) (rest : List Symbol) → AreExpressions names t → HaveNoHash rest → HaveNoHash (spell_more t rest)
  fair_more names NoExpressions rest h good = good
  fair_more names (MoreExpressions t ts) rest h good = (refl, fair names t (spell_more ts rest) h.0 (fair_more names ts rest h.2 good))

  fair_optional : (names : Scope) (level : ℕ) (t : Optional Bare) (rest : List Symbol) → IsOptional names level t → HaveNoHash rest → HaveNoHash (spell_optional t rest)
  fair_optional names level Absent rest h good = good
  fair_optional names level (Present t) rest h good = fair names t rest h.0 good

  fair_valued : (names : Scope) (level : ℕ) (t : Sign) (u : Optional Bare) (rest : List Symbol) → (is_hash_sign t ≡ false) × IsOptional names level u → HaveNoHash rest → HaveNoHash (spell_valued t u rest)
  fair_valued names level s Absent rest h good = good
  fair_valued names level s (Present t) rest h good = (h.0, fair names t rest h.1.0 good)

  fair_type : (names : Scope) (t : TypeName Bare) (rest : List Symbol) → IsTypeName names t → HaveNoHash rest → HaveNoHash (spell_type t rest)
  fair_type names (type_name p ss d) rest h good = fair_specifiers names setting.Type Nothing ss (spell_declarator d rest) h.0 (fair_declarator names setting.Inside Forbidden d rest h.2 good)

  fair_specifiers : (names : Scope) (setting : Setting) (said : Said) (t : Specifiers Bare) (rest : List Symbol) → AreSpecifiers names setting said t → HaveNoHash rest → HaveNoHash (spell_specifiers t rest)
  fair_specifiers names setting said NoSpecifiers rest h good = good
  fair_specifiers names setting said (MoreSpecifiers s ss) rest h good = fair_specifier names setting said s (spell_specifiers ss rest) h.0 (fair_specifiers (after_specifier names s) setting (after_saying said s) ss rest h.1 good)

  fair_specifier : (names : Scope) (setting : Setting) (said : Said) (t : Specifier Bare) (rest : List Symbol) → IsSpecifier names setting said t → HaveNoHash rest → HaveNoHash (spell_specifier t rest)
  fair_specifier names setting said (Keyword p s) rest h good = ((word_fair setting said s h), good)
  fair_specifier names setting said (Typedef x) rest h good = (refl, good)
  fair_specifier names setting said (Structure p s tag ms) rest h good = ((structure_fair s h.0), fair_tag tag (spell_members ms rest) (fair_members names ms rest h.4 good))
  fair_specifier names setting said (Enumeration p tag es comma) rest h good = (refl, fair_tag tag (spell_enumerators es comma rest) (fair_enumerators names es comma rest h.3 good))

  fair_members : (names : Scope) (t : Members Bare) (rest : List Symbol) → AreMembers names t → HaveNoHash rest → HaveNoHash (spell_members t rest)
  fair_members names NoMembers rest h good = good
  fair_members names (MoreMembers m ms) rest h good = (refl, fair_member names m (spell_more_members ms rest) h.0 (fair_more_members (after_member names m) ms rest h.1 good))

  fair_more_members : (names : Scope) (t : Members Bare) (rest : List Symbol) → AreMembers names t → HaveNoHash rest → HaveNoHash (spell_more_members t rest)
  fair_more_members names NoMembers rest h good = (refl, good)
  fair_more_members names (MoreMembers m ms) rest h good = fair_member names m (spell_more_members ms rest) h.0 (fair_more_members (after_member names m) ms rest h.1 good)

  fair_member : (names : Scope) (t : MemberDeclaration Bare) (rest : List Symbol) → IsMember names t → HaveNoHash rest → HaveNoHash (spell_member t rest)
  fair_member names (member_declaration p ss fs) rest h good = fair_specifiers names setting.Outside Nothing ss (spell_fields fs rest) h.0 (fair_fields (after_specifiers names ss) fs rest h.4 good)

  fair_fields : (names : Scope) (t : Fields Bare) (rest : List Symbol) → AreFields names t → HaveNoHash rest → HaveNoHash (spell_fields t rest)
  fair_fields names NoFields rest h good = (refl, good)
  fair_fields names (MoreFields f fs) rest h good = fair_field names f (spell_more_fields fs rest) h.0 (fair_more_fields names fs rest h.1 good)

  fair_more_fields : (names : Scope) (t : Fields Bare) (rest : List Symbol) → AreFields names t → HaveNoHash rest → HaveNoHash (spell_more_fields t rest)
  fair_more_fields names NoFields rest h good = (refl, good)
  fair_more_fields names (MoreFields f fs) rest h good = (refl, fair_field names f (spell_more_fields fs rest) h.0 (fair_more_fields names fs rest h.1 good))

  fair_field : (names : Scope) (t : Field Bare) (rest : List Symbol) → IsField names t → HaveNoHash rest → HaveNoHash (spell_field t rest)
  fair_field names (field p d width) rest h good = fair_declarator names setting.Outside Required d (spell_valued sign.Colon width rest) h.0 (fair_valued names 3 sign.Colon width rest (refl, h.1) good)

  fair_enumerators : (names : Scope) (t : Enumerators Bare) (u : Bool) (rest : List Symbol) → AreEnumerators names t → HaveNoHash rest → HaveNoHash (spell_enumerators t u rest)
  fair_enumerators names NoEnumerators comma rest h good = good
  fair_enumerators names (MoreEnumerators e es) comma rest h good = (refl, fair_enumerator names e (spell_more_enumerators es (spell_last_comma comma (Fixed sign.CloseBrace ∷ rest))) h.0 (fair_more_enumerators (after_enumerator names e) es (spell_last_comma comma (Fixed sign.CloseBrace ∷ rest)) h.1 (fair_last_comma comma (Fixed sign.CloseBrace ∷ rest) (refl, good))))

  fair_more_enumerators : (names : Scope) (t : Enumerators Bare) (rest : List Symbol) → AreEnumerators names t → HaveNoHash rest → HaveNoHash (spell_more_enumerators t rest)
  fair_more_enumerators names NoEnumerators rest h good = good
  fair_more_enumerators names (MoreEnumerators e es) rest h good = (refl, fair_enumerator names e (spell_more_enumerators es rest) h.0 (fair_more_enumerators (after_enumerator names e) es rest h.1 good))

  fair_enumerator : (names : Scope) (t : Enumerator Bare) (rest : List Symbol) → IsEnumerator names t → HaveNoHash rest → HaveNoHash (spell_enumerator t rest)
  fair_enumerator names (enumerator p x value) rest h good = (refl, fair_valued names 3 sign.Assign value rest (refl, h) good)

  fair_declarator : (names : Scope) (setting : Setting) (naming : Naming) (t : Declarator Bare) (rest : List Symbol) → IsDeclarator names setting naming t → HaveNoHash rest → HaveNoHash (spell_declarator t rest)
  fair_declarator names setting naming (Named x) rest h good = (refl, good)
  fair_declarator names setting naming (Unnamed p) rest h good = good
  fair_declarator names setting naming (Pointer p qs d) rest h good = (refl, fair_qualifiers qs (spell_declarator d rest) h.0 (fair_declarator names setting naming d rest h.1 good))
  fair_declarator names setting naming (Parenthesised p d) rest h good = (refl, fair_declarator names setting naming d (Fixed sign.Close ∷ rest) h.0 (refl, good))
  fair_declarator names setting naming (Array p d b length) rest h good = fair_declarator names setting naming d (Fixed sign.OpenSquare ∷ spell_optional length (Fixed sign.CloseSquare ∷ rest)) h.0 (refl, fair_optional names 3 length (Fixed sign.CloseSquare ∷ rest) h.2 (refl, good))
  fair_declarator names setting naming (Function p d b ps ellipsis) rest h good = fair_declarator names setting naming d (Fixed sign.Open ∷ spell_parameters ps (spell_ellipsis ellipsis (Fixed sign.Close ∷ rest))) h.0 (refl, fair_parameters names setting ps (spell_ellipsis ellipsis (Fixed sign.Close ∷ rest)) h.2 (fair_ellipsis ellipsis (Fixed sign.Close ∷ rest) (refl, good)))

  fair_parameters : (names : Scope) (setting : Setting) (t : Parameters Bare) (rest : List Symbol) → AreParameters names setting t → HaveNoHash rest → HaveNoHash (spell_parameters t rest)
  fair_parameters names setting NoParameters rest h good = good
  fair_parameters names setting (MoreParameters x xs) rest h good = fair_parameter names setting x (spell_more_parameters xs rest) h.0 (fair_more_parameters (after_parameter names x) setting xs rest h.1 good)

  fair_more_parameters : (names : Scope) (setting : Setting) (t : Parameters Bare) (rest : List Symbol) → AreParameters names setting t → HaveNoHash rest → HaveNoHash (spell_more_parameters t rest)
  fair_more_parameters names setting NoParameters rest h good = good
  fair_more_parameters names setting (MoreParameters x xs) rest h good = (refl, fair_parameter names setting x (spell_more_parameters xs rest) h.0 (fair_more_parameters (after_parameter names x) setting xs rest h.1 good))

  fair_parameter : (names : Scope) (setting : Setting) (t : Parameter Bare) (rest : List Symbol) → IsParameter names setting t → HaveNoHash rest → HaveNoHash (spell_parameter t rest)
  fair_parameter names setting (parameter p ss d) rest h good = fair_specifiers names setting Nothing ss (spell_declarator d rest) h.0 (fair_declarator (after_specifiers names ss) setting Allowed d rest h.3 good)

mutual
  fair_initializer : (names : Scope) (t : Initializer Bare) (rest : List Symbol) → IsInitializer names t → HaveNoHash rest → HaveNoHash (spell_initializer t rest)
  fair_initializer names (Value t) rest h good = fair names t rest h.0 good
  fair_initializer names (Braced p is comma) rest h good = (refl, fair_initializers names is (spell_last_comma comma (Fixed sign.CloseBrace ∷ rest)) h.0 (fair_last_comma comma (Fixed sign.CloseBrace ∷ rest) (refl, good)))

  fair_initializers : (names : Scope) (t : Initializers Bare) (rest : List Symbol) → AreInitializers names t → HaveNoHash rest → HaveNoHash (spell_initializers t rest)
  fair_initializers names NoInitializers rest h good = good
  fair_initializers names (MoreInitializers i is) rest h good = fair_initializer names i (spell_more_initializers is rest) h.0 (fair_more_initializers names is rest h.1 good)

  fair_more_initializers : (names : Scope) (t : Initializers Bare) (rest : List Symbol) → AreInitializers names t → HaveNoHash rest → HaveNoHash (spell_more_initializers t rest)
  fair_more_initializers names NoInitializers rest h good = good
  fair_more_initializers names (MoreInitializers i is) rest h good = (refl, fair_initializer names i (spell_more_initializers is rest) h.0 (fair_more_initializers names is rest h.1 good))

fair_initial : (names : Scope) (t : Option (Initializer Bare)) (rest : List Symbol) → IsInitial names t → HaveNoHash rest → HaveNoHash (spell_initial t rest)
fair_initial names None rest h good = good
fair_initial names (Some i) rest h good = (refl, fair_initializer names i rest h good)

fair_init_declarator : (names : Scope) (ss : Specifiers Bare) (t : InitDeclarator Bare) (rest : List Symbol) → IsInitDeclarator names ss t → HaveNoHash rest → HaveNoHash (spell_init_declarator t rest)
fair_init_declarator names ss d rest h good = fair_declarator names setting.Outside Required d.declarator (spell_initial d.initial rest) h.0 (fair_initial (after_declarator names ss d.declarator) d.initial rest h.1 good)

fair_more_declarators : (names : Scope) (ss : Specifiers Bare) (t : List (InitDeclarator Bare)) (rest : List Symbol) → AreInitDeclarators names ss t → HaveNoHash rest → HaveNoHash (spell_more_declarators t rest)
fair_more_declarators names ss [] rest h good = (refl, good)
fair_more_declarators names ss (d ∷ ds) rest h good = (refl, fair_init_declarator names ss d (spell_more_declarators ds rest) h.0 (fair_more_declarators (after_declarator names ss d.declarator) ss ds rest h.1 good))

fair_declarators : (names : Scope) (ss : Specifiers Bare) (t : List (InitDeclarator Bare)) (rest : List Symbol) → AreInitDeclarators names ss t → HaveNoHash rest → HaveNoHash (spell_declarators t rest)
fair_declarators names ss [] rest h good = (refl, good)
fair_declarators names ss (d ∷ ds) rest h good = fair_init_declarator names ss d (spell_more_declarators ds rest) h.0 (fair_more_declarators (after_declarator names ss d.declarator) ss ds rest h.1 good)

fair_declaration : (names : Scope) (t : Declaration Bare) (rest : List Symbol) → IsDeclaration names t → HaveNoHash rest → HaveNoHash (spell_declaration t rest)
fair_declaration names d rest h good = fair_specifiers names setting.Outside Nothing d.specifiers (spell_declarators d.declarators rest) h.0 (fair_declarators (after_specifiers names d.specifiers) d.specifiers d.declarators rest h.3 good)

mutual
  fair_statement : (names : Scope) (role : Role) (t : Statement Bare) (rest : List Symbol) → IsStatement names role t → HaveNoHash rest → HaveNoHash (spell_statement t rest)
  fair_statement names role (Empty p) rest h good = (refl, good)
  fair_statement names role (Evaluate p t) rest h good = fair names t (Fixed sign.Semicolon ∷ rest) h (refl, good)
  fair_statement names role (Block p is) rest h good = (refl, fair_statements names is (Fixed sign.CloseBrace ∷ rest) h (refl, good))
  fair_statement names role (If p t s) rest h good = (refl, (refl, fair names t (Fixed sign.Close ∷ spell_statement s rest) h.0 (refl, fair_statement names Part s rest h.1 good)))
  fair_statement names role (IfElse p t s u) rest h good = (refl, (refl, fair names t (Fixed sign.Close ∷ spell_statement s (Fixed sign.Else ∷ spell_statement u rest)) h.0 (refl, fair_statement names Part s (Fixed sign.Else ∷ spell_statement u rest) h.1 (refl, fair_statement names Part u rest h.3 good))))
  fair_statement names role (Switch p k t s) rest h good = (refl, (refl, fair names t (Fixed sign.Close ∷ spell_statement s rest) h.0 (refl, fair_statement names Part s rest h.1 good)))
  fair_statement names role (While p k t s) rest h good = (refl, (refl, fair names t (Fixed sign.Close ∷ spell_statement s rest) h.0 (refl, fair_statement names Part s rest h.1 good)))
  fair_statement names role (Do p k s t) rest h good = (refl, fair_statement names Part s (Fixed sign.While ∷ Fixed sign.Open ∷ spell t (Fixed sign.Close ∷ Fixed sign.Semicolon ∷ rest)) h.0 (refl, (refl, fair names t (Fixed sign.Close ∷ Fixed sign.Semicolon ∷ rest) h.1 (refl, (refl, good)))))
  fair_statement names role (For p k start test step s) rest h good = (refl, (refl, fair_statement names Item start (spell_optional test (Fixed sign.Semicolon ∷ spell_optional step (Fixed sign.Close ∷ spell_statement s rest))) (start_is names start h.0) (fair_optional (after_statement names start) 1 test (Fixed sign.Semicolon ∷ spell_optional step (Fixed sign.Close ∷ spell_statement s rest)) h.1 (refl, fair_optional (after_statement names start) 1 step (Fixed sign.Close ∷ spell_statement s rest) h.2 (refl, fair_statement (after_statement names start) Part s rest h.3 good)))))
  fair_statement names role (Case p t s) rest h good = (refl, fair names t (Fixed sign.Colon ∷ spell_statement s rest) h.0 (refl, fair_statement names Part s rest h.2 good))
  fair_statement names role (Default p s) rest h good = (refl, (refl, fair_statement names Part s rest h good))
  fair_statement names role (Label p x s) rest h good = (refl, (refl, fair_statement names Part s rest h good))
  fair_statement names role (Goto p x) rest h good = (refl, (refl, (refl, good)))
  fair_statement names role (Break p) rest h good = (refl, (refl, good))
  fair_statement names role (Continue p) rest h good = (refl, (refl, good))
  fair_statement names role (Return p k t) rest h good = (refl, fair_optional names 1 t (Fixed sign.Semicolon ∷ rest) h (refl, good))
  fair_statement names role (Declare d) rest h good = fair_declaration names d rest h.1 good
  fair_statement names role (Pragma p x) rest h good = (refl, good)

  fair_statements : (names : Scope) (t : Statements Bare) (rest : List Symbol) → AreItems names t → HaveNoHash rest → HaveNoHash (spell_statements t rest)
  fair_statements names NoStatements rest h good = good
  fair_statements names (MoreStatements s ss) rest h good = fair_statement names Item s (spell_statements ss rest) h.0 (fair_statements (after_statement names s) ss rest h.1 good)

fair_definition : (names : Scope) (t : Definition Bare) (rest : List Symbol) → IsDefinition names t → HaveNoHash rest → HaveNoHash (spell_definition t rest)
fair_definition names d rest h good = fair_specifiers names setting.Outside Nothing d.specifiers (spell_declarator d.declarator (Fixed sign.OpenBrace ∷ spell_statements d.body (Fixed sign.CloseBrace ∷ rest))) h.0 (fair_declarator (after_specifiers names d.specifiers) setting.Outside Required d.declarator (Fixed sign.OpenBrace ∷ spell_statements d.body (Fixed sign.CloseBrace ∷ rest)) h.3 (refl, fair_statements (in_body (after_declarator (after_specifiers names d.specifiers) d.specifiers d.declarator) d.declarator) d.body (Fixed sign.CloseBrace ∷ rest) h.4 (refl, good)))

pub fair_external : (names : Scope) (t : External Bare) (rest : List Symbol) → IsExternal names t → HaveNoHash rest → HaveNoHash (spell_external t rest)
fair_external names (Outer p d) rest h good = fair_declaration names d rest h good
fair_external names (Defines d) rest h good = fair_definition names d rest h good

pub fair_externals : (names : Scope) (t : List (External Bare)) (rest : List Symbol) → AreExternals names t → HaveNoHash rest → HaveNoHash (spell_externals t rest)
fair_externals names [] rest h good = good
fair_externals names (e ∷ es) rest h good = fair_external names e (spell_externals es rest) h.0 (fair_externals (after_external names e) es rest h.1 good)
