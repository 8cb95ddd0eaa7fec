-- In the same words the same variables have their addresses taken.
use Rattle.std.proofs.Common.{◌≡◌, ◌∙◌, Bool, true, false, List, [], ◌∷◌, ◌++◌, map, Option, Some, None, option_map, refl, ap}
use Rattle.p10_base.specs.Words.{Text}
use Rattle.p10_base.specs.declared.at.At.{At}
use Rattle.p10_syn.specs.Trees.{Identifier, Expression, expression, Name, Number, Character, Strings, Unary, Step, Binary, Assign, Conditional, Call, Index, Member, Arrow, Cast, SizeofExpression, SizeofType, Comma, Expressions, NoExpressions, MoreExpressions, Optional, Absent, Present, Specifiers, NoSpecifiers, MoreSpecifiers, Specifier, Keyword, Typedef, Structure, Enumeration, Members, NoMembers, MoreMembers, MemberDeclaration, member_declaration, Enumerators, NoEnumerators, MoreEnumerators, enumerator}
use Rattle.p10_syn.specs.Trees.{Initializer, Value, Braced, Initializers, NoInitializers, MoreInitializers, InitDeclarator, Declaration, Statement, Empty, Evaluate, Block, If, IfElse, Switch, While, Do, For, Case, Default, Label, Goto, Break, Continue, Return, Declare, Pragma, Statements, NoStatements, MoreStatements}
use Rattle.p10_elabx.specs.Judging.{is_and}
use Rattle.p10_elabd.specs.Words.{storage_of}
use Rattle.p10_elabd.specs.declared.site.Storage.{Storage}
use Rattle.p10_elabd.specs.Shapes.{PlainParameter, name_in, declares_function}
use Rattle.p10_elabs.specs.Addresses.{LocalNames, constants_of, constants_in, constants_in_members, constants_in_member, constants_named, with_others, taken_at, taken_by, taken_in, taken_in_all, taken_in_optional, taken_in_initializer, taken_in_items, taken_in_initial, Walk, taking, walked_name, walked_declarator, walked_declarators, walked_declaration, walked_out, walked, walked_all, walked_parameter, with_parameters, addresses_taken}
use Rattle.p10_renaming.specs.Renaming.{Pairing}
use Rattle.p10_expression_renaming.specs.Mapped.{mapped_expression, mapped_expressions, mapped_optional, mapped_specifiers, mapped_specifier, mapped_members, mapped_member_declaration, mapped_enumerators}
use Rattle.p10_expression_renaming.specs.MappedStatements.{mapped_initializer, mapped_initializers, mapped_init_declarator, mapped_declaration, mapped_statement, mapped_statements}
use Rattle.p10_expression_renaming.proofs.Sameness.{SameName, same_no_name, same_name}
use Rattle.p10_expression_renaming.proofs.TypeNames.{left, right}
use Rattle.p10_declaration_renaming.specs.Standings.{SameNames, SameParameters, same_no_parameters, same_more_parameters}
use Rattle.p10_declaration_renaming.proofs.Naming.{name_in_same}
use Rattle.p10_statement_renaming.proofs.Declarations.{storage_same, function_same}

-- ## Names

-- names with the same letters, one for one
data SameLetters : List (Identifier At) → List (Identifier At) → Type 0 where
  same_no_letters : SameLetters [] []
  same_more_letters : {at to : At} {name : Text} {xs ys : List (Identifier At)} → SameLetters xs ys → SameLetters (record { place = at; name = name } ∷ xs) (record { place = to; name = name } ∷ ys)

by_letters : (names : LocalNames) {xs ys : List (Identifier At)} → SameLetters xs ys → with_others names xs ≡ with_others names ys
by_letters names same_no_letters = refl
by_letters names (same_more_letters {name = name} rest) = by_letters (names ++ (name, None) ∷ []) rest

letters_joined : {xs ys us vs : List (Identifier At)} → SameLetters xs ys → SameLetters us vs → SameLetters (xs ++ us) (ys ++ vs)
letters_joined same_no_letters more = more
letters_joined (same_more_letters rest) more = same_more_letters (letters_joined rest more)

mutual
  constants_same : (all : Specifiers (At × At)) → SameLetters (constants_of (mapped_specifiers left all)) (constants_of (mapped_specifiers right all))
  constants_same NoSpecifiers = same_no_letters
  constants_same (MoreSpecifiers one rest) = letters_joined (constants_in_same one) (constants_same rest)

  constants_in_same : (one : Specifier (At × At)) → SameLetters (constants_in (mapped_specifier left one)) (constants_in (mapped_specifier right one))
  constants_in_same (Keyword at word) = same_no_letters
  constants_in_same (Typedef name) = same_no_letters
  constants_in_same (Structure at word tag body) = members_same body
  constants_in_same (Enumeration at tag all comma) = enumerators_same all

  members_same : (all : Members (At × At)) → SameLetters (constants_in_members (mapped_members left all)) (constants_in_members (mapped_members right all))
  members_same NoMembers = same_no_letters
  members_same (MoreMembers m rest) = letters_joined (member_same m) (members_same rest)

  member_same : (m : MemberDeclaration (At × At)) → SameLetters (constants_in_member (mapped_member_declaration left m)) (constants_in_member (mapped_member_declaration right m))
  member_same (member_declaration at specifiers _) = constants_same specifiers

  enumerators_same : (all : Enumerators (At × At)) → SameLetters (constants_named (mapped_enumerators left all)) (constants_named (mapped_enumerators right all))
  enumerators_same NoEnumerators = same_no_letters
  enumerators_same (MoreEnumerators (enumerator at name value) rest) = same_more_letters (enumerators_same rest)

-- ## Expressions

taken_at_same : (names : LocalNames) (e : Expression (At × At)) → taken_at names (mapped_expression left e) ≡ taken_at names (mapped_expression right e)
taken_at_same names (expression at n (Name x)) = refl
taken_at_same names (expression at n form) = refl

taken_by_same : (is_address : Bool) (names : LocalNames) (e : Expression (At × At)) → taken_by is_address names (mapped_expression left e) ≡ taken_by is_address names (mapped_expression right e)
taken_by_same true names e = taken_at_same names e
taken_by_same false names e = refl

mutual
  taken_same : (names : LocalNames) (e : Expression (At × At)) → taken_in names (mapped_expression left e) ≡ taken_in names (mapped_expression right e)
  taken_same names (expression at n (Name x)) = refl
  taken_same names (expression at n (Number text)) = refl
  taken_same names (expression at n (Character text)) = refl
  taken_same names (expression at n (Strings texts)) = refl
  taken_same names (expression at n (Unary word e)) = λ i. taken_by_same (is_and word) names e i ++ taken_same names e i
  taken_same names (expression at n (Step side word e)) = taken_same names e
  taken_same names (expression at n (Binary word a b)) = λ i. taken_same names a i ++ taken_same names b i
  taken_same names (expression at n (Assign word a b)) = λ i. taken_same names a i ++ taken_same names b i
  taken_same names (expression at n (Conditional c a b)) = λ i. taken_same names c i ++ (taken_same names a i ++ taken_same names b i)
  taken_same names (expression at n (Call e all)) = λ i. taken_same names e i ++ all_taken_same names all i
  taken_same names (expression at n (Index a b)) = λ i. taken_same names a i ++ taken_same names b i
  taken_same names (expression at n (Member e name)) = taken_same names e
  taken_same names (expression at n (Arrow e name)) = taken_same names e
  taken_same names (expression at n (Cast t e)) = taken_same names e
  taken_same names (expression at n (SizeofExpression e)) = refl
  taken_same names (expression at n (SizeofType t)) = refl
  taken_same names (expression at n (Comma all)) = all_taken_same names all

  all_taken_same : (names : LocalNames) (all : Expressions (At × At)) → taken_in_all names (mapped_expressions left all) ≡ taken_in_all names (mapped_expressions right all)
  all_taken_same names NoExpressions = refl
  all_taken_same names (MoreExpressions e rest) = λ i. taken_same names e i ++ all_taken_same names rest i

optional_taken_same : (names : LocalNames) (o : Optional (At × At)) → taken_in_optional names (mapped_optional left o) ≡ taken_in_optional names (mapped_optional right o)
optional_taken_same names Absent = refl
optional_taken_same names (Present e) = taken_same names e

mutual
  initializer_taken_same : (names : LocalNames) (x : Initializer (At × At)) → taken_in_initializer names (mapped_initializer left x) ≡ taken_in_initializer names (mapped_initializer right x)
  initializer_taken_same names (Value e) = taken_same names e
  initializer_taken_same names (Braced at items comma) = items_taken_same names items

  items_taken_same : (names : LocalNames) (all : Initializers (At × At)) → taken_in_items names (mapped_initializers left all) ≡ taken_in_items names (mapped_initializers right all)
  items_taken_same names NoInitializers = refl
  items_taken_same names (MoreInitializers x rest) = λ i. initializer_taken_same names x i ++ items_taken_same names rest i

initial_taken_same : (names : LocalNames) (o : Option (Initializer (At × At))) → taken_in_initial names (option_map (mapped_initializer left) o) ≡ taken_in_initial names (option_map (mapped_initializer right) o)
initial_taken_same names None = refl
initial_taken_same names (Some x) = initializer_taken_same names x

-- ## Statements

name_walked : (w : Walk) (s : Storage) (d e : InitDeclarator At) → declares_function d.declarator ≡ declares_function e.declarator → (x y : Option (Identifier At)) → SameName x y → walked_declarator w s d x ≡ walked_declarator w s e y
name_walked w s d e f x y same_no_name = refl
name_walked w s d e f x y (same_name {name = name}) = λ i. walked_name w s (f i) name

declarators_walked : (w : Walk) (s : Storage) (all : List (InitDeclarator (At × At))) → walked_declarators w s (map (mapped_init_declarator left) all) ≡ walked_declarators w s (map (mapped_init_declarator right) all)
declarators_walked w s [] = refl
declarators_walked w s (d ∷ rest) =
    let a : InitDeclarator At = mapped_init_declarator left d in
    let b : InitDeclarator At = mapped_init_declarator right d in
    let v : Walk = walked_declarator w s a (name_in a.declarator) in
    let u : Walk = walked_declarator w s b (name_in b.declarator) in
    let same : v ≡ u = name_walked w s a b (function_same false d.declarator) (name_in a.declarator) (name_in b.declarator) (name_in_same d.declarator) in
    declarators_walked (taking v (taken_in_initial v.names a.initial)) s rest
    ∙ (λ i. walked_declarators (taking (same i) (both_taken v u same d.initial i)) s (map (mapped_init_declarator right) rest))
  where
    both_taken : (v u : Walk) → v ≡ u → (o : Option (Initializer (At × At))) → taken_in_initial v.names (option_map (mapped_initializer left) o) ≡ taken_in_initial u.names (option_map (mapped_initializer right) o)
    both_taken v u same o = initial_taken_same v.names o ∙ ap (λ x. taken_in_initial x.names (option_map (mapped_initializer right) o)) same

declaration_walked : (w : Walk) (d : Declaration (At × At)) → walked_declaration w (mapped_declaration left d) ≡ walked_declaration w (mapped_declaration right d)
declaration_walked w d =
    declarators_walked (record w { names = with_others w.names (constants_of (mapped_specifiers left d.specifiers)) }) (storage_of (mapped_specifiers left d.specifiers)) d.declarators
    ∙ (λ i. walked_declarators (record w { names = by_letters w.names (constants_same d.specifiers) i }) (storage_same d.specifiers i) (map (mapped_init_declarator right) d.declarators))

taking_same : (w : Walk) (e : Expression (At × At)) → taking w (taken_in w.names (mapped_expression left e)) ≡ taking w (taken_in w.names (mapped_expression right e))
taking_same w e = ap (λ ns. taking w ns) (taken_same w.names e)

clauses_walked : (v w : Walk) → v ≡ w → (test step : Optional (At × At)) → taking v (taken_in_optional v.names (mapped_optional left test) ++ taken_in_optional v.names (mapped_optional left step))
    ≡ taking w (taken_in_optional w.names (mapped_optional right test) ++ taken_in_optional w.names (mapped_optional right step))
clauses_walked v w e test step =
    (λ i. taking v (optional_taken_same v.names test i ++ optional_taken_same v.names step i))
    ∙ ap (λ x. taking x (taken_in_optional x.names (mapped_optional right test) ++ taken_in_optional x.names (mapped_optional right step))) e

-- one walk after another
walked_on : (v w : Walk) → v ≡ w → (s : Statement (At × At)) → walked v (mapped_statement left s) ≡ walked v (mapped_statement right s) → walked v (mapped_statement left s) ≡ walked w (mapped_statement right s)
walked_on v w e s h = h ∙ ap (λ x. walked x (mapped_statement right s)) e

mutual
  walked_same : (w : Walk) (s : Statement (At × At)) → walked w (mapped_statement left s) ≡ walked w (mapped_statement right s)
  walked_same w (Empty at) = refl
  walked_same w (Evaluate at e) = taking_same w e
  walked_same w (Block at all) = ap (λ v. walked_out w v) (all_walked_same w all)
  walked_same w (If at e s) = walked_on _ _ (taking_same w e) s (walked_same _ s)
  walked_same w (IfElse at e s t) = walked_on _ _ (walked_on _ _ (taking_same w e) s (walked_same _ s)) t (walked_same _ t)
  walked_same w (Switch at keyword e s) = walked_on _ _ (taking_same w e) s (walked_same _ s)
  walked_same w (While at keyword e s) = walked_on _ _ (taking_same w e) s (walked_same _ s)
  walked_same w (Do at keyword s e) = walked_on _ _ (taking_same w e) s (walked_same _ s)
  walked_same w (For at keyword start test step s) = ap (λ x. walked_out w x) (walked_on _ _ (clauses_walked (walked w (mapped_statement left start)) (walked w (mapped_statement right start)) (walked_same w start) test step) s (walked_same _ s))
  walked_same w (Case at e s) = walked_same w s
  walked_same w (Default at s) = walked_same w s
  walked_same w (Label at name s) = walked_same w s
  walked_same w (Goto at name) = refl
  walked_same w (Break at) = refl
  walked_same w (Continue at) = refl
  walked_same w (Return at keyword e) = ap (λ ns. taking w ns) (optional_taken_same w.names e)
  walked_same w (Declare d) = declaration_walked w d
  walked_same w (Pragma at text) = refl

  all_walked_same : (w : Walk) (all : Statements (At × At)) → walked_all w (mapped_statements left all) ≡ walked_all w (mapped_statements right all)
  all_walked_same w NoStatements = refl
  all_walked_same w (MoreStatements s rest) = all_walked_same (walked w (mapped_statement left s)) rest ∙ ap (λ x. walked_all x (mapped_statements right rest)) (walked_same w s)

parameter_walked : (w : Walk) (x y : Option (Identifier At)) → SameNames x y → walked_parameter w x ≡ walked_parameter w y
parameter_walked w None None e = refl
parameter_walked w (Some x) (Some y) e = ap (λ name. walked_parameter w (Some (record { place = y.place; name = name }))) e
parameter_walked w None (Some y) e = absurd e
parameter_walked w (Some x) None e = absurd e

parameters_walked : (R : Pairing) {ps qs : List PlainParameter} → SameParameters R ps qs → (w : Walk) → with_parameters w ps ≡ with_parameters w qs
parameters_walked R same_no_parameters w = refl
parameters_walked R (same_more_parameters {p = p} {q = q} {qs = qs} one rest) w = parameters_walked R rest (walked_parameter w p.name) ∙ ap (λ x. with_parameters x qs) (parameter_walked w p.name q.name one.name)

pub addresses_same : (R : Pairing) {ps qs : List PlainParameter} → SameParameters R ps qs → (all : Statements (At × At)) → addresses_taken ps (mapped_statements left all) ≡ addresses_taken qs (mapped_statements right all)
addresses_same R {ps = ps} same all =
    let start : Walk = record { names = []; variables = 0; taken = [] } in
    ap (λ w. w.taken) (all_walked_same (with_parameters start ps) all) ∙ ap (λ w. (walked_all w (mapped_statements right all)).taken) (parameters_walked R same start)
