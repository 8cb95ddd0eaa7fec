-- Among the words of the second root a tree stands as its second places say.
use Rattle.std.proofs.Common.{ℕ, ◌+◌, ◌*◌, length, List, [], ◌∷◌, map, Option, Some, None, option_map, ◌≡◌, refl}
use Rattle.p10_syn.specs.declared.place.Side.TheVariants.{Before, After}
use Rattle.p10_syn.specs.Counts.{count_bool, count_tag, count, count_form, count_optional, count_valued, count_type, count_specifiers, count_specifier, count_members, count_member, count_fields, count_field, count_enumerators, count_enumerator, count_declarator, count_parameters, count_parameter, count_initializer, count_initializers, count_init_declarator, count_declaration, count_statement, count_statements}
use Rattle.p10_syn.specs.Trees.{Bare, Identifier, Qualifier, Expression, expression, Form, Name, Number, Character, Strings, Unary, Step, Binary, Assign, Conditional, Call, Index, Member, Arrow, Cast, SizeofExpression, SizeofType, Comma, Expressions, NoExpressions, MoreExpressions, Optional, Absent, Present, TypeName, type_name, Specifiers, NoSpecifiers, MoreSpecifiers, Specifier, Keyword, Typedef, Structure, Enumeration, Members, NoMembers, MoreMembers, MemberDeclaration, member_declaration, Fields, NoFields, MoreFields, Field, field, Enumerators, NoEnumerators, MoreEnumerators, Enumerator, enumerator, Declarator, Named, Unnamed, Pointer, Parenthesised, Array, Function, Parameters, NoParameters, MoreParameters, Parameter, parameter}
use Rattle.p10_syn.specs.Trees.{Initializer, Value, Braced, Initializers, NoInitializers, MoreInitializers, InitDeclarator, Declaration, Statement, Empty, Evaluate, Block, If, IfElse, Switch, While, Do, For, Case, Default, Label, Goto, Break, Continue, Return, Declare, Pragma, Statements, NoStatements, MoreStatements}
use Rattle.p10_syn.specs.Places.{Source, place_at, locate, locate_declaration, locate_declarator, locate_enumerator, locate_enumerators, locate_field, locate_fields, locate_form, locate_init_declarator, locate_init_declarators, locate_initial, locate_initializer, locate_initializers, locate_list, locate_member, locate_members, locate_name, locate_optional, locate_parameter, locate_parameters, locate_qualifier, locate_qualifiers, locate_specifier, locate_specifiers, locate_statement, locate_statements, locate_tag, locate_type}
use Rattle.p10_expression_renaming.specs.Mapped.{mapped_declarator, mapped_enumerator, mapped_enumerators, mapped_expression, mapped_expressions, mapped_field, mapped_fields, mapped_form, mapped_identifier, mapped_member_declaration, mapped_members, mapped_optional, mapped_parameter, mapped_parameters, mapped_qualifier, mapped_specifier, mapped_specifiers, mapped_type_name}
use Rattle.p10_expression_renaming.specs.MappedStatements.{mapped_declaration, mapped_init_declarator, mapped_initializer, mapped_initializers, mapped_statement, mapped_statements}
use Rattle.p10_spelling_laws.proofs.Both.{both, both_declaration, both_declarator, both_enumerator, both_enumerators, both_field, both_fields, both_form, both_init_declarator, both_init_declarators, both_initial, both_initializer, both_initializers, both_list, both_member, both_members, both_name, both_optional, both_parameter, both_parameters, both_qualifier, both_qualifiers, both_specifier, both_specifiers, both_statement, both_statements, both_tag, both_type}

pub second_name : (s : Source) (n : ℕ) (o : Source) (h : ℕ) (t : Identifier Bare) → mapped_identifier (λ p. p.1) (both_name s n o h t) ≡ locate_name o h t
second_name s n o h x = refl

pub second_tag : (s : Source) (n : ℕ) (o : Source) (h : ℕ) (t : Option (Identifier Bare)) → option_map (mapped_identifier (λ p. p.1)) (both_tag s n o h t) ≡ locate_tag o h t
second_tag s n o h None = refl
second_tag s n o h (Some x) = λ j. Some (second_name s n o h x j)

pub second_qualifier : (s : Source) (n : ℕ) (o : Source) (h : ℕ) (t : Qualifier Bare) → mapped_qualifier (λ p. p.1) (both_qualifier s n o h t) ≡ locate_qualifier o h t
second_qualifier s n o h q = refl

pub second_qualifiers : (s : Source) (n : ℕ) (o : Source) (h : ℕ) (t : List (Qualifier Bare)) → map (mapped_qualifier (λ p. p.1)) (both_qualifiers s n o h t) ≡ locate_qualifiers o h t
second_qualifiers s n o h [] = refl
second_qualifiers s n o h (q ∷ qs) = λ j. second_qualifier s n o h q j ∷ second_qualifiers s (n + 1) o (h + 1) qs j

mutual
  pub second : (s : Source) (n : ℕ) (o : Source) (h : ℕ) (t : Expression Bare) → mapped_expression (λ p. p.1) (both s n o h t) ≡ locate o h t
  second s n o h (expression p k f) = λ j. expression (place_at o h (2 * k + count_form f)) k (second_form s (n + k) o (h + k) f j)

  pub second_form : (s : Source) (n : ℕ) (o : Source) (h : ℕ) (t : Form Bare) → mapped_form (λ p. p.1) (both_form s n o h t) ≡ locate_form o h t
  second_form s n o h (Name x) = λ j. Name (second_name s n o h x j)
  second_form s n o h (Number x) = refl
  second_form s n o h (Character x) = refl
  second_form s n o h (Strings xs) = refl
  second_form s n o h (Unary op t) = λ j. Unary op (second s (n + 1) o (h + 1) t j)
  second_form s n o h (Step Before op t) = λ j. Step Before op (second s (n + 1) o (h + 1) t j)
  second_form s n o h (Step After op t) = λ j. Step After op (second s n o h t j)
  second_form s n o h (Binary op l r) = λ j. Binary op (second s n o h l j) (second s (n + count l + 1) o (h + count l + 1) r j)
  second_form s n o h (Assign op l r) = λ j. Assign op (second s n o h l j) (second s (n + count l + 1) o (h + count l + 1) r j)
  second_form s n o h (Conditional a b c) = λ j. Conditional (second s n o h a j) (second s (n + count a + 1) o (h + count a + 1) b j) (second s (n + count a + 1 + count b + 1) o (h + count a + 1 + count b + 1) c j)
  second_form s n o h (Call f ts) = λ j. Call (second s n o h f j) (second_list s (n + count f + 1) o (h + count f + 1) ts j)
  second_form s n o h (Index l r) = λ j. Index (second s n o h l j) (second s (n + count l + 1) o (h + count l + 1) r j)
  second_form s n o h (Member t x) = λ j. Member (second s n o h t j) (second_name s (n + count t + 1) o (h + count t + 1) x j)
  second_form s n o h (Arrow t x) = λ j. Arrow (second s n o h t j) (second_name s (n + count t + 1) o (h + count t + 1) x j)
  second_form s n o h (Cast k t) = λ j. Cast (second_type s (n + 1) o (h + 1) k j) (second s (n + 1 + count_type k + 1) o (h + 1 + count_type k + 1) t j)
  second_form s n o h (SizeofExpression t) = λ j. SizeofExpression (second s (n + 1) o (h + 1) t j)
  second_form s n o h (SizeofType k) = λ j. SizeofType (second_type s (n + 2) o (h + 2) k j)
  second_form s n o h (Comma ts) = λ j. Comma (second_list s n o h ts j)

  pub second_list : (s : Source) (n : ℕ) (o : Source) (h : ℕ) (t : Expressions Bare) → mapped_expressions (λ p. p.1) (both_list s n o h t) ≡ locate_list o h t
  second_list s n o h NoExpressions = refl
  second_list s n o h (MoreExpressions t ts) = λ j. MoreExpressions (second s n o h t j) (second_list s (n + count t + 1) o (h + count t + 1) ts j)

  pub second_optional : (s : Source) (n : ℕ) (o : Source) (h : ℕ) (t : Optional Bare) → mapped_optional (λ p. p.1) (both_optional s n o h t) ≡ locate_optional o h t
  second_optional s n o h Absent = refl
  second_optional s n o h (Present t) = λ j. Present (second s n o h t j)

  pub second_type : (s : Source) (n : ℕ) (o : Source) (h : ℕ) (t : TypeName Bare) → mapped_type_name (λ p. p.1) (both_type s n o h t) ≡ locate_type o h t
  second_type s n o h (type_name p ss d) = λ j. type_name (place_at o h (count_specifiers ss + count_declarator d)) (second_specifiers s n o h ss j) (second_declarator s (n + count_specifiers ss) o (h + count_specifiers ss) d j)

  pub second_specifiers : (s : Source) (n : ℕ) (o : Source) (h : ℕ) (t : Specifiers Bare) → mapped_specifiers (λ p. p.1) (both_specifiers s n o h t) ≡ locate_specifiers o h t
  second_specifiers s n o h NoSpecifiers = refl
  second_specifiers s n o h (MoreSpecifiers x xs) = λ j. MoreSpecifiers (second_specifier s n o h x j) (second_specifiers s (n + count_specifier x) o (h + count_specifier x) xs j)

  pub second_specifier : (s : Source) (n : ℕ) (o : Source) (h : ℕ) (t : Specifier Bare) → mapped_specifier (λ p. p.1) (both_specifier s n o h t) ≡ locate_specifier o h t
  second_specifier s n o h (Keyword p word) = refl
  second_specifier s n o h (Typedef x) = λ j. Typedef (second_name s n o h x j)
  second_specifier s n o h (Structure p word tag ms) = λ j. Structure (place_at o h (1 + count_tag tag + count_members ms)) word (second_tag s (n + 1) o (h + 1) tag j) (second_members s (n + 1 + count_tag tag + 1) o (h + 1 + count_tag tag + 1) ms j)
  second_specifier s n o h (Enumeration p tag es comma) = λ j. Enumeration (place_at o h (1 + count_tag tag + count_enumerators es comma)) (second_tag s (n + 1) o (h + 1) tag j) (second_enumerators s (n + 1 + count_tag tag + 1) o (h + 1 + count_tag tag + 1) es j) comma

  pub second_members : (s : Source) (n : ℕ) (o : Source) (h : ℕ) (t : Members Bare) → mapped_members (λ p. p.1) (both_members s n o h t) ≡ locate_members o h t
  second_members s n o h NoMembers = refl
  second_members s n o h (MoreMembers m ms) = λ j. MoreMembers (second_member s n o h m j) (second_members s (n + count_member m) o (h + count_member m) ms j)

  pub second_member : (s : Source) (n : ℕ) (o : Source) (h : ℕ) (t : MemberDeclaration Bare) → mapped_member_declaration (λ p. p.1) (both_member s n o h t) ≡ locate_member o h t
  second_member s n o h (member_declaration p ss fs) = λ j. member_declaration (place_at o h (count_specifiers ss + count_fields fs)) (second_specifiers s n o h ss j) (second_fields s (n + count_specifiers ss) o (h + count_specifiers ss) fs j)

  pub second_fields : (s : Source) (n : ℕ) (o : Source) (h : ℕ) (t : Fields Bare) → mapped_fields (λ p. p.1) (both_fields s n o h t) ≡ locate_fields o h t
  second_fields s n o h NoFields = refl
  second_fields s n o h (MoreFields f fs) = λ j. MoreFields (second_field s n o h f j) (second_fields s (n + count_field f + 1) o (h + count_field f + 1) fs j)

  pub second_field : (s : Source) (n : ℕ) (o : Source) (h : ℕ) (t : Field Bare) → mapped_field (λ p. p.1) (both_field s n o h t) ≡ locate_field o h t
  second_field s n o h (field p d width) = λ j. field (place_at o h (count_declarator d + count_valued width)) (second_declarator s n o h d j) (second_optional s (n + count_declarator d + 1) o (h + count_declarator d + 1) width j)

  pub second_enumerators : (s : Source) (n : ℕ) (o : Source) (h : ℕ) (t : Enumerators Bare) → mapped_enumerators (λ p. p.1) (both_enumerators s n o h t) ≡ locate_enumerators o h t
  second_enumerators s n o h NoEnumerators = refl
  second_enumerators s n o h (MoreEnumerators e es) = λ j. MoreEnumerators (second_enumerator s n o h e j) (second_enumerators s (n + count_enumerator e + 1) o (h + count_enumerator e + 1) es j)

  pub second_enumerator : (s : Source) (n : ℕ) (o : Source) (h : ℕ) (t : Enumerator Bare) → mapped_enumerator (λ p. p.1) (both_enumerator s n o h t) ≡ locate_enumerator o h t
  second_enumerator s n o h (enumerator p x value) = λ j. enumerator (place_at o h (1 + count_valued value)) (second_name s n o h x j) (second_optional s (n + 2) o (h + 2) value j)

  pub second_declarator : (s : Source) (n : ℕ) (o : Source) (h : ℕ) (t : Declarator Bare) → mapped_declarator (λ p. p.1) (both_declarator s n o h t) ≡ locate_declarator o h t
  second_declarator s n o h (Named x) = λ j. Named (second_name s n o h x j)
  second_declarator s n o h (Unnamed p) = refl
  second_declarator s n o h (Pointer p qs d) = λ j. Pointer (place_at o h (1 + length qs + count_declarator d)) (second_qualifiers s (n + 1) o (h + 1) qs j) (second_declarator s (n + 1 + length qs) o (h + 1 + length qs) d j)
  second_declarator s n o h (Parenthesised p d) = λ j. Parenthesised (place_at o h (1 + count_declarator d + 1)) (second_declarator s (n + 1) o (h + 1) d j)
  second_declarator s n o h (Array p d b size) = λ j. Array (place_at o h (count_declarator d + 1 + count_optional size + 1)) (second_declarator s n o h d j) (place_at o (h + count_declarator d) (1 + count_optional size + 1)) (second_optional s (n + count_declarator d + 1) o (h + count_declarator d + 1) size j)
  second_declarator s n o h (Function p d b ps ellipsis) = λ j. Function (place_at o h (count_declarator d + 1 + count_parameters ps + 2 * count_bool ellipsis + 1)) (second_declarator s n o h d j) (place_at o (h + count_declarator d) (1 + count_parameters ps + 2 * count_bool ellipsis + 1)) (second_parameters s (n + count_declarator d + 1) o (h + count_declarator d + 1) ps j) ellipsis

  pub second_parameters : (s : Source) (n : ℕ) (o : Source) (h : ℕ) (t : Parameters Bare) → mapped_parameters (λ p. p.1) (both_parameters s n o h t) ≡ locate_parameters o h t
  second_parameters s n o h NoParameters = refl
  second_parameters s n o h (MoreParameters x xs) = λ j. MoreParameters (second_parameter s n o h x j) (second_parameters s (n + count_parameter x + 1) o (h + count_parameter x + 1) xs j)

  pub second_parameter : (s : Source) (n : ℕ) (o : Source) (h : ℕ) (t : Parameter Bare) → mapped_parameter (λ p. p.1) (both_parameter s n o h t) ≡ locate_parameter o h t
  second_parameter s n o h (parameter p ss d) = λ j. parameter (place_at o h (count_specifiers ss + count_declarator d)) (second_specifiers s n o h ss j) (second_declarator s (n + count_specifiers ss) o (h + count_specifiers ss) d j)

mutual
  pub second_initializer : (s : Source) (n : ℕ) (o : Source) (h : ℕ) (t : Initializer Bare) → mapped_initializer (λ p. p.1) (both_initializer s n o h t) ≡ locate_initializer o h t
  second_initializer s n o h (Value t) = λ j. Value (second s n o h t j)
  second_initializer s n o h (Braced p is comma) = λ j. Braced (place_at o h (1 + count_initializers is + count_bool comma + 1)) (second_initializers s (n + 1) o (h + 1) is j) comma

  pub second_initializers : (s : Source) (n : ℕ) (o : Source) (h : ℕ) (t : Initializers Bare) → mapped_initializers (λ p. p.1) (both_initializers s n o h t) ≡ locate_initializers o h t
  second_initializers s n o h NoInitializers = refl
  second_initializers s n o h (MoreInitializers i is) = λ j. MoreInitializers (second_initializer s n o h i j) (second_initializers s (n + count_initializer i + 1) o (h + count_initializer i + 1) is j)

pub second_initial : (s : Source) (n : ℕ) (o : Source) (h : ℕ) (t : Option (Initializer Bare)) → option_map (mapped_initializer (λ p. p.1)) (both_initial s n o h t) ≡ locate_initial o h t
second_initial s n o h None = refl
second_initial s n o h (Some i) = λ j. Some (second_initializer s n o h i j)

pub second_init_declarator : (s : Source) (n : ℕ) (o : Source) (h : ℕ) (t : InitDeclarator Bare) → mapped_init_declarator (λ p. p.1) (both_init_declarator s n o h t) ≡ locate_init_declarator o h t
second_init_declarator s n o h d = λ j. record { place = place_at o h (count_init_declarator d); declarator = second_declarator s n o h d.declarator j; initial = second_initial s (n + count_declarator d.declarator + 1) o (h + count_declarator d.declarator + 1) d.initial j }

pub second_init_declarators : (s : Source) (n : ℕ) (o : Source) (h : ℕ) (t : List (InitDeclarator Bare)) → map (mapped_init_declarator (λ p. p.1)) (both_init_declarators s n o h t) ≡ locate_init_declarators o h t
second_init_declarators s n o h [] = refl
second_init_declarators s n o h (d ∷ ds) = λ j. second_init_declarator s n o h d j ∷ second_init_declarators s (n + count_init_declarator d + 1) o (h + count_init_declarator d + 1) ds j

pub second_declaration : (s : Source) (n : ℕ) (o : Source) (h : ℕ) (t : Declaration Bare) → mapped_declaration (λ p. p.1) (both_declaration s n o h t) ≡ locate_declaration o h t
second_declaration s n o h d = λ j. record { place = place_at o h (count_declaration d); specifiers = second_specifiers s n o h d.specifiers j; declarators = second_init_declarators s (n + count_specifiers d.specifiers) o (h + count_specifiers d.specifiers) d.declarators j }

mutual
  pub second_statement : (s : Source) (n : ℕ) (o : Source) (h : ℕ) (t : Statement Bare) → mapped_statement (λ p. p.1) (both_statement s n o h t) ≡ locate_statement o h t
  second_statement s n o h (Empty p) = refl
  second_statement s n o h (Evaluate p t) = λ j. Evaluate (place_at o h (count t + 1)) (second s n o h t j)
  second_statement s n o h (Block p ss) = λ j. Block (place_at o h (1 + count_statements ss + 1)) (second_statements s (n + 1) o (h + 1) ss j)
  second_statement s n o h (If p t u) = λ j. If (place_at o h (2 + count t + 1 + count_statement u)) (second s (n + 2) o (h + 2) t j) (second_statement s (n + 2 + count t + 1) o (h + 2 + count t + 1) u j)
  second_statement s n o h (IfElse p t u v) = λ j. IfElse (place_at o h (2 + count t + 1 + count_statement u + 1 + count_statement v)) (second s (n + 2) o (h + 2) t j) (second_statement s (n + 2 + count t + 1) o (h + 2 + count t + 1) u j) (second_statement s (n + 2 + count t + 1 + count_statement u + 1) o (h + 2 + count t + 1 + count_statement u + 1) v j)
  second_statement s n o h (Switch p k t u) = λ j. Switch (place_at o h (2 + count t + 1 + count_statement u)) (place_at o h 1) (second s (n + 2) o (h + 2) t j) (second_statement s (n + 2 + count t + 1) o (h + 2 + count t + 1) u j)
  second_statement s n o h (While p k t u) = λ j. While (place_at o h (2 + count t + 1 + count_statement u)) (place_at o h 1) (second s (n + 2) o (h + 2) t j) (second_statement s (n + 2 + count t + 1) o (h + 2 + count t + 1) u j)
  second_statement s n o h (Do p k u t) = λ j. Do (place_at o h (1 + count_statement u + 2 + count t + 2)) (place_at o h 1) (second_statement s (n + 1) o (h + 1) u j) (second s (n + 1 + count_statement u + 2) o (h + 1 + count_statement u + 2) t j)
  second_statement s n o h (For p k start test step u) = λ j. For (place_at o h (2 + count_statement start + count_optional test + 1 + count_optional step + 1 + count_statement u)) (place_at o h 1) (second_statement s (n + 2) o (h + 2) start j) (second_optional s (n + 2 + count_statement start) o (h + 2 + count_statement start) test j) (second_optional s (n + 2 + count_statement start + count_optional test + 1) o (h + 2 + count_statement start + count_optional test + 1) step j) (second_statement s (n + 2 + count_statement start + count_optional test + 1 + count_optional step + 1) o (h + 2 + count_statement start + count_optional test + 1 + count_optional step + 1) u j)
  second_statement s n o h (Case p t u) = λ j. Case (place_at o h (1 + count t + 1 + count_statement u)) (second s (n + 1) o (h + 1) t j) (second_statement s (n + 1 + count t + 1) o (h + 1 + count t + 1) u j)
  second_statement s n o h (Default p u) = λ j. Default (place_at o h (2 + count_statement u)) (second_statement s (n + 2) o (h + 2) u j)
  second_statement s n o h (Label p x u) = λ j. Label (place_at o h (2 + count_statement u)) (second_name s n o h x j) (second_statement s (n + 2) o (h + 2) u j)
  second_statement s n o h (Goto p x) = λ j. Goto (place_at o h 3) (second_name s (n + 1) o (h + 1) x j)
  second_statement s n o h (Break p) = refl
  second_statement s n o h (Continue p) = refl
  second_statement s n o h (Return p k t) = λ j. Return (place_at o h (1 + count_optional t + 1)) (place_at o h 1) (second_optional s (n + 1) o (h + 1) t j)
  second_statement s n o h (Declare d) = λ j. Declare (second_declaration s n o h d j)
  second_statement s n o h (Pragma p x) = refl

  pub second_statements : (s : Source) (n : ℕ) (o : Source) (h : ℕ) (t : Statements Bare) → mapped_statements (λ p. p.1) (both_statements s n o h t) ≡ locate_statements o h t
  second_statements s n o h NoStatements = refl
  second_statements s n o h (MoreStatements u us) = λ j. MoreStatements (second_statement s n o h u j) (second_statements s (n + count_statement u) o (h + count_statement u) us j)
