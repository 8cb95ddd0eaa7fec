-- Among the words of the first root a tree stands as its first places say.
use Rattle.std.proofs.Common.{ℕ, ◌+◌, ◌*◌, length, List, [], ◌∷◌, map, Option, Some, None, option_map, ◌≡◌, refl}
use Rattle.p10_syn.specs.declared.place.Side.TheVariants.{Before, After}
use Rattle.p10_syn.specs.Counts.{count_bool, count_tag, count, count_form, count_optional, count_valued, count_type, count_specifiers, count_specifier, count_members, count_member, count_fields, count_field, count_enumerators, count_enumerator, count_declarator, count_parameters, count_parameter, count_initializer, count_initializers, count_init_declarator, count_declaration, count_statement, count_statements}
use Rattle.p10_syn.specs.Trees.{Bare, Identifier, Qualifier, Expression, expression, Form, Name, Number, Character, Strings, Unary, Step, Binary, Assign, Conditional, Call, Index, Member, Arrow, Cast, SizeofExpression, SizeofType, Comma, Expressions, NoExpressions, MoreExpressions, Optional, Absent, Present, TypeName, type_name, Specifiers, NoSpecifiers, MoreSpecifiers, Specifier, Keyword, Typedef, Structure, Enumeration, Members, NoMembers, MoreMembers, MemberDeclaration, member_declaration, Fields, NoFields, MoreFields, Field, field, Enumerators, NoEnumerators, MoreEnumerators, Enumerator, enumerator, Declarator, Named, Unnamed, Pointer, Parenthesised, Array, Function, Parameters, NoParameters, MoreParameters, Parameter, parameter}
use Rattle.p10_syn.specs.Trees.{Initializer, Value, Braced, Initializers, NoInitializers, MoreInitializers, InitDeclarator, Declaration, Statement, Empty, Evaluate, Block, If, IfElse, Switch, While, Do, For, Case, Default, Label, Goto, Break, Continue, Return, Declare, Pragma, Statements, NoStatements, MoreStatements}
use Rattle.p10_syn.specs.Places.{Source, place_at, locate, locate_declaration, locate_declarator, locate_enumerator, locate_enumerators, locate_field, locate_fields, locate_form, locate_init_declarator, locate_init_declarators, locate_initial, locate_initializer, locate_initializers, locate_list, locate_member, locate_members, locate_name, locate_optional, locate_parameter, locate_parameters, locate_qualifier, locate_qualifiers, locate_specifier, locate_specifiers, locate_statement, locate_statements, locate_tag, locate_type}
use Rattle.p10_expression_renaming.specs.Mapped.{mapped_declarator, mapped_enumerator, mapped_enumerators, mapped_expression, mapped_expressions, mapped_field, mapped_fields, mapped_form, mapped_identifier, mapped_member_declaration, mapped_members, mapped_optional, mapped_parameter, mapped_parameters, mapped_qualifier, mapped_specifier, mapped_specifiers, mapped_type_name}
use Rattle.p10_expression_renaming.specs.MappedStatements.{mapped_declaration, mapped_init_declarator, mapped_initializer, mapped_initializers, mapped_statement, mapped_statements}
use Rattle.p10_spelling_laws.proofs.Both.{both, both_declaration, both_declarator, both_enumerator, both_enumerators, both_field, both_fields, both_form, both_init_declarator, both_init_declarators, both_initial, both_initializer, both_initializers, both_list, both_member, both_members, both_name, both_optional, both_parameter, both_parameters, both_qualifier, both_qualifiers, both_specifier, both_specifiers, both_statement, both_statements, both_tag, both_type}

pub first_name : (s : Source) (n : ℕ) (o : Source) (h : ℕ) (t : Identifier Bare) → mapped_identifier (λ p. p.0) (both_name s n o h t) ≡ locate_name s n t
first_name s n o h x = refl

pub first_tag : (s : Source) (n : ℕ) (o : Source) (h : ℕ) (t : Option (Identifier Bare)) → option_map (mapped_identifier (λ p. p.0)) (both_tag s n o h t) ≡ locate_tag s n t
first_tag s n o h None = refl
first_tag s n o h (Some x) = λ j. Some (first_name s n o h x j)

pub first_qualifier : (s : Source) (n : ℕ) (o : Source) (h : ℕ) (t : Qualifier Bare) → mapped_qualifier (λ p. p.0) (both_qualifier s n o h t) ≡ locate_qualifier s n t
first_qualifier s n o h q = refl

pub first_qualifiers : (s : Source) (n : ℕ) (o : Source) (h : ℕ) (t : List (Qualifier Bare)) → map (mapped_qualifier (λ p. p.0)) (both_qualifiers s n o h t) ≡ locate_qualifiers s n t
first_qualifiers s n o h [] = refl
first_qualifiers s n o h (q ∷ qs) = λ j. first_qualifier s n o h q j ∷ first_qualifiers s (n + 1) o (h + 1) qs j

mutual
  pub first : (s : Source) (n : ℕ) (o : Source) (h : ℕ) (t : Expression Bare) → mapped_expression (λ p. p.0) (both s n o h t) ≡ locate s n t
  first s n o h (expression p k f) = λ j. expression (place_at s n (2 * k + count_form f)) k (first_form s (n + k) o (h + k) f j)

  pub first_form : (s : Source) (n : ℕ) (o : Source) (h : ℕ) (t : Form Bare) → mapped_form (λ p. p.0) (both_form s n o h t) ≡ locate_form s n t
  first_form s n o h (Name x) = λ j. Name (first_name s n o h x j)
  first_form s n o h (Number x) = refl
  first_form s n o h (Character x) = refl
  first_form s n o h (Strings xs) = refl
  first_form s n o h (Unary op t) = λ j. Unary op (first s (n + 1) o (h + 1) t j)
  first_form s n o h (Step Before op t) = λ j. Step Before op (first s (n + 1) o (h + 1) t j)
  first_form s n o h (Step After op t) = λ j. Step After op (first s n o h t j)
  first_form s n o h (Binary op l r) = λ j. Binary op (first s n o h l j) (first s (n + count l + 1) o (h + count l + 1) r j)
  first_form s n o h (Assign op l r) = λ j. Assign op (first s n o h l j) (first s (n + count l + 1) o (h + count l + 1) r j)
  first_form s n o h (Conditional a b c) = λ j. Conditional (first s n o h a j) (first s (n + count a + 1) o (h + count a + 1) b j) (first s (n + count a + 1 + count b + 1) o (h + count a + 1 + count b + 1) c j)
  first_form s n o h (Call f ts) = λ j. Call (first s n o h f j) (first_list s (n + count f + 1) o (h + count f + 1) ts j)
  first_form s n o h (Index l r) = λ j. Index (first s n o h l j) (first s (n + count l + 1) o (h + count l + 1) r j)
  first_form s n o h (Member t x) = λ j. Member (first s n o h t j) (first_name s (n + count t + 1) o (h + count t + 1) x j)
  first_form s n o h (Arrow t x) = λ j. Arrow (first s n o h t j) (first_name s (n + count t + 1) o (h + count t + 1) x j)
  first_form s n o h (Cast k t) = λ j. Cast (first_type s (n + 1) o (h + 1) k j) (first s (n + 1 + count_type k + 1) o (h + 1 + count_type k + 1) t j)
  first_form s n o h (SizeofExpression t) = λ j. SizeofExpression (first s (n + 1) o (h + 1) t j)
  first_form s n o h (SizeofType k) = λ j. SizeofType (first_type s (n + 2) o (h + 2) k j)
  first_form s n o h (Comma ts) = λ j. Comma (first_list s n o h ts j)

  pub first_list : (s : Source) (n : ℕ) (o : Source) (h : ℕ) (t : Expressions Bare) → mapped_expressions (λ p. p.0) (both_list s n o h t) ≡ locate_list s n t
  first_list s n o h NoExpressions = refl
  first_list s n o h (MoreExpressions t ts) = λ j. MoreExpressions (first s n o h t j) (first_list s (n + count t + 1) o (h + count t + 1) ts j)

  pub first_optional : (s : Source) (n : ℕ) (o : Source) (h : ℕ) (t : Optional Bare) → mapped_optional (λ p. p.0) (both_optional s n o h t) ≡ locate_optional s n t
  first_optional s n o h Absent = refl
  first_optional s n o h (Present t) = λ j. Present (first s n o h t j)

  pub first_type : (s : Source) (n : ℕ) (o : Source) (h : ℕ) (t : TypeName Bare) → mapped_type_name (λ p. p.0) (both_type s n o h t) ≡ locate_type s n t
  first_type s n o h (type_name p ss d) = λ j. type_name (place_at s n (count_specifiers ss + count_declarator d)) (first_specifiers s n o h ss j) (first_declarator s (n + count_specifiers ss) o (h + count_specifiers ss) d j)

  pub first_specifiers : (s : Source) (n : ℕ) (o : Source) (h : ℕ) (t : Specifiers Bare) → mapped_specifiers (λ p. p.0) (both_specifiers s n o h t) ≡ locate_specifiers s n t
  first_specifiers s n o h NoSpecifiers = refl
  first_specifiers s n o h (MoreSpecifiers x xs) = λ j. MoreSpecifiers (first_specifier s n o h x j) (first_specifiers s (n + count_specifier x) o (h + count_specifier x) xs j)

  pub first_specifier : (s : Source) (n : ℕ) (o : Source) (h : ℕ) (t : Specifier Bare) → mapped_specifier (λ p. p.0) (both_specifier s n o h t) ≡ locate_specifier s n t
  first_specifier s n o h (Keyword p word) = refl
  first_specifier s n o h (Typedef x) = λ j. Typedef (first_name s n o h x j)
  first_specifier s n o h (Structure p word tag ms) = λ j. Structure (place_at s n (1 + count_tag tag + count_members ms)) word (first_tag s (n + 1) o (h + 1) tag j) (first_members s (n + 1 + count_tag tag + 1) o (h + 1 + count_tag tag + 1) ms j)
  first_specifier s n o h (Enumeration p tag es comma) = λ j. Enumeration (place_at s n (1 + count_tag tag + count_enumerators es comma)) (first_tag s (n + 1) o (h + 1) tag j) (first_enumerators s (n + 1 + count_tag tag + 1) o (h + 1 + count_tag tag + 1) es j) comma

  pub first_members : (s : Source) (n : ℕ) (o : Source) (h : ℕ) (t : Members Bare) → mapped_members (λ p. p.0) (both_members s n o h t) ≡ locate_members s n t
  first_members s n o h NoMembers = refl
  first_members s n o h (MoreMembers m ms) = λ j. MoreMembers (first_member s n o h m j) (first_members s (n + count_member m) o (h + count_member m) ms j)

  pub first_member : (s : Source) (n : ℕ) (o : Source) (h : ℕ) (t : MemberDeclaration Bare) → mapped_member_declaration (λ p. p.0) (both_member s n o h t) ≡ locate_member s n t
  first_member s n o h (member_declaration p ss fs) = λ j. member_declaration (place_at s n (count_specifiers ss + count_fields fs)) (first_specifiers s n o h ss j) (first_fields s (n + count_specifiers ss) o (h + count_specifiers ss) fs j)

  pub first_fields : (s : Source) (n : ℕ) (o : Source) (h : ℕ) (t : Fields Bare) → mapped_fields (λ p. p.0) (both_fields s n o h t) ≡ locate_fields s n t
  first_fields s n o h NoFields = refl
  first_fields s n o h (MoreFields f fs) = λ j. MoreFields (first_field s n o h f j) (first_fields s (n + count_field f + 1) o (h + count_field f + 1) fs j)

  pub first_field : (s : Source) (n : ℕ) (o : Source) (h : ℕ) (t : Field Bare) → mapped_field (λ p. p.0) (both_field s n o h t) ≡ locate_field s n t
  first_field s n o h (field p d width) = λ j. field (place_at s n (count_declarator d + count_valued width)) (first_declarator s n o h d j) (first_optional s (n + count_declarator d + 1) o (h + count_declarator d + 1) width j)

  pub first_enumerators : (s : Source) (n : ℕ) (o : Source) (h : ℕ) (t : Enumerators Bare) → mapped_enumerators (λ p. p.0) (both_enumerators s n o h t) ≡ locate_enumerators s n t
  first_enumerators s n o h NoEnumerators = refl
  first_enumerators s n o h (MoreEnumerators e es) = λ j. MoreEnumerators (first_enumerator s n o h e j) (first_enumerators s (n + count_enumerator e + 1) o (h + count_enumerator e + 1) es j)

  pub first_enumerator : (s : Source) (n : ℕ) (o : Source) (h : ℕ) (t : Enumerator Bare) → mapped_enumerator (λ p. p.0) (both_enumerator s n o h t) ≡ locate_enumerator s n t
  first_enumerator s n o h (enumerator p x value) = λ j. enumerator (place_at s n (1 + count_valued value)) (first_name s n o h x j) (first_optional s (n + 2) o (h + 2) value j)

  pub first_declarator : (s : Source) (n : ℕ) (o : Source) (h : ℕ) (t : Declarator Bare) → mapped_declarator (λ p. p.0) (both_declarator s n o h t) ≡ locate_declarator s n t
  first_declarator s n o h (Named x) = λ j. Named (first_name s n o h x j)
  first_declarator s n o h (Unnamed p) = refl
  first_declarator s n o h (Pointer p qs d) = λ j. Pointer (place_at s n (1 + length qs + count_declarator d)) (first_qualifiers s (n + 1) o (h + 1) qs j) (first_declarator s (n + 1 + length qs) o (h + 1 + length qs) d j)
  first_declarator s n o h (Parenthesised p d) = λ j. Parenthesised (place_at s n (1 + count_declarator d + 1)) (first_declarator s (n + 1) o (h + 1) d j)
  first_declarator s n o h (Array p d b size) = λ j. Array (place_at s n (count_declarator d + 1 + count_optional size + 1)) (first_declarator s n o h d j) (place_at s (n + count_declarator d) (1 + count_optional size + 1)) (first_optional s (n + count_declarator d + 1) o (h + count_declarator d + 1) size j)
  first_declarator s n o h (Function p d b ps ellipsis) = λ j. Function (place_at s n (count_declarator d + 1 + count_parameters ps + 2 * count_bool ellipsis + 1)) (first_declarator s n o h d j) (place_at s (n + count_declarator d) (1 + count_parameters ps + 2 * count_bool ellipsis + 1)) (first_parameters s (n + count_declarator d + 1) o (h + count_declarator d + 1) ps j) ellipsis

  pub first_parameters : (s : Source) (n : ℕ) (o : Source) (h : ℕ) (t : Parameters Bare) → mapped_parameters (λ p. p.0) (both_parameters s n o h t) ≡ locate_parameters s n t
  first_parameters s n o h NoParameters = refl
  first_parameters s n o h (MoreParameters x xs) = λ j. MoreParameters (first_parameter s n o h x j) (first_parameters s (n + count_parameter x + 1) o (h + count_parameter x + 1) xs j)

  pub first_parameter : (s : Source) (n : ℕ) (o : Source) (h : ℕ) (t : Parameter Bare) → mapped_parameter (λ p. p.0) (both_parameter s n o h t) ≡ locate_parameter s n t
  first_parameter s n o h (parameter p ss d) = λ j. parameter (place_at s n (count_specifiers ss + count_declarator d)) (first_specifiers s n o h ss j) (first_declarator s (n + count_specifiers ss) o (h + count_specifiers ss) d j)

mutual
  pub first_initializer : (s : Source) (n : ℕ) (o : Source) (h : ℕ) (t : Initializer Bare) → mapped_initializer (λ p. p.0) (both_initializer s n o h t) ≡ locate_initializer s n t
  first_initializer s n o h (Value t) = λ j. Value (first s n o h t j)
  first_initializer s n o h (Braced p is comma) = λ j. Braced (place_at s n (1 + count_initializers is + count_bool comma + 1)) (first_initializers s (n + 1) o (h + 1) is j) comma

  pub first_initializers : (s : Source) (n : ℕ) (o : Source) (h : ℕ) (t : Initializers Bare) → mapped_initializers (λ p. p.0) (both_initializers s n o h t) ≡ locate_initializers s n t
  first_initializers s n o h NoInitializers = refl
  first_initializers s n o h (MoreInitializers i is) = λ j. MoreInitializers (first_initializer s n o h i j) (first_initializers s (n + count_initializer i + 1) o (h + count_initializer i + 1) is j)

pub first_initial : (s : Source) (n : ℕ) (o : Source) (h : ℕ) (t : Option (Initializer Bare)) → option_map (mapped_initializer (λ p. p.0)) (both_initial s n o h t) ≡ locate_initial s n t
first_initial s n o h None = refl
first_initial s n o h (Some i) = λ j. Some (first_initializer s n o h i j)

pub first_init_declarator : (s : Source) (n : ℕ) (o : Source) (h : ℕ) (t : InitDeclarator Bare) → mapped_init_declarator (λ p. p.0) (both_init_declarator s n o h t) ≡ locate_init_declarator s n t
first_init_declarator s n o h d = λ j. record { place = place_at s n (count_init_declarator d); declarator = first_declarator s n o h d.declarator j; initial = first_initial s (n + count_declarator d.declarator + 1) o (h + count_declarator d.declarator + 1) d.initial j }

pub first_init_declarators : (s : Source) (n : ℕ) (o : Source) (h : ℕ) (t : List (InitDeclarator Bare)) → map (mapped_init_declarator (λ p. p.0)) (both_init_declarators s n o h t) ≡ locate_init_declarators s n t
first_init_declarators s n o h [] = refl
first_init_declarators s n o h (d ∷ ds) = λ j. first_init_declarator s n o h d j ∷ first_init_declarators s (n + count_init_declarator d + 1) o (h + count_init_declarator d + 1) ds j

pub first_declaration : (s : Source) (n : ℕ) (o : Source) (h : ℕ) (t : Declaration Bare) → mapped_declaration (λ p. p.0) (both_declaration s n o h t) ≡ locate_declaration s n t
first_declaration s n o h d = λ j. record { place = place_at s n (count_declaration d); specifiers = first_specifiers s n o h d.specifiers j; declarators = first_init_declarators s (n + count_specifiers d.specifiers) o (h + count_specifiers d.specifiers) d.declarators j }

mutual
  pub first_statement : (s : Source) (n : ℕ) (o : Source) (h : ℕ) (t : Statement Bare) → mapped_statement (λ p. p.0) (both_statement s n o h t) ≡ locate_statement s n t
  first_statement s n o h (Empty p) = refl
  first_statement s n o h (Evaluate p t) = λ j. Evaluate (place_at s n (count t + 1)) (first s n o h t j)
  first_statement s n o h (Block p ss) = λ j. Block (place_at s n (1 + count_statements ss + 1)) (first_statements s (n + 1) o (h + 1) ss j)
  first_statement s n o h (If p t u) = λ j. If (place_at s n (2 + count t + 1 + count_statement u)) (first s (n + 2) o (h + 2) t j) (first_statement s (n + 2 + count t + 1) o (h + 2 + count t + 1) u j)
  first_statement s n o h (IfElse p t u v) = λ j. IfElse (place_at s n (2 + count t + 1 + count_statement u + 1 + count_statement v)) (first s (n + 2) o (h + 2) t j) (first_statement s (n + 2 + count t + 1) o (h + 2 + count t + 1) u j) (first_statement s (n + 2 + count t + 1 + count_statement u + 1) o (h + 2 + count t + 1 + count_statement u + 1) v j)
  first_statement s n o h (Switch p k t u) = λ j. Switch (place_at s n (2 + count t + 1 + count_statement u)) (place_at s n 1) (first s (n + 2) o (h + 2) t j) (first_statement s (n + 2 + count t + 1) o (h + 2 + count t + 1) u j)
  first_statement s n o h (While p k t u) = λ j. While (place_at s n (2 + count t + 1 + count_statement u)) (place_at s n 1) (first s (n + 2) o (h + 2) t j) (first_statement s (n + 2 + count t + 1) o (h + 2 + count t + 1) u j)
  first_statement s n o h (Do p k u t) = λ j. Do (place_at s n (1 + count_statement u + 2 + count t + 2)) (place_at s n 1) (first_statement s (n + 1) o (h + 1) u j) (first s (n + 1 + count_statement u + 2) o (h + 1 + count_statement u + 2) t j)
  first_statement s n o h (For p k start test step u) = λ j. For (place_at s n (2 + count_statement start + count_optional test + 1 + count_optional step + 1 + count_statement u)) (place_at s n 1) (first_statement s (n + 2) o (h + 2) start j) (first_optional s (n + 2 + count_statement start) o (h + 2 + count_statement start) test j) (first_optional s (n + 2 + count_statement start + count_optional test + 1) o (h + 2 + count_statement start + count_optional test + 1) step j) (first_statement s (n + 2 + count_statement start + count_optional test + 1 + count_optional step + 1) o (h + 2 + count_statement start + count_optional test + 1 + count_optional step + 1) u j)
  first_statement s n o h (Case p t u) = λ j. Case (place_at s n (1 + count t + 1 + count_statement u)) (first s (n + 1) o (h + 1) t j) (first_statement s (n + 1 + count t + 1) o (h + 1 + count t + 1) u j)
  first_statement s n o h (Default p u) = λ j. Default (place_at s n (2 + count_statement u)) (first_statement s (n + 2) o (h + 2) u j)
  first_statement s n o h (Label p x u) = λ j. Label (place_at s n (2 + count_statement u)) (first_name s n o h x j) (first_statement s (n + 2) o (h + 2) u j)
  first_statement s n o h (Goto p x) = λ j. Goto (place_at s n 3) (first_name s (n + 1) o (h + 1) x j)
  first_statement s n o h (Break p) = refl
  first_statement s n o h (Continue p) = refl
  first_statement s n o h (Return p k t) = λ j. Return (place_at s n (1 + count_optional t + 1)) (place_at s n 1) (first_optional s (n + 1) o (h + 1) t j)
  first_statement s n o h (Declare d) = λ j. Declare (first_declaration s n o h d j)
  first_statement s n o h (Pragma p x) = refl

  pub first_statements : (s : Source) (n : ℕ) (o : Source) (h : ℕ) (t : Statements Bare) → mapped_statements (λ p. p.0) (both_statements s n o h t) ≡ locate_statements s n t
  first_statements s n o h NoStatements = refl
  first_statements s n o h (MoreStatements u us) = λ j. MoreStatements (first_statement s n o h u j) (first_statements s (n + count_statement u) o (h + count_statement u) us j)
