-- What is right of the rows at small trees, worked out by hand, and what holds of all trees.
use Rattle.std.specs.Prelude.{◌≡◌, [], ◌∷◌, Bool, true, false, Some, None, codes, count_by}
use Rattle.std.specs.List.{Contains}
use Rattle.p10_base.specs.declared.at.At.{At}
use Rattle.p10_syn.specs.declared.sign.Sign.TheVariants as sign
use Rattle.p10_syn.specs.Places.{nowhere}
use Rattle.p10_syn.specs.Trees.{Expression, expression, Name, Unary, Binary, Index, Cast, Call, SizeofExpression, type_name, Unnamed, Empty, Block, If, IfElse, Pragma, Label, statement_row, expression_row}
use Rattle.p10_synrules.specs.Parts.{ExpressionPart, StatementPart, NamePart, expression_parts, statement_parts, statements_parts}
use Rattle.p10_synrules.specs.Assertions.{is_assertion, states_call, states_no_test, is_constant, is_sound_assertion, calls_c_assert}
use Rattle.p10_synrules.specs.Pointers.{dereferences_twice, has_star, points_to_function}
use Rattle.p10_synrules.specs.Functions.{is_counted, function_names, chief_name}
use Rattle.p10_synrules.specs.Examples.{identifier_tree, form_tree, name_tree, one_tree, called_tree, assert_tree, c_assert_tree, binary_tree, star_tree, arrow_tree, member_tree, int_words, named_tree, pointer_tree, grouped_tree, function_tree, array_tree, evaluated_tree, declared_tree, for_tree, definition_tree}

-- ## Parts

-- each part of an expression stands in the condition of an `if` where the whole expression does
abbrev pub PartsStandWithTheWhole : Type 0
PartsStandWithTheWhole = (within inner : Bool) (t u : Expression At) → Contains (expression_parts within t) (ExpressionPart inner u) → inner ≡ within

-- what the parts of small trees are
pub record PartsAtExamples : Type 0 where
  -- `if (a) { p; }`: in the condition `a` and its name; the block; in it `p;`, `p` and its name
  pub condition : statement_parts (If nowhere (name_tree (codes "a")) (Block nowhere (statement_row (evaluated_tree (name_tree (codes "p")) ∷ []))))
      ≡ ExpressionPart true (name_tree (codes "a")) ∷ NamePart (identifier_tree (codes "a")) ∷ StatementPart (Block nowhere (statement_row (evaluated_tree (name_tree (codes "p")) ∷ [])))
      ∷ StatementPart (evaluated_tree (name_tree (codes "p"))) ∷ ExpressionPart false (name_tree (codes "p")) ∷ NamePart (identifier_tree (codes "p")) ∷ []
  -- `p->x` has two names
  pub arrow : expression_parts false (arrow_tree (name_tree (codes "p")))
      ≡ ExpressionPart false (arrow_tree (name_tree (codes "p"))) ∷ ExpressionPart false (name_tree (codes "p")) ∷ NamePart (identifier_tree (codes "p")) ∷ NamePart (identifier_tree (codes "x")) ∷ []

-- ## Rule 4

-- how many declarations and statements other than blocks small bodies have
pub record CountsAtExamples : Type 0 where
  -- `{ ; }` has one
  pub block : count_by is_counted (statements_parts (statement_row (Block nowhere (statement_row (Empty nowhere ∷ [])) ∷ []))) ≡ 1
  -- `for (int p; ;) ;` has three, and `for (p; ; ) ;` two
  pub declared : count_by is_counted (statements_parts (statement_row (for_tree declared_tree (Empty nowhere) ∷ []))) ≡ 3
  pub evaluated : count_by is_counted (statements_parts (statement_row (for_tree (evaluated_tree (name_tree (codes "p"))) (Empty nowhere) ∷ []))) ≡ 2
  -- `if (a) ; else ;` has three
  pub branches : count_by is_counted (statements_parts (statement_row (IfElse nowhere (name_tree (codes "a")) (Empty nowhere) (Empty nowhere) ∷ []))) ≡ 3
  -- `x: ;` has two, a pragma none
  pub labelled : count_by is_counted (statements_parts (statement_row (Label nowhere (identifier_tree (codes "x")) (Empty nowhere) ∷ []))) ≡ 2
  pub pragma : count_by is_counted (statements_parts (statement_row (Pragma nowhere (codes "init_done") ∷ []))) ≡ 0

-- ## Rule 5

-- which assertions break which rows
pub record AssertionsAtExamples : Type 0 where
  -- `assert(f())`, `assert(sizeof f())`: 5.2
  pub call : states_call (assert_tree (called_tree (codes "f") [])) ≡ true
  pub unevaluated : states_call (assert_tree (form_tree (SizeofExpression (called_tree (codes "f") [])))) ≡ true
  pub no_call : states_call (assert_tree (name_tree (codes "a"))) ≡ false
  -- `assert(a)`: 5.3; `assert(!a)`, `assert((a < 1))`: not
  pub no_test : states_no_test (assert_tree (name_tree (codes "a"))) ≡ true
  pub negated : states_no_test (assert_tree (form_tree (Unary sign.Not (name_tree (codes "a"))))) ≡ false
  pub grouped : states_no_test (assert_tree (expression nowhere 1 (Binary sign.Less (name_tree (codes "a")) one_tree))) ≡ false
  pub sum : states_no_test (c_assert_tree (binary_tree sign.Plus (name_tree (codes "a")) one_tree)) ≡ true
  -- `assert(1)`: 5.4; `assert(a)`: not
  pub constant : is_constant (assert_tree one_tree) ≡ true
  pub named : is_constant (assert_tree (name_tree (codes "a"))) ≡ false
  -- with two arguments there is no operand, but an assertion that counts
  pub two_arguments : is_constant (called_tree (codes "assert") (one_tree ∷ one_tree ∷ [])) ≡ false
  pub counts : is_sound_assertion (ExpressionPart false (called_tree (codes "assert") (one_tree ∷ one_tree ∷ []))) ≡ true
  -- another call is no assertion
  pub other : is_assertion (called_tree (codes "asserts") (one_tree ∷ [])) ≡ false
  -- `(c_assert)(a)` is a call of `c_assert`, `assert(a)` isn't
  pub parentheses : calls_c_assert (form_tree (Call (expression nowhere 1 (Name (identifier_tree (codes "c_assert")))) (expression_row (name_tree (codes "a") ∷ [])))) ≡ true
  pub assert : calls_c_assert (assert_tree (name_tree (codes "a"))) ≡ false

-- where 5.1 is reported: at `main`, or else at the first function
pub record ChiefsAtExamples : Type 0 where
  pub main : chief_name (function_names (definition_tree (codes "f") [] ∷ definition_tree (codes "main") [] ∷ [])) ≡ Some (identifier_tree (codes "main"))
  pub first : chief_name (function_names (definition_tree (codes "f") [] ∷ definition_tree (codes "g") [] ∷ [])) ≡ Some (identifier_tree (codes "f"))
  pub none : chief_name (function_names []) ≡ None

-- ## Rule 9

-- which dereferences come by another one
pub record DereferencesAtExamples : Type 0 where
  -- `**p`, `p->x->x`, `*p->x`, `(*p).x->x`, `*(1 + *p)`, `*(*p - 1)`, `*(*p)[1]`: 9.1
  pub twice : dereferences_twice (star_tree (star_tree (name_tree (codes "p")))) ≡ true
  pub arrows : dereferences_twice (arrow_tree (arrow_tree (name_tree (codes "p")))) ≡ true
  pub star_of_arrow : dereferences_twice (star_tree (arrow_tree (name_tree (codes "p")))) ≡ true
  pub member_between : dereferences_twice (arrow_tree (member_tree (star_tree (name_tree (codes "p"))))) ≡ true
  pub right_operand : dereferences_twice (star_tree (binary_tree sign.Plus one_tree (star_tree (name_tree (codes "p"))))) ≡ true
  pub left_operand : dereferences_twice (star_tree (binary_tree sign.Minus (star_tree (name_tree (codes "p"))) one_tree)) ≡ true
  pub indexed : dereferences_twice (star_tree (form_tree (Index (star_tree (name_tree (codes "p"))) one_tree))) ≡ true
  pub cast : dereferences_twice (star_tree (form_tree (Cast (type_name nowhere int_words (pointer_tree (Unnamed nowhere))) (star_tree (name_tree (codes "p")))))) ≡ true
  -- `*p`, `*p[1]`, `*a[*p]`, `*&*p`, `p->x.x`: not
  pub once : dereferences_twice (star_tree (name_tree (codes "p"))) ≡ false
  pub index_between : dereferences_twice (star_tree (form_tree (Index (name_tree (codes "p")) one_tree))) ≡ false
  pub in_index : dereferences_twice (star_tree (form_tree (Index (name_tree (codes "a")) (star_tree (name_tree (codes "p")))))) ≡ false
  pub address_between : dereferences_twice (star_tree (form_tree (Unary sign.And (star_tree (name_tree (codes "p")))))) ≡ false
  pub member_of_arrow : dereferences_twice (member_tree (arrow_tree (name_tree (codes "p")))) ≡ false

-- which declarators have `*`, and which are pointers to functions
pub record DeclaratorsAtExamples : Type 0 where
  -- `*p`, `(*p)`, `*p[1]`, `*p()` have `*`, `p[1]` hasn't
  pub star : has_star (pointer_tree named_tree) ≡ true
  pub star_in_group : has_star (grouped_tree (pointer_tree named_tree)) ≡ true
  pub star_of_array : has_star (pointer_tree (array_tree named_tree)) ≡ true
  pub star_of_function : has_star (pointer_tree (function_tree named_tree)) ≡ true
  pub no_star : has_star (array_tree named_tree) ≡ false
  -- `(*p)()`, `(**p)()`, `(*p[1])()`, `(*p())()`, `*(*p)()` are pointers to functions in what is said of the name
  pub pointer : points_to_function (function_tree (grouped_tree (pointer_tree named_tree))) ≡ true
  pub pointer_to_pointer : points_to_function (function_tree (grouped_tree (pointer_tree (pointer_tree named_tree)))) ≡ true
  pub array_of_pointers : points_to_function (function_tree (grouped_tree (pointer_tree (array_tree named_tree)))) ≡ true
  pub function_to_pointer : points_to_function (function_tree (grouped_tree (pointer_tree (function_tree named_tree)))) ≡ true
  pub result_is_pointer : points_to_function (pointer_tree (function_tree (grouped_tree (pointer_tree named_tree)))) ≡ true
  -- `*p()`, `(p)()`, `(*p)[1]` aren't
  pub function_alone : points_to_function (pointer_tree (function_tree named_tree)) ≡ false
  pub grouped_name : points_to_function (function_tree (grouped_tree named_tree)) ≡ false
  pub pointer_to_array : points_to_function (array_tree (grouped_tree (pointer_tree named_tree))) ≡ false
