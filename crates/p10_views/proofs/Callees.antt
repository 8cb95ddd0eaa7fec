-- Erased trees call the same functions.
use Rattle.std.proofs.Common.{◌≡◌, ◌∙◌, ℕ, List, [], ◌∷◌, ◌++◌, map, Option, Some, None, option_map, refl, sym, ap}
use Rattle.p10_base.specs.declared.at.At.{At}
use Rattle.p10_core.specs.declared.uses.FunctionUse.{FunctionUse}
use Rattle.p10_core.specs.declared.statements.LoopKeyword.{LoopKeyword}
use Rattle.p10_core.specs.declared.statements.LoopKeyword.TheVariants.{While, Do, For}
use Rattle.p10_core.specs.Typed.{PlainValue, value, PlainForm, constant, read, sense, address, decay, convert, cast, unary, binary, logic, conditional, call, built_in, PlainPlace, place, PlainPlaceForm, variable, global, literal, index, member, dereference, PlainValues, no_values, more_values}
use Rattle.p10_core.specs.Typed.{PlainWritten, one_scalar, scalars_of_text, PlainItem, PlainInitializer, not_initialized, single, copied, listed, PlainStatement, statement, PlainStatementForm, set, update, copy, evaluate, asserts, declare, declare_static, block, if_then, if_else, loop, switch, break, continue, return, empty, mark, PlainStatements, no_statements, more_statements, PlainProgram}
use Rattle.p10_core.specs.Nodes.{PlainNode, in_loop_order, nodes_of_value, nodes_in_form, nodes_of_place, nodes_in_place_form, nodes_of_values, nodes_of_maybe, nodes_of_written, nodes_of_items, nodes_of_initializer, nodes_of_statement, nodes_in_statement_form, nodes_of_statements}
use Rattle.p10_core.specs.Uses.{called_by, function_used}
use Rattle.p10_sums.specs.Depths.{with_callee, callees}
use Rattle.p10_views.specs.Erased.{no_place, erased_value, erased_form, erased_place, erased_place_form, erased_values, erased_written, erased_item, erased_initializer, erased_statement, erased_statement_form, erased_statements}

with_both : (u : Option FunctionUse) (xs ys : List ℕ) → with_callee u (xs ++ ys) ≡ with_callee u xs ++ ys
with_both None xs ys = refl
with_both (Some called) xs ys = refl

callees_both : (xs ys : List PlainNode) → callees (xs ++ ys) ≡ callees xs ++ callees ys
callees_both [] ys = refl
callees_both (n ∷ xs) ys = ap (with_callee (function_used n)) (callees_both xs ys) ∙ with_both (function_used n) (callees xs) (callees ys)

two_parts : (xs ys us vs : List PlainNode) → callees us ≡ callees xs → callees vs ≡ callees ys → callees (us ++ vs) ≡ callees (xs ++ ys)
two_parts xs ys us vs first second = callees_both us vs ∙ (λ i. first i ++ second i) ∙ sym (callees_both xs ys)

own_callee : (p : PlainProgram) (at : At) (form : PlainForm) (rest : List ℕ) → with_callee (called_by no_place (erased_form p form)) rest ≡ with_callee (called_by at form) rest
own_callee p at (constant z) rest = refl
own_callee p at (read q) rest = refl
own_callee p at (sense n) rest = refl
own_callee p at (address q) rest = refl
own_callee p at (decay q) rest = refl
own_callee p at (convert v) rest = refl
own_callee p at (cast v) rest = refl
own_callee p at (unary op v) rest = refl
own_callee p at (binary op a b) rest = refl
own_callee p at (logic op a b) rest = refl
own_callee p at (conditional v a b) rest = refl
own_callee p at (call name n arguments) rest = refl
own_callee p at (built_in name f arguments) rest = refl

mutual
  in_value : (p : PlainProgram) (v : PlainValue) → callees (nodes_of_value (erased_value p v)) ≡ callees (nodes_of_value v)
  in_value p (value at t form) = ap (with_callee (called_by no_place (erased_form p form))) (in_form p form) ∙ own_callee p at form (callees (nodes_in_form form))

  in_form : (p : PlainProgram) (form : PlainForm) → callees (nodes_in_form (erased_form p form)) ≡ callees (nodes_in_form form)
  in_form p (constant z) = refl
  in_form p (read q) = in_place p q
  in_form p (sense n) = refl
  in_form p (address q) = in_place p q
  in_form p (decay q) = in_place p q
  in_form p (convert v) = in_value p v
  in_form p (cast v) = in_value p v
  in_form p (unary op v) = in_value p v
  in_form p (binary op a b) = two_parts (nodes_of_value a) (nodes_of_value b) (nodes_of_value (erased_value p a)) (nodes_of_value (erased_value p b)) (in_value p a) (in_value p b)
  in_form p (logic op a b) = two_parts (nodes_of_value a) (nodes_of_value b) (nodes_of_value (erased_value p a)) (nodes_of_value (erased_value p b)) (in_value p a) (in_value p b)
  in_form p (conditional v a b) =
      two_parts (nodes_of_value v) (nodes_of_value a ++ nodes_of_value b) (nodes_of_value (erased_value p v)) (nodes_of_value (erased_value p a) ++ nodes_of_value (erased_value p b)) (in_value p v)
      (two_parts (nodes_of_value a) (nodes_of_value b) (nodes_of_value (erased_value p a)) (nodes_of_value (erased_value p b)) (in_value p a) (in_value p b))
  in_form p (call name n arguments) = in_values p arguments
  in_form p (built_in name f arguments) = in_values p arguments

  in_place : (p : PlainProgram) (q : PlainPlace) → callees (nodes_of_place (erased_place p q)) ≡ callees (nodes_of_place q)
  in_place p (place at t form) = in_place_form p form

  in_place_form : (p : PlainProgram) (form : PlainPlaceForm) → callees (nodes_in_place_form (erased_place_form p form)) ≡ callees (nodes_in_place_form form)
  in_place_form p (variable n) = refl
  in_place_form p (global n) = refl
  in_place_form p (literal n bytes) = refl
  in_place_form p (index a k) = two_parts (nodes_of_value a) (nodes_of_value k) (nodes_of_value (erased_value p a)) (nodes_of_value (erased_value p k)) (in_value p a) (in_value p k)
  in_place_form p (member q m) = in_place p q
  in_place_form p (dereference v) = in_value p v

  in_values : (p : PlainProgram) (vs : PlainValues) → callees (nodes_of_values (erased_values p vs)) ≡ callees (nodes_of_values vs)
  in_values p no_values = refl
  in_values p (more_values v vs) = two_parts (nodes_of_value v) (nodes_of_values vs) (nodes_of_value (erased_value p v)) (nodes_of_values (erased_values p vs)) (in_value p v) (in_values p vs)

in_maybe : (p : PlainProgram) (v : Option PlainValue) → callees (nodes_of_maybe (option_map (erased_value p) v)) ≡ callees (nodes_of_maybe v)
in_maybe p None = refl
in_maybe p (Some v) = in_value p v

in_written : (p : PlainProgram) (w : PlainWritten) → callees (nodes_of_written (erased_written p w)) ≡ callees (nodes_of_written w)
in_written p (one_scalar v) = in_value p v
in_written p (scalars_of_text bytes) = refl

in_items : (p : PlainProgram) (items : List PlainItem) → callees (nodes_of_items (map (erased_item p) items)) ≡ callees (nodes_of_items items)
in_items p [] = refl
in_items p (item ∷ items) =
    two_parts (nodes_of_written item.written) (nodes_of_items items) (nodes_of_written (erased_written p item.written)) (nodes_of_items (map (erased_item p) items)) (in_written p item.written) (in_items p items)

in_initializer : (p : PlainProgram) (initializer : PlainInitializer) → callees (nodes_of_initializer (erased_initializer p initializer)) ≡ callees (nodes_of_initializer initializer)
in_initializer p not_initialized = refl
in_initializer p (single v) = in_value p v
in_initializer p (copied q) = in_place p q
in_initializer p (listed at items) = in_items p items

-- the parts of a loop, in the order of its keyword
in_order : (keyword : LoopKeyword) (a b c d r s t u : List PlainNode) → callees r ≡ callees a → callees s ≡ callees b → callees t ≡ callees c → callees u ≡ callees d → callees (in_loop_order keyword r s t u) ≡ callees (in_loop_order keyword a b c d)
in_order While a b c d r s t u first test third body = two_parts a (b ++ (c ++ d)) r (s ++ (t ++ u)) first (two_parts b (c ++ d) s (t ++ u) test (two_parts c d t u third body))
in_order For a b c d r s t u first test third body = two_parts a (b ++ (c ++ d)) r (s ++ (t ++ u)) first (two_parts b (c ++ d) s (t ++ u) test (two_parts c d t u third body))
in_order Do a b c d r s t u first test third body = two_parts a (d ++ (b ++ c)) r (u ++ (s ++ t)) first (two_parts d (b ++ c) u (s ++ t) body (two_parts b c s t test third))

mutual
  in_statement : (p : PlainProgram) (s : PlainStatement) → callees (nodes_of_statement (erased_statement p s)) ≡ callees (nodes_of_statement s)
  in_statement p (statement at form) = in_statement_form p form

  in_statement_form : (p : PlainProgram) (form : PlainStatementForm) → callees (nodes_in_statement_form (erased_statement_form p form)) ≡ callees (nodes_in_statement_form form)
  in_statement_form p (set q v) = two_parts (nodes_of_place q) (nodes_of_value v) (nodes_of_place (erased_place p q)) (nodes_of_value (erased_value p v)) (in_place p q) (in_value p v)
  in_statement_form p (update kind op t q v) = two_parts (nodes_of_place q) (nodes_of_value v) (nodes_of_place (erased_place p q)) (nodes_of_value (erased_value p v)) (in_place p q) (in_value p v)
  in_statement_form p (copy q r) = two_parts (nodes_of_place q) (nodes_of_place r) (nodes_of_place (erased_place p q)) (nodes_of_place (erased_place p r)) (in_place p q) (in_place p r)
  in_statement_form p (evaluate v) = in_value p v
  in_statement_form p (asserts at v) = in_value p v
  in_statement_form p (declare n initializer) = in_initializer p initializer
  in_statement_form p (declare_static n) = refl
  in_statement_form p (block ss) = in_statements p ss
  in_statement_form p (if_then v s) = two_parts (nodes_of_value v) (nodes_of_statement s) (nodes_of_value (erased_value p v)) (nodes_of_statement (erased_statement p s)) (in_value p v) (in_statement p s)
  in_statement_form p (if_else v s t) =
      two_parts (nodes_of_value v) (nodes_of_statement s ++ nodes_of_statement t) (nodes_of_value (erased_value p v)) (nodes_of_statement (erased_statement p s) ++ nodes_of_statement (erased_statement p t)) (in_value p v)
      (two_parts (nodes_of_statement s) (nodes_of_statement t) (nodes_of_statement (erased_statement p s)) (nodes_of_statement (erased_statement p t)) (in_statement p s) (in_statement p t))
  in_statement_form p (loop head first test third body) =
      in_order head.keyword (nodes_of_statements first) (nodes_of_maybe test) (nodes_of_statements third) (nodes_of_statement body) (nodes_of_statements (erased_statements p first)) (nodes_of_maybe (option_map (erased_value p) test))
      (nodes_of_statements (erased_statements p third)) (nodes_of_statement (erased_statement p body)) (in_statements p first) (in_maybe p test) (in_statements p third) (in_statement p body)
  in_statement_form p (switch keyword v labels body) = two_parts (nodes_of_value v) (nodes_of_statement body) (nodes_of_value (erased_value p v)) (nodes_of_statement (erased_statement p body)) (in_value p v) (in_statement p body)
  in_statement_form p break = refl
  in_statement_form p continue = refl
  in_statement_form p (return keyword v) = in_maybe p v
  in_statement_form p empty = refl
  in_statement_form p (mark kind) = refl

  pub in_statements : (p : PlainProgram) (ss : PlainStatements) → callees (nodes_of_statements (erased_statements p ss)) ≡ callees (nodes_of_statements ss)
  in_statements p no_statements = refl
  in_statements p (more_statements s rest) = two_parts (nodes_of_statement s) (nodes_of_statements rest) (nodes_of_statement (erased_statement p s)) (nodes_of_statements (erased_statements p rest)) (in_statement p s) (in_statements p rest)
