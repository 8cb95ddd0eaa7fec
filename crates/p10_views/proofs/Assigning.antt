-- What statements assign and declare, and what environments become by it, is the same of erased ones.
use Rattle.std.proofs.Common.{◌≡◌, ◌∙◌, ℕ, suc, ◌&&◌, ◌||◌, Bool, List, [], ◌∷◌, map, Option, Some, None, option_map, refl}
use Rattle.std.specs.Prelude.{if◌then◌else◌}
use Rattle.std.specs.Option.{option_and_then}
use Rattle.p10_int.specs.declared.operators.BinOp.{BinOp}
use Rattle.p10_range.specs.Ranges.{is_within}
use Rattle.p10_core.specs.Types.{PlainType, void, integer, pointer, array, structure}
use Rattle.p10_core.specs.Rows.{is_integer}
use Rattle.p10_core.specs.Constants.{integer_of}
use Rattle.p10_core.specs.Typed.{PlainPlace, place, variable, global, literal, index, member, dereference, place_type, PlainStatement, statement, PlainStatementForm, set, update, copy, evaluate, asserts, declare, declare_static, block, if_then, if_else, loop, switch, break, continue, return, empty, mark, PlainStatements, no_statements, more_statements, PlainVariable, PlainProgram}
use Rattle.p10_cert.specs.Claims.{Loop}
use Rattle.p10_absx.specs.Abstract.{Abstract, whole_type}
use Rattle.p10_absx.specs.Environments.{Environment, known, out_of_scope}
use Rattle.p10_absx.specs.Operators.{converted_abstract, binary_abstract}
use Rattle.p10_pass.specs.Scopes.{is_target, assigns, form_assigns, any_assigns, left_scope, changed_each, offset_in, assigned_forgotten, offsets_restored}
use Rattle.p10_pass.specs.Claiming.{range_claimed, own_offset, head_of, ranges_hold, ranges_hold_reached}
use Rattle.p10_pass.specs.Passing.{stored, before_update, set_value, updated_value}
use Rattle.p10_views.specs.Erased.{erased_type, erased_place, erased_statement, erased_statement_form, erased_statements, erased_variable}
use Rattle.p10_views.proofs.Types.{kind_erased}

-- ---- what is assigned

target_erased : (p : PlainProgram) (n : ℕ) (q : PlainPlace) → is_target n (erased_place p q) ≡ is_target n q
target_erased p n (place at t (variable m)) = refl
target_erased p n (place at t (global m)) = refl
target_erased p n (place at t (literal m bytes)) = refl
target_erased p n (place at t (index a k)) = refl
target_erased p n (place at t (member q m)) = refl
target_erased p n (place at t (dereference v)) = refl

mutual
  assigns_erased : (p : PlainProgram) (n : ℕ) (s : PlainStatement) → assigns n (erased_statement p s) ≡ assigns n s
  assigns_erased p n (statement at form) = form_assigns_erased p n form

  pub form_assigns_erased : (p : PlainProgram) (n : ℕ) (form : PlainStatementForm) → form_assigns n (erased_statement_form p form) ≡ form_assigns n form
  form_assigns_erased p n (set q v) = target_erased p n q
  form_assigns_erased p n (update kind op t q v) = target_erased p n q
  form_assigns_erased p n (copy q r) = refl
  form_assigns_erased p n (evaluate v) = refl
  form_assigns_erased p n (asserts at v) = refl
  form_assigns_erased p n (declare m initializer) = refl
  form_assigns_erased p n (declare_static m) = refl
  form_assigns_erased p n (block ss) = any_assigns_erased p n ss
  form_assigns_erased p n (if_then v s) = assigns_erased p n s
  form_assigns_erased p n (if_else v s t) = λ i. assigns_erased p n s i || assigns_erased p n t i
  form_assigns_erased p n (loop head first test third body) = λ i. any_assigns_erased p n first i || (any_assigns_erased p n third i || assigns_erased p n body i)
  form_assigns_erased p n (switch keyword v labels body) = assigns_erased p n body
  form_assigns_erased p n break = refl
  form_assigns_erased p n continue = refl
  form_assigns_erased p n (return keyword v) = refl
  form_assigns_erased p n empty = refl
  form_assigns_erased p n (mark kind) = refl

  any_assigns_erased : (p : PlainProgram) (n : ℕ) (ss : PlainStatements) → any_assigns n (erased_statements p ss) ≡ any_assigns n ss
  any_assigns_erased p n no_statements = refl
  any_assigns_erased p n (more_statements s rest) = λ i. assigns_erased p n s i || any_assigns_erased p n rest i

-- ---- what goes out of scope

pub scope_erased : (p : PlainProgram) (ss : PlainStatements) (env : Environment) → left_scope (erased_statements p ss) env ≡ left_scope ss env
scope_erased p no_statements env = refl
scope_erased p (more_statements (statement at (set q v)) rest) env = scope_erased p rest env
scope_erased p (more_statements (statement at (update kind op t q v)) rest) env = scope_erased p rest env
scope_erased p (more_statements (statement at (copy q r)) rest) env = scope_erased p rest env
scope_erased p (more_statements (statement at (evaluate v)) rest) env = scope_erased p rest env
scope_erased p (more_statements (statement at (asserts call v)) rest) env = scope_erased p rest env
scope_erased p (more_statements (statement at (declare n initializer)) rest) env = scope_erased p rest (out_of_scope env n)
scope_erased p (more_statements (statement at (declare_static n)) rest) env = scope_erased p rest env
scope_erased p (more_statements (statement at (block ss)) rest) env = scope_erased p rest env
scope_erased p (more_statements (statement at (if_then v s)) rest) env = scope_erased p rest env
scope_erased p (more_statements (statement at (if_else v s t)) rest) env = scope_erased p rest env
scope_erased p (more_statements (statement at (loop head first test third body)) rest) env = scope_erased p rest env
scope_erased p (more_statements (statement at (switch keyword v labels body)) rest) env = scope_erased p rest env
scope_erased p (more_statements (statement at break) rest) env = scope_erased p rest env
scope_erased p (more_statements (statement at continue) rest) env = scope_erased p rest env
scope_erased p (more_statements (statement at (return keyword v)) rest) env = scope_erased p rest env
scope_erased p (more_statements (statement at empty) rest) env = scope_erased p rest env
scope_erased p (more_statements (statement at (mark kind)) rest) env = scope_erased p rest env

-- ---- variables of a function

changed_erased : (p : PlainProgram) (f : ℕ → PlainVariable → Abstract → Abstract) → ((n : ℕ) (v : PlainVariable) (a : Abstract) → f n (erased_variable p v) a ≡ f n v a) → (n : ℕ) (vs : List PlainVariable) (env : Environment)
    → changed_each f n (map (erased_variable p) vs) env ≡ changed_each f n vs env
changed_erased p f each n [] env = refl
changed_erased p f each n (v ∷ vs) [] = refl
changed_erased p f each n (v ∷ vs) (None ∷ env) = λ i. None ∷ changed_erased p f each (suc n) vs env i
changed_erased p f each n (v ∷ vs) (Some a ∷ env) = λ i. Some (each n v a i) ∷ changed_erased p f each (suc n) vs env i

pub head_erased : (p : PlainProgram) (claim : Loop) (vs : List PlainVariable) (env : Environment) → head_of claim (map (erased_variable p) vs) env ≡ head_of claim vs env
head_erased p claim vs env =
    changed_erased p (λ n v a. record { range = range_claimed claim.vars n (integer_of v.type); offset = Some (own_offset n) })
    (λ n v a. λ i. record { range = range_claimed claim.vars n (kind_erased p v.type i); offset = Some (own_offset n) }) 0 vs env

pub hold_erased : (p : PlainProgram) (claim : Loop) (n : ℕ) (vs : List PlainVariable) (env : Environment) → ranges_hold claim n (map (erased_variable p) vs) env ≡ ranges_hold claim n vs env
hold_erased p claim n [] env = refl
hold_erased p claim n (v ∷ vs) [] = refl
hold_erased p claim n (v ∷ vs) (None ∷ env) = hold_erased p claim (suc n) vs env
hold_erased p claim n (v ∷ vs) (Some a ∷ env) = λ i. is_within a.range (range_claimed claim.vars n (kind_erased p v.type i)) && hold_erased p claim (suc n) vs env i

pub hold_reached_erased : (p : PlainProgram) (claim : Loop) (vs : List PlainVariable) (env : Option Environment) → ranges_hold_reached claim (map (erased_variable p) vs) env ≡ ranges_hold_reached claim vs env
hold_reached_erased p claim vs None = refl
hold_reached_erased p claim vs (Some env) = hold_erased p claim 0 vs env

pub forgotten_erased : (p : PlainProgram) (these others : ℕ → Bool) → ((n : ℕ) → these n ≡ others n) → (vs : List PlainVariable) (env : Environment)
    → assigned_forgotten these (map (erased_variable p) vs) env ≡ assigned_forgotten others vs env
forgotten_erased p these others same vs env =
    (λ i. assigned_forgotten (λ n. same n i) (map (erased_variable p) vs) env)
    ∙ changed_erased p (λ n v a. if others n then whole_type (integer_of v.type) else a) (λ n v a. λ i. if others n then whole_type (kind_erased p v.type i) else a) 0 vs env

pub restored_erased : (p : PlainProgram) (these others : ℕ → Bool) → ((n : ℕ) → these n ≡ others n) → (entry : Environment) (vs : List PlainVariable) (env : Environment)
    → offsets_restored these entry (map (erased_variable p) vs) env ≡ offsets_restored others entry vs env
restored_erased p these others same entry vs env =
    (λ i. offsets_restored (λ n. same n i) entry (map (erased_variable p) vs) env)
    ∙ changed_erased p (λ n v a. record { range = a.range; offset = if others n then None else offset_in (known entry n) }) (λ n v a. refl) 0 vs env

-- ---- assignments

stored_erased : (p : PlainProgram) (q : PlainPlace) (a : Abstract) (env : Environment) → stored (erased_place p q) a env ≡ stored q a env
stored_erased p (place at t (variable m)) a env = refl
stored_erased p (place at t (global m)) a env = refl
stored_erased p (place at t (literal m bytes)) a env = refl
stored_erased p (place at t (index b k)) a env = refl
stored_erased p (place at t (member q m)) a env = refl
stored_erased p (place at t (dereference v)) a env = refl

pub set_erased : (p : PlainProgram) (q : PlainPlace) (t u : PlainType) → is_integer u ≡ is_integer t → (o : Option Abstract) (env : Environment) → set_value (erased_place p q) u o env ≡ set_value q t o env
set_erased p q t u same None env = λ i. if same i then None else Some env
set_erased p q t u same (Some a) env = λ i. if same i then Some (stored_erased p q a env i) else Some env

update_kept : (p : PlainProgram) (op : BinOp) (t : PlainType) (q : PlainPlace) (b : Option Abstract) (env : Environment) → updated_value op t (erased_place p q) b env ≡ updated_value op t q b env
update_kept p op t (place at (void c) form) b env = refl
update_kept p op t (place at (pointer c u) form) b env = refl
update_kept p op t (place at (array c u n) form) b env = refl
update_kept p op t (place at (structure c n) form) b env = refl
update_kept p op t (place at (integer c kind) (variable m)) b env = refl
update_kept p op t (place at (integer c kind) (global m)) b env = refl
update_kept p op t (place at (integer c kind) (literal m bytes)) b env = refl
update_kept p op t (place at (integer c kind) (index a k)) b env = refl
update_kept p op t (place at (integer c kind) (member q m)) b env = refl
update_kept p op t (place at (integer c kind) (dereference v)) b env = refl

pub updated_erased : (p : PlainProgram) (op : BinOp) (t : PlainType) (q : PlainPlace) (b : Option Abstract) (env : Environment) → updated_value op (erased_type p t) (erased_place p q) b env ≡ updated_value op t q b env
updated_erased p op t q b env =
    update_kept p op (erased_type p t) q b env
    ∙ (λ i. if is_integer (place_type q)
    then option_map (λ r. stored q (converted_abstract (integer_of (place_type q)) r) env)
    (option_and_then (λ b. binary_abstract op (kind_erased p t i) (converted_abstract (kind_erased p t i) (before_update q env)) b) b)
    else Some env)
