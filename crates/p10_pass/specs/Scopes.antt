-- Which variables statements assign and declare, and what environments become where scopes and loops end.
use Rattle.std.specs.Prelude.{ℕ, suc, nat_eq, ◌||◌, Bool, false, if◌then◌else◌, List, [], ◌∷◌, Option, Some, None}
use Rattle.p10_core.specs.Constants.{integer_of}
use Rattle.p10_core.specs.Typed.{PlainPlace, place, variable, PlainStatement, statement, PlainStatementForm, set, update, declare, block, if_then, if_else, loop, switch, PlainStatements, no_statements, more_statements, PlainVariable}
use Rattle.p10_absx.specs.Abstract.{Offset, Abstract, whole_type}
use Rattle.p10_absx.specs.Environments.{Environment, known, out_of_scope}

-- whether a place is the variable with a number
abbrev pub is_target : ℕ → PlainPlace → Bool
is_target n (place at t (variable m)) = nat_eq m n
is_target n p = false

abbrev mutual
  -- whether a statement assigns the variable with a number: a declaration assigns nothing
  pub assigns : ℕ → PlainStatement → Bool
  assigns n (statement at form) = form_assigns n form

  -- the same for a form of statement
  pub form_assigns : ℕ → PlainStatementForm → Bool
  form_assigns n (set p v) = is_target n p
  form_assigns n (update kind op t p v) = is_target n p
  form_assigns n (block ss) = any_assigns n ss
  form_assigns n (if_then v s) = assigns n s
  form_assigns n (if_else v s t) = assigns n s || assigns n t
  form_assigns n (loop head first test third body) = any_assigns n first || (any_assigns n third || assigns n body)
  form_assigns n (switch keyword v labels body) = assigns n body
  form_assigns n form = false

  -- the same for statements, one after the other
  pub any_assigns : ℕ → PlainStatements → Bool
  any_assigns n no_statements = false
  any_assigns n (more_statements s rest) = assigns n s || any_assigns n rest

-- the variables that a block declares itself, not in a block in it, go out of scope
abbrev pub left_scope : PlainStatements → Environment → Environment
left_scope no_statements env = env
left_scope (more_statements (statement at (declare n initializer)) rest) env = left_scope rest (out_of_scope env n)
left_scope (more_statements s rest) env = left_scope rest env

-- each variable from number n on that has an entry gets another one, by its number and its type
abbrev pub changed_each : (ℕ → PlainVariable → Abstract → Abstract) → ℕ → List PlainVariable → Environment → Environment
changed_each f n (v ∷ variables) (Some a ∷ env) = Some (f n v a) ∷ changed_each f (suc n) variables env
changed_each f n (v ∷ variables) (None ∷ env) = None ∷ changed_each f (suc n) variables env
changed_each f n [] env = env
changed_each f n (v ∷ variables) [] = []

-- each variable that is assigned has any value of its type
abbrev pub assigned_forgotten : (ℕ → Bool) → List PlainVariable → Environment → Environment
assigned_forgotten assigned variables env = changed_each (λ n v a. if assigned n then whole_type (integer_of v.type) else a) 0 variables env

-- the offset that is known of a variable
abbrev pub offset_in : Option Abstract → Option Offset
offset_in None = None
offset_in (Some a) = a.offset

-- after a loop, offsets are about the head of the loop round it again: a variable that it assigns has none, and the others have
-- theirs from its entry
abbrev pub offsets_restored : (ℕ → Bool) → Environment → List PlainVariable → Environment → Environment
offsets_restored assigned entry variables env =
    changed_each (λ n v a. record { range = a.range; offset = if assigned n then None else offset_in (known entry n) }) 0 variables env
