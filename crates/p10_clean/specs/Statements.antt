-- What isn't clean in statements, where the pass comes to them: conditions C1 to C6 and C8.
use Rattle.std.specs.Prelude.{ℕ, suc, ◌||◌, Bool, true, false, if◌then◌else◌, List, [], ◌∷◌, ◌++◌, slice_get, Option, Some, None}
use Rattle.std.specs.Bool.{nat_eq}
use Rattle.p10_base.specs.declared.span.Span.{Span}
use Rattle.p10_base.specs.declared.at.At.{At}
use Rattle.p10_int.specs.declared.operators.BinOp.{BinOp}
use Rattle.p10_core.specs.declared.statements.LoopHead.{LoopHead}
use Rattle.p10_core.specs.declared.statements.LoopKeyword.{LoopKeyword}
use Rattle.p10_core.specs.declared.statements.LoopKeyword.TheVariants.{Do}
use Rattle.p10_core.specs.Types.{PlainType}
use Rattle.p10_core.specs.Typed.{PlainValue, PlainPlace, place, variable, place_at, place_type, PlainItem, PlainWritten, one_scalar, scalars_of_text, PlainInitializer, not_initialized, single, copied, listed, PlainLabels, PlainStatement, statement, PlainStatementForm, set, update, copy, evaluate, asserts, declare, declare_static, block, if_then, if_else, loop, switch, break, continue, return, empty, mark, PlainStatements, no_statements, more_statements, PlainVariable}
use Rattle.p10_core.specs.Nodes.{PlainNode, a_place, nodes_of_initializer}
use Rattle.p10_core.specs.Rows.{is_integer}
use Rattle.p10_core.specs.Constants.{integer_of}
use Rattle.p10_cert.specs.Claims.{Loop}
use Rattle.p10_absx.specs.Abstract.{Abstract, whole_type}
use Rattle.p10_absx.specs.Environments.{Environment, learned, hull_reached}
use Rattle.p10_absx.specs.Operators.{converted_abstract}
use Rattle.p10_absx.specs.Assessing.{assess, known_where, abstract_value}
use Rattle.p10_pass.specs.Arguments.{has_value, where_reached}
use Rattle.p10_pass.specs.Claiming.{head_of, loop_claimed}
use Rattle.p10_pass.specs.Passing.{Manner, Left, where_going, before_update, tested_in, is_labelled, pass_statement, pass_statements}
use Rattle.p10_clean.specs.declared.flaw.Flaw.{Flaw}
use Rattle.p10_clean.specs.Settings.{Settings, marked_as, on_both, Ways, ways_of, ways_of_all, case_settings}
use Rattle.p10_clean.specs.Literals.{lies_in_literal}
use Rattle.p10_clean.specs.Values.{flaw_if, operands_flaws, read_flaws, flaws_in_value, flaws_in_place, flaws_in_maybe}

-- ## Assignments

-- C8: what is written doesn't lie in a string literal (C99 6.4.5p6)
abbrev pub target_flaws : PlainPlace → List Flaw
target_flaws p = flaw_if (lies_in_literal p) 8 (place_at p).span

-- the operator of `P op= e;`, over what P and `e` have: on integers C1 to C3, and else C5
abbrev pub update_flaws : Span → BinOp → PlainType → PlainPlace → Option Abstract → Environment → List Flaw
update_flaws at op t p b env =
    if is_integer (place_type p)
    then operands_flaws at op (integer_of t) (Some (converted_abstract (integer_of t) (before_update p env))) b
    else flaw_if true 5 at

-- ## Declarations

-- whether a node is the variable with a number
abbrev pub is_variable : ℕ → PlainNode → Bool
is_variable n (a_place (place at t (variable k))) = nat_eq k n
is_variable n node = false

-- whether one of some nodes is the variable with a number
abbrev pub names_variable : ℕ → List PlainNode → Bool
names_variable n [] = false
names_variable n (node ∷ nodes) = is_variable n node || names_variable n nodes

-- C6 of an object: it has an initialiser, in which it isn't named
abbrev pub lacks_value : ℕ → PlainInitializer → Bool
lacks_value n not_initialized = true
lacks_value n initializer = names_variable n (nodes_of_initializer initializer)

-- the flaws in what is written for scalars
abbrev pub written_flaws : Manner → Settings → PlainWritten → Environment → List Flaw
written_flaws m before (one_scalar v) env = flaws_in_value m before v env
written_flaws m before (scalars_of_text bytes) env = []

-- whether the next item of a list is reached after what is written
abbrev pub goes_past : Manner → PlainWritten → Environment → Bool
goes_past m (one_scalar v) env = has_value m.calls v env
goes_past m (scalars_of_text bytes) env = true

-- the flaws in the values of a list, one after the other
abbrev pub flaws_in_items : Manner → Settings → List PlainItem → Environment → List Flaw
flaws_in_items m before [] env = []
flaws_in_items m before (item ∷ items) env = written_flaws m before item.written env ++ (if goes_past m item.written env then flaws_in_items m before items env else [])

-- the flaws in an initialiser
abbrev pub flaws_in_initializer : Manner → Settings → PlainInitializer → Environment → List Flaw
flaws_in_initializer m before not_initialized env = []
flaws_in_initializer m before (single v) env = flaws_in_value m before v env
flaws_in_initializer m before (copied p) env = flaws_in_place m before p env
flaws_in_initializer m before (listed at items) env = flaws_in_items m before items env

-- the environment in which an initialiser is evaluated: an integer frame variable is known already, with any value of its type
abbrev pub declaring : ℕ → PlainVariable → Environment → Environment
declaring n v env = if is_integer v.type then learned env n (whole_type (integer_of v.type)) else env

-- a declaration: its variable isn't set yet where its initialiser is evaluated, and an object stands at its name
abbrev pub declaration_flaws : Manner → Settings → ℕ → Option PlainVariable → PlainInitializer → Environment → List Flaw
declaration_flaws m before n None initializer env = []
declaration_flaws m before n (Some v) initializer env =
    if v.frame
    then flaws_in_initializer m (marked_as false n before) initializer (declaring n v env)
    else flaw_if (lacks_value n initializer) 6 v.span ++ flaws_in_initializer m before initializer env

-- ## Loops

-- what is claimed of a function's loops; nothing in a trial pass
abbrev pub loops_among : Option (List Loop) → List Loop
loops_among None = []
loops_among (Some loops) = loops

-- the environment at the head of a loop that is entered
abbrev pub head_env : Manner → LoopHead → Environment → Environment
head_env m head entry = head_of (loop_claimed (loops_among m.loops) head.number) m.variables entry

-- what is known after a body, where it ends and where it goes on with the next turn
abbrev pub next_turn : Left → Option Environment
next_turn body = hull_reached body.normal body.continues

-- what is set there
abbrev pub next_settings : Ways → Settings
next_settings body = on_both body.normal body.continues

-- the flaws in a loop that is entered: in its test, its third clause and its body, in text order. The parts are given as functions of
-- what is known and set where they begin
abbrev pub round_flaws : Manner → LoopKeyword → Option PlainValue → (Environment → Settings → List Flaw) → (Environment → Settings → List Flaw) → (Environment → Left) → Settings → Ways → Environment → List Flaw
round_flaws m Do tested third body pass_body entry ways head =
    body head entry ++ where_reached (next_turn (pass_body head)) (λ env. flaws_in_maybe m (next_settings ways) tested env)
round_flaws m keyword tested third body pass_body entry ways head =
    let truth : Option Environment = (tested_in m tested head).truth in
    flaws_in_maybe m entry tested head ++ (where_reached (next_turn (where_going truth pass_body)) (λ env. third env (next_settings ways))
    ++ where_reached truth (λ env. body env entry))

-- ## Statements

-- what is known where an item of a `switch`'s body is entered
abbrev pub case_entry : Bool → Environment → Option Environment → Option Environment
case_entry labelled env before = if labelled then hull_reached before (Some env) else before

abbrev mutual
  -- the flaws in a statement
  pub flaws_in_statement : Manner → PlainStatement → Settings → Environment → List Flaw
  flaws_in_statement m (statement at form) before env = flaws_in_statement_form m at form before env

  -- a row for each form, at its tree
  pub flaws_in_statement_form : Manner → At → PlainStatementForm → Settings → Environment → List Flaw
  flaws_in_statement_form m at (set p v) before env = target_flaws p ++ (flaws_in_place m before p env ++ flaws_in_value m before v env)
  flaws_in_statement_form m at (update kind op t p v) before env =
      target_flaws p ++ (read_flaws m before p ++ (update_flaws at.span op t p (abstract_value m.calls env v) env
      ++ (flaws_in_place m before p env ++ flaws_in_value m before v env)))
  flaws_in_statement_form m at (copy p q) before env = target_flaws p ++ (flaws_in_place m before p env ++ flaws_in_place m before q env)
  flaws_in_statement_form m at (evaluate v) before env = flaws_in_value m before v env
  flaws_in_statement_form m at (asserts call v) before env = flaws_in_value m before v env
  flaws_in_statement_form m at (declare n initializer) before env = declaration_flaws m before n (slice_get m.variables n) initializer env
  flaws_in_statement_form m at (declare_static n) before env = []
  flaws_in_statement_form m at (block ss) before env = flaws_in_statements m ss before env
  flaws_in_statement_form m at (if_then v s) before env =
      flaws_in_value m before v env ++ where_reached (known_where true env (assess m.calls v env)) (λ env. flaws_in_statement m s before env)
  flaws_in_statement_form m at (if_else v s t) before env =
      flaws_in_value m before v env ++ (where_reached (known_where true env (assess m.calls v env)) (λ env. flaws_in_statement m s before env)
      ++ where_reached (known_where false env (assess m.calls v env)) (λ env. flaws_in_statement m t before env))
  flaws_in_statement_form m at (loop head first tested third body) before env =
      let entry : Settings = (ways_of_all first before).normal in
      flaws_in_statements m first before env ++ where_reached (pass_statements m first env).normal (λ known.
      round_flaws m head.keyword tested (λ env settings. flaws_in_statements m third settings env) (λ env settings. flaws_in_statement m body settings env)
      (λ env. pass_statement m body env) entry (ways_of body entry) (head_env m head known))
  flaws_in_statement_form m at (switch keyword v labels body) before env =
      flaws_in_value m before v env ++ (if has_value m.calls v env then flaws_in_switch m labels body before env else [])
  flaws_in_statement_form m at break before env = []
  flaws_in_statement_form m at continue before env = []
  flaws_in_statement_form m at (return keyword v) before env = flaws_in_maybe m before v env
  flaws_in_statement_form m at empty before env = []
  flaws_in_statement_form m at (mark kind) before env = []

  -- the flaws in statements, one after the other
  pub flaws_in_statements : Manner → PlainStatements → Settings → Environment → List Flaw
  flaws_in_statements m no_statements before env = []
  flaws_in_statements m (more_statements s rest) before env =
      flaws_in_statement m s before env ++ where_reached (pass_statement m s env).normal (λ env. flaws_in_statements m rest (ways_of s before).normal env)

  -- the flaws in the body of a `switch` that is entered: one that is no block has no labels
  pub flaws_in_switch : Manner → PlainLabels → PlainStatement → Settings → Environment → List Flaw
  flaws_in_switch m labels (statement at form) before env = flaws_in_switch_form m labels form before env

  -- the same for a form
  pub flaws_in_switch_form : Manner → PlainLabels → PlainStatementForm → Settings → Environment → List Flaw
  flaws_in_switch_form m labels (block ss) before env = flaws_from m labels 0 ss before env None None
  flaws_in_switch_form m labels form before env = []

  -- the items of its body from item k on, where the `switch` is entered with what is set and known there, and other things may be set and
  -- known where the item before ends
  pub flaws_from : Manner → PlainLabels → ℕ → PlainStatements → Settings → Environment → Settings → Option Environment → List Flaw
  flaws_from m labels k no_statements entry env before known = []
  flaws_from m labels k (more_statements s rest) entry env before known =
      let here : Option Environment = case_entry (is_labelled k labels) env known in
      let there : Settings = case_settings (is_labelled k labels) entry before in
      where_reached here (λ env. flaws_in_statement m s there env)
      ++ flaws_from m labels (suc k) rest entry env (ways_of s there).normal (where_going here (λ env. pass_statement m s env)).normal
