-- The pass over statements: what is known of a function's integer variables after them, for each way in which they end.
use Rattle.std.specs.Prelude.{ℕ, suc, nat_eq, ◌&&◌, ◌||◌, not, Bool, true, false, is_some, is_none, if◌then◌else◌, List, [], ◌∷◌, ◌++◌, map, slice_get, Option, Some, None}
use Rattle.std.specs.Option.{option_map, option_and_then}
use Rattle.p10_base.specs.declared.span.Span.{Span}
use Rattle.p10_int.specs.declared.types.IntType.{IntType}
use Rattle.p10_int.specs.declared.operators.BinOp.{BinOp}
use Rattle.p10_range.specs.Ranges.{Interval, hull_of, is_within}
use Rattle.p10_core.specs.declared.statements.LoopHead.{LoopHead}
use Rattle.p10_core.specs.declared.statements.LoopKeyword.{LoopKeyword}
use Rattle.p10_core.specs.declared.statements.LoopKeyword.TheVariants.{Do}
use Rattle.p10_core.specs.declared.statements.Label.{Label}
use Rattle.p10_core.specs.Types.{PlainType}
use Rattle.p10_core.specs.Typed.{PlainValue, PlainPlace, place, variable, type_of, place_type, PlainItem, PlainWritten, one_scalar, scalars_of_text, PlainInitializer, not_initialized, single, copied, listed, PlainLabels, PlainStatement, statement, PlainStatementForm, set, update, copy, evaluate, asserts, declare, declare_static, block, if_then, if_else, loop, switch, break, continue, return, empty, mark, PlainStatements, no_statements, more_statements, PlainVariable, PlainFunction, PlainProgram}
use Rattle.p10_core.specs.Rows.{is_integer}
use Rattle.p10_core.specs.Constants.{integer_of}
use Rattle.p10_cert.specs.declared.claims.Rank.{Rank}
use Rattle.p10_cert.specs.declared.claims.Rank.TheVariants.{Task}
use Rattle.p10_cert.specs.Claims.{Value, Number, Loop, Func, Claims}
use Rattle.p10_absx.specs.Abstract.{Abstract, whole_type}
use Rattle.p10_absx.specs.Environments.{Environment, known, learned, hull_reached}
use Rattle.p10_absx.specs.Operators.{converted_abstract, binary_abstract}
use Rattle.p10_absx.specs.Assessing.{Assessed, assess, known_where, abstract_value}
use Rattle.p10_pass.specs.Scopes.{form_assigns, left_scope, assigned_forgotten, offsets_restored}
use Rattle.p10_pass.specs.Claiming.{head_of, ranges_hold, ranges_hold_reached, rank_in, enters_ranked, goes_back_ranked, is_enough, loop_claimed}
use Rattle.p10_pass.specs.Arguments.{has_value, failing_in, failing_at}

-- ## What a pass gives

-- a condition that fails: its number, and its place
pub record Failing : Type 0 where
  pub k : ℕ
  pub at : Span

-- a loop whose rank doesn't stand by itself: its number, the environment at its entry, and which of K8 to K10 fail
pub record Weakness : Type 0 where
  pub at : ℕ
  pub entry : Environment
  pub fails : List Failing

-- what statements leave: for each way in which they end what is known then, or nothing where no state ends so; the hull of the
-- ranges that are returned; the places of the failing K3, K5, K6 and K7, each in text order; and the loops whose ranks don't stand
pub record Left : Type 0 where
  pub normal : Option Environment
  pub breaks : Option Environment
  pub continues : Option Environment
  pub returns : Option Environment
  pub returned : Option Interval
  pub arguments : List Span
  pub results : List Span
  pub entries : List Span
  pub backs : List Span
  pub weak : List Weakness

-- no state ends in any way
abbrev pub nowhere : Left
nowhere = record {
  normal = None;
  breaks = None;
  continues = None;
  returns = None;
  returned = None;
  arguments = [];
  results = [];
  entries = [];
  backs = [];
  weak = [];
}

-- states end normally, if there are any
abbrev pub reached : Option Environment → Left
reached env = record nowhere { normal = env }

-- what follows where states come, if any do
abbrev pub where_going : Option Environment → (Environment → Left) → Left
where_going None go = nowhere
where_going (Some env) go = go env

-- the hull of two ranges that may be lacking
abbrev pub hull_range : Option Interval → Option Interval → Option Interval
hull_range None b = b
hull_range (Some a) None = Some a
hull_range (Some a) (Some b) = Some (hull_of a b)

-- all ends of two parts, of which the second gives the normal one
abbrev pub followed : Left → Left → Left
followed a b = record {
  normal = b.normal;
  breaks = hull_reached a.breaks b.breaks;
  continues = hull_reached a.continues b.continues;
  returns = hull_reached a.returns b.returns;
  returned = hull_range a.returned b.returned;
  arguments = a.arguments ++ b.arguments;
  results = a.results ++ b.results;
  entries = a.entries ++ b.entries;
  backs = a.backs ++ b.backs;
  weak = a.weak ++ b.weak;
}

-- one part after another
abbrev pub and_then_pass : Left → (Environment → Left) → Left
and_then_pass a go = followed a (where_going a.normal go)

-- one of two parts: the ends of both
abbrev pub beside : Left → Left → Left
beside a b = record (followed a b) { normal = hull_reached a.normal b.normal }

-- with failing calls before
abbrev pub with_calls : List Span → Left → Left
with_calls names a = record a { arguments = names ++ a.arguments }

-- each end as a function changes it
abbrev pub each_end : (Environment → Environment) → Left → Left
each_end f a = record a {
  normal = option_map f a.normal;
  breaks = option_map f a.breaks;
  continues = option_map f a.continues;
  returns = option_map f a.returns;
}

-- a block: the variables that it declares go out of scope at its end
abbrev pub as_block : PlainStatements → Left → Left
as_block ss a = each_end (left_scope ss) a

-- ## How calls and loops count

-- by what calls and inner loops count: claims of calls' results, and of the function's loops and result. In a trial pass nothing is
-- claimed: a call has its type's range, and an inner loop gives each variable that it assigns any value of its type
pub record Manner : Type 0 where
  pub calls : Option Claims
  pub loops : Option (List Loop)
  pub result : Option Value
  pub variables : List PlainVariable

-- the same in a function, by some claims or in a trial pass
abbrev pub manner_in : PlainFunction → Option Claims → Option (List Loop) → Option Value → Manner
manner_in f calls loops result = record { calls = calls; loops = loops; result = result; variables = f.variables }

-- ## Assignments and declarations

-- the environment in which a place has another value: only integer frame variables in scope are known
abbrev pub stored : PlainPlace → Abstract → Environment → Environment
stored (place at t (variable n)) a env = if is_some (known env n) then learned env n a else env
stored p a env = env

-- what a place has before it is updated
abbrev pub before_update : PlainPlace → Environment → Abstract
before_update (place at t (variable n)) env = of (known env n)
  where
    of : Option Abstract → Abstract
    of (Some a) = a
    of None = whole_type (integer_of t)
before_update p env = whole_type (integer_of (place_type p))

-- `P = e;`: no state is left where the value has none
abbrev pub set_value : PlainPlace → PlainType → Option Abstract → Environment → Option Environment
set_value p t None env = if is_integer t then None else Some env
set_value p t (Some a) env = if is_integer t then Some (stored p a env) else Some env

-- `P op= e;`: of an integer, by the rows of the conversion, of the operator, and of the conversion back
abbrev pub updated_value : BinOp → PlainType → PlainPlace → Option Abstract → Environment → Option Environment
updated_value op t p b env =
    if is_integer (place_type p)
    then option_map (λ r. stored p (converted_abstract (integer_of (place_type p)) r) env)
    (option_and_then (λ b. binary_abstract op (integer_of t) (converted_abstract (integer_of t) (before_update p env)) b) b)
    else Some env

-- a value that isn't kept: no state is left where it has none
abbrev pub value_passed : Manner → PlainValue → Environment → Left
value_passed m v env = with_calls (failing_in m.calls v env) (reached (if has_value m.calls v env then Some env else None))

-- the values of a list, one after the other
abbrev pub items_passed : Manner → List PlainItem → Environment → Left
items_passed m [] env = reached (Some env)
items_passed m (item ∷ items) env = and_then_pass (written item.written) (λ env. items_passed m items env)
  where
    written : PlainWritten → Left
    written (one_scalar v) = value_passed m v env
    written (scalars_of_text bytes) = reached (Some env)

-- the declaration of an integer frame variable: it has any value of its type, and then that of its initialiser, which sees it already
abbrev pub integer_declared : Manner → ℕ → IntType → PlainInitializer → Environment → Left
integer_declared m n kind (single v) env =
    let seen : Environment = learned env n (whole_type kind) in
    with_calls (failing_in m.calls v seen) (reached (option_map (learned seen n) (abstract_value m.calls seen v)))
integer_declared m n kind initializer env = reached (Some (learned env n (whole_type kind)))

-- the declaration of another variable
abbrev pub other_declared : Manner → PlainInitializer → Environment → Left
other_declared m not_initialized env = reached (Some env)
other_declared m (single v) env = value_passed m v env
other_declared m (copied p) env = with_calls (failing_at m.calls p env) (reached (Some env))
other_declared m (listed at items) env = items_passed m items env

-- a declaration
abbrev pub declared : Manner → ℕ → Option PlainVariable → PlainInitializer → Environment → Left
declared m n None initializer env = reached (Some env)
declared m n (Some v) initializer env =
    if v.frame && is_integer v.type then integer_declared m n (integer_of v.type) initializer env else other_declared m initializer env

-- ## Returns

-- K5: whether a returned value lies in the result's claimed range
abbrev pub result_lies : Option Value → Interval → Bool
result_lies (Some (Number r)) a = is_within a r
result_lies claim a = true

-- `return e;` of an integer, with the span of its keyword
abbrev pub range_returned : Manner → Span → Option Abstract → Environment → Left
range_returned m keyword None env = nowhere
range_returned m keyword (Some a) env =
    record nowhere { returns = Some env; returned = Some a.range; results = if result_lies m.result a.range then [] else keyword ∷ [] }

-- `return e;`
abbrev pub value_returned : Manner → Span → PlainValue → Environment → Left
value_returned m keyword v env =
    if is_integer (type_of v) then range_returned m keyword (abstract_value m.calls env v) env else record nowhere { returns = Some env }

-- ## Loops

-- a loop by the claims of the function's loops, or without them
abbrev pub by_claim : Option (List Loop) → Left → (List Loop → Left) → Left
by_claim None trial go = trial
by_claim (Some loops) trial go = go loops

-- the test of a loop in an environment: what is known where it is true and where it is false, and its failing calls. Where a `for` has
-- none it is true
pub record Tested : Type 0 where
  pub truth : Option Environment
  pub contrary : Option Environment
  pub names : List Span

abbrev pub tested_in : Manner → Option PlainValue → Environment → Tested
tested_in m None env = record { truth = Some env; contrary = None; names = [] }
tested_in m (Some v) env =
    let a : Assessed = assess m.calls v env in record { truth = known_where true env a; contrary = known_where false env a; names = failing_in m.calls v env }

-- the same where states may not come
abbrev pub tested_reached : Manner → Option PlainValue → Option Environment → Tested
tested_reached m v None = record { truth = None; contrary = None; names = [] }
tested_reached m v (Some env) = tested_in m v env

-- one round of a loop from its head: where its body is entered, where it goes back, where it ends, what its parts leave, and its failing
-- calls in text order
pub record Round : Type 0 where
  pub enters : Option Environment
  pub back : Option Environment
  pub exits : Option Environment
  pub body : Left
  pub names : List Span

-- `while` and `for`: the test, the body, and the third clause after its end and its `continue`s; `do`: the body, and the test after these
abbrev pub round_of : Manner → LoopKeyword → Option PlainValue → (Environment → Left) → (Environment → Left) → Environment → Round
round_of m Do v third body head =
    let b : Left = body head in
    let t : Tested = tested_reached m v (hull_reached b.normal b.continues) in
    record { enters = Some head; back = t.truth; exits = hull_reached t.contrary b.breaks; body = b; names = b.arguments ++ t.names }
round_of m keyword v third body head =
    let t : Tested = tested_in m v head in
    let b : Left = where_going t.truth body in
    let c : Left = where_going (hull_reached b.normal b.continues) third in
    record { enters = t.truth; back = c.normal; exits = hull_reached t.contrary b.breaks; body = b; names = t.names ++ (c.arguments ++ b.arguments) }

-- a condition that fails at a place, or none
abbrev pub failing_if : Bool → ℕ → Span → List Failing
failing_if fails k at = if fails then record { k = k; at = at } ∷ [] else []

-- K8 to K10 of a loop that aren't met by the pass; the task has none of them
abbrev pub rank_fails : Loop → Span → Environment → Round → List Failing
rank_fails claim at entry r = of claim.rank
  where
    of : Rank → List Failing
    of Task = []
    of rank = failing_if (not (enters_ranked rank r.enters)) 8 at ++ (failing_if (not (goes_back_ranked rank r.back)) 9 at
        ++ failing_if (not (is_enough claim.turns (rank_in rank entry))) 10 at)

-- the weakness of a loop, if it has one
abbrev pub weakness_of : ℕ → Environment → List Failing → List Weakness
weakness_of n entry [] = []
weakness_of n entry fails = record { at = n; entry = entry; fails = fails } ∷ []

-- a place where a condition doesn't hold
abbrev pub place_unless : Bool → Span → List Span
place_unless b at = if b then [] else at ∷ []

-- what a round of a loop under a claim leaves after the loop
abbrev pub loop_left : Manner → Loop → LoopHead → (ℕ → Bool) → Environment → Round → Left
loop_left m claim head assigned entry r = record {
  normal = option_map (offsets_restored assigned entry m.variables) r.exits;
  breaks = None;
  continues = None;
  returns = option_map (offsets_restored assigned entry m.variables) r.body.returns;
  returned = r.body.returned;
  arguments = r.names;
  results = r.body.results;
  entries = place_unless (ranges_hold claim 0 m.variables entry) head.span ++ r.body.entries;
  backs = place_unless (ranges_hold_reached claim m.variables r.back) head.span ++ r.body.backs;
  weak = weakness_of head.number entry (rank_fails claim head.span entry r) ++ r.body.weak;
}

-- ## `switch`

-- whether a `case`, or `default`, stands before item k
abbrev pub is_case : ℕ → List Label → Bool
is_case k [] = false
is_case k (l ∷ cases) = nat_eq l.place k || is_case k cases

-- the same with `default`
abbrev pub is_labelled : ℕ → PlainLabels → Bool
is_labelled k labels = is_case k labels.cases || of labels.otherwise
  where
    of : Option ℕ → Bool
    of None = false
    of (Some n) = nat_eq n k

-- after a `switch`: its breaks end normally, and without `default` there is a way past its body
abbrev pub switch_left : PlainLabels → Environment → Left → Left
switch_left labels env a = record a {
  normal = hull_reached (hull_reached a.normal a.breaks) (if is_none labels.otherwise then Some env else None);
  breaks = None;
}

-- ## Statements

abbrev mutual
  -- what a statement leaves
  pub pass_statement : Manner → PlainStatement → Environment → Left
  pass_statement m (statement at form) env = pass_form m form env

  -- a row for each form
  pub pass_form : Manner → PlainStatementForm → Environment → Left
  pass_form m (set p v) env =
      with_calls (failing_at m.calls p env ++ failing_in m.calls v env) (reached (set_value p (type_of v) (abstract_value m.calls env v) env))
  pass_form m (update kind op t p v) env =
      with_calls (failing_at m.calls p env ++ failing_in m.calls v env) (reached (updated_value op t p (abstract_value m.calls env v) env))
  pass_form m (copy p q) env = with_calls (failing_at m.calls p env ++ failing_at m.calls q env) (reached (Some env))
  pass_form m (evaluate v) env = value_passed m v env
  pass_form m (asserts call v) env = with_calls (failing_in m.calls v env) (reached (known_where true env (assess m.calls v env)))
  pass_form m (declare n initializer) env = declared m n (slice_get m.variables n) initializer env
  pass_form m (declare_static n) env = reached (Some env)
  pass_form m (block ss) env = as_block ss (pass_statements m ss env)
  pass_form m (if_then v s) env =
      let a : Assessed = assess m.calls v env in
      with_calls (failing_in m.calls v env) (beside (where_going (known_where true env a) (λ env. pass_statement m s env)) (reached (known_where false env a)))
  pass_form m (if_else v s t) env =
      let a : Assessed = assess m.calls v env in
      with_calls (failing_in m.calls v env)
      (beside (where_going (known_where true env a) (λ env. pass_statement m s env)) (where_going (known_where false env a) (λ env. pass_statement m t env)))
  pass_form m (loop head first tested third body) env =
      let assigned : ℕ → Bool = λ n. form_assigns n (loop head first tested third body) in
      by_claim m.loops (reached (Some (assigned_forgotten assigned m.variables env)))
      (λ loops. as_block first (and_then_pass (pass_statements m first env) (λ entry.
      loop_left m (loop_claimed loops head.number) head assigned entry
      (round_of m head.keyword tested (λ env. pass_statements m third env) (λ env. pass_statement m body env) (head_of (loop_claimed loops head.number) m.variables entry)))))
  pass_form m (switch keyword v labels body) env =
      with_calls (failing_in m.calls v env) (if has_value m.calls v env then pass_switch m labels body env else nowhere)
  pass_form m break env = record nowhere { breaks = Some env }
  pass_form m continue env = record nowhere { continues = Some env }
  pass_form m (return keyword None) env = record nowhere { returns = Some env }
  pass_form m (return keyword (Some v)) env = with_calls (failing_in m.calls v env) (value_returned m keyword v env)
  pass_form m empty env = reached (Some env)
  pass_form m (mark kind) env = reached (Some env)

  -- statements, one after the other
  pub pass_statements : Manner → PlainStatements → Environment → Left
  pass_statements m no_statements env = reached (Some env)
  pass_statements m (more_statements s rest) env = and_then_pass (pass_statement m s env) (λ env. pass_statements m rest env)

  -- the body of a `switch`: a body that is no block has no labels, so it isn't entered
  pub pass_switch : Manner → PlainLabels → PlainStatement → Environment → Left
  pass_switch m labels (statement at form) env = pass_switch_form m labels form env

  -- the same for a form
  pub pass_switch_form : Manner → PlainLabels → PlainStatementForm → Environment → Left
  pass_switch_form m labels (block ss) env = switch_left labels env (as_block ss (pass_from m labels 0 ss env None))
  pass_switch_form m labels form env = reached (Some env)

  -- the items of its body from item k on, where the `switch` is entered with an environment, and another one may come from before
  pub pass_from : Manner → PlainLabels → ℕ → PlainStatements → Environment → Option Environment → Left
  pass_from m labels k no_statements env before = reached before
  pass_from m labels k (more_statements s rest) env before =
      let a : Left = where_going (if is_labelled k labels then hull_reached before (Some env) else before) (λ env. pass_statement m s env) in
      followed a (pass_from m labels (suc k) rest env a.normal)

-- the failing K3, K5, K6 and K7 of what is left, by number and then in text order
abbrev pub fails_of : Left → List Failing
fails_of a = map (failing 3) a.arguments ++ (map (failing 5) a.results ++ (map (failing 6) a.entries ++ map (failing 7) a.backs))
  where
    failing : ℕ → Span → Failing
    failing k at = record { k = k; at = at }

-- ## Functions

-- how calls and loops count in a function under claims
abbrev pub claimed_manner : Claims → Option Func → List PlainVariable → Manner
claimed_manner c None variables = record { calls = Some c; loops = Some []; result = None; variables = variables }
claimed_manner c (Some f) variables = record { calls = Some c; loops = Some f.loops; result = Some f.result; variables = variables }

-- the same in a trial pass
abbrev pub trial_manner : List PlainVariable → Manner
trial_manner variables = record { calls = None; loops = None; result = None; variables = variables }

-- how they count in the function with a number, where a certificate may not stand
abbrev pub manner_of : PlainFunction → Option Claims → ℕ → Manner
manner_of g None f = trial_manner g.variables
manner_of g (Some c) f = claimed_manner c (slice_get c.funcs f) g.variables

-- what the body of a function leaves
abbrev pub pass_body : PlainFunction → Option Claims → ℕ → Environment → Left
pass_body g c f env = as_block g.body (pass_statements (manner_of g c f) g.body env)

-- the same for the function with a number, if it is there
abbrev pub pass_of : PlainProgram → Claims → ℕ → Environment → Left
pass_of p c f env = of (slice_get p.functions f)
  where
    of : Option PlainFunction → Left
    of None = nowhere
    of (Some g) = pass_body g (Some c) f env
