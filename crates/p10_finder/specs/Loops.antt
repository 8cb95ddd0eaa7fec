-- What is claimed of the loops in statements: one after the other in text order, each under the claims of those before it.
use Rattle.std.specs.Prelude.{ℕ, suc, nat_lt, ◌&&◌, length, if◌then◌else◌, Bool, true, false, List, [], ◌∷◌, ◌++◌, Option, Some, None}
use Rattle.std.specs.Option.{option_and_then}
use Rattle.p10_base.specs.declared.span.Span.{Span}
use Rattle.p10_core.specs.declared.statements.LoopHead.{LoopHead}
use Rattle.p10_core.specs.declared.statements.LoopKeyword.{LoopKeyword}
use Rattle.p10_core.specs.declared.statements.LoopKeyword.TheVariants.{Do}
use Rattle.p10_core.specs.Typed.{PlainValue, PlainLabels, PlainStatement, statement, PlainStatementForm, block, if_then, if_else, loop, switch, PlainStatements, no_statements, more_statements, PlainVariable}
use Rattle.p10_cert.specs.declared.claims.Rank.TheVariants.{One, Task}
use Rattle.p10_cert.specs.Claims.{Loop, Claims}
use Rattle.p10_absx.specs.Environments.{Environment, hull_reached}
use Rattle.p10_absx.specs.Assessing.{assess, known_where}
use Rattle.p10_fit.specs.Fits.{is_task}
use Rattle.p10_pass.specs.Scopes.{form_assigns}
use Rattle.p10_pass.specs.Claiming.{head_of}
use Rattle.p10_pass.specs.Arguments.{has_value}
use Rattle.p10_pass.specs.Passing.{Manner, pass_statement, pass_statements, is_labelled}
use Rattle.p10_candidates.specs.Candidates.{LoopEntry}
use Rattle.p10_candidates.specs.Trials.{Rounds, LoopFound, loop_found, task_found, unreached_found, trial_rounds}
use Rattle.p10_candidates.specs.Approaches.{Approach}
use Rattle.p10_approach.specs.Approaches.{Approached}
use Rattle.p10_turns.specs.LoopParts.{LoopParts}

-- where loops are looked for: what is claimed of functions, of which the results count; the variables of the function; the number of the
-- task loop, if it has the task; and what is offered for its other loops, by their numbers and by how many loops they stand in
pub record Search : Type 0 where
  pub calls : Claims
  pub variables : List PlainVariable
  pub task : Option ℕ
  pub offers : ℕ → ℕ → Option LoopParts → LoopEntry → Option Approached

-- the loops found so far, in text order: what is claimed of them; the keywords of those whose turns have no bound; and of each the
-- variables whose approach bounds its turns, if such do
pub record LoopsFound : Type 0 where
  pub claims : List Loop
  pub unbounded : List Span
  pub approaches : List (Option Approach)

-- none so far
abbrev pub no_loops : LoopsFound
no_loops = record { claims = []; unbounded = []; approaches = [] }

-- one more
abbrev pub with_loop : LoopsFound → LoopFound → LoopsFound
with_loop found l = record { claims = found.claims ++ l.claim ∷ []; unbounded = found.unbounded ++ l.unbounded; approaches = found.approaches ++ l.approach ∷ [] }

-- ## Environments on the way

-- how calls and loops count after these loops were found
abbrev pub manner_after : Search → LoopsFound → Manner
manner_after s found = record { calls = Some s.calls; loops = Some found.claims; result = None; variables = s.variables }

-- what is known after a statement whose loops were found, where a state comes to it
abbrev pub known_after_statement : Search → LoopsFound → PlainStatement → Option Environment → Option Environment
known_after_statement s found x env = option_and_then (λ env. (pass_statement (manner_after s found) x env).normal) env

-- what is known where a value is true or false, where a state comes to it
abbrev pub known_where_value : Search → PlainValue → Bool → Option Environment → Option Environment
known_where_value s v truth env = option_and_then (λ env. known_where truth env (assess (Some s.calls) v env)) env

-- what is known where a `switch` on a value comes to its labels
abbrev pub known_after_value : Search → PlainValue → Option Environment → Option Environment
known_after_value s v env = option_and_then (λ env. if has_value (Some s.calls) v env then Some env else None) env

-- what is known at the entry of a loop: after its first clause (C99 6.8.5.3)
abbrev pub known_at_entry : Search → LoopsFound → PlainStatements → Option Environment → Option Environment
known_at_entry s found first env = option_and_then (λ env. (pass_statements (manner_after s found) first env).normal) env

-- what is known where the body of a loop is entered from its head: a `do` tests after it, and a `for` may have no test (C99 6.8.5)
abbrev pub known_in_body : Search → LoopKeyword → Option PlainValue → Environment → Option Environment
known_in_body s Do tested head = Some head
known_in_body s keyword None head = Some head
known_in_body s keyword (Some v) head = known_where_value s v true (Some head)

-- the same under the claim of the loop, where a state comes to its entry
abbrev pub known_under : Search → LoopKeyword → Option PlainValue → Loop → Option Environment → Option Environment
known_under s keyword tested claim entry = option_and_then (λ entry. known_in_body s keyword tested (head_of claim s.variables entry)) entry

-- ## One loop

-- which of the variables statements of a form assign
abbrev pub assigned_in : Search → PlainStatementForm → ℕ → Bool
assigned_in s form n = nat_lt n (length s.variables) && form_assigns n form

-- a loop that is entered with an environment
abbrev pub loop_entry : Search → (ℕ → Bool) → Option PlainValue → Environment → LoopEntry
loop_entry s assigned tested entry = record { variables = s.variables; assigned = assigned; guard = tested; entry = entry }

-- what a loop counts with by what is offered for it, if something is
abbrev pub found_with : Option Approached → LoopFound → LoopFound
found_with None other = other
found_with (Some a) other = record { claim = a.claim; unbounded = []; approach = Some a.approach }

-- what a loop counts with that is entered, and may be the task: for the task nothing is offered
abbrev pub entered_found : Option Approached → Bool → Span → Rounds → LoopEntry → ℕ → LoopFound
entered_found offered task keyword round l depth = if task then task_found round l depth else found_with offered (loop_found keyword round l depth)

-- the same for a loop to whose entry a state may not come
abbrev pub reached_found : (LoopEntry → Option Approached) → Bool → Span → Rounds → (Environment → LoopEntry) → ℕ → Option Environment → LoopFound
reached_found offers task keyword round l depth None = unreached_found depth (if task then Task else One)
reached_found offers task keyword round l depth (Some entry) = entered_found (offers (l entry)) task keyword round (l entry) depth

-- a loop that was found: the loops with it, and what is known where its body is entered under its claim
pub record LoopPassed : Type 0 where
  pub found : LoopsFound
  pub inside : Option Environment

-- what comes of a claim of a loop
abbrev pub passed_by : Search → LoopKeyword → Option PlainValue → Option Environment → LoopsFound → LoopFound → LoopPassed
passed_by s keyword tested entry found l = record { found = with_loop found l; inside = known_under s keyword tested l.claim entry }

-- a loop, after those found so far
abbrev pub loop_passed : Search → ℕ → LoopHead → PlainStatements → Option PlainValue → PlainStatements → PlainStatement → Option Environment → LoopsFound → LoopPassed
loop_passed s depth head first tested third body env found =
    let entry : Option Environment = known_at_entry s found first env in
    passed_by s head.keyword tested entry found (reached_found (s.offers head.number depth (Some (record { head = head; first = first; tested = tested; third = third; body = body }))) (is_task s.task head.number) head.span (trial_rounds s.variables head.keyword tested third body)
    (loop_entry s (assigned_in s (loop head first tested third body)) tested) depth entry)

-- ## All loops

abbrev mutual
  -- the loops in a statement, which stands in `depth` loops, after those found so far; no state may come to it
  pub loops_in : Search → ℕ → PlainStatement → Option Environment → LoopsFound → LoopsFound
  loops_in s depth (statement at form) env found = loops_in_form s depth form env found

  -- the same for a form of statement: a loop is found before the loops in its body, which stand under its claim
  pub loops_in_form : Search → ℕ → PlainStatementForm → Option Environment → LoopsFound → LoopsFound
  loops_in_form s depth (block xs) env found = loops_in_all s depth xs env found
  loops_in_form s depth (if_then v x) env found = loops_in s depth x (known_where_value s v true env) found
  loops_in_form s depth (if_else v x y) env found =
      loops_in s depth y (known_where_value s v false env) (loops_in s depth x (known_where_value s v true env) found)
  loops_in_form s depth (loop head first tested third body) env found =
      let l : LoopPassed = loop_passed s depth head first tested third body env found in loops_in s (suc depth) body l.inside l.found
  loops_in_form s depth (switch keyword v labels body) env found = loops_in_switch s depth labels body (known_after_value s v env) found
  loops_in_form s depth form env found = found

  -- the same for statements, one after the other
  pub loops_in_all : Search → ℕ → PlainStatements → Option Environment → LoopsFound → LoopsFound
  loops_in_all s depth no_statements env found = found
  loops_in_all s depth (more_statements x rest) env found =
      let next : LoopsFound = loops_in s depth x env found in
      loops_in_all s depth rest (known_after_statement s next x env) next

  -- the same for the body of a `switch`: one that is no block has no labels, so no state comes to it
  pub loops_in_switch : Search → ℕ → PlainLabels → PlainStatement → Option Environment → LoopsFound → LoopsFound
  loops_in_switch s depth labels (statement at form) env found = loops_in_cases s depth labels form env found (loops_in_form s depth form None found)

  -- the same for a form, where it is a block
  pub loops_in_cases : Search → ℕ → PlainLabels → PlainStatementForm → Option Environment → LoopsFound → LoopsFound → LoopsFound
  loops_in_cases s depth labels (block xs) env found other = loops_from s depth labels 0 xs env None found
  loops_in_cases s depth labels form env found other = other

  -- the same for items from item k on, where the `switch` is entered with an environment, and another one may come from before
  pub loops_from : Search → ℕ → PlainLabels → ℕ → PlainStatements → Option Environment → Option Environment → LoopsFound → LoopsFound
  loops_from s depth labels k no_statements env before found = found
  loops_from s depth labels k (more_statements x rest) env before found =
      let entered : Option Environment = if is_labelled k labels then hull_reached before env else before in
      let next : LoopsFound = loops_in s depth x entered found in
      loops_from s depth labels (suc k) rest env (known_after_statement s next x entered) next
