-- What the code's search for loops is, by whole statements.
use Rattle.std.specs.Prelude.{ℕ, nat_lt, ◌&&◌, length, Bool, map, Option, None}
use Rattle.p10_core.specs.declared.statements.LoopHead.{LoopHead}
use Rattle.p10_range.specs.Ranges.{Interval}
use Rattle.p10_core.specs.Typed.{PlainFunction, PlainProgram, PlainValue, PlainStatement, statement, if_then, if_else, loop, switch}
use Rattle.p10_core.specs.Views.{plain_variable, plain_function}
use Rattle.p10_cert.specs.Claims.{Claims, claims_of}
use Rattle.p10_absx.specs.Environments.{Environment}
use Rattle.p10_fit.specs.Fits.{is_task}
use Rattle.p10_turns.specs.LoopParts.{parts_of}
use Rattle.p10_pass.specs.Scopes.{assigns}
use Rattle.p10_pass.specs.Passing.{pass_statements}
use Rattle.p10_finder.specs.declared.search.Search.{Search as CodeSearch}
use Rattle.p10_candidates.specs.Trials.{LoopFound, rounds_in}
use Rattle.p10_finder.specs.Loops.{Search, LoopsFound, loop_entry, entered_found, reached_found, LoopPassed, passed_by, loop_passed, loops_in_form, manner_after}
use Rattle.p10_finder.specs.Functions.{search_in, known_at_start}
use Rattle.p10_candidates.specs.Candidates.{LoopEntry}
use Rattle.p10_approach.specs.Approaches.{Approached}
use Rattle.p10_approach.specs.Offers.{no_offers, offers_if}

-- a search of the code
abbrev pub search_by : CodeSearch → Search
search_by s = record {
  calls = claims_of s.calls.now;
  variables = map plain_variable s.variables.now;
  task = s.task;
  offers = offers_if s.approaching s.number (plain_function s.function.now);
}

-- which of the first `count` variables a statement assigns
abbrev pub assigned_below : ℕ → PlainStatement → ℕ → Bool
assigned_below count x n = nat_lt n count && assigns n x

-- what is offered for a loop, by how it begins and its whole statement
abbrev pub offered_in : Search → ℕ → LoopHead → PlainStatement → LoopEntry → Option Approached
offered_in s depth head x = s.offers head.number depth (parts_of x)

-- what a loop counts with that is entered, by how it begins, its test and its whole statement
abbrev pub entered_in_parts : Search → ℕ → LoopHead → Option PlainValue → PlainStatement → Bool → Environment → LoopFound
entered_in_parts s depth head tested x task entry =
    let l : LoopEntry = loop_entry s (assigned_below (length s.variables) x) tested entry in
    entered_found (offered_in s depth head x l) task head.span (rounds_in s.variables x) l depth

-- the same where a state may not come to its entry
abbrev pub found_in_parts : Search → ℕ → LoopHead → Option PlainValue → PlainStatement → Option Environment → LoopFound
found_in_parts s depth head tested x entry =
    reached_found (offered_in s depth head x) (is_task s.task head.number) head.span (rounds_in s.variables x) (loop_entry s (assigned_below (length s.variables) x) tested) depth entry

-- what comes of it
abbrev pub passed_parts : Search → ℕ → LoopHead → Option PlainValue → PlainStatement → Option Environment → LoopsFound → LoopPassed
passed_parts s depth head tested x entry found = passed_by s head.keyword tested entry found (found_in_parts s depth head tested x entry)

-- a statement that is a loop, after loops found so far; another one has no body to enter
abbrev pub passed_statement : Search → ℕ → PlainStatement → Option Environment → LoopsFound → LoopPassed
passed_statement s depth (statement at (loop head first tested third body)) env found = loop_passed s depth head first tested third body env found
passed_statement s depth x env found = record { found = found; inside = None }

-- ## Rows of the walk, by whole statements

-- the row of `if`
abbrev pub loops_in_if : Search → ℕ → PlainStatement → Option Environment → LoopsFound → LoopsFound
loops_in_if s depth (statement at (if_then v x)) env found = loops_in_form s depth (if_then v x) env found
loops_in_if s depth (statement at (if_else v x y)) env found = loops_in_form s depth (if_else v x y) env found
loops_in_if s depth x env found = found

-- the row of loops
abbrev pub loops_in_loop : Search → ℕ → PlainStatement → Option Environment → LoopsFound → LoopsFound
loops_in_loop s depth (statement at (loop head first tested third body)) env found = loops_in_form s depth (loop head first tested third body) env found
loops_in_loop s depth x env found = found

-- the row of `switch`
abbrev pub loops_in_chosen : Search → ℕ → PlainStatement → Option Environment → LoopsFound → LoopsFound
loops_in_chosen s depth (statement at (switch keyword v labels body)) env found = loops_in_form s depth (switch keyword v labels body) env found
loops_in_chosen s depth x env found = found

-- ## Functions

-- the range that a function returns by the claims of loops that were found
abbrev pub returned_after : PlainProgram → Claims → ℕ → PlainFunction → LoopsFound → Option Interval
returned_after p c n f found = (pass_statements (manner_after (search_in no_offers p c n f) found) f.body (known_at_start f)).returned
