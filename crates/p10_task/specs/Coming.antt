-- Where the pass over `main` comes to its task loop, and what the loop's claim says at its head.
use Rattle.std.specs.Prelude.{◌≡◌, ℕ, List, take, slice_get, Option, Some}
use Rattle.p10_core.specs.Typed.{PlainStatement, statement, loop, PlainStatements, statements_list, statements_of_list, PlainFunction, PlainProgram}
use Rattle.p10_cert.specs.Claims.{Loop, Claims}
use Rattle.p10_meaning.specs.Values.{Held}
use Rattle.p10_sums.specs.Counting.{loops_claimed}
use Rattle.p10_absx.specs.Environments.{Environment}
use Rattle.p10_absx.specs.Entering.{entry_at}
use Rattle.p10_absx.specs.Describing.{Describes}
use Rattle.p10_pass.specs.Claiming.{head_of, no_claim, loop_claimed}
use Rattle.p10_pass.specs.Passing.{Manner, manner_of, pass_statements}

-- the items of a body before one of them
abbrev pub items_before : ℕ → PlainStatements → PlainStatements
items_before i body = statements_of_list (take i (statements_list body))

-- how calls and loops of `main` count under claims
abbrev pub main_manner : PlainProgram → Claims → PlainFunction → Manner
main_manner p c f = manner_of f (Some c) p.main

-- what is known where the pass over `main` comes to the task loop, which is item i: nothing where no state comes there
abbrev pub known_at_task : PlainProgram → Claims → PlainFunction → ℕ → Option Environment
known_at_task p c f i = (pass_statements (main_manner p c f) (items_before i f.body) (entry_at p c p.main)).normal

-- what is claimed of the loop that an item is
abbrev pub item_claimed : List Loop → Option PlainStatement → Loop
item_claimed loops (Some (statement at (loop head first tested third body))) = loop_claimed loops head.number
item_claimed loops item = no_claim

-- what is claimed of the task loop of `main`
abbrev pub task_claimed : PlainProgram → Claims → PlainFunction → ℕ → Loop
task_claimed p c f i = item_claimed (loops_claimed (slice_get c.funcs p.main)) (slice_get (statements_list f.body) i)

-- a frame of `main` at the head of its task loop is as claimed: each variable that is known there lies in its claimed range
pub record IsAsClaimed (p : PlainProgram) (c : Claims) (f : PlainFunction) (i : ℕ) (held : List Held) : Type 0 where
  pub entry : Environment
  pub comes : known_at_task p c f i ≡ Some entry
  pub describes : Describes f.variables (head_of (task_claimed p c f i) f.variables entry) held held
