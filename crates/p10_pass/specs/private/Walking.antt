-- The rows of statements that hold others, as the code comes to them, and the code's rounds.
use Rattle.std.specs.Prelude.{ℕ, ◌++◌, true, Bool, List, [], ◌∷◌, slice_set, Option, Some, None}
use Rattle.std.specs.Option.{option_map}
use Rattle.p10_core.specs.declared.statements.LoopHead.{LoopHead}
use Rattle.p10_core.specs.declared.statements.Label.{Label}
use Rattle.p10_core.specs.Typed.{PlainValue, PlainStatement, statement, if_then, if_else, loop}
use Rattle.p10_cert.specs.Claims.{Loop}
use Rattle.p10_absx.specs.Environments.{Environment, hull_reached}
use Rattle.p10_pass.specs.declared.rounds.Tested.{Tested as CodeTested}
use Rattle.p10_pass.specs.Scopes.{form_assigns}
use Rattle.p10_pass.specs.Claiming.{head_of}
use Rattle.p10_pass.specs.Passing.{Manner, Failing, Left, nowhere, and_then_pass, as_block, Tested, tested_reached, Round, round_of, place_unless, weakness_of, loop_left, pass_form, pass_statement, pass_statements}
use Rattle.p10_pass.specs.Leaving.{values_in}

-- a test of the code
abbrev pub tested_by : CodeTested → Tested
tested_by t = record { truth = values_in t.truth; contrary = values_in t.contrary; names = t.names.items }

-- the round of a `do` after its body
abbrev pub tested_after : Manner → Option PlainValue → Environment → Left → Round
tested_after m test head b =
    let t : Tested = tested_reached m test (hull_reached b.normal b.continues) in
    record { enters = Some head; back = t.truth; exits = hull_reached t.contrary b.breaks; body = b; names = b.arguments ++ t.names }

-- the round of a `while` or a `for` after its test, its body and its third clause
abbrev pub tested_before : Tested → Left → Left → Round
tested_before t b c = record { enters = t.truth; back = c.normal; exits = hull_reached t.contrary b.breaks; body = b; names = t.names ++ (c.arguments ++ b.arguments) }

-- the row of `if`, and nowhere for another statement
abbrev pub if_passed : Manner → PlainStatement → Environment → Left
if_passed m (statement at (if_then v s)) env = pass_form m (if_then v s) env
if_passed m (statement at (if_else v s t)) env = pass_form m (if_else v s t) env
if_passed m s env = nowhere

-- the row of loops, and nowhere for another statement
abbrev pub loop_passed : Manner → PlainStatement → Environment → Left
loop_passed m (statement at (loop head first tested third body)) env = pass_form m (loop head first tested third body) env
loop_passed m s env = nowhere

-- the head of a loop
abbrev pub head_in : PlainStatement → Option LoopHead
head_in (statement at (loop head first tested third body)) = Some head
head_in s = None

-- what a round leaves after a loop with a head, and nowhere without one
abbrev pub left_after : Manner → Loop → Option LoopHead → (ℕ → Bool) → Environment → Round → Left
left_after m claim None assigned entry r = nowhere
left_after m claim (Some head) assigned entry r = loop_left m claim head assigned entry r

-- a loop that is entered under a claim
abbrev pub entered : Manner → Loop → PlainStatement → Environment → Left
entered m claim (statement at (loop head first tested third body)) entry =
    loop_left m claim head (λ n. form_assigns n (loop head first tested third body)) entry
    (round_of m head.keyword tested (λ env. pass_statements m third env) (λ env. pass_statement m body env) (head_of claim m.variables entry))
entered m claim s entry = nowhere

-- a loop under a claim
abbrev pub loop_under : Manner → Loop → PlainStatement → Environment → Left
loop_under m claim (statement at (loop head first tested third body)) env =
    as_block first (and_then_pass (pass_statements m first env) (entered m claim (statement at (loop head first tested third body))))
loop_under m claim s env = nowhere

-- what is left after a loop, where offsets are restored already and its claim is judged
abbrev pub after_loop : LoopHead → Bool → Bool → List Failing → Environment → Round → Left
after_loop head enters goes_back fails entry r = record {
  normal = r.exits;
  breaks = None;
  continues = None;
  returns = r.body.returns;
  returned = r.body.returned;
  arguments = r.names;
  results = r.body.results;
  entries = place_unless enters head.span ++ r.body.entries;
  backs = place_unless goes_back head.span ++ r.body.backs;
  weak = weakness_of head.number entry fails ++ r.body.weak;
}

-- a round whose ends are changed
abbrev pub ends_changed : (Environment → Environment) → Round → Round
ends_changed f r = record r { exits = option_map f r.exits; body = record r.body { returns = option_map f r.body.returns } }

-- marks after those of `case`s
abbrev pub marks_cases : List Label → List Bool → List Bool
marks_cases [] marks = marks
marks_cases (l ∷ cases) marks = marks_cases cases (slice_set marks l.place true)

-- and after that of `default`
abbrev pub marks_otherwise : Option ℕ → List Bool → List Bool
marks_otherwise None marks = marks
marks_otherwise (Some n) marks = slice_set marks n true
