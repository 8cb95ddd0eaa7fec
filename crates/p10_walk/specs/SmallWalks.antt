-- Walks over small statements, written out: what is known at each end, over ranges.
use Rattle.std.specs.Prelude.{◌≡◌, ℕ, List, [], ◌∷◌, Some, None}
use Rattle.p10_int.specs.declared.types.IntType.TheVariants.{Int}
use Rattle.p10_int.specs.declared.operators.BinOp.TheVariants.{Lt}
use Rattle.p10_range.specs.Ranges.{Interval}
use Rattle.p10_core.specs.declared.statements.LoopKeyword.{LoopKeyword}
use Rattle.p10_core.specs.declared.statements.LoopKeyword.TheVariants.{While, Do}
use Rattle.p10_core.specs.Typed.{PlainValue, binary, PlainStatement, if_then, if_else, loop, break, continue, return, statements_of_list, PlainVariable}
use Rattle.p10_meaning.specs.Examples.{span, int, get, value_of, does, block_of, assign, int_variable}
use Rattle.p10_absx.specs.Abstract.{only_range, whole_type}
use Rattle.p10_absx.specs.Environments.{Environment}
use Rattle.p10_pass.specs.SmallPasses.{upto, n}
use Rattle.p10_walk.specs.Walking.{Ends, walk, Round, round_of}
use Rattle.p10_walk.specs.Ranges.{ranges_of}

-- two variables of type `int`, i and j
abbrev pub two : List PlainVariable
two = int_variable ∷ int_variable ∷ []

-- an environment of both
abbrev pub known_as : Interval → Interval → Environment
known_as i j = Some (only_range i) ∷ Some (only_range j) ∷ []

-- one in which j may have any value
abbrev pub any_j : Interval → Environment
any_j i = Some (only_range i) ∷ Some (whole_type Int) ∷ []

-- what a statement leaves where i lies in [0, 9] and j is 0
abbrev pub walked : PlainStatement → Ends Environment
walked x = walk (ranges_of two) x (known_as (upto 0 9) (upto 0 0))

-- `i < 5`
abbrev pub below_five : PlainValue
below_five = value_of int (binary Lt (get 0 int 0) (n 5))

-- `j = z;`
abbrev pub set_j : ℕ → PlainStatement
set_j z = assign int 1 (n z)

-- `while (i < 5) { j = 7; }`
abbrev pub inner : PlainStatement
inner = does (loop (record { number = 0; keyword = While; span = span 4 }) (statements_of_list []) (Some below_five) (statements_of_list []) (block_of (set_j 7 ∷ [])))

-- the round of a loop by a keyword, of `i < 5` and a body, where i lies in [0, 9] and j is 0 at the head
abbrev pub round_by : LoopKeyword → PlainStatement → Round Environment
round_by keyword body = round_of (ranges_of two) keyword (Some below_five) (statements_of_list []) body (known_as (upto 0 9) (upto 0 0))

-- what is known at the ends
pub record WalksAtEdges : Type 0 where
  pub branches : (walked (does (if_else below_five (set_j 3) (set_j 8)))).normal ≡ Some (known_as (upto 0 9) (upto 3 8))
  pub broken : walked (does (if_then below_five (block_of (set_j 3 ∷ does break ∷ set_j 9 ∷ [])))) ≡
      record { normal = Some (known_as (upto 5 9) (upto 0 0)); breaks = Some (known_as (upto 0 4) (upto 3 3)); continues = None }
  pub returned : walked (does (if_then below_five (does (return (span 5) (Some (n 1)))))) ≡ record { normal = Some (known_as (upto 5 9) (upto 0 0)); breaks = None; continues = None }
  -- an inner loop is forgotten with all that it may change, its jumps and its test
  pub forgotten : walked inner ≡ record { normal = Some (any_j (upto 0 9)); breaks = None; continues = None }
  -- a `while` enters its body where its test is true, a `do` always; it goes back after the body's end and its `continue`s
  pub tested : round_by While (set_j 3) ≡ record { enters = Some (known_as (upto 0 4) (upto 0 0)); back = Some (known_as (upto 0 4) (upto 3 3)) }
  pub tested_after : round_by Do (set_j 3) ≡ record { enters = Some (known_as (upto 0 9) (upto 0 0)); back = Some (known_as (upto 0 4) (upto 3 3)) }
  pub continued : (round_by While (block_of (does (if_then (value_of int (binary Lt (get 0 int 0) (n 2))) (does continue)) ∷ set_j 3 ∷ []))).back ≡ Some (known_as (upto 0 4) (upto 0 3))
  pub never_back : (round_by While (does break)).back ≡ None
