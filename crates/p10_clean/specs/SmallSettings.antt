-- What small statements set, written out.
use Rattle.std.specs.Prelude.{◌≡◌, ℕ, Bool, true, false, List, [], ◌∷◌, pos, Option, Some, None}
use Rattle.p10_core.specs.declared.statements.LoopKeyword.TheVariants.{While, Do, For}
use Rattle.p10_core.specs.Typed.{PlainValue, not_initialized, single, PlainStatement, declare, if_then, if_else, loop, switch, break, continue, return, statements_of_list}
use Rattle.p10_meaning.specs.Examples.{span, int, number, does, block_of, loop_of, assign}
use Rattle.p10_clean.specs.Settings.{is_set, ways_of_all}

-- ## Builders

-- whether variable 0 is set after statements, before which neither of two variables is
abbrev pub set_after : List PlainStatement → Bool
set_after ss = is_set (ways_of_all (statements_of_list ss) (Some (false ∷ false ∷ []))).normal 0

-- a condition of which nothing is known
abbrev pub maybe : PlainValue
maybe = number (pos 1)

-- `x = 0;`, `y = 0;`, `return;`
abbrev pub sets_x : PlainStatement
sets_x = assign int 0 (number (pos 0))

abbrev pub sets_y : PlainStatement
sets_y = assign int 1 (number (pos 0))

abbrev pub leaves : PlainStatement
leaves = does (return (span 0) None)

-- `switch (e)` over a block of two items, `case 0` before the first one and another label before the second one
abbrev pub switching : Option ℕ → List PlainStatement → PlainStatement
switching otherwise items = does (switch (span 0) maybe (record { cases = record { value = pos 0; place = 0 } ∷ []; otherwise = otherwise }) (block_of items))

-- ## What holds of them

-- assignments, declarations and branches
pub record BranchesSet : Type 0 where
  pub nothing : set_after [] ≡ false
  pub assigned : set_after (sets_x ∷ []) ≡ true
  pub other : set_after (sets_y ∷ []) ≡ false
  pub declared : set_after (does (declare 0 (single (number (pos 1)))) ∷ []) ≡ true
  pub declared_again : set_after (sets_x ∷ does (declare 0 not_initialized) ∷ []) ≡ false
  pub in_block : set_after (block_of (sets_x ∷ []) ∷ []) ≡ true
  pub on_one_way : set_after (does (if_then maybe sets_x) ∷ []) ≡ false
  pub on_both_ways : set_after (does (if_else maybe sets_x (block_of (sets_y ∷ sets_x ∷ []))) ∷ []) ≡ true
  pub on_the_only_way : set_after (does (if_else maybe sets_x leaves) ∷ []) ≡ true
  pub after_a_jump : set_after (leaves ∷ []) ≡ true

-- loops: what a test is doesn't count
pub record LoopsSet : Type 0 where
  pub while_body : set_after (loop_of While (Some maybe) sets_x ∷ []) ≡ false
  pub while_break : set_after (loop_of While (Some maybe) (block_of (sets_x ∷ does break ∷ [])) ∷ []) ≡ false
  pub before_while : set_after (sets_x ∷ loop_of While (Some maybe) (does break) ∷ []) ≡ true
  pub first_clause : set_after (does (loop (record { number = 0; keyword = For; span = span 0 }) (statements_of_list (sets_x ∷ [])) None (statements_of_list []) (does break)) ∷ []) ≡ true
  pub third_clause : set_after (does (loop (record { number = 0; keyword = For; span = span 0 }) (statements_of_list []) None (statements_of_list (sets_x ∷ [])) (does break)) ∷ []) ≡ false
  pub do_body : set_after (loop_of Do (Some maybe) sets_x ∷ []) ≡ true
  pub do_continue : set_after (loop_of Do (Some maybe) (block_of (does (if_then maybe (does continue)) ∷ sets_x ∷ [])) ∷ []) ≡ false
  pub do_break : set_after (loop_of Do (Some maybe) (block_of (does (if_then maybe (does break)) ∷ sets_x ∷ [])) ∷ []) ≡ false
  pub do_return : set_after (loop_of Do (Some maybe) (block_of (does (if_then maybe leaves) ∷ sets_x ∷ [])) ∷ []) ≡ true

-- `switch`: each of its ends counts, and without `default` its entry
pub record SwitchesSet : Type 0 where
  pub without_default : set_after (switching None (sets_x ∷ sets_y ∷ []) ∷ []) ≡ false
  pub with_default : set_after (switching (Some 1) (block_of (sets_x ∷ does break ∷ []) ∷ sets_x ∷ []) ∷ []) ≡ true
  pub falls_through : set_after (switching (Some 1) (sets_y ∷ sets_x ∷ []) ∷ []) ≡ true
  pub enters_later : set_after (switching (Some 1) (sets_x ∷ sets_y ∷ []) ∷ []) ≡ false
  pub ends_by_break : set_after (switching (Some 1) (does break ∷ sets_x ∷ []) ∷ []) ≡ false
  pub returns_instead : set_after (switching (Some 1) (leaves ∷ sets_x ∷ []) ∷ []) ≡ true
