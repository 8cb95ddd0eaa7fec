-- Which frame variables are set on every path to a place, by syntax alone: definite assignment. No value is looked at, so a path counts
-- whether or not a run can take it.
use Rattle.std.specs.Prelude.{ℕ, suc, ltb, ◌&&◌, Bool, true, false, is_none, if◌then◌else◌, List, [], ◌∷◌, slice_set, Option, Some, None}
use Rattle.p10_core.specs.declared.statements.LoopKeyword.{LoopKeyword}
use Rattle.p10_core.specs.declared.statements.LoopKeyword.TheVariants.{Do}
use Rattle.p10_core.specs.Typed.{PlainPlace, place, variable, PlainInitializer, not_initialized, PlainLabels, PlainStatement, statement, PlainStatementForm, set, declare, block, if_then, if_else, loop, switch, break, continue, return, PlainStatements, no_statements, more_statements, PlainVariable, PlainFunction}
use Rattle.p10_pass.specs.Marks.{is_marked}
use Rattle.p10_pass.specs.Passing.{is_labelled}

-- ## What is set at a place

-- a mark for each variable of a function that is set, by its number; nothing where no path comes, and there every variable counts as set
abbrev pub Settings : Type 0
Settings = Option (List Bool)

-- whether a variable is set
abbrev pub is_set : Settings → ℕ → Bool
is_set None n = true
is_set (Some marks) n = is_marked marks n

-- a variable becomes set, or unset
abbrev pub marked_as : Bool → ℕ → Settings → Settings
marked_as b n None = None
marked_as b n (Some marks) = Some (slice_set marks n b)

-- marks that both have
abbrev pub common_marks : List Bool → List Bool → List Bool
common_marks [] others = []
common_marks (a ∷ marks) [] = []
common_marks (a ∷ marks) (b ∷ others) = (a && b) ∷ common_marks marks others

-- what is set on both of two paths
abbrev pub on_both : Settings → Settings → Settings
on_both None b = b
on_both (Some a) None = Some a
on_both (Some a) (Some b) = Some (common_marks a b)

-- marks of variables from number n on, of which the first `parameters` are set
abbrev pub parameter_marks : ℕ → ℕ → List PlainVariable → List Bool
parameter_marks n parameters [] = []
parameter_marks n parameters (v ∷ variables) = ltb n parameters ∷ parameter_marks (suc n) parameters variables

-- what is set at the entry of a function: its parameters (C99 6.5.2.2p4)
abbrev pub set_at_entry : PlainFunction → Settings
set_at_entry f = Some (parameter_marks 0 f.parameters f.variables)

-- ## What statements set

-- what is set at each end of statements
pub record Ways : Type 0 where
  pub normal : Settings
  pub breaks : Settings
  pub continues : Settings

-- the one way is the next statement
abbrev pub goes_on : Settings → Ways
goes_on before = record { normal = before; breaks = None; continues = None }

-- the ends of two parts, of which the second gives the normal one
abbrev pub then_ways : Ways → Ways → Ways
then_ways a b = record { normal = b.normal; breaks = on_both a.breaks b.breaks; continues = on_both a.continues b.continues }

-- the ends of one of two parts
abbrev pub either_ways : Ways → Ways → Ways
either_ways a b = record (then_ways a b) { normal = on_both a.normal b.normal }

-- an assigned place that is a variable is set
abbrev pub target_set : PlainPlace → Settings → Settings
target_set (place at t (variable n)) before = marked_as true n before
target_set p before = before

-- a declaration with a value sets its variable, and one without unsets it
abbrev pub sets : PlainInitializer → Bool
sets not_initialized = false
sets initializer = true

-- after a loop that is entered with these settings: a body is entered before a `do` ends, and its end and its `continue`s lead to the test
abbrev pub after_loop : LoopKeyword → Settings → Ways → Ways
after_loop Do entry body = goes_on (on_both (on_both body.normal body.continues) body.breaks)
after_loop keyword entry body = goes_on (on_both entry body.breaks)

-- after a `switch` that is entered with these settings: without `default` there is a way past its body
abbrev pub after_switch : PlainLabels → Settings → Ways → Ways
after_switch labels entry body = record body {
  normal = on_both (on_both body.normal body.breaks) (if is_none labels.otherwise then entry else None);
  breaks = None;
}

-- what is set where an item of a `switch`'s body is entered, from the `switch` or from the item before
abbrev pub case_settings : Bool → Settings → Settings → Settings
case_settings labelled entry before = if labelled then on_both before entry else before

abbrev mutual
  -- what a statement sets, after what is set before it
  pub ways_of : PlainStatement → Settings → Ways
  ways_of (statement at form) before = ways_of_form form before

  -- a row for each form
  pub ways_of_form : PlainStatementForm → Settings → Ways
  ways_of_form (set p v) before = goes_on (target_set p before)
  ways_of_form (declare n initializer) before = goes_on (marked_as (sets initializer) n before)
  ways_of_form (block ss) before = ways_of_all ss before
  ways_of_form (if_then v s) before = either_ways (ways_of s before) (goes_on before)
  ways_of_form (if_else v s t) before = either_ways (ways_of s before) (ways_of t before)
  ways_of_form (loop head first tested third body) before =
      let entry : Settings = (ways_of_all first before).normal in after_loop head.keyword entry (ways_of body entry)
  ways_of_form (switch keyword v labels body) before = ways_of_switch labels body before
  ways_of_form break before = record { normal = None; breaks = before; continues = None }
  ways_of_form continue before = record { normal = None; breaks = None; continues = before }
  ways_of_form (return keyword v) before = goes_on None
  ways_of_form form before = goes_on before

  -- what statements set, one after the other
  pub ways_of_all : PlainStatements → Settings → Ways
  ways_of_all no_statements before = goes_on before
  ways_of_all (more_statements s rest) before = let a : Ways = ways_of s before in then_ways a (ways_of_all rest a.normal)

  -- the body of a `switch`: one that is no block has no labels, so it isn't entered
  pub ways_of_switch : PlainLabels → PlainStatement → Settings → Ways
  ways_of_switch labels (statement at form) entry = ways_of_switch_form labels form entry

  -- the same for a form
  pub ways_of_switch_form : PlainLabels → PlainStatementForm → Settings → Ways
  ways_of_switch_form labels (block ss) entry = after_switch labels entry (ways_from labels 0 ss entry None)
  ways_of_switch_form labels form entry = goes_on entry

  -- the items of its body from item k on, where the `switch` is entered with these settings, and others may come from the item before
  pub ways_from : PlainLabels → ℕ → PlainStatements → Settings → Settings → Ways
  ways_from labels k no_statements entry before = goes_on before
  ways_from labels k (more_statements s rest) entry before =
      let a : Ways = ways_of s (case_settings (is_labelled k labels) entry before) in then_ways a (ways_from labels (suc k) rest entry a.normal)
