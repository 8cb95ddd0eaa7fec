-- Statements directly after a jump in their block (C99 6.8.6; row 7 of rule 10).
use Rattle.std.specs.Prelude.{◌≡◌, ℕ, ◌+◌, Bool, true, false, List, [], ◌∷◌, ◌++◌, map}
use Rattle.std.specs.Option.{option_to_list}
use Rattle.p10_core.specs.Typed.{PlainFunction, PlainLabels, PlainStatement, statement, PlainStatementForm, block, if_then, if_else, loop, switch, break, continue, return, PlainStatements, no_statements, more_statements}
use Rattle.p10_core.specs.WholePrograms.{is_among}

-- whether a statement is a jump
abbrev pub is_jump : PlainStatement → Bool
is_jump (statement at break) = true
is_jump (statement at continue) = true
is_jump (statement at (return span v)) = true
is_jump s = false

-- a block: its items, and the places of those before which a `case` or `default` of its `switch` stands
pub record LabelledBlock : Type 0 where
  pub items : PlainStatements
  pub labelled : List ℕ

-- the places of the items of its body before which the labels of a `switch` stand
abbrev pub labelled_places : PlainLabels → List ℕ
labelled_places labels = map (λ label. label.place) labels.cases ++ option_to_list labels.otherwise

abbrev mutual
  -- the blocks in a statement, which is the body of a `switch` with labels before items at these places, if there are any
  pub blocks_in : List ℕ → PlainStatement → List LabelledBlock
  blocks_in labelled (statement at f) = blocks_in_form labelled f

  -- the same for a form of statement
  pub blocks_in_form : List ℕ → PlainStatementForm → List LabelledBlock
  blocks_in_form labelled (block ss) = record { items = ss; labelled = labelled } ∷ blocks_among ss
  blocks_in_form labelled (if_then v s) = blocks_in [] s
  blocks_in_form labelled (if_else v s t) = blocks_in [] s ++ blocks_in [] t
  blocks_in_form labelled (loop head first test third body) = blocks_in [] body
  blocks_in_form labelled (switch span v labels body) = blocks_in (labelled_places labels) body
  blocks_in_form labelled f = []

  -- the same for statements, one after the other
  pub blocks_among : PlainStatements → List LabelledBlock
  blocks_among no_statements = []
  blocks_among (more_statements s rest) = blocks_in [] s ++ blocks_among rest

-- the blocks of a function: its body, and those in it
abbrev pub blocks_of : PlainFunction → List LabelledBlock
blocks_of f = record { items = f.body; labelled = [] } ∷ blocks_among f.body

-- Of items of which the first has a place, a statement stands directly after a jump, and no label before it. Type declarations
-- are no items of a typed program, and what one declaration declares has one tree.
pub data FollowsJump (labelled : List ℕ) : ℕ → PlainStatements → PlainStatement → Type 0 where
  follows : (n : ℕ) (s t : PlainStatement) (rest : PlainStatements) → is_jump s ≡ true → is_among (n + 1) labelled ≡ false
      → FollowsJump labelled n (more_statements s (more_statements t rest)) t
  later : (n : ℕ) (s t : PlainStatement) (rest : PlainStatements) → FollowsJump labelled (n + 1) rest t
      → FollowsJump labelled n (more_statements s rest) t
