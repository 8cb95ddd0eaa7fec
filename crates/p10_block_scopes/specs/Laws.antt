-- Blocks leave the names round them as they were.
use Rattle.std.specs.Prelude.{◌≡◌, ℕ, Bool, List, ◌++◌}
use Rattle.p10_base.specs.declared.at.At.{At}
use Rattle.p10_syn.specs.Trees.{Statements}
use Rattle.p10_elabx.specs.First.{Keep}
use Rattle.p10_elabx.specs.Scopes.{Binding, PlainScope, entered, left}
use Rattle.p10_elabs.specs.declared.round.Round.{Round}
use Rattle.p10_elabs.specs.Locals.{Frame, Local}
use Rattle.p10_elabs.specs.Statements.{no_items_yet, items_done}

-- a list goes on as another one
pub record GoesOn (xs ys : List Binding) : Type 0 where
  pub rest : List Binding
  pub same : ys ≡ xs ++ rest

-- the blocks that are open stay so, and their names begin the lists of names
pub record ExtendsIn (fs gs : List (ℕ × ℕ)) (ns ms ts us : List Binding) : Type 0 where
  pub floors : gs ≡ fs
  pub names : GoesOn ns ms
  pub tags : GoesOn ts us

abbrev pub ExtendsScope : PlainScope → PlainScope → Type 0
ExtendsScope s t = ExtendsIn s.floors t.floors s.names t.names s.tags t.tags

-- what stood where a block was opened stands again where it is closed
pub record IsAgain (s t : PlainScope) : Type 0 where
  pub floors : t.floors ≡ s.floors
  pub names : t.names ≡ s.names
  pub tags : t.tags ≡ s.tags

-- whatever is declared in a body, the names round it stand again after it
abbrev pub BodiesLeaveScopes : Type 0
BodiesLeaveScopes =
    (h : Keep) (f : Frame) (in_main : Bool) (r : Round) (s : PlainScope) (l : Local) (all : Statements At) → ExtendsScope (entered s) l.standing.scope
    → IsAgain s (left (items_done h f in_main r (no_items_yet l) all).after.standing.scope)
