-- The labels of a `switch` are those that its tree has: each with the number of the item before which it stands, and the value of its own
-- constant, judged where that stands.
use Rattle.std.specs.Prelude.{◌≡◌, ℕ, ◌+◌, List, [], ◌∷◌, ◌++◌, Option, Some, None, Ok}
use Rattle.p10_base.specs.declared.at.At.{At}
use Rattle.p10_syn.specs.Trees.{Expression, Statement, Block, Switch, Case, Default, Statements, NoStatements, MoreStatements}
use Rattle.p10_core.specs.declared.statements.Label.{Label as CaseLabel}
use Rattle.p10_core.specs.Typed.{PlainValue, PlainLabels, PlainStatement, statement, switch}
use Rattle.p10_elabx.specs.First.{Keep, on}
use Rattle.p10_elabx.specs.Scopes.{PlainScope}
use Rattle.p10_elabd.specs.Standing.{PlainStanding}
use Rattle.p10_elabd.specs.Expressions.{value_found}
use Rattle.p10_elabd.specs.Tags.{scope_of_expression}
use Rattle.p10_elabs.specs.declared.round.Round.{Round}
use Rattle.p10_elabs.specs.Locals.{Frame, Local, Done, opened}
use Rattle.p10_elabs.specs.Expressions.{switch_done}
use Rattle.p10_elabs.specs.Statements.{among_labels, Labelled, case_value, Switched, nothing_switched, switched_done, done}

-- ## What the tree has

-- a label where it stands: a `case` before the item with a number, from 0, in a scope, with its constant; or `default`
pub data PlacedLabel : Type 0 where
  a_case : ℕ → PlainScope → Expression At → PlacedLabel
  a_default : ℕ → PlacedLabel

-- the labels that stand before an item with a number, in a scope: what a constant declares is in scope in those after it (C99 6.2.1p7)
abbrev pub labels_of_item : ℕ → PlainScope → Statement At → List PlacedLabel
labels_of_item n c (Case at e s) = a_case n c e ∷ labels_of_item n (scope_of_expression c e) s
labels_of_item n c (Default at s) = a_default n ∷ labels_of_item n c s
labels_of_item n c s = []

-- where the walk comes to the item after one
abbrev pub after_item : Keep → Frame → Round → Option PlainValue → Switched → Statement At → Switched
after_item h f r on' w s = switched_done h f r on' w (MoreStatements s NoStatements)

-- the labels before items, of which the first has a number: those of an item stand in the scope after the items before it
abbrev pub labels_of_items : Keep → Frame → Round → Option PlainValue → ℕ → Switched → Statements At → List PlacedLabel
labels_of_items h f r on' n w NoStatements = []
labels_of_items h f r on' n w (MoreStatements s rest) =
    labels_of_item n w.items.after.standing.scope s ++ labels_of_items h f r on' (n + 1) (after_item h f r on' w s) rest

-- the labels of a whole `switch`: they stand before the items of its block
abbrev pub labels_of_switch : Keep → Frame → Round → Local → Expression At → Statement At → List PlacedLabel
labels_of_switch h f r l e (Block at ss) =
    let v : Done PlainValue = switch_done h (opened l) e in
    labels_of_items h f (among_labels r) v.made 0 (nothing_switched (opened v.after)) ss
labels_of_switch h f r l e s = []

-- the item before which `default` stands for the first time
abbrev pub default_in : List PlacedLabel → Option ℕ
default_in [] = None
default_in (a_default n ∷ rest) = Some n
default_in (a_case n c e ∷ rest) = default_in rest

-- ## What is made of it

-- what stands in a scope, with no problem
abbrev pub standing_in : PlainScope → PlainStanding
standing_in c = record { scope = c; open_structures = []; problems = [] }

-- a label of the typed program is that of a `case`: it stands before the same item, and its value is that of the constant in its scope, in
-- the type of the `switch` where that is known
pub record IsLabel (h : Keep) (on' : Option PlainValue) (n : ℕ) (c : PlainScope) (e : Expression At) (l : CaseLabel) : Type 0 where
  pub place : l.place ≡ n
  pub value : on (value_found h (standing_in c) e) (case_value on') ≡ Ok l.value

-- labels of the typed program are those of each `case`, one for one and in order
abbrev pub AreLabels : Keep → Option PlainValue → List PlacedLabel → List CaseLabel → Type 0
AreLabels h on' [] [] = Unit {0}
AreLabels h on' [] (l ∷ ls) = ⊥
AreLabels h on' (a_default n ∷ rest) ls = AreLabels h on' rest ls
AreLabels h on' (a_case n c e ∷ rest) [] = ⊥
AreLabels h on' (a_case n c e ∷ rest) (l ∷ ls) = IsLabel h on' n c e l × AreLabels h on' rest ls

-- the labels so far are those of a list
pub record AreThoseOf (h : Keep) (on' : Option PlainValue) (placed : List PlacedLabel) (k : Labelled) : Type 0 where
  pub otherwise : k.otherwise ≡ default_in placed
  pub cases : (cs : List CaseLabel) → k.cases ≡ Some cs → AreLabels h on' placed cs

-- a statement is a `switch` that has the labels of a list
pub record IsSwitchWith (h : Keep) (at keyword : At) (placed : List PlacedLabel) (made : PlainStatement) : Type 0 where
  pub value : PlainValue
  pub labels : PlainLabels
  pub block : PlainStatement
  pub same : made ≡ statement at (switch keyword.span value labels block)
  pub otherwise : labels.otherwise ≡ default_in placed
  pub cases : AreLabels h (Some value) placed labels.cases

-- the labels of a `switch` are those that stand before its items, where none of them is refused; so are those of each `switch` that
-- becomes a statement
pub record LabelsOfSwitchesAreThoseWritten : Type 0 where
  pub of_items : (h : Keep) (f : Frame) (r : Round) (on' : Option PlainValue) (l : Local) (ss : Statements At) →
      AreThoseOf h on' (labels_of_items h f r on' 0 (nothing_switched l) ss) (switched_done h f r on' (nothing_switched l) ss).labels
  pub of_statement : (h : Keep) (f : Frame) (r : Round) (l : Local) (at keyword : At) (e : Expression At) (body : Statement At) (made : PlainStatement) →
      (done h f r l (Switch at keyword e body)).made ≡ Some made → IsSwitchWith h at keyword (labels_of_switch h f r l e body) made
