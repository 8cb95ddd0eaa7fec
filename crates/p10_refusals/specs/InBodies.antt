-- What is told of a part of a body, a declaration in a block or in the first clause of a `for` among them, is told of the function round it, and of
-- all roots.
use Rattle.std.specs.Prelude.{◌≡◌, ◌⊎◌, ◌||◌, ℕ, Bool, true, false, List, length, Option, Some}
use Rattle.p10_base.specs.declared.at.At.{At}
use Rattle.p10_base.specs.declared.codes.SubsetCode.TheVariants as subset
use Rattle.p10_syn.specs.Trees.{Identifier, Definition, Statement, Empty, Evaluate, Block, If, IfElse, Switch, While, Do, For, Case, Default, Label, Goto, Break, Continue, Return, Declare, Pragma, Statements, NoStatements, MoreStatements, External, Defines}
use Rattle.p10_core.specs.Typed.{PlainValue, PlainStatement}
use Rattle.p10_elabx.specs.declared.problem.Problem.{Problem}
use Rattle.p10_elabx.specs.First.{Among, every}
use Rattle.p10_elabd.specs.Words.{storage_of}
use Rattle.p10_elabd.specs.declared.site.Site.TheVariants as site_is
use Rattle.p10_elabd.specs.Standing.{PlainStanding}
use Rattle.p10_elabd.specs.Shapes.{FunctionType, of_function, name_in}
use Rattle.p10_elabd.specs.Declaring.{declarator_passed}
use Rattle.p10_heads.specs.Heads.{Heads, heads_of_roots, number_in}
use Rattle.p10_elabs.specs.Addresses.{addresses_taken}
use Rattle.p10_elabs.specs.Locals.{Frame, Local, Done, opened}
use Rattle.p10_elabs.specs.LocalDeclarations.{declared_locally}
use Rattle.p10_elabs.specs.Expressions.{expression_statement, clause_done, test_done, optional_test, optional_clause, switch_done}
use Rattle.p10_elabs.specs.declared.round.Round.{Round}
use Rattle.p10_elabs.specs.Statements.{in_nothing, inside, inside_loop, inside_switch, among_labels, with_loop, Block', return_done, no_items_yet, Labelled, case_done, default_done, Switched, nothing_switched, with_labels, start_done, constant_done, part_ended, done, items_done, switched_done}
use Rattle.p10_linkage.specs.Linkage.{Linked, is_main_name}
use Rattle.p10_elab.specs.Knowledge.{Known, linked_of, with_linked, with_standing}
use Rattle.p10_elab.specs.Outer.{function_type, names_noted, body_begun, defined_outside}
use Rattle.p10_elab.specs.Programs.{standing_of}
use Rattle.p10_refusals.specs.Bodies.{reached_at_definition}
use Rattle.p10_refusals.specs.InRoots.{reached_in_roots, StandsIn}

-- ## Rows on the form

-- a label, a jump or a declaration that may not stand there (C99 6.8.1p2, 6.8.6)
abbrev pub bad_jump_at : At → Problem
bad_jump_at at = record { code = subset.BadJump; at = at }

-- a pragma that isn't an item of the body of `main`
abbrev pub misplaced_at : At → Problem
misplaced_at at = record { code = subset.MisplacedPragma; at = at }

-- ## Where the walk comes to parts of statements

-- a row is told where a part of a body has ended
abbrev pub ToldAt : Problem → Local → Type 0
ToldAt p l = Among p l.standing.problems

-- the items of a block after one more
abbrev pub with_item : Frame → Bool → Round → Block' → Statement At → Block'
with_item f in_main r b s = items_done every f in_main r b (MoreStatements s NoStatements)

-- those of the block of a `switch` after one more
abbrev pub with_switched : Frame → Round → Option PlainValue → Switched → Statement At → Switched
with_switched f r on' w s = switched_done every f r on' w (MoreStatements s NoStatements)

-- in the first clause of a `for`: declarations, or expressions
abbrev pub IsInStart : Frame → Local → Statement At → Problem → Type 0
IsInStart f l (Declare d) p = ToldAt p (declared_locally every f site_is.InFor l d).after
IsInStart f l (Evaluate at e) p = ToldAt p (clause_done every l e).after
IsInStart f l s p = ⊥

-- in the labels before an item of the block of a `switch`
abbrev pub IsInLabels : ℕ → Option PlainValue → Labelled → Statement At → Problem → Type 0
IsInLabels n on' k (Case at e s) p = ToldAt p (case_done every at n on' k e).after ⊎ IsInLabels n on' (case_done every at n on' k e) s p
IsInLabels n on' k (Default at s) p = ToldAt p (default_done every at n k).after ⊎ IsInLabels n on' (default_done every at n k) s p
IsInLabels n on' k s p = ⊥

abbrev mutual
  -- a row that is told of a part of a statement, where the walk comes to it: of a declaration, an expression, a jump or a label
  pub IsInStatement : Frame → Round → Local → Statement At → Problem → Type 0
  IsInStatement f r l (Empty at) p = ⊥
  IsInStatement f r l (Evaluate at e) p = ToldAt p (expression_statement every l at e).after
  IsInStatement f r l (Return at k e) p = ToldAt p (return_done every f at k e l).after
  IsInStatement f r l (Goto at name) p = p ≡ bad_jump_at at
  IsInStatement f r l (Break at) p = ((r.in_loop || r.in_switch) ≡ false) × (p ≡ bad_jump_at at)
  IsInStatement f r l (Continue at) p = (r.in_loop ≡ false) × (p ≡ bad_jump_at at)
  IsInStatement f r l (Declare d) p = (p ≡ bad_jump_at d.place) ⊎ ToldAt p (declared_locally every f site_is.InBlock l d).after
  IsInStatement f r l (Pragma at text) p = p ≡ misplaced_at at
  IsInStatement f r l (Block at ss) p = IsInItems f false (inside r) (no_items_yet (opened l)) ss p
  IsInStatement f r l (If at e s) p =
      let v : Done PlainValue = test_done every (opened l) e in
      ToldAt p v.after ⊎ IsInStatement f (inside r) (opened v.after) s p
  IsInStatement f r l (IfElse at e s t) p =
      let v : Done PlainValue = test_done every (opened l) e in
      let d : Done PlainStatement = part_ended (done every f (inside r) (opened v.after) s) in
      ToldAt p v.after ⊎ (IsInStatement f (inside r) (opened v.after) s p ⊎ IsInStatement f (inside r) (opened d.after) t p)
  IsInStatement f r l (While at k e s) p =
      let v : Done PlainValue = test_done every (opened (with_loop l)) e in
      ToldAt p v.after ⊎ IsInStatement f (inside_loop r) (opened v.after) s p
  IsInStatement f r l (Do at k s e) p =
      let d : Done PlainStatement = part_ended (done every f (inside_loop r) (opened (opened (with_loop l))) s) in
      IsInStatement f (inside_loop r) (opened (opened (with_loop l))) s p ⊎ ToldAt p (test_done every d.after e).after
  IsInStatement f r l (For at k start test step s) p =
      let a : Done (List PlainStatement) = start_done every f (opened (with_loop l)) start in
      let v : Done (Option PlainValue) = optional_test every a.after test in
      let c : Done (List PlainStatement) = optional_clause every v.after step in
      IsInStart f (opened (with_loop l)) start p ⊎ (ToldAt p v.after ⊎ (ToldAt p c.after ⊎ IsInStatement f (inside_loop r) (opened c.after) s p))
  IsInStatement f r l (Switch at k e (Block place ss)) p =
      let v : Done PlainValue = switch_done every (opened l) e in
      ToldAt p v.after ⊎ IsInSwitched f (among_labels r) v.made (nothing_switched (opened v.after)) ss p
  IsInStatement f r l (Switch at k e s) p =
      let v : Done PlainValue = switch_done every (opened l) e in
      ToldAt p v.after ⊎ IsInStatement f (inside_switch r) (opened v.after) s p
  IsInStatement f r l (Case at e s) p =
      ((r.at_labels ≡ false) × (p ≡ bad_jump_at at)) ⊎ (ToldAt p (constant_done every r l e) ⊎ IsInStatement f r (constant_done every r l e) s p)
  IsInStatement f r l (Default at s) p = ((r.at_labels ≡ false) × (p ≡ bad_jump_at at)) ⊎ IsInStatement f r l s p
  IsInStatement f r l (Label at name s) p = (p ≡ bad_jump_at at) ⊎ IsInStatement f r l s p

  -- in items of a block
  pub IsInItems : Frame → Bool → Round → Block' → Statements At → Problem → Type 0
  IsInItems f in_main r b NoStatements p = ⊥
  IsInItems f in_main r b (MoreStatements (Declare d) rest) p =
      ToldAt p (declared_locally every f site_is.InBlock b.after d).after ⊎ IsInItems f in_main r (with_item f in_main r b (Declare d)) rest p
  IsInItems f in_main r b (MoreStatements (Pragma at text) rest) p =
      ((in_main ≡ false) × (p ≡ misplaced_at at)) ⊎ IsInItems f in_main r (with_item f in_main r b (Pragma at text)) rest p
  IsInItems f in_main r b (MoreStatements s rest) p = IsInStatement f r b.after s p ⊎ IsInItems f in_main r (with_item f in_main r b s) rest p

  -- in items of the block of a `switch`, each after its labels
  pub IsInSwitched : Frame → Round → Option PlainValue → Switched → Statements At → Problem → Type 0
  IsInSwitched f r on' w NoStatements p = ⊥
  IsInSwitched f r on' w (MoreStatements s rest) p =
      IsInLabels (length w.items.kinds) on' (record w.labels { after = w.items.after }) s p
      ⊎ (IsInStatement f r (with_labels every on' w s).after s p ⊎ IsInSwitched f r on' (with_switched f r on' w s) rest p)

-- ## Whole functions

-- the declaration of a function with a body
abbrev pub linked_at_definition : Known → Definition At → Identifier At → FunctionType → Linked
linked_at_definition k d name t = linked_of k name (function_type t) (storage_of d.specifiers) true false

-- what doesn't change in its body
abbrev pub frame_of_body : Heads → Known → Definition At → Identifier At → FunctionType → Frame
frame_of_body heads k d name t =
    let l : Linked = linked_at_definition k d name t in
    record { heads = heads; taken = addresses_taken t.parameters d.body; number = number_in heads.functions l.root l.internal l.name; result = t.result }

-- where the body begins, after the declaration of the function and its parameters
abbrev pub body_reached : Heads → Known → Definition At → Identifier At → FunctionType → Block'
body_reached heads k d name t =
    let s : PlainStanding = (declarator_passed every name.place (reached_at_definition k d) d.declarator).after in
    no_items_yet (body_begun (frame_of_body heads k d name t) t (names_noted every t.parameters (with_linked every heads (linked_at_definition k d name t) (with_standing k s)).standing))

-- a row that is told of a part of the body of a function, of which neither the result nor a parameter is refused
pub record IsInBody (heads : Heads) (k : Known) (d : Definition At) (r : Problem) : Type 0 where
  pub name : Identifier At
  pub named : name_in d.declarator ≡ Some name
  pub type : FunctionType
  pub typed : (declarator_passed every name.place (reached_at_definition k d) d.declarator).made ≡ Some (of_function type)
  pub inside : IsInItems (frame_of_body heads k d name type) (is_main_name name.name) in_nothing (body_reached heads k d name type) d.body r

-- what is told of a part of a body, so of each declaration in a block or in the first clause of a `for`, is told of each statement round it, of
-- the function, and of all roots, whatever stands beside it
pub record PartsOfBodiesAreTold : Type 0 where
  pub of_statement : (f : Frame) (r : Round) (l : Local) (s : Statement At) (p : Problem) → IsInStatement f r l s p → ToldAt p (done every f r l s).after
  pub of_items : (f : Frame) (in_main : Bool) (r : Round) (b : Block') (ss : Statements At) (p : Problem) → IsInItems f in_main r b ss p → ToldAt p (items_done every f in_main r b ss).after
  pub of_function : (heads : Heads) (k : Known) (d : Definition At) (r : Problem) → IsInBody heads k d r → Among r (defined_outside every heads k d).standing.problems
  pub of_roots : (roots before : List (List (External At))) (earlier : List (External At)) (d : Definition At) (r : Problem) → StandsIn roots before earlier (Defines d) →
      IsInBody (heads_of_roots 0 roots) (reached_in_roots (heads_of_roots 0 roots) before earlier) d r → Among r (standing_of every roots).problems
