-- What is told of a part of a body is told of the function and of all roots.
use Rattle.std.specs.Prelude.{◌≡◌, ◌⊎◌, refl, ◌||◌, ℕ, Bool, true, false, if◌then◌else◌, List, length, ◌++◌, Option}
use Rattle.std.proofs.Common.{inl, inr, sym, subst}
use Rattle.p10_base.specs.declared.at.At.{At}
use Rattle.p10_base.specs.declared.codes.SubsetCode.TheVariants as subset
use Rattle.p10_syn.specs.Trees.{Definition, Statement, Empty, Evaluate, Block, If, IfElse, Switch, While, Do, For, Case, Default, Label, Goto, Break, Continue, Return, Declare, Pragma, Statements, NoStatements, MoreStatements, Defines}
use Rattle.p10_core.specs.Types.{PlainType}
use Rattle.p10_core.specs.Typed.{PlainValue, PlainStatement, PlainStatementForm, break, continue, mark}
use Rattle.p10_elabx.specs.declared.problem.Problem.{Problem}
use Rattle.p10_elabx.specs.First.{Among, every}
use Rattle.p10_elabd.specs.Laws.{FormRowsAreTold}
use Rattle.p10_elabd.specs.Standing.{PlainStanding, Passed}
use Rattle.p10_elabd.specs.Words.{storage_of}
use Rattle.p10_elabd.specs.declared.site.Site.TheVariants as site_is
use Rattle.p10_elabd.specs.Shapes.{DeclaredType}
use Rattle.p10_elabd.specs.Declaring.{specified, declarator_passed, based}
use Rattle.p10_heads.specs.Heads.{Heads, heads_of_roots}
use Rattle.p10_elabs.specs.Addresses.{constants_of}
use Rattle.p10_elabs.specs.Locals.{Frame, Local, Done, opened}
use Rattle.p10_elabs.specs.LocalDeclarations.{declared_locally}
use Rattle.p10_elabs.specs.Expressions.{test_done, optional_test, optional_clause, switch_done}
use Rattle.p10_elabs.specs.declared.round.Round.{Round}
use Rattle.p10_elabs.specs.declared.kind.Kind.{Kind}
use Rattle.p10_elabs.specs.declared.kind.Kind.TheVariants as item
use Rattle.p10_elabs.specs.Marks.{mark_of, marks_noted}
use Rattle.p10_elabs.specs.Statements.{in_nothing, inside, inside_loop, inside_switch, among_labels, refused_statement, jump, with_loop, kind_of, Block', no_items_yet, with_declared, with_statement, pragma_done, Labelled, case_done, default_done, labels_noted, Switched, nothing_switched, with_labels, start_done, constant_done, part_ended, done, items_done, switched_done, labelled}
use Rattle.p10_linkage.specs.Linkage.{is_main_name}
use Rattle.p10_elab.specs.Knowledge.{Known, with_standing}
use Rattle.p10_elab.specs.Outer.{main_constants, function_by_type, allowed_at_definition, function_named, defined_outside}
use Rattle.p10_refusals.specs.InRoots.{reached_in_roots}
use Rattle.p10_refusals.specs.InBodies.{bad_jump_at, misplaced_at, ToldAt, IsInStart, IsInLabels, IsInStatement, IsInItems, IsInSwitched, frame_of_body, body_reached, IsInBody, PartsOfBodiesAreTold}
use Rattle.p10_refusals.proofs.Growing.{grows_refusing, refusing_told, grown, grown_in_body, Grows}
use Rattle.p10_refusals.proofs.InRoots.{declarations_told}
use Rattle.p10_declaration_steps.specs.Steps.{same}
use Rattle.p10_statement_steps.specs.Steps.{body_part}
use Rattle.p10_statement_steps.proofs.Doing.{over_test, over_optional_test, over_optional_clause, over_labels, over_done, over_items, over_switched, over_labelled}
use Rattle.p10_root_steps.proofs.Parts.{over_marks}

grows_labelled : (r : Round) (at : At) (d : Done PlainStatement) → Grows d.after.standing (labelled every r at d).after.standing
grows_labelled r at d = grown_in_body (over_labelled every r.at_labels at d.after.standing d (body_part (same d.after.standing)))

-- ## Statements

labels_told : (n : ℕ) (on' : Option PlainValue) (k : Labelled) (s : Statement At) (p : Problem) → IsInLabels n on' k s p → ToldAt p (labels_noted every n on' k s).after
labels_told n on' k (Case at e s) p (inl h) = (grown (over_labels every n on' (case_done every at n on' k e) s)).among p h
labels_told n on' k (Case at e s) p (inr h) = labels_told n on' (case_done every at n on' k e) s p h
labels_told n on' k (Default at s) p (inl h) = (grown (over_labels every n on' (default_done every at n k) s)).among p h
labels_told n on' k (Default at s) p (inr h) = labels_told n on' (default_done every at n k) s p h
labels_told n on' k s p h = absurd h

either_told : {A B C : Type 0} → (A → C) → (B → C) → A ⊎ B → C
either_told f g (inl a) = f a
either_told f g (inr b) = g b

-- a row that is another one
told_as : (l : Local) (p q : Problem) → p ≡ q → ToldAt q l → ToldAt p l
told_as l p q e h = subst (λ x. ToldAt x l) (sym e) h

jump_told : (may : Bool) (at : At) (f : PlainStatementForm) (l : Local) → may ≡ false → ToldAt (bad_jump_at at) (jump every may at f l).after
jump_told true at f l e = absurd cc
jump_told false at f l e = refusing_told true subset.BadJump at l.standing refl

pragma_told : (may : Bool) (at : At) (f : PlainStatementForm) (l : Local) → may ≡ false → ToldAt (misplaced_at at) (pragma_done every may at f l).after
pragma_told true at f l e = absurd cc
pragma_told false at f l e = refusing_told true subset.MisplacedPragma at l.standing refl

label_told : (b : Bool) (at : At) (d : Done PlainStatement) → b ≡ false → ToldAt (bad_jump_at at) (if b then d else refused_statement every at d).after
label_told true at d e = absurd cc
label_told false at d e = refusing_told true subset.BadJump at d.after.standing refl

start_told : (f : Frame) (l : Local) (s : Statement At) (p : Problem) → IsInStart f l s p → ToldAt p (start_done every f l s).after
start_told f l (Declare d) p h = h
start_told f l (Evaluate at e) p h = h
start_told f l s p h = absurd h

mutual
  statement_told : (f : Frame) (r : Round) (l : Local) (s : Statement At) (p : Problem) → IsInStatement f r l s p → ToldAt p (done every f r l s).after
  statement_told f r l (Block at ss) p h = items_told f false (inside r) (no_items_yet (opened l)) ss p h
  statement_told f r l (If at e s) p (inl h) = (grown_in_body (over_done every f (inside r) (opened (test_done every (opened l) e).after) s)).among p h
  statement_told f r l (If at e s) p (inr h) = statement_told f (inside r) (opened (test_done every (opened l) e).after) s p h
  statement_told f r l (IfElse at e s t) p (inl h) =
      let v : Done PlainValue = test_done every (opened l) e in
      let d : Done PlainStatement = part_ended (done every f (inside r) (opened v.after) s) in
      (grown_in_body (over_done every f (inside r) (opened d.after) t)).among p ((grown_in_body (over_done every f (inside r) (opened v.after) s)).among p h)
  statement_told f r l (IfElse at e s t) p (inr (inl h)) =
      let v : Done PlainValue = test_done every (opened l) e in
      let d : Done PlainStatement = part_ended (done every f (inside r) (opened v.after) s) in
      (grown_in_body (over_done every f (inside r) (opened d.after) t)).among p (statement_told f (inside r) (opened v.after) s p h)
  statement_told f r l (IfElse at e s t) p (inr (inr h)) =
      let v : Done PlainValue = test_done every (opened l) e in
      let d : Done PlainStatement = part_ended (done every f (inside r) (opened v.after) s) in
      statement_told f (inside r) (opened d.after) t p h
  statement_told f r l (While at k e s) p (inl h) = (grown_in_body (over_done every f (inside_loop r) (opened (test_done every (opened (with_loop l)) e).after) s)).among p h
  statement_told f r l (While at k e s) p (inr h) = statement_told f (inside_loop r) (opened (test_done every (opened (with_loop l)) e).after) s p h
  statement_told f r l (Do at k s e) p (inl h) =
      let d : Done PlainStatement = part_ended (done every f (inside_loop r) (opened (opened (with_loop l))) s) in
      (grown (over_test every d.after e)).among p (statement_told f (inside_loop r) (opened (opened (with_loop l))) s p h)
  statement_told f r l (Do at k s e) p (inr h) = h
  statement_told f r l (For at k start test step s) p (inl h) =
      let a : Done (List PlainStatement) = start_done every f (opened (with_loop l)) start in
      let v : Done (Option PlainValue) = optional_test every a.after test in
      let c : Done (List PlainStatement) = optional_clause every v.after step in
      (grown_in_body (over_done every f (inside_loop r) (opened c.after) s)).among p ((grown (over_optional_clause every v.after step)).among p ((grown (over_optional_test every a.after test)).among p (start_told f (opened (with_loop l)) start p h)))
  statement_told f r l (For at k start test step s) p (inr (inl h)) =
      let v : Done (Option PlainValue) = optional_test every (start_done every f (opened (with_loop l)) start).after test in
      let c : Done (List PlainStatement) = optional_clause every v.after step in
      (grown_in_body (over_done every f (inside_loop r) (opened c.after) s)).among p ((grown (over_optional_clause every v.after step)).among p h)
  statement_told f r l (For at k start test step s) p (inr (inr (inl h))) =
      let v : Done (Option PlainValue) = optional_test every (start_done every f (opened (with_loop l)) start).after test in
      (grown_in_body (over_done every f (inside_loop r) (opened (optional_clause every v.after step).after) s)).among p h
  statement_told f r l (For at k start test step s) p (inr (inr (inr h))) =
      let v : Done (Option PlainValue) = optional_test every (start_done every f (opened (with_loop l)) start).after test in
      statement_told f (inside_loop r) (opened (optional_clause every v.after step).after) s p h
  statement_told f r l (Switch at k e (Block place ss)) p (inl h) =
      let v : Done PlainValue = switch_done every (opened l) e in
      (grown_in_body (over_switched every f (among_labels r) v.made (nothing_switched (opened v.after)) ss)).among p h
  statement_told f r l (Switch at k e (Block place ss)) p (inr h) =
      let v : Done PlainValue = switch_done every (opened l) e in
      switched_told f (among_labels r) v.made (nothing_switched (opened v.after)) ss p h
  statement_told f r l (Switch at k e s) p h =
      let m : Local = opened (switch_done every (opened l) e).after in
      either_told (λ x. (grown_in_body (over_done every f (inside_switch r) m s)).among p x) (λ x. statement_told f (inside_switch r) m s p x) h
  statement_told f r l (Case at e s) p (inl (out, h)) = told_as (done every f r l (Case at e s)).after p (bad_jump_at at) h (label_told r.at_labels at (done every f r (constant_done every r l e) s) out)
  statement_told f r l (Case at e s) p (inr (inl h)) =
      let m : Local = constant_done every r l e in
      (grows_labelled r at (done every f r m s)).among p ((grown_in_body (over_done every f r m s)).among p h)
  statement_told f r l (Case at e s) p (inr (inr h)) =
      let m : Local = constant_done every r l e in
      (grows_labelled r at (done every f r m s)).among p (statement_told f r m s p h)
  statement_told f r l (Default at s) p (inl (out, h)) = told_as (done every f r l (Default at s)).after p (bad_jump_at at) h (label_told r.at_labels at (done every f r l s) out)
  statement_told f r l (Default at s) p (inr h) = (grows_labelled r at (done every f r l s)).among p (statement_told f r l s p h)
  statement_told f r l (Label at name s) p (inl h) = told_as (done every f r l (Label at name s)).after p (bad_jump_at at) h (refusing_told true subset.BadJump at (done every f r l s).after.standing refl)
  statement_told f r l (Label at name s) p (inr h) =
      (grows_refusing true subset.BadJump at (done every f r l s).after.standing).among p (statement_told f r l s p h)
  statement_told f r l (Empty at) p h = absurd h
  statement_told f r l (Evaluate at e) p h = h
  statement_told f r l (Return at k e) p h = h
  statement_told f r l (Goto at name) p h = told_as (done every f r l (Goto at name)).after p (bad_jump_at at) h (refusing_told true subset.BadJump at l.standing refl)
  statement_told f r l (Break at) p (out, h) = told_as (done every f r l (Break at)).after p (bad_jump_at at) h (jump_told (r.in_loop || r.in_switch) at break l out)
  statement_told f r l (Continue at) p (out, h) = told_as (done every f r l (Continue at)).after p (bad_jump_at at) h (jump_told r.in_loop at continue l out)
  statement_told f r l (Declare d) p (inl h) = told_as (done every f r l (Declare d)).after p (bad_jump_at d.place) h (refusing_told true subset.BadJump d.place (declared_locally every f site_is.InBlock l d).after.standing refl)
  statement_told f r l (Declare d) p (inr h) = (grows_refusing true subset.BadJump d.place (declared_locally every f site_is.InBlock l d).after.standing).among p h
  statement_told f r l (Pragma at text) p h = told_as (done every f r l (Pragma at text)).after p (misplaced_at at) h (refusing_told true subset.MisplacedPragma at l.standing refl)

  items_told : (f : Frame) (in_main : Bool) (r : Round) (b : Block') (ss : Statements At) (p : Problem) → IsInItems f in_main r b ss p → ToldAt p (items_done every f in_main r b ss).after
  items_told f in_main r b NoStatements p h = absurd h
  items_told f in_main r b (MoreStatements (Declare d) rest) p (inl h) = (grown_in_body (over_items every f in_main r (with_declared b (declared_locally every f site_is.InBlock b.after d)) rest)).among p h
  items_told f in_main r b (MoreStatements (Declare d) rest) p (inr h) = items_told f in_main r (with_declared b (declared_locally every f site_is.InBlock b.after d)) rest p h
  items_told f in_main r b (MoreStatements (Pragma at text) rest) p (inl (out, h)) =
      (grown_in_body (over_items every f in_main r (with_statement b (item.Mark (mark_of text) at) (pragma_done every in_main at (mark (mark_of text)) b.after)) rest)).among p
      (told_as (pragma_done every in_main at (mark (mark_of text)) b.after).after p (misplaced_at at) h (pragma_told in_main at (mark (mark_of text)) b.after out))
  items_told f in_main r b (MoreStatements (Pragma at text) rest) p (inr h) =
      items_told f in_main r (with_statement b (item.Mark (mark_of text) at) (pragma_done every in_main at (mark (mark_of text)) b.after)) rest p h
  items_told f in_main r b (MoreStatements s rest) p h =
      either_told (λ x. (grown_in_body (over_items every f in_main r (with_statement b (kind_of every b.after s) (done every f r b.after s)) rest)).among p (statement_told f r b.after s p x))
      (λ x. items_told f in_main r (with_statement b (kind_of every b.after s) (done every f r b.after s)) rest p x) h

  switched_told : (f : Frame) (r : Round) (on' : Option PlainValue) (w : Switched) (ss : Statements At) (p : Problem) → IsInSwitched f r on' w ss p →
      ToldAt p (switched_done every f r on' w ss).items.after
  switched_told f r on' w NoStatements p h = absurd h
  switched_told f r on' w (MoreStatements s rest) p (inl h) =
      let k : Labelled = with_labels every on' w s in
      (grown_in_body (over_switched every f r on' (record { items = with_statement w.items item.Other (done every f r k.after s); labels = k }) rest)).among p
      ((grown_in_body (over_done every f r k.after s)).among p (labels_told (length w.items.kinds) on' (record w.labels { after = w.items.after }) s p h))
  switched_told f r on' w (MoreStatements s rest) p (inr (inl h)) =
      let k : Labelled = with_labels every on' w s in
      (grown_in_body (over_switched every f r on' (record { items = with_statement w.items item.Other (done every f r k.after s); labels = k }) rest)).among p (statement_told f r k.after s p h)
  switched_told f r on' w (MoreStatements s rest) p (inr (inr h)) =
      let k : Labelled = with_labels every on' w s in
      switched_told f r on' (record { items = with_statement w.items item.Other (done every f r k.after s); labels = k }) rest p h

-- ## Functions

marks_kept : (in_main : Bool) (all : List Kind) (s : PlainStanding) (r : Problem) → Among r s.problems → Among r (if in_main then marks_noted every true false false all s else s).problems
marks_kept true all s r h = (grown (over_marks every true false false all s)).among r h
marks_kept false all s r h = h

function_told : (heads : Heads) (k : Known) (d : Definition At) (r : Problem) → IsInBody heads k d r → Among r (defined_outside every heads k d).standing.problems
unfolding defined_outside
function_told heads k d r is =
    let t : Passed PlainType = specified every site_is.OfDefinition (allowed_at_definition d) false k.standing d.specifiers in
    let j : Known = record k { standing = t.after; mains = k.mains ++ main_constants (constants_of d.specifiers) } in
    let p : Passed DeclaredType = declarator_passed every is.name.place (based t.made t.after) d.declarator in
    let f : Frame = frame_of_body heads k d is.name is.type in
    let in_main : Bool = is_main_name is.name.name in
    let b : Block' = items_done every f in_main in_nothing (body_reached heads k d is.name is.type) d.body in
    subst (λ o. Among r (function_named every heads d j t.made o).standing.problems) (sym is.named)
    (subst (λ o. Among r (function_by_type every heads (storage_of d.specifiers) d is.name (with_standing j p.after) o).standing.problems) (sym is.typed)
    (marks_kept in_main b.kinds b.after.standing r (items_told f in_main in_nothing (body_reached heads k d is.name is.type) d.body r is.inside)))

pub parts_of_bodies_told : FormRowsAreTold → PartsOfBodiesAreTold
parts_of_bodies_told law = record {
  of_statement = statement_told;
  of_items = items_told;
  of_function = function_told;
  of_roots = λ roots before earlier d r stands is.
      declarations_told law roots before earlier (Defines d) r stands (function_told (heads_of_roots 0 roots) (reached_in_roots (heads_of_roots 0 roots) before earlier) d r is);
}
