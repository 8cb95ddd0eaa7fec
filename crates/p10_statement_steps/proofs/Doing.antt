-- Statements and items of bodies, by steps.
use Rattle.std.proofs.Common.{ℕ, zero, ℤ, Bool, true, false, ◌||◌, List, [], length, Option, Some, None}
use Rattle.std.specs.Prelude.{if◌then◌else◌}
use Rattle.p10_base.specs.declared.at.At.{At}
use Rattle.p10_base.specs.declared.codes.SubsetCode.{SubsetCode}
use Rattle.p10_base.specs.declared.codes.SubsetCode.TheVariants as subset
use Rattle.p10_syn.specs.Trees.{Expression, expression, Comma, Expressions, NoExpressions, MoreExpressions, Optional, Absent, Present, Statement, Empty, Evaluate, Block, If, IfElse, Switch, While, Do, For, Case, Default, Label, Goto, Break, Continue, Return, Declare, Pragma, Statements, NoStatements, MoreStatements}
use Rattle.p10_core.specs.declared.statements.Label.{Label as CaseLabel}
use Rattle.p10_core.specs.Rows.{is_void}
use Rattle.p10_core.specs.Typed.{PlainValue, PlainStatement, PlainStatementForm, return, break, continue, mark}
use Rattle.p10_elabx.specs.First.{Keep}
use Rattle.p10_elabx.specs.Judging.{place_of}
use Rattle.p10_elabd.specs.Standing.{PlainStanding}
use Rattle.p10_elabd.specs.Expressions.{for_expression, value_by, constant_number}
use Rattle.p10_elabd.specs.declared.site.Site.TheVariants as site_is
use Rattle.p10_elabs.specs.Locals.{Frame, Local, Done, done_in, refusing_in, opened, closed}
use Rattle.p10_elabs.specs.LocalDeclarations.{declared_locally}
use Rattle.p10_elabs.specs.Expressions.{form_found, expression_statement, piece_done, pieces_done, clause_done, optional_clause, tested, test_done, optional_test, switched, switch_done}
use Rattle.p10_elabs.specs.declared.round.Round.{Round}
use Rattle.p10_elabs.specs.declared.kind.Kind.TheVariants as item
use Rattle.p10_elabs.specs.Marks.{mark_of}
use Rattle.p10_elabs.specs.Statements.{inside, inside_loop, inside_switch, among_labels, made_at, refused_statement, returned, return_done, with_loop, kind_of, Block', no_items_yet, with_declared, with_statement, pragma_done, Labelled, is_labelled, label_added, case_noted, case_value, case_done, default_done, labels_noted, Switched, nothing_switched, with_labels, start_done, constant_done, done, items_done, switched_done}
use Rattle.p10_declaration_steps.specs.Steps.{Steps, same, followed}
use Rattle.p10_declaration_steps.proofs.Steps.{over_refusing, over_noted, over_expression, over_value}
use Rattle.p10_statement_steps.specs.Steps.{BodySteps, body_part, body_followed, declared_in_body, body_block_closed}
use Rattle.p10_statement_steps.specs.Laws.{StatementsTakeSteps}
use Rattle.p10_statement_steps.proofs.Declaring.{over_locally}

pub over_statement : (h : Keep) (l : Local) (at : At) (e : Expression At) → Steps h l.standing (expression_statement h l at e).after.standing
over_statement h l at e =
    let s : PlainStanding = for_expression l.standing e in
    followed (over_expression h l.standing e) (over_noted h (form_found h s.scope e) s)

pub over_piece : (h : Keep) (d : Done (List PlainStatement)) (e : Expression At) → Steps h d.after.standing (piece_done h d e).after.standing
over_piece h d e = over_statement h d.after (place_of e) e

pub over_pieces : (h : Keep) (d : Done (List PlainStatement)) (all : Expressions At) → Steps h d.after.standing (pieces_done h d all).after.standing
over_pieces h d NoExpressions = same d.after.standing
over_pieces h d (MoreExpressions e rest) = followed (over_piece h d e) (over_pieces h (piece_done h d e) rest)

pub over_clause : (h : Keep) (l : Local) (e : Expression At) → Steps h l.standing (clause_done h l e).after.standing
over_clause h l (expression at zero (Comma all)) = over_pieces h (record { made = Some []; after = l }) all
over_clause h l e = over_piece h (record { made = Some []; after = l }) e

pub over_optional_clause : (h : Keep) (l : Local) (o : Optional At) → Steps h l.standing (optional_clause h l o).after.standing
over_optional_clause h l Absent = same l.standing
over_optional_clause h l (Present e) = over_clause h l e

pub over_test : (h : Keep) (l : Local) (e : Expression At) → Steps h l.standing (test_done h l e).after.standing
over_test h l e = over_value h l.standing e tested

pub over_optional_test : (h : Keep) (l : Local) (o : Optional At) → Steps h l.standing (optional_test h l o).after.standing
over_optional_test h l Absent = same l.standing
over_optional_test h l (Present e) = over_test h l e

pub over_switch : (h : Keep) (l : Local) (e : Expression At) → Steps h l.standing (switch_done h l e).after.standing
over_switch h l e = over_value h l.standing e switched

-- ## Pieces

either_done : {A : Type 0} {h : Keep} (b : Bool) (s : PlainStanding) (d e : Done A) → Steps h s d.after.standing → Steps h s e.after.standing → Steps h s (if b then d else e).after.standing
either_done true s d e g k = g
either_done false s d e g k = k

pub over_where : (h : Keep) (b : Bool) (code : SubsetCode) (at : At) (f : PlainStatementForm) (l : Local) → Steps h l.standing (if b then made_at at f l else record { made = None; after = refusing_in h true code at l }).after.standing
over_where h b code at f l = either_done b l.standing (made_at at f l) (record { made = None; after = refusing_in h true code at l }) (same l.standing) (over_refusing h true code at l.standing)

pub over_return : (h : Keep) (f : Frame) (at keyword : At) (e : Optional At) (l : Local) → Steps h l.standing (return_done h f at keyword e l).after.standing
over_return h f at keyword Absent l = over_where h (is_void f.result) subset.TypesDiffer at (return keyword.span None) l
over_return h f at keyword (Present e) l = over_value h l.standing e (returned at f.result)

pub over_refused : {A : Type 0} (h : Keep) (at : At) (s : PlainStanding) (d : Done A) → BodySteps h s d.after.standing → BodySteps h s (refused_statement h at d).after.standing
over_refused h at s d g = body_followed g (body_part (over_refusing h true subset.BadJump at d.after.standing))

pub over_labelled : (h : Keep) (b : Bool) (at : At) (s : PlainStanding) (d : Done PlainStatement) → BodySteps h s d.after.standing → BodySteps h s (if b then d else refused_statement h at d).after.standing
over_labelled h true at s d g = g
over_labelled h false at s d g = over_refused h at s d g

either_local : {h : Keep} (b : Bool) (s : PlainStanding) (l m : Local) → Steps h s l.standing → Steps h s m.standing → Steps h s (if b then l else m).standing
either_local true s l m g k = g
either_local false s l m g k = k

pub over_constant : (h : Keep) (r : Round) (l : Local) (e : Expression At) → Steps h l.standing (constant_done h r l e).standing
over_constant h r l e = either_local r.at_labels l.standing l (done_in l (value_by h l.standing e constant_number)).after (same l.standing) (over_value h l.standing e constant_number)

pub over_start : (h : Keep) (f : Frame) (l : Local) (s : Statement At) → BodySteps h l.standing (start_done h f l s).after.standing
over_start h f l (Declare d) = declared_in_body f site_is.InFor l d
over_start h f l (Evaluate at e) = body_part (over_clause h l e)
over_start h f l s = body_part (same l.standing)

-- ## Labels

either_labelled : {h : Keep} (b : Bool) (s : PlainStanding) (d e : Labelled) → Steps h s d.after.standing → Steps h s e.after.standing → Steps h s (if b then d else e).after.standing
either_labelled true s d e g k = g
either_labelled false s d e g k = k

pub over_case_noted : (h : Keep) (at : At) (n : ℕ) (k : Labelled) (o : Option ℤ) (l : Local) → Steps h l.standing (case_noted h at n k o l).after.standing
over_case_noted h at n k None l = same l.standing
over_case_noted h at n k (Some z) l =
    either_labelled (is_labelled z k.cases) l.standing (record k { cases = None; after = refusing_in h true subset.BadJump at l }) (record k { cases = label_added k.cases z n; after = l }) (over_refusing h true subset.BadJump at l.standing) (same l.standing)

pub over_case : (h : Keep) (at : At) (n : ℕ) (o : Option PlainValue) (k : Labelled) (e : Expression At) → Steps h k.after.standing (case_done h at n o k e).after.standing
over_case h at n o k e =
    let d : Done ℤ = done_in k.after (value_by h k.after.standing e (case_value o)) in
    followed (over_value h k.after.standing e (case_value o)) (over_case_noted h at n k d.made d.after)

pub over_default_with : (h : Keep) (at : At) (n : ℕ) (cases : Option (List CaseLabel)) (o : Option ℕ) (l : Local) → Steps h l.standing (default_done h at n (record { cases = cases; otherwise = o; after = l })).after.standing
over_default_with h at n cases None l = same l.standing
over_default_with h at n cases (Some m) l = over_refusing h true subset.BadJump at l.standing

pub over_labels : (h : Keep) (n : ℕ) (o : Option PlainValue) (k : Labelled) (s : Statement At) → Steps h k.after.standing (labels_noted h n o k s).after.standing
over_labels h n o k (Case at e s) = followed (over_case h at n o k e) (over_labels h n o (case_done h at n o k e) s)
over_labels h n o k (Default at s) = followed (over_default_with h at n k.cases k.otherwise k.after) (over_labels h n o (default_done h at n k) s)
over_labels h n o k s = same k.after.standing

-- a block that is closed
pub over_closed : (h : Keep) (l k : Local) → BodySteps h (opened l).standing k.standing → BodySteps h l.standing (closed k).standing
over_closed h l k a = body_block_closed l.standing k.standing a

-- ## The trees

mutual
  pub over_done : (h : Keep) (f : Frame) (r : Round) (l : Local) (s : Statement At) → BodySteps h l.standing (done h f r l s).after.standing
  over_done h f r l (Empty at) = body_part (same l.standing)
  over_done h f r l (Evaluate at e) = body_part (over_statement h l at e)
  over_done h f r l (Block at all) = over_closed h l (items_done h f false (inside r) (no_items_yet (opened l)) all).after (over_items h f false (inside r) (no_items_yet (opened l)) all)
  over_done h f r l (If at e s) =
      let v : Done PlainValue = test_done h (opened l) e in
      let d : Done PlainStatement = done h f (inside r) (opened v.after) s in
      over_closed h l (closed d.after) (body_followed (body_part (over_test h (opened l) e)) (over_closed h v.after d.after (over_done h f (inside r) (opened v.after) s)))
  over_done h f r l (IfElse at e s t) =
      let v : Done PlainValue = test_done h (opened l) e in
      let d : Done PlainStatement = done h f (inside r) (opened v.after) s in
      let g : Done PlainStatement = done h f (inside r) (opened (closed d.after)) t in
      over_closed h l (closed g.after)
      (body_followed (body_part (over_test h (opened l) e)) (body_followed (over_closed h v.after d.after (over_done h f (inside r) (opened v.after) s)) (over_closed h (closed d.after) g.after (over_done h f (inside r) (opened (closed d.after)) t))))
  over_done h f r l (While at keyword e s) =
      let v : Done PlainValue = test_done h (opened (with_loop l)) e in
      let d : Done PlainStatement = done h f (inside_loop r) (opened v.after) s in
      over_closed h (with_loop l) (closed d.after) (body_followed (body_part (over_test h (opened (with_loop l)) e)) (over_closed h v.after d.after (over_done h f (inside_loop r) (opened v.after) s)))
  over_done h f r l (Do at keyword s e) =
      let d : Done PlainStatement = done h f (inside_loop r) (opened (opened (with_loop l))) s in
      let v : Done PlainValue = test_done h (closed d.after) e in
      over_closed h (with_loop l) v.after (body_followed (over_closed h (opened (with_loop l)) d.after (over_done h f (inside_loop r) (opened (opened (with_loop l))) s)) (body_part (over_test h (closed d.after) e)))
  over_done h f r l (For at keyword start test step s) =
      let a : Done (List PlainStatement) = start_done h f (opened (with_loop l)) start in
      let v : Done (Option PlainValue) = optional_test h a.after test in
      let c : Done (List PlainStatement) = optional_clause h v.after step in
      let d : Done PlainStatement = done h f (inside_loop r) (opened c.after) s in
      over_closed h (with_loop l) (closed d.after)
      (body_followed (over_start h f (opened (with_loop l)) start) (body_followed (body_part (over_optional_test h a.after test)) (body_followed (body_part (over_optional_clause h v.after step)) (over_closed h c.after d.after (over_done h f (inside_loop r) (opened c.after) s)))))
  over_done h f r l (Switch at keyword e (Block place all)) =
      let v : Done PlainValue = switch_done h (opened l) e in
      let w : Switched = switched_done h f (among_labels r) v.made (nothing_switched (opened v.after)) all in
      over_closed h l (closed w.items.after) (body_followed (body_part (over_switch h (opened l) e)) (over_closed h v.after w.items.after (over_switched h f (among_labels r) v.made (nothing_switched (opened v.after)) all)))
  over_done h f r l (Switch at keyword e s) =
      let v : Done PlainValue = switch_done h (opened l) e in
      let d : Done PlainStatement = done h f (inside_switch r) (opened v.after) s in
      over_closed h l (closed d.after) (body_followed (body_part (over_switch h (opened l) e)) (over_closed h v.after d.after (over_done h f (inside_switch r) (opened v.after) s)))
  over_done h f r l (Case at e s) =
      over_labelled h r.at_labels at l.standing (done h f r (constant_done h r l e) s) (body_followed (body_part (over_constant h r l e)) (over_done h f r (constant_done h r l e) s))
  over_done h f r l (Default at s) = over_labelled h r.at_labels at l.standing (done h f r l s) (over_done h f r l s)
  over_done h f r l (Label at name s) = over_refused h at l.standing (done h f r l s) (over_done h f r l s)
  over_done h f r l (Goto at name) = body_part (over_refusing h true subset.BadJump at l.standing)
  over_done h f r l (Break at) = body_part (over_where h (r.in_loop || r.in_switch) subset.BadJump at break l)
  over_done h f r l (Continue at) = body_part (over_where h r.in_loop subset.BadJump at continue l)
  over_done h f r l (Return at keyword e) = body_part (over_return h f at keyword e l)
  over_done h f r l (Declare d) = body_followed (declared_in_body f site_is.InBlock l d) (body_part (over_refusing h true subset.BadJump d.place (declared_locally h f site_is.InBlock l d).after.standing))
  over_done h f r l (Pragma at text) = body_part (over_where h false subset.MisplacedPragma at (mark (mark_of text)) l)

  pub over_items : (h : Keep) (f : Frame) (in_main : Bool) (r : Round) (b : Block') (all : Statements At) → BodySteps h b.after.standing (items_done h f in_main r b all).after.standing
  over_items h f in_main r b NoStatements = body_part (same b.after.standing)
  over_items h f in_main r b (MoreStatements (Declare d) rest) =
      body_followed (declared_in_body f site_is.InBlock b.after d) (over_items h f in_main r (with_declared b (declared_locally h f site_is.InBlock b.after d)) rest)
  over_items h f in_main r b (MoreStatements (Pragma at text) rest) =
      body_followed (body_part (over_where h in_main subset.MisplacedPragma at (mark (mark_of text)) b.after)) (over_items h f in_main r (with_statement b (item.Mark (mark_of text) at) (pragma_done h in_main at (mark (mark_of text)) b.after)) rest)
  over_items h f in_main r b (MoreStatements s rest) =
      body_followed (over_done h f r b.after s) (over_items h f in_main r (with_statement b (kind_of h b.after s) (done h f r b.after s)) rest)

  pub over_switched : (h : Keep) (f : Frame) (r : Round) (o : Option PlainValue) (w : Switched) (all : Statements At) → BodySteps h w.items.after.standing (switched_done h f r o w all).items.after.standing
  over_switched h f r o w NoStatements = body_part (same w.items.after.standing)
  over_switched h f r o w (MoreStatements s rest) =
      let k : Labelled = with_labels h o w s in
      body_followed (body_part (over_labels h (length w.items.kinds) o (record w.labels { after = w.items.after }) s))
      (body_followed (over_done h f r k.after s) (over_switched h f r o (record { items = with_statement w.items item.Other (done h f r k.after s); labels = k }) rest))

pub statements_take_steps : StatementsTakeSteps
statements_take_steps = record { declarations = over_locally; items = over_items }
