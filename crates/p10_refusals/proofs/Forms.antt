-- Expressions as statements and as tests, where what stands is alike.
use Rattle.std.proofs.Common.{◌≡◌, ℕ, zero, ◌+◌, Bool, true, not, ◌||◌, ◌&&◌, List, [], slice_get, Option, Some, None, Ok, Err, refl, ap, subst}
use Rattle.p10_base.specs.declared.at.At.{At}
use Rattle.p10_base.specs.declared.codes.SubsetCode.TheVariants as subset
use Rattle.p10_int.specs.declared.operators.BinOp.{BinOp}
use Rattle.p10_syn.specs.Trees.{Expression, expression, Step, Assign, Call, Comma, Expressions, NoExpressions, MoreExpressions, Optional, Absent, Present}
use Rattle.p10_core.specs.declared.typed.Library.TheVariants.{Assert}
use Rattle.p10_core.specs.declared.statements.UpdateKind.TheVariants as kind
use Rattle.p10_core.specs.Types.{PlainStructure}
use Rattle.p10_core.specs.Typed.{PlainValue, PlainPlace, PlainStatement, PlainStatementForm, evaluate}
use Rattle.p10_elabx.specs.declared.problem.Problem.{Problem}
use Rattle.p10_elabx.specs.declared.operand.PlaceKind.{PlaceKind}
use Rattle.p10_elabx.specs.First.{Found, Judged, on, every, only_first, unordered}
use Rattle.p10_elabx.specs.Laws.{IsKept, Tied}
use Rattle.p10_elabx.specs.Scopes.{PlainScope}
use Rattle.p10_elabx.specs.Operands.{PlainOperand, operand_value, reads_object, reads_sensor, any_value}
use Rattle.p10_elabx.specs.Operators.{target_found, assigned, updated}
use Rattle.p10_elabx.specs.Calls.{Callee, of_library, Wanted, wanted_value, wants_of, wanted_of, Listed, no_arguments, with_value, argument_judged, with_argument, call_problem, call_value, is_counted, with_problem, call_judged}
use Rattle.p10_elabx.specs.Judging.{judge, judge_arguments, count_of, called_name, assignment_of, step_of, may_be_place, place_of, target_judged, assignment_judged, counts_as_read, counts_as_act, with_read, update_judged, one_at, step_judged, by_sign}
use Rattle.p10_elabx.proofs.Firsts.{kept_on, kept_pair, or_same, tied_on_part, tied_on_parts, tied_also, unordered_same}
use Rattle.p10_elabx.proofs.Ties.{tied, tied_if, tied_value}
use Rattle.p10_elabd.specs.Standing.{PlainStanding}
use Rattle.p10_elabd.specs.Expressions.{value_found}
use Rattle.p10_elabd.specs.Tags.{scope_of_expression}
use Rattle.p10_elabs.specs.Locals.{Local, Done}
use Rattle.p10_elabs.specs.Expressions.{assertion, evaluated, assert_called, assert_found, call_found, form_found, statement_with, expression_statement, statement_added, piece_done, pieces_done, clause_done, optional_clause, tested, test_done, optional_test, switched, switch_done}
use Rattle.p10_refusals.proofs.Alike.{Alike, alike_noted}
use Rattle.p10_refusals.proofs.Values.{alike_expression, kept_value_at}
use Rattle.p10_refusals.proofs.Locals.{AlikeLocal, AlikeDone, alike_done_in}

-- ## What is found in assignments, steps and calls

-- a test of what is found
same_test : {A B : Type 0} (test : Found A → B) (f g : Found A) → ((rs qs : List Problem) → test (Err rs) ≡ test (Err qs)) → IsKept f g → test f ≡ test g
same_test test (Ok a) (Ok b) h e = ap (λ z. test (Ok z)) e
same_test test (Ok a) (Err rs) h e = absurd e
same_test test (Err rs) (Ok b) h e = absurd e
same_test test (Err rs) (Err qs) h e = h rs qs

tied_any : (ss : List PlainStructure) (j k : Judged PlainOperand) → Tied PlainOperand j k → Tied PlainValue (any_value ss j) (any_value ss k)
unfolding any_value
tied_any ss j k t = record {
  found = kept_on j.found k.found (operand_value ss) t.found;
  acts = or_same j.acts (reads_sensor j.found) k.acts (reads_sensor k.found) t.acts (same_test reads_sensor j.found k.found (λ rs qs. refl) t.found);
  reads = or_same j.reads (reads_object j.found) k.reads (reads_object k.found) t.reads (same_test reads_object j.found k.found (λ rs qs. refl) t.found);
}

tied_target : (ss : List PlainStructure) (at : At) (may : Bool) (j k : Judged PlainOperand) → Tied PlainOperand j k → Tied (PlaceKind × PlainPlace) (target_judged every ss at may j) (target_judged only_first ss at may k)
unfolding target_judged
tied_target ss at may j k t = tied_also (not may) (not may) subset.FixedTarget at _ _ refl (tied_on_part j k (target_found ss at) t)

tied_assignment : (at : At) (j j' : Judged (PlaceKind × PlainPlace)) (k k' : Judged PlainValue) → Tied (PlaceKind × PlainPlace) j j' → Tied PlainValue k k' →
    Tied PlainStatementForm (assignment_judged every at j k) (assignment_judged only_first at j' k')
unfolding assignment_judged
tied_assignment at j j' k k' s t =
    tied_also (unordered j k) (unordered j' k') subset.UnspecifiedOrder at _ _ (unordered_same j j' k k' s t) (tied_on_parts j j' k k' (λ (kind, p) v. assigned at p v) s t)

tied_read : (j k : Judged (PlaceKind × PlainPlace)) → Tied (PlaceKind × PlainPlace) j k → Tied (PlaceKind × PlainPlace) (with_read j) (with_read k)
unfolding with_read
tied_read j k t = record {
  found = t.found;
  acts = or_same j.acts (counts_as_act j.found) k.acts (counts_as_act k.found) t.acts (same_test counts_as_act j.found k.found (λ rs qs. refl) t.found);
  reads = or_same j.reads (counts_as_read j.found) k.reads (counts_as_read k.found) t.reads (same_test counts_as_read j.found k.found (λ rs qs. refl) t.found);
}

tied_update : (ss : List PlainStructure) (at : At) (op : BinOp) (j j' : Judged (PlaceKind × PlainPlace)) (k k' : Judged PlainValue) → Tied (PlaceKind × PlainPlace) j j' → Tied PlainValue k k' →
    Tied PlainStatementForm (update_judged every ss at op j k) (update_judged only_first ss at op j' k')
unfolding update_judged
tied_update ss at op j j' k k' s t =
    let r : Tied (PlaceKind × PlainPlace) (with_read j) (with_read j') = tied_read j j' s in
    tied_also (unordered (with_read j) k) (unordered (with_read j') k') subset.UnspecifiedOrder at _ _ (unordered_same (with_read j) (with_read j') k k' r t)
    (tied_on_parts (with_read j) (with_read j') k k' (λ (place_kind, p) v. updated ss at kind.Compound op p v) r t)

tied_step : (ss : List PlainStructure) (at : At) (op : BinOp) (j k : Judged (PlaceKind × PlainPlace)) → Tied (PlaceKind × PlainPlace) j k → Tied PlainStatementForm (step_judged ss at op j) (step_judged ss at op k)
unfolding step_judged
tied_step ss at op j k t = tied_on_part (with_read j) (with_read k) (λ (place_kind, p). updated ss at kind.Step op p (one_at at)) (tied_read j k t)

tied_by_sign : (ss : List PlainStructure) (at : At) (o : Option BinOp) (j j' : Judged (PlaceKind × PlainPlace)) (k k' : Judged PlainValue) → Tied (PlaceKind × PlainPlace) j j' → Tied PlainValue k k' →
    Tied PlainStatementForm (by_sign every ss at o j k) (by_sign only_first ss at o j' k')
tied_by_sign ss at None j j' k k' s t = tied_assignment at j j' k k' s t
tied_by_sign ss at (Some op) j j' k k' s t = tied_update ss at op j j' k k' s t

record TiedList (j k : Listed) : Type 0 where
  found : IsKept j.found k.found
  acts : j.acts ≡ k.acts
  reads : j.reads ≡ k.reads
  unordered_is : j.unordered ≡ k.unordered

tied_argument : (wanted : Option Wanted) (j k : Judged PlainValue) → Tied PlainValue j k → Tied PlainValue (argument_judged wanted j) (argument_judged wanted k)
unfolding argument_judged
tied_argument wanted j k t = tied_on_part j k (wanted_value wanted) t

tied_more : (j j' : Listed) (k k' : Judged PlainValue) → TiedList j j' → Tied PlainValue k k' → TiedList (with_argument every j k) (with_argument only_first j' k')
unfolding with_argument
tied_more j j' k k' s t = record {
  found = kept_on _ _ (λ (vs, v). Ok (with_value vs v)) (kept_pair j.found j'.found k.found k'.found s.found t.found);
  acts = or_same j.acts k.acts j'.acts k'.acts s.acts t.acts;
  reads = or_same j.reads k.reads j'.reads k'.reads s.reads t.reads;
  unordered_is = λ i. s.unordered_is i || ((s.acts i && (t.acts i || t.reads i)) || ((s.acts i || s.reads i) && t.acts i));
}

tied_arguments : (s : PlainScope) (wanted : List Wanted) (i : ℕ) (j k : Listed) (all : Expressions At) → TiedList j k → TiedList (judge_arguments every s wanted i j all) (judge_arguments only_first s wanted i k all)
tied_arguments s wanted i j k NoExpressions t = t
tied_arguments s wanted i j k (MoreExpressions e rest) t =
    tied_arguments s wanted (i + 1) _ _ rest (tied_more j k _ _ t (tied_argument (slice_get wanted i) _ _ (tied_if s.evaluated _ _ (tied_value s.structures _ _ (tied s e)))))

tied_problem : {A : Type 0} (o : Option Problem) (j k : Judged A) → Tied A j k → Tied A (with_problem every o j) (with_problem only_first o k)
tied_problem None j k t = t
tied_problem (Some r) j k t = tied_also true true r.code r.at j k refl t

tied_call : (at name_at : At) (callee : Callee) (n : ℕ) (j k : Listed) → TiedList j k → Tied PlainOperand (call_judged every at name_at callee n j) (call_judged only_first at name_at callee n k)
unfolding call_judged
tied_call at name_at callee n j k t =
    tied_also j.unordered k.unordered subset.UnspecifiedOrder at _ _ t.unordered_is
    (tied_problem (call_problem at name_at callee n) _ _
    (record { found = kept_on j.found k.found (call_value at name_at callee) t.found; acts = or_same (is_counted callee) j.acts (is_counted callee) k.acts refl t.acts; reads = t.reads }))

nothing_tied : TiedList no_arguments no_arguments
nothing_tied = record { found = refl; acts = refl; reads = refl; unordered_is = refl }

-- ## Expression statements

kept_evaluated : (s : PlainScope) (j k : Judged PlainOperand) → Tied PlainOperand j k → IsKept (evaluated every s j) (evaluated only_first s k)
kept_evaluated s j k t = kept_on (any_value s.structures j).found (any_value s.structures k).found (λ v. Ok (evaluate v)) (tied_any s.structures j k t).found

kept_assert : (s : PlainScope) (at name_at : At) (all : Expressions At) → IsKept (assert_found every s at name_at all) (assert_found only_first s at name_at all)
kept_assert s at name_at all =
    kept_on _ _ assertion
    (tied_call at name_at (of_library Assert) (count_of all) _ _
    (tied_arguments s (wanted_of (wants_of (of_library Assert)) (count_of all)) 0 no_arguments no_arguments all nothing_tied)).found

kept_call : (s : PlainScope) (at : At) (all : Expressions At) (other more : Found PlainStatementForm) (o : Option At) → IsKept other more → IsKept (call_found every s at all other o) (call_found only_first s at all more o)
kept_call s at all other more None k = k
kept_call s at all other more (Some name_at) k = kept_assert s at name_at all

kept_form : (s : PlainScope) (e : Expression At) → IsKept (form_found every s e) (form_found only_first s e)
kept_form s (expression at n (Assign word a b)) =
    (tied_by_sign s.structures at (assignment_of word) _ _ _ _ (tied_target s.structures (place_of a) (may_be_place a) _ _ (tied s a)) (tied_value s.structures _ _ (tied s b))).found
kept_form s (expression at n (Step side word e)) =
    (tied_step s.structures at (step_of word) _ _ (tied_target s.structures (place_of e) (may_be_place e) _ _ (tied s e))).found
kept_form s (expression at n (Call f all)) =
    kept_call s at all (evaluated every s (judge every s (expression at n (Call f all)))) (evaluated only_first s (judge only_first s (expression at n (Call f all)))) (assert_called s (called_name f))
    (kept_evaluated s _ _ (tied s (expression at n (Call f all))))
kept_form s e = kept_evaluated s _ _ (tied s e)

alike_form : {s t : PlainStanding} (e : Expression At) → Alike s t →
    IsKept (form_found every (scope_of_expression s.scope e) e) (form_found only_first (scope_of_expression t.scope e) e)
alike_form {s = s} {t = t} e a =
    subst (λ x. IsKept (form_found every (scope_of_expression s.scope e) e) (form_found only_first (scope_of_expression x e) e)) a.scope (kept_form (scope_of_expression s.scope e) e)

pub alike_statement : {l m : Local} (at : At) (e : Expression At) → AlikeLocal l m → AlikeDone PlainStatement (expression_statement every l at e) (expression_statement only_first m at e)
alike_statement {l = l} {m = m} at e a =
    let d = alike_done_in a (alike_noted (form_found every (scope_of_expression l.standing.scope e) e) (form_found only_first (scope_of_expression m.standing.scope e) e) (alike_form e a.standing) (alike_expression e a.standing)) in
    record { made = ap (statement_with at) d.made; after = d.after }

-- ## Clauses

alike_piece : {d g : Done (List PlainStatement)} (e : Expression At) → AlikeDone (List PlainStatement) d g → AlikeDone (List PlainStatement) (piece_done every d e) (piece_done only_first g e)
alike_piece e a =
    let one = alike_statement (place_of e) e a.after in
    record { made = λ i. statement_added (a.made i) (one.made i); after = one.after }

alike_pieces : {d g : Done (List PlainStatement)} (all : Expressions At) → AlikeDone (List PlainStatement) d g → AlikeDone (List PlainStatement) (pieces_done every d all) (pieces_done only_first g all)
alike_pieces NoExpressions a = a
alike_pieces {d = d} {g = g} (MoreExpressions e rest) a = alike_pieces {d = piece_done every d e} {g = piece_done only_first g e} rest (alike_piece {d = d} {g = g} e a)

no_pieces : {l m : Local} → AlikeLocal l m → AlikeDone (List PlainStatement) (record { made = Some []; after = l }) (record { made = Some []; after = m })
no_pieces a = record { made = refl; after = a }

pub alike_clause : {l m : Local} (e : Expression At) → AlikeLocal l m → AlikeDone (List PlainStatement) (clause_done every l e) (clause_done only_first m e)
alike_clause (expression at zero (Comma all)) a = alike_pieces all (no_pieces a)
alike_clause e a = alike_piece e (no_pieces a)

pub alike_optional_clause : {l m : Local} (o : Optional At) → AlikeLocal l m → AlikeDone (List PlainStatement) (optional_clause every l o) (optional_clause only_first m o)
alike_optional_clause Absent a = no_pieces a
alike_optional_clause (Present e) a = alike_clause e a

-- ## Tests

pub alike_test : {l m : Local} (e : Expression At) → AlikeLocal l m → AlikeDone PlainValue (test_done every l e) (test_done only_first m e)
alike_test {l = l} {m = m} e a =
    alike_done_in a (alike_noted (on (value_found every l.standing e) tested) (on (value_found only_first m.standing e) tested)
    (kept_on (value_found every l.standing e) (value_found only_first m.standing e) tested (kept_value_at e a.standing)) (alike_expression e a.standing))

abbrev maybe_of : Option PlainValue → Option (Option PlainValue)
maybe_of None = None
maybe_of (Some v) = Some (Some v)

pub alike_optional_test : {l m : Local} (o : Optional At) → AlikeLocal l m → AlikeDone (Option PlainValue) (optional_test every l o) (optional_test only_first m o)
alike_optional_test Absent a = record { made = refl; after = a }
alike_optional_test {l = l} {m = m} (Present e) a =
    let d = alike_test e a in
    record { made = ap maybe_of d.made; after = d.after }

pub alike_switch : {l m : Local} (e : Expression At) → AlikeLocal l m → AlikeDone PlainValue (switch_done every l e) (switch_done only_first m e)
alike_switch {l = l} {m = m} e a =
    alike_done_in a (alike_noted (on (value_found every l.standing e) switched) (on (value_found only_first m.standing e) switched)
    (kept_on (value_found every l.standing e) (value_found only_first m.standing e) switched (kept_value_at e a.standing)) (alike_expression e a.standing))
