-- Expressions as statements and as tests are the same in both bodies.
use Rattle.std.proofs.Common.{◌≡◌, ℕ, zero, false, List, [], ◌∷◌, ◌++◌, Option, Some, None, refl, subst}
use Rattle.p10_base.specs.declared.at.At.{At}
use Rattle.p10_int.specs.Types.{promoted}
use Rattle.p10_syn.specs.Trees.{Identifier, Expression, expression, Step, Assign, Call, Comma, Expressions, NoExpressions, MoreExpressions, Optional, Absent, Present}
use Rattle.p10_core.specs.declared.typed.Library.TheVariants.{Assert}
use Rattle.p10_core.specs.Types.{integer}
use Rattle.p10_core.specs.Constants.{integer_of}
use Rattle.p10_core.specs.Typed.{PlainValue, PlainPlace, type_of, PlainStatement, PlainStatementForm}
use Rattle.p10_elabx.specs.declared.operand.PlaceKind.{PlaceKind}
use Rattle.p10_elabx.specs.First.{Keep, Found, Judged}
use Rattle.p10_elabx.specs.Scopes.{PlainScope, named}
use Rattle.p10_elabx.specs.Operands.{PlainOperand, any_value, as_value}
use Rattle.p10_elabx.specs.Calls.{Callee, of_library, callee_of, wants_of, wanted_of, no_arguments, call_judged, is_assert}
use Rattle.p10_elabx.specs.Judging.{judge, judge_arguments, count_of, called_name, assignment_of, step_of, place_of, may_be_place, target_judged}
use Rattle.p10_elabd.specs.Standing.{PlainStanding, noted}
use Rattle.p10_elabd.specs.Expressions.{for_expression}
use Rattle.p10_elabs.specs.Locals.{Local, Done, done_in}
use Rattle.p10_elabs.specs.Expressions.{assertion, evaluated, assert_called, assert_found, call_found, form_found, statement_with, expression_statement, statement_added, piece_done, pieces_done, clause_done, optional_clause, tested, test_done, optional_test, switched, switch_done}
use Rattle.p10_renaming.specs.Renaming.{Pairing, SameType, same_integer, SameValue, same_value, same_built_in, same_no_arguments, same_more_arguments, SameMaybe, same_none, same_some, SameStatement, same_statement, SameStatementForm, same_evaluate, same_asserts}
use Rattle.p10_expression_renaming.specs.Mapped.{mapped_expression, mapped_expressions, mapped_optional}
use Rattle.p10_expression_renaming.specs.Knowing.{Together, Ruling, SameOperand, same_a_value, SameScope, IsOneToOne}
use Rattle.p10_expression_renaming.proofs.Finding.{by_same, when_ok, on_both, Alike}
use Rattle.p10_expression_renaming.proofs.Sameness.{SameName, same_no_name, same_name, SameCallee, same_of_program, same_of_library, same_not_declared, same_no_function, same_refused_before}
use Rattle.p10_expression_renaming.proofs.Types.{integer_of_same}
use Rattle.p10_expression_renaming.proofs.Values.{type_same}
use Rattle.p10_expression_renaming.proofs.Operands.{any_value_both, as_value_both, converted_both}
use Rattle.p10_expression_renaming.proofs.Calls.{named_both, callee_both, call_judged_both}
use Rattle.p10_expression_renaming.proofs.TypeNames.{left, right}
use Rattle.p10_expression_renaming.proofs.Judging.{on_left, on_right, judging, arguing, called_both, as_many, library_wants_same}
use Rattle.p10_expression_renaming.proofs.Assigning.{by_sign_both, step_both, target_here}
use Rattle.p10_declaration_renaming.specs.Standings.{Both}
use Rattle.p10_declaration_renaming.proofs.Scopes.{scope_same}
use Rattle.p10_statement_renaming.proofs.Values.{noted_passes, value_by_both}
use Rattle.p10_statement_renaming.specs.Bodies.{SameRow, same_no_row, same_more_row}
use Rattle.p10_statement_renaming.proofs.Quiet.{Quiet, Makes', so, stands}

-- ## Expression statements

-- `assert` is a statement on both sides
asserted : (R : Pairing) (o k : PlainOperand) → SameOperand R o k → Ruling (SameStatementForm R) (assertion o) (assertion k)
asserted R o k (same_a_value (same_value t (same_built_in {f = Assert} (same_more_arguments h same_no_arguments)))) = same_asserts h
asserted R o k h = tt

evaluated_both : (R : Pairing) (h : Keep) (s t : PlainScope) (j k : Judged PlainOperand) → Alike (SameOperand R) j k → Together (SameStatementForm R) (evaluated h s j) (evaluated h t k)
evaluated_both R h s t j k a =
    on_both (SameValue R) (SameStatementForm R) (any_value s.structures j).found (any_value t.structures k).found _ _ (any_value_both R s.structures t.structures j k a) (λ v w same. same_evaluate same)

is_assert_same : (R : Pairing) {c d : Callee} → SameCallee R c d → is_assert c ≡ is_assert d
is_assert_same R (same_of_program ts t) = refl
is_assert_same R same_of_library = refl
is_assert_same R same_not_declared = refl
is_assert_same R same_no_function = refl
is_assert_same R same_refused_before = refl

-- places on both sides, or on neither
abbrev Placed : Option At → Option At → Type 0
Placed = Both (λ a b. Unit {0})

called_here : (R : Pairing) (s t : PlainScope) → SameScope R s t → (x y : Option (Identifier At)) → SameName x y → Placed (assert_called s x) (assert_called t y)
called_here R s t know x y same_no_name = tt
called_here R s t know x y (same_name {at = at} {to = to} {name = name}) =
    by_same Placed (is_assert (callee_of (named s name) name)) (is_assert (callee_of (named t name) name)) (is_assert_same R (callee_both R name (named_both R s t know name))) (Some at) None (Some to) None tt tt

assert_both : (R : Pairing) → IsOneToOne R → (h : Keep) (s t : PlainScope) → SameScope R s t → (at name_at to name_to : At) (all : Expressions (At × At))
    → Together (SameStatementForm R) (assert_found h s at name_at (mapped_expressions left all)) (assert_found h t to name_to (mapped_expressions right all))
assert_both R one h s t know at name_at to name_to all =
    on_both (SameOperand R) (SameStatementForm R)
    (call_judged h at name_at (of_library Assert) (count_of (mapped_expressions left all)) (judge_arguments h s (wanted_of (wants_of (of_library Assert)) (count_of (mapped_expressions left all))) 0 no_arguments (mapped_expressions left all))).found
    (call_judged h to name_to (of_library Assert) (count_of (mapped_expressions right all)) (judge_arguments h t (wanted_of (wants_of (of_library Assert)) (count_of (mapped_expressions right all))) 0 no_arguments (mapped_expressions right all))).found
    assertion assertion
    (call_judged_both R h at name_at to name_to (of_library Assert) (of_library Assert) same_of_library (count_of (mapped_expressions left all)) (count_of (mapped_expressions right all))
    (judge_arguments h s (wanted_of (wants_of (of_library Assert)) (count_of (mapped_expressions left all))) 0 no_arguments (mapped_expressions left all))
    (judge_arguments h t (wanted_of (wants_of (of_library Assert)) (count_of (mapped_expressions right all))) 0 no_arguments (mapped_expressions right all))
    (arguing R one h s t know (wanted_of (wants_of (of_library Assert)) (count_of (mapped_expressions left all))) (wanted_of (wants_of (of_library Assert)) (count_of (mapped_expressions right all)))
    (library_wants_same R Assert (count_of (mapped_expressions left all)) (count_of (mapped_expressions right all)) (as_many all)) 0 no_arguments no_arguments same_no_arguments all))
    (asserted R)

call_both : (R : Pairing) → IsOneToOne R → (h : Keep) (s t : PlainScope) → SameScope R s t → (at to : At) (all : Expressions (At × At)) (other others : Found PlainStatementForm) → Together (SameStatementForm R) other others
    → (o q : Option At) → Placed o q → Together (SameStatementForm R) (call_found h s at (mapped_expressions left all) other o) (call_found h t to (mapped_expressions right all) others q)
call_both R one h s t know at to all other others a None None p = a
call_both R one h s t know at to all other others a (Some name_at) (Some name_to) p = assert_both R one h s t know at name_at to name_to all
call_both R one h s t know at to all other others a None (Some name_to) p = absurd p
call_both R one h s t know at to all other others a (Some name_at) None p = absurd p

-- the target of an assignment or a step
abbrev target_of : Keep → PlainScope → Expression At → Judged (PlaceKind × PlainPlace)
target_of h s e = target_judged h s.structures (place_of e) (may_be_place e) (judge h s e)

pub form_both : (R : Pairing) → IsOneToOne R → (h : Keep) (s t : PlainScope) → SameScope R s t → (e : Expression (At × At))
    → Together (SameStatementForm R) (form_found h s (mapped_expression left e)) (form_found h t (mapped_expression right e))
form_both R one h s t know (expression at n (Assign word a b)) =
    by_sign_both R one h s.structures t.structures at.0 at.1 (assignment_of word) (target_of h s (mapped_expression left a)) (target_of h t (mapped_expression right a)) (target_here R one h s t know a)
    (as_value s.structures (on_left h s b)) (as_value t.structures (on_right h t b)) (as_value_both R s.structures t.structures (on_left h s b) (on_right h t b) (judging R one h s t know b))
form_both R one h s t know (expression at n (Step side word e)) =
    step_both R one s.structures t.structures at.0 at.1 (step_of word) (target_of h s (mapped_expression left e)) (target_of h t (mapped_expression right e)) (target_here R one h s t know e)
form_both R one h s t know (expression at n (Call e all)) =
    call_both R one h s t know at.0 at.1 all (evaluated h s (on_left h s (expression at n (Call e all)))) (evaluated h t (on_right h t (expression at n (Call e all))))
    (evaluated_both R h s t (on_left h s (expression at n (Call e all))) (on_right h t (expression at n (Call e all))) (judging R one h s t know (expression at n (Call e all))))
    (assert_called s (called_name (mapped_expression left e))) (assert_called t (called_name (mapped_expression right e)))
    (called_here R s t know (called_name (mapped_expression left e)) (called_name (mapped_expression right e)) (called_both e))
form_both R one h s t know e = evaluated_both R h s t (on_left h s e) (on_right h t e) (judging R one h s t know e)

statement_made : (R : Pairing) (at to : At) (m n : Option PlainStatementForm) → Both (SameStatementForm R) m n → Both (SameStatement R) (statement_with at m) (statement_with to n)
statement_made R at to None None a = tt
statement_made R at to (Some f) (Some g) a = same_statement a
statement_made R at to None (Some g) a = absurd a
statement_made R at to (Some f) None a = absurd a

pub expression_both : {B : Type 0} (R : Pairing) → IsOneToOne R → (last : ℕ) (h : Keep) (l k : Local) → Quiet R last B l k → (at to : At) (e : Expression (At × At))
    → Makes' R last B (SameStatement R) (expression_statement h l at (mapped_expression left e)) (expression_statement h k to (mapped_expression right e))
expression_both R one last h l k a at to e =
    let s : PlainStanding = for_expression l.standing (mapped_expression left e) in
    let t : PlainStanding = for_expression k.standing (mapped_expression right e) in
    let d : Done PlainStatementForm = done_in l (noted h (form_found h s.scope (mapped_expression left e)) s) in
    let g : Done PlainStatementForm = done_in k (noted h (form_found h t.scope (mapped_expression right e)) t) in
    so R last d.after g.after (λ b. (b.0, statement_made R at to d.made g.made b.1))
    (stands R last l k d.after.standing g.after.standing a
    (noted_passes R one last h (SameStatementForm R) l.standing k.standing e (form_found h s.scope (mapped_expression left e)) (form_found h t.scope (mapped_expression right e))
    (λ same. form_both R one h s.scope t.scope (scope_same R last s.scope t.scope same) e)))

-- ## Clauses

one_more_row : (R : Pairing) {ss ts : List PlainStatement} → SameRow R ss ts → {s t : PlainStatement} → SameStatement R s t → SameRow R (ss ++ s ∷ []) (ts ++ t ∷ [])
one_more_row R same_no_row h = same_more_row h same_no_row
one_more_row R (same_more_row k rest) h = same_more_row k (one_more_row R rest h)

pub added : (R : Pairing) (m n : Option (List PlainStatement)) → Both (SameRow R) m n → (s t : Option PlainStatement) → Both (SameStatement R) s t → Both (SameRow R) (statement_added m s) (statement_added n t)
added R (Some ss) (Some ts) a (Some s) (Some t) b = one_more_row R a b
added R (Some ss) (Some ts) a None None b = tt
added R (Some ss) (Some ts) a (Some s) None b = absurd b
added R (Some ss) (Some ts) a None (Some t) b = absurd b
added R None None a s t b = tt
added R (Some ss) None a s t b = absurd a
added R None (Some ts) a s t b = absurd a

piece_both : {B : Type 0} (R : Pairing) → IsOneToOne R → (last : ℕ) (h : Keep) (d g : Done (List PlainStatement)) → Makes' R last B (SameRow R) d g → (e : Expression (At × At))
    → Makes' R last B (SameRow R) (piece_done h d (mapped_expression left e)) (piece_done h g (mapped_expression right e))
piece_both R one last h d g a e =
    let one_left : Done PlainStatement = expression_statement h d.after (place_of (mapped_expression left e)) (mapped_expression left e) in
    let one_right : Done PlainStatement = expression_statement h g.after (place_of (mapped_expression right e)) (mapped_expression right e) in
    so R last one_left.after one_right.after (λ b. (b.0.0, added R d.made g.made b.0.1 one_left.made one_right.made b.1))
    (expression_both R one last h d.after g.after a (place_of (mapped_expression left e)) (place_of (mapped_expression right e)) e)

pieces_both : {B : Type 0} (R : Pairing) → IsOneToOne R → (last : ℕ) (h : Keep) (d g : Done (List PlainStatement)) → Makes' R last B (SameRow R) d g → (all : Expressions (At × At))
    → Makes' R last B (SameRow R) (pieces_done h d (mapped_expressions left all)) (pieces_done h g (mapped_expressions right all))
pieces_both R one last h d g a NoExpressions = a
pieces_both R one last h d g a (MoreExpressions e rest) =
    pieces_both R one last h (piece_done h d (mapped_expression left e)) (piece_done h g (mapped_expression right e)) (piece_both R one last h d g a e) rest

no_pieces : {B : Type 0} (R : Pairing) (last : ℕ) (l k : Local) → Quiet R last B l k → Makes' R last B (SameRow R) (record { made = Some []; after = l }) (record { made = Some []; after = k })
no_pieces R last l k a = so R last l k (λ b. (b, same_no_row)) a

pub clause_both : {B : Type 0} (R : Pairing) → IsOneToOne R → (last : ℕ) (h : Keep) (l k : Local) → Quiet R last B l k → (e : Expression (At × At))
    → Makes' R last B (SameRow R) (clause_done h l (mapped_expression left e)) (clause_done h k (mapped_expression right e))
clause_both R one last h l k a (expression at zero (Comma all)) =
    pieces_both R one last h (record { made = Some []; after = l }) (record { made = Some []; after = k }) (no_pieces R last l k a) all
clause_both R one last h l k a e = piece_both R one last h (record { made = Some []; after = l }) (record { made = Some []; after = k }) (no_pieces R last l k a) e

pub optional_clause_both : {B : Type 0} (R : Pairing) → IsOneToOne R → (last : ℕ) (h : Keep) (l k : Local) → Quiet R last B l k → (o : Optional (At × At))
    → Makes' R last B (SameRow R) (optional_clause h l (mapped_optional left o)) (optional_clause h k (mapped_optional right o))
optional_clause_both R one last h l k a Absent = no_pieces R last l k a
optional_clause_both R one last h l k a (Present e) = clause_both R one last h l k a e

-- ## Tests

tested_both : (R : Pairing) (v w : PlainValue) → SameValue R v w → Ruling (SameValue R) (tested v) (tested w)
tested_both R v w h = when_ok (SameValue R) _ _ _ _ _ _ _ h

pub test_both : {B : Type 0} (R : Pairing) → IsOneToOne R → (last : ℕ) (h : Keep) (l k : Local) → Quiet R last B l k → (e : Expression (At × At))
    → Makes' R last B (SameValue R) (test_done h l (mapped_expression left e)) (test_done h k (mapped_expression right e))
test_both R one last h l k a e =
    stands R last l k (test_done h l (mapped_expression left e)).after.standing (test_done h k (mapped_expression right e)).after.standing a
    (value_by_both R one last h (SameValue R) l.standing k.standing e tested tested (tested_both R))

abbrev maybe_of : Option PlainValue → Option (Option PlainValue)
maybe_of None = None
maybe_of (Some v) = Some (Some v)

maybe_made : (R : Pairing) (m n : Option PlainValue) → Both (SameValue R) m n → Both (SameMaybe R) (maybe_of m) (maybe_of n)
maybe_made R None None a = tt
maybe_made R (Some v) (Some w) a = same_some a
maybe_made R None (Some w) a = absurd a
maybe_made R (Some v) None a = absurd a

pub optional_test_both : {B : Type 0} (R : Pairing) → IsOneToOne R → (last : ℕ) (h : Keep) (l k : Local) → Quiet R last B l k → (o : Optional (At × At))
    → Makes' R last B (SameMaybe R) (optional_test h l (mapped_optional left o)) (optional_test h k (mapped_optional right o))
optional_test_both R one last h l k a Absent = so R last l k (λ b. (b, same_none)) a
optional_test_both R one last h l k a (Present e) =
    let d : Done PlainValue = test_done h l (mapped_expression left e) in
    let g : Done PlainValue = test_done h k (mapped_expression right e) in
    so R last d.after g.after (λ b. (b.0, maybe_made R d.made g.made b.1)) (test_both R one last h l k a e)

switched_both : (R : Pairing) → IsOneToOne R → (v w : PlainValue) → SameValue R v w → Ruling (SameValue R) (switched v) (switched w)
switched_both R one v w h =
    when_ok (SameValue R) _ _ _ _ _ _ _
    (converted_both R one v w (integer false (promoted (integer_of (type_of v)))) (integer false (promoted (integer_of (type_of w)))) h
    (subst (λ i. SameType R (integer false (promoted (integer_of (type_of v)))) (integer false (promoted i))) (integer_of_same R (type_same R h)) same_integer))

pub switch_both : {B : Type 0} (R : Pairing) → IsOneToOne R → (last : ℕ) (h : Keep) (l k : Local) → Quiet R last B l k → (e : Expression (At × At))
    → Makes' R last B (SameValue R) (switch_done h l (mapped_expression left e)) (switch_done h k (mapped_expression right e))
switch_both R one last h l k a e =
    stands R last l k (switch_done h l (mapped_expression left e)).after.standing (switch_done h k (mapped_expression right e)).after.standing a
    (value_by_both R one last h (SameValue R) l.standing k.standing e switched switched (switched_both R one))
