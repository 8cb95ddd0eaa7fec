-- Assignments and steps are the same in both programs.
use Rattle.std.proofs.Common.{◌≡◌, false, not, List, Option, Some, None, Ok, refl}
use Rattle.p10_base.specs.declared.at.At.{At}
use Rattle.p10_base.specs.declared.codes.SubsetCode.TheVariants as subset
use Rattle.p10_int.specs.declared.operators.BinOp.{BinOp}
use Rattle.p10_syn.specs.Trees.{Expression}
use Rattle.p10_core.specs.declared.statements.UpdateKind.{UpdateKind}
use Rattle.p10_core.specs.declared.statements.UpdateKind.TheVariants as kind
use Rattle.p10_core.specs.Types.{unqualified, PlainStructure}
use Rattle.p10_core.specs.Typed.{PlainValue, PlainPlace, set, type_of, place_type}
use Rattle.p10_core.specs.Rows.{Row, binary_row, is_scalar}
use Rattle.p10_core.specs.Constants.{is_null}
use Rattle.p10_elabx.specs.declared.operand.PlaceKind.{PlaceKind}
use Rattle.p10_elabx.specs.First.{Keep, Judged, unordered}
use Rattle.p10_elabx.specs.Scopes.{PlainScope}
use Rattle.p10_elabx.specs.Operands.{PlainOperand}
use Rattle.p10_elabx.specs.Operators.{fitted, target_found, copied_from, assigned, updated_by, updated}
use Rattle.p10_elabx.specs.Judging.{place_of, may_be_place, target_judged, target_in, value_in, assignment_judged, with_read, update_judged, step_judged, by_sign, assignment_of, step_of, one_at}
use Rattle.p10_renaming.specs.Renaming.{Pairing, same_integer, SameValue, same_value, same_constant, same_read, SamePlace, SameStatementForm, same_set, same_update, same_copy}
use Rattle.p10_expression_renaming.specs.Mapped.{mapped_expression}
use Rattle.p10_expression_renaming.specs.Knowing.{Ruling, SameOperand, same_a_value, same_a_place, same_a_function, SameScope, IsOneToOne}
use Rattle.p10_expression_renaming.specs.Laws.{AssignmentsRenamed, StepsRenamed}
use Rattle.p10_expression_renaming.proofs.Finding.{none_right, by_same, when_ok, on_both, ruled_both, refused_both, parts_both, Alike}
use Rattle.p10_expression_renaming.proofs.Types.{is_scalar_same, unqualified_same}
use Rattle.p10_expression_renaming.proofs.Values.{type_same, place_type_same}
use Rattle.p10_expression_renaming.proofs.Rows.{RowsSame, binary_both}
use Rattle.p10_expression_renaming.proofs.Operands.{converted_both, value_in_both}
use Rattle.p10_expression_renaming.proofs.Operators.{fitted_both}
use Rattle.p10_expression_renaming.proofs.TypeNames.{left, right}
use Rattle.p10_expression_renaming.proofs.Judging.{on_left, on_right, judging}

-- targets of one kind
abbrev SameTarget : Pairing → PlaceKind × PlainPlace → PlaceKind × PlainPlace → Type 0
SameTarget R x y = (x.0 ≡ y.0) × SamePlace R x.1 y.1

target_both : (R : Pairing) (these others : List PlainStructure) (at to : At) (o k : PlainOperand) → SameOperand R o k → Ruling (SameTarget R) (target_found these at o) (target_found others to k)
target_both R these others at to o k (same_a_value h) = tt
target_both R these others at to o k (same_a_place {kind = kind} {q = q} {r = r} h) = when_ok (SameTarget R) _ _ (kind, q) (kind, r) _ _ _ (refl, h)
target_both R these others at to o k same_a_function = tt

copied_both : (R : Pairing) (at to : At) (p q : PlainPlace) → SamePlace R p q → (v w : PlainValue) → SameValue R v w → Ruling (SameStatementForm R) (copied_from at p v) (copied_from to q w)
copied_both R at to p q h v w (same_value k (same_read f)) = when_ok (SameStatementForm R) _ _ _ _ _ _ _ (same_copy h f)
copied_both R at to p q h v w (same_value k f) = tt

assigned_both : (R : Pairing) → IsOneToOne R → (at to : At) (p q : PlainPlace) → SamePlace R p q → (v w : PlainValue) → SameValue R v w → Ruling (SameStatementForm R) (assigned at p v) (assigned to q w)
assigned_both R one at to p q h v w k =
    by_same (Ruling (SameStatementForm R)) (is_scalar (place_type p)) (is_scalar (place_type q)) (is_scalar_same R (place_type_same R h)) _ (copied_from at p v) _ (copied_from to q w)
    (ruled_both (SameValue R) (SameStatementForm R) (fitted at v (place_type p)) (fitted to w (place_type q)) (λ x. Ok (set p x)) (λ x. Ok (set q x)) (fitted_both R one at to v w (place_type p) (place_type q) k (place_type_same R h))
    (λ x y same. same_set h same))
    (copied_both R at to p q h v w k)

by_row : (R : Pairing) → IsOneToOne R → (at to : At) (how : UpdateKind) (op : BinOp) (p q : PlainPlace) → SamePlace R p q → (v w : PlainValue) → SameValue R v w → (r s : Option Row) → RowsSame R r s
    → Ruling (SameStatementForm R) (updated_by at how op p v r) (updated_by to how op q w s)
by_row R one at to how op p q h v w k None s same = tt
by_row R one at to how op p q h v w k (Some r) None same = none_right (SameStatementForm R) _ _
by_row R one at to how op p q h v w k (Some r) (Some s) same = when_ok (SameStatementForm R) _ _ _ _ _ _ _ (same_update same.left h (converted_both R one v w r.right s.right k same.right))

updated_both : (R : Pairing) → IsOneToOne R → (these others : List PlainStructure) (at to : At) (how : UpdateKind) (op : BinOp) (p q : PlainPlace) → SamePlace R p q → (v w : PlainValue) → SameValue R v w
    → Ruling (SameStatementForm R) (updated these at how op p v) (updated others to how op q w)
updated_both R one these others at to how op p q h v w k =
    by_row R one at to how op p q h v w k (binary_row these op false (is_null v) (unqualified (place_type p)) (type_of v)) (binary_row others op false (is_null w) (unqualified (place_type q)) (type_of w))
    (binary_both R these others op false (is_null v) false (is_null w) (unqualified_same R (place_type_same R h)) (type_same R k))

-- ## With what counts for the order of evaluation

target_in_both : (R : Pairing) (h : Keep) (s t : PlainScope) (e : Expression At) (d : Expression At) (j k : Judged PlainOperand) → Alike (SameOperand R) j k → Alike (SameTarget R) (target_in h s e j) (target_in h t d k)
unfolding target_judged
target_in_both R h s t e d j k a =
    refused_both (SameTarget R) h h (not (may_be_place e)) (not (may_be_place d)) subset.FixedTarget subset.FixedTarget (place_of e) (place_of d) _ _
    (on_both (SameOperand R) (SameTarget R) j.found k.found (target_found s.structures (place_of e)) (target_found t.structures (place_of d)) a (target_both R s.structures t.structures (place_of e) (place_of d)))

pub by_sign_both : (R : Pairing) → IsOneToOne R → (h : Keep) (these others : List PlainStructure) (at to : At) (o : Option BinOp) (j k : Judged (PlaceKind × PlainPlace)) → Alike (SameTarget R) j k → (x y : Judged PlainValue) → Alike (SameValue R) x y
    → Alike (SameStatementForm R) (by_sign h these at o j x) (by_sign h others to o k y)
unfolding assignment_judged update_judged with_read
by_sign_both R one h these others at to None j k a x y b =
    refused_both (SameStatementForm R) h h (unordered j x) (unordered k y) subset.UnspecifiedOrder subset.UnspecifiedOrder at to _ _
    (parts_both (SameTarget R) (SameValue R) (SameStatementForm R) h h j k x y (λ (kind, p) v. assigned at p v) (λ (kind, p) v. assigned to p v) a b (λ p q m v w n. assigned_both R one at to p.1 q.1 m.1 v w n))
by_sign_both R one h these others at to (Some op) j k a x y b =
    refused_both (SameStatementForm R) h h _ _ subset.UnspecifiedOrder subset.UnspecifiedOrder at to _ _
    (parts_both (SameTarget R) (SameValue R) (SameStatementForm R) h h (with_read j) (with_read k) x y (λ (place_kind, p) v. updated these at kind.Compound op p v) (λ (place_kind, p) v. updated others to kind.Compound op p v) a b
    (λ p q m v w n. updated_both R one these others at to kind.Compound op p.1 q.1 m.1 v w n))

pub step_both : (R : Pairing) → IsOneToOne R → (these others : List PlainStructure) (at to : At) (op : BinOp) (j k : Judged (PlaceKind × PlainPlace)) → Alike (SameTarget R) j k → Alike (SameStatementForm R) (step_judged these at op j) (step_judged others to op k)
unfolding step_judged with_read
step_both R one these others at to op j k a =
    on_both (SameTarget R) (SameStatementForm R) j.found k.found (λ (place_kind, p). updated these at kind.Step op p (one_at at)) (λ (place_kind, p). updated others to kind.Step op p (one_at to)) a
    (λ p q m. updated_both R one these others at to kind.Step op p.1 q.1 m.1 (one_at at) (one_at to) (same_value same_integer same_constant))

-- ## Trees at two places

pub target_here : (R : Pairing) → IsOneToOne R → (h : Keep) (s t : PlainScope) → SameScope R s t → (e : Expression (At × At))
    → Alike (SameTarget R) (target_in h s (mapped_expression left e) (on_left h s e)) (target_in h t (mapped_expression right e) (on_right h t e))
target_here R one h s t know e = target_in_both R h s t (mapped_expression left e) (mapped_expression right e) (on_left h s e) (on_right h t e) (judging R one h s t know e)

pub assignments_renamed : AssignmentsRenamed
assignments_renamed R one h s t know at to word a b =
    by_sign_both R one h s.structures t.structures at to (assignment_of word) (target_in h s (mapped_expression left a) (on_left h s a)) (target_in h t (mapped_expression right a) (on_right h t a)) (target_here R one h s t know a)
    (value_in s (on_left h s b)) (value_in t (on_right h t b)) (value_in_both R s t (on_left h s b) (on_right h t b) (judging R one h s t know b))

pub steps_renamed : StepsRenamed
steps_renamed R one h s t know at to word a =
    step_both R one s.structures t.structures at to (step_of word) (target_in h s (mapped_expression left a) (on_left h s a)) (target_in h t (mapped_expression right a) (on_right h t a)) (target_here R one h s t know a)
