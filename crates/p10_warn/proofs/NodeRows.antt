-- The violations by nodes are those of the rows on nodes.
use Rattle.std.proofs.Common.{◌≡◌, ℕ, true, not, ◌&&◌, Option, Some, None, refl, ap, subst, inl, inr}
use Rattle.std.specs.List.{Contains}
use Rattle.std.proofs.lemmas.Bool.{and_parts}
use Rattle.std.proofs.lemmas.List.Elements.{Contains-append_left, Contains-append_right, Contains-append_cases}
use Rattle.p10_base.specs.declared.at.At.{At}
use Rattle.p10_base.specs.declared.span.Span.{Span}
use Rattle.p10_base.specs.declared.report.Violation.{Violation}
use Rattle.p10_int.specs.declared.operators.BinOp.{BinOp}
use Rattle.p10_core.specs.declared.statements.UpdateKind.{UpdateKind}
use Rattle.p10_core.specs.declared.statements.UpdateKind.TheVariants.{Compound, Step}
use Rattle.p10_core.specs.Types.{PlainType}
use Rattle.p10_core.specs.Constants.{is_constant, inconstant_part}
use Rattle.p10_core.specs.Typed.{PlainValue, value, PlainForm, convert, binary, at_of, type_of, PlainPlace, place_at, place_type, PlainLabels, PlainStatement, statement, PlainStatementForm, update, switch, PlainProgram}
use Rattle.p10_core.specs.Nodes.{PlainNode, a_statement, a_value, a_place}
use Rattle.p10_warn.specs.AllNodes.{all_nodes}
use Rattle.p10_warn.specs.Conversions.{narrows, NarrowsAt, converted_value, updated_place, updated_result}
use Rattle.p10_warn.specs.Comparisons.{compares, as_written, differ_in_sign, is_natural_constant, MixesSignsAt, mixed}
use Rattle.p10_warn.specs.Violations.{implicit_narrowing, signs_mixed, no_default}
use Rattle.p10_warn.specs.private.Listing.{listed_if, is_narrowed, mixes_signs, is_missing, value_violations, update_violations, statement_violations, node_violations}
use Rattle.p10_warn.proofs.Booleans.{both, not_is, is_not}
use Rattle.p10_warn.proofs.Members.{none_in}
use Rattle.p10_warn.proofs.Rows.{Breaks, row_at, row_is, is_row}

missing_is : (o : Option ℕ) → is_missing o ≡ true → o ≡ None
missing_is None e = refl
missing_is (Some n) e = absurd cc

module _ (p : PlainProgram) where
  value_is : (at : At) (t : PlainType) (f : PlainForm) (v : Violation) → Contains (all_nodes p) (a_value (value at t f)) → Contains (value_violations at t f) v → Breaks p v
  value_is at t (convert w) v held in' =
      let h = row_is 3 (is_narrowed t w) (at_of w).span v in' in
      let parts = and_parts (narrows (type_of w) t) (not (is_constant (inconstant_part w))) h.0 in
      subst (Breaks p) h.1 (implicit_narrowing (a_value (value at t (convert w))) (at_of w).span held (converted_value at t w parts.0 (not_is (is_constant (inconstant_part w)) parts.1)))
  value_is at t (binary op a b) v held in' =
      let h = row_is 4 (mixes_signs op a b) at.span v in' in
      let x = as_written a in
      let y = as_written b in
      let natural = not (is_natural_constant x) && not (is_natural_constant y) in
      let first = and_parts (compares op) (differ_in_sign (type_of x) (type_of y) && natural) h.0 in
      let second = and_parts (differ_in_sign (type_of x) (type_of y)) natural first.1 in
      let third = and_parts (not (is_natural_constant x)) (not (is_natural_constant y)) second.1 in
      subst (Breaks p) h.1 (signs_mixed (a_value (value at t (binary op a b))) at.span held
      (mixed at t op a b first.0 second.0 (not_is (is_natural_constant x) third.0) (not_is (is_natural_constant y) third.1)))
  value_is at t f v held in' = absurd (none_in v in')

  update_is : (at : At) (kind : UpdateKind) (op : BinOp) (t : PlainType) (q : PlainPlace) (w : PlainValue) (v : Violation) → Contains (all_nodes p) (a_statement (statement at (update kind op t q w)))
      → Contains (update_violations kind at t q) v → Breaks p v
  update_is at Step op t q w v held in' = absurd (none_in v in')
  update_is at Compound op t q w v held in' =
      let node = a_statement (statement at (update Compound op t q w)) in
      elim (Contains-append_cases (listed_if 3 (narrows (place_type q) t) (place_at q).span) (listed_if 3 (narrows t (place_type q)) at.span) v in') [
        | inl in' ↦ let h = row_is 3 (narrows (place_type q) t) (place_at q).span v in' in
            subst (Breaks p) h.1 (implicit_narrowing node (place_at q).span held (updated_place at op t q w h.0))
        | inr in' ↦ let h = row_is 3 (narrows t (place_type q)) at.span v in' in
            subst (Breaks p) h.1 (implicit_narrowing node at.span held (updated_result at op t q w h.0))
      ]

  statement_is : (at : At) (f : PlainStatementForm) (v : Violation) → Contains (all_nodes p) (a_statement (statement at f)) → Contains (statement_violations at f) v → Breaks p v
  statement_is at (update kind op t q w) v held in' = update_is at kind op t q w v held in'
  statement_is at (switch span w labels body) v held in' =
      let h = row_is 6 (is_missing labels.otherwise) span v in' in
      subst (Breaks p) h.1 (no_default at span w labels body held (missing_is labels.otherwise h.0))
  statement_is at f v held in' = absurd (none_in v in')

  pub node_is : (node : PlainNode) (v : Violation) → Contains (all_nodes p) node → Contains (node_violations node) v → Breaks p v
  node_is (a_statement (statement at f)) v held in' = statement_is at f v held in'
  node_is (a_value (value at t f)) v held in' = value_is at t f v held in'
  node_is (a_place q) v held in' = absurd (none_in v in')

pub is_narrowing : (node : PlainNode) (span : Span) → NarrowsAt node span → Contains (node_violations node) (row_at 3 span)
is_narrowing _ _ (converted_value at t w narrow inconstant) =
    is_row 3 (is_narrowed t w) (at_of w).span (both (narrows (type_of w) t) (not (is_constant (inconstant_part w))) narrow (is_not (is_constant (inconstant_part w)) inconstant))
is_narrowing _ _ (updated_place at op t q w narrow) =
    Contains-append_left (listed_if 3 (narrows (place_type q) t) (place_at q).span) (listed_if 3 (narrows t (place_type q)) at.span) _ (is_row 3 (narrows (place_type q) t) (place_at q).span narrow)
is_narrowing _ _ (updated_result at op t q w narrow) =
    Contains-append_right (listed_if 3 (narrows (place_type q) t) (place_at q).span) (listed_if 3 (narrows t (place_type q)) at.span) _ (is_row 3 (narrows t (place_type q)) at.span narrow)

pub is_mixing : (node : PlainNode) (span : Span) → MixesSignsAt node span → Contains (node_violations node) (row_at 4 span)
is_mixing _ _ (mixed at t op a b compared differ first second) =
    let x = as_written a in
    let y = as_written b in
    is_row 4 (mixes_signs op a b) at.span (both (compares op) (differ_in_sign (type_of x) (type_of y) && (not (is_natural_constant x) && not (is_natural_constant y))) compared
    (both (differ_in_sign (type_of x) (type_of y)) (not (is_natural_constant x) && not (is_natural_constant y)) differ
    (both (not (is_natural_constant x)) (not (is_natural_constant y)) (is_not (is_natural_constant x) first) (is_not (is_natural_constant y) second))))

pub is_without_default : (at : At) (span : Span) (w : PlainValue) (labels : PlainLabels) (body : PlainStatement) → labels.otherwise ≡ None
    → Contains (node_violations (a_statement (statement at (switch span w labels body)))) (row_at 6 span)
is_without_default at span w labels body e = is_row 6 (is_missing labels.otherwise) span (ap is_missing e)
