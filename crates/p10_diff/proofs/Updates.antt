-- Updates: what is read of the place, and the rows of the operator.
use Rattle.std.proofs.Common.{◌≡◌, ℕ, Bool, true, false, refl, ap, sym, ◌∙◌, Option, Some, None, option_map, Result, Bor}
use Rattle.std.specs.Prelude.{if◌then◌else◌, IfOk}
use Rattle.std.specs.declared.alloc.AllocError.{AllocError}
use Rattle.std.proofs.lemmas.Result.{IfOk-weaker}
use Rattle.p10_base.specs.declared.at.At.{At}
use Rattle.p10_int.specs.declared.operators.BinOp.{BinOp}
use Rattle.p10_range.specs.Ranges.{Interval, interval_of}
use Rattle.p10_core.specs.declared.typed.Value.{Value}
use Rattle.p10_core.specs.declared.typed.PlaceForm.{PlaceForm}
use Rattle.p10_core.specs.declared.typed.PlaceForm.TheVariants.{Var}
use Rattle.p10_core.specs.Types.{PlainType}
use Rattle.p10_core.specs.Constants.{integer_of}
use Rattle.p10_core.specs.Typed.{PlainValue, PlainPlace, place, variable, place_type}
use Rattle.p10_core.specs.Views.{plain_value, plain_place_form}
use Rattle.p10_absx.specs.Abstract.{Abstract}
use Rattle.p10_absx.specs.Environments.{Environment, known}
use Rattle.p10_absx.specs.Assessing.{as_side, value_found, variable_read}
use Rattle.p10_absx.specs.Trails.{Branching}
use Rattle.p10_diff.specs.declared.known.Diff.{Diff}
use Rattle.p10_diff.specs.declared.ends.Ends.{Ends}
use Rattle.p10_diff.specs.declared.operands.Operands.{Operands as CodeOperands}
use Rattle.p10_diff.specs.declared.sources.Source.TheVariants.{Updated}
use Rattle.p10_diff.specs.Differences.{Name, Pair, Differences, named_by, named, range_of}
use Rattle.p10_diff.specs.Domain.{is_unconverted, read_of, updated_up, updated_low, assigned, assigned_to}
use Rattle.p10_diff.specs.Expressions.{is_exact, value_range, part, operator_up, operator_low, up, low}
use Rattle.p10_diff.specs.Halves.{part_by}
use Rattle.p10_diff.specs.Knowing.{differences_of}
use Rattle.p10_diff.specs.private.Ends.{met_ends, named_ends, value_ends}
use Rattle.p10_diff.specs.private.Operands.{Operands, operands_of, operands_ends, operands_by}
use Rattle.p10_diff.specs.private.Assigning.{update_ends, source_up, source_low, source_ends}
use Rattle.p10_diff.specs.private.Executing.{update_operands, variable_if, range_or}
use Rattle.p10_diff.proofs.Operators.{by_operator}

-- ## What is read

read_variable : (t : PlainType) (n : ℕ) (o : Option Abstract) → (as_side (variable_read t n o)).variable ≡ variable_if n o
read_variable t n None = refl
read_variable t n (Some a) = refl

pub variable_told : (p : Pair) (ranges : Environment) (at : At) (t : PlainType) (form : PlaceForm) (n : ℕ) (a : Option Abstract) (m r : Option ℕ) → form ≡ Var n → a ≡ known ranges n → m ≡ variable_if n a → r ≡ named_by p m →
    r ≡ named p ranges (read_of (place at t (plain_place_form form)))
variable_told p ranges at t form n a m r is found variable_is named_is =
    named_is ∙ (ap (named_by p) (variable_is ∙ (ap (variable_if n) found ∙ sym (read_variable t n (known ranges n)))) ∙ ap (λ f. named p ranges (read_of (place at t (plain_place_form f)))) (sym is))

read_range : (t : PlainType) (n : ℕ) (o : Option Abstract) → range_or o t ≡ range_of (value_found (variable_read t n o))
read_range t n None = refl
read_range t n (Some a) = refl

pub range_told : (ranges : Environment) (at : At) (t : PlainType) (form : PlaceForm) (n : ℕ) (a : Option Abstract) (r : Option Interval) → form ≡ Var n → a ≡ known ranges n → r ≡ range_or a t →
    r ≡ value_range ranges (read_of (place at t (plain_place_form form)))
range_told ranges at t form n a r is found told =
    told ∙ (ap (λ o. range_or o t) found ∙ (read_range t n (known ranges n) ∙ ap (λ f. value_range ranges (read_of (place at t (plain_place_form f)))) (sym is)))

-- what counts of the operands, found one after the other
pub update_told : (p : Pair) (t : PlainType) (q : PlainPlace) (v : PlainValue) (o : CodeOperands) (r s u : Branching) → true ≡ is_unconverted (integer_of t) (integer_of (place_type q)) → o.exact ≡ is_exact t (read_of q) v → option_map part_by o.part ≡ part p r.values v → s ≡ r →
    option_map interval_of o.second ≡ value_range s.values v → u ≡ s → o.variable ≡ named p u.values (read_of q) → option_map interval_of o.first ≡ value_range u.values (read_of q) →
    Some (operands_by o) ≡ update_operands p r.values t q v
update_told p t q v o r s u is exact part_is same second again named_so first =
    (λ i. Some (record {
      exact = exact i;
      variable = (named_so ∙ ap (λ (x : Branching). named p x.values (read_of q)) (again ∙ same)) i;
      part = part_is i;
      first = (first ∙ ap (λ (x : Branching). value_range x.values (read_of q)) (again ∙ same)) i;
      second = (second ∙ ap (λ (x : Branching). value_range x.values v) same) i;
    })) ∙ ap (λ b. if b then Some (operands_of p r.values t (read_of q) v) else None) is

-- ## Rows

-- the row of an update by what counts of its operands
abbrev row_by : Pair → Differences → BinOp → Name → Ends → Operands → Ends
row_by p e op w right o = operands_ends p e op o w (met_ends p e.ranges o.first w (named_ends p e o.variable w)) right

row_if : (p : Pair) (e : Differences) (op : BinOp) (t : PlainType) (q : PlainPlace) (v : PlainValue) (w : Name) (right : Ends) (b : Bool) (o : Option CodeOperands) →
    option_map operands_by o ≡ (if b then Some (operands_of p e.ranges t (read_of q) v) else None) →
    update_ends p op o e w right ≡ record { above = if b then operator_up p e op t (read_of q) v w (up p (read_of q) e w) right.above else None; below = if b then operator_low p e op t (read_of q) v w (low p (read_of q) e w) right.below else None }
row_if p e op t q v w right true None is = absurd cc
row_if p e op t q v w right true (Some o) is = let same : operands_by o ≡ operands_of p e.ranges t (read_of q) v = cc in ap (row_by p e op w right) same ∙ by_operator p e op t (read_of q) v w (value_ends p (read_of q) e w) right
row_if p e op t q v w right false None is = refl
row_if p e op t q v w right false (Some o) is = absurd cc

-- the rows of an update, as those of what is assigned
source_updated : (p : Pair) (e : Differences) (op : BinOp) (t : PlainType) (q : PlainPlace) (v : Bor Value) (o : Option CodeOperands) → option_map operands_by o ≡ update_operands p e.ranges t q (plain_value v.now) →
    (w : Name) → source_ends p (Updated op o v) e w ≡ record { above = updated_up p e op t q (plain_value v.now) w; below = updated_low p e op t q (plain_value v.now) w }
source_updated p e op t q v o is w = row_if p e op t q (plain_value v.now) w (value_ends p (plain_value v.now) e w) (is_unconverted (integer_of t) (integer_of (place_type q))) o is

-- ## The code

-- an update of a variable
by_rows : (p : Pair) (op : BinOp) (t u : PlainType) (at : At) (form : PlaceForm) (n : ℕ) (v : Bor Value) (o : Option CodeOperands) (e : Diff) (ranges : Branching) (after : Environment) (r : Differences) → form ≡ Var n → ranges ≡ e.ranges →
    option_map operands_by o ≡ update_operands p e.ranges.values t (place at u (plain_place_form form)) (plain_value v.now) →
    r ≡ assigned p n (source_up p (Updated op o v) (differences_of (record e { ranges = ranges }))) (source_low p (Updated op o v) (differences_of (record e { ranges = ranges }))) (differences_of (record e { ranges = ranges })) after →
    r ≡ assigned_to p (place at u (plain_place_form form)) (updated_up p (differences_of e) op t (place at u (plain_place_form form)) (plain_value v.now)) (updated_low p (differences_of e) op t (place at u (plain_place_form form)) (plain_value v.now)) (differences_of e) after
by_rows p op t u at form n v o e ranges after r is same operands told =
    told ∙ (ap (λ (b : Branching). by_source (record e { ranges = b })) same ∙ ((λ i. assigned p n (λ w. (source_updated p d op t q v o operands w i).above) (λ w. (source_updated p d op t q v o operands w i).below) d after) ∙
    ap (λ f. assigned_to p (place at u (plain_place_form f)) (updated_up p d op t q (plain_value v.now)) (updated_low p d op t q (plain_value v.now)) d after) (sym is)))
  where
    d : Differences
    d = differences_of e

    q : PlainPlace
    q = place at u (plain_place_form form)

    by_source : Diff → Differences
    by_source x = assigned p n (source_up p (Updated op o v) (differences_of x)) (source_low p (Updated op o v) (differences_of x)) (differences_of x) after

-- by the clause of what is called
pub assigned_by : (p : Pair) (op : BinOp) (t u : PlainType) (at : At) (form : PlaceForm) (n : ℕ) (v : Bor Value) (o : Option CodeOperands) (e : Diff) (ranges : Branching) (after : Environment) (r : Result Diff AllocError) → form ≡ Var n → ranges ≡ e.ranges →
    option_map operands_by o ≡ update_operands p e.ranges.values t (place at u (plain_place_form form)) (plain_value v.now) →
    IfOk r (λ d. differences_of d ≡ assigned p n (source_up p (Updated op o v) (differences_of (record e { ranges = ranges }))) (source_low p (Updated op o v) (differences_of (record e { ranges = ranges }))) (differences_of (record e { ranges = ranges })) after) →
    IfOk r (λ d. differences_of d ≡ assigned_to p (place at u (plain_place_form form)) (updated_up p (differences_of e) op t (place at u (plain_place_form form)) (plain_value v.now)) (updated_low p (differences_of e) op t (place at u (plain_place_form form)) (plain_value v.now)) (differences_of e) after)
assigned_by p op t u at form n v o e ranges after r is same operands told =
    IfOk-weaker r (λ d. differences_of d ≡ assigned p n (source_up p (Updated op o v) (differences_of (record e { ranges = ranges }))) (source_low p (Updated op o v) (differences_of (record e { ranges = ranges }))) (differences_of (record e { ranges = ranges })) after)
    (λ d. differences_of d ≡ assigned_to p (place at u (plain_place_form form)) (updated_up p (differences_of e) op t (place at u (plain_place_form form)) (plain_value v.now)) (updated_low p (differences_of e) op t (place at u (plain_place_form form)) (plain_value v.now)) (differences_of e) after)
    (λ d so. by_rows p op t u at form n v o e ranges after (differences_of d) is same operands so) told
