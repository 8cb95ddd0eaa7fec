-- Both bounds of values, by the rows that the code takes.
use Rattle.std.proofs.Common.{◌≡◌, refl, ap, sym, ◌∙◌, Option, option_map}
use Rattle.p10_base.specs.declared.at.At.{At}
use Rattle.p10_int.specs.declared.operators.BinOp.{BinOp}
use Rattle.p10_int.specs.declared.operators.BinOp.TheVariants.{Add, Sub, Mul, Div, Rem, Shl, Shr, And, Or, Xor, Lt, Gt, Le, Ge, Eq, Ne}
use Rattle.p10_range.specs.Ranges.{Interval, interval_of}
use Rattle.p10_core.specs.declared.typed.Value.{Value}
use Rattle.p10_core.specs.declared.typed.ValueForm.{ValueForm}
use Rattle.p10_core.specs.declared.typed.ValueForm.TheVariants.{Binary}
use Rattle.p10_core.specs.Types.{PlainType}
use Rattle.p10_core.specs.Typed.{PlainValue, value}
use Rattle.p10_core.specs.Views.{plain_form, plain_value}
use Rattle.p10_absx.specs.Trails.{Branching}
use Rattle.p10_diff.specs.declared.known.Diff.{Diff}
use Rattle.p10_diff.specs.declared.ends.Ends.{Ends}
use Rattle.p10_diff.specs.declared.operands.Operands.{Operands as CodeOperands}
use Rattle.p10_diff.specs.Differences.{Name, Pair, Differences, named}
use Rattle.p10_diff.specs.Expressions.{is_exact, value_range, part}
use Rattle.p10_diff.specs.Halves.{part_by}
use Rattle.p10_diff.specs.Knowing.{differences_of}
use Rattle.p10_diff.specs.private.Ends.{met_ends, operator_ends, row_ends, value_ends}
use Rattle.p10_diff.specs.private.Operands.{operands_of, operands_ends, operands_by}

-- what counts of operands, found one after the other
pub operands_told : (p : Pair) (t : PlainType) (a b : PlainValue) (o : CodeOperands) (r s u w : Branching) → o.exact ≡ is_exact t a b → o.variable ≡ named p r.values a → s ≡ r → option_map part_by o.part ≡ part p s.values b → u ≡ s →
    option_map interval_of o.first ≡ value_range u.values a → w ≡ u → option_map interval_of o.second ≡ value_range w.values b → operands_by o ≡ operands_of p r.values t a b
operands_told p t a b o r s u w exact variable same part_is again first once second =
    λ i. record {
      exact = exact i;
      variable = variable i;
      part = (part_is ∙ ap (λ (x : Branching). part p x.values b) same) i;
      first = (first ∙ ap (λ (x : Branching). value_range x.values a) (again ∙ same)) i;
      second = (second ∙ ap (λ (x : Branching). value_range x.values b) (once ∙ (again ∙ same))) i;
    }

-- a value's row and its range
pub value_told : (p : Pair) (v : PlainValue) (w : Name) (e now : Diff) (ranges : Branching) (row : Ends) (i : Option Interval) (r : Ends) → now ≡ e → ranges ≡ now.ranges → row ≡ row_ends p v (differences_of e) w → i ≡ value_range now.ranges.values v →
    r ≡ met_ends p ranges.values i w row → r ≡ value_ends p v (differences_of e) w
value_told p v w e now ranges row i r same kept_so row_is range_is told =
    told ∙ (λ k. met_ends p ((kept_so ∙ ap (λ (d : Diff). d.ranges) same) k).values ((range_is ∙ ap (λ (d : Diff). value_range d.ranges.values v) same) k) w (row_is k))

pub by_operator : (p : Pair) (e : Differences) (op : BinOp) (t : PlainType) (a b : PlainValue) (w : Name) (left right : Ends) → operands_ends p e op (operands_of p e.ranges t a b) w left right ≡ operator_ends p e op t a b w left right
by_operator p e Add t a b w left right = refl
by_operator p e Sub t a b w left right = refl
by_operator p e Mul t a b w left right = refl
by_operator p e Div t a b w left right = refl
by_operator p e Rem t a b w left right = refl
by_operator p e Shl t a b w left right = refl
by_operator p e Shr t a b w left right = refl
by_operator p e And t a b w left right = refl
by_operator p e Or t a b w left right = refl
by_operator p e Xor t a b w left right = refl
by_operator p e Lt t a b w left right = refl
by_operator p e Gt t a b w left right = refl
by_operator p e Le t a b w left right = refl
by_operator p e Ge t a b w left right = refl
by_operator p e Eq t a b w left right = refl
by_operator p e Ne t a b w left right = refl

-- the row of an operator
pub row_told : (p : Pair) (op : BinOp) (form : ValueForm) (x y : _) (at : At) (t : PlainType) (a a2 b b2 : Value) (w : Name) (e next now : Diff) (ranges : Branching) (o : CodeOperands) (left right r : Ends) →
    form ≡ Binary op x y → a ≡ x.value → b ≡ y.value → a2 ≡ x.value → b2 ≡ y.value → next ≡ e → now ≡ next → ranges ≡ now.ranges → left ≡ value_ends p (plain_value a) (differences_of e) w → right ≡ value_ends p (plain_value b) (differences_of next) w →
    operands_by o ≡ operands_of p now.ranges.values t (plain_value a2) (plain_value b2) → r ≡ operands_ends p (differences_of (record now { ranges = ranges })) op (operands_by o) w left right → r ≡ row_ends p (value at t (plain_form form)) (differences_of e) w
row_told p op form x y at t a a2 b b2 w e next now ranges o left right r is a_is b_is a2_is b2_is same again kept_so left_is right_is o_is told =
    told ∙ ((λ i. operands_ends p (differences_of (whole i)) op (operands i) w (lefts i) (rights i)) ∙
    (by_operator p (differences_of e) op t (plain_value x.value) (plain_value y.value) w (value_ends p (plain_value x.value) (differences_of e) w) (value_ends p (plain_value y.value) (differences_of e) w) ∙
    ap (λ f. row_ends p (value at t (plain_form f)) (differences_of e) w) (sym is)))
  where
    whole : record now { ranges = ranges } ≡ e
    whole = ap (λ (b : Branching). record now { ranges = b }) kept_so ∙ (again ∙ same)

    operands : operands_by o ≡ operands_of p e.ranges.values t (plain_value x.value) (plain_value y.value)
    operands = o_is ∙ (λ i. operands_of p ((again ∙ same) i).ranges.values t (plain_value (a2_is i)) (plain_value (b2_is i)))

    lefts : left ≡ value_ends p (plain_value x.value) (differences_of e) w
    lefts = left_is ∙ ap (λ (v : Value). value_ends p (plain_value v) (differences_of e) w) a_is

    rights : right ≡ value_ends p (plain_value y.value) (differences_of e) w
    rights = right_is ∙ (λ i. value_ends p (plain_value (b_is i)) (differences_of (same i)) w)
