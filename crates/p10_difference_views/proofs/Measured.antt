-- By how much a value differs from a name is the same of the erased value.
use Rattle.std.proofs.Common.{◌≡◌, ◌∙◌, ℕ, nat_eq, ◌&&◌, Bool, Option, Some, None, refl}
use Rattle.std.specs.Prelude.{ℤ, pos, ◌-ℤ◌, if◌then◌else◌}
use Rattle.std.specs.Int.{int_div_euclid}
use Rattle.p10_int.specs.declared.operators.BinOp.{BinOp}
use Rattle.p10_int.specs.declared.operators.BinOp.TheVariants as op
use Rattle.p10_int.specs.Types.{is_signed_of}
use Rattle.p10_core.specs.Types.{PlainType}
use Rattle.p10_core.specs.Typed.{PlainValue, value, constant, read, sense, address, decay, convert, cast, unary, binary, logic, conditional, call, built_in, variable, PlainProgram}
use Rattle.p10_core.specs.Typed.{statement, evaluate, PlainStatements, no_statements, more_statements}
use Rattle.p10_core.specs.Nodes.{nodes_of_statements}
use Rattle.p10_absx.specs.Environments.{Environment}
use Rattle.p10_absx.specs.Assessing.{as_side, value_found, known_where, assess, assume_of}
use Rattle.p10_pass.specs.Arguments.{has_value}
use Rattle.p10_sums.specs.Depths.{callees}
use Rattle.p10_diff.specs.Bounds.{least, plus, kept}
use Rattle.p10_diff.specs.Differences.{Name, now, Pair, Differences, range_of, top, bottom, named_by, named}
use Rattle.p10_diff.specs.Expressions.{value_range, is_exact, is_constant, only_divisor, divisor, distance_of, distance, Part, part_of, part, Midpoint, midpoint_between, midpoint_of, midpoint, named_up, named_low, sum_up, sum_low, operator_up, operator_low, met_up, met_low, up_row, low_row, up, low}
use Rattle.p10_views.specs.Erased.{no_place, erased_type, erased_value}
use Rattle.p10_views.proofs.Types.{integer_erased, kind_erased}
use Rattle.p10_views.proofs.Called.{ValueCalls, StatementsCall, calls_of_statements, each_holds}
use Rattle.p10_views.proofs.Agreeing.{Agree}
use Rattle.p10_views.proofs.Values.{integers_erased, value_erased, presence_erased}
use Rattle.p10_difference_views.proofs.Pairs.{erased_pair, range_same, bound_same, named_by_same, named_up_same, named_low_same}

-- ---- without claims

-- nothing is asked of what trees call
pub all_call : (ss : PlainStatements) → StatementsCall (Agree None None) ss
all_call ss = calls_of_statements (Agree None None) ss (each_holds (Agree None None) (λ n. tt) (callees (nodes_of_statements ss)))

pub value_calls : (v : PlainValue) → ValueCalls (Agree None None) v
value_calls v = (all_call (more_statements (statement no_place (evaluate v)) no_statements)).0

pub found_same : (p : PlainProgram) (v : PlainValue) (env : Environment) → assess None (erased_value p v) env ≡ assess None v env
found_same p v env = value_erased p None None v (value_calls v) env

pub assumed_same : (p : PlainProgram) (v : PlainValue) (truth : Bool) (env : Environment) → assume_of None (erased_value p v) truth env ≡ assume_of None v truth env
assumed_same p v truth env = λ i. known_where truth env (found_same p v env i)

pub valued_same : (p : PlainProgram) (v : PlainValue) (env : Environment) → has_value None (erased_value p v) env ≡ has_value None v env
valued_same p v env = presence_erased p None None v (value_calls v) env

value_range_same : (p : PlainProgram) (ranges : Environment) (v : PlainValue) → value_range ranges (erased_value p v) ≡ value_range ranges v
value_range_same p ranges v = λ i. range_of (value_found (found_same p v ranges i))

pub named_same : (p : PlainProgram) (q : Pair) (ranges : Environment) (v : PlainValue) → named (erased_pair p q) ranges (erased_value p v) ≡ named q ranges v
named_same p q ranges v = (λ i. named_by (erased_pair p q) (as_side (found_same p v ranges i)).variable) ∙ named_by_same p q (as_side (assess None v ranges)).variable

exact_same : (p : PlainProgram) (t : PlainType) (a b : PlainValue) → is_exact (erased_type p t) (erased_value p a) (erased_value p b) ≡ is_exact t a b
exact_same p t a b = λ i. integers_erased p a b i && (integer_erased p t i && is_signed_of (kind_erased p t i))

-- ---- halving

constant_same : (p : PlainProgram) (v : PlainValue) → is_constant (erased_value p v) ≡ is_constant v
constant_same p (value at t (constant z)) = refl
constant_same p (value at t (read r)) = refl
constant_same p (value at t (sense n)) = refl
constant_same p (value at t (address r)) = refl
constant_same p (value at t (decay r)) = refl
constant_same p (value at t (convert u)) = constant_same p u
constant_same p (value at t (cast u)) = constant_same p u
constant_same p (value at t (unary o u)) = refl
constant_same p (value at t (binary op a b)) = refl
constant_same p (value at t (logic o a b)) = refl
constant_same p (value at t (conditional u a b)) = refl
constant_same p (value at t (call name n arguments)) = refl
constant_same p (value at t (built_in name f arguments)) = refl

divisor_same : (p : PlainProgram) (ranges : Environment) (v : PlainValue) → divisor ranges (erased_value p v) ≡ divisor ranges v
divisor_same p ranges v = λ i. if constant_same p v i then only_divisor (value_range_same p ranges v i) else None

distance_same : (p : PlainProgram) (q : Pair) (ranges : Environment) (v : PlainValue) → distance (erased_pair p q) ranges (erased_value p v) ≡ distance q ranges v
distance_same p q ranges (value at t (constant z)) = refl
distance_same p q ranges (value at t (read r)) = refl
distance_same p q ranges (value at t (sense n)) = refl
distance_same p q ranges (value at t (address r)) = refl
distance_same p q ranges (value at t (decay r)) = refl
distance_same p q ranges (value at t (convert u)) = refl
distance_same p q ranges (value at t (cast u)) = refl
distance_same p q ranges (value at t (unary o u)) = refl
distance_same p q ranges (value at t (binary op.Add a b)) = refl
distance_same p q ranges (value at t (binary op.Sub a b)) = λ i. if exact_same p t a b i then distance_of (named_same p q ranges a i) (named_same p q ranges b i) else None
distance_same p q ranges (value at t (binary op.Mul a b)) = refl
distance_same p q ranges (value at t (binary op.Div a b)) = refl
distance_same p q ranges (value at t (binary op.Rem a b)) = refl
distance_same p q ranges (value at t (binary op.Shl a b)) = refl
distance_same p q ranges (value at t (binary op.Shr a b)) = refl
distance_same p q ranges (value at t (binary op.And a b)) = refl
distance_same p q ranges (value at t (binary op.Or a b)) = refl
distance_same p q ranges (value at t (binary op.Xor a b)) = refl
distance_same p q ranges (value at t (binary op.Lt a b)) = refl
distance_same p q ranges (value at t (binary op.Gt a b)) = refl
distance_same p q ranges (value at t (binary op.Le a b)) = refl
distance_same p q ranges (value at t (binary op.Ge a b)) = refl
distance_same p q ranges (value at t (binary op.Eq a b)) = refl
distance_same p q ranges (value at t (binary op.Ne a b)) = refl
distance_same p q ranges (value at t (logic o a b)) = refl
distance_same p q ranges (value at t (conditional u a b)) = refl
distance_same p q ranges (value at t (call name n arguments)) = refl
distance_same p q ranges (value at t (built_in name f arguments)) = refl

part_same : (p : PlainProgram) (q : Pair) (ranges : Environment) (v : PlainValue) → part (erased_pair p q) ranges (erased_value p v) ≡ part q ranges v
part_same p q ranges (value at t (constant z)) = refl
part_same p q ranges (value at t (read r)) = refl
part_same p q ranges (value at t (sense n)) = refl
part_same p q ranges (value at t (address r)) = refl
part_same p q ranges (value at t (decay r)) = refl
part_same p q ranges (value at t (convert u)) = refl
part_same p q ranges (value at t (cast u)) = refl
part_same p q ranges (value at t (unary o u)) = refl
part_same p q ranges (value at t (binary op.Add a b)) = refl
part_same p q ranges (value at t (binary op.Sub a b)) = refl
part_same p q ranges (value at t (binary op.Mul a b)) = refl
part_same p q ranges (value at t (binary op.Div a b)) = λ i. if exact_same p t a b i then part_of (distance_same p q ranges a i) (divisor_same p ranges b i) else None
part_same p q ranges (value at t (binary op.Rem a b)) = refl
part_same p q ranges (value at t (binary op.Shl a b)) = refl
part_same p q ranges (value at t (binary op.Shr a b)) = refl
part_same p q ranges (value at t (binary op.And a b)) = refl
part_same p q ranges (value at t (binary op.Or a b)) = refl
part_same p q ranges (value at t (binary op.Xor a b)) = refl
part_same p q ranges (value at t (binary op.Lt a b)) = refl
part_same p q ranges (value at t (binary op.Gt a b)) = refl
part_same p q ranges (value at t (binary op.Le a b)) = refl
part_same p q ranges (value at t (binary op.Ge a b)) = refl
part_same p q ranges (value at t (binary op.Eq a b)) = refl
part_same p q ranges (value at t (binary op.Ne a b)) = refl
part_same p q ranges (value at t (logic o a b)) = refl
part_same p q ranges (value at t (conditional u a b)) = refl
part_same p q ranges (value at t (call name n arguments)) = refl
part_same p q ranges (value at t (built_in name f arguments)) = refl

midpoint_of_same : (p : PlainProgram) (q : Pair) (e : Differences) (x : Option ℕ) (r : Option Part) → midpoint_of (erased_pair p q) e x r ≡ midpoint_of q e x r
midpoint_of_same p q e (Some x) (Some r) = λ i. if nat_eq x r.of.below then midpoint_between r (bound_same p q e (now x) (now r.of.above) i) (bound_same p q e (now r.of.above) (now x) i) else None
midpoint_of_same p q e (Some x) None = refl
midpoint_of_same p q e None r = refl

midpoint_same : (p : PlainProgram) (q : Pair) (e : Differences) (a b : PlainValue) → midpoint (erased_pair p q) e (erased_value p a) (erased_value p b) ≡ midpoint q e a b
midpoint_same p q e a b = (λ i. midpoint_of (erased_pair p q) e (named_same p q e.ranges a i) (part_same p q e.ranges b i)) ∙ midpoint_of_same p q e (named q e.ranges a) (part q e.ranges b)

sum_up_same : (p : PlainProgram) (q : Pair) (e : Differences) (m : Option Midpoint) (w : Name) (sum : Option ℤ) → sum_up (erased_pair p q) e m w sum ≡ sum_up q e m w sum
sum_up_same p q e None w sum = refl
sum_up_same p q e (Some m) w sum =
    λ i. least (plus (bound_same p q e (now m.way.below) w i) (Some (int_div_euclid m.at_most (pos m.by)))) (plus (bound_same p q e (now m.way.above) w i) (Some (int_div_euclid m.at_least (pos m.by) -ℤ m.at_least)))

sum_low_same : (p : PlainProgram) (q : Pair) (e : Differences) (m : Option Midpoint) (w : Name) (sum : Option ℤ) → sum_low (erased_pair p q) e m w sum ≡ sum_low q e m w sum
sum_low_same p q e None w sum = refl
sum_low_same p q e (Some m) w sum =
    λ i. least (plus (bound_same p q e w (now m.way.below) i) (Some (pos 0 -ℤ int_div_euclid m.at_least (pos m.by)))) (plus (bound_same p q e w (now m.way.above) i) (Some (m.at_most -ℤ int_div_euclid m.at_most (pos m.by))))

-- ---- operators

pub operator_up_same : (p : PlainProgram) (q : Pair) (e : Differences) (o : BinOp) (t : PlainType) (a b : PlainValue) (w : Name) (left right : Option ℤ)
    → operator_up (erased_pair p q) e o (erased_type p t) (erased_value p a) (erased_value p b) w left right ≡ operator_up q e o t a b w left right
operator_up_same p q e op.Add t a b w left right =
    (λ i. if exact_same p t a b i then sum_up (erased_pair p q) e (midpoint_same p q e a b i) w (least (plus left (top (value_range_same p e.ranges b i))) (plus right (top (value_range_same p e.ranges a i)))) else None)
    ∙ (λ i. if is_exact t a b then sum_up_same p q e (midpoint q e a b) w (least (plus left (top (value_range e.ranges b))) (plus right (top (value_range e.ranges a)))) i else None)
operator_up_same p q e op.Sub t a b w left right = λ i. if exact_same p t a b i then plus left (bottom (value_range_same p e.ranges b i)) else None
operator_up_same p q e op.Mul t a b w left right = refl
operator_up_same p q e op.Div t a b w left right = refl
operator_up_same p q e op.Rem t a b w left right = refl
operator_up_same p q e op.Shl t a b w left right = refl
operator_up_same p q e op.Shr t a b w left right = refl
operator_up_same p q e op.And t a b w left right = refl
operator_up_same p q e op.Or t a b w left right = refl
operator_up_same p q e op.Xor t a b w left right = refl
operator_up_same p q e op.Lt t a b w left right = refl
operator_up_same p q e op.Gt t a b w left right = refl
operator_up_same p q e op.Le t a b w left right = refl
operator_up_same p q e op.Ge t a b w left right = refl
operator_up_same p q e op.Eq t a b w left right = refl
operator_up_same p q e op.Ne t a b w left right = refl

pub operator_low_same : (p : PlainProgram) (q : Pair) (e : Differences) (o : BinOp) (t : PlainType) (a b : PlainValue) (w : Name) (left right : Option ℤ)
    → operator_low (erased_pair p q) e o (erased_type p t) (erased_value p a) (erased_value p b) w left right ≡ operator_low q e o t a b w left right
operator_low_same p q e op.Add t a b w left right =
    (λ i. if exact_same p t a b i then sum_low (erased_pair p q) e (midpoint_same p q e a b i) w (least (plus left (bottom (value_range_same p e.ranges b i))) (plus right (bottom (value_range_same p e.ranges a i)))) else None)
    ∙ (λ i. if is_exact t a b then sum_low_same p q e (midpoint q e a b) w (least (plus left (bottom (value_range e.ranges b))) (plus right (bottom (value_range e.ranges a)))) i else None)
operator_low_same p q e op.Sub t a b w left right = λ i. if exact_same p t a b i then plus left (top (value_range_same p e.ranges b i)) else None
operator_low_same p q e op.Mul t a b w left right = refl
operator_low_same p q e op.Div t a b w left right = refl
operator_low_same p q e op.Rem t a b w left right = refl
operator_low_same p q e op.Shl t a b w left right = refl
operator_low_same p q e op.Shr t a b w left right = refl
operator_low_same p q e op.And t a b w left right = refl
operator_low_same p q e op.Or t a b w left right = refl
operator_low_same p q e op.Xor t a b w left right = refl
operator_low_same p q e op.Lt t a b w left right = refl
operator_low_same p q e op.Gt t a b w left right = refl
operator_low_same p q e op.Le t a b w left right = refl
operator_low_same p q e op.Ge t a b w left right = refl
operator_low_same p q e op.Eq t a b w left right = refl
operator_low_same p q e op.Ne t a b w left right = refl

met_up_same : (p : PlainProgram) (q : Pair) (v : PlainValue) (e : Differences) (w : Name) (row : Option ℤ) → met_up (erased_pair p q) (erased_value p v) e w row ≡ met_up q v e w row
met_up_same p q v e w row = λ i. kept (least row (plus (top (value_range_same p e.ranges v i)) (bottom (range_same p q e.ranges w i))))

-- the row of a value that is no operator
other_up : (p : PlainProgram) (q : Pair) (v : PlainValue) (e : Differences) (w : Name) → named_up (erased_pair p q) e (named (erased_pair p q) e.ranges (erased_value p v)) w ≡ named_up q e (named q e.ranges v) w
other_up p q v e w = (λ i. named_up (erased_pair p q) e (named_same p q e.ranges v i) w) ∙ named_up_same p q e (named q e.ranges v) w

up_row_same : (p : PlainProgram) (q : Pair) (v : PlainValue) (e : Differences) (w : Name) → up_row (erased_pair p q) (erased_value p v) e w ≡ up_row q v e w
up_row_same p q (value at t (constant z)) e w = other_up p q (value at t (constant z)) e w
up_row_same p q (value at t (read r)) e w = other_up p q (value at t (read r)) e w
up_row_same p q (value at t (sense n)) e w = other_up p q (value at t (sense n)) e w
up_row_same p q (value at t (address r)) e w = other_up p q (value at t (address r)) e w
up_row_same p q (value at t (decay r)) e w = other_up p q (value at t (decay r)) e w
up_row_same p q (value at t (convert u)) e w = other_up p q (value at t (convert u)) e w
up_row_same p q (value at t (cast u)) e w = other_up p q (value at t (cast u)) e w
up_row_same p q (value at t (unary o u)) e w = other_up p q (value at t (unary o u)) e w
up_row_same p q (value at t (binary o a b)) e w =
    (λ i. operator_up (erased_pair p q) e o (erased_type p t) (erased_value p a) (erased_value p b) w
    (((λ k. met_up (erased_pair p q) (erased_value p a) e w (up_row_same p q a e w k)) ∙ met_up_same p q a e w (up_row q a e w)) i)
    (((λ k. met_up (erased_pair p q) (erased_value p b) e w (up_row_same p q b e w k)) ∙ met_up_same p q b e w (up_row q b e w)) i))
    ∙ operator_up_same p q e o t a b w (met_up q a e w (up_row q a e w)) (met_up q b e w (up_row q b e w))
up_row_same p q (value at t (logic o a b)) e w = other_up p q (value at t (logic o a b)) e w
up_row_same p q (value at t (conditional u a b)) e w = other_up p q (value at t (conditional u a b)) e w
up_row_same p q (value at t (call name n arguments)) e w = other_up p q (value at t (call name n arguments)) e w
up_row_same p q (value at t (built_in name f arguments)) e w = other_up p q (value at t (built_in name f arguments)) e w

pub up_same : (p : PlainProgram) (q : Pair) (v : PlainValue) (e : Differences) (w : Name) → up (erased_pair p q) (erased_value p v) e w ≡ up q v e w
up_same p q v e w = (λ i. met_up (erased_pair p q) (erased_value p v) e w (up_row_same p q v e w i)) ∙ met_up_same p q v e w (up_row q v e w)

met_low_same : (p : PlainProgram) (q : Pair) (v : PlainValue) (e : Differences) (w : Name) (row : Option ℤ) → met_low (erased_pair p q) (erased_value p v) e w row ≡ met_low q v e w row
met_low_same p q v e w row = λ i. kept (least row (plus (top (range_same p q e.ranges w i)) (bottom (value_range_same p e.ranges v i))))

-- the row of a value that is no operator
other_low : (p : PlainProgram) (q : Pair) (v : PlainValue) (e : Differences) (w : Name) → named_low (erased_pair p q) e (named (erased_pair p q) e.ranges (erased_value p v)) w ≡ named_low q e (named q e.ranges v) w
other_low p q v e w = (λ i. named_low (erased_pair p q) e (named_same p q e.ranges v i) w) ∙ named_low_same p q e (named q e.ranges v) w

low_row_same : (p : PlainProgram) (q : Pair) (v : PlainValue) (e : Differences) (w : Name) → low_row (erased_pair p q) (erased_value p v) e w ≡ low_row q v e w
low_row_same p q (value at t (constant z)) e w = other_low p q (value at t (constant z)) e w
low_row_same p q (value at t (read r)) e w = other_low p q (value at t (read r)) e w
low_row_same p q (value at t (sense n)) e w = other_low p q (value at t (sense n)) e w
low_row_same p q (value at t (address r)) e w = other_low p q (value at t (address r)) e w
low_row_same p q (value at t (decay r)) e w = other_low p q (value at t (decay r)) e w
low_row_same p q (value at t (convert u)) e w = other_low p q (value at t (convert u)) e w
low_row_same p q (value at t (cast u)) e w = other_low p q (value at t (cast u)) e w
low_row_same p q (value at t (unary o u)) e w = other_low p q (value at t (unary o u)) e w
low_row_same p q (value at t (binary o a b)) e w =
    (λ i. operator_low (erased_pair p q) e o (erased_type p t) (erased_value p a) (erased_value p b) w
    (((λ k. met_low (erased_pair p q) (erased_value p a) e w (low_row_same p q a e w k)) ∙ met_low_same p q a e w (low_row q a e w)) i)
    (((λ k. met_low (erased_pair p q) (erased_value p b) e w (low_row_same p q b e w k)) ∙ met_low_same p q b e w (low_row q b e w)) i))
    ∙ operator_low_same p q e o t a b w (met_low q a e w (low_row q a e w)) (met_low q b e w (low_row q b e w))
low_row_same p q (value at t (logic o a b)) e w = other_low p q (value at t (logic o a b)) e w
low_row_same p q (value at t (conditional u a b)) e w = other_low p q (value at t (conditional u a b)) e w
low_row_same p q (value at t (call name n arguments)) e w = other_low p q (value at t (call name n arguments)) e w
low_row_same p q (value at t (built_in name f arguments)) e w = other_low p q (value at t (built_in name f arguments)) e w

pub low_same : (p : PlainProgram) (q : Pair) (v : PlainValue) (e : Differences) (w : Name) → low (erased_pair p q) (erased_value p v) e w ≡ low q v e w
low_same p q v e w = (λ i. met_low (erased_pair p q) (erased_value p v) e w (low_row_same p q v e w i)) ∙ met_low_same p q v e w (low_row q v e w)
