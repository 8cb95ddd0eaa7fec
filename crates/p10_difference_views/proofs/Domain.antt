-- The domain of ranges and differences does the same with erased trees.
use Rattle.std.proofs.Common.{◌≡◌, ◌∙◌, ℕ, ◌&&◌, ◌||◌, not, Bool, true, false, List, map, Option, None, option_map, refl, ap}
use Rattle.std.specs.Prelude.{ℤ, if◌then◌else◌}
use Rattle.std.specs.Option.{option_and_then}
use Rattle.p10_int.specs.declared.operators.BinOp.{BinOp}
use Rattle.p10_int.specs.declared.operators.UnOp.TheVariants as one_side
use Rattle.p10_core.specs.declared.typed.Library.TheVariants as library
use Rattle.p10_core.specs.declared.typed.LogicOp.TheVariants as both_sides
use Rattle.p10_core.specs.Types.{PlainType}
use Rattle.p10_core.specs.Constants.{integer_of}
use Rattle.p10_core.specs.Typed.{PlainValue, PlainInitializer, not_initialized, single, copied, listed, statement, PlainStatementForm, set, update, copy, evaluate, asserts, declare, declare_static, block, if_then, if_else, loop, switch, break, continue, return, empty, mark, no_statements, more_statements, PlainVariable, PlainProgram}
use Rattle.p10_core.specs.Typed.{value, constant, read, sense, address, decay, convert, cast, unary, binary, logic, conditional, call, built_in, PlainPlace, place, variable, global, literal, index, member, dereference, no_values, more_values}
use Rattle.p10_absx.specs.Environments.{Environment, known}
use Rattle.p10_absx.specs.Comparing.{is_comparison, contrary}
use Rattle.p10_absx.specs.Assessing.{assume_of}
use Rattle.p10_pass.specs.Scopes.{left_scope}
use Rattle.p10_pass.specs.Passing.{Left, pass_form, trial_manner}
use Rattle.p10_walk.specs.Ranges.{before, ranges_of}
use Rattle.p10_diff.specs.Bounds.{least, kept}
use Rattle.p10_diff.specs.Differences.{Name, now, was, is_marked, Pair, of_name, Differences, range_of, unmarked_bounds, unmarked_fall}
use Rattle.p10_diff.specs.Expressions.{range_up, range_low, operator_up, operator_low, up, low}
use Rattle.p10_diff.specs.Domain.{only, assigned_bounds, assigned, assigned_to, is_unconverted, read_of, updated_up, updated_low, seen, declared_as, compared, compared_where, hull_maybe, assume, after, differences}
use Rattle.p10_views.specs.Erased.{no_place, erased_type, erased_value, erased_place, erased_initializer, erased_statement_form, erased_variable}
use Rattle.p10_views.proofs.Types.{kind_erased}
use Rattle.p10_views.proofs.Assigning.{scope_erased, forgotten_erased}
use Rattle.p10_views.proofs.Values.{integers_erased}
use Rattle.p10_views.proofs.Manners.{Twin}
use Rattle.p10_views.proofs.Statements.{statement_erased}
use Rattle.p10_difference_views.proofs.Pairs.{erased_pair, has_same, of_same, range_up_same, range_low_same, seen_same, hull_same, hull_maybe_same}
use Rattle.p10_difference_views.proofs.Measured.{all_call, assumed_same, valued_same, named_same, operator_up_same, operator_low_same, up_same, low_same}
use Rattle.p10_difference_views.proofs.Walks.{SameOperations}

-- ---- ranges

-- a trial pass
abbrev trial : PlainProgram → List PlainVariable → Twin
trial p vs = record { program = p; c = None; d = None; stand = tt; loops = None; result = None; variables = vs }

before_same : (p : PlainProgram) (form : PlainStatementForm) (env : Environment) → before (erased_statement_form p form) env ≡ before form env
before_same p (set r v) env = refl
before_same p (update kind o t r v) env = refl
before_same p (copy r s) env = refl
before_same p (evaluate v) env = refl
before_same p (asserts site v) env = refl
before_same p (declare n initializer) env = refl
before_same p (declare_static n) env = refl
before_same p (block ss) env = refl
before_same p (if_then v s) env = refl
before_same p (if_else v s u) env = refl
before_same p (loop head first tested third body) env = refl
before_same p (switch keyword v labels body) env = refl
before_same p break env = refl
before_same p continue env = refl
before_same p (return keyword v) env = refl
before_same p empty env = refl
before_same p (mark kind) env = refl

passed_same : (p : PlainProgram) (vs : List PlainVariable) (form : PlainStatementForm) (env : Environment) → (pass_form (trial_manner (map (erased_variable p) vs)) (erased_statement_form p form) env).normal ≡ (pass_form (trial_manner vs) form env).normal
passed_same p vs form env = ap (λ (a : Left). a.normal) (statement_erased (trial p vs) (statement no_place form) (all_call (more_statements (statement no_place form) no_statements)).0 env)

ranges_same : (p : PlainProgram) (vs : List PlainVariable) (form : PlainStatementForm) (env : Environment) → (ranges_of (map (erased_variable p) vs)).after (erased_statement_form p form) env ≡ (ranges_of vs).after form env
ranges_same p vs form env = (λ i. (pass_form (trial_manner (map (erased_variable p) vs)) (erased_statement_form p form) (before_same p form env i)).normal) ∙ passed_same p vs form (before form env)

-- ---- assignments

bounds_same : (p : PlainProgram) (q : Pair) (ranges : Environment) (n : ℕ) (up up' low low' : Name → Option ℤ) → ((w : Name) → up' w ≡ up w) → ((w : Name) → low' w ≡ low w) → (bounds : Name → Name → Option ℤ) (a b : Name)
    → assigned_bounds (erased_pair p q) ranges n up' low' bounds a b ≡ assigned_bounds q ranges n up low bounds a b
bounds_same p q ranges n up up' low low' ups lows bounds a b =
    (λ i. if is_marked (only n) a
    then (if is_marked (only n) b then None else of_name (erased_pair p q) b (kept (least (ups b i) (range_up_same p q ranges (range_of (known ranges n)) b i))))
    else (if is_marked (only n) b then of_name (erased_pair p q) a (kept (least (lows a i) (range_low_same p q ranges (range_of (known ranges n)) a i))) else bounds a b))
    ∙ (λ i. if is_marked (only n) a
    then (if is_marked (only n) b then None else of_same p q b (kept (least (up b) (range_up q ranges (range_of (known ranges n)) b))) i)
    else (if is_marked (only n) b then of_same p q a (kept (least (low a) (range_low q ranges (range_of (known ranges n)) a))) i else bounds a b))

assigned_same : (p : PlainProgram) (q : Pair) (n : ℕ) (up up' low low' : Name → Option ℤ) → ((w : Name) → up' w ≡ up w) → ((w : Name) → low' w ≡ low w) → (e : Differences) (ranges : Environment)
    → assigned (erased_pair p q) n up' low' e ranges ≡ assigned q n up low e ranges
assigned_same p q n up up' low low' ups lows e ranges = λ i. record {
  ranges = ranges;
  bounds = if has_same p q n i then (λ a b. bounds_same p q ranges n up up' low low' ups lows e.bounds a b i) else unmarked_bounds (only n) e.bounds;
  fall = unmarked_fall q (only n) e.fall;
}

assigned_to_same : (p : PlainProgram) (q : Pair) (r : PlainPlace) (up up' low low' : Name → Option ℤ) → ((w : Name) → up' w ≡ up w) → ((w : Name) → low' w ≡ low w) → (e : Differences) (ranges : Environment)
    → assigned_to (erased_pair p q) (erased_place p r) up' low' e ranges ≡ assigned_to q r up low e ranges
assigned_to_same p q (place at t (variable n)) up up' low low' ups lows e ranges = assigned_same p q n up up' low low' ups lows e ranges
assigned_to_same p q (place at t (global n)) up up' low low' ups lows e ranges = refl
assigned_to_same p q (place at t (literal n bytes)) up up' low low' ups lows e ranges = refl
assigned_to_same p q (place at t (index a k)) up up' low low' ups lows e ranges = refl
assigned_to_same p q (place at t (member r m)) up up' low low' ups lows e ranges = refl
assigned_to_same p q (place at t (dereference v)) up up' low low' ups lows e ranges = refl

updated_up_same : (p : PlainProgram) (q : Pair) (e : Differences) (o : BinOp) (t : PlainType) (r : PlainPlace) (v : PlainValue) (w : Name)
    → updated_up (erased_pair p q) e o (erased_type p t) (erased_place p r) (erased_value p v) w ≡ updated_up q e o t r v w
updated_up_same p q e o t (place at u form) v w =
    (λ i. if is_unconverted (kind_erased p t i) (kind_erased p u i)
    then operator_up (erased_pair p q) e o (erased_type p t) (erased_value p (read_of (place at u form))) (erased_value p v) w (up_same p q (read_of (place at u form)) e w i) (up_same p q v e w i) else None)
    ∙ (λ i. if is_unconverted (integer_of t) (integer_of u) then operator_up_same p q e o t (read_of (place at u form)) v w (up q (read_of (place at u form)) e w) (up q v e w) i else None)

updated_low_same : (p : PlainProgram) (q : Pair) (e : Differences) (o : BinOp) (t : PlainType) (r : PlainPlace) (v : PlainValue) (w : Name)
    → updated_low (erased_pair p q) e o (erased_type p t) (erased_place p r) (erased_value p v) w ≡ updated_low q e o t r v w
updated_low_same p q e o t (place at u form) v w =
    (λ i. if is_unconverted (kind_erased p t i) (kind_erased p u i)
    then operator_low (erased_pair p q) e o (erased_type p t) (erased_value p (read_of (place at u form))) (erased_value p v) w (low_same p q (read_of (place at u form)) e w i) (low_same p q v e w i) else None)
    ∙ (λ i. if is_unconverted (integer_of t) (integer_of u) then operator_low_same p q e o t (read_of (place at u form)) v w (low q (read_of (place at u form)) e w) (low q v e w) i else None)

-- ---- declarations

declared_same : (p : PlainProgram) (q : Pair) (n : ℕ) (init : PlainInitializer) (e : Differences) (ranges : Environment) → declared_as (erased_pair p q) n (erased_initializer p init) e ranges ≡ declared_as q n init e ranges
declared_same p q n not_initialized e ranges = refl
declared_same p q n (copied r) e ranges = refl
declared_same p q n (listed at items) e ranges = refl
declared_same p q n (single v) e ranges =
    (λ i. assigned (erased_pair p q) n (λ w. up (erased_pair p q) (erased_value p v) (seen_same p q n e i) w) (λ w. low (erased_pair p q) (erased_value p v) (seen_same p q n e i) w) (seen_same p q n e i) ranges)
    ∙ assigned_same p q n (λ w. up q v (seen q n e) w) (λ w. up (erased_pair p q) (erased_value p v) (seen q n e) w) (λ w. low q v (seen q n e) w) (λ w. low (erased_pair p q) (erased_value p v) (seen q n e) w)
    (λ w. up_same p q v (seen q n e) w) (λ w. low_same p q v (seen q n e) w) (seen q n e) ranges

-- ---- conditions

compared_same : (p : PlainProgram) (q : Pair) (o : BinOp) (truth : Bool) (a b : PlainValue) (e : Differences) (ranges : Environment) → compared_where (erased_pair p q) o truth (erased_value p a) (erased_value p b) e ranges ≡ compared_where q o truth a b e ranges
compared_same p q o truth a b e ranges = λ i. record e {
  ranges = ranges;
  bounds = if is_comparison o && integers_erased p a b i then compared (if truth then o else contrary o) (named_same p q e.ranges a i) (named_same p q e.ranges b i) e.bounds else e.bounds;
}

-- a condition of which ranges alone say something
other_assumed : (p : PlainProgram) (v : PlainValue) (truth : Bool) (e : Differences) → option_map (λ ranges. record e { ranges = ranges }) (assume_of None (erased_value p v) truth e.ranges) ≡ option_map (λ ranges. record e { ranges = ranges }) (assume_of None v truth e.ranges)
other_assumed p v truth e = λ i. option_map (λ ranges. record e { ranges = ranges }) (assumed_same p v truth e.ranges i)

assume_same : (p : PlainProgram) (q : Pair) (v : PlainValue) (truth : Bool) (e : Differences) → assume (erased_pair p q) (erased_value p v) truth e ≡ assume q v truth e
assume_same p q (value at t (constant z)) truth e = other_assumed p (value at t (constant z)) truth e
assume_same p q (value at t (read r)) truth e = other_assumed p (value at t (read r)) truth e
assume_same p q (value at t (sense n)) truth e = other_assumed p (value at t (sense n)) truth e
assume_same p q (value at t (address r)) truth e = other_assumed p (value at t (address r)) truth e
assume_same p q (value at t (decay r)) truth e = other_assumed p (value at t (decay r)) truth e
assume_same p q (value at t (convert u)) truth e = other_assumed p (value at t (convert u)) truth e
assume_same p q (value at t (cast u)) truth e = other_assumed p (value at t (cast u)) truth e
assume_same p q (value at t (unary one_side.Plus u)) truth e = other_assumed p (value at t (unary one_side.Plus u)) truth e
assume_same p q (value at t (unary one_side.Neg u)) truth e = other_assumed p (value at t (unary one_side.Neg u)) truth e
assume_same p q (value at t (unary one_side.Com u)) truth e = other_assumed p (value at t (unary one_side.Com u)) truth e
assume_same p q (value at t (unary one_side.Not u)) truth e = assume_same p q u (not truth) e
assume_same p q (value at t (binary o a b)) truth e =
    (λ i. option_map (compared_where (erased_pair p q) o truth (erased_value p a) (erased_value p b) e) (assumed_same p (value at t (binary o a b)) truth e.ranges i))
    ∙ (λ i. option_map (λ ranges. compared_same p q o truth a b e ranges i) (assume_of None (value at t (binary o a b)) truth e.ranges))
assume_same p q (value at t (logic both_sides.And a b)) true e = λ i. option_and_then (λ x. assume_same p q b true x i) (assume_same p q a true e i)
assume_same p q (value at t (logic both_sides.And a b)) false e =
    (λ i. hull_maybe (erased_pair p q) (assume_same p q a false e i) (option_and_then (λ x. assume_same p q b false x i) (assume_same p q a true e i)))
    ∙ hull_maybe_same p q (assume q a false e) (option_and_then (assume q b false) (assume q a true e))
assume_same p q (value at t (logic both_sides.Or a b)) false e = λ i. option_and_then (λ x. assume_same p q b false x i) (assume_same p q a false e i)
assume_same p q (value at t (logic both_sides.Or a b)) true e =
    (λ i. hull_maybe (erased_pair p q) (assume_same p q a true e i) (option_and_then (λ x. assume_same p q b true x i) (assume_same p q a false e i)))
    ∙ hull_maybe_same p q (assume q a true e) (option_and_then (assume q b true) (assume q a false e))
assume_same p q (value at t (conditional u a b)) truth e = other_assumed p (value at t (conditional u a b)) truth e
assume_same p q (value at t (call name n arguments)) truth e = other_assumed p (value at t (call name n arguments)) truth e
assume_same p q (value at t (built_in name library.Assert arguments)) truth e = other_assumed p (value at t (built_in name library.Assert arguments)) truth e
assume_same p q (value at t (built_in name library.Getchar arguments)) truth e = other_assumed p (value at t (built_in name library.Getchar arguments)) truth e
assume_same p q (value at t (built_in name library.Putchar arguments)) truth e = other_assumed p (value at t (built_in name library.Putchar arguments)) truth e
assume_same p q (value at t (built_in name library.Malloc arguments)) truth e = other_assumed p (value at t (built_in name library.Malloc arguments)) truth e
assume_same p q (value at t (built_in name library.Calloc arguments)) truth e = other_assumed p (value at t (built_in name library.Calloc arguments)) truth e
assume_same p q (value at t (built_in name library.Free arguments)) truth e = other_assumed p (value at t (built_in name library.Free arguments)) truth e
assume_same p q (value at t (built_in name library.CAssert no_values)) truth e = other_assumed p (value at t (built_in name library.CAssert no_values)) truth e
assume_same p q (value at t (built_in name library.CAssert (more_values u no_values))) truth e = assume_same p q u truth e
assume_same p q (value at t (built_in name library.CAssert (more_values u (more_values x rest)))) truth e = other_assumed p (value at t (built_in name library.CAssert (more_values u (more_values x rest)))) truth e

-- ---- statements without parts

-- one of which ranges alone say something
other_after : (p : PlainProgram) (q : Pair) (form : PlainStatementForm) (e : Differences)
    → option_map (λ ranges. record e { ranges = ranges }) ((ranges_of (map (erased_variable p) q.variables)).after (erased_statement_form p form) e.ranges) ≡ option_map (λ ranges. record e { ranges = ranges }) ((ranges_of q.variables).after form e.ranges)
other_after p q form e = λ i. option_map (λ ranges. record e { ranges = ranges }) (ranges_same p q.variables form e.ranges i)

after_same : (p : PlainProgram) (q : Pair) (form : PlainStatementForm) (e : Differences) → after (erased_pair p q) (erased_statement_form p form) e ≡ after q form e
after_same p q (set r v) e =
    (λ i. option_map (assigned_to (erased_pair p q) (erased_place p r) (up (erased_pair p q) (erased_value p v) e) (low (erased_pair p q) (erased_value p v) e) e) (ranges_same p q.variables (set r v) e.ranges i))
    ∙ (λ i. option_map (λ ranges. assigned_to_same p q r (up q v e) (up (erased_pair p q) (erased_value p v) e) (low q v e) (low (erased_pair p q) (erased_value p v) e) (λ w. up_same p q v e w) (λ w. low_same p q v e w) e ranges i)
    ((ranges_of q.variables).after (set r v) e.ranges))
after_same p q (update kind o t r v) e =
    (λ i. option_map (assigned_to (erased_pair p q) (erased_place p r) (updated_up (erased_pair p q) e o (erased_type p t) (erased_place p r) (erased_value p v)) (updated_low (erased_pair p q) e o (erased_type p t) (erased_place p r) (erased_value p v)) e)
    (ranges_same p q.variables (update kind o t r v) e.ranges i))
    ∙ (λ i. option_map (λ ranges. assigned_to_same p q r (updated_up q e o t r v) (updated_up (erased_pair p q) e o (erased_type p t) (erased_place p r) (erased_value p v)) (updated_low q e o t r v) (updated_low (erased_pair p q) e o (erased_type p t) (erased_place p r) (erased_value p v))
    (λ w. updated_up_same p q e o t r v w) (λ w. updated_low_same p q e o t r v w) e ranges i) ((ranges_of q.variables).after (update kind o t r v) e.ranges))
after_same p q (copy r s) e = other_after p q (copy r s) e
after_same p q (evaluate v) e = other_after p q (evaluate v) e
after_same p q (asserts site v) e = assume_same p q v true e
after_same p q (declare n initializer) e =
    (λ i. option_map (declared_as (erased_pair p q) n (erased_initializer p initializer) e) (ranges_same p q.variables (declare n initializer) e.ranges i))
    ∙ (λ i. option_map (λ ranges. declared_same p q n initializer e ranges i) ((ranges_of q.variables).after (declare n initializer) e.ranges))
after_same p q (declare_static n) e = other_after p q (declare_static n) e
after_same p q (block ss) e = other_after p q (block ss) e
after_same p q (if_then v s) e = other_after p q (if_then v s) e
after_same p q (if_else v s u) e = other_after p q (if_else v s u) e
after_same p q (loop head first tested third body) e = other_after p q (loop head first tested third body) e
after_same p q (switch keyword v labels body) e = other_after p q (switch keyword v labels body) e
after_same p q break e = other_after p q break e
after_same p q continue e = other_after p q continue e
after_same p q (return keyword v) e = other_after p q (return keyword v) e
after_same p q empty e = other_after p q empty e
after_same p q (mark kind) e = other_after p q (mark kind) e

-- ---- the domain

marks_same : (these others : ℕ → Bool) → ((n : ℕ) → these n ≡ others n) → (u : Name) → is_marked these u ≡ is_marked others u
marks_same these others same (now n) = same n
marks_same these others same (was n) = refl

forgets_same : (p : PlainProgram) (q : Pair) (these others : ℕ → Bool) → ((n : ℕ) → these n ≡ others n) → (e : Differences) → (differences (erased_pair p q)).forget these e ≡ (differences q).forget others e
forgets_same p q these others same e = λ i. record {
  ranges = forgotten_erased p these others same q.variables e.ranges i;
  bounds = λ a b. if marks_same these others same a i || marks_same these others same b i then None else e.bounds a b;
  fall = if same q.below i || same q.above i then None else e.fall;
}

pub differences_same : (p : PlainProgram) (q : Pair) → SameOperations p (differences (erased_pair p q)) (differences q)
differences_same p q = record {
  after = λ form e. after_same p q form e;
  assume = λ truth v e. assume_same p q v truth e;
  has_value = λ v e. valued_same p v e.ranges;
  hull = λ a b. hull_same p q a b;
  left_scope = λ ss e. λ i. record e { ranges = scope_erased p ss e.ranges i };
  forget = λ these others same e. forgets_same p q these others same e;
}
