-- Ranges with differences as a domain: what each statement and each condition does to them.
use Rattle.std.specs.Prelude.{ℕ, nat_eq, ◌&&◌, not, if◌then◌else◌, Bool, true, false, is_none, List, slice_get, ℤ, pos, neg_ℤ, ◌-ℤ◌, ◌≤ℤ◌, ◌≡◌, Option, Some, None}
use Rattle.std.specs.Option.{option_map, option_and_then}
use Rattle.p10_int.specs.declared.types.IntType.{IntType}
use Rattle.p10_int.specs.declared.types.IntType.TheVariants.{Int}
use Rattle.p10_int.specs.declared.operators.BinOp.{BinOp}
use Rattle.p10_int.specs.declared.operators.BinOp.TheVariants.{Lt, Gt, Le, Ge, Eq}
use Rattle.p10_int.specs.declared.operators.UnOp.TheVariants.{Not}
use Rattle.p10_int.specs.Types.{rank_of as conversion_rank}
use Rattle.p10_range.specs.Ranges.{IsMember, is_within}
use Rattle.p10_range.specs.Rows.{values_of}
use Rattle.p10_core.specs.declared.typed.Library.TheVariants.{CAssert}
use Rattle.p10_core.specs.declared.typed.LogicOp.TheVariants.{And, Or}
use Rattle.p10_core.specs.Types.{PlainType}
use Rattle.p10_core.specs.Constants.{integer_of}
use Rattle.p10_core.specs.Typed.{PlainValue, value, read, unary, binary, logic, built_in, no_values, more_values, PlainPlace, place, place_at, place_type, variable, PlainInitializer, single, PlainStatementForm, set, update, asserts, declare, PlainVariable}
use Rattle.p10_meaning.specs.Values.{Held}
use Rattle.p10_absx.specs.Abstract.{Abstract, whole_type}
use Rattle.p10_absx.specs.Environments.{Environment, known, learned, out_of_scope, hull_environment}
use Rattle.p10_absx.specs.Comparing.{is_comparison, contrary}
use Rattle.p10_absx.specs.Assessing.{are_integers, assume_of}
use Rattle.p10_pass.specs.Scopes.{left_scope, assigned_forgotten}
use Rattle.p10_pass.specs.Arguments.{has_value}
use Rattle.p10_walk.specs.Operations.{Operations}
use Rattle.p10_walk.specs.Ranges.{ranges_of, DescribesNumbers}
use Rattle.p10_diff.specs.Bounds.{least, greatest, plus, kept, AtMost}
use Rattle.p10_diff.specs.Differences.{Name, now, was, is_marked, worth, number_or_zero, Pair, has_name, of_name, Differences, range_of, bound, fallen, hull_bound, learned_bound, unmarked_bounds, unmarked_fall, named}
use Rattle.p10_diff.specs.Expressions.{range_up, range_low, operator_up, operator_low, up, low}

-- ## Assignments

-- the variable with a number alone
abbrev pub only : ℕ → ℕ → Bool
only n m = nat_eq m n

-- the bounds after an assignment of a value to a variable that has a name, where ranges are known after it: those of the value, and those by
-- the range that the variable has then; the others stay
abbrev pub assigned_bounds : Pair → Environment → ℕ → (Name → Option ℤ) → (Name → Option ℤ) → (Name → Name → Option ℤ) → Name → Name → Option ℤ
assigned_bounds p after n up low bounds a b =
    if is_marked (only n) a
    then (if is_marked (only n) b then None else of_name p b (kept (least (up b) (range_up p after (range_of (known after n)) b))))
    else (if is_marked (only n) b then of_name p a (kept (least (low a) (range_low p after (range_of (known after n)) a))) else bounds a b)

-- what is known after an assignment to a variable, with the rows of the value, where ranges are known
abbrev pub assigned : Pair → ℕ → (Name → Option ℤ) → (Name → Option ℤ) → Differences → Environment → Differences
assigned p n up low e after = record {
  ranges = after;
  bounds = if has_name p n then assigned_bounds p after n up low e.bounds else unmarked_bounds (only n) e.bounds;
  fall = unmarked_fall p (only n) e.fall;
}

-- the same of a place: only variables are known
abbrev pub assigned_to : Pair → PlainPlace → (Name → Option ℤ) → (Name → Option ℤ) → Differences → Environment → Differences
assigned_to p (place at t (variable n)) up low e after = assigned p n up low e after
assigned_to p q up low e after = record e { ranges = after }

-- whether no conversion lies between an operator's type and that of the place that it updates: they are one type (C99 6.5.16.2)
abbrev pub is_unconverted : IntType → IntType → Bool
is_unconverted t u = nat_eq (conversion_rank t) (conversion_rank u) && (is_within (values_of t) (values_of u) && is_within (values_of u) (values_of t))

-- what a place holds, as a value
abbrev pub read_of : PlainPlace → PlainValue
read_of q = value (place_at q) (place_type q) (read q)

-- `P op= v` has the value of `P op v`, if no conversion follows
abbrev pub updated_up : Pair → Differences → BinOp → PlainType → PlainPlace → PlainValue → Name → Option ℤ
updated_up p e op t q v w =
    if is_unconverted (integer_of t) (integer_of (place_type q)) then operator_up p e op t (read_of q) v w (up p (read_of q) e w) (up p v e w) else None

abbrev pub updated_low : Pair → Differences → BinOp → PlainType → PlainPlace → PlainValue → Name → Option ℤ
updated_low p e op t q v w =
    if is_unconverted (integer_of t) (integer_of (place_type q)) then operator_low p e op t (read_of q) v w (low p (read_of q) e w) (low p v e w) else None

-- ## Declarations

-- a variable is declared: nothing is known of it
abbrev pub declared : Pair → ℕ → Differences → Environment → Differences
declared p n e ranges = record { ranges = ranges; bounds = unmarked_bounds (only n) e.bounds; fall = unmarked_fall p (only n) e.fall }

-- the integer type of a variable
abbrev pub kind_in : Option PlainVariable → IntType
kind_in None = Int
kind_in (Some v) = integer_of v.type

-- what its initialiser sees: it has any value of its type
abbrev pub seen : Pair → ℕ → Differences → Differences
seen p n e = declared p n e (learned (out_of_scope e.ranges n) n (whole_type (kind_in (slice_get p.variables n))))

-- a declaration, where ranges are known after it
abbrev pub declared_as : Pair → ℕ → PlainInitializer → Differences → Environment → Differences
declared_as p n (single v) e after = assigned p n (up p v (seen p n e)) (low p v (seen p n e)) (seen p n e) after
declared_as p n initializer e after = declared p n e after

-- ## Conditions

-- what a comparison of two variables says of their difference (C99 6.5.8, 6.5.9)
abbrev pub compared_names : BinOp → Name → Name → (Name → Name → Option ℤ) → Name → Name → Option ℤ
compared_names Lt u w bounds = learned_bound u w (neg_ℤ (pos 1)) bounds
compared_names Le u w bounds = learned_bound u w (pos 0) bounds
compared_names Gt u w bounds = learned_bound w u (neg_ℤ (pos 1)) bounds
compared_names Ge u w bounds = learned_bound w u (pos 0) bounds
compared_names Eq u w bounds = learned_bound u w (pos 0) (learned_bound w u (pos 0) bounds)
compared_names op u w bounds = bounds

abbrev pub compared : BinOp → Option ℕ → Option ℕ → (Name → Name → Option ℤ) → Name → Name → Option ℤ
compared op (Some n) (Some m) bounds = if nat_eq n m then bounds else compared_names op (now n) (now m) bounds
compared op left right bounds = bounds

-- the same where its operands are integers, and it holds or doesn't
abbrev pub compared_where : Pair → BinOp → Bool → PlainValue → PlainValue → Differences → Environment → Differences
compared_where p op truth a b e after = record e {
  ranges = after;
  bounds = if is_comparison op && are_integers a b then compared (if truth then op else contrary op) (named p e.ranges a) (named p e.ranges b) e.bounds else e.bounds;
}

-- one of two
abbrev pub hull : Pair → Differences → Differences → Differences
hull p a b = record {
  ranges = hull_environment a.ranges b.ranges;
  bounds = λ u w. hull_bound (a.bounds u w) (b.bounds u w) (bound p a u w) (bound p b u w);
  fall = kept (greatest (fallen p a) (fallen p b));
}

abbrev pub hull_maybe : Pair → Option Differences → Option Differences → Option Differences
hull_maybe p None b = b
hull_maybe p (Some a) None = Some a
hull_maybe p (Some a) (Some b) = Some (hull p a b)

-- a value is true or false: comparisons say something of differences, alone and under `&&`, `||`, `!` and `c_assert` (C99 6.5.13, 6.5.14)
abbrev pub assume : Pair → PlainValue → Bool → Differences → Option Differences
assume p (value at t (binary op a b)) truth e = option_map (compared_where p op truth a b e) (assume_of None (value at t (binary op a b)) truth e.ranges)
assume p (value at t (logic And a b)) true e = option_and_then (assume p b true) (assume p a true e)
assume p (value at t (logic And a b)) false e = hull_maybe p (assume p a false e) (option_and_then (assume p b false) (assume p a true e))
assume p (value at t (logic Or a b)) true e = hull_maybe p (assume p a true e) (option_and_then (assume p b true) (assume p a false e))
assume p (value at t (logic Or a b)) false e = option_and_then (assume p b false) (assume p a false e)
assume p (value at t (unary Not v)) truth e = assume p v (not truth) e
assume p (value at t (built_in name CAssert (more_values v no_values))) truth e = assume p v truth e
assume p v truth e = option_map (λ after. record e { ranges = after }) (assume_of None v truth e.ranges)

-- ## The domain

-- a statement without parts
abbrev pub after : Pair → PlainStatementForm → Differences → Option Differences
after p (set q v) e = option_map (assigned_to p q (up p v e) (low p v e) e) ((ranges_of p.variables).after (set q v) e.ranges)
after p (update kind op t q v) e = option_map (assigned_to p q (updated_up p e op t q v) (updated_low p e op t q v) e) ((ranges_of p.variables).after (update kind op t q v) e.ranges)
after p (declare n initializer) e = option_map (declared_as p n initializer e) ((ranges_of p.variables).after (declare n initializer) e.ranges)
after p (asserts call v) e = assume p v true e
after p form e = option_map (λ ranges. record e { ranges = ranges }) ((ranges_of p.variables).after form e.ranges)

abbrev pub differences : Pair → Operations Differences
differences p = record {
  after = after p;
  assume = λ truth v e. assume p v truth e;
  has_value = λ v e. has_value None v e.ranges;
  hull = hull p;
  left_scope = λ ss e. record e { ranges = left_scope ss e.ranges };
  forget = λ marks e. record { ranges = assigned_forgotten marks p.variables e.ranges; bounds = unmarked_bounds marks e.bounds; fall = unmarked_fall p marks e.fall };
}

-- ## What it means

-- the distance of the two variables in a frame
abbrev pub distance_in : Pair → List Held → List Held → ℤ
distance_in p head held = worth head held (now p.above) -ℤ worth head held (now p.below)

-- ranges describe a frame; what the variables held at the head lies in its ranges; each difference is at most its bound; and so is the fall
pub record DescribesDifferences (p : Pair) (e : Differences) (head held : List Held) : Type 0 where
  pub ranges : DescribesNumbers p.variables e.ranges head held
  pub before : (n : ℕ) (a : Abstract) → known p.head n ≡ Some a → IsMember a.range (worth head held (was n))
  pub bounds : (u w : Name) → AtMost (worth head held u -ℤ worth head held w) (e.bounds u w)
  pub fall : AtMost (distance_in p head held -ℤ distance_in p head head) e.fall
