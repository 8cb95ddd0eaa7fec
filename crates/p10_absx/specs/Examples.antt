-- The rows of values, refinement and hulls, at small values written out.
use Rattle.std.specs.Prelude.{◌≡◌, ℕ, ◌^◌, ◌-◌, true, false, [], ◌∷◌, pos, neg_ℤ, Some, None}
use Rattle.p10_int.specs.declared.types.IntType.TheVariants.{UInt, UChar}
use Rattle.p10_int.specs.declared.operators.BinOp.{BinOp}
use Rattle.p10_int.specs.declared.operators.BinOp.TheVariants.{Add, Div, Shr, Lt, Gt, Ge, Eq, Ne}
use Rattle.p10_range.specs.Ranges.{Interval, from_to}
use Rattle.p10_core.specs.declared.typed.Library.TheVariants.{CAssert, Getchar}
use Rattle.p10_core.specs.declared.typed.LogicOp.TheVariants.{And, Or}
use Rattle.p10_core.specs.Types.{PlainType, integer}
use Rattle.p10_core.specs.Typed.{PlainValue, convert, cast, binary, logic, conditional, call, built_in, no_values, more_values}
use Rattle.p10_meaning.specs.Examples.{span, int, number, get, value_of, null}
use Rattle.p10_cert.specs.Claims.{Number, Claims}
use Rattle.p10_absx.specs.Abstract.{Abstract, only_range}
use Rattle.p10_absx.specs.Environments.{Environment}
use Rattle.p10_absx.specs.Assessing.{abstract_value, assume_of}

-- ## Builders

-- the interval between two numbers, of which the first is negated
abbrev pub below_to : ℕ → ℕ → Interval
below_to low high = from_to (neg_ℤ (pos low)) (pos high)

-- the interval between two numbers that aren't negative
abbrev pub upto : ℕ → ℕ → Interval
upto low high = from_to (pos low) (pos high)

-- the environment in which variable 0 lies in an interval
abbrev pub in_one : Interval → Environment
in_one r = Some (only_range r) ∷ []

-- the abstract value in an interval that differs from variable 0 at the loop's head by a number of another one
abbrev pub differing : Interval → Interval → Abstract
differing r by = record { range = r; offset = Some (record { about = 0; by = by }) }

-- the variable 0, of type `int` and of type `unsigned int`
abbrev pub x : PlainValue
x = get 0 int 0

abbrev pub unsigned : PlainType
unsigned = integer false UInt

abbrev pub u : PlainValue
u = get 0 unsigned 0

-- the value z of type `int`
abbrev pub n : ℕ → PlainValue
n z = number (pos z)

-- an operator on values of type `int`
abbrev pub of_ints : BinOp → PlainValue → PlainValue → PlainValue
of_ints op a b = value_of int (binary op a b)

-- `1 / 0`
abbrev pub never : PlainValue
never = of_ints Div (n 1) (n 0)

-- `f(1 / 0)`
abbrev pub called : PlainValue
called = value_of int (call (span 0) 0 (more_values never no_values))

-- what is claimed of one function: its result lies in an interval
abbrev pub claiming : Interval → Claims
claiming r = record {
  funcs = record { name = []; rank = 0; steps = 1; calls = 1; bytes = 0; alloc = false; params = []; result = Number r; loops = [] } ∷ [];
  total = record { prefix = 1; turn = 0; calls = 1; bytes = 0 };
}

-- ## What holds of them

-- values: the results of operators, with and without a value, and what is claimed of calls
pub record ValuesAtEdges : Type 0 where
  pub one_more : abstract_value None (in_one (upto 0 3)) (of_ints Add x (n 1)) ≡ Some (only_range (upto 1 4))
  pub only_one : abstract_value None (in_one (upto 4 4)) (of_ints Add x (n 1)) ≡ Some (only_range (upto 5 5))
  pub out_of_scope : abstract_value None [] (of_ints Add x (n 1)) ≡ Some (only_range (from_to (neg_ℤ (pos (2 ^ 31 - 1))) (pos (2 ^ 31 - 1))))
  pub by_zero : abstract_value None [] never ≡ None
  pub sum_without : abstract_value None [] (of_ints Add never (n 1)) ≡ None
  pub test_without : abstract_value None [] (of_ints Lt never (n 1)) ≡ None
  pub called_without : abstract_value None [] called ≡ Some (only_range (from_to (neg_ℤ (pos (2 ^ 31))) (pos (2 ^ 31 - 1))))
  pub called_claimed : abstract_value (Some (claiming (upto 1 4))) [] called ≡ Some (only_range (upto 1 4))
  pub byte_read : abstract_value None [] (value_of int (built_in (span 0) Getchar no_values)) ≡ Some (only_range (below_to 1 255))
  pub surely : abstract_value None (in_one (upto 1 3)) (of_ints Gt x (n 0)) ≡ Some (only_range (upto 1 1))
  pub never_so : abstract_value None (in_one (upto 1 3)) (of_ints Gt x (n 3)) ≡ Some (only_range (upto 0 0))
  pub perhaps : abstract_value None (in_one (upto 1 3)) (of_ints Gt x (n 1)) ≡ Some (only_range (upto 0 1))
  pub chosen : abstract_value None (in_one (below_to 5 5)) (value_of int (conditional (of_ints Gt x (n 0)) x (n 0))) ≡ Some (only_range (upto 0 5))
  pub pointers : abstract_value None [] (of_ints Eq (null int) (null int)) ≡ Some (only_range (upto 0 1))

-- offsets from the value of variable 0 at the head of the loop
pub record OffsetsAtEdges : Type 0 where
  pub one_more : abstract_value None (Some (differing (upto 0 9) (upto 0 0)) ∷ []) (of_ints Add x (n 1)) ≡ Some (differing (upto 1 10) (upto 1 1))
  pub turned : abstract_value None (Some (differing (upto 0 9) (upto 0 0)) ∷ []) (of_ints Add (n 1) x) ≡ Some (differing (upto 1 10) (upto 1 1))
  pub halved : abstract_value None (Some (differing (upto 1 8) (upto 0 0)) ∷ []) (of_ints Div x (n 2)) ≡ Some (differing (upto 0 4) (from_to (neg_ℤ (pos 8)) (neg_ℤ (pos 1))))
  pub shifted : abstract_value None (Some (differing (upto 1 8) (upto 0 0)) ∷ []) (of_ints Shr x (n 1)) ≡ Some (differing (upto 0 4) (from_to (neg_ℤ (pos 8)) (neg_ℤ (pos 1))))
  pub not_halved : abstract_value None (Some (differing (upto 0 8) (upto 0 0)) ∷ []) (of_ints Div x (n 2)) ≡ Some (only_range (upto 0 4))
  pub wraps : abstract_value None (Some (differing (upto 0 (2 ^ 32 - 1)) (upto 0 0)) ∷ []) (value_of unsigned (binary Add u (value_of unsigned (convert (n 1))))) ≡ Some (only_range (upto 0 (2 ^ 32 - 1)))
  pub held : abstract_value None (Some (differing (upto 0 255) (upto 0 0)) ∷ []) (value_of (integer false UChar) (cast x)) ≡ Some (differing (upto 0 255) (upto 0 0))
  pub not_held : abstract_value None (Some (differing (below_to 1 5) (upto 0 0)) ∷ []) (value_of (integer false UChar) (cast x)) ≡ Some (only_range (upto 0 255))
  pub too_far : abstract_value None (Some (differing (upto 0 9) (upto 0 (2 ^ 66))) ∷ []) (of_ints Add x (n 1)) ≡ Some (only_range (upto 1 10))

-- what is known after a test
pub record TestsAtEdges : Type 0 where
  pub below_ten : assume_of None (of_ints Lt x (n 10)) true (in_one (upto 0 99)) ≡ Some (in_one (upto 0 9))
  pub not_below_ten : assume_of None (of_ints Lt x (n 10)) false (in_one (upto 0 99)) ≡ Some (in_one (upto 10 99))
  pub other_side : assume_of None (of_ints Lt (n 10) x) true (in_one (upto 0 99)) ≡ Some (in_one (upto 11 99))
  pub itself : assume_of None (of_ints Lt x x) true (in_one (upto 3 9)) ≡ Some (in_one (upto 4 8))
  pub never_itself : assume_of None (of_ints Lt x x) true (in_one (upto 3 4)) ≡ None
  pub end_dropped : assume_of None (of_ints Ne x (n 0)) true (in_one (upto 0 5)) ≡ Some (in_one (upto 1 5))
  pub inside_stays : assume_of None (of_ints Ne x (n 3)) true (in_one (upto 0 5)) ≡ Some (in_one (upto 0 5))
  pub only_dropped : assume_of None (of_ints Ne x (n 3)) true (in_one (upto 3 3)) ≡ None
  pub truth : assume_of None x false (in_one (upto 0 5)) ≡ Some (in_one (upto 0 0))
  -- the conversion to `unsigned int` may change a negative value, so the variable stays as it was
  pub converted : assume_of None (of_ints Lt (value_of unsigned (convert x)) (value_of unsigned (convert (n 5)))) true (in_one (below_to 1 10)) ≡ Some (in_one (below_to 1 10))
  pub converted_held : assume_of None (of_ints Lt (value_of unsigned (convert x)) (value_of unsigned (convert (n 5)))) true (in_one (upto 0 10)) ≡ Some (in_one (upto 0 4))
  pub both : assume_of None (value_of int (logic And (of_ints Ge x (n 0)) (of_ints Lt x (n 10)))) true (in_one (below_to 5 99)) ≡ Some (in_one (upto 0 9))
  pub not_both : assume_of None (value_of int (logic And (of_ints Ge x (n 0)) (of_ints Lt x (n 10)))) false (in_one (below_to 5 99)) ≡ Some (in_one (below_to 5 99))
  pub one_of : assume_of None (value_of int (logic Or (of_ints Lt x (n 2)) (of_ints Gt x (n 7)))) true (in_one (upto 1 9)) ≡ Some (in_one (upto 1 9))
  pub neither : assume_of None (value_of int (logic Or (of_ints Lt x (n 2)) (of_ints Gt x (n 7)))) false (in_one (upto 1 9)) ≡ Some (in_one (upto 2 7))
  pub checked : assume_of None (value_of int (built_in (span 0) CAssert (more_values (of_ints Gt x (n 0)) no_values))) true (in_one (below_to 5 5)) ≡ Some (in_one (upto 1 5))
  pub written_test : assume_of None (of_ints Ne (of_ints Gt x (n 0)) (n 0)) true (in_one (below_to 5 5)) ≡ Some (in_one (below_to 5 5))
  pub pointer : assume_of None (null int) true (in_one (upto 0 5)) ≡ Some (in_one (upto 0 5))
  pub without : assume_of None never true (in_one (upto 0 5)) ≡ None
