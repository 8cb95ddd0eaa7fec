-- What is known of values of a tree, and of the variables where they are true or false.
use Rattle.std.specs.Prelude.{ℕ, ◌&&◌, if◌then◌else◌, Bool, true, false, is_some, pos, neg_ℤ, slice_get, Option, Some, None}
use Rattle.std.specs.Option.{option_map, option_and_then}
use Rattle.p10_int.specs.declared.types.IntType.{IntType}
use Rattle.p10_int.specs.declared.types.IntType.TheVariants.{Int}
use Rattle.p10_int.specs.declared.operators.BinOp.{BinOp}
use Rattle.p10_int.specs.declared.operators.BinOp.TheVariants.{Ne}
use Rattle.p10_int.specs.declared.operators.UnOp.{UnOp}
use Rattle.p10_int.specs.declared.operators.UnOp.TheVariants.{Not}
use Rattle.p10_range.specs.Ranges.{Interval, from_to, is_within}
use Rattle.p10_range.specs.Rows.{values_of, only_zero}
use Rattle.p10_core.specs.declared.typed.Library.{Library}
use Rattle.p10_core.specs.declared.typed.Library.TheVariants.{CAssert, Getchar, Putchar}
use Rattle.p10_core.specs.declared.typed.LogicOp.{LogicOp}
use Rattle.p10_core.specs.declared.typed.LogicOp.TheVariants.{And, Or}
use Rattle.p10_core.specs.Types.{PlainType, void, integer}
use Rattle.p10_core.specs.Typed.{PlainValue, value, PlainForm, constant, read, sense, address, decay, convert, cast, unary, binary, logic, conditional, call, built_in, PlainPlace, place, variable, PlainValues, no_values, more_values, type_of}
use Rattle.p10_core.specs.Rows.{is_integer}
use Rattle.p10_core.specs.Constants.{integer_of}
use Rattle.p10_cert.specs.Claims.{Value, Number, Func, Claims}
use Rattle.p10_absx.specs.Abstract.{Abstract, only_range, whole_type, hull_abstract}
use Rattle.p10_absx.specs.Environments.{Environment, known, hull_reached}
use Rattle.p10_absx.specs.Operators.{converted_abstract, unary_abstract, binary_abstract}
use Rattle.p10_absx.specs.Comparing.{is_comparison, contrary, Side, compared}

-- ## What is found of a value

-- what is found of a value: of a plain one, whether it is an integer, and what it is as a side of a comparison; of a test, what is
-- known where it is true and where it is false, with nothing where no state is left
pub data Assessed : Type 0 where
  a_scalar : Bool → Side → Assessed
  a_test : Option Environment → Option Environment → Assessed

-- the value of a test: 1 where its contrary leaves no state, 0 where the test itself leaves none, nothing where neither leaves one
abbrev pub tested_abstract : Bool → Bool → Option Abstract
tested_abstract true true = Some (only_range (from_to (pos 0) (pos 1)))
tested_abstract true false = Some (only_range (from_to (pos 1) (pos 1)))
tested_abstract false true = Some (only_range (from_to (pos 0) (pos 0)))
tested_abstract false false = None

-- the value that was found
abbrev pub value_found : Assessed → Option Abstract
value_found (a_scalar i side) = side.value
value_found (a_test first second) = tested_abstract (is_some first) (is_some second)

-- what was found, as a side of a comparison
abbrev pub as_side : Assessed → Side
as_side (a_scalar i side) = side
as_side (a_test first second) = record { variable = None; value = tested_abstract (is_some first) (is_some second) }

-- the constant 0 as a side of a comparison
abbrev pub zero_side : Side
zero_side = record { variable = None; value = Some (only_range only_zero) }

-- a comparison that holds or doesn't
abbrev pub compared_where : BinOp → Bool → Side → Side → Environment → Option Environment
compared_where op truth left right env = compared (if truth then op else contrary op) left right env

-- what is known where a value is true or false: an integer is compared with 0, and of a pointer nothing is learned
abbrev pub known_where : Bool → Environment → Assessed → Option Environment
known_where truth env (a_scalar true side) = compared_where Ne truth side zero_side env
known_where truth env (a_scalar false side) = Some env
known_where truth env (a_test first second) = if truth then first else second

-- ## Rows

-- a value of which only the type is known
abbrev pub any_of : PlainType → Assessed
any_of t = a_scalar (is_integer t) (record { variable = None; value = Some (whole_type (integer_of t)) })

-- a value of a type that is no variable
abbrev pub found_of : PlainType → Option Abstract → Assessed
found_of t a = a_scalar (is_integer t) (record { variable = None; value = a })

-- a read: of an integer frame variable in scope what is known of it, else only its type
abbrev pub variable_read : PlainType → ℕ → Option Abstract → Assessed
variable_read t n None = any_of t
variable_read t n (Some a) = a_scalar (is_integer t) (record { variable = Some n; value = Some a })

-- the value of a place (C99 6.3.2.1p2)
abbrev pub place_read : PlainType → PlainPlace → Environment → Assessed
place_read t (place at u (variable n)) env = variable_read t n (known env n)
place_read t p env = any_of t

-- a side converted to an integer type is still that variable where the type has its range
abbrev pub converted_side : IntType → Side → Side
converted_side kind side = of side.value
  where
    of : Option Abstract → Side
    of None = record { variable = None; value = None }
    of (Some a) = record {
      variable = if is_within a.range (values_of kind) then side.variable else None;
      value = Some (converted_abstract kind a);
    }

-- a conversion or a cast (C99 6.3, 6.5.4): one to `void` has a value where its operand has one, and of a pointer nothing is known
abbrev pub converted_found : PlainType → Side → Assessed
converted_found (integer c kind) side = a_scalar true (converted_side kind side)
converted_found (void c) side = a_scalar false (record { variable = None; value = option_map (λ a. whole_type Int) side.value })
converted_found t side = any_of t

-- a unary operator other than `!` (C99 6.5.3.3)
abbrev pub unary_found : UnOp → PlainType → Option Abstract → Assessed
unary_found op t a = found_of t (option_and_then (unary_abstract op (integer_of t)) a)

-- an arithmetic operator on integers (C99 6.5.5 to 6.5.12)
abbrev pub arithmetic_found : BinOp → PlainType → Option Abstract → Option Abstract → Assessed
arithmetic_found op t a b = found_of t (option_and_then (λ a. option_and_then (λ b. binary_abstract op (integer_of t) a b) b) a)

-- a comparison of integers; one of pointers teaches nothing
abbrev pub comparison_found : BinOp → Bool → Side → Side → Environment → Assessed
comparison_found op true left right env = a_test (compared_where op true left right env) (compared_where op false left right env)
comparison_found op false left right env = a_test (Some env) (Some env)

-- whether both operands are integers
abbrev pub are_integers : PlainValue → PlainValue → Bool
are_integers a b = is_integer (type_of a) && is_integer (type_of b)

-- a binary operator: a comparison, arithmetic on integers, or one of pointers, of which only the type is known
abbrev pub binary_found : BinOp → PlainType → Bool → Assessed → Assessed → Environment → Assessed
binary_found op t integers a b env =
    if is_comparison op
    then comparison_found op integers (as_side a) (as_side b) env
    else (if integers then arithmetic_found op t (value_found a) (value_found b) else any_of t)

-- `&&` and `||` (C99 6.5.13, 6.5.14): where the left operand decides, the right one isn't evaluated; else it is where the left
-- one doesn't decide
abbrev pub logic_found : LogicOp → Environment → Assessed → (Environment → Assessed) → Assessed
logic_found And env left right =
    let after : Option Environment = known_where true env left in
    a_test (option_and_then (λ e. known_where true e (right e)) after)
    (hull_reached (known_where false env left) (option_and_then (λ e. known_where false e (right e)) after))
logic_found Or env left right =
    let after : Option Environment = known_where false env left in
    a_test (hull_reached (known_where true env left) (option_and_then (λ e. known_where true e (right e)) after))
    (option_and_then (λ e. known_where false e (right e)) after)

-- the hull of two values of which each may be none
abbrev pub hull_found : Option Abstract → Option Abstract → Option Abstract
hull_found None b = b
hull_found (Some a) None = Some a
hull_found (Some a) (Some b) = Some (hull_abstract a b)

-- a value without its offset
abbrev pub without_offset : Option Abstract → Option Abstract
without_offset a = option_map (λ a. only_range a.range) a

-- `?:` (C99 6.5.15): each operand is evaluated where the condition is true or false
abbrev pub conditional_found : PlainType → Environment → Assessed → (Environment → Assessed) → (Environment → Assessed) → Assessed
conditional_found t env condition first second =
    found_of t (without_offset (hull_found (option_and_then (λ e. value_found (first e)) (known_where true env condition))
    (option_and_then (λ e. value_found (second e)) (known_where false env condition))))

-- what a certificate claims of a result of an integer type: a range, or nothing more than the type
abbrev pub result_claimed : IntType → Option Func → Interval
result_claimed kind None = values_of kind
result_claimed kind (Some f) = of f.result
  where
    of : Value → Interval
    of (Number r) = r
    of v = values_of kind

-- the result of a call of a function by its number: where no certificate stands, only its type is known
abbrev pub call_claimed : Option Claims → ℕ → IntType → Interval
call_claimed None n kind = values_of kind
call_claimed (Some c) n kind = result_claimed kind (slice_get c.funcs n)

-- a call (C99 6.5.2.2)
abbrev pub call_found : Option Claims → ℕ → PlainType → Assessed
call_found c n t = found_of t (Some (only_range (call_claimed c n (integer_of t))))

-- `getchar` gives a byte or -1, and `putchar` a byte (C99 7.19.7.6, 7.19.7.9)
abbrev pub library_found : Library → PlainType → Assessed
library_found Getchar t = found_of t (Some (only_range (from_to (neg_ℤ (pos 1)) (pos 255))))
library_found Putchar t = found_of t (Some (only_range (from_to (pos 0) (pos 255))))
library_found f t = any_of t

-- `c_assert(e)` is 1 where `e` is true and 0 where it is false
abbrev pub truth_found : Environment → Assessed → Assessed
truth_found env a = a_test (known_where true env a) (known_where false env a)

-- `!` (C99 6.5.3.3p5)
abbrev pub negation_found : Environment → Assessed → Assessed
negation_found env a = a_test (known_where false env a) (known_where true env a)

-- a unary operator
abbrev pub unary_assessed : UnOp → PlainType → Environment → Assessed → Assessed
unary_assessed Not t env a = negation_found env a
unary_assessed op t env a = unary_found op t (value_found a)

-- a call of a library function, by what is found of its argument, if it has only one
abbrev pub library_assessed : Library → PlainType → Environment → Option Assessed → Assessed
library_assessed CAssert t env (Some a) = truth_found env a
library_assessed f t env a = library_found f t

-- ## The table

abbrev mutual
  -- what is found of a value in an environment, where calls have the results that a certificate claims
  pub assess : Option Claims → PlainValue → Environment → Assessed
  assess c (value at t form) env = assess_form c t form env

  -- a row for each form
  pub assess_form : Option Claims → PlainType → PlainForm → Environment → Assessed
  assess_form c t (constant z) env = found_of t (Some (only_range (from_to z z)))
  assess_form c t (read p) env = place_read t p env
  assess_form c t (sense n) env = any_of t
  assess_form c t (address p) env = any_of t
  assess_form c t (decay p) env = any_of t
  assess_form c t (convert v) env = converted_found t (as_side (assess c v env))
  assess_form c t (cast v) env = converted_found t (as_side (assess c v env))
  assess_form c t (unary op v) env = unary_assessed op t env (assess c v env)
  assess_form c t (binary op a b) env = binary_found op t (are_integers a b) (assess c a env) (assess c b env) env
  assess_form c t (logic op a b) env = logic_found op env (assess c a env) (λ env. assess c b env)
  assess_form c t (conditional v a b) env = conditional_found t env (assess c v env) (λ env. assess c a env) (λ env. assess c b env)
  assess_form c t (call s n arguments) env = call_found c n t
  assess_form c t (built_in s f arguments) env = library_assessed f t env (assess_only c arguments env)

  -- what is found of the only one of values
  pub assess_only : Option Claims → PlainValues → Environment → Option Assessed
  assess_only c (more_values v no_values) env = Some (assess c v env)
  assess_only c arguments env = None

-- the abstract value of an integer: none where every evaluation ends
abbrev pub abstract_value : Option Claims → Environment → PlainValue → Option Abstract
abstract_value c env v = value_found (assess c v env)

-- what is known after a value that was true or false: nothing where no state is left
abbrev pub assume_of : Option Claims → PlainValue → Bool → Environment → Option Environment
assume_of c v truth env = known_where truth env (assess c v env)
