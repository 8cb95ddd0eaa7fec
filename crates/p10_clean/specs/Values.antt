-- What isn't clean in values and places, where the pass comes to their nodes: conditions C1 to C6. A node's own flaws stand before those of
-- its parts, whose first words come no earlier.
use Rattle.std.specs.Prelude.{ℕ, ◌&&◌, not, Bool, true, false, if◌then◌else◌, List, [], ◌∷◌, ◌++◌, slice_get, pos, int_le, int_lt, Option, Some, None}
use Rattle.p10_base.specs.declared.span.Span.{Span}
use Rattle.p10_base.specs.declared.at.At.{At}
use Rattle.p10_int.specs.declared.types.IntType.{IntType}
use Rattle.p10_int.specs.declared.operators.BinOp.{BinOp}
use Rattle.p10_int.specs.declared.operators.BinOp.TheVariants.{Eq, Ne}
use Rattle.p10_int.specs.declared.operators.UnOp.{UnOp}
use Rattle.p10_range.specs.Ranges.{Interval}
use Rattle.p10_core.specs.Types.{PlainType}
use Rattle.p10_core.specs.Typed.{PlainValue, value, PlainForm, constant, read, sense, address, decay, convert, cast, unary, binary, logic, conditional, call, built_in, PlainPlace, place, PlainPlaceForm, variable, global, literal, index, member, dereference, PlainValues, no_values, more_values, place_type, PlainVariable}
use Rattle.p10_core.specs.Uses.{manages_memory}
use Rattle.p10_core.specs.Constants.{integer_of}
use Rattle.p10_meaning.specs.Values.{element_count}
use Rattle.p10_absx.specs.Abstract.{Abstract}
use Rattle.p10_absx.specs.Environments.{Environment}
use Rattle.p10_absx.specs.Assessing.{assess, known_where, are_integers, abstract_value}
use Rattle.p10_pass.specs.Arguments.{has_value, where_reached, goes_on_where}
use Rattle.p10_pass.specs.Passing.{Manner}
use Rattle.p10_clean.specs.declared.flaw.Flaw.{Flaw}
use Rattle.p10_clean.specs.Settings.{Settings, is_set}
use Rattle.p10_clean.specs.Operations.{overflows, negation_overflows, misdivides, misshifts}

-- a condition that doesn't hold at a place, or none
abbrev pub flaw_if : Bool → ℕ → Span → List Flaw
flaw_if fails c at = if fails then record { c = c; at = at } ∷ [] else []

-- ## Operators

-- C1 to C3 of an operator on integers of a type, over the ranges of its operands
abbrev pub operation_flaws : Span → BinOp → IntType → Interval → Interval → List Flaw
operation_flaws at op t a b = flaw_if (overflows op t a b) 1 at ++ (flaw_if (misdivides op t a b) 2 at ++ flaw_if (misshifts op t a b) 3 at)

-- the same where operands may have no value: then no state comes to the operator
abbrev pub operands_flaws : Span → BinOp → IntType → Option Abstract → Option Abstract → List Flaw
operands_flaws at op t (Some a) (Some b) = operation_flaws at op t a.range b.range
operands_flaws at op t a b = []

-- whether pointers may be compared by an operator: equality asks nothing of them (C99 6.5.9p6)
abbrev pub compares_equal : BinOp → Bool
compares_equal Eq = true
compares_equal Ne = true
compares_equal op = false

-- a binary operator: on integers C1 to C3, and else C5, that no pointer is moved, subtracted or ordered
abbrev pub binary_flaws : Manner → Span → BinOp → IntType → PlainValue → PlainValue → Environment → List Flaw
binary_flaws m at op t a b env =
    if are_integers a b
    then operands_flaws at op t (abstract_value m.calls env a) (abstract_value m.calls env b)
    else flaw_if (not (compares_equal op)) 5 at

-- C1 of a unary operator
abbrev pub unary_flaws : Span → UnOp → IntType → Option Abstract → List Flaw
unary_flaws at op t None = []
unary_flaws at op t (Some a) = flaw_if (negation_overflows op t a.range) 1 at

-- ## Reads, indices and calls

-- whether a variable is there, and is a frame variable
abbrev pub is_frame : Option PlainVariable → Bool
is_frame None = false
is_frame (Some v) = v.frame

-- C6 of a read: a frame variable is set on every path
abbrev pub read_flaws : Manner → Settings → PlainPlace → List Flaw
read_flaws m set (place at t (variable n)) = flaw_if (is_frame (slice_get m.variables n) && not (is_set set n)) 6 at.span
read_flaws m set p = []

-- whether an index lies in an array, where it has a value
abbrev pub index_lies : ℕ → Option Abstract → Bool
index_lies count None = true
index_lies count (Some a) = int_le (pos 0) a.range.low && int_lt a.range.high (pos count)

-- C4: an index into an array that is a place lies in it; and C5: no other pointer is indexed
abbrev pub index_flaws : Manner → Span → PlainValue → PlainValue → Environment → List Flaw
index_flaws m at (value at2 t (decay p)) i env = flaw_if (not (index_lies (element_count (place_type p)) (abstract_value m.calls env i))) 4 at
index_flaws m at v i env = flaw_if true 5 at

-- the flaws of a value itself, by its form
abbrev pub value_flaws : Manner → Settings → At → PlainType → PlainForm → Environment → List Flaw
value_flaws m set at t (read p) env = read_flaws m set p
value_flaws m set at t (unary op v) env = unary_flaws at.span op (integer_of t) (abstract_value m.calls env v)
value_flaws m set at t (binary op a b) env = binary_flaws m at.span op (integer_of t) a b env
value_flaws m set at t (built_in name f arguments) env = flaw_if (manages_memory f) 5 at.span
value_flaws m set at t form env = []

-- the flaws of a place itself, by its form: C4, and C5 of a dereference
abbrev pub place_flaws : Manner → At → PlainPlaceForm → Environment → List Flaw
place_flaws m at (index a i) env = index_flaws m at.span a i env
place_flaws m at (dereference v) env = flaw_if true 5 at.span
place_flaws m at form env = []

-- ## The walk: which nodes the pass comes to, and with which environment, is as for calls and their arguments (condition K3)

abbrev mutual
  -- the flaws in a value
  pub flaws_in_value : Manner → Settings → PlainValue → Environment → List Flaw
  flaws_in_value m set (value at t form) env = value_flaws m set at t form env ++ flaws_in_form m set form env

  -- the flaws in the parts of a form of value
  pub flaws_in_form : Manner → Settings → PlainForm → Environment → List Flaw
  flaws_in_form m set (constant z) env = []
  flaws_in_form m set (read p) env = flaws_in_place m set p env
  flaws_in_form m set (sense n) env = []
  flaws_in_form m set (address p) env = flaws_in_place m set p env
  flaws_in_form m set (decay p) env = flaws_in_place m set p env
  flaws_in_form m set (convert v) env = flaws_in_value m set v env
  flaws_in_form m set (cast v) env = flaws_in_value m set v env
  flaws_in_form m set (unary op v) env = flaws_in_value m set v env
  flaws_in_form m set (binary op a b) env = flaws_in_value m set a env ++ (if has_value m.calls a env then flaws_in_value m set b env else [])
  flaws_in_form m set (logic op a b) env =
      flaws_in_value m set a env ++ where_reached (known_where (goes_on_where op) env (assess m.calls a env)) (λ env. flaws_in_value m set b env)
  flaws_in_form m set (conditional v a b) env =
      flaws_in_value m set v env ++ (where_reached (known_where true env (assess m.calls v env)) (λ env. flaws_in_value m set a env)
      ++ where_reached (known_where false env (assess m.calls v env)) (λ env. flaws_in_value m set b env))
  flaws_in_form m set (call name n arguments) env = flaws_in_values m set arguments env
  flaws_in_form m set (built_in name f arguments) env = flaws_in_values m set arguments env

  -- the flaws in values, one after the other
  pub flaws_in_values : Manner → Settings → PlainValues → Environment → List Flaw
  flaws_in_values m set no_values env = []
  flaws_in_values m set (more_values v vs) env = flaws_in_value m set v env ++ (if has_value m.calls v env then flaws_in_values m set vs env else [])

  -- the flaws in a place
  pub flaws_in_place : Manner → Settings → PlainPlace → Environment → List Flaw
  flaws_in_place m set (place at t form) env = place_flaws m at form env ++ flaws_in_place_form m set form env

  -- the flaws in the parts of a form of place
  pub flaws_in_place_form : Manner → Settings → PlainPlaceForm → Environment → List Flaw
  flaws_in_place_form m set (variable n) env = []
  flaws_in_place_form m set (global n) env = []
  flaws_in_place_form m set (literal n bytes) env = []
  flaws_in_place_form m set (index a i) env = flaws_in_value m set a env ++ (if has_value m.calls a env then flaws_in_value m set i env else [])
  flaws_in_place_form m set (member p k) env = flaws_in_place m set p env
  flaws_in_place_form m set (dereference v) env = flaws_in_value m set v env

-- the flaws in a value that may be lacking
abbrev pub flaws_in_maybe : Manner → Settings → Option PlainValue → Environment → List Flaw
flaws_in_maybe m set None env = []
flaws_in_maybe m set (Some v) env = flaws_in_value m set v env
