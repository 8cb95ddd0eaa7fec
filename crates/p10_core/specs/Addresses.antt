-- Address constants (C99 6.6p7 to p9): which typed values may initialise objects of static lifetime.
use Rattle.std.specs.Prelude.{ℕ, ℤ, pos, negsuc, neg_ℤ, ◌+ℤ◌, Bool, true, false, ◌&&◌, nat_le, if◌then◌else◌, Option, Some, None, is_some, Result, Ok, Err}
use Rattle.p10_base.specs.declared.at.At.{At}
use Rattle.p10_int.specs.declared.operators.BinOp.TheVariants.{Add, Sub}
use Rattle.p10_core.specs.Types.{PlainType, array}
use Rattle.p10_core.specs.Typed.{PlainValue, value, address, decay, convert, cast, binary, PlainPlace, place, variable, global, literal, index, member, dereference, at_of, type_of, place_type}
use Rattle.p10_core.specs.Rows.{is_integer, is_pointer}
use Rattle.p10_core.specs.Constants.{inconstant_part, is_constant, fold, is_null}

-- where an address constant points to: nowhere, or to a position of an array with a length; a single object is an array of
-- one
pub data Target : Type 0 where
  nowhere : Target
  in_array : ℕ → ℕ → Target

-- a position of an array, if it is one or the place past its end
abbrev pub in_range : ℕ → ℤ → Option Target
in_range length (pos n) = if nat_le n length then Some (in_array length n) else None
in_range length (negsuc n) = None

-- the target moved by a constant: null can't be moved, and the array and its one-past place can't be left (C99 6.5.6p8)
abbrev pub moved : Option Target → Result ℤ At → Option Target
moved (Some (in_array length n)) (Ok by) = in_range length (pos n +ℤ by)
moved target by = None

-- the only element of an array that begins at the target
abbrev pub single_at : Option Target → Option Target
single_at (Some (in_array length n)) = Some (in_array 1 0)
single_at target = None

-- the first element of an array that begins at the target
abbrev pub row_at : PlainType → Option Target → Option Target
row_at (array c t n) (Some (in_array length at)) = Some (in_array n 0)
row_at t target = None

-- what a pointer points to: null points to nothing
abbrev pub reached : Option Target → Option Target
reached (Some (in_array length n)) = Some (in_array length n)
reached target = None

-- a constant with the other sign
abbrev pub negated : Result ℤ At → Result ℤ At
negated (Ok z) = Ok (neg_ℤ z)
negated (Err at) = Err at

-- a constant of an integer type, as far as its form goes, and what it gives
abbrev pub constant_of : PlainValue → Result ℤ At
constant_of v = if is_integer (type_of v) && is_constant (inconstant_part v) then fold v else Err (at_of v)

abbrev mutual
  -- where the value of a pointer points to, if it is an address constant that doesn't stop
  pub target_of : PlainValue → Option Target
  target_of (value at t (address p)) = place_target p
  target_of (value at t (decay p)) = row_at (place_type p) (place_target p)
  target_of (value at t (convert v)) = if is_null v then Some nowhere else target_of v
  target_of (value at t (cast v)) = if is_null v then Some nowhere else target_of v
  target_of (value at t (binary Add a b)) =
      if is_pointer (type_of a) then moved (target_of a) (constant_of b) else moved (target_of b) (constant_of a)
  target_of (value at t (binary Sub a b)) = moved (target_of a) (negated (constant_of b))
  target_of v = None

  -- where the address of a place points to, if it is a constant that doesn't stop
  pub place_target : PlainPlace → Option Target
  place_target (place at t (variable n)) = None
  place_target (place at t (global n)) = Some (in_array 1 0)
  place_target (place at t (literal n bytes)) = Some (in_array 1 0)
  place_target (place at t (index a i)) = moved (target_of a) (constant_of i)
  place_target (place at t (member p m)) = single_at (place_target p)
  place_target (place at t (dereference v)) = reached (target_of v)

abbrev is_ok : Result ℤ At → Bool
is_ok (Ok z) = true
is_ok (Err at) = false

-- whether a value may initialise a scalar of static lifetime (C99 6.7.8p4): a constant of an integer type, or an address
-- constant; evaluating it doesn't stop
abbrev pub is_static_value : PlainValue → Bool
is_static_value v = if is_integer (type_of v) then is_ok (constant_of v) else is_some (target_of v)
