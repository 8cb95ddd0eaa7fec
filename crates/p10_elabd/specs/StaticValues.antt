-- Constants that initialise objects of static lifetime (C99 6.6p7 to p9, 6.7.8p4): which part of a value isn't constant, and which
-- stops.
use Rattle.std.specs.Prelude.{if◌then◌else◌, Option, Some, None, is_some, Result, Ok, Err, ℤ}
use Rattle.p10_base.specs.declared.at.At.{At}
use Rattle.p10_base.specs.declared.codes.SubsetCode.TheVariants as subset
use Rattle.p10_int.specs.declared.operators.BinOp.TheVariants.{Add, Sub}
use Rattle.p10_core.specs.Typed.{PlainValue, value, address, decay, convert, cast, binary, PlainPlace, place, variable, global, literal, index, member, dereference, at_of, type_of}
use Rattle.p10_core.specs.Rows.{is_integer, is_pointer}
use Rattle.p10_core.specs.Constants.{first_of_parts, inconstant_part, fold, is_null}
use Rattle.p10_core.specs.Addresses.{Target, target_of, place_target}
use Rattle.p10_elabx.specs.First.{Ruled, ruled, refused}
use Rattle.p10_elabd.specs.Expressions.{constant_number}

abbrev mutual
  -- the first of the smallest parts of a pointer's value that aren't of the form of an address constant
  pub address_part : PlainValue → Option At
  address_part (value at t (address p)) = place_part p
  address_part (value at t (decay p)) = place_part p
  address_part (value at t (convert v)) = if is_null v then None else address_part v
  address_part (value at t (cast v)) = if is_null v then None else address_part v
  address_part (value at t (binary Add a b)) =
      if is_pointer (type_of a) then first_of_parts (address_part a) (inconstant_part b) else first_of_parts (inconstant_part a) (address_part b)
  address_part (value at t (binary Sub a b)) = first_of_parts (address_part a) (inconstant_part b)
  address_part v = Some (at_of v)

  -- the same for a place whose address is taken: objects of static lifetime have one that is constant
  pub place_part : PlainPlace → Option At
  place_part (place at t (variable n)) = Some at
  place_part (place at t (global n)) = None
  place_part (place at t (literal n bytes)) = None
  place_part (place at t (index a i)) = first_of_parts (address_part a) (inconstant_part i)
  place_part (place at t (member p m)) = place_part p
  place_part (place at t (dereference v)) = address_part v

-- where a constant stops, if it does
abbrev pub fold_stop : PlainValue → Option At
fold_stop v = stop_in (fold v)
  where
    stop_in : Result ℤ At → Option At
    stop_in (Ok z) = None
    stop_in (Err at) = Some at

-- a tree that stops, where its parts don't
abbrev pub stops_unless : Option Target → At → Option At
stops_unless target at = if is_some target then None else Some at

abbrev mutual
  -- the smallest part of an address constant that stops: a pointer that leaves its array, or null that is moved or followed
  pub address_stop : PlainValue → Option At
  address_stop (value at t (address p)) = place_stop p
  address_stop (value at t (decay p)) = place_stop p
  address_stop (value at t (convert v)) = if is_null v then None else address_stop v
  address_stop (value at t (cast v)) = if is_null v then None else address_stop v
  address_stop (value at t (binary Add a b)) =
      if is_pointer (type_of a)
      then first_of_parts (address_stop a) (first_of_parts (fold_stop b) (stops_unless (target_of (value at t (binary Add a b))) at))
      else first_of_parts (fold_stop a) (first_of_parts (address_stop b) (stops_unless (target_of (value at t (binary Add a b))) at))
  address_stop (value at t (binary Sub a b)) =
      first_of_parts (address_stop a) (first_of_parts (fold_stop b) (stops_unless (target_of (value at t (binary Sub a b))) at))
  address_stop v = stops_unless (target_of v) (at_of v)

  -- the same for a place whose address is taken
  pub place_stop : PlainPlace → Option At
  place_stop (place at t (index a i)) =
      first_of_parts (address_stop a) (first_of_parts (fold_stop i) (stops_unless (place_target (place at t (index a i))) at))
  place_stop (place at t (member p m)) = first_of_parts (place_stop p) (stops_unless (place_target (place at t (member p m))) at)
  place_stop (place at t (dereference v)) = first_of_parts (address_stop v) (stops_unless (place_target (place at t (dereference v))) at)
  place_stop (place at t f) = None

-- an address constant that doesn't stop
abbrev pub constant_address : PlainValue → Option At → Option At → Ruled PlainValue
constant_address v (Some at) stop = refused subset.NotConstant at
constant_address v None (Some at) = refused subset.ConstantStops at
constant_address v None None = Ok v

-- a value for a scalar of static lifetime
abbrev pub static_value : PlainValue → Ruled PlainValue
static_value v =
    if is_integer (type_of v) then ruled (constant_number v) (λ _. Ok v) else constant_address v (address_part v) (address_stop v)
