-- Both outcomes of a condition, as the code's functions speak of them.
use Rattle.std.specs.Prelude.{◌&&◌, if◌then◌else◌, Bool, true, false, Option, None}
use Rattle.std.specs.Option.{option_map, option_and_then}
use Rattle.p10_int.specs.declared.operators.BinOp.{BinOp}
use Rattle.p10_core.specs.declared.typed.Library.{Library}
use Rattle.p10_core.specs.declared.typed.Library.TheVariants.{CAssert}
use Rattle.p10_core.specs.declared.typed.LogicOp.{LogicOp}
use Rattle.p10_core.specs.declared.typed.LogicOp.TheVariants.{And, Or}
use Rattle.p10_core.specs.Typed.{PlainValue, value, binary, PlainValues, no_values, more_values}
use Rattle.p10_absx.specs.Comparing.{is_comparison, contrary}
use Rattle.p10_absx.specs.Environments.{Environment}
use Rattle.p10_absx.specs.Assessing.{are_integers, assume_of}
use Rattle.p10_diff.specs.Differences.{Pair, Differences, named}
use Rattle.p10_diff.specs.Domain.{compared, compared_where, hull_maybe, assume}

-- what is known where `&&` or `||` is true, and where it is false, by both outcomes of its left operand
abbrev pub logic_true : Pair → LogicOp → PlainValue → Option Differences → Option Differences → Option Differences
logic_true p And b truth lie = option_and_then (assume p b true) truth
logic_true p Or b truth lie = hull_maybe p truth (option_and_then (assume p b true) lie)

abbrev pub logic_false : Pair → LogicOp → PlainValue → Option Differences → Option Differences → Option Differences
logic_false p And b truth lie = hull_maybe p lie (option_and_then (assume p b false) truth)
logic_false p Or b truth lie = option_and_then (assume p b false) lie

-- what a comparison teaches, before ranges are known after it
abbrev pub taught : Pair → BinOp → PlainValue → PlainValue → Differences → Differences
taught p op a b e = record e { bounds = if is_comparison op && are_integers a b then compared op (named p e.ranges a) (named p e.ranges b) e.bounds else e.bounds }

-- what a value says of differences where it is true or false, before ranges are known after it: only a comparison says something
abbrev pub told_by : Pair → PlainValue → Bool → Differences → Differences
told_by p (value at t (binary op a b)) truth e = taught p (if truth then op else contrary op) a b e
told_by p v truth e = e

-- the same with the ranges that are known after it
abbrev pub told_where : Pair → PlainValue → Bool → Differences → Environment → Differences
told_where p (value at t (binary op a b)) truth e = compared_where p op truth a b e
told_where p v truth e = λ after. record e { ranges = after }

-- what is known where a value without conditions in it is true or false
abbrev pub ranged_where : Pair → PlainValue → Bool → Differences → Option Differences
ranged_where p v truth e = option_map (told_where p v truth e) (assume_of None v truth e.ranges)

-- what is known where the only one of values is true or false, or else something else
abbrev pub only_where : Pair → PlainValues → Bool → Differences → Option Differences → Option Differences
only_where p (more_values v no_values) truth e other = assume p v truth e
only_where p arguments truth e other = other

-- what is known where a call of a library function is true or false, or else something else: `c_assert` is what its argument is
abbrev pub called_where : Pair → Library → PlainValues → Bool → Differences → Option Differences → Option Differences
called_where p CAssert arguments truth e other = only_where p arguments truth e other
called_where p library arguments truth e other = other
