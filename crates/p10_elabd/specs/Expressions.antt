-- Expressions where declarations and statements stand.
use Rattle.std.specs.Prelude.{ℤ, if◌then◌else◌, Option, Some, None, Result, Ok, Err}
use Rattle.p10_base.specs.declared.at.At.{At}
use Rattle.p10_base.specs.declared.codes.SubsetCode.TheVariants as subset
use Rattle.p10_syn.specs.Trees.{Expression}
use Rattle.p10_core.specs.Typed.{PlainValue, at_of, type_of}
use Rattle.p10_core.specs.Rows.{is_integer}
use Rattle.p10_core.specs.Constants.{inconstant_part, fold}
use Rattle.p10_elabx.specs.First.{Keep, Found, Ruled, refused, on}
use Rattle.p10_elabx.specs.Operands.{as_value}
use Rattle.p10_elabx.specs.Judging.{judge}
use Rattle.p10_elabd.specs.Standing.{PlainStanding, Passed, noted}
use Rattle.p10_elabd.specs.Tags.{scope_of_expression}

-- what stands after the tags of an expression are declared
abbrev pub for_expression : PlainStanding → Expression At → PlainStanding
for_expression s e = record s { scope = scope_of_expression s.scope e }

-- what is found in an expression where a value is needed
abbrev pub value_found : Keep → PlainStanding → Expression At → Found PlainValue
value_found h s e = let t : PlainStanding = for_expression s e in (as_value t.scope.structures (judge h t.scope e)).found

-- a value, of which a row asks more
abbrev pub value_by : {A : Type 0} → Keep → PlainStanding → Expression At → (PlainValue → Ruled A) → Passed A
value_by h s e go = noted h (on (value_found h s e) go) (for_expression s e)

-- what an integer constant expression gives, or the part that stops
abbrev pub folded_number : Result ℤ At → Ruled ℤ
folded_number (Ok z) = Ok z
folded_number (Err at) = refused subset.ConstantStops at

-- what an integer constant expression gives, where no part is of another form
abbrev pub number_or_part : PlainValue → Option At → Ruled ℤ
number_or_part v None = if is_integer (type_of v) then folded_number (fold v) else refused subset.NotConstant (at_of v)
number_or_part v (Some at) = refused subset.NotConstant at

-- an integer constant expression (C99 6.6p6): a part of another form is refused, then one that stops
abbrev pub constant_number : PlainValue → Ruled ℤ
constant_number v = number_or_part v (inconstant_part v)
