-- What is found in an allocation whose type is right.
use Rattle.std.specs.Prelude.{◌≡◌, Bool, true, Ok, Option, if◌then◌else◌}
use Rattle.std.proofs.Common.{ap, sym, ◌∙◌}
use Rattle.p10_base.specs.declared.at.At.{At}
use Rattle.p10_base.specs.declared.codes.SubsetCode.TheVariants as subset
use Rattle.p10_core.specs.declared.typed.Library.{Library}
use Rattle.p10_core.specs.Types.{PlainType, unqualified}
use Rattle.p10_core.specs.Typed.{PlainValue, value, cast, built_in}
use Rattle.p10_elabx.specs.First.{Ruled, refused}
use Rattle.p10_elabx.specs.Operands.{PlainOperand, a_value}
use Rattle.p10_elabx.specs.Calls.{points_to, count_arguments, allocation}

-- a value as what is found
abbrev found_value : PlainValue → Ruled PlainOperand
found_value v = Ok (a_value v)

-- one of two, by a condition
abbrev chosen : Ruled PlainOperand → Ruled PlainOperand → Bool → Ruled PlainOperand
chosen x y b = if b then x else y

pub allocated_is : (cast_at call_at name_at : At) (t : PlainType) (f : Library) (element : PlainType) (count : Option PlainValue) (v : PlainValue) →
    points_to t element ≡ true → v ≡ value cast_at (unqualified t) (cast (value call_at (unqualified t) (built_in name_at.span f (count_arguments count)))) →
    found_value v ≡ allocation cast_at t call_at name_at f element count
allocated_is cast_at call_at name_at t f element count v points e =
    ap found_value e
    ∙ ap (chosen (found_value (value cast_at (unqualified t) (cast (value call_at (unqualified t) (built_in name_at.span f (count_arguments count)))))) (refused subset.BadAllocation call_at)) (sym points)
