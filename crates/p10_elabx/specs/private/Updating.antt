-- What is found in `P op= e` where the read of the place is counted.
use Rattle.std.specs.Prelude.{List}
use Rattle.p10_base.specs.declared.at.At.{At}
use Rattle.p10_base.specs.declared.codes.SubsetCode.TheVariants as subset
use Rattle.p10_int.specs.declared.operators.BinOp.{BinOp}
use Rattle.p10_core.specs.declared.statements.UpdateKind.TheVariants as kind
use Rattle.p10_core.specs.Types.{PlainStructure}
use Rattle.p10_core.specs.Typed.{PlainValue, PlainPlace, PlainStatementForm}
use Rattle.p10_elabx.specs.declared.operand.PlaceKind.{PlaceKind}
use Rattle.p10_elabx.specs.First.{Keep, Judged, on_parts, also, unordered}
use Rattle.p10_elabx.specs.Operators.{updated}

-- both operands: the place with its read, and the value
abbrev pub read_updated : Keep → List PlainStructure → At → BinOp → Judged (PlaceKind × PlainPlace) → Judged PlainValue → Judged PlainStatementForm
read_updated h structures at op read k =
    also h (unordered read k) subset.UnspecifiedOrder at (on_parts h read k (λ (place_kind, p) v. updated structures at kind.Compound op p v))
