-- Structures that are paired have as many scalars of their own.
use Rattle.std.proofs.Common.{◌≡◌, ◌∙◌, suc, List, length, refl, sym, ap}
use Rattle.p10_core.specs.Types.{PlainType, structure, PlainStructure}
use Rattle.p10_core.specs.Typed.{PlainProgram}
use Rattle.p10_linkage.proofs.Joining.{IsJoined}
use Rattle.p10_linkage.proofs.LyingAlike.{layout_alike}
use Rattle.p10_renaming.specs.Renaming.{Pairing, same_structure}
use Rattle.p10_renaming.specs.Laws.{HasWidths}
use Rattle.p10_expression_renaming.specs.Knowing.{SameTypes, same_no_types, same_more_types}
use Rattle.p10_declaration_renaming.specs.Standings.{SameTables}
use Rattle.p10_declaration_renaming.proofs.Lying.{lies_same}

lengths_same : (R : Pairing) {ts us : List PlainType} → SameTypes R ts us → length ts ≡ length us
lengths_same R same_no_types = refl
lengths_same R (same_more_types h rest) = ap suc (lengths_same R rest)

-- where they are the same before the roots of each program are taken together: there they keep their bodies
pub widths_same : (R : Pairing) (these others : List PlainStructure) → SameTables R these others → (p q : PlainProgram) → IsJoined these p.structures → IsJoined others q.structures → HasWidths R p q
widths_same R these others know p q first second c n m paired =
    (layout_alike p.structures these first.long first.bodies (structure c n)).scalars
    ∙ lengths_same R (lies_same R these others know (same_structure {c = c} {n = n} {m = m} paired)).scalars
    ∙ sym (layout_alike q.structures others second.long second.bodies (structure c m)).scalars
