-- Problems that are noted in blocks stay noted, and structures only become more.
use Rattle.p10_elabx.specs.First.{Keep}
use Rattle.p10_elabd.specs.Standing.{PlainStanding}
use Rattle.p10_statement_steps.specs.Steps.{LocalSteps}
use Rattle.p10_statement_steps.proofs.Each.{AreLocalSteps, each_local}
use Rattle.p10_declaration_renaming.proofs.Growing.{Grows, as_before, growing}

growing_in_block : (h : Keep) → AreLocalSteps h Grows
growing_in_block h = record { parts = growing h; type_name_more = λ name t s. as_before s }

pub grown_in_block : {h : Keep} {s t : PlainStanding} → LocalSteps h s t → Grows s t
grown_in_block {h = h} x = each_local (growing_in_block h) x
