-- Structures stay well built over declarations and functions outside of functions.
use Rattle.p10_elabx.specs.First.{Keep}
use Rattle.p10_elabd.specs.Standing.{PlainStanding}
use Rattle.p10_root_steps.specs.Steps.{RootSteps}
use Rattle.p10_root_steps.proofs.Each.{AreRootSteps, each_root}
use Rattle.p10_wholeness.specs.Laws.{Builds}
use Rattle.p10_wholeness.proofs.Growth.{built_itself}
use Rattle.p10_wholeness.proofs.Building.{building}

building_outside : (h : Keep) → AreRootSteps h Builds
building_outside h = record { parts = (building h).parts; names_changed = λ names tags floors evaluated s. built_itself s.scope.structures }

pub built_outside : {h : Keep} {s t : PlainStanding} → RootSteps h s t → Builds s t
built_outside {h = h} x = each_root (building_outside h) x
