-- Structures stay well built over declarations and bodies.
use Rattle.std.proofs.Common.{Some}
use Rattle.std.proofs.lemmas.Bool.{leb-true}
use Rattle.p10_elabx.specs.First.{Keep}
use Rattle.p10_elabd.specs.Standing.{PlainStanding}
use Rattle.p10_elabd.specs.Declaring.{begun_with}
use Rattle.p10_declaration_steps.proofs.Each.{AreSteps}
use Rattle.p10_declaration_steps.proofs.Declaring.{over_specified, over_declarator}
use Rattle.p10_declaration_steps.proofs.Initializing.{over_initialized}
use Rattle.p10_statement_steps.specs.Steps.{LocalSteps, local_part}
use Rattle.p10_statement_steps.proofs.Declaring.{over_locally}
use Rattle.p10_statement_steps.proofs.Doing.{over_items}
use Rattle.p10_statement_steps.proofs.Each.{AreLocalSteps, each_local, each_in_body, local_in_body}
use Rattle.p10_wholeness.specs.Laws.{Builds, StructuresStayBuilt}
use Rattle.p10_wholeness.proofs.Growth.{built_itself, builds_on, one_more_stays_built, completed_stays_built}

building_parts : (h : Keep) → AreSteps h Builds
building_parts h = record {
  same = λ s. built_itself s.scope.structures;
  followed = λ s t u a b. builds_on a b;
  told = λ rs s. built_itself s.scope.structures;
  name_more = λ name what s m. built_itself s.scope.structures;
  tag_more = λ name what s m. built_itself s.scope.structures;
  structure_more = λ tag s. one_more_stays_built s.scope.structures tag;
  structure_tagged = λ name s. one_more_stays_built s.scope.structures (Some name);
  bodies_open = λ numbers s. built_itself s.scope.structures;
  members_taken = λ word tag s t members begun inside takes small.
      builds_on begun (builds_on inside (completed_stays_built t.scope.structures (begun_with h word tag s).number members takes (leb-true _ _ small)));
  block_closed = λ s t inside. inside;
}

pub building : (h : Keep) → AreLocalSteps h Builds
building h = record { parts = building_parts h; type_name_more = λ name t s. built_itself s.scope.structures }

-- so it holds of declarations in blocks, typedefs too, and of their parts
pub built : {h : Keep} {s t : PlainStanding} → LocalSteps h s t → Builds s t
built {h = h} x = each_local (building h) x

pub structures_stay_built : StructuresStayBuilt
structures_stay_built = record {
  specifiers = λ h site allowed alone s all. built (local_part (over_specified h site allowed alone s all));
  declarators = λ h name_at p d. built (local_part (over_declarator h name_at p d));
  initializers = λ h life t s i. built (local_part (over_initialized h life t s i));
  declarations = λ h f site l d. built (over_locally h f site l d);
  items = λ h f in_main r b all. each_in_body (local_in_body (building h)) (over_items h f in_main r b all);
}
