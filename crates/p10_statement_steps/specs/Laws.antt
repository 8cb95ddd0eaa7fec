-- Declarations in blocks and items of bodies change what stands by steps alone.
use Rattle.std.specs.Prelude.{Bool}
use Rattle.p10_base.specs.declared.at.At.{At}
use Rattle.p10_syn.specs.Trees.{Declaration, Statements}
use Rattle.p10_elabx.specs.First.{Keep}
use Rattle.p10_elabd.specs.declared.site.Site.{Site}
use Rattle.p10_elabs.specs.declared.round.Round.{Round}
use Rattle.p10_elabs.specs.Locals.{Frame, Local}
use Rattle.p10_elabs.specs.LocalDeclarations.{declared_locally}
use Rattle.p10_elabs.specs.Statements.{Block', items_done}
use Rattle.p10_statement_steps.specs.Steps.{LocalSteps, BodySteps}

-- they take such steps, whichever rows hold in them
pub record StatementsTakeSteps : Type 0 where
  pub declarations : (h : Keep) (f : Frame) (site : Site) (l : Local) (d : Declaration At) → LocalSteps h l.standing (declared_locally h f site l d).after.standing
  pub items : (h : Keep) (f : Frame) (in_main : Bool) (r : Round) (b : Block') (all : Statements At) → BodySteps h b.after.standing (items_done h f in_main r b all).after.standing
