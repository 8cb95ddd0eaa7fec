-- A declaration changes what stands by steps alone.
use Rattle.std.specs.Prelude.{Bool}
use Rattle.p10_base.specs.declared.at.At.{At}
use Rattle.p10_syn.specs.Trees.{Specifiers, Declarator, Initializer}
use Rattle.p10_core.specs.Types.{PlainType}
use Rattle.p10_elabx.specs.First.{Keep}
use Rattle.p10_elabd.specs.declared.site.Site.{Site}
use Rattle.p10_elabd.specs.declared.site.Allowed.{Allowed}
use Rattle.p10_elabd.specs.declared.lifetime.Lifetime.{Lifetime}
use Rattle.p10_elabd.specs.Standing.{PlainStanding, Passed}
use Rattle.p10_elabd.specs.Shapes.{DeclaredType}
use Rattle.p10_elabd.specs.Declaring.{specified, declarator_passed}
use Rattle.p10_elabd.specs.Initializers.{initialized}
use Rattle.p10_declaration_steps.specs.Steps.{Steps}

-- specifiers, declarators and initialisers take such steps, whichever rows hold in them
pub record DeclarationsTakeSteps : Type 0 where
  pub specifiers : (h : Keep) (site : Site) (allowed : Allowed) (alone : Bool) (s : PlainStanding) (all : Specifiers At) → Steps h s (specified h site allowed alone s all).after
  pub declarators : (h : Keep) (name_at : At) (p : Passed DeclaredType) (d : Declarator At) → Steps h p.after (declarator_passed h name_at p d).after
  pub initializers : (h : Keep) (life : Lifetime) (t : PlainType) (s : PlainStanding) (i : Initializer At) → Steps h s (initialized h life t s i).after
