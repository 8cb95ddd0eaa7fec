-- What holds of types and structures, whatever is declared.
use Rattle.std.specs.Prelude.{◌≡◌, Bool, true, List}
use Rattle.p10_base.specs.declared.at.At.{At}
use Rattle.p10_syn.specs.Trees.{Specifiers, Declarator, Initializer, Declaration, Statements}
use Rattle.p10_core.specs.Types.{PlainType, PlainStructure}
use Rattle.p10_core.specs.Sizes.{layout_of}
use Rattle.p10_core.specs.Rows.{is_complete}
use Rattle.p10_core.specs.WholePrograms.{AreWholeStructures, IsWholeType}
use Rattle.p10_elabx.specs.First.{Keep}
use Rattle.p10_elabd.specs.Standing.{PlainStanding, Passed}
use Rattle.p10_elabd.specs.declared.site.Site.{Site}
use Rattle.p10_elabd.specs.declared.site.Allowed.{Allowed}
use Rattle.p10_elabd.specs.declared.lifetime.Lifetime.{Lifetime}
use Rattle.p10_elabd.specs.Shapes.{DeclaredType}
use Rattle.p10_elabd.specs.Declaring.{specified, declarator_passed}
use Rattle.p10_elabd.specs.Initializers.{initialized}
use Rattle.p10_elabs.specs.declared.round.Round.{Round}
use Rattle.p10_elabs.specs.Locals.{Frame, Local}
use Rattle.p10_elabs.specs.LocalDeclarations.{declared_locally}
use Rattle.p10_elabs.specs.Statements.{Block', items_done}
use Rattle.p10_wholeness.specs.Growth.{AreMore, StayBuilt}
use Rattle.p10_wholeness.specs.Names.{IfMade, IsWholeScope, IsWholeDeclared, KeepScope}

-- where structures become more, a type of C stays one, and one that has a size lies as before
pub record StaysWhole (before after : List PlainStructure) (t : PlainType) : Type 0 where
  pub whole : IsWholeType before t → IsWholeType after t
  pub complete : is_complete before t ≡ true → is_complete after t ≡ true
  pub layout : is_complete before t ≡ true → layout_of after t ≡ layout_of before t

abbrev pub TypesStayWhole : Type 0
TypesStayWhole = (before after : List PlainStructure) (t : PlainType) → AreWholeStructures before → AreMore before after → StaysWhole before after t

-- the structures stay well built from one place to another
abbrev pub Builds : PlainStanding → PlainStanding → Type 0
Builds s t = StayBuilt s.scope.structures t.scope.structures

-- they do over specifiers, declarators, initialisers, declarations in blocks and items of bodies, whichever rows hold in them
pub record StructuresStayBuilt : Type 0 where
  pub specifiers : (h : Keep) (site : Site) (allowed : Allowed) (alone : Bool) (s : PlainStanding) (all : Specifiers At) → Builds s (specified h site allowed alone s all).after
  pub declarators : (h : Keep) (name_at : At) (p : Passed DeclaredType) (d : Declarator At) → Builds p.after (declarator_passed h name_at p d).after
  pub initializers : (h : Keep) (life : Lifetime) (t : PlainType) (s : PlainStanding) (i : Initializer At) → Builds s (initialized h life t s i).after
  pub declarations : (h : Keep) (f : Frame) (site : Site) (l : Local) (d : Declaration At) → Builds l.standing (declared_locally h f site l d).after.standing
  pub items : (h : Keep) (f : Frame) (in_main : Bool) (r : Round) (b : Block') (all : Statements At) → Builds b.after.standing (items_done h f in_main r b all).after.standing

-- a scope stays whole from one place to another
abbrev pub Keeps : PlainStanding → PlainStanding → Type 0
Keeps s t = KeepScope s.scope t.scope

-- it does over specifiers, declarators and initialisers, which declare tags, constants of enumerations and parameters, over declarations in
-- blocks and over items of bodies
pub record ScopesStayWhole : Type 0 where
  pub specifiers : (h : Keep) (site : Site) (allowed : Allowed) (alone : Bool) (s : PlainStanding) (all : Specifiers At) → Keeps s (specified h site allowed alone s all).after
  pub declarators : (h : Keep) (name_at : At) (p : Passed DeclaredType) (d : Declarator At) → Keeps p.after (declarator_passed h name_at p d).after
  pub initializers : (h : Keep) (life : Lifetime) (t : PlainType) (s : PlainStanding) (i : Initializer At) → Keeps s (initialized h life t s i).after
  pub declarations : (h : Keep) (f : Frame) (site : Site) (l : Local) (d : Declaration At) → Keeps l.standing (declared_locally h f site l d).after.standing
  pub items : (h : Keep) (f : Frame) (in_main : Bool) (r : Round) (b : Block') (all : Statements At) → Keeps b.after.standing (items_done h f in_main r b all).after.standing

-- a type that is made is whole, and so is what is declared
abbrev pub MadeType : Passed PlainType → Type 0
MadeType p = IfMade (IsWholeType p.after.scope.structures) p.made

abbrev pub MadeDeclared : Passed DeclaredType → Type 0
MadeDeclared p = IfMade (IsWholeDeclared p.after.scope.structures) p.made

-- where a scope is whole, types that specifiers name are, and what declarators make of them
pub record MadeTypesAreWhole : Type 0 where
  pub specifiers : (h : Keep) (site : Site) (allowed : Allowed) (alone : Bool) (s : PlainStanding) (all : Specifiers At) → IsWholeScope s.scope → MadeType (specified h site allowed alone s all)
  pub declarators : (h : Keep) (name_at : At) (p : Passed DeclaredType) (d : Declarator At) → IsWholeScope p.after.scope → MadeDeclared p → MadeDeclared (declarator_passed h name_at p d)
