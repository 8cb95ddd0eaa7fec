-- In the same words specifiers, declarators and initialisers declare the same in both programs.
use Rattle.std.specs.Prelude.{ℕ, Bool, Option}
use Rattle.p10_base.specs.declared.at.At.{At}
use Rattle.p10_syn.specs.Trees.{Specifiers, Declarator, Initializer}
use Rattle.p10_core.specs.Types.{PlainType}
use Rattle.p10_elabx.specs.First.{Keep}
use Rattle.p10_elabd.specs.Standing.{PlainStanding}
use Rattle.p10_elabd.specs.declared.site.Site.{Site}
use Rattle.p10_elabd.specs.declared.site.Allowed.{Allowed}
use Rattle.p10_elabd.specs.declared.lifetime.Lifetime.{Lifetime}
use Rattle.p10_elabd.specs.Declaring.{specified, declarator_passed, based}
use Rattle.p10_elabd.specs.Initializers.{initialized}
use Rattle.p10_renaming.specs.Renaming.{Pairing, SameType, SameInitializer}
use Rattle.p10_expression_renaming.specs.Mapped.{mapped_specifiers, mapped_declarator}
use Rattle.p10_expression_renaming.specs.MappedStatements.{mapped_initializer}
use Rattle.p10_expression_renaming.specs.Knowing.{IsOneToOne}
use Rattle.p10_declaration_renaming.specs.Standings.{Both, AreQuiet, Passes, SameDeclared}

-- specifiers that stand at two places name the same type, and declare the same tags and constants
abbrev pub SpecifiersRenamed : Type 0
SpecifiersRenamed =
    (R : Pairing) → IsOneToOne R → (last : ℕ) (h : Keep) (site : Site) (allowed other : Allowed) (alone : Bool) (s t : PlainStanding) (all : Specifiers (At × At))
    → Passes R last (SameType R) s t (specified h site allowed alone s (mapped_specifiers (λ p. p.0) all)) (specified h site other alone t (mapped_specifiers (λ p. p.1) all))

-- declarators make the same of types that are the same
abbrev pub DeclaratorsRenamed : Type 0
DeclaratorsRenamed =
    (R : Pairing) → IsOneToOne R → (last : ℕ) (h : Keep) (s t : PlainStanding) (at to : At) (m n : Option PlainType) → (AreQuiet last s t → Both (SameType R) m n) → (d : Declarator (At × At))
    → Passes R last (SameDeclared R) s t (declarator_passed h at (based m s) (mapped_declarator (λ p. p.0) d)) (declarator_passed h to (based n t) (mapped_declarator (λ p. p.1) d))

-- initialisers of objects of the same type are the same
abbrev pub InitializersRenamed : Type 0
InitializersRenamed =
    (R : Pairing) → IsOneToOne R → (last : ℕ) (h : Keep) (life : Lifetime) (s t : PlainStanding) (u v : PlainType) → SameType R u v → (i : Initializer (At × At))
    → Passes R last (SameInitializer R) s t (initialized h life u s (mapped_initializer (λ p. p.0) i)) (initialized h life v t (mapped_initializer (λ p. p.1) i))
