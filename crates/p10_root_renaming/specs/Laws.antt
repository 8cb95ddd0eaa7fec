-- In the same words declarations and functions outside of functions are the same in both programs.
use Rattle.std.specs.Prelude.{◌≡◌, ℕ, ◌++◌, List, map}
use Rattle.p10_base.specs.declared.at.At.{At}
use Rattle.p10_syn.specs.Trees.{Declaration, Definition, External}
use Rattle.p10_core.specs.Typed.{PlainFunction}
use Rattle.p10_elabx.specs.First.{Keep}
use Rattle.p10_heads.specs.Heads.{Heads}
use Rattle.p10_elab.specs.Knowledge.{Known}
use Rattle.p10_elab.specs.Outer.{declared_outside, defined_outside}
use Rattle.p10_elab.specs.RootEnds.{roots_passed}
use Rattle.p10_renaming.specs.Renaming.{Pairing}
use Rattle.p10_expression_renaming.specs.MappedStatements.{mapped_declaration, mapped_definition, mapped_external}
use Rattle.p10_expression_renaming.specs.Knowing.{IsOneToOne}
use Rattle.p10_root_renaming.specs.Roots.{SameHeads, SameFunctions, KnownLeads}

-- a declaration that stands at two places declares the same
abbrev pub DeclarationsRenamed : Type 0
DeclarationsRenamed =
    (R : Pairing) → IsOneToOne R → (last : ℕ) (h : Keep) (heads others : Heads) → SameHeads heads others → (k j : Known) (d : Declaration (At × At))
    → KnownLeads R last (Unit {0}) k j (declared_outside h heads k (mapped_declaration (λ p. p.0) d)) (declared_outside h others j (mapped_declaration (λ p. p.1) d))

-- the functions of the one that are new are those of the other
pub record AddsSameFunctions (R : Pairing) (before after others those : List PlainFunction) : Type 0 where
  pub these : List PlainFunction
  pub new : List PlainFunction
  pub left : after ≡ before ++ these
  pub right : those ≡ others ++ new
  pub same : SameFunctions R these new

-- so does a function with its body, and it becomes the same
abbrev pub DefinitionsRenamed : Type 0
DefinitionsRenamed =
    (R : Pairing) → IsOneToOne R → (last : ℕ) (h : Keep) (heads others : Heads) → SameHeads heads others → (k j : Known) (d : Definition (At × At))
    → KnownLeads R last
    (AddsSameFunctions R k.functions (defined_outside h heads k (mapped_definition (λ p. p.0) d)).functions j.functions (defined_outside h others j (mapped_definition (λ p. p.1) d)).functions)
    k j (defined_outside h heads k (mapped_definition (λ p. p.0) d)) (defined_outside h others j (mapped_definition (λ p. p.1) d))

-- so do roots, one after the other
abbrev pub RootsRenamed : Type 0
RootsRenamed =
    (R : Pairing) → IsOneToOne R → (last : ℕ) (h : Keep) (heads others : Heads) → SameHeads heads others → (k j : Known) (roots : List (List (External (At × At))))
    → KnownLeads R last
    (AddsSameFunctions R k.functions (roots_passed h heads k (map (map (mapped_external (λ p. p.0))) roots)).functions j.functions (roots_passed h others j (map (map (mapped_external (λ p. p.1))) roots)).functions)
    k j (roots_passed h heads k (map (map (mapped_external (λ p. p.0))) roots)) (roots_passed h others j (map (map (mapped_external (λ p. p.1))) roots))
