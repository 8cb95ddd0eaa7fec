-- In the same words the bodies of functions are the same in both programs.
use Rattle.std.specs.Prelude.{ℕ, Bool}
use Rattle.p10_base.specs.declared.at.At.{At}
use Rattle.p10_syn.specs.Trees.{Declaration, Statement, Statements}
use Rattle.p10_core.specs.Typed.{statements_of_list}
use Rattle.p10_elabx.specs.First.{Keep}
use Rattle.p10_elabd.specs.declared.site.Site.{Site}
use Rattle.p10_elabs.specs.declared.round.Round.{Round}
use Rattle.p10_elabs.specs.Locals.{Frame, Local}
use Rattle.p10_elabs.specs.LocalDeclarations.{declared_locally}
use Rattle.p10_elabs.specs.Statements.{done, no_items_yet, items_done}
use Rattle.p10_renaming.specs.Renaming.{Pairing, SameStatement, SameStatements}
use Rattle.p10_expression_renaming.specs.MappedStatements.{mapped_declaration, mapped_statement, mapped_statements}
use Rattle.p10_expression_renaming.specs.Knowing.{IsOneToOne}
use Rattle.p10_declaration_renaming.specs.Standings.{Both}
use Rattle.p10_statement_renaming.specs.Bodies.{SameFrame, SameParts, LocalLeads, Makes}

-- declarations in blocks, which stand at two places, become the same
abbrev pub BlocksRenamed : Type 0
BlocksRenamed =
    (R : Pairing) → IsOneToOne R → (last : ℕ) (h : Keep) (f g : Frame) → SameFrame R f g → (site : Site) (l k : Local) (d : Declaration (At × At))
    → LocalLeads R last
    (SameParts R (declared_locally h f site l (mapped_declaration (λ p. p.0) d)).items (declared_locally h g site k (mapped_declaration (λ p. p.1) d)).items) l k
    (declared_locally h f site l (mapped_declaration (λ p. p.0) d)).after (declared_locally h g site k (mapped_declaration (λ p. p.1) d)).after

-- so do statements
abbrev pub StatementsRenamed : Type 0
StatementsRenamed =
    (R : Pairing) → IsOneToOne R → (last : ℕ) (h : Keep) (f g : Frame) → SameFrame R f g → (r : Round) (l k : Local) (s : Statement (At × At))
    → Makes R last (SameStatement R) l k (done h f r l (mapped_statement (λ p. p.0) s)) (done h g r k (mapped_statement (λ p. p.1) s))

-- so do bodies
abbrev pub BodiesRenamed : Type 0
BodiesRenamed =
    (R : Pairing) → IsOneToOne R → (last : ℕ) (h : Keep) (f g : Frame) → SameFrame R f g → (in_main : Bool) (r : Round) (l k : Local) (all : Statements (At × At))
    → LocalLeads R last
    (Both (λ ss ts. SameStatements R (statements_of_list ss) (statements_of_list ts))
    (items_done h f in_main r (no_items_yet l) (mapped_statements (λ p. p.0) all)).made (items_done h g in_main r (no_items_yet k) (mapped_statements (λ p. p.1) all)).made) l k
    (items_done h f in_main r (no_items_yet l) (mapped_statements (λ p. p.0) all)).after (items_done h g in_main r (no_items_yet k) (mapped_statements (λ p. p.1) all)).after
