-- What is found in expressions of statements is the same in both bodies.
use Rattle.std.proofs.Common.{ℕ}
use Rattle.p10_base.specs.declared.at.At.{At}
use Rattle.p10_syn.specs.Trees.{Expression}
use Rattle.p10_core.specs.Typed.{PlainValue}
use Rattle.p10_elabx.specs.First.{Keep, Found, Ruled}
use Rattle.p10_elabd.specs.Standing.{PlainStanding, noted}
use Rattle.p10_elabd.specs.Expressions.{for_expression, value_by}
use Rattle.p10_renaming.specs.Renaming.{Pairing, SameValue}
use Rattle.p10_expression_renaming.specs.Mapped.{mapped_expression}
use Rattle.p10_expression_renaming.specs.Knowing.{Together, Ruling, IsOneToOne}
use Rattle.p10_expression_renaming.proofs.TypeNames.{left, right}
use Rattle.p10_declaration_renaming.specs.Standings.{SameStanding, Passes}
use Rattle.p10_declaration_steps.proofs.Steps.{over_noted}
use Rattle.p10_declaration_renaming.proofs.Alike.{alike_ends, leads_by, ends_noted}
use Rattle.p10_declaration_renaming.proofs.Expressions.{alike_expression, alike_value}
use Rattle.p10_declaration_renaming.proofs.Growing.{grown}

-- what is found after the tags of an expression
pub noted_passes : {A : Type 0} (R : Pairing) → IsOneToOne R → (last : ℕ) (h : Keep) (P : A → A → Type 0) (s t : PlainStanding) (e : Expression (At × At)) (f g : Found A)
    → (SameStanding R last (for_expression s (mapped_expression left e)) (for_expression t (mapped_expression right e)) → Together P f g)
    → Passes R last P s t (noted h f (for_expression s (mapped_expression left e))) (noted h g (for_expression t (mapped_expression right e)))
noted_passes R one last h P s t e f g go =
    let u : PlainStanding = for_expression s (mapped_expression left e) in
    let v : PlainStanding = for_expression t (mapped_expression right e) in
    leads_by R last s t (noted h f u).after (noted h g v).after
    (λ a. alike_ends R last P u v (noted h f u) (noted h g v) (grown (over_noted h f u)) (grown (over_noted h g v)) (λ b know. ends_noted R last P h f g u v (go know) know) (alike_expression R one last e s t a))

-- a value, of which a row asks more
pub value_by_both : {A : Type 0} (R : Pairing) → IsOneToOne R → (last : ℕ) (h : Keep) (P : A → A → Type 0) (s t : PlainStanding) (e : Expression (At × At)) (go went : PlainValue → Ruled A)
    → ((v w : PlainValue) → SameValue R v w → Ruling P (go v) (went w)) → Passes R last P s t (value_by h s (mapped_expression left e) go) (value_by h t (mapped_expression right e) went)
value_by_both R one last h P s t e go went each =
    leads_by R last s t (value_by h s (mapped_expression left e) go).after (value_by h t (mapped_expression right e) went).after (λ a. alike_value R one last h P e go went s t (λ b. each) a)
