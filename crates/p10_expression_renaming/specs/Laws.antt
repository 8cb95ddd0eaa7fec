-- In the same words expressions, assignments and steps are the same in both programs.
use Rattle.p10_base.specs.declared.at.At.{At}
use Rattle.p10_syn.specs.declared.sign.Sign.{Sign}
use Rattle.p10_syn.specs.Trees.{Expression}
use Rattle.p10_elabx.specs.First.{Keep}
use Rattle.p10_elabx.specs.Scopes.{PlainScope}
use Rattle.p10_elabx.specs.Judging.{judge, by_sign, assignment_of, target_in, value_in, step_judged, step_of}
use Rattle.p10_renaming.specs.Renaming.{Pairing, SameStatementForm}
use Rattle.p10_expression_renaming.specs.Mapped.{mapped_expression}
use Rattle.p10_expression_renaming.specs.Knowing.{Together, SameOperand, SameScope, IsOneToOne}

-- a tree that stands at two places, in scopes with the same names: where both are operands they are the same
abbrev pub ExpressionsRenamed : Type 0
ExpressionsRenamed =
    (R : Pairing) → IsOneToOne R → (h : Keep) (s t : PlainScope) → SameScope R s t → (e : Expression (At × At))
    → Together (SameOperand R) (judge h s (mapped_expression (λ p. p.0) e)).found (judge h t (mapped_expression (λ p. p.1) e)).found

-- so it is with what an assignment is, as a statement
abbrev pub AssignmentsRenamed : Type 0
AssignmentsRenamed =
    (R : Pairing) → IsOneToOne R → (h : Keep) (s t : PlainScope) → SameScope R s t → (at to : At) (word : Sign) (a b : Expression (At × At))
    → Together (SameStatementForm R)
    (by_sign h s.structures at (assignment_of word) (target_in h s (mapped_expression (λ p. p.0) a) (judge h s (mapped_expression (λ p. p.0) a))) (value_in s (judge h s (mapped_expression (λ p. p.0) b)))).found
    (by_sign h t.structures to (assignment_of word) (target_in h t (mapped_expression (λ p. p.1) a) (judge h t (mapped_expression (λ p. p.1) a))) (value_in t (judge h t (mapped_expression (λ p. p.1) b)))).found

-- and with `++` and `--`
abbrev pub StepsRenamed : Type 0
StepsRenamed =
    (R : Pairing) → IsOneToOne R → (h : Keep) (s t : PlainScope) → SameScope R s t → (at to : At) (word : Sign) (a : Expression (At × At))
    → Together (SameStatementForm R)
    (step_judged s.structures at (step_of word) (target_in h s (mapped_expression (λ p. p.0) a) (judge h s (mapped_expression (λ p. p.0) a)))).found
    (step_judged t.structures to (step_of word) (target_in h t (mapped_expression (λ p. p.1) a) (judge h t (mapped_expression (λ p. p.1) a)))).found
