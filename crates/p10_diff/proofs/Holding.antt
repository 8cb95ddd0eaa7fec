-- Statements that hold others, asked whether they change a variable, or declare it with a value.
use Rattle.std.proofs.Common.{◌≡◌, ℕ, Bool, List, Option, ap, sym, refl, ◌∙◌}
use Rattle.std.specs.Prelude.{◌||◌}
use Rattle.p10_core.specs.declared.typed.Value.{Value}
use Rattle.p10_core.specs.declared.statements.LoopHead.{LoopHead}
use Rattle.p10_core.specs.declared.statements.Stmt.{Stmt}
use Rattle.p10_core.specs.declared.statements.StmtForm.{StmtForm}
use Rattle.p10_core.specs.declared.statements.StmtForm.TheVariants.{Block, Loop as LoopForm}
use Rattle.p10_core.specs.Views.{plain_statement_form, plain_statement, plain_statements}
use Rattle.p10_meaning.specs.Variables.{may_change, form_may_change, any_may_change}
use Rattle.p10_pass.proofs.ListedForms.{block_form, loop_form}
use Rattle.p10_diff.specs.Evidence.{gives_value, form_gives_value, any_gives_value}

pub block_changes : (n : ℕ) (form : StmtForm) (items : _) (all : List Stmt) (b : Bool) → form ≡ Block items → all ≡ items → b ≡ any_may_change n (plain_statements all) → b ≡ form_may_change n (plain_statement_form form)
block_changes n form items all b is same told = told ∙ ap (form_may_change n) (sym (block_form form items all is same))

pub loop_changes : (n : ℕ) (form : StmtForm) (head : LoopHead) (first : _) (tested : Option Value) (third : _) (body : _) (firsts thirds : List Stmt) (there : Stmt) (x y z b : Bool) →
    form ≡ LoopForm head first tested third body → firsts ≡ first → thirds ≡ third → there ≡ body.value →
    x ≡ any_may_change n (plain_statements firsts) → y ≡ any_may_change n (plain_statements thirds) → z ≡ may_change n (plain_statement there) → b ≡ ((x || y) || z) → b ≡ form_may_change n (plain_statement_form form)
loop_changes n form head first tested third body firsts thirds there x y z b is same again body_is p q r told =
    told ∙ ((λ i. (p i || q i) || r i) ∙ ap (form_may_change n) (sym (loop_form form head first tested third body firsts thirds there is same again body_is)))

pub block_gives : (n : ℕ) (form : StmtForm) (items : _) (all : List Stmt) (b : Bool) → form ≡ Block items → all ≡ items → b ≡ any_gives_value n (plain_statements all) → b ≡ form_gives_value n (plain_statement_form form)
block_gives n form items all b is same told = told ∙ ap (form_gives_value n) (sym (block_form form items all is same))

pub loop_gives : (n : ℕ) (form : StmtForm) (head : LoopHead) (first : _) (tested : Option Value) (third : _) (body : _) (firsts : List Stmt) (there : Stmt) (x z b : Bool) →
    form ≡ LoopForm head first tested third body → firsts ≡ first → there ≡ body.value → x ≡ any_gives_value n (plain_statements firsts) → z ≡ gives_value n (plain_statement there) → b ≡ (x || z) → b ≡ form_gives_value n (plain_statement_form form)
loop_gives n form head first tested third body firsts there x z b is same body_is p r told =
    told ∙ ((λ i. p i || r i) ∙ ap (form_gives_value n) (sym (loop_form form head first tested third body firsts _ there is same refl body_is)))
