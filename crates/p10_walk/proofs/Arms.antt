-- Statements that hold others, by the forms that the code finds.
use Rattle.std.proofs.Common.{◌≡◌, true, false, List, Option, Some, None, option_map, refl, ap, sym, ◌∙◌}
use Rattle.p10_base.specs.declared.at.At.{At}
use Rattle.p10_core.specs.declared.typed.Value.{Value}
use Rattle.p10_core.specs.declared.statements.LoopHead.{LoopHead}
use Rattle.p10_core.specs.declared.statements.LoopKeyword.{LoopKeyword}
use Rattle.p10_core.specs.declared.statements.LoopKeyword.TheVariants.{While, Do, For}
use Rattle.p10_core.specs.declared.statements.Stmt.{Stmt}
use Rattle.p10_core.specs.declared.statements.StmtForm.{StmtForm}
use Rattle.p10_core.specs.declared.statements.StmtForm.TheVariants.{Block, If, Loop as LoopForm}
use Rattle.p10_core.specs.Typed.{PlainValue, PlainStatements, PlainLabels, PlainStatement, statement}
use Rattle.p10_core.specs.Views.{plain_value, plain_statement_form, plain_statement, plain_statements}
use Rattle.p10_pass.proofs.ListedForms.{block_form, loop_form}
use Rattle.p10_pass.proofs.Arms.{before_body}
use Rattle.p10_walk.specs.Operations.{Operations}
use Rattle.p10_walk.specs.Walking.{Ends, nowhere, reached, hull_reached, where_going, beside, as_block, switch_left, walk, walk_form, walk_all, walk_switch, walk_from, Round, test_holds, round_of}
use Rattle.p10_walk.specs.Leaving.{round_at}
use Rattle.p10_walk.specs.private.Forms.{block_walked, if_walked, else_walked, closed_by}

pub block_row : {K : Type 0} (o : Operations K) (form : StmtForm) (items : _) (all : List Stmt) (e : K) (a : Ends K) → form ≡ Block items → all ≡ items → a ≡ block_walked o (plain_statements all) e → a ≡ walk_form o (plain_statement_form form) e
block_row o form items all e a is same q = q ∙ ap (λ f. walk_form o f e) (sym (block_form form items all is same))

pub body_row : {K : Type 0} (o : Operations K) (labels : PlainLabels) (at : At) (form : StmtForm) (items : _) (all all2 : List Stmt) (e : K) (first second third : Ends K) → form ≡ Block items → all ≡ items → all2 ≡ all →
    first ≡ walk_from o labels 0 (plain_statements all) e nowhere → second ≡ as_block o (plain_statements all2) first → third ≡ switch_left o labels e second →
    third ≡ walk_switch o labels (statement at (plain_statement_form form)) e
body_row o labels at form items all all2 e first second third is same again p q r =
    r ∙ (ap (switch_left o labels e) (q ∙ (λ i. as_block o (plain_statements (again i)) (p i))) ∙ ap (λ f. walk_switch o labels (statement at f) e) (sym (block_form form items all is same)))

-- an `if`, with a second branch or without
both_branches : {K : Type 0} (o : Operations K) (at : At) (v : Value) (first : _) (other : Option _) (e : K) →
    beside o (where_going (o.assume true (plain_value v) e) (walk o (plain_statement first.value))) (else_walked o (option_map (λ x. plain_statement x.value) other) (o.assume false (plain_value v) e)) ≡
    if_walked o (statement at (plain_statement_form (If v first other))) e
both_branches o at v first None e = refl
both_branches o at v first (Some other) e = refl

pub if_row : {K : Type 0} (o : Operations K) (at : At) (form : StmtForm) (v : Value) (first : _) (other : _) (x : Stmt) (e copied : K) (truth contrary : Option K) (a b c : Ends K) → form ≡ If v first other → x ≡ first.value → copied ≡ e →
    truth ≡ o.assume true (plain_value v) e → contrary ≡ o.assume false (plain_value v) copied → a ≡ where_going truth (walk o (plain_statement x)) →
    b ≡ else_walked o (option_map (λ x. plain_statement x.value) other) contrary → c ≡ beside o a b → c ≡ if_walked o (statement at (plain_statement_form form)) e
if_row o at form v first other x e copied truth contrary a b c is p same t f l r j =
    j ∙ ((λ i. beside o ((l ∙ (λ k. where_going (t k) (walk o (plain_statement (p k))))) i) ((r ∙ ap (else_walked o (option_map (λ x. plain_statement x.value) other)) (f ∙ ap (o.assume false (plain_value v)) same)) i)) ∙
    (both_branches o at v first other e ∙ ap (λ g. if_walked o (statement at (plain_statement_form g)) e) (sym is)))

begun : {K : Type 0} (o : Operations K) (k : LoopKeyword) (v : Option PlainValue) (third : PlainStatements) (body : PlainStatement) (h : K) → before_body k →
    closed_by (test_holds o v h) (walk_all o third (reached (hull_reached o (where_going (test_holds o v h) (λ e. walk o body e)).normal (where_going (test_holds o v h) (λ e. walk o body e)).continues))) ≡ round_of o k v third body h
begun o While v third body h b = refl
begun o For v third body h b = refl
begun o Do v third body h b = absurd b

pub while_rounded : {K : Type 0} (o : Operations K) (at : At) (form : StmtForm) (head : LoopHead) (first : _) (tested : Option Value) (third : _) (body : _) (thirds : List Stmt) (there : Stmt) (h : K) (enters entering next : Option K) (b c : Ends K) (r : Round K) →
    form ≡ LoopForm head first tested third body → thirds ≡ third → there ≡ body.value → before_body head.keyword → enters ≡ test_holds o (option_map plain_value tested) h → entering ≡ enters →
    b ≡ where_going entering (walk o (plain_statement there)) → next ≡ hull_reached o b.normal b.continues → c ≡ walk_all o (plain_statements thirds) (reached next) → r ≡ closed_by enters c →
    Some r ≡ round_at o (statement at (plain_statement_form form)) h
while_rounded {K} o at form head first tested third body thirds there h enters entering next b c r is y z keyword p q s t u v =
    ap Some (v ∙ (whole ∙ begun o head.keyword (option_map plain_value tested) (plain_statements thirds) (plain_statement there) h keyword)) ∙
    sym (ap (λ f. round_at o (statement at f) h) (loop_form form head first tested third body _ thirds there is refl y z))
  where
    test : Option K
    test = test_holds o (option_map plain_value tested) h

    walked : Ends K
    walked = where_going test (λ e. walk o (plain_statement there) e)

    body_is : b ≡ walked
    body_is = s ∙ ap (λ e. where_going e (walk o (plain_statement there))) (q ∙ p)

    on_is : next ≡ hull_reached o walked.normal walked.continues
    on_is = t ∙ (λ i. hull_reached o (body_is i).normal (body_is i).continues)

    whole : closed_by enters c ≡ closed_by test (walk_all o (plain_statements thirds) (reached (hull_reached o walked.normal walked.continues)))
    whole = λ i. closed_by (p i) ((u ∙ (λ j. walk_all o (plain_statements thirds) (reached (on_is j)))) i)
