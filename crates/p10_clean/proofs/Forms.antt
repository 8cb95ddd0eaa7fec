-- Flaws that are put along the forms of statements that hold others.
use Rattle.std.proofs.Common.{◌≡◌, Bool, true, List, ◌++◌, Option, Some, None, option_map, refl, ap, sym, ◌∙◌, subst, append_assoc}
use Rattle.std.specs.Prelude.{◌⊎◌}
use Rattle.std.proofs.lemmas.List.{append-nil}
use Rattle.std.proofs.Common.{inl, inr}
use Rattle.p10_base.specs.declared.at.At.{At}
use Rattle.p10_core.specs.declared.typed.Value.{Value}
use Rattle.p10_core.specs.declared.statements.LoopHead.{LoopHead}
use Rattle.p10_core.specs.declared.statements.LoopKeyword.{LoopKeyword}
use Rattle.p10_core.specs.declared.statements.LoopKeyword.TheVariants.{While, For}
use Rattle.p10_core.specs.declared.statements.Stmt.{Stmt}
use Rattle.p10_core.specs.declared.statements.StmtForm.{StmtForm}
use Rattle.p10_core.specs.declared.statements.StmtForm.TheVariants.{Block, If, Loop as LoopForm}
use Rattle.p10_core.specs.declared.statements.StmtForm.TheViews.{the_lemmas}
use Rattle.std.specs.declared.alloc.Global.{Global}
use Rattle.std.proofs.Common.{Box, rules}
use Rattle.p10_absx.specs.Assessing.{assess, known_where}
use Rattle.p10_core.specs.Typed.{if_then, if_else, PlainValue, PlainStatements, PlainLabels, PlainStatement, statement, PlainStatementForm, loop}
use Rattle.p10_core.specs.Views.{plain_value, plain_statement_form, plain_statement, plain_statements}
use Rattle.p10_absx.specs.Environments.{Environment}
use Rattle.p10_pass.specs.Arguments.{where_reached}
use Rattle.p10_pass.specs.Passing.{Manner, where_going, tested_in, pass_statement, pass_statements}
use Rattle.p10_pass.proofs.ListedForms.{block_form, loop_form}
use Rattle.p10_clean.specs.declared.flaw.Flaw.{Flaw}
use Rattle.p10_clean.specs.Settings.{Settings, ways_of, ways_of_all}
use Rattle.p10_clean.specs.Values.{flaws_in_value, flaws_in_maybe}
use Rattle.p10_clean.specs.Statements.{next_turn, next_settings, round_flaws, flaws_in_statement, flaws_in_statement_form, flaws_in_statements, flaws_in_switch, flaws_from}
use Rattle.p10_clean.specs.private.Walking.{branch_flaws, otherwise_flaws, loop_flaws, headed_flaws, entered_flaws}

-- ## Blocks

pub block_put : (m : Manner) (at : At) (form : StmtForm) (items : _) (all : List Stmt) (s : Settings) (env : Environment) (first last : List Flaw) → form ≡ Block items → all ≡ items →
    last ≡ first ++ flaws_in_statements m (plain_statements all) s env → last ≡ first ++ flaws_in_statement_form m at (plain_statement_form form) s env
block_put m at form items all s env first last is same p = p ∙ ap (λ f. first ++ flaws_in_statement_form m at f s env) (sym (block_form form items all is same))

pub switched_put : (m : Manner) (labels : PlainLabels) (at : At) (form : StmtForm) (items : _) (all : List Stmt) (s : Settings) (env : Environment) (first last : List Flaw) → form ≡ Block items → all ≡ items →
    last ≡ first ++ flaws_from m labels 0 (plain_statements all) s env None None → last ≡ first ++ flaws_in_switch m labels (statement at (plain_statement_form form)) s env
switched_put m labels at form items all s env first last is same p = p ∙ ap (λ f. first ++ flaws_in_switch m labels (statement at f) s env) (sym (block_form form items all is same))

-- ## Loops

-- what holds of a form holds of one that is the same
along : (form f : PlainStatementForm) (P : PlainStatementForm → Type 0) → form ≡ f → P f → P form
along form f P e p = subst P (sym e) p

-- a loop's first clause, and what comes after it
pub loop_put : (m : Manner) (at : At) (form : StmtForm) (head : LoopHead) (first : _) (tested : Option Value) (third : _) (body : _) (firsts : List Stmt) (s s0 s2 : Settings) (env : Environment) (k0 k2 : Option Environment) (put put2 last : List Flaw) →
    form ≡ LoopForm head first tested third body → firsts ≡ first → k0 ≡ Some env → s0 ≡ s →
    k2 ≡ (where_going k0 (pass_statements m (plain_statements firsts))).normal → s2 ≡ (ways_of_all (plain_statements firsts) s0).normal →
    put2 ≡ put ++ where_reached k0 (λ env. flaws_in_statements m (plain_statements firsts) s0 env) →
    last ≡ put2 ++ where_reached k2 (λ env. entered_flaws m (statement at (plain_statement_form form)) s2 env) → last ≡ put ++ loop_flaws m (statement at (plain_statement_form form)) s env
loop_put m at form head first tested third body firsts s s0 s2 env k0 k2 put put2 last is x known set known2 set2 p q =
    let all : PlainStatements = plain_statements firsts in
    let kn : k2 ≡ (pass_statements m all env).normal = known2 ∙ ap (λ k. (where_going k (pass_statements m all)).normal) known in
    let sn : s2 ≡ (ways_of_all all s).normal = set2 ∙ ap (λ s. (ways_of_all all s).normal) set in
    let pn : put2 ≡ put ++ flaws_in_statements m all s env = p ∙ (λ i. put ++ where_reached (known i) (λ env. flaws_in_statements m all (set i) env)) in
    along (plain_statement_form form) _ (λ f. last ≡ put2 ++ where_reached k2 (λ env. entered_flaws m (statement at f) s2 env) → last ≡ put ++ loop_flaws m (statement at f) s env)
    (loop_form form head first tested third body firsts _ _ is x refl refl)
    (λ q. q ∙ ((λ i. pn i ++ where_reached (kn i) (λ env. entered_flaws m (statement at (loop head all (option_map plain_value tested) (plain_statements third) (plain_statement body.value))) (sn i) env)) ∙
    append_assoc put (flaws_in_statements m all s env) (where_reached (pass_statements m all env).normal (λ env. entered_flaws m (statement at (loop head all (option_map plain_value tested) (plain_statements third) (plain_statement body.value))) (ways_of_all all s).normal env)))) q

-- ## Rounds

-- the flaws of a round at a keyword
abbrev round_at : Manner → LoopKeyword → Option PlainValue → PlainStatements → PlainStatement → Settings → Environment → List Flaw
round_at m keyword tested third body s top =
    round_flaws m keyword tested (λ env settings. flaws_in_statements m third settings env) (λ env settings. flaws_in_statement m body settings env) (λ env. pass_statement m body env) s (ways_of body s) top

-- a loop whose test stands before its body, of either keyword
before_put : (m : Manner) (keyword : LoopKeyword) (tested : Option PlainValue) (third : PlainStatements) (x : PlainStatement) (s : Settings) (top : Environment) → (keyword ≡ While) ⊎ (keyword ≡ For) →
    flaws_in_maybe m s tested top ++ (where_reached (next_turn (where_going (tested_in m tested top).truth (pass_statement m x))) (λ env. flaws_in_statements m third (next_settings (ways_of x s)) env)
    ++ where_reached (tested_in m tested top).truth (λ env. flaws_in_statement m x s env)) ≡ round_at m keyword tested third x s top
before_put m keyword tested third x s top (inl e) = ap (λ k. round_at m k tested third x s top) (sym e)
before_put m keyword tested third x s top (inr e) = ap (λ k. round_at m k tested third x s top) (sym e)

pub while_put : (m : Manner) (at : At) (form : StmtForm) (head : LoopHead) (first : _) (tested : Option Value) (third : _) (body : _) (thirds : List Stmt) (there there2 : Stmt) (s s0 s2 : Settings) (top : Environment) (k0 truth again k2 : Option Environment)
    (put put1 put2 last : List Flaw) →
    form ≡ LoopForm head first tested third body → thirds ≡ third → there ≡ body.value → there2 ≡ there → (head.keyword ≡ While) ⊎ (head.keyword ≡ For) → k0 ≡ Some top → s0 ≡ s →
    put1 ≡ put ++ where_reached k0 (λ env. flaws_in_maybe m s0 (option_map plain_value tested) env) →
    truth ≡ (tested_in m (option_map plain_value tested) top).truth → k2 ≡ next_turn (where_going truth (pass_statement m (plain_statement there))) → s2 ≡ next_settings (ways_of (plain_statement there) s) →
    put2 ≡ put1 ++ where_reached k2 (λ env. flaws_in_statements m (plain_statements thirds) s2 env) →
    again ≡ (tested_in m (option_map plain_value tested) top).truth → last ≡ put2 ++ where_reached again (λ env. flaws_in_statement m (plain_statement there2) s env) →
    last ≡ put ++ headed_flaws m (statement at (plain_statement_form form)) s top
while_put m at form head first tested third body thirds there there2 s s0 s2 top k0 truth again k2 put put1 put2 last is z y same keyword known set p t known2 set2 q a r =
    let x : PlainStatement = plain_statement there in
    let test : Option PlainValue = option_map plain_value tested in
    let all : PlainStatements = plain_statements thirds in
    let go : Option Environment = (tested_in m test top).truth in
    let next : Option Environment = next_turn (where_going go (pass_statement m x)) in
    let after : Settings = next_settings (ways_of x s) in
    let p1 : put1 ≡ put ++ flaws_in_maybe m s test top = p ∙ (λ i. put ++ where_reached (known i) (λ env. flaws_in_maybe m (set i) test env)) in
    let kn : k2 ≡ next = known2 ∙ ap (λ k. next_turn (where_going k (pass_statement m x))) t in
    let p2 : put2 ≡ (put ++ flaws_in_maybe m s test top) ++ where_reached next (λ env. flaws_in_statements m all after env) =
    q ∙ (λ i. p1 i ++ where_reached (kn i) (λ env. flaws_in_statements m all (set2 i) env)) in
    r ∙ ((λ i. p2 i ++ where_reached (a i) (λ env. flaws_in_statement m (plain_statement (same i)) s env)) ∙
    (append_assoc (put ++ flaws_in_maybe m s test top) (where_reached next (λ env. flaws_in_statements m all after env)) (where_reached go (λ env. flaws_in_statement m x s env)) ∙
    (append_assoc put (flaws_in_maybe m s test top) (where_reached next (λ env. flaws_in_statements m all after env) ++ where_reached go (λ env. flaws_in_statement m x s env)) ∙
    (ap (λ fs. put ++ fs) (before_put m head.keyword test all x s top keyword) ∙
    ap (λ f. put ++ headed_flaws m (statement at f) s top) (sym (loop_form form head first tested third body _ thirds there is refl z y))))))

-- ## Branches

if_then_is : (v : Value) (branch : Box Stmt Global) → plain_statement_form (If v branch None) ≡ if_then (plain_value v) (plain_statement branch.value)
if_then_is v branch = search (rules, the_lemmas)

if_else_is : (v : Value) (branch other : Box Stmt Global) → plain_statement_form (If v branch (Some other)) ≡ if_else (plain_value v) (plain_statement branch.value) (plain_statement other.value)
if_else_is v branch other = search (rules, the_lemmas)

-- what a test leaves of an environment
abbrev pub test_known : Manner → Bool → Value → Environment → Option Environment
test_known m truth v env = known_where truth env (assess m.calls (plain_value v) env)

branch_row : (m : Manner) (at : At) (v : Value) (branch : Box Stmt Global) (o : Option (Box Stmt Global)) (s : Settings) (env : Environment) →
    flaws_in_value m s (plain_value v) env ++ (where_reached (test_known m true v env) (λ env. flaws_in_statement m (plain_statement branch.value) s env) ++ otherwise_flaws m (plain_value v) (option_map (λ (b : Box Stmt Global). plain_statement b.value) o) s env)
    ≡ branch_flaws m (statement at (plain_statement_form (If v branch o))) s env
branch_row m at v branch None s env =
    ap (λ fs. flaws_in_value m s (plain_value v) env ++ fs) (append-nil (where_reached (test_known m true v env) (λ env. flaws_in_statement m (plain_statement branch.value) s env))) ∙
    ap (λ f. branch_flaws m (statement at f) s env) (sym (if_then_is v branch))
branch_row m at v branch (Some other) s env = ap (λ f. branch_flaws m (statement at f) s env) (sym (if_else_is v branch other))

pub if_put : (m : Manner) (at : At) (form : StmtForm) (v : Value) (branch : Box Stmt Global) (o : Option (Box Stmt Global)) (there : Stmt) (s : Settings) (env mid : Environment) (k : Option Environment) (put put2 put3 last : List Flaw) →
    form ≡ If v branch o → there ≡ branch.value → mid ≡ env → k ≡ test_known m true v mid → put2 ≡ put ++ flaws_in_value m s (plain_value v) env →
    put3 ≡ put2 ++ where_reached k (λ env. flaws_in_statement m (plain_statement there) s env) → last ≡ put3 ++ otherwise_flaws m (plain_value v) (option_map (λ (b : Box Stmt Global). plain_statement b.value) o) s mid →
    last ≡ put ++ branch_flaws m (statement at (plain_statement_form form)) s env
if_put m at form v branch o there s env mid k put put2 put3 last is same kept known p q r =
    let tested : List Flaw = flaws_in_value m s (plain_value v) env in
    let here : List Flaw = where_reached (test_known m true v env) (λ env. flaws_in_statement m (plain_statement branch.value) s env) in
    let other : Option PlainStatement = option_map (λ (b : Box Stmt Global). plain_statement b.value) o in
    let kn : k ≡ test_known m true v env = known ∙ ap (test_known m true v) kept in
    let p3 : put3 ≡ (put ++ tested) ++ here = q ∙ (λ i. p i ++ where_reached (kn i) (λ env. flaws_in_statement m (plain_statement (same i)) s env)) in
    r ∙ ((λ i. p3 i ++ otherwise_flaws m (plain_value v) other s (kept i)) ∙
    (append_assoc (put ++ tested) here (otherwise_flaws m (plain_value v) other s env) ∙ (append_assoc put tested (here ++ otherwise_flaws m (plain_value v) other s env) ∙
    (ap (λ fs. put ++ fs) (branch_row m at v branch o s env) ∙ ap (λ f. put ++ branch_flaws m (statement at (plain_statement_form f)) s env) (sym is)))))
