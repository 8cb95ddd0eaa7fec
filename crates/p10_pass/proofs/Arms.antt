-- Statements that hold others, by the forms that the code finds.
use Rattle.std.proofs.Common.{◌≡◌, ℕ, ◌+◌, ◌<◌, Bool, List, drop, length, get_or, Option, Some, None, option_map, refl, ap, sym, ◌∙◌, subst, add-one}
use Rattle.std.specs.Prelude.{◌⊎◌, slice_get, if◌then◌else◌}
use Rattle.std.proofs.Common.{inl, inr}
use Rattle.p10_base.specs.declared.at.At.{At}
use Rattle.p10_core.specs.declared.typed.Value.{Value}
use Rattle.p10_core.specs.declared.statements.LoopHead.{LoopHead}
use Rattle.p10_core.specs.declared.statements.LoopKeyword.{LoopKeyword}
use Rattle.p10_core.specs.declared.statements.LoopKeyword.TheVariants.{While, Do, For}
use Rattle.p10_core.specs.declared.statements.Stmt.{Stmt}
use Rattle.p10_core.specs.declared.statements.StmtForm.{StmtForm}
use Rattle.p10_core.specs.declared.statements.StmtForm.TheVariants.{Block, Loop as LoopForm}
use Rattle.p10_core.specs.Typed.{PlainValue, PlainStatements, PlainLabels, PlainStatement, statement, PlainStatementForm, set, update, copy, evaluate, asserts, declare, declare_static, block, if_then, if_else, loop, switch, break, continue, return, empty, mark}
use Rattle.p10_core.specs.Views.{plain_value, plain_statement_form, plain_statement, plain_statements}
use Rattle.p10_cert.specs.Claims.{Loop}
use Rattle.p10_absx.specs.Environments.{Environment, hull_reached}
use Rattle.p10_absx.specs.Trails.{Branching}
use Rattle.p10_absx.specs.Branches.{unbranched}
use Rattle.p10_pass.specs.declared.rounds.Round.{Round as CodeRound}
use Rattle.p10_pass.specs.Scopes.{assigns, form_assigns, assigned_forgotten}
use Rattle.p10_pass.specs.Claiming.{head_of, claim_or_none, loop_claimed}
use Rattle.p10_pass.specs.Passing.{Manner, Left, reached, where_going, followed, and_then_pass, as_block, by_claim, Tested, tested_in, Round, round_of, loop_left, is_labelled, switch_left, pass_form, pass_statement, pass_statements, pass_switch, pass_from}
use Rattle.p10_pass.specs.Rounds.{round_at, round_by}
use Rattle.p10_pass.specs.private.Walking.{head_in, loop_passed, left_after, entered, loop_under, tested_before}
use Rattle.p10_pass.proofs.Lists.{cut_at}
use Rattle.p10_pass.proofs.ListedForms.{block_form, loop_form}
use Rattle.p10_pass.proofs.Following.{followed_assoc}

-- ## Blocks

pub block_passed : (m : Manner) (form : StmtForm) (items : _) (all : List Stmt) (env : Environment) (l : Left) → form ≡ Block items → all ≡ items → l ≡ as_block (plain_statements all) (pass_statements m (plain_statements all) env) →
    l ≡ pass_form m (plain_statement_form form) env
block_passed m form items all env l is same e = e ∙ ap (λ f. pass_form m f env) (sym (block_form form items all is same))

pub body_passed : (m : Manner) (labels : PlainLabels) (at : At) (form : StmtForm) (items : _) (all all2 : List Stmt) (env : Environment) (first second third : Left) → form ≡ Block items → all ≡ items → all2 ≡ all →
    first ≡ pass_from m labels 0 (plain_statements all) env None → second ≡ as_block (plain_statements all2) first → third ≡ switch_left labels env second →
    third ≡ pass_switch m labels (statement at (plain_statement_form form)) env
body_passed m labels at form items all all2 env first second third is same again p q r =
    r ∙ (ap (switch_left labels env) (q ∙ (λ i. as_block (plain_statements (again i)) (p i))) ∙ ap (λ f. pass_switch m labels (statement at f) env) (sym (block_form form items all is same)))

-- ## Loops

-- a loop that stands where its form says so
loop_is : (form f : PlainStatementForm) (P : PlainStatementForm → Type 0) → form ≡ f → P f → P form
loop_is form f P e p = subst P (sym e) p

-- the row of a loop where there are no claims, and by claims
abbrev tried : Manner → PlainStatementForm → Environment → Left
tried m form env = reached (Some (assigned_forgotten (λ n. form_assigns n form) m.variables env))

abbrev claimed : Manner → LoopHead → PlainStatements → Option PlainValue → PlainStatements → PlainStatement → Environment → List Loop → Left
claimed m h first tested third body env loops =
    as_block first (and_then_pass (pass_statements m first env) (λ entry.
    loop_left m (loop_claimed loops h.number) h (λ n. form_assigns n (loop h first tested third body)) entry
    (round_of m h.keyword tested (λ env. pass_statements m third env) (λ env. pass_statement m body env) (head_of (loop_claimed loops h.number) m.variables entry))))

pub passed_loop : (m : Manner) (s : PlainStatement) (head : LoopHead) (loops : List Loop) (env : Environment) → head_in s ≡ Some head → m.loops ≡ Some loops →
    loop_under m (claim_or_none (slice_get loops head.number)) s env ≡ loop_passed m s env
passed_loop m (statement at (loop h first tested third body)) head loops env e o =
    let same : head ≡ h = cc in
    ap (λ (k : LoopHead). loop_under m (claim_or_none (slice_get loops k.number)) (statement at (loop h first tested third body)) env) same ∙
    sym (ap (λ o. by_claim o (tried m (loop h first tested third body) env) (claimed m h first tested third body env)) o)
passed_loop m (statement at (set p v)) head loops env e o = absurd cc
passed_loop m (statement at (update kind op t p v)) head loops env e o = absurd cc
passed_loop m (statement at (copy p q)) head loops env e o = absurd cc
passed_loop m (statement at (evaluate v)) head loops env e o = absurd cc
passed_loop m (statement at (asserts there v)) head loops env e o = absurd cc
passed_loop m (statement at (declare n initializer)) head loops env e o = absurd cc
passed_loop m (statement at (declare_static n)) head loops env e o = absurd cc
passed_loop m (statement at (block ss)) head loops env e o = absurd cc
passed_loop m (statement at (if_then v s)) head loops env e o = absurd cc
passed_loop m (statement at (if_else v s t)) head loops env e o = absurd cc
passed_loop m (statement at (switch keyword v labels body)) head loops env e o = absurd cc
passed_loop m (statement at break) head loops env e o = absurd cc
passed_loop m (statement at continue) head loops env e o = absurd cc
passed_loop m (statement at (return keyword v)) head loops env e o = absurd cc
passed_loop m (statement at empty) head loops env e o = absurd cc
passed_loop m (statement at (mark kind)) head loops env e o = absurd cc

pub claimed_whole : (m : Manner) (s : PlainStatement) (head : LoopHead) (loops : List Loop) (o : Option Loop) (env : Environment) (l : Left) → o ≡ slice_get loops head.number → head_in s ≡ Some head → m.loops ≡ Some loops →
    l ≡ loop_under m (claim_or_none o) s env → l ≡ loop_passed m s env
claimed_whole m s head loops o env l found there claims is = is ∙ (ap (λ o. loop_under m (claim_or_none o) s env) found ∙ passed_loop m s head loops env there claims)

pub tried_loop : (m : Manner) (s : PlainStatement) (head : LoopHead) (env : Environment) → head_in s ≡ Some head → m.loops ≡ None →
    reached (Some (assigned_forgotten (λ n. assigns n s) m.variables env)) ≡ loop_passed m s env
tried_loop m (statement at (loop h first tested third body)) head env e o =
    sym (ap (λ o. by_claim o (tried m (loop h first tested third body) env) (claimed m h first tested third body env)) o)
tried_loop m (statement at (set p v)) head env e o = absurd cc
tried_loop m (statement at (update kind op t p v)) head env e o = absurd cc
tried_loop m (statement at (copy p q)) head env e o = absurd cc
tried_loop m (statement at (evaluate v)) head env e o = absurd cc
tried_loop m (statement at (asserts there v)) head env e o = absurd cc
tried_loop m (statement at (declare n initializer)) head env e o = absurd cc
tried_loop m (statement at (declare_static n)) head env e o = absurd cc
tried_loop m (statement at (block ss)) head env e o = absurd cc
tried_loop m (statement at (if_then v s)) head env e o = absurd cc
tried_loop m (statement at (if_else v s t)) head env e o = absurd cc
tried_loop m (statement at (switch keyword v labels body)) head env e o = absurd cc
tried_loop m (statement at break) head env e o = absurd cc
tried_loop m (statement at continue) head env e o = absurd cc
tried_loop m (statement at (return keyword v)) head env e o = absurd cc
tried_loop m (statement at empty) head env e o = absurd cc
tried_loop m (statement at (mark kind)) head env e o = absurd cc

pub tried_whole : (m : Manner) (s : PlainStatement) (head : LoopHead) (env : Environment) (l : Left) → head_in s ≡ Some head → m.loops ≡ None → l ≡ reached (Some (assigned_forgotten (λ n. assigns n s) m.variables env)) → l ≡ loop_passed m s env
tried_whole m s head env l there claims is = is ∙ tried_loop m s head env there claims

pub entered_by : (m : Manner) (claim : Loop) (s : PlainStatement) (entry : Environment) (r : Round) → Some r ≡ round_at m s (head_of claim m.variables entry) →
    left_after m claim (head_in s) (λ n. assigns n s) entry r ≡ entered m claim s entry
entered_by m claim (statement at (loop h first tested third body)) entry r e =
    let same : r ≡ round_of m h.keyword tested (λ env. pass_statements m third env) (λ env. pass_statement m body env) (head_of claim m.variables entry) = cc in
    ap (λ r. loop_left m claim h (λ n. assigns n (statement at (loop h first tested third body))) entry r) same
entered_by m claim (statement at (set p v)) entry r e = absurd cc
entered_by m claim (statement at (update kind op t p v)) entry r e = absurd cc
entered_by m claim (statement at (copy p q)) entry r e = absurd cc
entered_by m claim (statement at (evaluate v)) entry r e = absurd cc
entered_by m claim (statement at (asserts there v)) entry r e = absurd cc
entered_by m claim (statement at (declare n initializer)) entry r e = absurd cc
entered_by m claim (statement at (declare_static n)) entry r e = absurd cc
entered_by m claim (statement at (block ss)) entry r e = absurd cc
entered_by m claim (statement at (if_then v s)) entry r e = absurd cc
entered_by m claim (statement at (if_else v s t)) entry r e = absurd cc
entered_by m claim (statement at (switch keyword v labels body)) entry r e = absurd cc
entered_by m claim (statement at break) entry r e = absurd cc
entered_by m claim (statement at continue) entry r e = absurd cc
entered_by m claim (statement at (return keyword v)) entry r e = absurd cc
entered_by m claim (statement at empty) entry r e = absurd cc
entered_by m claim (statement at (mark kind)) entry r e = absurd cc

pub entered_whole : (m : Manner) (claim : Loop) (s : PlainStatement) (entry : Environment) (at_head : Branching) (found : Option CodeRound) (r : CodeRound) (l : Left) → at_head ≡ unbranched (head_of claim m.variables entry) →
    option_map round_by found ≡ round_at m s at_head.values → found ≡ Some r → l ≡ left_after m claim (head_in s) (λ n. assigns n s) entry (round_by r) → l ≡ entered m claim s entry
entered_whole m claim s entry at_head found r l headed rounded there is =
    let whole : Some (round_by r) ≡ round_at m s (head_of claim m.variables entry) = sym (ap (option_map round_by) there) ∙ (rounded ∙ ap (λ (b : Branching). round_at m s b.values) headed) in
    is ∙ entered_by m claim s entry (round_by r) whole

pub under_passed : (m : Manner) (claim : Loop) (at : At) (form : StmtForm) (head : LoopHead) (first : _) (tested : Option Value) (third : _) (body : _) (firsts again : List Stmt) (env : Environment) (opened entering closed : Left) →
    form ≡ LoopForm head first tested third body → firsts ≡ first → again ≡ firsts → opened ≡ pass_statements m (plain_statements firsts) env →
    entering ≡ and_then_pass opened (entered m claim (statement at (plain_statement_form form))) → closed ≡ as_block (plain_statements again) entering →
    closed ≡ loop_under m claim (statement at (plain_statement_form form)) env
under_passed m claim at form head first tested third body firsts again env opened entering closed is x same p q r =
    r ∙ ((λ i. as_block (plain_statements (same i)) ((q ∙ ap (λ o. and_then_pass o (entered m claim (statement at (plain_statement_form form)))) p) i)) ∙
    loop_is (plain_statement_form form) _ (λ f. as_block (plain_statements firsts) (and_then_pass (pass_statements m (plain_statements firsts) env) (entered m claim (statement at f))) ≡ loop_under m claim (statement at f) env)
    (loop_form form head first tested third body firsts _ _ is x refl refl) refl)

-- ## Rounds

rounded : (m : Manner) (at : At) (form : StmtForm) (head : LoopHead) (first : _) (tested : Option Value) (third : _) (body : _) (thirds : List Stmt) (there : Stmt) (env : Environment) (r : Round) →
    form ≡ LoopForm head first tested third body → thirds ≡ third → there ≡ body.value →
    r ≡ round_of m head.keyword (option_map plain_value tested) (λ env. pass_statements m (plain_statements thirds) env) (λ env. pass_statement m (plain_statement there) env) env →
    Some r ≡ round_at m (statement at (plain_statement_form form)) env
rounded m at form head first tested third body thirds there env r is y z e =
    ap Some e ∙ sym (ap (λ f. round_at m (statement at f) env) (loop_form form head first tested third body _ thirds there is refl y z))

-- a test before the body
abbrev pub before_body : LoopKeyword → Type 0
before_body While = Unit {0}
before_body For = Unit {0}
before_body Do = ⊥

pub is_before : (k : LoopKeyword) → (k ≡ While) ⊎ (k ≡ For) → before_body k
is_before k (inl p) = subst before_body (sym p) tt
is_before k (inr p) = subst before_body (sym p) tt

begun : (m : Manner) (k : LoopKeyword) (v : Option PlainValue) (third body : Environment → Left) (env : Environment) → before_body k →
    tested_before (tested_in m v env) (where_going (tested_in m v env).truth body)
    (where_going (hull_reached (where_going (tested_in m v env).truth body).normal (where_going (tested_in m v env).truth body).continues) third) ≡ round_of m k v third body env
begun m While v third body env h = refl
begun m For v third body env h = refl
begun m Do v third body env h = absurd h

pub while_rounded : (m : Manner) (at : At) (form : StmtForm) (head : LoopHead) (first : _) (tested : Option Value) (third : _) (body : _) (thirds : List Stmt) (there : Stmt) (env : Environment) (t : Tested) (entering next : Option Environment) (b c : Left) (r : Round) →
    form ≡ LoopForm head first tested third body → thirds ≡ third → there ≡ body.value → before_body head.keyword → t ≡ tested_in m (option_map plain_value tested) env → entering ≡ t.truth →
    b ≡ where_going entering (pass_statement m (plain_statement there)) → next ≡ hull_reached b.normal b.continues → c ≡ where_going next (pass_statements m (plain_statements thirds)) →
    r ≡ tested_before t b c → Some r ≡ round_at m (statement at (plain_statement_form form)) env
while_rounded m at form head first tested third body thirds there env t entering next b c r is y z keyword p truth q after s e =
    rounded m at form head first tested third body thirds there env r is y z
    (e ∙ (body_of t entering next b c p truth q after s ∙ begun m head.keyword (option_map plain_value tested) (λ env. pass_statements m (plain_statements thirds) env) (λ env. pass_statement m (plain_statement there) env) env keyword))
  where
    body_of : (t : Tested) (entering next : Option Environment) (b c : Left) → t ≡ tested_in m (option_map plain_value tested) env → entering ≡ t.truth → b ≡ where_going entering (pass_statement m (plain_statement there)) →
        next ≡ hull_reached b.normal b.continues → c ≡ where_going next (pass_statements m (plain_statements thirds)) →
        let t2 : Tested = tested_in m (option_map plain_value tested) env in let b2 : Left = where_going t2.truth (pass_statement m (plain_statement there)) in
        tested_before t b c ≡ tested_before t2 b2 (where_going (hull_reached b2.normal b2.continues) (pass_statements m (plain_statements thirds)))
    body_of t entering next b c p truth q after s =
        let enter : entering ≡ (tested_in m (option_map plain_value tested) env).truth = truth ∙ ap (λ (t : Tested). t.truth) p in
        let whole : b ≡ where_going (tested_in m (option_map plain_value tested) env).truth (pass_statement m (plain_statement there)) = q ∙ ap (λ o. where_going o (pass_statement m (plain_statement there))) enter in
        let closed : c ≡ where_going (hull_reached b.normal b.continues) (pass_statements m (plain_statements thirds)) = s ∙ ap (λ o. where_going o (pass_statements m (plain_statements thirds))) after in
        (λ i. tested_before (p i) b (closed i)) ∙ ap (λ (x : Left). tested_before (tested_in m (option_map plain_value tested) env) x (where_going (hull_reached x.normal x.continues) (pass_statements m (plain_statements thirds)))) whole

-- ## The items of a `switch`'s body

pub cases_next : (m : Manner) (labels : PlainLabels) (env : Environment) (whole t now : Left) (xs : List Stmt) (k : ℕ) (x : Stmt) (marked : Bool) → k < length xs → x ≡ get_or xs k x → marked ≡ is_labelled k labels →
    now ≡ followed t (where_going (if marked then hull_reached t.normal (Some env) else t.normal) (pass_statement m (plain_statement x))) →
    followed t (pass_from m labels k (plain_statements (drop k xs)) env t.normal) ≡ whole → followed now (pass_from m labels (k + 1) (plain_statements (drop (k + 1) xs)) env now.normal) ≡ whole
cases_next m labels env whole t now xs k x marked below there told is so-far =
    let a : Left = where_going (if is_labelled k labels then hull_reached t.normal (Some env) else t.normal) (pass_statement m (plain_statement x)) in
    let step : now ≡ followed t a = is ∙ ap (λ b. followed t (where_going (if b then hull_reached t.normal (Some env) else t.normal) (pass_statement m (plain_statement x)))) told in
    ap (λ (n : Left). followed n (pass_from m labels (k + 1) (plain_statements (drop (k + 1) xs)) env n.normal)) step ∙
    (followed_assoc t a (pass_from m labels (k + 1) (plain_statements (drop (k + 1) xs)) env a.normal) ∙
    (ap (λ j. followed t (followed a (pass_from m labels j (plain_statements (drop (k + 1) xs)) env a.normal))) (add-one k) ∙
    (ap (λ ys. followed t (pass_from m labels k (plain_statements ys) env t.normal)) (sym (cut_at xs k x below there)) ∙ so-far)))
