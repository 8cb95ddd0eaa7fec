-- What is set by statements, one after the other.
use Rattle.std.proofs.Common.{◌≡◌, ℕ, ◌+◌, ◌<◌, ◌≤◌, ◌&&◌, Bool, true, false, List, [], ◌∷◌, drop, length, get_or, Option, Some, None, refl, ap, sym, ◌∙◌, add-one}
use Rattle.p10_base.specs.declared.at.At.{At}
use Rattle.p10_core.specs.declared.typed.Value.{Value}
use Rattle.p10_core.specs.declared.statements.LoopHead.{LoopHead}
use Rattle.p10_core.specs.declared.statements.Stmt.{Stmt}
use Rattle.p10_core.specs.declared.statements.StmtForm.{StmtForm}
use Rattle.p10_core.specs.declared.statements.StmtForm.TheVariants.{Block, Loop as LoopForm}
use Rattle.p10_core.specs.Typed.{PlainLabels, statement}
use Rattle.p10_core.specs.Views.{plain_statement, plain_statement_form, plain_statements}
use Rattle.p10_pass.specs.Passing.{is_labelled}
use Rattle.p10_pass.proofs.Lists.{cut_at, drop_end}
use Rattle.p10_pass.proofs.ListedForms.{block_form, loop_form}
use Rattle.p10_clean.specs.Settings.{Settings, common_marks, on_both, Ways, goes_on, then_ways, after_loop, after_switch, case_settings, ways_of, ways_of_form, ways_of_all, ways_of_switch, ways_from}
use Rattle.p10_clean.specs.private.Code.{loop_ways}

and_assoc : (a b c : Bool) → ((a && b) && c) ≡ (a && (b && c))
and_assoc true b c = refl
and_assoc false b c = refl

common_assoc : (a b c : List Bool) → common_marks (common_marks a b) c ≡ common_marks a (common_marks b c)
common_assoc [] b c = refl
common_assoc (x ∷ a) [] c = refl
common_assoc (x ∷ a) (y ∷ b) [] = refl
common_assoc (x ∷ a) (y ∷ b) (z ∷ c) = λ i. and_assoc x y z i ∷ common_assoc a b c i

both_assoc : (a b c : Settings) → on_both (on_both a b) c ≡ on_both a (on_both b c)
both_assoc None b c = refl
both_assoc (Some a) None c = refl
both_assoc (Some a) (Some b) None = refl
both_assoc (Some a) (Some b) (Some c) = ap Some (common_assoc a b c)

both_none : (a : Settings) → on_both a None ≡ a
both_none None = refl
both_none (Some a) = refl

then_assoc : (a b c : Ways) → then_ways (then_ways a b) c ≡ then_ways a (then_ways b c)
then_assoc a b c = λ i. record { normal = c.normal; breaks = both_assoc a.breaks b.breaks c.breaks i; continues = both_assoc a.continues b.continues c.continues i }

then_none : (a : Ways) → then_ways a (goes_on a.normal) ≡ a
then_none a = λ i. record { normal = a.normal; breaks = both_none a.breaks i; continues = both_none a.continues i }

-- ## Statements, one after the other

pub all_next : (whole t now : Ways) (xs : List Stmt) (i : ℕ) (x : Stmt) → i < length xs → x ≡ get_or xs i x → now ≡ then_ways t (ways_of (plain_statement x) t.normal) →
    then_ways t (ways_of_all (plain_statements (drop i xs)) t.normal) ≡ whole → then_ways now (ways_of_all (plain_statements (drop (i + 1) xs)) now.normal) ≡ whole
all_next whole t now xs i x below there is so-far =
    let a : Ways = ways_of (plain_statement x) t.normal in
    ap (λ (n : Ways). then_ways n (ways_of_all (plain_statements (drop (i + 1) xs)) n.normal)) is ∙
    (then_assoc t a (ways_of_all (plain_statements (drop (i + 1) xs)) a.normal) ∙
    (ap (λ ys. then_ways t (ways_of_all (plain_statements ys) t.normal)) (sym (cut_at xs i x below there)) ∙ so-far))

pub all_end : (whole t : Ways) (xs : List Stmt) (i : ℕ) → length xs ≤ i → then_ways t (ways_of_all (plain_statements (drop i xs)) t.normal) ≡ whole → t ≡ whole
all_end whole t xs i end so-far = sym (then_none t) ∙ (ap (λ ys. then_ways t (ways_of_all (plain_statements ys) t.normal)) (sym (drop_end xs i end)) ∙ so-far)

pub cases_next : (labels : PlainLabels) (entry : Settings) (whole t now : Ways) (xs : List Stmt) (k : ℕ) (x : Stmt) (marked : Bool) → k < length xs → x ≡ get_or xs k x → marked ≡ is_labelled k labels →
    now ≡ then_ways t (ways_of (plain_statement x) (case_settings marked entry t.normal)) →
    then_ways t (ways_from labels k (plain_statements (drop k xs)) entry t.normal) ≡ whole → then_ways now (ways_from labels (k + 1) (plain_statements (drop (k + 1) xs)) entry now.normal) ≡ whole
cases_next labels entry whole t now xs k x marked below there told is so-far =
    let a : Ways = ways_of (plain_statement x) (case_settings (is_labelled k labels) entry t.normal) in
    let step : now ≡ then_ways t a = is ∙ ap (λ b. then_ways t (ways_of (plain_statement x) (case_settings b entry t.normal))) told in
    ap (λ (n : Ways). then_ways n (ways_from labels (k + 1) (plain_statements (drop (k + 1) xs)) entry n.normal)) step ∙
    (then_assoc t a (ways_from labels (k + 1) (plain_statements (drop (k + 1) xs)) entry a.normal) ∙
    (ap (λ j. then_ways t (then_ways a (ways_from labels j (plain_statements (drop (k + 1) xs)) entry a.normal))) (add-one k) ∙
    (ap (λ ys. then_ways t (ways_from labels k (plain_statements ys) entry t.normal)) (sym (cut_at xs k x below there)) ∙ so-far)))

pub cases_end : (labels : PlainLabels) (entry : Settings) (whole t : Ways) (xs : List Stmt) (k : ℕ) → length xs ≤ k → then_ways t (ways_from labels k (plain_statements (drop k xs)) entry t.normal) ≡ whole → t ≡ whole
cases_end labels entry whole t xs k end so-far = sym (then_none t) ∙ (ap (λ ys. then_ways t (ways_from labels k (plain_statements ys) entry t.normal)) (sym (drop_end xs k end)) ∙ so-far)

-- ## Statements that hold others

pub block_ways : (form : StmtForm) (items : _) (all : List Stmt) (before : Settings) (w : Ways) → form ≡ Block items → all ≡ items → w ≡ ways_of_all (plain_statements all) before → w ≡ ways_of_form (plain_statement_form form) before
block_ways form items all before w is same e = e ∙ ap (λ f. ways_of_form f before) (sym (block_form form items all is same))

pub switch_ways : (labels : PlainLabels) (at : At) (form : StmtForm) (items : _) (all : List Stmt) (entry : Settings) (first second : Ways) → form ≡ Block items → all ≡ items →
    first ≡ ways_from labels 0 (plain_statements all) entry None → second ≡ after_switch labels entry first → second ≡ ways_of_switch labels (statement at (plain_statement_form form)) entry
switch_ways labels at form items all entry first second is same p q =
    q ∙ (ap (after_switch labels entry) p ∙ ap (λ f. ways_of_switch labels (statement at f) entry) (sym (block_form form items all is same)))

pub loop_ways_of : (at : At) (form : StmtForm) (head : LoopHead) (first : _) (tested : Option Value) (third : _) (body : _) (firsts : List Stmt) (there : Stmt) (before entry again : Settings) (opened ways w : Ways) →
    form ≡ LoopForm head first tested third body → firsts ≡ first → there ≡ body.value → opened ≡ ways_of_all (plain_statements firsts) before → entry ≡ opened.normal → again ≡ entry →
    ways ≡ ways_of (plain_statement there) again → w ≡ after_loop head.keyword entry ways → w ≡ loop_ways (statement at (plain_statement_form form)) before
loop_ways_of at form head first tested third body firsts there before entry again opened ways w is x y p q r u v =
    let e : entry ≡ (ways_of_all (plain_statements firsts) before).normal = q ∙ ap (λ (o : Ways). o.normal) p in
    v ∙ ((λ i. after_loop head.keyword (e i) ((u ∙ ap (ways_of (plain_statement there)) (r ∙ e)) i)) ∙
    ap (λ f. loop_ways (statement at f) before) (sym (loop_form form head first tested third body firsts _ there is x refl y)))
