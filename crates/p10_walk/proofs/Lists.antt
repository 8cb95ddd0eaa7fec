-- Lists of statements, as far as the walk has come.
use Rattle.std.proofs.Common.{◌≡◌, ℕ, ◌+◌, ◌<◌, ◌≤◌, Bool, List, drop, length, get_or, Some, ap, sym, ◌∙◌, add-one}
use Rattle.std.specs.Prelude.{if◌then◌else◌}
use Rattle.p10_core.specs.declared.statements.Stmt.{Stmt}
use Rattle.p10_core.specs.Typed.{PlainLabels}
use Rattle.p10_core.specs.Views.{plain_statement, plain_statements}
use Rattle.p10_pass.specs.Passing.{is_labelled}
use Rattle.p10_pass.proofs.Lists.{cut_at, drop_end}
use Rattle.p10_walk.specs.Operations.{Operations}
use Rattle.p10_walk.specs.Walking.{Ends, hull_reached, where_going, followed, walk, walk_all, walk_from}

pub statements_next : {K : Type 0} (o : Operations K) (whole t now : Ends K) (xs : List Stmt) (i : ℕ) (x : Stmt) → i < length xs → x ≡ get_or xs i x → now ≡ followed o t (where_going t.normal (walk o (plain_statement x))) →
    walk_all o (plain_statements (drop i xs)) t ≡ whole → walk_all o (plain_statements (drop (i + 1) xs)) now ≡ whole
statements_next o whole t now xs i x below there is so-far =
    ap (walk_all o (plain_statements (drop (i + 1) xs))) is ∙ (ap (λ ys. walk_all o (plain_statements ys) t) (sym (cut_at xs i x below there)) ∙ so-far)

pub statements_end : {K : Type 0} (o : Operations K) (whole t : Ends K) (xs : List Stmt) (i : ℕ) → length xs ≤ i → walk_all o (plain_statements (drop i xs)) t ≡ whole → t ≡ whole
statements_end o whole t xs i b so-far = ap (λ ys. walk_all o (plain_statements ys) t) (sym (drop_end xs i b)) ∙ so-far

pub cases_next : {K : Type 0} (o : Operations K) (labels : PlainLabels) (e : K) (whole t now : Ends K) (xs : List Stmt) (k : ℕ) (x : Stmt) (marked : Bool) → k < length xs → x ≡ get_or xs k x → marked ≡ is_labelled k labels →
    now ≡ followed o t (where_going (if marked then hull_reached o t.normal (Some e) else t.normal) (walk o (plain_statement x))) →
    walk_from o labels k (plain_statements (drop k xs)) e t ≡ whole → walk_from o labels (k + 1) (plain_statements (drop (k + 1) xs)) e now ≡ whole
cases_next o labels e whole t now xs k x marked below there told is so-far =
    let step : now ≡ followed o t (where_going (if is_labelled k labels then hull_reached o t.normal (Some e) else t.normal) (walk o (plain_statement x))) =
    is ∙ ap (λ b. followed o t (where_going (if b then hull_reached o t.normal (Some e) else t.normal) (walk o (plain_statement x)))) told in
    ap (walk_from o labels (k + 1) (plain_statements (drop (k + 1) xs)) e) step ∙
    (ap (λ j. walk_from o labels j (plain_statements (drop (k + 1) xs)) e (followed o t (where_going (if is_labelled k labels then hull_reached o t.normal (Some e) else t.normal) (walk o (plain_statement x))))) (add-one k) ∙
    (ap (λ ys. walk_from o labels k (plain_statements ys) e t) (sym (cut_at xs k x below there)) ∙ so-far))
