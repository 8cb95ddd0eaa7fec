-- Statements, one after the other, as far as a walk has come.
use Rattle.std.proofs.Common.{◌≡◌, ℕ, ◌+◌, suc, ◌<◌, ◌≤◌, Bool, List, [], ◌++◌, drop, length, get_or, Option, Some, None, refl, ap, sym, ◌∙◌, append_assoc, add-one}
use Rattle.std.proofs.lemmas.List.{append-nil}
use Rattle.p10_core.specs.declared.statements.Stmt.{Stmt}
use Rattle.p10_core.specs.Typed.{PlainStatement, PlainStatements, more_statements, PlainLabels}
use Rattle.p10_core.specs.Views.{plain_statement, plain_statements}
use Rattle.p10_absx.specs.Environments.{Environment}
use Rattle.p10_pass.specs.Arguments.{where_reached}
use Rattle.p10_pass.specs.Passing.{Manner, where_going, is_labelled, pass_statement, pass_statements}
use Rattle.p10_pass.proofs.Lists.{cut_at, drop_end}
use Rattle.p10_clean.specs.declared.flaw.Flaw.{Flaw}
use Rattle.p10_clean.specs.Settings.{Settings, case_settings, ways_of, ways_of_all}
use Rattle.p10_clean.specs.Statements.{case_entry, flaws_in_statement, flaws_in_statements, flaws_from}

-- ## One statement and the rest

known_both : (m : Manner) (k : Option Environment) (x : PlainStatement) (rest : PlainStatements) →
    (where_going (where_going k (pass_statement m x)).normal (pass_statements m rest)).normal ≡ (where_going k (pass_statements m (more_statements x rest))).normal
known_both m None x rest = refl
known_both m (Some env) x rest = refl

abbrev at_rest : Manner → PlainStatements → Settings → Option Environment → List Flaw
at_rest m rest s k = where_reached k (λ env. flaws_in_statements m rest s env)

flaws_both : (m : Manner) (k : Option Environment) (s : Settings) (x : PlainStatement) (rest : PlainStatements) →
    where_reached k (λ env. flaws_in_statement m x s env) ++ at_rest m rest (ways_of x s).normal (where_going k (pass_statement m x)).normal ≡ at_rest m (more_statements x rest) s k
flaws_both m None s x rest = refl
flaws_both m (Some env) s x rest = refl

-- ## Statements

pub known_next : (m : Manner) (whole k k2 : Option Environment) (xs : List Stmt) (i : ℕ) (x : Stmt) → i < length xs → x ≡ get_or xs i x → k2 ≡ (where_going k (pass_statement m (plain_statement x))).normal →
    (where_going k (pass_statements m (plain_statements (drop i xs)))).normal ≡ whole → (where_going k2 (pass_statements m (plain_statements (drop (i + 1) xs)))).normal ≡ whole
known_next m whole k k2 xs i x below there is so-far =
    ap (λ k. (where_going k (pass_statements m (plain_statements (drop (i + 1) xs)))).normal) is ∙ (known_both m k (plain_statement x) (plain_statements (drop (i + 1) xs)) ∙
    (ap (λ ys. (where_going k (pass_statements m (plain_statements ys))).normal) (sym (cut_at xs i x below there)) ∙ so-far))

pub set_next : (whole s s2 : Settings) (xs : List Stmt) (i : ℕ) (x : Stmt) → i < length xs → x ≡ get_or xs i x → s2 ≡ (ways_of (plain_statement x) s).normal →
    (ways_of_all (plain_statements (drop i xs)) s).normal ≡ whole → (ways_of_all (plain_statements (drop (i + 1) xs)) s2).normal ≡ whole
set_next whole s s2 xs i x below there is so-far =
    ap (λ s. (ways_of_all (plain_statements (drop (i + 1) xs)) s).normal) is ∙ (ap (λ ys. (ways_of_all (plain_statements ys) s).normal) (sym (cut_at xs i x below there)) ∙ so-far)

pub flaws_next : (m : Manner) (whole put put2 : List Flaw) (k k2 : Option Environment) (s s2 : Settings) (xs : List Stmt) (i : ℕ) (x : Stmt) → i < length xs → x ≡ get_or xs i x →
    k2 ≡ (where_going k (pass_statement m (plain_statement x))).normal → s2 ≡ (ways_of (plain_statement x) s).normal → put2 ≡ put ++ where_reached k (λ env. flaws_in_statement m (plain_statement x) s env) →
    put ++ at_rest m (plain_statements (drop i xs)) s k ≡ whole → put2 ++ at_rest m (plain_statements (drop (i + 1) xs)) s2 k2 ≡ whole
flaws_next m whole put put2 k k2 s s2 xs i x below there known set is so-far =
    let rest : PlainStatements = plain_statements (drop (i + 1) xs) in
    (λ j. is j ++ at_rest m rest (set j) (known j)) ∙
    (append_assoc put (where_reached k (λ env. flaws_in_statement m (plain_statement x) s env)) (at_rest m rest (ways_of (plain_statement x) s).normal (where_going k (pass_statement m (plain_statement x))).normal) ∙
    (ap (λ fs. put ++ fs) (flaws_both m k s (plain_statement x) rest) ∙
    (ap (λ ys. put ++ at_rest m (plain_statements ys) s k) (sym (cut_at xs i x below there)) ∙ so-far)))

known_none : (m : Manner) (k : Option Environment) → (where_going k (pass_statements m (plain_statements []))).normal ≡ k
known_none m None = refl
known_none m (Some env) = refl

flaws_none : (m : Manner) (s : Settings) (k : Option Environment) → at_rest m (plain_statements []) s k ≡ []
flaws_none m s None = refl
flaws_none m s (Some env) = refl

pub known_end : (m : Manner) (whole k : Option Environment) (xs : List Stmt) (i : ℕ) → length xs ≤ i → (where_going k (pass_statements m (plain_statements (drop i xs)))).normal ≡ whole → k ≡ whole
known_end m whole k xs i end so-far = sym (known_none m k) ∙ (ap (λ ys. (where_going k (pass_statements m (plain_statements ys))).normal) (sym (drop_end xs i end)) ∙ so-far)

pub set_end : (whole s : Settings) (xs : List Stmt) (i : ℕ) → length xs ≤ i → (ways_of_all (plain_statements (drop i xs)) s).normal ≡ whole → s ≡ whole
set_end whole s xs i end so-far = ap (λ ys. (ways_of_all (plain_statements ys) s).normal) (sym (drop_end xs i end)) ∙ so-far

pub flaws_end : (m : Manner) (whole put : List Flaw) (k : Option Environment) (s : Settings) (xs : List Stmt) (i : ℕ) → length xs ≤ i → put ++ at_rest m (plain_statements (drop i xs)) s k ≡ whole → put ≡ whole
flaws_end m whole put k s xs i end so-far =
    sym (append-nil put) ∙ (ap (λ fs. put ++ fs) (sym (flaws_none m s k)) ∙ (ap (λ ys. put ++ at_rest m (plain_statements ys) s k) (sym (drop_end xs i end)) ∙ so-far))

-- ## The items of a `switch`'s body

pub cases_next : (m : Manner) (labels : PlainLabels) (entry : Settings) (env : Environment) (whole put put2 : List Flaw) (k k1 k2 : Option Environment) (s s1 s2 : Settings) (xs : List Stmt) (i : ℕ) (x : Stmt) (marked : Bool) →
    i < length xs → x ≡ get_or xs i x → marked ≡ is_labelled i labels → k1 ≡ case_entry marked env k → s1 ≡ case_settings marked entry s →
    k2 ≡ (where_going k1 (pass_statement m (plain_statement x))).normal → s2 ≡ (ways_of (plain_statement x) s1).normal → put2 ≡ put ++ where_reached k1 (λ env. flaws_in_statement m (plain_statement x) s1 env) →
    put ++ flaws_from m labels i (plain_statements (drop i xs)) entry env s k ≡ whole → put2 ++ flaws_from m labels (i + 1) (plain_statements (drop (i + 1) xs)) entry env s2 k2 ≡ whole
cases_next m labels entry env whole put put2 k k1 k2 s s1 s2 xs i x marked below there told known1 set1 known set is so-far =
    let rest : PlainStatements = plain_statements (drop (i + 1) xs) in
    let here : Option Environment = case_entry (is_labelled i labels) env k in
    let at : Settings = case_settings (is_labelled i labels) entry s in
    let kn : k1 ≡ here = known1 ∙ ap (λ b. case_entry b env k) told in
    let sn : s1 ≡ at = set1 ∙ ap (λ b. case_settings b entry s) told in
    let here_flaws : List Flaw = where_reached here (λ env. flaws_in_statement m (plain_statement x) at env) in
    let put_is : put2 ≡ put ++ here_flaws = is ∙ (λ j. put ++ where_reached (kn j) (λ env. flaws_in_statement m (plain_statement x) (sn j) env)) in
    let known_is : k2 ≡ (where_going here (pass_statement m (plain_statement x))).normal = known ∙ ap (λ k. (where_going k (pass_statement m (plain_statement x))).normal) kn in
    let set_is : s2 ≡ (ways_of (plain_statement x) at).normal = set ∙ ap (λ s. (ways_of (plain_statement x) s).normal) sn in
    (λ j. put_is j ++ flaws_from m labels (add-one i j) rest entry env (set_is j) (known_is j)) ∙
    (append_assoc put here_flaws (flaws_from m labels (suc i) rest entry env (ways_of (plain_statement x) at).normal (where_going here (pass_statement m (plain_statement x))).normal) ∙
    (ap (λ ys. put ++ flaws_from m labels i (plain_statements ys) entry env s k) (sym (cut_at xs i x below there)) ∙ so-far))

pub cases_end : (m : Manner) (labels : PlainLabels) (entry : Settings) (env : Environment) (whole put : List Flaw) (k : Option Environment) (s : Settings) (xs : List Stmt) (i : ℕ) → length xs ≤ i →
    put ++ flaws_from m labels i (plain_statements (drop i xs)) entry env s k ≡ whole → put ≡ whole
cases_end m labels entry env whole put k s xs i end so-far =
    sym (append-nil put) ∙ (ap (λ ys. put ++ flaws_from m labels i (plain_statements ys) entry env s k) (sym (drop_end xs i end)) ∙ so-far)
