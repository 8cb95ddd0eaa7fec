-- Statements without parts, by the trial pass.
use Rattle.std.proofs.Common.{◌≡◌, ℕ, Bool, true, false, Option, Some, None, option_map, Result, refl, ap, sym, ◌∙◌}
use Rattle.std.specs.Prelude.{IfOk}
use Rattle.std.specs.declared.alloc.AllocError.{AllocError}
use Rattle.std.proofs.lemmas.Result.{IfOk-weaker}
use Rattle.p10_base.specs.declared.at.At.{At}
use Rattle.p10_core.specs.declared.typed.Value.{Value}
use Rattle.p10_core.specs.declared.statements.Initializer.{Initializer}
use Rattle.p10_core.specs.declared.statements.Initializer.TheVariants.{Single}
use Rattle.p10_core.specs.Views.{plain_value, plain_initializer}
use Rattle.p10_core.specs.Typed.{PlainValue, PlainPlace, statement, PlainStatementForm, set, update, copy, evaluate, asserts, declare, declare_static, block, if_then, if_else, loop, switch, break, continue, return, empty, mark}
use Rattle.p10_absx.specs.Environments.{Environment}
use Rattle.p10_absx.specs.Trails.{Branching}
use Rattle.p10_pass.specs.Leaving.{values_in}
use Rattle.p10_pass.specs.Passing.{Manner, Left, pass_statement, trial_manner}
use Rattle.p10_walk.specs.Ranges.{before, ranges_of}
use Rattle.p10_diff.specs.declared.known.Diff.{Diff}
use Rattle.p10_diff.specs.Differences.{Pair, Differences}
use Rattle.p10_diff.specs.Domain.{assigned, assigned_to, seen, declared_as, after}
use Rattle.p10_diff.specs.Expressions.{up, low}
use Rattle.p10_diff.specs.Knowing.{differences_of}
use Rattle.p10_diff.specs.private.Scopes.{declared_by, without_declared}
use Rattle.p10_diff.specs.private.Executing.{ranges_after}

before_is : (at : At) (form : PlainStatementForm) (env : Environment) → without_declared (declared_by (statement at form)) env ≡ before form env
before_is at (set p v) env = refl
before_is at (update kind op t p v) env = refl
before_is at (copy p q) env = refl
before_is at (evaluate v) env = refl
before_is at (asserts call v) env = refl
before_is at (declare n initializer) env = refl
before_is at (declare_static n) env = refl
before_is at (block ss) env = refl
before_is at (if_then v s) env = refl
before_is at (if_else v s t) env = refl
before_is at (loop head first tested third body) env = refl
before_is at (switch keyword v labels body) env = refl
before_is at break env = refl
before_is at continue env = refl
before_is at (return keyword v) env = refl
before_is at empty env = refl
before_is at (mark kind) env = refl

-- the pass from the environment before a statement leaves what is known after it
pub ranges_told : (p : Pair) (at : At) (form : PlainStatementForm) (m : Manner) (start env : Environment) (l : Left) (normal : Option Environment) → m ≡ trial_manner p.variables → env ≡ without_declared (declared_by (statement at form)) start →
    l ≡ pass_statement m (statement at form) env → normal ≡ l.normal → normal ≡ ranges_after p (statement at form) start
ranges_told p at form m start env l normal trial before_it passed is =
    is ∙ ap (λ (l : Left). l.normal) (passed ∙ (λ i. pass_statement (trial i) (statement at form) ((before_it ∙ before_is at form start) i)))

-- a declaration with a value
pub declared_told : (p : Pair) (n : ℕ) (initial : Initializer) (v : Value) (e seen_so r : Differences) (after : Environment) → initial ≡ Single v → seen_so ≡ seen p n e → r ≡ assigned p n (up p (plain_value v) seen_so) (low p (plain_value v) seen_so) seen_so after →
    r ≡ declared_as p n (plain_initializer initial) e after
declared_told p n initial v e seen_so r after is same told =
    told ∙ (ap (λ d. assigned p n (up p (plain_value v) d) (low p (plain_value v) d) d after) same ∙ ap (λ x. declared_as p n (plain_initializer x) e after) (sym is))

-- ## Where ranges are known

pub carried : (f : Environment → Differences) (o : Option Environment) (told : Option Branching) (env : Branching) (r : Differences) → values_in told ≡ o → told ≡ Some env → r ≡ f env.values → Some r ≡ option_map f o
carried f o told env r is some step = ap Some step ∙ ap (option_map f) (sym (ap values_in some) ∙ is)

pub none_carried : (f : Environment → Differences) (o : Option Environment) (told : Option Branching) → values_in told ≡ o → told ≡ None → None ≡ option_map f o
none_carried f o told is none = ap (option_map f) (sym (ap values_in none) ∙ is)

-- ## By the form of a statement

-- an assignment
pub set_after : (p : Pair) (at : At) (form : PlainStatementForm) (q : PlainPlace) (v : PlainValue) (e : Differences) (r : Result (Option Diff) AllocError) → form ≡ set q v →
    IfOk r (λ d. option_map differences_of d ≡ option_map (assigned_to p q (up p v e) (low p v e) e) (ranges_after p (statement at form) e.ranges)) → IfOk r (λ d. option_map differences_of d ≡ after p form e)
set_after p at form q v e r is told =
    IfOk-weaker r (λ d. option_map differences_of d ≡ option_map (assigned_to p q (up p v e) (low p v e) e) (ranges_after p (statement at form) e.ranges)) (λ d. option_map differences_of d ≡ after p form e)
    (λ d so. so ∙ (ap (λ f. option_map (assigned_to p q (up p v e) (low p v e) e) ((ranges_of p.variables).after f e.ranges)) is ∙ ap (λ f. after p f e) (sym is))) told

-- whether a statement without parts does to ranges alone what it does
abbrev pub is_ranged : PlainStatementForm → Bool
is_ranged (set q v) = false
is_ranged (update kind op t q v) = false
is_ranged (declare n initializer) = false
is_ranged (asserts call v) = false
is_ranged form = true

ranged_is : (p : Pair) (form : PlainStatementForm) (e : Differences) → is_ranged form ≡ true → option_map (λ ranges. record e { ranges = ranges }) ((ranges_of p.variables).after form e.ranges) ≡ after p form e
ranged_is p (set q v) e is = absurd cc
ranged_is p (update kind op t q v) e is = absurd cc
ranged_is p (copy q q2) e is = refl
ranged_is p (evaluate v) e is = refl
ranged_is p (asserts call v) e is = absurd cc
ranged_is p (declare n initializer) e is = absurd cc
ranged_is p (declare_static n) e is = refl
ranged_is p (block ss) e is = refl
ranged_is p (if_then v s) e is = refl
ranged_is p (if_else v s t) e is = refl
ranged_is p (loop head first tested third body) e is = refl
ranged_is p (switch keyword v labels body) e is = refl
ranged_is p break e is = refl
ranged_is p continue e is = refl
ranged_is p (return keyword v) e is = refl
ranged_is p empty e is = refl
ranged_is p (mark kind) e is = refl

pub ranged_after : (p : Pair) (at : At) (form : PlainStatementForm) (e : Differences) (r : Result (Option Diff) AllocError) → is_ranged form ≡ true →
    IfOk r (λ d. option_map differences_of d ≡ option_map (λ ranges. record e { ranges = ranges }) (ranges_after p (statement at form) e.ranges)) → IfOk r (λ d. option_map differences_of d ≡ after p form e)
ranged_after p at form e r is told =
    IfOk-weaker r (λ d. option_map differences_of d ≡ option_map (λ ranges. record e { ranges = ranges }) (ranges_after p (statement at form) e.ranges)) (λ d. option_map differences_of d ≡ after p form e)
    (λ d so. so ∙ ranged_is p form e is) told
