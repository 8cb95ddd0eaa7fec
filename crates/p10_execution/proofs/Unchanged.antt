-- Variables that a part of a function neither assigns nor declares stand for what they stood for.
use Rattle.std.proofs.Common.{◌≡◌, ℕ, zero, eqb, arith, Bool, true, false, List, ◌++◌, refl, ◌∙◌, ap, sym, slice_get}
use Rattle.std.specs.Prelude.{◌||◌, nat_eq}
use Rattle.std.proofs.lemmas.Bool.{eqb-true}
use Rattle.std.proofs.lemmas.Bool.Decides.{nat_tests}
use Rattle.p10_core.specs.Typed.{PlainPlace, place, variable, global, literal, index, member, dereference, PlainStatement, statement, set, update, copy, evaluate, asserts, declare, block, if_then, if_else, loop, switch, PlainStatements, no_statements, more_statements}
use Rattle.p10_core.specs.WholePrograms.{Region, after, after_all, is_among, is_expression, AllOf, declared_in, declared_of, IsWholeStatement, AreWholeStatements}
use Rattle.p10_meaning.specs.States.{State, Progress, gives, ends}
use Rattle.p10_meaning.specs.Values.{Setting}
use Rattle.p10_meaning.specs.Statements.{Frame, Flow, normal, broken, continued, returned, Done, go_on, before_third, execute, execute_from, round}
use Rattle.p10_meaning.specs.Variables.{is_variable_place, may_change, any_may_change, OnGiven}
use Rattle.p10_meaning.proofs.Staying.{variables_stay}
use Rattle.p10_sums.specs.Keeping.{HoldsOf}
use Rattle.p10_pass.specs.Scopes.{is_target, assigns, any_assigns}
use Rattle.p10_execution.proofs.Giving.{holds_then}
use Rattle.p10_execution.proofs.Numbers.{or_false, among_append}
use Rattle.p10_execution.proofs.ScopedEnds.{third_expressions}

-- ## What is neither assigned nor declared isn't changed

target_same : (n : ℕ) (p : PlainPlace) → is_target n p ≡ is_variable_place n p
target_same n (place at t (variable m)) = refl
target_same n (place at t (global m)) = refl
target_same n (place at t (literal m bytes)) = refl
target_same n (place at t (index a i)) = refl
target_same n (place at t (member p m)) = refl
target_same n (place at t (dereference v)) = refl

expression_changes : (n : ℕ) (x : PlainStatement) → is_expression x ≡ true → may_change n x ≡ assigns n x
expression_changes n (statement at (set p v)) e = sym (target_same n p)
expression_changes n (statement at (update kind op t p v)) e = sym (target_same n p)
expression_changes n (statement at (copy p q)) e = refl
expression_changes n (statement at (evaluate v)) e = refl
expression_changes n (statement at (asserts call v)) e = refl
expression_changes n x e = absurd cc

pub expressions_change : (n : ℕ) (xs : PlainStatements) → AllOf is_expression xs → any_assigns n xs ≡ false → any_may_change n xs ≡ false
expressions_change n no_statements h e = refl
expressions_change n (more_statements x rest) h e =
    let both : (assigns n x ≡ false) × (any_assigns n rest ≡ false) = or_false (assigns n x) (any_assigns n rest) e in
    ap (λ b. b || any_may_change n rest) (expression_changes n x h.0 ∙ both.0) ∙ expressions_change n rest h.1 both.1

not_among : (n : ℕ) (xs ys : List ℕ) → is_among n (xs ++ ys) ≡ false → (is_among n xs ≡ false) × (is_among n ys ≡ false)
not_among n xs ys e = or_false (is_among n xs) (is_among n ys) (sym (among_append n xs ys) ∙ e)

all_false : (a b c : Bool) → a ≡ false → b ≡ false → c ≡ false → ((a || b) || c) ≡ false
all_false a b c e f g = ap (λ x. (x || b) || c) e ∙ (ap (λ x. x || c) f ∙ g)

turned : (m n : ℕ) → (nat_eq n m || false) ≡ false → eqb m n ≡ false
turned m n d = by_case (eqb m n) refl
  where
    by_case : (b : Bool) → eqb m n ≡ b → eqb m n ≡ false
    by_case true q =
        let e : n ≡ m = sym (eqb-true m n q) in
        let t : nat_eq n m ≡ true = grind (arith, nat_tests, e) in
        absurd cc
    by_case false q = q

mutual
  pub unchanged : (r : Region) (x : PlainStatement) → IsWholeStatement r x → (n : ℕ) → assigns n x ≡ false → is_among n (declared_in x) ≡ false → may_change n x ≡ false
  unchanged r (statement at (set p v)) i n a d = sym (target_same n p) ∙ a
  unchanged r (statement at (update kind op t p v)) i n a d = sym (target_same n p) ∙ a
  unchanged r (statement at (declare m initializer)) i n a d = turned m n d
  unchanged r (statement at (block xs)) i n a d = all_unchanged r xs i n a d
  unchanged r (statement at (if_then v x)) i n a d = unchanged r x i.1 n a d
  unchanged r (statement at (if_else v x z)) i n a d =
      let both : (assigns n x ≡ false) × (assigns n z ≡ false) = or_false (assigns n x) (assigns n z) a in
      let apart = not_among n (declared_in x) (declared_in z) d in
      ap (λ b. b || may_change n z) (unchanged r x i.1 n both.0 apart.0) ∙ unchanged r z i.2 n both.1 apart.1
  unchanged r (statement at (loop head first tested third body)) i n a d =
      let parts : (any_assigns n first ≡ false) × ((any_assigns n third || assigns n body) ≡ false) = or_false (any_assigns n first) (any_assigns n third || assigns n body) a in
      let others : (any_assigns n third ≡ false) × (assigns n body ≡ false) = or_false (any_assigns n third) (assigns n body) parts.1 in
      let apart = not_among n (declared_of first) (declared_in body) d in
      all_false (any_may_change n first) (any_may_change n third) (may_change n body) (all_unchanged r first i.0 n parts.0 apart.0)
      (expressions_change n third (third_expressions head.keyword first tested third i.4) others.0) (unchanged (record (after_all r first) { in_loop = true }) body i.3 n others.1 apart.1)
  unchanged r (statement at (switch keyword v labels body)) i n a d = unchanged (record r { in_switch = true }) body i.1 n a d
  unchanged r (statement at form) i n a d = refl

  pub all_unchanged : (r : Region) (xs : PlainStatements) → AreWholeStatements r xs → (n : ℕ) → any_assigns n xs ≡ false → is_among n (declared_of xs) ≡ false → any_may_change n xs ≡ false
  all_unchanged r no_statements i n a d = refl
  all_unchanged r (more_statements x rest) i n a d =
      let both : (assigns n x ≡ false) × (any_assigns n rest ≡ false) = or_false (assigns n x) (any_assigns n rest) a in
      let apart = not_among n (declared_in x) (declared_of rest) d in
      ap (λ b. b || any_may_change n rest) (unchanged r x i.0 n both.0 apart.0) ∙ all_unchanged (after r x) rest i.1 n both.1 apart.1

-- ## Executions

abbrev pub Stays : ℕ → Frame → Done → State → Type 0
Stays n frame d w = slice_get d.frame.held n ≡ slice_get frame.held n

given_of : (n : ℕ) (frame : Frame) (o : Progress Done) → OnGiven (λ (d : Done). slice_get d.frame.held n ≡ slice_get frame.held n) o → HoldsOf (Stays n frame) o
given_of n frame (gives d w) h = h
given_of n frame (ends end w) h = tt

pub statement_stays : (s : Setting) (x : PlainStatement) (n : ℕ) → may_change n x ≡ false → (frame : Frame) (w : State) → HoldsOf (Stays n frame) (execute s x frame w)
statement_stays s x n e frame w = given_of n frame (execute s x frame w) (variables_stay s x n e frame w)

stays_from : (n : ℕ) (frame mid : Frame) (o : Progress Done) → slice_get mid.held n ≡ slice_get frame.held n → HoldsOf (Stays n mid) o → HoldsOf (Stays n frame) o
stays_from n frame mid (gives d w) e h = h ∙ e
stays_from n frame mid (ends end w) e h = tt

pub statements_stay : (s : Setting) (xs : PlainStatements) (n : ℕ) → any_may_change n xs ≡ false → (frame : Frame) (w : State) → HoldsOf (Stays n frame) (execute_from s 0 xs frame w)
statements_stay s no_statements n e frame w = refl
statements_stay s (more_statements x rest) n e frame w =
    let both : (may_change n x ≡ false) × (any_may_change n rest ≡ false) = or_false (may_change n x) (any_may_change n rest) e in
    holds_then (Stays n frame) (Stays n frame) (execute s x frame w) _ (statement_stays s x n both.0 frame w) (λ d w h. go d.flow d.frame w h (λ w. statements_stay s rest n both.1 d.frame w))
  where
    go : (flow : Flow) (mid : Frame) (w : State) → slice_get mid.held n ≡ slice_get frame.held n → ((w : State) → HoldsOf (Stays n mid) (execute_from s zero rest mid w)) → HoldsOf (Stays n frame) (go_on flow mid w (λ frame w. execute_from s zero rest frame w))
    go normal mid w e k = stays_from n frame mid (execute_from s zero rest mid w) e (k w)
    go broken mid w e k = e
    go continued mid w e k = e
    go (returned x) mid w e k = e

-- a round of a loop
pub round_stays : (s : Setting) (third : PlainStatements) (body : PlainStatement) (n : ℕ) → any_may_change n third ≡ false → may_change n body ≡ false → (frame : Frame) (w : State) → HoldsOf (Stays n frame) (round s third body frame w)
round_stays s third body n e g frame w = holds_then (Stays n frame) (Stays n frame) (execute s body frame w) _ (statement_stays s body n g frame w) (λ d w h. go d.flow d.frame w h)
  where
    go : (flow : Flow) (mid : Frame) (w : State) → slice_get mid.held n ≡ slice_get frame.held n → HoldsOf (Stays n frame) (before_third flow mid w (λ frame w. execute_from s 0 third frame w))
    go normal mid w h = stays_from n frame mid (execute_from s 0 third mid w) h (statements_stay s third n e mid w)
    go continued mid w h = stays_from n frame mid (execute_from s 0 third mid w) h (statements_stay s third n e mid w)
    go broken mid w h = h
    go (returned x) mid w h = h
