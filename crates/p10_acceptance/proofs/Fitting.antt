-- When the claims of the loops to which a pass comes fit what is known at their entries; statements without loops and jumps.
use Rattle.std.proofs.Common.{◌≡◌, ℕ, suc, Bool, true, false, List, [], ◌∷◌, Option, Some, None, refl, ap, ◌∙◌}
use Rattle.std.specs.Prelude.{slice_get, if◌then◌else◌, is_some, ◌||◌, ◌&&◌, ◌⊎◌, IfSome}
use Rattle.p10_range.specs.Ranges.{IsWithin}
use Rattle.p10_range.specs.Laws.{IsOfType}
use Rattle.p10_core.specs.declared.statements.LoopKeyword.{LoopKeyword}
use Rattle.p10_core.specs.declared.statements.LoopKeyword.TheVariants.{While, Do, For}
use Rattle.p10_core.specs.Constants.{integer_of}
use Rattle.p10_core.specs.Rows.{is_integer}
use Rattle.p10_core.specs.Typed.{PlainValue, PlainItem, PlainWritten, one_scalar, scalars_of_text, PlainInitializer, not_initialized, single, copied, listed, PlainLabels, PlainStatement, statement, PlainStatementForm, set, update, copy, evaluate, asserts, declare, block, if_then, if_else, loop, switch, PlainStatements, no_statements, more_statements, PlainVariable}
use Rattle.p10_core.specs.WholePrograms.{is_expression, is_variable_declaration, AllOf, AreClauses}
use Rattle.p10_cert.specs.declared.claims.Rank.TheVariants.{Task}
use Rattle.p10_cert.specs.Claims.{Value, Loop, Claims}
use Rattle.p10_absx.specs.Abstract.{Abstract}
use Rattle.p10_absx.specs.Environments.{Environment, known, hull_reached}
use Rattle.p10_absx.specs.Assessing.{assess, known_where}
use Rattle.p10_pass.specs.Scopes.{form_assigns}
use Rattle.p10_pass.specs.Claiming.{range_claimed, head_of, ranges_hold, ranges_hold_reached, loop_claimed}
use Rattle.p10_pass.specs.Arguments.{has_value}
use Rattle.p10_pass.specs.Passing.{Left, where_going, reached, followed, Manner, value_passed, items_passed, integer_declared, other_declared, declared, tested_in, Round, round_of, is_labelled, pass_statement, pass_statements, trial_manner}

-- a claim of a loop fits what is known at its entry: its ranges have numbers of the types, and a variable that the loop doesn't assign has no
-- more than at entry; they hold at entry and, by a trial pass, again on each way back; and the loop is the task, or something stands for it
pub record ClaimFits (variables : List PlainVariable) (Stands : ℕ → Environment → Type 0) (claim : Loop) (number : ℕ) (assigned : ℕ → Bool) (trial : Environment → Round) (entry : Environment) : Type 0 where
  pub typed : (n : ℕ) (v : PlainVariable) → slice_get variables n ≡ Some v → is_some (known entry n) ≡ true → IsOfType (integer_of v.type) (range_claimed claim.vars n (integer_of v.type))
  pub same : (n : ℕ) (v : PlainVariable) (a : Abstract) → slice_get variables n ≡ Some v → known entry n ≡ Some a → assigned n ≡ false → IsWithin (range_claimed claim.vars n (integer_of v.type)) a.range
  pub at_entry : ranges_hold claim 0 variables entry ≡ true
  pub on_back : ranges_hold_reached claim variables (trial (head_of claim variables entry)).back ≡ true
  pub ranked : (claim.rank ≡ Task) ⊎ Stands number entry

-- a statement that may stand in a clause of a `for`
abbrev pub is_plain : PlainStatement → Bool
is_plain s = is_variable_declaration s || is_expression s

module _ (variables : List PlainVariable) (calls : Option Claims) (loops : Option (List Loop)) (result : Option Value) (Stands : ℕ → Environment → Type 0) where
  abbrev pub m : Manner
  m = record { calls = calls; loops = loops; result = result; variables = variables }

  -- the round of a loop in a trial
  abbrev pub trial_round : LoopKeyword → Option PlainValue → PlainStatements → PlainStatement → Environment → Round
  trial_round keyword tested third body = round_of (trial_manner variables) keyword tested (λ env. pass_statements (trial_manner variables) third env) (λ env. pass_statement (trial_manner variables) body env)

  -- where the body of a loop is entered from its head
  abbrev pub entered : LoopKeyword → Option PlainValue → Environment → Option Environment
  entered Do tested head = Some head
  entered While tested head = (tested_in m tested head).truth
  entered For tested head = (tested_in m tested head).truth

  abbrev mutual
    -- the claim of each loop to which a pass over a statement comes fits
    pub Fitted : PlainStatement → Environment → Type 0
    Fitted (statement at form) env = FittedForm form env

    pub FittedForm : PlainStatementForm → Environment → Type 0
    FittedForm (block xs) env = AllFitted xs env
    FittedForm (if_then v x) env = IfSome (known_where true env (assess calls v env)) (λ e. Fitted x e)
    FittedForm (if_else v x y) env = IfSome (known_where true env (assess calls v env)) (λ e. Fitted x e) × IfSome (known_where false env (assess calls v env)) (λ e. Fitted y e)
    FittedForm (loop head first tested third body) env = IfSome loops (λ ls. IfSome (pass_statements m first env).normal (λ entry.
        ClaimFits variables Stands (loop_claimed ls head.number) head.number (λ n. form_assigns n (loop head first tested third body)) (trial_round head.keyword tested third body) entry
        × IfSome (entered head.keyword tested (head_of (loop_claimed ls head.number) variables entry)) (λ e. Fitted body e)))
    FittedForm (switch keyword v labels body) env = has_value calls v env ≡ true → SwitchFitted labels body env
    FittedForm form env = Unit {0}

    pub AllFitted : PlainStatements → Environment → Type 0
    AllFitted no_statements env = Unit {0}
    AllFitted (more_statements x rest) env = Fitted x env × IfSome (pass_statement m x env).normal (λ e. AllFitted rest e)

    pub SwitchFitted : PlainLabels → PlainStatement → Environment → Type 0
    SwitchFitted labels (statement at form) env = SwitchFormFitted labels form env

    pub SwitchFormFitted : PlainLabels → PlainStatementForm → Environment → Type 0
    SwitchFormFitted labels (block xs) env = FromFitted labels 0 xs env None
    SwitchFormFitted labels form env = Unit {0}

    pub FromFitted : PlainLabels → ℕ → PlainStatements → Environment → Option Environment → Type 0
    FromFitted labels k no_statements env before = Unit {0}
    FromFitted labels k (more_statements x rest) env before =
        let entered : Option Environment = if is_labelled k labels then hull_reached before (Some env) else before in
        IfSome entered (λ e. Fitted x e) × FromFitted labels (suc k) rest env (where_going entered (λ env. pass_statement m x env)).normal

  -- ## Clauses of loops

  -- no state leaves statements by a `break` or a `continue`
  pub record NoJumps (l : Left) : Type 0 where
    pub breaks : l.breaks ≡ None
    pub continues : l.continues ≡ None

  followed_jumps : (a b : Left) → NoJumps a → NoJumps b → NoJumps (followed a b)
  followed_jumps a b h k = record { breaks = ap (λ o. hull_reached o b.breaks) h.breaks ∙ k.breaks; continues = ap (λ o. hull_reached o b.continues) h.continues ∙ k.continues }

  going_jumps : (o : Option Environment) (go : Environment → Left) → ((e : Environment) → NoJumps (go e)) → NoJumps (where_going o go)
  going_jumps None go h = record { breaks = refl; continues = refl }
  going_jumps (Some e) go h = h e

  items_jumps : (items : List PlainItem) (env : Environment) → NoJumps (items_passed m items env)
  items_jumps [] env = record { breaks = refl; continues = refl }
  items_jumps (item ∷ items) env = first item.written (λ e. items_jumps items e)
    where
      first : (written : PlainWritten) → ((e : Environment) → NoJumps (items_passed m items e)) → NoJumps (items_passed m (record item { written = written } ∷ items) env)
      first (one_scalar v) h = followed_jumps (value_passed m v env) _ (record { breaks = refl; continues = refl }) (going_jumps (value_passed m v env).normal (λ env. items_passed m items env) h)
      first (scalars_of_text bytes) h = followed_jumps (reached (Some env)) _ (record { breaks = refl; continues = refl }) (h env)

  declared_jumps : (n : ℕ) (v : Option PlainVariable) (initializer : PlainInitializer) (env : Environment) → NoJumps (declared m n v initializer env)
  declared_jumps n None initializer env = record { breaks = refl; continues = refl }
  declared_jumps n (Some v) initializer env = at (v.frame && is_integer v.type)
    where
      integer : (initializer : PlainInitializer) → NoJumps (integer_declared m n (integer_of v.type) initializer env)
      integer not_initialized = record { breaks = refl; continues = refl }
      integer (single v) = record { breaks = refl; continues = refl }
      integer (copied p) = record { breaks = refl; continues = refl }
      integer (listed at items) = record { breaks = refl; continues = refl }

      other : (initializer : PlainInitializer) → NoJumps (other_declared m initializer env)
      other not_initialized = record { breaks = refl; continues = refl }
      other (single v) = record { breaks = refl; continues = refl }
      other (copied p) = record { breaks = refl; continues = refl }
      other (listed at items) = items_jumps items env

      at : (b : Bool) → NoJumps (if b then integer_declared m n (integer_of v.type) initializer env else other_declared m initializer env)
      at true = integer initializer
      at false = other initializer

  plain_jumps : (x : PlainStatement) → is_plain x ≡ true → (env : Environment) → NoJumps (pass_statement m x env)
  plain_jumps (statement at (set p v)) e env = record { breaks = refl; continues = refl }
  plain_jumps (statement at (update kind op t p v)) e env = record { breaks = refl; continues = refl }
  plain_jumps (statement at (copy p q)) e env = record { breaks = refl; continues = refl }
  plain_jumps (statement at (evaluate v)) e env = record { breaks = refl; continues = refl }
  plain_jumps (statement at (asserts call v)) e env = record { breaks = refl; continues = refl }
  plain_jumps (statement at (declare n initializer)) e env = declared_jumps n (slice_get variables n) initializer env
  plain_jumps x e env = absurd cc

  pub all_jump : (xs : PlainStatements) → AllOf is_plain xs → (env : Environment) → NoJumps (pass_statements m xs env)
  all_jump no_statements h env = record { breaks = refl; continues = refl }
  all_jump (more_statements x rest) h env = followed_jumps (pass_statement m x env) _ (plain_jumps x h.0 env) (going_jumps (pass_statement m x env).normal (λ env. pass_statements m rest env) (λ e. all_jump rest h.1 e))

  plain_fitted : (x : PlainStatement) → is_plain x ≡ true → (env : Environment) → Fitted x env
  plain_fitted (statement at (set p v)) e env = tt
  plain_fitted (statement at (update kind op t p v)) e env = tt
  plain_fitted (statement at (copy p q)) e env = tt
  plain_fitted (statement at (evaluate v)) e env = tt
  plain_fitted (statement at (asserts call v)) e env = tt
  plain_fitted (statement at (declare n initializer)) e env = tt
  plain_fitted x e env = absurd cc

  -- in clauses there are no loops
  pub all_fitted : (xs : PlainStatements) → AllOf is_plain xs → (env : Environment) → AllFitted xs env
  all_fitted no_statements h env = tt
  all_fitted (more_statements x rest) h env = (plain_fitted x h.0 env, at (pass_statement m x env).normal (λ e. all_fitted rest h.1 e))
    where
      at : (o : Option Environment) → ((e : Environment) → AllFitted rest e) → IfSome o (λ e. AllFitted rest e)
      at None k = tt
      at (Some e) k = k e

  expressions_plain : (xs : PlainStatements) → AllOf is_expression xs → AllOf is_plain xs
  expressions_plain no_statements h = tt
  expressions_plain (more_statements x rest) h = (or_true (is_variable_declaration x) (is_expression x) h.0, expressions_plain rest h.1)
    where
      or_true : (a b : Bool) → b ≡ true → a || b ≡ true
      or_true true b e = refl
      or_true false b e = e

  pub first_plain : (keyword : LoopKeyword) (first : PlainStatements) (tested : Option PlainValue) (third : PlainStatements) → AreClauses keyword first tested third → AllOf is_plain first
  first_plain For first tested third h = h.0
  first_plain While no_statements (Some v) no_statements h = tt
  first_plain Do no_statements (Some v) no_statements h = tt
  first_plain keyword first tested third h = absurd h

  pub third_plain : (keyword : LoopKeyword) (first : PlainStatements) (tested : Option PlainValue) (third : PlainStatements) → AreClauses keyword first tested third → AllOf is_plain third
  third_plain For first tested third h = expressions_plain third h.1
  third_plain While no_statements (Some v) no_statements h = tt
  third_plain Do no_statements (Some v) no_statements h = tt
  third_plain keyword first tested third h = absurd h

-- ## Trials

-- in a trial no loop has a claim, so all fit
module _ (variables : List PlainVariable) (result : Option Value) (Stands : ℕ → Environment → Type 0) where
  if_some : (o : Option Environment) (P : Environment → Type 0) → ((e : Environment) → P e) → IfSome o P
  if_some None P h = tt
  if_some (Some e) P h = h e

  mutual
    pub trial_fitted : (x : PlainStatement) (env : Environment) → Fitted variables None None result Stands x env
    trial_fitted (statement at (block xs)) env = trials_fitted xs env
    trial_fitted (statement at (if_then v x)) env = if_some (known_where true env (assess None v env)) (λ e. Fitted variables None None result Stands x e) (λ e. trial_fitted x e)
    trial_fitted (statement at (if_else v x y)) env = (
      if_some (known_where true env (assess None v env)) (λ e. Fitted variables None None result Stands x e) (λ e. trial_fitted x e),
      if_some (known_where false env (assess None v env)) (λ e. Fitted variables None None result Stands y e) (λ e. trial_fitted y e),
    )
    trial_fitted (statement at (loop head first tested third body)) env = tt
    trial_fitted (statement at (switch keyword v labels (statement there (block xs)))) env = λ e. trial_from labels 0 xs env None
    trial_fitted (statement at (switch keyword v labels body)) env = λ e. tt
    trial_fitted (statement at form) env = tt

    pub trials_fitted : (xs : PlainStatements) (env : Environment) → AllFitted variables None None result Stands xs env
    trials_fitted no_statements env = tt
    trials_fitted (more_statements x rest) env = (
      trial_fitted x env,
      if_some (pass_statement (m variables None None result Stands) x env).normal (λ e. AllFitted variables None None result Stands rest e) (λ e. trials_fitted rest e),
    )

    trial_from : (labels : PlainLabels) (k : ℕ) (xs : PlainStatements) (env : Environment) (before : Option Environment) → FromFitted variables None None result Stands labels k xs env before
    trial_from labels k no_statements env before = tt
    trial_from labels k (more_statements x rest) env before =
        let entered : Option Environment = if is_labelled k labels then hull_reached before (Some env) else before in (
          if_some entered (λ e. Fitted variables None None result Stands x e) (λ e. trial_fitted x e),
          trial_from labels (suc k) rest env (where_going entered (λ env. pass_statement (m variables None None result Stands) x env)).normal,
        )
