-- Where no path comes to statements, none leaves them.
use Rattle.std.proofs.Common.{◌≡◌, ℕ, suc, Bool, true, false, refl, ◌∙◌, ap, None}
use Rattle.std.specs.Prelude.{is_none, if◌then◌else◌}
use Rattle.p10_core.specs.declared.statements.LoopKeyword.{LoopKeyword}
use Rattle.p10_core.specs.declared.statements.LoopKeyword.TheVariants.{While, Do, For}
use Rattle.p10_core.specs.Typed.{PlainPlace, place, variable, PlainLabels, PlainStatement, statement, set, update, copy, evaluate, asserts, declare, declare_static, block, if_then, if_else, loop, switch, break, continue, return, empty, mark, PlainStatements, no_statements, more_statements}
use Rattle.p10_pass.specs.Passing.{is_labelled}
use Rattle.p10_clean.specs.Settings.{on_both, Ways, goes_on, then_ways, either_ways, target_set, after_loop, after_switch, case_settings, ways_of, ways_of_all, ways_of_switch, ways_from}

-- no path leaves statements
abbrev pub nowhere : Ways
nowhere = goes_on None

no_target : (p : PlainPlace) → goes_on (target_set p None) ≡ nowhere
no_target (place at t (variable n)) = refl
no_target (place at t form) = refl

no_loop : (keyword : LoopKeyword) → after_loop keyword None nowhere ≡ nowhere
no_loop Do = refl
no_loop While = refl
no_loop For = refl

no_case : (labelled : Bool) → case_settings labelled None None ≡ None
no_case true = refl
no_case false = refl

no_switch : (b : Bool) → on_both (on_both None None) (if b then None else None) ≡ None
no_switch true = refl
no_switch false = refl

mutual
  pub none_leaves : (x : PlainStatement) → ways_of x None ≡ nowhere
  none_leaves (statement at (set p v)) = no_target p
  none_leaves (statement at (update kind op t p v)) = refl
  none_leaves (statement at (copy p q)) = refl
  none_leaves (statement at (evaluate v)) = refl
  none_leaves (statement at (asserts call v)) = refl
  none_leaves (statement at (declare n initializer)) = refl
  none_leaves (statement at (declare_static n)) = refl
  none_leaves (statement at (block ss)) = none_leaves_all ss
  none_leaves (statement at (if_then v x)) = ap (λ a. either_ways a nowhere) (none_leaves x)
  none_leaves (statement at (if_else v x y)) = λ i. either_ways (none_leaves x i) (none_leaves y i)
  none_leaves (statement at (loop head first tested third body)) =
      ap (λ (a : Ways). after_loop head.keyword a.normal (ways_of body a.normal)) (none_leaves_all first) ∙ (ap (after_loop head.keyword None) (none_leaves body) ∙ no_loop head.keyword)
  none_leaves (statement at (switch keyword v labels body)) = none_leaves_switch labels body
  none_leaves (statement at break) = refl
  none_leaves (statement at continue) = refl
  none_leaves (statement at (return keyword v)) = refl
  none_leaves (statement at empty) = refl
  none_leaves (statement at (mark kind)) = refl

  pub none_leaves_all : (xs : PlainStatements) → ways_of_all xs None ≡ nowhere
  none_leaves_all no_statements = refl
  none_leaves_all (more_statements x rest) = ap (λ (a : Ways). then_ways a (ways_of_all rest a.normal)) (none_leaves x) ∙ ap (then_ways nowhere) (none_leaves_all rest)

  pub none_leaves_switch : (labels : PlainLabels) (body : PlainStatement) → ways_of_switch labels body None ≡ nowhere
  none_leaves_switch labels (statement at (block ss)) = ap (after_switch labels None) (none_leaves_cases labels 0 ss) ∙ (λ i. record { normal = no_switch (is_none labels.otherwise) i; breaks = None; continues = None })
  none_leaves_switch labels (statement at form) = refl

  pub none_leaves_cases : (labels : PlainLabels) (k : ℕ) (xs : PlainStatements) → ways_from labels k xs None None ≡ nowhere
  none_leaves_cases labels k no_statements = refl
  none_leaves_cases labels k (more_statements x rest) =
      ap (λ here. then_ways (ways_of x here) (ways_from labels (suc k) rest None (ways_of x here).normal)) (no_case (is_labelled k labels)) ∙
      (ap (λ (a : Ways). then_ways a (ways_from labels (suc k) rest None a.normal)) (none_leaves x) ∙ ap (then_ways nowhere) (none_leaves_cases labels (suc k) rest))
