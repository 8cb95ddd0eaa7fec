-- Rounds of a loop in trials: from a narrower head no more is left.
use Rattle.std.proofs.Common.{◌≡◌, ℕ, Bool, true, false, [], Option, None, refl, ap}
use Rattle.p10_base.specs.declared.at.At.{At}
use Rattle.p10_core.specs.declared.statements.LoopHead.{LoopHead}
use Rattle.p10_core.specs.Constants.{integer_of}
use Rattle.p10_core.specs.Typed.{PlainValue, PlainStatement, statement, loop, PlainStatements, PlainFunction, PlainProgram}
use Rattle.p10_core.specs.WholePrograms.{Region, surroundings_of, after_all, is_among, IsWholeStatement, declared_in, declared_of}
use Rattle.p10_absx.specs.Environments.{Environment}
use Rattle.p10_pass.specs.Passing.{Round, pass_statement, pass_statements, trial_manner}
use Rattle.p10_execution.specs.Scoping.{IsBefore}
use Rattle.p10_execution.proofs.TopDeclarations.{declares_here, declares_at_top, top_is_declared, not_here}
use Rattle.p10_execution.proofs.ScopedEnds.{nothing, third_declares, ends_wider, before_scoped, before_nothing}
use Rattle.p10_execution.proofs.PassedScopes.{RoundScoped, round_scope, statement_scoped, statements_scoped}
use Rattle.p10_acceptance.proofs.Narrowing.{whole_typed, Narrower}
use Rattle.p10_acceptance.proofs.Values.{AreTyped}
use Rattle.p10_acceptance.proofs.Fitting.{entered, trial_round, third_plain, all_fitted, trial_fitted}
use Rattle.p10_acceptance.proofs.Rounds.{maybe_is, RoundFits, round_fits}
use Rattle.p10_acceptance.proofs.Statements.{IsIn, in_after_all, maybe_tests, entered_scope, statement_fits, statements_fit}

-- a call gives any value of its type
pub any_typed : (p : PlainProgram) → AreTyped (surroundings_of p) None
any_typed p t n x e b = whole_typed (integer_of t)

-- nothing is asked for loops without claims
abbrev pub NoneAsked : ℕ → Environment → Type 0
NoneAsked n e = Unit {0}

module _ (p : PlainProgram) (f : PlainFunction) (r : Region) (h : IsIn p f r) (at : At) (head : LoopHead) (first : PlainStatements) (tested : Option PlainValue) (third : PlainStatements) (body : PlainStatement) (i : IsWholeStatement r (statement at (loop head first tested third body))) where
  abbrev inner : Region
  inner = after_all r first

  -- the round of the loop in a trial
  abbrev pub trial : Environment → Round
  trial e = trial_round f.variables None None None NoneAsked head.keyword tested third body e

  pub rounds_narrower : (e w : Environment) → IsBefore f.variables (declared_in body) e → Narrower f.variables e w → RoundFits f.variables None None None (integer_of f.result) NoneAsked (trial e) (trial w)
  rounds_narrower e w b n =
      let j : IsIn p f inner = in_after_all p f r first h in
      round_fits f.variables None None None (integer_of f.result) NoneAsked tested third body e w n b.knows
      (maybe_tests p f None (any_typed p) tt None None (λ r. refl) NoneAsked inner j tested i.1)
      (λ d v k m. statements_fit p f None (any_typed p) tt None None (λ r. refl) NoneAsked inner j third i.2 d v
      (before_nothing f.variables (declared_of third) d (third_declares head.keyword first tested third i.4) k) m
      (all_fitted f.variables None None None NoneAsked third (third_plain f.variables None None None NoneAsked head.keyword first tested third i.4) d))
      (λ d s. ends_wider f.variables (λ k. declares_here k body) nothing d (pass_statement (trial_manner f.variables) body d) (λ k o. not_here k body i.5)
      (statement_scoped f.variables None None None (record inner { in_loop = true }) body i.3 d (before_scoped f.variables nothing (declared_in body) e d b s (λ k o. refl))))
      head.keyword
      (λ d v q m. statement_fits p f None (any_typed p) tt None None (λ r. refl) NoneAsked (record inner { in_loop = true }) (record { program_is = j.program_is; function_is = j.function_is }) body i.3 d v
      (before_scoped f.variables nothing (declared_in body) e d b (maybe_is f.variables nothing e (entered f.variables None None None NoneAsked head.keyword tested e) d (entered_scope p f None (any_typed p) tt None None (λ r. refl) NoneAsked head.keyword tested e b.knows) q) (λ k o. refl)) m
      (trial_fitted f.variables None NoneAsked body d))

  -- a round knows the variables of its head
  pub trial_scoped : (e : Environment) → IsBefore f.variables (declared_in body) e → RoundScoped f.variables None None None e (trial e)
  trial_scoped e b = round_scope f.variables None None None tested (λ d. pass_statements (trial_manner f.variables) third d) (λ d. pass_statement (trial_manner f.variables) body d) e b.knows
      (λ d s. ends_wider f.variables (λ k. declares_at_top k third) nothing d (pass_statements (trial_manner f.variables) third d) (λ k o. top_nothing k (third_declares head.keyword first tested third i.4))
      (statements_scoped f.variables None None None inner third i.2 d (before_nothing f.variables (declared_of third) d (third_declares head.keyword first tested third i.4) s.knows)))
      (λ d s. ends_wider f.variables (λ k. declares_here k body) nothing d (pass_statement (trial_manner f.variables) body d) (λ k o. not_here k body i.5)
      (statement_scoped f.variables None None None (record inner { in_loop = true }) body i.3 d (before_scoped f.variables nothing (declared_in body) e d b s (λ k o. refl))))
      head.keyword
    where
      top_nothing : (k : ℕ) → declared_of third ≡ [] → declares_at_top k third ≡ false
      top_nothing k q = by_case (declares_at_top k third) refl
        where
          by_case : (t : Bool) → declares_at_top k third ≡ t → declares_at_top k third ≡ false
          by_case true o = let x : is_among k (declared_of third) ≡ true = top_is_declared k third o in let none : is_among k (declared_of third) ≡ false = ap (is_among k) q in absurd cc
          by_case false o = o
