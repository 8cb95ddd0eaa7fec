-- A claimed loop keeps what its parts keep in each frame that the pass describes there, where it enters its body no more often than so:
-- the step of a walk over statements under claims.
use Rattle.std.proofs.Common.{◌≡◌, ℕ, Bool, true, List, [], subst, Option, Some, slice_get}
use Rattle.p10_core.specs.Typed.{PlainFunction, PlainProgram}
use Rattle.p10_core.specs.WholePrograms.{Region, around, declared_in, IsMaybeTest, IsWholeStatement, IsWholeStatementForm, AreWholeStatements, IsWholeProgram}
use Rattle.p10_cert.specs.Claims.{Value, Loop, Claims}
use Rattle.p10_meaning.specs.States.{State}
use Rattle.p10_meaning.specs.Values.{Setting, Held}
use Rattle.p10_meaning.specs.Statements.{Frame, Done, test, execute, round}
use Rattle.p10_meaning.specs.Calling.{Depth, setting_of, call_at}
use Rattle.p10_meaning.specs.Sound.{region_at}
use Rattle.p10_meaning.proofs.SoundStatements.{scope_after_all}
use Rattle.p10_sums.specs.Keeping.{OnGives, OnBack, LoopKeeps}
use Rattle.p10_absx.specs.Environments.{Environment}
use Rattle.p10_absx.specs.Describing.{Describes}
use Rattle.p10_pass.specs.Claiming.{head_of, ranges_hold, ranges_hold_reached}
use Rattle.p10_pass.specs.Passing.{Manner, manner_in, Round, tested_in, pass_statement, pass_statements}
use Rattle.p10_evaluation.specs.Claimed.{ResultsLie}
use Rattle.p10_execution.specs.Scoping.{KnowsNumbers, IsBefore}
use Rattle.p10_execution.specs.Standing.{StandsSoundly}
use Rattle.p10_execution.specs.Leaving.{NoneFails}
use Rattle.p10_execution.proofs.ScopedEnds.{third_expressions, third_declares}
use Rattle.p10_turns.specs.Entrances.{EntersAtMost}
use Rattle.p10_turns.specs.LoopParts.{LoopParts, form_of, round_under}
use Rattle.p10_turns.specs.Ranked.{RangesDescribe, PartsHold}
use Rattle.p10_turns.proofs.Entries.{entry_describes}
use Rattle.p10_turns.proofs.Rounds.{test_entry, third_entry, keeps_by_parts}
use Rattle.p10_turns.proofs.WholeLoops.{no_third, region_after_all}

module _ (p : PlainProgram) (whole : IsWholeProgram p) (n : ℕ) (depth : Depth) (number : ℕ) (f : PlainFunction) (there : slice_get p.functions number ≡ Some f)
    (calls : Option Claims) (loops : Option (List Loop)) (result : Option Value) (lie : ResultsLie p calls n (call_at n p depth))
    (scope : List ℕ) (l b : Bool) (t : LoopParts) (i : IsWholeStatementForm (region_at p number f scope l b) (form_of t)) (claim : Loop) (entry : Environment) (before : IsBefore f.variables (declared_in t.body) entry) where
  abbrev s : Setting
  s = setting_of p n (call_at n p) depth f

  abbrev m : Manner
  m = manner_in f calls loops result

  abbrev r : Round
  r = round_under m claim t entry

  -- something holds in each frame that an environment describes, if there is one, and of which something is known
  abbrev pub HoldsIn : Option Environment → (Environment → Type 0) → (Frame → State → Type 0) → Type 0
  HoldsIn o Known Keeps = (e : Environment) → o ≡ Some e → Known e → (head : List Held) (frame : Frame) (w : State) → StandsSoundly p f.variables n frame w → Describes f.variables e head frame.held → Keeps frame w

  pub loop_keeps_claims : (TestKeeps BodyKeeps ThirdKeeps : Frame → State → Type 0) → PartsHold r → ranges_hold claim 0 f.variables entry ≡ true → ranges_hold_reached claim f.variables r.back ≡ true →
      HoldsIn (test_entry t.head.keyword (head_of claim f.variables entry) r) (λ e. (tested_in m t.tested e).names ≡ []) TestKeeps →
      HoldsIn r.enters (λ e. IsBefore f.variables (declared_in t.body) e × NoneFails (pass_statement m t.body e)) BodyKeeps →
      HoldsIn (third_entry r) (λ e. KnowsNumbers f.variables e × NoneFails (pass_statements m t.third e)) ThirdKeeps →
      (k : ℕ) (frame : Frame) (w : State) → StandsSoundly p f.variables n frame w → RangesDescribe f.variables entry frame.held → EntersAtMost t.head.keyword k (test s t.tested) (round s t.third t.body) frame w →
      LoopKeeps t.head.keyword k (test s t.tested) (round s t.third t.body) TestKeeps (λ frame w. BodyKeeps frame w × OnGives (λ (d : Done) w. OnBack d.flow (ThirdKeeps d.frame w)) (execute s t.body frame w)) frame w
  loop_keeps_claims TestKeeps BodyKeeps ThirdKeeps parts at_entry on_back tests bodies thirds k frame w stand d often =
      let same = region_after_all p whole number f there t.first scope l b in
      keeps_by_parts p whole n depth number f there calls loops result lie (scope_after_all t.first scope) l b t.tested t.third t.body
      (subst (λ r. IsMaybeTest (around r) t.tested) same i.1) (subst (λ r. AreWholeStatements r t.third) same i.2) (third_expressions t.head.keyword t.first t.tested t.third i.4) (third_declares t.head.keyword t.first t.tested t.third i.4)
      (subst (λ (r : Region). IsWholeStatement (record r { in_loop = true }) t.body) same i.3) i.5 claim entry before TestKeeps BodyKeeps ThirdKeeps t.head.keyword (no_third t.head.keyword t.first t.tested t.third i.4) parts on_back
      (λ e q fine head frame w h. tests e q fine head frame w h.ready h.describes) (λ e q fine head frame w h. bodies e q fine head frame w h.ready h.describes) (λ e q fine head frame w h. thirds e q fine head frame w h.ready h.describes)
      k frame w (record { ready = stand; describes = entry_describes claim f.variables entry frame.held at_entry d }) often
