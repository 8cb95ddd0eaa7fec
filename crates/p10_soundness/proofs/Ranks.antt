-- Lawful evidence that stands for a loop bounds the turns of that loop.
use Rattle.std.proofs.Common.{◌≡◌, ℕ, zero, suc, Bool, true, List, [], ◌∷◌, ◌++◌, map, length, refl, sym, ◌∙◌, ap, subst, ℤ, Option, Some, None, slice_get}
use Rattle.std.specs.Prelude.{Contains}
use Rattle.std.specs.Option.{option_map}
use Rattle.std.proofs.lemmas.List.{map-append}
use Rattle.std.proofs.lemmas.Option.{slice_get-map, slice_get_read}
use Rattle.p10_range.specs.Ranges.{Interval}
use Rattle.p10_range.specs.Rows.{values_of}
use Rattle.p10_core.specs.declared.statements.LoopKeyword.{LoopKeyword}
use Rattle.p10_core.specs.declared.statements.LoopKeyword.TheVariants.{While, Do, For}
use Rattle.p10_core.specs.Typed.{PlainStatement, statement, block, if_then, if_else, loop, switch, PlainStatements, no_statements, more_statements, PlainVariable, PlainFunction, PlainProgram}
use Rattle.p10_core.specs.Constants.{integer_of}
use Rattle.p10_core.specs.WholePrograms.{IsWholeProgram}
use Rattle.p10_cert.specs.Claims.{Loop}
use Rattle.p10_meaning.specs.States.{State, Progress}
use Rattle.p10_meaning.specs.Values.{Held}
use Rattle.p10_meaning.specs.Statements.{Frame, Done, test, round}
use Rattle.p10_meaning.specs.Calling.{Depth, setting_of, call_at}
use Rattle.p10_sums.specs.Keeping.{OnGives, OnBack, TurnsKeep}
use Rattle.p10_absx.specs.Abstract.{Abstract, only_range}
use Rattle.p10_absx.specs.Environments.{Environment}
use Rattle.p10_absx.specs.Describing.{DescribesOne, DescribesVariable, Describes, set_to}
use Rattle.p10_pass.specs.Claiming.{loop_claimed}
use Rattle.p10_turns.specs.LoopParts.{LoopParts, loops_within, loops_among}
use Rattle.p10_turns.specs.Entrances.{EntersFromTest, EntersAtMost as EntersNoMoreThan}
use Rattle.p10_turns.specs.Ranked.{RangesDescribe}
use Rattle.p10_turns.specs.Laws.{IsLawful}
use Rattle.p10_turns.proofs.Numbering.{loops_numbered}
use Rattle.p10_check.specs.Passes.{Standing}
use Rattle.p10_execution.specs.Bounding.{LoopTree, loop_trees, trees_among, EntersAtMost, IsBounded}
use Rattle.p10_soundness.proofs.Mapping.{on_gives, on_back}

-- ## The same loops

abbrev parts_of : LoopTree → LoopParts
parts_of t = record { head = t.head; first = t.first; tested = t.tested; third = t.third; body = t.body }

mutual
  parts_within : (x : PlainStatement) → map parts_of (loop_trees x) ≡ loops_within x
  parts_within (statement at (block xs)) = parts_among xs
  parts_within (statement at (if_then v x)) = parts_within x
  parts_within (statement at (if_else v x z)) = map-append parts_of (loop_trees x) (loop_trees z) ∙ (ap (λ l. l ++ map parts_of (loop_trees z)) (parts_within x) ∙ ap (λ l. loops_within x ++ l) (parts_within z))
  parts_within (statement at (loop head first tested third body)) = ap (λ l. record { head = head; first = first; tested = tested; third = third; body = body } ∷ l) (parts_within body)
  parts_within (statement at (switch keyword v labels body)) = parts_within body
  parts_within (statement at form) = refl

  parts_among : (xs : PlainStatements) → map parts_of (trees_among xs) ≡ loops_among xs
  parts_among no_statements = refl
  parts_among (more_statements x rest) =
      map-append parts_of (loop_trees x) (trees_among rest) ∙ (ap (λ l. l ++ map parts_of (trees_among rest)) (parts_within x) ∙ ap (λ l. loops_within x ++ l) (parts_among rest))

-- the place of an element
place_there : (ts : List LoopTree) (t : LoopTree) → Contains ts t → (k : ℕ) × (slice_get ts k ≡ Some t)
place_there ts t h = (h.0, slice_get_read ts (length ts) h.0 t refl h.1 (sym h.2))

-- a loop of a whole function stands at the place of its number
loop_there : (p : PlainProgram) → IsWholeProgram p → (number : ℕ) (f : PlainFunction) → slice_get p.functions number ≡ Some f → (t : LoopTree) → Contains (trees_among f.body) t → slice_get (loops_among f.body) t.head.number ≡ Some (parts_of t)
loop_there p whole number f there t h =
    let at : (k : ℕ) × (slice_get (trees_among f.body) k ≡ Some t) = place_there (trees_among f.body) t h in
    let found : slice_get (loops_among f.body) at.0 ≡ Some (parts_of t) =
    ap (λ l. slice_get l at.0) (sym (parts_among f.body)) ∙ (slice_get-map parts_of (trees_among f.body) at.0 ∙ ap (option_map parts_of) at.1) in
    subst (λ k. slice_get (loops_among f.body) k ≡ Some (parts_of t)) (sym (loops_numbered p whole number f there at.0 (parts_of t) found)) found

-- ## The same bounds

module _ (run_test : Frame → State → Progress Bool) (run_body : Frame → State → Progress Done) where
  abbrev Bounds : ℕ → Frame → State → Type 0
  Bounds n frame w = TurnsKeep n run_test run_body (λ frame w. Unit {0}) (λ frame w. Unit {0}) frame w

  turns_bounded : (n : ℕ) (frame : Frame) (w : State) → EntersFromTest n run_test run_body frame w → Bounds n frame w
  turns_bounded zero frame w h = (tt, h)
  turns_bounded (suc n) frame w h = (
    tt,
    on_gives (λ more w. more ≡ true → OnGives (λ (done : Done) w. OnBack done.flow (EntersFromTest n run_test run_body done.frame w)) (run_body frame w))
        (λ more w. more ≡ true → Unit {0} × OnGives (λ (done : Done) w. OnBack done.flow (Bounds n done.frame w)) (run_body frame w)) (run_test frame w)
        (λ more w g e. (
          tt,
          on_gives (λ (done : Done) w. OnBack done.flow (EntersFromTest n run_test run_body done.frame w)) (λ (done : Done) w. OnBack done.flow (Bounds n done.frame w)) (run_body frame w)
              (λ done w k. on_back done.flow (EntersFromTest n run_test run_body done.frame w) (Bounds n done.frame w) (λ k. turns_bounded n done.frame w k) k) (g e),
        )) h,
  )

  entrances_bounded : (keyword : LoopKeyword) (n : ℕ) (frame : Frame) (w : State) → EntersNoMoreThan keyword n run_test run_body frame w → EntersAtMost keyword n run_test run_body frame w
  entrances_bounded While n frame w h = turns_bounded n frame w h
  entrances_bounded For n frame w h = turns_bounded n frame w h
  entrances_bounded Do zero frame w h = absurd h
  entrances_bounded Do (suc n) frame w h = (
    tt,
    on_gives (λ (done : Done) w. OnBack done.flow (EntersFromTest n run_test run_body done.frame w)) (λ (done : Done) w. OnBack done.flow (Bounds n done.frame w)) (run_body frame w)
        (λ done w k. on_back done.flow (EntersFromTest n run_test run_body done.frame w) (Bounds n done.frame w) (λ k. turns_bounded n done.frame w k) k) h,
  )

-- ## Ranges without offsets

ranges_describe : (variables : List PlainVariable) (env : Environment) (outer held : List Held) → Describes variables env outer held → RangesDescribe variables env held
ranges_describe variables env outer held d = record { each = λ n a e. without n a (d.each n a e) }
  where
    one : (all : Interval) (n : ℕ) (a : Abstract) (o : Option ℤ) → DescribesOne outer all n a o → DescribesOne [] all n (only_range a.range) o
    one all n a (Some z) h = record { member = h.member; offset = tt }
    one all n a None h = record { range = h.range; offset = tt }

    without : (n : ℕ) (a : Abstract) → DescribesVariable variables outer held n a → DescribesVariable variables [] held n (only_range a.range)
    without n a h = record { variable = h.variable; there = h.there; frame = h.frame; no_object = h.no_object; describes = one (values_of (integer_of h.variable.type)) n a (set_to held n) h.describes }

-- ## Evidence

pub evidence_bounds : (p : PlainProgram) → IsWholeProgram p → (stands : Standing) → IsLawful p stands → (number : ℕ) (f : PlainFunction) → slice_get p.functions number ≡ Some f → (loops : List Loop) (at : ℕ) (entry : Environment) →
    stands number at entry (loop_claimed loops at) ≡ true → (n : ℕ) (depth : Depth) → IsBounded p n depth number f loops at entry
evidence_bounds p whole stands lawful number f there loops at entry e n depth = record {
  bounded = λ t among number_is scope l b whole_loop before outer frame w sound d.
      entrances_bounded (test (setting_of p n (call_at n p) depth f) t.tested) (round (setting_of p n (call_at n p) depth f) t.third t.body) t.head.keyword (loop_claimed loops at).turns frame w
      (lawful number f there at (parts_of t) (subst (λ k. slice_get (loops_among f.body) k ≡ Some (parts_of t)) number_is (loop_there p whole number f there t among)) entry before (loop_claimed loops at) e n depth frame w sound
      (ranges_describe f.variables entry outer frame.held d));
}
