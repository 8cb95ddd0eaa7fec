-- Rules for how execution goes on after a piece, and statements after which it goes on with the next one.
use Rattle.std.proofs.Common.{ℕ, zero, suc, ◌≤◌, List, [], ◌∷◌, arith, Option, Some, None}
use Rattle.std.specs.Prelude.{slice_set, slice_get}
use Rattle.p10_base.specs.declared.span.Span.{Span}
use Rattle.p10_core.specs.Types.{PlainType}
use Rattle.p10_core.specs.Typed.{place_at, place_type, PlainInitializer, not_initialized, single, copied, listed, PlainStatement, statement, set, update, copy, evaluate as expression, asserts, declare, PlainVariable}
use Rattle.p10_meaning.specs.declared.pointers.Ptr.{Ptr}
use Rattle.p10_meaning.specs.declared.pointers.Scalar.{Scalar}
use Rattle.p10_meaning.specs.declared.pointers.Cell.{Cell}
use Rattle.p10_meaning.specs.Pointers.{unset, holding, first_of}
use Rattle.p10_meaning.specs.Objects.{declared, write_at}
use Rattle.p10_meaning.specs.States.{State, Progress, step, and_then}
use Rattle.p10_meaning.specs.Scalars.{converted_to, operated, unset_cells}
use Rattle.p10_meaning.specs.Values.{Setting, holds, stands, scalars, width, open_object, Target, Variable, Sensor, Element, pointer_to, read_target, asserted, evaluate, discard, locate}
use Rattle.p10_meaning.specs.Statements.{Frame, Flow, normal, broken, continued, returned, Done, holding_at, in_block, write_target, part_of, write_part, copy_scalars, listed_scalars, listed_scalar, fill, initialize, declare_variable, execute}
use Rattle.p10_sums.specs.Keeping.{HoldsOf}
use Rattle.p10_evaluation.proofs.Rules.{holds_step, holds_last, holds_any, holds_or, holds_if}

-- execution goes on in a way of which something holds, where it goes on
abbrev pub Flows : (Flow → Type 0) → Progress Done → Type 0
Flows P o = HoldsOf (λ (done : Done) w. P done.flow) o

-- with the next statement
abbrev pub IsNormal : Flow → Type 0
IsNormal normal = Unit {0}
IsNormal broken = ⊥
IsNormal continued = ⊥
IsNormal (returned x) = ⊥

least : (n : ℕ) → n ≤ n
least n = omega arith

module _ (P : Flow → Type 0) where
  pub after_step : (w : State) (go : State → Progress Done) → ((w : State) → Flows P (go w)) → Flows P (step w go)
  after_step w go h = holds_step (λ (done : Done) w. P done.flow) w.left w go (least w.left) (λ l less. h (record w { left = l }))

  pub after_any : {A : Type 0} (o : Progress A) (go : A → State → Progress Done) → ((a : A) (w : State) → Flows P (go a w)) → Flows P (and_then o go)
  after_any o go h = holds_last (λ a w. Unit {0}) (λ (done : Done) w. P done.flow) o go (holds_any o) (λ a w k. h a w)

  pub block_flows : (run : Frame → State → Progress Done) (frame : Frame) (w : State) → Flows P (run (record frame { opened = [] }) w) → Flows P (in_block run frame w)
  block_flows run frame w h = holds_last (λ (done : Done) w. P done.flow) (λ (done : Done) w. P done.flow) (run (record frame { opened = [] }) w) _ h (λ d u k. k)

  module _ (n : P normal) where
    write_flows : (span : Span) (target : Target) (cell : Cell) (frame : Frame) (w : State) → Flows P (write_target span target cell frame w)
    write_flows span (Variable k) cell frame w = n
    write_flows span Sensor cell frame w = n
    write_flows span (Element q) cell frame w = holds_or (λ (done : Done) w. P done.flow) (write_at w.objects q cell) span w _ (λ objects e. n)

    copy_flows : (m i : ℕ) (to_span : Span) (to : Ptr) (from_span : Span) (from : Ptr) (frame : Frame) (w : State) → Flows P (copy_scalars m i to_span to from_span from frame w)
    copy_flows zero i to_span to from_span from frame w = n
    copy_flows (suc m) i to_span to from_span from frame w =
        after_step w _ (λ w. holds_or (λ (done : Done) w. P done.flow) (part_of w.objects from i) from_span w _ (λ cell e. holds_or (λ (done : Done) w. P done.flow) (write_part w.objects to i cell) to_span w _ (λ objects f.
        copy_flows m (suc i) to_span to from_span from frame (record w { objects = objects }))))

    fill_flows : (span : Span) (xs : List (ℕ × Scalar)) (types : List PlainType) (i : ℕ) (q : Ptr) (frame : Frame) (w : State) → Flows P (fill span xs types i q frame w)
    fill_flows span xs [] i q frame w = n
    fill_flows span xs (t ∷ types) i q frame w =
        after_step w _ (λ w. holds_or (λ (done : Done) w. P done.flow) (write_part w.objects q i (holding (listed_scalar i t xs))) span w _ (λ objects e. fill_flows span xs types (suc i) q frame (record w { objects = objects })))

    module _ (s : Setting) where
      initialize_flows : (span : Span) (t : PlainType) (target : Target) (initializer : PlainInitializer) (frame : Frame) (w : State) → Flows P (initialize s span t target initializer frame w)
      initialize_flows span t target not_initialized frame w = n
      initialize_flows span t target (single v) frame w = after_any (evaluate s frame.held v w) _ (λ x w. write_flows span target (holding x) frame w)
      initialize_flows span t target (copied q) frame w = after_step w _ (λ w. after_any (locate s frame.held q w) _ (λ source w.
          copy_flows (width s.program t) 0 span (pointer_to target) (place_at q).span (pointer_to source) frame w))
      initialize_flows span t target (listed at items) frame w = after_any (listed_scalars s frame.held items w) _ (λ xs w. fill_flows span xs (scalars s.program t) 0 (pointer_to target) frame w)

      declare_flows : (span : Span) (k : ℕ) (v : Option PlainVariable) (initializer : PlainInitializer) (frame : Frame) (w : State) → Flows P (declare_variable s span k v initializer frame w)
      declare_flows span k None initializer frame w = n
      declare_flows span k (Some v) initializer frame w = holds_if (λ (done : Done) w. P done.flow) v.frame _ _
          (λ e. initialize_flows span v.type (Variable k) initializer (holding_at frame k (holds unset)) w)
          (λ e. initialize_flows span v.type (Element (first_of w.opened (width s.program v.type) 1)) initializer
          (record { held = slice_set frame.held k (stands w.opened); opened = w.opened ∷ frame.opened }) (open_object declared (unset_cells (scalars s.program v.type)) w))

-- ## Statements after which the next one comes

-- expressions and declarations of variables
abbrev pub IsPlain : PlainStatement → Type 0
IsPlain (statement at (set q v)) = Unit {0}
IsPlain (statement at (update kind op t q v)) = Unit {0}
IsPlain (statement at (copy q r)) = Unit {0}
IsPlain (statement at (expression v)) = Unit {0}
IsPlain (statement at (asserts name v)) = Unit {0}
IsPlain (statement at (declare k initializer)) = Unit {0}
IsPlain s = ⊥

pub plain_flows : (P : Flow → Type 0) → P normal → (s : Setting) (x : PlainStatement) → IsPlain x → (frame : Frame) (w : State) → Flows P (execute s x frame w)
plain_flows P n s (statement at (set q v)) i frame w = after_step P w _ (λ w. after_any P (locate s frame.held q w) _ (λ target w. after_any P (evaluate s frame.held v w) _ (λ x w.
    write_flows P n (place_at q).span target (holding x) frame w)))
plain_flows P n s (statement at (update kind op t q v)) i frame w = after_step P w _ (λ w. after_any P (locate s frame.held q w) _ (λ target w.
    after_step P w _ (λ w. after_any P (read_target (place_at q).span (place_type q) frame.held target w) _ (λ x w.
    after_any P (evaluate s frame.held v w) _ (λ y w. after_step P w _ (λ w.
    holds_or (λ (done : Done) w. P done.flow) (operated op t w.objects (converted_to t x) y) at.span w _ (λ z e.
    write_flows P n (place_at q).span target (holding (converted_to (place_type q) z)) frame w)))))))
plain_flows P n s (statement at (copy q r)) i frame w = after_step P w _ (λ w. after_any P (locate s frame.held q w) _ (λ target w. after_any P (locate s frame.held r w) _ (λ source w.
    copy_flows P n (width s.program (place_type q)) 0 (place_at q).span (pointer_to target) (place_at r).span (pointer_to source) frame w)))
plain_flows P n s (statement at (expression v)) i frame w = after_step P w _ (λ w. after_any P (discard s frame.held v w) _ (λ x w. n))
plain_flows P n s (statement at (asserts name v)) i frame w = after_step P w _ (λ w. after_any P (evaluate s frame.held v w) _ (λ x w. after_any P (asserted name.span x w) _ (λ none w. n)))
plain_flows P n s (statement at (declare k initializer)) i frame w = after_step P w _ (λ w. declare_flows P n s at.span k (slice_get s.variables k) initializer frame w)
plain_flows P n s (statement at form) i frame w = absurd i
