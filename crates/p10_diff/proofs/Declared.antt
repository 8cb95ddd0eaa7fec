-- What is known of a variable that is declared with a value.
use Rattle.std.proofs.Common.{◌≡◌, ℕ, suc, Bool, true, false, List, [], ◌∷◌, refl, ◌∙◌, ap, sym, subst, Option, Some, None, slice_get, ℤ}
use Rattle.std.specs.Prelude.{is_some, slice_set, if◌then◌else◌, nat_eq}
use Rattle.std.proofs.lemmas.Option.{same_Some}
use Rattle.std.proofs.lemmas.Bool.{eqb-true, eqb-false}
use Rattle.p10_base.specs.declared.at.At.{At}
use Rattle.p10_core.specs.Types.{PlainType, unqualified}
use Rattle.p10_core.specs.Rows.{is_integer}
use Rattle.p10_core.specs.Constants.{integer_of}
use Rattle.p10_core.specs.Typed.{PlainValue, type_of, single, statement, declare, no_statements, more_statements, PlainVariable, PlainFunction, PlainProgram}
use Rattle.p10_core.specs.WholePrograms.{around, IsSingle, Declares, IsWholeProgram}
use Rattle.p10_meaning.specs.Objects.{declared as opened_by_declaration}
use Rattle.p10_meaning.specs.Pointers.{unset, holding, first_of}
use Rattle.p10_meaning.specs.Scalars.{unset_cells}
use Rattle.p10_meaning.specs.States.{State}
use Rattle.p10_meaning.specs.Values.{Setting, Held, holds, stands, scalars, width, open_object, Variable, Element, evaluate}
use Rattle.p10_meaning.specs.Statements.{Frame, Done, initialize, declare_variable, execute}
use Rattle.p10_meaning.specs.Calling.{Depth, setting_of, call_at}
use Rattle.p10_meaning.specs.Sound.{Fits, region_at}
use Rattle.p10_sums.specs.Keeping.{HoldsOf}
use Rattle.p10_range.specs.Rows.{values_of}
use Rattle.p10_absx.specs.Abstract.{Abstract, whole_type}
use Rattle.p10_absx.specs.Environments.{Environment, known, learned, out_of_scope}
use Rattle.p10_absx.specs.Describing.{HoldsUnset, Describes}
use Rattle.p10_absx.proofs.Entries.{get_other}
use Rattle.p10_execution.specs.Scoping.{IsNumber, KnowsNumbers}
use Rattle.p10_execution.specs.Standing.{StandsSoundly}
use Rattle.p10_execution.proofs.Giving.{holds_step, holds_then, holds_both}
use Rattle.p10_execution.proofs.Entries.{learned_other, out_here, out_other}
use Rattle.p10_execution.proofs.Frames.{held_there, number_fits, learned_set, whole_unset}
use Rattle.p10_execution.proofs.Ends.{left_describes}
use Rattle.p10_execution.proofs.Declarations.{unset_frame, unset_ready}
use Rattle.p10_execution.proofs.SimpleStatements.{integer_unqualified}
use Rattle.p10_execution.proofs.Parts.{ready_step, Given, value_given}
use Rattle.p10_evaluation.proofs.WholeFunctions.{results_lie}
use Rattle.p10_pass.specs.Passing.{manner_in}
use Rattle.p10_walk.specs.Ranges.{DescribesNumbers}
use Rattle.p10_diff.specs.Differences.{Name, now, worth, Pair, has_name, Differences}
use Rattle.p10_diff.specs.Expressions.{up, low}
use Rattle.p10_diff.specs.Domain.{only, kind_in, declared, seen, DescribesDifferences}
use Rattle.p10_diff.proofs.Measured.{Measured}
use Rattle.p10_diff.proofs.Values.{MeasuredBy, measured}
use Rattle.p10_diff.proofs.Changed.{Unmarked, forgotten}
use Rattle.p10_diff.proofs.Assigned.{named_number, written_number, Rows}

-- an environment in which a variable isn't in scope knows numbers alone
pub out_knows : (variables : List PlainVariable) (env : Environment) (m : ℕ) → KnowsNumbers variables env → KnowsNumbers variables (out_of_scope env m)
out_knows variables env m h = record { each = λ k e. at k (nat_eq k m) refl e }
  where
    at : (k : ℕ) (b : Bool) → nat_eq k m ≡ b → is_some (known (out_of_scope env m) k) ≡ true → IsNumber variables k
    at k true q e = let gone : is_some (known (out_of_scope env m) k) ≡ false = ap (λ j. is_some (known (out_of_scope env m) j)) (eqb-true k m q) ∙ ap is_some (out_here env m) in absurd cc
    at k false q e = h.each k (sym (ap is_some (out_other env m k (eqb-false k m q))) ∙ e)

-- one in which it is a number
learned_knows : (variables : List PlainVariable) (env : Environment) (m : ℕ) (a : Abstract) → IsNumber variables m → KnowsNumbers variables env → KnowsNumbers variables (learned env m a)
learned_knows variables env m a number h = record { each = λ k e. at k (nat_eq k m) refl e }
  where
    at : (k : ℕ) (b : Bool) → nat_eq k m ≡ b → is_some (known (learned env m a) k) ≡ true → IsNumber variables k
    at k true q e = subst (λ j. IsNumber variables j) (sym (eqb-true k m q)) number
    at k false q e = h.each k (sym (ap is_some (learned_other env m k a (eqb-false k m q))) ∙ e)

module _ (p : PlainProgram) (whole : IsWholeProgram p) (n : ℕ) (depth : Depth) (number_at : ℕ) (f : PlainFunction) (there : slice_get p.functions number_at ≡ Some f)
    (below above : ℕ) (base : Environment) where
  abbrev pair : Pair
  pair = record { variables = f.variables; below = below; above = above; head = base }

  abbrev s : Setting
  s = setting_of p n (call_at n p) depth f

  abbrev Stand : Frame → State → Type 0
  Stand frame w = StandsSoundly p f.variables n frame w

  abbrev pub unset_at : ℕ → Frame → Frame
  unset_at m frame = unset_frame p whole n depth number_at f there None None None (results_lie p whole n depth) m frame

  pub unset_same : (m : ℕ) (held : List Held) → Unmarked (only m) held (slice_set held m (holds unset))
  unset_same m held k e = get_other held m k (holds unset) (eqb-false k m e)

  module _ (scope : List ℕ) (l b : Bool) (at : At) (m : ℕ) (v : PlainValue) (i : Declares (region_at p number_at f scope l b) m (single v)) (number : IsNumber f.variables m)
      (e : Differences) (head : List Held) (frame : Frame) (d : DescribesDifferences pair e head frame.held) where
    variable_is : i.variable ≡ number.variable
    variable_is = same_Some _ _ (sym i.there ∙ number.there)

    ready_there : (w : State) → Stand frame w → Stand (unset_at m frame) w
    ready_there w r = unset_ready p whole n depth number_at f there None None None (results_lie p whole n depth) m i.variable i.there frame w r

    any_value : HoldsUnset (values_of (integer_of number.variable.type)) m (whole_type (kind_in (slice_get f.variables m)))
    any_value = subst (λ o. HoldsUnset (values_of (integer_of number.variable.type)) m (whole_type (kind_in o))) (sym number.there) (whole_unset (integer_of number.variable.type) m)

    -- the frame in which the initialiser is evaluated is described as it is seen
    pub seen_describes : (w : State) → Stand frame w → DescribesDifferences pair (seen pair m e) head (unset_at m frame).held
    seen_describes w r = forgotten pair (only m) head frame.held (unset_at m frame).held (unset_same m frame.held) e d (seen pair m e).ranges (record {
      describes = learned_set f.variables (out_of_scope e.ranges m) head frame.held m (holds unset) (whole_type (kind_in (slice_get f.variables m))) number (ready_there w r).in_frame (held_there p r.kinds f.variables frame.held m i.variable r.fits i.there) any_value
          (left_describes f.variables (manner_in f None None None) head frame.held (more_statements (statement at (declare m (single v))) no_statements) e.ranges d.ranges.describes);
      knows = learned_knows f.variables (out_of_scope e.ranges m) m (whole_type (kind_in (slice_get f.variables m))) number (out_knows f.variables e.ranges m d.ranges.knows);
    })

    abbrev RowsOf : Done → State → Type 0
    RowsOf done w = Rows head (unset_at m frame).held (up pair v (seen pair m e)) (low pair v (seen pair m e)) (worth head done.frame.held (now m))

    initialized : (t : PlainType) → IsSingle (around (region_at p number_at f (m ∷ scope) false false)) t v → is_integer t ≡ true → (w : State) → Stand frame w → HoldsOf RowsOf (initialize s at.span t (Variable m) (single v) (unset_at m frame) w)
    initialized t iw int w r =
        let fine : DescribesDifferences pair (seen pair m e) head (unset_at m frame).held = seen_describes w r in
        holds_then (λ x w. Given p whole n depth number_at f there (λ ks. Fits p ks (type_of v)) (unset_at m frame) x w × MeasuredBy p whole n depth number_at f there below above base (seen pair m e) head (unset_at m frame) fine (m ∷ scope) v x) RowsOf (evaluate s (unset_at m frame).held v w) _
        (holds_both (Given p whole n depth number_at f there (λ ks. Fits p ks (type_of v)) (unset_at m frame)) (λ x w. MeasuredBy p whole n depth number_at f there below above base (seen pair m e) head (unset_at m frame) fine (m ∷ scope) v x) (evaluate s (unset_at m frame).held v w)
        (value_given p whole n depth number_at f there (m ∷ scope) v iw.whole (unset_at m frame) w (ready_there w r)) (measured p whole n depth number_at f there below above base (seen pair m e) head (unset_at m frame) fine (m ∷ scope) v iw.whole w (ready_there w r))) (λ x w h.
        let y = number_fits p h.0.ready.kinds (type_of v) x (ap is_integer iw.type_is ∙ (integer_unqualified t ∙ int)) h.0.typed in
        let k : Measured pair (seen pair m e) head (unset_at m frame).held fine v y.0 = subst (MeasuredBy p whole n depth number_at f there below above base (seen pair m e) head (unset_at m frame) fine (m ∷ scope) v) y.1 h.1 in
        let is : worth head (slice_set (unset_at m frame).held m (holds (holding x))) (now m) ≡ y.0 = written_number head (unset_at m frame).held m x y.0 (held_there p h.0.ready.kinds f.variables (unset_at m frame).held m i.variable h.0.ready.fits i.there) y.1 in
        subst (Rows head (unset_at m frame).held (up pair v (seen pair m e)) (low pair v (seen pair m e))) (sym is) (record { above = k.above; below = k.below }))

    pub declare_so : (w : State) → Stand frame w → HoldsOf RowsOf (execute s (statement at (declare m (single v))) frame w)
    declare_so w r =
        holds_step RowsOf w _ (λ left q.
        subst (λ o. HoldsOf RowsOf (declare_variable s at.span m o (single v) frame (record w { left = left }))) (sym i.there)
        (subst (λ t. HoldsOf RowsOf (if t then initialize s at.span i.variable.type (Variable m) (single v) (unset_at m frame) (record w { left = left })
        else initialize s at.span i.variable.type (Element (first_of w.opened (width p i.variable.type) 1)) (single v) (record { held = slice_set frame.held m (stands w.opened); opened = w.opened ∷ frame.opened }) (open_object opened_by_declaration (unset_cells (scalars p i.variable.type)) (record w { left = left }))))
        (sym (ap (λ (v : PlainVariable). v.frame) variable_is ∙ number.frame_is))
        (initialized i.variable.type i.initializer (ap (λ (v : PlainVariable). is_integer v.type) variable_is ∙ number.integer_is) (record w { left = left }) (ready_step p whole n depth number_at f there frame w left q r))))
