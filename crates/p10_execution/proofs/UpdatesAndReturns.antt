-- What is left by updates and returns.
use Rattle.std.proofs.Common.{◌≡◌, ℕ, Bool, true, false, List, [], ◌∷◌, ◌++◌, refl, ◌∙◌, ap, sym, subst, Option, Some, None, slice_get, ℤ, Ok}
use Rattle.std.specs.Prelude.{if◌then◌else◌}
use Rattle.std.specs.Option.{option_map}
use Rattle.p10_base.specs.declared.span.Span.{Span}
use Rattle.p10_base.specs.declared.at.At.{At}
use Rattle.p10_int.specs.declared.types.IntType.{IntType}
use Rattle.p10_int.specs.declared.operators.BinOp.{BinOp}
use Rattle.p10_int.specs.Conversion.{converted}
use Rattle.p10_range.specs.Ranges.{Interval, IsMember, is_within}
use Rattle.p10_core.specs.declared.statements.UpdateKind.{UpdateKind}
use Rattle.p10_core.specs.Types.{PlainType, void, integer, pointer, array, structure}
use Rattle.p10_core.specs.Rows.{Row, binary_row, is_integer, fits}
use Rattle.p10_core.specs.Typed.{PlainValue, type_of, PlainPlace, place, place_at, place_type, PlainPlaceForm, statement, update, return, PlainFunction, PlainProgram}
use Rattle.p10_core.specs.Whole.{IsWholeValue, IsWholePlace}
use Rattle.p10_core.specs.WholePrograms.{around, Updates, IsWholeProgram}
use Rattle.p10_cert.specs.Claims.{Value, Number, Address, Nothing, Loop, Claims}
use Rattle.p10_meaning.specs.declared.pointers.Scalar.{Scalar}
use Rattle.p10_meaning.specs.declared.pointers.Scalar.TheVariants.{Int, Pointer}
use Rattle.p10_meaning.specs.Pointers.{holding}
use Rattle.p10_meaning.specs.Objects.{Object}
use Rattle.p10_meaning.specs.States.{State}
use Rattle.p10_meaning.specs.Scalars.{converted_to, operated}
use Rattle.p10_meaning.specs.Values.{Setting, Held, Target, read_target, evaluate, locate}
use Rattle.p10_meaning.specs.Statements.{Frame, returned, Done, write_target, execute}
use Rattle.p10_meaning.specs.Calling.{Depth, setting_of, call_at}
use Rattle.p10_meaning.specs.Sound.{Kind, Fits, FrameFits, region_at}
use Rattle.p10_meaning.proofs.Moves.{OnOk}
use Rattle.p10_meaning.proofs.SoundUpdates.{IsRow, binary_row_is, left_fits, update_fits}
use Rattle.p10_sums.specs.Keeping.{HoldsOf}
use Rattle.p10_absx.specs.Abstract.{Abstract}
use Rattle.p10_absx.specs.Environments.{Environment}
use Rattle.p10_absx.specs.Operators.{converted_abstract}
use Rattle.p10_absx.specs.Assessing.{abstract_value}
use Rattle.p10_absx.specs.Describing.{HoldsNumber, Describes, MaybeDescribes, MaybeHolds}
use Rattle.p10_pass.specs.Arguments.{failing_in, failing_at}
use Rattle.p10_pass.specs.Passing.{Left, Manner, manner_in, nowhere, reached, with_calls, stored, before_update, updated_value, result_lies, range_returned, value_returned, pass_statement}
use Rattle.p10_evaluation.specs.Claimed.{ResultsLie}
use Rattle.p10_evaluation.specs.Laws.{IsHeldBy}
use Rattle.p10_evaluation.proofs.Operating.{within_of, in_within, converted_holds}
use Rattle.p10_execution.specs.Scoping.{KnowsNumbers}
use Rattle.p10_execution.specs.Standing.{AreInFrame, StandsSoundly}
use Rattle.p10_execution.specs.Leaving.{NoneFails, LiesInClaim, ReturnsIn, ReturnsAs, LeavesAs}
use Rattle.p10_execution.proofs.Giving.{holds_step, holds_then, holds_after, holds_or, holds_both}
use Rattle.p10_execution.proofs.Frames.{number_fits}
use Rattle.p10_execution.proofs.Ends.{calls_none, calls_rest, nothing_right, with_calls_as}
use Rattle.p10_execution.proofs.Storing.{Points, Goes, store_number, store_other}
use Rattle.p10_execution.proofs.SimpleStatements.{variable_typed, on_ok_of, Located, located, goes_says}
use Rattle.p10_execution.proofs.Updating.{right_integer, Updated, updated_by, IsRead, read_is, before_holds}
use Rattle.p10_execution.proofs.Parts.{Given, ready_step, read_given, Valued, valued}

-- ## Returned scalars

-- what is no integer is no number
pub no_number : (p : PlainProgram) (ks : List Kind) (t : PlainType) (range : Option Interval) (claim : Option Value) (x : Scalar) → is_integer t ≡ false → Fits p ks t x → ReturnsIn range claim (Some x)
no_number p ks t range claim (Pointer q) e f = tt
no_number p ks (void c) range claim (Int z) e f = absurd f
no_number p ks (integer c i) range claim (Int z) e f = absurd cc
no_number p ks (pointer c t) range claim (Int z) e f = absurd f
no_number p ks (array c t n) range claim (Int z) e f = absurd f
no_number p ks (structure c n) range claim (Int z) e f = absurd f

range_lies : (claim : Option Value) (r : Interval) (keyword : Span) (z : ℤ) → (if result_lies claim r then [] else keyword ∷ []) ≡ [] → IsMember r z → LiesInClaim claim z
range_lies None r keyword z e m = tt
range_lies (Some (Number q)) r keyword z e m = by_case (is_within r q) refl e
  where
    by_case : (b : Bool) → is_within r q ≡ b → (if b then [] else keyword ∷ []) ≡ [] → IsMember q z
    by_case true w e = in_within r q z (within_of r q w) m
    by_case false w e = absurd cc
range_lies (Some Address) r keyword z e m = tt
range_lies (Some Nothing) r keyword z e m = tt

module _ (p : PlainProgram) (whole : IsWholeProgram p) (n : ℕ) (depth : Depth) (number : ℕ) (f : PlainFunction) (there : slice_get p.functions number ≡ Some f)
    (calls : Option Claims) (loops : Option (List Loop)) (result : Option Value) (lie : ResultsLie p calls n (call_at n p depth)) where
  abbrev s : Setting
  s = setting_of p n (call_at n p) depth f

  abbrev m : Manner
  m = manner_in f calls loops result

  abbrev Stand : Frame → State → Type 0
  Stand frame w = StandsSoundly p f.variables n frame w

  abbrev Says : Left → List Held → Done → State → Type 0
  Says a head d w = LeavesAs f.variables m a head d.flow d.frame.held

  abbrev ValueOf : Environment → List Held → PlainValue → Frame → Scalar → State → Type 0
  ValueOf env head v frame x w = Valued p whole n depth number f there calls lie env head v frame x w

  -- ## `P op= e;`

  -- the converted result is written
  result_written : (at2 : At) (c : Bool) (i : IntType) (form : PlainPlaceForm) (o : Option Abstract) (z : ℤ) (x : Scalar) (env : Environment) → KnowsNumbers f.variables env → (head : List Held) (frame : Frame) (w : State) (target : Target) (ks : List Kind) → FrameFits p ks f.variables frame.held → AreInFrame f.variables frame.held →
      Describes f.variables env head frame.held → Points frame.held (place at2 (integer c i) form) target → x ≡ Int z → MaybeHolds head o z →
      HoldsOf (Goes f.variables head (option_map (λ r. stored (place at2 (integer c i) form) (converted_abstract i r) env) o)) (write_target at2.span target (holding (converted_to (integer c i) x)) frame w)
  result_written at2 c i form None z x env knows head frame w target ks fits in_frame d points e h = absurd h
  result_written at2 c i form (Some r) z x env knows head frame w target ks fits in_frame d points e h =
      subst (λ y. HoldsOf (Goes f.variables head (Some (stored (place at2 (integer c i) form) (converted_abstract i r) env))) (write_target at2.span target (holding (converted_to (integer c i) y)) frame w)) (sym e)
      (store_number p ks f.variables head env knows at2.span frame in_frame fits d (place at2 (integer c i) form) target (converted i z) (converted_abstract i r) w points (converted_holds head i r z h))

  -- what the operator gives, once both operands are there
  operated_known : (at2 : At) (op : BinOp) (c : Bool) (i : IntType) (form : PlainPlaceForm) (v : PlainValue) (right : PlainType) (entry : Row) → binary_row p.structures op false false (integer false i) right ≡ Some entry → (j : IntType) → entry.left ≡ integer false j → type_of v ≡ entry.right →
      fits false entry.result (integer false i) ≡ true → (env : Environment) (head : List Held) (frame : Frame) → Describes f.variables env head frame.held → (target : Target) → Points frame.held (place at2 (integer c i) form) target → (js ks : List Kind) (x y z : Scalar) → Fits p js (integer c i) x → IsRead frame.held target x →
      Fits p ks (type_of v) y → IsHeldBy head (abstract_value calls env v) y → (objects : List Object) → operated op (integer false j) objects (converted_to (integer false j) x) y ≡ Ok z →
      Updated head op j (before_update (place at2 (integer c i) form) env) (abstract_value calls env v) z
  operated_known at2 op c i form v right entry is j left right_is result_fits env head frame d target points js ks x y z fx read fy held objects o =
      let row : IsRow op (integer false i) entry = binary_row_is p.structures op (integer false i) right entry is in
      let a = number_fits p js (integer c i) x refl fx in
      let k = right_integer p.structures op i i right entry is result_fits in
      let b = number_fits p ks (type_of v) y (ap is_integer (right_is ∙ k.1)) fy in
      let before : HoldsNumber head (before_update (place at2 (integer c i) form) env) a.0 =
      before_holds f.variables env head frame.held (place at2 (integer c i) form) target a.0 points (subst (λ x. IsRead frame.held target x) a.1 read) a.2 d in
      let found : MaybeHolds head (abstract_value calls env v) b.0 = subst (λ y. IsHeldBy head (abstract_value calls env v) y) b.1 held in
      let fa : Fits p ks (integer false i) x = subst (λ x. Fits p ks (integer false i) x) (sym a.1) a.2 in
      let fb : Fits p ks entry.right y = subst (λ t. Fits p ks t y) right_is fy in
      let all : OnOk (Fits p ks entry.result) (operated op entry.left objects (converted_to entry.left x) y) = update_fits p ks op (integer false i) right entry is row.kind result_fits objects (converted_to entry.left x) y (left_fits p ks (integer false i) entry.left x row.left fa) fb in
      let fz : Fits p ks entry.result z = on_ok_of (Fits p ks entry.result) (operated op (integer false j) objects (converted_to (integer false j) x) y) z (subst (λ t. OnOk (Fits p ks entry.result) (operated op t objects (converted_to t x) y)) left all) o in
      let numbers : operated op (integer false j) objects (converted_to (integer false j) (Int a.0)) (Int b.0) ≡ Ok z = ap (λ x. operated op (integer false j) objects (converted_to (integer false j) x) (Int b.0)) (sym a.1) ∙ (ap (λ y. operated op (integer false j) objects (converted_to (integer false j) x) y) (sym b.1) ∙ o) in
      updated_by p ks head op (integer false i) entry j objects (before_update (place at2 (integer c i) form) env) (abstract_value calls env v) a.0 b.0 z row.kind result_fits left before found numbers fz

  update_number : (scope : List ℕ) (at at2 : At) (kind : UpdateKind) (op : BinOp) (c : Bool) (i : IntType) (form : PlainPlaceForm) (v : PlainValue) → IsWholePlace (around (region_at p number f scope false false)) (place at2 (integer c i) form) → IsWholeValue (around (region_at p number f scope false false)) v →
      (right : PlainType) (entry : Row) → binary_row p.structures op false false (integer false i) right ≡ Some entry → (j : IntType) → entry.left ≡ integer false j → type_of v ≡ entry.right → fits false entry.result (integer false i) ≡ true →
      (env : Environment) → KnowsNumbers f.variables env → failing_in calls v env ≡ [] → (head : List Held) (frame : Frame) (w : State) → Stand frame w → Describes f.variables env head frame.held →
      HoldsOf (Goes f.variables head (updated_value op (integer false j) (place at2 (integer c i) form) (abstract_value calls env v) env)) (execute s (statement at (update kind op (integer false j) (place at2 (integer c i) form) v)) frame w)
  update_number scope at at2 kind op c i form v q_whole v_whole right entry is j left right_is result_fits env knows none head frame w r d =
      let q : PlainPlace = place at2 (integer c i) form in
      let P : Done → State → Type 0 = Goes f.variables head (updated_value op (integer false j) q (abstract_value calls env v) env) in
      holds_step P w _ (λ left_over e.
      holds_then (Located p whole n depth number f there calls loops result lie q frame) P (locate s frame.held q (record w { left = left_over })) _ (located p whole n depth number f there calls loops result lie scope q q_whole frame (record w { left = left_over }) (ready_step p whole n depth number f there frame w left_over e r)) (λ target w g.
      holds_step P w _ (λ left_over e.
      holds_then (λ x w. Given p whole n depth number f there (λ ks. Fits p ks (integer c i)) frame x w × IsRead frame.held target x) P (read_target at2.span (integer c i) frame.held target (record w { left = left_over })) _
      (holds_both (Given p whole n depth number f there (λ ks. Fits p ks (integer c i)) frame) (λ x w. IsRead frame.held target x) (read_target at2.span (integer c i) frame.held target (record w { left = left_over }))
      (read_given p whole n depth number f there at2.span (integer c i) target frame (record w { left = left_over }) refl (ready_step p whole n depth number f there frame w left_over e g.0.ready) g.0.typed) (read_is frame.held at2.span (integer c i) target (record w { left = left_over }))) (λ x w h.
      holds_then (ValueOf env head v frame) P (evaluate s frame.held v w) _ (valued p whole n depth number f there calls lie scope v v_whole env head frame w none h.0.ready d) (λ y w k.
      holds_step P w _ (λ left_over e.
      holds_or P (operated op (integer false j) w.objects (converted_to (integer false j) x) y) at.span (record w { left = left_over }) _ (λ z o.
      let u = operated_known at2 op c i form v right entry is j left right_is result_fits env head frame d target g.1 h.0.ready.kinds k.ready.kinds x y z h.0.typed h.1 k.typed k.found.held_by w.objects o in
      result_written at2 c i form _ u.0 z env knows head frame (record w { left = left_over }) target k.ready.kinds k.ready.fits k.ready.in_frame d g.1 u.1 u.2)))))))

  update_other : (scope : List ℕ) (at : At) (kind : UpdateKind) (op : BinOp) (t : PlainType) (q : PlainPlace) (v : PlainValue) → Updates (around (region_at p number f scope false false)) kind op t q v → is_integer (place_type q) ≡ false → (env : Environment) → KnowsNumbers f.variables env → (head : List Held) (frame : Frame) (w : State) → Stand frame w → Describes f.variables env head frame.held →
      HoldsOf (Goes f.variables head (Some env)) (execute s (statement at (update kind op t q v)) frame w)
  update_other scope at kind op t q v i other env knows head frame w r d =
      let P : Done → State → Type 0 = Goes f.variables head (Some env) in
      holds_step P w _ (λ left_over e.
      holds_then (Located p whole n depth number f there calls loops result lie q frame) P (locate s frame.held q (record w { left = left_over })) _ (located p whole n depth number f there calls loops result lie scope q i.place frame (record w { left = left_over }) (ready_step p whole n depth number f there frame w left_over e r)) (λ target w g.
      holds_step P w _ (λ left_over e.
      holds_after P (read_target (place_at q).span (place_type q) frame.held target (record w { left = left_over })) _ (λ x w.
      holds_after P (evaluate s frame.held v w) _ (λ y w.
      holds_step P w _ (λ left_over e.
      holds_or P (operated op t w.objects (converted_to t x) y) at.span (record w { left = left_over }) _ (λ z o.
      store_other p g.0.ready.kinds f.variables head env knows (place_at q).span frame g.0.ready.in_frame g.0.ready.fits d q target (holding (converted_to (place_type q) z)) (record w { left = left_over }) other (variable_typed p f.variables (place_type q) g.0.ready.kinds target g.0.typed))))))))

  update_goes : (scope : List ℕ) (at : At) (kind : UpdateKind) (op : BinOp) (t : PlainType) (q : PlainPlace) (v : PlainValue) → Updates (around (region_at p number f scope false false)) kind op t q v → (env : Environment) → KnowsNumbers f.variables env → failing_in calls v env ≡ [] → (head : List Held) (frame : Frame) (w : State) → Stand frame w → Describes f.variables env head frame.held →
      HoldsOf (Goes f.variables head (updated_value op t q (abstract_value calls env v) env)) (execute s (statement at (update kind op t q v)) frame w)
  update_goes scope at kind op t (place at2 (integer c i) form) v u env knows none head frame w r d =
      let row : IsRow op (integer false i) u.entry = binary_row_is p.structures op (integer false i) u.right_type u.entry u.is in
      subst (λ t. HoldsOf (Goes f.variables head (updated_value op t (place at2 (integer c i) form) (abstract_value calls env v) env)) (execute s (statement at (update kind op t (place at2 (integer c i) form) v)) frame w)) (sym (u.type_is ∙ row.left.1))
      (update_number scope at at2 kind op c i form v u.place u.value u.right_type u.entry u.is row.left.0 row.left.1 u.value_is u.result_fits env knows none head frame w r d)
  update_goes scope at kind op t (place at2 (void c) form) v u env knows none head frame w r d = update_other scope at kind op t (place at2 (void c) form) v u refl env knows head frame w r d
  update_goes scope at kind op t (place at2 (pointer c a) form) v u env knows none head frame w r d = update_other scope at kind op t (place at2 (pointer c a) form) v u refl env knows head frame w r d
  update_goes scope at kind op t (place at2 (array c a k) form) v u env knows none head frame w r d = update_other scope at kind op t (place at2 (array c a k) form) v u refl env knows head frame w r d
  update_goes scope at kind op t (place at2 (structure c k) form) v u env knows none head frame w r d = update_other scope at kind op t (place at2 (structure c k) form) v u refl env knows head frame w r d

  pub update_says : (scope : List ℕ) (at : At) (kind : UpdateKind) (op : BinOp) (t : PlainType) (q : PlainPlace) (v : PlainValue) → Updates (around (region_at p number f scope false false)) kind op t q v → (env : Environment) → KnowsNumbers f.variables env →
      NoneFails (pass_statement m (statement at (update kind op t q v)) env) → (head : List Held) (frame : Frame) (w : State) → Stand frame w → Describes f.variables env head frame.held →
      HoldsOf (Says (pass_statement m (statement at (update kind op t q v)) env) head) (execute s (statement at (update kind op t q v)) frame w)
  update_says scope at kind op t q v i env knows none head frame w r d =
      let names : List Span = failing_at calls q env ++ failing_in calls v env in
      let o : Option Environment = updated_value op t q (abstract_value calls env v) env in
      goes_says p whole n depth number f there calls loops result lie names o head (execute s (statement at (update kind op t q v)) frame w)
      (update_goes scope at kind op t q v i env knows (nothing_right (failing_at calls q env) (failing_in calls v env) (calls_none names (reached o) none)) head frame w r d)

  -- ## `return`

  returned_as : (a : Left) (head held : List Held) (x : Option Scalar) (o : Option (List Loop)) → MaybeDescribes f.variables a.returns head held → ReturnsIn a.returned result x → ReturnsAs f.variables m a head held x o
  returned_as a head held x None d h = tt
  returned_as a head held x (Some ls) d h = (d, h)

  pub nothing_returned : (at : At) (keyword : Span) (env : Environment) (head : List Held) (frame : Frame) (w : State) → Describes f.variables env head frame.held →
      HoldsOf (Says (pass_statement m (statement at (return keyword None)) env) head) (execute s (statement at (return keyword None)) frame w)
  nothing_returned at keyword env head frame w d = holds_step (Says (pass_statement m (statement at (return keyword None)) env) head) w _ (λ left e. returned_as (record nowhere { returns = Some env }) head frame.held None loops d tt)

  -- a returned value in its environment
  range_as : (keyword : Span) (a : Option Abstract) (env : Environment) (head held : List Held) (z : ℤ) → (range_returned m keyword a env).results ≡ [] → Describes f.variables env head held → MaybeHolds head a z → ReturnsAs f.variables m (range_returned m keyword a env) head held (Some (Int z)) loops
  range_as keyword None env head held z e d h = absurd h
  range_as keyword (Some a) env head held z e d h = returned_as (range_returned m keyword (Some a) env) head held (Some (Int z)) loops d (record { member = h.member; claimed = range_lies result a.range keyword z e h.member })

  value_as : (keyword : Span) (v : PlainValue) (env : Environment) (head : List Held) (frame : Frame) (x : Scalar) (w : State) → (value_returned m keyword v env).results ≡ [] → Describes f.variables env head frame.held → ValueOf env head v frame x w →
      ReturnsAs f.variables m (value_returned m keyword v env) head frame.held (Some x) loops
  value_as keyword v env head frame x w none d h = by_case (is_integer (type_of v)) refl none
    where
      left_of : Bool → Left
      left_of b = if b then range_returned m keyword (abstract_value calls env v) env else record nowhere { returns = Some env }

      by_case : (b : Bool) → is_integer (type_of v) ≡ b → (left_of b).results ≡ [] → ReturnsAs f.variables m (left_of b) head frame.held (Some x) loops
      by_case true i none =
          let y = number_fits p h.ready.kinds (type_of v) x i h.typed in
          subst (λ x. ReturnsAs f.variables m (range_returned m keyword (abstract_value calls env v) env) head frame.held (Some x) loops) (sym y.1)
          (range_as keyword (abstract_value calls env v) env head frame.held y.0 none d (subst (λ x. IsHeldBy head (abstract_value calls env v) x) y.1 h.found.held_by))
      by_case false i none = returned_as (record nowhere { returns = Some env }) head frame.held (Some x) loops d (no_number p h.ready.kinds (type_of v) None result x i h.typed)

  pub returned_says : (scope : List ℕ) (at : At) (keyword : Span) (v : PlainValue) → IsWholeValue (around (region_at p number f scope false false)) v → (env : Environment) → NoneFails (pass_statement m (statement at (return keyword (Some v))) env) → (head : List Held) (frame : Frame) (w : State) → Stand frame w → Describes f.variables env head frame.held →
      HoldsOf (Says (pass_statement m (statement at (return keyword (Some v))) env) head) (execute s (statement at (return keyword (Some v))) frame w)
  returned_says scope at keyword v i env none head frame w r d =
      let a : Left = value_returned m keyword v env in
      holds_step (Says (with_calls (failing_in calls v env) a) head) w _ (λ left e.
      holds_then (ValueOf env head v frame) (Says (with_calls (failing_in calls v env) a) head) (evaluate s frame.held v (record w { left = left })) _
      (valued p whole n depth number f there calls lie scope v i env head frame (record w { left = left }) (calls_none (failing_in calls v env) a none) (ready_step p whole n depth number f there frame w left e r) d) (λ x w h.
      with_calls_as f.variables m head frame.held (failing_in calls v env) a (returned (Some x)) (value_as keyword v env head frame x w (calls_rest (failing_in calls v env) a none).results d h)))
