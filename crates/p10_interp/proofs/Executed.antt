-- Statements that are executed at once come to what the meaning says.
use Rattle.std.proofs.Common.{◌≡◌, ℕ, suc, ◌<◌, ◌≤◌, true, List, slice_set, sym, ◌∙◌, subst, ap, refl, ℤ, Some, Ok, slice_get, arith, ◌∷◌}
use Rattle.p10_base.specs.declared.at.At.{At}
use Rattle.p10_base.specs.declared.span.Span.{Span}
use Rattle.p10_int.specs.declared.operators.BinOp.{BinOp}
use Rattle.p10_int.specs.Operators.{operate}
use Rattle.p10_core.specs.declared.statements.UpdateKind.{UpdateKind}
use Rattle.p10_core.specs.Types.{PlainType}
use Rattle.p10_core.specs.Typed.{PlainValue, value, call, PlainValues, place, PlainPlace, place_at, variable, set, update, PlainProgram}
use Rattle.p10_meaning.specs.declared.pointers.Ptr.{Ptr}
use Rattle.p10_meaning.specs.declared.pointers.Scalar.{Scalar}
use Rattle.p10_meaning.specs.declared.pointers.Scalar.TheVariants.{Int}
use Rattle.p10_meaning.specs.declared.pointers.Cell.{Cell}
use Rattle.p10_meaning.specs.Pointers.{holding, read_of}
use Rattle.p10_meaning.specs.Objects.{Object, on_ok, write_at}
use Rattle.p10_meaning.specs.Scalars.{integer_type, converted_to, operated}
use Rattle.p10_meaning.specs.States.{State, Progress, gives, step_at, step, and_then, or_undefined}
use Rattle.p10_meaning.specs.Values.{Setting, Held, holds, Target, Variable, Element, width, variable_target, held_cell, read_target, evaluate, locate}
use Rattle.p10_meaning.specs.Calling.{Depth, raised}
use Rattle.p10_meaning.specs.Statements.{Frame, Done, goes, holding_at, write_target, execute_form}
use Rattle.p10_store.specs.Stores.{Held as Stored}
use Rattle.p10_interp.specs.private.Tasks.{Open}
use Rattle.p10_interp.specs.private.Operations.{with_frame}
use Rattle.p10_interp.specs.private.OpenCalls.{innermost_held}
use Rattle.p10_interp.specs.private.Resuming.{setting_in}
use Rattle.p10_interp.specs.private.AtOnce.{Finds, IsFound, IsConverted}
use Rattle.p10_interp.specs.private.CallingAtOnce.{IsValueOfCall}
use Rattle.p10_interp.specs.private.Executing.{IsExecuted, IsFrameVariable, IsHeldNumber, Writes}

-- a step before something
paid_step : {A : Type 0} (go : State → Progress A) (w : State) (n : ℕ) → w.left ≡ suc n → step w go ≡ go (record w { left = n })
paid_step go w n e = ap (λ b. step_at b w go) e

module _ (s : Setting) (at place_stands : At) (own : PlainType) (v : PlainValue) (n : ℕ) (frame : Frame) (w : State) where
  -- a frame variable is assigned
  pub variable_set : (before after : ℕ) (cell : Cell) (x y : ℤ) → slice_get frame.held n ≡ Some (holds cell) → w.left ≡ suc before → y ≡ x → 0 < after → Finds (evaluate s frame.held v) w.objects before (Int x) after →
      execute_form s at (set (place place_stands own (variable n)) v) frame w ≡ goes (holding_at frame n (holds (holding (Int y)))) (record w { left = after })
  variable_set before after cell x y there e d some h =
      paid_step (λ w. and_then (locate s frame.held (place place_stands own (variable n)) w) (λ target w. and_then (evaluate s frame.held v w) (λ x w. write_target place_stands.span target (holding x) frame w))) w before e ∙
      (ap (λ held. and_then (or_undefined (variable_target n (width s.program own) held) place_stands.span (record w { left = before }) (λ target. gives target (record w { left = before }))) (λ target w. and_then (evaluate s frame.held v w) (λ x w. write_target place_stands.span target (holding x) frame w))) there ∙
      (ap (λ o. and_then o (λ x w. write_target place_stands.span (Variable n) (holding x) frame w)) (h some w refl) ∙
      ap (λ z. goes (holding_at frame n (holds (holding (Int z)))) (record w { left = after })) (sym d)))

  -- a frame variable is updated
  pub variable_updated : (kind : UpdateKind) (op : BinOp) (t : PlainType) (middle before paid after : ℕ) (old x y z new new_now : ℤ) → slice_get frame.held n ≡ Some (holds (holding (Int old))) → w.left ≡ suc middle → middle ≡ suc before →
      converted_to t (Int old) ≡ Int x → Finds (evaluate s frame.held v) w.objects before (Int y) paid → 0 < paid → paid ≡ suc after → operate op (integer_type t) x y ≡ Ok z → converted_to own (Int z) ≡ Int new → new_now ≡ new →
      execute_form s at (update kind op t (place place_stands own (variable n)) v) frame w ≡ goes (holding_at frame n (holds (holding (Int new_now)))) (record w { left = after })
  variable_updated kind op t middle before paid after old x y z new new_now there e f cx h some g cz cnew d =
      paid_step (λ w. and_then (locate s frame.held (place place_stands own (variable n)) w) (λ target w. step w (λ w. and_then (read_target place_stands.span own frame.held target w) (λ x w. rest target x w)))) w middle e ∙
      (ap (λ held. and_then (or_undefined (variable_target n (width s.program own) held) place_stands.span (record w { left = middle }) (λ target. gives target (record w { left = middle }))) (λ target w. step w (λ w. and_then (read_target place_stands.span own frame.held target w) (λ x w. rest target x w)))) there ∙
      (paid_step (λ w. and_then (read_target place_stands.span own frame.held (Variable n) w) (λ x w. rest (Variable n) x w)) (record w { left = middle }) before f ∙
      (ap (λ held. and_then (or_undefined (read_of (held_cell held)) place_stands.span (record w { left = before }) (λ x. gives x (record w { left = before }))) (λ x w. rest (Variable n) x w)) there ∙
      (ap (λ o. and_then o (λ y w. step w (λ w. or_undefined (operated op t w.objects (converted_to t (Int old)) y) at.span w (λ z. write_target place_stands.span (Variable n) (holding (converted_to own z)) frame w)))) (h some w refl) ∙
      (paid_step (λ w. or_undefined (operated op t w.objects (converted_to t (Int old)) (Int y)) at.span w (λ z. write_target place_stands.span (Variable n) (holding (converted_to own z)) frame w)) (record w { left = paid }) after g ∙
      (ap (λ x. or_undefined (operated op t w.objects x (Int y)) at.span (record w { left = after }) (λ z. write_target place_stands.span (Variable n) (holding (converted_to own z)) frame (record w { left = after }))) cx ∙
      (ap (λ r. or_undefined (on_ok r (λ z. Ok (Int z))) at.span (record w { left = after }) (λ z. write_target place_stands.span (Variable n) (holding (converted_to own z)) frame (record w { left = after }))) cz ∙
      (ap (λ x. goes (holding_at frame n (holds (holding x))) (record w { left = after })) cnew ∙
      ap (λ z. goes (holding_at frame n (holds (holding (Int z)))) (record w { left = after })) (sym d)))))))))
    where
      rest : Target → Scalar → State → Progress Done
      rest target x w = and_then (evaluate s frame.held v w) (λ y w. step w (λ w. or_undefined (operated op t w.objects (converted_to t x) y) at.span w (λ z. write_target place_stands.span target (holding (converted_to own z)) frame w)))

-- a frame variable is assigned what comes with another state
pub variable_set_to : (s : Setting) (at place_stands : At) (own : PlainType) (v : PlainValue) (n : ℕ) (frame : Frame) (w u : State) (before : ℕ) (cell : Cell) (x : ℤ) → slice_get frame.held n ≡ Some (holds cell) → w.left ≡ suc before → evaluate s frame.held v (record w { left = before }) ≡ gives (Int x) u →
    execute_form s at (set (place place_stands own (variable n)) v) frame w ≡ goes (holding_at frame n (holds (holding (Int x)))) u
variable_set_to s at place_stands own v n frame w u before cell x there e h =
    paid_step (λ w. and_then (locate s frame.held (place place_stands own (variable n)) w) (λ target w. and_then (evaluate s frame.held v w) (λ x w. write_target place_stands.span target (holding x) frame w))) w before e ∙
    (ap (λ held. and_then (or_undefined (variable_target n (width s.program own) held) place_stands.span (record w { left = before }) (λ target. gives target (record w { left = before }))) (λ target w. and_then (evaluate s frame.held v w) (λ x w. write_target place_stands.span target (holding x) frame w))) there ∙
    ap (λ o. and_then o (λ x w. write_target place_stands.span (Variable n) (holding x) frame w)) h)

-- a place in an object is assigned
pub element_set : (s : Setting) (at : At) (q : PlainPlace) (v : PlainValue) (frame : Frame) (w : State) (before middle after : ℕ) (pointer : Ptr) (x : ℤ) (objects : List Object) (opened : ℕ) → w.left ≡ suc before → 0 < middle → 0 < after →
    Finds (locate s frame.held q) w.objects before (Element pointer) middle → Finds (evaluate s frame.held v) w.objects middle (Int x) after → write_at w.objects pointer (holding (Int x)) ≡ Ok objects → opened ≡ w.opened →
    execute_form s at (set q v) frame w ≡ goes frame (record w { objects = objects; opened = opened; left = after })
element_set s at q v frame w before middle after pointer x objects opened e some more h k written same =
    paid_step (λ w. and_then (locate s frame.held q w) (λ target w. and_then (evaluate s frame.held v w) (λ x w. write_target (place_at q).span target (holding x) frame w))) w before e ∙
    (ap (λ o. and_then o (λ target w. and_then (evaluate s frame.held v w) (λ x w. write_target (place_at q).span target (holding x) frame w))) (h some w refl) ∙
    (ap (λ o. and_then o (λ x w. write_target (place_at q).span (Element pointer) (holding x) frame w)) (k more w refl) ∙
    (ap (λ r. or_undefined r (place_at q).span (record w { left = after }) (λ objects. goes frame (record w { objects = objects; left = after }))) written ∙
    ap (λ n. goes frame (record w { objects = objects; opened = n; left = after })) (sym same))))

-- ## What the code has found, in its order

-- what stands for the variables of the innermost call
held_in : (standing : List Held) (cs : List Open) (f : Open) (calls : List Open) → standing ≡ innermost_held cs → cs ≡ f ∷ calls → standing ≡ f.frame.held
held_in standing cs f calls e d = e ∙ ap innermost_held d

-- a frame variable was assigned
pub variable_executed : (p : PlainProgram) (place_stands : At) (own : PlainType) (v : PlainValue) (n : ℕ) (f : Open) (calls cs new : List Open) (w : State) (before after : ℕ) (x y : ℤ) (held : Held) (standing : List Held) → standing ≡ innermost_held cs → cs ≡ f ∷ calls → IsFrameVariable standing n → w.left ≡ suc before →
    ((s : Setting) → s.program ≡ p → Finds (evaluate s f.frame.held v) w.objects before (Int x) after) → 0 < after → y ≡ x → held ≡ holds (holding (Int y)) → new ≡ with_frame f (holding_at f.frame n held) ∷ calls → IsExecuted p (set (place place_stands own (variable n)) v) f calls w new (record w { left = after })
variable_executed p place_stands own v n f calls cs new w before after x y held standing d e is paid h some same put now = record {
  held = slice_set f.frame.held n (holds (holding (Int y)));
  now = now ∙ ap (λ held. with_frame f (holding_at f.frame n held) ∷ calls) put;
  run = λ m at opened few. variable_set (setting_in p m f) at place_stands own v n (record f.frame { opened = opened }) w before after is.cell x y (subst (λ held. slice_get held n ≡ Some (holds is.cell)) (held_in standing cs f calls d e) is.there) paid same some (h (setting_in p m f) refl);
}

-- a frame variable was updated
pub variable_updated_by : (p : PlainProgram) (kind : UpdateKind) (op : BinOp) (t own : PlainType) (place_stands : At) (v : PlainValue) (n : ℕ) (f : Open) (calls cs new : List Open) (w : State) (l1 l2 l3 l4 l5 l6 l7 l8 : ℕ) (old x y z last old_now x_now y_now z_now last_now : ℤ) (held : Held) (standing : List Held) → standing ≡ innermost_held cs → cs ≡ f ∷ calls → old_now ≡ old → x_now ≡ x → y_now ≡ y → z_now ≡ z → last_now ≡ last →
    w.left ≡ suc l1 → l1 ≡ suc l2 → IsHeldNumber standing n l2 old l3 → IsConverted t old_now l3 x l4 → 0 < l4 → ((s : Setting) → s.program ≡ p → Finds (evaluate s f.frame.held v) w.objects l4 (Int y) l5) → 0 < l5 → l5 ≡ suc l6 → IsFound (operate op (integer_type t) x_now y_now) l6 z l7 → IsConverted own z_now l7 last l8 → 0 < l8 →
    held ≡ holds (holding (Int last_now)) → new ≡ with_frame f (holding_at f.frame n held) ∷ calls → IsExecuted p (update kind op t (place place_stands own (variable n)) v) f calls w new (record w { left = l8 })
variable_updated_by p kind op t own place_stands v n f calls cs new w l1 l2 l3 l4 l5 l6 l7 l8 old x y z last old_now x_now y_now z_now last_now held standing d e same_old same_x same_y same_z same_last pay1 pay2 is_old cx some4 h some5 pay3 found cnew some8 put now =
    let k = cnew some8 in
    let j = found (subst (λ l. 0 < l) k.0 some8) in
    let i = cx some4 in
    let o = is_old (subst (λ l. 0 < l) i.0 some4) in
    record {
      held = slice_set f.frame.held n (holds (holding (Int last_now)));
      now = now ∙ ap (λ held. with_frame f (holding_at f.frame n held) ∷ calls) put;
      run = λ m at opened few.
          variable_updated (setting_in p m f) at place_stands own v n (record f.frame { opened = opened }) w kind op t l1 l4 l5 l8 old x y z last last_now (subst (λ held. slice_get held n ≡ Some (holds (holding (Int old)))) (held_in standing cs f calls d e) o.1) pay1 (pay2 ∙ ap suc (sym (i.0 ∙ o.0))) (ap (λ z. converted_to t (Int z)) (sym same_old) ∙ i.1.0) (h (setting_in p m f) refl) some5 (pay3 ∙ ap suc (sym (k.0 ∙ j.0))) (ap (λ x. operate op (integer_type t) x y) (sym same_x) ∙ (ap (λ y. operate op (integer_type t) x_now y) (sym same_y) ∙ j.1)) (ap (λ z. converted_to own (Int z)) (sym same_z) ∙ k.1.0) same_last;
    }

-- a place in an object was assigned
pub element_executed : (p : PlainProgram) (q : PlainPlace) (v : PlainValue) (f : Open) (calls cs : List Open) (w : State) (before middle after : ℕ) (pointer : Ptr) (x y : ℤ) (old new : Stored) → cs ≡ f ∷ calls → w.left ≡ suc before → ((s : Setting) → s.program ≡ p → Finds (locate s f.frame.held q) w.objects before (Element pointer) middle) → 0 < middle →
    ((s : Setting) → s.program ≡ p → Finds (evaluate s f.frame.held v) w.objects middle (Int x) after) → 0 < after → y ≡ x → w.objects ≡ old.objects → w.opened ≡ old.opened → Writes old new (write_at old.objects pointer (holding (Int y))) true →
    IsExecuted p (set q v) f calls w cs (record w { objects = new.objects; opened = new.opened; left = after })
element_executed p q v f calls cs w before middle after pointer x y old new e paid h some k more value_same same opened written = record {
  held = f.frame.held;
  now = e;
  run = λ m at owned few. element_set (setting_in p m f) at q v (record f.frame { opened = owned }) w before middle after pointer x new.objects new.opened paid some more (h (setting_in p m f) refl) (k (setting_in p m f) refl) (ap (λ z. write_at w.objects pointer (holding (Int z))) (sym value_same) ∙ (ap (λ objects. write_at objects pointer (holding (Int y))) same ∙ written.0)) (written.1 ∙ sym opened);
}

-- an update takes steps
pub updated_fewer : (op : BinOp) (t own : PlainType) (n : ℕ) (standing : List Held) (left l1 l2 l3 l4 l5 l6 l7 l8 : ℕ) (old x z last old_now x_now y_now z_now : ℤ) → left ≡ suc l1 → l1 ≡ suc l2 → IsHeldNumber standing n l2 old l3 → IsConverted t old_now l3 x l4 → 0 < l4 → l5 ≤ l4 → l5 ≡ suc l6 →
    IsFound (operate op (integer_type t) x_now y_now) l6 z l7 → IsConverted own z_now l7 last l8 → 0 < l8 → l8 < left
updated_fewer op t own n standing left l1 l2 l3 l4 l5 l6 l7 l8 old x z last old_now x_now y_now z_now pay1 pay2 is_old cx some4 fewer pay3 found cnew some8 =
    let k : l8 ≡ l7 = (cnew some8).0 in
    let j : l7 ≡ l6 = (found (subst (λ l. 0 < l) k some8)).0 in
    let i : l4 ≡ l3 = (cx some4).0 in
    let o : l3 ≡ l2 = (is_old (subst (λ l. 0 < l) i some4)).0 in
    omega (arith, pay1, pay2, fewer, pay3, k, j, i, o)

-- a frame variable was assigned what a call comes to
pub variable_called : (p : PlainProgram) (place_stands value_stands : At) (own t : PlainType) (name : Span) (g : ℕ) (arguments : PlainValues) (n : ℕ) (f : Open) (calls cs new : List Open) (w v u : State) (before after : ℕ) (depth : Depth) (z y : ℤ) (held : Held) (standing : List Held) → standing ≡ innermost_held cs → cs ≡ f ∷ calls → IsFrameVariable standing n → w.left ≡ suc before →
    IsValueOfCall p g arguments cs w.objects before depth z after → 0 < after → y ≡ z → held ≡ holds (holding (Int y)) → new ≡ with_frame f (holding_at f.frame n held) ∷ calls → u ≡ raised depth w → v ≡ record u { left = after } → IsExecuted p (set (place place_stands own (variable n)) (value value_stands t (call name g arguments))) f calls w new v
variable_called p place_stands value_stands own t name g arguments n f calls cs new w v u before after depth z y held standing d e is paid h some same put now rises ends_in = record {
  held = slice_set f.frame.held n (holds (holding (Int y)));
  now = now ∙ ap (λ held. with_frame f (holding_at f.frame n held) ∷ calls) put;
  run = λ m at opened few.
      variable_set_to (setting_in p m f) at place_stands own (value value_stands t (call name g arguments)) n (record f.frame { opened = opened }) w (record (raised depth w) { left = after }) before is.cell z (subst (λ held. slice_get held n ≡ Some (holds is.cell)) (held_in standing cs f calls d e) is.there) paid (h value_stands t name m f calls w few (omega (arith, paid)) e some refl) ∙
      (ap (λ z. goes (holding_at (record f.frame { opened = opened }) n (holds (holding (Int z)))) (record (raised depth w) { left = after })) (sym same) ∙
      ap (λ w. goes (holding_at (record f.frame { opened = opened }) n (holds (holding (Int y)))) w) (ap (λ (w : State). record w { left = after }) (sym rises) ∙ sym ends_in));
}
