-- The acts for values and places leave what the tasks come to as it was.
use Rattle.std.proofs.Common.{◌≡◌, ℕ, Bool, true, false, List, [], ◌∷◌, length, refl, sym, ◌∙◌, ap, slice_get, Option, Some, None}
use Rattle.std.specs.Prelude.{if◌then◌else◌}
use Rattle.p10_base.specs.declared.span.Span.{Span}
use Rattle.p10_base.specs.declared.at.At.{At}
use Rattle.p10_core.specs.declared.typed.Library.{Library}
use Rattle.p10_core.specs.Types.{PlainType, bare}
use Rattle.p10_core.specs.Typed.{PlainValue, value, PlainForm, constant, read, sense, address, decay, convert, cast, unary, binary, logic, conditional, call, built_in, PlainPlace, place, variable, global, literal, index, member, dereference, PlainValues, no_values, more_values, place_at, place_type, PlainWritten, one_scalar, scalars_of_text, PlainItem, PlainProgram}
use Rattle.p10_meaning.specs.declared.pointers.Scalar.{Scalar}
use Rattle.p10_meaning.specs.declared.pointers.Scalar.TheVariants.{Int, Pointer}
use Rattle.p10_meaning.specs.Objects.{shift, inner, reach}
use Rattle.p10_meaning.specs.States.{State, Progress, gives, and_then, or_undefined}
use Rattle.p10_meaning.specs.Scalars.{number_of, pointer_of, is_true, truth_value, converted_to, operated, operated_unary}
use Rattle.p10_meaning.specs.Values.{Setting, Held, Target, width, variable_target, global_target, literal_number, literal_target, pointer_to, sensed, read_target, library, used, give, is_void, is_structure, element_type, element_count, scalars_before, is_decided, evaluate, discard, perform, evaluate_all, locate}
use Rattle.p10_meaning.specs.Calling.{call_at}
use Rattle.p10_interp.specs.private.Tasks.{use_value, drop_value, give_none, convert_to, take_truth, call_library, read_at, read_none, take_address, decay_at, Task, evaluate_value, discard_value, evaluate_values, evaluate_items, operate, Operand, evaluated, located, Open, Left}
use Rattle.p10_interp.specs.private.Operations.{put_values, count_of, leaves}
use Rattle.p10_interp.specs.private.Resuming.{setting_in, value_written, values_of_items, by_flow, resume, unwind, proceed}
use Rattle.p10_interp.specs.private.Acts.{goes_on, sought, may_give_none, reading, begun, begun_form, begun_unused, begun_values, begun_written, begun_items}
use Rattle.p10_interp.proofs.Continuing.{after_right, then_same, then_right, step_right, or_right, if_right}
use Rattle.p10_interp.proofs.Operands.{values_put, all_are_many, many_same}

-- ## Forms that give a value

module _ (s : Setting) (held : List Held) where
  read_sure : {A : Type 0} (b : Bool) (q : PlainPlace) (t : PlainType) (target : Target) (w : State) (g h : Option Scalar → State → Progress A) → b ≡ false →
      ((x : Scalar) (w : State) → g (Some x) w ≡ h (Some x) w) →
      and_then (if b then gives None w else and_then (read_target (place_at q).span t held target w) give) g ≡ and_then (if b then gives None w else and_then (read_target (place_at q).span t held target w) give) h
  read_sure true q t target w g h e same = absurd cc
  read_sure false q t target w g h e same = then_right (read_target (place_at q).span t held target w) _ _ _ _ same

  cast_sure : {A : Type 0} (b : Bool) (v : PlainValue) (t : PlainType) (w : State) (g h : Option Scalar → State → Progress A) → b ≡ false →
      ((x : Scalar) (w : State) → g (Some x) w ≡ h (Some x) w) →
      and_then (if b then and_then (discard s held v w) (λ x w. gives None w) else and_then (evaluate s held v w) (λ x w. give (converted_to t x) w)) g ≡
      and_then (if b then and_then (discard s held v w) (λ x w. gives None w) else and_then (evaluate s held v w) (λ x w. give (converted_to t x) w)) h
  cast_sure true v t w g h e same = absurd cc
  cast_sure false v t w g h e same = then_right (evaluate s held v w) _ _ _ _ (λ x w. same (converted_to t x) w)

  -- where a form gives a value, two rests that do the same with values do the same
  form_sure : {A : Type 0} (at : At) (t : PlainType) (form : PlainForm) (w : State) (g h : Option Scalar → State → Progress A) → may_give_none t form ≡ false →
      ((x : Scalar) (w : State) → g (Some x) w ≡ h (Some x) w) → and_then (perform s held at t form w) g ≡ and_then (perform s held at t form w) h
  form_sure at t (constant z) w g h e same = step_right w _ _ _ _ (λ w. same (Int z) w)
  form_sure at t (read q) w g h e same = step_right w _ _ _ _ (λ w. then_right (locate s held q w) _ _ _ _ (λ target w. read_sure (is_structure t) q t target w g h e same))
  form_sure at t (sense n) w g h e same = step_right w _ _ _ _ (λ w. then_right (sensed t w) _ _ _ _ same)
  form_sure at t (address q) w g h e same = step_right w _ _ _ _ (λ w. then_right (locate s held q w) _ _ _ _ (λ target w. same (Pointer (pointer_to target)) w))
  form_sure at t (decay q) w g h e same = step_right w _ _ _ _ (λ w. then_right (locate s held q w) _ _ _ _ (λ target w.
      or_right (inner w.objects (pointer_to target) 0 (width s.program (element_type (place_type q))) (element_count (place_type q))) at.span w _ _ _ _ (λ r. same (Pointer r) w)))
  form_sure at t (convert v) w g h e same = then_right (evaluate s held v w) _ _ _ _ (λ x w. same (converted_to t x) w)
  form_sure at t (cast v) w g h e same = step_right w _ _ _ _ (λ w. cast_sure (is_void t) v t w g h e same)
  form_sure at t (unary op v) w g h e same = step_right w _ _ _ _ (λ w. then_right (evaluate s held v w) _ _ _ _ (λ x w.
      or_right (operated_unary op t x) at.span w _ _ _ _ (λ z. same z w)))
  form_sure at t (binary op a b) w g h e same = step_right w _ _ _ _ (λ w. then_right (evaluate s held a w) _ _ _ _ (λ x w. then_right (evaluate s held b w) _ _ _ _ (λ y w.
      or_right (operated op t w.objects x y) at.span w _ _ _ _ (λ z. same z w))))
  form_sure at t (logic op a b) w g h e same = step_right w _ _ _ _ (λ w. then_right (evaluate s held a w) _ _ _ _ (λ x w.
      if_right (is_decided op (is_true x)) _ _ _ _ _ _ (λ e. same (truth_value (is_true x)) w)
      (λ e. then_right (evaluate s held b w) _ _ _ _ (λ y w. same (truth_value (is_true y)) w))))
  form_sure at t (conditional c a b) w g h e same = step_right w _ _ _ _ (λ w. then_right (evaluate s held c w) _ _ _ _ (λ x w.
      then_right (if is_true x then evaluate s held a w else evaluate s held b w) _ _ _ _ same))
  form_sure at t (call name f arguments) w g h e same = absurd cc
  form_sure at t (built_in name function arguments) w g h e same = absurd cc

-- what an operation left, and then on or back
abbrev pub settles : PlainProgram → ℕ → List Task → Left → State → Progress Left
settles p n k left w = by_flow left.flow left.operands left.calls w (λ operands calls w. resume p n k operands calls w) (λ flow operands calls w. unwind p n flow k operands calls w)

module _ (p : PlainProgram) (n : ℕ) where
  -- ## Places

  pub sought_right : (q : PlainPlace) (k : List Task) (operands : List Operand) (f : Open) (calls : List Open) (w : State) →
      and_then (locate (setting_in p n f) f.frame.held q w) (λ target w. resume p n k (located target ∷ operands) (f ∷ calls) w) ≡ and_then (sought p q k operands f calls w) (proceed p n)
  sought_right (place at t (variable m)) k operands f calls w = or_right (variable_target m (width p t) (slice_get f.frame.held m)) at.span w _ _ _ _ (λ target. refl)
  sought_right (place at t (global m)) k operands f calls w = or_right (global_target m (width p t) (slice_get p.objects m)) at.span w _ _ _ _ (λ target. refl)
  sought_right (place at t (literal m bytes)) k operands f calls w =
      or_right (literal_target (width p t) (literal_number m (length p.objects) p.literals)) at.span w _ _ _ _ (λ target. refl)
  sought_right (place at t (index a i)) k operands f calls w = step_right w _ _ _ _ (λ w.
      after_right (evaluate (setting_in p n f) f.frame.held a w) _ _ _ (λ x w. after_right (evaluate (setting_in p n f) f.frame.held i w) _ _ _ (λ y w.
      or_right (shift w.objects (pointer_of x) (number_of y)) at.span w _ _ _ _ (λ r. refl))))
  sought_right (place at t (member q m)) k operands f calls w = step_right w _ _ _ _ (λ w.
      after_right (locate (setting_in p n f) f.frame.held q w) _ _ _ (λ target w.
      or_right (inner w.objects (pointer_to target) (scalars_before p (bare p.structures (place_type q)) m) (width p t) 1) at.span w _ _ _ _ (λ r. refl)))
  sought_right (place at t (dereference v)) k operands f calls w = step_right w _ _ _ _ (λ w.
      after_right (evaluate (setting_in p n f) f.frame.held v w) _ _ _ (λ x w. or_right (reach w.objects (pointer_of x)) at.span w _ _ _ _ (λ object. refl)))

  -- ## Values

  -- what is read at a place
  read_right : (b : Bool) (q : PlainPlace) (t : PlainType) (target : Target) (k : List Task) (operands : List Operand) (f : Open) (calls : List Open) (w : State) →
      and_then (if b then gives None w else and_then (read_target (place_at q).span t f.frame.held target w) give) (λ x w. resume p n k (evaluated x ∷ operands) (f ∷ calls) w) ≡
      resume p n ((if b then operate read_none else operate (read_at (place_at q).span t)) ∷ k) (located target ∷ operands) (f ∷ calls) w
  read_right true q t target k operands f calls w = refl
  read_right false q t target k operands f calls w = then_right (read_target (place_at q).span t f.frame.held target w) _ _ _ _ (λ x w. refl)

  cast_right : (b : Bool) (v : PlainValue) (t : PlainType) (k : List Task) (operands : List Operand) (f : Open) (calls : List Open) (w : State) →
      and_then (if b then and_then (discard (setting_in p n f) f.frame.held v w) (λ x w. gives None w) else and_then (evaluate (setting_in p n f) f.frame.held v w) (λ x w. give (converted_to t x) w))
      (λ x w. resume p n k (evaluated x ∷ operands) (f ∷ calls) w) ≡
      and_then (goes_on (if b then discard_value v ∷ (operate give_none ∷ k) else evaluate_value v ∷ (operate (convert_to t) ∷ k)) operands (f ∷ calls) w) (proceed p n)
  cast_right true v t k operands f calls w = after_right (discard (setting_in p n f) f.frame.held v w) _ _ _ (λ x w. refl)
  cast_right false v t k operands f calls w = after_right (evaluate (setting_in p n f) f.frame.held v w) _ _ _ (λ x w. refl)

  -- the right operand of `&&` and `||`
  decide_right : (b : Bool) (x : Scalar) (v : PlainValue) (k : List Task) (operands : List Operand) (f : Open) (calls : List Open) (w : State) →
      and_then (if b then give x w else and_then (evaluate (setting_in p n f) f.frame.held v w) (λ y w. give (truth_value (is_true y)) w)) (λ x w. resume p n k (evaluated x ∷ operands) (f ∷ calls) w) ≡
      (if b then resume p n k (evaluated (Some x) ∷ operands) (f ∷ calls) w
      else and_then (evaluate (setting_in p n f) f.frame.held v w) (λ y w. resume p n k (evaluated (Some (truth_value (is_true y))) ∷ operands) (f ∷ calls) w))
  decide_right true x v k operands f calls w = refl
  decide_right false x v k operands f calls w = after_right (evaluate (setting_in p n f) f.frame.held v w) _ _ _ (λ y w. refl)

  pub decided_right : (b : Bool) (x : Scalar) (v : PlainValue) (k : List Task) (operands : List Operand) (f : Open) (calls : List Open) (w : State) →
      (if b then resume p n k (evaluated (Some x) ∷ operands) (f ∷ calls) w
      else and_then (evaluate (setting_in p n f) f.frame.held v w) (λ y w. resume p n k (evaluated (Some (truth_value (is_true y))) ∷ operands) (f ∷ calls) w)) ≡
      and_then (if b then goes_on k (evaluated (Some x) ∷ operands) (f ∷ calls) w else goes_on (evaluate_value v ∷ (operate take_truth ∷ k)) operands (f ∷ calls) w) (proceed p n)
  decided_right true x v k operands f calls w = refl
  decided_right false x v k operands f calls w = then_same (evaluate (setting_in p n f) f.frame.held v w) _ _ (λ y w. refl)

  -- a library function on the values on top
  library_right : (function : Library) (span : Span) (t : PlainType) (m : ℕ) (xs : List Scalar) (k : List Task) (operands : List Operand) (f : Open) (calls : List Open) (w : State) → length xs ≡ m →
      and_then (library p function span t xs w) (λ x w. resume p n k (evaluated x ∷ operands) (f ∷ calls) w) ≡
      resume p n (operate (call_library function span t m) ∷ k) (put_values xs operands) (f ∷ calls) w
  library_right function span t m xs k operands f calls w e =
      sym (ap (λ o. and_then o (settles p n k))
      (values_put m xs operands w (λ xs operands. and_then (library p function span t xs w) (λ x w. leaves (evaluated x ∷ operands) (f ∷ calls) w)) e) ∙
      after_right (library p function span t xs w) _ _ _ (λ x w. refl))

  abbrev IsRightForm : At → PlainType → PlainForm → List Operand → Open → List Open → State → List Task → Type 0
  IsRightForm at t form operands f calls w k =
      and_then (perform (setting_in p n f) f.frame.held at t form w) (λ x w. resume p n k (evaluated x ∷ operands) (f ∷ calls) w) ≡ and_then (begun_form p at t form k operands f calls w) (proceed p n)

  used_right : (at : At) (t : PlainType) (form : PlainForm) (k : List Task) (operands : List Operand) (f : Open) (calls : List Open) (w : State) (b : Bool) → may_give_none t form ≡ b →
      ((k : List Task) → IsRightForm at t form operands f calls w k) →
      and_then (evaluate (setting_in p n f) f.frame.held (value at t form) w) (λ x w. resume p n k (evaluated (Some x) ∷ operands) (f ∷ calls) w) ≡
      and_then (begun_form p at t form (if b then operate (use_value at.span) ∷ k else k) operands f calls w) (proceed p n)
  used_right at t form k operands f calls w true e h =
      after_right (perform (setting_in p n f) f.frame.held at t form w) _ _ _ (λ x w. or_right (used x) at.span w _ _ _ _ (λ x. refl)) ∙ h (operate (use_value at.span) ∷ k)
  used_right at t form k operands f calls w false e h =
      after_right (perform (setting_in p n f) f.frame.held at t form w) _ _
      (λ x w. and_then (or_undefined (used x) at.span w (λ x. gives x w)) (λ x w. resume p n k (evaluated (Some x) ∷ operands) (f ∷ calls) w)) (λ x w. refl) ∙
      (form_sure (setting_in p n f) f.frame.held at t form w _ _ e (λ x w. refl) ∙ h k)

  mutual
    pub begun_right : (v : PlainValue) (k : List Task) (operands : List Operand) (f : Open) (calls : List Open) (w : State) →
        and_then (evaluate (setting_in p n f) f.frame.held v w) (λ x w. resume p n k (evaluated (Some x) ∷ operands) (f ∷ calls) w) ≡ and_then (begun p v k operands f calls w) (proceed p n)
    begun_right (value at t form) k operands f calls w =
        used_right at t form k operands f calls w (may_give_none t form) refl (λ k. form_right at t form k operands f calls w)

    pub form_right : (at : At) (t : PlainType) (form : PlainForm) (k : List Task) (operands : List Operand) (f : Open) (calls : List Open) (w : State) →
        and_then (perform (setting_in p n f) f.frame.held at t form w) (λ x w. resume p n k (evaluated x ∷ operands) (f ∷ calls) w) ≡ and_then (begun_form p at t form k operands f calls w) (proceed p n)
    form_right at t (constant z) k operands f calls w = step_right w _ _ _ _ (λ w. refl)
    form_right at t (read q) k operands f calls w = step_right w _ _ _ _ (λ w.
        after_right (locate (setting_in p n f) f.frame.held q w) _ _ _ (λ target w. read_right (is_structure t) q t target k operands f calls w) ∙
        sought_right q (reading t q ∷ k) operands f calls w)
    form_right at t (sense m) k operands f calls w = step_right w _ _ _ _ (λ w. then_right (sensed t w) _ _ _ _ (λ x w. refl))
    form_right at t (address q) k operands f calls w = step_right w _ _ _ _ (λ w.
        after_right (locate (setting_in p n f) f.frame.held q w) _ _ _ (λ target w. refl) ∙ sought_right q (operate take_address ∷ k) operands f calls w)
    form_right at t (decay q) k operands f calls w = step_right w _ _ _ _ (λ w.
        after_right (locate (setting_in p n f) f.frame.held q w) _ _ _ (λ target w.
        or_right (inner w.objects (pointer_to target) 0 (width p (element_type (place_type q))) (element_count (place_type q))) at.span w _ _ _ _ (λ r. refl)) ∙
        sought_right q (operate (decay_at at.span (place_type q)) ∷ k) operands f calls w)
    form_right at t (convert v) k operands f calls w =
        after_right (evaluate (setting_in p n f) f.frame.held v w) _ _ _ (λ x w. refl) ∙ begun_right v (operate (convert_to t) ∷ k) operands f calls w
    form_right at t (cast v) k operands f calls w = step_right w _ _ _ _ (λ w. cast_right (is_void t) v t k operands f calls w)
    form_right at t (unary op v) k operands f calls w = step_right w _ _ _ _ (λ w.
        after_right (evaluate (setting_in p n f) f.frame.held v w) _ _ _ (λ x w. or_right (operated_unary op t x) at.span w _ _ _ _ (λ z. refl)))
    form_right at t (binary op a b) k operands f calls w = step_right w _ _ _ _ (λ w.
        after_right (evaluate (setting_in p n f) f.frame.held a w) _ _ _ (λ x w. after_right (evaluate (setting_in p n f) f.frame.held b w) _ _ _ (λ y w.
        or_right (operated op t w.objects x y) at.span w _ _ _ _ (λ z. refl))))
    form_right at t (logic op a b) k operands f calls w = step_right w _ _ _ _ (λ w.
        after_right (evaluate (setting_in p n f) f.frame.held a w) _ _ _ (λ x w. decide_right (is_decided op (is_true x)) (truth_value (is_true x)) b k operands f calls w))
    form_right at t (conditional c a b) k operands f calls w = step_right w _ _ _ _ (λ w.
        after_right (evaluate (setting_in p n f) f.frame.held c w) _ _ _ (λ x w.
        after_right (if is_true x then evaluate (setting_in p n f) f.frame.held a w else evaluate (setting_in p n f) f.frame.held b w) _ _ _ (λ y w. refl)))
    form_right at t (call name g arguments) k operands f calls w = step_right w _ _ _ _ (λ w.
        after_right (evaluate_all (setting_in p n f) f.frame.held arguments w) _ _ (λ xs w. and_then (call_at n p f.depth g xs w) (λ x w. resume p n k (evaluated x ∷ operands) (f ∷ calls) w)) (λ xs w. refl) ∙
        many_same (count_of arguments) (evaluate_all (setting_in p n f) f.frame.held arguments w) _ _ (all_are_many (setting_in p n f) f.frame.held arguments w)
        (λ xs w e. sym (values_put (count_of arguments) xs operands w (λ xs operands. and_then (call_at n p f.depth g xs w) (λ x w. resume p n k (evaluated x ∷ operands) (f ∷ calls) w)) e)))
    form_right at t (built_in name function arguments) k operands f calls w = step_right w _ _ _ _ (λ w.
        after_right (evaluate_all (setting_in p n f) f.frame.held arguments w) _ _ (λ xs w. and_then (library p function at.span t xs w) (λ x w. resume p n k (evaluated x ∷ operands) (f ∷ calls) w)) (λ xs w. refl) ∙
        many_same (count_of arguments) (evaluate_all (setting_in p n f) f.frame.held arguments w) _ _ (all_are_many (setting_in p n f) f.frame.held arguments w)
        (λ xs w e. library_right function at.span t (count_of arguments) xs k operands f calls w e))

  -- a value that isn't used
  pub unused_right : (v : PlainValue) (k : List Task) (operands : List Operand) (f : Open) (calls : List Open) (w : State) →
      and_then (discard (setting_in p n f) f.frame.held v w) (λ x w. resume p n k operands (f ∷ calls) w) ≡ and_then (begun_unused p v k operands f calls w) (proceed p n)
  unused_right (value at t form) k operands f calls w = form_right at t form (operate drop_value ∷ k) operands f calls w

  -- arguments
  pub values_right : (vs : PlainValues) (k : List Task) (operands : List Operand) (f : Open) (calls : List Open) (w : State) →
      and_then (evaluate_all (setting_in p n f) f.frame.held vs w) (λ xs w. resume p n k (put_values xs operands) (f ∷ calls) w) ≡ and_then (begun_values p vs k operands f calls w) (proceed p n)
  values_right no_values k operands f calls w = refl
  values_right (more_values v vs) k operands f calls w =
      after_right (evaluate (setting_in p n f) f.frame.held v w) _ _ _ (λ x w. after_right (evaluate_all (setting_in p n f) f.frame.held vs w) _ _ _ (λ xs w. refl)) ∙
      begun_right v (evaluate_values vs ∷ k) operands f calls w

  -- the values of a list
  written_right : (written : PlainWritten) (items : List PlainItem) (k : List Task) (operands : List Operand) (f : Open) (calls : List Open) (w : State) →
      and_then (value_written (setting_in p n f) f.frame.held written (λ w. values_of_items (setting_in p n f) f.frame.held items w) w) (λ xs w. resume p n k (put_values xs operands) (f ∷ calls) w) ≡
      and_then (begun_written p written items k operands f calls w) (proceed p n)
  written_right (one_scalar v) items k operands f calls w =
      after_right (evaluate (setting_in p n f) f.frame.held v w) _ _ _ (λ x w. after_right (values_of_items (setting_in p n f) f.frame.held items w) _ _ _ (λ xs w. refl)) ∙
      begun_right v (evaluate_items items ∷ k) operands f calls w
  written_right (scalars_of_text bytes) items k operands f calls w = refl

  pub items_right : (items : List PlainItem) (k : List Task) (operands : List Operand) (f : Open) (calls : List Open) (w : State) →
      and_then (values_of_items (setting_in p n f) f.frame.held items w) (λ xs w. resume p n k (put_values xs operands) (f ∷ calls) w) ≡ and_then (begun_items p items k operands f calls w) (proceed p n)
  items_right [] k operands f calls w = refl
  items_right (item ∷ items) k operands f calls w = written_right item.written items k operands f calls w
