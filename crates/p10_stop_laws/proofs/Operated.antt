-- In which stops operators end, on operands that fit the types of a row.
use Rattle.std.proofs.Common.{◌≡◌, ℕ, ◌≤◌, Bool, true, false, List, refl, sym, ap, subst, arith, Ok, Err, ℤ, pos, neg_ℤ, ◌-ℤ◌}
use Rattle.std.specs.Prelude.{not}
use Rattle.std.proofs.lemmas.Int.{ints}
use Rattle.p10_base.specs.declared.at.At.{At}
use Rattle.p10_int.specs.declared.types.IntType.{IntType}
use Rattle.p10_int.specs.declared.types.IntType.TheVariants.{Long}
use Rattle.p10_int.specs.declared.operators.Stop.{Stop}
use Rattle.p10_int.specs.declared.operators.Stop.TheVariants.{U1}
use Rattle.p10_int.specs.declared.operators.BinOp.{BinOp}
use Rattle.p10_int.specs.declared.operators.BinOp.TheVariants.{Add, Sub, Lt, Gt, Le, Ge, Eq, Ne}
use Rattle.p10_int.specs.declared.operators.UnOp.{UnOp}
use Rattle.p10_int.specs.declared.operators.UnOp.TheVariants.{Plus, Neg, Not, Com}
use Rattle.p10_int.specs.Types.{InRange, is_signed_of}
use Rattle.p10_int.specs.Operators.{fitted, truth_of, operate, operate_unary}
use Rattle.p10_int.specs.Laws.{is_comparison}
use Rattle.p10_int.proofs.Ranges.{not_negative}
use Rattle.p10_core.specs.Types.{PlainType, integer, pointer, bare}
use Rattle.p10_core.specs.Rows.{Row, UnaryRow, int_type, fits}
use Rattle.p10_core.specs.Typed.{PlainValue, value, type_of, unary, PlainProgram}
use Rattle.p10_core.specs.Whole.{UnaryAgrees}
use Rattle.p10_core.specs.Nodes.{a_value}
use Rattle.p10_meaning.specs.declared.pointers.Window.{Window}
use Rattle.p10_meaning.specs.declared.pointers.Ptr.{Ptr}
use Rattle.p10_meaning.specs.declared.pointers.Ptr.TheVariants.{To}
use Rattle.p10_meaning.specs.declared.pointers.Scalar.{Scalar}
use Rattle.p10_meaning.specs.declared.pointers.Scalar.TheVariants.{Int, Pointer}
use Rattle.p10_meaning.specs.Objects.{Object, on_ok, less, distance}
use Rattle.p10_meaning.specs.States.{State}
use Rattle.p10_meaning.specs.Scalars.{integer_type, moved, related, operated, operated_unary}
use Rattle.p10_meaning.specs.Sound.{most_elements, Kind, FitsPointer, Fits, Sound}
use Rattle.p10_meaning.proofs.SoundUpdates.{RowKind, one_type, truth, misfit}
use Rattle.p10_stop_laws.specs.Operators.{CannotShift, negative_value, lacked, IsUndefined, sum, difference, product, quotient, quotient_by_zero, remainder, remainder_by_zero, left_count, left, right_count}
use Rattle.p10_stop_laws.specs.Causes.{Accessing, Relating, is_move, is_relation, OperatorStops, overflows, divides_by_zero, shifts_too_far, shifts_out, moves_left, moves_right, relates, NodeStops, negates}
use Rattle.p10_stop_laws.proofs.Operators.{fitted_stops, stops}
use Rattle.p10_stop_laws.proofs.Pointing.{on_stops, shift_stops, less_stops, distance_stops, IsDistance, between, distance_gives}
use Rattle.p10_stop_laws.proofs.Shapes.{Shape, numbers, compared, moved_left, moved_right, subtracted, ordered, UnaryShape, number, test_number, test_pointer, unary_shape}

-- ## Integers

signed_value : (t : IntType) (a n : ℤ) → InRange t a → CannotShift t a n → is_signed_of t ≡ true
signed_value t a n i (negative_value h) = by_sign (is_signed_of t) refl
  where
    by_sign : (s : Bool) → is_signed_of t ≡ s → is_signed_of t ≡ true
    by_sign true s = s
    by_sign false s = let k = not_negative t a s i in absurd (omega (arith, ints, h, k))
signed_value t a n i (lacked o) = o.signed

undefined_stops : (op : BinOp) (i j : IntType) (a b : ℤ) (stop : Stop) → InRange i a → IsUndefined i a b op stop → OperatorStops op (integer false i) (integer false i) (integer false j) stop
undefined_stops op i j a b stop r (sum o) = overflows i j refl o.signed
undefined_stops op i j a b stop r (difference o) = overflows i j refl o.signed
undefined_stops op i j a b stop r (product o) = overflows i j refl o.signed
undefined_stops op i j a b stop r (quotient m) = overflows i j refl m.signed
undefined_stops op i j a b stop r (quotient_by_zero z) = divides_by_zero i j refl
undefined_stops op i j a b stop r (remainder m) = overflows i j refl m.signed
undefined_stops op i j a b stop r (remainder_by_zero z) = divides_by_zero i j refl
undefined_stops op i j a b stop r (left_count w) = shifts_too_far i j refl
undefined_stops op i j a b stop r (left w k) = shifts_out i j refl (signed_value i a b r k)
undefined_stops op i j a b stop r (right_count w) = shifts_too_far i j refl

numbers_stop : (p : PlainProgram) (ks : List Kind) (op : BinOp) (i j : IntType) (objects : List Object) (x y : Scalar) (stop : Stop) → Fits p ks (integer false i) x → Fits p ks (integer false j) y →
    operated op (integer false i) objects x y ≡ Err stop → OperatorStops op (integer false i) (integer false i) (integer false j) stop
numbers_stop p ks op i j objects (Int a) (Int b) stop f g e =
    on_stops (operate op i a b) (λ z. Ok (Int z)) stop (OperatorStops op (integer false i) (integer false i) (integer false j) stop) e
    (λ h. undefined_stops op i j a b stop f (stops op i a b stop f h)) (λ z is h. absurd cc)
numbers_stop p ks op i j objects (Pointer q) y stop f g e = absurd f
numbers_stop p ks op i j objects (Int a) (Pointer q) stop f g e = absurd g

-- comparisons of integers never stop
comparison_goes : (op : BinOp) (i : IntType) (a b : ℤ) (stop : Stop) → is_comparison op ≡ true → operate op i a b ≡ Err stop → ⊥
comparison_goes Lt i a b stop c e = cc
comparison_goes Gt i a b stop c e = cc
comparison_goes Le i a b stop c e = cc
comparison_goes Ge i a b stop c e = cc
comparison_goes Eq i a b stop c e = cc
comparison_goes Ne i a b stop c e = cc
comparison_goes op i a b stop c e = cc

compared_goes : (p : PlainProgram) (ks : List Kind) (op : BinOp) (t : PlainType) (i : IntType) (objects : List Object) (x y : Scalar) (stop : Stop) → is_comparison op ≡ true → Fits p ks (integer false i) x → Fits p ks (integer false i) y →
    operated op t objects x y ≡ Err stop → ⊥
compared_goes p ks op t i objects (Int a) (Int b) stop c f g e =
    on_stops (operate op (integer_type t) a b) (λ z. Ok (Int z)) stop ⊥ e (λ h. comparison_goes op (integer_type t) a b stop c h) (λ z is h. absurd cc)
compared_goes p ks op t i objects (Pointer q) y stop c f g e = absurd f
compared_goes p ks op t i objects (Int a) (Pointer q) stop c f g e = absurd g

-- ## Pointers

moved_stops : (op : BinOp) (objects : List Object) (q : Ptr) (z : ℤ) (stop : Stop) → is_move op ≡ true → moved op objects q z ≡ Err stop → Accessing stop
moved_stops Add objects q z stop c e = shift_stops objects q z stop e
moved_stops Sub objects q z stop c e = shift_stops objects q (neg_ℤ z) stop e
moved_stops op objects q z stop c e = absurd cc

left_moves : (p : PlainProgram) (ks : List Kind) (op : BinOp) (t : PlainType) (i : IntType) (objects : List Object) (x y : Scalar) (stop : Stop) → is_move op ≡ true → Fits p ks (pointer false t) x → Fits p ks (integer false i) y →
    operated op (pointer false t) objects x y ≡ Err stop → Accessing stop
left_moves p ks op t i objects (Pointer q) (Int n) stop c f g e =
    on_stops (moved op objects q n) (λ r. Ok (Pointer r)) stop (Accessing stop) e (λ h. moved_stops op objects q n stop c h) (λ r is h. absurd cc)
left_moves p ks op t i objects (Int a) y stop c f g e = absurd f
left_moves p ks op t i objects (Pointer q) (Pointer r) stop c f g e = absurd g

right_moves : (p : PlainProgram) (ks : List Kind) (op : BinOp) (t : PlainType) (i : IntType) (objects : List Object) (x y : Scalar) (stop : Stop) → is_move op ≡ true → Fits p ks (integer false i) x → Fits p ks (pointer false t) y →
    operated op (pointer false t) objects x y ≡ Err stop → Accessing stop
right_moves p ks op t i objects (Int n) (Pointer q) stop c f g e =
    on_stops (moved op objects q n) (λ r. Ok (Pointer r)) stop (Accessing stop) e (λ h. moved_stops op objects q n stop c h) (λ r is h. absurd cc)
right_moves p ks op t i objects (Pointer q) y stop c f g e = absurd f
right_moves p ks op t i objects (Int a) (Int b) stop c f g e = absurd g

-- how two pointers are ordered
record Orders (op : BinOp) (stop : Stop) : Type 0 where
  relation : is_relation op ≡ true
  relating : Relating stop

less_orders : (op : BinOp) (objects : List Object) (q r : Ptr) (f : Bool → Bool) (stop : Stop) → is_relation op ≡ true → on_ok (less objects q r) (λ b. Ok (truth_of (f b))) ≡ Err stop → Orders op stop
less_orders op objects q r f stop c e =
    record {
      relation = c;
      relating = on_stops (less objects q r) (λ b. Ok (truth_of (f b))) stop (Relating stop) e (less_stops objects q r stop) (λ b is h. absurd cc);
    }

related_orders : (op : BinOp) (t : PlainType) (objects : List Object) (q r : Ptr) (stop : Stop) → is_comparison op ≡ true → related op t objects q r ≡ Err stop → Orders op stop
related_orders Lt t objects q r stop c e = less_orders Lt objects q r (λ b. b) stop refl e
related_orders Gt t objects q r stop c e = less_orders Gt objects r q (λ b. b) stop refl e
related_orders Le t objects q r stop c e = less_orders Le objects r q not stop refl e
related_orders Ge t objects q r stop c e = less_orders Ge objects q r not stop refl e
related_orders Eq t objects q r stop c e = absurd cc
related_orders Ne t objects q r stop c e = absurd cc
related_orders op t objects q r stop c e = absurd cc

ordered_stops : (p : PlainProgram) (ks : List Kind) (op : BinOp) (t u v : PlainType) (objects : List Object) (x y : Scalar) (stop : Stop) → is_comparison op ≡ true → Fits p ks (pointer false u) x → Fits p ks (pointer false v) y →
    operated op t objects x y ≡ Err stop → Orders op stop
ordered_stops p ks op t u v objects (Pointer q) (Pointer r) stop c f g e =
    on_stops (related op t objects q r) (λ z. Ok (Int z)) stop (Orders op stop) e (λ h. related_orders op t objects q r stop c h) (λ z is h. absurd cc)
ordered_stops p ks op t u v objects (Int a) y stop c f g e = absurd f
ordered_stops p ks op t u v objects (Pointer q) (Int b) stop c f g e = absurd g

-- a position is no greater than an array may be long
position_small : (p : PlainProgram) (ks : List Kind) (w : State) → Sound p ks w → (t : PlainType) (q : Ptr) (o : ℕ) (a : Window) (n : ℕ) → q ≡ To o a n → FitsPointer p ks t q → n ≤ most_elements
position_small p ks w so t q o a n e f =
    let at = subst (FitsPointer p ks t) e f in
    let few = (so.sizes o at.kind at.opened).arrays (record { window = a; elem = bare p.structures t }) at.leads in
    omega (arith, few, at.position)

-- so `long` has each distance
distance_in : (n m : ℕ) → n ≤ most_elements → m ≤ most_elements → InRange Long (pos n -ℤ pos m)
distance_in n m g h = record { low = omega (arith, ints, g, h); high = omega (arith, ints, g, h) }

distance_fits : (p : PlainProgram) (ks : List Kind) (w : State) → Sound p ks w → (s t : PlainType) (q r : Ptr) (z : ℤ) → FitsPointer p ks s q → FitsPointer p ks t r → IsDistance q r z → InRange Long z
distance_fits p ks w so s t q r z f g (between o k a b n m e h is) =
    subst (InRange Long) (sym is) (distance_in n m (position_small p ks w so s q o a n e f) (position_small p ks w so t r k b m h g))

subtracted_stops : (p : PlainProgram) (ks : List Kind) (w : State) → Sound p ks w → (s t : PlainType) (x y : Scalar) (stop : Stop) → Fits p ks (pointer false s) x → Fits p ks (pointer false t) y →
    operated Sub (integer false Long) w.objects x y ≡ Err stop → Relating stop
subtracted_stops p ks w so s t (Pointer q) (Pointer r) stop f g e =
    on_stops (related Sub (integer false Long) w.objects q r) (λ z. Ok (Int z)) stop (Relating stop) e
    (λ h. on_stops (distance w.objects q r) (λ n. fitted Long U1 n) stop (Relating stop) h (distance_stops w.objects q r stop)
    (λ n is k. absurd ((fitted_stops Long U1 stop n k).1.lacks (distance_fits p ks w so s t q r n f g (distance_gives w.objects q r n is)))))
    (λ z is h. absurd cc)
subtracted_stops p ks w so s t (Int a) y stop f g e = absurd f
subtracted_stops p ks w so s t (Pointer q) (Int b) stop f g e = absurd g

-- ## Rows

is_moved : (op : BinOp) → op ≡ Add → is_move op ≡ true
is_moved op e = ap is_move e

is_subtraction : (op : BinOp) → op ≡ Sub → is_relation op ≡ true
is_subtraction op e = ap is_relation e

-- at the type of the result
pub binary_stops : (p : PlainProgram) (ks : List Kind) (w : State) → Sound p ks w → (op : BinOp) (r : Row) → Shape op r → (x y : Scalar) (stop : Stop) → Fits p ks r.left x → Fits p ks r.right y →
    operated op r.result w.objects x y ≡ Err stop → OperatorStops op r.result r.left r.right stop
binary_stops p ks w so op r (numbers i j) x y stop f g e = numbers_stop p ks op i j w.objects x y stop f g e
binary_stops p ks w so op r (compared i c) x y stop f g e = absurd (compared_goes p ks op int_type i w.objects x y stop c f g e)
binary_stops p ks w so op r (moved_left t i c) x y stop f g e = moves_left t i stop c (left_moves p ks op t i w.objects x y stop c f g e)
binary_stops p ks w so op r (moved_right t i c) x y stop f g e = moves_right t i stop c (right_moves p ks op t i w.objects x y stop (is_moved op c) f g e)
binary_stops p ks w so op r (subtracted s t c) x y stop f g e =
    relates (integer false Long) s t stop (is_subtraction op c)
    (subtracted_stops p ks w so s t x y stop f g (subst (λ (op : BinOp). operated op (integer false Long) w.objects x y ≡ Err stop) c e))
binary_stops p ks w so op r (ordered s t c) x y stop f g e = let o = ordered_stops p ks op int_type s t w.objects x y stop c f g e in relates int_type s t stop o.relation o.relating

-- at the type of the left operand, as in `P op= e`, where the result fits P
pub update_stops : (p : PlainProgram) (ks : List Kind) (objects : List Object) (op : BinOp) (s : PlainType) (r : Row) → Shape op r → RowKind op s r → fits false r.result s ≡ true → (x y : Scalar) (stop : Stop) →
    Fits p ks r.left x → Fits p ks r.right y → operated op r.left objects x y ≡ Err stop → OperatorStops op r.left r.left r.right stop
update_stops p ks objects op s r (numbers i j) k m x y stop f g e = numbers_stop p ks op i j objects x y stop f g e
update_stops p ks objects op s r (compared i c) k m x y stop f g e = absurd (compared_goes p ks op (integer false i) i objects x y stop c f g e)
update_stops p ks objects op s r (moved_left t i c) k m x y stop f g e = moves_left t i stop c (left_moves p ks op t i objects x y stop c f g e)
update_stops p ks objects op s r (moved_right t i c) k m x y stop f g e = absurd (none op s t i c k m)
  where
    none : (op : BinOp) (s t : PlainType) (i : IntType) → op ≡ Add → RowKind op s (record { result = pointer false t; left = integer false i; right = pointer false t }) → fits false (pointer false t) s ≡ true → ⊥
    none op s t i c (one_type e) m = cc
    none op s t i c (truth d e) m = let h : is_comparison Add ≡ true = subst (λ (op : BinOp). is_comparison op ≡ true) c d in cc
    none op s t i c (misfit e) m = cc
update_stops p ks objects op s r (subtracted u t c) k m x y stop f g e = absurd (none op s u t c k m)
  where
    none : (op : BinOp) (s u t : PlainType) → op ≡ Sub → RowKind op s (record { result = integer false Long; left = pointer false u; right = pointer false t }) → fits false (integer false Long) s ≡ true → ⊥
    none op s u t c (one_type e) m = cc
    none op s u t c (truth d e) m = let h : is_comparison Sub ≡ true = subst (λ (op : BinOp). is_comparison op ≡ true) c d in cc
    none op s u t c (misfit e) m = cc
update_stops p ks objects op s r (ordered u t c) k m x y stop f g e =
    let o = ordered_stops p ks op (pointer false u) u t objects x y stop c f g e in relates (pointer false u) u t stop o.relation o.relating

-- ## Unary operators

negated_stops : (op : UnOp) (i : IntType) (z : ℤ) (stop : Stop) → operate_unary op i z ≡ Err stop → (op ≡ Neg) × (stop ≡ U1) × (is_signed_of i ≡ true)
negated_stops Plus i z stop e = absurd cc
negated_stops Neg i z stop e = let f = fitted_stops i U1 stop (neg_ℤ z) e in (refl, f.0, f.1.signed)
negated_stops Not i z stop e = absurd cc
negated_stops Com i z stop e = absurd cc

unary_cause : (p : PlainProgram) (ks : List Kind) (op : UnOp) (at : At) (v : PlainValue) (r : UnaryRow) → UnaryShape op r → (x : Scalar) (stop : Stop) → Fits p ks r.operand x → operated_unary op r.result x ≡ Err stop →
    NodeStops (a_value (value at r.result (unary op v))) stop at.span
unary_cause p ks op at v r (number i) (Int z) stop f e =
    on_stops (operate_unary op i z) (λ z. Ok (Int z)) stop (NodeStops (a_value (value at (integer false i) (unary op v))) stop at.span) e
    (λ h. let n = negated_stops op i z stop h in
    subst (λ (op : UnOp). NodeStops (a_value (value at (integer false i) (unary op v))) stop at.span) (sym n.0)
    (subst (λ (stop : Stop). NodeStops (a_value (value at (integer false i) (unary Neg v))) stop at.span) (sym n.1) (negates at i v n.2)))
    (λ z is h. absurd cc)
unary_cause p ks op at v r (number i) (Pointer q) stop f e = absurd f
unary_cause p ks op at v r (test_number i c) (Int z) stop f e =
    let g : operated_unary Not int_type (Int z) ≡ Err stop = subst (λ (op : UnOp). operated_unary op int_type (Int z) ≡ Err stop) c e in absurd cc
unary_cause p ks op at v r (test_number i c) (Pointer q) stop f e = absurd f
unary_cause p ks op at v r (test_pointer t c) (Pointer q) stop f e =
    let g : operated_unary Not int_type (Pointer q) ≡ Err stop = subst (λ (op : UnOp). operated_unary op int_type (Pointer q) ≡ Err stop) c e in absurd cc
unary_cause p ks op at v r (test_pointer t c) (Int z) stop f e = absurd f

pub unary_stops : (p : PlainProgram) (ks : List Kind) (at : At) (t : PlainType) (op : UnOp) (v : PlainValue) → UnaryAgrees op t (type_of v) → (x : Scalar) (stop : Stop) → Fits p ks (type_of v) x → operated_unary op t x ≡ Err stop →
    NodeStops (a_value (value at t (unary op v))) stop at.span
unary_stops p ks at t op v i x stop f e =
    subst (λ (t : PlainType). NodeStops (a_value (value at t (unary op v))) stop at.span) (sym i.result_is)
    (unary_cause p ks op at v i.entry (unary_shape op i.of_type i.entry i.is) x stop (subst (λ (t : PlainType). Fits p ks t x) i.operand_is f)
    (subst (λ (t : PlainType). operated_unary op t x ≡ Err stop) i.result_is e))
