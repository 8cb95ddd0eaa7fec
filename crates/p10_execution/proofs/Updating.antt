-- What the operator of an update gives is held by what is known of it.
use Rattle.std.proofs.Common.{◌≡◌, ℕ, Bool, true, false, List, refl, ◌∙◌, ap, sym, subst, Option, Some, None, ℤ, pos, Result, Ok, Err, inl, inr}
use Rattle.std.specs.Prelude.{slice_get, ◌⊎◌}
use Rattle.std.specs.Option.{option_and_then}
use Rattle.std.proofs.lemmas.Option.{same_Some, none-some}
use Rattle.p10_base.specs.declared.span.Span.{Span}
use Rattle.p10_int.specs.declared.types.IntType.{IntType}
use Rattle.p10_int.specs.declared.operators.Stop.{Stop}
use Rattle.p10_int.specs.declared.operators.BinOp.{BinOp}
use Rattle.p10_int.specs.declared.operators.BinOp.TheVariants.{Add, Sub, Mul, Div, Rem, Shl, Shr, And, Or, Xor, Lt, Gt, Le, Ge, Eq, Ne}
use Rattle.p10_int.specs.Types.{InRange, promoted, usual_of}
use Rattle.p10_int.specs.Conversion.{converted}
use Rattle.p10_int.specs.Operators.{operate}
use Rattle.p10_int.specs.Laws.{IsTruthValue}
use Rattle.p10_int.proofs.Conversions.{zero_in, one_in}
use Rattle.p10_int.proofs.TruthValues.{compared}
use Rattle.p10_core.specs.Types.{PlainType, void, integer, pointer, array, structure, PlainStructure}
use Rattle.p10_core.specs.Rows.{Row, row, row_where, integers_row, sum_row, difference_row, shift_row, order_row, equality_row, binary_row, is_complete, fits}
use Rattle.p10_core.specs.Constants.{integer_of}
use Rattle.p10_core.specs.Typed.{PlainPlace, place, place_type, variable, PlainVariable, PlainProgram}
use Rattle.p10_meaning.specs.declared.pointers.Scalar.{Scalar}
use Rattle.p10_meaning.specs.declared.pointers.Scalar.TheVariants.{Int}
use Rattle.p10_meaning.specs.Pointers.{read_of}
use Rattle.p10_meaning.specs.Objects.{Object, on_ok, cell_at}
use Rattle.p10_meaning.specs.States.{State, gives, or_undefined}
use Rattle.p10_meaning.specs.Scalars.{converted_to, operated}
use Rattle.p10_meaning.specs.Values.{Held, holds, stands, absent, Target, Variable, Sensor, Element, held_cell, sensed, read_target}
use Rattle.p10_meaning.specs.Sound.{Kind, Fits}
use Rattle.p10_meaning.proofs.SoundUpdates.{RowKind, one_type, truth, misfit}
use Rattle.p10_sums.specs.Keeping.{HoldsOf}
use Rattle.p10_absx.specs.Abstract.{Abstract, whole_type}
use Rattle.p10_absx.specs.Environments.{Environment, known}
use Rattle.p10_absx.specs.Operators.{converted_abstract, binary_abstract}
use Rattle.p10_absx.specs.Describing.{number_in, held_number, set_to, HoldsNumber, DescribesVariable, Describes, MaybeHolds}
use Rattle.p10_pass.specs.Passing.{before_update}
use Rattle.p10_evaluation.proofs.Narrowing.{holds_known}
use Rattle.p10_evaluation.proofs.Operating.{whole_holds, binary_holds, converted_holds}
use Rattle.p10_execution.proofs.Giving.{holds_any}
use Rattle.p10_execution.proofs.Storing.{Points}

-- ## Rows for an integer on the left

-- the right operand's type
abbrev IsInteger : PlainType → Type 0
IsInteger t = (k : IntType) × (t ≡ integer false k)

right_of : (a b : PlainType) (k : IntType) (r : Row) → row a b (integer false k) ≡ Some r → IsInteger r.right
right_of a b k r e = (k, sym (ap (λ (r : Row). r.right) (same_Some _ _ e)))

integers_right : (i : IntType) (t : PlainType) (r : Row) → integers_row (integer false i) t ≡ Some r → IsInteger r.right
integers_right i (integer d b) r e = right_of _ _ (usual_of i b) r e
integers_right i (void d) r e = absurd (none-some _ e)
integers_right i (pointer d t) r e = absurd (none-some _ e)
integers_right i (array d t n) r e = absurd (none-some _ e)
integers_right i (structure d n) r e = absurd (none-some _ e)

shift_right : (i : IntType) (t : PlainType) (r : Row) → shift_row (integer false i) t ≡ Some r → IsInteger r.right
shift_right i (integer d b) r e = right_of _ _ (promoted b) r e
shift_right i (void d) r e = absurd (none-some _ e)
shift_right i (pointer d t) r e = absurd (none-some _ e)
shift_right i (array d t n) r e = absurd (none-some _ e)
shift_right i (structure d n) r e = absurd (none-some _ e)

-- a sum with a pointer is no integer
moved_right : (b : Bool) (t : PlainType) (i j : IntType) (r : Row) → row_where b (pointer false t) (integer false i) (pointer false t) ≡ Some r → fits false r.result (integer false j) ≡ true → IsInteger r.right
moved_right true t i j r e f = let same : fits false r.result (integer false j) ≡ false = ap (λ (r : Row). fits false r.result (integer false j)) (sym (same_Some _ _ e)) in absurd cc
moved_right false t i j r e f = absurd (none-some _ e)

sum_right : (ss : List PlainStructure) (i j : IntType) (t : PlainType) (r : Row) → sum_row ss (integer false i) t ≡ Some r → fits false r.result (integer false j) ≡ true → IsInteger r.right
sum_right ss i j (integer d b) r e f = right_of _ _ (usual_of i b) r e
sum_right ss i j (pointer d t) r e f = moved_right (is_complete ss t) t (promoted i) j r e f
sum_right ss i j (void d) r e f = absurd (none-some _ e)
sum_right ss i j (array d t n) r e f = absurd (none-some _ e)
sum_right ss i j (structure d n) r e f = absurd (none-some _ e)

difference_right : (ss : List PlainStructure) (i : IntType) (t : PlainType) (r : Row) → difference_row ss (integer false i) t ≡ Some r → IsInteger r.right
difference_right ss i (integer d b) r e = right_of _ _ (usual_of i b) r e
difference_right ss i (void d) r e = absurd (none-some _ e)
difference_right ss i (pointer d t) r e = absurd (none-some _ e)
difference_right ss i (array d t n) r e = absurd (none-some _ e)
difference_right ss i (structure d n) r e = absurd (none-some _ e)

order_right : (i : IntType) (t : PlainType) (r : Row) → order_row (integer false i) t ≡ Some r → IsInteger r.right
order_right i (integer d b) r e = right_of _ _ (usual_of i b) r e
order_right i (void d) r e = absurd (none-some _ e)
order_right i (pointer d t) r e = absurd (none-some _ e)
order_right i (array d t n) r e = absurd (none-some _ e)
order_right i (structure d n) r e = absurd (none-some _ e)

equality_right : (i : IntType) (t : PlainType) (r : Row) → equality_row false false (integer false i) t ≡ Some r → IsInteger r.right
equality_right i (integer d b) r e = right_of _ _ (usual_of i b) r e
equality_right i (void d) r e = absurd (none-some _ e)
equality_right i (pointer d t) r e = absurd (none-some _ e)
equality_right i (array d t n) r e = absurd (none-some _ e)
equality_right i (structure d n) r e = absurd (none-some _ e)

pub right_integer : (ss : List PlainStructure) (op : BinOp) (i j : IntType) (t : PlainType) (r : Row) → binary_row ss op false false (integer false i) t ≡ Some r → fits false r.result (integer false j) ≡ true → IsInteger r.right
right_integer ss Add i j t r e f = sum_right ss i j t r e f
right_integer ss Sub i j t r e f = difference_right ss i t r e
right_integer ss Mul i j t r e f = integers_right i t r e
right_integer ss Div i j t r e f = integers_right i t r e
right_integer ss Rem i j t r e f = integers_right i t r e
right_integer ss Shl i j t r e f = shift_right i t r e
right_integer ss Shr i j t r e f = shift_right i t r e
right_integer ss And i j t r e f = integers_right i t r e
right_integer ss Or i j t r e f = integers_right i t r e
right_integer ss Xor i j t r e f = integers_right i t r e
right_integer ss Lt i j t r e f = order_right i t r e
right_integer ss Gt i j t r e f = order_right i t r e
right_integer ss Le i j t r e f = order_right i t r e
right_integer ss Ge i j t r e f = order_right i t r e
right_integer ss Eq i j t r e f = equality_right i t r e
right_integer ss Ne i j t r e f = equality_right i t r e

-- ## What an operator gives

given_of : (r : Result ℤ Stop) (x : Scalar) → on_ok r (λ z. Ok (Int z)) ≡ Ok x → (z : ℤ) × (r ≡ Ok z) × (x ≡ Int z)
given_of (Ok z) x e = let same : Int z ≡ x = cc in (z, refl, sym same)
given_of (Err stop) x e = absurd cc

truth_in : (k : IntType) (z : ℤ) → IsTruthValue z → InRange k z
truth_in k z t = of t.either
  where
    of : (z ≡ pos 1) ⊎ (z ≡ pos 0) → InRange k z
    of (inl e) = subst (InRange k) (sym e) (one_in k)
    of (inr e) = subst (InRange k) (sym e) (zero_in k)

-- the number lies in the operands' type
result_in : (p : PlainProgram) (ks : List Kind) (op : BinOp) (s : PlainType) (r : Row) (k : IntType) (a b z : ℤ) → RowKind op s r → fits false r.result s ≡ true → r.left ≡ integer false k → Fits p ks r.result (Int z) → operate op k a b ≡ Ok z → InRange k z
result_in p ks op s r k a b z (one_type same) f e g o = let fine : Fits p ks (integer false k) (Int z) = subst (λ t. Fits p ks t (Int z)) (sym same ∙ e) g in fine
result_in p ks op s r k a b z (truth c same) f e g o = truth_in k z (compared op k a b z c o)
result_in p ks op s r k a b z (misfit m) f e g o = absurd cc

-- what is known of the result, where both operands are held
abbrev pub Updated : List Held → BinOp → IntType → Abstract → Option Abstract → Scalar → Type 0
Updated head op k a b x = (z : ℤ) × (x ≡ Int z) × MaybeHolds head (option_and_then (λ b. binary_abstract op k (converted_abstract k a) b) b) z

maybe_binary : (head : List Held) (op : BinOp) (k : IntType) (a : Abstract) (b : Option Abstract) (x y z : ℤ) → HoldsNumber head a x → MaybeHolds head b y → InRange k z → operate op k (converted k x) y ≡ Ok z →
    MaybeHolds head (option_and_then (λ b. binary_abstract op k (converted_abstract k a) b) b) z
maybe_binary head op k a None x y z h g i e = absurd g
maybe_binary head op k a (Some b) x y z h g i e = binary_holds head op k (converted_abstract k a) b (converted k x) y z (converted_holds head k a x h) g i e

pub updated_by : (p : PlainProgram) (ks : List Kind) (head : List Held) (op : BinOp) (s : PlainType) (r : Row) (k : IntType) (objects : List Object) (a : Abstract) (b : Option Abstract) (x y : ℤ) (result : Scalar) → RowKind op s r → fits false r.result s ≡ true → r.left ≡ integer false k →
    HoldsNumber head a x → MaybeHolds head b y → operated op (integer false k) objects (converted_to (integer false k) (Int x)) (Int y) ≡ Ok result → Fits p ks r.result result → Updated head op k a b result
updated_by p ks head op s r k objects a b x y result kind f left h g e fits =
    let o = given_of (operate op k (converted k x) y) result e in
    let fine : Fits p ks r.result (Int o.0) = subst (Fits p ks r.result) o.2 fits in
    (o.0, o.2, maybe_binary head op k a b x y o.0 h g (result_in p ks op s r k (converted k x) y o.0 kind f left fine o.1) o.1)

-- ## What the place held

-- a number that was read of a variable is the one that it holds
abbrev pub IsRead : List Held → Target → Scalar → Type 0
IsRead held (Variable n) x = set_to held n ≡ number_in (Some x)
IsRead held target x = Unit {0}

variable_read : (held : List Held) (n : ℕ) (span : Span) (h : Option Held) (w : State) → slice_get held n ≡ h → HoldsOf (λ x w. held_number h ≡ number_in (Some x)) (or_undefined (read_of (held_cell h)) span w (λ x. gives x w))
variable_read held n span None w e = tt
variable_read held n span (Some absent) w e = tt
variable_read held n span (Some (stands o)) w e = tt
variable_read held n span (Some (holds cell)) w e = of cell.value
  where
    of : (o : Option Scalar) → HoldsOf (λ x w. number_in o ≡ number_in (Some x)) (or_undefined (read_of (record { value = o })) span w (λ x. gives x w))
    of None = tt
    of (Some x) = refl

pub read_is : (held : List Held) (span : Span) (t : PlainType) (target : Target) (w : State) → HoldsOf (λ x w. IsRead held target x) (read_target span t held target w)
read_is held span t (Variable n) w = variable_read held n span (slice_get held n) w refl
read_is held span t Sensor w = holds_any (sensed t w)
read_is held span t (Element q) w = holds_any (or_undefined (on_ok (cell_at w.objects q) read_of) span w (λ x. gives x w))

-- what was read is held by what was known of the place
pub before_holds : (variables : List PlainVariable) (env : Environment) (head held : List Held) (q : PlainPlace) (target : Target) (z : ℤ) → Points held q target → IsRead held target (Int z) → InRange (integer_of (place_type q)) z → Describes variables env head held → HoldsNumber head (before_update q env) z
before_holds variables env head held (place at t (variable n)) (Variable k) z e r i d = of (known env n) refl
  where
    here : set_to held n ≡ Some z
    here = subst (λ (k : ℕ). set_to held k ≡ Some z) e r

    of : (o : Option Abstract) → known env n ≡ o → HoldsNumber head (elim o [ Some a ↦ a | None ↦ whole_type (integer_of t) ]) z
    of None s = whole_holds head (integer_of t) z i
    of (Some a) s = let v : DescribesVariable variables head held n a = d.each n a s in holds_known head _ n a (set_to held n) z here v.describes
before_holds variables env head held (place at t (variable n)) Sensor z e r i d = absurd e
before_holds variables env head held (place at t (variable n)) (Element q) z e r i d = of (known env n) refl
  where
    of : (o : Option Abstract) → known env n ≡ o → HoldsNumber head (elim o [ Some a ↦ a | None ↦ whole_type (integer_of t) ]) z
    of None s = whole_holds head (integer_of t) z i
    of (Some a) s = let v : DescribesVariable variables head held n a = d.each n a s in absurd (v.no_object e.0 e.1)
before_holds variables env head held (place at t form) target z e r i d = whole_holds head (integer_of t) z i
