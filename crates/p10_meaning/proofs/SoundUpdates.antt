-- `P op= e`: what the operator gives, and its conversion, fit.
use Rattle.std.proofs.Common.{◌≡◌, ◌&&◌, Bool, true, false, List, refl, sym, ap, subst, Some, Ok, ℤ}
use Rattle.std.specs.Prelude.{not}
use Rattle.std.proofs.lemmas.Option.{same_Some, none-some}
use Rattle.p10_int.specs.declared.types.IntType.{IntType}
use Rattle.p10_int.specs.declared.types.IntType.TheVariants.{Int as int}
use Rattle.p10_int.specs.declared.operators.BinOp.{BinOp}
use Rattle.p10_int.specs.declared.operators.BinOp.TheVariants.{Add, Sub, Mul, Div, Rem, Shl, Shr, And, Or, Xor, Lt, Gt, Le, Ge, Eq, Ne}
use Rattle.p10_int.specs.Types.{InRange, promoted, usual_of}
use Rattle.p10_int.specs.Operators.{operate}
use Rattle.p10_int.specs.Laws.{is_comparison}
use Rattle.p10_int.proofs.Conversions.{converted_in}
use Rattle.p10_int.proofs.TruthValues.{compared}
use Rattle.p10_core.specs.Types.{PlainType, void, integer, pointer, array, structure, PlainStructure}
use Rattle.p10_core.specs.Rows.{same, is_complete, Row, row, row_where, integers_row, sum_row, difference_row, shift_row, order_row, equality_row, binary_row, int_type, fits}
use Rattle.p10_core.specs.Typed.{PlainProgram}
use Rattle.p10_meaning.specs.declared.pointers.Ptr.{Ptr}
use Rattle.p10_meaning.specs.declared.pointers.Scalar.{Scalar}
use Rattle.p10_meaning.specs.declared.pointers.Scalar.TheVariants.{Int, Pointer}
use Rattle.p10_meaning.specs.Pointers.{same_pointer}
use Rattle.p10_meaning.specs.Objects.{Object, on_ok, less}
use Rattle.p10_meaning.specs.Scalars.{number_of, integer_type, converted_to, moved, related, operated}
use Rattle.p10_meaning.specs.Sound.{Kind, Fits}
use Rattle.p10_meaning.proofs.Moves.{OnOk}
use Rattle.p10_meaning.proofs.Fitting.{fits_same}
use Rattle.p10_meaning.proofs.SoundScalars.{of_result, number_fits, truth_in, truth_ok, binary_fits, adds_const_bare, converted_fits}

-- a comparison gives a truth value, whatever its operands
comparison_any : (p : PlainProgram) (ks : List Kind) (op : BinOp) (t : PlainType) (objects : List Object) (x y : Scalar) → is_comparison op ≡ true → OnOk (Fits p ks int_type) (operated op t objects x y)
comparison_any p ks op t objects (Int a) (Int b) c = number_fits p ks int (operate op (integer_type t) a b) (of_result (InRange int) (operate op (integer_type t) a b) (λ r e. (compared op (integer_type t) a b r c e).of_int))
comparison_any p ks op t objects (Pointer q) (Int n) c = no_move op objects q n c
  where
    no_move : (op : BinOp) (objects : List Object) (q : Ptr) (n : ℤ) → is_comparison op ≡ true → OnOk (Fits p ks int_type) (on_ok (moved op objects q n) (λ r. Ok (Pointer r)))
    no_move Add objects q n c = absurd cc
    no_move Sub objects q n c = absurd cc
    no_move Mul objects q n c = tt
    no_move Div objects q n c = tt
    no_move Rem objects q n c = tt
    no_move Shl objects q n c = tt
    no_move Shr objects q n c = tt
    no_move And objects q n c = tt
    no_move Or objects q n c = tt
    no_move Xor objects q n c = tt
    no_move Lt objects q n c = tt
    no_move Gt objects q n c = tt
    no_move Le objects q n c = tt
    no_move Ge objects q n c = tt
    no_move Eq objects q n c = tt
    no_move Ne objects q n c = tt
comparison_any p ks op t objects (Int n) (Pointer q) c = no_move op objects q n c
  where
    no_move : (op : BinOp) (objects : List Object) (q : Ptr) (n : ℤ) → is_comparison op ≡ true → OnOk (Fits p ks int_type) (on_ok (moved op objects q n) (λ r. Ok (Pointer r)))
    no_move Add objects q n c = absurd cc
    no_move Sub objects q n c = absurd cc
    no_move Mul objects q n c = tt
    no_move Div objects q n c = tt
    no_move Rem objects q n c = tt
    no_move Shl objects q n c = tt
    no_move Shr objects q n c = tt
    no_move And objects q n c = tt
    no_move Or objects q n c = tt
    no_move Xor objects q n c = tt
    no_move Lt objects q n c = tt
    no_move Gt objects q n c = tt
    no_move Le objects q n c = tt
    no_move Ge objects q n c = tt
    no_move Eq objects q n c = tt
    no_move Ne objects q n c = tt
comparison_any p ks op t objects (Pointer q) (Pointer r) c = number_fits p ks int (related op t objects q r) (related_any op t objects q r c)
  where
    related_any : (op : BinOp) (t : PlainType) (objects : List Object) (q r : Ptr) → is_comparison op ≡ true → OnOk (InRange int) (related op t objects q r)
    related_any Lt t objects q r c = truth_ok (less objects q r) (λ b. b)
    related_any Gt t objects q r c = truth_ok (less objects r q) (λ b. b)
    related_any Le t objects q r c = truth_ok (less objects r q) not
    related_any Ge t objects q r c = truth_ok (less objects q r) not
    related_any Eq t objects q r c = truth_in (same_pointer q r)
    related_any Ne t objects q r c = truth_in (not (same_pointer q r))
    related_any Add t objects q r c = absurd cc
    related_any Sub t objects q r c = absurd cc
    related_any Mul t objects q r c = tt
    related_any Div t objects q r c = tt
    related_any Rem t objects q r c = tt
    related_any Shl t objects q r c = tt
    related_any Shr t objects q r c = tt
    related_any And t objects q r c = tt
    related_any Or t objects q r c = tt
    related_any Xor t objects q r c = tt

-- what the row of an update may be: its result has the left operand's type; it is a comparison's; or it fits no such place
pub data RowKind (op : BinOp) (s : PlainType) (r : Row) : Type 0 where
  one_type : r.left ≡ r.result → RowKind op s r
  truth : is_comparison op ≡ true → r.result ≡ int_type → RowKind op s r
  misfit : fits false r.result s ≡ false → RowKind op s r

-- the left operand's type: an integer type for an integer, and the pointer's own for a pointer
abbrev pub IsLeft : PlainType → PlainType → Type 0
IsLeft (integer c i) l = (j : IntType) × (l ≡ integer false j)
IsLeft (pointer c t) l = l ≡ pointer false t
IsLeft s l = ⊥

pub record IsRow (op : BinOp) (s : PlainType) (r : Row) : Type 0 where
  pub kind : RowKind op s r
  pub left : IsLeft s r.left

row_is : (op : BinOp) (s a b c : PlainType) (r : Row) → row a b c ≡ Some r → IsRow op s (record { result = a; left = b; right = c }) → IsRow op s r
row_is op s a b c r e h = subst (λ r. IsRow op s r) (same_Some _ _ e) h

row_where_is : (op : BinOp) (s : PlainType) (q : Bool) (a b c : PlainType) (r : Row) → row_where q a b c ≡ Some r → IsRow op s (record { result = a; left = b; right = c }) → IsRow op s r
row_where_is op s true a b c r e h = row_is op s a b c r e h
row_where_is op s false a b c r e h = absurd (none-some _ e)

integers_row_is : (op : BinOp) (s t : PlainType) (r : Row) → integers_row s t ≡ Some r → IsRow op s r
integers_row_is op (void c) (void d) r e = absurd (none-some _ e)
integers_row_is op (void c) (integer d b) r e = absurd (none-some _ e)
integers_row_is op (void c) (pointer d t) r e = absurd (none-some _ e)
integers_row_is op (void c) (array d t n) r e = absurd (none-some _ e)
integers_row_is op (void c) (structure d n) r e = absurd (none-some _ e)
integers_row_is op (integer c a) (void d) r e = absurd (none-some _ e)
integers_row_is op (integer c a) (integer d b) r e = row_is op (integer c a) _ _ _ r e (record { kind = one_type refl; left = (usual_of a b, refl) })
integers_row_is op (integer c a) (pointer d t) r e = absurd (none-some _ e)
integers_row_is op (integer c a) (array d t n) r e = absurd (none-some _ e)
integers_row_is op (integer c a) (structure d n) r e = absurd (none-some _ e)
integers_row_is op (pointer c s) (void d) r e = absurd (none-some _ e)
integers_row_is op (pointer c s) (integer d b) r e = absurd (none-some _ e)
integers_row_is op (pointer c s) (pointer d t) r e = absurd (none-some _ e)
integers_row_is op (pointer c s) (array d t n) r e = absurd (none-some _ e)
integers_row_is op (pointer c s) (structure d n) r e = absurd (none-some _ e)
integers_row_is op (array c s m) (void d) r e = absurd (none-some _ e)
integers_row_is op (array c s m) (integer d b) r e = absurd (none-some _ e)
integers_row_is op (array c s m) (pointer d t) r e = absurd (none-some _ e)
integers_row_is op (array c s m) (array d t n) r e = absurd (none-some _ e)
integers_row_is op (array c s m) (structure d n) r e = absurd (none-some _ e)
integers_row_is op (structure c m) (void d) r e = absurd (none-some _ e)
integers_row_is op (structure c m) (integer d b) r e = absurd (none-some _ e)
integers_row_is op (structure c m) (pointer d t) r e = absurd (none-some _ e)
integers_row_is op (structure c m) (array d t n) r e = absurd (none-some _ e)
integers_row_is op (structure c m) (structure d n) r e = absurd (none-some _ e)

shift_row_is : (op : BinOp) (s t : PlainType) (r : Row) → shift_row s t ≡ Some r → IsRow op s r
shift_row_is op (void c) (void d) r e = absurd (none-some _ e)
shift_row_is op (void c) (integer d b) r e = absurd (none-some _ e)
shift_row_is op (void c) (pointer d t) r e = absurd (none-some _ e)
shift_row_is op (void c) (array d t n) r e = absurd (none-some _ e)
shift_row_is op (void c) (structure d n) r e = absurd (none-some _ e)
shift_row_is op (integer c a) (void d) r e = absurd (none-some _ e)
shift_row_is op (integer c a) (integer d b) r e = row_is op (integer c a) _ _ _ r e (record { kind = one_type refl; left = (promoted a, refl) })
shift_row_is op (integer c a) (pointer d t) r e = absurd (none-some _ e)
shift_row_is op (integer c a) (array d t n) r e = absurd (none-some _ e)
shift_row_is op (integer c a) (structure d n) r e = absurd (none-some _ e)
shift_row_is op (pointer c s) (void d) r e = absurd (none-some _ e)
shift_row_is op (pointer c s) (integer d b) r e = absurd (none-some _ e)
shift_row_is op (pointer c s) (pointer d t) r e = absurd (none-some _ e)
shift_row_is op (pointer c s) (array d t n) r e = absurd (none-some _ e)
shift_row_is op (pointer c s) (structure d n) r e = absurd (none-some _ e)
shift_row_is op (array c s m) (void d) r e = absurd (none-some _ e)
shift_row_is op (array c s m) (integer d b) r e = absurd (none-some _ e)
shift_row_is op (array c s m) (pointer d t) r e = absurd (none-some _ e)
shift_row_is op (array c s m) (array d t n) r e = absurd (none-some _ e)
shift_row_is op (array c s m) (structure d n) r e = absurd (none-some _ e)
shift_row_is op (structure c m) (void d) r e = absurd (none-some _ e)
shift_row_is op (structure c m) (integer d b) r e = absurd (none-some _ e)
shift_row_is op (structure c m) (pointer d t) r e = absurd (none-some _ e)
shift_row_is op (structure c m) (array d t n) r e = absurd (none-some _ e)
shift_row_is op (structure c m) (structure d n) r e = absurd (none-some _ e)

sum_row_is : (ss : List PlainStructure) (s t : PlainType) (r : Row) → sum_row ss s t ≡ Some r → IsRow Add s r
sum_row_is ss (void c) (void d) r e = absurd (none-some _ e)
sum_row_is ss (void c) (integer d b) r e = absurd (none-some _ e)
sum_row_is ss (void c) (pointer d t) r e = absurd (none-some _ e)
sum_row_is ss (void c) (array d t n) r e = absurd (none-some _ e)
sum_row_is ss (void c) (structure d n) r e = absurd (none-some _ e)
sum_row_is ss (integer c a) (void d) r e = absurd (none-some _ e)
sum_row_is ss (integer c a) (integer d b) r e = row_is Add (integer c a) _ _ _ r e (record { kind = one_type refl; left = (usual_of a b, refl) })
sum_row_is ss (integer c a) (pointer d t) r e = row_where_is Add (integer c a) (is_complete ss t) _ _ _ r e (record { kind = misfit refl; left = (promoted a, refl) })
sum_row_is ss (integer c a) (array d t n) r e = absurd (none-some _ e)
sum_row_is ss (integer c a) (structure d n) r e = absurd (none-some _ e)
sum_row_is ss (pointer c s) (void d) r e = absurd (none-some _ e)
sum_row_is ss (pointer c s) (integer d b) r e = row_where_is Add (pointer c s) (is_complete ss s) _ _ _ r e (record { kind = one_type refl; left = refl })
sum_row_is ss (pointer c s) (pointer d t) r e = absurd (none-some _ e)
sum_row_is ss (pointer c s) (array d t n) r e = absurd (none-some _ e)
sum_row_is ss (pointer c s) (structure d n) r e = absurd (none-some _ e)
sum_row_is ss (array c s m) (void d) r e = absurd (none-some _ e)
sum_row_is ss (array c s m) (integer d b) r e = absurd (none-some _ e)
sum_row_is ss (array c s m) (pointer d t) r e = absurd (none-some _ e)
sum_row_is ss (array c s m) (array d t n) r e = absurd (none-some _ e)
sum_row_is ss (array c s m) (structure d n) r e = absurd (none-some _ e)
sum_row_is ss (structure c m) (void d) r e = absurd (none-some _ e)
sum_row_is ss (structure c m) (integer d b) r e = absurd (none-some _ e)
sum_row_is ss (structure c m) (pointer d t) r e = absurd (none-some _ e)
sum_row_is ss (structure c m) (array d t n) r e = absurd (none-some _ e)
sum_row_is ss (structure c m) (structure d n) r e = absurd (none-some _ e)

difference_row_is : (ss : List PlainStructure) (s t : PlainType) (r : Row) → difference_row ss s t ≡ Some r → IsRow Sub s r
difference_row_is ss (void c) (void d) r e = absurd (none-some _ e)
difference_row_is ss (void c) (integer d b) r e = absurd (none-some _ e)
difference_row_is ss (void c) (pointer d t) r e = absurd (none-some _ e)
difference_row_is ss (void c) (array d t n) r e = absurd (none-some _ e)
difference_row_is ss (void c) (structure d n) r e = absurd (none-some _ e)
difference_row_is ss (integer c a) (void d) r e = absurd (none-some _ e)
difference_row_is ss (integer c a) (integer d b) r e = row_is Sub (integer c a) _ _ _ r e (record { kind = one_type refl; left = (usual_of a b, refl) })
difference_row_is ss (integer c a) (pointer d t) r e = absurd (none-some _ e)
difference_row_is ss (integer c a) (array d t n) r e = absurd (none-some _ e)
difference_row_is ss (integer c a) (structure d n) r e = absurd (none-some _ e)
difference_row_is ss (pointer c s) (void d) r e = absurd (none-some _ e)
difference_row_is ss (pointer c s) (integer d b) r e = row_where_is Sub (pointer c s) (is_complete ss s) _ _ _ r e (record { kind = one_type refl; left = refl })
difference_row_is ss (pointer c s) (pointer d t) r e = row_where_is Sub (pointer c s) (same s t && is_complete ss t) _ _ _ r e (record { kind = misfit refl; left = refl })
difference_row_is ss (pointer c s) (array d t n) r e = absurd (none-some _ e)
difference_row_is ss (pointer c s) (structure d n) r e = absurd (none-some _ e)
difference_row_is ss (array c s m) (void d) r e = absurd (none-some _ e)
difference_row_is ss (array c s m) (integer d b) r e = absurd (none-some _ e)
difference_row_is ss (array c s m) (pointer d t) r e = absurd (none-some _ e)
difference_row_is ss (array c s m) (array d t n) r e = absurd (none-some _ e)
difference_row_is ss (array c s m) (structure d n) r e = absurd (none-some _ e)
difference_row_is ss (structure c m) (void d) r e = absurd (none-some _ e)
difference_row_is ss (structure c m) (integer d b) r e = absurd (none-some _ e)
difference_row_is ss (structure c m) (pointer d t) r e = absurd (none-some _ e)
difference_row_is ss (structure c m) (array d t n) r e = absurd (none-some _ e)
difference_row_is ss (structure c m) (structure d n) r e = absurd (none-some _ e)

order_row_is : (op : BinOp) → is_comparison op ≡ true → (s t : PlainType) (r : Row) → order_row s t ≡ Some r → IsRow op s r
order_row_is op q (void c) (void d) r e = absurd (none-some _ e)
order_row_is op q (void c) (integer d b) r e = absurd (none-some _ e)
order_row_is op q (void c) (pointer d t) r e = absurd (none-some _ e)
order_row_is op q (void c) (array d t n) r e = absurd (none-some _ e)
order_row_is op q (void c) (structure d n) r e = absurd (none-some _ e)
order_row_is op q (integer c a) (void d) r e = absurd (none-some _ e)
order_row_is op q (integer c a) (integer d b) r e = row_is op (integer c a) _ _ _ r e (record { kind = truth q refl; left = (usual_of a b, refl) })
order_row_is op q (integer c a) (pointer d t) r e = absurd (none-some _ e)
order_row_is op q (integer c a) (array d t n) r e = absurd (none-some _ e)
order_row_is op q (integer c a) (structure d n) r e = absurd (none-some _ e)
order_row_is op q (pointer c s) (void d) r e = absurd (none-some _ e)
order_row_is op q (pointer c s) (integer d b) r e = absurd (none-some _ e)
order_row_is op q (pointer c s) (pointer d t) r e = row_where_is op (pointer c s) (same s t) _ _ _ r e (record { kind = truth q refl; left = refl })
order_row_is op q (pointer c s) (array d t n) r e = absurd (none-some _ e)
order_row_is op q (pointer c s) (structure d n) r e = absurd (none-some _ e)
order_row_is op q (array c s m) (void d) r e = absurd (none-some _ e)
order_row_is op q (array c s m) (integer d b) r e = absurd (none-some _ e)
order_row_is op q (array c s m) (pointer d t) r e = absurd (none-some _ e)
order_row_is op q (array c s m) (array d t n) r e = absurd (none-some _ e)
order_row_is op q (array c s m) (structure d n) r e = absurd (none-some _ e)
order_row_is op q (structure c m) (void d) r e = absurd (none-some _ e)
order_row_is op q (structure c m) (integer d b) r e = absurd (none-some _ e)
order_row_is op q (structure c m) (pointer d t) r e = absurd (none-some _ e)
order_row_is op q (structure c m) (array d t n) r e = absurd (none-some _ e)
order_row_is op q (structure c m) (structure d n) r e = absurd (none-some _ e)

equality_row_is : (op : BinOp) → is_comparison op ≡ true → (s t : PlainType) (r : Row) → equality_row false false s t ≡ Some r → IsRow op s r
equality_row_is op q (void c) (void d) r e = absurd (none-some _ e)
equality_row_is op q (void c) (integer d b) r e = absurd (none-some _ e)
equality_row_is op q (void c) (pointer d t) r e = absurd (none-some _ e)
equality_row_is op q (void c) (array d t n) r e = absurd (none-some _ e)
equality_row_is op q (void c) (structure d n) r e = absurd (none-some _ e)
equality_row_is op q (integer c a) (void d) r e = absurd (none-some _ e)
equality_row_is op q (integer c a) (integer d b) r e = row_is op (integer c a) _ _ _ r e (record { kind = truth q refl; left = (usual_of a b, refl) })
equality_row_is op q (integer c a) (pointer d t) r e = absurd (none-some _ e)
equality_row_is op q (integer c a) (array d t n) r e = absurd (none-some _ e)
equality_row_is op q (integer c a) (structure d n) r e = absurd (none-some _ e)
equality_row_is op q (pointer c s) (void d) r e = absurd (none-some _ e)
equality_row_is op q (pointer c s) (integer d b) r e = absurd (none-some _ e)
equality_row_is op q (pointer c s) (pointer d t) r e = row_where_is op (pointer c s) (same s t) _ _ _ r e (record { kind = truth q refl; left = refl })
equality_row_is op q (pointer c s) (array d t n) r e = absurd (none-some _ e)
equality_row_is op q (pointer c s) (structure d n) r e = absurd (none-some _ e)
equality_row_is op q (array c s m) (void d) r e = absurd (none-some _ e)
equality_row_is op q (array c s m) (integer d b) r e = absurd (none-some _ e)
equality_row_is op q (array c s m) (pointer d t) r e = absurd (none-some _ e)
equality_row_is op q (array c s m) (array d t n) r e = absurd (none-some _ e)
equality_row_is op q (array c s m) (structure d n) r e = absurd (none-some _ e)
equality_row_is op q (structure c m) (void d) r e = absurd (none-some _ e)
equality_row_is op q (structure c m) (integer d b) r e = absurd (none-some _ e)
equality_row_is op q (structure c m) (pointer d t) r e = absurd (none-some _ e)
equality_row_is op q (structure c m) (array d t n) r e = absurd (none-some _ e)
equality_row_is op q (structure c m) (structure d n) r e = absurd (none-some _ e)

pub binary_row_is : (ss : List PlainStructure) (op : BinOp) (s t : PlainType) (r : Row) → binary_row ss op false false s t ≡ Some r → IsRow op s r
binary_row_is ss Add s t r e = sum_row_is ss s t r e
binary_row_is ss Sub s t r e = difference_row_is ss s t r e
binary_row_is ss Mul s t r e = integers_row_is Mul s t r e
binary_row_is ss Div s t r e = integers_row_is Div s t r e
binary_row_is ss Rem s t r e = integers_row_is Rem s t r e
binary_row_is ss Shl s t r e = shift_row_is Shl s t r e
binary_row_is ss Shr s t r e = shift_row_is Shr s t r e
binary_row_is ss And s t r e = integers_row_is And s t r e
binary_row_is ss Or s t r e = integers_row_is Or s t r e
binary_row_is ss Xor s t r e = integers_row_is Xor s t r e
binary_row_is ss Lt s t r e = order_row_is Lt refl s t r e
binary_row_is ss Gt s t r e = order_row_is Gt refl s t r e
binary_row_is ss Le s t r e = order_row_is Le refl s t r e
binary_row_is ss Ge s t r e = order_row_is Ge refl s t r e
binary_row_is ss Eq s t r e = equality_row_is Eq refl s t r e
binary_row_is ss Ne s t r e = equality_row_is Ne refl s t r e

-- the left operand of an update, converted, fits the row
pub left_fits : (p : PlainProgram) (ks : List Kind) (s l : PlainType) (x : Scalar) → IsLeft s l → Fits p ks s x → Fits p ks l (converted_to l x)
left_fits p ks (integer c i) l x (j, e) f = subst (λ l. Fits p ks l (converted_to l x)) (sym e) (converted_fits p ks j x)
left_fits p ks (pointer c t) l (Pointer q) e f = subst (λ l. Fits p ks l (converted_to l (Pointer q))) (sym e) f
left_fits p ks (pointer c t) l (Int z) e f = absurd f
left_fits p ks (void c) l x e f = absurd e
left_fits p ks (array c t n) l x e f = absurd e
left_fits p ks (structure c n) l x e f = absurd e

-- what the operator of an update gives fits its row's result
pub update_fits : (p : PlainProgram) (ks : List Kind) (op : BinOp) (s right : PlainType) (r : Row) → binary_row p.structures op false false s right ≡ Some r → RowKind op s r → fits false r.result s ≡ true →
    (objects : List Object) (x y : Scalar) → Fits p ks r.left x → Fits p ks r.right y → OnOk (Fits p ks r.result) (operated op r.left objects x y)
update_fits p ks op s right r e (one_type same) h objects x y f g = subst (λ t. OnOk (Fits p ks r.result) (operated op t objects x y)) (sym same) (binary_fits p ks op false false s right r e objects x y f g)
update_fits p ks op s right r e (truth c same) h objects x y f g = subst (λ t. OnOk (Fits p ks t) (operated op r.left objects x y)) (sym same) (comparison_any p ks op r.left objects x y c)
update_fits p ks op s right r e (misfit m) h objects x y f g = absurd cc

-- and so it does the place, converted
pub result_fits : (p : PlainProgram) (ks : List Kind) (s u : PlainType) (z : Scalar) → fits false s u ≡ true → Fits p ks s z → Fits p ks u (converted_to u z)
result_fits p ks s (integer c i) z e f = converted_in i (number_of z)
result_fits p ks (pointer c s) (pointer d t) (Pointer q) e f = fits_same p ks (pointer c s) (pointer d t) (Pointer q) (ap (λ t. pointer false t) (adds_const_bare p.structures s t e)) f
result_fits p ks (pointer c s) (pointer d t) (Int z) e f = absurd f
result_fits p ks (integer c i) (pointer d t) z e f = absurd cc
result_fits p ks (void c) (pointer d t) z e f = absurd f
result_fits p ks (array c s n) (pointer d t) z e f = absurd f
result_fits p ks (structure c n) (pointer d t) z e f = absurd f
result_fits p ks (void c) (void d) z e f = absurd f
result_fits p ks (integer c i) (void d) z e f = absurd cc
result_fits p ks (pointer c s) (void d) z e f = absurd cc
result_fits p ks (array c s n) (void d) z e f = absurd f
result_fits p ks (structure c n) (void d) z e f = absurd f
result_fits p ks (void c) (array d t n) z e f = absurd f
result_fits p ks (integer c i) (array d t n) z e f = absurd cc
result_fits p ks (pointer c s) (array d t n) z e f = absurd cc
result_fits p ks (array c s m) (array d t n) z e f = absurd f
result_fits p ks (structure c m) (array d t n) z e f = absurd f
result_fits p ks (void c) (structure d n) z e f = absurd f
result_fits p ks (integer c i) (structure d n) z e f = absurd cc
result_fits p ks (pointer c s) (structure d n) z e f = absurd cc
result_fits p ks (array c s m) (structure d n) z e f = absurd f
result_fits p ks (structure c m) (structure d n) z e f = absurd f
