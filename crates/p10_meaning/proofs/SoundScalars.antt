-- What operators and conversions give fits the type of their result, where the operands fit the types of their row.
use Rattle.std.proofs.Common.{◌≡◌, ℕ, eqb, ◌&&◌, arith, Bool, true, false, List, refl, sym, ◌∙◌, ap, subst, Some, Result, Ok, Err, ℤ, pos}
use Rattle.std.specs.Prelude.{neg_ℤ, not, ◌+ℤ◌, ◌||◌, if◌then◌else◌}
use Rattle.std.proofs.lemmas.Int.{ints}
use Rattle.std.proofs.lemmas.Bool.{eqb-true}
use Rattle.std.specs.Bool.{beq}
use Rattle.std.proofs.lemmas.Option.{same_Some, none-some}
use Rattle.p10_int.specs.declared.types.IntType.{IntType}
use Rattle.p10_int.specs.declared.types.IntType.TheVariants.{Bool as Truth, Char, SChar, UChar, Short, UShort, Int as int, UInt, Long, ULong, LLong, ULLong}
use Rattle.p10_int.specs.declared.operators.Stop.{Stop}
use Rattle.p10_int.specs.declared.operators.Stop.TheVariants.{U1}
use Rattle.p10_int.specs.declared.operators.BinOp.{BinOp}
use Rattle.p10_int.specs.declared.operators.BinOp.TheVariants.{Add, Sub, Mul, Div, Rem, Shl, Shr, And, Or, Xor, Lt, Gt, Le, Ge, Eq, Ne}
use Rattle.p10_int.specs.declared.operators.UnOp.{UnOp}
use Rattle.p10_int.specs.declared.operators.UnOp.TheVariants.{Plus, Neg, Not, Com}
use Rattle.p10_int.specs.Types.{InRange, promoted, usual_of}
use Rattle.p10_int.specs.Operators.{fitted, truth_of, operate, operate_unary}
use Rattle.p10_int.specs.Laws.{is_comparison}
use Rattle.p10_int.proofs.Conversions.{zero_in, one_in, converted_in}
use Rattle.p10_int.proofs.InRange.{operate_in, unary_in}
use Rattle.p10_int.proofs.TruthValues.{compared, negated}
use Rattle.p10_core.specs.Types.{PlainType, void, integer, pointer, array, structure, bare, PlainStructure}
use Rattle.p10_core.specs.Rows.{number_of as number_in, same_integer, same_form, same, mark_of, adds_const, is_scalar, is_complete, Row, row, row_where, integers_row, sum_row, difference_row, shift_row, order_row, equality_row, binary_row, UnaryRow, promoted_row, negation_row, unary_row, int_type}
use Rattle.p10_core.specs.Typed.{PlainProgram}
use Rattle.p10_meaning.specs.declared.pointers.Ptr.{Ptr}
use Rattle.p10_meaning.specs.declared.pointers.Scalar.{Scalar}
use Rattle.p10_meaning.specs.declared.pointers.Scalar.TheVariants.{Int, Pointer}
use Rattle.p10_meaning.specs.Pointers.{same_pointer, is_null}
use Rattle.p10_meaning.specs.Objects.{Object, on_ok, less, distance}
use Rattle.p10_meaning.specs.Scalars.{number_of, pointer_of, truth_value, converted_to, zero_of, moved, related, operated, operated_unary}
use Rattle.p10_meaning.specs.Sound.{Kind, FitsPointer, Fits}
use Rattle.p10_meaning.proofs.Moves.{OnOk, on_then, any_ok, shift_fits}
use Rattle.p10_meaning.proofs.Fitting.{fits_same}

-- a fact of every result that a computation gives
pub of_result : {A : Type 0} (P : A → Type 0) (r : Result A Stop) → ((x : A) → r ≡ Ok x → P x) → OnOk P r
of_result P (Ok x) h = h x refl
of_result P (Err e) h = tt

-- ## Integers

pub truth_fits : (p : PlainProgram) (ks : List Kind) (b : Bool) → Fits p ks int_type (truth_value b)
truth_fits p ks true = one_in int
truth_fits p ks false = zero_in int

pub truth_in : (b : Bool) → InRange int (truth_of b)
truth_in true = one_in int
truth_in false = zero_in int

pub number_fits : (p : PlainProgram) (ks : List Kind) (i : IntType) (r : Result ℤ Stop) → OnOk (InRange i) r → OnOk (Fits p ks (integer false i)) (on_ok r (λ z. Ok (Int z)))
number_fits p ks i (Ok z) h = h
number_fits p ks i (Err e) h = tt

fitted_in : (i : IntType) (z : ℤ) → OnOk (InRange i) (fitted i U1 z)
fitted_in i z = of_result (InRange i) (fitted i U1 z) (λ r e. operate_in Add i (pos 0) z r (zero_in i) (adding r e))
  where
    adding : (r : ℤ) → fitted i U1 z ≡ Ok r → operate Add i (pos 0) z ≡ Ok r
    adding r e = ap (λ z. fitted i U1 z) (zero_plus z) ∙ e
      where
        zero_plus : (z : ℤ) → pos 0 +ℤ z ≡ z
        zero_plus z = grind (arith, ints)

-- arithmetic at one type
arithmetic_fits : (p : PlainProgram) (ks : List Kind) (op : BinOp) (i j : IntType) (objects : List Object) (x y : Scalar) → Fits p ks (integer false i) x → Fits p ks (integer false j) y → OnOk (Fits p ks (integer false i)) (operated op (integer false i) objects x y)
arithmetic_fits p ks op i j objects (Int a) (Int b) f g = number_fits p ks i (operate op i a b) (of_result (InRange i) (operate op i a b) (λ r e. operate_in op i a b r f e))
arithmetic_fits p ks op i j objects (Pointer q) y f g = absurd f
arithmetic_fits p ks op i j objects (Int a) (Pointer q) f g = absurd g

comparison_fits : (p : PlainProgram) (ks : List Kind) (op : BinOp) (i j : IntType) (objects : List Object) (x y : Scalar) → is_comparison op ≡ true → Fits p ks (integer false i) x → Fits p ks (integer false j) y → OnOk (Fits p ks int_type) (operated op int_type objects x y)
comparison_fits p ks op i j objects (Int a) (Int b) c f g = number_fits p ks int (operate op int a b) (of_result (InRange int) (operate op int a b) (λ r e. (compared op int a b r c e).of_int))
comparison_fits p ks op i j objects (Pointer q) y c f g = absurd f
comparison_fits p ks op i j objects (Int a) (Pointer q) c f g = absurd g

-- ## Pointers

pub truth_ok : (r : Result Bool Stop) (f : Bool → Bool) → OnOk (InRange int) (on_ok r (λ b. Ok (truth_of (f b))))
truth_ok (Ok b) f = truth_in (f b)
truth_ok (Err e) f = tt

related_in : (op : BinOp) (objects : List Object) (q r : Ptr) → is_comparison op ≡ true → OnOk (InRange int) (related op int_type objects q r)
related_in Lt objects q r c = truth_ok (less objects q r) (λ b. b)
related_in Gt objects q r c = truth_ok (less objects r q) (λ b. b)
related_in Le objects q r c = truth_ok (less objects r q) not
related_in Ge objects q r c = truth_ok (less objects q r) not
related_in Eq objects q r c = truth_in (same_pointer q r)
related_in Ne objects q r c = truth_in (not (same_pointer q r))
related_in Add objects q r c = tt
related_in Sub objects q r c = absurd cc
related_in Mul objects q r c = tt
related_in Div objects q r c = tt
related_in Rem objects q r c = tt
related_in Shl objects q r c = tt
related_in Shr objects q r c = tt
related_in And objects q r c = tt
related_in Or objects q r c = tt
related_in Xor objects q r c = tt

relation_fits : (p : PlainProgram) (ks : List Kind) (op : BinOp) (s t : PlainType) (objects : List Object) (x y : Scalar) → is_comparison op ≡ true → Fits p ks (pointer false s) x → Fits p ks (pointer false t) y → OnOk (Fits p ks int_type) (operated op int_type objects x y)
relation_fits p ks op s t objects (Pointer q) (Pointer r) c f g = number_fits p ks int (related op int_type objects q r) (related_in op objects q r c)
relation_fits p ks op s t objects (Int a) y c f g = absurd f
relation_fits p ks op s t objects (Pointer q) (Int b) c f g = absurd g

distance_fits : (p : PlainProgram) (ks : List Kind) (s t : PlainType) (objects : List Object) (x y : Scalar) → Fits p ks (pointer false s) x → Fits p ks (pointer false t) y → OnOk (Fits p ks (integer false Long)) (operated Sub (integer false Long) objects x y)
distance_fits p ks s t objects (Pointer q) (Pointer r) f g = number_fits p ks Long (related Sub (integer false Long) objects q r) (on_then (λ _. Unit {0}) (InRange Long) (distance objects q r) _ (any_ok (distance objects q r)) (λ n _. fitted_in Long n))
distance_fits p ks s t objects (Int a) y f g = absurd f
distance_fits p ks s t objects (Pointer q) (Int b) f g = absurd g

pointer_ok : (p : PlainProgram) (ks : List Kind) (t : PlainType) (r : Result Ptr Stop) → OnOk (FitsPointer p ks t) r → OnOk (Fits p ks (pointer false t)) (on_ok r (λ r. Ok (Pointer r)))
pointer_ok p ks t (Ok q) h = h
pointer_ok p ks t (Err e) h = tt

moved_fits : (p : PlainProgram) (ks : List Kind) (op : BinOp) (t : PlainType) (objects : List Object) (q : Ptr) (n : ℤ) → FitsPointer p ks t q → OnOk (FitsPointer p ks t) (moved op objects q n)
moved_fits p ks Add t objects q n f = shift_fits p ks objects t q n f
moved_fits p ks Sub t objects q n f = shift_fits p ks objects t q (neg_ℤ n) f
moved_fits p ks Mul t objects q n f = tt
moved_fits p ks Div t objects q n f = tt
moved_fits p ks Rem t objects q n f = tt
moved_fits p ks Shl t objects q n f = tt
moved_fits p ks Shr t objects q n f = tt
moved_fits p ks And t objects q n f = tt
moved_fits p ks Or t objects q n f = tt
moved_fits p ks Xor t objects q n f = tt
moved_fits p ks Lt t objects q n f = tt
moved_fits p ks Gt t objects q n f = tt
moved_fits p ks Le t objects q n f = tt
moved_fits p ks Ge t objects q n f = tt
moved_fits p ks Eq t objects q n f = tt
moved_fits p ks Ne t objects q n f = tt

pointer_first_fits : (p : PlainProgram) (ks : List Kind) (op : BinOp) (t : PlainType) (i : IntType) (objects : List Object) (x y : Scalar) → Fits p ks (pointer false t) x → Fits p ks (integer false i) y → OnOk (Fits p ks (pointer false t)) (operated op (pointer false t) objects x y)
pointer_first_fits p ks op t i objects (Pointer q) (Int n) f g = pointer_ok p ks t (moved op objects q n) (moved_fits p ks op t objects q n f)
pointer_first_fits p ks op t i objects (Int a) y f g = absurd f
pointer_first_fits p ks op t i objects (Pointer q) (Pointer r) f g = absurd g

pointer_last_fits : (p : PlainProgram) (ks : List Kind) (op : BinOp) (t : PlainType) (i : IntType) (objects : List Object) (x y : Scalar) → Fits p ks (integer false i) x → Fits p ks (pointer false t) y → OnOk (Fits p ks (pointer false t)) (operated op (pointer false t) objects x y)
pointer_last_fits p ks op t i objects (Int n) (Pointer q) f g = pointer_ok p ks t (moved op objects q n) (moved_fits p ks op t objects q n g)
pointer_last_fits p ks op t i objects (Pointer q) y f g = absurd f
pointer_last_fits p ks op t i objects (Int a) (Int b) f g = absurd g

-- ## Rows

-- the operator gives what fits the result, for each row that the operands' types have
abbrev pub RowFits : PlainProgram → List Kind → BinOp → Row → Type 0
RowFits p ks op r = (objects : List Object) (x y : Scalar) → Fits p ks r.left x → Fits p ks r.right y → OnOk (Fits p ks r.result) (operated op r.result objects x y)

of_row : (p : PlainProgram) (ks : List Kind) (op : BinOp) (a b c : PlainType) (r : Row) → row a b c ≡ Some r → RowFits p ks op (record { result = a; left = b; right = c }) → RowFits p ks op r
of_row p ks op a b c r e h = subst (λ r. RowFits p ks op r) (same_Some _ _ e) h

of_row_where : (p : PlainProgram) (ks : List Kind) (op : BinOp) (q : Bool) (a b c : PlainType) (r : Row) → row_where q a b c ≡ Some r → RowFits p ks op (record { result = a; left = b; right = c }) → RowFits p ks op r
of_row_where p ks op true a b c r e h = of_row p ks op a b c r e h
of_row_where p ks op false a b c r e h = absurd (none-some _ e)

integers_fit : (p : PlainProgram) (ks : List Kind) (op : BinOp) (s t : PlainType) (r : Row) → integers_row s t ≡ Some r → RowFits p ks op r
integers_fit p ks op (integer c a) (integer d b) r e = of_row p ks op _ _ _ r e (λ objects x y f g. arithmetic_fits p ks op (usual_of a b) (usual_of a b) objects x y f g)
integers_fit p ks op (integer c a) (void d) r e = absurd (none-some _ e)
integers_fit p ks op (integer c a) (pointer d t) r e = absurd (none-some _ e)
integers_fit p ks op (integer c a) (array d t n) r e = absurd (none-some _ e)
integers_fit p ks op (integer c a) (structure d n) r e = absurd (none-some _ e)
integers_fit p ks op (void c) t r e = absurd (none-some _ e)
integers_fit p ks op (pointer c s) t r e = absurd (none-some _ e)
integers_fit p ks op (array c s n) t r e = absurd (none-some _ e)
integers_fit p ks op (structure c n) t r e = absurd (none-some _ e)

shifts_fit : (p : PlainProgram) (ks : List Kind) (op : BinOp) (s t : PlainType) (r : Row) → shift_row s t ≡ Some r → RowFits p ks op r
shifts_fit p ks op (integer c a) (integer d b) r e = of_row p ks op _ _ _ r e (λ objects x y f g. arithmetic_fits p ks op (promoted a) (promoted b) objects x y f g)
shifts_fit p ks op (integer c a) (void d) r e = absurd (none-some _ e)
shifts_fit p ks op (integer c a) (pointer d t) r e = absurd (none-some _ e)
shifts_fit p ks op (integer c a) (array d t n) r e = absurd (none-some _ e)
shifts_fit p ks op (integer c a) (structure d n) r e = absurd (none-some _ e)
shifts_fit p ks op (void c) t r e = absurd (none-some _ e)
shifts_fit p ks op (pointer c s) t r e = absurd (none-some _ e)
shifts_fit p ks op (array c s n) t r e = absurd (none-some _ e)
shifts_fit p ks op (structure c n) t r e = absurd (none-some _ e)

sums_fit : (p : PlainProgram) (ks : List Kind) (s t : PlainType) (r : Row) → sum_row p.structures s t ≡ Some r → RowFits p ks Add r
sums_fit p ks (integer c a) (integer d b) r e = of_row p ks Add _ _ _ r e (λ objects x y f g. arithmetic_fits p ks Add (usual_of a b) (usual_of a b) objects x y f g)
sums_fit p ks (pointer c s) (integer d b) r e = of_row_where p ks Add (is_complete p.structures s) _ _ _ r e (λ objects x y f g. pointer_first_fits p ks Add s (promoted b) objects x y f g)
sums_fit p ks (integer c a) (pointer d t) r e = of_row_where p ks Add (is_complete p.structures t) _ _ _ r e (λ objects x y f g. pointer_last_fits p ks Add t (promoted a) objects x y f g)
sums_fit p ks (integer c a) (void d) r e = absurd (none-some _ e)
sums_fit p ks (integer c a) (array d t n) r e = absurd (none-some _ e)
sums_fit p ks (integer c a) (structure d n) r e = absurd (none-some _ e)
sums_fit p ks (pointer c s) (void d) r e = absurd (none-some _ e)
sums_fit p ks (pointer c s) (pointer d t) r e = absurd (none-some _ e)
sums_fit p ks (pointer c s) (array d t n) r e = absurd (none-some _ e)
sums_fit p ks (pointer c s) (structure d n) r e = absurd (none-some _ e)
sums_fit p ks (void c) t r e = absurd (none-some _ e)
sums_fit p ks (array c s n) t r e = absurd (none-some _ e)
sums_fit p ks (structure c n) t r e = absurd (none-some _ e)

differences_fit : (p : PlainProgram) (ks : List Kind) (s t : PlainType) (r : Row) → difference_row p.structures s t ≡ Some r → RowFits p ks Sub r
differences_fit p ks (integer c a) (integer d b) r e = of_row p ks Sub _ _ _ r e (λ objects x y f g. arithmetic_fits p ks Sub (usual_of a b) (usual_of a b) objects x y f g)
differences_fit p ks (pointer c s) (integer d b) r e = of_row_where p ks Sub (is_complete p.structures s) _ _ _ r e (λ objects x y f g. pointer_first_fits p ks Sub s (promoted b) objects x y f g)
differences_fit p ks (pointer c s) (pointer d t) r e = of_row_where p ks Sub (same s t && is_complete p.structures t) _ _ _ r e (λ objects x y f g. distance_fits p ks s t objects x y f g)
differences_fit p ks (integer c a) (void d) r e = absurd (none-some _ e)
differences_fit p ks (integer c a) (pointer d t) r e = absurd (none-some _ e)
differences_fit p ks (integer c a) (array d t n) r e = absurd (none-some _ e)
differences_fit p ks (integer c a) (structure d n) r e = absurd (none-some _ e)
differences_fit p ks (pointer c s) (void d) r e = absurd (none-some _ e)
differences_fit p ks (pointer c s) (array d t n) r e = absurd (none-some _ e)
differences_fit p ks (pointer c s) (structure d n) r e = absurd (none-some _ e)
differences_fit p ks (void c) t r e = absurd (none-some _ e)
differences_fit p ks (array c s n) t r e = absurd (none-some _ e)
differences_fit p ks (structure c n) t r e = absurd (none-some _ e)

orders_fit : (p : PlainProgram) (ks : List Kind) (op : BinOp) → is_comparison op ≡ true → (s t : PlainType) (r : Row) → order_row s t ≡ Some r → RowFits p ks op r
orders_fit p ks op q (integer c a) (integer d b) r e = of_row p ks op _ _ _ r e (λ objects x y f g. comparison_fits p ks op (usual_of a b) (usual_of a b) objects x y q f g)
orders_fit p ks op q (pointer c s) (pointer d t) r e = of_row_where p ks op (same s t) _ _ _ r e (λ objects x y f g. relation_fits p ks op s t objects x y q f g)
orders_fit p ks op q (integer c a) (void d) r e = absurd (none-some _ e)
orders_fit p ks op q (integer c a) (pointer d t) r e = absurd (none-some _ e)
orders_fit p ks op q (integer c a) (array d t n) r e = absurd (none-some _ e)
orders_fit p ks op q (integer c a) (structure d n) r e = absurd (none-some _ e)
orders_fit p ks op q (pointer c s) (void d) r e = absurd (none-some _ e)
orders_fit p ks op q (pointer c s) (integer d b) r e = absurd (none-some _ e)
orders_fit p ks op q (pointer c s) (array d t n) r e = absurd (none-some _ e)
orders_fit p ks op q (pointer c s) (structure d n) r e = absurd (none-some _ e)
orders_fit p ks op q (void c) t r e = absurd (none-some _ e)
orders_fit p ks op q (array c s n) t r e = absurd (none-some _ e)
orders_fit p ks op q (structure c n) t r e = absurd (none-some _ e)

equalities_fit : (p : PlainProgram) (ks : List Kind) (op : BinOp) → is_comparison op ≡ true → (m n : Bool) (s t : PlainType) (r : Row) → equality_row m n s t ≡ Some r → RowFits p ks op r
equalities_fit p ks op q m n (integer c a) (integer d b) r e = of_row p ks op _ _ _ r e (λ objects x y f g. comparison_fits p ks op (usual_of a b) (usual_of a b) objects x y q f g)
equalities_fit p ks op q m n (pointer c s) (pointer d t) r e = of_row_where p ks op (same s t) _ _ _ r e (λ objects x y f g. relation_fits p ks op s t objects x y q f g)
equalities_fit p ks op q m n (pointer c s) (integer d b) r e = of_row_where p ks op n _ _ _ r e (λ objects x y f g. relation_fits p ks op s s objects x y q f g)
equalities_fit p ks op q m n (integer c a) (pointer d t) r e = of_row_where p ks op m _ _ _ r e (λ objects x y f g. relation_fits p ks op t t objects x y q f g)
equalities_fit p ks op q m n (integer c a) (void d) r e = absurd (none-some _ e)
equalities_fit p ks op q m n (integer c a) (array d t k) r e = absurd (none-some _ e)
equalities_fit p ks op q m n (integer c a) (structure d k) r e = absurd (none-some _ e)
equalities_fit p ks op q m n (pointer c s) (void d) r e = absurd (none-some _ e)
equalities_fit p ks op q m n (pointer c s) (array d t k) r e = absurd (none-some _ e)
equalities_fit p ks op q m n (pointer c s) (structure d k) r e = absurd (none-some _ e)
equalities_fit p ks op q m n (void c) t r e = absurd (none-some _ e)
equalities_fit p ks op q m n (array c s k) t r e = absurd (none-some _ e)
equalities_fit p ks op q m n (structure c k) t r e = absurd (none-some _ e)

pub binary_fits : (p : PlainProgram) (ks : List Kind) (op : BinOp) (m n : Bool) (s t : PlainType) (r : Row) → binary_row p.structures op m n s t ≡ Some r → RowFits p ks op r
binary_fits p ks Add m n s t r e = sums_fit p ks s t r e
binary_fits p ks Sub m n s t r e = differences_fit p ks s t r e
binary_fits p ks Mul m n s t r e = integers_fit p ks Mul s t r e
binary_fits p ks Div m n s t r e = integers_fit p ks Div s t r e
binary_fits p ks Rem m n s t r e = integers_fit p ks Rem s t r e
binary_fits p ks Shl m n s t r e = shifts_fit p ks Shl s t r e
binary_fits p ks Shr m n s t r e = shifts_fit p ks Shr s t r e
binary_fits p ks And m n s t r e = integers_fit p ks And s t r e
binary_fits p ks Or m n s t r e = integers_fit p ks Or s t r e
binary_fits p ks Xor m n s t r e = integers_fit p ks Xor s t r e
binary_fits p ks Lt m n s t r e = orders_fit p ks Lt refl s t r e
binary_fits p ks Gt m n s t r e = orders_fit p ks Gt refl s t r e
binary_fits p ks Le m n s t r e = orders_fit p ks Le refl s t r e
binary_fits p ks Ge m n s t r e = orders_fit p ks Ge refl s t r e
binary_fits p ks Eq m n s t r e = equalities_fit p ks Eq refl m n s t r e
binary_fits p ks Ne m n s t r e = equalities_fit p ks Ne refl m n s t r e

-- ## Unary operators

abbrev pub UnaryFits : PlainProgram → List Kind → UnOp → UnaryRow → Type 0
UnaryFits p ks op r = (x : Scalar) → Fits p ks r.operand x → OnOk (Fits p ks r.result) (operated_unary op r.result x)

promoted_fits : (p : PlainProgram) (ks : List Kind) (op : UnOp) (t : PlainType) (r : UnaryRow) → promoted_row t ≡ Some r → UnaryFits p ks op r
promoted_fits p ks op (integer c a) r e = subst (λ r. UnaryFits p ks op r) (same_Some _ _ e) at
  where
    at : UnaryFits p ks op (record { result = integer false (promoted a); operand = integer false (promoted a) })
    at (Int z) f = number_fits p ks (promoted a) (operate_unary op (promoted a) z) (of_result (InRange (promoted a)) (operate_unary op (promoted a) z) (λ r e. unary_in op (promoted a) z r f e))
    at (Pointer q) f = absurd f
promoted_fits p ks op (void c) r e = absurd (none-some _ e)
promoted_fits p ks op (pointer c t) r e = absurd (none-some _ e)
promoted_fits p ks op (array c t n) r e = absurd (none-some _ e)
promoted_fits p ks op (structure c n) r e = absurd (none-some _ e)

not_fits : (p : PlainProgram) (ks : List Kind) (x : Scalar) → OnOk (Fits p ks int_type) (operated_unary Not int_type x)
not_fits p ks (Int z) = number_fits p ks int (operate_unary Not int z) (of_result (InRange int) (operate_unary Not int z) (λ r e. (negated int z r e).of_int))
not_fits p ks (Pointer q) = truth_fits p ks (is_null q)

negation_fits : (p : PlainProgram) (ks : List Kind) (t : PlainType) (r : UnaryRow) → negation_row t ≡ Some r → UnaryFits p ks Not r
negation_fits p ks (integer c a) r e = subst (λ r. UnaryFits p ks Not r) (same_Some _ _ e) (λ x f. not_fits p ks x)
negation_fits p ks (pointer c t) r e = subst (λ r. UnaryFits p ks Not r) (same_Some _ _ e) (λ x f. not_fits p ks x)
negation_fits p ks (void c) r e = absurd (none-some _ e)
negation_fits p ks (array c t n) r e = absurd (none-some _ e)
negation_fits p ks (structure c n) r e = absurd (none-some _ e)

pub unary_fits : (p : PlainProgram) (ks : List Kind) (op : UnOp) (t : PlainType) (r : UnaryRow) → unary_row op t ≡ Some r → UnaryFits p ks op r
unary_fits p ks Plus t r e = promoted_fits p ks Plus t r e
unary_fits p ks Neg t r e = promoted_fits p ks Neg t r e
unary_fits p ks Com t r e = promoted_fits p ks Com t r e
unary_fits p ks Not t r e = negation_fits p ks t r e

-- ## Types of one form

int_of : ℕ → IntType
int_of n = (if eqb n 0 then Truth else (if eqb n 1 then Char else (if eqb n 2 then SChar else (if eqb n 3 then UChar else (if eqb n 4 then Short else (if eqb n 5 then UShort else (if eqb n 6 then int else (if eqb n 7 then UInt else (if eqb n 8 then Long else (if eqb n 9 then ULong else (if eqb n 10 then LLong else ULLong)))))))))))

int_of_number : (i : IntType) → int_of (number_in i) ≡ i
unfolding int_of
int_of_number Truth = refl
int_of_number Char = refl
int_of_number SChar = refl
int_of_number UChar = refl
int_of_number Short = refl
int_of_number UShort = refl
int_of_number int = refl
int_of_number UInt = refl
int_of_number Long = refl
int_of_number ULong = refl
int_of_number LLong = refl
int_of_number ULLong = refl

integer_same : (i j : IntType) → same_integer i j ≡ true → i ≡ j
integer_same i j e = sym (int_of_number i) ∙ (ap int_of (eqb-true (number_in i) (number_in j) e) ∙ int_of_number j)

number_same : (m n : ℕ) → eqb m n ≡ true → m ≡ n
number_same m n e = eqb-true m n e

both : (a b : Bool) → (a && b) ≡ true → (a ≡ true) × (b ≡ true)
both true b e = (refl, e)
both false b e = absurd cc

-- types that are the same except for marks are one type without marks
pub same_form_bare : (ss : List PlainStructure) (s t : PlainType) → same_form s t ≡ true → bare ss s ≡ bare ss t
same_form_bare ss (void c) (void d) e = refl
same_form_bare ss (integer c i) (integer d j) e = ap (λ i. integer false i) (integer_same i j e)
same_form_bare ss (pointer c s) (pointer d t) e = ap (λ t. pointer false t) (same_form_bare ss s t (both _ _ e).1)
same_form_bare ss (array c s m) (array d t n) e = ap (λ t. array false t m) (same_form_bare ss s t (both _ _ (both _ _ e).1).1) ∙ ap (λ m. array false (bare ss t) m) (number_same m n (both _ _ e).0)
same_form_bare ss (structure c m) (structure d n) e = ap (λ m. bare ss (structure false m)) (number_same m n e)
same_form_bare ss (void c) (integer d j) e = absurd cc
same_form_bare ss (void c) (pointer d t) e = absurd cc
same_form_bare ss (void c) (array d t n) e = absurd cc
same_form_bare ss (void c) (structure d n) e = absurd cc
same_form_bare ss (integer c i) (void d) e = absurd cc
same_form_bare ss (integer c i) (pointer d t) e = absurd cc
same_form_bare ss (integer c i) (array d t n) e = absurd cc
same_form_bare ss (integer c i) (structure d n) e = absurd cc
same_form_bare ss (pointer c s) (void d) e = absurd cc
same_form_bare ss (pointer c s) (integer d j) e = absurd cc
same_form_bare ss (pointer c s) (array d t n) e = absurd cc
same_form_bare ss (pointer c s) (structure d n) e = absurd cc
same_form_bare ss (array c s m) (void d) e = absurd cc
same_form_bare ss (array c s m) (integer d j) e = absurd cc
same_form_bare ss (array c s m) (pointer d t) e = absurd cc
same_form_bare ss (array c s m) (structure d n) e = absurd cc
same_form_bare ss (structure c m) (void d) e = absurd cc
same_form_bare ss (structure c m) (integer d j) e = absurd cc
same_form_bare ss (structure c m) (pointer d t) e = absurd cc
same_form_bare ss (structure c m) (array d t n) e = absurd cc

pub adds_const_bare : (ss : List PlainStructure) (s t : PlainType) → adds_const s t ≡ true → bare ss s ≡ bare ss t
adds_const_bare ss s t e = same_form_bare ss s t (both (same_form s t) (not (mark_of s) || mark_of t) e).0

pub same_bare : (ss : List PlainStructure) (s t : PlainType) → same s t ≡ true → bare ss s ≡ bare ss t
same_bare ss s t e = same_form_bare ss s t (both (beq (mark_of s) (mark_of t)) (same_form s t) e).1

-- ## Conversions

pub converted_fits : (p : PlainProgram) (ks : List Kind) (i : IntType) (x : Scalar) → Fits p ks (integer false i) (converted_to (integer false i) x)
converted_fits p ks i x = converted_in i (number_of x)

pub zero_fits : (p : PlainProgram) (ks : List Kind) (t : PlainType) → is_scalar t ≡ true → Fits p ks t (zero_of t)
zero_fits p ks (integer c i) e = zero_in i
zero_fits p ks (pointer c t) e = tt
zero_fits p ks (void c) e = absurd cc
zero_fits p ks (array c t n) e = absurd cc
zero_fits p ks (structure c n) e = absurd cc

-- what an integer is as a pointer is null
pub null_fits : (p : PlainProgram) (ks : List Kind) (j : IntType) (t : PlainType) (x : Scalar) → Fits p ks (integer false j) x → Fits p ks (pointer false t) (converted_to (pointer false t) x)
null_fits p ks j t (Int z) f = tt
null_fits p ks j t (Pointer q) f = absurd f

-- a pointer stays one
pub same_pointer_fits : (p : PlainProgram) (ks : List Kind) (s t : PlainType) (x : Scalar) → bare p.structures s ≡ bare p.structures t → Fits p ks (pointer false s) x → Fits p ks (pointer false t) (converted_to (pointer false t) x)
same_pointer_fits p ks s t (Int z) e f = absurd f
same_pointer_fits p ks s t (Pointer q) e f = fits_same p ks (pointer false s) (pointer false t) (Pointer q) (ap (λ t. pointer false t) e) f

pub pointer_of_fits : (p : PlainProgram) (ks : List Kind) (t : PlainType) (x : Scalar) → Fits p ks (pointer false t) x → FitsPointer p ks t (pointer_of x)
pointer_of_fits p ks t (Int z) f = absurd f
pointer_of_fits p ks t (Pointer q) f = f

-- a scalar converted to a type that it fits
pub kept_fits : (p : PlainProgram) (ks : List Kind) (t : PlainType) (x : Scalar) → Fits p ks t x → Fits p ks t (converted_to t x)
kept_fits p ks (integer c i) (Int z) f = converted_in i z
kept_fits p ks (pointer c t) (Pointer q) f = f
kept_fits p ks (integer c i) (Pointer q) f = absurd f
kept_fits p ks (pointer c t) (Int z) f = absurd f
kept_fits p ks (void c) x f = absurd f
kept_fits p ks (array c t n) x f = absurd f
kept_fits p ks (structure c n) x f = absurd f

-- a number as a scalar of any type
pub converted_any : (p : PlainProgram) (ks : List Kind) (t : PlainType) (z : ℤ) → is_scalar t ≡ true → Fits p ks t (converted_to t (Int z))
converted_any p ks (integer c i) z e = converted_in i z
converted_any p ks (pointer c t) z e = tt
converted_any p ks (void c) z e = absurd cc
converted_any p ks (array c t n) z e = absurd cc
converted_any p ks (structure c n) z e = absurd cc
