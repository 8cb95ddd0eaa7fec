-- Operators on integers: the type of the result, and that operands which are converted are converted no further.
use Rattle.std.proofs.Common.{◌≡◌, List, Bool, true, false, refl, sym, ◌∙◌, ap, subst, Some, Ok, ℤ}
use Rattle.p10_int.specs.declared.types.IntType.{IntType}
use Rattle.p10_int.specs.declared.types.IntType.TheVariants.{Int as int}
use Rattle.p10_int.specs.declared.operators.BinOp.{BinOp}
use Rattle.p10_int.specs.declared.operators.BinOp.TheVariants.{Add, Sub, Mul, Div, Rem, Shl, Shr, And, Or, Xor, Lt, Gt, Le, Ge, Eq, Ne}
use Rattle.p10_int.specs.declared.operators.UnOp.{UnOp}
use Rattle.p10_int.specs.declared.operators.UnOp.TheVariants.{Plus, Neg, Not, Com}
use Rattle.p10_int.specs.Types.{InRange, usual_of}
use Rattle.p10_int.specs.Conversion.{converted}
use Rattle.p10_int.specs.Operators.{operate, operate_unary}
use Rattle.p10_int.specs.Laws.{is_comparison}
use Rattle.p10_int.proofs.Conversions.{converted_keeps}
use Rattle.p10_int.proofs.InRange.{operate_in, unary_in}
use Rattle.p10_int.proofs.TruthValues.{compared, negated}
use Rattle.p10_core.specs.Types.{PlainType, void, integer, pointer, array, structure, PlainStructure}
use Rattle.p10_core.specs.Rows.{Row, row_where, integers_row, sum_row, difference_row, shift_row, order_row, equality_row, binary_row, conditional_row, UnaryRow, promoted_row, negation_row, unary_row, int_type}
use Rattle.p10_core.specs.Constants.{right_operand}

-- ## Rows on integers

some_row : {A : Type 0} (a b : A) → Some a ≡ Some b → a ≡ b
some_row a b e = cc

-- an operator at the type of its operand: its result has a type, and is a number of that
pub record UnaryNumber (op : UnOp) (i : IntType) (t : PlainType) : Type 0 where
  pub kind : IntType
  pub type_is : t ≡ integer false kind
  pub same : (a : ℤ) → operate_unary op kind a ≡ operate_unary op i a
  pub lands : (a z : ℤ) → InRange i a → operate_unary op i a ≡ Ok z → InRange kind z

promoted_number : (op : UnOp) (t : PlainType) (r : UnaryRow) (i : IntType) → promoted_row t ≡ Some r → r.operand ≡ integer false i → UnaryNumber op i r.result
promoted_number op (integer c a) r i e o = record {
  kind = i;
  type_is = sym (ap (λ (r : UnaryRow). r.result) (some_row _ r e)) ∙ (ap (λ (r : UnaryRow). r.operand) (some_row _ r e) ∙ o);
  same = λ a. refl;
  lands = λ a z l e. unary_in op i a z l e;
}
promoted_number op (void c) r i e o = absurd cc
promoted_number op (pointer c t) r i e o = absurd cc
promoted_number op (array c t n) r i e o = absurd cc
promoted_number op (structure c n) r i e o = absurd cc

negated_number : (t : PlainType) (r : UnaryRow) (i : IntType) → negation_row t ≡ Some r → UnaryNumber Not i r.result
negated_number (integer c a) r i e = record {
  kind = int;
  type_is = sym (ap (λ (r : UnaryRow). r.result) (some_row _ r e));
  same = λ a. refl;
  lands = λ a z l e. (negated i a z e).of_int;
}
negated_number (pointer c t) r i e = record {
  kind = int;
  type_is = sym (ap (λ (r : UnaryRow). r.result) (some_row _ r e));
  same = λ a. refl;
  lands = λ a z l e. (negated i a z e).of_int;
}
negated_number (void c) r i e = absurd cc
negated_number (array c t n) r i e = absurd cc
negated_number (structure c n) r i e = absurd cc

pub unary_number : (op : UnOp) (t : PlainType) (r : UnaryRow) (i : IntType) → unary_row op t ≡ Some r → r.operand ≡ integer false i → UnaryNumber op i r.result
unary_number Plus t r i e o = promoted_number Plus t r i e o
unary_number Neg t r i e o = promoted_number Neg t r i e o
unary_number Com t r i e o = promoted_number Com t r i e o
unary_number Not t r i e o = negated_number t r i e

-- the same for a binary operator, whose right operand counts as it is
pub record BinaryNumber (op : BinOp) (i j : IntType) (t : PlainType) : Type 0 where
  pub kind : IntType
  pub type_is : t ≡ integer false kind
  pub same : (a b : ℤ) → operate op kind a b ≡ operate op i a b
  pub plain : is_comparison op ≡ false → kind ≡ i
  pub right : (b : ℤ) → InRange j b → right_operand op i b ≡ b
  pub lands : (a b z : ℤ) → InRange i a → operate op i a b ≡ Ok z → InRange kind z

pub kind_of : PlainType → IntType
kind_of (integer c i) = i
kind_of t = int

pub same_kind : (i j : IntType) → integer false i ≡ integer false j → i ≡ j
unfolding kind_of
same_kind i j e = ap kind_of e

-- what a row says whose operands are integers of one type: its result has that type, or is an `int`
record IsOfOne (r : Row) (t : PlainType) (i j : IntType) : Type 0 where
  pub result : r.result ≡ t
  pub right : j ≡ i

usual_is : (k : IntType) (r : Row) (i j : IntType) → Some (record { result = integer false k; left = integer false k; right = integer false k }) ≡ Some r
    → r.left ≡ integer false i → r.right ≡ integer false j → IsOfOne r (integer false i) i j
usual_is k r i j e p q =
    let f : record { result = integer false k; left = integer false k; right = integer false k } ≡ r = some_row _ r e in
    record {
      result = sym (ap (λ (r : Row). r.result) f) ∙ (ap (λ (r : Row). r.left) f ∙ p);
      right = same_kind j i (sym q ∙ (sym (ap (λ (r : Row). r.right) f) ∙ (ap (λ (r : Row). r.left) f ∙ p)));
    }

compared_is : (k : IntType) (r : Row) (i j : IntType) → Some (record { result = int_type; left = integer false k; right = integer false k }) ≡ Some r
    → r.left ≡ integer false i → r.right ≡ integer false j → IsOfOne r int_type i j
compared_is k r i j e p q =
    let f : record { result = int_type; left = integer false k; right = integer false k } ≡ r = some_row _ r e in
    record {
      result = sym (ap (λ (r : Row). r.result) f);
      right = same_kind j i (sym q ∙ (sym (ap (λ (r : Row). r.right) f) ∙ (ap (λ (r : Row). r.left) f ∙ p)));
    }

-- a row that has a pointer as an operand isn't one of integers
no_left : (b : Bool) (t s u : PlainType) (c : Bool) (r : Row) (i : IntType) (P : Type 0) → row_where b t (pointer c s) u ≡ Some r → r.left ≡ integer false i → P
no_left true t s u c r i P e p = let f : pointer c s ≡ integer false i = ap (λ (r : Row). r.left) (some_row _ r e) ∙ p in absurd cc
no_left false t s u c r i P e p = absurd cc

no_right : (b : Bool) (t s u : PlainType) (c : Bool) (r : Row) (j : IntType) (P : Type 0) → row_where b t s (pointer c u) ≡ Some r → r.right ≡ integer false j → P
no_right true t s u c r j P e p = let f : pointer c u ≡ integer false j = ap (λ (r : Row). r.right) (some_row _ r e) ∙ p in absurd cc
no_right false t s u c r j P e p = absurd cc

integers_is : (s t : PlainType) (r : Row) (i j : IntType) → integers_row s t ≡ Some r → r.left ≡ integer false i → r.right ≡ integer false j → IsOfOne r (integer false i) i j
integers_is (integer c a) (integer d b) r i j e p q = usual_is (usual_of a b) r i j e p q
integers_is (integer c a) (void d) r i j e p q = absurd cc
integers_is (integer c a) (pointer d t) r i j e p q = absurd cc
integers_is (integer c a) (array d t n) r i j e p q = absurd cc
integers_is (integer c a) (structure d n) r i j e p q = absurd cc
integers_is (void c) t r i j e p q = absurd cc
integers_is (pointer c s) t r i j e p q = absurd cc
integers_is (array c s n) t r i j e p q = absurd cc
integers_is (structure c n) t r i j e p q = absurd cc

module _ (structures : List PlainStructure) where
  sum_is : (s t : PlainType) (r : Row) (i j : IntType) → sum_row structures s t ≡ Some r → r.left ≡ integer false i → r.right ≡ integer false j → IsOfOne r (integer false i) i j
  sum_is (integer c a) (integer d b) r i j e p q = usual_is (usual_of a b) r i j e p q
  sum_is (integer c a) (pointer d t) r i j e p q = no_right _ _ _ _ _ r j _ e q
  sum_is (integer c a) (void d) r i j e p q = absurd cc
  sum_is (integer c a) (array d t n) r i j e p q = absurd cc
  sum_is (integer c a) (structure d n) r i j e p q = absurd cc
  sum_is (pointer c s) (integer d b) r i j e p q = no_left _ _ _ _ _ r i _ e p
  sum_is (pointer c s) (void d) r i j e p q = absurd cc
  sum_is (pointer c s) (pointer d t) r i j e p q = absurd cc
  sum_is (pointer c s) (array d t n) r i j e p q = absurd cc
  sum_is (pointer c s) (structure d n) r i j e p q = absurd cc
  sum_is (void c) t r i j e p q = absurd cc
  sum_is (array c s n) t r i j e p q = absurd cc
  sum_is (structure c n) t r i j e p q = absurd cc

  difference_is : (s t : PlainType) (r : Row) (i j : IntType) → difference_row structures s t ≡ Some r → r.left ≡ integer false i → r.right ≡ integer false j → IsOfOne r (integer false i) i j
  difference_is (integer c a) (integer d b) r i j e p q = usual_is (usual_of a b) r i j e p q
  difference_is (integer c a) (pointer d t) r i j e p q = absurd cc
  difference_is (integer c a) (void d) r i j e p q = absurd cc
  difference_is (integer c a) (array d t n) r i j e p q = absurd cc
  difference_is (integer c a) (structure d n) r i j e p q = absurd cc
  difference_is (pointer c s) (integer d b) r i j e p q = no_left _ _ _ _ _ r i _ e p
  difference_is (pointer c s) (pointer d t) r i j e p q = no_left _ _ _ _ _ r i _ e p
  difference_is (pointer c s) (void d) r i j e p q = absurd cc
  difference_is (pointer c s) (array d t n) r i j e p q = absurd cc
  difference_is (pointer c s) (structure d n) r i j e p q = absurd cc
  difference_is (void c) t r i j e p q = absurd cc
  difference_is (array c s n) t r i j e p q = absurd cc
  difference_is (structure c n) t r i j e p q = absurd cc

shift_is : (s t : PlainType) (r : Row) (i : IntType) → shift_row s t ≡ Some r → r.left ≡ integer false i → r.result ≡ integer false i
shift_is (integer c a) (integer d b) r i e p = sym (ap (λ (r : Row). r.result) (some_row _ r e)) ∙ (ap (λ (r : Row). r.left) (some_row _ r e) ∙ p)
shift_is (integer c a) (void d) r i e p = absurd cc
shift_is (integer c a) (pointer d t) r i e p = absurd cc
shift_is (integer c a) (array d t n) r i e p = absurd cc
shift_is (integer c a) (structure d n) r i e p = absurd cc
shift_is (void c) t r i e p = absurd cc
shift_is (pointer c s) t r i e p = absurd cc
shift_is (array c s n) t r i e p = absurd cc
shift_is (structure c n) t r i e p = absurd cc

order_is : (s t : PlainType) (r : Row) (i j : IntType) → order_row s t ≡ Some r → r.left ≡ integer false i → r.right ≡ integer false j → IsOfOne r int_type i j
order_is (integer c a) (integer d b) r i j e p q = compared_is (usual_of a b) r i j e p q
order_is (pointer c s) (pointer d t) r i j e p q = no_left _ _ _ _ _ r i _ e p
order_is (integer c a) (void d) r i j e p q = absurd cc
order_is (integer c a) (pointer d t) r i j e p q = absurd cc
order_is (integer c a) (array d t n) r i j e p q = absurd cc
order_is (integer c a) (structure d n) r i j e p q = absurd cc
order_is (pointer c s) (integer d b) r i j e p q = absurd cc
order_is (pointer c s) (void d) r i j e p q = absurd cc
order_is (pointer c s) (array d t n) r i j e p q = absurd cc
order_is (pointer c s) (structure d n) r i j e p q = absurd cc
order_is (void c) t r i j e p q = absurd cc
order_is (array c s n) t r i j e p q = absurd cc
order_is (structure c n) t r i j e p q = absurd cc

equality_is : (m n : Bool) (s t : PlainType) (r : Row) (i j : IntType) → equality_row m n s t ≡ Some r → r.left ≡ integer false i → r.right ≡ integer false j → IsOfOne r int_type i j
equality_is m n (integer c a) (integer d b) r i j e p q = compared_is (usual_of a b) r i j e p q
equality_is m n (pointer c s) (pointer d t) r i j e p q = no_left _ _ _ _ _ r i _ e p
equality_is m n (pointer c s) (integer d b) r i j e p q = no_left _ _ _ _ _ r i _ e p
equality_is m n (integer c a) (pointer d t) r i j e p q = no_left _ _ _ _ _ r i _ e p
equality_is m n (integer c a) (void d) r i j e p q = absurd cc
equality_is m n (integer c a) (array d t k) r i j e p q = absurd cc
equality_is m n (integer c a) (structure d k) r i j e p q = absurd cc
equality_is m n (pointer c s) (void d) r i j e p q = absurd cc
equality_is m n (pointer c s) (array d t k) r i j e p q = absurd cc
equality_is m n (pointer c s) (structure d k) r i j e p q = absurd cc
equality_is m n (void c) t r i j e p q = absurd cc
equality_is m n (array c s k) t r i j e p q = absurd cc
equality_is m n (structure c k) t r i j e p q = absurd cc

-- an operator whose result has the type of its operands
arithmetic : (op : BinOp) (r : Row) (i j : IntType) → IsOfOne r (integer false i) i j → ((b : ℤ) → right_operand op i b ≡ converted i b) → BinaryNumber op i j r.result
arithmetic op r i j u right = record {
  kind = i;
  type_is = u.result;
  same = λ a b. refl;
  plain = λ c. refl;
  right = λ b l. right b ∙ converted_keeps i b (subst (λ k. InRange k b) u.right l);
  lands = λ a b z l e. operate_in op i a b z l e;
}

shifting : (op : BinOp) (r : Row) (i j : IntType) → r.result ≡ integer false i → ((b : ℤ) → right_operand op i b ≡ b) → BinaryNumber op i j r.result
shifting op r i j t right = record {
  kind = i;
  type_is = t;
  same = λ a b. refl;
  plain = λ c. refl;
  right = λ b l. right b;
  lands = λ a b z l e. operate_in op i a b z l e;
}

-- a comparison, at whatever type
comparing : (op : BinOp) (r : Row) (i j : IntType) → IsOfOne r int_type i j → is_comparison op ≡ true → ((a b : ℤ) → operate op int a b ≡ operate op i a b) → ((b : ℤ) → right_operand op i b ≡ converted i b) → BinaryNumber op i j r.result
comparing op r i j u c same right = record {
  kind = int;
  type_is = u.result;
  same = same;
  plain = λ d. let e : true ≡ false = sym c ∙ d in absurd cc;
  right = λ b l. right b ∙ converted_keeps i b (subst (λ k. InRange k b) u.right l);
  lands = λ a b z l e. (compared op i a b z c e).of_int;
}

pub binary_number : (structures : List PlainStructure) (op : BinOp) (m n : Bool) (s t : PlainType) (r : Row) (i j : IntType) → binary_row structures op m n s t ≡ Some r → r.left ≡ integer false i → r.right ≡ integer false j → BinaryNumber op i j r.result
binary_number ss Add m n s t r i j e p q = arithmetic Add r i j (sum_is ss s t r i j e p q) (λ b. refl)
binary_number ss Sub m n s t r i j e p q = arithmetic Sub r i j (difference_is ss s t r i j e p q) (λ b. refl)
binary_number ss Mul m n s t r i j e p q = arithmetic Mul r i j (integers_is s t r i j e p q) (λ b. refl)
binary_number ss Div m n s t r i j e p q = arithmetic Div r i j (integers_is s t r i j e p q) (λ b. refl)
binary_number ss Rem m n s t r i j e p q = arithmetic Rem r i j (integers_is s t r i j e p q) (λ b. refl)
binary_number ss Shl m n s t r i j e p q = shifting Shl r i j (shift_is s t r i e p) (λ b. refl)
binary_number ss Shr m n s t r i j e p q = shifting Shr r i j (shift_is s t r i e p) (λ b. refl)
binary_number ss And m n s t r i j e p q = arithmetic And r i j (integers_is s t r i j e p q) (λ b. refl)
binary_number ss Or m n s t r i j e p q = arithmetic Or r i j (integers_is s t r i j e p q) (λ b. refl)
binary_number ss Xor m n s t r i j e p q = arithmetic Xor r i j (integers_is s t r i j e p q) (λ b. refl)
binary_number ss Lt m n s t r i j e p q = comparing Lt r i j (order_is s t r i j e p q) refl (λ a b. refl) (λ b. refl)
binary_number ss Gt m n s t r i j e p q = comparing Gt r i j (order_is s t r i j e p q) refl (λ a b. refl) (λ b. refl)
binary_number ss Le m n s t r i j e p q = comparing Le r i j (order_is s t r i j e p q) refl (λ a b. refl) (λ b. refl)
binary_number ss Ge m n s t r i j e p q = comparing Ge r i j (order_is s t r i j e p q) refl (λ a b. refl) (λ b. refl)
binary_number ss Eq m n s t r i j e p q = comparing Eq r i j (equality_is m n s t r i j e p q) refl (λ a b. refl) (λ b. refl)
binary_number ss Ne m n s t r i j e p q = comparing Ne r i j (equality_is m n s t r i j e p q) refl (λ a b. refl) (λ b. refl)

-- an operand of `?:` that is an integer has the type of the result
pub chosen_first : (m n : Bool) (s t : PlainType) (r : Row) (i : IntType) → conditional_row m n s t ≡ Some r → r.left ≡ integer false i → r.result ≡ integer false i
chosen_first m n (integer c a) (integer d b) r i e p = sym (ap (λ (r : Row). r.result) (some_row _ r e)) ∙ (ap (λ (r : Row). r.left) (some_row _ r e) ∙ p)
chosen_first m n (pointer c s) (pointer d t) r i e p = no_left _ _ _ _ _ r i _ e p
chosen_first m n (pointer c s) (integer d b) r i e p = no_left _ _ _ _ _ r i _ e p
chosen_first m n (integer c a) (pointer d t) r i e p = no_left _ _ _ _ _ r i _ e p
chosen_first m n (integer c a) (void d) r i e p = absurd cc
chosen_first m n (integer c a) (array d t k) r i e p = absurd cc
chosen_first m n (integer c a) (structure d k) r i e p = absurd cc
chosen_first m n (pointer c s) (void d) r i e p = absurd cc
chosen_first m n (pointer c s) (array d t k) r i e p = absurd cc
chosen_first m n (pointer c s) (structure d k) r i e p = absurd cc
chosen_first m n (void c) t r i e p = absurd cc
chosen_first m n (array c s k) t r i e p = absurd cc
chosen_first m n (structure c k) t r i e p = absurd cc

pub same_operands : (m n : Bool) (s t : PlainType) (r : Row) (j : IntType) → conditional_row m n s t ≡ Some r → r.right ≡ integer false j → r.left ≡ integer false j
same_operands m n (integer c a) (integer d b) r j e q = sym (ap (λ (r : Row). r.left) (some_row _ r e)) ∙ (ap (λ (r : Row). r.right) (some_row _ r e) ∙ q)
same_operands m n (pointer c s) (pointer d t) r j e q = no_right _ _ _ _ _ r j _ e q
same_operands m n (pointer c s) (integer d b) r j e q = no_right _ _ _ _ _ r j _ e q
same_operands m n (integer c a) (pointer d t) r j e q = no_right _ _ _ _ _ r j _ e q
same_operands m n (integer c a) (void d) r j e q = absurd cc
same_operands m n (integer c a) (array d t k) r j e q = absurd cc
same_operands m n (integer c a) (structure d k) r j e q = absurd cc
same_operands m n (pointer c s) (void d) r j e q = absurd cc
same_operands m n (pointer c s) (array d t k) r j e q = absurd cc
same_operands m n (pointer c s) (structure d k) r j e q = absurd cc
same_operands m n (void c) t r j e q = absurd cc
same_operands m n (array c s k) t r j e q = absurd cc
same_operands m n (structure c k) t r j e q = absurd cc
