-- The types of operators agree with their rows, by tests.
use Rattle.std.specs.Prelude.{◌≡◌, Bool, true, false, ◌&&◌, ◌||◌, Option, Some, None, is_some, List, refl}
use Rattle.std.proofs.Common.{ap, sym, ◌∙◌}
use Rattle.p10_int.specs.declared.types.IntType.{IntType}
use Rattle.p10_int.specs.declared.types.IntType.TheVariants.{Int, Long}
use Rattle.p10_int.specs.declared.operators.BinOp.{BinOp}
use Rattle.p10_int.specs.declared.operators.BinOp.TheVariants.{Add, Sub, Mul, Div, Rem, Shl, Shr, And, Or, Xor, Lt, Gt, Le, Ge, Eq, Ne}
use Rattle.p10_int.specs.declared.operators.UnOp.{UnOp}
use Rattle.p10_int.specs.declared.operators.UnOp.TheVariants.{Plus, Neg, Not, Com}
use Rattle.p10_int.specs.Types.{promoted, usual_of}
use Rattle.p10_core.specs.Types.{PlainType, integer, pointer, PlainStructure}
use Rattle.p10_core.specs.Rows.{same, same_integer, is_complete, Row, row, row_where, usual_row, compared_row, binary_row, conditional_row, unary_row, int_type}
use Rattle.p10_core.specs.Whole.{Surroundings, UnaryAgrees, BinaryAgrees, ConditionalAgrees}
use Rattle.p10_whole.specs.private.Agreeing.{integer_kind, target_type, is_kind, are_usual, are_compared, are_shifted, is_moved, is_difference, are_pointers, are_chosen, is_binary, is_conditional, is_promoted, is_unary}
use Rattle.p10_whole.specs.private.Shows.{Shows}
use Rattle.p10_whole.proofs.Showing.{both_true, either_true}
use Rattle.p10_whole.proofs.SameTypes.{integer_is, same_is}
use Rattle.p10_whole.proofs.TypeShapes.{kind_is, target_is, kind_of_test, integer_there, pointer_there}

-- a row of the types of a result and of two operands
abbrev RowOf : PlainType → PlainType → PlainType → Option Row → Type 0
RowOf t a b found = found ≡ Some (record { result = t; left = a; right = b })

both_are : (a b : Bool) → a ≡ true → b ≡ true → (a && b) ≡ true
both_are true true p q = refl
both_are true false p q = absurd cc
both_are false b p q = absurd cc

where_true : (b : Bool) (t x y : PlainType) → b ≡ true → row_where b t x y ≡ row t x y
where_true true t x y e = refl
where_true false t x y e = absurd cc

-- three integers of these kinds
rows_of : (t a b x y z : PlainType) → x ≡ t → y ≡ a → z ≡ b → row x y z ≡ row t a b
rows_of t a b x y z p q r = λ i. row (p i) (q i) (r i)

int_same : (i j : IntType) → same_integer i j ≡ true → integer false j ≡ integer false i
int_same i j h = ap (integer false) (sym (integer_is i j h))

usual_by : (t a b : PlainType) (i j k : Option IntType) → integer_kind t ≡ i → integer_kind a ≡ j → integer_kind b ≡ k → are_usual i j k ≡ true →
    (x : IntType) × (y : IntType) × (a ≡ integer false x) × (b ≡ integer false y) × (usual_row x y ≡ row t a b)
usual_by t a b (Some i) (Some j) (Some k) p q r h =
    let u = both_true (same_integer i (usual_of j k)) (same_integer j (usual_of j k) && same_integer k (usual_of j k)) h in
    let v = both_true (same_integer j (usual_of j k)) (same_integer k (usual_of j k)) u.1 in (
      j,
      k,
      kind_is a j q,
      kind_is b k r,
      rows_of t a b (integer false (usual_of j k)) (integer false (usual_of j k)) (integer false (usual_of j k))
          (int_same i (usual_of j k) u.0 ∙ sym (kind_is t i p)) (int_same j (usual_of j k) v.0 ∙ sym (kind_is a j q)) (int_same k (usual_of j k) v.1 ∙ sym (kind_is b k r)),
    )
usual_by t a b None j k p q r h = absurd cc
usual_by t a b (Some i) None k p q r h = absurd cc
usual_by t a b (Some i) (Some j) None p q r h = absurd cc

compared_by : (t a b : PlainType) (i j k : Option IntType) → integer_kind t ≡ i → integer_kind a ≡ j → integer_kind b ≡ k → are_compared i j k ≡ true →
    (x : IntType) × (y : IntType) × (a ≡ integer false x) × (b ≡ integer false y) × (compared_row x y ≡ row t a b)
compared_by t a b (Some i) (Some j) (Some k) p q r h =
    let u = both_true (same_integer i Int) (same_integer j (usual_of j k) && same_integer k (usual_of j k)) h in
    let v = both_true (same_integer j (usual_of j k)) (same_integer k (usual_of j k)) u.1 in (
      j,
      k,
      kind_is a j q,
      kind_is b k r,
      rows_of t a b int_type (integer false (usual_of j k)) (integer false (usual_of j k))
          (int_same i Int u.0 ∙ sym (kind_is t i p)) (int_same j (usual_of j k) v.0 ∙ sym (kind_is a j q)) (int_same k (usual_of j k) v.1 ∙ sym (kind_is b k r)),
    )
compared_by t a b None j k p q r h = absurd cc
compared_by t a b (Some i) None k p q r h = absurd cc
compared_by t a b (Some i) (Some j) None p q r h = absurd cc

shifted_by : (t a b : PlainType) (i j k : Option IntType) → integer_kind t ≡ i → integer_kind a ≡ j → integer_kind b ≡ k → are_shifted i j k ≡ true →
    (x : IntType) × (y : IntType) × (a ≡ integer false x) × (b ≡ integer false y) × (row (integer false (promoted x)) (integer false (promoted x)) (integer false (promoted y)) ≡ row t a b)
shifted_by t a b (Some i) (Some j) (Some k) p q r h =
    let u = both_true (same_integer i (promoted j)) (same_integer j (promoted j) && same_integer k (promoted k)) h in
    let v = both_true (same_integer j (promoted j)) (same_integer k (promoted k)) u.1 in (
      j,
      k,
      kind_is a j q,
      kind_is b k r,
      rows_of t a b (integer false (promoted j)) (integer false (promoted j)) (integer false (promoted k))
          (int_same i (promoted j) u.0 ∙ sym (kind_is t i p)) (int_same j (promoted j) v.0 ∙ sym (kind_is a j q)) (int_same k (promoted k) v.1 ∙ sym (kind_is b k r)),
    )
shifted_by t a b None j k p q r h = absurd cc
shifted_by t a b (Some i) None k p q r h = absurd cc
shifted_by t a b (Some i) (Some j) None p q r h = absurd cc

moved_by : (ss : List PlainStructure) (t a b : PlainType) (i j : Option PlainType) (k : Option IntType) → target_type t ≡ i → target_type a ≡ j → integer_kind b ≡ k → is_moved ss i j k ≡ true →
    (x : PlainType) × (y : IntType) × (a ≡ pointer false x) × (b ≡ integer false y) × (is_complete ss x ≡ true) × (t ≡ pointer false x) × (integer false (promoted y) ≡ b)
moved_by ss t a b (Some i) (Some j) (Some k) p q r h =
    let u = both_true (is_complete ss j) (same i j && same_integer k (promoted k)) h in
    let v = both_true (same i j) (same_integer k (promoted k)) u.1 in
    (j, k, target_is a j q, kind_is b k r, u.0, target_is t i p ∙ ap (pointer false) (same_is i j v.0), int_same k (promoted k) v.1 ∙ sym (kind_is b k r))
moved_by ss t a b None j k p q r h = absurd cc
moved_by ss t a b (Some i) None k p q r h = absurd cc
moved_by ss t a b (Some i) (Some j) None p q r h = absurd cc

difference_by : (ss : List PlainStructure) (t a b : PlainType) (i : Option IntType) (j k : Option PlainType) → integer_kind t ≡ i → target_type a ≡ j → target_type b ≡ k → is_difference ss i j k ≡ true →
    (x : PlainType) × (y : PlainType) × (a ≡ pointer false x) × (b ≡ pointer false y) × (same x y ≡ true) × (is_complete ss y ≡ true) × (t ≡ integer false Long)
difference_by ss t a b (Some i) (Some j) (Some k) p q r h =
    let u = both_true (same_integer i Long) (same j k && is_complete ss k) h in
    let v = both_true (same j k) (is_complete ss k) u.1 in
    (j, k, target_is a j q, target_is b k r, v.0, v.1, kind_is t i p ∙ sym (int_same i Long u.0))
difference_by ss t a b None j k p q r h = absurd cc
difference_by ss t a b (Some i) None k p q r h = absurd cc
difference_by ss t a b (Some i) (Some j) None p q r h = absurd cc

pointers_by : (t a b : PlainType) (i : Option IntType) (j k : Option PlainType) → integer_kind t ≡ i → target_type a ≡ j → target_type b ≡ k → are_pointers i j k ≡ true →
    (x : PlainType) × (y : PlainType) × (a ≡ pointer false x) × (b ≡ pointer false y) × (same x y ≡ true) × (t ≡ int_type)
pointers_by t a b (Some i) (Some j) (Some k) p q r h =
    let u = both_true (same_integer i Int) (same j k) h in
    (j, k, target_is a j q, target_is b k r, u.1, kind_is t i p ∙ sym (int_same i Int u.0))
pointers_by t a b None j k p q r h = absurd cc
pointers_by t a b (Some i) None k p q r h = absurd cc
pointers_by t a b (Some i) (Some j) None p q r h = absurd cc

chosen_by : (t a b : PlainType) (i j k : Option PlainType) → target_type t ≡ i → target_type a ≡ j → target_type b ≡ k → are_chosen i j k ≡ true →
    (x : PlainType) × (y : PlainType) × (a ≡ pointer false x) × (b ≡ pointer false y) × (same x y ≡ true) × (t ≡ pointer false x)
chosen_by t a b (Some i) (Some j) (Some k) p q r h =
    let u = both_true (same i j) (same j k) h in
    (j, k, target_is a j q, target_is b k r, u.1, target_is t i p ∙ ap (pointer false) (same_is i j u.0))
chosen_by t a b None j k p q r h = absurd cc
chosen_by t a b (Some i) None k p q r h = absurd cc
chosen_by t a b (Some i) (Some j) None p q r h = absurd cc

-- ## Rows of the operators

-- the row at types that two are
row_at : (ss : List PlainStructure) (op : BinOp) (t a b x y : PlainType) → a ≡ x → b ≡ y → RowOf t a b (binary_row ss op false false x y) → RowOf t a b (binary_row ss op false false a b)
row_at ss op t a b x y p q e = (λ i. binary_row ss op false false (p i) (q i)) ∙ e

usual_at : (ss : List PlainStructure) (op : BinOp) (t a b : PlainType) → ((x y : IntType) → binary_row ss op false false (integer false x) (integer false y) ≡ usual_row x y) →
    are_usual (integer_kind t) (integer_kind a) (integer_kind b) ≡ true → RowOf t a b (binary_row ss op false false a b)
usual_at ss op t a b f h =
    let k = usual_by t a b (integer_kind t) (integer_kind a) (integer_kind b) refl refl refl h in
    row_at ss op t a b (integer false k.0) (integer false k.1) k.2 k.3 (f k.0 k.1 ∙ k.4)

compared_at : (ss : List PlainStructure) (op : BinOp) (t a b : PlainType) → ((x y : IntType) → binary_row ss op false false (integer false x) (integer false y) ≡ compared_row x y) →
    are_compared (integer_kind t) (integer_kind a) (integer_kind b) ≡ true → RowOf t a b (binary_row ss op false false a b)
compared_at ss op t a b f h =
    let k = compared_by t a b (integer_kind t) (integer_kind a) (integer_kind b) refl refl refl h in
    row_at ss op t a b (integer false k.0) (integer false k.1) k.2 k.3 (f k.0 k.1 ∙ k.4)

shifted_at : (ss : List PlainStructure) (op : BinOp) (t a b : PlainType) →
    ((x y : IntType) → binary_row ss op false false (integer false x) (integer false y) ≡ row (integer false (promoted x)) (integer false (promoted x)) (integer false (promoted y))) →
    are_shifted (integer_kind t) (integer_kind a) (integer_kind b) ≡ true → RowOf t a b (binary_row ss op false false a b)
shifted_at ss op t a b f h =
    let k = shifted_by t a b (integer_kind t) (integer_kind a) (integer_kind b) refl refl refl h in
    row_at ss op t a b (integer false k.0) (integer false k.1) k.2 k.3 (f k.0 k.1 ∙ k.4)

-- a pointer that is moved, on the left
moved_at : (ss : List PlainStructure) (op : BinOp) (t a b : PlainType) →
    ((x : PlainType) (y : IntType) → binary_row ss op false false (pointer false x) (integer false y) ≡ row_where (is_complete ss x) (pointer false x) (pointer false x) (integer false (promoted y))) →
    is_moved ss (target_type t) (target_type a) (integer_kind b) ≡ true → RowOf t a b (binary_row ss op false false a b)
moved_at ss op t a b f h =
    let k = moved_by ss t a b (target_type t) (target_type a) (integer_kind b) refl refl refl h in
    row_at ss op t a b (pointer false k.0) (integer false k.1) k.2 k.3
    (f k.0 k.1 ∙ where_true (is_complete ss k.0) (pointer false k.0) (pointer false k.0) (integer false (promoted k.1)) k.4
    ∙ rows_of t a b (pointer false k.0) (pointer false k.0) (integer false (promoted k.1)) (sym k.5) (sym k.2) k.6)

-- and on the right
moved_right : (ss : List PlainStructure) (t a b : PlainType) → is_moved ss (target_type t) (target_type b) (integer_kind a) ≡ true → RowOf t a b (binary_row ss Add false false a b)
moved_right ss t a b h =
    let k = moved_by ss t b a (target_type t) (target_type b) (integer_kind a) refl refl refl h in
    row_at ss Add t a b (integer false k.1) (pointer false k.0) k.3 k.2
    (where_true (is_complete ss k.0) (pointer false k.0) (integer false (promoted k.1)) (pointer false k.0) k.4
    ∙ rows_of t a b (pointer false k.0) (integer false (promoted k.1)) (pointer false k.0) (sym k.5) k.6 (sym k.2))

difference_at : (ss : List PlainStructure) (t a b : PlainType) → is_difference ss (integer_kind t) (target_type a) (target_type b) ≡ true → RowOf t a b (binary_row ss Sub false false a b)
difference_at ss t a b h =
    let k = difference_by ss t a b (integer_kind t) (target_type a) (target_type b) refl refl refl h in
    row_at ss Sub t a b (pointer false k.0) (pointer false k.1) k.2 k.3
    (where_true (same k.0 k.1 && is_complete ss k.1) (integer false Long) (pointer false k.0) (pointer false k.1) (both_are (same k.0 k.1) (is_complete ss k.1) k.4 k.5)
    ∙ rows_of t a b (integer false Long) (pointer false k.0) (pointer false k.1) (sym k.6) (sym k.2) (sym k.3))

pointers_at : (ss : List PlainStructure) (op : BinOp) (t a b : PlainType) →
    ((x y : PlainType) → binary_row ss op false false (pointer false x) (pointer false y) ≡ row_where (same x y) int_type (pointer false x) (pointer false y)) →
    are_pointers (integer_kind t) (target_type a) (target_type b) ≡ true → RowOf t a b (binary_row ss op false false a b)
pointers_at ss op t a b f h =
    let k = pointers_by t a b (integer_kind t) (target_type a) (target_type b) refl refl refl h in
    row_at ss op t a b (pointer false k.0) (pointer false k.1) k.2 k.3
    (f k.0 k.1 ∙ where_true (same k.0 k.1) int_type (pointer false k.0) (pointer false k.1) k.4 ∙ rows_of t a b int_type (pointer false k.0) (pointer false k.1) (sym k.5) (sym k.2) (sym k.3))

-- integers or pointers that are compared
either_compared : (ss : List PlainStructure) (op : BinOp) (t a b : PlainType) → ((x y : IntType) → binary_row ss op false false (integer false x) (integer false y) ≡ compared_row x y) →
    ((x y : PlainType) → binary_row ss op false false (pointer false x) (pointer false y) ≡ row_where (same x y) int_type (pointer false x) (pointer false y)) →
    (are_compared (integer_kind t) (integer_kind a) (integer_kind b) || are_pointers (integer_kind t) (target_type a) (target_type b)) ≡ true → RowOf t a b (binary_row ss op false false a b)
either_compared ss op t a b f g h =
    either_true (are_compared (integer_kind t) (integer_kind a) (integer_kind b)) (are_pointers (integer_kind t) (target_type a) (target_type b)) h
    (compared_at ss op t a b f) (pointers_at ss op t a b g)

binary_row_is : (ss : List PlainStructure) (op : BinOp) (t a b : PlainType) → is_binary ss op t a b ≡ true → RowOf t a b (binary_row ss op false false a b)
binary_row_is ss Add t a b h =
    either_true (are_usual (integer_kind t) (integer_kind a) (integer_kind b)) (is_moved ss (target_type t) (target_type a) (integer_kind b) || is_moved ss (target_type t) (target_type b) (integer_kind a)) h
    (usual_at ss Add t a b (λ x y. refl))
    (λ k. either_true (is_moved ss (target_type t) (target_type a) (integer_kind b)) (is_moved ss (target_type t) (target_type b) (integer_kind a)) k (moved_at ss Add t a b (λ x y. refl)) (moved_right ss t a b))
binary_row_is ss Sub t a b h =
    either_true (are_usual (integer_kind t) (integer_kind a) (integer_kind b)) (is_moved ss (target_type t) (target_type a) (integer_kind b) || is_difference ss (integer_kind t) (target_type a) (target_type b)) h
    (usual_at ss Sub t a b (λ x y. refl))
    (λ k. either_true (is_moved ss (target_type t) (target_type a) (integer_kind b)) (is_difference ss (integer_kind t) (target_type a) (target_type b)) k (moved_at ss Sub t a b (λ x y. refl)) (difference_at ss t a b))
binary_row_is ss Mul t a b h = usual_at ss Mul t a b (λ x y. refl) h
binary_row_is ss Div t a b h = usual_at ss Div t a b (λ x y. refl) h
binary_row_is ss Rem t a b h = usual_at ss Rem t a b (λ x y. refl) h
binary_row_is ss And t a b h = usual_at ss And t a b (λ x y. refl) h
binary_row_is ss Or t a b h = usual_at ss Or t a b (λ x y. refl) h
binary_row_is ss Xor t a b h = usual_at ss Xor t a b (λ x y. refl) h
binary_row_is ss Shl t a b h = shifted_at ss Shl t a b (λ x y. refl) h
binary_row_is ss Shr t a b h = shifted_at ss Shr t a b (λ x y. refl) h
binary_row_is ss Lt t a b h = either_compared ss Lt t a b (λ x y. refl) (λ x y. refl) h
binary_row_is ss Gt t a b h = either_compared ss Gt t a b (λ x y. refl) (λ x y. refl) h
binary_row_is ss Le t a b h = either_compared ss Le t a b (λ x y. refl) (λ x y. refl) h
binary_row_is ss Ge t a b h = either_compared ss Ge t a b (λ x y. refl) (λ x y. refl) h
binary_row_is ss Eq t a b h = either_compared ss Eq t a b (λ x y. refl) (λ x y. refl) h
binary_row_is ss Ne t a b h = either_compared ss Ne t a b (λ x y. refl) (λ x y. refl) h

pub binary_shown : (c : Surroundings) (op : BinOp) (t a b : PlainType) (x : Bool) → x ≡ is_binary c.structures op t a b → Shows x (BinaryAgrees c op t a b)
binary_shown c op t a b x e = record {
  shows = λ h. record {
    left_null = false;
    right_null = false;
    left_type = a;
    right_type = b;
    entry = record { result = t; left = a; right = b };
    is = binary_row_is c.structures op t a b (sym e ∙ h);
    result_is = refl;
    left_is = refl;
    right_is = refl;
  };
}

-- ## `?:` and unary operators

conditional_is : (t a b : PlainType) → is_conditional t a b ≡ true → conditional_row false false a b ≡ row t a b
conditional_is t a b h =
    either_true (are_usual (integer_kind t) (integer_kind a) (integer_kind b)) (are_chosen (target_type t) (target_type a) (target_type b)) h
    (λ l. let k = usual_by t a b (integer_kind t) (integer_kind a) (integer_kind b) refl refl refl l in (λ i. conditional_row false false (k.2 i) (k.3 i)) ∙ k.4)
    (λ l. let k = chosen_by t a b (target_type t) (target_type a) (target_type b) refl refl refl l in
    (λ i. conditional_row false false (k.2 i) (k.3 i)) ∙ where_true (same k.0 k.1) (pointer false k.0) (pointer false k.0) (pointer false k.1) k.4
    ∙ rows_of t a b (pointer false k.0) (pointer false k.0) (pointer false k.1) (sym k.5) (sym k.2) (sym k.3))

pub conditional_shown : (t a b : PlainType) (x : Bool) → x ≡ is_conditional t a b → Shows x (ConditionalAgrees t a b)
conditional_shown t a b x e = record {
  shows = λ h. record {
    left_null = false;
    right_null = false;
    left_type = a;
    right_type = b;
    entry = record { result = t; left = a; right = b };
    is = conditional_is t a b (sym e ∙ h);
    result_is = refl;
    left_is = refl;
    right_is = refl;
  };
}

promoted_by : (t a : PlainType) (i j : Option IntType) → integer_kind t ≡ i → integer_kind a ≡ j → is_promoted i j ≡ true → (x : IntType) × (a ≡ integer false x) × (integer false (promoted x) ≡ t) × (integer false (promoted x) ≡ a)
promoted_by t a (Some i) (Some j) p q h =
    let u = both_true (same_integer i (promoted j)) (same_integer j (promoted j)) h in
    (j, kind_is a j q, int_same i (promoted j) u.0 ∙ sym (kind_is t i p), int_same j (promoted j) u.1 ∙ sym (kind_is a j q))
promoted_by t a None j p q h = absurd cc
promoted_by t a (Some i) None p q h = absurd cc

unary_at : (op : UnOp) (t a : PlainType) → ((x : IntType) → unary_row op (integer false x) ≡ Some (record { result = integer false (promoted x); operand = integer false (promoted x) })) →
    is_promoted (integer_kind t) (integer_kind a) ≡ true → unary_row op a ≡ Some (record { result = t; operand = a })
unary_at op t a f h =
    let k = promoted_by t a (integer_kind t) (integer_kind a) refl refl h in
    ap (unary_row op) k.1 ∙ f k.0 ∙ (λ i. Some (record { result = k.2 i; operand = k.3 i }))

negation_is : (t a : PlainType) → (is_kind Int (integer_kind t) && (is_some (integer_kind a) || is_some (target_type a))) ≡ true → unary_row Not a ≡ Some (record { result = t; operand = a })
negation_is t a h =
    let u = both_true (is_kind Int (integer_kind t)) (is_some (integer_kind a) || is_some (target_type a)) h in
    let r = kind_of_test t Int u.0 in
    either_true (is_some (integer_kind a)) (is_some (target_type a)) u.1
    (λ l. let k = integer_there a l in ap (unary_row Not) k.1 ∙ (λ i. Some (record { result = sym r i; operand = sym k.1 i })))
    (λ l. let k = pointer_there a l in ap (unary_row Not) k.1 ∙ (λ i. Some (record { result = sym r i; operand = sym k.1 i })))

unary_is : (op : UnOp) (t a : PlainType) → is_unary op t a ≡ true → unary_row op a ≡ Some (record { result = t; operand = a })
unary_is Plus t a h = unary_at Plus t a (λ x. refl) h
unary_is Neg t a h = unary_at Neg t a (λ x. refl) h
unary_is Com t a h = unary_at Com t a (λ x. refl) h
unary_is Not t a h = negation_is t a h

pub unary_shown : (op : UnOp) (t a : PlainType) (x : Bool) → x ≡ is_unary op t a → Shows x (UnaryAgrees op t a)
unary_shown op t a x e = record {
  shows = λ h. record { of_type = a; entry = record { result = t; operand = a }; is = unary_is op t a (sym e ∙ h); result_is = refl; operand_is = refl };
}
