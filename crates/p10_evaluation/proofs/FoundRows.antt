-- What operators give is as the rows of the table say, where their operands are.
use Rattle.std.proofs.Common.{◌≡◌, Bool, true, false, List, Option, Some, None, Result, Ok, Err, refl, ap, sym, ◌∙◌, subst, ℤ, pos}
use Rattle.std.specs.Prelude.{not, if◌then◌else◌, int_le, int_lt}
use Rattle.std.specs.Ordering.{int_eq}
use Rattle.std.specs.Option.{option_and_then}
use Rattle.p10_int.specs.declared.operators.Stop.{Stop}
use Rattle.p10_int.specs.declared.operators.BinOp.{BinOp}
use Rattle.p10_int.specs.declared.operators.BinOp.TheVariants.{Add, Sub, Mul, Div, Rem, Shl, Shr, And, Or, Xor, Lt, Gt, Le, Ge, Eq, Ne}
use Rattle.p10_int.specs.declared.operators.UnOp.{UnOp}
use Rattle.p10_int.specs.declared.operators.UnOp.TheVariants.{Plus, Neg, Not, Com}
use Rattle.p10_int.specs.Operators.{truth_of, operate, operate_unary}
use Rattle.p10_range.proofs.Signs.{of_le, of_not_le, of_lt, of_not_lt}
use Rattle.p10_core.specs.Types.{PlainType, void, integer, pointer, array, structure}
use Rattle.p10_core.specs.Constants.{integer_of}
use Rattle.p10_core.specs.Typed.{PlainVariable, PlainProgram}
use Rattle.p10_meaning.specs.declared.pointers.Ptr.{Ptr}
use Rattle.p10_meaning.specs.declared.pointers.Scalar.{Scalar}
use Rattle.p10_meaning.specs.declared.pointers.Scalar.TheVariants.{Int, Pointer}
use Rattle.p10_meaning.specs.Pointers.{same_pointer, is_null}
use Rattle.p10_meaning.specs.Objects.{Object, on_ok, less}
use Rattle.p10_meaning.specs.Scalars.{is_true, truth_value, integer_type, moved, operated, operated_unary}
use Rattle.p10_meaning.specs.Values.{Held}
use Rattle.p10_meaning.specs.Sound.{Kind, Fits}
use Rattle.p10_absx.specs.Abstract.{Abstract}
use Rattle.p10_absx.specs.Environments.{Environment}
use Rattle.p10_absx.specs.Operators.{unary_abstract, binary_abstract}
use Rattle.p10_absx.specs.Comparing.{is_comparison, contrary, Side}
use Rattle.p10_absx.specs.Assessing.{Assessed, a_test, value_found, as_side, any_of, found_of, unary_found, arithmetic_found, comparison_found, binary_found, unary_assessed, known_where, negation_found}
use Rattle.p10_absx.specs.Describing.{Describes, MaybeDescribes, MaybeHolds}
use Rattle.p10_evaluation.proofs.Narrowing.{equal_of, other_of, Compares}
use Rattle.p10_evaluation.proofs.Operating.{binary_holds, unary_holds}
use Rattle.p10_evaluation.proofs.Finding.{IsInteger, in_type, FoundHolds, found_value, found_side, found_known, test_found, turned_round, comparison_holds, IsHeldSo, typed_found, any_found}

-- ## Results

same_type : (t : PlainType) → integer_type t ≡ integer_of t
same_type (integer c i) = refl
same_type (void c) = refl
same_type (pointer c t) = refl
same_type (array c t n) = refl
same_type (structure c n) = refl

-- an integer that an operation gives
record GivesInteger (r : Result ℤ Stop) (z : Scalar) : Type 0 where
  number : ℤ
  ok : r ≡ Ok number
  is : z ≡ Int number

integer_given : (r : Result ℤ Stop) (z : Scalar) → on_ok r (λ n. Ok (Int n)) ≡ Ok z → GivesInteger r z
integer_given (Ok n) z e = record { number = n; ok = refl; is = let f : Int n ≡ z = cc in sym f }
integer_given (Err stop) z e = absurd cc

-- a truth value that a test gives
record GivesTruth (z : Scalar) : Type 0 where
  truth : Bool
  is : z ≡ truth_value truth

truth_given : (b : Bool) (z : Scalar) → ◌≡◌ {A = Result Scalar Stop} (Ok (truth_value b)) (Ok z) → GivesTruth z
truth_given b z e = record { truth = b; is = let f : truth_value b ≡ z = cc in sym f }

test_given : (r : Result Bool Stop) (f : Bool → Bool) (z : Scalar) → on_ok (on_ok r (λ b. Ok (truth_of (f b)))) (λ n. Ok (Int n)) ≡ Ok z → GivesTruth z
test_given (Ok b) f z e = truth_given (f b) z e
test_given (Err stop) f z e = absurd cc

-- what decides a comparison of integers
abbrev decides : BinOp → ℤ → ℤ → Bool
decides Lt m n = int_lt m n
decides Gt m n = int_lt n m
decides Le m n = int_le m n
decides Ge m n = int_le n m
decides Eq m n = int_eq m n
decides Ne m n = not (int_eq m n)
decides op m n = false

pointers_given : (op : BinOp) (t : PlainType) (objects : List Object) (q r : Ptr) (z : Scalar) → is_comparison op ≡ true → operated op t objects (Pointer q) (Pointer r) ≡ Ok z → GivesTruth z
pointers_given Lt t objects q r z c e = test_given (less objects q r) (λ b. b) z e
pointers_given Gt t objects q r z c e = test_given (less objects r q) (λ b. b) z e
pointers_given Le t objects q r z c e = test_given (less objects r q) not z e
pointers_given Ge t objects q r z c e = test_given (less objects q r) not z e
pointers_given Eq t objects q r z c e = truth_given (same_pointer q r) z e
pointers_given Ne t objects q r z c e = truth_given (not (same_pointer q r)) z e
pointers_given Add t objects q r z c e = absurd cc
pointers_given Sub t objects q r z c e = absurd cc
pointers_given Mul t objects q r z c e = absurd cc
pointers_given Div t objects q r z c e = absurd cc
pointers_given Rem t objects q r z c e = absurd cc
pointers_given Shl t objects q r z c e = absurd cc
pointers_given Shr t objects q r z c e = absurd cc
pointers_given And t objects q r z c e = absurd cc
pointers_given Or t objects q r z c e = absurd cc
pointers_given Xor t objects q r z c e = absurd cc

truth_is : (b : Bool) (z : Scalar) → ◌≡◌ {A = Result Scalar Stop} (Ok (truth_value b)) (Ok z) → z ≡ truth_value b
truth_is b z e = let f : truth_value b ≡ z = cc in sym f

integers_compared : (op : BinOp) (t : PlainType) (objects : List Object) (m n : ℤ) (z : Scalar) → is_comparison op ≡ true → operated op t objects (Int m) (Int n) ≡ Ok z → z ≡ truth_value (decides op m n)
integers_compared Lt t objects m n z c e = truth_is (int_lt m n) z e
integers_compared Gt t objects m n z c e = truth_is (int_lt n m) z e
integers_compared Le t objects m n z c e = truth_is (int_le m n) z e
integers_compared Ge t objects m n z c e = truth_is (int_le n m) z e
integers_compared Eq t objects m n z c e = truth_is (int_eq m n) z e
integers_compared Ne t objects m n z c e = truth_is (not (int_eq m n)) z e
integers_compared Add t objects m n z c e = absurd cc
integers_compared Sub t objects m n z c e = absurd cc
integers_compared Mul t objects m n z c e = absurd cc
integers_compared Div t objects m n z c e = absurd cc
integers_compared Rem t objects m n z c e = absurd cc
integers_compared Shl t objects m n z c e = absurd cc
integers_compared Shr t objects m n z c e = absurd cc
integers_compared And t objects m n z c e = absurd cc
integers_compared Or t objects m n z c e = absurd cc
integers_compared Xor t objects m n z c e = absurd cc

-- a pointer and an integer are not compared
never_moved : (op : BinOp) (objects : List Object) (q : Ptr) (n : ℤ) (z : Scalar) → is_comparison op ≡ true → on_ok (moved op objects q n) (λ r. Ok (Pointer r)) ≡ Ok z → ⊥
never_moved Lt objects q n z c e = cc
never_moved Gt objects q n z c e = cc
never_moved Le objects q n z c e = cc
never_moved Ge objects q n z c e = cc
never_moved Eq objects q n z c e = cc
never_moved Ne objects q n z c e = cc
never_moved Add objects q n z c e = cc
never_moved Sub objects q n z c e = cc
never_moved Mul objects q n z c e = cc
never_moved Div objects q n z c e = cc
never_moved Rem objects q n z c e = cc
never_moved Shl objects q n z c e = cc
never_moved Shr objects q n z c e = cc
never_moved And objects q n z c e = cc
never_moved Or objects q n z c e = cc
never_moved Xor objects q n z c e = cc

-- a comparison gives a truth value
compared_given : (op : BinOp) (t : PlainType) (objects : List Object) (x y z : Scalar) → is_comparison op ≡ true → operated op t objects x y ≡ Ok z → GivesTruth z
compared_given op t objects (Int m) (Int n) z c e = record { truth = decides op m n; is = integers_compared op t objects m n z c e }
compared_given op t objects (Pointer q) (Int n) z c e = absurd (never_moved op objects q n z c e)
compared_given op t objects (Int n) (Pointer q) z c e = absurd (never_moved op objects q n z c e)
compared_given op t objects (Pointer q) (Pointer r) z c e = pointers_given op t objects q r z c e

turned_true : (b : Bool) → not b ≡ true → b ≡ false
turned_true true e = absurd cc
turned_true false e = refl

turned_false : (b : Bool) → not b ≡ false → b ≡ true
turned_false true e = refl
turned_false false e = absurd cc

decided_so : (op : BinOp) (m n : ℤ) → decides op m n ≡ true → Compares op m n
decided_so Lt m n e = of_lt m n e
decided_so Gt m n e = of_lt n m e
decided_so Le m n e = of_le m n e
decided_so Ge m n e = of_le n m e
decided_so Eq m n e = equal_of m n e
decided_so Ne m n e = other_of m n (turned_true (int_eq m n) e)
decided_so Add m n e = tt
decided_so Sub m n e = tt
decided_so Mul m n e = tt
decided_so Div m n e = tt
decided_so Rem m n e = tt
decided_so Shl m n e = tt
decided_so Shr m n e = tt
decided_so And m n e = tt
decided_so Or m n e = tt
decided_so Xor m n e = tt

decided_not : (op : BinOp) (m n : ℤ) → decides op m n ≡ false → Compares (contrary op) m n
decided_not Lt m n e = of_not_lt m n e
decided_not Gt m n e = of_not_lt n m e
decided_not Le m n e = of_not_le m n e
decided_not Ge m n e = of_not_le n m e
decided_not Eq m n e = other_of m n e
decided_not Ne m n e = equal_of m n (turned_false (int_eq m n) e)
decided_not Add m n e = tt
decided_not Sub m n e = tt
decided_not Mul m n e = tt
decided_not Div m n e = tt
decided_not Rem m n e = tt
decided_not Shl m n e = tt
decided_not Shr m n e = tt
decided_not And m n e = tt
decided_not Or m n e = tt
decided_not Xor m n e = tt

negation_given : (t : PlainType) (x z : Scalar) → operated_unary Not t x ≡ Ok z → z ≡ truth_value (not (is_true x))
negation_given t (Int m) z e = truth_is (int_eq m (pos 0)) z e ∙ ap truth_value (twice (int_eq m (pos 0)))
  where
    twice : (b : Bool) → b ≡ not (not b)
    twice true = refl
    twice false = refl
negation_given t (Pointer q) z e = truth_is (is_null q) z e ∙ ap truth_value (twice (is_null q))
  where
    twice : (b : Bool) → b ≡ not (not b)
    twice true = refl
    twice false = refl

-- ## Rows

module _ (variables : List PlainVariable) (head held : List Held) (p : PlainProgram) (ks : List Kind) (t : PlainType) where
  -- a value that was found, as an operand of an operator on integers
  integer_held : (a : Option Abstract) (z : Scalar) (k : ℤ) → z ≡ Int k → MaybeHolds head a k → Fits p ks t z → FoundHolds variables head held (found_of t a) z
  integer_held a z k e h f = typed_found variables head held p ks t a (Some z) f (subst (λ z. IsHeldSo variables head held a (Some z)) (sym e) h)

  unary_integer : (op : UnOp) (o : Option Abstract) (m k : ℤ) → MaybeHolds head o m → Fits p ks t (Int k) → operate_unary op (integer_of t) m ≡ Ok k → MaybeHolds head (option_and_then (unary_abstract op (integer_of t)) o) k
  unary_integer op None m k h f e = absurd h
  unary_integer op (Some v) m k h f e = unary_holds head op (integer_of t) v m k h (in_type p ks t k f) e

  unary_plain : (op : UnOp) (a : Assessed) (x z : Scalar) → FoundHolds variables head held a x → ((q : Ptr) → operated_unary op t (Pointer q) ≡ Ok z → ⊥) → operated_unary op t x ≡ Ok z → Fits p ks t z →
      FoundHolds variables head held (unary_found op t (value_found a)) z
  unary_plain op a (Pointer q) z h never e f = absurd (never q e)
  unary_plain op a (Int m) z h never e f =
      let g : GivesInteger (operate_unary op (integer_type t) m) z = integer_given (operate_unary op (integer_type t) m) z e in
      let ok : operate_unary op (integer_of t) m ≡ Ok g.number = subst (λ kind. operate_unary op kind m ≡ Ok g.number) (same_type t) g.ok in
      integer_held (option_and_then (unary_abstract op (integer_of t)) (value_found a)) z g.number g.is
      (unary_integer op (value_found a) m g.number (found_value variables head held a m h) (subst (Fits p ks t) g.is f) ok) f

  -- a unary operator
  pub unary_row_found : (op : UnOp) (a : Assessed) (env : Environment) (x z : Scalar) → FoundHolds variables head held a x → Describes variables env head held → operated_unary op t x ≡ Ok z → Fits p ks t z →
      FoundHolds variables head held (unary_assessed op t env a) z
  unary_row_found Not a env x z h d e f = subst (FoundHolds variables head held (negation_found env a)) (sym (negation_given t x z e))
      (test_found variables head held (known_where false env a) (known_where true env a) (not (is_true x)) (turned_round variables head held a env (is_true x) (found_known variables head held a x env h d)))
  unary_row_found Plus a env x z h d e f = unary_plain Plus a x z h (λ q g. cc) e f
  unary_row_found Neg a env x z h d e f = unary_plain Neg a x z h (λ q g. cc) e f
  unary_row_found Com a env x z h d e f = unary_plain Com a x z h (λ q g. cc) e f

  binary_integer : (op : BinOp) (o u : Option Abstract) (m n k : ℤ) → MaybeHolds head o m → MaybeHolds head u n → Fits p ks t (Int k) → operate op (integer_of t) m n ≡ Ok k →
      MaybeHolds head (option_and_then (λ a. option_and_then (λ b. binary_abstract op (integer_of t) a b) u) o) k
  binary_integer op None u m n k h l f e = absurd h
  binary_integer op (Some a) None m n k h l f e = absurd l
  binary_integer op (Some a) (Some b) m n k h l f e = binary_holds head op (integer_of t) a b m n k h l (in_type p ks t k f) e

  arithmetic_holds : (op : BinOp) (objects : List Object) (a b : Assessed) (m n : ℤ) (z : Scalar) → FoundHolds variables head held a (Int m) → FoundHolds variables head held b (Int n) →
      operated op t objects (Int m) (Int n) ≡ Ok z → Fits p ks t z → FoundHolds variables head held (arithmetic_found op t (value_found a) (value_found b)) z
  arithmetic_holds op objects a b m n z h l e f =
      let g : GivesInteger (operate op (integer_type t) m n) z = integer_given (operate op (integer_type t) m n) z e in
      let ok : operate op (integer_of t) m n ≡ Ok g.number = subst (λ kind. operate op kind m n ≡ Ok g.number) (same_type t) g.ok in
      integer_held (option_and_then (λ a. option_and_then (λ b. binary_abstract op (integer_of t) a b) (value_found b)) (value_found a)) z g.number g.is
      (binary_integer op (value_found a) (value_found b) m n g.number (found_value variables head held a m h) (found_value variables head held b n l) (subst (Fits p ks t) g.is f) ok) f

  integers_compared_hold : (op : BinOp) (objects : List Object) (a b : Assessed) (env : Environment) (m n : ℤ) (z : Scalar) → is_comparison op ≡ true → FoundHolds variables head held a (Int m) → FoundHolds variables head held b (Int n) →
      Describes variables env head held → operated op t objects (Int m) (Int n) ≡ Ok z → FoundHolds variables head held (comparison_found op true (as_side a) (as_side b) env) z
  integers_compared_hold op objects a b env m n z c h l d e =
      subst (FoundHolds variables head held (comparison_found op true (as_side a) (as_side b) env)) (sym (integers_compared op t objects m n z c e))
      (comparison_holds variables head held op (as_side a) (as_side b) env m n (decides op m n) (decided_so op m n) (decided_not op m n)
      (found_side variables head held a m h) (found_side variables head held b n l) d)

  others_compared_hold : (op : BinOp) (left right : Side) (env : Environment) (z : Scalar) → Describes variables env head held → GivesTruth z → FoundHolds variables head held (comparison_found op false left right env) z
  others_compared_hold op left right env z d g = subst (FoundHolds variables head held (a_test (Some env) (Some env))) (sym g.is) (test_found variables head held (Some env) (Some env) g.truth (either g.truth))
    where
      either : (b : Bool) → MaybeDescribes variables (if b then Some env else Some env) head held
      either true = d
      either false = d

  -- a binary operator
  pub binary_row_found : (op : BinOp) (objects : List Object) (integers : Bool) (a b : Assessed) (env : Environment) (x y z : Scalar) → (integers ≡ true → IsInteger x) → (integers ≡ true → IsInteger y) →
      FoundHolds variables head held a x → FoundHolds variables head held b y → Describes variables env head held → operated op t objects x y ≡ Ok z → Fits p ks t z →
      FoundHolds variables head held (binary_found op t integers a b env) z
  binary_row_found op objects integers a b env x y z left right h l d e f = at (is_comparison op) refl integers left right
    where
      compared_so : is_comparison op ≡ true → (i : Bool) → (i ≡ true → IsInteger x) → (i ≡ true → IsInteger y) → FoundHolds variables head held (comparison_found op i (as_side a) (as_side b) env) z
      compared_so c true left right =
          let m : IsInteger x = left refl in let n : IsInteger y = right refl in
          integers_compared_hold op objects a b env m.number n.number z c (subst (FoundHolds variables head held a) m.is h) (subst (FoundHolds variables head held b) n.is l) d (both m n)
        where
          both : (m : IsInteger x) (n : IsInteger y) → operated op t objects (Int m.number) (Int n.number) ≡ Ok z
          both m n = subst (λ y. operated op t objects (Int m.number) y ≡ Ok z) n.is (subst (λ x. operated op t objects x y ≡ Ok z) m.is e)
      compared_so c false left right = others_compared_hold op (as_side a) (as_side b) env z d (compared_given op t objects x y z c e)

      computed_so : (i : Bool) → (i ≡ true → IsInteger x) → (i ≡ true → IsInteger y) → FoundHolds variables head held (if i then arithmetic_found op t (value_found a) (value_found b) else any_of t) z
      computed_so true left right =
          let m : IsInteger x = left refl in let n : IsInteger y = right refl in
          arithmetic_holds op objects a b m.number n.number z (subst (FoundHolds variables head held a) m.is h) (subst (FoundHolds variables head held b) n.is l) (both m n) f
        where
          both : (m : IsInteger x) (n : IsInteger y) → operated op t objects (Int m.number) (Int n.number) ≡ Ok z
          both m n = subst (λ y. operated op t objects (Int m.number) y ≡ Ok z) n.is (subst (λ x. operated op t objects x y ≡ Ok z) m.is e)
      computed_so false left right = any_found variables head held p ks t (Some z) f

      at : (c : Bool) → is_comparison op ≡ c → (i : Bool) → (i ≡ true → IsInteger x) → (i ≡ true → IsInteger y) →
          FoundHolds variables head held (if c then comparison_found op i (as_side a) (as_side b) env else (if i then arithmetic_found op t (value_found a) (value_found b) else any_of t)) z
      at true c i left right = compared_so c i left right
      at false c i left right = computed_so i left right
