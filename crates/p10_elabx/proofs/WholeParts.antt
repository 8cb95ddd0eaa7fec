-- What is found is whole: rows, conversions, operands as values.
use Rattle.std.specs.Prelude.{◌≡◌, ℕ, Bool, true, false, not, ◌&&◌, ◌||◌, nat_eq, Option, Some, None, Ok, Err, List, [], if◌then◌else◌, refl}
use Rattle.std.proofs.Common.{ap, sym, ◌∙◌, subst}
use Rattle.std.specs.Bool.{beq}
use Rattle.std.proofs.lemmas.Bool.{eqb-true, eq-eqb, false_from_ne_true, false≢true}
use Rattle.p10_base.specs.declared.at.At.{At}
use Rattle.p10_base.specs.declared.codes.SubsetCode.{SubsetCode}
use Rattle.p10_int.specs.declared.types.IntType.{IntType}
use Rattle.p10_int.specs.declared.types.IntType.TheVariants.{Bool as Truth, Char, SChar, UChar, Short, UShort, Int, UInt, Long, ULong, LLong, ULLong}
use Rattle.p10_int.specs.declared.operators.BinOp.{BinOp}
use Rattle.p10_int.specs.declared.operators.BinOp.TheVariants.{Add, Sub, Mul, Div, Rem, Shl, Shr, And, Or, Xor, Lt, Gt, Le, Ge, Eq, Ne}
use Rattle.p10_int.specs.declared.operators.UnOp.{UnOp}
use Rattle.p10_int.specs.declared.operators.UnOp.TheVariants.{Plus, Neg, Not, Com}
use Rattle.p10_core.specs.declared.typed.LogicOp.{LogicOp}
use Rattle.p10_core.specs.Types.{PlainType, void, integer, pointer, array, structure, unqualified, bare, PlainStructure}
use Rattle.p10_core.specs.Typed.{PlainValue, value, convert, PlainPlace, place, PlainPlaceForm, variable, global, literal, index, member, dereference, at_of, type_of, place_at, place_type}
use Rattle.p10_core.specs.Rows.{Row, UnaryRow, row_where, integers_row, sum_row, difference_row, shift_row, order_row, equality_row, binary_row, conditional_row, unary_row, promoted_row, adds_const, fits, may_cast, same, same_form, same_integer, number_of, mark_of, is_void, is_array, is_integer, is_scalar, is_complete}
use Rattle.p10_core.specs.Constants.{is_null}
use Rattle.p10_core.specs.Whole.{Surroundings, SeenVariable, SeenObject, Converts, integers, pointers, nulls, Casts, to_void, integers as cast_integers, nulls as cast_nulls, IsWholeValue, IsWholePlace, is_frame, is_sensor, form_of}
use Rattle.p10_elabx.specs.declared.operand.PlaceKind.{PlaceKind}
use Rattle.p10_elabx.specs.declared.operand.PlaceKind.TheVariants.{Object, Frame, Sensor}
use Rattle.p10_elabx.specs.declared.problem.Problem.{Problem}
use Rattle.p10_elabx.specs.First.{Keep, Found, Ruled, lift, Judged, pair, on, refused_where}
use Rattle.p10_elabx.specs.Operands.{PlainOperand, a_value, a_place, a_function, sensed, read_form, read_value, place_value, operand_value, not_void, is_sensor_kind, any_value, as_value, converted}
use Rattle.p10_elabx.specs.Operators.{unary_by, unary_value, binary_by, binary_value, logic_value, conditional_by, conditional_value, fitted, cast_value}

-- ## What is found

-- a property of what is found, if something is
abbrev pub IfFound : {A : Type 0} → (A → Type 0) → Found A → Type 0
IfFound P (Ok a) = P a
IfFound P (Err rs) = Unit {0}

-- the same for what a row gives
abbrev pub IfRuled : {A : Type 0} → (A → Type 0) → Ruled A → Type 0
IfRuled P (Ok a) = P a
IfRuled P (Err r) = Unit {0}

pub if_lift : {A : Type 0} (P : A → Type 0) (r : Ruled A) → IfRuled P r → IfFound P (lift r)
if_lift P (Ok a) p = p
if_lift P (Err r) p = tt

pub if_on : {A B : Type 0} (P : A → Type 0) (Q : B → Type 0) (f : Found A) (go : A → Ruled B) → ((a : A) → P a → IfRuled Q (go a)) → IfFound P f → IfFound Q (on f go)
if_on P Q (Ok a) go h p = if_lift Q (go a) (h a p)
if_on P Q (Err rs) go h p = tt

pub if_pair : {A B : Type 0} (P : A → Type 0) (Q : B → Type 0) (h : Keep) (f : Found A) (g : Found B) → IfFound P f → IfFound Q g → IfFound (λ x. P x.0 × Q x.1) (pair h f g)
if_pair P Q h (Ok a) (Ok b) p q = (p, q)
if_pair P Q h (Ok a) (Err qs) p q = tt
if_pair P Q h (Err rs) (Ok b) p q = tt
if_pair P Q h (Err rs) (Err qs) p q = tt

pub if_where : {A : Type 0} (P : A → Type 0) (h : Keep) (b : Bool) (code : SubsetCode) (at : At) (f : Found A) → (b ≡ false → IfFound P f) → IfFound P (refused_where h b code at f)
if_where P h false code at f p = p refl
if_where P h true code at (Ok a) p = tt
if_where P h true code at (Err rs) p = tt

pub if_so : {A : Type 0} (P : A → Type 0) (b : Bool) (x : A) (r : Option Problem) → (b ≡ true → P x) → IfRuled P (if b then Ok x else Err r)
if_so P true x r p = p refl
if_so P false x r p = tt

pub if_not : {A : Type 0} (P : A → Type 0) (b : Bool) (x : A) (r : Option Problem) → P x → IfRuled P (if b then Err r else Ok x)
if_not P true x r p = tt
if_not P false x r p = p

-- ## Types

pub mark_off : (t : PlainType) → unqualified t ≡ unqualified (unqualified t)
mark_off (void c) = refl
mark_off (integer c i) = refl
mark_off (pointer c t) = refl
mark_off (array c t n) = refl
mark_off (structure c n) = refl

pub bare_off : (ss : List PlainStructure) (t : PlainType) → bare ss (unqualified t) ≡ bare ss t
bare_off ss (void c) = refl
bare_off ss (integer c i) = refl
bare_off ss (pointer c t) = refl
bare_off ss (array c t n) = refl
bare_off ss (structure c n) = refl

-- the integer type with a number
abbrev numbered : ℕ → IntType
numbered n =
    if nat_eq n 0 then Truth
    else if nat_eq n 1 then Char
    else if nat_eq n 2 then SChar
    else if nat_eq n 3 then UChar
    else if nat_eq n 4 then Short
    else if nat_eq n 5 then UShort
    else if nat_eq n 6 then Int
    else if nat_eq n 7 then UInt
    else if nat_eq n 8 then Long
    else if nat_eq n 9 then ULong
    else if nat_eq n 10 then LLong
    else ULLong

numbered_back : (i : IntType) → numbered (number_of i) ≡ i
numbered_back Truth = refl
numbered_back Char = refl
numbered_back SChar = refl
numbered_back UChar = refl
numbered_back Short = refl
numbered_back UShort = refl
numbered_back Int = refl
numbered_back UInt = refl
numbered_back Long = refl
numbered_back ULong = refl
numbered_back LLong = refl
numbered_back ULLong = refl

integer_is : (i j : IntType) → same_integer i j ≡ true → i ≡ j
integer_is i j e = sym (numbered_back i) ∙ ap numbered (eqb-true (number_of i) (number_of j) e) ∙ numbered_back j

first : (a b : Bool) → (a && b) ≡ true → a ≡ true
first true b e = refl
first false b e = absurd cc

second : (a b : Bool) → (a && b) ≡ true → b ≡ true
second true b e = e
second false b e = absurd cc

both : (a b : Bool) → a ≡ true → b ≡ true → (a && b) ≡ true
both true true p q = refl
both true false p q = absurd cc
both false b p q = absurd cc

marks_are : (a b : Bool) → beq a b ≡ true → a ≡ b
marks_are true true e = refl
marks_are false false e = refl
marks_are true false e = absurd cc
marks_are false true e = absurd cc

mark_same : (a : Bool) → beq a a ≡ true
mark_same true = refl
mark_same false = refl

-- two types of one form with the same mark are one
form_is : (s t : PlainType) → same_form s t ≡ true → mark_of s ≡ mark_of t → s ≡ t
form_is (void c) (void d) e m = ap void m
form_is (integer c i) (integer d j) e m = ap (λ b. integer b i) m ∙ ap (integer d) (integer_is i j e)
form_is (pointer c s) (pointer d t) e m =
    ap (λ b. pointer b s) m ∙ ap (pointer d) (form_is s t (second (beq (mark_of s) (mark_of t)) (same_form s t) e) (marks_are (mark_of s) (mark_of t) (first (beq (mark_of s) (mark_of t)) (same_form s t) e)))
form_is (array c s k) (array d t n) e m =
    let inner : (beq (mark_of s) (mark_of t) && same_form s t) ≡ true = second (nat_eq k n) (beq (mark_of s) (mark_of t) && same_form s t) e in
    ap (λ b. array b s k) m
    ∙ ap (λ u. array d u k) (form_is s t (second (beq (mark_of s) (mark_of t)) (same_form s t) inner) (marks_are (mark_of s) (mark_of t) (first (beq (mark_of s) (mark_of t)) (same_form s t) inner)))
    ∙ ap (array d t) (eqb-true k n (first (nat_eq k n) (beq (mark_of s) (mark_of t) && same_form s t) e))
form_is (structure c k) (structure d n) e m = ap (λ b. structure b k) m ∙ ap (structure d) (eqb-true k n e)
form_is s t e m = absurd cc

pub same_is : (s t : PlainType) → same s t ≡ true → s ≡ t
same_is s t e = form_is s t (second (beq (mark_of s) (mark_of t)) (same_form s t) e) (marks_are (mark_of s) (mark_of t) (first (beq (mark_of s) (mark_of t)) (same_form s t) e))

form_same : (t : PlainType) → same_form t t ≡ true
form_same (void c) = refl
form_same (integer c i) = eq-eqb (number_of i) (number_of i) refl
form_same (pointer c t) = both (beq (mark_of t) (mark_of t)) (same_form t t) (mark_same (mark_of t)) (form_same t)
form_same (array c t n) =
    both (nat_eq n n) (beq (mark_of t) (mark_of t) && same_form t t) (eq-eqb n n refl)
    (both (beq (mark_of t) (mark_of t)) (same_form t t) (mark_same (mark_of t)) (form_same t))
form_same (structure c n) = eq-eqb n n refl

marked_or_not : (a : Bool) → (not a || a) ≡ true
marked_or_not true = refl
marked_or_not false = refl

adds_itself : (t : PlainType) → adds_const t t ≡ true
adds_itself t = both (same_form t t) (not (mark_of t) || mark_of t) (form_same t) (marked_or_not (mark_of t))

-- ## Conversions

-- a value that is whole and has no mark
abbrev pub WholeValue : Surroundings → PlainValue → Type 0
WholeValue c v = IsWholeValue c v × (type_of v ≡ unqualified (type_of v))

-- a value that is whole and has a type
abbrev pub WholeOf : Surroundings → PlainType → PlainValue → Type 0
WholeOf c t v = IsWholeValue c v × (type_of v ≡ t)

-- a value of a type may become one of another without a cast
converts : (v : PlainValue) (s t : PlainType) → type_of v ≡ s → fits (is_null v) s t ≡ true → s ≡ unqualified s → t ≡ unqualified t → Converts t v
converts v (integer a i) (integer b j) e f p q = subst (λ x. Converts x v) (sym q) (integers j i v (e ∙ p))
converts v (integer a i) (pointer b t) e f p q = subst (λ x. Converts x v) (sym q) (nulls i t v (e ∙ p) f)
converts v (pointer a s) (pointer b t) e f p q = subst (λ x. Converts x v) (sym q) (pointers s t v (e ∙ p) f)
converts v s t e f p q = absurd cc

converted_by : (c : Surroundings) (v : PlainValue) (t : PlainType) (b : Bool) → same (type_of v) t ≡ b → WholeValue c v → Converts t v →
    WholeOf c t (if b then v else value (at_of v) t (convert v))
converted_by c v t true e w k = (w.0, same_is _ _ e)
converted_by c v t false e w k = ((w.0, k), refl)

pub converted_whole : (c : Surroundings) (v : PlainValue) (t : PlainType) → WholeValue c v → fits (is_null v) (type_of v) t ≡ true → t ≡ unqualified t → WholeOf c t (converted v t)
converted_whole c v t w f q = converted_by c v t (same (type_of v) t) refl w (converts v (type_of v) t refl f w.1 q)

-- the mark of the expected type doesn't count
fits_off : (null : Bool) (s t : PlainType) → fits null s t ≡ true → fits null s (unqualified t) ≡ true
fits_off null (integer a i) (integer b j) f = refl
fits_off null (integer a i) (pointer b t) f = f
fits_off null (pointer a s) (pointer b t) f = f
fits_off null s t f = absurd cc

pub fitted_whole : (c : Surroundings) (at : At) (v : PlainValue) (t : PlainType) → WholeValue c v → IfRuled (WholeOf c (unqualified t)) (fitted at v t)
fitted_whole c at v t w =
    if_so (WholeOf c (unqualified t)) (fits (is_null v) (type_of v) t) _ _ (λ f. converted_whole c v (unqualified t) w (fits_off (is_null v) (type_of v) t f) (mark_off t))

-- a value of a type is one without a mark
pub unmarked : (c : Surroundings) (t : PlainType) (v : PlainValue) → WholeOf c t v → t ≡ unqualified t → WholeValue c v
unmarked c t v w q = (w.0, w.1 ∙ q ∙ ap unqualified (sym w.1))

-- ## Rows

-- the operands of a row may become of its types
record RowFits (left_null right_null : Bool) (s t : PlainType) (r : Row) : Type 0 where
  left : fits left_null s r.left ≡ true
  right : fits right_null t r.right ≡ true
  left_off : r.left ≡ unqualified r.left
  right_off : r.right ≡ unqualified r.right
  result_off : r.result ≡ unqualified r.result

abbrev IfRow : Bool → Bool → PlainType → PlainType → Option Row → Type 0
IfRow m n s t None = Unit {0}
IfRow m n s t (Some r) = RowFits m n s t r

row_so : (m n : Bool) (s t : PlainType) (b : Bool) (x y z : PlainType) → (b ≡ true → RowFits m n s t (record { result = x; left = y; right = z })) → IfRow m n s t (row_where b x y z)
row_so m n s t true x y z p = p refl
row_so m n s t false x y z p = tt

all_fit : (m n : Bool) (a b : Bool) (i j x y z : IntType) →
    RowFits m n (integer a i) (integer b j) (record { result = integer false x; left = integer false y; right = integer false z })
all_fit m n a b i j x y z = record { left = refl; right = refl; left_off = refl; right_off = refl; result_off = refl }

integers_fit : (m n : Bool) (s t : PlainType) → IfRow m n s t (integers_row s t)
integers_fit m n (integer a i) (integer b j) = all_fit m n a b i j _ _ _
integers_fit m n s t = tt

shift_fits : (m n : Bool) (s t : PlainType) → IfRow m n s t (shift_row s t)
shift_fits m n (integer a i) (integer b j) = all_fit m n a b i j _ _ _
shift_fits m n s t = tt

sum_fits : (ss : List PlainStructure) (m n : Bool) (s t : PlainType) → IfRow m n s t (sum_row ss s t)
sum_fits ss m n (integer a i) (integer b j) = all_fit m n a b i j _ _ _
sum_fits ss m n (pointer a t) (integer b j) =
    row_so m n (pointer a t) (integer b j) (is_complete ss t) _ _ _ (λ _. record { left = adds_itself t; right = refl; left_off = refl; right_off = refl; result_off = refl })
sum_fits ss m n (integer a i) (pointer b t) =
    row_so m n (integer a i) (pointer b t) (is_complete ss t) _ _ _ (λ _. record { left = refl; right = adds_itself t; left_off = refl; right_off = refl; result_off = refl })
sum_fits ss m n s t = tt

difference_fits : (ss : List PlainStructure) (m n : Bool) (s t : PlainType) → IfRow m n s t (difference_row ss s t)
difference_fits ss m n (integer a i) (integer b j) = all_fit m n a b i j _ _ _
difference_fits ss m n (pointer a t) (integer b j) =
    row_so m n (pointer a t) (integer b j) (is_complete ss t) _ _ _ (λ _. record { left = adds_itself t; right = refl; left_off = refl; right_off = refl; result_off = refl })
difference_fits ss m n (pointer a s) (pointer b t) =
    row_so m n (pointer a s) (pointer b t) (same s t && is_complete ss t) _ _ _
    (λ _. record { left = adds_itself s; right = adds_itself t; left_off = refl; right_off = refl; result_off = refl })
difference_fits ss m n s t = tt

order_fits : (m n : Bool) (s t : PlainType) → IfRow m n s t (order_row s t)
order_fits m n (integer a i) (integer b j) = all_fit m n a b i j _ _ _
order_fits m n (pointer a s) (pointer b t) =
    row_so m n (pointer a s) (pointer b t) (same s t) _ _ _
    (λ _. record { left = adds_itself s; right = adds_itself t; left_off = refl; right_off = refl; result_off = refl })
order_fits m n s t = tt

equality_fits : (m n : Bool) (s t : PlainType) → IfRow m n s t (equality_row m n s t)
equality_fits m n (integer a i) (integer b j) = all_fit m n a b i j _ _ _
equality_fits m n (pointer a s) (pointer b t) =
    row_so m n (pointer a s) (pointer b t) (same s t) _ _ _
    (λ _. record { left = adds_itself s; right = adds_itself t; left_off = refl; right_off = refl; result_off = refl })
equality_fits m n (pointer a s) (integer b j) =
    row_so m n (pointer a s) (integer b j) n _ _ _ (λ e. record { left = adds_itself s; right = e; left_off = refl; right_off = refl; result_off = refl })
equality_fits m n (integer a i) (pointer b t) =
    row_so m n (integer a i) (pointer b t) m _ _ _ (λ e. record { left = e; right = adds_itself t; left_off = refl; right_off = refl; result_off = refl })
equality_fits m n s t = tt

conditional_fits : (m n : Bool) (s t : PlainType) → IfRow m n s t (conditional_row m n s t)
conditional_fits m n (integer a i) (integer b j) = all_fit m n a b i j _ _ _
conditional_fits m n (pointer a s) (pointer b t) =
    row_so m n (pointer a s) (pointer b t) (same s t) _ _ _
    (λ _. record { left = adds_itself s; right = adds_itself t; left_off = refl; right_off = refl; result_off = refl })
conditional_fits m n (pointer a s) (integer b j) =
    row_so m n (pointer a s) (integer b j) n _ _ _ (λ e. record { left = adds_itself s; right = e; left_off = refl; right_off = refl; result_off = refl })
conditional_fits m n (integer a i) (pointer b t) =
    row_so m n (integer a i) (pointer b t) m _ _ _ (λ e. record { left = e; right = adds_itself t; left_off = refl; right_off = refl; result_off = refl })
conditional_fits m n s t = tt

binary_fits : (ss : List PlainStructure) (op : BinOp) (m n : Bool) (s t : PlainType) → IfRow m n s t (binary_row ss op m n s t)
binary_fits ss Add m n s t = sum_fits ss m n s t
binary_fits ss Sub m n s t = difference_fits ss m n s t
binary_fits ss Mul m n s t = integers_fit m n s t
binary_fits ss Div m n s t = integers_fit m n s t
binary_fits ss Rem m n s t = integers_fit m n s t
binary_fits ss Shl m n s t = shift_fits m n s t
binary_fits ss Shr m n s t = shift_fits m n s t
binary_fits ss And m n s t = integers_fit m n s t
binary_fits ss Or m n s t = integers_fit m n s t
binary_fits ss Xor m n s t = integers_fit m n s t
binary_fits ss Lt m n s t = order_fits m n s t
binary_fits ss Gt m n s t = order_fits m n s t
binary_fits ss Le m n s t = order_fits m n s t
binary_fits ss Ge m n s t = order_fits m n s t
binary_fits ss Eq m n s t = equality_fits m n s t
binary_fits ss Ne m n s t = equality_fits m n s t

-- ## Operators

binary_by_whole : (c : Surroundings) (at : At) (op : BinOp) (a b : PlainValue) (o : Option Row) → WholeValue c a → WholeValue c b →
    binary_row c.structures op (is_null a) (is_null b) (type_of a) (type_of b) ≡ o → IfRow (is_null a) (is_null b) (type_of a) (type_of b) o →
    IfRuled (WholeValue c) (binary_by at op a b o)
binary_by_whole c at op a b None v w e f = tt
binary_by_whole c at op a b (Some r) v w e f =
    let left : WholeOf c r.left (converted a r.left) = converted_whole c a r.left v f.left f.left_off in
    let right : WholeOf c r.right (converted b r.right) = converted_whole c b r.right w f.right f.right_off in (
      (
        left.0,
        right.0,
        record {
          left_null = is_null a;
          right_null = is_null b;
          left_type = type_of a;
          right_type = type_of b;
          entry = r;
          is = e;
          result_is = refl;
          left_is = left.1;
          right_is = right.1;
        },
      ),
      f.result_off,
    )

pub binary_whole : (c : Surroundings) (at : At) (op : BinOp) (a b : PlainValue) → WholeValue c a → WholeValue c b → IfRuled (WholeValue c) (binary_value c.structures at op a b)
binary_whole c at op a b v w = binary_by_whole c at op a b _ v w refl (binary_fits c.structures op (is_null a) (is_null b) (type_of a) (type_of b))

conditional_by_whole : (c : Surroundings) (at : At) (test a b : PlainValue) (o : Option Row) → WholeValue c test → is_scalar (type_of test) ≡ true → WholeValue c a → WholeValue c b →
    conditional_row (is_null a) (is_null b) (type_of a) (type_of b) ≡ o → IfRow (is_null a) (is_null b) (type_of a) (type_of b) o →
    IfRuled (WholeValue c) (conditional_by at test a b o)
conditional_by_whole c at test a b None u k v w e f = tt
conditional_by_whole c at test a b (Some r) u k v w e f =
    let left : WholeOf c r.left (converted a r.left) = converted_whole c a r.left v f.left f.left_off in
    let right : WholeOf c r.right (converted b r.right) = converted_whole c b r.right w f.right f.right_off in (
      (
        u.0,
        left.0,
        right.0,
        k,
        record {
          left_null = is_null a;
          right_null = is_null b;
          left_type = type_of a;
          right_type = type_of b;
          entry = r;
          is = e;
          result_is = refl;
          left_is = left.1;
          right_is = right.1;
        },
      ),
      f.result_off,
    )

if_test : {A : Type 0} (P : A → Type 0) (b : Bool) (x : Ruled A) (r : Option Problem) → (b ≡ true → IfRuled P x) → IfRuled P (if b then x else Err r)
if_test P true x r p = p refl
if_test P false x r p = tt

pub conditional_whole : (c : Surroundings) (at : At) (test a b : PlainValue) → WholeValue c test → WholeValue c a → WholeValue c b → IfRuled (WholeValue c) (conditional_value at test a b)
conditional_whole c at test a b u v w =
    if_test (WholeValue c) (is_scalar (type_of test)) _ _
    (λ k. conditional_by_whole c at test a b _ u k v w refl (conditional_fits (is_null a) (is_null b) (type_of a) (type_of b)))

pub logic_whole : (c : Surroundings) (at : At) (op : LogicOp) (a b : PlainValue) → WholeValue c a → WholeValue c b → IfRuled (WholeValue c) (logic_value at op a b)
logic_whole c at op a b v w =
    if_so (WholeValue c) (is_scalar (type_of a) && is_scalar (type_of b)) _ _ (λ k. ((v.0, w.0, refl, first (is_scalar (type_of a)) (is_scalar (type_of b)) k, second (is_scalar (type_of a)) (is_scalar (type_of b)) k), refl))

-- the operand of a row of a unary operator may become of its type
record UnaryFits (t : PlainType) (r : UnaryRow) : Type 0 where
  operand : (null : Bool) → fits null t r.operand ≡ true
  operand_off : r.operand ≡ unqualified r.operand
  result_off : r.result ≡ unqualified r.result

abbrev IfUnary : PlainType → Option UnaryRow → Type 0
IfUnary t None = Unit {0}
IfUnary t (Some r) = UnaryFits t r

promoted_fits : (t : PlainType) → IfUnary t (promoted_row t)
promoted_fits (integer c i) = record { operand = λ _. refl; operand_off = refl; result_off = refl }
promoted_fits t = tt

unary_fits : (op : UnOp) (t : PlainType) → IfUnary t (unary_row op t)
unary_fits Plus t = promoted_fits t
unary_fits Neg t = promoted_fits t
unary_fits Com t = promoted_fits t
unary_fits Not (integer c i) = record { operand = λ _. refl; operand_off = refl; result_off = refl }
unary_fits Not (pointer c t) = record { operand = λ _. adds_itself t; operand_off = refl; result_off = refl }
unary_fits Not t = tt

unary_by_whole : (c : Surroundings) (at : At) (op : UnOp) (v : PlainValue) (o : Option UnaryRow) → WholeValue c v → unary_row op (type_of v) ≡ o → IfUnary (type_of v) o →
    IfRuled (WholeValue c) (unary_by at op v o)
unary_by_whole c at op v None w e f = tt
unary_by_whole c at op v (Some r) w e f =
    let operand : WholeOf c r.operand (converted v r.operand) = converted_whole c v r.operand w (f.operand (is_null v)) f.operand_off in
    ((operand.0, record { of_type = type_of v; entry = r; is = e; result_is = refl; operand_is = operand.1 }), f.result_off)

pub unary_whole : (c : Surroundings) (at : At) (op : UnOp) (v : PlainValue) → WholeValue c v → IfRuled (WholeValue c) (unary_value at op v)
unary_whole c at op v w = unary_by_whole c at op v _ w refl (unary_fits op (type_of v))

-- a written cast
casts : (v : PlainValue) (s t : PlainType) → type_of v ≡ s → s ≡ unqualified s → may_cast (is_null v) s t ≡ true → Casts (unqualified t) v
casts v s (void d) e p k = to_void v
casts v (integer a i) (integer b j) e p k = cast_integers j i v (e ∙ p)
casts v (integer a i) (pointer b t) e p k = cast_nulls i t v (e ∙ p) k
casts v s t e p k = absurd cc

pub cast_whole : (c : Surroundings) (at : At) (t : PlainType) (v : PlainValue) → WholeValue c v → IfRuled (WholeValue c) (cast_value at t v)
cast_whole c at t v w =
    if_so (WholeValue c) (may_cast (is_null v) (type_of v) t) _ _ (λ k. ((w.0, casts v (type_of v) t refl w.1 k), mark_off t))

-- ## Operands as values

-- what a scope's numbers name: frame variables are scalars, and sensors integers
pub record AreSimple (c : Surroundings) : Type 0 where
  pub frames : (n : ℕ) (v : SeenVariable) → c.variable_at n ≡ Some v → v.frame ≡ true → is_scalar v.type ≡ true
  pub sensors : (n : ℕ) (o : SeenObject) → c.object_at n ≡ Some o → o.sensor ≡ true → is_integer o.type ≡ true

-- a place is a frame variable where its tree is the name of one, and a sensor where its kind says so
pub record KindIs (c : Surroundings) (frame : Bool) (kind : PlaceKind) (f : PlainPlaceForm) : Type 0 where
  pub frame_is : is_frame c f ≡ frame
  pub sensor_is : is_sensor c f ≡ is_sensor_kind kind

-- an operand is whole; whether its tree is the name of a frame variable is given
abbrev pub WholeOperand : Surroundings → Bool → PlainOperand → Type 0
WholeOperand c frame (a_value v) = WholeValue c v
WholeOperand c frame (a_place kind p) = IsWholePlace c p × KindIs c frame kind (form_of p)
WholeOperand c frame (a_function at) = Unit {0}

-- only a constant of surroundings that have one variable, or one object
abbrev seen_frame : Option SeenVariable → Bool
seen_frame o = is_frame (record { structures = []; literals = None; variable_at = λ _. o; object_at = λ _. None; function_at = λ _. None }) (variable 0)

abbrev seen_sensor : Option SeenObject → Bool
seen_sensor o = is_sensor (record { structures = []; literals = None; variable_at = λ _. None; object_at = λ _. o; function_at = λ _. None }) (global 0)

pub frame_of : (c : Surroundings) (n : ℕ) (v : SeenVariable) → c.variable_at n ≡ Some v → is_frame c (variable n) ≡ v.frame
frame_of c n v e = ap seen_frame e

pub sensor_of : (c : Surroundings) (n : ℕ) (o : SeenObject) → c.object_at n ≡ Some o → is_sensor c (global n) ≡ o.sensor
sensor_of c n o e = ap seen_sensor e

-- an array is no frame variable
array_no_frame : (c : Surroundings) → AreSimple c → (d : Bool) (t : PlainType) (n : ℕ) (f : PlainPlaceForm) (at : At) → IsWholePlace c (place at (array d t n) f) → is_frame c f ≡ false
array_no_frame c simple d t n (variable m) at v =
    frame_of c m v.seen v.there
    ∙ false_from_ne_true v.seen.frame (λ k. false≢true (ap is_scalar v.type_is ∙ simple.frames m v.seen v.there k))
array_no_frame c simple d t n f at v = refl

-- the type of a sensor
record SensorType (ss : List PlainStructure) (t u : PlainType) : Type 0 where
  kind : IntType
  type_is : unqualified t ≡ integer false kind
  same_type : bare ss u ≡ unqualified t

bare_integer : (ss : List PlainStructure) (u : PlainType) → is_integer u ≡ true → is_integer (bare ss u) ≡ true
bare_integer ss (integer c i) k = refl
bare_integer ss (void c) k = k
bare_integer ss (pointer c t) k = k
bare_integer ss (array c t n) k = k
bare_integer ss (structure c n) k = k

sensor_type : (ss : List PlainStructure) (t u : PlainType) → bare ss t ≡ bare ss u → is_integer u ≡ true → SensorType ss t u
sensor_type ss (integer a i) (integer b j) e k = record { kind = i; type_is = refl; same_type = sym e }
sensor_type ss (integer a i) (void d) e k = absurd (false≢true k)
sensor_type ss (integer a i) (pointer d t) e k = absurd (false≢true k)
sensor_type ss (integer a i) (array d t n) e k = absurd (false≢true k)
sensor_type ss (integer a i) (structure d n) e k = absurd (false≢true k)
sensor_type ss (void a) u e k = absurd (false≢true (ap is_integer e ∙ bare_integer ss u k))
sensor_type ss (pointer a t) u e k = absurd (false≢true (ap is_integer e ∙ bare_integer ss u k))
sensor_type ss (array a t n) u e k = absurd (false≢true (ap is_integer e ∙ bare_integer ss u k))
sensor_type ss (structure a n) u e k = absurd (false≢true (ap is_integer e ∙ bare_integer ss u k))

sensed_whole : (c : Surroundings) → AreSimple c → (frame : Bool) (p : PlainPlace) → IsWholePlace c p → KindIs c frame Sensor (form_of p) →
    WholeValue c (value (place_at p) (unqualified (place_type p)) (sensed p))
sensed_whole c simple frame (place at t (global n)) v k =
    let sensor : v.seen.sensor ≡ true = sym (sensor_of c n v.seen v.there) ∙ k.sensor_is in
    let type : SensorType c.structures t v.seen.type = sensor_type c.structures t v.seen.type v.type_is (simple.sensors n v.seen v.there sensor) in
    (record { seen = v.seen; there = v.there; sensor_is = sensor; kind = type.kind; type_is = type.type_is; same_type = type.same_type }, mark_off t)
sensed_whole c simple frame (place at t (variable n)) v k = absurd (false≢true k.sensor_is)
sensed_whole c simple frame (place at t (literal n bytes)) v k = absurd (false≢true k.sensor_is)
sensed_whole c simple frame (place at t (index a i)) v k = absurd (false≢true k.sensor_is)
sensed_whole c simple frame (place at t (member p m)) v k = absurd (false≢true k.sensor_is)
sensed_whole c simple frame (place at t (dereference a)) v k = absurd (false≢true k.sensor_is)

read_whole : (c : Surroundings) → AreSimple c → (frame : Bool) (kind : PlaceKind) (p : PlainPlace) → is_array (place_type p) ≡ false → IsWholePlace c p → KindIs c frame kind (form_of p) →
    IfRuled (WholeValue c) (read_value c.structures kind p)
read_whole c simple frame kind p flat v k = if_so (WholeValue c) (is_complete c.structures (place_type p)) _ _ (by kind k)
  where
    by : (kind : PlaceKind) → KindIs c frame kind (form_of p) → is_complete c.structures (place_type p) ≡ true → WholeValue c (value (place_at p) (unqualified (place_type p)) (read_form kind p))
    by Sensor k full = sensed_whole c simple frame p v k
    by Frame k full = ((v, record { type_is = refl; no_array = flat; complete = full; no_sensor = k.sensor_is }), mark_off (place_type p))
    by Object k full = ((v, record { type_is = refl; no_array = flat; complete = full; no_sensor = k.sensor_is }), mark_off (place_type p))

place_whole : (c : Surroundings) → AreSimple c → (frame : Bool) (kind : PlaceKind) (p : PlainPlace) → IsWholePlace c p → KindIs c frame kind (form_of p) →
    IfRuled (WholeValue c) (place_value c.structures kind p)
place_whole c simple frame kind (place at (array d t n) f) v k =
    ((v, record { mark = d; element = t; count = n; place_is = refl; type_is = refl; no_frame = array_no_frame c simple d t n f at v }), refl)
place_whole c simple frame kind (place at (void d) f) v k = read_whole c simple frame kind (place at (void d) f) refl v k
place_whole c simple frame kind (place at (integer d i) f) v k = read_whole c simple frame kind (place at (integer d i) f) refl v k
place_whole c simple frame kind (place at (pointer d t) f) v k = read_whole c simple frame kind (place at (pointer d t) f) refl v k
place_whole c simple frame kind (place at (structure d n) f) v k = read_whole c simple frame kind (place at (structure d n) f) refl v k

operand_whole : (c : Surroundings) → AreSimple c → (frame : Bool) (o : PlainOperand) → WholeOperand c frame o → IfRuled (WholeValue c) (operand_value c.structures o)
operand_whole c simple frame (a_value v) w = w
operand_whole c simple frame (a_place kind p) w = place_whole c simple frame kind p w.0 w.1
operand_whole c simple frame (a_function at) w = tt

pub any_whole : (c : Surroundings) → AreSimple c → (frame : Bool) (j : Judged PlainOperand) → IfFound (WholeOperand c frame) j.found → IfFound (WholeValue c) (any_value c.structures j).found
unfolding any_value
any_whole c simple frame j w = if_on (WholeOperand c frame) (WholeValue c) j.found (operand_value c.structures) (operand_whole c simple frame) w

pub value_whole : (c : Surroundings) → AreSimple c → (frame : Bool) (j : Judged PlainOperand) → IfFound (WholeOperand c frame) j.found → IfFound (WholeValue c) (as_value c.structures j).found
unfolding as_value
value_whole c simple frame j w =
    if_on (WholeValue c) (WholeValue c) (any_value c.structures j).found not_void (λ v p. if_not (WholeValue c) (is_void (type_of v)) v _ p) (any_whole c simple frame j w)
