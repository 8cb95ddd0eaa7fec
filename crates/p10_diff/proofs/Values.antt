-- By how much the numbers that values give differ from names, by induction on values.
use Rattle.std.proofs.Common.{◌≡◌, ℕ, suc, Bool, true, false, List, refl, ◌∙◌, ap, sym, subst, Option, Some, None, slice_get, ℤ, pos, ◌+ℤ◌, ◌-ℤ◌, Result, Ok, Err}
use Rattle.std.specs.Prelude.{IfSome, IsSomeAnd, ◌&&◌, if◌then◌else◌, int_div}
use Rattle.std.specs.Ordering.{int_eq}
use Rattle.p10_base.specs.declared.span.Span.{Span}
use Rattle.p10_base.specs.declared.at.At.{At}
use Rattle.p10_int.specs.declared.types.IntType.{IntType}
use Rattle.p10_int.specs.declared.operators.Stop.{Stop}
use Rattle.p10_int.specs.declared.operators.Stop.TheVariants.{U1, U2}
use Rattle.p10_int.specs.declared.operators.BinOp.{BinOp}
use Rattle.p10_int.specs.declared.operators.BinOp.TheVariants.{Add, Sub, Mul, Div, Rem, Shl, Shr, And, Or, Xor, Lt, Gt, Le, Ge, Eq, Ne}
use Rattle.p10_int.specs.Types.{is_signed_of, holds}
use Rattle.p10_int.specs.Operators.{fitted, quotient, operate}
use Rattle.p10_int.proofs.Reduced.{fitted_signed}
use Rattle.p10_range.specs.Ranges.{Interval, IsMember}
use Rattle.p10_core.specs.Types.{PlainType, integer, void, pointer, array, structure}
use Rattle.p10_core.specs.Rows.{is_integer}
use Rattle.p10_core.specs.Constants.{integer_of}
use Rattle.p10_core.specs.Typed.{PlainValue, value, type_of, PlainForm, binary, PlainFunction, PlainProgram}
use Rattle.p10_core.specs.Whole.{SeenVariable, IsWholeValue}
use Rattle.p10_core.specs.WholePrograms.{around, IsWholeProgram}
use Rattle.p10_meaning.specs.declared.pointers.Scalar.{Scalar}
use Rattle.p10_meaning.specs.declared.pointers.Scalar.TheVariants.{Int, Pointer}
use Rattle.p10_meaning.specs.Objects.{Object, on_ok}
use Rattle.p10_meaning.specs.States.{State, gives, or_undefined}
use Rattle.p10_meaning.specs.Scalars.{operated, integer_type}
use Rattle.p10_meaning.specs.Values.{Calls, Setting, Held, used, perform, evaluate}
use Rattle.p10_meaning.specs.Statements.{Frame}
use Rattle.p10_meaning.specs.Calling.{Depth, setting_of, call_at}
use Rattle.p10_meaning.specs.Sound.{Kind, Fits, AreSeen, KeepSound, region_at}
use Rattle.p10_meaning.proofs.Geometry.{IsLaidOut}
use Rattle.p10_meaning.proofs.LaidOut.{laid_out}
use Rattle.p10_meaning.proofs.AgreeingCalls.{values_run}
use Rattle.p10_meaning.proofs.SoundStatements.{AreFew, seen, seen_by}
use Rattle.p10_meaning.proofs.SoundCalls.{few_variables, calls_keep}
use Rattle.p10_sums.specs.Keeping.{HoldsOf}
use Rattle.p10_absx.specs.Abstract.{Abstract}
use Rattle.p10_absx.specs.Environments.{Environment}
use Rattle.p10_absx.specs.Comparing.{Side}
use Rattle.p10_absx.specs.Assessing.{Assessed, value_found, as_side, are_integers, assess}
use Rattle.p10_absx.specs.Describing.{set_to, MaybeHolds}
use Rattle.p10_evaluation.proofs.Narrowing.{SideHolds}
use Rattle.p10_evaluation.proofs.Finding.{FoundHolds, found_value, found_side}
use Rattle.p10_evaluation.proofs.Evaluating.{Falls, finds}
use Rattle.p10_evaluation.proofs.WholeFunctions.{results_lie}
use Rattle.p10_execution.specs.Standing.{StandsSoundly}
use Rattle.p10_execution.proofs.Frames.{number_fits}
use Rattle.p10_execution.proofs.Giving.{holds_step, holds_then, holds_or, holds_both, holds_weaker}
use Rattle.p10_execution.proofs.Parts.{ready_step, Given, value_given}
use Rattle.p10_diff.specs.Bounds.{least, plus, AtMost}
use Rattle.p10_diff.specs.Differences.{Name, now, number_or_zero, worth, Pair, has_name, Differences, range_of, top, bottom, named_by, named}
use Rattle.p10_diff.specs.Expressions.{value_range, is_exact, midpoint, distance_of, distance, part_of, part, divisor, named_up, named_low, sum_up, sum_low, operator_up, operator_low, up, up_row, low, low_row}
use Rattle.p10_diff.specs.Domain.{DescribesDifferences}
use Rattle.p10_diff.proofs.Bounds.{most_of}
use Rattle.p10_diff.proofs.Named.{if_most, both_true}
use Rattle.p10_diff.proofs.Measured.{number, IsDistance, IsPart, distance_is, part_is, Measured, row_above, row_below, named_above, named_below, divides, sum_above, sum_below, difference_above, difference_below}

-- ## Exact results

-- a signed type has the exact result or stops
pub exact : (k : IntType) (stop : Stop) (z r : ℤ) → is_signed_of k ≡ true → fitted k stop z ≡ Ok r → r ≡ z
exact k stop z r s e = by (holds k z) (sym (fitted_signed k stop z s) ∙ e)
  where
    by : (b : Bool) → (if b then Ok z else Err stop) ≡ Ok r → r ≡ z
    by true e = cc
    by false e = absurd cc

exact_quotient : (k : IntType) (a b r : ℤ) → is_signed_of k ≡ true → quotient k a b ≡ Ok r → r ≡ int_div a b
unfolding quotient
exact_quotient k a b r s e = by (int_eq b (pos 0)) e
  where
    by : (t : Bool) → (if t then Err U2 else fitted k U1 (int_div a b)) ≡ Ok r → r ≡ int_div a b
    by true e = absurd cc
    by false e = exact k U1 (int_div a b) r s e

pub given_of : (r : Result ℤ Stop) (x : Scalar) → on_ok r (λ z. Ok (Int z)) ≡ Ok x → (z : ℤ) × (r ≡ Ok z) × (x ≡ Int z)
given_of (Ok z) x e = let same : Int z ≡ x = cc in (z, refl, sym same)
given_of (Err stop) x e = absurd cc

pub one_type : (t : PlainType) → is_integer t ≡ true → integer_type t ≡ integer_of t
one_type (integer c k) e = refl
one_type (void c) e = absurd cc
one_type (pointer c t) e = absurd cc
one_type (array c t n) e = absurd cc
one_type (structure c n) e = absurd cc

same_number : (x y : ℤ) → Int x ≡ Int y → x ≡ y
same_number x y e = cc

if_some : {A : Type 0} (P : A → Type 0) (b : Bool) (x : Option A) → (b ≡ true → IfSome x P) → IfSome (if b then x else None) P
if_some P true x f = f refl
if_some P false x f = tt

module _ (p : PlainProgram) (whole : IsWholeProgram p) (n : ℕ) (depth : Depth) (number_of : ℕ) (f : PlainFunction) (there : slice_get p.functions number_of ≡ Some f)
    (below above : ℕ) (base : Environment) (e : Differences) (head : List Held) (frame : Frame) where
  abbrev pub pair : Pair
  pair = record { variables = f.variables; below = below; above = above; head = base }

  abbrev s : Setting
  s = setting_of p n (call_at n p) depth f

  abbrev Stand : State → Type 0
  Stand w = StandsSoundly p f.variables n frame w

  abbrev calls : Calls
  calls = call_at n p depth

  abbrev Found : Assessed → Scalar → Type 0
  Found a x = FoundHolds f.variables head frame.held a x

  module _ (d : DescribesDifferences pair e head frame.held) (scope : List ℕ) where
    abbrev pub IsMeasured : PlainValue → ℤ → Type 0
    IsMeasured v z = Measured pair e head frame.held d v z

    -- the same of a scalar: a pointer isn't measured
    abbrev pub MeasuredBy : PlainValue → Scalar → Type 0
    MeasuredBy v (Int z) = IsMeasured v z
    MeasuredBy v (Pointer q) = Unit {0}

    abbrev IsWhole : PlainValue → Type 0
    IsWhole v = IsWholeValue (around (region_at p number_of f scope false false)) v

    -- ## What is found

    out : IsLaidOut p
    out = laid_out p whole

    meaning : KeepSound p calls
    meaning = calls_keep p whole n depth

    few : AreFew p f.variables
    few = few_variables p whole number_of f (whole.functions number_of f there)

    abbrev seen_at : ℕ → Option SeenVariable
    seen_at = seen_by p out whole calls meaning n number_of f few scope

    are_seen : AreSeen f.variables seen_at
    are_seen = seen p out whole calls meaning n number_of f few scope

    falls : Falls p out whole calls meaning n f.variables seen_at are_seen frame.held head None (results_lie p whole n depth)
    falls v w l = (values_run p depth f v frame.held w).follows n l

    found : (v : PlainValue) → IsWhole v → (w : State) → Stand w → HoldsOf (λ x w. Found (assess None v e.ranges) x) (evaluate s frame.held v w)
    found v i w r = finds p out whole calls meaning n f.variables seen_at are_seen frame.held head None (results_lie p whole n depth) falls v i e.ranges r.kinds w
        (record { sound = r.sound; fits = r.fits; describes = d.ranges.describes; few = r.left }) refl

    found_is : (a : Assessed) (z : ℤ) → Found a (Int z) → IfSome (named_by pair (as_side a).variable) (λ n. worth head frame.held (now n) ≡ z)
    found_is a z h = by (as_side a).variable (found_side f.variables head frame.held a z h).variable
      where
        by : (o : Option ℕ) → IfSome o (λ n. set_to frame.held n ≡ Some z) → IfSome (named_by pair o) (λ n. worth head frame.held (now n) ≡ z)
        by None h = tt
        by (Some n) h = if_some (λ n. worth head frame.held (now n) ≡ z) (has_name pair n) (Some n) (λ q. ap number_or_zero h)

    found_inside : (a : Assessed) (z : ℤ) → Found a (Int z) → IfSome (range_of (value_found a)) (λ r. IsMember r z)
    found_inside a z h = by (value_found a) (found_value f.variables head frame.held a z h)
      where
        by : (o : Option Abstract) → MaybeHolds head o z → IfSome (range_of o) (λ r. IsMember r z)
        by None h = absurd h
        by (Some a) h = h.member

    -- a value without a row but that of a variable
    pub plain : (v : PlainValue) → ((w : Name) → up_row pair v e w ≡ named_up pair e (named pair e.ranges v) w) → ((w : Name) → low_row pair v e w ≡ named_low pair e (named pair e.ranges v) w) → distance pair e.ranges v ≡ None → part pair e.ranges v ≡ None →
        (x : Scalar) → Found (assess None v e.ranges) x → MeasuredBy v x
    plain v ups lows far steps (Pointer q) h = tt
    plain v ups lows far steps (Int z) h =
        let is : IfSome (named pair e.ranges v) (λ n. worth head frame.held (now n) ≡ z) = found_is (assess None v e.ranges) z h in
        let inside : IfSome (value_range e.ranges v) (λ r. IsMember r z) = found_inside (assess None v e.ranges) z h in
        record {
          above = λ w. row_above pair e head frame.held d v z inside w (subst (λ o. AtMost (z -ℤ worth head frame.held w) o) (sym (ups w)) (named_above pair e head frame.held d (named pair e.ranges v) z is w));
          below = λ w. row_below pair e head frame.held d v z inside w (subst (λ o. AtMost (worth head frame.held w -ℤ z) o) (sym (lows w)) (named_below pair e head frame.held d (named pair e.ranges v) z is w));
          is = is;
          inside = inside;
          way = subst (λ o. IfSome o (λ t. IsDistance pair e head frame.held d t z)) (sym far) tt;
          step = subst (λ o. IfSome o (λ q. IsPart pair e head frame.held d q z)) (sym steps) tt;
        }

    -- ## Operators

    abbrev Gives : PlainValue → Type 0
    Gives v = (w : State) → Stand w → HoldsOf (λ x w. MeasuredBy v x) (evaluate s frame.held v w)

    -- a result of an operator on numbers that are measured
    pub record Operated (t : PlainType) (op : BinOp) (a b : PlainValue) (x : Scalar) : Type 0 where
      pub objects : List Object
      pub left : Scalar
      pub right : Scalar
      pub left_kinds : List Kind
      pub right_kinds : List Kind
      pub left_fits : Fits p left_kinds (type_of a) left
      pub right_fits : Fits p right_kinds (type_of b) right
      pub left_is : MeasuredBy a left
      pub right_is : MeasuredBy b right
      pub ok : operated op t objects left right ≡ Ok x

    abbrev maybe_operated : PlainType → BinOp → PlainValue → PlainValue → Option Scalar → Type 0
    maybe_operated t op a b None = Unit {0}
    maybe_operated t op a b (Some x) = Operated t op a b x

    used_gives : (t : PlainType) (op : BinOp) (a b : PlainValue) (x : Option Scalar) (span : Span) (w : State) → maybe_operated t op a b x → HoldsOf (λ x w. Operated t op a b x) (or_undefined (used x) span w (λ x. gives x w))
    used_gives t op a b None span w h = tt
    used_gives t op a b (Some x) span w h = h

    abbrev GivenSo : PlainValue → Scalar → State → Type 0
    GivenSo v x w = Given p whole n depth number_of f there (λ ks. Fits p ks (type_of v)) frame x w × MeasuredBy v x

    given_so : (v : PlainValue) → IsWhole v → Gives v → (w : State) → Stand w → HoldsOf (GivenSo v) (evaluate s frame.held v w)
    given_so v i g w r = holds_both (Given p whole n depth number_of f there (λ ks. Fits p ks (type_of v)) frame) (λ x w. MeasuredBy v x) (evaluate s frame.held v w) (value_given p whole n depth number_of f there scope v i frame w r) (g w r)

    pub operated_gives : (at : At) (t : PlainType) (op : BinOp) (a b : PlainValue) → IsWhole a → IsWhole b → Gives a → Gives b → (w : State) → Stand w → HoldsOf (λ x w. Operated t op a b x) (evaluate s frame.held (value at t (binary op a b)) w)
    operated_gives at t op a b i k gives_a gives_b w r =
        holds_then Q (λ x w. Operated t op a b x) (perform s frame.held at t (binary op a b) w) _
        (holds_step Q w _ (λ left q.
        let now : Stand (record w { left = left }) = ready_step p whole n depth number_of f there frame w left q r in
        holds_then (GivenSo a) Q (evaluate s frame.held a (record w { left = left })) _ (given_so a i gives_a (record w { left = left }) now) (λ x u g.
        holds_then (GivenSo b) Q (evaluate s frame.held b u) _ (given_so b k gives_b u g.0.ready) (λ y v h.
        holds_or Q (operated op t v.objects x y) at.span v _ (λ z o. record {
          objects = v.objects;
          left = x;
          right = y;
          left_kinds = g.0.ready.kinds;
          right_kinds = h.0.ready.kinds;
          left_fits = g.0.typed;
          right_fits = h.0.typed;
          left_is = g.1;
          right_is = h.1;
          ok = o;
        })))))
        (λ x u h. used_gives t op a b x at.span u h)
      where
        Q : Option Scalar → State → Type 0
        Q x w = maybe_operated t op a b x

    -- both operands are numbers, and so is the result
    pub record Terms (op : BinOp) (k : IntType) (a b : PlainValue) (z : ℤ) : Type 0 where
      pub left : ℤ
      pub right : ℤ
      pub left_is : IsMeasured a left
      pub right_is : IsMeasured b right
      pub signed : is_signed_of k ≡ true
      pub ok : operate op k left right ≡ Ok z

    -- what is known of an exact result
    abbrev pub IfExact : PlainType → BinOp → PlainValue → PlainValue → ℤ → Type 0
    IfExact t op a b z = is_exact t a b ≡ true → Terms op (integer_of t) a b z

    terms : (t : PlainType) (op : BinOp) (a b : PlainValue) (z : ℤ) → Operated t op a b (Int z) → IfExact t op a b z
    terms t op a b z h e =
        let parts = both_true (are_integers a b) (is_integer t && is_signed_of (integer_of t)) e in
        let types = both_true (is_integer (type_of a)) (is_integer (type_of b)) parts.0 in
        let kinds = both_true (is_integer t) (is_signed_of (integer_of t)) parts.1 in
        let x = number_fits p h.left_kinds (type_of a) h.left types.0 h.left_fits in
        let y = number_fits p h.right_kinds (type_of b) h.right types.1 h.right_fits in
        let ok : operated op t h.objects (Int x.0) (Int y.0) ≡ Ok (Int z) = subst (λ u. operated op t h.objects u (Int y.0) ≡ Ok (Int z)) x.1 (subst (λ u. operated op t h.objects h.left u ≡ Ok (Int z)) y.1 h.ok) in
        let r = given_of (operate op (integer_type t) x.0 y.0) (Int z) ok in
        record {
          left = x.0;
          right = y.0;
          left_is = subst (MeasuredBy a) x.1 h.left_is;
          right_is = subst (MeasuredBy b) y.1 h.right_is;
          signed = kinds.1;
          ok = subst (λ k. operate op k x.0 y.0 ≡ Ok z) (one_type t kinds.0) (r.1 ∙ ap Ok (sym (same_number z r.0 r.2)));
        }

    -- ### Rows

    pub operator_above : (t : PlainType) (op : BinOp) (a b : PlainValue) (z : ℤ) → IfExact t op a b z → (w : Name) → AtMost (z -ℤ worth head frame.held w) (operator_up pair e op t a b w (up pair a e w) (up pair b e w))
    operator_above t Add a b z h w = if_most (z -ℤ worth head frame.held w) (is_exact t a b) (sum_up pair e (midpoint pair e a b) w (least (plus (up pair a e w) (top (value_range e.ranges b))) (plus (up pair b e w) (top (value_range e.ranges a))))) None
        (λ q. let i : Terms Add (integer_of t) a b z = h q in
        most_of (z -ℤ worth head frame.held w) ((i.left +ℤ i.right) -ℤ worth head frame.held w) (sum_up pair e (midpoint pair e a b) w (least (plus (up pair a e w) (top (value_range e.ranges b))) (plus (up pair b e w) (top (value_range e.ranges a)))))
        (ap (λ z. z -ℤ worth head frame.held w) (exact (integer_of t) U1 (i.left +ℤ i.right) z i.signed i.ok)) (sum_above pair e head frame.held d a b i.left i.right i.left_is i.right_is w)) (λ q. tt)
    operator_above t Sub a b z h w = if_most (z -ℤ worth head frame.held w) (is_exact t a b) (plus (up pair a e w) (bottom (value_range e.ranges b))) None
        (λ q. let i : Terms Sub (integer_of t) a b z = h q in
        most_of (z -ℤ worth head frame.held w) ((i.left -ℤ i.right) -ℤ worth head frame.held w) (plus (up pair a e w) (bottom (value_range e.ranges b)))
        (ap (λ z. z -ℤ worth head frame.held w) (exact (integer_of t) U1 (i.left -ℤ i.right) z i.signed i.ok)) (difference_above pair e head frame.held d a b i.left i.right i.left_is i.right_is w)) (λ q. tt)
    operator_above t op a b z h w = tt

    pub operator_below : (t : PlainType) (op : BinOp) (a b : PlainValue) (z : ℤ) → IfExact t op a b z → (w : Name) → AtMost (worth head frame.held w -ℤ z) (operator_low pair e op t a b w (low pair a e w) (low pair b e w))
    operator_below t Add a b z h w = if_most (worth head frame.held w -ℤ z) (is_exact t a b) (sum_low pair e (midpoint pair e a b) w (least (plus (low pair a e w) (bottom (value_range e.ranges b))) (plus (low pair b e w) (bottom (value_range e.ranges a))))) None
        (λ q. let i : Terms Add (integer_of t) a b z = h q in
        most_of (worth head frame.held w -ℤ z) (worth head frame.held w -ℤ (i.left +ℤ i.right)) (sum_low pair e (midpoint pair e a b) w (least (plus (low pair a e w) (bottom (value_range e.ranges b))) (plus (low pair b e w) (bottom (value_range e.ranges a)))))
        (ap (λ z. worth head frame.held w -ℤ z) (exact (integer_of t) U1 (i.left +ℤ i.right) z i.signed i.ok)) (sum_below pair e head frame.held d a b i.left i.right i.left_is i.right_is w)) (λ q. tt)
    operator_below t Sub a b z h w = if_most (worth head frame.held w -ℤ z) (is_exact t a b) (plus (low pair a e w) (top (value_range e.ranges b))) None
        (λ q. let i : Terms Sub (integer_of t) a b z = h q in
        most_of (worth head frame.held w -ℤ z) (worth head frame.held w -ℤ (i.left -ℤ i.right)) (plus (low pair a e w) (top (value_range e.ranges b)))
        (ap (λ z. worth head frame.held w -ℤ z) (exact (integer_of t) U1 (i.left -ℤ i.right) z i.signed i.ok)) (difference_below pair e head frame.held d a b i.left i.right i.left_is i.right_is w)) (λ q. tt)
    operator_below t op a b z h w = tt

    operator_way : (at : At) (t : PlainType) (op : BinOp) (a b : PlainValue) (z : ℤ) → IfExact t op a b z → IfSome (distance pair e.ranges (value at t (binary op a b))) (λ t. IsDistance pair e head frame.held d t z)
    operator_way at t Sub a b z h = if_some (λ t. IsDistance pair e head frame.held d t z) (is_exact t a b) (distance_of (named pair e.ranges a) (named pair e.ranges b))
        (λ q. let i : Terms Sub (integer_of t) a b z = h q in
        distance_is pair e head frame.held d (named pair e.ranges a) (named pair e.ranges b) i.left i.right z i.left_is.is i.right_is.is (exact (integer_of t) U1 (i.left -ℤ i.right) z i.signed i.ok))
    operator_way at t op a b z h = tt

    operator_step : (at : At) (t : PlainType) (op : BinOp) (a b : PlainValue) (z : ℤ) → IfExact t op a b z → IfSome (part pair e.ranges (value at t (binary op a b))) (λ q. IsPart pair e head frame.held d q z)
    operator_step at t Div a b z h = if_some (λ q. IsPart pair e head frame.held d q z) (is_exact t a b) (part_of (distance pair e.ranges a) (divisor e.ranges b))
        (λ q. let i : Terms Div (integer_of t) a b z = h q in
        part_is pair e head frame.held d (distance pair e.ranges a) (divisor e.ranges b) i.left i.right z i.left_is.way (divides pair e head frame.held d b i.right i.right_is) (exact_quotient (integer_of t) i.left i.right z i.signed i.ok))
    operator_step at t op a b z h = tt

    operator_measured : (at : At) (t : PlainType) (op : BinOp) (a b : PlainValue) (x : Scalar) → Operated t op a b x → Found (assess None (value at t (binary op a b)) e.ranges) x → MeasuredBy (value at t (binary op a b)) x
    operator_measured at t op a b (Pointer q) h k = tt
    operator_measured at t op a b (Int z) h k =
        let v : PlainValue = value at t (binary op a b) in
        let inside : IfSome (value_range e.ranges v) (λ r. IsMember r z) = found_inside (assess None v e.ranges) z k in
        record {
          above = λ w. row_above pair e head frame.held d v z inside w (operator_above t op a b z (terms t op a b z h) w);
          below = λ w. row_below pair e head frame.held d v z inside w (operator_below t op a b z (terms t op a b z h) w);
          is = found_is (assess None v e.ranges) z k;
          inside = inside;
          way = operator_way at t op a b z (terms t op a b z h);
          step = operator_step at t op a b z (terms t op a b z h);
        }

    -- ## The induction

    operator_gives : (at : At) (t : PlainType) (op : BinOp) (a b : PlainValue) → IsWhole (value at t (binary op a b)) → IsWhole a → IsWhole b → Gives a → Gives b → Gives (value at t (binary op a b))
    operator_gives at t op a b i j k gives_a gives_b w r =
        let v : PlainValue = value at t (binary op a b) in
        holds_weaker (λ x w. Operated t op a b x × Found (assess None v e.ranges) x) (λ x w. MeasuredBy v x) (evaluate s frame.held v w)
        (holds_both (λ x w. Operated t op a b x) (λ x w. Found (assess None v e.ranges) x) (evaluate s frame.held v w) (operated_gives at t op a b j k gives_a gives_b w r) (found v i w r))
        (λ x w h. operator_measured at t op a b x h.0 h.1)

    plain_gives : (v : PlainValue) → IsWhole v → ((w : Name) → up_row pair v e w ≡ named_up pair e (named pair e.ranges v) w) → ((w : Name) → low_row pair v e w ≡ named_low pair e (named pair e.ranges v) w) → distance pair e.ranges v ≡ None → part pair e.ranges v ≡ None → Gives v
    plain_gives v i ups lows far steps w r = holds_weaker (λ x w. Found (assess None v e.ranges) x) (λ x w. MeasuredBy v x) (evaluate s frame.held v w) (found v i w r) (λ x w h. plain v ups lows far steps x h)

    pub measured : (v : PlainValue) → IsWhole v → Gives v
    measured (value at t (binary op a b)) i = operator_gives at t op a b i i.0 i.1 (measured a i.0) (measured b i.1)
    measured (value at t form) i = plain_gives (value at t form) i (λ w. refl) (λ w. refl) refl refl
