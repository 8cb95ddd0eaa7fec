-- What is found of a value holds of the scalar that the value gives: the claim of the induction over values, and what follows of it.
use Rattle.std.proofs.Common.{◌≡◌, Bool, true, false, List, Option, Some, None, refl, ap, sym, subst, arith, ℤ, pos}
use Rattle.std.specs.Prelude.{not, if◌then◌else◌, is_some}
use Rattle.std.specs.Ordering.{int_eq}
use Rattle.std.proofs.lemmas.Int.{ints}
use Rattle.p10_int.specs.declared.operators.BinOp.{BinOp}
use Rattle.p10_int.specs.declared.operators.BinOp.TheVariants.{Eq, Ne}
use Rattle.p10_int.specs.Types.{InRange}
use Rattle.p10_int.specs.Operators.{truth_of}
use Rattle.p10_core.specs.Types.{PlainType, void, integer, pointer, array, structure}
use Rattle.p10_core.specs.Rows.{is_integer}
use Rattle.p10_core.specs.Constants.{integer_of}
use Rattle.p10_core.specs.Typed.{PlainVariable, PlainProgram}
use Rattle.p10_meaning.specs.declared.pointers.Ptr.{Ptr}
use Rattle.p10_meaning.specs.declared.pointers.Scalar.{Scalar}
use Rattle.p10_meaning.specs.declared.pointers.Scalar.TheVariants.{Int, Pointer}
use Rattle.p10_meaning.specs.Scalars.{number_of, is_true, truth_value}
use Rattle.p10_meaning.specs.Values.{Held}
use Rattle.p10_meaning.specs.Sound.{Kind, Fits, MaybeFits}
use Rattle.p10_absx.specs.Abstract.{Abstract, whole_type}
use Rattle.p10_absx.specs.Environments.{Environment}
use Rattle.p10_absx.specs.Comparing.{contrary, Side}
use Rattle.p10_absx.specs.Assessing.{Assessed, a_scalar, a_test, tested_abstract, value_found, as_side, zero_side, compared_where, known_where, any_of, found_of}
use Rattle.p10_absx.specs.Describing.{Describes, MaybeDescribes, MaybeHolds}
use Rattle.p10_evaluation.proofs.Narrowing.{equal_of, other_of, Compares, SideHolds, compared_describes}
use Rattle.p10_evaluation.proofs.Operating.{whole_holds}

-- a scalar of an integer type is an integer
pub record IsInteger (x : Scalar) : Type 0 where
  pub number : ℤ
  pub is : x ≡ Int number

pub integer_fits : (p : PlainProgram) (ks : List Kind) (t : PlainType) (x : Scalar) → is_integer t ≡ true → Fits p ks t x → IsInteger x
integer_fits p ks (integer c i) (Int z) e f = record { number = z; is = refl }
integer_fits p ks (integer c i) (Pointer q) e f = absurd f
integer_fits p ks (void c) x e f = absurd cc
integer_fits p ks (pointer c t) x e f = absurd cc
integer_fits p ks (array c t n) x e f = absurd cc
integer_fits p ks (structure c n) x e f = absurd cc

-- an integer of a type lies in it
pub in_type : (p : PlainProgram) (ks : List Kind) (t : PlainType) (z : ℤ) → Fits p ks t (Int z) → InRange (integer_of t) z
in_type p ks (integer c i) z f = f
in_type p ks (void c) z f = absurd f
in_type p ks (pointer c t) z f = absurd f
in_type p ks (array c t n) z f = absurd f
in_type p ks (structure c n) z f = absurd f

pub integer_is : (p : PlainProgram) (ks : List Kind) (t : PlainType) (z : ℤ) → Fits p ks t (Int z) → is_integer t ≡ true
integer_is p ks (integer c i) z f = refl
integer_is p ks (void c) z f = absurd f
integer_is p ks (pointer c t) z f = absurd f
integer_is p ks (array c t n) z f = absurd f
integer_is p ks (structure c n) z f = absurd f

pub pointer_is : (p : PlainProgram) (ks : List Kind) (t : PlainType) (q : Ptr) → Fits p ks t (Pointer q) → is_integer t ≡ false
pointer_is p ks (integer c i) q f = absurd f
pointer_is p ks (void c) q f = absurd f
pointer_is p ks (pointer c t) q f = refl
pointer_is p ks (array c t n) q f = absurd f
pointer_is p ks (structure c n) q f = absurd f

pub some_held : (head : List Held) (o : Option Abstract) (z : ℤ) → MaybeHolds head o z → is_some o ≡ true
some_held head None z h = absurd h
some_held head (Some a) z h = refl

module _ (variables : List PlainVariable) (head held : List Held) where
  -- an environment that may be one that no state reaches describes the frame
  abbrev IsDescribedBy : Option Environment → Type 0
  IsDescribedBy env = MaybeDescribes variables env head held

  -- what is found holds of a scalar: an integer is that side of a comparison, and a test is 1 or 0 and its environment describes the
  -- frame; of a pointer only that there is a value
  abbrev pub FoundHolds : Assessed → Scalar → Type 0
  FoundHolds (a_scalar i side) (Int z) = (i ≡ true) × SideHolds head held side z
  FoundHolds (a_scalar i side) (Pointer q) = (i ≡ false) × (is_some side.value ≡ true)
  FoundHolds (a_test first second) x = (x ≡ truth_value (is_true x)) × IsDescribedBy (if is_true x then first else second)

  -- the same where nothing may be given, and there is a value all the same
  abbrev pub MaybeFound : Assessed → Option Scalar → Type 0
  MaybeFound a (Some x) = FoundHolds a x
  MaybeFound a None = is_some (value_found a) ≡ true

  -- ## Values

  tested_at : (b : Bool) (first second : Option Environment) → IsDescribedBy (if b then first else second) → MaybeHolds head (tested_abstract (is_some first) (is_some second)) (truth_of b)
  tested_at true None second d = absurd d
  tested_at true (Some e) None d = record { member = record { above = omega (arith, ints); below = omega (arith, ints) }; offset = tt }
  tested_at true (Some e) (Some f) d = record { member = record { above = omega (arith, ints); below = omega (arith, ints) }; offset = tt }
  tested_at false first None d = absurd d
  tested_at false None (Some f) d = record { member = record { above = omega (arith, ints); below = omega (arith, ints) }; offset = tt }
  tested_at false (Some e) (Some f) d = record { member = record { above = omega (arith, ints); below = omega (arith, ints) }; offset = tt }

  tested_value : (first second : Option Environment) (z : ℤ) → FoundHolds (a_test first second) (Int z) → MaybeHolds head (tested_abstract (is_some first) (is_some second)) z
  tested_value first second z h =
      let e : z ≡ truth_of (is_true (Int z)) = ap number_of h.0 in
      subst (MaybeHolds head (tested_abstract (is_some first) (is_some second))) (sym e) (tested_at (is_true (Int z)) first second h.1)

  -- an integer is held by the value that was found
  pub found_value : (a : Assessed) (z : ℤ) → FoundHolds a (Int z) → MaybeHolds head (value_found a) z
  found_value (a_scalar i side) z h = h.1.value
  found_value (a_test first second) z h = tested_value first second z h

  -- it is right as a side of a comparison
  pub found_side : (a : Assessed) (z : ℤ) → FoundHolds a (Int z) → SideHolds head held (as_side a) z
  found_side (a_scalar i side) z h = h.1
  found_side (a_test first second) z h = record { variable = tt; value = tested_value first second z h }

  -- where something is given there is a value
  pub found_some : (a : Assessed) (x : Scalar) → FoundHolds a x → is_some (value_found a) ≡ true
  found_some (a_scalar i side) (Int z) h = some_held head side.value z h.1.value
  found_some (a_scalar i side) (Pointer q) h = h.1
  found_some (a_test first second) (Int z) h = some_held head (tested_abstract (is_some first) (is_some second)) z (tested_value first second z h)
  found_some (a_test first second) (Pointer q) h = absurd (let e : Pointer q ≡ truth_value (is_true (Pointer q)) = h.0 in cc)

  pub maybe_some : (a : Assessed) (x : Option Scalar) → MaybeFound a x → is_some (value_found a) ≡ true
  maybe_some a None h = h
  maybe_some a (Some x) h = found_some a x h

  pub side_value : (a : Assessed) → (as_side a).value ≡ value_found a
  side_value (a_scalar i side) = refl
  side_value (a_test first second) = refl

  -- ## Truth

  zero_holds : SideHolds head held zero_side (pos 0)
  zero_holds = record { variable = tt; value = record { member = record { above = omega (arith, ints); below = omega (arith, ints) }; offset = tt } }

  integer_known : (side : Side) (env : Environment) (z : ℤ) → SideHolds head held side z → Describes variables env head held → IsDescribedBy (compared_where Ne (is_true (Int z)) side zero_side env)
  integer_known side env z h d = at (int_eq z (pos 0)) refl
    where
      at : (b : Bool) → int_eq z (pos 0) ≡ b → IsDescribedBy (compared_where Ne (not b) side zero_side env)
      at true e = compared_describes variables env head held Eq side zero_side z (pos 0) d h zero_holds (equal_of z (pos 0) e)
      at false e = compared_describes variables env head held Ne side zero_side z (pos 0) d h zero_holds (other_of z (pos 0) e)

  -- what is known where the value is as true or false as the scalar
  pub found_known : (a : Assessed) (x : Scalar) (env : Environment) → FoundHolds a x → Describes variables env head held → IsDescribedBy (known_where (is_true x) env a)
  found_known (a_scalar true side) (Int z) env h d = integer_known side env z h.1 d
  found_known (a_scalar false side) (Int z) env h d = d
  found_known (a_scalar true side) (Pointer q) env h d = absurd (let e : true ≡ false = h.0 in cc)
  found_known (a_scalar false side) (Pointer q) env h d = d
  found_known (a_test first second) x env h d = h.1

  -- a test that gives a truth value
  pub test_found : (first second : Option Environment) (b : Bool) → IsDescribedBy (if b then first else second) → FoundHolds (a_test first second) (truth_value b)
  test_found first second true d = (refl, d)
  test_found first second false d = (refl, d)

  pub straight : (a : Assessed) (env : Environment) (b : Bool) → IsDescribedBy (known_where b env a) → IsDescribedBy (if b then known_where true env a else known_where false env a)
  straight a env true d = d
  straight a env false d = d

  pub turned_round : (a : Assessed) (env : Environment) (b : Bool) → IsDescribedBy (known_where b env a) → IsDescribedBy (if not b then known_where false env a else known_where true env a)
  turned_round a env true d = d
  turned_round a env false d = d

  -- a comparison of sides, by what decides it
  pub comparison_holds : (op : BinOp) (left right : Side) (env : Environment) (m n : ℤ) (b : Bool) → (b ≡ true → Compares op m n) → (b ≡ false → Compares (contrary op) m n) →
      SideHolds head held left m → SideHolds head held right n → Describes variables env head held → FoundHolds (a_test (compared_where op true left right env) (compared_where op false left right env)) (truth_value b)
  comparison_holds op left right env m n true f g l r d = (refl, compared_describes variables env head held op left right m n d l r (f refl))
  comparison_holds op left right env m n false f g l r d = (refl, compared_describes variables env head held (contrary op) left right m n d l r (g refl))

  -- ## Values of a type

  -- a result is as an abstract value says
  abbrev pub IsHeldSo : Option Abstract → Option Scalar → Type 0
  IsHeldSo a (Some (Int z)) = MaybeHolds head a z
  IsHeldSo a (Some (Pointer q)) = is_some a ≡ true
  IsHeldSo a None = is_some a ≡ true

  -- a result is as a side says
  abbrev pub IsSideSo : Side → Option Scalar → Type 0
  IsSideSo side (Some (Int z)) = SideHolds head held side z
  IsSideSo side (Some (Pointer q)) = is_some side.value ≡ true
  IsSideSo side None = is_some side.value ≡ true

  pub side_found : (p : PlainProgram) (ks : List Kind) (t : PlainType) (side : Side) (x : Option Scalar) → MaybeFits p ks t x → IsSideSo side x → MaybeFound (a_scalar (is_integer t) side) x
  side_found p ks t side (Some (Int z)) f h = (integer_is p ks t z f, h)
  side_found p ks t side (Some (Pointer q)) f h = (pointer_is p ks t q f, h)
  side_found p ks t side None f h = h

  pub typed_found : (p : PlainProgram) (ks : List Kind) (t : PlainType) (a : Option Abstract) (x : Option Scalar) → MaybeFits p ks t x → IsHeldSo a x → MaybeFound (found_of t a) x
  typed_found p ks t a (Some (Int z)) f h = (integer_is p ks t z f, record { variable = tt; value = h })
  typed_found p ks t a (Some (Pointer q)) f h = (pointer_is p ks t q f, h)
  typed_found p ks t a None f h = h

  -- of any value its type is known
  pub any_found : (p : PlainProgram) (ks : List Kind) (t : PlainType) (x : Option Scalar) → MaybeFits p ks t x → MaybeFound (any_of t) x
  any_found p ks t (Some (Int z)) f = typed_found p ks t (Some (whole_type (integer_of t))) (Some (Int z)) f (whole_holds head (integer_of t) z (in_type p ks t z f))
  any_found p ks t (Some (Pointer q)) f = typed_found p ks t (Some (whole_type (integer_of t))) (Some (Pointer q)) f refl
  any_found p ks t None f = refl
