-- What fits goes on to fit as objects are opened, closed and written.
use Rattle.std.proofs.Common.{◌≡◌, ℕ, zero, suc, ◌+◌, ◌<◌, ◌≤◌, Bool, false, eqb, List, [], ◌∷◌, ◌++◌, length, set, refl, sym, ◌∙◌, ap, subst, arith, append_assoc, Option, Some, None, slice_get, length-append, append-nil, ℤ}
use Rattle.std.specs.Prelude.{slice_set}
use Rattle.std.proofs.lemmas.Bool.{cond_both, eqb-true}
use Rattle.std.proofs.lemmas.Option.{same_Some, none-some}
use Rattle.p10_int.specs.declared.types.IntType.{IntType}
use Rattle.p10_int.specs.Types.{InRange}
use Rattle.p10_core.specs.Types.{PlainType, void, integer, pointer, array, structure, bare, PlainStructure, qualified, unqualified}
use Rattle.p10_core.specs.Typed.{PlainVariable, PlainProgram}
use Rattle.p10_meaning.specs.declared.pointers.Ptr.{Ptr}
use Rattle.p10_meaning.specs.declared.pointers.Ptr.TheVariants.{Null, To}
use Rattle.p10_meaning.specs.declared.pointers.Scalar.{Scalar}
use Rattle.p10_meaning.specs.declared.pointers.Scalar.TheVariants.{Int, Pointer}
use Rattle.p10_meaning.specs.declared.pointers.Cell.{Cell}
use Rattle.p10_meaning.specs.Objects.{Object, Origin, find, put, closed, all_closed, opened_with}
use Rattle.p10_meaning.specs.Scalars.{unset_cells}
use Rattle.p10_meaning.specs.Values.{Held, holds, stands, absent}
use Rattle.p10_meaning.specs.Sound.{Kind, Leads, FitsPointer, Fits, MaybeFits, AllFit, ObjectFits, Above, AllObjects, SoundParts, VariableFits, FrameFits, Grows, kind_scalars, IsSmall}

-- ## Objects are only added

pub grows_same : (ks : List Kind) → Grows ks ks
grows_same ks = record { more = []; is = sym (append-nil ks) }

pub grows_trans : (ks js ls : List Kind) → Grows ks js → Grows js ls → Grows ks ls
grows_trans ks js ls x y = record { more = x.more ++ y.more; is = y.is ∙ (ap (λ js. js ++ y.more) x.is ∙ append_assoc ks x.more y.more) }

pub grown : (ks : List Kind) (k : Kind) → Grows ks (ks ++ k ∷ [])
grown ks k = record { more = k ∷ []; is = refl }

pub get_before : {A : Type 0} (xs ys : List A) (i : ℕ) (x : A) → slice_get xs i ≡ Some x → slice_get (xs ++ ys) i ≡ Some x
get_before [] ys i x e = absurd (none-some _ e)
get_before (y ∷ xs) ys zero x e = e
get_before (y ∷ xs) ys (suc i) x e = get_before xs ys i x e

pub get_last : {A : Type 0} (xs : List A) (x : A) → slice_get (xs ++ x ∷ []) (length xs) ≡ Some x
get_last [] x = refl
get_last (y ∷ xs) x = get_last xs x

-- an element of a list with one more at its end is one of the list, or that one
get_of_push : {A : Type 0} {P : Type 0} (xs : List A) (y : A) (i : ℕ) (x : A) → slice_get (xs ++ y ∷ []) i ≡ Some x → (slice_get xs i ≡ Some x → P) → (y ≡ x → P) → P
get_of_push [] y zero x e f g = g (same_Some _ _ e)
get_of_push [] y (suc i) x e f g = absurd (none-some _ e)
get_of_push (z ∷ xs) y zero x e f g = f e
get_of_push (z ∷ xs) y (suc i) x e f g = get_of_push xs y i x e f g

pub get_grown : (ks js : List Kind) (o : ℕ) (k : Kind) → Grows ks js → slice_get ks o ≡ Some k → slice_get js o ≡ Some k
get_grown ks js o k g e = rw g.is (get_before ks g.more o k e)

pub pointer_grown : (p : PlainProgram) (ks js : List Kind) (t : PlainType) (q : Ptr) → Grows ks js → FitsPointer p ks t q → FitsPointer p js t q
pointer_grown p ks js t Null g f = tt
pointer_grown p ks js t (To o a n) g f = record { kind = f.kind; opened = get_grown ks js o f.kind g f.opened; leads = f.leads; position = f.position }

pub fits_grown : (p : PlainProgram) (ks js : List Kind) (t : PlainType) (x : Scalar) → Grows ks js → Fits p ks t x → Fits p js t x
fits_grown p ks js (integer c i) (Int z) g f = f
fits_grown p ks js (integer c i) (Pointer q) g f = f
fits_grown p ks js (pointer c t) (Int z) g f = f
fits_grown p ks js (pointer c t) (Pointer q) g f = pointer_grown p ks js t q g f
fits_grown p ks js (void c) x g f = f
fits_grown p ks js (array c t n) x g f = f
fits_grown p ks js (structure c n) x g f = f

pub maybe_grown : (p : PlainProgram) (ks js : List Kind) (t : PlainType) (x : Option Scalar) → Grows ks js → MaybeFits p ks t x → MaybeFits p js t x
maybe_grown p ks js t None g f = tt
maybe_grown p ks js t (Some x) g f = fits_grown p ks js t x g f

pub all_grown : (p : PlainProgram) (ks js : List Kind) (ts : List PlainType) (xs : List Cell) → Grows ks js → AllFit p ks ts xs → AllFit p js ts xs
all_grown p ks js [] [] g f = tt
all_grown p ks js [] (x ∷ xs) g f = f
all_grown p ks js (t ∷ ts) [] g f = f
all_grown p ks js (t ∷ ts) (x ∷ xs) g f = (maybe_grown p ks js t x.value g f.0, all_grown p ks js ts xs g f.1)

variable_grown : (p : PlainProgram) (ks js : List Kind) (v : PlainVariable) (h : Held) → Grows ks js → VariableFits p ks v h → VariableFits p js v h
variable_grown p ks js v (holds cell) g f = maybe_grown p ks js v.type cell.value g f
variable_grown p ks js v (stands o) g f = get_grown ks js o _ g f
variable_grown p ks js v absent g f = tt

pub frame_grown : (p : PlainProgram) (ks js : List Kind) (vs : List PlainVariable) (hs : List Held) → Grows ks js → FrameFits p ks vs hs → FrameFits p js vs hs
frame_grown p ks js [] [] g f = tt
frame_grown p ks js [] (h ∷ hs) g f = f
frame_grown p ks js (v ∷ vs) [] g f = f
frame_grown p ks js (v ∷ vs) (h ∷ hs) g f = (variable_grown p ks js v h g f.0, frame_grown p ks js vs hs g f.1)

-- ## One scalar, one variable

pub record HasCell (p : PlainProgram) (ks : List Kind) (t : PlainType) (xs : List Cell) (i : ℕ) : Type 0 where
  pub cell : Cell
  pub there : slice_get xs i ≡ Some cell
  pub fits : MaybeFits p ks t cell.value

pub all_get : (p : PlainProgram) (ks : List Kind) (ts : List PlainType) (xs : List Cell) (i : ℕ) (t : PlainType) → AllFit p ks ts xs → slice_get ts i ≡ Some t → HasCell p ks t xs i
all_get p ks [] xs i t f e = absurd (none-some _ e)
all_get p ks (u ∷ ts) [] i t f e = absurd f
all_get p ks (u ∷ ts) (x ∷ xs) zero t f e = record { cell = x; there = refl; fits = subst (λ t. MaybeFits p ks t x.value) (same_Some _ _ e) f.0 }
all_get p ks (u ∷ ts) (x ∷ xs) (suc i) t f e = let h : HasCell p ks t xs i = all_get p ks ts xs i t f.1 e in record { cell = h.cell; there = h.there; fits = h.fits }

all_set : (p : PlainProgram) (ks : List Kind) (ts : List PlainType) (xs : List Cell) (i : ℕ) (t : PlainType) (x : Cell) → AllFit p ks ts xs → slice_get ts i ≡ Some t → MaybeFits p ks t x.value → AllFit p ks ts (set xs i x)
all_set p ks [] xs i t x f e g = absurd (none-some _ e)
all_set p ks (u ∷ ts) [] i t x f e g = f
all_set p ks (u ∷ ts) (y ∷ xs) zero t x f e g = (subst (λ t. MaybeFits p ks t x.value) (sym (same_Some _ _ e)) g, f.1)
all_set p ks (u ∷ ts) (y ∷ xs) (suc i) t x f e g = (f.0, all_set p ks ts xs i t x f.1 e g)

pub all_unset : (p : PlainProgram) (ks : List Kind) (ts : List PlainType) → AllFit p ks ts (unset_cells ts)
all_unset p ks [] = tt
all_unset p ks (t ∷ ts) = (tt, all_unset p ks ts)

pub frame_get : (p : PlainProgram) (ks : List Kind) (vs : List PlainVariable) (hs : List Held) (i : ℕ) (v : PlainVariable) (h : Held) → FrameFits p ks vs hs → slice_get vs i ≡ Some v → slice_get hs i ≡ Some h → VariableFits p ks v h
frame_get p ks [] hs i v h f e d = absurd (none-some _ e)
frame_get p ks (u ∷ vs) [] i v h f e d = absurd (none-some _ d)
frame_get p ks (u ∷ vs) (y ∷ hs) zero v h f e d = subst (λ h. VariableFits p ks v h) (same_Some _ _ d) (subst (λ v. VariableFits p ks v y) (same_Some _ _ e) f.0)
frame_get p ks (u ∷ vs) (y ∷ hs) (suc i) v h f e d = frame_get p ks vs hs i v h f.1 e d

pub frame_set : (p : PlainProgram) (ks : List Kind) (vs : List PlainVariable) (hs : List Held) (i : ℕ) (v : PlainVariable) (h : Held) → FrameFits p ks vs hs → slice_get vs i ≡ Some v → VariableFits p ks v h → FrameFits p ks vs (slice_set hs i h)
frame_set p ks [] hs i v h f e d = absurd (none-some _ e)
frame_set p ks (u ∷ vs) [] i v h f e d = f
frame_set p ks (u ∷ vs) (y ∷ hs) zero v h f e d = (subst (λ u. VariableFits p ks u h) (sym (same_Some _ _ e)) d, f.1)
frame_set p ks (u ∷ vs) (y ∷ hs) (suc i) v h f e d = (f.0, frame_set p ks vs hs i v h f.1 e d)

-- ## Objects

object_grown : (p : PlainProgram) (ks js : List Kind) (x : Object) → Grows ks js → ObjectFits p ks x → ObjectFits p js x
object_grown p ks js x g f = record { kind = f.kind; opened = get_grown ks js x.number f.kind g f.opened; cells = all_grown p ks js _ x.cells g f.cells }

pub get_below : {A : Type 0} (xs : List A) (i : ℕ) (x : A) → slice_get xs i ≡ Some x → i < length xs
get_below [] i x e = absurd (none-some _ e)
get_below (y ∷ xs) zero x e = omega arith
get_below (y ∷ xs) (suc i) x e = let h : i < length xs = get_below xs i x e in omega (arith, h)

above_push : (n : ℕ) (xs : List Object) (x : Object) → Above n xs → n < x.number → Above n (xs ++ x ∷ [])
above_push n [] x f l = (l, tt)
above_push n (y ∷ xs) x f l = (f.0, above_push n xs x f.1 l)

above_put : (m n i : ℕ) (c : Cell) (xs : List Object) → Above m xs → Above m (put xs n i c)
above_put m n i c [] f = tt
above_put m n i c (x ∷ xs) f = cond_both (eqb x.number n) _ _ (Above m) (λ e. (f.0, f.1)) (λ e. (f.0, above_put m n i c xs f.1))

above_closed : (m n : ℕ) (xs : List Object) → Above m xs → Above m (closed n xs)
above_closed m n [] f = tt
above_closed m n (x ∷ xs) f = cond_both (eqb x.number n) _ _ (Above m) (λ e. f.1) (λ e. (f.0, above_closed m n xs f.1))

-- an object that is opened after all others stands after them
objects_push : (p : PlainProgram) (ks js : List Kind) (xs : List Object) (x : Object) → AllObjects p ks xs → Grows ks js → length ks ≤ x.number → ObjectFits p js x → AllObjects p js (xs ++ x ∷ [])
objects_push p ks js [] x f g l h = ((h, tt), tt)
objects_push p ks js (y ∷ xs) x f g l h =
    let below : y.number < length ks = get_below ks y.number f.0.0.kind f.0.0.opened in
    ((object_grown p ks js y g f.0.0, above_push y.number xs x f.0.1 (omega (arith, below, l))), objects_push p ks js xs x f.1 g l h)

pub record IsFound (p : PlainProgram) (ks : List Kind) (n : ℕ) (x : Object) : Type 0 where
  pub number : x.number ≡ n
  pub fits : ObjectFits p ks x

abbrev pub FoundIs : PlainProgram → List Kind → ℕ → Option Object → Type 0
FoundIs p ks n None = Unit {0}
FoundIs p ks n (Some x) = IsFound p ks n x

pub find_is : (p : PlainProgram) (ks : List Kind) (n : ℕ) (xs : List Object) → AllObjects p ks xs → FoundIs p ks n (find n xs)
find_is p ks n [] f = tt
find_is p ks n (x ∷ xs) f = cond_both (eqb x.number n) (Some x) (find n xs) (FoundIs p ks n) (λ e. record { number = eqb-true x.number n e; fits = f.0.0 }) (λ e. find_is p ks n xs f.1)

-- a scalar of an object is set to a value that fits
pub put_fits : (p : PlainProgram) (ks : List Kind) (n i : ℕ) (k : Kind) (t : PlainType) (c : Cell) (xs : List Object) → AllObjects p ks xs → slice_get ks n ≡ Some k → slice_get (kind_scalars p k) i ≡ Some t → MaybeFits p ks t c.value → AllObjects p ks (put xs n i c)
put_fits p ks n i k t c [] f e d g = tt
put_fits p ks n i k t c (x ∷ xs) f e d g = cond_both (eqb x.number n) _ _ (AllObjects p ks)
    (λ b. let same : f.0.0.kind ≡ k = same_Some _ _ (sym f.0.0.opened ∙ (ap (slice_get ks) (eqb-true x.number n b) ∙ e)) in
    ((record { kind = f.0.0.kind; opened = f.0.0.opened; cells = all_set p ks (kind_scalars p f.0.0.kind) x.cells i t c f.0.0.cells (subst (λ k. slice_get (kind_scalars p k) i ≡ Some t) (sym same) d) g }, f.0.1), f.1))
    (λ b. ((f.0.0, above_put x.number n i c xs f.0.1), put_fits p ks n i k t c xs f.1 e d g))

pub closed_fits : (p : PlainProgram) (ks : List Kind) (n : ℕ) (xs : List Object) → AllObjects p ks xs → AllObjects p ks (closed n xs)
closed_fits p ks n [] f = tt
closed_fits p ks n (x ∷ xs) f = cond_both (eqb x.number n) _ _ (AllObjects p ks) (λ e. f.1) (λ e. ((f.0.0, above_closed x.number n xs f.0.1), closed_fits p ks n xs f.1))

pub all_closed_fits : (p : PlainProgram) (ks : List Kind) (os : List ℕ) (xs : List Object) → AllObjects p ks xs → AllObjects p ks (all_closed os xs)
all_closed_fits p ks [] xs f = f
all_closed_fits p ks (o ∷ os) xs f = all_closed_fits p ks os (closed o xs) (closed_fits p ks o xs f)

-- other objects of the same types
pub sound_with : (p : PlainProgram) (ks : List Kind) (xs ys : List Object) (n : ℕ) (input : List ℕ) (sensors : List ℤ) → SoundParts p ks xs n input sensors → AllObjects p ks ys → SoundParts p ks ys n input sensors
sound_with p ks xs ys n input sensors s f = record { count = s.count; sizes = s.sizes; statics = s.statics; literals = s.literals; all = f; input_bytes = s.input_bytes; sensor_values = s.sensor_values }

-- one more object, with scalars that fit
pub sound_push : (p : PlainProgram) (ks : List Kind) (xs : List Object) (n : ℕ) (input : List ℕ) (sensors : List ℤ) (k : Kind) (origin : Origin) (cells : List Cell) → SoundParts p ks xs n input sensors → IsSmall p k →
    AllFit p (ks ++ k ∷ []) (kind_scalars p k) cells → SoundParts p (ks ++ k ∷ []) (opened_with xs n origin cells) (suc n) input sensors
sound_push p ks xs n input sensors k origin cells s few f = record {
  count = let c : length ks ≡ n = s.count in length-append ks (k ∷ []) ∙ omega (arith, c);
  sizes = λ o j e. get_of_push ks k o j e (λ e. s.sizes o j e) (λ e. subst (λ k. IsSmall p k) e few);
  statics = λ i object e. get_grown ks (ks ++ k ∷ []) i _ (grown ks k) (s.statics i object e);
  literals = λ i l e. get_grown ks (ks ++ k ∷ []) (length p.objects + i) _ (grown ks k) (s.literals i l e);
  all = objects_push p ks (ks ++ k ∷ []) xs _ s.all (grown ks k) (let c : length ks ≡ n = s.count in omega (arith, c))
      (record { kind = k; opened = subst (λ m. slice_get (ks ++ k ∷ []) m ≡ Some k) s.count (get_last ks k); cells = f });
  input_bytes = s.input_bytes;
  sensor_values = s.sensor_values;
}

-- ## Types that are one, marks and compatible structures aside

integer_in : PlainType → IntType → IntType
integer_in (integer c i) j = i
integer_in t j = j

target_in : PlainType → PlainType → PlainType
target_in (pointer c t) u = t
target_in t u = u

same_integer : (i j : IntType) → integer false i ≡ integer false j → i ≡ j
unfolding integer_in
same_integer i j e = ap (λ t. integer_in t i) e

same_target : (s t : PlainType) → pointer false s ≡ pointer false t → s ≡ t
unfolding target_in
same_target s t e = ap (λ u. target_in u s) e

pub pointer_same : (p : PlainProgram) (ks : List Kind) (s t : PlainType) (q : Ptr) → bare p.structures s ≡ bare p.structures t → FitsPointer p ks s q → FitsPointer p ks t q
pointer_same p ks s t Null e f = tt
pointer_same p ks s t (To o a n) e f = record { kind = f.kind; opened = f.opened; leads = subst (λ u. Leads p f.kind (record { window = a; elem = u })) e f.leads; position = f.position }

pub fits_same : (p : PlainProgram) (ks : List Kind) (s t : PlainType) (x : Scalar) → bare p.structures s ≡ bare p.structures t → Fits p ks s x → Fits p ks t x
fits_same p ks (integer c i) (integer d j) (Int z) e f = subst (λ i. InRange i z) (same_integer i j e) f
fits_same p ks (pointer c s) (pointer d t) (Pointer q) e f = pointer_same p ks s t q (same_target _ _ e) f
fits_same p ks (integer c i) (pointer d t) x e f = absurd cc
fits_same p ks (integer c i) (void d) x e f = absurd cc
fits_same p ks (integer c i) (array d t n) x e f = absurd cc
fits_same p ks (integer c i) (structure d n) x e f = absurd cc
fits_same p ks (pointer c s) (integer d j) x e f = absurd cc
fits_same p ks (pointer c s) (void d) x e f = absurd cc
fits_same p ks (pointer c s) (array d t n) x e f = absurd cc
fits_same p ks (pointer c s) (structure d n) x e f = absurd cc
fits_same p ks (integer c i) (integer d j) (Pointer q) e f = absurd f
fits_same p ks (pointer c s) (pointer d t) (Int z) e f = absurd f
fits_same p ks (void c) t x e f = absurd f
fits_same p ks (array c s n) t x e f = absurd f
fits_same p ks (structure c n) t x e f = absurd f

pub maybe_same : (p : PlainProgram) (ks : List Kind) (s t : PlainType) (x : Option Scalar) → bare p.structures s ≡ bare p.structures t → MaybeFits p ks s x → MaybeFits p ks t x
maybe_same p ks s t None e f = tt
maybe_same p ks s t (Some x) e f = fits_same p ks s t x e f

pub bare_unqualified : (ss : List PlainStructure) (t : PlainType) → bare ss (unqualified t) ≡ bare ss t
bare_unqualified ss (void c) = refl
bare_unqualified ss (integer c i) = refl
bare_unqualified ss (pointer c t) = refl
bare_unqualified ss (array c t n) = refl
bare_unqualified ss (structure c n) = refl

pub bare_qualified : (ss : List PlainStructure) (q : Bool) (t : PlainType) → bare ss (qualified q t) ≡ bare ss t
bare_qualified ss q (void c) = refl
bare_qualified ss q (integer c i) = refl
bare_qualified ss q (pointer c t) = refl
bare_qualified ss q (array c t n) = ap (λ t. array false t n) (bare_qualified ss q t)
bare_qualified ss q (structure c n) = refl
