-- The parts of values keep sound states: places, reads, library functions.
use Rattle.std.proofs.Common.{◌≡◌, ℕ, zero, suc, ◌+◌, ◌*◌, ◌<◌, ◌≤◌, ltb, leb, eqb, ◌&&◌, Bool, true, false, List, [], ◌∷◌, ◌++◌, length, refl, sym, ◌∙◌, ap, subst, arith, Option, Some, None, slice_get, ℤ, pos, negsuc}
use Rattle.std.specs.List.{Contains, slice_index_or}
use Rattle.std.specs.Option.{option_map}
use Rattle.std.proofs.lemmas.Bool.{cond_both, ltb-true, leb-true, eqb-true, eq-eqb}
use Rattle.std.proofs.lemmas.Option.{same_Some, none-some}
use Rattle.std.proofs.lemmas.Int.{ints}
use Rattle.std.proofs.lemmas.List.Elements.{All-head, All-tail}
use Rattle.p10_base.specs.declared.span.Span.{Span}
use Rattle.p10_int.specs.declared.types.IntType.TheVariants.{Int as int}
use Rattle.p10_int.specs.Types.{InRange}
use Rattle.p10_int.specs.Conversion.{residue}
use Rattle.p10_int.proofs.Conversions.{zero_in, converted_in, residue_below}
use Rattle.p10_core.specs.Types.{PlainType, void, integer, pointer, array, structure, bare}
use Rattle.p10_core.specs.Sizes.{repeated}
use Rattle.p10_core.specs.Rows.{is_scalar, is_integer, int_type}
use Rattle.p10_core.specs.Typed.{PlainVariable, PlainObject, PlainLiteral, PlainProgram}
use Rattle.p10_core.specs.Whole.{SeenObject}
use Rattle.p10_core.specs.WholePrograms.{AreWholeStructures, seen_object, AreRising, IsWholeObject, IsWholeProgram}
use Rattle.p10_meaning.specs.declared.pointers.Ptr.{Ptr}
use Rattle.p10_meaning.specs.declared.pointers.Ptr.TheVariants.{Null}
use Rattle.p10_meaning.specs.declared.pointers.Scalar.{Scalar}
use Rattle.p10_meaning.specs.declared.pointers.Scalar.TheVariants.{Int, Pointer}
use Rattle.p10_meaning.specs.declared.pointers.Cell.{Cell}
use Rattle.p10_meaning.specs.Pointers.{scalar_of, read_of, first_of}
use Rattle.p10_meaning.specs.Objects.{Object, Origin, allocated, on_ok, cell_at, release}
use Rattle.p10_meaning.specs.States.{IsSensorValue, State, AssertionFailed, gives, ends, or_undefined}
use Rattle.p10_meaning.specs.Scalars.{is_true, converted_to, unset_cells, zero_cells}
use Rattle.p10_meaning.specs.Values.{Held, holds, stands, absent, scalars, width, size, open_object, Target, Variable, Sensor, Element, variable_target, global_target, literal_number, literal_target, held_cell, sensed_from, sensed, read_target, asserted, next_byte, put_byte, is_denied, granted, requested}
use Rattle.p10_meaning.specs.Sound.{most_elements, Kind, IsSmall, single_of, FitsPointer, Fits, MaybeFits, AllFit, kind_scalars, AllObjects, text_type, SoundParts, Sound, VariableFits, FrameFits, Keeps}
use Rattle.p10_meaning.proofs.Geometry.{IsLaidOut}
use Rattle.p10_meaning.proofs.LaidOut.{repeated_few, scalars_few, AreScalar, scalar_repeated, scalars_scalar, all_at}
use Rattle.p10_meaning.proofs.ShortArrays.{few_elements, short_size, small_object}
use Rattle.p10_meaning.proofs.Fitting.{grown, get_last, frame_get, sound_with, sound_push, all_unset, maybe_same}
use Rattle.p10_meaning.proofs.Moves.{OnOk, on_then, cell_fits, release_fits}
use Rattle.p10_meaning.proofs.SoundScalars.{zero_fits}
use Rattle.p10_meaning.proofs.Keeping.{kept, ended, keeps_or, keeps_if}

-- ## Places

-- a variable of a type, marks aside
pub record HasType (p : PlainProgram) (variables : List PlainVariable) (n : ℕ) (t : PlainType) : Type 0 where
  pub variable : PlainVariable
  pub there : slice_get variables n ≡ Some variable
  pub same : bare p.structures variable.type ≡ bare p.structures t

-- a place is one of a type
abbrev pub TargetFits : PlainProgram → List PlainVariable → PlainType → List Kind → Target → Type 0
TargetFits p variables t ks (Variable n) = HasType p variables n t
TargetFits p variables t ks Sensor = is_integer t ≡ true
TargetFits p variables t ks (Element q) = FitsPointer p ks t q

-- a single object of a type
pub single_fits : (p : PlainProgram) (ks : List Kind) (o : ℕ) (t : PlainType) → slice_get ks o ≡ Some (single_of p t) → FitsPointer p ks t (first_of o (width p t) 1)
single_fits p ks o t e = record { kind = single_of p t; opened = e; leads = record { path = []; leads = refl }; position = omega arith }

pub variable_fits : (p : PlainProgram) (ks : List Kind) (variables : List PlainVariable) (held : List Held) (n : ℕ) (v : PlainVariable) (t : PlainType) (h : Option Held) → slice_get held n ≡ h → FrameFits p ks variables held → slice_get variables n ≡ Some v → t ≡ v.type →
    OnOk (TargetFits p variables t ks) (variable_target n (width p t) h)
variable_fits p ks variables held n v t None e f there same = tt
variable_fits p ks variables held n v t (Some absent) e f there same = tt
variable_fits p ks variables held n v t (Some (holds cell)) e f there same = record { variable = v; there = there; same = ap (bare p.structures) (sym same) }
variable_fits p ks variables held n v t (Some (stands o)) e f there same =
    single_fits p ks o t (subst (λ t. slice_get ks o ≡ Some (single_of p t)) (sym same) (frame_get p ks variables held n v (stands o) f there e))

pub integer_alike : (p : PlainProgram) (s t : PlainType) → bare p.structures s ≡ bare p.structures t → is_integer t ≡ true → is_integer s ≡ true
integer_alike p (integer c i) t e h = refl
integer_alike p (void c) (integer d j) e h = absurd cc
integer_alike p (pointer c s) (integer d j) e h = absurd cc
integer_alike p (array c s n) (integer d j) e h = absurd cc
integer_alike p (structure c n) (integer d j) e h = absurd cc
integer_alike p (void c) (void d) e h = absurd cc
integer_alike p (void c) (pointer d t) e h = absurd cc
integer_alike p (void c) (array d t n) e h = absurd cc
integer_alike p (void c) (structure d n) e h = absurd cc
integer_alike p (pointer c s) (void d) e h = absurd cc
integer_alike p (pointer c s) (pointer d t) e h = absurd cc
integer_alike p (pointer c s) (array d t n) e h = absurd cc
integer_alike p (pointer c s) (structure d n) e h = absurd cc
integer_alike p (array c s m) (void d) e h = absurd cc
integer_alike p (array c s m) (pointer d t) e h = absurd cc
integer_alike p (array c s m) (array d t n) e h = absurd cc
integer_alike p (array c s m) (structure d n) e h = absurd cc
integer_alike p (structure c m) (void d) e h = absurd cc
integer_alike p (structure c m) (pointer d t) e h = absurd cc
integer_alike p (structure c m) (array d t n) e h = absurd cc
integer_alike p (structure c m) (structure d n) e h = absurd cc

pub global_fits : (p : PlainProgram) → IsWholeProgram p → (variables : List PlainVariable) (ks : List Kind) (w : State) (n : ℕ) (t : PlainType) (seen : SeenObject) (o : Option PlainObject) → slice_get p.objects n ≡ o → option_map seen_object o ≡ Some seen →
    bare p.structures t ≡ bare p.structures seen.type → Sound p ks w → OnOk (TargetFits p variables t ks) (global_target n (width p t) o)
global_fits p whole variables ks w n t seen None e there same s = tt
global_fits p whole variables ks w n t seen (Some object) e there same s =
    let type_is : object.type ≡ seen.type = ap (λ (v : SeenObject). v.type) (same_Some _ _ there) in
    let alike : bare p.structures t ≡ bare p.structures object.type = same ∙ ap (bare p.structures) (sym type_is) in
    cond_both object.sensor Sensor (Element (first_of n (width p t) 1)) (TargetFits p variables t ks)
    (λ b. integer_alike p t object.type alike ((all_at (IsWholeObject p) p.objects n object whole.objects e).sensor_integer b))
    (λ b. single_fits p ks n t (s.statics n object e ∙ ap (λ (u : PlainType). Some (record { elem = u; count = 1 })) (sym alike)))

-- ## String literals

contains_at : (xs : List PlainLiteral) (k : ℕ) (x : PlainLiteral) → k < length xs → slice_index_or xs k x ≡ x → slice_get xs k ≡ Some x
contains_at [] k x l e = absurd (omega (arith, l))
contains_at (y ∷ xs) zero x l e = ap (λ x. Some x) e
contains_at (y ∷ xs) (suc k) x l e = contains_at xs k x (omega (arith, l)) e

-- numbers that rise from one on are no less
rising_least : (xs : List PlainLiteral) (from k : ℕ) (x : PlainLiteral) → AreRising from xs → slice_get xs k ≡ Some x → from ≤ x.number
rising_least [] from k x r e = absurd (none-some _ e)
rising_least (y ∷ xs) from zero x r e = subst (λ (y : PlainLiteral). from ≤ y.number) (same_Some _ _ e) r.0
rising_least (y ∷ xs) from (suc k) x r e = let h : y.number + 1 ≤ x.number = rising_least xs (y.number + 1) k x r.1 e in let l : from ≤ y.number = r.0 in omega (arith, h, l)

-- what is found by a literal's number
abbrev pub FoundLiteral : List PlainLiteral → ℕ → PlainLiteral → Option ℕ → Type 0
FoundLiteral literals start l None = Unit {0}
FoundLiteral literals start l (Some object) = (i : ℕ) × (object ≡ start + i) × (slice_get literals i ≡ Some l)

next_found : (y : PlainLiteral) (xs : List PlainLiteral) (start : ℕ) (l : PlainLiteral) (o : Option ℕ) → FoundLiteral xs (suc start) l o → FoundLiteral (y ∷ xs) start l o
next_found y xs start l None f = tt
next_found y xs start l (Some object) (i, e, there) = (suc i, e ∙ shifted start i, there)
  where
    shifted : (s i : ℕ) → suc s + i ≡ s + suc i
    shifted s i = omega arith

same_first : (y : PlainLiteral) (xs : List PlainLiteral) (from k : ℕ) (l : PlainLiteral) → AreRising from (y ∷ xs) → slice_get (y ∷ xs) k ≡ Some l → y.number ≡ l.number → y ≡ l
same_first y xs from zero l r e n = same_Some _ _ e
same_first y xs from (suc k) l r e n = absurd (let h : y.number + 1 ≤ l.number = rising_least xs (y.number + 1) k l r.1 e in let m : y.number ≡ l.number = n in omega (arith, h, m))

other_number : (y : PlainLiteral) (xs : List PlainLiteral) (start k : ℕ) (l : PlainLiteral) → slice_get (y ∷ xs) k ≡ Some l → eqb y.number l.number ≡ false →
    ((k : ℕ) → slice_get xs k ≡ Some l → FoundLiteral xs (suc start) l (literal_number l.number (suc start) xs)) → FoundLiteral xs (suc start) l (literal_number l.number (suc start) xs)
other_number y xs start zero l e b later = absurd (let same : eqb y.number l.number ≡ true = eq-eqb y.number l.number (ap (λ (l : PlainLiteral). l.number) (same_Some _ _ e)) in cc)
other_number y xs start (suc k) l e b later = later k e

literal_found : (xs : List PlainLiteral) (from start k : ℕ) (l : PlainLiteral) → AreRising from xs → slice_get xs k ≡ Some l → FoundLiteral xs start l (literal_number l.number start xs)
literal_found [] from start k l r e = tt
literal_found (y ∷ xs) from start k l r e = cond_both (eqb y.number l.number) (Some start) (literal_number l.number (suc start) xs) (FoundLiteral (y ∷ xs) start l)
    (λ b. (0, plus_zero start, ap (λ y. Some y) (same_first y xs from k l r e (eqb-true y.number l.number b))))
    (λ b. next_found y xs start l (literal_number l.number (suc start) xs) (other_number y xs start k l e b (λ k e. literal_found xs (y.number + 1) (suc start) k l r.1 e)))
  where
    plus_zero : (n : ℕ) → n ≡ n + 0
    plus_zero n = omega arith

pub literal_fits : (p : PlainProgram) → IsWholeProgram p → (variables : List PlainVariable) (ks : List Kind) (w : State) (number : ℕ) (bytes : List ℕ) → Contains p.literals (record { number = number; bytes = bytes }) → Sound p ks w →
    OnOk (TargetFits p variables (text_type (length bytes)) ks) (literal_target (width p (text_type (length bytes))) (literal_number number (length p.objects) p.literals))
literal_fits p whole variables ks w number bytes (k, l, e) s =
    case (literal_number number (length p.objects) p.literals)
    (literal_found p.literals 0 (length p.objects) k (record { number = number; bytes = bytes }) whole.literals_rise (contains_at p.literals k (record { number = number; bytes = bytes }) l e))
  where
    case : (o : Option ℕ) → FoundLiteral p.literals (length p.objects) (record { number = number; bytes = bytes }) o → OnOk (TargetFits p variables (text_type (length bytes)) ks) (literal_target (width p (text_type (length bytes))) o)
    case None f = tt
    case (Some object) (i, e, there) = single_fits p ks object (text_type (length bytes)) (ap (slice_get ks) e ∙ s.literals i (record { number = number; bytes = bytes }) there)

-- ## Reading

held_fits : (p : PlainProgram) (ks : List Kind) (v : PlainVariable) (h : Option Held) → (case : (held : Held) → h ≡ Some held → VariableFits p ks v held) → MaybeFits p ks v.type (held_cell h).value
held_fits p ks v None f = tt
held_fits p ks v (Some absent) f = tt
held_fits p ks v (Some (stands o)) f = tt
held_fits p ks v (Some (holds cell)) f = f (holds cell) refl

pub read_cell : (p : PlainProgram) (ks : List Kind) (t : PlainType) (c : Option Scalar) → MaybeFits p ks t c → OnOk (Fits p ks t) (scalar_of c)
read_cell p ks t None f = tt
read_cell p ks t (Some x) f = f

sensed_value : (p : PlainProgram) (ks : List Kind) (t : PlainType) (z : ℤ) → is_integer t ≡ true → Fits p ks t (converted_to t (Int z))
sensed_value p ks (integer c i) z e = converted_in i z
sensed_value p ks (void c) z e = absurd cc
sensed_value p ks (pointer c t) z e = absurd cc
sensed_value p ks (array c t n) z e = absurd cc
sensed_value p ks (structure c n) z e = absurd cc

zero_value : (p : PlainProgram) (ks : List Kind) (t : PlainType) → is_integer t ≡ true → Fits p ks t (Int (pos 0))
zero_value p ks (integer c i) e = zero_in i
zero_value p ks (void c) e = absurd cc
zero_value p ks (pointer c t) e = absurd cc
zero_value p ks (array c t n) e = absurd cc
zero_value p ks (structure c n) e = absurd cc

sound_sensors : (p : PlainProgram) (ks : List Kind) (objects : List Object) (n : ℕ) (input : List ℕ) (z : ℤ) (sensors : List ℤ) → SoundParts p ks objects n input (z ∷ sensors) → SoundParts p ks objects n input sensors
sound_sensors p ks objects n input z sensors s = record { count = s.count; sizes = s.sizes; statics = s.statics; literals = s.literals; all = s.all; input_bytes = s.input_bytes; sensor_values = All-tail IsSensorValue z sensors s.sensor_values }

pub sensed_keeps : (p : PlainProgram) (ks : List Kind) (t : PlainType) (w : State) → is_integer t ≡ true → Sound p ks w → Keeps p ks (λ ks. Fits p ks t) (sensed t w)
sensed_keeps p ks t w i s = case w.sensors refl
  where
    case : (sensors : List ℤ) → w.sensors ≡ sensors → Keeps p ks (λ ks. Fits p ks t) (sensed_from sensors t w)
    case [] e = kept p ks (λ ks. Fits p ks t) (Int (pos 0)) w s (zero_value p ks t i)
    case (z ∷ sensors) e = kept p ks (λ ks. Fits p ks t) (converted_to t (Int z)) (record w { sensors = sensors })
        (sound_sensors p ks w.objects w.opened w.input z sensors (subst (λ l. SoundParts p ks w.objects w.opened w.input l) e s)) (sensed_value p ks t z i)

pub read_keeps : (p : PlainProgram) → IsLaidOut p → (ks : List Kind) (variables : List PlainVariable) (held : List Held) (span : Span) (t : PlainType) (target : Target) (w : State) → is_scalar t ≡ true → FrameFits p ks variables held → TargetFits p variables t ks target → Sound p ks w →
    Keeps p ks (λ ks. Fits p ks t) (read_target span t held target w)
read_keeps p out ks variables held span t (Variable n) w scalar f fits s =
    keeps_or p ks (Fits p ks t) (λ ks. Fits p ks t) (read_of (held_cell (slice_get held n))) span w _ s
    (read_cell p ks t (held_cell (slice_get held n)).value (maybe_same p ks fits.variable.type t (held_cell (slice_get held n)).value fits.same
    (held_fits p ks fits.variable (slice_get held n) (λ h e. frame_get p ks variables held n fits.variable h f fits.there e))))
    (λ x fx. kept p ks (λ ks. Fits p ks t) x w s fx)
read_keeps p out ks variables held span t Sensor w scalar f fits s = sensed_keeps p ks t w fits s
read_keeps p out ks variables held span t (Element q) w scalar f fits s =
    keeps_or p ks (Fits p ks t) (λ ks. Fits p ks t) (on_ok (cell_at w.objects q) read_of) span w _ s
    (on_then (λ (c : Cell). MaybeFits p ks t c.value) (Fits p ks t) (cell_at w.objects q) read_of (cell_fits p out ks w t q s fits scalar) (λ c h. read_cell p ks t c.value h))
    (λ x fx. kept p ks (λ ks. Fits p ks t) x w s fx)

-- ## Library functions

byte_in : (byte : ℕ) → byte < 256 → InRange int (pos byte)
byte_in byte l = record { low = omega (arith, ints, l); high = omega (arith, ints, l) }

end_in : InRange int (negsuc 0)
end_in = record { low = omega (arith, ints); high = omega (arith, ints) }

sound_input : (p : PlainProgram) (ks : List Kind) (objects : List Object) (n byte : ℕ) (input : List ℕ) (sensors : List ℤ) → SoundParts p ks objects n (byte ∷ input) sensors → SoundParts p ks objects n input sensors
sound_input p ks objects n byte input sensors s = record { count = s.count; sizes = s.sizes; statics = s.statics; literals = s.literals; all = s.all; input_bytes = All-tail (λ byte. byte < 256) byte input s.input_bytes; sensor_values = s.sensor_values }

pub byte_keeps : (p : PlainProgram) (ks : List Kind) (w : State) → Sound p ks w → Keeps p ks (λ ks. MaybeFits p ks int_type) (next_byte w.input w)
byte_keeps p ks w s = case w.input refl
  where
    case : (input : List ℕ) → w.input ≡ input → Keeps p ks (λ ks. MaybeFits p ks int_type) (next_byte input w)
    case [] e = kept p ks (λ ks. MaybeFits p ks int_type) (Some (Int (negsuc 0))) w s end_in
    case (byte ∷ input) e =
        let s2 : SoundParts p ks w.objects w.opened (byte ∷ input) w.sensors = subst (λ l. SoundParts p ks w.objects w.opened l w.sensors) e s in
        kept p ks (λ ks. MaybeFits p ks int_type) (Some (Int (pos byte))) (record w { input = input }) (sound_input p ks w.objects w.opened byte input w.sensors s2)
        (byte_in byte (All-head (λ byte. byte < 256) byte input s2.input_bytes))

pub put_keeps : (p : PlainProgram) (ks : List Kind) (z : ℤ) (w : State) → Sound p ks w → Keeps p ks (λ ks. MaybeFits p ks int_type) (put_byte (residue z 256) w)
put_keeps p ks z w s = kept p ks (λ ks. MaybeFits p ks int_type) (Some (Int (pos (residue z 256)))) (record w { output = w.output ++ residue z 256 ∷ [] }) s (byte_in (residue z 256) (residue_below z 256 (omega arith)))

pub asserted_keeps : (p : PlainProgram) (ks : List Kind) (t : PlainType) (span : Span) (x : Scalar) (w : State) → Sound p ks w → Keeps p ks (λ ks. MaybeFits p ks t) (asserted span x w)
asserted_keeps p ks t span x w s = keeps_if p ks (λ ks. MaybeFits p ks t) (is_true x) (gives None w) (ends (AssertionFailed span) w) (λ e. kept p ks (λ ks. MaybeFits p ks t) None w s tt) (λ e. ended p ks w s)

pub zeros_fit : (p : PlainProgram) (ks : List Kind) (ts : List PlainType) → AreScalar ts → AllFit p ks ts (zero_cells ts)
zeros_fit p ks [] f = tt
zeros_fit p ks (t ∷ ts) f = (zero_fits p ks t f.0, zeros_fit p ks ts f.1)

-- the cells that an allocation begins with fit
pub record IsFill (p : PlainProgram) (fill : List PlainType → List Cell) : Type 0 where
  pub fits : (ks : List Kind) (ts : List PlainType) → AreScalar ts → AllFit p ks ts (fill ts)

pub unset_fill : (p : PlainProgram) → IsFill p unset_cells
unset_fill p = record { fits = λ ks ts f. all_unset p ks ts }

pub zero_fill : (p : PlainProgram) → IsFill p zero_cells
zero_fill p = record { fits = λ ks ts f. zeros_fit p ks ts f }

-- one more object of a kind, and the pointer to its first element
pub opened_keeps : {A : Type 0} (p : PlainProgram) (ks : List Kind) (P : List Kind → A → Type 0) (k : Kind) (origin : Origin) (cells : List Cell) (a : A) (w : State) → Sound p ks w → IsSmall p k → AllFit p (ks ++ k ∷ []) (kind_scalars p k) cells →
    (slice_get (ks ++ k ∷ []) w.opened ≡ Some k → P (ks ++ k ∷ []) a) → Keeps p ks P (gives a (open_object origin cells w))
opened_keeps p ks P k origin cells a w s small fits value = record {
  kinds = ks ++ k ∷ [];
  grows = grown ks k;
  sound = sound_push p ks w.objects w.opened w.input w.sensors k origin cells s small fits;
  value = value (subst (λ m. slice_get (ks ++ k ∷ []) m ≡ Some k) s.count (get_last ks k));
}

granted_keeps : (p : PlainProgram) (ks : List Kind) (t : PlainType) (n : ℕ) (fill : List PlainType → List Cell) (w : State) → IsFill p fill → IsSmall p (record { elem = bare p.structures t; count = n }) → Sound p ks w →
    Keeps p ks (λ ks. MaybeFits p ks (pointer false t)) (granted (width p t) n (fill (repeated n (scalars p t))) w)
granted_keeps p ks t n fill w is small s =
    let k : Kind = record { elem = bare p.structures t; count = n } in
    keeps_if p ks (λ ks. MaybeFits p ks (pointer false t)) (is_denied w.denied w.requests) _ _
    (λ e. kept p ks (λ ks. MaybeFits p ks (pointer false t)) (Some (Pointer Null)) w s tt)
    (λ e. opened_keeps p ks (λ ks. MaybeFits p ks (pointer false t)) k allocated (fill (repeated n (scalars p t))) (Some (Pointer (first_of w.opened (width p t) n))) w s small
    (is.fits (ks ++ k ∷ []) (repeated n (scalars p t)) (scalar_repeated n (scalars p t) (scalars_scalar p.structures (bare p.structures t))))
    (λ e. record { kind = k; opened = e; leads = record { path = []; leads = refl }; position = omega arith }))

at_most_bytes : (m b : ℕ) → m ≤ b → b ≤ 1048576 → m ≤ most_elements
at_most_bytes m b l c = omega (arith, l, c)

both_true : (a b : Bool) → (a && b) ≡ true → (a ≡ true) × (b ≡ true)
both_true true b e = (refl, e)
both_true false b e = absurd cc

above_zero : (n : ℕ) → 0 < n → 1 ≤ n
above_zero n l = omega (arith, l)

-- an object that a request opens is small
requested_small : (p : PlainProgram) → AreWholeStructures p.structures → (t : PlainType) (n : ℕ) → 1 ≤ n * size p t → n * size p t ≤ 1048576 → IsSmall p (record { elem = bare p.structures t; count = n })
requested_small p whole t n some most =
    let few : (n ≤ 1048576) × (1 ≤ size p t) × (size p t ≤ 1048576) = few_elements n (size p t) some most in
    small_object p whole (record { elem = bare p.structures t; count = n }) (short_size p.structures (bare p.structures t) few.1 few.2) (at_most_bytes n 1048576 few.0 (omega arith))
    (at_most_bytes _ (n * size p t) (repeated_few n (size p t) (scalars p t) (scalars_few p.structures (bare p.structures t))) most)

pub requested_keeps : (p : PlainProgram) → AreWholeStructures p.structures → (ks : List Kind) (t : PlainType) (n : ℕ) (fill : List PlainType → List Cell) (w : State) → IsFill p fill → Sound p ks w → Keeps p ks (λ ks. MaybeFits p ks (pointer false t)) (requested p t n fill w)
requested_keeps p whole ks t n fill w is s = keeps_if p ks (λ ks. MaybeFits p ks (pointer false t)) (ltb 0 (n * size p t) && leb (n * size p t) 1048576) _ _
    (λ e. granted_keeps p ks t n fill (record w { requests = suc w.requests }) is
    (requested_small p whole t n (above_zero (n * size p t) (ltb-true 0 (n * size p t) (both_true (ltb 0 (n * size p t)) (leb (n * size p t) 1048576) e).0)) (leb-true (n * size p t) 1048576 (both_true (ltb 0 (n * size p t)) (leb (n * size p t) 1048576) e).1)) s)
    (λ e. kept p ks (λ ks. MaybeFits p ks (pointer false t)) (Some (Pointer Null)) w s tt)

pub free_keeps : (p : PlainProgram) (ks : List Kind) (t : PlainType) (span : Span) (q : Ptr) (w : State) → Sound p ks w → Keeps p ks (λ ks. MaybeFits p ks t) (or_undefined (release w.objects q) span w (λ objects. gives None (record w { objects = objects })))
free_keeps p ks t span q w s = keeps_or p ks (AllObjects p ks) (λ ks. MaybeFits p ks t) (release w.objects q) span w _ s (release_fits p ks w.objects q s.all)
    (λ objects f. kept p ks (λ ks. MaybeFits p ks t) None (record w { objects = objects }) (sound_with p ks w.objects objects w.opened w.input w.sensors s f) tt)
