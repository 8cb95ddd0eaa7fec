-- The frame of a call fits: its arguments stand for the first variables, in the frame or as objects.
use Rattle.std.proofs.Common.{◌≡◌, ℕ, zero, suc, cond, Bool, true, false, List, [], ◌∷◌, ◌++◌, map, take, refl, sym, ap, subst, Some, slice_get}
use Rattle.std.specs.List.{All}
use Rattle.std.proofs.lemmas.List.Elements.{All-head, All-tail}
use Rattle.p10_core.specs.Types.{PlainType, bare}
use Rattle.p10_core.specs.Rows.{is_scalar}
use Rattle.p10_core.specs.Typed.{PlainVariable, PlainFunction, PlainProgram}
use Rattle.p10_core.specs.WholePrograms.{parameter_types, IsWholeFunction, IsWholeProgram}
use Rattle.p10_meaning.specs.declared.pointers.Scalar.{Scalar}
use Rattle.p10_meaning.specs.Pointers.{holding}
use Rattle.p10_meaning.specs.Objects.{declared}
use Rattle.p10_meaning.specs.States.{State}
use Rattle.p10_meaning.specs.Values.{stands, holds, open_object}
use Rattle.p10_meaning.specs.Calling.{with_variable, entered}
use Rattle.p10_meaning.specs.Sound.{Kind, IsSmall, single_of, Fits, AllFit, kind_scalars, Sound, Grows, ScalarsFit}
use Rattle.p10_meaning.proofs.Geometry.{IsLaidOut}
use Rattle.p10_meaning.proofs.LaidOut.{laid_out}
use Rattle.p10_meaning.proofs.Fitting.{grows_same, grows_trans, grown, get_last, get_grown, fits_grown, sound_push, fits_same}
use Rattle.p10_meaning.proofs.Moves.{scalars_are}
use Rattle.p10_meaning.proofs.SoundStatements.{AreFew}
use Rattle.p10_meaning.proofs.SoundCalls.{EntryFits, no_arguments, few_variables}

scalars_grown : (p : PlainProgram) (ks js : List Kind) (ts : List PlainType) (xs : List Scalar) → Grows ks js → ScalarsFit p ks ts xs → ScalarsFit p js ts xs
scalars_grown p ks js [] [] g f = tt
scalars_grown p ks js [] (x ∷ xs) g f = f
scalars_grown p ks js (t ∷ ts) [] g f = f
scalars_grown p ks js (t ∷ ts) (x ∷ xs) g f = (fits_grown p ks js t x g f.0, scalars_grown p ks js ts xs g f.1)

abbrev types_of : ℕ → List PlainVariable → List PlainType
types_of m vs = map (λ (v : PlainVariable). v.type) (take m vs)

fewer : (p : PlainProgram) (v : PlainVariable) (vs : List PlainVariable) → AreFew p (v ∷ vs) → AreFew p vs
fewer p v vs few = record { few = λ n u e. few.few (suc n) u e; object = λ n u e. few.object (suc n) u e }

-- a parameter in the frame
held_entered : (p : PlainProgram) (v : PlainVariable) (vs : List PlainVariable) (x : Scalar) (xs : List Scalar) (w : State) (ks : List Kind) → Fits p ks v.type x → EntryFits p ks vs (entered vs xs w) →
    EntryFits p ks (v ∷ vs) (with_variable (holds (holding x)) (entered vs xs w).frame.opened (entered vs xs w))
held_entered p v vs x xs w ks f h = record { kinds = h.kinds; grows = h.grows; sound = h.sound; frame = (fits_grown p ks h.kinds v.type x h.grows f, h.frame) }

-- a parameter that is an object
object_entered : (p : PlainProgram) → IsLaidOut p → (v : PlainVariable) (vs : List PlainVariable) (x : Scalar) (xs : List Scalar) (w : State) (ks : List Kind) → is_scalar v.type ≡ true → IsSmall p (single_of p v.type) → Fits p ks v.type x → Sound p ks w →
    (Sound p (ks ++ single_of p v.type ∷ []) (open_object declared (holding x ∷ []) w) → EntryFits p (ks ++ single_of p v.type ∷ []) vs (entered vs xs (open_object declared (holding x ∷ []) w))) →
    EntryFits p ks (v ∷ vs) (with_variable (stands w.opened) (w.opened ∷ (entered vs xs (open_object declared (holding x ∷ []) w)).frame.opened) (entered vs xs (open_object declared (holding x ∷ []) w)))
object_entered p out v vs x xs w ks scalar few fx so go =
    let k : Kind = single_of p v.type in
    let js : List Kind = ks ++ k ∷ [] in
    let g : Grows ks js = grown ks k in
    let one : kind_scalars p k ≡ bare p.structures v.type ∷ [] = ap (λ ts. ts ++ []) (scalars_are p out v.type scalar) in
    let fits : AllFit p js (kind_scalars p k) (holding x ∷ []) = subst (λ ts. AllFit p js ts (holding x ∷ [])) (sym one)
    (fits_same p js v.type (bare p.structures v.type) x (sym (out.bare_again v.type)) (fits_grown p ks js v.type x g fx), tt) in
    let h : EntryFits p js vs (entered vs xs (open_object declared (holding x ∷ []) w)) = go (sound_push p ks w.objects w.opened w.input w.sensors k declared (holding x ∷ []) so few fits) in
    let there : slice_get js w.opened ≡ Some k = subst (λ m. slice_get js m ≡ Some k) so.count (get_last ks k) in
    record { kinds = h.kinds; grows = grows_trans ks js h.kinds g h.grows; sound = h.sound; frame = (get_grown js h.kinds w.opened k h.grows there, h.frame) }

pub entry_fits : (p : PlainProgram) → IsLaidOut p → (m : ℕ) (vs : List PlainVariable) (xs : List Scalar) (w : State) (ks : List Kind) → AreFew p vs → All (λ t. is_scalar t ≡ true) (types_of m vs) → ScalarsFit p ks (types_of m vs) xs → Sound p ks w → EntryFits p ks vs (entered vs xs w)
entry_fits p out m [] xs w ks few scalar f so = record { kinds = ks; grows = grows_same ks; sound = so; frame = tt }
entry_fits p out m (v ∷ vs) [] w ks few scalar f so = no_arguments p (v ∷ vs) w ks so
entry_fits p out zero (v ∷ vs) (x ∷ xs) w ks few scalar f so = absurd f
entry_fits p out (suc m) (v ∷ vs) (x ∷ xs) w ks few scalar f so = case v.frame
    (held_entered p v vs x xs w ks f.0 (entry_fits p out m vs xs w ks (fewer p v vs few) (All-tail (λ t. is_scalar t ≡ true) v.type (types_of m vs) scalar) f.1 so))
    (object_entered p out v vs x xs w ks (All-head (λ t. is_scalar t ≡ true) v.type (types_of m vs) scalar) (few.few 0 v refl) f.0 so
    (λ so2. entry_fits p out m vs xs (open_object declared (holding x ∷ []) w) (ks ++ single_of p v.type ∷ []) (fewer p v vs few) (All-tail (λ t. is_scalar t ≡ true) v.type (types_of m vs) scalar)
    (scalars_grown p ks (ks ++ single_of p v.type ∷ []) (types_of m vs) xs (grown ks (single_of p v.type)) f.1) so2))
  where
    case : (b : Bool) → EntryFits p ks (v ∷ vs) (with_variable (holds (holding x)) (entered vs xs w).frame.opened (entered vs xs w)) →
        EntryFits p ks (v ∷ vs) (with_variable (stands w.opened) (w.opened ∷ (entered vs xs (open_object declared (holding x ∷ []) w)).frame.opened) (entered vs xs (open_object declared (holding x ∷ []) w))) →
        EntryFits p ks (v ∷ vs) (cond b (with_variable (holds (holding x)) (entered vs xs w).frame.opened (entered vs xs w))
        (with_variable (stands w.opened) (w.opened ∷ (entered vs xs (open_object declared (holding x ∷ []) w)).frame.opened) (entered vs xs (open_object declared (holding x ∷ []) w))))
    case true a b = a
    case false a b = b

pub frame_fits : (p : PlainProgram) → IsWholeProgram p → (k : ℕ) (f : PlainFunction) → slice_get p.functions k ≡ Some f → (xs : List Scalar) (w : State) (ks : List Kind) → ScalarsFit p ks (parameter_types f) xs → Sound p ks w →
    EntryFits p ks f.variables (entered f.variables xs w)
frame_fits p whole k f there xs w ks fit so =
    let i : IsWholeFunction p k f = whole.functions k f there in
    entry_fits p (laid_out p whole) f.parameters f.variables xs w ks (few_variables p whole k f i) i.parameters_scalar fit so
