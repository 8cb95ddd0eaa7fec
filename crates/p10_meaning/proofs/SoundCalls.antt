-- Calls keep sound states, by induction on the bound.
use Rattle.std.proofs.Common.{◌≡◌, ℕ, zero, suc, ◌+◌, ◌*◌, ◌≤◌, cond, Bool, true, false, List, [], ◌∷◌, ◌++◌, map, length, take, refl, sym, ◌∙◌, ap, subst, arith, Option, Some, None, slice_get}
use Rattle.std.specs.Prelude.{sum}
use Rattle.std.specs.List.{All}
use Rattle.std.proofs.lemmas.Option.{same_Some, none-some}
use Rattle.std.proofs.lemmas.List.Elements.{All-head, All-tail}
use Rattle.std.proofs.lemmas.List.Sums.{sum-map, sum_by-cons}
use Rattle.p10_core.specs.Types.{PlainType, bare}
use Rattle.p10_core.specs.Sizes.{size_of, layout_of}
use Rattle.p10_core.specs.Rows.{is_scalar}
use Rattle.p10_core.specs.Laws.{LiesLike}
use Rattle.p10_core.specs.Typed.{PlainVariable, PlainFunction, PlainProgram}
use Rattle.p10_core.proofs.ScalarCounts.{scalars_have_bytes}
use Rattle.p10_core.specs.WholePrograms.{frame_bytes, parameter_types, numbers_from, IsObjectType, IsWholeVariable, IsWholeFunction, IsWholeProgram}
use Rattle.p10_meaning.specs.declared.pointers.Scalar.{Scalar}
use Rattle.p10_meaning.specs.Pointers.{holding}
use Rattle.p10_meaning.specs.Objects.{declared, all_closed}
use Rattle.p10_meaning.specs.States.{State}
use Rattle.p10_meaning.specs.Values.{Calls, holds, stands, scalars, open_object}
use Rattle.p10_meaning.specs.Statements.{Flow, normal, broken, continued, returned, execute_from}
use Rattle.p10_meaning.specs.Calling.{Depth, deeper, raised, Entered, with_variable, entered, given, leave_call, setting_of, enter_call, call_at}
use Rattle.p10_meaning.specs.Sound.{most_elements, ArraysAreSmall, Kind, IsSmall, single_of, Fits, MaybeFits, AllFit, kind_scalars, Sound, FrameFits, Grows, Keeps, ScalarsFit, KeepSound, FlowFits, DoneFits, CallsKeepSound, StatementsKeepSound, ValuesKeepSound}
use Rattle.p10_meaning.proofs.Geometry.{IsLaidOut}
use Rattle.p10_meaning.proofs.LaidOut.{laid_out, object_bare, lies_bare, repeated_few, scalars_few, all_at}
use Rattle.p10_meaning.proofs.ShortArrays.{short_size, small_object}
use Rattle.p10_meaning.proofs.Fitting.{grows_same, grows_trans, grown, get_last, get_grown, fits_grown, sound_with, sound_push, all_closed_fits, fits_same}
use Rattle.p10_meaning.proofs.Moves.{scalars_are}
use Rattle.p10_meaning.proofs.Keeping.{keeps_from, kept, ended, keeps_step, keeps_then}
use Rattle.p10_meaning.proofs.SoundValues.{evaluate_keeps}
use Rattle.p10_meaning.proofs.SoundStatements.{AreFew, seen, seen_by, execute_keeps, from_keeps}

-- ## Sizes

-- an object of few bytes is small
pub small_variable : (p : PlainProgram) → IsWholeProgram p → (t : PlainType) → IsObjectType p.structures t → size_of p.structures t ≤ 1048576 → IsSmall p (single_of p t)
small_variable p whole t object small =
    let same : LiesLike (layout_of p.structures (bare p.structures t)) (layout_of p.structures t) = lies_bare p.structures whole.structures t object in
    let a : length (kind_scalars p (single_of p t)) ≤ 1 * size_of p.structures (bare p.structures t) = repeated_few 1 (size_of p.structures (bare p.structures t)) (scalars p t) (scalars_few p.structures (bare p.structures t)) in
    let b : size_of p.structures (bare p.structures t) ≡ size_of p.structures t = same.same_bytes in
    let low : 1 ≤ size_of p.structures (bare p.structures t) = (scalars_have_bytes p.structures whole.structures (bare p.structures t) (object_bare p.structures whole.structures t object)).0 in
    small_object p whole.structures (single_of p t) (short_size p.structures (bare p.structures t) low (subst (λ m. m ≤ 1048576) (sym b) small)) (omega arith) (bounded _ _ _ a b small)
  where
    bounded : (l m k : ℕ) → l ≤ 1 * m → m ≡ k → k ≤ 1048576 → l ≤ most_elements
    bounded l m k a b c = omega (arith, a, b, c)

sum_of : (u : PlainVariable) (vs : List PlainVariable) → sum (map (λ (v : PlainVariable). v.bytes) (u ∷ vs)) ≡ u.bytes + sum (map (λ (v : PlainVariable). v.bytes) vs)
sum_of u vs = sum-map (λ (v : PlainVariable). v.bytes) (u ∷ vs) ∙ (sum_by-cons (λ (v : PlainVariable). v.bytes) u vs ∙ ap (λ n. u.bytes + n) (sym (sum-map (λ (v : PlainVariable). v.bytes) vs)))

bytes_among : (vs : List PlainVariable) (i : ℕ) (v : PlainVariable) → slice_get vs i ≡ Some v → v.bytes ≤ sum (map (λ (v : PlainVariable). v.bytes) vs)
bytes_among [] i v e = absurd (none-some _ e)
bytes_among (u ∷ vs) zero v e =
    let c : sum (map (λ (v : PlainVariable). v.bytes) (u ∷ vs)) ≡ u.bytes + sum (map (λ (v : PlainVariable). v.bytes) vs) = sum_of u vs in
    let same : u.bytes ≡ v.bytes = ap (λ (v : PlainVariable). v.bytes) (same_Some _ _ e) in omega (arith, c, same)
bytes_among (u ∷ vs) (suc i) v e =
    let c : sum (map (λ (v : PlainVariable). v.bytes) (u ∷ vs)) ≡ u.bytes + sum (map (λ (v : PlainVariable). v.bytes) vs) = sum_of u vs in
    let h : v.bytes ≤ sum (map (λ (v : PlainVariable). v.bytes) vs) = bytes_among vs i v e in omega (arith, c, h)

pub few_variables : (p : PlainProgram) → IsWholeProgram p → (number : ℕ) (f : PlainFunction) → IsWholeFunction p number f → AreFew p f.variables
few_variables p whole number f i = record {
  few = λ n v e. let w : IsWholeVariable p.structures v = all_at (IsWholeVariable p.structures) f.variables n v i.variables e in
      small_variable p whole v.type w.object (bounded v.bytes (size_of p.structures v.type) (frame_bytes f) w.bytes_are (bytes_among f.variables n v e) i.small);
  object = λ n v e. (all_at (IsWholeVariable p.structures) f.variables n v i.variables e).object;
}
  where
    bounded : (b s m : ℕ) → b ≡ s → b ≤ m → m ≤ 1048576 → s ≤ 1048576
    bounded b s m e l k = omega (arith, e, l, k)

-- ## Entry

pub record EntryFits (p : PlainProgram) (ks : List Kind) (vs : List PlainVariable) (start : Entered) : Type 0 where
  pub kinds : List Kind
  pub grows : Grows ks kinds
  pub sound : Sound p kinds start.state
  pub frame : FrameFits p kinds vs start.frame.held

scalars_grown : (p : PlainProgram) (ks js : List Kind) (ts : List PlainType) (xs : List Scalar) → Grows ks js → ScalarsFit p ks ts xs → ScalarsFit p js ts xs
scalars_grown p ks js [] [] g f = tt
scalars_grown p ks js [] (x ∷ xs) g f = f
scalars_grown p ks js (t ∷ ts) [] g f = f
scalars_grown p ks js (t ∷ ts) (x ∷ xs) g f = (fits_grown p ks js t x g f.0, scalars_grown p ks js ts xs g f.1)

abbrev types_of : ℕ → List PlainVariable → List PlainType
types_of m vs = map (λ (v : PlainVariable). v.type) (take m vs)

fewer : (p : PlainProgram) (v : PlainVariable) (vs : List PlainVariable) → AreFew p (v ∷ vs) → AreFew p vs
fewer p v vs few = record { few = λ n u e. few.few (suc n) u e; object = λ n u e. few.object (suc n) u e }

pub no_arguments : (p : PlainProgram) (vs : List PlainVariable) (w : State) (ks : List Kind) → Sound p ks w → EntryFits p ks vs (entered vs [] w)
no_arguments p [] w ks so = record { kinds = ks; grows = grows_same ks; sound = so; frame = tt }
no_arguments p (v ∷ vs) w ks so = let h : EntryFits p ks vs (entered vs [] w) = no_arguments p vs w ks so in record { kinds = h.kinds; grows = h.grows; sound = h.sound; frame = (tt, h.frame) }

-- one more object for a parameter
object_entered : (p : PlainProgram) → IsLaidOut p → (v : PlainVariable) (vs : List PlainVariable) (x : Scalar) (xs : List Scalar) (w : State) (ks : List Kind) → is_scalar v.type ≡ true → IsSmall p (single_of p v.type) → Fits p ks v.type x → Sound p ks w →
    (Sound p (ks ++ single_of p v.type ∷ []) (open_object declared (holding x ∷ []) w) → EntryFits p (ks ++ single_of p v.type ∷ []) vs (entered vs xs (open_object declared (holding x ∷ []) w))) →
    EntryFits p ks (v ∷ vs) (with_variable (stands w.opened) (w.opened ∷ (entered vs xs (open_object declared (holding x ∷ []) w)).frame.opened) (entered vs xs (open_object declared (holding x ∷ []) w)))
object_entered p out v vs x xs w ks scalar few fx so go =
    let k : Kind = single_of p v.type in
    let js : List Kind = ks ++ k ∷ [] in
    let g : Grows ks js = grown ks k in
    let one : kind_scalars p k ≡ bare p.structures v.type ∷ [] = ap (λ ts. ts ++ []) (scalars_are p out v.type scalar) in
    let fits : AllFit p js (kind_scalars p k) (holding x ∷ []) = subst (λ ts. AllFit p js ts (holding x ∷ [])) (sym one)
    (fits_same p js v.type (bare p.structures v.type) x (sym (out.bare_again v.type)) (fits_grown p ks js v.type x g fx), tt) in
    let h : EntryFits p js vs (entered vs xs (open_object declared (holding x ∷ []) w)) = go (sound_push p ks w.objects w.opened w.input w.sensors k declared (holding x ∷ []) so few fits) in
    let there : slice_get js w.opened ≡ Some k = subst (λ m. slice_get js m ≡ Some k) so.count (get_last ks k) in
    record { kinds = h.kinds; grows = grows_trans ks js h.kinds g h.grows; sound = h.sound; frame = (get_grown js h.kinds w.opened k h.grows there, h.frame) }

entry_fits : (p : PlainProgram) → IsLaidOut p → (m : ℕ) (vs : List PlainVariable) (xs : List Scalar) (w : State) (ks : List Kind) → AreFew p vs → All (λ t. is_scalar t ≡ true) (types_of m vs) → ScalarsFit p ks (types_of m vs) xs → Sound p ks w → EntryFits p ks vs (entered vs xs w)
entry_fits p out m [] xs w ks few scalar f so = record { kinds = ks; grows = grows_same ks; sound = so; frame = tt }
entry_fits p out m (v ∷ vs) [] w ks few scalar f so = no_arguments p (v ∷ vs) w ks so
entry_fits p out zero (v ∷ vs) (x ∷ xs) w ks few scalar f so = absurd f
entry_fits p out (suc m) (v ∷ vs) (x ∷ xs) w ks few scalar f so = case v.frame
    (let h : EntryFits p ks vs (entered vs xs w) = entry_fits p out m vs xs w ks (fewer p v vs few) (All-tail (λ t. is_scalar t ≡ true) v.type (types_of m vs) scalar) f.1 so in
    record { kinds = h.kinds; grows = h.grows; sound = h.sound; frame = (fits_grown p ks h.kinds v.type x h.grows f.0, h.frame) })
    (object_entered p out v vs x xs w ks (All-head (λ t. is_scalar t ≡ true) v.type (types_of m vs) scalar) (few.few 0 v refl) f.0 so
    (λ so2. entry_fits p out m vs xs (open_object declared (holding x ∷ []) w) (ks ++ single_of p v.type ∷ []) (fewer p v vs few) (All-tail (λ t. is_scalar t ≡ true) v.type (types_of m vs) scalar)
    (scalars_grown p ks (ks ++ single_of p v.type ∷ []) (types_of m vs) xs (grown ks (single_of p v.type)) f.1) so2))
  where
    case : (b : Bool) → EntryFits p ks (v ∷ vs) (with_variable (holds (holding x)) (entered vs xs w).frame.opened (entered vs xs w)) →
        EntryFits p ks (v ∷ vs) (with_variable (stands w.opened) (w.opened ∷ (entered vs xs (open_object declared (holding x ∷ []) w)).frame.opened) (entered vs xs (open_object declared (holding x ∷ []) w))) →
        EntryFits p ks (v ∷ vs) (cond b (with_variable (holds (holding x)) (entered vs xs w).frame.opened (entered vs xs w))
        (with_variable (stands w.opened) (w.opened ∷ (entered vs xs (open_object declared (holding x ∷ []) w)).frame.opened) (entered vs xs (open_object declared (holding x ∷ []) w))))
    case true a b = a
    case false a b = b

-- ## Calls

given_fits : (p : PlainProgram) (t : PlainType) (ks : List Kind) (f : Flow) → FlowFits p t ks f → MaybeFits p ks t (given f)
given_fits p t ks normal h = tt
given_fits p t ks broken h = tt
given_fits p t ks continued h = tt
given_fits p t ks (returned x) h = h

enter_keeps : (p : PlainProgram) (whole : IsWholeProgram p) (n : ℕ) (calls : Depth → Calls) → ((depth : Depth) → KeepSound p (calls depth)) → (depth : Depth) (k : ℕ) (g : PlainFunction) (o : Option PlainFunction) (xs : List Scalar) (w : State) (ks : List Kind) →
    slice_get p.functions k ≡ Some g → o ≡ Some g → ScalarsFit p ks (parameter_types g) xs → Sound p ks w → Keeps p ks (λ ks x. MaybeFits p ks g.result x) (enter_call p n calls depth o xs w)
enter_keeps p whole n calls meaning depth k g None xs w ks there e f so = absurd (none-some _ e)
enter_keeps p whole n calls meaning depth k g (Some h) xs w ks there e f so =
    subst (λ h. Keeps p ks (λ ks x. MaybeFits p ks g.result x) (enter_call p n calls depth (Some h) xs w)) (sym (same_Some _ _ e))
    (let i : IsWholeFunction p k g = whole.functions k g there in
    let out : IsLaidOut p = laid_out p whole in
    let few : AreFew p g.variables = few_variables p whole k g i in
    let deep : Depth = deeper g depth in
    let start : Entered = entered g.variables xs (raised deep w) in
    let entry : EntryFits p ks g.variables start = entry_fits p out g.parameters g.variables xs (raised deep w) ks few i.parameters_scalar f so in
    keeps_from p ks entry.kinds (λ ks x. MaybeFits p ks g.result x) _ entry.grows
    (keeps_then p entry.kinds (DoneFits p g.variables g.result) (λ ks x. MaybeFits p ks g.result x) (execute_from (setting_of p n calls deep g) 0 g.body start.frame start.state) leave_call
    (from_keeps p out whole (calls deep) (meaning deep) n k g few 0 g.body (numbers_from 0 g.parameters) false false i.body start.frame start.state entry.kinds entry.sound entry.frame)
    (λ d w js so gr fits. kept p js (λ ks x. MaybeFits p ks g.result x) (given d.flow) (record w { objects = all_closed d.frame.opened w.objects })
    (sound_with p js w.objects _ w.opened w.input w.sensors so (all_closed_fits p js d.frame.opened w.objects so.all)) (given_fits p g.result js d.flow fits.flow))))

pub calls_keep : CallsKeepSound
calls_keep p whole zero depth = record { keeps = λ k g xs w ks there f so. ended p ks w so }
calls_keep p whole (suc n) depth = record {
  keeps = λ k g xs w ks there f so. keeps_step p ks (λ ks x. MaybeFits p ks g.result x) w _ so (λ left.
      enter_keeps p whole n (call_at n p) (λ depth. calls_keep p whole n depth) depth k g (slice_get p.functions k) xs (record w { left = left }) ks there there f so);
}

pub statements_keep : StatementsKeepSound
statements_keep p whole n depth number f there scope l b x i frame w ks so h =
    execute_keeps p (laid_out p whole) whole (call_at n p depth) (calls_keep p whole n depth) n number f (few_variables p whole number f (whole.functions number f there)) x scope l b i frame w ks so h

pub values_keep : ValuesKeepSound
values_keep p whole n depth number f there scope v i held w ks so h =
    evaluate_keeps p (laid_out p whole) whole (call_at n p depth) (calls_keep p whole n depth) n f.variables (seen_by p (laid_out p whole) whole (call_at n p depth) (calls_keep p whole n depth) n number f (few_variables p whole number f (whole.functions number f there)) scope)
    (seen p (laid_out p whole) whole (call_at n p depth) (calls_keep p whole n depth) n number f (few_variables p whole number f (whole.functions number f there)) scope) held v i w ks so h

-- ## Arrays

pub arrays_small : ArraysAreSmall
arrays_small p whole ks w so o k there v leads = (so.sizes o k there).arrays v leads
