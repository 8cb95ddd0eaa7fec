-- The opening state is sound.
use Rattle.std.proofs.Common.{◌≡◌, ℕ, zero, suc, ◌+◌, ◌*◌, ◌^◌, ◌<◌, ◌≤◌, true, false, List, [], ◌∷◌, ◌++◌, map, length, refl, sym, ◌∙◌, ap, subst, arith, Some, None, slice_get, length-append, append-nil, pos}
use Rattle.std.specs.List.{All}
use Rattle.std.proofs.lemmas.Option.{none-some}
use Rattle.std.proofs.lemmas.Bool.{cond_both}
use Rattle.std.proofs.lemmas.List.Elements.{All-nil, All-head, All-tail}
use Rattle.p10_int.specs.declared.types.IntType.TheVariants.{Char}
use Rattle.p10_int.specs.Conversion.{converted}
use Rattle.p10_int.proofs.Conversions.{converted_in}
use Rattle.p10_core.specs.Types.{PlainType, integer, bare}
use Rattle.p10_core.specs.Sizes.{layout_of, size_of, repeated}
use Rattle.p10_core.specs.Rows.{is_scalar}
use Rattle.p10_core.specs.Typed.{type_of, PlainInitializer, not_initialized, single, copied, listed, PlainFunction, no_statements, PlainObject, PlainLiteral, PlainProgram}
use Rattle.p10_core.specs.WholePrograms.{IsObjectType, IsWholeObject, IsWholeInitializer, IsStaticInitializer, AreWholeItems, IsWholeProgram, surroundings_of}
use Rattle.p10_meaning.specs.declared.pointers.Scalar.{Scalar}
use Rattle.p10_meaning.specs.declared.pointers.Scalar.TheVariants.{Int}
use Rattle.p10_meaning.specs.declared.pointers.Cell.{Cell}
use Rattle.p10_meaning.specs.declared.world.World.{World}
use Rattle.p10_meaning.specs.Pointers.{holding}
use Rattle.p10_meaning.specs.Objects.{Object}
use Rattle.p10_meaning.specs.States.{IsWorld, IsSensorValue, StepsSpent, Progress, gives, ends}
use Rattle.p10_meaning.specs.Scalars.{zero_cells}
use Rattle.p10_meaning.specs.Values.{Calls, scalars, evaluate}
use Rattle.p10_meaning.specs.Statements.{listed_scalars}
use Rattle.p10_meaning.specs.Opening.{static_objects, literal_objects, opening_with, constant_setting, constant_state, constant_scalar, constant_scalars, listed_cells, initial_cells}
use Rattle.p10_meaning.specs.Sound.{most_elements, Kind, IsSmall, single_of, Fits, AllFit, kind_scalars, Above, AllObjects, text_type, Sound, Grows, Keeps, KeepSound, AreSeen, opening_kinds, OpeningIsSound}
use Rattle.p10_meaning.proofs.Geometry.{IsLaidOut, scalars_array, scalars_integer}
use Rattle.p10_meaning.proofs.LaidOut.{laid_out, lies_bare, array_bytes, repeated_few, scalars_few, AreScalar, scalars_scalar, HasMapped, map_get, map_back, all_at}
use Rattle.p10_meaning.proofs.ShortArrays.{small_object}
use Rattle.p10_meaning.proofs.Fitting.{get_before, fits_same, bare_unqualified}
use Rattle.p10_meaning.proofs.Moves.{scalars_are}
use Rattle.p10_meaning.proofs.Keeping.{ended}
use Rattle.p10_meaning.proofs.SoundScalars.{zero_fits}
use Rattle.p10_meaning.proofs.SoundParts.{zeros_fit}
use Rattle.p10_meaning.proofs.SoundValues.{evaluate_keeps}
use Rattle.p10_meaning.proofs.SoundStatements.{AreFew, ItemsFit, listed_fits, listed_keeps}
use Rattle.p10_meaning.proofs.SoundCalls.{small_variable}
use Rattle.p10_meaning.proofs.Quiet.{Opens, OpensBy, evaluate_opens, static_quiet, listed_opens}

-- ## Lists

mapped_length : {A B : Type 0} (f : A → B) (xs : List A) → length (map f xs) ≡ length xs
mapped_length f [] = refl
mapped_length f (x ∷ xs) = ap (λ n. suc n) (mapped_length f xs)

get_second : {A : Type 0} (xs ys : List A) (i : ℕ) (y : A) → slice_get ys i ≡ Some y → slice_get (xs ++ ys) (length xs + i) ≡ Some y
get_second [] ys i y e = subst (λ n. slice_get ys n ≡ Some y) (zero_plus i) e
  where
    zero_plus : (i : ℕ) → i ≡ 0 + i
    zero_plus i = omega arith

    counted : (m n : ℕ) → m < 0 + n → m < n
    counted m n l = omega (arith, l)
get_second (x ∷ xs) ys i y e = subst (λ n. slice_get (x ∷ (xs ++ ys)) n ≡ Some y) (one_more (length xs) i) (get_second xs ys i y e)
  where
    one_more : (n i : ℕ) → suc (n + i) ≡ suc n + i
    one_more n i = omega arith

either_get : {A P : Type 0} (xs ys : List A) (i : ℕ) (x : A) → slice_get (xs ++ ys) i ≡ Some x → (slice_get xs i ≡ Some x → P) → ((j : ℕ) → slice_get ys j ≡ Some x → P) → P
either_get [] ys i x e f g = g i e
either_get (y ∷ xs) ys zero x e f g = f e
either_get (y ∷ xs) ys (suc i) x e f g = either_get xs ys i x e f g

one_list : (ts : List PlainType) → ts ≡ ts ++ []
one_list ts = sym (append-nil ts)

single_cells : (p : PlainProgram) (ks : List Kind) (t : PlainType) (cells : List Cell) → AllFit p ks (scalars p t) cells → AllFit p ks (kind_scalars p (single_of p t)) cells
single_cells p ks t cells f = subst (λ ts. AllFit p ks ts cells) (one_list (scalars p t)) f

-- ## The kinds

static_kind : (p : PlainProgram) (n : ℕ) (object : PlainObject) → slice_get p.objects n ≡ Some object → slice_get (opening_kinds p) n ≡ Some (single_of p object.type)
static_kind p n object e = get_before (map (λ (object : PlainObject). single_of p object.type) p.objects) _ n _ (map_get (λ (object : PlainObject). single_of p object.type) p.objects n object e)

literal_kind : (p : PlainProgram) (n : ℕ) (l : PlainLiteral) → slice_get p.literals n ≡ Some l → slice_get (opening_kinds p) (length p.objects + n) ≡ Some (single_of p (text_type (length l.bytes)))
literal_kind p n l e =
    subst (λ m. slice_get (opening_kinds p) (m + n) ≡ Some (single_of p (text_type (length l.bytes)))) (mapped_length (λ (object : PlainObject). single_of p object.type) p.objects)
    (get_second (map (λ (object : PlainObject). single_of p object.type) p.objects) (map (λ (l : PlainLiteral). single_of p (text_type (length l.bytes))) p.literals) n _
    (map_get (λ (l : PlainLiteral). single_of p (text_type (length l.bytes))) p.literals n l e))

char_bytes : (p : PlainProgram) → size_of p.structures (integer false Char) ≡ 1
unfolding layout_of
char_bytes p = refl

text_small : (p : PlainProgram) → IsWholeProgram p → (n : ℕ) → n ≤ 1048576 → IsSmall p (single_of p (text_type n))
text_small p whole n l =
    let a : length (kind_scalars p (single_of p (text_type n))) ≤ 1 * size_of p.structures (text_type n) = repeated_few 1 (size_of p.structures (text_type n)) (scalars p (text_type n)) (scalars_few p.structures (text_type n)) in
    let b : size_of p.structures (text_type n) ≡ n * 1 = array_bytes p.structures false (integer false Char) n ∙ ap (λ m. n * m) (char_bytes p) in
    small_object p whole.structures (single_of p (text_type n)) (omega (arith, l), tt) (omega arith) (bounded _ _ n a b l)
  where
    bounded : (x m n : ℕ) → x ≤ 1 * m → m ≡ n * 1 → n ≤ 1048576 → x ≤ most_elements
    bounded x m n a b l = omega (arith, a, b, l)

object_small : (p : PlainProgram) → IsWholeProgram p → (o : PlainObject) → IsWholeObject p o → IsSmall p (single_of p o.type)
object_small p whole o i = small_variable p whole o.type i.object (bounded o.bytes (size_of p.structures o.type) i.bytes_are i.small)
  where
    bounded : (b s : ℕ) → b ≡ s → b ≤ 1048576 → s ≤ 1048576
    bounded b s e l = omega (arith, e, l)

kinds_small : (p : PlainProgram) → IsWholeProgram p → (o : ℕ) (k : Kind) → slice_get (opening_kinds p) o ≡ Some k → IsSmall p k
kinds_small p whole o k e =
    either_get (map (λ (object : PlainObject). single_of p object.type) p.objects) (map (λ (l : PlainLiteral). single_of p (text_type (length l.bytes))) p.literals) o k e
    (λ e. let h : HasMapped (λ (object : PlainObject). single_of p object.type) p.objects o k = map_back (λ (object : PlainObject). single_of p object.type) p.objects o k e in
    subst (λ k. IsSmall p k) h.is (object_small p whole h.one (all_at (IsWholeObject p) p.objects o h.one whole.objects h.there)))
    (λ j e. let h : HasMapped (λ (l : PlainLiteral). single_of p (text_type (length l.bytes))) p.literals j k = map_back (λ (l : PlainLiteral). single_of p (text_type (length l.bytes))) p.literals j k e in
    subst (λ k. IsSmall p k) h.is (text_small p whole (length h.one.bytes) (all_at (λ (l : PlainLiteral). length l.bytes ≤ 1048576) p.literals j h.one whole.literals_small h.there)))

-- ## The objects

-- the cells that objects of static lifetime are given fit
pub record CellsFit (p : PlainProgram) (ks : List Kind) (cells : PlainObject → List Cell) : Type 0 where
  pub fit : (o : PlainObject) → IsWholeObject p o → AllFit p ks (kind_scalars p (single_of p o.type)) (cells o)

above_append : (n : ℕ) (xs ys : List Object) → Above n xs → Above n ys → Above n (xs ++ ys)
above_append n [] ys f g = g
above_append n (x ∷ xs) ys f g = (f.0, above_append n xs ys f.1 g)

above_statics : (cells : PlainObject → List Cell) (m n : ℕ) (objects : List PlainObject) → m < n → Above m (static_objects cells n objects)
above_statics cells m n [] l = tt
above_statics cells m n (o ∷ objects) l =
    let rest : Above m (static_objects cells (suc n) objects) = above_statics cells m (suc n) objects (omega (arith, l)) in cond_both o.sensor _ _ (Above m) (λ e. rest) (λ e. (l, rest))

above_literals : (m n : ℕ) (literals : List PlainLiteral) → m < n → Above m (literal_objects n literals)
above_literals m n [] l = tt
above_literals m n (x ∷ literals) l = (l, above_literals m (suc n) literals (omega (arith, l)))

-- objects of static lifetime fit, and others that stand after them
statics_fit : (p : PlainProgram) (ks : List Kind) (cells : PlainObject → List Cell) (n : ℕ) (objects : List PlainObject) (ys : List Object) → CellsFit p ks cells → All (IsWholeObject p) objects →
    ((i : ℕ) (o : PlainObject) → slice_get objects i ≡ Some o → slice_get ks (n + i) ≡ Some (single_of p o.type)) → AllObjects p ks ys → ((m : ℕ) → m < n + length objects → Above m ys) → AllObjects p ks (static_objects cells n objects ++ ys)
statics_fit p ks cells n [] ys c whole there others after = others
statics_fit p ks cells n (o ∷ objects) ys c whole there others after =
    let rest : AllObjects p ks (static_objects cells (suc n) objects ++ ys) =
    statics_fit p ks cells (suc n) objects ys c (All-tail (IsWholeObject p) o objects whole) (λ i u e. subst (λ m. slice_get ks m ≡ Some (single_of p u.type)) (one_more n i) (there (suc i) u e)) others
    (λ m l. after m (further m n (length objects) l)) in
    cond_both o.sensor _ _ (λ xs. AllObjects p ks (xs ++ ys)) (λ e. rest) (λ e. (
      (
        record { kind = single_of p o.type; opened = subst (λ m. slice_get ks m ≡ Some (single_of p o.type)) (no_more n) (there 0 o refl); cells = c.fit o (All-head (IsWholeObject p) o objects whole) },
        above_append n (static_objects cells (suc n) objects) ys (above_statics cells n (suc n) objects (omega arith)) (after n (first n (length objects))),
      ),
      rest,
    ))
  where
    no_more : (n : ℕ) → n + 0 ≡ n
    no_more n = omega arith

    one_more : (n i : ℕ) → n + suc i ≡ suc n + i
    one_more n i = omega arith

    further : (m n k : ℕ) → m < suc n + k → m < n + suc k
    further m n k l = omega (arith, l)

    first : (n k : ℕ) → n < n + suc k
    first n k = omega arith

letters_fit : (p : PlainProgram) (ks : List Kind) (bytes : List ℕ) → AllFit p ks (repeated (length bytes) (integer false Char ∷ [])) (map (λ byte. holding (Int (converted Char (pos byte)))) bytes)
letters_fit p ks [] = tt
letters_fit p ks (byte ∷ bytes) = (converted_in Char (pos byte), letters_fit p ks bytes)

text_cells : (p : PlainProgram) (ks : List Kind) (bytes : List ℕ) → AllFit p ks (scalars p (text_type (length bytes))) (map (λ byte. holding (Int (converted Char (pos byte)))) bytes)
text_cells p ks bytes = subst (λ ts. AllFit p ks ts (map (λ byte. holding (Int (converted Char (pos byte)))) bytes))
    (sym (scalars_array p false (integer false Char) (length bytes) ∙ ap (λ ts. repeated (length bytes) ts) (scalars_integer p false Char))) (letters_fit p ks bytes)

literals_fit : (p : PlainProgram) (ks : List Kind) (n : ℕ) (literals : List PlainLiteral) → ((i : ℕ) (l : PlainLiteral) → slice_get literals i ≡ Some l → slice_get ks (n + i) ≡ Some (single_of p (text_type (length l.bytes)))) → AllObjects p ks (literal_objects n literals)
literals_fit p ks n [] there = tt
literals_fit p ks n (l ∷ literals) there = (
  (
    record {
      kind = single_of p (text_type (length l.bytes));
      opened = subst (λ m. slice_get ks m ≡ Some (single_of p (text_type (length l.bytes)))) (no_more n) (there 0 l refl);
      cells = single_cells p ks (text_type (length l.bytes)) _ (text_cells p ks l.bytes);
    },
    above_literals n (suc n) literals (omega arith),
  ),
  literals_fit p ks (suc n) literals (λ i u e. subst (λ m. slice_get ks m ≡ Some (single_of p (text_type (length u.bytes)))) (one_more n i) (there (suc i) u e)),
)
  where
    no_more : (n : ℕ) → n + 0 ≡ n
    no_more n = omega arith

    one_more : (n i : ℕ) → n + suc i ≡ suc n + i
    one_more n i = omega arith

opened_sound : (p : PlainProgram) → IsWholeProgram p → (cells : PlainObject → List Cell) → CellsFit p (opening_kinds p) cells → (world : World) → IsWorld world → (left : ℕ) → Sound p (opening_kinds p) (opening_with cells p world left)
opened_sound p whole cells c world i left = record {
  count = length-append (map (λ (object : PlainObject). single_of p object.type) p.objects) (map (λ (l : PlainLiteral). single_of p (text_type (length l.bytes))) p.literals) ∙
      (ap (λ n. n + length (map (λ (l : PlainLiteral). single_of p (text_type (length l.bytes))) p.literals)) (mapped_length (λ (object : PlainObject). single_of p object.type) p.objects) ∙
      ap (λ n. length p.objects + n) (mapped_length (λ (l : PlainLiteral). single_of p (text_type (length l.bytes))) p.literals));
  sizes = kinds_small p whole;
  statics = static_kind p;
  literals = literal_kind p;
  all = statics_fit p (opening_kinds p) cells 0 p.objects (literal_objects (length p.objects) p.literals) c whole.objects
      (λ i o e. subst (λ m. slice_get (opening_kinds p) m ≡ Some (single_of p o.type)) (zero_plus i) (static_kind p i o e)) (literals_fit p (opening_kinds p) (length p.objects) p.literals (literal_kind p))
      (λ m l. above_literals m (length p.objects) p.literals (counted m (length p.objects) l));
  input_bytes = i.input;
  sensor_values = i.sensors;
}
  where
    zero_plus : (i : ℕ) → i ≡ 0 + i
    zero_plus i = omega arith

    counted : (m n : ℕ) → m < 0 + n → m < n
    counted m n l = omega (arith, l)

-- ## Initial values

zeros_are : (p : PlainProgram) (ks : List Kind) (t : PlainType) → AllFit p ks (kind_scalars p (single_of p t)) (zero_cells (scalars p t))
zeros_are p ks t = single_cells p ks t (zero_cells (scalars p t)) (zeros_fit p ks (scalars p t) (scalars_scalar p.structures (bare p.structures t)))

-- the state in which constants are evaluated is sound
constants_sound : (p : PlainProgram) → IsWholeProgram p → Sound p (opening_kinds p) (constant_state p)
constants_sound p whole = opened_sound p whole (λ object. zero_cells (scalars p object.type)) (record { fit = λ o i. zeros_are p (opening_kinds p) o.type })
    (record { input = []; denied = []; sensors = [] }) (record { input = All-nil (λ byte. byte < 256); sensors = All-nil IsSensorValue }) (2 ^ 64)

no_call : Calls
no_call = λ k xs w. ends StepsSpent w

no_calls : (p : PlainProgram) → KeepSound p (λ k xs w. ends StepsSpent w)
no_calls p = record { keeps = λ f g xs w ks there fits so. ended p ks w so }

nothing_seen : AreSeen [] (λ n. None)
nothing_seen = record { seen = λ n v e. absurd (none-some _ e) }

-- where no object was opened, the kinds are the same
same_kinds : (ks js : List Kind) (n : ℕ) → Grows ks js → length js ≡ n → length ks ≡ n → js ≡ ks
same_kinds ks js n g a b = case g.more g.is
  where
    case : (more : List Kind) → js ≡ ks ++ more → js ≡ ks
    case [] e = e ∙ append-nil ks
    case (k ∷ more) e = absurd (let l : length js ≡ length ks + length (k ∷ more) = ap length e ∙ length-append ks (k ∷ more) in omega (arith, l, a, b))

constant_fits : (p : PlainProgram) (ks : List Kind) (n : ℕ) (u t : PlainType) (o : Progress Scalar) → length ks ≡ n → is_scalar t ≡ true → bare p.structures u ≡ bare p.structures t → Keeps p ks (λ ks. Fits p ks u) o → OpensBy n o → Fits p ks t (constant_scalar t o)
constant_fits p ks n u t (gives x w) l scalar e k q = fits_same p ks u t x e (subst (λ js. Fits p js u x) (same_kinds ks k.kinds n k.grows (k.sound.count ∙ q) l) k.value)
constant_fits p ks n u t (ends end w) l scalar e k q = zero_fits p ks t scalar

constants_fit : (p : PlainProgram) (ts : List PlainType) (ks : List Kind) (n : ℕ) (o : Progress (List (ℕ × Scalar))) → length ks ≡ n → Keeps p ks (ItemsFit p ts) o → OpensBy n o → ItemsFit p ts ks (constant_scalars o)
constants_fit p ts ks n (gives xs w) l k q = subst (λ js. ItemsFit p ts js xs) (same_kinds ks k.kinds n k.grows (k.sound.count ∙ q) l) k.value
constants_fit p ts ks n (ends end w) l k q = tt

listed_cells_fit : (p : PlainProgram) (ks : List Kind) (all : List PlainType) (xs : List (ℕ × Scalar)) (i : ℕ) (ts : List PlainType) → ((j : ℕ) (u : PlainType) → slice_get ts j ≡ Some u → slice_get all (i + j) ≡ Some u) → AreScalar ts → ItemsFit p all ks xs → AllFit p ks ts (listed_cells i ts xs)
listed_cells_fit p ks all xs i [] there scalar f = tt
listed_cells_fit p ks all xs i (t ∷ ts) there scalar f = (
  listed_fits p all ks i t xs scalar.0 (subst (λ j. slice_get all j ≡ Some t) (no_more i) (there 0 t refl)) f,
  listed_cells_fit p ks all xs (suc i) ts (λ j u e. subst (λ j. slice_get all j ≡ Some u) (one_more i j) (there (suc j) u e)) scalar.1 f,
)
  where
    no_more : (i : ℕ) → i + 0 ≡ i
    no_more i = omega arith

    one_more : (i j : ℕ) → i + suc j ≡ suc i + j
    one_more i j = omega arith

-- a function without anything, in which constants stand
nowhere : PlainFunction
nowhere = record { name = []; span = record { file = 0; start = 0; end = 0 }; static = false; parameters = 0; result = integer false Char; variables = []; body = no_statements }

few_nowhere : (p : PlainProgram) → AreFew p nowhere.variables
unfolding nowhere
few_nowhere p = record { few = λ n v e. absurd (none-some _ e); object = λ n v e. absurd (none-some _ e) }

initial_fits : (p : PlainProgram) → IsWholeProgram p → (t : PlainType) (initializer : PlainInitializer) → IsObjectType p.structures t → IsWholeInitializer (surroundings_of p) t initializer → IsStaticInitializer initializer →
    AllFit p (opening_kinds p) (kind_scalars p (single_of p t)) (initial_cells p t initializer)
unfolding nowhere
initial_fits p whole t not_initialized object i static = zeros_are p (opening_kinds p) t
initial_fits p whole t (copied q) object i static = absurd static
initial_fits p whole t (single v) object i static =
    let out : IsLaidOut p = laid_out p whole in
    let so : Sound p (opening_kinds p) (constant_state p) = constants_sound p whole in
    let keeps : Keeps p (opening_kinds p) (λ ks. Fits p ks (type_of v)) (evaluate (constant_setting p) [] v (constant_state p)) =
    evaluate_keeps p out whole (λ k xs w. ends StepsSpent w) (no_calls p) 0 [] (λ n. None) nothing_seen [] v i.whole (constant_state p) (opening_kinds p) so tt in
    let quiet : Opens (constant_state p).opened (evaluate (constant_setting p) [] v (constant_state p)) = evaluate_opens (constant_setting p) [] (constant_state p).opened v (static_quiet v static) (constant_state p) refl in
    let fits : Fits p (opening_kinds p) t (constant_scalar t (evaluate (constant_setting p) [] v (constant_state p))) =
    constant_fits p (opening_kinds p) (constant_state p).opened (type_of v) t (evaluate (constant_setting p) [] v (constant_state p)) so.count i.scalar (ap (bare p.structures) i.type_is ∙ bare_unqualified p.structures t) keeps quiet.same in
    single_cells p (opening_kinds p) t (holding (constant_scalar t (evaluate (constant_setting p) [] v (constant_state p))) ∷ [])
    (subst (λ ts. AllFit p (opening_kinds p) ts (holding (constant_scalar t (evaluate (constant_setting p) [] v (constant_state p))) ∷ [])) (sym (scalars_are p out t i.scalar))
    (fits_same p (opening_kinds p) t (bare p.structures t) (constant_scalar t (evaluate (constant_setting p) [] v (constant_state p))) (sym (out.bare_again t)) fits, tt))
initial_fits p whole t (listed at items) object i static =
    let out : IsLaidOut p = laid_out p whole in
    let so : Sound p (opening_kinds p) (constant_state p) = constants_sound p whole in
    let keeps : Keeps p (opening_kinds p) (ItemsFit p (scalars p t)) (listed_scalars (constant_setting p) [] items (constant_state p)) =
    listed_keeps p out whole (λ k xs w. ends StepsSpent w) (no_calls p) 0 0 nowhere (few_nowhere p) [] (scalars p t) 0 items (scalars_scalar p.structures (bare p.structures t))
    (subst (λ ts. AreWholeItems (surroundings_of p) ts 0 items) (sym (lies_bare p.structures whole.structures t object).same_scalars) i.whole) (record { held = []; opened = [] }) (constant_state p) (opening_kinds p) so tt in
    let quiet : Opens (constant_state p).opened (listed_scalars (constant_setting p) [] items (constant_state p)) = listed_opens (constant_setting p) [] (constant_state p).opened items static (constant_state p) refl in
    let fits : ItemsFit p (scalars p t) (opening_kinds p) (constant_scalars (listed_scalars (constant_setting p) [] items (constant_state p))) =
    constants_fit p (scalars p t) (opening_kinds p) (constant_state p).opened (listed_scalars (constant_setting p) [] items (constant_state p)) so.count keeps quiet.same in
    single_cells p (opening_kinds p) t _ (listed_cells_fit p (opening_kinds p) (scalars p t) _ 0 (scalars p t) (λ j u e. subst (λ k. slice_get (scalars p t) k ≡ Some u) (zero_plus j) e) (scalars_scalar p.structures (bare p.structures t)) fits)
  where
    zero_plus : (j : ℕ) → j ≡ 0 + j
    zero_plus j = omega arith

pub opening_sound : OpeningIsSound
opening_sound p whole world i left = opened_sound p whole (λ object. initial_cells p object.type object.initializer)
    (record { fit = λ o h. initial_fits p whole o.type o.initializer h.object h.initializer h.constants }) world i left
