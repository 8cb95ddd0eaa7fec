-- Where a call enters its function: its arguments are set, the objects that are opened for them are set and live, and no other died.
use Rattle.std.proofs.Common.{◌≡◌, ℕ, zero, suc, ◌+◌, ◌<◌, cond, Bool, true, false, List, [], ◌∷◌, ◌++◌, map, take, refl, ◌∙◌, ap, sym, subst, arith, Some, slice_get}
use Rattle.std.specs.Prelude.{◌||◌}
use Rattle.std.specs.List.{All}
use Rattle.std.proofs.lemmas.List.Elements.{All-head, All-tail, All-nil, All-cons}
use Rattle.std.proofs.lemmas.Option.{same_Some, none-some}
use Rattle.p10_core.specs.Types.{PlainType, bare}
use Rattle.p10_core.specs.Rows.{is_scalar}
use Rattle.p10_core.specs.Typed.{PlainVariable, PlainFunction, PlainProgram}
use Rattle.p10_core.specs.WholePrograms.{is_among, numbers_from, parameter_types, IsWholeFunction, IsWholeProgram}
use Rattle.p10_meaning.specs.declared.pointers.Scalar.{Scalar}
use Rattle.p10_meaning.specs.Pointers.{holding}
use Rattle.p10_meaning.specs.Objects.{declared, Object, find}
use Rattle.p10_meaning.specs.States.{State}
use Rattle.p10_meaning.specs.Values.{holds, stands, absent, open_object}
use Rattle.p10_meaning.specs.Statements.{normal}
use Rattle.p10_meaning.specs.Calling.{Entered, with_variable, entered}
use Rattle.p10_meaning.specs.Sound.{Kind, IsSmall, single_of, Fits, AllFit, kind_scalars, Sound, Grows, ScalarsFit}
use Rattle.p10_meaning.proofs.Geometry.{IsLaidOut}
use Rattle.p10_meaning.proofs.LaidOut.{laid_out}
use Rattle.p10_meaning.proofs.Fitting.{grown, fits_grown, sound_push, fits_same}
use Rattle.p10_meaning.proofs.Moves.{scalars_are}
use Rattle.p10_meaning.proofs.SoundStatements.{AreFew}
use Rattle.p10_meaning.proofs.SoundCalls.{few_variables}
use Rattle.p10_pass.specs.Marks.{is_marked}
use Rattle.p10_clean.specs.Settings.{set_at_entry, parameter_marks}
use Rattle.p10_clean_soundness.specs.private.Setting.{IsFilled, StandsFor, SetUp}
use Rattle.p10_clean_soundness.specs.private.Objects.{IsLive, Settled, AreLive, LeavesClean}
use Rattle.p10_clean_soundness.proofs.Apart.{below_from}
use Rattle.p10_clean_soundness.proofs.Closing.{leaves_same, leaves_then, live_on, OpensNew}
use Rattle.p10_clean_soundness.proofs.SettingUp.{holding_filled}
use Rattle.p10_clean_soundness.proofs.NewObjects.{IsFull, IsOpen, other_number, opened_survive, opened_settled, opened_apart, opened_new, opened_full, full_settled}

abbrev types_of : ℕ → List PlainVariable → List PlainType
types_of m vs = map (λ (v : PlainVariable). v.type) (take m vs)

-- ## What stands for the parameters

-- an argument stands for each parameter
argument_stands : (p : PlainProgram) (ks : List Kind) (m : ℕ) (vs : List PlainVariable) (xs : List Scalar) (w : State) → ScalarsFit p ks (types_of m vs) xs → (n : ℕ) (v : PlainVariable) (b : Bool) → n < m → slice_get vs n ≡ Some v → StandsFor v.frame b (slice_get (entered vs xs w).frame.held n)
argument_stands p ks m [] xs w fit n v b l e = absurd (none-some _ e)
argument_stands p ks zero (u ∷ vs) xs w fit n v b l e = absurd (omega (arith, l))
argument_stands p ks (suc m) (u ∷ vs) [] w fit n v b l e = absurd fit
argument_stands p ks (suc m) (u ∷ vs) (x ∷ xs) w fit zero v b l e = subst (λ (v : PlainVariable). StandsFor v.frame b (slice_get (entered (u ∷ vs) (x ∷ xs) w).frame.held 0)) (same_Some _ _ e) (case u.frame)
  where
    case : (frame : Bool) → StandsFor frame b (slice_get (cond frame (with_variable (holds (holding x)) (entered vs xs w).frame.opened (entered vs xs w))
        (with_variable (stands w.opened) (w.opened ∷ (entered vs xs (open_object declared (holding x ∷ []) w)).frame.opened) (entered vs xs (open_object declared (holding x ∷ []) w)))).frame.held 0)
    case true = (refl, λ m. holding_filled x)
    case false = refl
argument_stands p ks (suc m) (u ∷ vs) (x ∷ xs) w fit (suc n) v b l e = case u.frame (argument_stands p ks m vs xs w fit.1 n v b (omega (arith, l)) e) (argument_stands p ks m vs xs (open_object declared (holding x ∷ []) w) fit.1 n v b (omega (arith, l)) e)
  where
    case : (frame : Bool) → StandsFor v.frame b (slice_get (entered vs xs w).frame.held n) → StandsFor v.frame b (slice_get (entered vs xs (open_object declared (holding x ∷ []) w)).frame.held n) →
        StandsFor v.frame b (slice_get (cond frame (with_variable (holds (holding x)) (entered vs xs w).frame.opened (entered vs xs w))
        (with_variable (stands w.opened) (w.opened ∷ (entered vs xs (open_object declared (holding x ∷ []) w)).frame.opened) (entered vs xs (open_object declared (holding x ∷ []) w)))).frame.held (suc n))
    case true h k = h
    case false h k = k

-- ## Objects

-- where a function is entered
pub record EntersClean (p : PlainProgram) (opening : List ℕ) (before : List Object) (start : Entered) : Type 0 where
  pub clean : LeavesClean p opening before start.state
  pub live : (n object : ℕ) → slice_get start.frame.held n ≡ Some (stands object) → IsLive declared opening start.state.objects object
  pub new : (o : ℕ) (x : Object) → find o before ≡ Some x → is_among o start.frame.opened ≡ false

no_arguments : (p : PlainProgram) (opening : List ℕ) (vs : List PlainVariable) (w : State) → Settled p opening w.objects → EntersClean p opening w.objects (entered vs [] w)
no_arguments p opening [] w s = record { clean = leaves_same p opening w s; live = λ n o e. absurd (none-some _ e); new = λ o x e. refl }
no_arguments p opening (v ∷ vs) w s =
    let h : EntersClean p opening w.objects (entered vs [] w) = no_arguments p opening vs w s in
    record { clean = h.clean; live = λ n o e. at h n o e; new = h.new }
  where
    at : EntersClean p opening w.objects (entered vs [] w) → (n o : ℕ) → slice_get (absent ∷ (entered vs [] w).frame.held) n ≡ Some (stands o) → IsLive declared opening (entered vs [] w).state.objects o
    at h zero o e = absurd cc
    at h (suc n) o e = h.live n o e

scalars_grown : (p : PlainProgram) (ks js : List Kind) (ts : List PlainType) (xs : List Scalar) → Grows ks js → ScalarsFit p ks ts xs → ScalarsFit p js ts xs
scalars_grown p ks js [] [] g f = tt
scalars_grown p ks js [] (x ∷ xs) g f = f
scalars_grown p ks js (t ∷ ts) [] g f = f
scalars_grown p ks js (t ∷ ts) (x ∷ xs) g f = (fits_grown p ks js t x g f.0, scalars_grown p ks js ts xs g f.1)

-- the state with an object for an argument
opened_sound : (p : PlainProgram) → IsLaidOut p → (t : PlainType) (x : Scalar) (w : State) (ks : List Kind) → is_scalar t ≡ true → IsSmall p (single_of p t) → Fits p ks t x → Sound p ks w → Sound p (ks ++ single_of p t ∷ []) (open_object declared (holding x ∷ []) w)
opened_sound p out t x w ks scalar few fits so =
    let k : Kind = single_of p t in
    let js : List Kind = ks ++ k ∷ [] in
    let one : kind_scalars p k ≡ bare p.structures t ∷ [] = ap (λ ts. ts ++ []) (scalars_are p out t scalar) in
    sound_push p ks w.objects w.opened w.input w.sensors k declared (holding x ∷ []) so few
    (subst (λ ts. AllFit p js ts (holding x ∷ [])) (sym one) (fits_same p js t (bare p.structures t) x (sym (out.bare_again t)) (fits_grown p ks js t x (grown ks k) fits), tt))

-- one more object for a parameter
object_entered : (p : PlainProgram) (opening : List ℕ) (vs : List PlainVariable) (x : Scalar) (xs : List Scalar) (w : State) (ks : List Kind) → Sound p ks w → Settled p opening w.objects →
    (Settled p opening (open_object declared (holding x ∷ []) w).objects → EntersClean p opening (open_object declared (holding x ∷ []) w).objects (entered vs xs (open_object declared (holding x ∷ []) w))) →
    EntersClean p opening w.objects (with_variable (stands w.opened) (w.opened ∷ (entered vs xs (open_object declared (holding x ∷ []) w)).frame.opened) (entered vs xs (open_object declared (holding x ∷ []) w)))
object_entered p opening vs x xs w ks so s go =
    let now : State = open_object declared (holding x ∷ []) w in
    let one : IsOpen w.opened now.objects = opened_new p ks w so opening (holding x ∷ []) in
    let full : IsFull w.opened now.objects = opened_full p ks w so opening (holding x ∷ []) (All-cons IsFilled (holding x) [] (holding_filled x) (All-nil IsFilled)) in
    let settled_is : Settled p opening now.objects = full_settled p w.opened opening now.objects full (opened_settled p ks w so opening (holding x ∷ []) s) in
    let first : LeavesClean p opening w.objects now = record { settled = settled_is; survive = opened_survive p ks w so opening (holding x ∷ []) } in
    let rest : EntersClean p opening now.objects (entered vs xs now) = go settled_is in
    let object_is : IsLive declared opening now.objects w.opened = record { object = one.object; there = one.live; origin_is = one.origin_is; apart = opened_apart p ks w so opening (holding x ∷ []) s } in
    record {
      clean = leaves_then p opening w.objects now (entered vs xs now).state first rest.clean;
      live = λ n o e. at rest object_is n o e;
      new = λ o y e. ap (λ b. b || is_among o (entered vs xs now).frame.opened) (other_number p ks w so opening (holding x ∷ []) o y e) ∙ rest.new o (first.survive.each o y e).object (first.survive.each o y e).there;
    }
  where
    at : EntersClean p opening (open_object declared (holding x ∷ []) w).objects (entered vs xs (open_object declared (holding x ∷ []) w)) → IsLive declared opening (open_object declared (holding x ∷ []) w).objects w.opened → (n o : ℕ) →
        slice_get (stands w.opened ∷ (entered vs xs (open_object declared (holding x ∷ []) w)).frame.held) n ≡ Some (stands o) → IsLive declared opening (entered vs xs (open_object declared (holding x ∷ []) w)).state.objects o
    at rest l zero o e =
        let same : w.opened ≡ o = cc in
        subst (λ o. IsLive declared opening (entered vs xs (open_object declared (holding x ∷ []) w)).state.objects o) same
        (live_on declared opening (open_object declared (holding x ∷ []) w).objects (entered vs xs (open_object declared (holding x ∷ []) w)).state.objects w.opened rest.clean.survive l)
    at rest l (suc n) o e = rest.live n o e

fewer : (p : PlainProgram) (v : PlainVariable) (vs : List PlainVariable) → AreFew p (v ∷ vs) → AreFew p vs
fewer p v vs few = record { few = λ n u e. few.few (suc n) u e; object = λ n u e. few.object (suc n) u e }

enters_clean : (p : PlainProgram) → IsLaidOut p → (opening : List ℕ) (m : ℕ) (vs : List PlainVariable) (xs : List Scalar) (w : State) (ks : List Kind) → AreFew p vs → All (λ t. is_scalar t ≡ true) (types_of m vs) → ScalarsFit p ks (types_of m vs) xs → Sound p ks w → Settled p opening w.objects →
    EntersClean p opening w.objects (entered vs xs w)
enters_clean p out opening m [] xs w ks few scalar fit so s = record { clean = leaves_same p opening w s; live = λ n o e. absurd (none-some _ e); new = λ o x e. refl }
enters_clean p out opening m (v ∷ vs) [] w ks few scalar fit so s = no_arguments p opening (v ∷ vs) w s
enters_clean p out opening zero (v ∷ vs) (x ∷ xs) w ks few scalar fit so s = absurd fit
enters_clean p out opening (suc m) (v ∷ vs) (x ∷ xs) w ks few scalar fit so s = case v.frame
    (held_entered (enters_clean p out opening m vs xs w ks (fewer p v vs few) scalars fit.1 so s))
    (object_entered p opening vs x xs w ks so s (λ s. enters_clean p out opening m vs xs (open_object declared (holding x ∷ []) w) (ks ++ single_of p v.type ∷ []) (fewer p v vs few) scalars
    (scalars_grown p ks (ks ++ single_of p v.type ∷ []) (types_of m vs) xs (grown ks (single_of p v.type)) fit.1)
    (opened_sound p out v.type x w ks (All-head (λ t. is_scalar t ≡ true) v.type (types_of m vs) scalar) (few.few 0 v refl) fit.0 so) s))
  where
    scalars : All (λ t. is_scalar t ≡ true) (types_of m vs)
    scalars = All-tail (λ t. is_scalar t ≡ true) v.type (types_of m vs) scalar

    held_entered : EntersClean p opening w.objects (entered vs xs w) → EntersClean p opening w.objects (with_variable (holds (holding x)) (entered vs xs w).frame.opened (entered vs xs w))
    held_entered h = record { clean = h.clean; live = λ n o e. at n o e; new = h.new }
      where
        at : (n o : ℕ) → slice_get (holds (holding x) ∷ (entered vs xs w).frame.held) n ≡ Some (stands o) → IsLive declared opening (entered vs xs w).state.objects o
        at zero o e = absurd cc
        at (suc n) o e = h.live n o e

    case : (b : Bool) → EntersClean p opening w.objects (with_variable (holds (holding x)) (entered vs xs w).frame.opened (entered vs xs w)) →
        EntersClean p opening w.objects (with_variable (stands w.opened) (w.opened ∷ (entered vs xs (open_object declared (holding x ∷ []) w)).frame.opened) (entered vs xs (open_object declared (holding x ∷ []) w))) →
        EntersClean p opening w.objects (cond b (with_variable (holds (holding x)) (entered vs xs w).frame.opened (entered vs xs w))
        (with_variable (stands w.opened) (w.opened ∷ (entered vs xs (open_object declared (holding x ∷ []) w)).frame.opened) (entered vs xs (open_object declared (holding x ∷ []) w))))
    case true a b = a
    case false a b = b

-- ## Functions

-- a function is entered with arguments that fit: its parameters are set and live, and only new objects were opened
pub record EntersFunction (p : PlainProgram) (f : PlainFunction) (opening : List ℕ) (before : List Object) (start : Entered) : Type 0 where
  pub set_up : SetUp f.variables (numbers_from 0 f.parameters) (set_at_entry f) start.frame.held
  pub live : AreLive opening (numbers_from 0 f.parameters) start.frame.held start.state.objects
  pub clean : LeavesClean p opening before start.state
  pub opens : OpensNew before [] (record { flow = normal; frame = start.frame })

pub function_entered : (p : PlainProgram) → IsWholeProgram p → (k : ℕ) (f : PlainFunction) → slice_get p.functions k ≡ Some f → (opening : List ℕ) (xs : List Scalar) (w : State) (ks : List Kind) → ScalarsFit p ks (parameter_types f) xs → Sound p ks w → Settled p opening w.objects →
    EntersFunction p f opening w.objects (entered f.variables xs w)
function_entered p whole k f there opening xs w ks fit so s =
    let i : IsWholeFunction p k f = whole.functions k f there in
    let h : EntersClean p opening w.objects (entered f.variables xs w) = enters_clean p (laid_out p whole) opening f.parameters f.variables xs w ks (few_variables p whole k f i) i.parameters_scalar fit so s in
    record {
      set_up = record { each = λ n v e q. argument_stands p ks f.parameters f.variables xs w fit n v (is_marked (parameter_marks 0 f.parameters f.variables) n) (below n (below_from n 0 f.parameters e)) q };
      live = record { each = λ n o e q. h.live n o q };
      clean = h.clean;
      opens = record { each = λ o x e q. let no : is_among o (entered f.variables xs w).frame.opened ≡ false = h.new o x e in absurd (both (is_among o (entered f.variables xs w).frame.opened) q no) };
    }
  where
    below : (n : ℕ) → n < 0 + f.parameters → n < f.parameters
    below n l = omega (arith, l)

    both : (b : Bool) → b ≡ true → b ≡ false → ⊥
    both b e q = absurd cc
