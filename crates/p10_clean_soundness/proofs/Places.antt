-- Where a place has no flaws, it is located: a frame variable, a sensor, or an element of a live object.
use Rattle.std.proofs.Common.{◌≡◌, ℕ, zero, suc, ◌+◌, ◌<◌, ltb, eqb, ◌&&◌, Bool, true, false, List, [], ◌∷◌, length, refl, sym, ◌∙◌, ap, subst, arith, Option, Some, None, Ok, slice_get}
use Rattle.std.specs.Prelude.{if◌then◌else◌, Contains, slice_index_or}
use Rattle.std.specs.Option.{option_map}
use Rattle.std.proofs.lemmas.Bool.{eq-eqb}
use Rattle.std.proofs.lemmas.Option.{same_Some, none-some}
use Rattle.p10_base.specs.declared.at.At.{At}
use Rattle.p10_int.specs.declared.operators.Stop.TheVariants.{U7}
use Rattle.p10_core.specs.Types.{PlainType, structure, bare}
use Rattle.p10_core.specs.Rows.{is_scalar}
use Rattle.p10_core.specs.Typed.{PlainPlace, place, place_type, variable, global, literal, member, PlainVariable, PlainObject, PlainLiteral, PlainFunction, PlainProgram}
use Rattle.p10_core.specs.Whole.{SeenVariable, SeenObject, Surroundings, IsVariable, IsObject, IsLiteral, IsMember, IsWholePlace}
use Rattle.p10_core.specs.WholePrograms.{is_among, seen_variable, seen_object, around, IsWholeVariable, IsWholeProgram}
use Rattle.p10_cert.specs.Claims.{Value, Loop, Claims}
use Rattle.p10_meaning.specs.declared.pointers.Ptr.TheVariants.{Null, To}
use Rattle.p10_meaning.specs.declared.pointers.Window.{Window}
use Rattle.p10_meaning.specs.Pointers.{window_in, first_of, whole_window}
use Rattle.p10_meaning.specs.Objects.{declared, Object, find, on_ok, or_stop, inner}
use Rattle.p10_meaning.specs.States.{State, gives, or_undefined}
use Rattle.p10_meaning.specs.Values.{Setting, Held, holds, stands, absent, width, scalars_before, Target, Variable, Sensor, Element, variable_target, global_target, literal_number, literal_target, pointer_to, locate}
use Rattle.p10_meaning.specs.Statements.{Frame}
use Rattle.p10_meaning.specs.Calling.{Depth, setting_of, call_at}
use Rattle.p10_meaning.specs.Sound.{region_at}
use Rattle.p10_meaning.proofs.LaidOut.{all_at}
use Rattle.p10_evaluation.specs.Claimed.{ResultsLie}
use Rattle.p10_evaluation.proofs.Failing.{in_member}
use Rattle.p10_clean.specs.Settings.{Settings, is_set}
use Rattle.p10_clean.specs.Literals.{lies_in_literal}
use Rattle.p10_clean_soundness.specs.private.Stays.{Stays}
use Rattle.p10_clean_soundness.specs.private.Setting.{StandsFor, SetUp}
use Rattle.p10_clean_soundness.specs.private.Objects.{IsLive, ReachesElement}
use Rattle.p10_clean_soundness.specs.private.Standing.{StandsClean}
use Rattle.p10_clean_soundness.proofs.Staying.{stays_step, stays_then, stays_or}
use Rattle.p10_clean_soundness.proofs.Closing.{leaves_same}
use Rattle.p10_clean_soundness.proofs.ScalarTypes.{scalar_alike, integer_scalar}
use Rattle.p10_clean_soundness.proofs.Evaluated.{step_on, Located, Locates, AfterPlace, after_place}

-- ## What is there

-- a variable that is seen is in scope
pub record IsInScope (variables : List PlainVariable) (scope : List ℕ) (k : ℕ) : Type 0 where
  pub among : is_among k scope ≡ true
  pub variable_is : PlainVariable
  pub has : slice_get variables k ≡ Some variable_is

pub in_scope : (variables : List PlainVariable) (scope : List ℕ) (k : ℕ) (seen : SeenVariable) → (if is_among k scope then option_map seen_variable (slice_get variables k) else None) ≡ Some seen → IsInScope variables scope k
in_scope variables scope k seen e = by (is_among k scope) (slice_get variables k) refl refl e
  where
    by : (b : Bool) (o : Option PlainVariable) → is_among k scope ≡ b → slice_get variables k ≡ o → (if b then option_map seen_variable o else None) ≡ Some seen → IsInScope variables scope k
    by true (Some v) q h e = record { among = q; variable_is = v; has = h }
    by true None q h e = absurd (none-some _ e)
    by false o q h e = absurd (none-some _ e)

-- a string literal that is found by its number
abbrev IsThere : List PlainLiteral → ℕ → Option ℕ → Type 0
IsThere literals start None = ⊥
IsThere literals start (Some object) = (i : ℕ) × (object ≡ start + i) × ((l : PlainLiteral) × (slice_get literals i ≡ Some l))

next_there : (y : PlainLiteral) (xs : List PlainLiteral) (start : ℕ) (o : Option ℕ) → IsThere xs (suc start) o → IsThere (y ∷ xs) start o
next_there y xs start None f = f
next_there y xs start (Some object) (i, e, l) = (suc i, e ∙ shifted start i, l)
  where
    shifted : (s i : ℕ) → suc s + i ≡ s + suc i
    shifted s i = omega arith

first_there : (y : PlainLiteral) (xs : List PlainLiteral) (start k : ℕ) → (eqb y.number k ≡ false → IsThere xs (suc start) (literal_number k (suc start) xs)) → IsThere (y ∷ xs) start (literal_number k start (y ∷ xs))
first_there y xs start k later = by (eqb y.number k) refl
  where
    by : (b : Bool) → eqb y.number k ≡ b → IsThere (y ∷ xs) start (if b then Some start else literal_number k (suc start) xs)
    by true e = (0, plus_zero start, (y, refl))
      where
        plus_zero : (n : ℕ) → n ≡ n + 0
        plus_zero n = omega arith
    by false e = next_there y xs start (literal_number k (suc start) xs) (later e)

literal_there : (xs : List PlainLiteral) (start k : ℕ) (x : PlainLiteral) → k < length xs → slice_index_or xs k x ≡ x → IsThere xs start (literal_number x.number start xs)
literal_there [] start k x l e = absurd (omega (arith, l))
literal_there (y ∷ xs) start zero x l e = first_there y xs start x.number (λ b. let same : eqb y.number x.number ≡ true = eq-eqb y.number x.number (ap (λ (x : PlainLiteral). x.number) e) in absurd cc)
literal_there (y ∷ xs) start (suc k) x l e = first_there y xs start x.number (λ b. literal_there xs (suc start) k x (omega (arith, l)) e)

-- ## Moves

-- an array in an element of a live object
pub inner_is : (objects : List Object) (o : ℕ) (window : Window) (k at stride count : ℕ) (x : Object) → find o objects ≡ Some x → inner objects (To o window k) at stride count ≡ Ok (To o (window_in window k at stride count) 0)
inner_is objects o window k at stride count x e = ap (λ y. on_ok (or_stop y U7) (λ _. Ok (To o (window_in window k at stride count) 0))) e

pub both_true : (a b : Bool) → a ≡ true → b ≡ true → (a && b) ≡ true
both_true true b e g = g
both_true false b e g = absurd cc

-- a place that lies in an object, with what is reached there
pub record IsElementTarget (in_literal : Bool) (opening : List ℕ) (objects : List Object) (target : Target) : Type 0 where
  pub number : ℕ
  pub window : Window
  pub position : ℕ
  pub is : target ≡ Element (To number window position)
  pub reaches : ReachesElement in_literal opening objects number window position

module _ (p : PlainProgram) (whole : IsWholeProgram p) (n : ℕ) (depth : Depth) (number : ℕ) (f : PlainFunction) (there : slice_get p.functions number ≡ Some f)
    (calls : Option Claims) (loops : Option (List Loop)) (result : Option Value) (lie : ResultsLie p calls n (call_at n p depth)) (scope opening : List ℕ) (settings : Settings) (head : List Held) (frame : Frame) where
  abbrev s : Setting
  s = setting_of p n (call_at n p) depth f

  abbrev c : Surroundings
  c = around (region_at p number f scope false false)

  abbrev Stand : State → Type 0
  Stand w = StandsClean p f.variables n scope opening settings frame w

  abbrev IsAt : PlainPlace → State → Target → State → Type 0
  IsAt q w target u = Located p whole n depth number f there calls loops result lie scope opening settings head frame q w target u

  abbrev Finds : PlainPlace → Type 0
  Finds q = Locates p whole n depth number f there calls loops result lie scope opening settings head frame q

  abbrev Found : PlainPlace → State → Target → State → Type 0
  Found q w target u = AfterPlace p whole n depth number f there calls loops result lie scope opening settings head frame q w target u

  -- what stands for a variable in scope
  pub stands_for : (set : Settings) → SetUp f.variables scope set frame.held → (k : ℕ) (v : PlainVariable) → is_among k scope ≡ true → slice_get f.variables k ≡ Some v → StandsFor v.frame (is_set set k) (slice_get frame.held k)
  stands_for None set_up k v e h = absurd set_up
  stands_for (Some marks) set_up k v e h = set_up.each k v e h

  -- a place of another type than a scalar one lies in an object
  pub element_of : (q : PlainPlace) (w : State) (target : Target) (u : State) → Found q w target u → is_scalar (place_type q) ≡ false → IsElementTarget (lies_in_literal q) opening u.objects target
  element_of q w (Variable k) u g e =
      let v : IsWholeVariable p.structures g.fits.variable = all_at (IsWholeVariable p.structures) f.variables k g.fits.variable (whole.functions number f there).variables g.fits.there in
      let h : is_scalar (place_type q) ≡ true = scalar_alike p g.fits.variable.type (place_type q) g.fits.same (v.frame_scalar (g.of_frame g.fits.variable g.fits.there)) in
      absurd cc
  element_of q w Sensor u g e = let h : is_scalar (place_type q) ≡ true = integer_scalar (place_type q) g.fits in absurd cc
  element_of q w (Element Null) u g e = absurd g.reached
  element_of q w (Element (To o window position)) u g e = record { number = o; window = window; position = position; is = refl; reaches = g.reached }

  -- ## Names

  variable_found : (at : At) (t : PlainType) (k : ℕ) (v : PlainVariable) → slice_get f.variables k ≡ Some v → is_among k scope ≡ true → (w : State) → Stand w → (marked : Bool) (h : Option Held) → slice_get frame.held k ≡ h → StandsFor v.frame marked h →
      Stays (IsAt (place at t (variable k)) w) (or_undefined (variable_target k (width p t) h) at.span w (λ target. gives target w))
  variable_found at t k v has e w st marked (Some (holds cell)) is h =
      (leaves_same p opening w st.settled, eq-eqb k k refl, λ u g. subst (λ (v : PlainVariable). v.frame ≡ true) (same_Some v u (sym has ∙ g)) h.0)
  variable_found at t k v has e w st marked (Some (stands o)) is h =
      let l : IsLive declared opening w.objects o = st.live.each k o e is in
      (leaves_same p opening w st.settled, record { object = l.object; there = l.there; apart = l.apart; inside = refl; within = refl; declared_is = λ _. l.origin_is }, tt)
  variable_found at t k v has e w st marked (Some absent) is h = absurd h
  variable_found at t k v has e w st marked None is h = absurd h

  pub variable_place : (at : At) (t : PlainType) (k : ℕ) → IsVariable c k t → Finds (place at t (variable k))
  variable_place at t k i env clear w st =
      let here : IsInScope f.variables scope k = in_scope f.variables scope k i.seen i.there in
      variable_found at t k here.variable_is here.has here.among w st (is_set settings k) (slice_get frame.held k) refl (stands_for settings st.set_up k here.variable_is here.among here.has)

  global_found : (at : At) (t : PlainType) (k : ℕ) (seen : SeenObject) (o : Option PlainObject) → slice_get p.objects k ≡ o → option_map seen_object o ≡ Some seen → (w : State) → Stand w →
      Stays (IsAt (place at t (global k)) w) (or_undefined (global_target k (width p t) o) at.span w (λ target. gives target w))
  global_found at t k seen None is e w st = absurd (none-some _ e)
  global_found at t k seen (Some object) is e w st = by (object.sensor) refl
    where
      by : (b : Bool) → object.sensor ≡ b → Stays (IsAt (place at t (global k)) w) (or_undefined (Ok (if b then Sensor else Element (first_of k (width p t) 1))) at.span w (λ target. gives target w))
      by true q = (leaves_same p opening w st.settled, tt, tt)
      by false q =
          let l : IsLive declared opening w.objects k = st.settled.statics k object is q in
          (leaves_same p opening w st.settled, record { object = l.object; there = l.there; apart = l.apart; inside = refl; within = refl; declared_is = λ _. l.origin_is }, tt)

  pub global_place : (at : At) (t : PlainType) (k : ℕ) → IsObject c k t → Finds (place at t (global k))
  global_place at t k i env clear w st = global_found at t k i.seen (slice_get p.objects k) refl i.there w st

  literal_found : (at : At) (t : PlainType) (k : ℕ) (bytes : List ℕ) (o : Option ℕ) → IsThere p.literals (length p.objects) o → (w : State) → Stand w →
      Stays (IsAt (place at t (literal k bytes)) w) (or_undefined (literal_target (width p t) o) at.span w (λ target. gives target w))
  literal_found at t k bytes None h w st = absurd h
  literal_found at t k bytes (Some object) (i, e, l) w st =
      let r : ReachesElement true opening w.objects (length p.objects + i) (whole_window (width p t) 1) 0 =
      (let l = st.settled.literals i l.0 l.1 in record { object = l.object; there = l.there; apart = l.apart; inside = refl; within = refl; declared_is = λ h. absurd cc }) in
      (leaves_same p opening w st.settled, subst (λ o. ReachesElement true opening w.objects o (whole_window (width p t) 1) 0) (sym e) r, tt)

  pub literal_place : (at : At) (t : PlainType) (k : ℕ) (bytes : List ℕ) → IsLiteral c k bytes t → Finds (place at t (literal k bytes))
  literal_place at t k bytes i env clear w st = by i.is_listed
    where
      by : Contains p.literals (record { number = k; bytes = bytes }) → Stays (IsAt (place at t (literal k bytes)) w) (locate s frame.held (place at t (literal k bytes)) w)
      by (j, l, e) = literal_found at t k bytes (literal_number k (length p.objects) p.literals) (literal_there p.literals (length p.objects) j (record { number = k; bytes = bytes }) l e) w st

  -- ## Members

  structure_other : (t : PlainType) (mark : Bool) (k : ℕ) → t ≡ structure mark k → is_scalar t ≡ false
  structure_other t mark k e = ap is_scalar e

  pub member_place : (at : At) (t : PlainType) (q : PlainPlace) (k : ℕ) → IsWholePlace c q → IsMember c (place_type q) t k → Finds q → Finds (place at t (member q k))
  member_place at t q k i e finds env clear w st = stays_step (IsAt (place at t (member q k)) w) w _ (λ left less.
      stays_then (Found q (record w { left = left })) (IsAt (place at t (member q k)) w) (locate s frame.held q (record w { left = left })) _
      (after_place p whole n depth number f there calls loops result lie scope opening settings head frame q i finds env (record { lies = in_member calls at t q k env clear.lies; clean = clear.clean; describes = clear.describes }) (record w { left = left }) (step_on p whole n depth number f there calls loops result lie scope opening settings head frame w left less st)) (λ target u g.
      let r : IsElementTarget (lies_in_literal q) opening u.objects target = element_of q (record w { left = left }) target u g (structure_other (place_type q) e.mark e.number e.whole_is) in
      let before : ℕ = scalars_before p (bare p.structures (place_type q)) k in
      stays_or (IsAt (place at t (member q k)) w) (inner u.objects (pointer_to target) before (width p t) 1) (To r.number (window_in r.window r.position before (width p t) 1) 0) at.span u _
      (ap (λ target. inner u.objects (pointer_to target) before (width p t) 1) r.is ∙ inner_is u.objects r.number r.window r.position before (width p t) 1 r.reaches.object r.reaches.there) (
        g.leaves,
        record {
          object = r.reaches.object;
          there = r.reaches.there;
          apart = r.reaches.apart;
          inside = both_true r.window.inside (ltb r.position r.window.count) r.reaches.inside r.reaches.within;
          within = refl;
          declared_is = r.reaches.declared_is;
        },
        tt,
      )))
