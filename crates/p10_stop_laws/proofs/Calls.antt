-- The stops of calls have their causes in the program, by induction on the bound.
use Rattle.std.proofs.Common.{◌≡◌, ℕ, zero, suc, ◌+◌, ◌<◌, ◌≤◌, arith, length, cond, Bool, true, false, List, [], ◌∷◌, ◌++◌, map, take, refl, sym, ap, subst, Some, slice_get}
use Rattle.std.specs.Prelude.{All, Contains}
use Rattle.std.proofs.lemmas.List.Elements.{All-head, All-tail}
use Rattle.p10_base.specs.declared.span.Span.{Span}
use Rattle.p10_int.specs.declared.operators.Stop.{Stop}
use Rattle.p10_core.specs.Types.{PlainType, bare}
use Rattle.p10_core.specs.Rows.{is_scalar}
use Rattle.p10_core.specs.Typed.{PlainVariable, PlainFunction, PlainProgram}
use Rattle.p10_core.specs.Nodes.{PlainNode, nodes_of_statements}
use Rattle.p10_core.specs.WholePrograms.{parameter_types, numbers_from, IsWholeFunction, IsWholeProgram}
use Rattle.p10_meaning.specs.declared.pointers.Scalar.{Scalar}
use Rattle.p10_meaning.specs.Pointers.{holding}
use Rattle.p10_meaning.specs.Objects.{declared}
use Rattle.p10_meaning.specs.States.{State}
use Rattle.p10_meaning.specs.Values.{Calls, holds, stands, open_object}
use Rattle.p10_meaning.specs.Statements.{execute_from}
use Rattle.p10_meaning.specs.Calling.{Depth, deeper, raised, Entered, with_variable, entered, leave_call, setting_of, enter_call, call_at}
use Rattle.p10_meaning.specs.Sound.{Kind, IsSmall, single_of, Fits, AllFit, kind_scalars, Sound, Grows, ScalarsFit, KeepSound}
use Rattle.p10_meaning.proofs.Geometry.{IsLaidOut}
use Rattle.p10_meaning.proofs.LaidOut.{laid_out}
use Rattle.p10_meaning.proofs.Fitting.{grows_same, grows_trans, grown, get_last, get_grown, fits_grown, sound_push, fits_same}
use Rattle.p10_meaning.proofs.Moves.{scalars_are}
use Rattle.p10_meaning.proofs.SoundStatements.{AreFew}
use Rattle.p10_meaning.proofs.SoundCalls.{few_variables, EntryFits, no_arguments, calls_keep}
use Rattle.p10_stop_laws.specs.Causes.{StopHasCause, StopsWhere, CallsStopWithCause}
use Rattle.p10_stop_laws.proofs.Among.{AllIn, all_itself}
use Rattle.p10_stop_laws.proofs.Present.{IsThere, AreThere, below}
use Rattle.p10_stop_laws.proofs.Alive.{calls_leave}
use Rattle.p10_stop_laws.proofs.Ending.{stops_step, stops_on, stops_weaker}
use Rattle.p10_stop_laws.proofs.Values.{Found, CallsStop}
use Rattle.p10_stop_laws.proofs.Statements.{from_stops}

-- ## Nodes of a program

-- a node of one of the functions
pub record InProgram (p : PlainProgram) (node : PlainNode) : Type 0 where
  pub number : ℕ
  pub function : PlainFunction
  pub there : slice_get p.functions number ≡ Some function
  pub among : Contains (nodes_of_statements function.body) node

all_weaker : (In Out : PlainNode → Type 0) (xs : List PlainNode) → ((x : PlainNode) → In x → Out x) → AllIn In xs → AllIn Out xs
all_weaker In Out [] h a = tt
all_weaker In Out (x ∷ xs) h a = (h x a.0, all_weaker In Out xs h a.1)

pub body_in : (p : PlainProgram) (k : ℕ) (g : PlainFunction) → slice_get p.functions k ≡ Some g → AllIn (InProgram p) (nodes_of_statements g.body)
body_in p k g e =
    all_weaker (Contains (nodes_of_statements g.body)) (InProgram p) (nodes_of_statements g.body) (λ x h. record { number = k; function = g; there = e; among = h }) (all_itself (nodes_of_statements g.body))

pub cause_of : (p : PlainProgram) (stop : Stop) (span : Span) → Found (InProgram p) stop span → StopHasCause p stop span
cause_of p stop span h =
    record { number = h.among.number; function = h.among.function; there = h.among.there; node = h.node; among = h.among.among; ends_there = h.ends_there }

-- ## Entry

scalars_grown : (p : PlainProgram) (ks js : List Kind) (ts : List PlainType) (xs : List Scalar) → Grows ks js → ScalarsFit p ks ts xs → ScalarsFit p js ts xs
scalars_grown p ks js [] [] g f = tt
scalars_grown p ks js [] (x ∷ xs) g f = f
scalars_grown p ks js (t ∷ ts) [] g f = f
scalars_grown p ks js (t ∷ ts) (x ∷ xs) g f = (fits_grown p ks js t x g f.0, scalars_grown p ks js ts xs g f.1)

abbrev types_of : ℕ → List PlainVariable → List PlainType
types_of m vs = map (λ (v : PlainVariable). v.type) (take m vs)

fewer : (p : PlainProgram) (v : PlainVariable) (vs : List PlainVariable) → AreFew p (v ∷ vs) → AreFew p vs
fewer p v vs few = record { few = λ n u e. few.few (suc n) u e; object = λ n u e. few.object (suc n) u e }

-- one more object for a parameter
object_entered : (p : PlainProgram) → IsLaidOut p → (v : PlainVariable) (vs : List PlainVariable) (x : Scalar) (xs : List Scalar) (w : State) (ks : List Kind) → is_scalar v.type ≡ true → IsSmall p (single_of p v.type) → Fits p ks v.type x → Sound p ks w →
    (Sound p (ks ++ single_of p v.type ∷ []) (open_object declared (holding x ∷ []) w) → EntryFits p (ks ++ single_of p v.type ∷ []) vs (entered vs xs (open_object declared (holding x ∷ []) w))) →
    EntryFits p ks (v ∷ vs) (with_variable (stands w.opened) (w.opened ∷ (entered vs xs (open_object declared (holding x ∷ []) w)).frame.opened) (entered vs xs (open_object declared (holding x ∷ []) w)))
object_entered p out v vs x xs w ks scalar few fx so go =
    let k : Kind = single_of p v.type in
    let js : List Kind = ks ++ k ∷ [] in
    let g : Grows ks js = grown ks k in
    let one : kind_scalars p k ≡ bare p.structures v.type ∷ [] = ap (λ ts. ts ++ []) (scalars_are p out v.type scalar) in
    let fits : AllFit p js (kind_scalars p k) (holding x ∷ []) = subst (λ ts. AllFit p js ts (holding x ∷ [])) (sym one)
    (fits_same p js v.type (bare p.structures v.type) x (sym (out.bare_again v.type)) (fits_grown p ks js v.type x g fx), tt) in
    let h : EntryFits p js vs (entered vs xs (open_object declared (holding x ∷ []) w)) = go (sound_push p ks w.objects w.opened w.input w.sensors k declared (holding x ∷ []) so few fits) in
    let there : slice_get js w.opened ≡ Some k = subst (λ m. slice_get js m ≡ Some k) so.count (get_last ks k) in
    record { kinds = h.kinds; grows = grows_trans ks js h.kinds g h.grows; sound = h.sound; frame = (get_grown js h.kinds w.opened k h.grows there, h.frame) }

entry_fits : (p : PlainProgram) → IsLaidOut p → (m : ℕ) (vs : List PlainVariable) (xs : List Scalar) (w : State) (ks : List Kind) → AreFew p vs → All (λ t. is_scalar t ≡ true) (types_of m vs) → ScalarsFit p ks (types_of m vs) xs → Sound p ks w → EntryFits p ks vs (entered vs xs w)
entry_fits p out m [] xs w ks few scalar f so = record { kinds = ks; grows = grows_same ks; sound = so; frame = tt }
entry_fits p out m (v ∷ vs) [] w ks few scalar f so = no_arguments p (v ∷ vs) w ks so
entry_fits p out zero (v ∷ vs) (x ∷ xs) w ks few scalar f so = absurd f
entry_fits p out (suc m) (v ∷ vs) (x ∷ xs) w ks few scalar f so = by_frame v.frame
    (let h : EntryFits p ks vs (entered vs xs w) = entry_fits p out m vs xs w ks (fewer p v vs few) (All-tail (λ t. is_scalar t ≡ true) v.type (types_of m vs) scalar) f.1 so in
    record { kinds = h.kinds; grows = h.grows; sound = h.sound; frame = (fits_grown p ks h.kinds v.type x h.grows f.0, h.frame) })
    (object_entered p out v vs x xs w ks (All-head (λ t. is_scalar t ≡ true) v.type (types_of m vs) scalar) (few.few 0 v refl) f.0 so
    (λ so2. entry_fits p out m vs xs (open_object declared (holding x ∷ []) w) (ks ++ single_of p v.type ∷ []) (fewer p v vs few) (All-tail (λ t. is_scalar t ≡ true) v.type (types_of m vs) scalar)
    (scalars_grown p ks (ks ++ single_of p v.type ∷ []) (types_of m vs) xs (grown ks (single_of p v.type)) f.1) so2))
  where
    by_frame : (b : Bool) → EntryFits p ks (v ∷ vs) (with_variable (holds (holding x)) (entered vs xs w).frame.opened (entered vs xs w)) →
        EntryFits p ks (v ∷ vs) (with_variable (stands w.opened) (w.opened ∷ (entered vs xs (open_object declared (holding x ∷ []) w)).frame.opened) (entered vs xs (open_object declared (holding x ∷ []) w))) →
        EntryFits p ks (v ∷ vs) (cond b (with_variable (holds (holding x)) (entered vs xs w).frame.opened (entered vs xs w))
        (with_variable (stands w.opened) (w.opened ∷ (entered vs xs (open_object declared (holding x ∷ []) w)).frame.opened) (entered vs xs (open_object declared (holding x ∷ []) w))))
    by_frame true a b = a
    by_frame false a b = b

-- something stands for each parameter
parameter_there : (p : PlainProgram) (ks : List Kind) (m : ℕ) (vs : List PlainVariable) (xs : List Scalar) (w : State) (k : ℕ) → ScalarsFit p ks (types_of m vs) xs → k < m → k < length vs → IsThere (slice_get (entered vs xs w).frame.held k)
parameter_there p ks m [] xs w k f l t = absurd (omega (arith, t))
parameter_there p ks zero (v ∷ vs) xs w k f l t = absurd (omega (arith, l))
parameter_there p ks (suc m) (v ∷ vs) [] w k f l t = absurd f
parameter_there p ks (suc m) (v ∷ vs) (x ∷ xs) w k f l t =
    by_frame (λ k l t. parameter_there p ks m vs xs w k f.1 l t) (λ k l t. parameter_there p ks m vs xs (open_object declared (holding x ∷ []) w) k f.1 l t) v.frame k l t
  where
    by_frame : ((k : ℕ) → k < m → k < length vs → IsThere (slice_get (entered vs xs w).frame.held k)) →
        ((k : ℕ) → k < m → k < length vs → IsThere (slice_get (entered vs xs (open_object declared (holding x ∷ []) w)).frame.held k)) → (b : Bool) (k : ℕ) → k < suc m → k < suc (length vs) → IsThere (slice_get (cond b (with_variable (holds (holding x)) (entered vs xs w).frame.opened (entered vs xs w))
        (with_variable (stands w.opened) (w.opened ∷ (entered vs xs (open_object declared (holding x ∷ []) w)).frame.opened) (entered vs xs (open_object declared (holding x ∷ []) w)))).frame.held k)
    by_frame a b true zero l t = tt
    by_frame a b false zero l t = tt
    by_frame a b true (suc k) l t = a k (omega (arith, l)) (omega (arith, t))
    by_frame a b false (suc k) l t = b k (omega (arith, l)) (omega (arith, t))

parameters_there : (p : PlainProgram) (ks : List Kind) (g : PlainFunction) (xs : List Scalar) (w : State) → g.parameters ≤ length g.variables → ScalarsFit p ks (parameter_types g) xs → AreThere (numbers_from 0 g.parameters) (entered g.variables xs w).frame.held
parameters_there p ks g xs w few f = record {
  each = λ k e.
      let b : (0 ≤ k) × (k < 0 + g.parameters) = below 0 g.parameters k e in let l : k < 0 + g.parameters = b.1 in
      parameter_there p ks g.parameters g.variables xs w k f (omega (arith, l)) (omega (arith, l, few));
}

-- ## Calls

entered_stops : (p : PlainProgram) (whole : IsWholeProgram p) (n : ℕ) (calls : Depth → Calls) → ((depth : Depth) → KeepSound p (calls depth)) → ((depth : Depth) → CallsStop p (calls depth) (InProgram p)) →
    (depth : Depth) (k : ℕ) (g : PlainFunction) (xs : List Scalar) (w : State) (ks : List Kind) → slice_get p.functions k ≡ Some g → ScalarsFit p ks (parameter_types g) xs → Sound p ks w →
    StopsWhere (Found (InProgram p)) (enter_call p n calls depth (Some g) xs w)
entered_stops p whole n calls meaning called depth k g xs w ks there f so =
    let i : IsWholeFunction p k g = whole.functions k g there in
    let out : IsLaidOut p = laid_out p whole in
    let few : AreFew p g.variables = few_variables p whole k g i in
    let deep : Depth = deeper g depth in
    let start : Entered = entered g.variables xs (raised deep w) in
    let entry : EntryFits p ks g.variables start = entry_fits p out g.parameters g.variables xs (raised deep w) ks few i.parameters_scalar f so in
    stops_on (Found (InProgram p)) (execute_from (setting_of p n calls deep g) 0 g.body start.frame start.state) leave_call
    (from_stops p out whole (calls deep) (meaning deep) n k g few i (InProgram p) (called deep) 0 g.body (numbers_from 0 g.parameters) false false i.body tt (body_in p k g there)
    start.frame start.state entry.kinds entry.sound entry.frame (parameters_there p ks g xs (raised deep w) i.parameters_there f))
    (λ d w. tt)

pub calls_stop : (p : PlainProgram) → IsWholeProgram p → (n : ℕ) (depth : Depth) → CallsStop p (call_at n p depth) (InProgram p)
calls_stop p whole zero depth = record { stops = λ k g xs w ks there f so. tt; keep = λ o m. calls_leave p o m zero depth }
calls_stop p whole (suc n) depth = record {
  stops = λ k g xs w ks there f so. stops_step (Found (InProgram p)) w _ (λ left.
      subst (λ o. StopsWhere (Found (InProgram p)) (enter_call p n (call_at n p) depth o xs (record w { left = left }))) (sym there)
      (entered_stops p whole n (call_at n p) (λ depth. calls_keep p whole n depth) (λ depth. calls_stop p whole n depth) depth k g xs (record w { left = left }) ks there f so));
  keep = λ o m. calls_leave p o m (suc n) depth;
}

pub calls_stop_with_cause : CallsStopWithCause
calls_stop_with_cause p whole n depth k g xs w ks there f so =
    stops_weaker (Found (InProgram p)) (StopHasCause p) (call_at n p depth k xs w) (λ stop span h. cause_of p stop span h) ((calls_stop p whole n depth).stops k g xs w ks there f so)
