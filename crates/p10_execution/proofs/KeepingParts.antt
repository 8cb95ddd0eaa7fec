-- Calls in statements without parts keep what all covered calls keep.
use Rattle.p10_meaning.specs.Sound.{Fits}
use Rattle.std.proofs.Common.{◌≤◌}
use Rattle.p10_int.specs.declared.operators.BinOp.{BinOp}
use Rattle.p10_core.specs.Rows.{is_scalar}
use Rattle.p10_core.specs.Types.{void, integer, pointer, array, structure, unqualified}
use Rattle.p10_core.specs.Whole.{IsWholeValue}
use Rattle.p10_core.specs.Typed.{PlainPlace, place_type}
use Rattle.std.proofs.Common.{◌≡◌, ℕ, ◌+◌, drop, Bool, true, false, List, [], ◌∷◌, ◌++◌, refl, ◌∙◌, ap, sym, subst, Option, Some, None, slice_get}
use Rattle.std.specs.Prelude.{slice_set, ◌||◌, is_some, if◌then◌else◌, ◌&&◌}
use Rattle.std.specs.Option.{option_map}
use Rattle.p10_base.specs.declared.span.Span.{Span}
use Rattle.p10_base.specs.declared.at.At.{At}
use Rattle.p10_core.specs.Types.{PlainType}
use Rattle.p10_core.specs.Rows.{is_integer}
use Rattle.p10_core.specs.Constants.{integer_of}
use Rattle.p10_core.specs.Typed.{PlainValue, type_of, place_at, statement, declare, PlainWritten, one_scalar, scalars_of_text, PlainItem, PlainInitializer, not_initialized, single, copied, listed, PlainVariable, PlainFunction, PlainProgram}
use Rattle.p10_core.specs.WholePrograms.{around, IsWholeWritten, width_of_written, AreWholeItems, IsWholeInitializer, Declares, IsWholeProgram}
use Rattle.p10_cert.specs.Claims.{Value, Loop, Claims}
use Rattle.p10_meaning.specs.declared.pointers.Scalar.{Scalar}
use Rattle.p10_meaning.specs.Pointers.{unset}
use Rattle.p10_meaning.specs.States.{State}
use Rattle.p10_meaning.specs.Values.{Setting, Held, holds, stands, Target, locate}
use Rattle.p10_meaning.specs.Statements.{Frame, holding_at, written_scalars}
use Rattle.p10_meaning.specs.Calling.{Depth, setting_of, call_at}
use Rattle.p10_meaning.specs.Sound.{region_at}
use Rattle.p10_absx.specs.Abstract.{whole_type}
use Rattle.p10_absx.specs.Environments.{Environment, known, learned}
use Rattle.p10_absx.specs.Assessing.{abstract_value}
use Rattle.p10_absx.specs.Describing.{Describes, MaybeDescribes}
use Rattle.p10_pass.specs.Arguments.{has_value, failing_in, failing_at}
use Rattle.p10_pass.specs.Passing.{Left, Manner, manner_in, reached, where_going, items_passed, integer_declared, other_declared, declared as declared_left, pass_statement}
use Rattle.p10_evaluation.specs.Claimed.{ResultsLie}
use Rattle.p10_execution.specs.Scoping.{IsNumber, IsBefore}
use Rattle.p10_execution.specs.Standing.{StandsSoundly}
use Rattle.p10_execution.specs.Leaving.{NoneFails}
use Rattle.p10_execution.proofs.Giving.{holds_weaker}
use Rattle.p10_execution.proofs.Frames.{held_there, unknown_set, learned_set, whole_unset}
use Rattle.p10_execution.proofs.Ends.{calls_none, followed_none_left, followed_none_right}
use Rattle.p10_execution.proofs.SimpleStatements.{integer_unqualified}
use Rattle.p10_core.specs.Typed.{set, update, copy, return}
use Rattle.p10_core.specs.declared.statements.UpdateKind.{UpdateKind}
use Rattle.p10_core.specs.Whole.{IsWholePlace}
use Rattle.p10_core.specs.WholePrograms.{Sets, Updates, Copies, IsMaybeTest, Returns}
use Rattle.p10_meaning.specs.Values.{read_target}
use Rattle.p10_pass.specs.Passing.{set_value, updated_value, value_returned, tested_in, tested_reached}
use Rattle.p10_sums.specs.Counting.{Counting}
use Rattle.p10_sums.specs.Keeping.{OnGives, AfterStep, ValueKeeps, PlaceKeeps, WrittenKeeps, ItemsKeep, InitializerKeeps, DeclarationKeeps, TestKeeps, ReturnKeeps, StatementKeeps}
use Rattle.p10_evaluation.specs.Claimed.{IsCoveredCall}
use Rattle.p10_evaluation.proofs.Rules.{after_step}
use Rattle.p10_evaluation.proofs.WholeFunctions.{values_keep, places_keep}
use Rattle.p10_execution.proofs.Ends.{nothing_left, nothing_right}
use Rattle.p10_execution.proofs.SimpleStatements.{Located, located}
use Rattle.p10_execution.proofs.Parts.{Given, read_given}
use Rattle.p10_execution.proofs.Declarations.{nat_eq_itself, unset_frame, object_frame, opened_for, unset_ready, object_ready, written_left, Written, written_known}

-- an integer is a scalar
integer_scalar : (t : PlainType) → is_integer t ≡ true → is_scalar t ≡ true
integer_scalar (integer c i) e = refl
integer_scalar (void c) e = absurd cc
integer_scalar (pointer c t) e = absurd cc
integer_scalar (array c t n) e = absurd cc
integer_scalar (structure c n) e = absurd cc

-- ... and no structure
integer_apart : (t : PlainType) (k : ℕ) → is_integer t ≡ true → unqualified t ≡ structure false k → ⊥
integer_apart t k e s = let i : is_integer t ≡ false = sym (integer_unqualified t) ∙ ap is_integer s in absurd cc

module _ (p : PlainProgram) (whole : IsWholeProgram p) (n : ℕ) (depth : Depth) (number : ℕ) (f : PlainFunction) (there : slice_get p.functions number ≡ Some f)
    (calls : Option Claims) (loops : Option (List Loop)) (result : Option Value) (lie : ResultsLie p calls n (call_at n p depth))
    (K : ℕ → List Scalar → State → Type 0) (covered : (g : ℕ) (xs : List Scalar) (w : State) → IsCoveredCall p calls n g xs w → K g xs w) where
  abbrev s : Setting
  s = setting_of p n (call_at n p) depth f

  abbrev m : Manner
  m = manner_in f calls loops result

  abbrev Stand : Frame → State → Type 0
  Stand frame w = StandsSoundly p f.variables n frame w

  abbrev pub stepped : (frame : Frame) (w : State) (left : ℕ) → Stand frame w → left ≤ n → Stand frame (record w { left = left })
  stepped frame w left r b = record { kinds = r.kinds; sound = r.sound; fits = r.fits; in_frame = r.in_frame; left = b }

  -- ## Values and places

  pub value_kept : (scope : List ℕ) (v : PlainValue) → IsWholeValue (around (region_at p number f scope false false)) v → (env : Environment) (head : List Held) (frame : Frame) (w : State) → failing_in calls v env ≡ [] → Stand frame w → Describes f.variables env head frame.held → ValueKeeps s K frame.held v w
  value_kept scope v i env head frame w none r d = values_keep p whole calls n depth lie K covered number f there scope v i env head frame.held r.kinds w (record { sound = r.sound; fits = r.fits; describes = d; few = r.left }) none

  place_kept : (scope : List ℕ) (q : PlainPlace) → IsWholePlace (around (region_at p number f scope false false)) q → (env : Environment) (head : List Held) (frame : Frame) (w : State) → failing_at calls q env ≡ [] → Stand frame w → Describes f.variables env head frame.held → PlaceKeeps s K frame.held q w
  place_kept scope q i env head frame w none r d = places_keep p whole calls n depth lie K covered number f there scope q i env head frame.held r.kinds w (record { sound = r.sound; fits = r.fits; describes = d; few = r.left }) none

  -- after a place was located
  after_place : (scope : List ℕ) (q : PlainPlace) → IsWholePlace (around (region_at p number f scope false false)) q → (frame : Frame) (w : State) → Stand frame w → (P : Target → State → Type 0) →
      ((target : Target) (w : State) → Located p whole n depth number f there calls loops result lie q frame target w → P target w) → OnGives P (locate s frame.held q w)
  after_place scope q i frame w r P h = record { given = holds_weaker (Located p whole n depth number f there calls loops result lie q frame) P (locate s frame.held q w) (located p whole n depth number f there calls loops result lie scope q i frame w r) h }

  -- a value after a step
  pub stepped_value : (scope : List ℕ) (v : PlainValue) → IsWholeValue (around (region_at p number f scope false false)) v → (env : Environment) (head : List Held) (frame : Frame) (w : State) → failing_in calls v env ≡ [] → Stand frame w → Describes f.variables env head frame.held → AfterStep w (λ w. ValueKeeps s K frame.held v w)
  stepped_value scope v i env head frame w none r d = after_step n w (λ w. ValueKeeps s K frame.held v w) r.left (λ left b. value_kept scope v i env head frame (record w { left = left }) none (stepped frame w left r b) d)

  stepped_place : (scope : List ℕ) (q : PlainPlace) → IsWholePlace (around (region_at p number f scope false false)) q → (env : Environment) (head : List Held) (frame : Frame) (w : State) → failing_at calls q env ≡ [] → Stand frame w → Describes f.variables env head frame.held → AfterStep w (λ w. PlaceKeeps s K frame.held q w)
  stepped_place scope q i env head frame w none r d = after_step n w (λ w. PlaceKeeps s K frame.held q w) r.left (λ left b. place_kept scope q i env head frame (record w { left = left }) none (stepped frame w left r b) d)

  -- a loop's test
  pub test_kept : (scope : List ℕ) (tested : Option PlainValue) → IsMaybeTest (around (region_at p number f scope false false)) tested → (env : Environment) (head : List Held) (frame : Frame) (w : State) → (tested_in m tested env).names ≡ [] → Stand frame w → Describes f.variables env head frame.held → TestKeeps s K tested frame w
  test_kept scope None i env head frame w none r d = tt
  test_kept scope (Some v) i env head frame w none r d = value_kept scope v i.whole env head frame w none r d

  pub test_on_kept : (scope : List ℕ) (tested : Option PlainValue) → IsMaybeTest (around (region_at p number f scope false false)) tested → (o : Option Environment) (head : List Held) (frame : Frame) (w : State) → (tested_reached m tested o).names ≡ [] → Stand frame w → MaybeDescribes f.variables o head frame.held → TestKeeps s K tested frame w
  test_on_kept scope tested i None head frame w none r d = absurd d
  test_on_kept scope tested i (Some env) head frame w none r d = test_kept scope tested i env head frame w none r d

  -- ## Statements

  module _ (c : Counting) where
    pub set_kept : (scope : List ℕ) (at : At) (q : PlainPlace) (v : PlainValue) → Sets (around (region_at p number f scope false false)) q v → (env : Environment) → NoneFails (pass_statement m (statement at (set q v)) env) → (head : List Held) (frame : Frame) (w : State) → Stand frame w → Describes f.variables env head frame.held →
        StatementKeeps c s K (statement at (set q v)) frame w
    set_kept scope at q v i env none head frame w r d =
        let names : failing_at calls q env ++ failing_in calls v env ≡ [] = calls_none (failing_at calls q env ++ failing_in calls v env) (reached (set_value q (type_of v) (abstract_value calls env v) env)) none in
        after_step n w (λ w. PlaceKeeps s K frame.held q w × OnGives (λ target w. ValueKeeps s K frame.held v w) (locate s frame.held q w)) r.left (λ left b. (
          place_kept scope q i.place env head frame (record w { left = left }) (nothing_left (failing_at calls q env) (failing_in calls v env) names) (stepped frame w left r b) d,
          after_place scope q i.place frame (record w { left = left }) (stepped frame w left r b) (λ target w. ValueKeeps s K frame.held v w) (λ target w g.
              value_kept scope v i.value env head frame w (nothing_right (failing_at calls q env) (failing_in calls v env) names) g.0.ready d),
        ))

    pub update_kept : (scope : List ℕ) (at : At) (kind : UpdateKind) (op : BinOp) (t : PlainType) (q : PlainPlace) (v : PlainValue) → Updates (around (region_at p number f scope false false)) kind op t q v → (env : Environment) → NoneFails (pass_statement m (statement at (update kind op t q v)) env) →
        (head : List Held) (frame : Frame) (w : State) → Stand frame w → Describes f.variables env head frame.held → StatementKeeps c s K (statement at (update kind op t q v)) frame w
    update_kept scope at kind op t q v i env none head frame w r d =
        let names : failing_at calls q env ++ failing_in calls v env ≡ [] = calls_none (failing_at calls q env ++ failing_in calls v env) (reached (updated_value op t q (abstract_value calls env v) env)) none in
        let Reads : Target → State → Type 0 = λ target w. AfterStep w (λ w. OnGives (λ x w. ValueKeeps s K frame.held v w) (read_target (place_at q).span (place_type q) frame.held target w)) in
        after_step n w (λ w. PlaceKeeps s K frame.held q w × OnGives Reads (locate s frame.held q w)) r.left (λ left b. (
          place_kept scope q i.place env head frame (record w { left = left }) (nothing_left (failing_at calls q env) (failing_in calls v env) names) (stepped frame w left r b) d,
          after_place scope q i.place frame (record w { left = left }) (stepped frame w left r b) Reads (λ target w g.
              after_step n w (λ w. OnGives (λ x w. ValueKeeps s K frame.held v w) (read_target (place_at q).span (place_type q) frame.held target w)) g.0.ready.left (λ left b. record {
                given = holds_weaker (Given p whole n depth number f there (λ ks. Fits p ks (place_type q)) frame) (λ x w. ValueKeeps s K frame.held v w) (read_target (place_at q).span (place_type q) frame.held target (record w { left = left }))
                    (read_given p whole n depth number f there (place_at q).span (place_type q) target frame (record w { left = left }) i.scalar (stepped frame w left g.0.ready b) g.0.typed) (λ x w h.
                    value_kept scope v i.value env head frame w (nothing_right (failing_at calls q env) (failing_in calls v env) names) h.ready d);
              })),
        ))

    pub copy_kept : (scope : List ℕ) (at : At) (q z : PlainPlace) → Copies (around (region_at p number f scope false false)) q z → (env : Environment) → NoneFails (pass_statement m (statement at (copy q z)) env) → (head : List Held) (frame : Frame) (w : State) → Stand frame w → Describes f.variables env head frame.held →
        StatementKeeps c s K (statement at (copy q z)) frame w
    copy_kept scope at q z i env none head frame w r d =
        let names : failing_at calls q env ++ failing_at calls z env ≡ [] = calls_none (failing_at calls q env ++ failing_at calls z env) (reached (Some env)) none in
        after_step n w (λ w. PlaceKeeps s K frame.held q w × OnGives (λ target w. PlaceKeeps s K frame.held z w) (locate s frame.held q w)) r.left (λ left b. (
          place_kept scope q i.target env head frame (record w { left = left }) (nothing_left (failing_at calls q env) (failing_at calls z env) names) (stepped frame w left r b) d,
          after_place scope q i.target frame (record w { left = left }) (stepped frame w left r b) (λ target w. PlaceKeeps s K frame.held z w) (λ target w g.
              place_kept scope z i.source.whole env head frame w (nothing_right (failing_at calls q env) (failing_at calls z env) names) g.0.ready d),
        ))

  pub return_kept : (scope : List ℕ) (at : At) (keyword : Span) (v : Option PlainValue) → Returns (around (region_at p number f scope false false)) f.result v → (env : Environment) → NoneFails (pass_statement m (statement at (return keyword v)) env) → (head : List Held) (frame : Frame) (w : State) → Stand frame w → Describes f.variables env head frame.held →
      ReturnKeeps s K v frame w
  return_kept scope at keyword None i env none head frame w r d = tt
  return_kept scope at keyword (Some v) i env none head frame w r d = stepped_value scope v i.0 env head frame w (calls_none (failing_in calls v env) (value_returned m keyword v env) none) r d

  -- ## Declarations

  items_kept : (scope : List ℕ) (ts : List PlainType) (from : ℕ) (items : List PlainItem) → AreWholeItems (around (region_at p number f scope false false)) ts from items → (env : Environment) → NoneFails (items_passed m items env) → (head : List Held) (frame : Frame) (w : State) → Stand frame w → Describes f.variables env head frame.held →
      ItemsKeep s K frame.held items w
  items_kept scope ts from [] i env none head frame w r d = tt
  items_kept scope ts from (item ∷ items) i env none head frame w r d =
      let go : Environment → Left = λ env. items_passed m items env in
      let a : Left = written_left p whole n depth number f there calls loops result lie env item.written in
      let first : NoneFails a = followed_none_left a (where_going a.normal go) none in (
        written_kept item.written i.1 first,
        record {
          given = holds_weaker (Written p whole n depth number f there calls loops result lie env frame item.written) (λ xs w. ItemsKeep s K frame.held items w) (written_scalars s frame.held item.scalar item.written w)
              (written_known p whole n depth number f there calls loops result lie scope (drop item.scalar ts) item.scalar item.written i.1 env first head frame w r d) (λ xs w h.
              items_kept scope ts (item.scalar + width_of_written item.written) items i.2 env (subst (λ o. NoneFails (where_going o go)) h.1 (followed_none_right a (where_going a.normal go) none)) head frame w h.0 d);
        },
      )
    where
      written_kept : (written : PlainWritten) → IsWholeWritten (around (region_at p number f scope false false)) (drop item.scalar ts) written → NoneFails (written_left p whole n depth number f there calls loops result lie env written) → WrittenKeeps s K frame.held written w
      written_kept (one_scalar v) whole_v none = value_kept scope v whole_v.whole env head frame w (calls_none (failing_in calls v env) (reached (if has_value calls v env then Some env else None)) none) r d
      written_kept (scalars_of_text bytes) whole_v none = tt

  other_kept : (scope : List ℕ) (t : PlainType) (initializer : PlainInitializer) → IsWholeInitializer (around (region_at p number f scope false false)) t initializer → (env : Environment) → NoneFails (other_declared m initializer env) → (head : List Held) (frame : Frame) (w : State) → Stand frame w → Describes f.variables env head frame.held →
      InitializerKeeps s K frame.held initializer w
  other_kept scope t not_initialized i env none head frame w r d = tt
  other_kept scope t (single v) i env none head frame w r d = value_kept scope v i.whole env head frame w (calls_none (failing_in calls v env) (reached (if has_value calls v env then Some env else None)) none) r d
  other_kept scope t (copied q) i env none head frame w r d = stepped_place scope q i.whole env head frame w (calls_none (failing_at calls q env) (reached (Some env)) none) r d
  other_kept scope t (listed at items) i env none head frame w r d = items_kept scope _ 0 items i.whole env none head frame w r d

  -- of an integer frame variable
  integer_kept : (scope : List ℕ) (k : ℕ) (v : PlainVariable) → slice_get f.variables k ≡ Some v → v.frame ≡ true → is_integer v.type ≡ true → (initializer : PlainInitializer) → IsWholeInitializer (around (region_at p number f scope false false)) v.type initializer → (env : Environment) → NoneFails (integer_declared m k (integer_of v.type) initializer env) →
      (head : List Held) (frame : Frame) (w : State) → Stand frame w → Describes f.variables env head frame.held → InitializerKeeps s K (unset_frame p whole n depth number f there calls loops result lie k frame).held initializer w
  integer_kept scope k v is fr it not_initialized i env none head frame w r d = tt
  integer_kept scope k v is fr it (copied q) i env none head frame w r d = absurd (integer_apart v.type i.number it i.target_is)
  integer_kept scope k v is fr it (listed at items) i env none head frame w r d = let yes_scalar : is_scalar v.type ≡ true = integer_scalar v.type it in let no_scalar : is_scalar v.type ≡ false = i.aggregate in absurd cc
  integer_kept scope k v is fr it (single e) i env none head frame w r d =
      let seen : Environment = learned env k (whole_type (integer_of v.type)) in
      let ready : Stand (holding_at frame k (holds unset)) w = unset_ready p whole n depth number f there calls loops result lie k v is frame w r in
      let number_is : IsNumber f.variables k = record { variable = v; there = is; frame_is = fr; integer_is = it } in
      value_kept scope e i.whole seen head (holding_at frame k (holds unset)) w (calls_none (failing_in calls e seen) (reached (option_map (learned seen k) (abstract_value calls seen e))) none) ready
      (learned_set f.variables env head frame.held k (holds unset) (whole_type (integer_of v.type)) number_is ready.in_frame (held_there p r.kinds f.variables frame.held k v r.fits is) (whole_unset (integer_of v.type) k) d)

  variable_kept : (scope : List ℕ) (k : ℕ) (v : PlainVariable) → slice_get f.variables k ≡ Some v → (initializer : PlainInitializer) → IsWholeInitializer (around (region_at p number f scope false false)) v.type initializer → (env : Environment) → is_some (known env k) ≡ false →
      (it : Bool) → is_integer v.type ≡ it → v.frame ≡ true → NoneFails (if it then integer_declared m k (integer_of v.type) initializer env else other_declared m initializer env) → (head : List Held) (frame : Frame) (w : State) → Stand frame w → Describes f.variables env head frame.held →
      InitializerKeeps s K (slice_set frame.held k (holds unset)) initializer w
  variable_kept scope k v is initializer i env fresh true it fr none head frame w r d = integer_kept scope k v is fr it initializer i env none head frame w r d
  variable_kept scope k v is initializer i env fresh false it fr none head frame w r d = other_kept scope v.type initializer i env none head (holding_at frame k (holds unset)) w (unset_ready p whole n depth number f there calls loops result lie k v is frame w r)
      (unknown_set f.variables env head frame.held k (holds unset) fresh d)

  both_of : (fr it : Bool) (a b : Left) → fr ≡ true → NoneFails (if fr && it then a else b) → NoneFails (if it then a else b)
  both_of fr it a b e h = subst (λ t. NoneFails (if t && it then a else b)) e h

  neither_of : (fr it : Bool) (a b : Left) → fr ≡ false → NoneFails (if fr && it then a else b) → NoneFails b
  neither_of fr it a b e h = subst (λ t. NoneFails (if t && it then a else b)) e h

  pub declare_kept : (scope : List ℕ) (l b : Bool) (at : At) (k : ℕ) (initializer : PlainInitializer) → Declares (region_at p number f scope l b) k initializer → (env : Environment) → IsBefore f.variables (k ∷ []) env → NoneFails (pass_statement m (statement at (declare k initializer)) env) →
      (head : List Held) (frame : Frame) (w : State) → Stand frame w → Describes f.variables env head frame.held → AfterStep w (λ w. DeclarationKeeps s K k (slice_get f.variables k) initializer frame w)
  declare_kept scope l b at k initializer i env before none head frame w r d =
      after_step n w (λ w. DeclarationKeeps s K k (slice_get f.variables k) initializer frame w) r.left (λ left less.
      subst (λ o. DeclarationKeeps s K k o initializer frame (record w { left = left })) (sym i.there) (
        (λ fr. variable_kept (k ∷ scope) k i.variable i.there initializer i.initializer env fresh (is_integer i.variable.type) refl fr (both_of i.variable.frame (is_integer i.variable.type) _ _ fr at_variable) head frame (record w { left = left }) (stepped frame w left r less) d),
        (λ fr. other_kept (k ∷ scope) i.variable.type initializer i.initializer env (neither_of i.variable.frame (is_integer i.variable.type) (integer_declared m k (integer_of i.variable.type) initializer env) (other_declared m initializer env) fr at_variable) head (object_frame p whole n depth number f there calls loops result lie k w.opened frame)
            (opened_for p whole n depth number f there calls loops result lie i.variable (record w { left = left })) (object_ready p whole n depth number f there calls loops result lie k i.variable i.there fr frame (record w { left = left }) (stepped frame w left r less))
            (unknown_set f.variables env head frame.held k (stands w.opened) fresh d)),
      ))
    where
      fresh : is_some (known env k) ≡ false
      fresh = before.fresh k (ap (λ t. t || false) (nat_eq_itself k))

      at_variable : NoneFails (declared_left m k (Some i.variable) initializer env)
      at_variable = subst (λ o. NoneFails (declared_left m k o initializer env)) i.there none
