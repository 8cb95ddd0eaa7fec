-- Values and places that have no flaws don't end in an undefined operation, by induction.
use Rattle.std.proofs.Common.{◌≡◌, ℕ, Bool, true, false, List, [], ◌∷◌, refl, sym, ◌∙◌, ap, subst, Option, Some, None, slice_get}
use Rattle.std.specs.Prelude.{if◌then◌else◌, nat_eq}
use Rattle.std.specs.Option.{option_map}
use Rattle.std.specs.List.{All}
use Rattle.std.proofs.lemmas.List.Elements.{All-head, All-tail}
use Rattle.std.proofs.lemmas.Option.{same_Some, none-some}
use Rattle.p10_int.specs.declared.operators.UnOp.{UnOp}
use Rattle.p10_core.specs.declared.typed.Library.{Library}
use Rattle.p10_core.specs.declared.typed.Library.TheVariants.{Assert, CAssert, Getchar, Putchar, Malloc, Calloc, Free}
use Rattle.p10_core.specs.Types.{PlainType, void, integer, pointer, array, structure, bare}
use Rattle.p10_core.specs.Rows.{UnaryRow, is_void, is_pointer, is_scalar}
use Rattle.p10_core.specs.Typed.{PlainValue, value, type_of, constant, read, sense, address, decay, convert, cast, unary, binary, logic, conditional, call, built_in, PlainPlace, place, variable, global, literal, index, member, dereference, PlainValues, no_values, more_values, PlainFunction, PlainProgram}
use Rattle.p10_core.specs.Whole.{SeenFunction, Surroundings, Converts, integers, pointers, nulls, Casts, to_void, integers as cast_integers, nulls as cast_nulls, allocations, ArgumentsFit, Calls, CallsLibrary, IsWholeValue, AreWholeValues, IsWholePlace}
use Rattle.p10_core.specs.WholePrograms.{seen_function, parameter_types, around, IsWholeProgram}
use Rattle.p10_core.specs.Uses.{manages_memory}
use Rattle.p10_cert.specs.Claims.{Value, Loop, Claims}
use Rattle.p10_meaning.specs.declared.pointers.Scalar.{Scalar}
use Rattle.p10_meaning.specs.States.{State}
use Rattle.p10_meaning.specs.Values.{Setting, Held, Target}
use Rattle.p10_meaning.specs.Statements.{Frame}
use Rattle.p10_meaning.specs.Calling.{Depth, setting_of, call_at}
use Rattle.p10_meaning.specs.Sound.{region_at}
use Rattle.p10_absx.specs.Environments.{Environment}
use Rattle.p10_pass.specs.Passing.{Manner, manner_in}
use Rattle.p10_evaluation.specs.Claimed.{ResultsLie}
use Rattle.p10_clean.specs.Settings.{Settings}
use Rattle.p10_clean_soundness.specs.private.Objects.{LeavesClean}
use Rattle.p10_clean_soundness.specs.private.Standing.{StandsClean, CallsStayClean}
use Rattle.p10_clean_soundness.proofs.Flawless.{in_built_in as clean_built_in}
use Rattle.p10_clean_soundness.proofs.ScalarRows.{plain_scalar, binary_takes, conditional_takes, TakesScalar, takes_integer, takes_pointer, unary_takes}
use Rattle.p10_clean_soundness.proofs.Places.{variable_place, global_place, literal_place, member_place}
use Rattle.p10_clean_soundness.proofs.Arrays.{decay_form, index_place}
use Rattle.p10_clean_soundness.proofs.ScalarTypes.{scalar_alike}
use Rattle.p10_clean_soundness.proofs.Evaluated.{Performed, Performs, Evaluates, evaluates, EvaluatesAll, Locates, After, AfterPlace}
use Rattle.p10_clean_soundness.proofs.ValueForms.{constant_form, sense_form, read_form, address_form, convert_form, cast_form, unary_form, binary_form, logic_form, conditional_form, all_none, all_more, call_form, built_in_form}

-- ## Operands are scalars

convert_scalar : (t : PlainType) (v : PlainValue) → Converts t v → is_scalar (type_of v) ≡ true
convert_scalar t v (integers i j u e) = ap is_scalar e
convert_scalar t v (pointers r q u e a) = ap is_scalar e
convert_scalar t v (nulls j q u e a) = ap is_scalar e

cast_scalar : (t : PlainType) (v : PlainValue) → Casts t v → is_void t ≡ false → is_scalar (type_of v) ≡ true
cast_scalar t v (to_void u) h = absurd cc
cast_scalar t v (cast_integers i j u e) h = ap is_scalar e
cast_scalar t v (cast_nulls j q u e a) h = ap is_scalar e
cast_scalar t v (allocations q u e a) h = ap is_scalar e

unary_scalar : (op : UnOp) (r : UnaryRow) → TakesScalar op r → is_scalar r.operand ≡ true
unary_scalar op r (takes_integer op2 r2 i e) = ap is_scalar e
unary_scalar op r (takes_pointer r2 e) = pointer_scalar r.operand e
  where
    pointer_scalar : (t : PlainType) → is_pointer t ≡ true → is_scalar t ≡ true
    pointer_scalar (pointer c t) e = refl
    pointer_scalar (integer c i) e = refl
    pointer_scalar (void c) e = absurd cc
    pointer_scalar (array c t n) e = absurd cc
    pointer_scalar (structure c n) e = absurd cc

-- all values are scalars
abbrev AreScalars : PlainValues → Type 0
AreScalars no_values = Unit {0}
AreScalars (more_values v vs) = (is_scalar (type_of v) ≡ true) × AreScalars vs

arguments_scalar : (p : PlainProgram) (c : Surroundings) → c.structures ≡ p.structures → (ts : List PlainType) (vs : PlainValues) → ArgumentsFit c ts vs → All (λ t. is_scalar t ≡ true) ts → AreScalars vs
arguments_scalar p c same [] no_values fit all = tt
arguments_scalar p c same (t ∷ ts) (more_values v vs) fit all =
    (scalar_alike p t (type_of v) (sym (subst (λ ss. bare ss (type_of v) ≡ bare ss t) same fit.0)) (All-head (λ t. is_scalar t ≡ true) t ts all), arguments_scalar p c same ts vs fit.1 (All-tail (λ t. is_scalar t ≡ true) t ts all))
arguments_scalar p c same [] (more_values v vs) fit all = absurd fit
arguments_scalar p c same (t ∷ ts) no_values fit all = absurd fit

-- the callee that is seen is one of the program's functions
callee_there : (p : PlainProgram) (k : ℕ) (seen : SeenFunction) → (if nat_eq k p.main then None else option_map seen_function (slice_get p.functions k)) ≡ Some seen → (callee : PlainFunction) × (slice_get p.functions k ≡ Some callee) × (seen_function callee ≡ seen)
callee_there p k seen e = by (nat_eq k p.main) (slice_get p.functions k) refl e
  where
    by : (b : Bool) (o : Option PlainFunction) → slice_get p.functions k ≡ o → (if b then None else option_map seen_function o) ≡ Some seen → (callee : PlainFunction) × (slice_get p.functions k ≡ Some callee) × (seen_function callee ≡ seen)
    by true o h e = absurd (none-some _ e)
    by false None h e = absurd (none-some _ e)
    by false (Some g) h e = (g, h, same_Some _ _ e)

library_scalar : (c : Surroundings) (t : PlainType) (g : Library) (vs : PlainValues) → CallsLibrary c t g vs → manages_memory g ≡ false → AreScalars vs
library_scalar c t Getchar no_values l h = tt
library_scalar c t Putchar (more_values v no_values) l h = (ap is_scalar l.1, tt)
library_scalar c t CAssert (more_values v no_values) l h = (l.1, tt)
library_scalar c t Malloc vs l h = absurd cc
library_scalar c t Calloc vs l h = absurd cc
library_scalar c t Free vs l h = absurd cc
library_scalar c t Assert no_values l h = absurd l
library_scalar c t Assert (more_values v vs) l h = absurd l
library_scalar c t Getchar (more_values v vs) l h = absurd l
library_scalar c t Putchar no_values l h = absurd l
library_scalar c t Putchar (more_values v (more_values u vs)) l h = absurd l
library_scalar c t CAssert no_values l h = absurd l
library_scalar c t CAssert (more_values v (more_values u vs)) l h = absurd l

module _ (p : PlainProgram) (whole : IsWholeProgram p) (n : ℕ) (depth : Depth) (number : ℕ) (f : PlainFunction) (there : slice_get p.functions number ≡ Some f)
    (calls : Option Claims) (loops : Option (List Loop)) (result : Option Value) (lie : ResultsLie p calls n (call_at n p depth)) (stay_clean : CallsStayClean p calls n (call_at n p depth)) (scope opening : List ℕ) (settings : Settings) (head : List Held) (frame : Frame) where
  abbrev s : Setting
  s = setting_of p n (call_at n p) depth f

  abbrev c : Surroundings
  c = around (region_at p number f scope false false)

  abbrev Stand : State → Type 0
  Stand w = StandsClean p f.variables n scope opening settings frame w

  abbrev m : Manner
  m = manner_in f calls loops result

  abbrev Leaves : {A : Type 0} → State → A → State → Type 0
  Leaves w a u = LeavesClean p opening w.objects u

  abbrev Done : PlainType → State → Option Scalar → State → Type 0
  Done t w x u = Performed p whole n depth number f there calls loops result lie scope opening settings head frame t w x u

  abbrev Acts : PlainValue → Type 0
  Acts v = Performs p whole n depth number f there calls loops result lie scope opening settings head frame v

  abbrev Yields : PlainValue → Type 0
  Yields v = Evaluates p whole n depth number f there calls loops result lie scope opening settings head frame v

  abbrev YieldAll : PlainValues → Type 0
  YieldAll vs = EvaluatesAll p whole n depth number f there calls loops result lie scope opening settings head frame vs

  abbrev Given : PlainValue → Environment → State → Scalar → State → Type 0
  Given v env w x u = After p whole n depth number f there calls loops result lie scope opening settings head frame v env w x u

  abbrev Finds : PlainPlace → Type 0
  Finds q = Locates p whole n depth number f there calls loops result lie scope opening settings head frame q

  abbrev Found : PlainPlace → State → Target → State → Type 0
  Found q w target u = AfterPlace p whole n depth number f there calls loops result lie scope opening settings head frame q w target u

  call_scalar : (t : PlainType) (k : ℕ) (arguments : PlainValues) → Calls c t k arguments → AreScalars arguments
  call_scalar t k arguments g =
      let callee : (callee : PlainFunction) × (slice_get p.functions k ≡ Some callee) × (seen_function callee ≡ g.seen) = callee_there p k g.seen g.there in
      arguments_scalar p c refl (parameter_types callee.0) arguments (subst (λ (seen : SeenFunction). ArgumentsFit c seen.parameters arguments) (sym callee.2) g.fit) (whole.functions k callee.0 callee.1).parameters_scalar

  mutual
    pub acts : (v : PlainValue) → IsWholeValue c v → Acts v
    acts (value at t (constant z)) i = constant_form p whole n depth number f there calls loops result lie stay_clean scope opening settings head frame at t z
    acts (value at t (read q)) i = read_form p whole n depth number f there calls loops result lie stay_clean scope opening settings head frame at t q i.0 i.1 (finds q i.0)
    acts (value at t (sense k)) i = sense_form p whole n depth number f there calls loops result lie stay_clean scope opening settings head frame at t k
    acts (value at t (address q)) i = address_form p whole n depth number f there calls loops result lie stay_clean scope opening settings head frame at t q (finds q i.0)
    acts (value at t (decay q)) i = decay_form p whole n depth number f there calls loops result lie scope opening settings head frame at t q i.0 i.1 (finds q i.0)
    acts (value at t (convert v)) i = convert_form p whole n depth number f there calls loops result lie stay_clean scope opening settings head frame at t v (evaluates p whole n depth number f there calls loops result lie scope opening settings head frame v (convert_scalar t v i.1) (acts v i.0))
    acts (value at t (cast v)) i = cast_form p whole n depth number f there calls loops result lie stay_clean scope opening settings head frame at t v (acts v i.0) (λ e. evaluates p whole n depth number f there calls loops result lie scope opening settings head frame v (cast_scalar t v i.1 e) (acts v i.0))
    acts (value at t (unary op v)) i =
        unary_form p whole n depth number f there calls loops result lie stay_clean scope opening settings head frame at t op v i.0 i.1 (evaluates p whole n depth number f there calls loops result lie scope opening settings head frame v (ap is_scalar i.1.operand_is ∙ unary_scalar op i.1.entry (unary_takes op i.1.of_type i.1.entry i.1.is)) (acts v i.0))
    acts (value at t (binary op a b)) i =
        binary_form p whole n depth number f there calls loops result lie stay_clean scope opening settings head frame at t op a b i.0 i.1 i.2
        (evaluates p whole n depth number f there calls loops result lie scope opening settings head frame a (ap is_scalar i.2.left_is ∙ plain_scalar i.2.entry.left (binary_takes p.structures op i.2.left_null i.2.right_null i.2.left_type i.2.right_type i.2.entry i.2.is).left) (acts a i.0))
        (evaluates p whole n depth number f there calls loops result lie scope opening settings head frame b (ap is_scalar i.2.right_is ∙ plain_scalar i.2.entry.right (binary_takes p.structures op i.2.left_null i.2.right_null i.2.left_type i.2.right_type i.2.entry i.2.is).right) (acts b i.1))
    acts (value at t (logic op a b)) i = logic_form p whole n depth number f there calls loops result lie stay_clean scope opening settings head frame at t op a b i.0 (evaluates p whole n depth number f there calls loops result lie scope opening settings head frame a i.3 (acts a i.0)) (evaluates p whole n depth number f there calls loops result lie scope opening settings head frame b i.4 (acts b i.1))
    acts (value at t (conditional v a b)) i =
        conditional_form p whole n depth number f there calls loops result lie stay_clean scope opening settings head frame at t v a b i.0 (evaluates p whole n depth number f there calls loops result lie scope opening settings head frame v i.3 (acts v i.0))
        (evaluates p whole n depth number f there calls loops result lie scope opening settings head frame a (ap is_scalar i.4.left_is ∙ plain_scalar i.4.entry.left (conditional_takes i.4.left_null i.4.right_null i.4.left_type i.4.right_type i.4.entry i.4.is).left) (acts a i.1))
        (evaluates p whole n depth number f there calls loops result lie scope opening settings head frame b (ap is_scalar i.4.right_is ∙ plain_scalar i.4.entry.right (conditional_takes i.4.left_null i.4.right_null i.4.left_type i.4.right_type i.4.entry i.4.is).right) (acts b i.2))
    acts (value at t (call name k arguments)) i = call_form p whole n depth number f there calls loops result lie stay_clean scope opening settings head frame at t name k arguments i.0 i.1 (yield_all arguments i.0 (call_scalar t k arguments i.1))
    acts (value at t (built_in name g arguments)) i = λ env clear w st.
        built_in_form p whole n depth number f there calls loops result lie stay_clean scope opening settings head frame at t name g arguments i.1 (yield_all arguments i.0 (library_scalar c t g arguments i.1 (clean_built_in m settings at t name g arguments env clear.clean).0)) env clear w st

    pub yield_all : (vs : PlainValues) → AreWholeValues c vs → AreScalars vs → YieldAll vs
    yield_all no_values i sc = all_none p whole n depth number f there calls loops result lie stay_clean scope opening settings head frame
    yield_all (more_values v vs) i sc = all_more p whole n depth number f there calls loops result lie stay_clean scope opening settings head frame v vs i.0 (evaluates p whole n depth number f there calls loops result lie scope opening settings head frame v sc.0 (acts v i.0)) (yield_all vs i.1 sc.1)

    pub finds : (q : PlainPlace) → IsWholePlace c q → Finds q
    finds (place at t (variable k)) i = variable_place p whole n depth number f there calls loops result lie scope opening settings head frame at t k i
    finds (place at t (global k)) i = global_place p whole n depth number f there calls loops result lie scope opening settings head frame at t k i
    finds (place at t (literal k bytes)) i = literal_place p whole n depth number f there calls loops result lie scope opening settings head frame at t k bytes i
    finds (place at t (member q k)) i = member_place p whole n depth number f there calls loops result lie scope opening settings head frame at t q k i.0 i.1 (finds q i.0)
    finds (place at t (index (value at_a t_a (decay q)) j)) i = index_place p whole n depth number f there calls loops result lie scope opening settings head frame at at_a t t_a q j i.0.0 i.0.1 i.1 i.2 (finds q i.0.0) (evaluates p whole n depth number f there calls loops result lie scope opening settings head frame j (ap is_scalar i.2.integer_is) (acts j i.1))
    finds (place at t (index (value at_a t_a form) j)) i = λ env clear w st. let e = clear.clean in absurd cc
    finds (place at t (dereference v)) i = λ env clear w st. let e = clear.clean in absurd cc
