-- What nodes of whole programs name by numbers is there.
use Rattle.std.proofs.Common.{◌≡◌, ℕ, zero, suc, ◌+◌, ◌<◌, Bool, true, false, List, [], ◌∷◌, ◌++◌, length, drop, refl, subst, arith, Option, Some, None, slice_get}
use Rattle.std.specs.Prelude.{slice_index_or}
use Rattle.std.specs.Option.{option_map}
use Rattle.std.proofs.lemmas.Option.{none-some}
use Rattle.p10_base.specs.declared.at.At.{At}
use Rattle.p10_core.specs.declared.statements.LoopKeyword.{LoopKeyword}
use Rattle.p10_core.specs.declared.statements.LoopKeyword.TheVariants.{While, Do, For}
use Rattle.p10_core.specs.Types.{PlainType}
use Rattle.p10_core.specs.Typed.{PlainValue, value, PlainForm, constant, read, sense, address, decay, convert, cast, unary, binary, logic, conditional, call, built_in, PlainPlace, place, PlainPlaceForm, variable, global, literal, index, member, dereference, PlainValues, no_values, more_values}
use Rattle.p10_core.specs.Typed.{PlainWritten, one_scalar, scalars_of_text, PlainItem, PlainInitializer, not_initialized, single, copied, listed, PlainStatement, statement, PlainStatementForm, set, update, copy, evaluate as expression, asserts, declare, declare_static, block, if_then, if_else, loop, switch, break, continue, return, empty, mark, PlainStatements, no_statements, more_statements, PlainFunction, PlainObject, PlainProgram}
use Rattle.p10_core.specs.Nodes.{PlainNode, a_value, a_place, nodes_of_value, nodes_in_form, nodes_of_place, nodes_in_place_form, nodes_of_values, nodes_of_maybe, nodes_of_written, nodes_of_items, nodes_of_initializer, in_loop_order, nodes_of_statement, nodes_in_statement_form, nodes_of_statements}
use Rattle.p10_core.specs.Whole.{SeenObject, IsWholeValue, IsWholeForm, IsWholePlace, IsWholePlaceForm, AreWholeValues}
use Rattle.p10_core.specs.WholePrograms.{seen_object, numbers_from, Region, around, after, after_all, IsWholeWritten, width_of_written, AreWholeItems, IsWholeInitializer, IsMaybeTest, IsWholeStatement, IsWholeStatementForm, AreWholeStatements, IsWholeProgram}
use Rattle.p10_meaning.specs.Calling.{no_depth, call_at}
use Rattle.p10_meaning.specs.Sound.{region_at}
use Rattle.p10_meaning.proofs.LaidOut.{laid_out}
use Rattle.p10_meaning.proofs.SoundValues.{IsCallee}
use Rattle.p10_meaning.proofs.SoundStatements.{AreFew, scope_after, scope_after_all, seen, after_is, after_all_is}
use Rattle.p10_meaning.proofs.SoundCalls.{few_variables, calls_keep}
use Rattle.p10_stop_laws.specs.Names.{NamesThere, NumbersNameWhatIsThere}
use Rattle.p10_stop_laws.proofs.Among.{AllIn, all_both}
use Rattle.p10_stop_laws.proofs.Values.{callee_of}

-- what holds of all nodes of a list holds of each
among : (In : PlainNode → Type 0) (xs : List PlainNode) (x : PlainNode) (k : ℕ) → k < length xs → slice_index_or xs k x ≡ x → AllIn In xs → In x
among In [] x k l e h = absurd (omega (arith, l))
among In (y ∷ xs) x zero l e h = subst In e h.0
among In (y ∷ xs) x (suc k) l e h = among In xs x k (omega (arith, l)) e h.1

object_of : (o : Option PlainObject) (seen : SeenObject) → option_map seen_object o ≡ Some seen → (object : PlainObject) × (o ≡ Some object)
object_of None seen e = absurd (none-some _ e)
object_of (Some object) seen e = (object, refl)

module _ (p : PlainProgram) (whole : IsWholeProgram p) (number : ℕ) (f : PlainFunction) (there : slice_get p.functions number ≡ Some f) where
  abbrev Is : PlainNode → Type 0
  Is = NamesThere p f

  abbrev few : AreFew p f.variables
  few = few_variables p whole number f (whole.functions number f there)

  abbrev here : List ℕ → Bool → Bool → Region
  here scope l b = region_at p number f scope l b

  -- ## Values and places

  value_here : (scope : List ℕ) (at : At) (t : PlainType) (form : PlainForm) → IsWholeForm (around (here scope false false)) t form → Is (a_value (value at t form))
  value_here scope at t (call name k arguments) i = let callee : IsCallee p k i.1.seen = callee_of p k i.1.seen i.1.there in (callee.callee, callee.there)
  value_here scope at t form i = tt

  place_here : (scope : List ℕ) (at : At) (t : PlainType) (form : PlainPlaceForm) → IsWholePlaceForm (around (here scope false false)) t form → Is (a_place (place at t form))
  place_here scope at t (variable k) i =
      let v = (seen p (laid_out p whole) whole (call_at 0 p no_depth) (calls_keep p whole 0 no_depth) 0 number f few scope).seen k i.seen i.there in (v.0, v.1)
  place_here scope at t (global k) i = object_of (slice_get p.objects k) i.seen i.there
  place_here scope at t (literal k bytes) i = i.is_listed
  place_here scope at t form i = tt

  mutual
    value_named : (scope : List ℕ) (v : PlainValue) → IsWholeValue (around (here scope false false)) v → AllIn Is (nodes_of_value v)
    value_named scope (value at t form) i = (value_here scope at t form i, form_named scope t form i)

    form_named : (scope : List ℕ) (t : PlainType) (form : PlainForm) → IsWholeForm (around (here scope false false)) t form → AllIn Is (nodes_in_form form)
    form_named scope t (constant z) i = tt
    form_named scope t (read q) i = place_named scope q i.0
    form_named scope t (sense k) i = tt
    form_named scope t (address q) i = place_named scope q i.0
    form_named scope t (decay q) i = place_named scope q i.0
    form_named scope t (convert v) i = value_named scope v i.0
    form_named scope t (cast v) i = value_named scope v i.0
    form_named scope t (unary op v) i = value_named scope v i.0
    form_named scope t (binary op a b) i = all_both Is (nodes_of_value a) (nodes_of_value b) (value_named scope a i.0) (value_named scope b i.1)
    form_named scope t (logic op a b) i = all_both Is (nodes_of_value a) (nodes_of_value b) (value_named scope a i.0) (value_named scope b i.1)
    form_named scope t (conditional v a b) i =
        all_both Is (nodes_of_value v) (nodes_of_value a ++ nodes_of_value b) (value_named scope v i.0) (all_both Is (nodes_of_value a) (nodes_of_value b) (value_named scope a i.1) (value_named scope b i.2))
    form_named scope t (call name k arguments) i = all_named scope arguments i.0
    form_named scope t (built_in name k arguments) i = all_named scope arguments i.0

    all_named : (scope : List ℕ) (vs : PlainValues) → AreWholeValues (around (here scope false false)) vs → AllIn Is (nodes_of_values vs)
    all_named scope no_values i = tt
    all_named scope (more_values v vs) i = all_both Is (nodes_of_value v) (nodes_of_values vs) (value_named scope v i.0) (all_named scope vs i.1)

    place_named : (scope : List ℕ) (q : PlainPlace) → IsWholePlace (around (here scope false false)) q → AllIn Is (nodes_of_place q)
    place_named scope (place at t form) i = (place_here scope at t form i, place_form_named scope t form i)

    place_form_named : (scope : List ℕ) (t : PlainType) (form : PlainPlaceForm) → IsWholePlaceForm (around (here scope false false)) t form → AllIn Is (nodes_in_place_form form)
    place_form_named scope t (variable k) i = tt
    place_form_named scope t (global k) i = tt
    place_form_named scope t (literal k bytes) i = tt
    place_form_named scope t (index a b) i = all_both Is (nodes_of_value a) (nodes_of_value b) (value_named scope a i.0) (value_named scope b i.1)
    place_form_named scope t (member q k) i = place_named scope q i.0
    place_form_named scope t (dereference v) i = value_named scope v i.0

  -- ## Initialisers

  items_named : (scope : List ℕ) (ts : List PlainType) (from : ℕ) (items : List PlainItem) → AreWholeItems (around (here scope false false)) ts from items → AllIn Is (nodes_of_items items)
  items_named scope ts from [] i = tt
  items_named scope ts from (item ∷ items) i =
      all_both Is (nodes_of_written item.written) (nodes_of_items items) (written_named (drop item.scalar ts) item.written i.1) (items_named scope ts (item.scalar + width_of_written item.written) items i.2)
    where
      written_named : (ts : List PlainType) (written : PlainWritten) → IsWholeWritten (around (here scope false false)) ts written → AllIn Is (nodes_of_written written)
      written_named ts (one_scalar v) i = value_named scope v i.whole
      written_named ts (scalars_of_text bytes) i = tt

  initializer_named : (scope : List ℕ) (t : PlainType) (initializer : PlainInitializer) → IsWholeInitializer (around (here scope false false)) t initializer → AllIn Is (nodes_of_initializer initializer)
  initializer_named scope t not_initialized i = tt
  initializer_named scope t (single v) i = value_named scope v i.whole
  initializer_named scope t (copied q) i = place_named scope q i.whole
  initializer_named scope t (listed at items) i = items_named scope _ 0 items i.whole

  -- ## Statements

  test_named : (scope : List ℕ) (tested : Option PlainValue) → IsMaybeTest (around (here scope false false)) tested → AllIn Is (nodes_of_maybe tested)
  test_named scope None i = tt
  test_named scope (Some v) i = value_named scope v i.whole

  loop_named : (keyword : LoopKeyword) (first test third body : List PlainNode) → AllIn Is first → AllIn Is test → AllIn Is third → AllIn Is body → AllIn Is (in_loop_order keyword first test third body)
  loop_named While first test third body f t h b = all_both Is first (test ++ (third ++ body)) f (all_both Is test (third ++ body) t (all_both Is third body h b))
  loop_named For first test third body f t h b = all_both Is first (test ++ (third ++ body)) f (all_both Is test (third ++ body) t (all_both Is third body h b))
  loop_named Do first test third body f t h b = all_both Is first (body ++ (test ++ third)) f (all_both Is body (test ++ third) b (all_both Is test third t h))

  mutual
    statement_named : (x : PlainStatement) (scope : List ℕ) (l b : Bool) → IsWholeStatement (here scope l b) x → AllIn Is (nodes_of_statement x)
    statement_named (statement at form) scope l b i = (tt, statement_form_named form scope l b i)

    statement_form_named : (form : PlainStatementForm) (scope : List ℕ) (l b : Bool) → IsWholeStatementForm (here scope l b) form → AllIn Is (nodes_in_statement_form form)
    statement_form_named (set q v) scope l b i = all_both Is (nodes_of_place q) (nodes_of_value v) (place_named scope q i.place) (value_named scope v i.value)
    statement_form_named (update kind op t q v) scope l b i = all_both Is (nodes_of_place q) (nodes_of_value v) (place_named scope q i.place) (value_named scope v i.value)
    statement_form_named (copy q r) scope l b i = all_both Is (nodes_of_place q) (nodes_of_place r) (place_named scope q i.target) (place_named scope r i.source.whole)
    statement_form_named (expression v) scope l b i = value_named scope v i
    statement_form_named (asserts tree v) scope l b i = value_named scope v i.whole
    statement_form_named (declare k initializer) scope l b i = initializer_named (k ∷ scope) i.variable.type initializer i.initializer
    statement_form_named (declare_static k) scope l b i = tt
    statement_form_named (block xs) scope l b i = statements_named xs scope l b i
    statement_form_named (if_then v x) scope l b i = all_both Is (nodes_of_value v) (nodes_of_statement x) (value_named scope v i.0.whole) (statement_named x scope l b i.1)
    statement_form_named (if_else v x y) scope l b i =
        all_both Is (nodes_of_value v) (nodes_of_statement x ++ nodes_of_statement y) (value_named scope v i.0.whole)
        (all_both Is (nodes_of_statement x) (nodes_of_statement y) (statement_named x scope l b i.1) (statement_named y scope l b i.2))
    statement_form_named (loop head first tested third body) scope l b i =
        let same : after_all (here scope l b) first ≡ here (scope_after_all first scope) l b = after_all_is p (laid_out p whole) whole (call_at 0 p no_depth) (calls_keep p whole 0 no_depth) 0 number f few first scope l b in
        loop_named head.keyword (nodes_of_statements first) (nodes_of_maybe tested) (nodes_of_statements third) (nodes_of_statement body)
        (statements_named first scope l b i.0)
        (test_named (scope_after_all first scope) tested (subst (λ r. IsMaybeTest (around r) tested) same i.1))
        (statements_named third (scope_after_all first scope) l b (subst (λ r. AreWholeStatements r third) same i.2))
        (statement_named body (scope_after_all first scope) true b (subst (λ (r : Region). IsWholeStatement (record r { in_loop = true }) body) same i.3))
    statement_form_named (switch keyword v labels body) scope l b i = all_both Is (nodes_of_value v) (nodes_of_statement body) (value_named scope v i.0.whole) (statement_named body scope l true i.1)
    statement_form_named break scope l b i = tt
    statement_form_named continue scope l b i = tt
    statement_form_named (return keyword None) scope l b i = tt
    statement_form_named (return keyword (Some v)) scope l b i = value_named scope v i.0
    statement_form_named empty scope l b i = tt
    statement_form_named (mark kind) scope l b i = tt

    statements_named : (xs : PlainStatements) (scope : List ℕ) (l b : Bool) → AreWholeStatements (here scope l b) xs → AllIn Is (nodes_of_statements xs)
    statements_named no_statements scope l b i = tt
    statements_named (more_statements x rest) scope l b i =
        all_both Is (nodes_of_statement x) (nodes_of_statements rest) (statement_named x scope l b i.0)
        (statements_named rest (scope_after x scope) l b
        (subst (λ r. AreWholeStatements r rest) (after_is p (laid_out p whole) whole (call_at 0 p no_depth) (calls_keep p whole 0 no_depth) 0 number f few x scope l b) i.1))

pub numbers_name_what_is_there : NumbersNameWhatIsThere
numbers_name_what_is_there p whole number f there node h =
    among (NamesThere p f) (nodes_of_statements f.body) node h.0 h.1 h.2
    (statements_named p whole number f there f.body (numbers_from 0 f.parameters) false false (whole.functions number f there).body)
