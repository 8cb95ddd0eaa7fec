-- Functions, objects and programs are whole where their parts are.
use Rattle.std.proofs.Common.{◌≡◌, ℕ, ◌+◌, ◌<◌, ◌≤◌, Bool, true, false, not, ◌&&◌, ◌||◌, List, [], map, length, take, Some, slice_get, refl, ap, sym, ◌∙◌, subst, arith, ◌⊎◌, inl, inr, get_or, below_more}
use Rattle.std.proofs.lemmas.Option.{slice_get_within}
use Rattle.std.specs.List.{All}
use Rattle.std.specs.Prelude.{IfSome, sum}
use Rattle.std.proofs.lemmas.List.Elements.{All-map}
use Rattle.p10_base.specs.declared.report.TheConstants.Limit.{MOST_OBJECT_BYTES, MOST_STATIC_BYTES}
use Rattle.p10_core.specs.declared.program.Func.{Func}
use Rattle.p10_core.specs.declared.program.Global.{Global}
use Rattle.p10_core.specs.declared.program.Literal.{Literal}
use Rattle.p10_core.specs.declared.program.Program.{Program}
use Rattle.p10_core.specs.declared.program.Variable.{Variable}
use Rattle.p10_core.specs.declared.statements.Stmt.{Stmt}
use Rattle.p10_core.specs.Types.{PlainType, PlainStructure}
use Rattle.p10_core.specs.Typed.{PlainVariable, PlainFunction, PlainObject, PlainProgram}
use Rattle.p10_core.specs.Rows.{is_scalar, is_void, is_integer}
use Rattle.p10_core.specs.Views.{plain_program, plain_types, plain_function, plain_literal, plain_object, plain_variable, plain_statements}
use Rattle.p10_core.specs.Whole.{Surroundings}
use Rattle.p10_core.specs.WholePrograms.{AreRising, AreWholeStructures, HasMain, IsExtent, IsResult, IsStaticInitializer, IsWholeFunction, IsWholeInitializer, IsWholeObject, IsWholeProgram, IsWholeType, IsWholeVariable, AreWholeStatements, region_of, surroundings_of}
use Rattle.p10_whole.specs.declared.context.Context.{Context}
use Rattle.p10_whole.specs.private.Headings.{HasSize, HasWholeHeading}
use Rattle.p10_whole.specs.private.Orders.{InOrder}
use Rattle.p10_whole.specs.private.Regions.{region_in, PassesStatements}
use Rattle.p10_whole.specs.private.Shows.{Shows}
use Rattle.p10_whole.proofs.Each.{map_take, map_length, got_at}
use Rattle.p10_whole.proofs.Showing.{both_true}

-- what an implication of tests says
implied : (a b : Bool) → (not a || b) ≡ true → a ≡ true → b ≡ true
implied true b e h = e
implied false b e h = absurd cc

one_of : (a b : Bool) → (a || b) ≡ true → (a ≡ true) ⊎ (b ≡ true)
one_of true b e = inl refl
one_of false b e = inr e

pub variable_is : (ss : List PlainStructure) (v : PlainVariable) (a b : Bool) → Shows a (HasSize ss v.type v.bytes) → b ≡ is_scalar v.type → Shows (a && (not v.frame || b)) (IsWholeVariable ss v)
variable_is ss v a b size scalar = record {
  shows = λ k.
      let t = both_true a (not v.frame || b) k in
      let s = size.shows t.0 in
      record {
        object = s.object;
        bytes_are = s.bytes_are;
        frame_scalar = λ f. sym scalar ∙ implied v.frame b t.1 f;
      };
}

pub result_is : (ss : List PlainStructure) (t : PlainType) (a b c : Bool) → Shows a (IsWholeType ss t) → b ≡ is_scalar t → c ≡ is_void t → Shows (a && (b || c)) (IsResult ss t)
result_is ss t a b c whole scalar none = record {
  shows = λ k.
      let h = both_true a (b || c) k in
      record {
        whole = whole.shows h.0;
        scalar_or_none = elim (one_of b c h.1) [ inl e ↦ inl (sym scalar ∙ e) | inr e ↦ inr (sym none ∙ e) ];
      };
}

pub heading_is : (ss : List PlainStructure) (f : Func) (parameters variables : List Variable) (a b c d : Bool) → f.params ≤ length variables → variables ≡ f.vars → parameters ≡ take f.params variables →
    Shows a (All (λ v. is_scalar v.type ≡ true) (map plain_variable parameters)) → Shows b (IsResult ss (plain_function f).result) → Shows c (All (IsWholeVariable ss) (map plain_variable variables)) → Shows d (sum (map (λ v. v.bytes) (map plain_variable variables)) ≤ MOST_OBJECT_BYTES) →
    Shows ((a && b) && (c && d)) (HasWholeHeading ss (plain_function f))
heading_is ss f parameters variables a b c d there same is scalar result whole small = record {
  shows = λ k.
      let outer = both_true (a && b) (c && d) k in
      let types = both_true a b outer.0 in
      let rest = both_true c d outer.1 in
      record {
        parameters_there = subst (λ n. f.params ≤ n) (ap length same ∙ sym (map_length plain_variable f.vars)) there;
        parameters_scalar = All-map (λ t. is_scalar t ≡ true) (λ v. v.type) _ (subst (All (λ v. is_scalar v.type ≡ true)) (ap (map plain_variable) (is ∙ ap (take f.params) same) ∙ map_take plain_variable f.params f.vars) (scalar.shows types.0));
        result = result.shows types.1;
        variables = subst (λ xs. All (IsWholeVariable ss) (map plain_variable xs)) same (whole.shows rest.0);
        small = subst (λ xs. sum (map (λ v. v.bytes) (map plain_variable xs)) ≤ MOST_OBJECT_BYTES) same (small.shows rest.1);
      };
}

pub function_is : (c : Context) (start after : List ℕ) (body : List Stmt) (x y : Bool) (a b d : Bool) → c.in_loop ≡ false → c.in_switch ≡ false → start ≡ [] → body ≡ c.function.now.body →
    Shows a (InOrder (plain_function c.function.now) x y) → Shows b (HasWholeHeading (plain_types c.program.now.types) (plain_function c.function.now)) → Shows d (PassesStatements c start (plain_statements body) after) →
    Shows (a && (b && d)) (IsWholeFunction (plain_program c.program.now) c.number (plain_function c.function.now))
function_is c start after body x y a b d l s e is order heading passes = record {
  shows = λ k.
      let outer = both_true a (b && d) k in
      let inner = both_true b d outer.1 in
      let o = order.shows outer.0 in
      let h = heading.shows inner.0 in
      let p = passes.shows inner.1 in
      record {
        parameters_there = h.parameters_there;
        parameters_scalar = h.parameters_scalar;
        result = h.result;
        variables = h.variables;
        declared_in_order = o.declared;
        loops_in_order = o.loops;
        small = h.small;
        body = subst (λ ss. AreWholeStatements (region_of (plain_program c.program.now) c.number (plain_function c.function.now)) (plain_statements ss)) is
            (subst (λ r. AreWholeStatements r (plain_statements body)) (ap (region_in c) e ∙ outside l s) p.whole);
      };
}
  where
    outside : c.in_loop ≡ false → c.in_switch ≡ false → region_in c [] ≡ region_of (plain_program c.program.now) c.number (plain_function c.function.now)
    outside l s = ap (λ x. record (region_in c []) { in_loop = x }) l ∙ ap (λ x. record (region_in c []) { in_loop = false; in_switch = x }) s

pub object_is : (p : PlainProgram) (u : Surroundings) (o : PlainObject) (count : ℕ) (a b c d e f g : Bool) → u ≡ surroundings_of p → count ≡ length p.functions →
    Shows a (HasSize p.structures o.type o.bytes) → Shows b (o.bytes ≤ MOST_OBJECT_BYTES) → Shows c (IsWholeInitializer u o.type o.initializer) → Shows d (IsStaticInitializer o.initializer) → Shows e (IfSome o.owner (λ n. n < count)) → f ≡ is_integer o.type → Shows g (All (IsExtent p) o.visible) →
    Shows (((a && b) && (c && d)) && (e && ((not o.sensor || f) && g))) (IsWholeObject p o)
object_is p u o count a b c d e f g around many size small initial constant owner integer visible = record {
  shows = λ k.
      let outer = both_true ((a && b) && (c && d)) (e && ((not o.sensor || f) && g)) k in
      let first = both_true (a && b) (c && d) outer.0 in
      let sizes = both_true a b first.0 in
      let written = both_true c d first.1 in
      let rest = both_true e ((not o.sensor || f) && g) outer.1 in
      let last = both_true (not o.sensor || f) g rest.1 in
      let s = size.shows sizes.0 in
      record {
        object = s.object;
        bytes_are = s.bytes_are;
        small = small.shows sizes.1;
        initializer = subst (λ x. IsWholeInitializer x o.type o.initializer) around (initial.shows written.0);
        constants = constant.shows written.1;
        owner_there = subst (λ n. IfSome o.owner (λ x. x < n)) many (owner.shows rest.0);
        sensor_integer = λ h. sym integer ∙ implied o.sensor f last.0 h;
        visible_there = visible.shows last.1;
      };
}

pub program_is : (p : Program) (os : List Global) (ls : List Literal) (fs : List Func) (a b c d e f : Bool) → os ≡ p.globals → ls ≡ p.literals → fs ≡ p.functions →
    AreWholeStructures (plain_types p.types) → Shows a (sum (map (λ o. o.bytes) (map plain_object os)) ≤ MOST_STATIC_BYTES) → Shows b (AreRising 0 (map plain_literal ls)) → Shows c (All (λ l. length l.bytes ≤ MOST_OBJECT_BYTES) (map plain_literal ls)) → Shows d (HasMain (plain_program p)) → Shows e (All (IsWholeObject (plain_program p)) (map plain_object os)) → Shows f ((n : ℕ) (g : PlainFunction) → slice_get (map plain_function fs) n ≡ Some g → IsWholeFunction (plain_program p) n g) →
    ((a && (b && c)) && ((d && e) && f)) ≡ true → IsWholeProgram (plain_program p)
program_is p os ls fs a b c d e f same_objects same_literals same_functions structures bytes rise small main objects functions k =
    let outer = both_true (a && (b && c)) ((d && e) && f) k in
    let sizes = both_true a (b && c) outer.0 in
    let literals = both_true b c sizes.1 in
    let rest = both_true (d && e) f outer.1 in
    let outside = both_true d e rest.0 in
    record {
      structures = structures;
      functions = subst (λ xs. (n : ℕ) (g : PlainFunction) → slice_get (map plain_function xs) n ≡ Some g → IsWholeFunction (plain_program p) n g) same_functions (functions.shows rest.1);
      objects = subst (λ xs. All (IsWholeObject (plain_program p)) (map plain_object xs)) same_objects (objects.shows outside.1);
      static_bytes = subst (λ xs. sum (map (λ o. o.bytes) (map plain_object xs)) ≤ MOST_STATIC_BYTES) same_objects (bytes.shows sizes.0);
      literals_rise = subst (λ xs. AreRising 0 (map plain_literal xs)) same_literals (rise.shows literals.0);
      literals_small = subst (λ xs. All (λ l. length l.bytes ≤ MOST_OBJECT_BYTES) (map plain_literal xs)) same_literals (small.shows literals.1);
      main = main.shows outside.0;
    }

-- ## Functions by their places

pub next_function : (p : PlainProgram) (all : List Func) (i : ℕ) (x : Func) → i < length all → x ≡ get_or all i x → IsWholeFunction p i (plain_function x) → ((n : ℕ) → n < i → (f : PlainFunction) → slice_get (map plain_function all) n ≡ Some f → IsWholeFunction p n f) → (n : ℕ) → n < i + 1 → (f : PlainFunction) → slice_get (map plain_function all) n ≡ Some f → IsWholeFunction p n f
next_function p all i x below is whole before =
    below_more (λ n. (f : PlainFunction) → slice_get (map plain_function all) n ≡ Some f → IsWholeFunction p n f) i before
    (λ f e. subst (IsWholeFunction p i) (some_is (plain_function x) f (sym (got_at plain_function all i x below is) ∙ e)) whole)
  where
    some_is : (f g : PlainFunction) → Some f ≡ Some g → f ≡ g
    some_is f g e = cc

pub all_functions : (p : PlainProgram) (all : List Func) (i : ℕ) → length all ≤ i → ((n : ℕ) → n < i → (f : PlainFunction) → slice_get (map plain_function all) n ≡ Some f → IsWholeFunction p n f) → (n : ℕ) (f : PlainFunction) → slice_get (map plain_function all) n ≡ Some f → IsWholeFunction p n f
all_functions p all i end before n f e =
    let within = slice_get_within (map plain_function all) n f e in
    let same = map_length plain_function all in
    before n (omega (arith, within, same, end)) f e
