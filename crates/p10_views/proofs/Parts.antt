-- The parts of statements leave the same as erased ones, but for places.
use Rattle.std.proofs.Common.{◌≡◌, ◌∙◌, ℕ, ◌&&◌, true, false, List, [], ◌∷◌, ◌++◌, map, Option, Some, None, option_map, refl}
use Rattle.std.specs.Prelude.{if◌then◌else◌}
use Rattle.p10_base.specs.declared.span.Span.{Span}
use Rattle.p10_int.specs.declared.types.IntType.{IntType}
use Rattle.p10_core.specs.declared.statements.LoopKeyword.{LoopKeyword}
use Rattle.p10_core.specs.declared.statements.LoopKeyword.TheVariants.{Do, While, For}
use Rattle.p10_core.specs.Typed.{PlainValue, type_of, PlainItem, PlainWritten, one_scalar, scalars_of_text, PlainInitializer, not_initialized, single, copied, listed, PlainVariable}
use Rattle.p10_core.specs.Rows.{is_integer}
use Rattle.p10_core.specs.Constants.{integer_of}
use Rattle.p10_absx.specs.Abstract.{Abstract, whole_type}
use Rattle.p10_absx.specs.Environments.{Environment, learned, hull_reached}
use Rattle.p10_absx.specs.Assessing.{assess, value_found, known_where}
use Rattle.p10_pass.specs.Arguments.{has_value, failing_in, failing_at}
use Rattle.p10_pass.specs.Passing.{Left, Tested, Round, reached, nowhere, where_going, and_then_pass, with_calls, result_lies, value_passed, items_passed, integer_declared, other_declared, declared, range_returned, value_returned, tested_in, tested_reached, round_of}
use Rattle.p10_views.specs.Erased.{no_span, erased_value, erased_written, erased_item, erased_initializer, erased_variable}
use Rattle.p10_views.proofs.Types.{integer_erased, kind_erased, integer_value_erased}
use Rattle.p10_views.proofs.Called.{ValueCalls, MaybeCalls, WrittenCalls, ItemsCall, InitializerCalls}
use Rattle.p10_views.proofs.Spans.{erased_spans, erased_left, spans_both, unless_erased, calls_erased, going_erased, then_erased, either_erased}
use Rattle.p10_views.proofs.Manners.{Twin, first_of, second_of, Shared, found_same, there_same, fails_same, fails_at_same}

-- ---- values and declarations

pub evaluated_erased : (t : Twin) (v : PlainValue) → ValueCalls (Shared t) v → (env : Environment) → value_passed (second_of t) (erased_value t.program v) env ≡ erased_left (value_passed (first_of t) v env)
evaluated_erased t v h env =
    (λ i. with_calls (fails_same t v h env i) (reached (if there_same t v h env i then Some env else None)))
    ∙ calls_erased (failing_in t.c v env) (reached (if has_value t.c v env then Some env else None))

items_erased : (t : Twin) (items : List PlainItem) → ItemsCall (Shared t) items → (env : Environment) → items_passed (second_of t) (map (erased_item t.program) items) env ≡ erased_left (items_passed (first_of t) items env)
items_erased t [] h env = refl
items_erased t (item ∷ items) h env = by_written item.written h.0 (λ e. items_erased t items h.1 e)
  where
    by_written : (w : PlainWritten) → WrittenCalls (Shared t) w → ((e : Environment) → items_passed (second_of t) (map (erased_item t.program) items) e ≡ erased_left (items_passed (first_of t) items e))
        → items_passed (second_of t) (record { scalar = item.scalar; written = erased_written t.program w } ∷ map (erased_item t.program) items) env ≡ erased_left (items_passed (first_of t) (record item { written = w } ∷ items) env)
    by_written (one_scalar v) own rest =
        (λ i. and_then_pass (evaluated_erased t v own env i) (λ e. items_passed (second_of t) (map (erased_item t.program) items) e))
        ∙ then_erased (value_passed (first_of t) v env) (λ e. items_passed (first_of t) items e) (λ e. items_passed (second_of t) (map (erased_item t.program) items) e) rest
    by_written (scalars_of_text bytes) own rest = then_erased (reached (Some env)) (λ e. items_passed (first_of t) items e) (λ e. items_passed (second_of t) (map (erased_item t.program) items) e) rest

integer_declared_erased : (t : Twin) (n : ℕ) (kind : IntType) (init : PlainInitializer) → InitializerCalls (Shared t) init → (env : Environment)
    → integer_declared (second_of t) n kind (erased_initializer t.program init) env ≡ erased_left (integer_declared (first_of t) n kind init env)
integer_declared_erased t n kind not_initialized h env = refl
integer_declared_erased t n kind (single v) h env =
    let seen : Environment = learned env n (whole_type kind) in
    (λ i. with_calls (fails_same t v h seen i) (reached (option_map (learned seen n) (value_found (found_same t v h seen i)))))
    ∙ calls_erased (failing_in t.c v seen) (reached (option_map (learned seen n) (value_found (assess t.c v seen))))
integer_declared_erased t n kind (copied q) h env = refl
integer_declared_erased t n kind (listed at items) h env = refl

other_erased : (t : Twin) (init : PlainInitializer) → InitializerCalls (Shared t) init → (env : Environment) → other_declared (second_of t) (erased_initializer t.program init) env ≡ erased_left (other_declared (first_of t) init env)
other_erased t not_initialized h env = refl
other_erased t (single v) h env = evaluated_erased t v h env
other_erased t (copied q) h env = (λ i. with_calls (fails_at_same t q h env i) (reached (Some env))) ∙ calls_erased (failing_at t.c q env) (reached (Some env))
other_erased t (listed at items) h env = items_erased t items h env

pub declared_erased : (t : Twin) (n : ℕ) (v : Option PlainVariable) (init : PlainInitializer) → InitializerCalls (Shared t) init → (env : Environment)
    → declared (second_of t) n (option_map (erased_variable t.program) v) (erased_initializer t.program init) env ≡ erased_left (declared (first_of t) n v init env)
declared_erased t n None init h env = refl
declared_erased t n (Some v) init h env =
    (λ i. if v.frame && integer_erased t.program v.type i then integer_declared (second_of t) n (kind_erased t.program v.type i) (erased_initializer t.program init) env else other_declared (second_of t) (erased_initializer t.program init) env)
    ∙ either_erased (v.frame && is_integer v.type) (integer_declared (first_of t) n (integer_of v.type) init env) (other_declared (first_of t) init env)
    (integer_declared (second_of t) n (integer_of v.type) (erased_initializer t.program init) env) (other_declared (second_of t) (erased_initializer t.program init) env)
    (integer_declared_erased t n (integer_of v.type) init h env) (other_erased t init h env)

-- ---- returns

range_erased : (t : Twin) (keyword : Span) (a : Option Abstract) (env : Environment) → range_returned (second_of t) no_span a env ≡ erased_left (range_returned (first_of t) keyword a env)
range_erased t keyword None env = refl
range_erased t keyword (Some a) env = λ i. record nowhere { returns = Some env; returned = Some a.range; results = unless_erased (result_lies t.result a.range) keyword i }

pub returned_erased : (t : Twin) (keyword : Span) (v : PlainValue) → ValueCalls (Shared t) v → (env : Environment)
    → value_returned (second_of t) no_span (erased_value t.program v) env ≡ erased_left (value_returned (first_of t) keyword v env)
returned_erased t keyword v h env =
    (λ i. if integer_value_erased t.program v i then range_returned (second_of t) no_span (value_found (found_same t v h env i)) env else record nowhere { returns = Some env })
    ∙ either_erased (is_integer (type_of v)) (range_returned (first_of t) keyword (value_found (assess t.c v env)) env) (record nowhere { returns = Some env })
    (range_returned (second_of t) no_span (value_found (assess t.c v env)) env) (record nowhere { returns = Some env })
    (range_erased t keyword (value_found (assess t.c v env)) env) refl

-- ---- rounds of loops

abbrev pub erased_tested : Tested → Tested
erased_tested t = record t { names = erased_spans t.names }

abbrev pub erased_round : Round → Round
erased_round r = record r { body = erased_left r.body; names = erased_spans r.names }

test_erased : (t : Twin) (v : Option PlainValue) → MaybeCalls (Shared t) v → (env : Environment) → tested_in (second_of t) (option_map (erased_value t.program) v) env ≡ erased_tested (tested_in (first_of t) v env)
test_erased t None h env = refl
test_erased t (Some v) h env = λ i. record { truth = known_where true env (found_same t v h env i); contrary = known_where false env (found_same t v h env i); names = fails_same t v h env i }

test_reached_erased : (t : Twin) (v : Option PlainValue) → MaybeCalls (Shared t) v → (env : Option Environment)
    → tested_reached (second_of t) (option_map (erased_value t.program) v) env ≡ erased_tested (tested_reached (first_of t) v env)
test_reached_erased t v h None = refl
test_reached_erased t v h (Some env) = test_erased t v h env

-- a round whose test stands last, by its parts
abbrev round_last : Environment → Left → Tested → Round
round_last head b t = record { enters = Some head; back = t.truth; exits = hull_reached t.contrary b.breaks; body = b; names = b.arguments ++ t.names }

last_erased : (head : Environment) (b : Left) (t : Tested) → round_last head (erased_left b) (erased_tested t) ≡ erased_round (round_last head b t)
last_erased head b t = λ i. record (erased_round (round_last head b t)) { names = spans_both b.arguments t.names i }

-- a round whose test stands first, by its parts
abbrev round_first : Tested → Left → Left → Round
round_first t b c = record { enters = t.truth; back = c.normal; exits = hull_reached t.contrary b.breaks; body = b; names = t.names ++ (c.arguments ++ b.arguments) }

first_erased : (t : Tested) (b c : Left) → round_first (erased_tested t) (erased_left b) (erased_left c) ≡ erased_round (round_first t b c)
first_erased t b c =
    λ i. record (erased_round (round_first t b c)) { names = ((λ k. erased_spans t.names ++ spans_both c.arguments b.arguments k) ∙ spans_both t.names (c.arguments ++ b.arguments)) i }

tested_first : (t : Tested) (third third' body body' : Environment → Left) → ((e : Environment) → third' e ≡ erased_left (third e)) → ((e : Environment) → body' e ≡ erased_left (body e))
    → round_first (erased_tested t) (where_going t.truth body') (where_going (hull_reached (where_going t.truth body').normal (where_going t.truth body').continues) third')
    ≡ erased_round (round_first t (where_going t.truth body) (where_going (hull_reached (where_going t.truth body).normal (where_going t.truth body).continues) third))
tested_first t third third' body body' thirds bodies =
    let b : Left = where_going t.truth body in
    let same : where_going t.truth body' ≡ erased_left b = going_erased t.truth body body' bodies in
    (λ i. round_first (erased_tested t) (same i) (where_going (hull_reached (same i).normal (same i).continues) third'))
    ∙ (λ i. round_first (erased_tested t) (erased_left b) (going_erased (hull_reached b.normal b.continues) third third' thirds i))
    ∙ first_erased t b (where_going (hull_reached b.normal b.continues) third)

pub round_erased : (t : Twin) (keyword : LoopKeyword) (v : Option PlainValue) → MaybeCalls (Shared t) v → (third third' body body' : Environment → Left)
    → ((e : Environment) → third' e ≡ erased_left (third e)) → ((e : Environment) → body' e ≡ erased_left (body e)) → (head : Environment)
    → round_of (second_of t) keyword (option_map (erased_value t.program) v) third' body' head ≡ erased_round (round_of (first_of t) keyword v third body head)
round_erased t Do v h third third' body body' thirds bodies head =
    let again : Option PlainValue = option_map (erased_value t.program) v in
    let b : Left = body head in
    (λ i. round_last head (bodies head i) (tested_reached (second_of t) again (hull_reached (bodies head i).normal (bodies head i).continues)))
    ∙ (λ i. round_last head (erased_left b) (test_reached_erased t v h (hull_reached b.normal b.continues) i))
    ∙ last_erased head b (tested_reached (first_of t) v (hull_reached b.normal b.continues))
round_erased t While v h third third' body body' thirds bodies head =
    (λ i. let s : Tested = test_erased t v h head i in round_first s (where_going s.truth body') (where_going (hull_reached (where_going s.truth body').normal (where_going s.truth body').continues) third'))
    ∙ tested_first (tested_in (first_of t) v head) third third' body body' thirds bodies
round_erased t For v h third third' body body' thirds bodies head =
    (λ i. let s : Tested = test_erased t v h head i in round_first s (where_going s.truth body') (where_going (hull_reached (where_going s.truth body').normal (where_going s.truth body').continues) third'))
    ∙ tested_first (tested_in (first_of t) v head) third third' body body' thirds bodies
