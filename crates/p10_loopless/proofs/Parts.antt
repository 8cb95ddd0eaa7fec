-- The parts of statements leave the same where claims are the same but for loops.
use Rattle.std.proofs.Common.{◌≡◌, ℕ, ◌&&◌, true, false, List, [], ◌∷◌, ◌++◌, Option, Some, None, option_map, refl}
use Rattle.std.specs.Prelude.{if◌then◌else◌}
use Rattle.p10_base.specs.declared.span.Span.{Span}
use Rattle.p10_int.specs.declared.types.IntType.{IntType}
use Rattle.p10_core.specs.declared.statements.LoopKeyword.{LoopKeyword}
use Rattle.p10_core.specs.declared.statements.LoopKeyword.TheVariants.{Do, While, For}
use Rattle.p10_core.specs.Typed.{PlainValue, type_of, PlainItem, PlainWritten, one_scalar, scalars_of_text, PlainInitializer, not_initialized, single, copied, listed, PlainVariable}
use Rattle.p10_core.specs.Rows.{is_integer}
use Rattle.p10_core.specs.Constants.{integer_of}
use Rattle.p10_absx.specs.Abstract.{Abstract, whole_type}
use Rattle.p10_absx.specs.Environments.{Environment, learned, hull_reached}
use Rattle.p10_absx.specs.Assessing.{value_found, known_where}
use Rattle.p10_pass.specs.Passing.{Left, Tested, Round, reached, nowhere, where_going, and_then_pass, with_calls, value_passed, items_passed, integer_declared, other_declared, declared, range_returned, value_returned, tested_in, tested_reached, round_of}
use Rattle.p10_loopless.proofs.Manners.{Twin, first_of, second_of, found_same, there_same, fails_same, fails_at_same}

-- ---- values and declarations

pub same_evaluated : (t : Twin) (v : PlainValue) (env : Environment) → value_passed (first_of t) v env ≡ value_passed (second_of t) v env
same_evaluated t v env = λ i. with_calls (fails_same t v env i) (reached (if there_same t v env i then Some env else None))

pub same_items : (t : Twin) (items : List PlainItem) (env : Environment) → items_passed (first_of t) items env ≡ items_passed (second_of t) items env
same_items t [] env = refl
same_items t (item ∷ items) env = by_written item.written (λ e. same_items t items e)
  where
    by_written : (w : PlainWritten) → ((e : Environment) → items_passed (first_of t) items e ≡ items_passed (second_of t) items e)
        → items_passed (first_of t) (record item { written = w } ∷ items) env ≡ items_passed (second_of t) (record item { written = w } ∷ items) env
    by_written (one_scalar v) rest = λ i. and_then_pass (same_evaluated t v env i) (λ e. rest e i)
    by_written (scalars_of_text bytes) rest = λ i. and_then_pass (reached (Some env)) (λ e. rest e i)

same_integer : (t : Twin) (n : ℕ) (kind : IntType) (init : PlainInitializer) (env : Environment) → integer_declared (first_of t) n kind init env ≡ integer_declared (second_of t) n kind init env
same_integer t n kind not_initialized env = refl
same_integer t n kind (single v) env =
    let seen : Environment = learned env n (whole_type kind) in
    λ i. with_calls (fails_same t v seen i) (reached (option_map (learned seen n) (value_found (found_same t v seen i))))
same_integer t n kind (copied p) env = refl
same_integer t n kind (listed at items) env = refl

same_other : (t : Twin) (init : PlainInitializer) (env : Environment) → other_declared (first_of t) init env ≡ other_declared (second_of t) init env
same_other t not_initialized env = refl
same_other t (single v) env = same_evaluated t v env
same_other t (copied p) env = λ i. with_calls (fails_at_same t p env i) (reached (Some env))
same_other t (listed at items) env = same_items t items env

pub same_declared : (t : Twin) (n : ℕ) (v : Option PlainVariable) (init : PlainInitializer) (env : Environment) → declared (first_of t) n v init env ≡ declared (second_of t) n v init env
same_declared t n None init env = refl
same_declared t n (Some v) init env = λ i. if v.frame && is_integer v.type then same_integer t n (integer_of v.type) init env i else same_other t init env i

-- ---- returns

same_range : (t : Twin) (keyword : Span) (a : Option Abstract) (env : Environment) → range_returned (first_of t) keyword a env ≡ range_returned (second_of t) keyword a env
same_range t keyword None env = refl
same_range t keyword (Some a) env = refl

pub same_returned : (t : Twin) (keyword : Span) (v : PlainValue) (env : Environment) → value_returned (first_of t) keyword v env ≡ value_returned (second_of t) keyword v env
same_returned t keyword v env = λ i. if is_integer (type_of v) then same_range t keyword (value_found (found_same t v env i)) env i else record nowhere { returns = Some env }

-- ---- rounds of loops

same_test : (t : Twin) (v : Option PlainValue) (env : Environment) → tested_in (first_of t) v env ≡ tested_in (second_of t) v env
same_test t None env = refl
same_test t (Some v) env = λ i. record { truth = known_where true env (found_same t v env i); contrary = known_where false env (found_same t v env i); names = fails_same t v env i }

same_test_reached : (t : Twin) (v : Option PlainValue) (env : Option Environment) → tested_reached (first_of t) v env ≡ tested_reached (second_of t) v env
same_test_reached t v None = refl
same_test_reached t v (Some env) = same_test t v env

-- a round of a loop whose test stands first
abbrev tested_first : Tested → (Environment → Left) → (Environment → Left) → Round
tested_first t third body =
    let b : Left = where_going t.truth body in
    let c : Left = where_going (hull_reached b.normal b.continues) third in
    record { enters = t.truth; back = c.normal; exits = hull_reached t.contrary b.breaks; body = b; names = t.names ++ (c.arguments ++ b.arguments) }

pub same_round : (t : Twin) (keyword : LoopKeyword) (v : Option PlainValue) (third third' body body' : Environment → Left)
    → ((e : Environment) → third e ≡ third' e) → ((e : Environment) → body e ≡ body' e) → (head : Environment)
    → round_of (first_of t) keyword v third body head ≡ round_of (second_of t) keyword v third' body' head
same_round t Do v third third' body body' thirds bodies head = λ i. record {
  enters = Some head;
  back = (same_test_reached t v (hull_reached (bodies head i).normal (bodies head i).continues) i).truth;
  exits = hull_reached (same_test_reached t v (hull_reached (bodies head i).normal (bodies head i).continues) i).contrary (bodies head i).breaks;
  body = bodies head i;
  names = (bodies head i).arguments ++ (same_test_reached t v (hull_reached (bodies head i).normal (bodies head i).continues) i).names;
}
same_round t While v third third' body body' thirds bodies head = λ i. tested_first (same_test t v head i) (λ e. thirds e i) (λ e. bodies e i)
same_round t For v third third' body body' thirds bodies head = λ i. tested_first (same_test t v head i) (λ e. thirds e i) (λ e. bodies e i)
