-- What a pass leaves, without its places.
use Rattle.std.proofs.Common.{◌≡◌, ◌∙◌, Bool, true, false, List, [], ◌∷◌, ◌++◌, map, Option, Some, None, ap, refl}
use Rattle.std.specs.Prelude.{if◌then◌else◌}
use Rattle.p10_base.specs.declared.span.Span.{Span}
use Rattle.p10_absx.specs.Environments.{Environment, hull_reached}
use Rattle.p10_pass.specs.Arguments.{where_reached}
use Rattle.p10_pass.specs.Passing.{Failing, Weakness, Left, where_going, followed, and_then_pass, beside, with_calls, place_unless}
use Rattle.p10_views.specs.Erased.{no_span}

abbrev pub erased_spans : List Span → List Span
erased_spans spans = map (λ at. no_span) spans

abbrev pub erased_failing : Failing → Failing
erased_failing e = record { k = e.k; at = no_span }

abbrev pub erased_weakness : Weakness → Weakness
erased_weakness w = record { at = w.at; entry = w.entry; fails = map erased_failing w.fails }

abbrev pub erased_left : Left → Left
erased_left a = record a {
  arguments = erased_spans a.arguments;
  results = erased_spans a.results;
  entries = erased_spans a.entries;
  backs = erased_spans a.backs;
  weak = map erased_weakness a.weak;
}

-- ---- lists

pub map_both : {A B : Type 0} (f : A → B) (xs ys : List A) → map f xs ++ map f ys ≡ map f (xs ++ ys)
map_both f [] ys = refl
map_both f (x ∷ xs) ys = ap (λ rest. f x ∷ rest) (map_both f xs ys)

pub spans_both : (xs ys : List Span) → erased_spans xs ++ erased_spans ys ≡ erased_spans (xs ++ ys)
spans_both xs ys = map_both (λ at. no_span) xs ys

pub joined : (xs ys us vs : List Span) → us ≡ erased_spans xs → vs ≡ erased_spans ys → us ++ vs ≡ erased_spans (xs ++ ys)
joined xs ys us vs first second = (λ i. first i ++ second i) ∙ spans_both xs ys

-- where something holds
pub only_if : (b : Bool) (xs us : List Span) → us ≡ erased_spans xs → (if b then us else []) ≡ erased_spans (if b then xs else [])
only_if true xs us same = same
only_if false xs us same = refl

pub when_reached : (o : Option Environment) (go went : Environment → List Span) → ((e : Environment) → went e ≡ erased_spans (go e)) → where_reached o went ≡ erased_spans (where_reached o go)
when_reached None go went each = refl
when_reached (Some e) go went each = each e

pub unless_erased : (b : Bool) (at : Span) → place_unless b no_span ≡ erased_spans (place_unless b at)
unless_erased true at = refl
unless_erased false at = refl

-- ---- what is left

pub followed_erased : (a b : Left) → followed (erased_left a) (erased_left b) ≡ erased_left (followed a b)
followed_erased a b = λ i. record (followed a b) {
  arguments = spans_both a.arguments b.arguments i;
  results = spans_both a.results b.results i;
  entries = spans_both a.entries b.entries i;
  backs = spans_both a.backs b.backs i;
  weak = map_both erased_weakness a.weak b.weak i;
}

pub beside_erased : (a b : Left) → beside (erased_left a) (erased_left b) ≡ erased_left (beside a b)
beside_erased a b = λ i. record (followed_erased a b i) { normal = hull_reached a.normal b.normal }

pub calls_erased : (names : List Span) (a : Left) → with_calls (erased_spans names) (erased_left a) ≡ erased_left (with_calls names a)
calls_erased names a = λ i. record (erased_left a) { arguments = spans_both names a.arguments i }

pub going_erased : (o : Option Environment) (go went : Environment → Left) → ((e : Environment) → went e ≡ erased_left (go e)) → where_going o went ≡ erased_left (where_going o go)
going_erased None go went each = refl
going_erased (Some e) go went each = each e

pub then_erased : (a : Left) (go went : Environment → Left) → ((e : Environment) → went e ≡ erased_left (go e)) → and_then_pass (erased_left a) went ≡ erased_left (and_then_pass a go)
then_erased a go went each = (λ i. followed (erased_left a) (going_erased a.normal go went each i)) ∙ followed_erased a (where_going a.normal go)

pub either_erased : (b : Bool) (x y u v : Left) → u ≡ erased_left x → v ≡ erased_left y → (if b then u else v) ≡ erased_left (if b then x else y)
either_erased true x y u v first second = first
either_erased false x y u v first second = second
