-- Where a certificate is accepted, each condition holds as a fact of the program, of a function, or of its loops.
use Rattle.std.proofs.Common.{◌≡◌, ℕ, zero, suc, ◌+◌, Bool, true, false, List, [], ◌∷◌, ◌++◌, map, refl, subst, arith, Some, None, slice_get}
use Rattle.std.specs.Prelude.{◌&&◌, not, if◌then◌else◌}
use Rattle.std.specs.Bool.{nat_eq}
use Rattle.std.proofs.lemmas.Option.{same_Some, none-some}
use Rattle.std.proofs.lemmas.Bool.Decides.{nat_tests}
use Rattle.p10_base.specs.declared.span.Span.{Span}
use Rattle.p10_core.specs.declared.statements.LoopHead.{LoopHead}
use Rattle.p10_core.specs.Typed.{PlainFunction, PlainProgram}
use Rattle.p10_core.specs.WholePrograms.{IsWholeProgram}
use Rattle.p10_cert.specs.Claims.{Claims}
use Rattle.p10_flowrules.specs.declared.calls.AnyCall.{AnyCall}
use Rattle.p10_flowrules.specs.Allocating.{AreLateAllocations}
use Rattle.p10_sums.specs.Counting.{steps_claimed, calls_claimed, bytes_claimed, alloc_claimed}
use Rattle.p10_sums.specs.Depths.{effect_of}
use Rattle.p10_fit.specs.Fits.{unfit}
use Rattle.p10_check.specs.Places.{place_if, places_from, all_places}
use Rattle.p10_check.specs.Shapes.{is_main_wrong, has_hidden_effect, late_names, task_head, turn_claimed, main_turn, bounds_main}
use Rattle.p10_check.specs.Sums.{covers_sum, sum_claimed, short_turn, short_steps}
use Rattle.p10_check.specs.Passes.{Standing, left_by, unranked_loops}
use Rattle.p10_check.specs.Accepting.{Holds}

-- ## What is known of an accepted certificate

-- the conditions of the function with a number: what is claimed of its values holds on the pass, each of its loops has a rank by the
-- pass or by evidence, and its claims are no less than its sums
pub record FunctionMeets (stands : Standing) (p : PlainProgram) (c : Claims) (n : ℕ) (f : PlainFunction) : Type 0 where
  pub arguments : (left_by p c n).arguments ≡ []
  pub results : (left_by p c n).results ≡ []
  pub entries : (left_by p c n).entries ≡ []
  pub backs : (left_by p c n).backs ≡ []
  pub positive : unranked_loops stands c n 8 (left_by p c n).weak ≡ []
  pub falling : unranked_loops stands c n 9 (left_by p c n).weak ≡ []
  pub enough : unranked_loops stands c n 10 (left_by p c n).weak ≡ []
  pub steps : covers_sum (steps_claimed (slice_get c.funcs n)) (sum_claimed p c.funcs n f).steps ≡ true
  pub turn : (head : LoopHead) → task_head p n f ≡ Some head → covers_sum (turn_claimed c.funcs n (Some head)) (sum_claimed p c.funcs n f).turn ≡ true
  pub calls : covers_sum (calls_claimed (slice_get c.funcs n)) (sum_claimed p c.funcs n f).calls ≡ true
  pub bytes : covers_sum (bytes_claimed (slice_get c.funcs n)) (sum_claimed p c.funcs n f).bytes ≡ true
  pub effect : effect_of c.funcs f ≡ true → alloc_claimed (slice_get c.funcs n) ≡ true

-- the conditions of a certificate for a program
pub record MeetsConditions (stands : Standing) (p : PlainProgram) (c : Claims) : Type 0 where
  pub fits : unfit p c ≡ None
  pub main_right : is_main_wrong p c.funcs ≡ false
  pub nothing_late : AreLateAllocations p []
  pub total : bounds_main c.total (slice_get c.funcs p.main) (main_turn p c.funcs (slice_get p.functions p.main)) ≡ true
  pub functions : (n : ℕ) (f : PlainFunction) → slice_get p.functions n ≡ Some f → FunctionMeets stands p c n f

-- ## Empty lists

none_left : {A : Type 0} (xs ys : List A) → xs ++ ys ≡ [] → xs ≡ []
none_left [] ys e = refl
none_left (x ∷ xs) ys e = absurd cc

none_right : {A : Type 0} (xs ys : List A) → xs ++ ys ≡ [] → ys ≡ []
none_right [] ys e = e
none_right (x ∷ xs) ys e = absurd cc

none_mapped : {A B : Type 0} (f : A → B) (xs : List A) → map f xs ≡ [] → xs ≡ []
none_mapped f [] e = refl
none_mapped f (x ∷ xs) e = absurd cc

no_place : (b : Bool) (at : Span) → place_if b at ≡ [] → b ≡ false
no_place false at e = refl
no_place true at e = absurd cc

holds_so : (b : Bool) → not b ≡ false → b ≡ true
holds_so true e = refl
holds_so false e = absurd cc

both_hold : (a b : Bool) → a && b ≡ true → (a ≡ true) × (b ≡ true)
both_hold true true e = (refl, refl)
both_hold true false e = absurd cc
both_hold false b e = absurd cc

effect_so : (a b : Bool) → a && not b ≡ false → a ≡ true → b ≡ true
effect_so a true e d = refl
effect_so true false e d = absurd cc
effect_so false false e d = absurd cc

-- no place in any function, so none in each
none_from : (places : ℕ → PlainFunction → List Span) (k : ℕ) (functions : List PlainFunction) → places_from places k functions ≡ [] → (n : ℕ) (f : PlainFunction) → slice_get functions n ≡ Some f → places (k + n) f ≡ []
none_from places k [] e n f there = absurd (none-some _ there)
none_from places k (g ∷ functions) e zero f there = subst (λ i. places i f ≡ []) (plain k) (subst (λ (h : PlainFunction). places k h ≡ []) (same_Some _ _ there) (none_left (places k g) (places_from places (k + 1) functions) e))
  where
    plain : (n : ℕ) → n ≡ n + 0
    plain n = omega arith
none_from places k (g ∷ functions) e (suc n) f there =
    subst (λ i. places i f ≡ []) (moved k n) (none_from places (k + 1) functions (none_right (places k g) (places_from places (k + 1) functions) e) n f there)
  where
    moved : (k n : ℕ) → (k + 1) + n ≡ k + suc n
    moved k n = omega arith

none_at : (p : PlainProgram) (places : ℕ → PlainFunction → List Span) → all_places p places ≡ [] → (n : ℕ) (f : PlainFunction) → slice_get p.functions n ≡ Some f → places n f ≡ []
none_at p places e n f there = subst (λ i. places i f ≡ []) (from_none n) (none_from places 0 p.functions e n f there)
  where
    from_none : (n : ℕ) → 0 + n ≡ n
    from_none n = omega arith

-- ## One function

module _ (stands : Standing) (p : PlainProgram) (c : Claims) (e : Holds stands p c) (n : ℕ) (f : PlainFunction) (there : slice_get p.functions n ≡ Some f) where
  steps_empty : short_steps p c.funcs n f ≡ []
  steps_empty = (e.functions n f there).steps

  turn_so : (o : _) → short_turn c.funcs n (sum_claimed p c.funcs n f).turn o ≡ [] → (head : LoopHead) → o ≡ Some head → covers_sum (turn_claimed c.funcs n (Some head)) (sum_claimed p c.funcs n f).turn ≡ true
  turn_so None d head h = absurd (none-some _ h)
  turn_so (Some x) d head h = subst (λ (x : LoopHead). covers_sum (turn_claimed c.funcs n (Some x)) (sum_claimed p c.funcs n f).turn ≡ true) (same_Some _ _ h) (holds_so _ (no_place _ _ d))

  depths : (covers_sum (calls_claimed (slice_get c.funcs n)) (sum_claimed p c.funcs n f).calls ≡ true) × (covers_sum (bytes_claimed (slice_get c.funcs n)) (sum_claimed p c.funcs n f).bytes ≡ true)
  depths = both_hold _ _ (holds_so _ (no_place _ _ (e.functions n f there).depths))

  effects_empty : place_if (has_hidden_effect c.funcs n f) f.span ++ late_names p e.late n ≡ []
  effects_empty = none_at p (λ n f. place_if (has_hidden_effect c.funcs n f) f.span ++ late_names p e.late n) e.effects n f there

  function_meets : FunctionMeets stands p c n f
  function_meets = record {
    arguments = (e.functions n f there).arguments;
    results = (e.functions n f there).results;
    entries = (e.functions n f there).entries;
    backs = (e.functions n f there).backs;
    positive = (e.functions n f there).entered;
    falling = (e.functions n f there).falling;
    enough = (e.functions n f there).turns;
    steps = holds_so _ (no_place _ _ (none_left (place_if (not (covers_sum (steps_claimed (slice_get c.funcs n)) (sum_claimed p c.funcs n f).steps)) f.span) _ steps_empty));
    turn = turn_so (task_head p n f) (none_right (place_if (not (covers_sum (steps_claimed (slice_get c.funcs n)) (sum_claimed p c.funcs n f).steps)) f.span) _ steps_empty);
    calls = depths.0;
    bytes = depths.1;
    effect = effect_so (effect_of c.funcs f) (alloc_claimed (slice_get c.funcs n)) (no_place _ _ (none_left (place_if (has_hidden_effect c.funcs n f) f.span) (late_names p e.late n) effects_empty));
  }

  late_empty : late_names p e.late n ≡ []
  late_empty = none_right (place_if (has_hidden_effect c.funcs n f) f.span) (late_names p e.late n) effects_empty

-- ## The program

same_number : (n : ℕ) → nat_eq n n ≡ true
same_number n = at (nat_eq n n) refl
  where
    at : (b : Bool) → nat_eq n n ≡ b → b ≡ true
    at true h = refl
    at false h = absurd (grind (arith, nat_tests, h))

late_none : (p : PlainProgram) (late : List AnyCall) → late_names p late p.main ≡ [] → late ≡ []
late_none p late e = none_mapped (λ (c : AnyCall). c.name) late (subst (λ b. (if b then map (λ (c : AnyCall). c.name) late else []) ≡ []) (same_number p.main) e)

pub accepted_meets : (stands : Standing) (p : PlainProgram) → IsWholeProgram p → (c : Claims) → Holds stands p c → MeetsConditions stands p c
accepted_meets stands p whole c e = record {
  fits = e.fits;
  main_right = no_place _ _ e.main;
  nothing_late = subst (λ late. AreLateAllocations p late) (late_none p e.late (late_empty stands p c e p.main whole.main.function whole.main.there)) e.late_are;
  total = holds_so _ (no_place _ _ e.total);
  functions = λ n f there. function_meets stands p c e n f there;
}
