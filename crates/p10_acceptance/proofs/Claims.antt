-- What is claimed of a loop that is found: the ranges at its head, and the candidates of which the first is taken that stands.
use Rattle.std.proofs.Common.{◌≡◌, ℕ, zero, suc, ◌+◌, ◌<◌, ◌≤◌, take, Bool, true, false, List, [], ◌∷◌, ◌++◌, Option, Some, None, refl, ap, sym, ◌∙◌, subst, arith, ℤ, pos, negsuc, ◌≤ℤ◌, eq-eqb}
use Rattle.std.specs.Prelude.{slice_get, if◌then◌else◌, is_some, ◌⊎◌, nat_eq, IfSome, min, unsigned_abs, flat_map, option_to_list}
use Rattle.std.specs.Option.{option_map}
use Rattle.std.specs.Int.{int_max}
use Rattle.std.specs.Ordering.{int_eq}
use Rattle.std.proofs.lemmas.Option.{same_Some, none-some}
use Rattle.std.proofs.lemmas.Bool.{and_parts, eqb-true}
use Rattle.std.proofs.lemmas.Int.{ints, clamps}
use Rattle.p10_base.specs.declared.report.TheConstants.Limit.{MOST_SUM}
use Rattle.p10_int.specs.declared.types.IntType.{IntType}
use Rattle.p10_int.specs.declared.operators.BinOp.{BinOp}
use Rattle.p10_int.specs.declared.operators.BinOp.TheVariants.{Ne}
use Rattle.p10_int.specs.declared.operators.UnOp.{UnOp}
use Rattle.p10_int.specs.declared.operators.UnOp.TheVariants.{Plus, Neg, Not, Com}
use Rattle.p10_range.specs.Ranges.{Interval, from_to, IsWithin, is_within, hull_of}
use Rattle.p10_range.specs.Rows.{values_of}
use Rattle.p10_range.specs.Laws.{IsOfType}
use Rattle.p10_range.proofs.Signs.{le_true}
use Rattle.p10_core.specs.declared.typed.Library.{Library}
use Rattle.p10_core.specs.declared.typed.Library.TheVariants.{Assert, CAssert, Getchar, Putchar, Malloc, Calloc, Free}
use Rattle.p10_core.specs.declared.typed.LogicOp.{LogicOp}
use Rattle.p10_core.specs.declared.typed.LogicOp.TheVariants.{And as Both, Or as Either}
use Rattle.p10_core.specs.Types.{PlainType, void, integer, pointer, array, structure}
use Rattle.p10_core.specs.Constants.{integer_of}
use Rattle.p10_core.specs.Typed.{PlainValue, value, PlainForm, constant, read, sense, address, decay, convert, cast, unary, binary, logic, conditional, call, built_in, PlainPlace, place, variable, global, literal, index, member, dereference, PlainVariable}
use Rattle.p10_cert.specs.declared.claims.Rank.{Rank}
use Rattle.p10_cert.specs.declared.claims.Rank.TheVariants.{Up, Down, One, Task}
use Rattle.p10_cert.specs.Claims.{Var, Loop}
use Rattle.p10_absx.specs.Abstract.{Abstract, only_range, whole_type}
use Rattle.p10_absx.specs.Environments.{Environment, known}
use Rattle.p10_absx.specs.Comparing.{is_comparison, turned, Side}
use Rattle.p10_absx.specs.Assessing.{Assessed, as_side, variable_read, place_read, converted_side, converted_found, comparison_found, are_integers, arithmetic_found, any_of, logic_found, unary_assessed, library_assessed, assess, assess_form, assess_only, abstract_value}
use Rattle.p10_pass.specs.Claiming.{range_claimed, ranges_hold_reached, rank_in, head_of, is_enough}
use Rattle.p10_pass.specs.Passing.{Round}
use Rattle.p10_execution.proofs.Entries.{changed_at, changed_knows}
use Rattle.p10_execution.proofs.AssessedScopes.{SameScope, learned_scope, scope_trans}
use Rattle.p10_candidates.specs.declared.course.Course.{Course}
use Rattle.p10_candidates.specs.declared.course.Course.TheVariants.{Below, AtMost, Above, AtLeast}
use Rattle.p10_candidates.specs.Candidates.{LoopEntry, guard_conjuncts, courses_of, rank_along, range_along, Candidate, any_trial, moved_along, trial_along, is_that, is_variable_in, candidate_along, course_candidates, variable_under, side_candidates, zero_for, conjunct_candidates, one_candidate, candidates}
use Rattle.p10_candidates.specs.Trials.{Rounds, with_known, with_back, head_after, is_whole_range, line_for, lines_from, counted, turns_of_rank, claim_of, stands_alone, first_standing}
use Rattle.p10_acceptance.proofs.Narrowing.{within_itself, whole_typed, hull_typed, hull_left, Fair, learned_fair}
use Rattle.p10_acceptance.proofs.Ends.{Each, each_both, changed_fair}
use Rattle.p10_acceptance.proofs.Fitting.{ClaimFits}
use Rattle.p10_acceptance.proofs.Rounds.{some_is, holds_by}

-- ## Lines

skipped : (i j : ℕ) (k kind : IntType) (o : Option Abstract) (rest : List Var) → nat_eq i j ≡ false → range_claimed (line_for i k o ++ rest) j kind ≡ range_claimed rest j kind
skipped i j k kind None rest e = refl
skipped i j k kind (Some a) rest e = at (is_whole_range k a.range)
  where
    at : (b : Bool) → range_claimed ((if b then [] else record { var = i; ends = a.range } ∷ []) ++ rest) j kind ≡ range_claimed rest j kind
    at true = refl
    at false = ap (λ (c : Bool). if c then a.range else range_claimed rest j kind) e

apart_below : (i j : ℕ) → j < i → nat_eq i j ≡ false
apart_below i j h = by_case (nat_eq i j) refl
  where
    by_case : (b : Bool) → nat_eq i j ≡ b → nat_eq i j ≡ false
    by_case true q = let p : i ≡ j = eqb-true i j q in absurd (omega (arith, h, p))
    by_case false q = q

lines_none : (i : ℕ) (vs : List PlainVariable) (env : Environment) (j : ℕ) (kind : IntType) → j < i → range_claimed (lines_from i vs env) j kind ≡ values_of kind
lines_none i [] env j kind h = refl
lines_none i (v ∷ vs) env j kind h = skipped i j (integer_of v.type) kind (known env i) (lines_from (suc i) vs env) (apart_below i j h) ∙ lines_none (suc i) vs env j kind (omega (arith, h))

whole_is : (kind : IntType) (r : Interval) → is_whole_range kind r ≡ true → values_of kind ≡ r
whole_is kind r e =
    let both = and_parts (int_eq r.low (values_of kind).low) (int_eq r.high (values_of kind).high) e in
    let low : (values_of kind).low ≡ r.low = grind (arith, ints, both.0) in
    let high : (values_of kind).high ≡ r.high = grind (arith, ints, both.1) in
    λ i. record { low = low i; high = high i }

line_here : (i : ℕ) (kind : IntType) (a : Abstract) (rest : List Var) → range_claimed rest i kind ≡ values_of kind → range_claimed (line_for i kind (Some a) ++ rest) i kind ≡ a.range
line_here i kind a rest none = at (is_whole_range kind a.range) refl
  where
    at : (b : Bool) → is_whole_range kind a.range ≡ b → range_claimed ((if b then [] else record { var = i; ends = a.range } ∷ []) ++ rest) i kind ≡ a.range
    at true e = none ∙ whole_is kind a.range e
    at false e = ap (λ (c : Bool). if c then a.range else range_claimed rest i kind) (eq-eqb i i refl)

pub lines_at : (i : ℕ) (vs : List PlainVariable) (env : Environment) (k j : ℕ) (v : PlainVariable) (a : Abstract) → slice_get vs k ≡ Some v → i + k ≡ j → known env j ≡ Some a → range_claimed (lines_from i vs env) j (integer_of v.type) ≡ a.range
lines_at i [] env k j v a there s e = absurd (none-some _ there)
lines_at i (u ∷ vs) env zero j v a there s e =
    let p : u ≡ v = same_Some _ _ there in
    let q : i ≡ j = omega (arith, s) in
    subst (λ (n : ℕ). range_claimed (lines_from i (u ∷ vs) env) n (integer_of v.type) ≡ a.range) q
    (subst (λ (w : PlainVariable). range_claimed (line_for i (integer_of w.type) (known env i) ++ lines_from (suc i) vs env) i (integer_of v.type) ≡ a.range) (sym p)
    (subst (λ (o : Option Abstract). range_claimed (line_for i (integer_of v.type) o ++ lines_from (suc i) vs env) i (integer_of v.type) ≡ a.range) (sym (ap (known env) q ∙ e))
    (line_here i (integer_of v.type) a (lines_from (suc i) vs env) (lines_none (suc i) vs env i (integer_of v.type) (omega arith)))))
lines_at i (u ∷ vs) env (suc k) j v a there s e =
    skipped i j (integer_of u.type) (integer_of v.type) (known env i) (lines_from (suc i) vs env) (apart_above i j (omega (arith, s))) ∙ lines_at (suc i) vs env k j v a there (omega (arith, s)) e
  where
    apart_above : (i j : ℕ) → i < j → nat_eq i j ≡ false
    apart_above i j h = by_case (nat_eq i j) refl
      where
        by_case : (b : Bool) → nat_eq i j ≡ b → nat_eq i j ≡ false
        by_case true q = let p : i ≡ j = eqb-true i j q in absurd (omega (arith, h, p))
        by_case false q = q

-- ## Heads

-- what is known of a variable at a head is more than at entry, has numbers of its type, and isn't more where it isn't assigned
pub record HeadEntry (head : Environment) (kind : IntType) (n : ℕ) (a : Abstract) (assigned : Bool) : Type 0 where
  pub entry : Abstract
  pub there : known head n ≡ Some entry
  pub typed : IsOfType kind entry.range
  pub more : IsWithin a.range entry.range
  pub same : assigned ≡ false → IsWithin entry.range a.range

abbrev pub HeadHas : List PlainVariable → (ℕ → Bool) → Environment → Environment → Type 0
HeadHas variables assigned entry head = (n : ℕ) (v : PlainVariable) (a : Abstract) → slice_get variables n ≡ Some v → known entry n ≡ Some a → HeadEntry head (integer_of v.type) n a (assigned n)

-- a claim with the lines of a head
pub claim_fits : (variables : List PlainVariable) (Stands : ℕ → Environment → Type 0) (claim : Loop) (number : ℕ) (assigned : ℕ → Bool) (trial : Environment → Round) (entry head : Environment) → claim.vars ≡ lines_from 0 variables head → HeadHas variables assigned entry head →
    ranges_hold_reached claim variables (trial (head_of claim variables entry)).back ≡ true → (claim.rank ≡ Task) ⊎ Stands number entry → ClaimFits variables Stands claim number assigned trial entry
claim_fits variables Stands claim number assigned trial entry head lines has back ranked = record {
  typed = λ n v there k. let a = some_is (known entry n) k in let h = has n v a.0 there a.1 in subst (IsOfType (integer_of v.type)) (sym (claimed n v a.0 there a.1 h)) h.typed;
  same = λ n v a there e k. let h = has n v a there e in subst (λ (r : Interval). IsWithin r a.range) (sym (claimed n v a there e h)) (h.same k);
  at_entry = holds_by claim 0 variables entry (λ n j v a s there e.
      let h = has n v a there e in
      let q : n ≡ j = omega (arith, s) in
      subst (λ (k : ℕ). IsWithin a.range (range_claimed claim.vars k (integer_of v.type))) q (subst (IsWithin a.range) (sym (claimed n v a there e h)) h.more));
  on_back = back;
  ranked = ranked;
}
  where
    claimed : (n : ℕ) (v : PlainVariable) (a : Abstract) → slice_get variables n ≡ Some v → known entry n ≡ Some a → (h : HeadEntry head (integer_of v.type) n a (assigned n)) → range_claimed claim.vars n (integer_of v.type) ≡ h.entry.range
    claimed n v a there e h = ap (λ (l : List Var). range_claimed l n (integer_of v.type)) lines ∙ lines_at 0 variables head n n v h.entry there (omega arith) h.there

-- the variable of a rank is known
abbrev pub RankKnown : Environment → Rank → Type 0
RankKnown env (Up n bound) = is_some (known env n) ≡ true
RankKnown env (Down n bound) = is_some (known env n) ≡ true
RankKnown env One = Unit {0}
RankKnown env Task = ⊥

-- ## Trials

module _ (l : LoopEntry) (assigned : ℕ → Bool) (same : (n : ℕ) (v : PlainVariable) → slice_get l.variables n ≡ Some v → l.assigned n ≡ assigned n) (fair : Fair l.variables l.entry) where
  any_fair : Fair l.variables (any_trial l)
  any_fair = changed_fair l.variables _ l.entry fair (λ n v a there e. typed n v a there e (l.assigned n))
    where
      typed : (n : ℕ) (v : PlainVariable) (a : Abstract) → slice_get l.variables n ≡ Some v → known l.entry n ≡ Some a → (c : Bool) → IsOfType (integer_of v.type) (if c then whole_type (integer_of v.type) else a).range
      typed n v a there e true = whole_typed (integer_of v.type)
      typed n v a there e false = fair.typed n a v e there

  any_scope : SameScope l.entry (any_trial l)
  any_scope = record { same = λ n. changed_knows _ 0 l.variables l.entry n }

  -- the head of a claim that is tried
  pub tried_has : (back : Option Environment) → IfSome back (Fair l.variables) → HeadHas l.variables assigned l.entry (head_after l back)
  tried_has back f n v a there e = record {
    entry = if l.assigned n then only_range (with_back back n a.range) else a;
    there = changed_at _ 0 l.variables l.entry n n v there (omega arith) ∙ ap (option_map _) e;
    typed = typed (l.assigned n);
    more = more (l.assigned n);
    same = λ k. stays (l.assigned n) (same n v there ∙ k);
  }
    where
      hulled : (o : Option Abstract) (r : Interval) → IsOfType (integer_of v.type) r → IfSome o (λ x. IsOfType (integer_of v.type) x.range) → IsOfType (integer_of v.type) (with_known r o)
      hulled None r h k = h
      hulled (Some x) r h k = hull_typed (integer_of v.type) r x.range h k

      at_back : (back : Option Environment) → IfSome back (Fair l.variables) → IsOfType (integer_of v.type) (with_back back n a.range)
      at_back None f = fair.typed n a v e there
      at_back (Some b) f = hulled (known b n) a.range (fair.typed n a v e there) (of (known b n) refl)
        where
          of : (o : Option Abstract) → known b n ≡ o → IfSome o (λ x. IsOfType (integer_of v.type) x.range)
          of None q = tt
          of (Some x) q = f.typed n x v q there

      typed : (c : Bool) → IsOfType (integer_of v.type) (if c then only_range (with_back back n a.range) else a).range
      typed true = at_back back f
      typed false = fair.typed n a v e there

      wider : (o : Option Abstract) (r : Interval) → IsWithin r (with_known r o)
      wider None r = within_itself r
      wider (Some x) r = hull_left r r x.range (within_itself r)

      at_more : (back : Option Environment) → IsWithin a.range (with_back back n a.range)
      at_more None = within_itself a.range
      at_more (Some b) = wider (known b n) a.range

      more : (c : Bool) → IsWithin a.range (if c then only_range (with_back back n a.range) else a).range
      more true = at_more back
      more false = within_itself a.range

      stays : (c : Bool) → c ≡ false → IsWithin (if c then only_range (with_back back n a.range) else a).range a.range
      stays true k = absurd cc
      stays false k = within_itself a.range

  -- the head of the rank 1 that isn't tried
  pub any_has : HeadHas l.variables assigned l.entry (any_trial l)
  any_has n v a there e = record {
    entry = if l.assigned n then whole_type (integer_of v.type) else a;
    there = changed_at _ 0 l.variables l.entry n n v there (omega arith) ∙ ap (option_map _) e;
    typed = typed (l.assigned n);
    more = more (l.assigned n);
    same = λ k. stays (l.assigned n) (same n v there ∙ k);
  }
    where
      typed : (c : Bool) → IsOfType (integer_of v.type) (if c then whole_type (integer_of v.type) else a).range
      typed true = whole_typed (integer_of v.type)
      typed false = fair.typed n a v e there

      more : (c : Bool) → IsWithin a.range (if c then whole_type (integer_of v.type) else a).range
      more true = (fair.typed n a v e there).1
      more false = within_itself a.range

      stays : (c : Bool) → c ≡ false → IsWithin (if c then whole_type (integer_of v.type) else a).range a.range
      stays true k = absurd cc
      stays false k = within_itself a.range

  -- ## Candidates

  -- a candidate whose trial environment has numbers of the types, and knows the same variables
  pub record IsGood (c : Candidate) : Type 0 where
    pub holds : Fair l.variables c.trial
    pub scope : SameScope l.entry c.trial
    pub ranked : RankKnown l.entry c.rank

  -- a side of a comparison is a variable only if that is known
  abbrev Names : Environment → Assessed → Type 0
  Names env a = (n : ℕ) → (as_side a).variable ≡ Some n → is_some (known env n) ≡ true

  read_names : (t : PlainType) (k : ℕ) (env : Environment) (o : Option Abstract) → known env k ≡ o → Names env (variable_read t k o)
  read_names t k env None e n q = absurd (none-some _ q)
  read_names t k env (Some a) e n q = let p : k ≡ n = same_Some _ _ q in subst (λ (m : ℕ). is_some (known env m) ≡ true) p (ap is_some e)

  place_names : (t : PlainType) (p : PlainPlace) (env : Environment) → Names env (place_read t p env)
  place_names t (place at u (variable k)) env = read_names t k env (known env k) refl
  place_names t (place at u (global k)) env = λ n q. absurd (none-some _ q)
  place_names t (place at u (literal k bytes)) env = λ n q. absurd (none-some _ q)
  place_names t (place at u (index a i)) env = λ n q. absurd (none-some _ q)
  place_names t (place at u (member p k)) env = λ n q. absurd (none-some _ q)
  place_names t (place at u (dereference v)) env = λ n q. absurd (none-some _ q)

  side_names : (kind : IntType) (env : Environment) (side : Side) → ((n : ℕ) → side.variable ≡ Some n → is_some (known env n) ≡ true) → (n : ℕ) → (converted_side kind side).variable ≡ Some n → is_some (known env n) ≡ true
  side_names kind env side h n = at side.value
    where
      kept : (b : Bool) → (if b then side.variable else None) ≡ Some n → is_some (known env n) ≡ true
      kept true q = h n q
      kept false q = absurd (none-some _ q)

      at : (o : Option Abstract) → (converted_side kind (record { variable = side.variable; value = o })).variable ≡ Some n → is_some (known env n) ≡ true
      at None q = absurd (none-some _ q)
      at (Some a) q = kept (is_within a.range (values_of kind)) q

  converted_names : (t : PlainType) (side : Side) (env : Environment) → ((n : ℕ) → side.variable ≡ Some n → is_some (known env n) ≡ true) → Names env (converted_found t side)
  converted_names (integer c kind) side env h = side_names kind env side h
  converted_names (void c) side env h = λ n q. absurd (none-some _ q)
  converted_names (pointer c t) side env h = λ n q. absurd (none-some _ q)
  converted_names (array c t k) side env h = λ n q. absurd (none-some _ q)
  converted_names (structure c k) side env h = λ n q. absurd (none-some _ q)

  if_names : (env : Environment) (b : Bool) (x y : Assessed) → Names env x → Names env y → Names env (if b then x else y)
  if_names env true x y h k = h
  if_names env false x y h k = k

  comparison_names : (op : BinOp) (integers : Bool) (left right : Side) (env : Environment) → Names env (comparison_found op integers left right env)
  comparison_names op true left right env = λ n q. absurd (none-some _ q)
  comparison_names op false left right env = λ n q. absurd (none-some _ q)

  logic_names : (op : LogicOp) (env : Environment) (left : Assessed) (right : Environment → Assessed) → Names env (logic_found op env left right)
  logic_names Both env left right = λ n q. absurd (none-some _ q)
  logic_names Either env left right = λ n q. absurd (none-some _ q)

  unary_names : (op : UnOp) (t : PlainType) (env : Environment) (a : Assessed) → Names env (unary_assessed op t env a)
  unary_names Not t env a = λ n q. absurd (none-some _ q)
  unary_names Plus t env a = λ n q. absurd (none-some _ q)
  unary_names Neg t env a = λ n q. absurd (none-some _ q)
  unary_names Com t env a = λ n q. absurd (none-some _ q)

  library_names : (f : Library) (t : PlainType) (env : Environment) (a : Option Assessed) → Names env (library_assessed f t env a)
  library_names CAssert t env (Some a) = λ n q. absurd (none-some _ q)
  library_names CAssert t env None = λ n q. absurd (none-some _ q)
  library_names Assert t env a = λ n q. absurd (none-some _ q)
  library_names Getchar t env a = λ n q. absurd (none-some _ q)
  library_names Putchar t env a = λ n q. absurd (none-some _ q)
  library_names Malloc t env a = λ n q. absurd (none-some _ q)
  library_names Calloc t env a = λ n q. absurd (none-some _ q)
  library_names Free t env a = λ n q. absurd (none-some _ q)

  mutual
    names : (v : PlainValue) (env : Environment) → Names env (assess None v env)
    names (value at t form) env = form_names t form env

    form_names : (t : PlainType) (form : PlainForm) (env : Environment) → Names env (assess_form None t form env)
    form_names t (constant z) env = λ n q. absurd (none-some _ q)
    form_names t (read p) env = place_names t p env
    form_names t (sense k) env = λ n q. absurd (none-some _ q)
    form_names t (address p) env = λ n q. absurd (none-some _ q)
    form_names t (decay p) env = λ n q. absurd (none-some _ q)
    form_names t (convert v) env = converted_names t (as_side (assess None v env)) env (names v env)
    form_names t (cast v) env = converted_names t (as_side (assess None v env)) env (names v env)
    form_names t (unary op v) env = unary_names op t env (assess None v env)
    form_names t (binary op a b) env = if_names env (is_comparison op) _ _ (comparison_names op (are_integers a b) (as_side (assess None a env)) (as_side (assess None b env)) env)
        (if_names env (are_integers a b) (arithmetic_found op t _ _) (any_of t) (λ n q. absurd (none-some _ q)) (λ n q. absurd (none-some _ q)))
    form_names t (logic op a b) env = logic_names op env (assess None a env) (λ env. assess None b env)
    form_names t (conditional v a b) env = λ n q. absurd (none-some _ q)
    form_names t (call s k arguments) env = λ n q. absurd (none-some _ q)
    form_names t (built_in s f arguments) env = library_names f t env (assess_only None arguments env)

  -- ## Trial environments

  moved_good : (v : ℕ) (course : Course) (x : Option PlainVariable) (a : Option Abstract) → slice_get l.variables v ≡ x → known l.entry v ≡ a → Fair l.variables (moved_along v course x a (any_trial l)) × SameScope l.entry (moved_along v course x a (any_trial l))
  moved_good v course None a there e = (any_fair, any_scope)
  moved_good v course (Some x) None there e = (any_fair, any_scope)
  moved_good v course (Some x) (Some a) there e = (
    learned_fair l.variables (any_trial l) v (only_range (range_along course (integer_of x.type) a.range)) any_fair (λ y k. subst (λ (z : PlainVariable). IsOfType (integer_of z.type) (range_along course (integer_of x.type) a.range)) (same_Some _ _ (sym there ∙ k)) (typed course)),
    scope_trans l.entry (any_trial l) _ any_scope (learned_scope (any_trial l) v (only_range (range_along course (integer_of x.type) a.range)) (changed_knows _ 0 l.variables l.entry v ∙ ap is_some e)),
  )
    where
      range_typed : IsOfType (integer_of x.type) a.range
      range_typed = fair.typed v a x e there

      up : IsOfType (integer_of x.type) (hull_of a.range (from_to (values_of (integer_of x.type)).high (values_of (integer_of x.type)).high))
      up = let w = (whole_typed (integer_of x.type)).0 in hull_typed (integer_of x.type) a.range _ range_typed (omega (arith, ints), record { from_low = w; to_high = omega (arith, ints) })

      down : IsOfType (integer_of x.type) (hull_of a.range (from_to (values_of (integer_of x.type)).low (values_of (integer_of x.type)).low))
      down = let w = (whole_typed (integer_of x.type)).0 in hull_typed (integer_of x.type) a.range _ range_typed (omega (arith, ints), record { from_low = omega (arith, ints); to_high = w })

      typed : (c : Course) → IsOfType (integer_of x.type) (range_along c (integer_of x.type) a.range)
      typed Below = up
      typed AtMost = up
      typed Above = down
      typed AtLeast = down

  along_good : (v : ℕ) (course : Course) → Fair l.variables (trial_along l v course) × SameScope l.entry (trial_along l v course)
  along_good v course = at (l.assigned v)
    where
      at : (b : Bool) → Fair l.variables (if b then moved_along v course (slice_get l.variables v) (known l.entry v) (any_trial l) else any_trial l) × SameScope l.entry (if b then moved_along v course (slice_get l.variables v) (known l.entry v) (any_trial l) else any_trial l)
      at true = moved_good v course (slice_get l.variables v) (known l.entry v) refl refl
      at false = (any_fair, any_scope)

  -- ## The list

  rank_known : (course : Course) (v : ℕ) (r : Interval) → is_some (known l.entry v) ≡ true → RankKnown l.entry (rank_along course v r)
  rank_known Below v r e = e
  rank_known AtMost v r e = e
  rank_known Above v r e = e
  rank_known AtLeast v r e = e

  named : (env : Environment) (v : ℕ) (o : Option ℕ) → ((n : ℕ) → o ≡ Some n → is_some (known env n) ≡ true) → is_that v o ≡ true → is_some (known env v) ≡ true
  named env v None h e = absurd cc
  named env v (Some n) h e = let p : n ≡ v = eqb-true n v e in subst (λ (m : ℕ). is_some (known env m) ≡ true) p (h n refl)

  candidate_good : (side other : PlainValue) (v : ℕ) (course : Course) → Each IsGood (candidate_along l side other v course)
  candidate_good side other v course = at (is_variable_in (trial_along l v course) v side) refl (abstract_value None (trial_along l v course) other)
    where
      at : (b : Bool) → is_variable_in (trial_along l v course) v side ≡ b → (o : Option Abstract) →
          Each IsGood (if b then option_to_list (option_map (λ (a : Abstract). record { rank = rank_along course v a.range; trial = trial_along l v course }) o) else [])
      at false e o = tt
      at true e None = tt
      at true e (Some a) =
          let good = along_good v course in
          let there : is_some (known (trial_along l v course) v) ≡ true = named (trial_along l v course) v (as_side (assess None side (trial_along l v course))).variable (names side (trial_along l v course)) e in
          (record { holds = good.0; scope = good.1; ranked = rank_known course v a.range (sym (good.1.same v) ∙ there) }, tt)

  each_flat : {A : Type 0} (f : A → List Candidate) (xs : List A) → ((x : A) → Each IsGood (f x)) → Each IsGood (flat_map f xs)
  each_flat f [] h = tt
  each_flat f (x ∷ xs) h = each_both IsGood (f x) (flat_map f xs) (h x) (each_flat f xs h)

  each_take : (n : ℕ) (xs : List Candidate) → Each IsGood xs → Each IsGood (take n xs)
  each_take zero xs h = tt
  each_take (suc n) [] h = tt
  each_take (suc n) (x ∷ xs) h = (h.0, each_take n xs h.1)

  side_good : (op : BinOp) (side other : PlainValue) (o : Option ℕ) → Each IsGood (course_candidates l op side other o)
  side_good op side other None = tt
  side_good op side other (Some v) = each_flat (candidate_along l side other v) (courses_of op) (λ course. candidate_good side other v course)

  conjunct_good : (v : PlainValue) → Each IsGood (conjunct_candidates l v)
  conjunct_good (value at t (binary op a b)) = each_both IsGood (side_candidates l op a b) (side_candidates l (turned op) b a) (side_good op a b (variable_under a)) (side_good (turned op) b a (variable_under b))
  conjunct_good (value at t (constant z)) = side_good Ne (value at t (constant z)) (zero_for (value at t (constant z))) (variable_under (value at t (constant z)))
  conjunct_good (value at t (read p)) = side_good Ne (value at t (read p)) (zero_for (value at t (read p))) (variable_under (value at t (read p)))
  conjunct_good (value at t (sense n)) = side_good Ne (value at t (sense n)) (zero_for (value at t (sense n))) (variable_under (value at t (sense n)))
  conjunct_good (value at t (address p)) = side_good Ne (value at t (address p)) (zero_for (value at t (address p))) (variable_under (value at t (address p)))
  conjunct_good (value at t (decay p)) = side_good Ne (value at t (decay p)) (zero_for (value at t (decay p))) (variable_under (value at t (decay p)))
  conjunct_good (value at t (convert v)) = side_good Ne (value at t (convert v)) (zero_for (value at t (convert v))) (variable_under (value at t (convert v)))
  conjunct_good (value at t (cast v)) = side_good Ne (value at t (cast v)) (zero_for (value at t (cast v))) (variable_under (value at t (cast v)))
  conjunct_good (value at t (unary op v)) = side_good Ne (value at t (unary op v)) (zero_for (value at t (unary op v))) (variable_under (value at t (unary op v)))
  conjunct_good (value at t (logic op a b)) = side_good Ne (value at t (logic op a b)) (zero_for (value at t (logic op a b))) (variable_under (value at t (logic op a b)))
  conjunct_good (value at t (conditional v a b)) = side_good Ne (value at t (conditional v a b)) (zero_for (value at t (conditional v a b))) (variable_under (value at t (conditional v a b)))
  conjunct_good (value at t (call s n vs)) = side_good Ne (value at t (call s n vs)) (zero_for (value at t (call s n vs))) (variable_under (value at t (call s n vs)))
  conjunct_good (value at t (built_in s g vs)) = side_good Ne (value at t (built_in s g vs)) (zero_for (value at t (built_in s g vs))) (variable_under (value at t (built_in s g vs)))

  pub one_good : IsGood (one_candidate l)
  one_good = record { holds = any_fair; scope = any_scope; ranked = tt }

  pub candidates_good : Each IsGood (candidates l)
  candidates_good = each_both IsGood (take 4 (flat_map (conjunct_candidates l) (guard_conjuncts l.guard))) (one_candidate l ∷ []) (each_take 4 _ (each_flat (conjunct_candidates l) (guard_conjuncts l.guard) conjunct_good)) (one_good, tt)

  -- ## The claim that is taken

  -- a claim that stands by itself is that of a candidate
  pub record Stood (round : Rounds) (depth : ℕ) (claim : Loop) : Type 0 where
    pub candidate : Candidate
    pub good : IsGood candidate
    pub is : claim ≡ claim_of round l depth candidate
    pub alone : stands_alone round l claim ≡ true

  pub stood : (round : Rounds) (depth : ℕ) (cs : List Candidate) → Each IsGood cs → (claim : Loop) → first_standing round l depth cs ≡ Some claim → Stood round depth claim
  stood round depth [] h claim e = absurd (none-some _ e)
  stood round depth (c ∷ rest) h claim e = at (stands_alone round l (claim_of round l depth c)) refl e (λ k. stood round depth rest h.1 claim k)
    where
      at : (b : Bool) → stands_alone round l (claim_of round l depth c) ≡ b → (if b then Some (claim_of round l depth c) else first_standing round l depth rest) ≡ Some claim → (first_standing round l depth rest ≡ Some claim → Stood round depth claim) → Stood round depth claim
      at true s q k = let p : claim_of round l depth c ≡ claim = same_Some _ _ q in record { candidate = c; good = h.0; is = sym p; alone = subst (λ (x : Loop). stands_alone round l x ≡ true) p s }
      at false s q k = k q

-- ## Turns

at_most : (h x : ℤ) → h ≤ℤ x → pos 0 ≤ℤ x → h ≤ℤ pos (unsigned_abs x)
at_most h (pos m) l p = l
at_most h (negsuc m) l p = absurd (omega (arith, ints, p))

pub turns_enough : (o : Option Interval) → is_some o ≡ true → turns_of_rank o ≤ MOST_SUM → is_enough (turns_of_rank o) o ≡ true
turns_enough None s h = absurd cc
turns_enough (Some r) s h = le_true r.high (pos (counted (unsigned_abs (int_max r.high (pos 0))))) (subst (λ (k : ℕ). r.high ≤ℤ pos k) same (at_most r.high (int_max r.high (pos 0)) (omega (arith, ints, clamps)) (omega (arith, ints, clamps))))
  where
    same : unsigned_abs (int_max r.high (pos 0)) ≡ counted (unsigned_abs (int_max r.high (pos 0)))
    same = short (unsigned_abs (int_max r.high (pos 0))) MOST_SUM h
      where
        short : (k most : ℕ) → min k (most + 1) ≤ most → k ≡ min k (most + 1)
        short k most l = omega (arith, l)

some_map : {A B : Type 0} (f : A → B) (o : Option A) → is_some o ≡ true → is_some (option_map f o) ≡ true
some_map f None e = absurd cc
some_map f (Some a) e = refl

pub rank_there : (env : Environment) (rank : Rank) → RankKnown env rank → is_some (rank_in rank env) ≡ true
rank_there env (Up n bound) e = some_map _ (known env n) e
rank_there env (Down n bound) e = some_map _ (known env n) e
rank_there env One e = refl
rank_there env Task e = absurd e
