-- Assignments, declarations, returns and rounds of loops keep ranges of their types.
use Rattle.std.proofs.Common.{◌≡◌, ℕ, zero, suc, Bool, true, false, List, [], ◌∷◌, Option, Some, None, refl, sym, ap, ◌∙◌, subst}
use Rattle.std.specs.Prelude.{slice_get, if◌then◌else◌, is_some, nat_eq, ◌&&◌, IfSome}
use Rattle.std.specs.List.{AllByRecursion}
use Rattle.std.specs.Option.{option_map}
use Rattle.std.proofs.lemmas.Bool.{eqb-true}
use Rattle.std.proofs.lemmas.Option.{same_Some}
use Rattle.p10_base.specs.declared.span.Span.{Span}
use Rattle.p10_int.specs.declared.operators.BinOp.{BinOp}
use Rattle.p10_range.specs.Laws.{IsOfType}
use Rattle.p10_core.specs.declared.statements.LoopKeyword.{LoopKeyword}
use Rattle.p10_core.specs.declared.statements.LoopKeyword.TheVariants.{While, Do, For}
use Rattle.p10_core.specs.Types.{PlainType}
use Rattle.p10_core.specs.Typed.{PlainValue, type_of, PlainPlace, place, place_type, variable, global, literal, index, member, dereference, PlainItem, PlainWritten, one_scalar, scalars_of_text, PlainInitializer, not_initialized, single, copied, listed, PlainVariable, PlainFunction, PlainProgram}
use Rattle.p10_core.specs.Constants.{integer_of}
use Rattle.p10_core.specs.Rows.{is_integer}
use Rattle.p10_core.specs.Whole.{Surroundings, IsVariable, IsWholeValue, IsWholePlace}
use Rattle.p10_core.specs.WholePrograms.{IsWholeInitializer, IsMaybeTest}
use Rattle.p10_cert.specs.Claims.{Value, Var, Loop, Claims}
use Rattle.p10_absx.specs.Abstract.{Abstract, whole_type}
use Rattle.p10_absx.specs.Environments.{Environment, known, learned, hull_reached}
use Rattle.p10_absx.specs.Operators.{converted_abstract}
use Rattle.p10_absx.specs.Assessing.{assess, known_where, abstract_value}
use Rattle.p10_pass.specs.Arguments.{has_value, failing_in, failing_at}
use Rattle.p10_pass.specs.Claiming.{range_claimed, own_offset, head_of, loop_claimed}
use Rattle.p10_pass.specs.Passing.{Left, Manner, nowhere, reached, where_going, stored, before_update, set_value, updated_value, value_passed, items_passed, integer_declared, other_declared, declared, range_returned, value_returned, Tested, tested_in, tested_reached, Round, round_of}
use Rattle.p10_known.specs.Typing.{AreOfTypes, MaybeOfTypes, EndsOfTypes, LineOfType, LinesOfTypes, ResultsOfTypes}
use Rattle.p10_known.proofs.Ranges.{all_of_type, Has, MaybeHas, IsSome, converted_of_type, binary_of_type, some_has, then_has}
use Rattle.p10_known.proofs.Environments.{learned_types, reached_types, changed_types}
use Rattle.p10_known.proofs.Values.{same_kind, IsSeen, Sees, value_has, where_types, found_of_type}
use Rattle.p10_known.proofs.Ends.{nowhere_ends, reached_ends, calls_ends, going_ends, then_ends, if_types}

-- ## Heads of loops

pub claimed_has : (variables : List PlainVariable) (vars : List Var) (n : ℕ) (v : PlainVariable) → AllByRecursion (LineOfType variables) vars → slice_get variables n ≡ Some v → IsOfType (integer_of v.type) (range_claimed vars n (integer_of v.type))
claimed_has variables [] n v h there = all_of_type (integer_of v.type)
claimed_has variables (line ∷ vars) n v h there = at (nat_eq line.var n) refl (claimed_has variables vars n v h.1 there)
  where
    at : (b : Bool) → nat_eq line.var n ≡ b → IsOfType (integer_of v.type) (range_claimed vars n (integer_of v.type)) → IsOfType (integer_of v.type) (if b then line.ends else range_claimed vars n (integer_of v.type))
    at true e k = h.0 v (ap (slice_get variables) (eqb-true line.var n e) ∙ there)
    at false e k = k

pub head_types : (variables : List PlainVariable) (claim : Loop) (entry : Environment) → LinesOfTypes variables claim → AreOfTypes variables entry → AreOfTypes variables (head_of claim variables entry)
head_types variables claim entry h k = changed_types variables (λ n v a. record { range = range_claimed claim.vars n (integer_of v.type); offset = Some (own_offset n) }) entry (λ n v a there l. claimed_has variables claim.vars n v h there) k

pub loop_lines : (variables : List PlainVariable) (loops : List Loop) (n : ℕ) → AllByRecursion (LinesOfTypes variables) loops → LinesOfTypes variables (loop_claimed loops n)
loop_lines variables [] n h = tt
loop_lines variables (l ∷ loops) zero h = h.0
loop_lines variables (l ∷ loops) (suc n) h = loop_lines variables loops n h.1

-- ## Parts of statements

both_true : (a b : Bool) → (a && b) ≡ true → (a ≡ true) × (b ≡ true)
both_true true b e = (refl, e)
both_true false b e = absurd cc

module _ (p : PlainProgram) (f : PlainFunction) (calls : Option Claims) (results : ResultsOfTypes p calls) (loops : Option (List Loop)) (result : Option Value) where
  abbrev m : Manner
  m = record { calls = calls; loops = loops; result = result; variables = f.variables }

  abbrev Typed : Environment → Type 0
  Typed env = AreOfTypes f.variables env

  abbrev Ends : Left → Type 0
  Ends a = EndsOfTypes f.variables f.result a

  module _ (c : Surroundings) (sees : Sees p f c) where
    -- what a whole value has
    abstract_has : (v : PlainValue) → IsWholeValue c v → (env : Environment) → Typed env → MaybeHas (integer_of (type_of v)) (abstract_value calls env v)
    abstract_has v i env h = value_has f.variables (type_of v) (assess calls v env) (found_of_type p f calls results c sees v i env h)

    pub known_types : (truth : Bool) (v : PlainValue) → IsWholeValue c v → (env : Environment) → Typed env → MaybeOfTypes f.variables (known_where truth env (assess calls v env))
    known_types truth v i env h = where_types f.variables (type_of v) truth env (assess calls v env) h (found_of_type p f calls results c sees v i env h)

    -- ## Assignments

    kind_there : (n : ℕ) (t : PlainType) → IsVariable c n t → (v : PlainVariable) → slice_get f.variables n ≡ Some v → integer_of t ≡ integer_of v.type
    kind_there n t i v there =
        let seen : IsSeen f n i.seen.type = sees.variables n i.seen i.there in
        let same : seen.variable ≡ v = same_Some _ _ (sym seen.there ∙ there) in
        ap integer_of (i.type_is ∙ (seen.type_is ∙ ap (λ (x : PlainVariable). x.type) same))

    stored_types : (q : PlainPlace) → IsWholePlace c q → (a : Abstract) → Has (integer_of (place_type q)) a → (env : Environment) → Typed env → Typed (stored q a env)
    stored_types (place at t (variable n)) i a k env h = by_case (is_some (known env n))
      where
        by_case : (b : Bool) → Typed (if b then learned env n a else env)
        by_case true = learned_types f.variables env n a h (λ v there. subst (λ j. Has j a) (kind_there n t i v there) k)
        by_case false = h
    stored_types (place at t (global n)) i a k env h = h
    stored_types (place at t (literal n bytes)) i a k env h = h
    stored_types (place at t (index x j)) i a k env h = h
    stored_types (place at t (member q n)) i a k env h = h
    stored_types (place at t (dereference v)) i a k env h = h

    pub set_types : (q : PlainPlace) (v : PlainValue) → IsWholePlace c q → IsWholeValue c v → integer_of (type_of v) ≡ integer_of (place_type q) → (env : Environment) → Typed env → MaybeOfTypes f.variables (set_value q (type_of v) (abstract_value calls env v) env)
    set_types q v i j e env h = at (abstract_value calls env v) (abstract_has v j env h)
      where
        at : (o : Option Abstract) → MaybeHas (integer_of (type_of v)) o → MaybeOfTypes f.variables (set_value q (type_of v) o env)
        at None k = if_types f.variables f.result (is_integer (type_of v)) None (Some env) tt h
        at (Some a) k = if_types f.variables f.result (is_integer (type_of v)) (Some (stored q a env)) (Some env) (stored_types q i a (subst (λ j. Has j a) e k) env h) h

    before_some : (q : PlainPlace) → IsWholePlace c q → (env : Environment) → Typed env → IsSome (before_update q env)
    before_some (place at t (variable n)) i env h = by_case (known env n) refl
      where
        by_case : (o : Option Abstract) → known env n ≡ o → IsSome (elim o [ Some a ↦ a | None ↦ whole_type (integer_of t) ])
        by_case None e = (all_of_type (integer_of t)).0
        by_case (Some a) e = let seen : IsSeen f n i.seen.type = sees.variables n i.seen i.there in (h.each n seen.variable a seen.there e).0
    before_some (place at t (global n)) i env h = (all_of_type (integer_of t)).0
    before_some (place at t (literal n bytes)) i env h = (all_of_type (integer_of t)).0
    before_some (place at t (index x j)) i env h = (all_of_type (integer_of t)).0
    before_some (place at t (member q n)) i env h = (all_of_type (integer_of t)).0
    before_some (place at t (dereference v)) i env h = (all_of_type (integer_of t)).0

    pub updated_types : (op : BinOp) (t : PlainType) (q : PlainPlace) (v : PlainValue) → IsWholePlace c q → IsWholeValue c v → (env : Environment) → Typed env → MaybeOfTypes f.variables (updated_value op t q (abstract_value calls env v) env)
    updated_types op t q v i j env h = if_types f.variables f.result (is_integer (place_type q)) _ (Some env)
        (renewed _ (some_has (integer_of t) _ (then_has (integer_of t) (abstract_value calls env v) _ (some_has (integer_of (type_of v)) _ (abstract_has v j env h))
        (λ b k. binary_of_type op (integer_of t) _ b (converted_of_type (integer_of t) (before_update q env) (before_some q i env h)).0 k)))) h
      where
        renewed : (o : Option Abstract) → IfSome o IsSome → MaybeOfTypes f.variables (option_map (λ r. stored q (converted_abstract (integer_of (place_type q)) r) env) o)
        renewed None k = tt
        renewed (Some r) k = stored_types q i (converted_abstract (integer_of (place_type q)) r) (converted_of_type (integer_of (place_type q)) r k) env h

    -- ## Declarations

    pub passed_ends : (v : PlainValue) (env : Environment) → Typed env → Ends (value_passed m v env)
    passed_ends v env h = calls_ends f.variables f.result (failing_in calls v env) _ (reached_ends f.variables f.result _ (if_types f.variables f.result (has_value calls v env) (Some env) None h tt))

    items_ends : (items : List PlainItem) (env : Environment) → Typed env → Ends (items_passed m items env)
    items_ends [] env h = reached_ends f.variables f.result (Some env) h
    items_ends (item ∷ items) env h = first item.written (λ e k. items_ends items e k)
      where
        first : (written : PlainWritten) → ((e : Environment) → Typed e → Ends (items_passed m items e)) → Ends (items_passed m (record item { written = written } ∷ items) env)
        first (one_scalar v) rest = then_ends f.variables f.result (value_passed m v env) (λ env. items_passed m items env) (passed_ends v env h) rest
        first (scalars_of_text bytes) rest = then_ends f.variables f.result (reached (Some env)) (λ env. items_passed m items env) (reached_ends f.variables f.result (Some env) h) rest

    whole_ends : (n : ℕ) (v : PlainVariable) → slice_get f.variables n ≡ Some v → (env : Environment) → Typed env → Ends (reached (Some (learned env n (whole_type (integer_of v.type)))))
    whole_ends n v there env h = reached_ends f.variables f.result _ (learned_types f.variables env n (whole_type (integer_of v.type)) h
        (λ u is. let same : v ≡ u = same_Some _ _ (sym there ∙ is) in subst (λ (w : PlainVariable). Has (integer_of w.type) (whole_type (integer_of v.type))) same (all_of_type (integer_of v.type))))

    integer_ends : (n : ℕ) (v : PlainVariable) (initializer : PlainInitializer) → slice_get f.variables n ≡ Some v → IsWholeInitializer c v.type initializer → (env : Environment) → Typed env → Ends (integer_declared m n (integer_of v.type) initializer env)
    integer_ends n v (single x) there i env h = calls_ends f.variables f.result (failing_in calls x seen) _ (reached_ends f.variables f.result _ (again (abstract_value calls seen x) (abstract_has x i.whole seen seen_types)))
      where
        seen : Environment
        seen = learned env n (whole_type (integer_of v.type))

        of_variable : (a : Abstract) → Has (integer_of v.type) a → (u : PlainVariable) → slice_get f.variables n ≡ Some u → Has (integer_of u.type) a
        of_variable a k u is = let same : v ≡ u = same_Some _ _ (sym there ∙ is) in subst (λ (w : PlainVariable). Has (integer_of w.type) a) same k

        seen_types : Typed seen
        seen_types = learned_types f.variables env n (whole_type (integer_of v.type)) h (of_variable (whole_type (integer_of v.type)) (all_of_type (integer_of v.type)))

        again : (o : Option Abstract) → MaybeHas (integer_of (type_of x)) o → MaybeOfTypes f.variables (option_map (learned seen n) o)
        again None k = tt
        again (Some a) k = learned_types f.variables seen n a seen_types (of_variable a (subst (λ j. Has j a) (ap integer_of i.type_is ∙ same_kind v.type) k))
    integer_ends n v not_initialized there i env h = whole_ends n v there env h
    integer_ends n v (copied q) there i env h = whole_ends n v there env h
    integer_ends n v (listed at items) there i env h = whole_ends n v there env h

    other_ends : (initializer : PlainInitializer) (env : Environment) → Typed env → Ends (other_declared m initializer env)
    other_ends not_initialized env h = reached_ends f.variables f.result (Some env) h
    other_ends (single v) env h = passed_ends v env h
    other_ends (copied q) env h = calls_ends f.variables f.result (failing_at calls q env) (reached (Some env)) (reached_ends f.variables f.result (Some env) h)
    other_ends (listed at items) env h = items_ends items env h

    pub declared_ends : (n : ℕ) (o : Option PlainVariable) (v : PlainVariable) (initializer : PlainInitializer) → slice_get f.variables n ≡ o → slice_get f.variables n ≡ Some v → IsWholeInitializer c v.type initializer → (env : Environment) → Typed env → Ends (declared m n o initializer env)
    declared_ends n None v initializer e there i env h = reached_ends f.variables f.result (Some env) h
    declared_ends n (Some u) v initializer e there i env h = by_case (u.frame && is_integer u.type)
      where
        same : v ≡ u
        same = same_Some _ _ (sym there ∙ e)

        by_case : (b : Bool) → Ends (if b then integer_declared m n (integer_of u.type) initializer env else other_declared m initializer env)
        by_case true = integer_ends n u initializer e (subst (λ (w : PlainVariable). IsWholeInitializer c w.type initializer) same i) env h
        by_case false = other_ends initializer env h

    -- ## Returns

    pub returned_ends : (keyword : Span) (v : PlainValue) → IsWholeValue c v → integer_of (type_of v) ≡ integer_of f.result → (env : Environment) → Typed env → Ends (value_returned m keyword v env)
    returned_ends keyword v i e env h = by_case (is_integer (type_of v))
      where
        ranged : (o : Option Abstract) → MaybeHas (integer_of (type_of v)) o → Ends (range_returned m keyword o env)
        ranged None k = nowhere_ends f.variables f.result
        ranged (Some a) k = record { normal = tt; breaks = tt; continues = tt; returns = h; returned = subst (λ j. Has j a) e k }

        by_case : (b : Bool) → Ends (if b then range_returned m keyword (abstract_value calls env v) env else record nowhere { returns = Some env })
        by_case true = ranged (abstract_value calls env v) (abstract_has v i env h)
        by_case false = record { normal = tt; breaks = tt; continues = tt; returns = h; returned = tt }

    -- ## Rounds of loops

    record TestedTypes (t : Tested) : Type 0 where
      truth : MaybeOfTypes f.variables t.truth
      contrary : MaybeOfTypes f.variables t.contrary

    test_types : (tested : Option PlainValue) → IsMaybeTest c tested → (env : Environment) → Typed env → TestedTypes (tested_in m tested env)
    test_types None i env h = record { truth = h; contrary = tt }
    test_types (Some v) i env h = record { truth = known_types true v i.whole env h; contrary = known_types false v i.whole env h }

    test_reached : (tested : Option PlainValue) → IsMaybeTest c tested → (o : Option Environment) → MaybeOfTypes f.variables o → TestedTypes (tested_reached m tested o)
    test_reached tested i None h = record { truth = tt; contrary = tt }
    test_reached tested i (Some env) h = test_types tested i env h

    -- what a round leaves
    pub record RoundOfTypes (r : Round) : Type 0 where
      pub enters : MaybeOfTypes f.variables r.enters
      pub back : MaybeOfTypes f.variables r.back
      pub exits : MaybeOfTypes f.variables r.exits
      pub body : EndsOfTypes f.variables f.result r.body

    -- `while` and `for`
    tests_first : (tested : Option PlainValue) → IsMaybeTest c tested → (third body : Environment → Left) → ((e : Environment) → Typed e → Ends (third e)) → ((e : Environment) → Typed e → Ends (body e)) →
        (head : Environment) → Typed head → RoundOfTypes (round_of m While tested third body head)
    tests_first tested i third body thirds bodies head h =
        let t : TestedTypes (tested_in m tested head) = test_types tested i head h in
        let b : Ends (where_going (tested_in m tested head).truth body) = going_ends f.variables f.result (tested_in m tested head).truth body t.truth bodies in
        let c : Ends (where_going (hull_reached (where_going (tested_in m tested head).truth body).normal (where_going (tested_in m tested head).truth body).continues) third) =
        going_ends f.variables f.result _ third (reached_types f.variables _ _ b.normal b.continues) thirds in
        record { enters = t.truth; back = c.normal; exits = reached_types f.variables _ _ t.contrary b.breaks; body = b }

    pub round_types : (keyword : LoopKeyword) (tested : Option PlainValue) → IsMaybeTest c tested → (third body : Environment → Left) → ((e : Environment) → Typed e → Ends (third e)) → ((e : Environment) → Typed e → Ends (body e)) →
        (head : Environment) → Typed head → RoundOfTypes (round_of m keyword tested third body head)
    round_types Do tested i third body thirds bodies head h =
        let b : Ends (body head) = bodies head h in
        let t : TestedTypes (tested_reached m tested (hull_reached (body head).normal (body head).continues)) = test_reached tested i _ (reached_types f.variables (body head).normal (body head).continues b.normal b.continues) in
        record { enters = h; back = t.truth; exits = reached_types f.variables _ (body head).breaks t.contrary b.breaks; body = b }
    round_types While tested i third body thirds bodies head h = tests_first tested i third body thirds bodies head h
    round_types For tested i third body thirds bodies head h = tests_first tested i third body thirds bodies head h
