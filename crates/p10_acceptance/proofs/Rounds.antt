-- Loops: where a claim fits what is known at entry, a round under claims is narrower than a round in a trial, and so is what is left.
use Rattle.std.proofs.Common.{◌≡◌, ℕ, zero, suc, ◌+◌, Bool, true, false, List, [], ◌∷◌, ◌++◌, Option, Some, None, refl, ap, sym, ◌∙◌, subst, inl, inr, arith}
use Rattle.std.specs.Prelude.{slice_get, if◌then◌else◌, is_some, ◌||◌, ◌&&◌, ◌⊎◌, IfSome, IsSomeAnd}
use Rattle.std.specs.Option.{option_map}
use Rattle.std.proofs.lemmas.Option.{same_Some, none-some}
use Rattle.std.proofs.lemmas.Bool.{and_parts}
use Rattle.p10_base.specs.declared.span.Span.{Span}
use Rattle.p10_int.specs.declared.types.IntType.{IntType}
use Rattle.p10_range.specs.Ranges.{Interval, IsWithin, is_within}
use Rattle.p10_range.specs.Laws.{IsOfType}
use Rattle.p10_core.specs.declared.statements.LoopHead.{LoopHead}
use Rattle.p10_core.specs.declared.statements.LoopKeyword.{LoopKeyword}
use Rattle.p10_core.specs.declared.statements.LoopKeyword.TheVariants.{While, Do, For}
use Rattle.p10_core.specs.Constants.{integer_of}
use Rattle.p10_core.specs.Typed.{PlainValue, PlainStatement, PlainStatements, PlainVariable, loop}
use Rattle.p10_core.specs.WholePrograms.{is_among, declared_in, declared_of}
use Rattle.p10_cert.specs.declared.claims.Rank.{Rank}
use Rattle.p10_cert.specs.declared.claims.Rank.TheVariants.{Task}
use Rattle.p10_cert.specs.Claims.{Value, Loop, Claims}
use Rattle.p10_absx.specs.Abstract.{Abstract, whole_type}
use Rattle.p10_absx.specs.Environments.{Environment, known, hull_reached}
use Rattle.p10_pass.specs.Scopes.{form_assigns, assigns, any_assigns, left_scope, assigned_forgotten, offset_in, offsets_restored}
use Rattle.p10_pass.specs.Claiming.{range_claimed, own_offset, head_of, ranges_hold, ranges_hold_reached}
use Rattle.p10_pass.specs.Passing.{Failing, Weakness, Left, where_going, reached, followed, as_block, Manner, Tested, tested_in, tested_reached, Round, round_of, rank_fails, weakness_of, place_unless, loop_left, pass_statement, pass_statements, trial_manner}
use Rattle.p10_execution.specs.Scoping.{IsNumber, KnowsNumbers, IsBefore}
use Rattle.p10_execution.proofs.Numbers.{or_false, among_append}
use Rattle.p10_execution.proofs.Entries.{changed_at, changed_knows}
use Rattle.p10_execution.proofs.TopDeclarations.{declares_at_top, top_is_declared, left_other}
use Rattle.p10_execution.proofs.ScopedEnds.{nothing, Scoped, MaybeScoped, EndsScoped, going_scoped, reached_scoped}
use Rattle.p10_execution.proofs.PassedScopes.{truth_scoped}
use Rattle.p10_acceptance.proofs.Narrowing.{within_trans, LiesIn, Fair, Narrower, MaybeNarrower, hull_narrower}
use Rattle.p10_acceptance.proofs.Operating.{within_of, is_within_of}
use Rattle.p10_acceptance.proofs.Shrinking.{Under, MaybeUnder, exits_under}
use Rattle.p10_acceptance.proofs.Calling.{no_names}
use Rattle.p10_acceptance.proofs.Ends.{Each, each_both, range_typed, EndsFit, going_fit, left_fair, changed_fair}
use Rattle.p10_acceptance.proofs.Fitting.{ClaimFits, NoJumps, entered, trial_round}

-- ## Ranges that hold

-- claimed ranges hold where each variable's does
pub holds_by : (claim : Loop) (i : ℕ) (variables : List PlainVariable) (env : Environment) → ((n j : ℕ) (v : PlainVariable) (a : Abstract) → i + n ≡ j → slice_get variables n ≡ Some v → known env n ≡ Some a → IsWithin a.range (range_claimed claim.vars j (integer_of v.type))) →
    ranges_hold claim i variables env ≡ true
holds_by claim i [] env h = refl
holds_by claim i (v ∷ variables) [] h = refl
holds_by claim i (v ∷ variables) (None ∷ env) h = holds_by claim (suc i) variables env (λ n j u a s there e. h (suc n) j u a (omega (arith, s)) there e)
holds_by claim i (v ∷ variables) (Some a ∷ env) h =
    ap (λ b. b && ranges_hold claim (suc i) variables env) (is_within_of a.range _ (h 0 i v a (omega arith) refl refl))
    ∙ holds_by claim (suc i) variables env (λ n j u a s there e. h (suc n) j u a (omega (arith, s)) there e)

pub claimed_at : (claim : Loop) (i : ℕ) (variables : List PlainVariable) (env : Environment) (n j : ℕ) (v : PlainVariable) (a : Abstract) → ranges_hold claim i variables env ≡ true → slice_get variables n ≡ Some v → known env n ≡ Some a → i + n ≡ j →
    IsWithin a.range (range_claimed claim.vars j (integer_of v.type))
claimed_at claim i [] env n j v a h there e s = absurd (none-some _ there)
claimed_at claim i (u ∷ variables) [] n j v a h there e s = absurd (none-some _ e)
claimed_at claim i (u ∷ variables) (None ∷ env) zero j v a h there e s = absurd (none-some _ e)
claimed_at claim i (u ∷ variables) (Some b ∷ env) zero j v a h there e s =
    let both = and_parts (is_within b.range (range_claimed claim.vars i (integer_of u.type))) (ranges_hold claim (suc i) variables env) h in
    let p : u ≡ v = same_Some _ _ there in
    let q : b ≡ a = same_Some _ _ e in
    let r : i ≡ j = omega (arith, s) in
    within_of a.range _ (subst (λ (k : ℕ). is_within a.range (range_claimed claim.vars k (integer_of v.type)) ≡ true) r
    (subst (λ (u : PlainVariable). is_within a.range (range_claimed claim.vars i (integer_of u.type)) ≡ true) p
    (subst (λ (b : Abstract). is_within b.range (range_claimed claim.vars i (integer_of u.type)) ≡ true) q both.0)))
claimed_at claim i (u ∷ variables) (None ∷ env) (suc n) j v a h there e s = claimed_at claim (suc i) variables env n j v a h there e (omega (arith, s))
claimed_at claim i (u ∷ variables) (Some b ∷ env) (suc n) j v a h there e s =
    let both = and_parts (is_within b.range (range_claimed claim.vars i (integer_of u.type))) (ranges_hold claim (suc i) variables env) h in
    claimed_at claim (suc i) variables env n j v a both.1 there e (omega (arith, s))

pub some_is : (o : Option Abstract) → is_some o ≡ true → (a : Abstract) × (o ≡ Some a)
some_is None e = absurd cc
some_is (Some a) e = (a, refl)

-- what is narrower keeps the ranges that the wider one keeps, where both know the variables of a third
pub held_narrower : (claim : Loop) (variables : List PlainVariable) (head : Environment) (o p : Option Environment) → MaybeNarrower variables o p → MaybeScoped variables nothing head o → MaybeScoped variables nothing head p →
    ranges_hold_reached claim variables p ≡ true → ranges_hold_reached claim variables o ≡ true
held_narrower claim variables head None p h s t e = refl
held_narrower claim variables head (Some a) None h s t e = absurd h
held_narrower claim variables head (Some a) (Some b) h s t e = holds_by claim 0 variables a (λ n j v x q there k. one n j v x q there k)
  where
    one : (n j : ℕ) (v : PlainVariable) (x : Abstract) → 0 + n ≡ j → slice_get variables n ≡ Some v → known a n ≡ Some x → IsWithin x.range (range_claimed claim.vars j (integer_of v.type))
    one n j v x q there k =
        let y = some_is (known b n) (t.same n refl ∙ (sym (s.same n refl) ∙ ap is_some k)) in
        within_trans x.range y.0.range _ (subst (λ (z : Option Abstract). IsSomeAnd z (λ z. IsWithin z.range y.0.range)) k (subst (LiesIn (known a n)) y.1 (h.lies n))) (claimed_at claim 0 variables b n j v y.0 e there y.1 q)

-- ## Parts

pub maybe_is : (variables : List PlainVariable) (but : ℕ → Bool) (env : Environment) (o : Option Environment) (e : Environment) → MaybeScoped variables but env o → o ≡ Some e → Scoped variables but env e
maybe_is variables but env None e s q = absurd (none-some _ q)
maybe_is variables but env (Some d) e s q = subst (λ (x : Environment). Scoped variables but env x) (same_Some _ _ q) s

-- no more is known, and something is
pub under_is : (x y : Option Abstract) (a b : Abstract) → Under x y → x ≡ Some a → y ≡ Some b → IsWithin a.range b.range
under_is x y a b h e f = subst (λ (z : Option Abstract). Under (Some a) z) f (subst (λ (z : Option Abstract). Under z y) e h)

lies_is : (x y : Option Abstract) (a b : Abstract) → LiesIn x y → x ≡ Some a → y ≡ Some b → IsWithin a.range b.range
lies_is x y a b h e f = subst (λ (z : Option Abstract). LiesIn z (Some b)) e (subst (LiesIn x) f h)

module _ (variables : List PlainVariable) (calls : Option Claims) (loops : Option (List Loop)) (result : Option Value) (kind : IntType) (Stands : ℕ → Environment → Type 0) where
  abbrev pub m : Manner
  m = record { calls = calls; loops = loops; result = result; variables = variables }

  abbrev pub t : Manner
  t = trial_manner variables

  -- something stands for a loop of which the pass says that its rank doesn't
  abbrev pub WeakStands : Weakness → Type 0
  WeakStands w = Stands w.at w.entry

  -- what is left fits what is left in a trial
  abbrev pub Fit : Left → Left → Type 0
  Fit a b = EndsFit variables kind WeakStands a b

  -- a test that fits one in a trial
  pub record TestsFit (a b : Tested) : Type 0 where
    pub truth : MaybeNarrower variables a.truth b.truth
    pub contrary : MaybeNarrower variables a.contrary b.contrary
    pub names : a.names ≡ []

  -- a round that fits one in a trial
  pub record RoundFits (a b : Round) : Type 0 where
    pub back : MaybeNarrower variables a.back b.back
    pub exits : MaybeNarrower variables a.exits b.exits
    pub names : a.names ≡ []
    pub returned : IfSome a.body.returned (IsOfType kind)
    pub results : a.body.results ≡ []
    pub entries : a.body.entries ≡ []
    pub backs : a.body.backs ≡ []
    pub weak : Each WeakStands a.body.weak

  module _ (tested : Option PlainValue) (third : PlainStatements) (body : PlainStatement) (head wider : Environment) (narrow : Narrower variables head wider) (knows : KnowsNumbers variables head)
      (test_fits : (e w : Environment) → Narrower variables e w → TestsFit (tested_in m tested e) (tested_in t tested w))
      (third_fits : (e w : Environment) → KnowsNumbers variables e → Narrower variables e w → Fit (pass_statements m third e) (pass_statements t third w))
      (body_scoped : (e : Environment) → Scoped variables nothing head e → EndsScoped variables nothing e (pass_statement m body e)) where
    while_fits : ((e w : Environment) → (tested_in m tested head).truth ≡ Some e → Narrower variables e w → Fit (pass_statement m body e) (pass_statement t body w)) →
        RoundFits (round_of m While tested (λ env. pass_statements m third env) (λ env. pass_statement m body env) head) (round_of t While tested (λ env. pass_statements t third env) (λ env. pass_statement t body env) wider)
    while_fits body_fits =
        let tests = test_fits head wider narrow in
        let one : Tested = tested_in m tested head in
        let other : Tested = tested_in t tested wider in
        let b : Left = where_going one.truth (λ env. pass_statement m body env) in
        let wb : Left = where_going other.truth (λ env. pass_statement t body env) in
        let inner : Fit b wb = going_fit variables kind WeakStands one.truth other.truth (λ env. pass_statement m body env) (λ env. pass_statement t body env) tests.truth (λ e w q n. body_fits e w q n) in
        let scoped : EndsScoped variables nothing head b = going_scoped variables nothing head one.truth (λ env. pass_statement m body env) (truth_scoped variables calls loops result tested head knows) body_scoped in
        let c : Left = where_going (hull_reached b.normal b.continues) (λ env. pass_statements m third env) in
        let last : Fit c (where_going (hull_reached wb.normal wb.continues) (λ env. pass_statements t third env)) =
        going_fit variables kind WeakStands (hull_reached b.normal b.continues) (hull_reached wb.normal wb.continues) (λ env. pass_statements m third env) (λ env. pass_statements t third env)
        (hull_narrower variables b.normal b.continues wb.normal wb.continues inner.normal inner.continues)
        (λ e w q n. third_fits e w (maybe_is variables nothing head (hull_reached b.normal b.continues) e (reached_scoped variables nothing head b.normal b.continues scoped.normal scoped.continues) q).knows n) in record {
          back = last.normal;
          exits = hull_narrower variables one.contrary b.breaks other.contrary wb.breaks tests.contrary inner.breaks;
          names = no_names one.names (c.arguments ++ b.arguments) tests.names (no_names c.arguments b.arguments last.arguments inner.arguments);
          returned = inner.returned;
          results = inner.results;
          entries = inner.entries;
          backs = inner.backs;
          weak = inner.weak;
        }

    late_tests : (o p : Option Environment) → MaybeNarrower variables o p → TestsFit (tested_reached m tested o) (tested_reached t tested p)
    late_tests None p h = record { truth = tt; contrary = tt; names = refl }
    late_tests (Some e) None h = absurd h
    late_tests (Some e) (Some w) h = test_fits e w h

    do_fits : Fit (pass_statement m body head) (pass_statement t body wider) →
        RoundFits (round_of m Do tested (λ env. pass_statements m third env) (λ env. pass_statement m body env) head) (round_of t Do tested (λ env. pass_statements t third env) (λ env. pass_statement t body env) wider)
    do_fits inner =
        let b : Left = pass_statement m body head in
        let wb : Left = pass_statement t body wider in
        let tests = late_tests (hull_reached b.normal b.continues) (hull_reached wb.normal wb.continues) (hull_narrower variables b.normal b.continues wb.normal wb.continues inner.normal inner.continues) in record {
          back = tests.truth;
          exits = hull_narrower variables (tested_reached m tested (hull_reached b.normal b.continues)).contrary b.breaks (tested_reached t tested (hull_reached wb.normal wb.continues)).contrary wb.breaks tests.contrary inner.breaks;
          names = no_names b.arguments (tested_reached m tested (hull_reached b.normal b.continues)).names inner.arguments tests.names;
          returned = inner.returned;
          results = inner.results;
          entries = inner.entries;
          backs = inner.backs;
          weak = inner.weak;
        }

    -- a round from a narrower head
    pub round_fits : (keyword : LoopKeyword) → ((e w : Environment) → entered variables calls loops result Stands keyword tested head ≡ Some e → Narrower variables e w → Fit (pass_statement m body e) (pass_statement t body w)) →
        RoundFits (round_of m keyword tested (λ env. pass_statements m third env) (λ env. pass_statement m body env) head) (trial_round variables calls loops result Stands keyword tested third body wider)
    round_fits While h = while_fits h
    round_fits For h = let w = while_fits h in record { back = w.back; exits = w.exits; names = w.names; returned = w.returned; results = w.results; entries = w.entries; backs = w.backs; weak = w.weak }
    round_fits Do h = do_fits (h head wider refl narrow)

  -- ## The head of a loop

  pub head_fair : (claim : Loop) (number : ℕ) (assigned : ℕ → Bool) (trial : Environment → Round) (entry : Environment) → Fair variables entry → ClaimFits variables Stands claim number assigned trial entry → Fair variables (head_of claim variables entry)
  head_fair claim number assigned trial entry f c = changed_fair variables _ entry f (λ n v a there e. c.typed n v there (ap is_some e))

  head_at : (claim : Loop) (entry : Environment) (n : ℕ) (v : PlainVariable) (a : Abstract) → slice_get variables n ≡ Some v → known entry n ≡ Some a → known (head_of claim variables entry) n ≡ Some (record { range = range_claimed claim.vars n (integer_of v.type); offset = Some (own_offset n) })
  head_at claim entry n v a there e = changed_at _ 0 variables entry n n v there (omega arith) ∙ ap (option_map _) e

  -- ## What a loop leaves

  weak_stands : (claim : Loop) (number : ℕ) (at : Span) (entry : Environment) (r : Round) → (claim.rank ≡ Task) ⊎ Stands number entry → Each WeakStands (weakness_of number entry (rank_fails claim at entry r))
  weak_stands claim number at entry r (inl task) =
      subst (λ (l : List Failing). Each WeakStands (weakness_of number entry l)) (sym (ap (λ (k : Rank). rank_fails (record claim { rank = k }) at entry r) task)) tt
  weak_stands claim number at entry r (inr stands) = by_list (rank_fails claim at entry r)
    where
      by_list : (fails : List Failing) → Each WeakStands (weakness_of number entry fails)
      by_list [] = tt
      by_list (x ∷ xs) = (stands, tt)

  unless_true : (b : Bool) (at : Span) → b ≡ true → place_unless b at ≡ []
  unless_true b at e = ap (λ c. place_unless c at) e

  module _ (head : LoopHead) (first : PlainStatements) (tested : Option PlainValue) (third : PlainStatements) (body : PlainStatement) (env wide entry : Environment) (claim : Loop)
      (before : IsBefore variables (declared_of first ++ declared_in body) env) (narrow : Narrower variables env wide)
      (entry_fair : Fair variables entry) (entry_scoped : Scoped variables (λ n. declares_at_top n first) env entry)
      (entry_under : (n : ℕ) → any_assigns n first ≡ false → is_among n (declared_of first) ≡ false → is_some (known env n) ≡ true → Under (known entry n) (known env n)) where
    abbrev assigned : ℕ → Bool
    assigned n = form_assigns n (loop head first tested third body)

    abbrev at_head : Environment
    at_head = head_of claim variables entry

    abbrev turn : Round
    turn = round_of m head.keyword tested (λ env. pass_statements m third env) (λ env. pass_statement m body env) at_head

    abbrev trial_turn : Round
    trial_turn = trial_round variables calls loops result Stands head.keyword tested third body at_head

    module _ (fits : ClaimFits variables Stands claim head.number assigned (trial_round variables calls loops result Stands head.keyword tested third body) entry) (round : RoundFits turn trial_turn)
        (exits_scoped : MaybeScoped variables nothing at_head turn.exits) (backs_scoped : MaybeScoped variables nothing at_head turn.back)
        (trial_exits : MaybeScoped variables nothing at_head trial_turn.exits) (trial_backs : MaybeScoped variables nothing at_head trial_turn.back) where
      -- a variable in scope before the loop isn't declared in it
      not_declared : (n : ℕ) → is_some (known env n) ≡ true → is_among n (declared_of first ++ declared_in body) ≡ false
      not_declared n e = by_case (is_among n (declared_of first ++ declared_in body)) refl
        where
          by_case : (b : Bool) → is_among n (declared_of first ++ declared_in body) ≡ b → is_among n (declared_of first ++ declared_in body) ≡ false
          by_case true q = let none : is_some (known env n) ≡ false = before.fresh n q in absurd cc
          by_case false q = q

      not_at_top : (n : ℕ) → is_among n (declared_of first) ≡ false → declares_at_top n first ≡ false
      not_at_top n e = by_case (declares_at_top n first) refl
        where
          by_case : (b : Bool) → declares_at_top n first ≡ b → declares_at_top n first ≡ false
          by_case true q = let d : is_among n (declared_of first) ≡ true = top_is_declared n first q in absurd cc
          by_case false q = q

      -- what is known of a variable after the loop
      known_after : (x : Environment) (n : ℕ) (v : PlainVariable) (a : Abstract) → slice_get variables n ≡ Some v → declares_at_top n first ≡ false → known x n ≡ Some a →
          known (left_scope first (offsets_restored assigned entry variables x)) n ≡ Some (record { range = a.range; offset = if assigned n then None else offset_in (known entry n) })
      known_after x n v a there d e = left_other first (offsets_restored assigned entry variables x) n d ∙ (changed_at _ 0 variables x n n v there (omega arith) ∙ ap (option_map _) e)

      or_three : (n : ℕ) → assigned n ≡ false → (any_assigns n first ≡ false) × (assigns n body ≡ false)
      or_three n e =
          let parts = or_false (any_assigns n first) (any_assigns n third || assigns n body) e in
          let others = or_false (any_assigns n third) (assigns n body) parts.1 in
          (parts.0, others.1)

      one_variable : (x tx : Environment) → Narrower variables x tx → Scoped variables nothing at_head x → Scoped variables nothing at_head tx →
          ((n : ℕ) → assigns n body ≡ false → is_among n (declared_in body) ≡ false → Under (known tx n) (known at_head n)) →
          (n : ℕ) (a b : Abstract) → known env n ≡ Some a → known wide n ≡ Some b → IsWithin a.range b.range →
          LiesIn (known (left_scope first (offsets_restored assigned entry variables x)) n) (known (assigned_forgotten assigned variables wide) n)
      one_variable x tx h s ts under n a b e q w =
          subst (λ (z : Option Abstract). LiesIn z (known (assigned_forgotten assigned variables wide) n)) (sym after)
          (subst (LiesIn (Some (record { range = x0.0.range; offset = if assigned n then None else offset_in (known entry n) }))) (sym forgotten) (by_assigned (assigned n) refl))
        where
          number : IsNumber variables n
          number = before.knows.each n (ap is_some e)

          v : PlainVariable
          v = number.variable

          apart : (is_among n (declared_of first) ≡ false) × (is_among n (declared_in body) ≡ false)
          apart = or_false (is_among n (declared_of first)) (is_among n (declared_in body)) (sym (among_append n (declared_of first) (declared_in body)) ∙ not_declared n (ap is_some e))

          top : declares_at_top n first ≡ false
          top = not_at_top n apart.0

          e0 : (y : Abstract) × (known entry n ≡ Some y)
          e0 = some_is (known entry n) (entry_scoped.same n top ∙ ap is_some e)

          in_head : is_some (known at_head n) ≡ true
          in_head = changed_knows _ 0 variables entry n ∙ ap is_some e0.1

          x0 : (y : Abstract) × (known x n ≡ Some y)
          x0 = some_is (known x n) (s.same n refl ∙ in_head)

          t0 : (y : Abstract) × (known tx n ≡ Some y)
          t0 = some_is (known tx n) (ts.same n refl ∙ in_head)

          after : known (left_scope first (offsets_restored assigned entry variables x)) n ≡ Some (record { range = x0.0.range; offset = if assigned n then None else offset_in (known entry n) })
          after = known_after x n v x0.0 number.there top x0.1

          forgotten : known (assigned_forgotten assigned variables wide) n ≡ Some (if assigned n then whole_type (integer_of v.type) else b)
          forgotten = changed_at _ 0 variables wide n n v number.there (omega arith) ∙ ap (option_map _) q

          by_assigned : (c : Bool) → assigned n ≡ c → IsWithin x0.0.range (if c then whole_type (integer_of v.type) else b).range
          by_assigned true k = (h.fair.typed n x0.0 v x0.1 number.there).1
          by_assigned false k =
              let parts = or_three n k in
              let claimed : Interval = range_claimed claim.vars n (integer_of v.type) in
              let first_step : IsWithin x0.0.range t0.0.range = lies_is (known x n) (known tx n) x0.0 t0.0 (h.lies n) x0.1 t0.1 in
              let second : IsWithin t0.0.range claimed = under_is (known tx n) (known at_head n) t0.0 _ (under n parts.1 apart.1) t0.1 (head_at claim entry n v e0.0 number.there e0.1) in
              let third_step : IsWithin claimed e0.0.range = fits.same n v e0.0 number.there e0.1 k in
              let fourth : IsWithin e0.0.range a.range = under_is (known entry n) (known env n) e0.0 a (entry_under n parts.0 apart.0 (ap is_some e)) e0.1 e in
              within_trans x0.0.range t0.0.range b.range first_step (within_trans t0.0.range claimed b.range second (within_trans claimed e0.0.range b.range third_step (within_trans e0.0.range a.range b.range fourth w)))

      after_narrower : (x tx : Environment) → Narrower variables x tx → Scoped variables nothing at_head x → Scoped variables nothing at_head tx →
          ((n : ℕ) → assigns n body ≡ false → is_among n (declared_in body) ≡ false → Under (known tx n) (known at_head n)) →
          Narrower variables (left_scope first (offsets_restored assigned entry variables x)) (assigned_forgotten assigned variables wide)
      after_narrower x tx h s ts under = record {
        fair = left_fair variables kind WeakStands first _ (changed_fair variables _ x h.fair (λ n v a there e. h.fair.typed n a v e there));
        lies = λ n. at n (known env n) (known wide n) refl refl (narrow.lies n);
      }
        where
          none : (y : Option Abstract) (n : ℕ) (o : Option Abstract) → is_some o ≡ false → LiesIn y o
          none y n None r = tt
          none y n (Some z) r = absurd cc

          at : (n : ℕ) (a b : Option Abstract) → known env n ≡ a → known wide n ≡ b → LiesIn a b → LiesIn (known (left_scope first (offsets_restored assigned entry variables x)) n) (known (assigned_forgotten assigned variables wide) n)
          at n a None e q l = none _ n (known (assigned_forgotten assigned variables wide) n) (changed_knows _ 0 variables wide n ∙ ap is_some q)
          at n None (Some b) e q l = absurd l
          at n (Some a) (Some b) e q l = one_variable x tx h s ts under n a b e q l

      normal_narrower : (o p : Option Environment) → MaybeNarrower variables o p → MaybeScoped variables nothing at_head o → MaybeScoped variables nothing at_head p →
          ((n : ℕ) → assigns n body ≡ false → is_among n (declared_in body) ≡ false → MaybeUnder n p (known at_head n)) →
          MaybeNarrower variables (option_map (left_scope first) (option_map (offsets_restored assigned entry variables) o)) (Some (assigned_forgotten assigned variables wide))
      normal_narrower None p h s ts under = tt
      normal_narrower (Some x) None h s ts under = absurd h
      normal_narrower (Some x) (Some tx) h s ts under = after_narrower x tx h s ts under

      -- what the loop leaves after its first clause
      pub left_fits : (f f' : Left) → Fit f f' → NoJumps variables calls loops result Stands f → Fit (as_block first (followed f (loop_left m claim head assigned entry turn))) (reached (Some (assigned_forgotten assigned variables wide)))
      left_fits f f' h j = record {
        normal = normal_narrower turn.exits trial_turn.exits round.exits exits_scoped trial_exits (λ n a d. exits_under n variables head.keyword tested third body a d at_head);
        breaks = no_end f.breaks j.breaks;
        continues = no_end f.continues j.continues;
        returned = range_typed kind f.returned turn.body.returned h.returned round.returned;
        arguments = no_names f.arguments turn.names h.arguments round.names;
        results = no_names f.results turn.body.results h.results round.results;
        entries = no_names f.entries _ h.entries (no_names _ turn.body.entries (unless_true (ranges_hold claim 0 variables entry) head.span fits.at_entry) round.entries);
        backs = no_names f.backs _ h.backs (no_names _ turn.body.backs (unless_true (ranges_hold_reached claim variables turn.back) head.span (held_narrower claim variables at_head turn.back trial_turn.back round.back backs_scoped trial_backs fits.on_back)) round.backs);
        weak = each_both WeakStands f.weak _ h.weak (each_both WeakStands _ turn.body.weak (weak_stands claim head.number head.span entry turn fits.ranked) round.weak);
      }
        where
          no_end : (o : Option Environment) → o ≡ None → MaybeNarrower variables (option_map (left_scope first) (hull_reached o None)) None
          no_end o e = subst (λ (z : Option Environment). MaybeNarrower variables (option_map (left_scope first) (hull_reached z None)) None) (sym e) tt
