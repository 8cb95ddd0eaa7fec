-- The claim of one loop that is found fits what is known at its entry.
use Rattle.std.proofs.Common.{◌≡◌, ℕ, zero, suc, ◌<◌, ◌≤◌, length, Bool, true, false, List, [], ◌∷◌, ◌++◌, Option, Some, None, refl, ap, sym, ◌∙◌, subst, inl, inr, arith}
use Rattle.std.specs.Prelude.{◌⊎◌, slice_get, if◌then◌else◌, is_some, ◌||◌, ◌&&◌, not, nat_lt, IfSome}
use Rattle.std.specs.Option.{option_map}
use Rattle.std.specs.List.{list_all}
use Rattle.std.proofs.lemmas.Option.{same_Some, none-some}
use Rattle.std.proofs.lemmas.Bool.{and_parts, lt-ltb}
use Rattle.p10_base.specs.declared.at.At.{At}
use Rattle.p10_base.specs.declared.span.Span.{Span}
use Rattle.p10_base.specs.declared.report.TheConstants.Limit.{MOST_SUM}
use Rattle.p10_int.specs.declared.types.IntType.{IntType}
use Rattle.p10_range.specs.Ranges.{Interval, IsWithin, hull_of}
use Rattle.p10_range.specs.Rows.{values_of}
use Rattle.p10_range.specs.Laws.{IsOfType}
use Rattle.p10_core.specs.declared.statements.LoopHead.{LoopHead}
use Rattle.p10_core.specs.Types.{PlainType, void, integer, pointer, array, structure}
use Rattle.p10_core.specs.Rows.{is_integer}
use Rattle.p10_core.specs.Constants.{integer_of}
use Rattle.p10_core.specs.Typed.{PlainValue, PlainStatement, statement, loop, PlainStatements, PlainVariable, PlainFunction, PlainProgram}
use Rattle.p10_core.specs.WholePrograms.{Region, is_among, IsWholeStatement, declared_in}
use Rattle.p10_cert.specs.declared.claims.Rank.{Rank}
use Rattle.p10_cert.specs.declared.claims.Rank.TheVariants.{Up, Down, One, Task}
use Rattle.p10_cert.specs.Claims.{Var, Loop}
use Rattle.p10_absx.specs.Abstract.{Abstract, only_range, whole_type}
use Rattle.p10_absx.specs.Environments.{Environment, known}
use Rattle.p10_fit.specs.Fits.{kind_of_integer, frame_integer, counter_type, has_range, fits_rank, fits_variable}
use Rattle.p10_pass.specs.Scopes.{form_assigns, assigns, any_assigns}
use Rattle.p10_pass.specs.Claiming.{range_claimed, head_of, ranges_hold, ranges_hold_reached, rank_in, enters_ranked, goes_back_ranked, is_enough}
use Rattle.p10_pass.specs.Passing.{failing_if, Round, rank_fails}
use Rattle.p10_execution.specs.Scoping.{IsNumber, IsBefore}
use Rattle.p10_execution.proofs.Numbers.{or_false}
use Rattle.p10_execution.proofs.AssessedScopes.{SameScope}
use Rattle.p10_execution.proofs.Entries.{changed_at, changed_knows}
use Rattle.p10_execution.proofs.ScopedEnds.{nothing, third_declares, MaybeScoped, maybe_trans, scoped_same, changed_scope, before_same}
use Rattle.p10_turns.specs.Ranked.{is_ranked}
use Rattle.p10_turns.specs.Evidence.{has_none, holds_by_ranges}
use Rattle.p10_candidates.specs.Candidates.{LoopEntry, Candidate, any_trial, one_candidate, candidates}
use Rattle.p10_candidates.specs.Trials.{with_known, with_back, head_after, tried_head, is_whole_range, line_for, lines_from, turns_of_rank, claim_by, first_standing, LoopFound, found_by}
use Rattle.p10_approach.specs.Approaches.{Approached}
use Rattle.p10_approach.specs.Offers.{IsOffer}
use Rattle.p10_finder.specs.Loops.{entered_found}
use Rattle.p10_acceptance.proofs.Narrowing.{within_itself, within_trans, hull_right, Fair, Narrower, MaybeNarrower, narrower_itself}
use Rattle.p10_acceptance.proofs.Operating.{is_within_of}
use Rattle.p10_acceptance.proofs.Shrinking.{Under, MaybeUnder, back_under}
use Rattle.p10_acceptance.proofs.Ends.{changed_narrower}
use Rattle.p10_acceptance.proofs.Fitting.{ClaimFits}
use Rattle.p10_acceptance.proofs.Rounds.{some_is, holds_by, under_is, held_narrower, RoundFits}
use Rattle.p10_acceptance.proofs.Statements.{IsIn}
use Rattle.p10_acceptance.proofs.Claims.{HeadEntry, HeadHas, claim_fits, tried_has, any_has, RankKnown, IsGood, one_good, candidates_good, Stood, stood, turns_enough, rank_there, lines_at}
use Rattle.p10_acceptance.proofs.Trials.{NoneAsked, trial, rounds_narrower, trial_scoped}

-- ## Ranks

three_hold : (a b c : Bool) (at : Span) → a ≡ true → b ≡ true → c ≡ true → has_none (failing_if (not a) 8 at ++ (failing_if (not b) 9 at ++ failing_if (not c) 10 at)) ≡ true
three_hold a b c at e f g =
    ap (λ x. has_none (failing_if (not x) 8 at ++ (failing_if (not b) 9 at ++ failing_if (not c) 10 at))) e
    ∙ (ap (λ x. has_none (failing_if (not x) 9 at ++ failing_if (not c) 10 at)) f ∙ ap (λ x. has_none (failing_if (not x) 10 at)) g)

-- a rank of a variable that is known holds where it is tested
rank_holds : (rank : Rank) (depth turns : ℕ) (vars : List Var) (at : Span) (entry : Environment) (r : Round) → RankKnown entry rank → enters_ranked rank r.enters ≡ true → goes_back_ranked rank r.back ≡ true → is_enough turns (rank_in rank entry) ≡ true →
    (is_ranked rank && has_none (rank_fails (record { depth = depth; rank = rank; turns = turns; vars = vars }) at entry r)) ≡ true
rank_holds (Up v bound) depth turns vars at entry r k e f g = three_hold (enters_ranked (Up v bound) r.enters) (goes_back_ranked (Up v bound) r.back) (is_enough turns (rank_in (Up v bound) entry)) at e f g
rank_holds (Down v bound) depth turns vars at entry r k e f g = three_hold (enters_ranked (Down v bound) r.enters) (goes_back_ranked (Down v bound) r.back) (is_enough turns (rank_in (Down v bound) entry)) at e f g
rank_holds One depth turns vars at entry r k e f g = three_hold (enters_ranked One r.enters) (goes_back_ranked One r.back) (is_enough turns (rank_in One entry)) at e f g
rank_holds Task depth turns vars at entry r k e f g = absurd k

known_ranked : (env : Environment) (rank : Rank) → RankKnown env rank → is_ranked rank ≡ true
known_ranked env (Up v bound) k = refl
known_ranked env (Down v bound) k = refl
known_ranked env One k = refl
known_ranked env Task k = absurd k

-- ## One loop

-- the claims of the loops of a function have no more turns than are allowed, and evidence stands for those that hold by a trial
module _ (p : PlainProgram) (f : PlainFunction) (Stands : ℕ → Environment → Type 0) (r : Region) (h : IsIn p f r) (at : At) (head : LoopHead) (first : PlainStatements) (tested : Option PlainValue) (third : PlainStatements) (body : PlainStatement) (i : IsWholeStatement r (statement at (loop head first tested third body))) where
  abbrev variables : List PlainVariable
  variables = f.variables

  abbrev assigned : ℕ → Bool
  assigned n = form_assigns n (loop head first tested third body)

  abbrev round : Environment → Round
  round e = trial p f r h at head first tested third body i e

  module _ (depth : ℕ) (entry : Environment) (fair : Fair f.variables entry) (before : IsBefore f.variables (declared_in body) entry) where
    abbrev l : LoopEntry
    l = record { variables = f.variables; assigned = λ n. nat_lt n (length f.variables) && assigned n; guard = tested; entry = entry }

    inside : (n : ℕ) (v : PlainVariable) (xs : List PlainVariable) → slice_get xs n ≡ Some v → n < length xs
    inside n v [] e = absurd (none-some _ e)
    inside zero v (x ∷ xs) e = omega arith
    inside (suc n) v (x ∷ xs) e = let k = inside n v xs e in omega (arith, k)

    same : (n : ℕ) (v : PlainVariable) → slice_get f.variables n ≡ Some v → (nat_lt n (length f.variables) && assigned n) ≡ assigned n
    same n v there = ap (λ b. b && assigned n) (lt-ltb n (length f.variables) (inside n v f.variables there))

    back_fair : (e : Environment) → Fair f.variables e → SameScope entry e → IfSome (round e).back (Fair f.variables)
    back_fair e k scope = of (round e).back (rounds_narrower p f r h at head first tested third body i e e (before_same f.variables (declared_in body) entry e before scope) (narrower_itself f.variables e k)).back
      where
        of : (o : Option Environment) → MaybeNarrower f.variables o o → IfSome o (Fair f.variables)
        of None m = tt
        of (Some b) m = m.fair

    -- ## A rank that stands

    ranked_fits : (claim : Loop) → Stood l assigned same fair round depth claim → claim.turns ≤ MOST_SUM →
        (holds_by_ranges f.variables (record { head = head; first = first; tested = tested; third = third; body = body }) entry claim ≡ true → Stands head.number entry) → ClaimFits f.variables Stands claim head.number assigned round entry
    ranked_fits claim k short stands =
        let c : Candidate = k.candidate in
        let parts = and_parts _ _ k.alone in
        let ranges = and_parts _ _ parts.0 in
        let ranks = and_parts _ _ parts.1 in
        claim_fits f.variables Stands claim head.number assigned round entry (tried_head round l c.trial) (ap (λ (x : Loop). x.vars) k.is) (tried_has l assigned same fair (round c.trial).back (back_fair c.trial k.good.holds k.good.scope)) ranges.1
        (inr (stands (holds ranges.0 ranges.1 ranks.0 ranks.1)))
      where
        rank_is : claim.rank ≡ k.candidate.rank
        rank_is = ap (λ (x : Loop). x.rank) k.is

        turns_are : claim.turns ≡ turns_of_rank (rank_in claim.rank entry)
        turns_are = ap (λ (x : Loop). x.turns) k.is ∙ ap (λ (x : Rank). turns_of_rank (rank_in x entry)) (sym rank_is)

        there : RankKnown entry claim.rank
        there = subst (RankKnown entry) (sym rank_is) k.good.ranked

        enough : is_enough claim.turns (rank_in claim.rank entry) ≡ true
        enough = ap (λ (n : ℕ). is_enough n (rank_in claim.rank entry)) turns_are ∙ turns_enough (rank_in claim.rank entry) (rank_there entry claim.rank there) (subst (λ (n : ℕ). n ≤ MOST_SUM) turns_are short)

        holds : ranges_hold claim 0 f.variables entry ≡ true → ranges_hold_reached claim f.variables (round (head_of claim f.variables entry)).back ≡ true → enters_ranked claim.rank (round (head_of claim f.variables entry)).enters ≡ true →
            goes_back_ranked claim.rank (round (head_of claim f.variables entry)).back ≡ true → holds_by_ranges f.variables (record { head = head; first = first; tested = tested; third = third; body = body }) entry claim ≡ true
        holds a b c d =
            ap (λ x. x && (ranges_hold claim 0 f.variables entry && ranges_hold_reached claim f.variables (round (head_of claim f.variables entry)).back))
            (rank_holds claim.rank claim.depth claim.turns claim.vars head.span entry (round (head_of claim f.variables entry)) there c d enough)
            ∙ (ap (λ x. x && ranges_hold_reached claim f.variables (round (head_of claim f.variables entry)).back) a ∙ b)

    -- ## Claims with the lines of a head

    abbrev any : Environment
    any = any_trial l

    any_good : IsGood l assigned same fair (one_candidate l)
    any_good = one_good l assigned same fair

    any_before : IsBefore f.variables (declared_in body) any
    any_before = before_same f.variables (declared_in body) entry any before (changed_scope f.variables _ entry)

    -- what is known of a variable that the loop doesn't assign
    not_assigned : (n : ℕ) (a : Abstract) (v : PlainVariable) → slice_get f.variables n ≡ Some v → known entry n ≡ Some a → (nat_lt n (length f.variables) && assigned n) ≡ false → known any n ≡ Some a
    not_assigned n a v there e q = changed_at _ 0 f.variables entry n n v there (omega arith) ∙ (ap (option_map _) e ∙ ap (λ (c : Bool). Some (if c then whole_type (integer_of v.type) else a)) q)

    apart : (n : ℕ) → is_some (known entry n) ≡ true → is_among n (declared_in body) ≡ false
    apart n e = by_case (is_among n (declared_in body)) refl
      where
        by_case : (b : Bool) → is_among n (declared_in body) ≡ b → is_among n (declared_in body) ≡ false
        by_case true q = let none : is_some (known entry n) ≡ false = before.fresh n q in absurd cc
        by_case false q = q

    back_part : (n : ℕ) (v : PlainVariable) (a x : Abstract) (b : Environment) → slice_get f.variables n ≡ Some v → known entry n ≡ Some a → (round any).back ≡ Some b → known b n ≡ Some x → (nat_lt n (length f.variables) && assigned n) ≡ false → IsWithin x.range a.range
    back_part n v a x b there e is q k =
        let parts = or_false (any_assigns n first) (any_assigns n third || assigns n body) (sym (same n v there) ∙ k) in
        let others = or_false (any_assigns n third) (assigns n body) parts.1 in
        under_is (known b n) (known any n) x a
        (of (round any).back is (back_under n f.variables head.keyword tested third body others.0 (ap (is_among n) (third_declares head.keyword first tested third i.4)) others.1 (apart n (ap is_some e)) any)) q (not_assigned n a v there e k)
      where
        of : (o : Option Environment) → o ≡ Some b → MaybeUnder n o (known any n) → Under (known b n) (known any n)
        of None z u = absurd (none-some _ z)
        of (Some d) z u = subst (λ (y : Environment). Under (known y n) (known any n)) (same_Some _ _ z) u

    -- a claim whose ranges contain what a round from any values brings back
    module _ (claim : Loop) (lined : Environment) (lines : claim.vars ≡ lines_from 0 f.variables lined) (has : HeadHas f.variables assigned entry lined)
        (brings : (n : ℕ) (v : PlainVariable) (a x : Abstract) (b : Environment) → slice_get f.variables n ≡ Some v → known entry n ≡ Some a → (round any).back ≡ Some b → known b n ≡ Some x → (h : HeadEntry lined (integer_of v.type) n a (assigned n)) → IsWithin x.range h.entry.range) where
      claimed_entry : (n : ℕ) (v : PlainVariable) (a : Abstract) → slice_get f.variables n ≡ Some v → known entry n ≡ Some a → (h : HeadEntry lined (integer_of v.type) n a (assigned n)) → range_claimed claim.vars n (integer_of v.type) ≡ h.entry.range
      claimed_entry n v a there e h = ap (λ (ls : List Var). range_claimed ls n (integer_of v.type)) lines ∙ lines_at 0 f.variables lined n n v h.entry there (omega arith) h.there

      abbrev turn_head : Environment
      turn_head = head_of claim f.variables entry

      turn_narrower : Narrower f.variables turn_head any
      turn_narrower = changed_narrower f.variables _ _ entry entry before.knows (narrower_itself f.variables entry fair)
          (λ n v a there e. let k = has n v a there e in subst (IsOfType (integer_of v.type)) (sym (claimed_entry n v a there e k)) k.typed)
          (λ n v a b there e q w.
          let k = has n v a there e in
          subst (λ (x : Interval). IsWithin x (if nat_lt n (length f.variables) && assigned n then whole_type (integer_of v.type) else b).range) (sym (claimed_entry n v a there e k))
          (within n v a b k w (nat_lt n (length f.variables) && assigned n) (sym (same n v there))))
        where
          within : (n : ℕ) (v : PlainVariable) (a b : Abstract) (k : HeadEntry lined (integer_of v.type) n a (assigned n)) → IsWithin a.range b.range → (c : Bool) → assigned n ≡ c → IsWithin k.entry.range (if c then whole_type (integer_of v.type) else b).range
          within n v a b k w true e = k.typed.1
          within n v a b k w false e = within_trans k.entry.range a.range b.range (k.same e) w

      turn_before : IsBefore f.variables (declared_in body) turn_head
      turn_before = before_same f.variables (declared_in body) entry turn_head before (changed_scope f.variables _ entry)

      turns_fit : RoundFits f.variables None None None (integer_of f.result) NoneAsked (round turn_head) (round any)
      turns_fit = rounds_narrower p f r h at head first tested third body i turn_head any turn_before turn_narrower

      -- its ranges hold again where a round from any values goes back
      holds_any : (o : Option Environment) → (round any).back ≡ o → MaybeScoped f.variables nothing any o → ranges_hold_reached claim f.variables o ≡ true
      holds_any None is scoped = refl
      holds_any (Some b) is scoped = holds_by claim 0 f.variables b (λ n j v x s there e.
          let a = some_is (known entry n) (sym (changed_knows _ 0 f.variables entry n) ∙ (sym (scoped.same n refl) ∙ ap is_some e)) in
          let h = has n v a.0 there a.1 in
          let q : n ≡ j = omega (arith, s) in
          subst (λ (k : ℕ). IsWithin x.range (range_claimed claim.vars k (integer_of v.type))) q
          (subst (IsWithin x.range) (sym (claimed_entry n v a.0 there a.1 h)) (brings n v a.0 x b there a.1 is e h)))

      pub lined_fits : (claim.rank ≡ Task) ⊎ Stands head.number entry → ClaimFits f.variables Stands claim head.number assigned round entry
      lined_fits ranked = claim_fits f.variables Stands claim head.number assigned round entry lined lines has
          (held_narrower claim f.variables entry (round turn_head).back (round any).back turns_fit.back
          (maybe_trans f.variables nothing entry turn_head (round turn_head).back (scoped_same f.variables nothing entry turn_head before.knows (changed_scope f.variables _ entry)) (trial_scoped p f r h at head first tested third body i turn_head turn_before).back)
          (maybe_trans f.variables nothing entry any (round any).back (scoped_same f.variables nothing entry any before.knows (changed_scope f.variables _ entry)) (trial_scoped p f r h at head first tested third body i any any_before).back)
          (holds_any (round any).back refl (trial_scoped p f r h at head first tested third body i any any_before).back))
          ranked

    -- ## The task

    abbrev task_head : Environment
    task_head = head_after l (round any).back

    abbrev task_claim : Loop
    task_claim = claim_by l depth Task 0 task_head

    -- what is known of a variable at the head
    at_task : (n : ℕ) (a : Abstract) → Abstract
    at_task n a = if nat_lt n (length f.variables) && assigned n then only_range (with_back (round any).back n a.range) else a

    task_has : HeadHas f.variables assigned entry task_head
    task_has = tried_has l assigned same fair (round any).back (back_fair any any_good.holds any_good.scope)

    task_part : (n : ℕ) (v : PlainVariable) (a x : Abstract) (b : Environment) → slice_get f.variables n ≡ Some v → known entry n ≡ Some a → (round any).back ≡ Some b → known b n ≡ Some x → IsWithin x.range (at_task n a).range
    unfolding at_task
    task_part n v a x b there e is q = by_assigned (nat_lt n (length f.variables) && assigned n) refl
      where
        hulled : (o : Option Environment) → o ≡ Some b → IsWithin x.range (with_back o n a.range)
        hulled None z = absurd (none-some _ z)
        hulled (Some d) z = of (known d n) (ap (λ (y : Environment). known y n) (same_Some _ _ z) ∙ q)
          where
            of : (y : Option Abstract) → y ≡ Some x → IsWithin x.range (with_known a.range y)
            of None w = absurd (none-some _ w)
            of (Some y) w = subst (λ (z : Abstract). IsWithin x.range (hull_of a.range z.range)) (sym (same_Some _ _ w)) (hull_right x.range a.range x.range (within_itself x.range))

        by_assigned : (c : Bool) → (nat_lt n (length f.variables) && assigned n) ≡ c → IsWithin x.range (if c then only_range (with_back (round any).back n a.range) else a).range
        by_assigned true k = hulled (round any).back is
        by_assigned false k = back_part n v a x b there e is q k

    -- the claim of the task
    pub task_fits : ClaimFits f.variables Stands task_claim head.number assigned round entry
    unfolding at_task
    task_fits = lined_fits task_claim task_head refl task_has
        (λ n v a x b there e is q k. subst (λ (y : Abstract). IsWithin x.range y.range) (same_Some _ _ (sym (changed_at _ 0 f.variables entry n n v there (omega arith) ∙ ap (option_map _) e) ∙ k.there)) (task_part n v a x b there e is q))
        (inl refl)

    -- ## What is offered

    -- a claim of the rank 1 whose ranges aren't tried, where it stands
    pub offered_fits : (claim : Loop) → claim ≡ claim_by l depth One claim.turns any → Stands head.number entry → ClaimFits f.variables Stands claim head.number assigned round entry
    offered_fits claim is stands = lined_fits claim any (ap (λ (x : Loop). x.vars) is) (any_has l assigned same fair) brings (inr stands)
      where
        brings : (n : ℕ) (v : PlainVariable) (a x : Abstract) (b : Environment) → slice_get f.variables n ≡ Some v → known entry n ≡ Some a → (round any).back ≡ Some b → known b n ≡ Some x → (k : HeadEntry any (integer_of v.type) n a (assigned n)) → IsWithin x.range k.entry.range
        brings n v a x b there e comes q k = by_assigned (nat_lt n (length f.variables) && assigned n) refl
          where
            known_any : (c : Bool) → (nat_lt n (length f.variables) && assigned n) ≡ c → (if c then whole_type (integer_of v.type) else a) ≡ k.entry
            known_any c z = same_Some _ _ (sym (changed_at _ 0 f.variables entry n n v there (omega arith) ∙ (ap (option_map _) e ∙ ap (λ (d : Bool). Some (if d then whole_type (integer_of v.type) else a)) z)) ∙ k.there)

            of_type : (o : Option Environment) → o ≡ Some b → IfSome o (Fair f.variables) → IsOfType (integer_of v.type) x.range
            of_type None z w = absurd (none-some _ z)
            of_type (Some d) z w = (subst (λ (y : Environment). Fair f.variables y) (same_Some _ _ z) w).typed n x v q there

            by_assigned : (c : Bool) → (nat_lt n (length f.variables) && assigned n) ≡ c → IsWithin x.range k.entry.range
            by_assigned true z = subst (λ (y : Abstract). IsWithin x.range y.range) (known_any true z) (of_type (round any).back comes (back_fair any any_good.holds any_good.scope)).1
            by_assigned false z = subst (λ (y : Abstract). IsWithin x.range y.range) (known_any false z) (back_part n v a x b there e comes q z)

    -- ## Either

    -- what is found of the loop, if it is bounded
    pub found_fits : (offered : Option Approached) (task : Bool) → ((a : Approached) → offered ≡ Some a → task ≡ false → IsOffer f l depth a × Stands head.number entry) → (found : LoopFound) → found ≡ entered_found offered task head.span round l depth → found.unbounded ≡ [] → (is_ranked found.claim.rank ≡ true → found.claim.turns ≤ MOST_SUM) →
        (is_ranked found.claim.rank ≡ true → holds_by_ranges f.variables (record { head = head; first = first; tested = tested; third = third; body = body }) entry found.claim ≡ true → Stands head.number entry) →
        ClaimFits f.variables Stands found.claim head.number assigned round entry
    found_fits offered true held found is bounded short stands = subst (λ (x : LoopFound). ClaimFits f.variables Stands x.claim head.number assigned round entry) (sym is) task_fits
    found_fits (Some a) false held found is bounded short stands =
        let k = held a refl refl in subst (λ (x : Loop). ClaimFits f.variables Stands x head.number assigned round entry) (sym (ap (λ (x : LoopFound). x.claim) is)) (offered_fits a.claim k.0.claim k.1)
    found_fits None false held found is bounded short stands = by_candidate (first_standing round l depth (candidates l)) refl is
      where
        by_candidate : (o : Option Loop) → first_standing round l depth (candidates l) ≡ o → found ≡ found_by head.span l depth o → ClaimFits f.variables Stands found.claim head.number assigned round entry
        by_candidate None e q = let none : head.span ∷ [] ≡ [] = sym (ap (λ (x : LoopFound). x.unbounded) q) ∙ bounded in absurd cc
        by_candidate (Some claim) e q =
            let same_claim : found.claim ≡ claim = ap (λ (x : LoopFound). x.claim) q in
            let k : Stood l assigned same fair round depth claim = stood l assigned same fair round depth (candidates l) (candidates_good l assigned same fair) claim e in
            let ranked : is_ranked claim.rank ≡ true = ap (λ (x : Rank). is_ranked x) (ap (λ (x : Loop). x.rank) k.is) ∙ known_ranked entry k.candidate.rank k.good.ranked in
            let ranked_found : is_ranked found.claim.rank ≡ true = ap (λ (x : Loop). is_ranked x.rank) same_claim ∙ ranked in
            subst (λ (x : Loop). ClaimFits f.variables Stands x head.number assigned round entry) (sym same_claim)
            (ranked_fits claim k (subst (λ (x : Loop). x.turns ≤ MOST_SUM) same_claim (short ranked_found))
            (λ e. stands ranked_found (subst (λ (x : Loop). holds_by_ranges f.variables (record { head = head; first = first; tested = tested; third = third; body = body }) entry x ≡ true) (sym same_claim) e)))

    -- ## What is claimed speaks of the function

    module _ (scope : List ℕ) (in_scope : (n : ℕ) → is_some (known entry n) ≡ true → is_among n scope ≡ true) where
      -- a variable that is known at entry may be spoken of
      counter_known : (n : ℕ) → is_some (known entry n) ≡ true → (v : PlainVariable) × (slice_get f.variables n ≡ Some v) × (counter_type f scope n ≡ Some (integer_of v.type))
      counter_known n e =
          let number : IsNumber f.variables n = before.knows.each n e in (
            number.variable,
            number.there,
            ap (λ b. if b then frame_integer (slice_get f.variables n) else None) (in_scope n e)
                ∙ (ap frame_integer number.there ∙ (ap (λ b. if b then kind_of_integer number.variable.type else None) number.frame_is ∙ of_kind number.variable.type number.integer_is)),
          )
        where
          of_kind : (t : PlainType) → is_integer t ≡ true → kind_of_integer t ≡ Some (integer_of t)
          of_kind (integer c k) q = refl
          of_kind (void c) q = absurd cc
          of_kind (pointer c t) q = absurd cc
          of_kind (array c t k) q = absurd cc
          of_kind (structure c k) q = absurd cc

      rank_speaks : (rank : Rank) → RankKnown entry rank → fits_rank f scope false rank ≡ true
      rank_speaks (Up n bound) k = let c = counter_known n k in ap is_some c.2
      rank_speaks (Down n bound) k = let c = counter_known n k in ap is_some c.2
      rank_speaks One k = refl
      rank_speaks Task k = absurd k

      line_speaks : (o : Environment) → HeadHas f.variables assigned entry o → ((n : ℕ) → is_some (known o n) ≡ true → is_some (known entry n) ≡ true) → (n : ℕ) (a : Abstract) → known o n ≡ Some a → has_range (counter_type f scope n) (record { var = n; ends = a.range }) ≡ true
      line_speaks o has back n a e =
          let x = some_is (known entry n) (back n (ap is_some e)) in
          let c = counter_known n (ap is_some x.1) in
          let h = has n c.0 x.0 c.1 x.1 in
          let same_entry : h.entry ≡ a = same_Some _ _ (sym h.there ∙ e) in
          ap (λ (t : Option IntType). has_range t (record { var = n; ends = a.range })) c.2 ∙ is_within_of a.range (values_of (integer_of c.0.type)) (subst (λ (y : Abstract). IsWithin y.range (values_of (integer_of c.0.type))) same_entry h.typed.1)

      all_both : (xs ys : List Var) → list_all (fits_variable f scope) xs ≡ true → list_all (fits_variable f scope) ys ≡ true → list_all (fits_variable f scope) (xs ++ ys) ≡ true
      all_both [] ys h k = k
      all_both (x ∷ xs) ys h k = let parts = and_parts (fits_variable f scope x) (list_all (fits_variable f scope) xs) h in ap (λ b. b && list_all (fits_variable f scope) (xs ++ ys)) parts.0 ∙ all_both xs ys parts.1 k

      lines_speak : (i : ℕ) (vs : List PlainVariable) (o : Environment) → ((n : ℕ) (a : Abstract) → known o n ≡ Some a → has_range (counter_type f scope n) (record { var = n; ends = a.range }) ≡ true) → list_all (fits_variable f scope) (lines_from i vs o) ≡ true
      lines_speak i [] o h = refl
      lines_speak i (v ∷ vs) o h = all_both (line_for i (integer_of v.type) (known o i)) (lines_from (suc i) vs o) (one (known o i) refl) (lines_speak (suc i) vs o h)
        where
          one : (x : Option Abstract) → known o i ≡ x → list_all (fits_variable f scope) (line_for i (integer_of v.type) x) ≡ true
          one None e = refl
          one (Some a) e = by_test (is_whole_range (integer_of v.type) a.range)
            where
              by_test : (b : Bool) → list_all (fits_variable f scope) (if b then [] else record { var = i; ends = a.range } ∷ []) ≡ true
              by_test true = refl
              by_test false = ap (λ b. b && true) (h i a e)

      head_lines : (back : Option Environment) → IfSome back (Fair f.variables) → list_all (fits_variable f scope) (lines_from 0 f.variables (head_after l back)) ≡ true
      head_lines back k = lines_speak 0 f.variables (head_after l back) (line_speaks (head_after l back) (tried_has l assigned same fair back k) (λ n e. sym (changed_knows _ 0 f.variables entry n) ∙ e))

      any_lines : list_all (fits_variable f scope) (lines_from 0 f.variables any) ≡ true
      any_lines = lines_speak 0 f.variables any (line_speaks any (any_has l assigned same fair) (λ n e. sym (changed_knows _ 0 f.variables entry n) ∙ e))

      -- the claim of the loop may be made of it
      pub record Speaks (task : Bool) (claim : Loop) : Type 0 where
        pub depth_is : claim.depth ≡ depth
        pub rank : fits_rank f scope task claim.rank ≡ true
        pub vars : list_all (fits_variable f scope) claim.vars ≡ true

      pub found_speaks : (offered : Option Approached) → IfSome offered (IsOffer f l depth) → (task : Bool) (found : LoopFound) → found ≡ entered_found offered task head.span round l depth → found.unbounded ≡ [] → Speaks task found.claim
      found_speaks (Some a) offer false found is bounded = subst (Speaks false) (sym (ap (λ (x : LoopFound). x.claim) is ∙ offer.claim)) (record { depth_is = refl; rank = refl; vars = any_lines })
      found_speaks offered offer true found is bounded = subst (λ (x : LoopFound). Speaks true x.claim) (sym is) (record { depth_is = refl; rank = refl; vars = head_lines (round any).back (back_fair any any_good.holds any_good.scope) })
      found_speaks None offer false found is bounded = by_candidate (first_standing round l depth (candidates l)) refl is
        where
          by_candidate : (o : Option Loop) → first_standing round l depth (candidates l) ≡ o → found ≡ found_by head.span l depth o → Speaks false found.claim
          by_candidate None e q = let none : head.span ∷ [] ≡ [] = sym (ap (λ (x : LoopFound). x.unbounded) q) ∙ bounded in absurd cc
          by_candidate (Some claim) e q =
              let k : Stood l assigned same fair round depth claim = stood l assigned same fair round depth (candidates l) (candidates_good l assigned same fair) claim e in
              subst (Speaks false) (sym (ap (λ (x : LoopFound). x.claim) q ∙ k.is))
              (record { depth_is = refl; rank = rank_speaks k.candidate.rank k.good.ranked; vars = head_lines (round k.candidate.trial).back (back_fair k.candidate.trial k.good.holds k.good.scope) })
