-- Where the loops of a function are found, the claim of each fits where the pass under all of them comes to it.
use Rattle.std.proofs.Common.{◌≡◌, ℕ, suc, ◌+◌, ◌≤◌, length, Bool, true, false, List, [], ◌∷◌, ◌++◌, All, Option, Some, None, refl, ap, sym, ◌∙◌, subst, arith}
use Rattle.std.specs.Prelude.{slice_get, if◌then◌else◌, IfSome}
use Rattle.std.specs.Option.{option_and_then}
use Rattle.std.proofs.lemmas.Option.{same_Some}
use Rattle.std.proofs.lemmas.List.{length-append}
use Rattle.std.proofs.lemmas.List.Elements.{All-head, All-tail}
use Rattle.p10_base.specs.declared.at.At.{At}
use Rattle.p10_base.specs.declared.report.TheConstants.Limit.{MOST_SUM}
use Rattle.p10_range.specs.Ranges.{Interval}
use Rattle.p10_core.specs.declared.statements.LoopHead.{LoopHead}
use Rattle.p10_core.specs.declared.statements.LoopKeyword.{LoopKeyword}
use Rattle.p10_core.specs.declared.statements.LoopKeyword.TheVariants.{While, Do, For}
use Rattle.p10_core.specs.Constants.{integer_of}
use Rattle.p10_core.specs.Typed.{PlainValue, PlainLabels, PlainStatement, statement, block, if_then, if_else, loop, switch, PlainStatements, no_statements, more_statements, statements_list, PlainVariable, PlainFunction, PlainProgram}
use Rattle.p10_core.specs.Whole.{IsWholeValue}
use Rattle.p10_core.specs.WholePrograms.{Region, surroundings_of, around, after, after_all, is_declaration, IsWholeStatement, AreWholeStatements, declared_in, declared_of, loops_in as heads_in, loops_of as heads_of}
use Rattle.p10_cert.specs.Claims.{Loop, Claims}
use Rattle.p10_absx.specs.Environments.{Environment, hull_reached}
use Rattle.p10_absx.specs.Assessing.{assess, known_where}
use Rattle.p10_fit.specs.Fits.{is_task}
use Rattle.p10_pass.specs.Scopes.{form_assigns}
use Rattle.p10_pass.specs.Claiming.{head_of, loop_claimed, claim_or_none}
use Rattle.p10_pass.specs.Passing.{Manner, Left, where_going, is_labelled, pass_statement, pass_statements, trial_manner}
use Rattle.p10_execution.specs.Scoping.{KnowsNumbers, IsBefore}
use Rattle.p10_execution.proofs.TopDeclarations.{declares_here, declares_at_top}
use Rattle.p10_execution.proofs.ScopedEnds.{nothing, Scoped, MaybeScoped, scoped_here, scoped_same, reached_scoped, if_scoped, changed_scope, before_left, before_right, before_scoped, before_same, before_rest, before_body}
use Rattle.p10_execution.proofs.PassedScopes.{statement_scoped, statements_scoped, item_scoped}
use Rattle.p10_turns.specs.LoopParts.{LoopParts, loops_within, loops_among}
use Rattle.p10_turns.specs.Ranked.{is_ranked}
use Rattle.p10_turns.specs.Evidence.{holds_by_ranges}
use Rattle.p10_candidates.specs.Trials.{LoopFound, trial_rounds}
use Rattle.p10_finder.specs.Loops.{Search, LoopsFound, manner_after, known_after_statement, known_after_value, known_at_entry, known_in_body, assigned_in, loop_entry, entered_found, reached_found, LoopPassed, loop_passed, loops_in, loops_in_all, loops_from}
use Rattle.p10_acceptance.proofs.Narrowing.{Fair, MaybeNarrower, narrower_itself, hull_narrower}
use Rattle.p10_acceptance.proofs.Values.{AreTyped}
use Rattle.p10_acceptance.proofs.Calling.{MaybeTaken}
use Rattle.p10_acceptance.proofs.Ends.{Each, going_fit, if_narrower}
use Rattle.p10_acceptance.proofs.Fitting.{ClaimFits, entered, trial_round, Fitted, AllFitted, FromFitted, first_plain, all_fitted}
use Rattle.p10_acceptance.proofs.Rounds.{maybe_is, head_fair}
use Rattle.p10_acceptance.proofs.Statements.{IsIn, in_after, in_after_all, tests, fair_is, if_known, truth_scope, entered_scope, maybe_tests, Fine, statement_fits, statements_fit}
use Rattle.p10_acceptance.proofs.Alike.{Differs, each_left, each_right, clauses_alike, statement_alike}
use Rattle.p10_acceptance.proofs.Found.{found_fits}
use Rattle.p10_acceptance.proofs.Walk.{Extends, extends, all_extend, from_extends, last_one, no_right, Numbered, numbered_left, numbered_right, same_claims}
use Rattle.p10_approach.specs.Approaches.{Approached}
use Rattle.p10_approach.specs.Offers.{IsOffer}
use Rattle.p10_candidates.specs.Candidates.{LoopEntry}
use Rattle.p10_candidates.specs.Approaches.{Approach}

-- no claims differ
pub no_difference : Differs (λ r. Unit {0}) None None (λ l. l)
no_difference = record { parts = λ a b h. (tt, tt); agree = λ r h. refl; lefts = λ m claim head assigned entry r. refl; heads = λ claim variables entry. refl }

pub if_there : (o : Option Environment) (P : Environment → Type 0) → ((e : Environment) → o ≡ Some e → P e) → IfSome o P
if_there None P h = tt
if_there (Some e) P h = h e refl

any_range : (o : Option Interval) → IfSome o (λ r. Unit {0})
any_range None = tt
any_range (Some r) = tt

maybe_itself : (variables : List PlainVariable) (o w : Option Environment) → MaybeNarrower variables o w → MaybeNarrower variables o o
maybe_itself variables None w h = tt
maybe_itself variables (Some e) None h = absurd h
maybe_itself variables (Some e) (Some w) h = narrower_itself variables e h.fair

module _ (p : PlainProgram) (f : PlainFunction) (c : Claims) (typed : AreTyped (surroundings_of p) (Some c)) (taken : MaybeTaken (surroundings_of p) (Some c)) (task : Option ℕ) (offers : ℕ → ℕ → Option LoopParts → LoopEntry → Option Approached) (all : LoopsFound)
    (Stands : ℕ → Environment → Type 0) (short : (n : ℕ) (l : Loop) → slice_get all.claims n ≡ Some l → is_ranked l.rank ≡ true → l.turns ≤ MOST_SUM)
    (stands : (n : ℕ) (parts : LoopParts) (l : Loop) → slice_get (loops_among f.body) n ≡ Some parts → slice_get all.claims n ≡ Some l → (entry : Environment) → is_ranked l.rank ≡ true → holds_by_ranges f.variables parts entry l ≡ true → Stands n entry)
    (are : (k depth : ℕ) (parts : Option LoopParts) (l : LoopEntry) → IfSome (offers k depth parts l) (IsOffer f l depth))
    (offered : (k depth : ℕ) (parts : LoopParts) (l : LoopEntry) (a : Approached) → slice_get (loops_among f.body) k ≡ Some parts → slice_get all.claims k ≡ Some a.claim → slice_get all.approaches k ≡ Some (Some a.approach) → offers k depth (Some parts) l ≡ Some a → Stands k l.entry) where
  abbrev variables : List PlainVariable
  variables = f.variables

  -- where the loops are looked for
  abbrev pub s : Search
  s = record { calls = c; variables = f.variables; task = task; offers = offers }

  -- the pass under all that are found
  abbrev pub whole : Manner
  whole = record { calls = Some c; loops = Some all.claims; result = None; variables = f.variables }

  -- the claims fit in a statement, where the pass comes to it
  abbrev pub In : PlainStatement → Environment → Type 0
  In x e = Fitted f.variables (Some c) (Some all.claims) None Stands x e

  abbrev pub AllIn : PlainStatements → Environment → Type 0
  AllIn xs e = AllFitted f.variables (Some c) (Some all.claims) None Stands xs e

  -- the loops that are found are the first of all
  pub record Prefix (found : LoopsFound) : Type 0 where
    pub claims : (j : ℕ) (l : Loop) → slice_get found.claims j ≡ Some l → slice_get all.claims j ≡ Some l
    pub marks : (j : ℕ) (x : Option Approach) → slice_get found.approaches j ≡ Some x → slice_get all.approaches j ≡ Some x
    pub even : length found.approaches ≡ length found.claims

  -- so are those before them
  pub earlier : (found next : LoopsFound) (n : ℕ) → Extends found next n → Prefix next → Prefix found
  earlier found next n more prefix = record {
    claims = λ j l e. prefix.claims j l (more.keeps j l e);
    marks = λ j x e. prefix.marks j x (more.marks j x e);
    even = let x = more.count in let y = more.marked in let z = prefix.even in omega (arith, x, y, z);
  }

  -- a loop stands at the place of its number
  abbrev pub Placed : LoopParts → Type 0
  Placed parts = slice_get (loops_among f.body) parts.head.number ≡ Some parts

  -- what the walk knows where it comes to a part with some declarations and loops
  pub record Comes (numbers : List ℕ) (heads : List LoopHead) (parts : List LoopParts) (env : Environment) (found next : LoopsFound) : Type 0 where
    pub before : IsBefore f.variables numbers env
    pub fair : Fair f.variables env
    pub numbered : Numbered (length found.claims) heads
    pub placed : Each Placed parts
    pub prefix : Prefix next
    pub bounded : next.unbounded ≡ []

  pub same_pass : (r : Region) (x : PlainStatement) → IsWholeStatement r x → (found next : LoopsFound) → length next.claims ≡ length found.claims + length (heads_in x) → Numbered (length found.claims) (heads_in x) → Prefix next → (env : Environment) →
      pass_statement (manner_after s next) x env ≡ pass_statement whole x env
  same_pass r x i found next count numbered prefix env = statement_alike (Some c) f.variables next.claims all.claims None None (λ r. Unit {0}) (λ l. l) no_difference r x i
      (same_claims next.claims all.claims prefix.claims (length found.claims) (heads_in x) (omega (arith, count)) numbered) env (any_range (pass_statement (manner_after s next) x env).returned)

  -- ## A loop

  inside_is : (keyword : LoopKeyword) (tested : Option PlainValue) (head : Environment) → known_in_body s keyword tested head ≡ entered f.variables (Some c) (Some all.claims) None Stands keyword tested head
  inside_is Do tested head = refl
  inside_is While None head = refl
  inside_is While (Some v) head = refl
  inside_is For None head = refl
  inside_is For (Some v) head = refl

  module _ (r : Region) (h : IsIn p f r) (at : At) (head : LoopHead) (first : PlainStatements) (tested : Option PlainValue) (third : PlainStatements) (body : PlainStatement) (i : IsWholeStatement r (statement at (loop head first tested third body)))
      (depth : ℕ) (env : Environment) (found : LoopsFound)
      (comes : Comes (declared_of first ++ declared_in body) (head ∷ heads_in body) (record { head = head; first = first; tested = tested; third = third; body = body } ∷ loops_within body) env found (loops_in s depth (statement at (loop head first tested third body)) (Some env) found))
      (body_walk : (e : Environment) (more : LoopsFound) → Comes (declared_in body) (heads_in body) (loops_within body) e more (loops_in s (suc depth) body (Some e) more) → In body e) where
    abbrev assigned : ℕ → Bool
    assigned n = form_assigns n (loop head first tested third body)

    abbrev inner : Region
    inner = after_all r first

    abbrev parts : LoopParts
    parts = record { head = head; first = first; tested = tested; third = third; body = body }

    abbrev entered_loop : Environment → LoopEntry
    entered_loop entry = loop_entry s (assigned_in s (loop head first tested third body)) tested entry

    abbrev pub passed : LoopPassed
    passed = loop_passed s depth head first tested third body (Some env) found

    abbrev pub lf : LoopFound
    lf = reached_found (offers head.number depth (Some parts)) (is_task task head.number) head.span (trial_rounds f.variables head.keyword tested third body) (loop_entry s (assigned_in s (loop head first tested third body)) tested) depth (known_at_entry s found first (Some env))

    before_first : IsBefore f.variables (declared_of first) env
    before_first = before_left f.variables (declared_of first) (declared_in body) env comes.before

    pub there : slice_get all.claims head.number ≡ Some lf.claim
    there =
        let e = extends s (suc depth) body passed.inside passed.found in
        comes.prefix.claims head.number lf.claim (e.keeps head.number lf.claim (ap (slice_get (found.claims ++ lf.claim ∷ [])) comes.numbered.0 ∙ last_one found.claims lf.claim))

    -- so are the variables that approach each other, if such bound its turns
    marked : slice_get all.approaches head.number ≡ Some lf.approach
    marked =
        let before : Prefix passed.found = earlier passed.found _ _ (extends s (suc depth) body passed.inside passed.found) comes.prefix in
        let same : length passed.found.approaches ≡ length passed.found.claims = before.even in
        let marks : length passed.found.approaches ≡ length found.approaches + 1 = length-append found.approaches (lf.approach ∷ []) in
        let claims : length passed.found.claims ≡ length found.claims + 1 = length-append found.claims (lf.claim ∷ []) in
        let number : head.number ≡ length found.claims = comes.numbered.0 in
        let at : head.number ≡ length found.approaches = omega (arith, same, marks, claims, number) in
        before.marks head.number lf.approach (ap (slice_get (found.approaches ++ lf.approach ∷ [])) at ∙ last_one found.approaches lf.approach)

    pub claim_is : loop_claimed all.claims head.number ≡ lf.claim
    claim_is = ap claim_or_none there

    module _ (entry : Environment) (is : (pass_statements whole first env).normal ≡ Some entry) where
      pub at_entry : known_at_entry s found first (Some env) ≡ Some entry
      at_entry = ap (λ (a : Left). a.normal) (clauses_alike (Some c) f.variables found.claims all.claims None None (λ r. Unit {0}) (λ l. l) no_difference first (first_plain f.variables (Some c) (Some all.claims) None Stands head.keyword first tested third i.4) env) ∙ is

      pub entry_scoped : Scoped f.variables (λ k. declares_at_top k first) env entry
      entry_scoped = maybe_is f.variables (λ k. declares_at_top k first) env (pass_statements whole first env).normal entry (statements_scoped f.variables (Some c) (Some all.claims) None r first i.0 env before_first).normal is

      pub entry_fair : Fair f.variables entry
      entry_fair = fair_is p f (Some c) typed taken (Some all.claims) None (λ r. refl) Stands (pass_statements whole first env).normal (pass_statements (trial_manner f.variables) first env).normal entry
          (statements_fit p f (Some c) typed taken (Some all.claims) None (λ r. refl) Stands r h first i.0 env env before_first (narrower_itself f.variables env comes.fair)
          (all_fitted f.variables (Some c) (Some all.claims) None Stands first (first_plain f.variables (Some c) (Some all.claims) None Stands head.keyword first tested third i.4) env)).normal is

      pub before_in : IsBefore f.variables (declared_in body) entry
      before_in = before_body f.variables first (declared_in body) env entry comes.before entry_scoped

      pub lf_is : lf ≡ entered_found (offers head.number depth (Some parts) (entered_loop entry)) (is_task task head.number) head.span (trial_rounds f.variables head.keyword tested third body) (entered_loop entry) depth
      lf_is = ap (λ o. reached_found (offers head.number depth (Some parts)) (is_task task head.number) head.span (trial_rounds f.variables head.keyword tested third body) (loop_entry s (assigned_in s (loop head first tested third body)) tested) depth o) at_entry

      pub bounded : lf.unbounded ≡ []
      bounded = no_right found.unbounded lf.unbounded ((extends s (suc depth) body passed.inside passed.found).bounded comes.bounded)

      -- what is offered is claimed, and stands
      pub is_offer : IfSome (offers head.number depth (Some parts) (entered_loop entry)) (IsOffer f (entered_loop entry) depth)
      is_offer = are head.number depth (Some parts) (entered_loop entry)

      held : (a : Approached) → offers head.number depth (Some parts) (entered_loop entry) ≡ Some a → is_task task head.number ≡ false → IsOffer f (entered_loop entry) depth a × Stands head.number entry
      held a e q =
          let taken_as = lf_is ∙ (λ i. entered_found (e i) (q i) head.span (trial_rounds f.variables head.keyword tested third body) (entered_loop entry) depth) in (
            subst (λ (o : Option Approached). IfSome o (IsOffer f (entered_loop entry) depth)) e is_offer,
            offered head.number depth parts (entered_loop entry) a comes.placed.0 (there ∙ ap (λ (x : LoopFound). Some x.claim) taken_as) (marked ∙ ap (λ (x : LoopFound). Some x.approach) taken_as) e,
          )

      pub fits : ClaimFits f.variables Stands lf.claim head.number assigned (trial_round f.variables (Some c) (Some all.claims) None Stands head.keyword tested third body) entry
      fits = found_fits p f Stands r h at head first tested third body i depth entry entry_fair before_in (offers head.number depth (Some parts) (entered_loop entry)) (is_task task head.number) held lf lf_is bounded (λ e. short head.number lf.claim there e)
          (λ e k. stands head.number (record { head = head; first = first; tested = tested; third = third; body = body }) lf.claim comes.placed.0 there entry e k)

      abbrev pub at_head : Environment
      at_head = head_of lf.claim f.variables entry

      pub fair_head : Fair f.variables at_head
      fair_head = head_fair f.variables (Some c) (Some all.claims) None (integer_of f.result) Stands lf.claim head.number assigned (trial_round f.variables (Some c) (Some all.claims) None Stands head.keyword tested third body) entry entry_fair fits

      pub head_knows : KnowsNumbers f.variables at_head
      head_knows = (scoped_same f.variables nothing entry at_head before_in.knows (changed_scope f.variables _ entry)).knows

      pub of_body : IsBefore f.variables (declared_in body) at_head
      of_body = before_same f.variables (declared_in body) entry at_head before_in (changed_scope f.variables _ entry)

      pub entered_fair : (keyword : LoopKeyword) (e : Environment) → entered f.variables (Some c) (Some all.claims) None Stands keyword tested at_head ≡ Some e → Fair f.variables e
      entered_fair Do e q = subst (λ (x : Environment). Fair f.variables x) (same_Some _ _ q) fair_head
      entered_fair While e q = fair_is p f (Some c) typed taken (Some all.claims) None (λ r. refl) Stands _ _ e (maybe_tests p f (Some c) typed taken (Some all.claims) None (λ r. refl) Stands inner (in_after_all p f r first h) tested i.1 at_head at_head (narrower_itself f.variables at_head fair_head)).truth q
      entered_fair For e q = fair_is p f (Some c) typed taken (Some all.claims) None (λ r. refl) Stands _ _ e (maybe_tests p f (Some c) typed taken (Some all.claims) None (λ r. refl) Stands inner (in_after_all p f r first h) tested i.1 at_head at_head (narrower_itself f.variables at_head fair_head)).truth q

      pub inside_same : passed.inside ≡ entered f.variables (Some c) (Some all.claims) None Stands head.keyword tested at_head
      inside_same = ap (λ o. option_and_then (λ entry. known_in_body s head.keyword tested (head_of lf.claim f.variables entry)) o) at_entry ∙ inside_is head.keyword tested at_head

      inside : (e : Environment) → entered f.variables (Some c) (Some all.claims) None Stands head.keyword tested at_head ≡ Some e → passed.inside ≡ Some e
      inside e q = inside_same ∙ q

      in_body : (e : Environment) → entered f.variables (Some c) (Some all.claims) None Stands head.keyword tested at_head ≡ Some e → In body e
      in_body e q =
          let same : loops_in s (suc depth) body passed.inside passed.found ≡ loops_in s (suc depth) body (Some e) passed.found = ap (λ o. loops_in s (suc depth) body o passed.found) (inside e q) in
          let count : length passed.found.claims ≡ length found.claims + 1 = length-append found.claims (lf.claim ∷ []) in
          let next : suc (length found.claims) ≡ length passed.found.claims = omega (arith, count) in
          body_walk e passed.found (record {
            before = before_scoped f.variables nothing (declared_in body) at_head e of_body (maybe_is f.variables nothing at_head (entered f.variables (Some c) (Some all.claims) None Stands head.keyword tested at_head) e (entered_scope p f (Some c) typed taken (Some all.claims) None (λ r. refl) Stands head.keyword tested at_head head_knows) q) (λ k o. refl);
            fair = entered_fair head.keyword e q;
            numbered = subst (λ (n : ℕ). Numbered n (heads_in body)) next comes.numbered.1;
            placed = comes.placed.1;
            prefix = subst Prefix same comes.prefix;
            bounded = subst (λ (z : LoopsFound). z.unbounded ≡ []) same comes.bounded;
          })

      both : ClaimFits f.variables Stands (loop_claimed all.claims head.number) head.number assigned (trial_round f.variables (Some c) (Some all.claims) None Stands head.keyword tested third body) entry
          × IfSome (entered f.variables (Some c) (Some all.claims) None Stands head.keyword tested (head_of (loop_claimed all.claims head.number) f.variables entry)) (λ e. In body e)
      both = subst (λ (l : Loop). ClaimFits f.variables Stands l head.number assigned (trial_round f.variables (Some c) (Some all.claims) None Stands head.keyword tested third body) entry
          × IfSome (entered f.variables (Some c) (Some all.claims) None Stands head.keyword tested (head_of l f.variables entry)) (λ e. In body e)) (sym claim_is)
          (fits, if_there (entered f.variables (Some c) (Some all.claims) None Stands head.keyword tested at_head) (λ e. In body e) in_body)

    loop_walk : In (statement at (loop head first tested third body)) env
    loop_walk = if_there (pass_statements whole first env).normal _ (λ entry is. both entry is)

  -- ## Parts of the walk

  -- what is known after a statement, if a state comes to it
  after_same : (r : Region) (x : PlainStatement) → IsWholeStatement r x → (found next : LoopsFound) → length next.claims ≡ length found.claims + length (heads_in x) → Numbered (length found.claims) (heads_in x) → Prefix next → (o : Option Environment) →
      known_after_statement s next x o ≡ (where_going o (λ env. pass_statement whole x env)).normal
  after_same r x i found next count numbered prefix None = refl
  after_same r x i found next count numbered prefix (Some e) = ap (λ (a : Left). a.normal) (same_pass r x i found next count numbered prefix e)

  -- the walk comes to a branch, where a test is true or false
  branch : (r : Region) → IsIn p f r → (x : PlainStatement) (truth : Bool) (v : PlainValue) → IsWholeValue (around r) v → (depth : ℕ) (env e : Environment) (found next : LoopsFound) → IsBefore f.variables (declared_in x) env → Fair f.variables env →
      Numbered (length found.claims) (heads_in x) → Each Placed (loops_within x) → Prefix next → next.unbounded ≡ [] → next ≡ loops_in s depth x (known_where truth env (assess (Some c) v env)) found → known_where truth env (assess (Some c) v env) ≡ Some e →
      Comes (declared_in x) (heads_in x) (loops_within x) e found (loops_in s depth x (Some e) found)
  branch r h x truth v i depth env e found next before fair numbered placed prefix bounded is q =
      let same : next ≡ loops_in s depth x (Some e) found = is ∙ ap (λ o. loops_in s depth x o found) q in record {
        before = before_scoped f.variables nothing (declared_in x) env e before (maybe_is f.variables nothing env (known_where truth env (assess (Some c) v env)) e (truth_scope p f (Some c) typed taken (Some all.claims) None (λ r. refl) Stands truth v env before.knows) q) (λ n o. refl);
        fair = fair_is p f (Some c) typed taken (Some all.claims) None (λ r. refl) Stands (known_where truth env (assess (Some c) v env)) (known_where truth env (assess None v env)) e
            (tests p f (Some c) typed taken (Some all.claims) None (λ r. refl) Stands r h truth v i env env (narrower_itself f.variables env fair)) q;
        numbered = numbered;
        placed = placed;
        prefix = subst Prefix same prefix;
        bounded = subst (λ (z : LoopsFound). z.unbounded ≡ []) same bounded;
      }

  -- ## The walk

  mutual
    pub walk : (r : Region) → IsIn p f r → (x : PlainStatement) → IsWholeStatement r x → (depth : ℕ) (env : Environment) (found : LoopsFound) → Comes (declared_in x) (heads_in x) (loops_within x) env found (loops_in s depth x (Some env) found) → In x env
    walk r h (statement at (block xs)) i depth env found k = walk_all r h xs i depth env found (record { before = k.before; fair = k.fair; numbered = k.numbered; placed = k.placed; prefix = k.prefix; bounded = k.bounded })
    walk r h (statement at (if_then v x)) i depth env found k = if_there (known_where true env (assess (Some c) v env)) (λ e. In x e)
        (λ e q. walk r h x i.1 depth e found (branch r h x true v i.0.whole depth env e found (loops_in s depth x (known_where true env (assess (Some c) v env)) found) k.before k.fair k.numbered k.placed k.prefix k.bounded refl q))
    walk r h (statement at (if_else v x y)) i depth env found k =
        let first : Option Environment = known_where true env (assess (Some c) v env) in
        let other : Option Environment = known_where false env (assess (Some c) v env) in
        let next : LoopsFound = loops_in s depth x first found in
        let more = extends s depth y other next in (
          if_there first (λ e. In x e) (λ e q. walk r h x i.1 depth e found
              (branch r h x true v i.0.whole depth env e found next (before_left f.variables (declared_in x) (declared_in y) env k.before) k.fair (numbered_left (length found.claims) (heads_in x) (heads_in y) k.numbered) (each_left Placed (loops_within x) (loops_within y) k.placed)
              (earlier _ _ _ more k.prefix) (more.bounded k.bounded) refl q)),
          if_there other (λ e. In y e) (λ e q. walk r h y i.2 depth e next
              (branch r h y false v i.0.whole depth env e next (loops_in s depth y other next) (before_right f.variables (declared_in x) (declared_in y) env k.before) k.fair
              (numbered_right (length found.claims) (length next.claims) (heads_in x) (heads_in y) (extends s depth x first found).count k.numbered) (each_right Placed (loops_within x) (loops_within y) k.placed) k.prefix k.bounded refl q)),
        )
    walk r h (statement at (loop head first tested third body)) i depth env found k =
        loop_walk r h at head first tested third body i depth env found (record { before = k.before; fair = k.fair; numbered = k.numbered; placed = k.placed; prefix = k.prefix; bounded = k.bounded })
        (λ e more z. walk (record (after_all r first) { in_loop = true }) (let j = in_after_all p f r first h in record { program_is = j.program_is; function_is = j.function_is }) body i.3 (suc depth) e more z)
    walk r h (statement at (switch keyword v labels (statement within (block xs)))) i depth env found k = λ e.
        let same : loops_from s depth labels 0 xs (known_after_value s v (Some env)) None found ≡ loops_from s depth labels 0 xs (Some env) None found = ap (λ (b : Bool). loops_from s depth labels 0 xs (if b then Some env else None) None found) e in
        walk_from labels (record r { in_switch = true }) (record { program_is = h.program_is; function_is = h.function_is }) 0 xs i.1 i.0.declares_nothing depth env None found tt tt
        (record { before = k.before; fair = k.fair; numbered = k.numbered; placed = k.placed; prefix = subst Prefix same k.prefix; bounded = subst (λ (z : LoopsFound). z.unbounded ≡ []) same k.bounded })
    walk r h (statement at (switch keyword v labels body)) i depth env found k = λ e. tt
    walk r h (statement at form) i depth env found k = tt

    pub walk_all : (r : Region) → IsIn p f r → (xs : PlainStatements) → AreWholeStatements r xs → (depth : ℕ) (env : Environment) (found : LoopsFound) → Comes (declared_of xs) (heads_of xs) (loops_among xs) env found (loops_in_all s depth xs (Some env) found) → AllIn xs env
    walk_all r h no_statements i depth env found k = tt
    walk_all r h (more_statements x rest) i depth env found k =
        let next : LoopsFound = loops_in s depth x (Some env) found in
        let more = all_extend s depth rest (known_after_statement s next x (Some env)) next in
        let here = extends s depth x (Some env) found in
        let early : IsBefore f.variables (declared_in x) env = before_left f.variables (declared_in x) (declared_of rest) env k.before in
        let numbers = numbered_left (length found.claims) (heads_in x) (heads_of rest) k.numbered in
        let prefix : Prefix next = earlier _ _ _ more k.prefix in
        let one : In x env = walk r h x i.0 depth env found (record { before = early; fair = k.fair; numbered = numbers; placed = each_left Placed (loops_within x) (loops_among rest) k.placed; prefix = prefix; bounded = more.bounded k.bounded }) in (
          one,
          if_there (pass_statement whole x env).normal (λ e. AllIn rest e) (λ e q.
              let same : loops_in_all s depth rest (known_after_statement s next x (Some env)) next ≡ loops_in_all s depth rest (Some e) next =
              ap (λ o. loops_in_all s depth rest o next) (ap (λ (a : Left). a.normal) (same_pass r x i.0 found next here.count numbers prefix env) ∙ q) in
              walk_all (after r x) (in_after p f r x h) rest i.1 depth e next (record {
                before = before_rest f.variables x rest env e k.before (maybe_is f.variables (λ j. declares_here j x) env (pass_statement whole x env).normal e (statement_scoped f.variables (Some c) (Some all.claims) None r x i.0 env early).normal q);
                fair = fair_is p f (Some c) typed taken (Some all.claims) None (λ r. refl) Stands (pass_statement whole x env).normal (pass_statement (trial_manner f.variables) x env).normal e
                    (statement_fits p f (Some c) typed taken (Some all.claims) None (λ r. refl) Stands r h x i.0 env env early (narrower_itself f.variables env k.fair) one).normal q;
                numbered = numbered_right (length found.claims) (length next.claims) (heads_in x) (heads_of rest) here.count k.numbered;
                placed = each_right Placed (loops_within x) (loops_among rest) k.placed;
                prefix = subst Prefix same k.prefix;
                bounded = subst (λ (z : LoopsFound). z.unbounded ≡ []) same k.bounded;
              })),
        )

    walk_from : (labels : PlainLabels) (r : Region) → IsIn p f r → (n : ℕ) (xs : PlainStatements) → AreWholeStatements r xs → All (λ s. is_declaration s ≡ false) (statements_list xs) → (depth : ℕ) (env : Environment) (before : Option Environment) (found : LoopsFound) →
        MaybeScoped f.variables nothing env before → MaybeNarrower f.variables before before → Comes (declared_of xs) (heads_of xs) (loops_among xs) env found (loops_from s depth labels n xs (Some env) before found) → FromFitted f.variables (Some c) (Some all.claims) None Stands labels n xs env before
    walk_from labels r h n no_statements i d depth env before found scoped narrow k = tt
    walk_from labels r h n (more_statements x rest) i d depth env before found scoped narrow k =
        let plain : is_declaration x ≡ false = All-head (λ s. is_declaration s ≡ false) x (statements_list rest) d in
        let enters : Option Environment = if is_labelled n labels then hull_reached before (Some env) else before in
        let next : LoopsFound = loops_in s depth x enters found in
        let later : Option Environment = (where_going enters (λ env. pass_statement whole x env)).normal in
        let more = from_extends s depth labels (suc n) rest (Some env) (known_after_statement s next x enters) next in
        let here = extends s depth x enters found in
        let early : IsBefore f.variables (declared_in x) env = before_left f.variables (declared_in x) (declared_of rest) env k.before in
        let numbers = numbered_left (length found.claims) (heads_in x) (heads_of rest) k.numbered in
        let prefix : Prefix next = earlier _ _ _ more k.prefix in
        let fit : MaybeNarrower f.variables enters enters = if_narrower f.variables (integer_of f.result) (λ w. Stands w.at w.entry) (is_labelled n labels) (hull_reached before (Some env)) before (hull_reached before (Some env)) before
        (hull_narrower f.variables before (Some env) before (Some env) narrow (narrower_itself f.variables env k.fair)) narrow in
        let scope : MaybeScoped f.variables nothing env enters = if_scoped f.variables nothing env (is_labelled n labels) (hull_reached before (Some env)) before (reached_scoped f.variables nothing env before (Some env) scoped (scoped_here f.variables nothing env k.before.knows)) scoped in
        let before_at : (e : Environment) → enters ≡ Some e → IsBefore f.variables (declared_in x) e = λ e q. before_scoped f.variables nothing (declared_in x) env e early (maybe_is f.variables nothing env enters e scope q) (λ j o. refl) in
        let one : IfSome enters (λ e. In x e) = if_there enters (λ e. In x e) (λ e q.
        let same : next ≡ loops_in s depth x (Some e) found = ap (λ o. loops_in s depth x o found) q in
        walk r h x i.0 depth e found (record {
          before = before_at e q;
          fair = fair_is p f (Some c) typed taken (Some all.claims) None (λ r. refl) Stands enters enters e fit q;
          numbered = numbers;
          placed = each_left Placed (loops_within x) (loops_among rest) k.placed;
          prefix = subst Prefix same prefix;
          bounded = subst (λ (z : LoopsFound). z.unbounded ≡ []) same (more.bounded k.bounded);
        })) in
        let passed : Fine p f (Some c) typed taken (Some all.claims) None (λ r. refl) Stands (where_going enters (λ env. pass_statement whole x env)) (where_going enters (λ env. pass_statement (trial_manner f.variables) x env)) =
        going_fit f.variables (integer_of f.result) (λ w. Stands w.at w.entry) enters enters (λ env. pass_statement whole x env) (λ env. pass_statement (trial_manner f.variables) x env) fit
        (λ e w q l. statement_fits p f (Some c) typed taken (Some all.claims) None (λ r. refl) Stands r h x i.0 e w (before_at e q) l (if_known p f (Some c) typed taken (Some all.claims) None (λ r. refl) Stands enters (λ e. In x e) e one q)) in
        let same : loops_from s depth labels (suc n) rest (Some env) (known_after_statement s next x enters) next ≡ loops_from s depth labels (suc n) rest (Some env) later next =
        ap (λ o. loops_from s depth labels (suc n) rest (Some env) o next) (after_same r x i.0 found next here.count numbers prefix enters) in (
          one,
          walk_from labels (after r x) (in_after p f r x h) (suc n) rest i.1 (All-tail (λ s. is_declaration s ≡ false) x (statements_list rest) d) depth env later next
              (item_scoped f.variables (Some c) (Some all.claims) None r x i.0 plain env early enters scope).normal (maybe_itself f.variables later _ passed.normal) (record {
                before = before_right f.variables (declared_in x) (declared_of rest) env k.before;
                fair = k.fair;
                numbered = numbered_right (length found.claims) (length next.claims) (heads_in x) (heads_of rest) here.count k.numbered;
                placed = each_right Placed (loops_within x) (loops_among rest) k.placed;
                prefix = subst Prefix same k.prefix;
                bounded = subst (λ (z : LoopsFound). z.unbounded ≡ []) same k.bounded;
              }),
        )
