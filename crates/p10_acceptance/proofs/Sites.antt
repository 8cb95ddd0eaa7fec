-- What is claimed of the loops that are found speaks of them: of their depth, their rank and the variables in scope (K1).
use Rattle.std.proofs.Common.{◌≡◌, ℕ, suc, ◌+◌, ◌≤◌, length, Bool, true, false, List, [], ◌∷◌, ◌++◌, map, All, Option, Some, None, refl, ap, sym, ◌∙◌, subst, arith, eq-eqb}
use Rattle.std.specs.Prelude.{slice_get, if◌then◌else◌, is_some, ◌||◌, ◌&&◌, IfSome}
use Rattle.std.specs.Option.{option_and_then}
use Rattle.std.specs.List.{list_all}
use Rattle.std.proofs.lemmas.Option.{same_Some}
use Rattle.std.proofs.lemmas.List.{length-append, length-map, map-append}
use Rattle.std.proofs.lemmas.List.Elements.{All-tail}
use Rattle.p10_base.specs.declared.at.At.{At}
use Rattle.p10_base.specs.declared.report.TheConstants.Limit.{MOST_SUM}
use Rattle.p10_core.specs.declared.statements.LoopHead.{LoopHead}
use Rattle.p10_core.specs.Typed.{PlainValue, PlainLabels, PlainStatement, statement, PlainStatementForm, declare, block, if_then, if_else, loop, switch, PlainStatements, no_statements, more_statements, statements_list, PlainVariable, PlainFunction, PlainProgram}
use Rattle.p10_core.specs.Whole.{IsWholeValue}
use Rattle.p10_core.specs.WholePrograms.{Region, is_among, surroundings_of, around, after, after_all, is_declaration, is_block, switch_items, IsWholeStatement, IsWholeStatementForm, AreWholeStatements, declared_in, declared_in_form, declared_of, loops_in as heads_in, loops_in_form as heads_in_form, loops_of as heads_of}
use Rattle.p10_cert.specs.declared.claims.Rank.TheVariants.{One, Task}
use Rattle.p10_cert.specs.Claims.{Loop, Claims}
use Rattle.p10_absx.specs.Abstract.{Abstract}
use Rattle.p10_absx.specs.Environments.{Environment, known, hull_entry, hull_environment, hull_reached}
use Rattle.p10_absx.specs.Assessing.{assess, known_where}
use Rattle.p10_fit.specs.Fits.{is_task, fits_rank, fits_variable, fits_loop}
use Rattle.p10_fit.specs.Sites.{LoopSite, in_scope_after, in_scope_after_all, loop_sites_in, loop_sites_in_form, loop_sites_of}
use Rattle.p10_pass.specs.Claiming.{head_of}
use Rattle.p10_pass.specs.Arguments.{has_value}
use Rattle.p10_pass.specs.Passing.{Left, is_labelled, pass_statement, pass_statements, trial_manner}
use Rattle.p10_execution.specs.Scoping.{IsBefore}
use Rattle.p10_execution.proofs.Numbers.{among_left, among_right}
use Rattle.p10_execution.proofs.Entries.{known_hull, changed_knows}
use Rattle.p10_execution.proofs.TopDeclarations.{declares_here, declares_at_top}
use Rattle.p10_execution.proofs.ScopedEnds.{nothing, Scoped, before_left, before_right, before_scoped, before_rest}
use Rattle.p10_execution.proofs.PassedScopes.{statement_scoped}
use Rattle.p10_turns.specs.LoopParts.{LoopParts, loops_within, loops_within_form, loops_among}
use Rattle.p10_turns.specs.Ranked.{is_ranked}
use Rattle.p10_turns.specs.Evidence.{holds_by_ranges}
use Rattle.p10_candidates.specs.Trials.{LoopFound, unreached_found, trial_rounds}
use Rattle.p10_finder.specs.Loops.{Search, LoopsFound, known_in_body, assigned_in, loop_entry, reached_found, known_after_statement, known_where_value, known_after_value, known_at_entry, loop_passed, LoopPassed, loops_in, loops_in_form, loops_in_all, loops_in_switch, loops_in_cases, loops_from}
use Rattle.p10_acceptance.proofs.Narrowing.{Fair, narrower_itself, hull_narrower}
use Rattle.p10_acceptance.proofs.Values.{AreTyped}
use Rattle.p10_acceptance.proofs.Calling.{MaybeTaken}
use Rattle.p10_acceptance.proofs.Ends.{Each}
use Rattle.p10_acceptance.proofs.Fitting.{entered, first_plain}
use Rattle.p10_acceptance.proofs.Rounds.{maybe_is}
use Rattle.p10_acceptance.proofs.Statements.{IsIn, in_after, in_after_all, tests, fair_is, truth_scope, entered_scope, statement_fits}
use Rattle.p10_acceptance.proofs.Alike.{each_left, each_right, clauses_alike}
use Rattle.p10_acceptance.proofs.Found.{found_speaks}
use Rattle.p10_acceptance.proofs.Walk.{extends, all_extend, from_extends, last_one, Numbered, numbered_left, numbered_right}
use Rattle.p10_acceptance.proofs.Walking.{no_difference, if_there, s, whole, In, Prefix, earlier, Placed, Comes, same_pass, lf, is_offer, at_entry, entry_scoped, entry_fair, before_in, lf_is, bounded, at_head, head_knows, of_body, entered_fair, inside_same, walk}
use Rattle.p10_approach.specs.Approaches.{Approached}
use Rattle.p10_approach.specs.Offers.{IsOffer}
use Rattle.p10_candidates.specs.Candidates.{LoopEntry}

-- ## Scopes

-- an environment knows only what is in scope
abbrev pub InScope : Environment → List ℕ → Type 0
InScope env scope = (n : ℕ) → is_some (known env n) ≡ true → is_among n scope ≡ true

scope_more : (x : PlainStatement) (n : ℕ) (scope : List ℕ) → is_among n scope ≡ true → is_among n (in_scope_after scope x) ≡ true
scope_more (statement at (declare k i)) n scope e = among_left n scope (k ∷ []) e
scope_more (statement at form) n scope e = e

scope_here : (x : PlainStatement) (n : ℕ) (scope : List ℕ) → declares_here n x ≡ true → is_among n (in_scope_after scope x) ≡ true
scope_here (statement at (declare k i)) n scope e = among_right n scope (k ∷ []) (ap (λ b. b || false) e)
scope_here (statement at form) n scope e = absurd cc

all_more : (xs : PlainStatements) (n : ℕ) (scope : List ℕ) → is_among n scope ≡ true → is_among n (in_scope_after_all scope xs) ≡ true
all_more no_statements n scope e = e
all_more (more_statements x rest) n scope e = all_more rest n (in_scope_after scope x) (scope_more x n scope e)

all_top : (xs : PlainStatements) (n : ℕ) (scope : List ℕ) → declares_at_top n xs ≡ true → is_among n (in_scope_after_all scope xs) ≡ true
all_top no_statements n scope e = absurd cc
all_top (more_statements x rest) n scope e = by_case (declares_here n x) refl e (λ k. all_top rest n (in_scope_after scope x) k)
  where
    by_case : (b : Bool) → declares_here n x ≡ b → (b || declares_at_top n rest) ≡ true → (declares_at_top n rest ≡ true → is_among n (in_scope_after_all (in_scope_after scope x) rest) ≡ true) → is_among n (in_scope_after_all (in_scope_after scope x) rest) ≡ true
    by_case true q e k = all_more rest n (in_scope_after scope x) (scope_here x n scope q)
    by_case false q e k = k e

after_scope : (variables : List PlainVariable) (x : PlainStatement) (env e : Environment) (scope : List ℕ) → Scoped variables (λ n. declares_here n x) env e → InScope env scope → InScope e (in_scope_after scope x)
after_scope variables x env e scope s h n k = by_case (declares_here n x) refl
  where
    by_case : (b : Bool) → declares_here n x ≡ b → is_among n (in_scope_after scope x) ≡ true
    by_case true q = scope_here x n scope q
    by_case false q = scope_more x n scope (h n (sym (s.same n q) ∙ k))

after_all_scope : (variables : List PlainVariable) (xs : PlainStatements) (env e : Environment) (scope : List ℕ) → Scoped variables (λ n. declares_at_top n xs) env e → InScope env scope → InScope e (in_scope_after_all scope xs)
after_all_scope variables xs env e scope s h n k = by_case (declares_at_top n xs) refl
  where
    by_case : (b : Bool) → declares_at_top n xs ≡ b → is_among n (in_scope_after_all scope xs) ≡ true
    by_case true q = all_top xs n scope q
    by_case false q = all_more xs n scope (h n (sym (s.same n q) ∙ k))

-- ## Sites

-- the claims from a place on speak of loops
abbrev pub SitesFit : PlainFunction → Option ℕ → List Loop → ℕ → List LoopSite → Type 0
SitesFit f task all k [] = Unit {0}
SitesFit f task all k (x ∷ rest) = ((l : Loop) → slice_get all k ≡ Some l → fits_loop f task x l ≡ true) × SitesFit f task all (suc k) rest

sites_both : (f : PlainFunction) (task : Option ℕ) (all : List Loop) (k n : ℕ) (xs ys : List LoopSite) → n ≡ k + length xs → SitesFit f task all k xs → SitesFit f task all n ys → SitesFit f task all k (xs ++ ys)
sites_both f task all k n [] ys e h g = let q : n ≡ k = omega (arith, e) in subst (λ (i : ℕ). SitesFit f task all i ys) q g
sites_both f task all k n (x ∷ xs) ys e h g = (h.0, sites_both f task all (suc k) n xs ys (omega (arith, e)) h.1 g)

mutual
  heads_sited : (depth : ℕ) (scope : List ℕ) (x : PlainStatement) → map (λ (y : LoopSite). y.head) (loop_sites_in depth scope x) ≡ heads_in x
  heads_sited depth scope (statement at form) = form_sited depth scope form

  form_sited : (depth : ℕ) (scope : List ℕ) (form : PlainStatementForm) → map (λ (y : LoopSite). y.head) (loop_sites_in_form depth scope form) ≡ heads_in_form form
  form_sited depth scope (block xs) = all_sited depth scope xs
  form_sited depth scope (if_then v x) = heads_sited depth scope x
  form_sited depth scope (if_else v x y) = map-append (λ (y : LoopSite). y.head) (loop_sites_in depth scope x) (loop_sites_in depth scope y) ∙ (λ i. heads_sited depth scope x i ++ heads_sited depth scope y i)
  form_sited depth scope (loop head first test third body) = ap (λ l. head ∷ l) (heads_sited (depth + 1) (in_scope_after_all scope first) body)
  form_sited depth scope (switch keyword v labels body) = heads_sited depth scope body
  form_sited depth scope form = refl

  pub all_sited : (depth : ℕ) (scope : List ℕ) (xs : PlainStatements) → map (λ (y : LoopSite). y.head) (loop_sites_of depth scope xs) ≡ heads_of xs
  all_sited depth scope no_statements = refl
  all_sited depth scope (more_statements x rest) = map-append (λ (y : LoopSite). y.head) (loop_sites_in depth scope x) (loop_sites_of depth (in_scope_after scope x) rest) ∙ (λ i. heads_sited depth scope x i ++ all_sited depth (in_scope_after scope x) rest i)

sites_count : (depth : ℕ) (scope : List ℕ) (x : PlainStatement) → length (loop_sites_in depth scope x) ≡ length (heads_in x)
sites_count depth scope x = sym (length-map (loop_sites_in depth scope x) (λ (y : LoopSite). y.head)) ∙ ap length (heads_sited depth scope x)

-- ## The walk

module _ (p : PlainProgram) (f : PlainFunction) (c : Claims) (typed : AreTyped (surroundings_of p) (Some c)) (taken : MaybeTaken (surroundings_of p) (Some c)) (task : Option ℕ) (offers : ℕ → ℕ → Option LoopParts → LoopEntry → Option Approached) (all : LoopsFound)
    (Stands : ℕ → Environment → Type 0) (short : (n : ℕ) (l : Loop) → slice_get all.claims n ≡ Some l → is_ranked l.rank ≡ true → l.turns ≤ MOST_SUM)
    (stands : (n : ℕ) (parts : LoopParts) (l : Loop) → slice_get (loops_among f.body) n ≡ Some parts → slice_get all.claims n ≡ Some l → (entry : Environment) → is_ranked l.rank ≡ true → holds_by_ranges f.variables parts entry l ≡ true → Stands n entry)
    (are : (k depth : ℕ) (parts : Option LoopParts) (l : LoopEntry) → IfSome (offers k depth parts l) (IsOffer f l depth))
    (offered : (k depth : ℕ) (parts : LoopParts) (l : LoopEntry) (a : Approached) → slice_get (loops_among f.body) k ≡ Some parts → slice_get all.claims k ≡ Some a.claim → slice_get all.approaches k ≡ Some (Some a.approach) → offers k depth (Some parts) l ≡ Some a → Stands k l.entry) where
  -- an environment as it may be where a part stands
  abbrev pub Here : List ℕ → List ℕ → Environment → Type 0
  Here numbers scope e = IsBefore f.variables numbers e × Fair f.variables e × InScope e scope

  abbrev pub MaybeHere : List ℕ → List ℕ → Option Environment → Type 0
  MaybeHere numbers scope o = IfSome o (λ e. Here numbers scope e)

  -- the walk comes to a part, where a state may not come
  pub record Sited (numbers : List ℕ) (heads : List LoopHead) (parts : List LoopParts) (scope : List ℕ) (o : Option Environment) (found next : LoopsFound) : Type 0 where
    pub here : MaybeHere numbers scope o
    pub numbered : Numbered (length found.claims) heads
    pub placed : Each (Placed p f c typed taken task offers all Stands short stands are offered) parts
    pub prefix : Prefix p f c typed taken task offers all Stands short stands are offered next
    pub unbounded : next.unbounded ≡ []

  abbrev look : Search
  look = s p f c typed taken task offers all Stands short stands are offered

  abbrev Fits : ℕ → List LoopSite → Type 0
  Fits k sites = SitesFit f task all.claims k sites

  -- ## Environments on the way

  hull_here : (numbers scope : List ℕ) (o w : Option Environment) → MaybeHere numbers scope o → MaybeHere numbers scope w → MaybeHere numbers scope (hull_reached o w)
  hull_here numbers scope None w h k = k
  hull_here numbers scope (Some a) None h k = h
  hull_here numbers scope (Some a) (Some b) h k = (
    record { knows = record { each = λ n e. h.0.knows.each n (left n e) }; once = h.0.once; fresh = λ n e. gone n (h.0.fresh n e) },
    (hull_narrower f.variables (Some a) (Some b) (Some a) (Some b) (narrower_itself f.variables a h.1) (narrower_itself f.variables b k.1)).fair,
    λ n e. h.2 n (left n e),
  )
    where
      of : (x y : Option Abstract) → is_some (hull_entry x y) ≡ true → is_some x ≡ true
      of None y e = e
      of (Some x) y e = refl

      left : (n : ℕ) → is_some (known (hull_environment a b) n) ≡ true → is_some (known a n) ≡ true
      left n e = of (known a n) (known b n) (ap is_some (sym (known_hull a b n)) ∙ e)

      none : (x y : Option Abstract) → is_some x ≡ false → is_some (hull_entry x y) ≡ false
      none None y e = refl
      none (Some x) y e = absurd cc

      gone : (n : ℕ) → is_some (known a n) ≡ false → is_some (known (hull_environment a b) n) ≡ false
      gone n e = ap is_some (known_hull a b n) ∙ none (known a n) (known b n) e

  if_here : (numbers scope : List ℕ) (b : Bool) (o w : Option Environment) → MaybeHere numbers scope o → MaybeHere numbers scope w → MaybeHere numbers scope (if b then o else w)
  if_here numbers scope true o w h k = h
  if_here numbers scope false o w h k = k

  branch_here : (r : Region) → IsIn p f r → (numbers scope : List ℕ) (truth : Bool) (v : PlainValue) → IsWholeValue (around r) v → (o : Option Environment) → MaybeHere numbers scope o → MaybeHere numbers scope (known_where_value look v truth o)
  branch_here r h numbers scope truth v i None k = tt
  branch_here r h numbers scope truth v i (Some env) k = if_there (known_where truth env (assess (Some c) v env)) (λ e. Here numbers scope e) (λ e q.
      let scoped : Scoped f.variables nothing env e = maybe_is f.variables nothing env (known_where truth env (assess (Some c) v env)) e (truth_scope p f (Some c) typed taken (Some all.claims) None (λ r. refl) Stands truth v env k.0.knows) q in (
        before_scoped f.variables nothing numbers env e k.0 scoped (λ n o. refl),
        fair_is p f (Some c) typed taken (Some all.claims) None (λ r. refl) Stands (known_where truth env (assess (Some c) v env)) (known_where truth env (assess None v env)) e
            (tests p f (Some c) typed taken (Some all.claims) None (λ r. refl) Stands r h truth v i env env (narrower_itself f.variables env k.1)) q,
        λ n z. k.2 n (sym (scoped.same n refl) ∙ z),
      ))

  chosen_here : (numbers scope : List ℕ) (v : PlainValue) (o : Option Environment) → MaybeHere numbers scope o → MaybeHere numbers scope (known_after_value look v o)
  chosen_here numbers scope v None k = tt
  chosen_here numbers scope v (Some env) k = if_here numbers scope (has_value (Some c) v env) (Some env) None k tt

  -- what is known after a statement
  after_here : (r : Region) → IsIn p f r → (x : PlainStatement) → IsWholeStatement r x → (rest : PlainStatements) (scope : List ℕ) (depth : ℕ) (o : Option Environment) (found : LoopsFound) → MaybeHere (declared_in x ++ declared_of rest) scope o →
      Numbered (length found.claims) (heads_in x) → Each (Placed p f c typed taken task offers all Stands short stands are offered) (loops_within x) → Prefix p f c typed taken task offers all Stands short stands are offered (loops_in look depth x o found) → (loops_in look depth x o found).unbounded ≡ [] →
      MaybeHere (declared_of rest) (in_scope_after scope x) (known_after_statement look (loops_in look depth x o found) x o)
  after_here r h x i rest scope depth None found k numbered placed prefix unbounded = tt
  after_here r h x i rest scope depth (Some env) found k numbered placed prefix unbounded =
      let early : IsBefore f.variables (declared_in x) env = before_left f.variables (declared_in x) (declared_of rest) env k.0 in
      let one = walk p f c typed taken task offers all Stands short stands are offered r h x i depth env found (record { before = early; fair = k.1; numbered = numbered; placed = placed; prefix = prefix; bounded = unbounded }) in
      let same = ap (λ (a : Left). a.normal) (same_pass p f c typed taken task offers all Stands short stands are offered r x i found (loops_in look depth x (Some env) found) (extends look depth x (Some env) found).count numbered prefix env) in
      subst (λ o. MaybeHere (declared_of rest) (in_scope_after scope x) o) (sym same)
      (if_there (pass_statement (whole p f c typed taken task offers all Stands short stands are offered) x env).normal (λ e. Here (declared_of rest) (in_scope_after scope x) e) (λ e q.
      let scoped = maybe_is f.variables (λ j. declares_here j x) env (pass_statement (whole p f c typed taken task offers all Stands short stands are offered) x env).normal e (statement_scoped f.variables (Some c) (Some all.claims) None r x i env early).normal q in (
        before_rest f.variables x rest env e k.0 scoped,
        fair_is p f (Some c) typed taken (Some all.claims) None (λ r. refl) Stands (pass_statement (whole p f c typed taken task offers all Stands short stands are offered) x env).normal (pass_statement (trial_manner f.variables) x env).normal e
            (statement_fits p f (Some c) typed taken (Some all.claims) None (λ r. refl) Stands r h x i env env early (narrower_itself f.variables env k.1) one).normal q,
        after_scope f.variables x env e scope scoped k.2,
      )))

  -- a part of what is declared
  part_here : (numbers fewer scope : List ℕ) (o : Option Environment) → ((e : Environment) → IsBefore f.variables numbers e → IsBefore f.variables fewer e) → MaybeHere numbers scope o → MaybeHere fewer scope o
  part_here numbers fewer scope None h k = tt
  part_here numbers fewer scope (Some e) h k = (h e k.0, k.1, k.2)

  -- more is in scope
  wider_here : (numbers scope : List ℕ) (x : PlainStatement) (o : Option Environment) → MaybeHere numbers scope o → MaybeHere numbers (in_scope_after scope x) o
  wider_here numbers scope x None k = tt
  wider_here numbers scope x (Some e) k = (k.0, k.1, λ n z. scope_more x n scope (k.2 n z))

  -- ## A loop

  module _ (r : Region) (h : IsIn p f r) (at : At) (head : LoopHead) (first : PlainStatements) (tested : Option PlainValue) (third : PlainStatements) (body : PlainStatement) (i : IsWholeStatement r (statement at (loop head first tested third body)))
      (depth : ℕ) (scope : List ℕ) (o : Option Environment) (found : LoopsFound) where
    abbrev inside_scope : List ℕ
    inside_scope = in_scope_after_all scope first

    abbrev turned : LoopPassed
    turned = loop_passed look depth head first tested third body o found

    -- what the claim of the loop says of it, and what is known in its body
    record LoopSpeaks (claim : Loop) (inside : Option Environment) : Type 0 where
      depth_is : claim.depth ≡ depth
      rank : fits_rank f inside_scope (is_task task head.number) claim.rank ≡ true
      vars : list_all (fits_variable f inside_scope) claim.vars ≡ true
      here : MaybeHere (declared_in body) inside_scope inside

    unreached_rank : (b : Bool) → fits_rank f inside_scope b (if b then Task else One) ≡ true
    unreached_rank true = refl
    unreached_rank false = refl

  module _ (r : Region) (h : IsIn p f r) (at : At) (head : LoopHead) (first : PlainStatements) (tested : Option PlainValue) (third : PlainStatements) (body : PlainStatement) (i : IsWholeStatement r (statement at (loop head first tested third body)))
      (depth : ℕ) (scope : List ℕ) (env : Environment) (found : LoopsFound)
      (comes : Comes p f c typed taken task offers all Stands short stands are offered (declared_of first ++ declared_in body) (head ∷ heads_in body) (record { head = head; first = first; tested = tested; third = third; body = body } ∷ loops_within body) env found (loops_in look depth (statement at (loop head first tested third body)) (Some env) found))
      (in_scope : InScope env scope)
      (body_walk : (e : Environment) (more : LoopsFound) → Comes p f c typed taken task offers all Stands short stands are offered (declared_in body) (heads_in body) (loops_within body) e more (loops_in look (suc depth) body (Some e) more) → In p f c typed taken task offers all Stands short stands are offered body e) where
    abbrev found_one : LoopFound
    found_one = lf p f c typed taken task offers all Stands short stands are offered r h at head first tested third body i depth env found comes body_walk

    abbrev entry_of : Option Environment
    entry_of = (pass_statements (whole p f c typed taken task offers all Stands short stands are offered) first env).normal

    speaks_at : (q : Option Environment) → entry_of ≡ q → known_at_entry look found first (Some env) ≡ q → LoopSpeaks r h at head first tested third body i depth scope (Some env) found found_one.claim (loop_passed look depth head first tested third body (Some env) found).inside
    speaks_at None e q =
        let one : found_one ≡ unreached_found depth (if is_task task head.number then Task else One) = ap (λ o. reached_found (offers head.number depth (Some (record { head = head; first = first; tested = tested; third = third; body = body }))) (is_task task head.number) head.span (trial_rounds f.variables head.keyword tested third body) (loop_entry look (assigned_in look (loop head first tested third body)) tested) depth o) q in
        record {
          depth_is = ap (λ (x : LoopFound). x.claim.depth) one;
          rank = ap (λ (x : LoopFound). fits_rank f (inside_scope r h at head first tested third body i depth scope (Some env) found) (is_task task head.number) x.claim.rank) one ∙ unreached_rank r h at head first tested third body i depth scope (Some env) found (is_task task head.number);
          vars = ap (λ (x : LoopFound). list_all (fits_variable f (inside_scope r h at head first tested third body i depth scope (Some env) found)) x.claim.vars) one;
          here = subst (λ o. MaybeHere (declared_in body) (in_scope_after_all scope first) (option_and_then (λ entry. known_in_body look head.keyword tested (head_of found_one.claim f.variables entry)) o)) (sym q) tt;
        }
    speaks_at (Some entry) e q =
        let fair_entry = entry_fair p f c typed taken task offers all Stands short stands are offered r h at head first tested third body i depth env found comes body_walk entry e in
        let before_entry = before_in p f c typed taken task offers all Stands short stands are offered r h at head first tested third body i depth env found comes body_walk entry e in
        let scoped_entry = entry_scoped p f c typed taken task offers all Stands short stands are offered r h at head first tested third body i depth env found comes body_walk entry e in
        let entry_in : InScope entry (in_scope_after_all scope first) = after_all_scope f.variables first env entry scope scoped_entry in_scope in
        let k = found_speaks p f Stands r h at head first tested third body i depth entry fair_entry before_entry (in_scope_after_all scope first) entry_in _ (is_offer p f c typed taken task offers all Stands short stands are offered r h at head first tested third body i depth env found comes body_walk entry e) (is_task task head.number) found_one
        (lf_is p f c typed taken task offers all Stands short stands are offered r h at head first tested third body i depth env found comes body_walk entry e) (bounded p f c typed taken task offers all Stands short stands are offered r h at head first tested third body i depth env found comes body_walk entry e) in
        record {
          depth_is = k.depth_is;
          rank = k.rank;
          vars = k.vars;
          here = subst (λ o. MaybeHere (declared_in body) (in_scope_after_all scope first) o) (sym (inside_same p f c typed taken task offers all Stands short stands are offered r h at head first tested third body i depth env found comes body_walk entry e))
              (if_there (entered f.variables (Some c) (Some all.claims) None Stands head.keyword tested (at_head p f c typed taken task offers all Stands short stands are offered r h at head first tested third body i depth env found comes body_walk entry e)) (λ d. Here (declared_in body) (in_scope_after_all scope first) d) (λ d z.
              let head_env = at_head p f c typed taken task offers all Stands short stands are offered r h at head first tested third body i depth env found comes body_walk entry e in
              let scoped = maybe_is f.variables nothing head_env (entered f.variables (Some c) (Some all.claims) None Stands head.keyword tested head_env) d (entered_scope p f (Some c) typed taken (Some all.claims) None (λ r. refl) Stands head.keyword tested head_env (head_knows p f c typed taken task offers all Stands short stands are offered r h at head first tested third body i depth env found comes body_walk entry e)) z in (
                before_scoped f.variables nothing (declared_in body) head_env d (of_body p f c typed taken task offers all Stands short stands are offered r h at head first tested third body i depth env found comes body_walk entry e) scoped (λ n o. refl),
                entered_fair p f c typed taken task offers all Stands short stands are offered r h at head first tested third body i depth env found comes body_walk entry e head.keyword d z,
                λ n y. entry_in n (sym (changed_knows _ 0 f.variables entry n) ∙ (sym (scoped.same n refl) ∙ y)),
              )));
        }

    loop_speaks : LoopSpeaks r h at head first tested third body i depth scope (Some env) found found_one.claim (loop_passed look depth head first tested third body (Some env) found).inside
    loop_speaks = at_q entry_of refl
      where
        at_q : (q : Option Environment) → entry_of ≡ q → LoopSpeaks r h at head first tested third body i depth scope (Some env) found found_one.claim (loop_passed look depth head first tested third body (Some env) found).inside
        at_q None e = speaks_at None e (ap (λ (a : Left). a.normal) (clauses_alike (Some c) f.variables found.claims all.claims None None (λ r. Unit {0}) (λ l. l) no_difference first (first_plain f.variables (Some c) (Some all.claims) None Stands head.keyword first tested third i.4) env) ∙ e)
        at_q (Some entry) e = speaks_at (Some entry) e (at_entry p f c typed taken task offers all Stands short stands are offered r h at head first tested third body i depth env found comes body_walk entry e)

  loop_some : (r : Region) (h : IsIn p f r) (at : At) (head : LoopHead) (first : PlainStatements) (tested : Option PlainValue) (third : PlainStatements) (body : PlainStatement) (i : IsWholeStatement r (statement at (loop head first tested third body)))
      (depth : ℕ) (scope : List ℕ) (o : Option Environment) (found : LoopsFound) → Sited (declared_of first ++ declared_in body) (head ∷ heads_in body) (record { head = head; first = first; tested = tested; third = third; body = body } ∷ loops_within body) scope o found (loops_in look depth (statement at (loop head first tested third body)) o found) →
      let turned : LoopPassed = loop_passed look depth head first tested third body o found in
      let lf : LoopFound = reached_found (offers head.number depth (Some (record { head = head; first = first; tested = tested; third = third; body = body }))) (is_task task head.number) head.span (trial_rounds f.variables head.keyword tested third body) (loop_entry look (assigned_in look (loop head first tested third body)) tested) depth (known_at_entry look found first o) in
      LoopSpeaks r h at head first tested third body i depth scope o found lf.claim turned.inside
  loop_some r h at head first tested third body i depth scope None found k = record { depth_is = refl; rank = unreached_rank r h at head first tested third body i depth scope None found (is_task task head.number); vars = refl; here = tt }
  loop_some r h at head first tested third body i depth scope (Some env) found k = loop_speaks r h at head first tested third body i depth scope env found
      (record { before = k.here.0; fair = k.here.1; numbered = k.numbered; placed = k.placed; prefix = k.prefix; bounded = k.unbounded }) k.here.2
      (λ e more z. walk p f c typed taken task offers all Stands short stands are offered (record (after_all r first) { in_loop = true }) (let j = in_after_all p f r first h in record { program_is = j.program_is; function_is = j.function_is }) body i.3 (suc depth) e more z)

  -- the claim of a loop speaks of it
  site_fits : (depth : ℕ) (scope : List ℕ) (head : LoopHead) (claim : Loop) → claim.depth ≡ depth → fits_rank f scope (is_task task head.number) claim.rank ≡ true → list_all (fits_variable f scope) claim.vars ≡ true → fits_loop f task (record { depth = depth; head = head; scope = scope }) claim ≡ true
  site_fits depth scope head claim d e g =
      ap (λ b. b && (fits_rank f scope (is_task task head.number) claim.rank && list_all (fits_variable f scope) claim.vars)) (eq-eqb claim.depth depth d) ∙ (ap (λ b. b && list_all (fits_variable f scope) claim.vars) e ∙ g)

  -- ## The walk

  mutual
    pub sites : (r : Region) → IsIn p f r → (x : PlainStatement) → IsWholeStatement r x → (depth : ℕ) (scope : List ℕ) (o : Option Environment) (found : LoopsFound) → Sited (declared_in x) (heads_in x) (loops_within x) scope o found (loops_in look depth x o found) →
        Fits (length found.claims) (loop_sites_in depth scope x)
    sites r h (statement at form) i depth scope o found k = form_sites r h at form i depth scope o found (record { here = k.here; numbered = k.numbered; placed = k.placed; prefix = k.prefix; unbounded = k.unbounded })

    form_sites : (r : Region) → IsIn p f r → (at : At) (form : PlainStatementForm) → IsWholeStatementForm r form → (depth : ℕ) (scope : List ℕ) (o : Option Environment) (found : LoopsFound) → Sited (declared_in_form form) (heads_in_form form) (loops_within_form form) scope o found (loops_in_form look depth form o found) →
        Fits (length found.claims) (loop_sites_in_form depth scope form)
    form_sites r h at (block xs) i depth scope o found k = all_sites r h xs i depth scope o found (record { here = k.here; numbered = k.numbered; placed = k.placed; prefix = k.prefix; unbounded = k.unbounded })
    form_sites r h at (if_then v x) i depth scope o found k = sites r h x i.1 depth scope (known_where_value look v true o) found
        (record { here = branch_here r h (declared_in x) scope true v i.0.whole o k.here; numbered = k.numbered; placed = k.placed; prefix = k.prefix; unbounded = k.unbounded })
    form_sites r h at (if_else v x y) i depth scope o found k =
        let first : Option Environment = known_where_value look v true o in
        let other : Option Environment = known_where_value look v false o in
        let next : LoopsFound = loops_in look depth x first found in
        let more = extends look depth y other next in
        let count = (extends look depth x first found).count in
        let here_left : MaybeHere (declared_in x) scope o = part_here (declared_in x ++ declared_in y) (declared_in x) scope o (λ e. before_left f.variables (declared_in x) (declared_in y) e) k.here in
        let here_right : MaybeHere (declared_in y) scope o = part_here (declared_in x ++ declared_in y) (declared_in y) scope o (λ e. before_right f.variables (declared_in x) (declared_in y) e) k.here in
        sites_both f task all.claims (length found.claims) (length next.claims) (loop_sites_in depth scope x) (loop_sites_in depth scope y) (count ∙ ap (λ n. length found.claims + n) (sym (sites_count depth scope x)))
        (sites r h x i.1 depth scope first found (record {
          here = branch_here r h (declared_in x) scope true v i.0.whole o here_left;
          numbered = numbered_left (length found.claims) (heads_in x) (heads_in y) k.numbered;
          placed = each_left (Placed p f c typed taken task offers all Stands short stands are offered) (loops_within x) (loops_within y) k.placed;
          prefix = earlier p f c typed taken task offers all Stands short stands are offered _ _ _ more k.prefix;
          unbounded = more.bounded k.unbounded;
        }))
        (sites r h y i.2 depth scope other next (record {
          here = branch_here r h (declared_in y) scope false v i.0.whole o here_right;
          numbered = numbered_right (length found.claims) (length next.claims) (heads_in x) (heads_in y) count k.numbered;
          placed = each_right (Placed p f c typed taken task offers all Stands short stands are offered) (loops_within x) (loops_within y) k.placed;
          prefix = k.prefix;
          unbounded = k.unbounded;
        }))
    form_sites r h at (loop head first tested third body) i depth scope o found k =
        let turned : LoopPassed = loop_passed look depth head first tested third body o found in
        let lf : LoopFound = reached_found (offers head.number depth (Some (record { head = head; first = first; tested = tested; third = third; body = body }))) (is_task task head.number) head.span (trial_rounds f.variables head.keyword tested third body) (loop_entry look (assigned_in look (loop head first tested third body)) tested) depth (known_at_entry look found first o) in
        let more = extends look (suc depth) body turned.inside turned.found in
        let speaks = loop_some r h at head first tested third body i depth scope o found (record { here = k.here; numbered = k.numbered; placed = k.placed; prefix = k.prefix; unbounded = k.unbounded }) in
        let there : slice_get all.claims (length found.claims) ≡ Some lf.claim = k.prefix.claims (length found.claims) lf.claim (more.keeps (length found.claims) lf.claim (last_one found.claims lf.claim)) in
        let count : length turned.found.claims ≡ length found.claims + 1 = length-append found.claims (lf.claim ∷ []) in
        let next : length turned.found.claims ≡ suc (length found.claims) = omega (arith, count) in
        let deeper : suc depth ≡ depth + 1 = omega arith in
        let inner : Fits (length turned.found.claims) (loop_sites_in (suc depth) (in_scope_after_all scope first) body) =
        sites (record (after_all r first) { in_loop = true }) (let j = in_after_all p f r first h in record { program_is = j.program_is; function_is = j.function_is }) body i.3 (suc depth) (in_scope_after_all scope first) turned.inside turned.found (record {
          here = speaks.here;
          numbered = subst (λ (n : ℕ). Numbered n (heads_in body)) (sym next) k.numbered.1;
          placed = k.placed.1;
          prefix = k.prefix;
          unbounded = k.unbounded;
        }) in (
          (λ l e. subst (λ (x : Loop). fits_loop f task (record { depth = depth; head = head; scope = in_scope_after_all scope first }) x ≡ true) (same_Some _ _ (sym there ∙ e)) (site_fits depth (in_scope_after_all scope first) head lf.claim speaks.depth_is speaks.rank speaks.vars)),
          subst (λ (d : ℕ). Fits (suc (length found.claims)) (loop_sites_in d (in_scope_after_all scope first) body)) deeper (subst (λ (n : ℕ). Fits n (loop_sites_in (suc depth) (in_scope_after_all scope first) body)) next inner),
        )
    form_sites r h at (switch keyword v labels body) i depth scope o found k = switch_sites labels (record r { in_switch = true }) (record { program_is = h.program_is; function_is = h.function_is }) body i.1 (λ e. i.0.declares_nothing) depth scope (known_after_value look v o) found
        (record { here = chosen_here (declared_in body) scope v o k.here; numbered = k.numbered; placed = k.placed; prefix = k.prefix; unbounded = k.unbounded })
    form_sites r h at form i depth scope o found k = tt

    pub all_sites : (r : Region) → IsIn p f r → (xs : PlainStatements) → AreWholeStatements r xs → (depth : ℕ) (scope : List ℕ) (o : Option Environment) (found : LoopsFound) → Sited (declared_of xs) (heads_of xs) (loops_among xs) scope o found (loops_in_all look depth xs o found) →
        Fits (length found.claims) (loop_sites_of depth scope xs)
    all_sites r h no_statements i depth scope o found k = tt
    all_sites r h (more_statements x rest) i depth scope o found k =
        let next : LoopsFound = loops_in look depth x o found in
        let later : Option Environment = known_after_statement look next x o in
        let more = all_extend look depth rest later next in
        let count = (extends look depth x o found).count in
        let numbers = numbered_left (length found.claims) (heads_in x) (heads_of rest) k.numbered in
        let places = each_left (Placed p f c typed taken task offers all Stands short stands are offered) (loops_within x) (loops_among rest) k.placed in
        let prefix : Prefix p f c typed taken task offers all Stands short stands are offered next = earlier p f c typed taken task offers all Stands short stands are offered _ _ _ more k.prefix in
        sites_both f task all.claims (length found.claims) (length next.claims) (loop_sites_in depth scope x) (loop_sites_of depth (in_scope_after scope x) rest) (count ∙ ap (λ n. length found.claims + n) (sym (sites_count depth scope x)))
        (sites r h x i.0 depth scope o found (record { here = part_here (declared_in x ++ declared_of rest) (declared_in x) scope o (λ e. before_left f.variables (declared_in x) (declared_of rest) e) k.here; numbered = numbers; placed = places; prefix = prefix; unbounded = more.bounded k.unbounded }))
        (all_sites (after r x) (in_after p f r x h) rest i.1 depth (in_scope_after scope x) later next (record {
          here = after_here r h x i.0 rest scope depth o found k.here numbers places prefix (more.bounded k.unbounded);
          numbered = numbered_right (length found.claims) (length next.claims) (heads_in x) (heads_of rest) count k.numbered;
          placed = each_right (Placed p f c typed taken task offers all Stands short stands are offered) (loops_within x) (loops_among rest) k.placed;
          prefix = k.prefix;
          unbounded = k.unbounded;
        }))

    switch_sites : (labels : PlainLabels) (r : Region) → IsIn p f r → (x : PlainStatement) → IsWholeStatement r x → (is_block x ≡ true → All (λ s. is_declaration s ≡ false) (switch_items x)) → (depth : ℕ) (scope : List ℕ) (o : Option Environment) (found : LoopsFound) →
        Sited (declared_in x) (heads_in x) (loops_within x) scope o found (loops_in_switch look depth labels x o found) → Fits (length found.claims) (loop_sites_in depth scope x)
    switch_sites labels r h (statement at form) i d depth scope o found k = case_sites labels r h at form i d depth scope o found
        (λ z. form_sites r h at form i depth scope None found z)
        (record { here = k.here; numbered = k.numbered; placed = k.placed; prefix = k.prefix; unbounded = k.unbounded })

    case_sites : (labels : PlainLabels) (r : Region) → IsIn p f r → (at : At) (form : PlainStatementForm) → IsWholeStatementForm r form → (is_block (statement at form) ≡ true → All (λ s. is_declaration s ≡ false) (switch_items (statement at form))) → (depth : ℕ) (scope : List ℕ) (o : Option Environment) (found : LoopsFound) →
        (Sited (declared_in_form form) (heads_in_form form) (loops_within_form form) scope None found (loops_in_form look depth form None found) → Fits (length found.claims) (loop_sites_in_form depth scope form)) →
        Sited (declared_in_form form) (heads_in_form form) (loops_within_form form) scope o found (loops_in_cases look depth labels form o found (loops_in_form look depth form None found)) → Fits (length found.claims) (loop_sites_in_form depth scope form)
    case_sites labels r h at (block xs) i d depth scope o found other k = from_sites labels r h 0 xs i (d refl) depth scope o None found tt (record { here = k.here; numbered = k.numbered; placed = k.placed; prefix = k.prefix; unbounded = k.unbounded })
    case_sites labels r h at form i d depth scope o found other k = other (record { here = tt; numbered = k.numbered; placed = k.placed; prefix = k.prefix; unbounded = k.unbounded })

    from_sites : (labels : PlainLabels) (r : Region) → IsIn p f r → (n : ℕ) (xs : PlainStatements) → AreWholeStatements r xs → All (λ s. is_declaration s ≡ false) (statements_list xs) → (depth : ℕ) (scope : List ℕ) (o before : Option Environment) (found : LoopsFound) →
        MaybeHere (declared_of xs) scope before → Sited (declared_of xs) (heads_of xs) (loops_among xs) scope o found (loops_from look depth labels n xs o before found) → Fits (length found.claims) (loop_sites_of depth scope xs)
    from_sites labels r h n no_statements i d depth scope o before found b k = tt
    from_sites labels r h n (more_statements x rest) i d depth scope o before found b k =
        let enters : Option Environment = if is_labelled n labels then hull_reached before o else before in
        let next : LoopsFound = loops_in look depth x enters found in
        let later : Option Environment = known_after_statement look next x enters in
        let more = from_extends look depth labels (suc n) rest o later next in
        let count = (extends look depth x enters found).count in
        let numbers = numbered_left (length found.claims) (heads_in x) (heads_of rest) k.numbered in
        let places = each_left (Placed p f c typed taken task offers all Stands short stands are offered) (loops_within x) (loops_among rest) k.placed in
        let prefix : Prefix p f c typed taken task offers all Stands short stands are offered next = earlier p f c typed taken task offers all Stands short stands are offered _ _ _ more k.prefix in
        let coming : MaybeHere (declared_in x ++ declared_of rest) scope enters = if_here (declared_in x ++ declared_of rest) scope (is_labelled n labels) (hull_reached before o) before (hull_here (declared_in x ++ declared_of rest) scope before o b k.here) b in
        sites_both f task all.claims (length found.claims) (length next.claims) (loop_sites_in depth scope x) (loop_sites_of depth (in_scope_after scope x) rest) (count ∙ ap (λ n. length found.claims + n) (sym (sites_count depth scope x)))
        (sites r h x i.0 depth scope enters found (record { here = part_here (declared_in x ++ declared_of rest) (declared_in x) scope enters (λ e. before_left f.variables (declared_in x) (declared_of rest) e) coming; numbered = numbers; placed = places; prefix = prefix; unbounded = more.bounded k.unbounded }))
        (from_sites labels (after r x) (in_after p f r x h) (suc n) rest i.1 (All-tail (λ s. is_declaration s ≡ false) x (statements_list rest) d) depth (in_scope_after scope x) o later next
        (after_here r h x i.0 rest scope depth enters found coming numbers places prefix (more.bounded k.unbounded)) (record {
          here = wider_here (declared_of rest) scope x o (part_here (declared_in x ++ declared_of rest) (declared_of rest) scope o (λ e. before_right f.variables (declared_in x) (declared_of rest) e) k.here);
          numbered = numbered_right (length found.claims) (length next.claims) (heads_in x) (heads_of rest) count k.numbered;
          placed = each_right (Placed p f c typed taken task offers all Stands short stands are offered) (loops_within x) (loops_among rest) k.placed;
          prefix = k.prefix;
          unbounded = k.unbounded;
        }))
