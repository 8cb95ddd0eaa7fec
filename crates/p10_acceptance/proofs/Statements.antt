-- Where the claims of the loops to which a pass comes fit, none of its conditions on a whole statement fails, and what it leaves is narrower than
-- what a trial pass leaves from a wider environment.
use Rattle.std.proofs.Common.{◌≡◌, ℕ, zero, suc, ◌+◌, ◌<◌, length, drop, Bool, true, false, List, [], ◌∷◌, ◌++◌, All, Option, Some, None, refl, ap, sym, ◌∙◌, subst, arith}
use Rattle.std.specs.Prelude.{slice_get, if◌then◌else◌, is_some, ◌||◌, ◌&&◌, IfSome}
use Rattle.std.specs.Option.{option_map}
use Rattle.std.proofs.lemmas.Option.{same_Some, none-some}
use Rattle.std.proofs.lemmas.List.Elements.{All-head, All-tail}
use Rattle.p10_base.specs.declared.at.At.{At}
use Rattle.p10_base.specs.declared.span.Span.{Span}
use Rattle.p10_int.specs.declared.types.IntType.{IntType}
use Rattle.p10_range.specs.Ranges.{Interval, IsWithin}
use Rattle.p10_range.specs.Rows.{values_of}
use Rattle.p10_range.specs.Laws.{IsOfType}
use Rattle.p10_core.specs.declared.statements.LoopHead.{LoopHead}
use Rattle.p10_core.specs.declared.statements.LoopKeyword.{LoopKeyword}
use Rattle.p10_core.specs.declared.statements.LoopKeyword.TheVariants.{While, Do, For}
use Rattle.p10_core.specs.Types.{PlainType, unqualified}
use Rattle.p10_core.specs.Sizes.{scalars_of}
use Rattle.p10_core.specs.Constants.{integer_of}
use Rattle.p10_core.specs.Rows.{is_integer, is_pointer}
use Rattle.p10_core.specs.Typed.{PlainValue, type_of, PlainPlace, place, place_type, variable, global, literal, index, member, dereference, PlainItem, PlainWritten, one_scalar, scalars_of_text, PlainInitializer, not_initialized, single, copied, listed, PlainLabels, PlainStatement, statement, set, update, copy, evaluate, asserts, declare, declare_static, block, if_then, if_else, loop, switch, break, continue, return, empty, mark, PlainStatements, no_statements, more_statements, statements_list, PlainVariable, PlainFunction, PlainProgram}
use Rattle.p10_core.specs.Whole.{SeenVariable, IsWholeValue, IsWholePlace}
use Rattle.p10_core.specs.WholePrograms.{Region, is_among, seen_variable, surroundings_of, around, after, after_all, AreWholeItems, IsWholeWritten, width_of_written, IsWholeInitializer, IsMaybeTest, is_declaration, IsWholeStatement, AreWholeStatements, declared_in, declared_of}
use Rattle.p10_cert.specs.Claims.{Value, Loop, Claims}
use Rattle.p10_absx.specs.Abstract.{Abstract, whole_type}
use Rattle.p10_absx.specs.Environments.{Environment, known, learned, hull_reached}
use Rattle.p10_absx.specs.Assessing.{assess, known_where, abstract_value}
use Rattle.p10_pass.specs.Scopes.{form_assigns, any_assigns, left_scope, assigned_forgotten}
use Rattle.p10_pass.specs.Claiming.{head_of, loop_claimed}
use Rattle.p10_pass.specs.Arguments.{has_value, failing_in, failing_at}
use Rattle.p10_pass.specs.Passing.{Manner, Weakness, Left, nowhere, reached, where_going, followed, and_then_pass, as_block, value_passed, items_passed, integer_declared, other_declared, declared, result_lies, range_returned, value_returned, by_claim, tested_in, round_of, loop_left, is_labelled, pass_statement, pass_statements, pass_from, trial_manner}
use Rattle.p10_execution.specs.Scoping.{KnowsNumbers, IsBefore}
use Rattle.p10_execution.proofs.TopDeclarations.{declares_here, declares_at_top, not_here, top_is_declared}
use Rattle.p10_execution.proofs.ScopedEnds.{nothing, third_declares, Scoped, MaybeScoped, scoped_here, scoped_same, ends_wider, reached_scoped, if_scoped, changed_scope, before_left, before_right, before_scoped, before_same, before_nothing, before_rest, before_body}
use Rattle.p10_execution.proofs.PassedScopes.{RoundScoped, truth_scoped, contrary_scoped, statement_scoped, statements_scoped, loop_scoped, item_scoped}
use Rattle.p10_acceptance.proofs.Narrowing.{within_itself, within_trans, whole_typed, Fits, LiesIn, Fair, Narrower, MaybeNarrower, narrower_itself, hull_narrower, learned_both}
use Rattle.p10_acceptance.proofs.Assessing.{same_kind}
use Rattle.p10_acceptance.proofs.Values.{IsSeen, AreTyped, AreSeen, abstract_fits, truth_narrower}
use Rattle.p10_acceptance.proofs.Shrinking.{Under, MaybeUnder, statements_under}
use Rattle.p10_acceptance.proofs.Calling.{MaybeTaken, no_names, value_stands, place_stands}
use Rattle.p10_acceptance.proofs.Ends.{each_both, range_typed, nowhere_fits, reaches_fit, calls_fit, followed_fit, beside_fit, going_fit, then_fit, block_fit, if_narrower, if_going, switch_fits, HasKind, set_narrower, updated_narrower, forgotten_narrower}
use Rattle.p10_acceptance.proofs.Fitting.{ClaimFits, NoJumps, entered, trial_round, Fitted, AllFitted, FromFitted, first_plain, third_plain, all_jump, all_fitted}
use Rattle.p10_acceptance.proofs.Rounds.{maybe_is, TestsFit, RoundFits, Fit, round_fits, head_fair, left_fits}

-- ## Regions of a function

-- a region lies in a function of a program
pub record IsIn (p : PlainProgram) (f : PlainFunction) (r : Region) : Type 0 where
  pub program_is : r.program ≡ p
  pub function_is : r.function ≡ f

pub in_after : (p : PlainProgram) (f : PlainFunction) (r : Region) (x : PlainStatement) → IsIn p f r → IsIn p f (after r x)
in_after p f r (statement at (declare n i)) h = record { program_is = h.program_is; function_is = h.function_is }
in_after p f r (statement at (set q v)) h = h
in_after p f r (statement at (update kind op t q v)) h = h
in_after p f r (statement at (copy q s)) h = h
in_after p f r (statement at (evaluate v)) h = h
in_after p f r (statement at (asserts there v)) h = h
in_after p f r (statement at (declare_static n)) h = h
in_after p f r (statement at (block xs)) h = h
in_after p f r (statement at (if_then v x)) h = h
in_after p f r (statement at (if_else v x y)) h = h
in_after p f r (statement at (loop head first test third body)) h = h
in_after p f r (statement at (switch keyword v labels body)) h = h
in_after p f r (statement at break) h = h
in_after p f r (statement at continue) h = h
in_after p f r (statement at (return keyword v)) h = h
in_after p f r (statement at empty) h = h
in_after p f r (statement at (mark kind)) h = h

pub in_after_all : (p : PlainProgram) (f : PlainFunction) (r : Region) (xs : PlainStatements) → IsIn p f r → IsIn p f (after_all r xs)
in_after_all p f r no_statements h = h
in_after_all p f r (more_statements x rest) h = in_after_all p f (after r x) rest (in_after p f r x h)

-- the variables that are seen in a region are those of its function
pub seen_in : (p : PlainProgram) (f : PlainFunction) (r : Region) → IsIn p f r → AreSeen f.variables (around r)
seen_in p f r h n x e = by_scope (is_among n r.scope) (slice_get r.function.variables n) refl e
  where
    by_scope : (b : Bool) (o : Option PlainVariable) → slice_get r.function.variables n ≡ o → (if b then option_map seen_variable o else None) ≡ Some x → IsSeen f.variables n x
    by_scope false o q e = absurd (none-some _ e)
    by_scope true None q e = absurd (none-some _ e)
    by_scope true (Some v) q e = record {
      variable = v;
      there = ap (λ (g : PlainFunction). slice_get g.variables n) (sym h.function_is) ∙ q;
      type_is = sym (ap (λ (y : SeenVariable). y.type) (same_Some _ _ e));
    }

module _ (p : PlainProgram) (f : PlainFunction) (calls : Option Claims) (typed : AreTyped (surroundings_of p) calls) (taken : MaybeTaken (surroundings_of p) calls) (loops : Option (List Loop)) (result : Option Value) (lies : (r : Interval) → result_lies result r ≡ true) (Stands : ℕ → Environment → Type 0) where
  abbrev pub variables : List PlainVariable
  variables = f.variables

  abbrev kind : IntType
  kind = integer_of f.result

  abbrev pub m : Manner
  m = record { calls = calls; loops = loops; result = result; variables = variables }

  abbrev pub t : Manner
  t = trial_manner variables

  abbrev Good : Weakness → Type 0
  Good w = Stands w.at w.entry

  -- what is left fits what is left in a trial
  abbrev pub Fine : Left → Left → Type 0
  Fine a b = Fit variables calls loops result kind Stands a b

  typed_in : (r : Region) → IsIn p f r → AreTyped (around r) calls
  typed_in r h = subst (λ (q : PlainProgram). AreTyped (surroundings_of q) calls) (sym h.program_is) typed

  taken_in : (r : Region) → IsIn p f r → MaybeTaken (around r) calls
  taken_in r h = of calls (subst (λ (q : PlainProgram). MaybeTaken (surroundings_of q) calls) (sym h.program_is) taken)
    where
      of : (c : Option Claims) → MaybeTaken (surroundings_of r.program) c → MaybeTaken (around r) c
      of None k = tt
      of (Some c) k = k

  -- ## Values

  module _ (r : Region) (h : IsIn p f r) where
    finds : (v : PlainValue) → IsWholeValue (around r) v → (env wide : Environment) → Narrower variables env wide → Fits (integer_of (type_of v)) (abstract_value calls env v) (abstract_value None wide v)
    finds v i env wide n = abstract_fits variables (around r) (seen_in p f r h) calls (typed_in r h) v i env wide n

    pub tests : (truth : Bool) (v : PlainValue) → IsWholeValue (around r) v → (env wide : Environment) → Narrower variables env wide → MaybeNarrower variables (known_where truth env (assess calls v env)) (known_where truth wide (assess None v wide))
    tests truth v i env wide n = truth_narrower variables (around r) (seen_in p f r h) calls (typed_in r h) truth v i env wide n

    no_call : (v : PlainValue) → IsWholeValue (around r) v → (env : Environment) → Fair variables env → failing_in calls v env ≡ []
    no_call v i env g = value_stands variables (around r) (seen_in p f r h) calls (typed_in r h) (taken_in r h) v i env g

    no_call_at : (q : PlainPlace) → IsWholePlace (around r) q → (env : Environment) → Fair variables env → failing_at calls q env ≡ []
    no_call_at q i env g = place_stands variables (around r) (seen_in p f r h) calls (typed_in r h) (taken_in r h) q i env g

    has_wider : (v : PlainValue) → IsWholeValue (around r) v → (env wide : Environment) → Narrower variables env wide → has_value calls v env ≡ true → has_value None v wide ≡ true
    has_wider v i env wide n = at (is_pointer (type_of v)) (abstract_value calls env v) (abstract_value None wide v) (finds v i env wide n)
      where
        at : (b : Bool) (a c : Option Abstract) → Fits (integer_of (type_of v)) a c → b || is_some a ≡ true → b || is_some c ≡ true
        at true a c k e = refl
        at false None c k e = absurd cc
        at false (Some a) None k e = absurd k.1
        at false (Some a) (Some c) k e = refl

    passed_fits : (v : PlainValue) → IsWholeValue (around r) v → (env wide : Environment) → Narrower variables env wide → Fine (value_passed m v env) (value_passed t v wide)
    passed_fits v i env wide n = calls_fit variables kind Good (failing_in calls v env) (failing_in None v wide) _ _ (no_call v i env n.fair)
        (reaches_fit variables kind Good _ _ (by_tests (has_value calls v env) (has_value None v wide) (has_wider v i env wide n)))
      where
        by_tests : (b c : Bool) → (b ≡ true → c ≡ true) → MaybeNarrower variables (if b then Some env else None) (if c then Some wide else None)
        by_tests true true k = n
        by_tests true false k = let e = k refl in absurd cc
        by_tests false c k = tt

    place_kind : (q : PlainPlace) → IsWholePlace (around r) q → HasKind variables q
    place_kind (place at u (variable n)) i = λ v there.
        let s : IsSeen variables n i.seen = seen_in p f r h n i.seen i.there in
        let same : s.variable ≡ v = same_Some _ _ (sym s.there ∙ there) in
        ap (λ (x : PlainVariable). integer_of x.type) (sym same) ∙ ap integer_of (sym (i.type_is ∙ s.type_is))
    place_kind (place at u (global n)) i = tt
    place_kind (place at u (literal n bytes)) i = tt
    place_kind (place at u (index a j)) i = tt
    place_kind (place at u (member s k)) i = tt
    place_kind (place at u (dereference v)) i = tt

    -- ## Initialisers

    items_fit : (scalars : List PlainType) (items : List PlainItem) (from : ℕ) → AreWholeItems (around r) scalars from items → (env wide : Environment) → Narrower variables env wide → Fine (items_passed m items env) (items_passed t items wide)
    items_fit scalars [] from i env wide n = reaches_fit variables kind Good (Some env) (Some wide) n
    items_fit scalars (item ∷ items) from i env wide n = first item.written i.1 (λ e w k. items_fit scalars items (item.scalar + width_of_written item.written) i.2 e w k)
      where
        first : (written : PlainWritten) → IsWholeWritten (around r) (drop item.scalar scalars) written → ((e w : Environment) → Narrower variables e w → Fine (items_passed m items e) (items_passed t items w)) →
            Fine (items_passed m (record item { written = written } ∷ items) env) (items_passed t (record item { written = written } ∷ items) wide)
        first (one_scalar v) j rest = then_fit variables kind Good (value_passed m v env) (value_passed t v wide) _ _ (passed_fits v j.whole env wide n) (λ e w q k. rest e w k)
        first (scalars_of_text bytes) j rest = then_fit variables kind Good (reached (Some env)) (reached (Some wide)) _ _ (reaches_fit variables kind Good (Some env) (Some wide) n) (λ e w q k. rest e w k)

    other_fits : (u : PlainType) (initializer : PlainInitializer) → IsWholeInitializer (around r) u initializer → (env wide : Environment) → Narrower variables env wide → Fine (other_declared m initializer env) (other_declared t initializer wide)
    other_fits u not_initialized i env wide n = reaches_fit variables kind Good (Some env) (Some wide) n
    other_fits u (single v) i env wide n = passed_fits v i.whole env wide n
    other_fits u (copied q) i env wide n = calls_fit variables kind Good (failing_at calls q env) (failing_at None q wide) _ _ (no_call_at q i.whole env n.fair) (reaches_fit variables kind Good (Some env) (Some wide) n)
    other_fits u (listed at items) i env wide n = items_fit (scalars_of (around r).structures u) items 0 i.whole env wide n

    learned_whole : (n : ℕ) (v : PlainVariable) → slice_get variables n ≡ Some v → (a b : Abstract) (env wide : Environment) → Narrower variables env wide → IsOfType (integer_of v.type) a.range → IsWithin a.range b.range → Narrower variables (learned env n a) (learned wide n b)
    learned_whole n v there a b env wide k i w = learned_both variables env wide n a b k (let s = inside n v variables there in let l = k.fair.long in omega (arith, s, l))
        (λ u e. subst (λ (x : PlainVariable). IsOfType (integer_of x.type) a.range) (same_Some _ _ (sym there ∙ e)) i) w
      where
        inside : (n : ℕ) (v : PlainVariable) (xs : List PlainVariable) → slice_get xs n ≡ Some v → n < length xs
        inside n v [] e = absurd (none-some _ e)
        inside zero v (x ∷ xs) e = omega arith
        inside (suc n) v (x ∷ xs) e = let s = inside n v xs e in omega (arith, s)

    integer_fits : (n : ℕ) (v : PlainVariable) → slice_get variables n ≡ Some v → (initializer : PlainInitializer) → IsWholeInitializer (around r) v.type initializer → (env wide : Environment) → Narrower variables env wide →
        Fine (integer_declared m n (integer_of v.type) initializer env) (integer_declared t n (integer_of v.type) initializer wide)
    integer_fits n v there (single e) i env wide k =
        let seen = learned_whole n v there (whole_type (integer_of v.type)) (whole_type (integer_of v.type)) env wide k (whole_typed (integer_of v.type)) (within_itself (values_of (integer_of v.type))) in
        calls_fit variables kind Good (failing_in calls e (learned env n (whole_type (integer_of v.type)))) (failing_in None e (learned wide n (whole_type (integer_of v.type)))) _ _ (no_call e i.whole _ seen.fair)
        (reaches_fit variables kind Good _ _ (again _ _ seen (abstract_value calls (learned env n (whole_type (integer_of v.type))) e) (abstract_value None (learned wide n (whole_type (integer_of v.type))) e) (finds e i.whole _ _ seen)))
      where
        again : (x y : Environment) → Narrower variables x y → (a b : Option Abstract) → Fits (integer_of (type_of e)) a b → MaybeNarrower variables (option_map (learned x n) a) (option_map (learned y n) b)
        again x y s None b q = tt
        again x y s (Some a) None q = absurd q.1
        again x y s (Some a) (Some b) q = learned_whole n v there a b x y s (subst (λ (c : IntType). IsOfType c a.range) (ap integer_of i.type_is ∙ same_kind v.type) q.0) q.1
    integer_fits n v there not_initialized i env wide k = reaches_fit variables kind Good _ _ (learned_whole n v there _ _ env wide k (whole_typed (integer_of v.type)) (within_itself (values_of (integer_of v.type))))
    integer_fits n v there (copied q) i env wide k = reaches_fit variables kind Good _ _ (learned_whole n v there _ _ env wide k (whole_typed (integer_of v.type)) (within_itself (values_of (integer_of v.type))))
    integer_fits n v there (listed at items) i env wide k = reaches_fit variables kind Good _ _ (learned_whole n v there _ _ env wide k (whole_typed (integer_of v.type)) (within_itself (values_of (integer_of v.type))))

    declared_fits : (n : ℕ) (v : PlainVariable) → slice_get variables n ≡ Some v → (o : Option PlainVariable) → o ≡ Some v → (initializer : PlainInitializer) → IsWholeInitializer (around r) v.type initializer → (env wide : Environment) → Narrower variables env wide →
        Fine (declared m n o initializer env) (declared t n o initializer wide)
    declared_fits n v there None e initializer i env wide k = absurd (none-some _ e)
    declared_fits n v there (Some u) e initializer i env wide k =
        subst (λ (u : PlainVariable). Fine (declared m n (Some u) initializer env) (declared t n (Some u) initializer wide)) (sym (same_Some _ _ e)) (at (v.frame && is_integer v.type))
      where
        at : (b : Bool) → Fine (if b then integer_declared m n (integer_of v.type) initializer env else other_declared m initializer env) (if b then integer_declared t n (integer_of v.type) initializer wide else other_declared t initializer wide)
        at true = integer_fits n v there initializer i env wide k
        at false = other_fits v.type initializer i env wide k

    -- ## Returns and tests

    returned_fits : (keyword : Span) (v : PlainValue) → IsWholeValue (around r) v → type_of v ≡ unqualified f.result → (env : Environment) (b : Left) → Fair variables env → Fine (value_returned m keyword v env) b
    returned_fits keyword v i e env b g = at (is_integer (type_of v)) (abstract_value calls env v) (finds v i env env (narrower_itself variables env g))
      where
        at : (c : Bool) (a : Option Abstract) → Fits (integer_of (type_of v)) a (abstract_value None env v) → Fine (if c then range_returned m keyword a env else record nowhere { returns = Some env }) b
        at true None k = nowhere_fits variables kind Good b
        at true (Some a) k = record { normal = tt; breaks = tt; continues = tt; returned = subst (λ (x : IntType). IsOfType x a.range) (ap integer_of e ∙ same_kind f.result) k.0; arguments = refl; results = ap (λ (b : Bool). if b then [] else keyword ∷ []) (lies a.range); entries = refl; backs = refl; weak = tt }
        at false a k = record { normal = tt; breaks = tt; continues = tt; returned = tt; arguments = refl; results = refl; entries = refl; backs = refl; weak = tt }

    pub maybe_tests : (tested : Option PlainValue) → IsMaybeTest (around r) tested → (e w : Environment) → Narrower variables e w → TestsFit variables calls loops result kind Stands (tested_in m tested e) (tested_in t tested w)
    maybe_tests None i e w n = record { truth = n; contrary = tt; names = refl }
    maybe_tests (Some v) i e w n = record { truth = tests true v i.whole e w n; contrary = tests false v i.whole e w n; names = no_call v i.whole e n.fair }

  pub if_known : (o : Option Environment) (P : Environment → Type 0) (e : Environment) → IfSome o P → o ≡ Some e → P e
  if_known None P e h q = absurd (none-some _ q)
  if_known (Some d) P e h q = subst P (same_Some _ _ q) h

  pub fair_is : (o q : Option Environment) (e : Environment) → MaybeNarrower variables o q → o ≡ Some e → Fair variables e
  fair_is None q e h k = absurd (none-some _ k)
  fair_is (Some d) None e h k = absurd h
  fair_is (Some d) (Some w) e h k = subst (λ (x : Environment). Fair variables x) (same_Some _ _ k) h.fair

  -- ## Branches

  pub truth_scope : (truth : Bool) (v : PlainValue) (env : Environment) → KnowsNumbers variables env → MaybeScoped variables nothing env (known_where truth env (assess calls v env))
  truth_scope true v env k = truth_scoped variables calls loops result (Some v) env k
  truth_scope false v env k = contrary_scoped variables calls loops result (Some v) env k

  branch : (r : Region) → IsIn p f r → (x : PlainStatement) (truth : Bool) (v : PlainValue) → IsWholeValue (around r) v → (env wide : Environment) → IsBefore variables (declared_in x) env → Narrower variables env wide →
      IfSome (known_where truth env (assess calls v env)) (λ e. Fitted variables calls loops result Stands x e) →
      ((e w : Environment) → IsBefore variables (declared_in x) e → Narrower variables e w → Fitted variables calls loops result Stands x e → Fine (pass_statement m x e) (pass_statement t x w)) →
      Fine (where_going (known_where truth env (assess calls v env)) (λ env. pass_statement m x env)) (where_going (known_where truth wide (assess None v wide)) (λ env. pass_statement t x env))
  branch r h x truth v i env wide b n g go = going_fit variables kind Good _ _ _ _ (tests r h truth v i env wide n)
      (λ e w q k. go e w (before_scoped variables nothing (declared_in x) env e b (maybe_is variables nothing env (known_where truth env (assess calls v env)) e (truth_scope truth v env b.knows) q) (λ n o. refl)) k (if_known _ _ e g q))

  -- ## Loops

  under_by : (x y z : Option Abstract) → LiesIn x y → is_some y ≡ true → Under y z → Under x z
  under_by None y z l s u = tt
  under_by (Some x) None z l s u = absurd cc
  under_by (Some x) (Some y) None l s u = absurd u
  under_by (Some x) (Some y) (Some z) l s u = within_trans x.range y.range z.range l u

  pub entered_scope : (keyword : LoopKeyword) (tested : Option PlainValue) (head : Environment) → KnowsNumbers variables head → MaybeScoped variables nothing head (entered variables calls loops result Stands keyword tested head)
  entered_scope While tested head k = truth_scoped variables calls loops result tested head k
  entered_scope For tested head k = truth_scoped variables calls loops result tested head k
  entered_scope Do tested head k = scoped_here variables nothing head k

  none_left : (first : PlainStatements) (l l' b : Left) → Fine l l' → NoJumps variables calls loops result Stands l → Fine (as_block first (followed l nowhere)) b
  none_left first l l' b h j = record {
    normal = tt;
    breaks = no_end l.breaks j.breaks b.breaks;
    continues = no_end l.continues j.continues b.continues;
    returned = range_typed kind l.returned None h.returned tt;
    arguments = no_names l.arguments [] h.arguments refl;
    results = no_names l.results [] h.results refl;
    entries = no_names l.entries [] h.entries refl;
    backs = no_names l.backs [] h.backs refl;
    weak = each_both Good l.weak [] h.weak tt;
  }
    where
      no_end : (o : Option Environment) → o ≡ None → (w : Option Environment) → MaybeNarrower variables (option_map (left_scope first) (hull_reached o None)) w
      no_end o e w = subst (λ (z : Option Environment). MaybeNarrower variables (option_map (left_scope first) (hull_reached z None)) w) (sym e) tt

  module _ (r : Region) (h : IsIn p f r) (at : At) (head : LoopHead) (first : PlainStatements) (tested : Option PlainValue) (third : PlainStatements) (body : PlainStatement) (i : IsWholeStatement r (statement at (loop head first tested third body)))
      (env wide : Environment) (b : IsBefore variables (declared_of first ++ declared_in body) env) (n : Narrower variables env wide)
      (first_fits : (w : Environment) → Narrower variables env w → Fine (pass_statements m first env) (pass_statements t first w))
      (third_fits : (e w : Environment) → KnowsNumbers variables e → Narrower variables e w → Fine (pass_statements m third e) (pass_statements t third w))
      (body_fits : (e w : Environment) → IsBefore variables (declared_in body) e → Narrower variables e w → Fitted variables calls loops result Stands body e → Fine (pass_statement m body e) (pass_statement t body w)) where
    abbrev assigned : ℕ → Bool
    assigned k = form_assigns k (loop head first tested third body)

    abbrev inner : Region
    inner = after_all r first

    f_left : Left
    f_left = pass_statements m first env

    before_first : IsBefore variables (declared_of first) env
    before_first = before_left variables (declared_of first) (declared_in body) env b

    module _ (claim : Loop) (entry : Environment) (is : (pass_statements m first env).normal ≡ Some entry)
        (fits : ClaimFits variables Stands claim head.number assigned (trial_round variables calls loops result Stands head.keyword tested third body) entry)
        (inside : IfSome (entered variables calls loops result Stands head.keyword tested (head_of claim variables entry)) (λ e. Fitted variables calls loops result Stands body e)) where
      abbrev at_head : Environment
      at_head = head_of claim variables entry

      entry_scoped : Scoped variables (λ k. declares_at_top k first) env entry
      entry_scoped = maybe_is variables (λ k. declares_at_top k first) env (pass_statements m first env).normal entry (statements_scoped variables calls loops result r first i.0 env before_first).normal is

      itself : Fine (pass_statements m first env) (pass_statements t first env)
      itself = first_fits env (narrower_itself variables env n.fair)

      entry_fair : Fair variables entry
      entry_fair = fair_is (pass_statements m first env).normal (pass_statements t first env).normal entry itself.normal is

      entry_under : (k : ℕ) → any_assigns k first ≡ false → is_among k (declared_of first) ≡ false → is_some (known env k) ≡ true → Under (known entry k) (known env k)
      entry_under k a d e = of (pass_statements m first env).normal (pass_statements t first env).normal is itself.normal (statements_scoped variables None None None r first i.0 env before_first).normal (statements_under k variables first a d env).normal
        where
          top : declares_at_top k first ≡ false
          top = by_case (declares_at_top k first) refl
            where
              by_case : (c : Bool) → declares_at_top k first ≡ c → declares_at_top k first ≡ false
              by_case true q = let g : is_among k (declared_of first) ≡ true = top_is_declared k first q in absurd cc
              by_case false q = q

          of : (o w : Option Environment) → o ≡ Some entry → MaybeNarrower variables o w → MaybeScoped variables (λ k. declares_at_top k first) env w → MaybeUnder k w (known env k) → Under (known entry k) (known env k)
          of None w q x s u = absurd (none-some _ q)
          of (Some d) None q x s u = absurd x
          of (Some d) (Some w) q x s u = subst (λ (y : Environment). Under (known y k) (known env k)) (same_Some _ _ q) (under_by (known d k) (known w k) (known env k) (x.lies k) (s.same k top ∙ e) u)

      before_in : IsBefore variables (declared_in body) entry
      before_in = before_body variables first (declared_in body) env entry b entry_scoped

      head_knows : KnowsNumbers variables at_head
      head_knows = (scoped_same variables nothing entry at_head entry_scoped.knows (changed_scope variables _ entry)).knows

      of_body : IsBefore variables (declared_in body) at_head
      of_body = before_same variables (declared_in body) entry at_head before_in (changed_scope variables _ entry)

      before_at : (e : Environment) → Scoped variables nothing at_head e → IsBefore variables (declared_in body) e
      before_at e s = before_scoped variables nothing (declared_in body) at_head e of_body s (λ k o. refl)

      fair_head : Fair variables at_head
      fair_head = head_fair variables calls loops result kind Stands claim head.number assigned (trial_round variables calls loops result Stands head.keyword tested third body) entry entry_fair fits

      round : RoundFits variables calls loops result kind Stands (round_of m head.keyword tested (λ env. pass_statements m third env) (λ env. pass_statement m body env) at_head) (trial_round variables calls loops result Stands head.keyword tested third body at_head)
      round = round_fits variables calls loops result kind Stands tested third body at_head at_head (narrower_itself variables at_head fair_head) head_knows (maybe_tests inner (in_after_all p f r first h) tested i.1) third_fits
          (λ e s. ends_wider variables (λ k. declares_here k body) nothing e (pass_statement m body e) (λ k o. not_here k body i.5) (statement_scoped variables calls loops result (record inner { in_loop = true }) body i.3 e (before_at e s)))
          head.keyword
          (λ e w q k. body_fits e w (before_at e (maybe_is variables nothing at_head (entered variables calls loops result Stands head.keyword tested at_head) e (entered_scope head.keyword tested at_head head_knows) q)) k (if_known _ _ e inside q))

      none : declared_of third ≡ []
      none = third_declares head.keyword first tested third i.4

      scoped : RoundScoped variables calls loops result at_head (round_of m head.keyword tested (λ env. pass_statements m third env) (λ env. pass_statement m body env) at_head)
      scoped = loop_scoped variables calls loops result inner head first tested third body i.2 (record inner { in_loop = true }) i.3 i.5 none claim entry before_in

      trial_scoped : RoundScoped variables None None None at_head (trial_round variables calls loops result Stands head.keyword tested third body at_head)
      trial_scoped = loop_scoped variables None None None inner head first tested third body i.2 (record inner { in_loop = true }) i.3 i.5 none claim entry before_in

      entered_loop : Fine (as_block first (followed (pass_statements m first env) (loop_left m claim head assigned entry (round_of m head.keyword tested (λ env. pass_statements m third env) (λ env. pass_statement m body env) at_head)))) (reached (Some (assigned_forgotten assigned variables wide)))
      entered_loop = left_fits variables calls loops result kind Stands head first tested third body env wide entry claim b n entry_fair entry_scoped entry_under fits round scoped.exits scoped.back trial_scoped.exits trial_scoped.back
          (pass_statements m first env) (pass_statements t first env) itself (all_jump variables calls loops result Stands first (first_plain variables calls loops result Stands head.keyword first tested third i.4) env)

    by_entry : (claim : Loop) (q : Option Environment) → (pass_statements m first env).normal ≡ q → IfSome q (λ entry.
        ClaimFits variables Stands claim head.number assigned (trial_round variables calls loops result Stands head.keyword tested third body) entry
        × IfSome (entered variables calls loops result Stands head.keyword tested (head_of claim variables entry)) (λ e. Fitted variables calls loops result Stands body e)) →
        Fine (as_block first (followed (pass_statements m first env) (where_going q (λ entry. loop_left m claim head assigned entry (round_of m head.keyword tested (λ env. pass_statements m third env) (λ env. pass_statement m body env) (head_of claim m.variables entry))))))
        (reached (Some (assigned_forgotten assigned variables wide)))
    by_entry claim None e k = none_left first (pass_statements m first env) (pass_statements t first env) _ (first_fits env (narrower_itself variables env n.fair)) (all_jump variables calls loops result Stands first (first_plain variables calls loops result Stands head.keyword first tested third i.4) env)
    by_entry claim (Some entry) e k = entered_loop claim entry e k.0 k.1

    loop_fits : (o : Option (List Loop)) → IfSome o (λ ls. IfSome (pass_statements m first env).normal (λ entry.
        ClaimFits variables Stands (loop_claimed ls head.number) head.number assigned (trial_round variables calls loops result Stands head.keyword tested third body) entry
        × IfSome (entered variables calls loops result Stands head.keyword tested (head_of (loop_claimed ls head.number) variables entry)) (λ e. Fitted variables calls loops result Stands body e))) →
        Fine (by_claim o (reached (Some (assigned_forgotten assigned variables env)))
        (λ ls. as_block first (and_then_pass (pass_statements m first env) (λ entry.
        loop_left m (loop_claimed ls head.number) head assigned entry
        (round_of m head.keyword tested (λ env. pass_statements m third env) (λ env. pass_statement m body env) (head_of (loop_claimed ls head.number) m.variables entry))))))
        (reached (Some (assigned_forgotten assigned variables wide)))
    loop_fits None k = reaches_fit variables kind Good _ _ (forgotten_narrower variables assigned env wide b.knows n)
    loop_fits (Some ls) k = by_entry (loop_claimed ls head.number) (pass_statements m first env).normal refl k

  -- ## The induction

  mutual
    pub statement_fits : (r : Region) → IsIn p f r → (x : PlainStatement) → IsWholeStatement r x → (env wide : Environment) → IsBefore variables (declared_in x) env → Narrower variables env wide → Fitted variables calls loops result Stands x env →
        Fine (pass_statement m x env) (pass_statement t x wide)
    statement_fits r h (statement at (set q v)) i env wide b n g =
        calls_fit variables kind Good (failing_at calls q env ++ failing_in calls v env) (failing_at None q wide ++ failing_in None v wide) _ _ (no_names (failing_at calls q env) (failing_in calls v env) (no_call_at r h q i.place env n.fair) (no_call r h v i.value env n.fair))
        (reaches_fit variables kind Good _ _ (set_narrower variables q (place_kind r h q i.place) (type_of v) (ap integer_of i.type_is ∙ same_kind (place_type q)) (abstract_value calls env v) (abstract_value None wide v) env wide n (finds r h v i.value env wide n)))
    statement_fits r h (statement at (update how op u q v)) i env wide b n g =
        calls_fit variables kind Good (failing_at calls q env ++ failing_in calls v env) (failing_at None q wide ++ failing_in None v wide) _ _ (no_names (failing_at calls q env) (failing_in calls v env) (no_call_at r h q i.place env n.fair) (no_call r h v i.value env n.fair))
        (reaches_fit variables kind Good _ _ (updated_narrower variables op u q (place_kind r h q i.place) (integer_of (type_of v)) (abstract_value calls env v) (abstract_value None wide v) env wide b.knows n (finds r h v i.value env wide n)))
    statement_fits r h (statement at (copy q s)) i env wide b n g =
        calls_fit variables kind Good (failing_at calls q env ++ failing_at calls s env) (failing_at None q wide ++ failing_at None s wide) _ _ (no_names (failing_at calls q env) (failing_at calls s env) (no_call_at r h q i.target env n.fair) (no_call_at r h s i.source.whole env n.fair))
        (reaches_fit variables kind Good (Some env) (Some wide) n)
    statement_fits r h (statement at (evaluate v)) i env wide b n g = passed_fits r h v i env wide n
    statement_fits r h (statement at (asserts there v)) i env wide b n g = calls_fit variables kind Good (failing_in calls v env) (failing_in None v wide) _ _ (no_call r h v i.whole env n.fair) (reaches_fit variables kind Good _ _ (tests r h true v i.whole env wide n))
    statement_fits r h (statement at (declare k initializer)) i env wide b n g =
        let there : slice_get variables k ≡ Some i.variable = ap (λ (x : PlainFunction). slice_get x.variables k) (sym h.function_is) ∙ i.there in
        declared_fits (record r { scope = k ∷ r.scope }) (record { program_is = h.program_is; function_is = h.function_is }) k i.variable there (slice_get variables k) there initializer i.initializer env wide n
    statement_fits r h (statement at (declare_static k)) i env wide b n g = reaches_fit variables kind Good (Some env) (Some wide) n
    statement_fits r h (statement at (block xs)) i env wide b n g = block_fit variables kind Good xs _ _ (statements_fit r h xs i env wide b n g)
    statement_fits r h (statement at (if_then v x)) i env wide b n g = calls_fit variables kind Good (failing_in calls v env) (failing_in None v wide) _ _ (no_call r h v i.0.whole env n.fair)
        (beside_fit variables kind Good _ (reached (known_where false env (assess calls v env))) _ (reached (known_where false wide (assess None v wide)))
        (branch r h x true v i.0.whole env wide b n g (λ e w c k l. statement_fits r h x i.1 e w c k l))
        (reaches_fit variables kind Good _ _ (tests r h false v i.0.whole env wide n)))
    statement_fits r h (statement at (if_else v x y)) i env wide b n g = calls_fit variables kind Good (failing_in calls v env) (failing_in None v wide) _ _ (no_call r h v i.0.whole env n.fair)
        (beside_fit variables kind Good _ _ _ _
        (branch r h x true v i.0.whole env wide (before_left variables (declared_in x) (declared_in y) env b) n g.0 (λ e w c k l. statement_fits r h x i.1 e w c k l))
        (branch r h y false v i.0.whole env wide (before_right variables (declared_in x) (declared_in y) env b) n g.1 (λ e w c k l. statement_fits r h y i.2 e w c k l)))
    statement_fits r h (statement at (loop head first tested third body)) i env wide b n g =
        loop_fits r h at head first tested third body i env wide b n
        (λ w k. statements_fit r h first i.0 env w (before_left variables (declared_of first) (declared_in body) env b) k (all_fitted variables calls loops result Stands first (first_plain variables calls loops result Stands head.keyword first tested third i.4) env))
        (λ e w c k. statements_fit (after_all r first) (in_after_all p f r first h) third i.2 e w (before_nothing variables (declared_of third) e (third_declares head.keyword first tested third i.4) c) k
        (all_fitted variables calls loops result Stands third (third_plain variables calls loops result Stands head.keyword first tested third i.4) e))
        (λ e w c k l. statement_fits (record (after_all r first) { in_loop = true }) (let j = in_after_all p f r first h in record { program_is = j.program_is; function_is = j.function_is }) body i.3 e w c k l)
        loops g
    statement_fits r h (statement at (switch keyword v labels (statement there (block xs)))) i env wide b n g = calls_fit variables kind Good (failing_in calls v env) (failing_in None v wide) _ _ (no_call r h v i.0.whole env n.fair)
        (if_going variables kind Good (has_value calls v env) (has_value None v wide) _ _ (has_wider r h v i.0.whole env wide n)
        (λ e. switch_fits variables kind Good labels env wide (as_block xs (pass_from m labels 0 xs env None)) (as_block xs (pass_from t labels 0 xs wide None)) n
        (block_fit variables kind Good xs (pass_from m labels 0 xs env None) (pass_from t labels 0 xs wide None)
        (from_fit labels (record r { in_switch = true }) (record { program_is = h.program_is; function_is = h.function_is }) 0 xs i.1 i.0.declares_nothing env wide b n None None tt tt (g e)))))
    statement_fits r h (statement at (switch keyword v labels body)) i env wide b n g = calls_fit variables kind Good (failing_in calls v env) (failing_in None v wide) _ _ (no_call r h v i.0.whole env n.fair)
        (if_going variables kind Good (has_value calls v env) (has_value None v wide) (reached (Some env)) (reached (Some wide)) (has_wider r h v i.0.whole env wide n) (λ e. reaches_fit variables kind Good (Some env) (Some wide) n))
    statement_fits r h (statement at break) i env wide b n g = record { normal = tt; breaks = n; continues = tt; returned = tt; arguments = refl; results = refl; entries = refl; backs = refl; weak = tt }
    statement_fits r h (statement at continue) i env wide b n g = record { normal = tt; breaks = tt; continues = n; returned = tt; arguments = refl; results = refl; entries = refl; backs = refl; weak = tt }
    statement_fits r h (statement at (return keyword None)) i env wide b n g = record { normal = tt; breaks = tt; continues = tt; returned = tt; arguments = refl; results = refl; entries = refl; backs = refl; weak = tt }
    statement_fits r h (statement at (return keyword (Some v))) i env wide b n g = calls_fit variables kind Good (failing_in calls v env) (failing_in None v wide) _ (value_returned t keyword v wide) (no_call r h v i.0 env n.fair)
        (returned_fits r h keyword v i.0 (i.2 ∙ ap (λ (x : PlainFunction). unqualified x.result) h.function_is) env (value_returned t keyword v wide) n.fair)
    statement_fits r h (statement at empty) i env wide b n g = reaches_fit variables kind Good (Some env) (Some wide) n
    statement_fits r h (statement at (mark k)) i env wide b n g = reaches_fit variables kind Good (Some env) (Some wide) n

    pub statements_fit : (r : Region) → IsIn p f r → (xs : PlainStatements) → AreWholeStatements r xs → (env wide : Environment) → IsBefore variables (declared_of xs) env → Narrower variables env wide → AllFitted variables calls loops result Stands xs env →
        Fine (pass_statements m xs env) (pass_statements t xs wide)
    statements_fit r h no_statements i env wide b n g = reaches_fit variables kind Good (Some env) (Some wide) n
    statements_fit r h (more_statements x rest) i env wide b n g =
        let early : IsBefore variables (declared_in x) env = before_left variables (declared_in x) (declared_of rest) env b in
        then_fit variables kind Good (pass_statement m x env) (pass_statement t x wide) _ _ (statement_fits r h x i.0 env wide early n g.0)
        (λ e w q k. statements_fit (after r x) (in_after p f r x h) rest i.1 e w
        (before_rest variables x rest env e b (maybe_is variables (λ j. declares_here j x) env (pass_statement m x env).normal e (statement_scoped variables calls loops result r x i.0 env early).normal q)) k (if_known _ _ e g.1 q))

    from_fit : (labels : PlainLabels) (r : Region) → IsIn p f r → (k : ℕ) (xs : PlainStatements) → AreWholeStatements r xs → All (λ s. is_declaration s ≡ false) (statements_list xs) → (env wide : Environment) → IsBefore variables (declared_of xs) env → Narrower variables env wide →
        (before later : Option Environment) → MaybeNarrower variables before later → MaybeScoped variables nothing env before → FromFitted variables calls loops result Stands labels k xs env before →
        Fine (pass_from m labels k xs env before) (pass_from t labels k xs wide later)
    from_fit labels r h k no_statements i d env wide b n before later s c g = reaches_fit variables kind Good before later s
    from_fit labels r h k (more_statements x rest) i d env wide b n before later s c g =
        let plain : is_declaration x ≡ false = All-head (λ s. is_declaration s ≡ false) x (statements_list rest) d in
        let enters : Option Environment = if is_labelled k labels then hull_reached before (Some env) else before in
        let wenters : Option Environment = if is_labelled k labels then hull_reached later (Some wide) else later in
        let early : IsBefore variables (declared_in x) env = before_left variables (declared_in x) (declared_of rest) env b in
        let narrow : MaybeNarrower variables enters wenters = if_narrower variables kind Good (is_labelled k labels) (hull_reached before (Some env)) before (hull_reached later (Some wide)) later (hull_narrower variables before (Some env) later (Some wide) s n) s in
        let scope : MaybeScoped variables nothing env enters = if_scoped variables nothing env (is_labelled k labels) (hull_reached before (Some env)) before (reached_scoped variables nothing env before (Some env) c (scoped_here variables nothing env b.knows)) c in
        let one : Fine (where_going enters (λ env. pass_statement m x env)) (where_going wenters (λ env. pass_statement t x env)) = going_fit variables kind Good enters wenters (λ env. pass_statement m x env) (λ env. pass_statement t x env) narrow
        (λ e w q l. statement_fits r h x i.0 e w (before_scoped variables nothing (declared_in x) env e early (maybe_is variables nothing env enters e scope q) (λ n o. refl)) l (if_known enters (λ e. Fitted variables calls loops result Stands x e) e g.0 q)) in
        followed_fit variables kind Good (where_going enters (λ env. pass_statement m x env)) _ (where_going wenters (λ env. pass_statement t x env)) _ one
        (from_fit labels (after r x) (in_after p f r x h) (suc k) rest i.1 (All-tail (λ s. is_declaration s ≡ false) x (statements_list rest) d) env wide (before_right variables (declared_in x) (declared_of rest) env b) n
        (where_going enters (λ env. pass_statement m x env)).normal (where_going wenters (λ env. pass_statement t x env)).normal one.normal
        (item_scoped variables calls loops result r x i.0 plain env early enters scope).normal g.1)
