-- A pass over whole statements keeps ranges of their types.
use Rattle.std.proofs.Common.{◌≡◌, ℕ, suc, Bool, true, false, List, ◌∷◌, ◌++◌, Option, Some, None, refl, sym, ap, ◌∙◌, subst}
use Rattle.std.specs.Prelude.{slice_get, if◌then◌else◌, is_none}
use Rattle.std.specs.Option.{option_map}
use Rattle.p10_core.specs.declared.statements.LoopHead.{LoopHead}
use Rattle.p10_core.specs.Typed.{place_type, PlainLabels, PlainStatement, statement, set, update, copy, evaluate, asserts, declare, declare_static, block, if_then, if_else, loop, switch, break, continue, return, empty, mark, PlainStatements, no_statements, more_statements, PlainVariable, PlainFunction, PlainProgram}
use Rattle.p10_core.specs.Constants.{integer_of}
use Rattle.p10_core.specs.Whole.{SeenVariable, SeenFunction}
use Rattle.p10_core.specs.WholePrograms.{Region, is_among, seen_variable, seen_function, around, after, after_all, IsWholeStatement, AreWholeStatements}
use Rattle.p10_cert.specs.Claims.{Value, Loop, Claims}
use Rattle.p10_meaning.specs.Sound.{region_at}
use Rattle.p10_absx.specs.Environments.{Environment, hull_reached}
use Rattle.p10_pass.specs.Arguments.{has_value, failing_in, failing_at}
use Rattle.p10_pass.specs.Scopes.{offsets_restored}
use Rattle.p10_pass.specs.Claiming.{head_of, loop_claimed}
use Rattle.p10_pass.specs.Passing.{Left, Manner, nowhere, where_going, as_block, by_claim, Round, loop_left, is_labelled, switch_left, pass_statement, pass_statements, pass_from}
use Rattle.p10_known.specs.Typing.{AreOfTypes, MaybeOfTypes, EndsOfTypes, LoopsOfTypes, ResultsOfTypes}
use Rattle.p10_known.specs.Laws.{PassesKeepTypes}
use Rattle.p10_known.proofs.Environments.{reached_types, forgotten_types, restored_types}
use Rattle.p10_known.proofs.Values.{same_kind, Sees}
use Rattle.p10_known.proofs.Ends.{nowhere_ends, reached_ends, followed_ends, beside_ends, calls_ends, going_ends, then_ends, map_types, block_ends, if_types, if_ends}
use Rattle.p10_known.proofs.Parts.{head_types, loop_lines, known_types, set_types, updated_types, passed_ends, declared_ends, returned_ends, RoundOfTypes, round_types}

-- ## What stands round

seen_there : (n : ℕ) (b : Bool) (o : Option PlainVariable) (seen : SeenVariable) → (if b then option_map seen_variable o else None) ≡ Some seen → (v : PlainVariable) × (o ≡ Some v) × (seen.type ≡ v.type)
seen_there n true None seen e = absurd cc
seen_there n true (Some v) seen e = let same : seen_variable v ≡ seen = cc in (v, refl, sym (ap (λ (s : SeenVariable). s.type) same))
seen_there n false o seen e = absurd cc

called_there : (b : Bool) (o : Option PlainFunction) (seen : SeenFunction) → (if b then None else option_map seen_function o) ≡ Some seen → (g : PlainFunction) × (o ≡ Some g) × (seen.result ≡ g.result)
called_there true o seen e = absurd cc
called_there false None seen e = absurd cc
called_there false (Some g) seen e = let same : seen_function g ≡ seen = cc in (g, refl, sym (ap (λ (s : SeenFunction). s.result) same))

around_sees : (r : Region) → Sees r.program r.function (around r)
around_sees r = record {
  variables = λ n seen e. let there = seen_there n (is_among n r.scope) (slice_get r.function.variables n) seen e in record { variable = there.0; there = there.1; type_is = there.2 };
  functions = λ n seen e. let there = called_there _ (slice_get r.program.functions n) seen e in record { callee = there.0; there = there.1; type_is = there.2 };
}

-- a region lies in a function of a program
pub record Lies (p : PlainProgram) (f : PlainFunction) (r : Region) : Type 0 where
  pub program_is : r.program ≡ p
  pub function_is : r.function ≡ f

pub sees : (p : PlainProgram) (f : PlainFunction) (r : Region) → Lies p f r → Sees p f (around r)
sees p f r l = subst (λ q. Sees q f (around r)) l.program_is (subst (λ g. Sees r.program g (around r)) l.function_is (around_sees r))

pub after_lies : (p : PlainProgram) (f : PlainFunction) (r : Region) (x : PlainStatement) → Lies p f r → Lies p f (after r x)
after_lies p f r (statement at (declare n i)) l = record { program_is = l.program_is; function_is = l.function_is }
after_lies p f r x l = l

pub all_lies : (p : PlainProgram) (f : PlainFunction) (r : Region) (xs : PlainStatements) → Lies p f r → Lies p f (after_all r xs)
all_lies p f r no_statements l = l
all_lies p f r (more_statements x rest) l = all_lies p f (after r x) rest (after_lies p f r x l)

-- ## Statements

module _ (p : PlainProgram) (f : PlainFunction) (calls : Option Claims) (results : ResultsOfTypes p calls) (loops : Option (List Loop)) (claims : LoopsOfTypes f.variables loops) (result : Option Value) where
  abbrev m : Manner
  m = record { calls = calls; loops = loops; result = result; variables = f.variables }

  abbrev Typed : Environment → Type 0
  Typed env = AreOfTypes f.variables env

  abbrev Ends : Left → Type 0
  Ends a = EndsOfTypes f.variables f.result a

  claim_ends : (o : Option (List Loop)) (trial : Left) (go : List Loop → Left) → LoopsOfTypes f.variables o → Ends trial → ((ls : List Loop) → LoopsOfTypes f.variables (Some ls) → Ends (go ls)) → Ends (by_claim o trial go)
  claim_ends None trial go c h k = h
  claim_ends (Some ls) trial go c h k = k ls c

  left_ends : (claim : Loop) (head : LoopHead) (assigned : ℕ → Bool) (entry : Environment) (r : Round) → MaybeOfTypes f.variables r.exits → EndsOfTypes f.variables f.result r.body → Ends (loop_left m claim head assigned entry r)
  left_ends claim head assigned entry r exits body = record {
    normal = map_types f.variables f.result (offsets_restored assigned entry f.variables) r.exits (restored_types f.variables assigned entry) exits;
    breaks = tt;
    continues = tt;
    returns = map_types f.variables f.result (offsets_restored assigned entry f.variables) r.body.returns (restored_types f.variables assigned entry) body.returns;
    returned = body.returned;
  }

  switch_ends : (labels : PlainLabels) (env : Environment) (a : Left) → Typed env → Ends a → Ends (switch_left labels env a)
  switch_ends labels env a h k = record {
    normal = reached_types f.variables (hull_reached a.normal a.breaks) _ (reached_types f.variables a.normal a.breaks k.normal k.breaks) (if_types f.variables f.result (is_none labels.otherwise) (Some env) None h tt);
    breaks = tt;
    continues = k.continues;
    returns = k.returns;
    returned = k.returned;
  }

  mutual
    pub statement_types : (r : Region) → Lies p f r → (x : PlainStatement) → IsWholeStatement r x → (env : Environment) → Typed env → Ends (pass_statement m x env)
    statement_types r l (statement at (set q v)) i env h = calls_ends f.variables f.result (failing_at calls q env ++ failing_in calls v env) _
        (reached_ends f.variables f.result _ (set_types p f calls results loops result (around r) (sees p f r l) q v i.place i.value (ap integer_of i.type_is ∙ same_kind (place_type q)) env h))
    statement_types r l (statement at (update kind op t q v)) i env h = calls_ends f.variables f.result (failing_at calls q env ++ failing_in calls v env) _
        (reached_ends f.variables f.result _ (updated_types p f calls results loops result (around r) (sees p f r l) op t q v i.place i.value env h))
    statement_types r l (statement at (copy q s)) i env h = calls_ends f.variables f.result (failing_at calls q env ++ failing_at calls s env) _ (reached_ends f.variables f.result (Some env) h)
    statement_types r l (statement at (evaluate v)) i env h = passed_ends p f calls results loops result (around r) (sees p f r l) v env h
    statement_types r l (statement at (asserts call v)) i env h = calls_ends f.variables f.result (failing_in calls v env) _
        (reached_ends f.variables f.result _ (known_types p f calls results loops result (around r) (sees p f r l) true v i.whole env h))
    statement_types r l (statement at (declare n initializer)) i env h =
        let inner : Region = record r { scope = n ∷ r.scope } in
        declared_ends p f calls results loops result (around inner) (sees p f inner (record { program_is = l.program_is; function_is = l.function_is })) n (slice_get f.variables n) i.variable initializer refl
        (ap (λ (g : PlainFunction). slice_get g.variables n) (sym l.function_is) ∙ i.there) i.initializer env h
    statement_types r l (statement at (declare_static n)) i env h = reached_ends f.variables f.result (Some env) h
    statement_types r l (statement at (block xs)) i env h = block_ends f.variables f.result xs (pass_statements m xs env) (statements_types r l xs i env h)
    statement_types r l (statement at (if_then v x)) i env h = calls_ends f.variables f.result (failing_in calls v env) _
        (beside_ends f.variables f.result _ _
        (going_ends f.variables f.result _ (λ env. pass_statement m x env) (known_types p f calls results loops result (around r) (sees p f r l) true v i.0.whole env h) (λ e k. statement_types r l x i.1 e k))
        (reached_ends f.variables f.result _ (known_types p f calls results loops result (around r) (sees p f r l) false v i.0.whole env h)))
    statement_types r l (statement at (if_else v x z)) i env h = calls_ends f.variables f.result (failing_in calls v env) _
        (beside_ends f.variables f.result _ _
        (going_ends f.variables f.result _ (λ env. pass_statement m x env) (known_types p f calls results loops result (around r) (sees p f r l) true v i.0.whole env h) (λ e k. statement_types r l x i.1 e k))
        (going_ends f.variables f.result _ (λ env. pass_statement m z env) (known_types p f calls results loops result (around r) (sees p f r l) false v i.0.whole env h) (λ e k. statement_types r l z i.2 e k)))
    statement_types r l (statement at (loop head first tested third body)) i env h =
        claim_ends loops _ _ claims (reached_ends f.variables f.result _ (forgotten_types f.variables _ env h)) (λ ls c.
        block_ends f.variables f.result first _ (then_ends f.variables f.result (pass_statements m first env) _ (statements_types r l first i.0 env h) (λ entry k.
        let inner : Region = after_all r first in
        let lies : Lies p f inner = all_lies p f r first l in
        let claim : Loop = loop_claimed ls head.number in
        let at_head : Typed (head_of claim f.variables entry) = head_types f.variables claim entry (loop_lines f.variables ls head.number c) k in
        let turn : RoundOfTypes p f calls results loops result (around inner) (sees p f inner lies) _ =
        round_types p f calls results loops result (around inner) (sees p f inner lies) head.keyword tested i.1 (λ env. pass_statements m third env) (λ env. pass_statement m body env)
        (λ e j. statements_types inner lies third i.2 e j) (λ e j. statement_types (record inner { in_loop = true }) (record { program_is = lies.program_is; function_is = lies.function_is }) body i.3 e j) (head_of claim f.variables entry) at_head in
        left_ends claim head _ entry _ turn.exits turn.body)))
    statement_types r l (statement at (switch keyword v labels (statement there (block xs)))) i env h = calls_ends f.variables f.result (failing_in calls v env) _
        (if_ends f.variables f.result (has_value calls v env) _ nowhere
        (switch_ends labels env (as_block xs (pass_from m labels 0 xs env None)) h
        (block_ends f.variables f.result xs (pass_from m labels 0 xs env None) (from_types labels (record r { in_switch = true }) (record { program_is = l.program_is; function_is = l.function_is }) 0 xs i.1 env h None tt)))
        (nowhere_ends f.variables f.result))
    statement_types r l (statement at (switch keyword v labels body)) i env h = calls_ends f.variables f.result (failing_in calls v env) _
        (if_ends f.variables f.result (has_value calls v env) _ nowhere (reached_ends f.variables f.result (Some env) h) (nowhere_ends f.variables f.result))
    statement_types r l (statement at break) i env h = record { normal = tt; breaks = h; continues = tt; returns = tt; returned = tt }
    statement_types r l (statement at continue) i env h = record { normal = tt; breaks = tt; continues = h; returns = tt; returned = tt }
    statement_types r l (statement at (return keyword None)) i env h = record { normal = tt; breaks = tt; continues = tt; returns = h; returned = tt }
    statement_types r l (statement at (return keyword (Some v))) i env h = calls_ends f.variables f.result (failing_in calls v env) _
        (returned_ends p f calls results loops result (around r) (sees p f r l) keyword v i.0 (ap integer_of i.2 ∙ (same_kind r.function.result ∙ ap (λ (g : PlainFunction). integer_of g.result) l.function_is)) env h)
    statement_types r l (statement at empty) i env h = reached_ends f.variables f.result (Some env) h
    statement_types r l (statement at (mark kind)) i env h = reached_ends f.variables f.result (Some env) h

    pub statements_types : (r : Region) → Lies p f r → (xs : PlainStatements) → AreWholeStatements r xs → (env : Environment) → Typed env → Ends (pass_statements m xs env)
    statements_types r l no_statements i env h = reached_ends f.variables f.result (Some env) h
    statements_types r l (more_statements x rest) i env h =
        then_ends f.variables f.result (pass_statement m x env) (λ env. pass_statements m rest env) (statement_types r l x i.0 env h) (λ e k. statements_types (after r x) (after_lies p f r x l) rest i.1 e k)

    from_types : (labels : PlainLabels) (r : Region) → Lies p f r → (k : ℕ) (xs : PlainStatements) → AreWholeStatements r xs → (env : Environment) → Typed env → (before : Option Environment) → MaybeOfTypes f.variables before → Ends (pass_from m labels k xs env before)
    from_types labels r l k no_statements i env h before b = reached_ends f.variables f.result before b
    from_types labels r l k (more_statements x rest) i env h before b =
        let enters : Option Environment = if is_labelled k labels then hull_reached before (Some env) else before in
        let entered : MaybeOfTypes f.variables enters = if_types f.variables f.result (is_labelled k labels) (hull_reached before (Some env)) before (reached_types f.variables before (Some env) b h) b in
        let first : Ends (where_going enters (λ env. pass_statement m x env)) = going_ends f.variables f.result enters (λ env. pass_statement m x env) entered (λ e j. statement_types r l x i.0 e j) in
        followed_ends f.variables f.result (where_going enters (λ env. pass_statement m x env)) _ first
        (from_types labels (after r x) (after_lies p f r x l) (suc k) rest i.1 env h (where_going enters (λ env. pass_statement m x env)).normal first.normal)

pub passes_keep_types : PassesKeepTypes
passes_keep_types p number f calls loops result results claims scope in_loop in_switch x i env h =
    statement_types p f calls results loops claims result (region_at p number f scope in_loop in_switch) (record { program_is = refl; function_is = refl }) x i env h
