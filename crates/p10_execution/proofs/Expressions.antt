-- Statements that are expressions go on with the next statement, and in their passes no condition of a loop or a `return` fails.
use Rattle.std.proofs.Common.{◌≡◌, ℕ, zero, suc, Bool, true, List, [], ◌∷◌, ◌++◌, refl, ◌∙◌, ap, Option, Some, None}
use Rattle.std.specs.Prelude.{slice_get, slice_set, ◌||◌}
use Rattle.p10_base.specs.declared.span.Span.{Span}
use Rattle.p10_core.specs.declared.statements.LoopKeyword.{LoopKeyword}
use Rattle.p10_core.specs.declared.statements.LoopKeyword.TheVariants.{While, Do, For}
use Rattle.p10_core.specs.Types.{PlainType}
use Rattle.p10_core.specs.Typed.{PlainValue, place_at, place_type, PlainStatement, statement, set, update, copy, evaluate as expression, asserts, declare, PlainInitializer, not_initialized, single, copied, listed, PlainStatements, no_statements, more_statements, PlainVariable}
use Rattle.p10_core.specs.WholePrograms.{is_variable_declaration, is_expression, AllOf, AreClauses}
use Rattle.p10_meaning.specs.declared.pointers.Ptr.{Ptr}
use Rattle.p10_meaning.specs.declared.pointers.Scalar.{Scalar}
use Rattle.p10_meaning.specs.declared.pointers.Cell.{Cell}
use Rattle.p10_meaning.specs.Pointers.{unset, holding, first_of}
use Rattle.p10_meaning.specs.Objects.{declared, write_at}
use Rattle.p10_meaning.specs.States.{State}
use Rattle.p10_meaning.specs.Scalars.{converted_to, operated, unset_cells}
use Rattle.p10_meaning.specs.Values.{Setting, holds, stands, scalars, open_object, Target, Variable, Sensor, Element, width, pointer_to, read_target, asserted, evaluate, discard, locate}
use Rattle.p10_meaning.specs.Statements.{Frame, Flow, normal, broken, continued, returned, Done, goes, go_on, holding_at, write_target, part_of, write_part, copy_scalars, listed_scalars, listed_scalar, fill, initialize, declare_variable, execute, execute_from}
use Rattle.p10_sums.specs.Keeping.{HoldsOf}
use Rattle.p10_absx.specs.Environments.{Environment}
use Rattle.p10_pass.specs.Passing.{Left, Manner, where_going, followed, pass_statement, pass_statements}
use Rattle.p10_execution.proofs.Giving.{holds_step, holds_then, holds_after, holds_or, holds_if}

-- ## Executions

-- execution goes on with the next statement
abbrev pub GoesOn : Done → State → Type 0
GoesOn d w = d.flow ≡ normal

write_goes : (span : Span) (target : Target) (cell : Cell) (frame : Frame) (w : State) → HoldsOf GoesOn (write_target span target cell frame w)
write_goes span (Variable n) cell frame w = refl
write_goes span Sensor cell frame w = refl
write_goes span (Element q) cell frame w = holds_or GoesOn (write_at w.objects q cell) span w _ (λ objects _. refl)

copy_goes : (m i : ℕ) (to_span : Span) (to : Ptr) (from_span : Span) (from : Ptr) (frame : Frame) (w : State) → HoldsOf GoesOn (copy_scalars m i to_span to from_span from frame w)
copy_goes zero i to_span to from_span from frame w = refl
copy_goes (suc m) i to_span to from_span from frame w =
    holds_step GoesOn w _ (λ left _. holds_or GoesOn (part_of w.objects from i) from_span (record w { left = left }) _ (λ cell _. holds_or GoesOn (write_part w.objects to i cell) to_span (record w { left = left }) _ (λ objects _.
    copy_goes m (suc i) to_span to from_span from frame (record w { left = left; objects = objects }))))

pub expression_goes : (s : Setting) (x : PlainStatement) → is_expression x ≡ true → (frame : Frame) (w : State) → HoldsOf GoesOn (execute s x frame w)
expression_goes s (statement at (set q v)) e frame w =
    holds_step GoesOn w _ (λ left _. holds_after GoesOn (locate s frame.held q (record w { left = left })) _ (λ target w. holds_after GoesOn (evaluate s frame.held v w) _ (λ x w. write_goes (place_at q).span target (holding x) frame w)))
expression_goes s (statement at (update kind op t q v)) e frame w =
    holds_step GoesOn w _ (λ left _. holds_after GoesOn (locate s frame.held q (record w { left = left })) _ (λ target w. holds_step GoesOn w _ (λ left _. holds_after GoesOn (read_target (place_at q).span (place_type q) frame.held target (record w { left = left })) _ (λ x w.
    holds_after GoesOn (evaluate s frame.held v w) _ (λ y w. holds_step GoesOn w _ (λ left _. holds_or GoesOn (operated op t w.objects (converted_to t x) y) at.span (record w { left = left }) _ (λ z _.
    write_goes (place_at q).span target (holding (converted_to (place_type q) z)) frame (record w { left = left }))))))))
expression_goes s (statement at (copy q r)) e frame w =
    holds_step GoesOn w _ (λ left _. holds_after GoesOn (locate s frame.held q (record w { left = left })) _ (λ target w. holds_after GoesOn (locate s frame.held r w) _ (λ source w.
    copy_goes (width s.program (place_type q)) 0 (place_at q).span (pointer_to target) (place_at r).span (pointer_to source) frame w)))
expression_goes s (statement at (asserts call v)) e frame w = holds_step GoesOn w _ (λ left _. holds_after GoesOn (evaluate s frame.held v (record w { left = left })) _ (λ x w. holds_after GoesOn (asserted call.span x w) _ (λ none w. refl)))
expression_goes s (statement at (expression v)) e frame w = holds_step GoesOn w _ (λ left _. holds_after GoesOn (discard s frame.held v (record w { left = left })) _ (λ x w. refl))
expression_goes s x e frame w = absurd cc

pub expressions_go : (s : Setting) (xs : PlainStatements) → AllOf is_expression xs → (frame : Frame) (w : State) → HoldsOf GoesOn (execute_from s 0 xs frame w)
expressions_go s no_statements h frame w = refl
expressions_go s (more_statements x rest) h frame w = holds_then GoesOn GoesOn (execute s x frame w) _ (expression_goes s x h.0 frame w) (λ d w e. go d.flow d.frame w e (λ w. expressions_go s rest h.1 d.frame w))
  where
    go : (flow : Flow) (frame : Frame) (w : State) → flow ≡ normal → ((w : State) → HoldsOf GoesOn (execute_from s zero rest frame w)) → HoldsOf GoesOn (go_on flow frame w (λ frame w. execute_from s zero rest frame w))
    go normal frame w e k = k w
    go broken frame w e k = absurd cc
    go continued frame w e k = absurd cc
    go (returned x) frame w e k = absurd cc

-- ## First clauses

fill_goes : (span : Span) (xs : List (ℕ × Scalar)) (types : List PlainType) (i : ℕ) (q : Ptr) (frame : Frame) (w : State) → HoldsOf GoesOn (fill span xs types i q frame w)
fill_goes span xs [] i q frame w = refl
fill_goes span xs (t ∷ types) i q frame w = holds_step GoesOn w _ (λ left _. holds_or GoesOn (write_part w.objects q i (holding (listed_scalar i t xs))) span (record w { left = left }) _ (λ objects _. fill_goes span xs types (suc i) q frame (record w { left = left; objects = objects })))

initialize_goes : (s : Setting) (span : Span) (t : PlainType) (target : Target) (initializer : PlainInitializer) (frame : Frame) (w : State) → HoldsOf GoesOn (initialize s span t target initializer frame w)
initialize_goes s span t target not_initialized frame w = refl
initialize_goes s span t target (single v) frame w = holds_after GoesOn (evaluate s frame.held v w) _ (λ x w. write_goes span target (holding x) frame w)
initialize_goes s span t target (copied q) frame w = holds_step GoesOn w _ (λ left _. holds_after GoesOn (locate s frame.held q (record w { left = left })) _ (λ source w. copy_goes (width s.program t) 0 span (pointer_to target) (place_at q).span (pointer_to source) frame w))
initialize_goes s span t target (listed at items) frame w = holds_after GoesOn (listed_scalars s frame.held items w) _ (λ xs w. fill_goes span xs (scalars s.program t) 0 (pointer_to target) frame w)

declaration_goes : (s : Setting) (span : Span) (k : ℕ) (v : Option PlainVariable) (initializer : PlainInitializer) (frame : Frame) (w : State) → HoldsOf GoesOn (declare_variable s span k v initializer frame w)
declaration_goes s span k None initializer frame w = refl
declaration_goes s span k (Some v) initializer frame w = holds_if GoesOn v.frame _ _ (λ _. initialize_goes s span v.type (Variable k) initializer (holding_at frame k (holds unset)) w) (λ _. initialize_goes s span v.type (Element (first_of w.opened (width s.program v.type) 1)) initializer (record { held = slice_set frame.held k (stands w.opened); opened = w.opened ∷ frame.opened })
    (open_object declared (unset_cells (scalars s.program v.type)) w))

-- a clause is a declaration of a variable, or an expression
abbrev pub is_clause : PlainStatement → Bool
is_clause x = is_variable_declaration x || is_expression x

clause_goes : (s : Setting) (x : PlainStatement) → is_clause x ≡ true → (frame : Frame) (w : State) → HoldsOf GoesOn (execute s x frame w)
clause_goes s (statement at (declare k initializer)) e frame w = holds_step GoesOn w _ (λ left _. declaration_goes s at.span k (slice_get s.variables k) initializer frame (record w { left = left }))
clause_goes s x e frame w = expression_goes s x e frame w

pub clauses_go : (s : Setting) (xs : PlainStatements) → AllOf is_clause xs → (frame : Frame) (w : State) → HoldsOf GoesOn (execute_from s 0 xs frame w)
clauses_go s no_statements h frame w = refl
clauses_go s (more_statements x rest) h frame w = holds_then GoesOn GoesOn (execute s x frame w) _ (clause_goes s x h.0 frame w) (λ d w e. go d.flow d.frame w e (λ w. clauses_go s rest h.1 d.frame w))
  where
    go : (flow : Flow) (frame : Frame) (w : State) → flow ≡ normal → ((w : State) → HoldsOf GoesOn (execute_from s zero rest frame w)) → HoldsOf GoesOn (go_on flow frame w (λ frame w. execute_from s zero rest frame w))
    go normal frame w e k = k w
    go broken frame w e k = absurd cc
    go continued frame w e k = absurd cc
    go (returned x) frame w e k = absurd cc

pub first_clauses : (keyword : LoopKeyword) (first : PlainStatements) (tested : Option PlainValue) (third : PlainStatements) → AreClauses keyword first tested third → AllOf is_clause first
first_clauses For first tested third h = h.0
first_clauses While no_statements (Some v) no_statements h = tt
first_clauses Do no_statements (Some v) no_statements h = tt
first_clauses keyword first tested third h = absurd h

-- `do` has no third clause
pub no_third : (s : Setting) (keyword : LoopKeyword) (first : PlainStatements) (tested : Option PlainValue) (third : PlainStatements) → AreClauses keyword first tested third → keyword ≡ Do → (frame : Frame) (w : State) → execute_from s 0 third frame w ≡ goes frame w
no_third s Do no_statements (Some v) no_statements h e frame w = refl
no_third s While first tested third h e frame w = absurd cc
no_third s For first tested third h e frame w = absurd cc
no_third s keyword first tested third h e frame w = absurd h

-- ## Passes

-- neither a returned value nor the ranges of a loop fail, nor the rank of one
pub record IsQuiet (a : Left) : Type 0 where
  pub results : a.results ≡ []
  pub entries : a.entries ≡ []
  pub backs : a.backs ≡ []
  pub weak : a.weak ≡ []

module _ (m : Manner) where
  expression_quiet : (x : PlainStatement) → is_expression x ≡ true → (env : Environment) → IsQuiet (pass_statement m x env)
  expression_quiet (statement at (set p v)) e env = record { results = refl; entries = refl; backs = refl; weak = refl }
  expression_quiet (statement at (update kind op t p v)) e env = record { results = refl; entries = refl; backs = refl; weak = refl }
  expression_quiet (statement at (copy p q)) e env = record { results = refl; entries = refl; backs = refl; weak = refl }
  expression_quiet (statement at (expression v)) e env = record { results = refl; entries = refl; backs = refl; weak = refl }
  expression_quiet (statement at (asserts call v)) e env = record { results = refl; entries = refl; backs = refl; weak = refl }
  expression_quiet x e env = absurd cc

  both_quiet : (a b : Left) → IsQuiet a → IsQuiet b → IsQuiet (followed a b)
  both_quiet a b h k = record {
    results = ap (λ l. l ++ b.results) h.results ∙ k.results;
    entries = ap (λ l. l ++ b.entries) h.entries ∙ k.entries;
    backs = ap (λ l. l ++ b.backs) h.backs ∙ k.backs;
    weak = ap (λ l. l ++ b.weak) h.weak ∙ k.weak;
  }

  pub going_quiet : (o : Option Environment) (go : Environment → Left) → ((env : Environment) → IsQuiet (go env)) → IsQuiet (where_going o go)
  going_quiet None go h = record { results = refl; entries = refl; backs = refl; weak = refl }
  going_quiet (Some env) go h = h env

  pub expressions_quiet : (xs : PlainStatements) → AllOf is_expression xs → (env : Environment) → IsQuiet (pass_statements m xs env)
  expressions_quiet no_statements h env = record { results = refl; entries = refl; backs = refl; weak = refl }
  expressions_quiet (more_statements x rest) h env = both_quiet (pass_statement m x env) (where_going (pass_statement m x env).normal (λ env. pass_statements m rest env)) (expression_quiet x h.0 env)
      (going_quiet (pass_statement m x env).normal (λ env. pass_statements m rest env) (λ env. expressions_quiet rest h.1 env))
