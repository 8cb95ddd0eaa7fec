-- What comes next after what was passed.
use Rattle.std.proofs.Common.{◌≡◌, ℕ, suc, ◌+◌, ◌≤◌, Bool, true, false, not, ◌&&◌, List, [], ◌∷◌, ◌++◌, map, length, refl, ap, sym, ◌∙◌, subst, arith, append_assoc, ◌<◌, drop, get_or, nat_eq, Option, Some, None, option_map, rules}
use Rattle.std.proofs.lemmas.Bool.{eqb-true}
use Rattle.p10_base.specs.declared.at.At.{At}
use Rattle.p10_core.specs.declared.statements.LoopHead.{LoopHead}
use Rattle.p10_core.specs.declared.statements.Stmt.{Stmt}
use Rattle.p10_core.specs.declared.statements.StmtForm.{StmtForm}
use Rattle.p10_core.specs.declared.statements.StmtForm.TheVariants.{Block, If}
use Rattle.p10_core.specs.declared.statements.StmtForm.TheViews.{the_lemmas}
use Rattle.p10_core.specs.declared.typed.Value.{Value}
use Rattle.p10_core.specs.declared.statements.MarkKind.{MarkKind}
use Rattle.p10_core.specs.declared.statements.MarkKind.TheVariants.{InitDone, TaskLoop}
use Rattle.p10_core.specs.Typed.{PlainFunction, PlainValue, PlainStatement, PlainStatementForm, PlainStatements, statement, if_then, if_else, loop}
use Rattle.p10_core.specs.declared.program.Func.{Func}
use Rattle.p10_core.specs.Views.{plain_function, plain_variable, plain_statement, plain_statements, plain_statement_form, plain_value}
use Rattle.p10_core.proofs.StatementRows.{plain_block}
use Rattle.p10_core.specs.WholePrograms.{declared_in, declared_of, loops_in, loops_of, marks_in, marks_of, numbers_from}
use Rattle.p10_whole.specs.declared.order.Next.{Next}
use Rattle.p10_whole.specs.private.Shows.{Shows}
use Rattle.p10_whole.proofs.Passing.{cut_statements}
use Rattle.p10_whole.proofs.Each.{map_length}
use Rattle.p10_whole.proofs.Openings.{none_left}
use Rattle.p10_whole.proofs.Showing.{both_true}
use Rattle.p10_whole.specs.private.Orders.{Rise, marks_by, marks_left, Passes, PassesOther, InOrder}

rise_then : (a : ℕ) (ns : List ℕ) (b : ℕ) (ms : List ℕ) (c : ℕ) → Rise a ns b → Rise b ms c → Rise a (ns ++ ms) c
rise_then a [] b ms c e r = subst (λ n. Rise n ms c) (sym e) r
rise_then a (n ∷ ns) b ms c e r = (e.0, rise_then (a + 1) ns b ms c e.1 r)

numbers_apart : (xs ys : List LoopHead) → map (λ h. h.number) (xs ++ ys) ≡ map (λ h. h.number) xs ++ map (λ h. h.number) ys
numbers_apart [] ys = refl
numbers_apart (x ∷ xs) ys = ap (λ ns. x.number ∷ ns) (numbers_apart xs ys)

-- nothing leaves what comes next as it is
pub passes_none : (n : Next) → Passes n [] [] [] n
passes_none n = record { variables = refl; numbers = refl; pragmas = refl }

-- one thing after another
pub passes_then : (a : Next) (ds : List ℕ) (ls : List LoopHead) (ms : List MarkKind) (b : Next) (es : List ℕ) (ks : List LoopHead) (ns : List MarkKind) (c : Next) → Passes a ds ls ms b → Passes b es ks ns c → Passes a (ds ++ es) (ls ++ ks) (ms ++ ns) c
passes_then a ds ls ms b es ks ns c p q = record {
  variables = rise_then a.variable ds b.variable es c.variable p.variables q.variables;
  numbers = subst (λ xs. Rise a.of_loop xs c.of_loop) (sym (numbers_apart ls ks)) (rise_then a.of_loop _ b.of_loop _ c.of_loop p.numbers q.numbers);
  pragmas = p.pragmas ∙ ap (λ xs. ms ++ xs) q.pragmas ∙ sym (append_assoc ms ns (marks_left c));
}

-- a loop's keyword, and its first clause, of which only the declarations count
pub passes_opening : (a : Next) (head : LoopHead) (b : Next) (ds : List ℕ) (ls : List LoopHead) (ms : List MarkKind) (opened c : Next) → Passes a [] (head ∷ []) [] b → Passes b ds ls ms opened → c.variable ≡ opened.variable → c.of_loop ≡ b.of_loop → c.init_done ≡ b.init_done → c.task_loop ≡ b.task_loop → Passes a ds (head ∷ []) [] c
passes_opening a head b ds ls ms opened c h f v l i t = record {
  variables = subst (Rise a.variable ds) (sym v) (subst (λ n. Rise n ds opened.variable) (sym h.variables) f.variables);
  numbers = (h.numbers.0, h.numbers.1 ∙ sym l);
  pragmas = h.pragmas ∙ ap (λ x. marks_by x b.task_loop) (sym i) ∙ ap (marks_by c.init_done) (sym t);
}

-- what is left after one more statement
pub next_in_order : (a start : Next) (ds : List ℕ) (ls : List LoopHead) (ms : List MarkKind) (all : List Stmt) (i : ℕ) (s : Stmt) (b : Next) → i < length all → s ≡ get_or all i s → Passes a (declared_in (plain_statement s)) (loops_in (plain_statement s)) (marks_in (plain_statement s)) b →
    ((z : Next) → Passes a (declared_of (plain_statements (drop i all))) (loops_of (plain_statements (drop i all))) (marks_of (plain_statements (drop i all))) z → Passes start ds ls ms z) →
    (z : Next) → Passes b (declared_of (plain_statements (drop (i + 1) all))) (loops_of (plain_statements (drop (i + 1) all))) (marks_of (plain_statements (drop (i + 1) all))) z → Passes start ds ls ms z
next_in_order a start ds ls ms all i s b below is p before z q =
    before z (subst (λ ss. Passes a (declared_of ss) (loops_of ss) (marks_of ss) z) (sym (cut_statements all i s below is)) (passes_then a _ _ _ b _ _ _ z p q))

pub order_end : (a : Next) (all : List Stmt) (i : ℕ) → length all ≤ i → Passes a (declared_of (plain_statements (drop i all))) (loops_of (plain_statements (drop i all))) (marks_of (plain_statements (drop i all))) a
order_end a all i b = subst (λ ss. Passes a (declared_of ss) (loops_of ss) (marks_of ss) a) (sym (none_left all i b)) (passes_none a)

pub block_in_order : (a : Next) (at : At) (f : StmtForm) (all items : List Stmt) (r : Bool) (b : Next) → f ≡ Block all → items ≡ all → Shows r (Passes a (declared_of (plain_statements items)) (loops_of (plain_statements items)) (marks_of (plain_statements items)) b) → Shows r (Passes a (declared_in (statement at (plain_statement_form f))) (loops_in (statement at (plain_statement_form f))) (marks_in (statement at (plain_statement_form f))) b)
block_in_order a at f all items r b e h p =
    subst (λ g. Shows r (Passes a (declared_in (statement at g)) (loops_in (statement at g)) (marks_in (statement at g)) b)) (sym (ap plain_statement_form e ∙ plain_block all))
    (subst (λ xs. Shows r (Passes a (declared_of (plain_statements xs)) (loops_of (plain_statements xs)) (marks_of (plain_statements xs)) b)) h p)

-- numbers that rise are those from the first one on
rise_is : (a : ℕ) (ns : List ℕ) (b : ℕ) → Rise a ns b → ns ≡ numbers_from a (length ns)
rise_is a [] b r = refl
rise_is a (n ∷ ns) b r = ap (λ m. m ∷ ns) r.0 ∙ ap (λ ms. a ∷ ms) (rise_is (a + 1) ns b r.1)

rise_to : (a : ℕ) (ns : List ℕ) (b : ℕ) → Rise a ns b → a + length ns ≡ b
rise_to a [] b r = let h : a ≡ b = r in omega (arith, h)
rise_to a (n ∷ ns) b r = let h = rise_to (a + 1) ns b r.1 in omega (arith, h)

length_numbers : (ls : List LoopHead) → length (map (λ h. h.number) ls) ≡ length ls
length_numbers [] = refl
length_numbers (l ∷ ls) = ap suc (length_numbers ls)

-- a function that was passed is in order
pub function_in_order : (f : PlainFunction) (init_done task_loop : Bool) (a b : Next) → a.variable ≡ f.parameters → a.of_loop ≡ 0 → a.init_done ≡ init_done → a.task_loop ≡ task_loop → Passes a (declared_of f.body) (loops_of f.body) (marks_of f.body) b → b.variable ≡ length f.variables → b.init_done ≡ false → b.task_loop ≡ false → InOrder f init_done task_loop
function_in_order f init_done task_loop a b v l i t p w j u = record {
  declared =
      let ds = declared_of f.body in
      let start : Rise f.parameters ds b.variable = subst (λ n. Rise n ds b.variable) v p.variables in
      let end = rise_to f.parameters ds b.variable start in
      rise_is f.parameters ds b.variable start ∙ ap (numbers_from f.parameters) (omega (arith, end, w));
  loops =
      let ls = loops_of f.body in
      let start : Rise 0 (map (λ h. h.number) ls) b.of_loop = subst (λ n. Rise n (map (λ h. h.number) ls) b.of_loop) l p.numbers in
      rise_is 0 _ b.of_loop start ∙ ap (numbers_from 0) (length_numbers ls);
  marks =
      sym (no_more (marks_of f.body)) ∙ ap (λ ms. marks_of f.body ++ ms) (sym (ap (λ x. marks_by x b.task_loop) j ∙ ap (marks_by false) u)) ∙ sym p.pragmas ∙ ap (λ x. marks_by x a.task_loop) i ∙ ap (marks_by init_done) t;
}
  where
    no_more : (ms : List MarkKind) → ms ++ [] ≡ ms
    no_more [] = refl
    no_more (m ∷ ms) = ap (λ xs. m ∷ xs) (no_more ms)

-- a pragma that comes
pub init_done_passes : (a b : Next) (r : Bool) → r ≡ a.init_done → r ≡ true → b.variable ≡ a.variable → b.of_loop ≡ a.of_loop → b.init_done ≡ false → b.task_loop ≡ a.task_loop → Passes a [] [] (InitDone ∷ []) b
init_done_passes a b r e h v l i t = record {
  variables = sym v;
  numbers = sym l;
  pragmas = ap (λ x. marks_by x a.task_loop) (sym e ∙ h) ∙ ap (λ x. InitDone ∷ marks_by false x) (sym t) ∙ ap (λ x. InitDone ∷ marks_by x b.task_loop) (sym i);
}

pub task_loop_passes : (a b : Next) → a.task_loop ≡ true → a.init_done ≡ false → b.variable ≡ a.variable → b.of_loop ≡ a.of_loop → b.init_done ≡ a.init_done → b.task_loop ≡ false → Passes a [] [] (TaskLoop ∷ []) b
task_loop_passes a b h n v l i t = record {
  variables = sym v;
  numbers = sym l;
  pragmas = ap (λ x. marks_by x a.task_loop) n ∙ ap (marks_by false) h ∙ ap (λ x. TaskLoop ∷ marks_by false x) (sym t) ∙ ap (λ x. TaskLoop ∷ marks_by x b.task_loop) (sym n ∙ sym i);
}

-- the whole of a function was passed
pub order_is : (f : Func) (x y : Bool) (a b : Next) (body : List Stmt) (n : ℕ) → body ≡ f.body → n ≡ length f.vars → a.variable ≡ f.params → a.of_loop ≡ 0 → a.init_done ≡ x → a.task_loop ≡ y → Passes a (declared_of (plain_statements body)) (loops_of (plain_statements body)) (marks_of (plain_statements body)) b →
    Shows (nat_eq b.variable n && (not b.init_done && not b.task_loop)) (InOrder (plain_function f) x y)
order_is f x y a b body n is many v l i t p = record {
  shows = λ k.
      let outer = both_true (nat_eq b.variable n) (not b.init_done && not b.task_loop) k in
      let inner = both_true (not b.init_done) (not b.task_loop) outer.1 in
      let passed : Passes a (declared_of (plain_statements f.body)) (loops_of (plain_statements f.body)) (marks_of (plain_statements f.body)) b =
      subst (λ ss. Passes a (declared_of (plain_statements ss)) (loops_of (plain_statements ss)) (marks_of (plain_statements ss)) b) is p in
      function_in_order (plain_function f) x y a b v l i t passed (eqb-true b.variable n outer.0 ∙ many ∙ sym (map_length plain_variable f.vars)) (off b.init_done inner.0) (off b.task_loop inner.1);
}
  where
    off : (z : Bool) → not z ≡ true → z ≡ false
    off true h = cc
    off false h = refl

-- ## Forms

no_more : {X : Type 0} → (xs : List X) → xs ++ [] ≡ xs
no_more [] = refl
no_more (x ∷ xs) = ap (λ ys. x ∷ ys) (no_more xs)

then_passes : (a : Next) (ds : List ℕ) (ls : List LoopHead) (ms : List MarkKind) (m b : Next) → Passes a ds ls ms m → Passes m [] [] [] b → Passes a ds ls ms b
then_passes a ds ls ms m b p q =
    subst (λ xs. Passes a xs ls ms b) (no_more ds)
    (subst (λ ys. Passes a (ds ++ []) ys ms b) (no_more ls)
    (subst (λ zs. Passes a (ds ++ []) (ls ++ []) zs b) (no_more ms) (passes_then a ds ls ms m [] [] [] b p q)))

plain_then : (v : Value) (chosen : _) → plain_statement_form (If v chosen None) ≡ if_then (plain_value v) (plain_statement chosen.value)
plain_then v chosen = search (rules, the_lemmas)

plain_else : (v : Value) (chosen : _) (other : _) → plain_statement_form (If v chosen (Some other)) ≡ if_else (plain_value v) (plain_statement chosen.value) (plain_statement other.value)
plain_else v chosen other = search (rules, the_lemmas)

-- an `if`, with or without `else`
pub if_in_order : (a : Next) (at : At) (f : StmtForm) (v : Value) (chosen : _) (other : _) (first : Stmt) (m b : Next) (q : Bool) → f ≡ If v chosen other → first ≡ chosen.value → Passes a (declared_in (plain_statement first)) (loops_in (plain_statement first)) (marks_in (plain_statement first)) m → Shows q (PassesOther m (option_map (λ x. plain_statement x.value) other) b) → Shows q (Passes a (declared_in (statement at (plain_statement_form f))) (loops_in (statement at (plain_statement_form f))) (marks_in (statement at (plain_statement_form f))) b)
if_in_order a at f v chosen None first m b q e is p o = record {
  shows = λ k.
      subst (λ g. Passes a (declared_in (statement at g)) (loops_in (statement at g)) (marks_in (statement at g)) b) (sym (ap plain_statement_form e ∙ plain_then v chosen ∙ ap (λ (x : Stmt). if_then (plain_value v) (plain_statement x)) (sym is)))
      (then_passes a (declared_in (plain_statement first)) (loops_in (plain_statement first)) (marks_in (plain_statement first)) m b p (o.shows k));
}
if_in_order a at f v chosen (Some other) first m b q e is p o = record {
  shows = λ k.
      subst (λ g. Passes a (declared_in (statement at g)) (loops_in (statement at g)) (marks_in (statement at g)) b) (sym (ap plain_statement_form e ∙ plain_else v chosen other ∙ ap (λ (x : Stmt). if_else (plain_value v) (plain_statement x) (plain_statement other.value)) (sym is)))
      (passes_then a (declared_in (plain_statement first)) (loops_in (plain_statement first)) (marks_in (plain_statement first)) m (declared_in (plain_statement other.value)) (loops_in (plain_statement other.value)) (marks_in (plain_statement other.value)) b p (o.shows k));
}

pub loop_in_order : (a : Next) (at : At) (f : PlainStatementForm) (head : LoopHead) (first : PlainStatements) (test : Option PlainValue) (third : PlainStatements) (body : PlainStatement) (m b : Next) (r : Bool) → f ≡ loop head first test third body → Passes a (declared_of first) (head ∷ []) [] m → Shows r (Passes m (declared_in body) (loops_in body) (marks_in body) b) → Shows r (Passes a (declared_in (statement at f)) (loops_in (statement at f)) (marks_in (statement at f)) b)
loop_in_order a at f head first test third body m b r e p q = record {
  shows = λ k.
      subst (λ g. Passes a (declared_in (statement at g)) (loops_in (statement at g)) (marks_in (statement at g)) b) (sym e)
      (passes_then a (declared_of first) (head ∷ []) [] m (declared_in body) (loops_in body) (marks_in body) b p (q.shows k));
}
