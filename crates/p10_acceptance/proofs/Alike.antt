-- A pass over statements depends only on the claims of the loops in them, and on what is claimed of results that they return.
use Rattle.std.proofs.Common.{◌≡◌, ℕ, suc, Bool, true, false, List, [], ◌∷◌, ◌++◌, Option, Some, None, refl, ap, sym, ◌∙◌, subst}
use Rattle.std.specs.Prelude.{slice_get, if◌then◌else◌, ◌&&◌, IfSome}
use Rattle.std.proofs.lemmas.Option.{same_Some, none-some}
use Rattle.p10_base.specs.declared.span.Span.{Span}
use Rattle.p10_int.specs.declared.types.IntType.{IntType}
use Rattle.p10_range.specs.Ranges.{Interval, hull_of}
use Rattle.p10_core.specs.declared.statements.LoopHead.{LoopHead}
use Rattle.p10_core.specs.declared.statements.LoopKeyword.{LoopKeyword}
use Rattle.p10_core.specs.declared.statements.LoopKeyword.TheVariants.{While, Do, For}
use Rattle.p10_core.specs.Constants.{integer_of}
use Rattle.p10_core.specs.Rows.{is_integer}
use Rattle.p10_core.specs.Typed.{PlainValue, type_of, PlainItem, PlainWritten, one_scalar, scalars_of_text, PlainInitializer, not_initialized, single, copied, listed, PlainLabels, PlainStatement, statement, set, update, copy, evaluate, asserts, declare, declare_static, block, if_then, if_else, loop, switch, break, continue, return, empty, mark, PlainStatements, no_statements, more_statements, PlainVariable}
use Rattle.p10_core.specs.WholePrograms.{Region, after, after_all, AllOf, IsWholeStatement, AreWholeStatements, loops_in, loops_of}
use Rattle.p10_cert.specs.Claims.{Value, Loop, Claims}
use Rattle.p10_absx.specs.Abstract.{Abstract}
use Rattle.p10_absx.specs.Environments.{Environment, hull_reached}
use Rattle.p10_absx.specs.Assessing.{assess, known_where, abstract_value}
use Rattle.p10_pass.specs.Scopes.{form_assigns}
use Rattle.p10_pass.specs.Claiming.{head_of, loop_claimed}
use Rattle.p10_pass.specs.Arguments.{has_value, failing_in}
use Rattle.p10_pass.specs.Passing.{Left, nowhere, reached, where_going, hull_range, followed, and_then_pass, beside, with_calls, as_block, Manner, value_passed, items_passed, integer_declared, other_declared, declared, result_lies, range_returned, value_returned, tested_in, tested_reached, Round, round_of, loop_left, is_labelled, switch_left, pass_statement, pass_statements, pass_from}
use Rattle.p10_acceptance.proofs.Ends.{Each}
use Rattle.p10_acceptance.proofs.Fitting.{is_plain, first_plain, third_plain}

pub each_left : {A : Type 0} (P : A → Type 0) (xs ys : List A) → Each P (xs ++ ys) → Each P xs
each_left P [] ys h = tt
each_left P (x ∷ xs) ys h = (h.0, each_left P xs ys h.1)

pub each_right : {A : Type 0} (P : A → Type 0) (xs ys : List A) → Each P (xs ++ ys) → Each P ys
each_right P [] ys h = h
each_right P (x ∷ xs) ys h = each_right P xs ys h.1

going_alike : (o : Option Environment) (go other : Environment → Left) → ((e : Environment) → o ≡ Some e → go e ≡ other e) → where_going o go ≡ where_going o other
going_alike None go other h = refl
going_alike (Some e) go other h = h e refl

-- what makes two passes alike: what is claimed of results, and how the claims of loops differ, which doesn't count
pub record Differs (In : Interval → Type 0) (first second : Option Value) (turn : Loop → Loop) : Type 0 where
  pub parts : (a b : Interval) → In (hull_of a b) → In a × In b
  pub agree : (r : Interval) → In r → result_lies first r ≡ result_lies second r
  pub lefts : (m : Manner) (claim : Loop) (head : LoopHead) (assigned : ℕ → Bool) (entry : Environment) (r : Round) → loop_left m (turn claim) head assigned entry r ≡ loop_left m claim head assigned entry r
  pub heads : (claim : Loop) (variables : List PlainVariable) (entry : Environment) → head_of (turn claim) variables entry ≡ head_of claim variables entry

module _ (calls : Option Claims) (variables : List PlainVariable) (these those : List Loop) (first_result second_result : Option Value) (In : Interval → Type 0) (turn : Loop → Loop) (d : Differs In first_result second_result turn) where
  abbrev pub m1 : Manner
  m1 = record { calls = calls; loops = Some these; result = first_result; variables = variables }

  abbrev pub m2 : Manner
  m2 = record { calls = calls; loops = Some those; result = second_result; variables = variables }

  -- the claims of a loop differ as is said
  abbrev pub Turned : LoopHead → Type 0
  Turned h = loop_claimed those h.number ≡ turn (loop_claimed these h.number)

  -- what is returned lies in what is claimed
  abbrev pub Lies : Left → Type 0
  Lies a = IfSome a.returned In

  split : (a b : Option Interval) → IfSome (hull_range a b) In → IfSome a In × IfSome b In
  split None b h = (tt, h)
  split (Some a) None h = (h, tt)
  split (Some a) (Some b) h = d.parts a b h

  lies_going : (o : Option Environment) (go : Environment → Left) (e : Environment) → o ≡ Some e → IfSome (where_going o go).returned In → IfSome (go e).returned In
  lies_going None go e q h = absurd (none-some _ q)
  lies_going (Some x) go e q h = subst (λ (y : Environment). IfSome (go y).returned In) (same_Some _ _ q) h

  lies_if : (b : Bool) (a : Left) → b ≡ true → IfSome (if b then a else nowhere).returned In → IfSome a.returned In
  lies_if true a e h = h
  lies_if false a e h = absurd cc

  then_alike : (a other : Left) (go wider : Environment → Left) → a ≡ other → ((e : Environment) → a.normal ≡ Some e → go e ≡ wider e) → and_then_pass a go ≡ and_then_pass other wider
  then_alike a other go wider p h = ap (followed a) (going_alike a.normal go wider h) ∙ ap (λ (x : Left). and_then_pass x wider) p

  -- ## Declarations

  items_alike : (items : List PlainItem) (env : Environment) → items_passed m1 items env ≡ items_passed m2 items env
  items_alike [] env = refl
  items_alike (item ∷ items) env = at item.scalar item.written (λ e. items_alike items e)
    where
      at : (n : ℕ) (w : PlainWritten) → ((env : Environment) → items_passed m1 items env ≡ items_passed m2 items env) → let one : PlainItem = record { scalar = n; written = w } in items_passed m1 (one ∷ items) env ≡ items_passed m2 (one ∷ items) env
      at n (one_scalar v) rest = λ i. and_then_pass (value_passed m1 v env) (λ e. rest e i)
      at n (scalars_of_text bytes) rest = λ i. and_then_pass (reached (Some env)) (λ e. rest e i)

  integer_alike : (n : ℕ) (kind : IntType) (initializer : PlainInitializer) (env : Environment) → integer_declared m1 n kind initializer env ≡ integer_declared m2 n kind initializer env
  integer_alike n kind not_initialized env = refl
  integer_alike n kind (single v) env = refl
  integer_alike n kind (copied p) env = refl
  integer_alike n kind (listed at items) env = refl

  other_alike : (initializer : PlainInitializer) (env : Environment) → other_declared m1 initializer env ≡ other_declared m2 initializer env
  other_alike not_initialized env = refl
  other_alike (single v) env = refl
  other_alike (copied p) env = refl
  other_alike (listed at items) env = items_alike items env

  declared_alike : (n : ℕ) (v : Option PlainVariable) (initializer : PlainInitializer) (env : Environment) → declared m1 n v initializer env ≡ declared m2 n v initializer env
  declared_alike n None initializer env = refl
  declared_alike n (Some v) initializer env =
      let first = integer_alike n (integer_of v.type) initializer env in
      let other = other_alike initializer env in
      λ i. if v.frame && is_integer v.type then first i else other i

  -- ## Clauses

  plain_alike : (x : PlainStatement) → is_plain x ≡ true → (env : Environment) → pass_statement m1 x env ≡ pass_statement m2 x env
  plain_alike (statement at (set p v)) e env = refl
  plain_alike (statement at (update kind op t p v)) e env = refl
  plain_alike (statement at (copy p q)) e env = refl
  plain_alike (statement at (evaluate v)) e env = refl
  plain_alike (statement at (asserts there v)) e env = refl
  plain_alike (statement at (declare n initializer)) e env = declared_alike n (slice_get variables n) initializer env
  plain_alike x e env = absurd cc

  pub clauses_alike : (xs : PlainStatements) → AllOf is_plain xs → (env : Environment) → pass_statements m1 xs env ≡ pass_statements m2 xs env
  clauses_alike no_statements h env = refl
  clauses_alike (more_statements x rest) h env = then_alike (pass_statement m1 x env) (pass_statement m2 x env) _ _ (plain_alike x h.0 env) (λ e q. clauses_alike rest h.1 e)

  -- ## Returns

  range_alike : (keyword : Span) (a : Option Abstract) (env : Environment) → Lies (range_returned m1 keyword a env) → range_returned m1 keyword a env ≡ range_returned m2 keyword a env
  range_alike keyword None env h = refl
  range_alike keyword (Some a) env h = ap (λ b. record nowhere { returns = Some env; returned = Some a.range; results = if b then [] else keyword ∷ [] }) (d.agree a.range h)

  value_alike : (keyword : Span) (v : PlainValue) (env : Environment) → Lies (value_returned m1 keyword v env) → value_returned m1 keyword v env ≡ value_returned m2 keyword v env
  value_alike keyword v env = at (is_integer (type_of v))
    where
      at : (b : Bool) → IfSome (if b then range_returned m1 keyword (abstract_value calls env v) env else record nowhere { returns = Some env }).returned In →
          (if b then range_returned m1 keyword (abstract_value calls env v) env else record nowhere { returns = Some env }) ≡ (if b then range_returned m2 keyword (abstract_value calls env v) env else record nowhere { returns = Some env })
      at true h = range_alike keyword (abstract_value calls env v) env h
      at false h = refl

  -- ## Loops

  tested_alike : (v : Option PlainValue) (env : Environment) → tested_in m1 v env ≡ tested_in m2 v env
  tested_alike None env = refl
  tested_alike (Some v) env = refl

  late_alike : (v : Option PlainValue) (env : Option Environment) → tested_reached m1 v env ≡ tested_reached m2 v env
  late_alike v None = refl
  late_alike v (Some env) = tested_alike v env

  while_alike : (v : Option PlainValue) (third third2 body body2 : Environment → Left) → ((env : Environment) → third env ≡ third2 env) → (head : Environment) → ((e : Environment) → (tested_in m1 v head).truth ≡ Some e → body e ≡ body2 e) →
      round_of m1 While v third body head ≡ round_of m2 While v third2 body2 head
  while_alike v third third2 body body2 thirds head bodies =
      let t = tested_alike v head in
      let b : where_going (tested_in m1 v head).truth body ≡ where_going (tested_in m2 v head).truth body2 = going_alike (tested_in m1 v head).truth body body2 bodies ∙ (λ i. where_going (t i).truth body2) in
      λ i. let after : Left = where_going (hull_reached (b i).normal (b i).continues) (λ e. thirds e i) in
      record { enters = (t i).truth; back = after.normal; exits = hull_reached (t i).contrary (b i).breaks; body = b i; names = (t i).names ++ (after.arguments ++ (b i).arguments) }

  for_alike : (v : Option PlainValue) (third third2 body body2 : Environment → Left) → ((env : Environment) → third env ≡ third2 env) → (head : Environment) → ((e : Environment) → (tested_in m1 v head).truth ≡ Some e → body e ≡ body2 e) →
      round_of m1 For v third body head ≡ round_of m2 For v third2 body2 head
  for_alike v third third2 body body2 thirds head bodies =
      let t = tested_alike v head in
      let b : where_going (tested_in m1 v head).truth body ≡ where_going (tested_in m2 v head).truth body2 = going_alike (tested_in m1 v head).truth body body2 bodies ∙ (λ i. where_going (t i).truth body2) in
      λ i. let after : Left = where_going (hull_reached (b i).normal (b i).continues) (λ e. thirds e i) in
      record { enters = (t i).truth; back = after.normal; exits = hull_reached (t i).contrary (b i).breaks; body = b i; names = (t i).names ++ (after.arguments ++ (b i).arguments) }

  do_alike : (v : Option PlainValue) (third third2 body body2 : Environment → Left) → (head : Environment) → body head ≡ body2 head → round_of m1 Do v third body head ≡ round_of m2 Do v third2 body2 head
  do_alike v third third2 body body2 head bodies =
      let t : tested_reached m1 v (hull_reached (body head).normal (body head).continues) ≡ tested_reached m2 v (hull_reached (body2 head).normal (body2 head).continues) =
      late_alike v (hull_reached (body head).normal (body head).continues) ∙ (λ i. tested_reached m2 v (hull_reached (bodies i).normal (bodies i).continues)) in
      λ i. record { enters = Some head; back = (t i).truth; exits = hull_reached (t i).contrary (bodies i).breaks; body = bodies i; names = (bodies i).arguments ++ (t i).names }

  -- a round, by the rounds' bodies where they are entered
  round_alike : (keyword : LoopKeyword) (v : Option PlainValue) (third third2 body body2 : Environment → Left) → ((env : Environment) → third env ≡ third2 env) → (head : Environment) →
      ((e : Environment) → Lies (body e) → body e ≡ body2 e) → Lies (round_of m1 keyword v third body head).body → round_of m1 keyword v third body head ≡ round_of m2 keyword v third2 body2 head
  round_alike While v third third2 body body2 thirds head bodies h = while_alike v third third2 body body2 thirds head (λ e q. bodies e (lies_going (tested_in m1 v head).truth body e q h))
  round_alike For v third third2 body body2 thirds head bodies h = for_alike v third third2 body body2 thirds head (λ e q. bodies e (lies_going (tested_in m1 v head).truth body e q h))
  round_alike Do v third third2 body body2 thirds head bodies h = do_alike v third third2 body body2 head (bodies head h)

  loop_alike : (head : LoopHead) (v : Option PlainValue) (third third2 body body2 : Environment → Left) (assigned : ℕ → Bool) → ((env : Environment) → third env ≡ third2 env) → ((e : Environment) → Lies (body e) → body e ≡ body2 e) → Turned head → (entry : Environment) →
      Lies (round_of m1 head.keyword v third body (head_of (loop_claimed these head.number) variables entry)).body →
      loop_left m1 (loop_claimed these head.number) head assigned entry (round_of m1 head.keyword v third body (head_of (loop_claimed these head.number) variables entry))
      ≡ loop_left m2 (loop_claimed those head.number) head assigned entry (round_of m2 head.keyword v third2 body2 (head_of (loop_claimed those head.number) variables entry))
  loop_alike head v third third2 body body2 assigned thirds bodies turned entry h =
      let claim : Loop = loop_claimed these head.number in
      ap (loop_left m1 claim head assigned entry) (round_alike head.keyword v third third2 body body2 thirds (head_of claim variables entry) bodies h)
      ∙ (sym (d.lefts m2 claim head assigned entry (round_of m2 head.keyword v third2 body2 (head_of claim variables entry)))
      ∙ (ap (λ (e : Environment). loop_left m2 (turn claim) head assigned entry (round_of m2 head.keyword v third2 body2 e)) (sym (d.heads claim variables entry))
      ∙ ap (λ (l : Loop). loop_left m2 l head assigned entry (round_of m2 head.keyword v third2 body2 (head_of l variables entry))) (sym turned)))

  -- ## Statements

  going_both : (o : Option Environment) (go other : Environment → Left) → ((e : Environment) → Lies (go e) → go e ≡ other e) → Lies (where_going o go) → where_going o go ≡ where_going o other
  going_both o go other h l = going_alike o go other (λ e q. h e (lies_going o go e q l))

  if_alike : (b : Bool) (x y : Left) → (Lies x → x ≡ y) → Lies (if b then x else nowhere) → (if b then x else nowhere) ≡ (if b then y else nowhere)
  if_alike true x y h l = h l
  if_alike false x y h l = refl

  mutual
    pub statement_alike : (r : Region) (x : PlainStatement) → IsWholeStatement r x → Each Turned (loops_in x) → (env : Environment) → Lies (pass_statement m1 x env) → pass_statement m1 x env ≡ pass_statement m2 x env
    statement_alike r (statement at (set p v)) i c env h = refl
    statement_alike r (statement at (update kind op t p v)) i c env h = refl
    statement_alike r (statement at (copy p q)) i c env h = refl
    statement_alike r (statement at (evaluate v)) i c env h = refl
    statement_alike r (statement at (asserts there v)) i c env h = refl
    statement_alike r (statement at (declare n initializer)) i c env h = declared_alike n (slice_get variables n) initializer env
    statement_alike r (statement at (declare_static n)) i c env h = refl
    statement_alike r (statement at (block xs)) i c env h = ap (as_block xs) (statements_alike r xs i c env h)
    statement_alike r (statement at (if_then v x)) i c env h =
        let one = going_both (known_where true env (assess calls v env)) (λ env. pass_statement m1 x env) (λ env. pass_statement m2 x env) (λ e l. statement_alike r x i.1 c e l) (split (where_going (known_where true env (assess calls v env)) (λ env. pass_statement m1 x env)).returned None h).0 in
        λ i. with_calls (failing_in calls v env) (beside (one i) (reached (known_where false env (assess calls v env))))
    statement_alike r (statement at (if_else v x y)) i c env h =
        let both = split (where_going (known_where true env (assess calls v env)) (λ env. pass_statement m1 x env)).returned (where_going (known_where false env (assess calls v env)) (λ env. pass_statement m1 y env)).returned h in
        let one = going_both (known_where true env (assess calls v env)) (λ env. pass_statement m1 x env) (λ env. pass_statement m2 x env) (λ e l. statement_alike r x i.1 (each_left Turned (loops_in x) (loops_in y) c) e l) both.0 in
        let two = going_both (known_where false env (assess calls v env)) (λ env. pass_statement m1 y env) (λ env. pass_statement m2 y env) (λ e l. statement_alike r y i.2 (each_right Turned (loops_in x) (loops_in y) c) e l) both.1 in
        λ i. with_calls (failing_in calls v env) (beside (one i) (two i))
    statement_alike r (statement at (loop head first tested third body)) i c env h =
        let firsts = clauses_alike first (first_plain variables calls (Some these) first_result (λ n e. Unit {0}) head.keyword first tested third i.4) in
        let thirds = clauses_alike third (third_plain variables calls (Some these) first_result (λ n e. Unit {0}) head.keyword first tested third i.4) in
        let assigned : ℕ → Bool = λ n. form_assigns n (loop head first tested third body) in
        ap (as_block first) (then_alike (pass_statements m1 first env) (pass_statements m2 first env)
        (λ entry. loop_left m1 (loop_claimed these head.number) head assigned entry (round_of m1 head.keyword tested (λ env. pass_statements m1 third env) (λ env. pass_statement m1 body env) (head_of (loop_claimed these head.number) variables entry)))
        (λ entry. loop_left m2 (loop_claimed those head.number) head assigned entry (round_of m2 head.keyword tested (λ env. pass_statements m2 third env) (λ env. pass_statement m2 body env) (head_of (loop_claimed those head.number) variables entry)))
        (firsts env) (λ entry q. loop_alike head tested (λ env. pass_statements m1 third env) (λ env. pass_statements m2 third env) (λ env. pass_statement m1 body env) (λ env. pass_statement m2 body env) assigned thirds
        (λ e l. statement_alike (record (after_all r first) { in_loop = true }) body i.3 c.1 e l) c.0 entry
        (lies_going (pass_statements m1 first env).normal
        (λ entry. loop_left m1 (loop_claimed these head.number) head assigned entry (round_of m1 head.keyword tested (λ env. pass_statements m1 third env) (λ env. pass_statement m1 body env) (head_of (loop_claimed these head.number) variables entry)))
        entry q (split (pass_statements m1 first env).returned _ h).1)))
    statement_alike r (statement at (switch keyword v labels (statement there (block xs)))) i c env h =
        ap (with_calls (failing_in calls v env)) (if_alike (has_value calls v env) (switch_left labels env (as_block xs (pass_from m1 labels 0 xs env None))) (switch_left labels env (as_block xs (pass_from m2 labels 0 xs env None)))
        (λ l. ap (λ (a : Left). switch_left labels env (as_block xs a)) (from_alike labels (record r { in_switch = true }) 0 xs i.1 c env None l)) h)
    statement_alike r (statement at (switch keyword v labels body)) i c env h = refl
    statement_alike r (statement at break) i c env h = refl
    statement_alike r (statement at continue) i c env h = refl
    statement_alike r (statement at (return keyword None)) i c env h = refl
    statement_alike r (statement at (return keyword (Some v))) i c env h = ap (with_calls (failing_in calls v env)) (value_alike keyword v env h)
    statement_alike r (statement at empty) i c env h = refl
    statement_alike r (statement at (mark kind)) i c env h = refl

    pub statements_alike : (r : Region) (xs : PlainStatements) → AreWholeStatements r xs → Each Turned (loops_of xs) → (env : Environment) → Lies (pass_statements m1 xs env) → pass_statements m1 xs env ≡ pass_statements m2 xs env
    statements_alike r no_statements i c env h = refl
    statements_alike r (more_statements x rest) i c env h =
        let both = split (pass_statement m1 x env).returned (where_going (pass_statement m1 x env).normal (λ env. pass_statements m1 rest env)).returned h in
        then_alike (pass_statement m1 x env) (pass_statement m2 x env) (λ env. pass_statements m1 rest env) (λ env. pass_statements m2 rest env) (statement_alike r x i.0 (each_left Turned (loops_in x) (loops_of rest) c) env both.0)
        (λ e q. statements_alike (after r x) rest i.1 (each_right Turned (loops_in x) (loops_of rest) c) e (lies_going (pass_statement m1 x env).normal (λ env. pass_statements m1 rest env) e q both.1))

    from_alike : (labels : PlainLabels) (r : Region) (k : ℕ) (xs : PlainStatements) → AreWholeStatements r xs → Each Turned (loops_of xs) → (env : Environment) (before : Option Environment) → Lies (pass_from m1 labels k xs env before) → pass_from m1 labels k xs env before ≡ pass_from m2 labels k xs env before
    from_alike labels r k no_statements i c env before h = refl
    from_alike labels r k (more_statements x rest) i c env before h =
        let enters : Option Environment = if is_labelled k labels then hull_reached before (Some env) else before in
        let one : Left = where_going enters (λ env. pass_statement m1 x env) in
        let both = split one.returned (pass_from m1 labels (suc k) rest env one.normal).returned h in
        let same = going_both enters (λ env. pass_statement m1 x env) (λ env. pass_statement m2 x env) (λ e l. statement_alike r x i.0 (each_left Turned (loops_in x) (loops_of rest) c) e l) both.0 in
        ap (followed one) (from_alike labels (after r x) (suc k) rest i.1 (each_right Turned (loops_in x) (loops_of rest) c) env one.normal both.1)
        ∙ (λ i. followed (same i) (pass_from m2 labels (suc k) rest env (same i).normal))
