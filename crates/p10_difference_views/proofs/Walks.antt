-- A walk over statements comes to the same as over erased ones, where the operations of its domain do.
use Rattle.std.proofs.Common.{◌≡◌, ◌∙◌, ℕ, suc, ◌||◌, Bool, true, false, Option, Some, None, option_map, refl, ap}
use Rattle.std.specs.Prelude.{if◌then◌else◌, is_none}
use Rattle.std.specs.Option.{option_and_then}
use Rattle.p10_core.specs.declared.statements.LoopKeyword.{LoopKeyword}
use Rattle.p10_core.specs.declared.statements.LoopKeyword.TheVariants.{Do, While, For}
use Rattle.p10_core.specs.Typed.{PlainValue, PlainLabels, PlainStatement, statement, PlainStatementForm, set, update, copy, evaluate, asserts, declare, declare_static, block, if_then, if_else, loop, switch, break, continue, return, empty, mark, PlainStatements, no_statements, more_statements, PlainProgram}
use Rattle.p10_core.specs.Typed.{PlainPlace, place, variable, global, literal, index, member, dereference}
use Rattle.p10_meaning.specs.Variables.{is_variable_place, may_change, form_may_change, any_may_change}
use Rattle.p10_pass.specs.Passing.{is_labelled}
use Rattle.p10_turns.specs.LoopParts.{LoopParts}
use Rattle.p10_walk.specs.Operations.{Operations}
use Rattle.p10_walk.specs.Walking.{Ends, nowhere, reached, where_going, hull_reached, followed, beside, as_block, switch_left, walk, walk_form, walk_all, walk_switch, walk_switch_form, walk_from, Round, test_holds, round_of}
use Rattle.p10_walk.specs.Turns.{round_from}
use Rattle.p10_views.specs.Erased.{erased_value, erased_place, erased_statement, erased_statement_form, erased_statements}
use Rattle.p10_evidence_views.proofs.LoopsErased.{erased_parts}

-- operations on erased trees, and on trees, do the same
pub record SameOperations {K : Type 0} (p : PlainProgram) (one other : Operations K) : Type 0 where
  pub after : (form : PlainStatementForm) (e : K) → one.after (erased_statement_form p form) e ≡ other.after form e
  pub assume : (truth : Bool) (v : PlainValue) (e : K) → one.assume truth (erased_value p v) e ≡ other.assume truth v e
  pub has_value : (v : PlainValue) (e : K) → one.has_value (erased_value p v) e ≡ other.has_value v e
  pub hull : (a b : K) → one.hull a b ≡ other.hull a b
  pub left_scope : (ss : PlainStatements) (e : K) → one.left_scope (erased_statements p ss) e ≡ other.left_scope ss e
  pub forget : (these others : ℕ → Bool) → ((n : ℕ) → these n ≡ others n) → (e : K) → one.forget these e ≡ other.forget others e

-- ---- what may change

place_changes : (p : PlainProgram) (n : ℕ) (r : PlainPlace) → is_variable_place n (erased_place p r) ≡ is_variable_place n r
place_changes p n (place at t (variable m)) = refl
place_changes p n (place at t (global m)) = refl
place_changes p n (place at t (literal m bytes)) = refl
place_changes p n (place at t (index a k)) = refl
place_changes p n (place at t (member r m)) = refl
place_changes p n (place at t (dereference v)) = refl

mutual
  changes : (p : PlainProgram) (n : ℕ) (s : PlainStatement) → may_change n (erased_statement p s) ≡ may_change n s
  changes p n (statement at form) = form_changes p n form

  form_changes : (p : PlainProgram) (n : ℕ) (form : PlainStatementForm) → form_may_change n (erased_statement_form p form) ≡ form_may_change n form
  form_changes p n (set r v) = place_changes p n r
  form_changes p n (update kind o t r v) = place_changes p n r
  form_changes p n (copy r s) = refl
  form_changes p n (evaluate v) = refl
  form_changes p n (asserts site v) = refl
  form_changes p n (declare m initializer) = refl
  form_changes p n (declare_static m) = refl
  form_changes p n (block ss) = any_changes p n ss
  form_changes p n (if_then v s) = changes p n s
  form_changes p n (if_else v s u) = λ i. changes p n s i || changes p n u i
  form_changes p n (loop head first tested third body) = λ i. any_changes p n first i || any_changes p n third i || changes p n body i
  form_changes p n (switch keyword v labels body) = changes p n body
  form_changes p n break = refl
  form_changes p n continue = refl
  form_changes p n (return keyword v) = refl
  form_changes p n empty = refl
  form_changes p n (mark kind) = refl

  any_changes : (p : PlainProgram) (n : ℕ) (ss : PlainStatements) → any_may_change n (erased_statements p ss) ≡ any_may_change n ss
  any_changes p n no_statements = refl
  any_changes p n (more_statements s rest) = λ i. changes p n s i || any_changes p n rest i

-- ---- ends

hulled : {K : Type 0} (p : PlainProgram) (one other : Operations K) → SameOperations p one other → (a b : Option K) → hull_reached one a b ≡ hull_reached other a b
hulled p one other same None b = refl
hulled p one other same (Some a) None = refl
hulled p one other same (Some a) (Some b) = λ i. Some (same.hull a b i)

follows : {K : Type 0} (p : PlainProgram) (one other : Operations K) → SameOperations p one other → (a b : Ends K) → followed one a b ≡ followed other a b
follows p one other same a b = λ i. record { normal = b.normal; breaks = hulled p one other same a.breaks b.breaks i; continues = hulled p one other same a.continues b.continues i }

both : {K : Type 0} (p : PlainProgram) (one other : Operations K) → SameOperations p one other → (a b : Ends K) → beside one a b ≡ beside other a b
both p one other same a b =
    λ i. record { normal = hulled p one other same a.normal b.normal i; breaks = hulled p one other same a.breaks b.breaks i; continues = hulled p one other same a.continues b.continues i }

blocks : {K : Type 0} (p : PlainProgram) (one other : Operations K) → SameOperations p one other → (ss : PlainStatements) (a : Ends K) → as_block one (erased_statements p ss) a ≡ as_block other ss a
blocks p one other same ss a = λ i. record {
  normal = option_map (λ e. same.left_scope ss e i) a.normal;
  breaks = option_map (λ e. same.left_scope ss e i) a.breaks;
  continues = option_map (λ e. same.left_scope ss e i) a.continues;
}

switches : {K : Type 0} (p : PlainProgram) (one other : Operations K) → SameOperations p one other → (labels : PlainLabels) (e : K) (a : Ends K) → switch_left one labels e a ≡ switch_left other labels e a
switches p one other same labels e a =
    (λ i. record { normal = hull_reached one (hulled p one other same a.normal a.breaks i) (if is_none labels.otherwise then Some e else None); breaks = None; continues = a.continues })
    ∙ (λ i. record { normal = hulled p one other same (hull_reached other a.normal a.breaks) (if is_none labels.otherwise then Some e else None) i; breaks = None; continues = a.continues })

-- ---- statements

mutual
  pub walks : {K : Type 0} (p : PlainProgram) (one other : Operations K) → SameOperations p one other → (s : PlainStatement) (e : K) → walk one (erased_statement p s) e ≡ walk other s e
  walks p one other same (statement at form) e = form_walks p one other same form e

  form_walks : {K : Type 0} (p : PlainProgram) (one other : Operations K) → SameOperations p one other → (form : PlainStatementForm) (e : K) → walk_form one (erased_statement_form p form) e ≡ walk_form other form e
  form_walks p one other same (set r v) e = λ i. reached (same.after (set r v) e i)
  form_walks p one other same (update kind o t r v) e = λ i. reached (same.after (update kind o t r v) e i)
  form_walks p one other same (copy r s) e = λ i. reached (same.after (copy r s) e i)
  form_walks p one other same (evaluate v) e = λ i. reached (same.after (evaluate v) e i)
  form_walks p one other same (asserts site v) e = λ i. reached (same.after (asserts site v) e i)
  form_walks p one other same (declare n initializer) e = λ i. reached (same.after (declare n initializer) e i)
  form_walks p one other same (declare_static n) e = λ i. reached (same.after (declare_static n) e i)
  form_walks p one other same (block ss) e =
      (λ i. as_block one (erased_statements p ss) (all_walk p one other same ss (reached (Some e)) i)) ∙ blocks p one other same ss (walk_all other ss (reached (Some e)))
  form_walks p one other same (if_then v s) e =
      (λ i. beside one (where_going (same.assume true v e i) (λ e. walks p one other same s e i)) (reached (same.assume false v e i)))
      ∙ both p one other same (where_going (other.assume true v e) (λ e. walk other s e)) (reached (other.assume false v e))
  form_walks p one other same (if_else v s u) e =
      (λ i. beside one (where_going (same.assume true v e i) (λ e. walks p one other same s e i)) (where_going (same.assume false v e i) (λ e. walks p one other same u e i)))
      ∙ both p one other same (where_going (other.assume true v e) (λ e. walk other s e)) (where_going (other.assume false v e) (λ e. walk other u e))
  form_walks p one other same (loop head first tested third body) e =
      λ i. reached (Some (same.forget (λ n. form_may_change n (erased_statement_form p (loop head first tested third body))) (λ n. form_may_change n (loop head first tested third body)) (λ n. form_changes p n (loop head first tested third body)) e i))
  form_walks p one other same (switch keyword v labels body) e = λ i. if same.has_value v e i then switch_walks p one other same labels body e i else nowhere
  form_walks p one other same break e = refl
  form_walks p one other same continue e = refl
  form_walks p one other same (return keyword v) e = refl
  form_walks p one other same empty e = λ i. reached (same.after empty e i)
  form_walks p one other same (mark kind) e = λ i. reached (same.after (mark kind) e i)

  pub all_walk : {K : Type 0} (p : PlainProgram) (one other : Operations K) → SameOperations p one other → (ss : PlainStatements) (a : Ends K) → walk_all one (erased_statements p ss) a ≡ walk_all other ss a
  all_walk p one other same no_statements a = refl
  all_walk p one other same (more_statements s rest) a =
      (λ i. walk_all one (erased_statements p rest) (followed one a (where_going a.normal (λ e. walks p one other same s e i))))
      ∙ (λ i. walk_all one (erased_statements p rest) (follows p one other same a (where_going a.normal (λ e. walk other s e)) i))
      ∙ all_walk p one other same rest (followed other a (where_going a.normal (λ e. walk other s e)))

  switch_walks : {K : Type 0} (p : PlainProgram) (one other : Operations K) → SameOperations p one other → (labels : PlainLabels) (s : PlainStatement) (e : K) → walk_switch one labels (erased_statement p s) e ≡ walk_switch other labels s e
  switch_walks p one other same labels (statement at form) e = switch_form_walks p one other same labels form e

  switch_form_walks : {K : Type 0} (p : PlainProgram) (one other : Operations K) → SameOperations p one other → (labels : PlainLabels) (form : PlainStatementForm) (e : K)
      → walk_switch_form one labels (erased_statement_form p form) e ≡ walk_switch_form other labels form e
  switch_form_walks p one other same labels (set r v) e = refl
  switch_form_walks p one other same labels (update kind o t r v) e = refl
  switch_form_walks p one other same labels (copy r s) e = refl
  switch_form_walks p one other same labels (evaluate v) e = refl
  switch_form_walks p one other same labels (asserts site v) e = refl
  switch_form_walks p one other same labels (declare n initializer) e = refl
  switch_form_walks p one other same labels (declare_static n) e = refl
  switch_form_walks p one other same labels (block ss) e =
      (λ i. switch_left one labels e (as_block one (erased_statements p ss) (from_walks p one other same labels 0 ss e nowhere i)))
      ∙ (λ i. switch_left one labels e (blocks p one other same ss (walk_from other labels 0 ss e nowhere) i))
      ∙ switches p one other same labels e (as_block other ss (walk_from other labels 0 ss e nowhere))
  switch_form_walks p one other same labels (if_then v s) e = refl
  switch_form_walks p one other same labels (if_else v s u) e = refl
  switch_form_walks p one other same labels (loop head first tested third body) e = refl
  switch_form_walks p one other same labels (switch keyword v others body) e = refl
  switch_form_walks p one other same labels break e = refl
  switch_form_walks p one other same labels continue e = refl
  switch_form_walks p one other same labels (return keyword v) e = refl
  switch_form_walks p one other same labels empty e = refl
  switch_form_walks p one other same labels (mark kind) e = refl

  from_walks : {K : Type 0} (p : PlainProgram) (one other : Operations K) → SameOperations p one other → (labels : PlainLabels) (k : ℕ) (ss : PlainStatements) (e : K) (a : Ends K)
      → walk_from one labels k (erased_statements p ss) e a ≡ walk_from other labels k ss e a
  from_walks p one other same labels k no_statements e a = refl
  from_walks p one other same labels k (more_statements s rest) e a =
      (λ i. walk_from one labels (suc k) (erased_statements p rest) e (followed one a (where_going (if is_labelled k labels then hulled p one other same a.normal (Some e) i else a.normal) (λ e. walks p one other same s e i))))
      ∙ (λ i. walk_from one labels (suc k) (erased_statements p rest) e (follows p one other same a (where_going (if is_labelled k labels then hull_reached other a.normal (Some e) else a.normal) (λ e. walk other s e)) i))
      ∙ from_walks p one other same labels (suc k) rest e (followed other a (where_going (if is_labelled k labels then hull_reached other a.normal (Some e) else a.normal) (λ e. walk other s e)))

-- ---- rounds of loops

tests : {K : Type 0} (p : PlainProgram) (one other : Operations K) → SameOperations p one other → (v : Option PlainValue) (e : K) → test_holds one (option_map (erased_value p) v) e ≡ test_holds other v e
tests p one other same None e = refl
tests p one other same (Some v) e = same.assume true v e

-- a round whose test stands last, by its parts
abbrev round_last : {K : Type 0} → Operations K → (K → Option K) → Ends K → K → Round K
round_last o test b h = record { enters = Some h; back = option_and_then test (hull_reached o b.normal b.continues) }

first_rounds : {K : Type 0} (p : PlainProgram) (one other : Operations K) → SameOperations p one other → (v : Option PlainValue) (third : PlainStatements) (body : PlainStatement) (h : K) →
    (walk_all one (erased_statements p third) (reached (hull_reached one (where_going (test_holds one (option_map (erased_value p) v) h) (λ e. walk one (erased_statement p body) e)).normal (where_going (test_holds one (option_map (erased_value p) v) h) (λ e. walk one (erased_statement p body) e)).continues))).normal
    ≡ (walk_all other third (reached (hull_reached other (where_going (test_holds other v h) (λ e. walk other body e)).normal (where_going (test_holds other v h) (λ e. walk other body e)).continues))).normal
first_rounds p one other same v third body h =
    let b : Ends _ = where_going (test_holds other v h) (λ e. walk other body e) in
    let inside : where_going (test_holds one (option_map (erased_value p) v) h) (λ e. walk one (erased_statement p body) e) ≡ b = λ i. where_going (tests p one other same v h i) (λ e. walks p one other same body e i) in
    (λ i. (walk_all one (erased_statements p third) (reached (hull_reached one (inside i).normal (inside i).continues))).normal)
    ∙ (λ i. (walk_all one (erased_statements p third) (reached (hulled p one other same b.normal b.continues i))).normal)
    ∙ ap (λ (a : Ends _). a.normal) (all_walk p one other same third (reached (hull_reached other b.normal b.continues)))

rounds : {K : Type 0} (p : PlainProgram) (one other : Operations K) → SameOperations p one other → (keyword : LoopKeyword) (v : Option PlainValue) (third : PlainStatements) (body : PlainStatement) (h : K)
    → round_of one keyword (option_map (erased_value p) v) (erased_statements p third) (erased_statement p body) h ≡ round_of other keyword v third body h
rounds p one other same Do v third body h =
    (λ i. round_last one (λ e. tests p one other same v e i) (walks p one other same body h i) h)
    ∙ (λ i. record { enters = Some h; back = option_and_then (test_holds other v) (hulled p one other same (walk other body h).normal (walk other body h).continues i) })
rounds p one other same While v third body h = λ i. record { enters = tests p one other same v h i; back = first_rounds p one other same v third body h i }
rounds p one other same For v third body h = λ i. record { enters = tests p one other same v h i; back = first_rounds p one other same v third body h i }

pub round_same : {K : Type 0} (p : PlainProgram) (one other : Operations K) → SameOperations p one other → (l : LoopParts) (h : K) → round_from one (erased_parts p l) h ≡ round_from other l h
round_same p one other same l h = rounds p one other same l.head.keyword l.tested l.third l.body h
