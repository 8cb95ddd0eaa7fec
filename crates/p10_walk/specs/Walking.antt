-- The walk over statements, over any domain: what is known after them, for each way in which they end. Nothing is claimed of inner loops
-- and of calls: what an inner loop may change is forgotten.
use Rattle.std.specs.Prelude.{ℕ, suc, true, false, if◌then◌else◌, is_none, Option, Some, None}
use Rattle.std.specs.Option.{option_map, option_and_then}
use Rattle.p10_core.specs.declared.statements.LoopKeyword.{LoopKeyword}
use Rattle.p10_core.specs.declared.statements.LoopKeyword.TheVariants.{Do}
use Rattle.p10_core.specs.Typed.{PlainValue, PlainLabels, PlainStatement, statement, PlainStatementForm, block, if_then, if_else, loop, switch, break, continue, return, PlainStatements, no_statements, more_statements}
use Rattle.p10_meaning.specs.Variables.{form_may_change}
use Rattle.p10_pass.specs.Passing.{is_labelled}
use Rattle.p10_walk.specs.Operations.{Operations}

-- ## Ends of statements

-- what statements leave where they end normally, by `break` and by `continue`: nothing where no state ends so. Of a `return` nothing is said
pub record Ends (K : Type 0) : Type 0 where
  pub normal : Option K
  pub breaks : Option K
  pub continues : Option K

-- no state ends in any way
abbrev pub nowhere : {K : Type 0} → Ends K
nowhere = record { normal = None; breaks = None; continues = None }

-- states end normally, if there are any
abbrev pub reached : {K : Type 0} → Option K → Ends K
reached e = record { normal = e; breaks = None; continues = None }

-- what follows where states come, if any do
abbrev pub where_going : {K : Type 0} → Option K → (K → Ends K) → Ends K
where_going None go = nowhere
where_going (Some e) go = go e

-- what is known where one of two is, of which each may be lacking
abbrev pub hull_reached : {K : Type 0} → Operations K → Option K → Option K → Option K
hull_reached o None b = b
hull_reached o (Some a) None = Some a
hull_reached o (Some a) (Some b) = Some (o.hull a b)

-- all ends of two parts, of which the second gives the normal one
abbrev pub followed : {K : Type 0} → Operations K → Ends K → Ends K → Ends K
followed o a b = record {
  normal = b.normal;
  breaks = hull_reached o a.breaks b.breaks;
  continues = hull_reached o a.continues b.continues;
}

-- one of two parts: the ends of both
abbrev pub beside : {K : Type 0} → Operations K → Ends K → Ends K → Ends K
beside o a b = record {
  normal = hull_reached o a.normal b.normal;
  breaks = hull_reached o a.breaks b.breaks;
  continues = hull_reached o a.continues b.continues;
}

-- a block: the variables that it declares go out of scope at its end
abbrev pub as_block : {K : Type 0} → Operations K → PlainStatements → Ends K → Ends K
as_block o ss a = record {
  normal = option_map (o.left_scope ss) a.normal;
  breaks = option_map (o.left_scope ss) a.breaks;
  continues = option_map (o.left_scope ss) a.continues;
}

-- after a `switch`: its breaks end normally, and without `default` there is a way past its body (C99 6.8.4.2)
abbrev pub switch_left : {K : Type 0} → Operations K → PlainLabels → K → Ends K → Ends K
switch_left o labels e a = record {
  normal = hull_reached o (hull_reached o a.normal a.breaks) (if is_none labels.otherwise then Some e else None);
  breaks = None;
  continues = a.continues;
}

-- ## Statements

abbrev mutual
  -- what a statement leaves
  pub walk : {K : Type 0} → Operations K → PlainStatement → K → Ends K
  walk o (statement at form) e = walk_form o form e

  -- a row for each form (C99 6.8)
  pub walk_form : {K : Type 0} → Operations K → PlainStatementForm → K → Ends K
  walk_form o (block ss) e = as_block o ss (walk_all o ss (reached (Some e)))
  walk_form o (if_then v s) e = beside o (where_going (o.assume true v e) (λ e. walk o s e)) (reached (o.assume false v e))
  walk_form o (if_else v s t) e = beside o (where_going (o.assume true v e) (λ e. walk o s e)) (where_going (o.assume false v e) (λ e. walk o t e))
  walk_form o (loop head first tested third body) e = reached (Some (o.forget (λ n. form_may_change n (loop head first tested third body)) e))
  walk_form o (switch keyword v labels body) e = if o.has_value v e then walk_switch o labels body e else nowhere
  walk_form o break e = record { normal = None; breaks = Some e; continues = None }
  walk_form o continue e = record { normal = None; breaks = None; continues = Some e }
  walk_form o (return keyword v) e = nowhere
  walk_form o form e = reached (o.after form e)

  -- what statements leave, one after the other, after parts that left something
  pub walk_all : {K : Type 0} → Operations K → PlainStatements → Ends K → Ends K
  walk_all o no_statements a = a
  walk_all o (more_statements s rest) a = walk_all o rest (followed o a (where_going a.normal (λ e. walk o s e)))

  -- the body of a `switch`: a body that is no block has no labels, so it isn't entered
  pub walk_switch : {K : Type 0} → Operations K → PlainLabels → PlainStatement → K → Ends K
  walk_switch o labels (statement at form) e = walk_switch_form o labels form e

  -- the same of a form
  pub walk_switch_form : {K : Type 0} → Operations K → PlainLabels → PlainStatementForm → K → Ends K
  walk_switch_form o labels (block ss) e = switch_left o labels e (as_block o ss (walk_from o labels 0 ss e nowhere))
  walk_switch_form o labels form e = reached (Some e)

  -- the items of its body from item k on, where something is known at the `switch`, after items that left something
  pub walk_from : {K : Type 0} → Operations K → PlainLabels → ℕ → PlainStatements → K → Ends K → Ends K
  walk_from o labels k no_statements e a = a
  walk_from o labels k (more_statements s rest) e a =
      walk_from o labels (suc k) rest e (followed o a (where_going (if is_labelled k labels then hull_reached o a.normal (Some e) else a.normal) (λ e. walk o s e)))

-- ## Loops

-- one round of a loop from its head: what is known where its body is entered, and where it goes back to the head
pub record Round (K : Type 0) : Type 0 where
  pub enters : Option K
  pub back : Option K

-- what is known where the test of a loop is true; a `for` without one goes on (C99 6.8.5.3)
abbrev pub test_holds : {K : Type 0} → Operations K → Option PlainValue → K → Option K
test_holds o None e = Some e
test_holds o (Some v) e = o.assume true v e

-- `while` and `for`: the test, the body, and the third clause after its end and its `continue`s; `do`: the body, and the test after these
-- (C99 6.8.5)
abbrev pub round_of : {K : Type 0} → Operations K → LoopKeyword → Option PlainValue → PlainStatements → PlainStatement → K → Round K
round_of o Do tested third body h =
    let b : Ends _ = walk o body h in record { enters = Some h; back = option_and_then (test_holds o tested) (hull_reached o b.normal b.continues) }
round_of o keyword tested third body h =
    let b : Ends _ = where_going (test_holds o tested h) (λ e. walk o body e) in
    record { enters = test_holds o tested h; back = (walk_all o third (reached (hull_reached o b.normal b.continues))).normal }
