-- Erased statements have the erased loops.
use Rattle.std.proofs.Common.{◌≡◌, ◌∙◌, List, ◌∷◌, ◌++◌, map, option_map, refl, ap}
use Rattle.p10_core.specs.Typed.{PlainStatement, statement, PlainStatementForm, set, update, copy, evaluate, asserts, declare, declare_static, block, if_then, if_else, loop, switch, break, continue, return, empty, mark, PlainStatements, no_statements, more_statements, PlainProgram}
use Rattle.p10_turns.specs.LoopParts.{LoopParts, loops_within, loops_within_form, loops_among}
use Rattle.p10_views.specs.Erased.{erased_head, erased_value, erased_statement, erased_statement_form, erased_statements}
use Rattle.p10_views.proofs.Spans.{map_both}

abbrev pub erased_parts : PlainProgram → LoopParts → LoopParts
erased_parts p l = record {
  head = erased_head l.head;
  first = erased_statements p l.first;
  tested = option_map (erased_value p) l.tested;
  third = erased_statements p l.third;
  body = erased_statement p l.body;
}

mutual
  in_statement : (p : PlainProgram) (s : PlainStatement) → loops_within (erased_statement p s) ≡ map (erased_parts p) (loops_within s)
  in_statement p (statement at form) = in_form p form

  in_form : (p : PlainProgram) (form : PlainStatementForm) → loops_within_form (erased_statement_form p form) ≡ map (erased_parts p) (loops_within_form form)
  in_form p (set q v) = refl
  in_form p (update kind op t q v) = refl
  in_form p (copy q r) = refl
  in_form p (evaluate v) = refl
  in_form p (asserts at v) = refl
  in_form p (declare n initializer) = refl
  in_form p (declare_static n) = refl
  in_form p (block ss) = in_statements p ss
  in_form p (if_then v s) = in_statement p s
  in_form p (if_else v s t) = (λ i. in_statement p s i ++ in_statement p t i) ∙ map_both (erased_parts p) (loops_within s) (loops_within t)
  in_form p (loop head first tested third body) =
      ap (λ (more : List LoopParts). erased_parts p (record { head = head; first = first; tested = tested; third = third; body = body }) ∷ more) (in_statement p body)
  in_form p (switch keyword v labels body) = in_statement p body
  in_form p break = refl
  in_form p continue = refl
  in_form p (return keyword v) = refl
  in_form p empty = refl
  in_form p (mark kind) = refl

  pub in_statements : (p : PlainProgram) (ss : PlainStatements) → loops_among (erased_statements p ss) ≡ map (erased_parts p) (loops_among ss)
  in_statements p no_statements = refl
  in_statements p (more_statements s rest) = (λ i. in_statement p s i ++ in_statements p rest i) ∙ map_both (erased_parts p) (loops_within s) (loops_among rest)
