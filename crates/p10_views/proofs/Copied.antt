-- What the statements of a whole program copy are objects: their types have sizes.
use Rattle.std.proofs.Common.{◌≡◌, ◌∙◌, ℕ, zero, suc, ◌<◌, true, false, List, length, take, Option, Some, None, is_some, refl, ap, subst}
use Rattle.std.specs.Prelude.{slice_get}
use Rattle.std.proofs.lemmas.Option.{slice_get_within}
use Rattle.p10_core.specs.Types.{PlainType, void, integer, pointer, array, structure, PlainStructure, unqualified, body_in}
use Rattle.p10_core.specs.Rows.{is_complete}
use Rattle.p10_core.specs.Typed.{PlainPlace, place_type, PlainStatement, statement, PlainStatementForm, set, update, copy, evaluate, asserts, declare, declare_static, block, if_then, if_else, loop, switch, break, continue, return, empty, mark, PlainStatements, no_statements, more_statements, statements_list, statements_of_list}
use Rattle.p10_core.specs.Whole.{Surroundings}
use Rattle.p10_core.specs.WholePrograms.{IsObjectType, Region, around, after, after_all, Copies, IsWholeStatement, IsWholeStatementForm, AreWholeStatements}
use Rattle.p10_meaning.specs.Runs.{Task, task_in}

-- ## Statements that copy objects alone

abbrev mutual
  pub CopiesObjects : List PlainStructure → PlainStatement → Type 0
  CopiesObjects ss (statement at form) = FormCopiesObjects ss form

  pub FormCopiesObjects : List PlainStructure → PlainStatementForm → Type 0
  FormCopiesObjects ss (copy q r) = IsObjectType ss (place_type q)
  FormCopiesObjects ss (block inner) = CopyObjects ss inner
  FormCopiesObjects ss (if_then v s) = CopiesObjects ss s
  FormCopiesObjects ss (if_else v s t) = CopiesObjects ss s × CopiesObjects ss t
  FormCopiesObjects ss (loop head first test third body) = (CopyObjects ss first × CopyObjects ss third) × CopiesObjects ss body
  FormCopiesObjects ss (switch keyword v labels body) = CopiesObjects ss body
  FormCopiesObjects ss form = Unit {0}

  pub CopyObjects : List PlainStructure → PlainStatements → Type 0
  CopyObjects ss no_statements = Unit {0}
  CopyObjects ss (more_statements s rest) = CopiesObjects ss s × CopyObjects ss rest

-- ## Those of a whole program do

abbrev structure_number : PlainType → ℕ
structure_number (structure c n) = n
structure_number t = 0

-- a structure that is complete is there
there : (ss : List PlainStructure) (n : ℕ) (o : Option PlainStructure) → slice_get ss n ≡ o → is_some (body_in o) ≡ true → n < length ss
there ss n None e h = absurd cc
there ss n (Some s) e h = slice_get_within ss n s e

object_by : (ss : List PlainStructure) (t : PlainType) (number : ℕ) → unqualified t ≡ structure false number → is_complete ss (structure false number) ≡ true → IsObjectType ss t
object_by ss (structure c n) number e full =
    let same : is_complete ss (structure c n) ≡ true = ap (λ k. is_complete ss (structure false k)) (ap structure_number e) ∙ full in
    record { whole = there ss n (slice_get ss n) refl same; complete = same }
object_by ss (void c) number e full = absurd cc
object_by ss (integer c kind) number e full = absurd cc
object_by ss (pointer c t) number e full = absurd cc
object_by ss (array c t n) number e full = absurd cc

copied_object : (c : Surroundings) (q r : PlainPlace) → Copies c q r → IsObjectType c.structures (place_type q)
copied_object c q r w = object_by c.structures (place_type q) w.source.number w.source.target_is w.source.complete

-- regions of one program have its structures
abbrev structures_in : Region → List PlainStructure
structures_in r = r.program.structures

after_stays : (r : Region) (s : PlainStatement) → structures_in (after r s) ≡ structures_in r
after_stays r (statement at (set q v)) = refl
after_stays r (statement at (update kind op t q v)) = refl
after_stays r (statement at (copy q z)) = refl
after_stays r (statement at (evaluate v)) = refl
after_stays r (statement at (asserts call v)) = refl
after_stays r (statement at (declare n initializer)) = refl
after_stays r (statement at (declare_static n)) = refl
after_stays r (statement at (block ss)) = refl
after_stays r (statement at (if_then v s)) = refl
after_stays r (statement at (if_else v s t)) = refl
after_stays r (statement at (loop head first test third body)) = refl
after_stays r (statement at (switch keyword v labels body)) = refl
after_stays r (statement at break) = refl
after_stays r (statement at continue) = refl
after_stays r (statement at (return keyword v)) = refl
after_stays r (statement at empty) = refl
after_stays r (statement at (mark kind)) = refl

all_stay : (r : Region) (ss : PlainStatements) → structures_in (after_all r ss) ≡ structures_in r
all_stay r no_statements = refl
all_stay r (more_statements s rest) = all_stay (after r s) rest ∙ after_stays r s

mutual
  statement_copies : (r : Region) (s : PlainStatement) → IsWholeStatement r s → CopiesObjects (structures_in r) s
  statement_copies r (statement at form) w = form_copies r form w

  form_copies : (r : Region) (form : PlainStatementForm) → IsWholeStatementForm r form → FormCopiesObjects (structures_in r) form
  form_copies r (set q v) w = tt
  form_copies r (update kind op t q v) w = tt
  form_copies r (copy q z) w = copied_object (around r) q z w
  form_copies r (evaluate v) w = tt
  form_copies r (asserts call v) w = tt
  form_copies r (declare n initializer) w = tt
  form_copies r (declare_static n) w = tt
  form_copies r (block ss) w = statements_copy r ss w
  form_copies r (if_then v s) w = statement_copies r s w.1
  form_copies r (if_else v s t) w = (statement_copies r s w.1, statement_copies r t w.2)
  form_copies r (loop head first test third body) w =
      let inner : Region = after_all r first in
      let same : structures_in inner ≡ structures_in r = all_stay r first in
      ((statements_copy r first w.0, subst (λ ss. CopyObjects ss third) same (statements_copy inner third w.2)), subst (λ ss. CopiesObjects ss body) same (statement_copies (record inner { in_loop = true }) body w.3))
  form_copies r (switch keyword v labels body) w = statement_copies (record r { in_switch = true }) body w.1
  form_copies r break w = tt
  form_copies r continue w = tt
  form_copies r (return keyword v) w = tt
  form_copies r empty w = tt
  form_copies r (mark kind) w = tt

  pub statements_copy : (r : Region) (ss : PlainStatements) → AreWholeStatements r ss → CopyObjects (structures_in r) ss
  statements_copy r no_statements w = tt
  statements_copy r (more_statements s rest) w = (statement_copies r s w.0, subst (λ ss. CopyObjects ss rest) (after_stays r s) (statements_copy (after r s) rest w.1))

-- ## The statements before the task loop, and its own

pub prefix_copies : (ss : List PlainStructure) (n : ℕ) (all : PlainStatements) → CopyObjects ss all → CopyObjects ss (statements_of_list (take n (statements_list all)))
prefix_copies ss zero all w = tt
prefix_copies ss (suc n) no_statements w = tt
prefix_copies ss (suc n) (more_statements s rest) w = (w.0, prefix_copies ss n rest w.1)

abbrev pub TaskCopies : List PlainStructure → Option Task → Type 0
TaskCopies ss None = Unit {0}
TaskCopies ss (Some task) = CopiesObjects ss task.body

in_statement : (ss : List PlainStructure) (s : PlainStatement) → CopiesObjects ss s → TaskCopies ss (task_in (Some s))
in_statement ss (statement at (set q v)) w = tt
in_statement ss (statement at (update kind op t q v)) w = tt
in_statement ss (statement at (copy q r)) w = tt
in_statement ss (statement at (evaluate v)) w = tt
in_statement ss (statement at (asserts call v)) w = tt
in_statement ss (statement at (declare n initializer)) w = tt
in_statement ss (statement at (declare_static n)) w = tt
in_statement ss (statement at (block inner)) w = tt
in_statement ss (statement at (if_then v s)) w = tt
in_statement ss (statement at (if_else v s t)) w = tt
in_statement ss (statement at (loop head first test third body)) w = w.1
in_statement ss (statement at (switch keyword v labels body)) w = tt
in_statement ss (statement at break) w = tt
in_statement ss (statement at continue) w = tt
in_statement ss (statement at (return keyword v)) w = tt
in_statement ss (statement at empty) w = tt
in_statement ss (statement at (mark kind)) w = tt

pub task_copies : (ss : List PlainStructure) (all : PlainStatements) (n : ℕ) → CopyObjects ss all → TaskCopies ss (task_in (slice_get (statements_list all) n))
task_copies ss no_statements n w = tt
task_copies ss (more_statements s rest) zero w = in_statement ss s w.0
task_copies ss (more_statements s rest) (suc n) w = task_copies ss rest n w.1
