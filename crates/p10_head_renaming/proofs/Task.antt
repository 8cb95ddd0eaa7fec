-- The task loop of `main` stands at the same place in both programs.
use Rattle.std.proofs.Common.{◌≡◌, ℕ, zero, suc, ◌+◌, nat_eq, List, [], ◌∷◌, map, Bool, true, false, cond, if◌then◌else◌, Option, Some, None, refl, sym, ap, ◌∙◌, arith}
use Rattle.std.specs.Prelude.{slice_get, unwrap_or}
use Rattle.std.specs.List.{position_from}
use Rattle.std.proofs.lemmas.Bool.Decides.{nat_tests}
use Rattle.std.proofs.lemmas.Option.{same_Some, none-some}
use Rattle.p10_base.specs.Words.{Text}
use Rattle.p10_core.specs.declared.statements.MarkKind.{MarkKind}
use Rattle.p10_core.specs.declared.statements.MarkKind.TheVariants.{TaskLoop}
use Rattle.p10_core.specs.Typed.{PlainStatement, PlainStatements, statements_list, PlainFunction}
use Rattle.p10_linkage.specs.Linkage.{is_main_name}
use Rattle.p10_program.specs.Assembly.{after_place}
use Rattle.p10_program.specs.Pragmas.{is_pragma, pragma_in}
use Rattle.p10_renaming.specs.Renaming.{Pairing, SameFunction, SameStatement, same_statement, SameStatements, same_no_statements, same_more_statements}
use Rattle.p10_renaming.specs.Renaming as same
use Rattle.p10_head_renaming.specs.Laws.{main_of, TaskStays}

-- ## The place of `main`

-- the first that passes a test of its name
named_at : (test : Text → Bool) (n : ℕ) (functions : List PlainFunction) → position_from (λ (f : PlainFunction). test f.name) n functions ≡ position_from test n (map (λ (f : PlainFunction). f.name) functions)
named_at test n [] = refl
named_at test n (f ∷ functions) = ap (λ rest. cond (test f.name) (Some n) rest) (named_at test (n + 1) functions)

main_same : (functions others : List PlainFunction) → map (λ (f : PlainFunction). f.name) functions ≡ map (λ (f : PlainFunction). f.name) others → main_of functions ≡ main_of others
main_same functions others names = named_at is_main_name 0 functions ∙ ap (position_from is_main_name 0) names ∙ sym (named_at is_main_name 0 others)

-- ## Marks

pragma_same : (kind : MarkKind) (R : Pairing) (s t : PlainStatement) → SameStatement R s t → is_pragma kind s ≡ is_pragma kind t
pragma_same kind R _ _ (same_statement (same.same_set place value)) = refl
pragma_same kind R _ _ (same_statement (same.same_update type place value)) = refl
pragma_same kind R _ _ (same_statement (same.same_copy place other)) = refl
pragma_same kind R _ _ (same_statement (same.same_evaluate value)) = refl
pragma_same kind R _ _ (same_statement (same.same_asserts value)) = refl
pragma_same kind R _ _ (same_statement (same.same_declare initial)) = refl
pragma_same kind R _ _ (same_statement same.same_declare_static) = refl
pragma_same kind R _ _ (same_statement (same.same_block all)) = refl
pragma_same kind R _ _ (same_statement (same.same_if_then value one)) = refl
pragma_same kind R _ _ (same_statement (same.same_if_else value one other)) = refl
pragma_same kind R _ _ (same_statement (same.same_loop start test step one)) = refl
pragma_same kind R _ _ (same_statement (same.same_switch value one)) = refl
pragma_same kind R _ _ (same_statement same.same_break) = refl
pragma_same kind R _ _ (same_statement same.same_continue) = refl
pragma_same kind R _ _ (same_statement (same.same_return value)) = refl
pragma_same kind R _ _ (same_statement same.same_empty) = refl
pragma_same kind R _ _ (same_statement same.same_mark) = refl

pragmas_same : (kind : MarkKind) (R : Pairing) (n : ℕ) (ss others : PlainStatements) → SameStatements R ss others → position_from (is_pragma kind) n (statements_list ss) ≡ position_from (is_pragma kind) n (statements_list others)
pragmas_same kind R n _ _ same_no_statements = refl
pragmas_same kind R n _ _ (same_more_statements {s = s} {t = t} {ss = ss} {tt = us} one rest) = λ i. cond (pragma_same kind R s t one i) (Some n) (pragmas_same kind R (n + 1) ss us rest i)

-- the pragma of the function with a number
pragma_at : (kind : MarkKind) (functions : List PlainFunction) (n : ℕ) (f : PlainFunction) → slice_get functions n ≡ Some f → pragma_in kind (Some n) functions ≡ position_from (is_pragma kind) 0 (statements_list f.body)
pragma_at kind [] n f is = absurd (none-some f is)
pragma_at kind (g ∷ functions) zero f is = ap (λ (x : PlainFunction). position_from (is_pragma kind) 0 (statements_list x.body)) (same_Some g f is)
pragma_at kind (g ∷ functions) (suc n) f is = pragma_at kind functions n f is

-- ## The task

same_number : (n m : ℕ) → nat_eq n m ≡ true → m ≡ n
same_number n m is = grind (arith, nat_tests)

-- the task of the function with a number, where this is that of `main`
abbrev task_at : Option ℕ → List PlainFunction → ℕ → Option ℕ
task_at main functions n = if nat_eq n (unwrap_or main 0) then after_place (pragma_in TaskLoop main functions) else None

module _ (R : Pairing) (functions others : List PlainFunction) (n : ℕ) (f g : PlainFunction) (f_is : slice_get functions n ≡ Some f) (g_is : slice_get others n ≡ Some g) (alike : SameFunction R f g) where
  at_main : (m : ℕ) → m ≡ n → pragma_in TaskLoop (Some m) functions ≡ pragma_in TaskLoop (Some m) others
  at_main m is =
      ap (λ n. pragma_in TaskLoop (Some n) functions) is
      ∙ pragma_at TaskLoop functions n f f_is ∙ pragmas_same TaskLoop R 0 f.body g.body alike.body ∙ sym (pragma_at TaskLoop others n g g_is)
      ∙ ap (λ n. pragma_in TaskLoop (Some n) others) (sym is)

  by_test : (m : ℕ) (b : Bool) → nat_eq n m ≡ b → task_at (Some m) functions n ≡ task_at (Some m) others n
  by_test m true is = λ i. if nat_eq n m then after_place (at_main m (same_number n m is) i) else None
  by_test m false is = rw is refl

  by_main : (main : Option ℕ) → task_at main functions n ≡ task_at main others n
  by_main None = refl
  by_main (Some m) = by_test m (nat_eq n m) refl

pub task_stays : TaskStays
task_stays R structures more objects those functions others outside seen names n f g f_is g_is alike =
    by_main R functions others n f g f_is g_is alike (main_of functions) ∙ ap (λ main. task_at main others n) (main_same functions others names)
