-- Declarations and items put names after those that were in scope.
use Rattle.std.proofs.Common.{◌≡◌, ℕ, ◌≤◌, List, [], ◌∷◌, length, take, refl, sym, ◌∙◌, ap, arith, Option, Some, None}
use Rattle.std.proofs.Math.Seq.{take-length}
use Rattle.std.specs.Prelude.{IfOk, OnOk, Result, Ok, Err}
use Rattle.p10_syn.specs.Symbols.{Symbol}
use Rattle.p10_syn.specs.StatementForms.{Part, IsStatement}
use Rattle.p10_syn.specs.declared.statement.Stmt.{Stmt}
use Rattle.p10_syn.specs.BuiltStatements.{bare_statement_of}
use Rattle.p10_parse.specs.ExternalReading.{builders}
use Rattle.p10_parse.proofs.Takes.{takes_all}
use Rattle.p10_syn.specs.Scopes.{Scope}
use Rattle.p10_syn.specs.Trees.{Bare, Specifiers, Declarator, Parameters, NoParameters, MoreParameters, parameter, InitDeclarator, Declaration, Statement, Empty, Evaluate, Block, If, IfElse, Switch, While, Do, For, Case, Default, Label, Goto, Break, Continue, Return, Declare, Pragma}
use Rattle.p10_syn.specs.Declaring.{name_in, makes_types, after_specifiers, after_parameter, after_parameters, first_parameters, with_parameters, in_body, after_declarator, after_init_declarators, after_declaration, after_statement}
use Rattle.p10_pexpr.proofs.Extending.{Keeps, keeps_same, keeps_both, keeps_optional, keeps_specifiers}

keeps_declarators : (ds : List (InitDeclarator Bare)) (names : Scope) (ss : Specifiers Bare) → Keeps names (after_init_declarators names ss ds)
keeps_declarators [] names ss = keeps_same names
keeps_declarators (d ∷ ds) names ss = keeps_both _ _ _ (keeps_optional names (makes_types ss) (name_in d.declarator)) (keeps_declarators ds (after_declarator names ss d.declarator) ss)

pub keeps_declaration : (d : Declaration Bare) (names : Scope) → Keeps names (after_declaration names d)
keeps_declaration d names = keeps_both _ _ _ (keeps_specifiers d.specifiers names) (keeps_declarators d.declarators (after_specifiers names d.specifiers) d.specifiers)

pub keeps_statement : (s : Statement Bare) (names : Scope) → Keeps names (after_statement names s)
keeps_statement (Declare d) names = keeps_declaration d names
keeps_statement (Empty p) names = keeps_same names
keeps_statement (Evaluate p t) names = keeps_same names
keeps_statement (Block p ss) names = keeps_same names
keeps_statement (If p t s) names = keeps_same names
keeps_statement (IfElse p t s u) names = keeps_same names
keeps_statement (Switch p k t s) names = keeps_same names
keeps_statement (While p k t s) names = keeps_same names
keeps_statement (Do p k s t) names = keeps_same names
keeps_statement (For p k s t u b) names = keeps_same names
keeps_statement (Case p t s) names = keeps_same names
keeps_statement (Default p s) names = keeps_same names
keeps_statement (Label p x s) names = keeps_same names
keeps_statement (Goto p x) names = keeps_same names
keeps_statement (Break p) names = keeps_same names
keeps_statement (Continue p) names = keeps_same names
keeps_statement (Return p k t) names = keeps_same names
keeps_statement (Pragma p x) names = keeps_same names

-- a statement that is part of another declares nothing
declares_nothing : (s : Statement Bare) (names within : Scope) → IsStatement names Part s → after_statement within s ≡ within
declares_nothing (Declare d) names within h = absurd h.0
declares_nothing (Empty p) names within h = refl
declares_nothing (Evaluate p t) names within h = refl
declares_nothing (Block p ss) names within h = refl
declares_nothing (If p t s) names within h = refl
declares_nothing (IfElse p t s u) names within h = refl
declares_nothing (Switch p k t s) names within h = refl
declares_nothing (While p k t s) names within h = refl
declares_nothing (Do p k s t) names within h = refl
declares_nothing (For p k s t u b) names within h = refl
declares_nothing (Case p t s) names within h = refl
declares_nothing (Default p s) names within h = refl
declares_nothing (Label p x s) names within h = refl
declares_nothing (Goto p x) names within h = refl
declares_nothing (Break p) names within h = refl
declares_nothing (Continue p) names within h = refl
declares_nothing (Return p k t) names within h = refl
declares_nothing (Pragma p x) names within h = refl

-- so the scope after a statement of a block that is no declaration is that before it
pub stated : {E : Type 0} (r : Result Stmt E) (n : ℕ) (names now : Scope) (symbols rest : List Symbol) → IfOk r (λ t. (builders n).statement names symbols ≡ Some (bare_statement_of t, rest)) → OnOk r (now ≡ names) → IfOk r (λ t. now ≡ after_statement names (bare_statement_of t))
stated (Ok t) n names now symbols rest read same = same ∙ sym (declares_nothing (bare_statement_of t) names names ((takes_all n).statement names symbols (bare_statement_of t, rest) read).formed)
stated (Err e) n names now symbols rest read same = tt

-- what was put into scope is forgotten
pub forgotten : (names more : Scope) (s : Statement Bare) (k : ℕ) → k ≡ length names → more ≡ after_statement names s → take k more ≡ names
forgotten names more s k e f =
    ap (λ k. take k more) e ∙ ap (take (length names)) f ∙ (keeps_statement s names).start (length names) (omega arith) ∙ take-length names

-- one more item after those from the name k on
pub kept_names : (k : ℕ) (names now start : Scope) (s : Statement Bare) → now ≡ after_statement names s → k ≤ length names → take k names ≡ start → (k ≤ length now) × (take k now ≡ start)
kept_names k names now start s scoped h e =
    let keeps = keeps_statement s names in
    (omega (arith, h, keeps.longer, ap length scoped), ap (take k) scoped ∙ keeps.start k h ∙ e)

-- ## Bodies of functions

keeps_parameters : (xs : Parameters Bare) (names : Scope) → Keeps names (after_parameters names xs)
keeps_parameters NoParameters names = keeps_same names
keeps_parameters (MoreParameters (parameter p ss d) xs) names =
    keeps_both _ _ _ (keeps_both _ _ _ (keeps_specifiers ss names) (keeps_optional (after_specifiers names ss) (makes_types ss) (name_in d))) (keeps_parameters xs (after_parameter names (parameter p ss d)))

keeps_list : (xs : Option (Parameters Bare)) (names : Scope) → Keeps names (with_parameters names xs)
keeps_list None names = keeps_same names
keeps_list (Some xs) names = keeps_parameters xs names

-- the parameters of a function are forgotten
pub forgotten_body : (names more : Scope) (d : Declarator Bare) (k : ℕ) → k ≡ length names → more ≡ in_body names d → take k more ≡ names
forgotten_body names more d k e f =
    ap (λ k. take k more) e ∙ ap (take (length names)) f ∙ (keeps_list (first_parameters d) names).start (length names) (omega arith) ∙ take-length names
