-- Statements that are spelled are read.
use Rattle.std.proofs.Common.{◌≡◌, ℕ, ◌*◌, ◌<◌, ◌≤◌, zero, suc, List, [], ◌∷◌, ◌++◌, drop, true, false, cond, refl, sym, ◌∙◌, ap, arith, Some, option_map, option_and_then}
use Rattle.std.proofs.lemmas.Bool.{false≢true, true≢false}
use Rattle.std.proofs.lemmas.List.{append_assoc, append-nil}
use Rattle.p10_syn.specs.declared.sign.Sign.{Sign}
use Rattle.p10_syn.specs.declared.sign.Sign.TheVariants as sign
use Rattle.p10_syn.specs.Symbols.{Symbol, Fixed}
use Rattle.p10_syn.specs.Symbols as symbol
use Rattle.p10_syn.specs.Scopes.{Scope}
use Rattle.p10_syn.specs.Precedence.{level_of}
use Rattle.p10_syn.specs.Declaring.{after_statement}
use Rattle.p10_syn.specs.Spelling.{spell, spell_optional, spell_declaration, spell_statement, spell_statements}
use Rattle.p10_syn.specs.Forms.{IsExpression, IsOptional}
use Rattle.p10_syn.specs.StatementForms.{IsStart, is_open, Item, Part, IsStatement, AreItems}
use Rattle.p10_syn.specs.Trees.{Bare, Identifier, Expression, Optional, Absent, Present, Statement, Empty, Evaluate, Block, If, IfElse, Switch, While, Do, For, Case, Default, Label, Goto, Break, Continue, Return, Declare, Pragma, Statements, NoStatements, MoreStatements, statement_row}
use Rattle.p10_pexpr.specs.Heads.{Read, heads, closed_by}
use Rattle.p10_pexpr.specs.Tables.{next_at, pull}
use Rattle.p10_pexpr.specs.Reading.{readers}
use Rattle.p10_pexpr.proofs.Sizes.{size, optional_size}
use Rattle.p10_pexpr.proofs.Marks.{is_start, begins_no, no_specifiers}
use Rattle.p10_pexpr.specs.Tables.{start_of}
use Rattle.p10_pexpr.proofs.FirstWords.{first_is}
use Rattle.p10_pexpr.proofs.ExpressionAgain.{positive}
use Rattle.p10_pexpr.proofs.Again.{again}
use Rattle.p10_parse.specs.Ways.{begins_declaration}
use Rattle.p10_parse.specs.StatementReading.{value_then, optional_then, test_at, else_at, if_then_at, do_while_at, start_at, for_body_at, for_step_at, for_test_at, statement_by, statement_once, declared_at, item_at, items_once}
use Rattle.p10_parse.specs.ExternalReading.{builders}
use Rattle.p10_parse.proofs.Rows.{statement_list, statement_again}
use Rattle.p10_parse.proofs.Sizes.{statement_size, statements_size}
use Rattle.p10_parse.proofs.FirstWords.{value_way, no_label, is_pragma, statement_first, declaration_first, items_no_else}
use Rattle.p10_parse.proofs.DeclarationAgain.{declaration_again}

-- ## Steps

statement_suc : (n : ℕ) (names : Scope) (symbols : List Symbol) → (builders (suc n)).statement names symbols ≡ statement_once (readers n) (builders n) names symbols
unfolding builders
statement_suc n names symbols = refl

items_suc : (n : ℕ) (names : Scope) (done : List (Statement Bare)) (symbols : List Symbol) → (builders (suc n)).items names done symbols ≡ items_once (readers n) (builders n) names done symbols
unfolding builders
items_suc n names done symbols = refl

-- ## What the laws say

abbrev pub StatementRead : Statement Bare → Type 0
StatementRead s = (n : ℕ) (names : Scope) (rest : List Symbol) → IsStatement names Part s → 2 * statement_size s < n → (is_open s ≡ true → heads sign.Else rest ≡ false) →
    (builders n).statement names (spell_statement s rest) ≡ Some (s, rest)

-- the same one step deeper
abbrev Once : Statement Bare → Type 0
Once s = (k : ℕ) (names : Scope) (rest : List Symbol) → IsStatement names Part s → 2 * statement_size s ≤ k → (is_open s ≡ true → heads sign.Else rest ≡ false) →
    statement_once (readers k) (builders k) names (spell_statement s rest) ≡ Some (s, rest)

abbrev pub ItemsRead : Statements Bare → Type 0
ItemsRead ss = (n : ℕ) (names : Scope) (done : List (Statement Bare)) (rest : List Symbol) → AreItems names ss → 2 * statements_size ss < n →
    (builders n).items names done (spell_statements ss (Fixed sign.CloseBrace ∷ rest)) ≡ Some (done ++ statement_list ss, rest)

by_once : (s : Statement Bare) → Once s → StatementRead s
by_once s once zero names rest h enough clear = absurd (omega (arith, enough))
by_once s once (suc k) names rest h enough clear = statement_suc k names (spell_statement s rest) ∙ once k names rest h (omega (arith, enough)) clear

-- ## Parts

-- an expression and a sign that doesn't go on with it
value_again : (n : ℕ) (names : Scope) (level : ℕ) (s : Sign) (t : Expression Bare) (rest : List Symbol) → IsExpression names t → level ≤ level_of t → 2 * size t < n → pull (next_at (Fixed s ∷ rest)) < level →
    closed_by s t (Fixed s ∷ rest) ≡ Some (t, rest) → value_then (readers n) (builders n) names level s (spell t (Fixed s ∷ rest)) ≡ Some (t, rest)
value_again n names level s t rest is high enough low closes =
    ap (option_and_then (λ x. closed_by s x.0 x.1)) (again t names is n level (Fixed s ∷ rest) enough high low) ∙ closes

test_again : (n : ℕ) (names : Scope) (t : Expression Bare) (rest : List Symbol) → IsExpression names t → 2 * size t < n → test_at (readers n) (builders n) names (Fixed sign.Open ∷ spell t (Fixed sign.Close ∷ rest)) ≡ Some (t, rest)
test_again n names t rest is enough = value_again n names 1 sign.Close t rest is (positive names t is) enough (omega arith) refl

maybe_again : (n : ℕ) (names : Scope) (s : Sign) (t : Optional Bare) (rest : List Symbol) → IsOptional names 1 t → 2 * optional_size t ≤ n → heads s (Fixed s ∷ rest) ≡ true → is_start (start_of s) ≡ false →
    pull (next_at (Fixed s ∷ rest)) < 1 → ((u : Expression Bare) → closed_by s u (Fixed s ∷ rest) ≡ Some (u, rest)) → optional_then (readers n) (builders n) names s (spell_optional t (Fixed s ∷ rest)) ≡ Some (t, rest)
maybe_again n names s Absent rest is enough on off low closes =
    ap (λ b. cond b (Some (Absent, rest)) (option_map (λ t. (Present t.0, t.1)) (value_then (readers n) (builders n) names 1 s (Fixed s ∷ rest)))) on
maybe_again n names s (Present t) rest is enough on off low closes =
    let symbols = spell t (Fixed s ∷ rest) in
    ap (λ b. cond b (Some (Absent, drop 1 symbols)) (option_map (λ u. (Present u.0, u.1)) (value_then (readers n) (builders n) names 1 s symbols))) (begins_no s names symbols (first_is names t _ is.0) off)
    ∙ ap (option_map (λ u. (Present u.0, u.1))) (value_again n names 1 s t rest is.0 is.1 (omega (arith, enough)) low (closes t))

-- ## Statements

empty_once : (p : Bare) → Once (Empty p)
empty_once p k names rest h enough clear = refl

evaluate_once : (p : Bare) (t : Expression Bare) → Once (Evaluate p t)
evaluate_once p t k names rest h enough clear =
    let symbols = spell t (Fixed sign.Semicolon ∷ rest) in
    ap (λ w. statement_by (readers k) (builders k) names w symbols) (value_way names symbols (first_is names t _ h) (no_label t names _ h refl))
    ∙ ap (option_map (λ x. (Evaluate tt x.0, x.1))) (value_again k names 1 sign.Semicolon t rest h (positive names t h) (omega (arith, enough)) (omega arith) refl)

block_once : (p : Bare) (ss : Statements Bare) → ItemsRead ss → Once (Block p ss)
block_once p ss law k names rest h enough clear =
    ap (option_map (λ x. (Block tt (statement_row x.0), x.1))) (law k names [] rest h (omega (arith, enough))) ∙ ap (λ (xs : Statements Bare). Some (Block tt xs, rest)) (statement_again ss)

if_once : (p : Bare) (t : Expression Bare) (s : Statement Bare) → StatementRead s → Once (If p t s)
if_once p t s law k names rest h enough clear =
    ap (option_and_then (λ x. if_then_at (readers k) (builders k) names x.0 x.1)) (test_again k names t (spell_statement s rest) h.0 (omega (arith, enough)))
    ∙ ap (option_and_then (λ y. else_at (readers k) (builders k) names t y.0 y.1)) (law k names rest h.1 (omega (arith, enough)) (λ opened. clear refl))
    ∙ ap (λ b. cond b (option_map (λ u. (IfElse tt t s u.0, u.1)) ((builders k).statement names (drop 1 rest))) (Some (If tt t s, rest))) (clear refl)

else_once : (p : Bare) (t : Expression Bare) (s u : Statement Bare) → StatementRead s → StatementRead u → Once (IfElse p t s u)
else_once p t s u one two k names rest h enough clear =
    ap (option_and_then (λ x. if_then_at (readers k) (builders k) names x.0 x.1)) (test_again k names t (spell_statement s (Fixed sign.Else ∷ spell_statement u rest)) h.0 (omega (arith, enough)))
    ∙ ap (option_and_then (λ y. else_at (readers k) (builders k) names t y.0 y.1)) (one k names (Fixed sign.Else ∷ spell_statement u rest) h.1 (omega (arith, enough)) (λ opened. absurd (false≢true (sym h.2 ∙ opened))))
    ∙ ap (option_map (λ y. (IfElse tt t s y.0, y.1))) (two k names rest h.3 (omega (arith, enough)) clear)

switch_once : (p q : Bare) (t : Expression Bare) (s : Statement Bare) → StatementRead s → Once (Switch p q t s)
switch_once p q t s law k names rest h enough clear =
    ap (option_and_then (λ x. option_map (λ y. (Switch tt tt x.0 y.0, y.1)) ((builders k).statement names x.1))) (test_again k names t (spell_statement s rest) h.0 (omega (arith, enough)))
    ∙ ap (option_map (λ y. (Switch tt tt t y.0, y.1))) (law k names rest h.1 (omega (arith, enough)) clear)

while_once : (p q : Bare) (t : Expression Bare) (s : Statement Bare) → StatementRead s → Once (While p q t s)
while_once p q t s law k names rest h enough clear =
    ap (option_and_then (λ x. option_map (λ y. (While tt tt x.0 y.0, y.1)) ((builders k).statement names x.1))) (test_again k names t (spell_statement s rest) h.0 (omega (arith, enough)))
    ∙ ap (option_map (λ y. (While tt tt t y.0, y.1))) (law k names rest h.1 (omega (arith, enough)) clear)

do_once : (p q : Bare) (s : Statement Bare) (t : Expression Bare) → StatementRead s → Once (Do p q s t)
do_once p q s t law k names rest h enough clear =
    let last = Fixed sign.Semicolon ∷ rest in
    ap (option_and_then (λ x. do_while_at (readers k) (builders k) names x.0 x.1)) (law k names (Fixed sign.While ∷ (Fixed sign.Open ∷ spell t (Fixed sign.Close ∷ last))) h.0 (omega (arith, enough)) (λ opened. refl))
    ∙ ap (option_and_then (λ x. closed_by sign.Semicolon (Do tt tt s x.0) x.1)) (test_again k names t last h.1 (omega (arith, enough)))

-- the first part of a `for`
start_again : (start : Statement Bare) (n : ℕ) (names : Scope) (rest : List Symbol) → IsStart names start → 2 * statement_size start ≤ n → start_at (readers n) (builders n) names (spell_statement start rest) ≡ Some (start, rest)
start_again (Empty p) n names rest h enough = refl
start_again (Evaluate p t) n names rest h enough =
    let symbols = spell t (Fixed sign.Semicolon ∷ rest) in
    let begins = first_is names t (Fixed sign.Semicolon ∷ rest) h in
    let value : Read (Statement Bare) = option_map (λ x. (Evaluate tt x.0, x.1)) (value_then (readers n) (builders n) names 1 sign.Semicolon symbols) in
    ap (λ b. cond b (declared_at (readers n) (builders n) names symbols) (cond (heads sign.Semicolon symbols) (Some (Empty tt, drop 1 symbols)) value)) (no_specifiers names symbols begins)
    ∙ ap (λ b. cond b (Some (Empty tt, drop 1 symbols)) value) (begins_no sign.Semicolon names symbols begins refl)
    ∙ ap (option_map (λ x. (Evaluate tt x.0, x.1))) (value_again n names 1 sign.Semicolon t rest h (positive names t h) (omega (arith, enough)) (omega arith) refl)
start_again (Declare d) n names rest h enough =
    let symbols = spell_declaration d rest in
    let other : Read (Statement Bare) = cond (heads sign.Semicolon symbols) (Some (Empty tt, drop 1 symbols)) (option_map (λ x. (Evaluate tt x.0, x.1)) (value_then (readers n) (builders n) names 1 sign.Semicolon symbols)) in
    ap (λ b. cond b (declared_at (readers n) (builders n) names symbols) other) (declaration_first d names rest h).specifiers
    ∙ ap (option_map (λ x. (Declare x.0, x.1))) (declaration_again d n names rest h (omega (arith, enough)))
start_again _ n names rest h enough = absurd h

for_once : (p q : Bare) (start : Statement Bare) (test step : Optional Bare) (s : Statement Bare) → StatementRead s → Once (For p q start test step s)
for_once p q start test step s law k names rest h enough clear =
    let within = after_statement names start in
    let body = spell_statement s rest in
    let third = spell_optional step (Fixed sign.Close ∷ body) in
    ap (option_and_then (λ x. for_test_at (readers k) (builders k) (after_statement names x.0) x.0 x.1)) (start_again start k names (spell_optional test (Fixed sign.Semicolon ∷ third)) h.0 (omega (arith, enough)))
    ∙ ap (option_and_then (λ x. for_step_at (readers k) (builders k) within start x.0 x.1)) (maybe_again k within sign.Semicolon test third h.1 (omega (arith, enough)) refl refl (omega arith) (λ u. refl))
    ∙ ap (option_and_then (λ x. for_body_at (readers k) (builders k) within start test x.0 x.1)) (maybe_again k within sign.Close step body h.2 (omega (arith, enough)) refl refl (omega arith) (λ u. refl))
    ∙ ap (option_map (λ y. (For tt tt start test step y.0, y.1))) (law k within rest h.3 (omega (arith, enough)) clear)

case_once : (p : Bare) (t : Expression Bare) (s : Statement Bare) → StatementRead s → Once (Case p t s)
case_once p t s law k names rest h enough clear =
    ap (option_and_then (λ x. option_map (λ y. (Case tt x.0 y.0, y.1)) ((builders k).statement names x.1))) (value_again k names 3 sign.Colon t (spell_statement s rest) h.0 h.1 (omega (arith, enough)) (omega arith) refl)
    ∙ ap (option_map (λ y. (Case tt t y.0, y.1))) (law k names rest h.2 (omega (arith, enough)) clear)

default_once : (p : Bare) (s : Statement Bare) → StatementRead s → Once (Default p s)
default_once p s law k names rest h enough clear = ap (option_map (λ y. (Default tt y.0, y.1))) (law k names rest h (omega (arith, enough)) clear)

label_once : (p : Bare) (x : Identifier Bare) (s : Statement Bare) → StatementRead s → Once (Label p x s)
label_once p x s law k names rest h enough clear = ap (option_map (λ y. (Label tt x y.0, y.1))) (law k names rest h (omega (arith, enough)) clear)

goto_once : (p : Bare) (x : Identifier Bare) → Once (Goto p x)
goto_once p x k names rest h enough clear = refl

break_once : (p : Bare) → Once (Break p)
break_once p k names rest h enough clear = refl

continue_once : (p : Bare) → Once (Continue p)
continue_once p k names rest h enough clear = refl

return_once : (p q : Bare) (t : Optional Bare) → Once (Return p q t)
return_once p q t k names rest h enough clear =
    ap (option_map (λ x. (Return tt tt x.0, x.1))) (maybe_again k names sign.Semicolon t rest h (omega (arith, enough)) refl refl (omega arith) (λ u. refl))

-- ## Blocks

item_other : (k : ℕ) (names : Scope) (symbols : List Symbol) → is_pragma symbols ≡ false → item_at (readers k) (builders k) names symbols ≡ cond (begins_declaration names symbols) (declared_at (readers k) (builders k) names symbols) ((builders k).statement names symbols)
item_other k names [] h = refl
item_other k names (symbol.Pragma x ∷ rest) h = absurd (true≢false h)
item_other k names (_ ∷ rest) h = refl

abbrev ItemRead : Statement Bare → Type 0
ItemRead s = (k : ℕ) (names : Scope) (rest : List Symbol) → IsStatement names Item s → 2 * statement_size s < k → (is_open s ≡ true → heads sign.Else rest ≡ false) →
    (heads sign.CloseBrace (spell_statement s rest) ≡ false) × (item_at (readers k) (builders k) names (spell_statement s rest) ≡ Some (s, rest))

part_read : (s : Statement Bare) (k : ℕ) (names : Scope) (rest : List Symbol) → StatementRead s → IsStatement names Part s → 2 * statement_size s < k → (is_open s ≡ true → heads sign.Else rest ≡ false) →
    (heads sign.CloseBrace (spell_statement s rest) ≡ false) × (item_at (readers k) (builders k) names (spell_statement s rest) ≡ Some (s, rest))
part_read s k names rest law h enough clear =
    let symbols = spell_statement s rest in
    let f = statement_first s names rest h in (
      f.no_brace,
      item_other k names symbols f.no_pragma
          ∙ ap (λ b. cond b (declared_at (readers k) (builders k) names symbols) ((builders k).statement names symbols)) f.no_declaration
          ∙ law k names rest h enough clear,
    )

item_read : (s : Statement Bare) → StatementRead s → ItemRead s
item_read (Declare d) law k names rest h enough clear =
    let symbols = spell_declaration d rest in
    let f = declaration_first d names rest h.1 in (
      f.no_brace,
      item_other k names symbols f.no_pragma
          ∙ ap (λ b. cond b (declared_at (readers k) (builders k) names symbols) ((builders k).statement names symbols)) f.declaration
          ∙ ap (option_map (λ x. (Declare x.0, x.1))) (declaration_again d k names rest h.1 (omega (arith, enough))),
    )
item_read (Pragma p x) law k names rest h enough clear = (refl, refl)
item_read (Empty p) law k names rest h enough clear = part_read (Empty p) k names rest law h enough clear
item_read (Evaluate p t) law k names rest h enough clear = part_read (Evaluate p t) k names rest law h enough clear
item_read (Block p ss) law k names rest h enough clear = part_read (Block p ss) k names rest law h enough clear
item_read (If p t s) law k names rest h enough clear = part_read (If p t s) k names rest law h enough clear
item_read (IfElse p t s u) law k names rest h enough clear = part_read (IfElse p t s u) k names rest law h enough clear
item_read (Switch p q t s) law k names rest h enough clear = part_read (Switch p q t s) k names rest law h enough clear
item_read (While p q t s) law k names rest h enough clear = part_read (While p q t s) k names rest law h enough clear
item_read (Do p q s t) law k names rest h enough clear = part_read (Do p q s t) k names rest law h enough clear
item_read (For p q start test step s) law k names rest h enough clear = part_read (For p q start test step s) k names rest law h enough clear
item_read (Case p t s) law k names rest h enough clear = part_read (Case p t s) k names rest law h enough clear
item_read (Default p s) law k names rest h enough clear = part_read (Default p s) k names rest law h enough clear
item_read (Label p x s) law k names rest h enough clear = part_read (Label p x s) k names rest law h enough clear
item_read (Goto p x) law k names rest h enough clear = part_read (Goto p x) k names rest law h enough clear
item_read (Break p) law k names rest h enough clear = part_read (Break p) k names rest law h enough clear
item_read (Continue p) law k names rest h enough clear = part_read (Continue p) k names rest law h enough clear
item_read (Return p q t) law k names rest h enough clear = part_read (Return p q t) k names rest law h enough clear

no_items_read : ItemsRead NoStatements
no_items_read zero names done rest h enough = absurd (omega (arith, enough))
no_items_read (suc n) names done rest h enough = items_suc n names done (Fixed sign.CloseBrace ∷ rest) ∙ ap (λ (xs : List (Statement Bare)). Some (xs, rest)) (sym (append-nil done))

more_items_read : (s : Statement Bare) (ss : Statements Bare) → StatementRead s → ItemsRead ss → ItemsRead (MoreStatements s ss)
more_items_read s ss one all zero names done rest h enough = absurd (omega (arith, enough))
more_items_read s ss one all (suc n) names done rest h enough =
    let more = spell_statements ss (Fixed sign.CloseBrace ∷ rest) in
    let symbols = spell_statement s more in
    let within = after_statement names s in
    let k = item_read s one n names more h.0 (omega (arith, enough)) (λ opened. items_no_else ss within rest h.1) in
    let go : Statement Bare × List Symbol → Read (List (Statement Bare)) = λ x. (builders n).items (after_statement names x.0) (done ++ x.0 ∷ []) x.1 in
    items_suc n names done symbols
    ∙ ap (λ b. cond b (Some (done, drop 1 symbols)) (option_and_then go (item_at (readers n) (builders n) names symbols))) k.0
    ∙ ap (option_and_then go) k.1
    ∙ all n within (done ++ s ∷ []) rest h.1 (omega (arith, enough))
    ∙ ap (λ (xs : List (Statement Bare)). Some (xs, rest)) (append_assoc done (s ∷ []) (statement_list ss))

mutual
  pub statement_read : (s : Statement Bare) → StatementRead s
  statement_read (Empty p) = by_once (Empty p) (empty_once p)
  statement_read (Evaluate p t) = by_once (Evaluate p t) (evaluate_once p t)
  statement_read (Block p ss) = by_once (Block p ss) (block_once p ss (items_read ss))
  statement_read (If p t s) = by_once (If p t s) (if_once p t s (statement_read s))
  statement_read (IfElse p t s u) = by_once (IfElse p t s u) (else_once p t s u (statement_read s) (statement_read u))
  statement_read (Switch p q t s) = by_once (Switch p q t s) (switch_once p q t s (statement_read s))
  statement_read (While p q t s) = by_once (While p q t s) (while_once p q t s (statement_read s))
  statement_read (Do p q s t) = by_once (Do p q s t) (do_once p q s t (statement_read s))
  statement_read (For p q start test step s) = by_once (For p q start test step s) (for_once p q start test step s (statement_read s))
  statement_read (Case p t s) = by_once (Case p t s) (case_once p t s (statement_read s))
  statement_read (Default p s) = by_once (Default p s) (default_once p s (statement_read s))
  statement_read (Label p x s) = by_once (Label p x s) (label_once p x s (statement_read s))
  statement_read (Goto p x) = by_once (Goto p x) (goto_once p x)
  statement_read (Break p) = by_once (Break p) (break_once p)
  statement_read (Continue p) = by_once (Continue p) (continue_once p)
  statement_read (Return p q t) = by_once (Return p q t) (return_once p q t)
  statement_read (Declare d) = λ n names rest h enough clear. absurd h.0
  statement_read (Pragma p x) = λ n names rest h enough clear. absurd h

  pub items_read : (ss : Statements Bare) → ItemsRead ss
  items_read NoStatements = no_items_read
  items_read (MoreStatements s ss) = more_items_read s ss (statement_read s) (items_read ss)
