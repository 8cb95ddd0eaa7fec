-- The search for the loop with a number, in statements one after the other and in parts of a statement.
use Rattle.std.specs.declared.alloc.Global.{Global}
use Rattle.std.proofs.Common.{◌≡◌, ◌∙◌, ℕ, zero, suc, ◌+◌, ◌-◌, ◌<◌, ◌≤◌, nat_eq, Bool, true, false, List, [], ◌∷◌, ◌++◌, drop, length, get_or, slice_get, Option, Some, None, option_map, Box, Bor, sym, ap, refl, arith, rules}
use Rattle.std.specs.Prelude.{if◌then◌else◌}
use Rattle.std.proofs.lemmas.List.{append-nil}
use Rattle.std.proofs.lemmas.Bool.Decides.{nat_tests}
use Rattle.p10_core.specs.declared.typed.Value.{Value}
use Rattle.p10_core.specs.declared.statements.Stmt.{Stmt}
use Rattle.p10_core.specs.declared.statements.StmtForm.{StmtForm}
use Rattle.p10_core.specs.declared.statements.StmtForm.TheVariants.{Block, If}
use Rattle.p10_core.specs.declared.statements.StmtForm.TheViews.{the_lemmas}
use Rattle.p10_core.specs.Typed.{if_then, if_else}
use Rattle.p10_core.specs.Views.{plain_value, plain_statement, plain_statement_form, plain_statements}
use Rattle.p10_pass.proofs.Lists.{cut_at, drop_end}
use Rattle.p10_pass.proofs.ListedForms.{block_form}
use Rattle.p10_turns.specs.LoopParts.{LoopParts, loops_within, loops_within_form, loops_among}
use Rattle.p10_evidence.specs.declared.seeking.Sought.{Sought as CodeSought}
use Rattle.p10_evidence.specs.declared.seeking.Sought.TheVariants.{Found, Passed}
use Rattle.p10_evidence.specs.private.Seeking.{Sought, found, passed, sought, sought_by, loops_in_else}

-- ## Among loops

-- a search, and where it has passed all loops another one among those that follow
abbrev or_after : Sought → (ℕ → Sought) → Sought
or_after (found l) go = found l
or_after (passed number) go = go number

first_or : (b : Bool) (l : LoopParts) (these all : Sought) (go : ℕ → Sought) → all ≡ or_after these go → (if b then found (Some l) else all) ≡ or_after (if b then found (Some l) else these) go
first_or true l these all go e = refl
first_or false l these all go e = e

-- a loop is sought among these, and then among others
sought_both : (these others : List LoopParts) (number : ℕ) → sought (these ++ others) number ≡ or_after (sought these number) (sought others)
sought_both [] others number = refl
sought_both (l ∷ these) others number = first_or (nat_eq number 0) l (sought these (number - 1)) (sought (these ++ others) (number - 1)) (sought others) (sought_both these others (number - 1))

-- what was found among these is found among all
found_among : (these others : List LoopParts) (number : ℕ) (r : CodeSought) (s : Bor Stmt) → r ≡ Found s → sought_by r ≡ sought these number → sought_by (Found s) ≡ sought (these ++ others) number
found_among these others number r s is e = ap (λ x. or_after x (sought others)) (sym (ap sought_by is) ∙ e) ∙ sym (sought_both these others number)

-- where these were passed the search goes on among the others
passed_among : (these others : List LoopParts) (number left : ℕ) (r : CodeSought) → r ≡ Passed left → sought_by r ≡ sought these number → sought others left ≡ sought (these ++ others) number
passed_among these others number left r is e = ap (λ x. or_after x (sought others)) (sym (ap sought_by is) ∙ e) ∙ sym (sought_both these others number)

-- the loop that was found, if one was
abbrev pub loop_found : Sought → Option LoopParts
loop_found (found l) = l
loop_found (passed number) = None

-- the search finds the loop with the number
found_there : (loops : List LoopParts) (number : ℕ) → loop_found (sought loops number) ≡ slice_get loops number
found_there [] number = refl
found_there (l ∷ loops) zero = refl
found_there (l ∷ loops) (suc k) =
    let more : nat_eq (suc k) 0 ≡ false = grind (arith, nat_tests) in
    let less : suc k - 1 ≡ k = omega arith in
    ap (λ b. loop_found (if b then found (Some l) else sought loops (suc k - 1))) more ∙ (ap (λ n. loop_found (sought loops n)) less ∙ found_there loops k)

pub told_there : (loops : List LoopParts) (number : ℕ) (r now : CodeSought) → r ≡ now → sought_by r ≡ sought loops number → loop_found (sought_by now) ≡ slice_get loops number
told_there loops number r now is e = ap (λ x. loop_found (sought_by x)) (sym is) ∙ (ap loop_found e ∙ found_there loops number)

-- ## Among statements

among_next : (xs : List Stmt) (i : ℕ) (x : Stmt) → i < length xs → x ≡ get_or xs i x → loops_among (plain_statements (drop i xs)) ≡ loops_within (plain_statement x) ++ loops_among (plain_statements (drop (i + 1) xs))
among_next xs i x below there = ap (λ ss. loops_among (plain_statements ss)) (cut_at xs i x below there)

-- the loops of the next statement were passed
pub next_passed : (xs : List Stmt) (i : ℕ) (x : Stmt) (number left : ℕ) (r : CodeSought) (whole : Sought) → i < length xs → x ≡ get_or xs i x → r ≡ Passed left → sought_by r ≡ sought (loops_within (plain_statement x)) number
    → sought (loops_among (plain_statements (drop i xs))) number ≡ whole → sought (loops_among (plain_statements (drop (i + 1) xs))) left ≡ whole
next_passed xs i x number left r whole below there is told so-far =
    passed_among (loops_within (plain_statement x)) (loops_among (plain_statements (drop (i + 1) xs))) number left r is told ∙ (ap (λ ls. sought ls number) (sym (among_next xs i x below there)) ∙ so-far)

-- the loop is in the next statement
pub next_found : (xs : List Stmt) (i : ℕ) (x : Stmt) (number : ℕ) (r : CodeSought) (s : Bor Stmt) (whole : Sought) → i < length xs → x ≡ get_or xs i x → r ≡ Found s → sought_by r ≡ sought (loops_within (plain_statement x)) number
    → sought (loops_among (plain_statements (drop i xs))) number ≡ whole → sought_by (Found s) ≡ whole
next_found xs i x number r s whole below there is told so-far =
    found_among (loops_within (plain_statement x)) (loops_among (plain_statements (drop (i + 1) xs))) number r s is told ∙ (ap (λ ls. sought ls number) (sym (among_next xs i x below there)) ∙ so-far)

-- the loops of all statements were passed
pub all_passed : (xs : List Stmt) (i number : ℕ) (whole : Sought) → length xs ≤ i → sought (loops_among (plain_statements (drop i xs))) number ≡ whole → passed number ≡ whole
all_passed xs i number whole end so-far = ap (λ ss. sought (loops_among (plain_statements ss)) number) (sym (drop_end xs i end)) ∙ so-far

-- ## In statements

-- the loops in a block
pub within_block : (form : StmtForm) (items all : List Stmt) → form ≡ Block items → all ≡ items → loops_among (plain_statements all) ≡ loops_within_form (plain_statement_form form)
within_block form items all is same = ap loops_within_form (sym (block_form form items all is same))

if_then_is : (v : Value) (branch : Box Stmt Global) → plain_statement_form (If v branch None) ≡ if_then (plain_value v) (plain_statement branch.value)
if_then_is v branch = search (rules, the_lemmas)

if_else_is : (v : Value) (branch other : Box Stmt Global) → plain_statement_form (If v branch (Some other)) ≡ if_else (plain_value v) (plain_statement branch.value) (plain_statement other.value)
if_else_is v branch other = search (rules, the_lemmas)

within_branches : (v : Value) (branch : Box Stmt Global) (other : Option (Box Stmt Global))
    → loops_within (plain_statement branch.value) ++ loops_in_else (option_map (λ x. plain_statement x.value) other) ≡ loops_within_form (plain_statement_form (If v branch other))
within_branches v branch None = append-nil (loops_within (plain_statement branch.value)) ∙ sym (ap loops_within_form (if_then_is v branch))
within_branches v branch (Some other) = sym (ap loops_within_form (if_else_is v branch other))

-- the loops in an `if`
within_if : (form : StmtForm) (v : Value) (branch : Box Stmt Global) (other : Option (Box Stmt Global)) (first : Stmt) → form ≡ If v branch other → first ≡ branch.value
    → loops_within (plain_statement first) ++ loops_in_else (option_map (λ x. plain_statement x.value) other) ≡ loops_within_form (plain_statement_form form)
within_if form v branch other first is same =
    ap (λ s. loops_within (plain_statement s) ++ loops_in_else (option_map (λ x. plain_statement x.value) other)) same ∙ (within_branches v branch other ∙ sym (ap (λ f. loops_within_form (plain_statement_form f)) is))

-- the loop is in the first branch of an `if`
pub first_branch : (form : StmtForm) (v : Value) (branch : Box Stmt Global) (other : Option (Box Stmt Global)) (first : Stmt) (number : ℕ) (r : CodeSought) (s : Bor Stmt) → form ≡ If v branch other → first ≡ branch.value
    → r ≡ Found s → sought_by r ≡ sought (loops_within (plain_statement first)) number → sought_by (Found s) ≡ sought (loops_within_form (plain_statement_form form)) number
first_branch form v branch other first number r s is same there told =
    found_among (loops_within (plain_statement first)) (loops_in_else (option_map (λ x. plain_statement x.value) other)) number r s there told ∙ ap (λ ls. sought ls number) (within_if form v branch other first is same)

-- the loops in the first branch of an `if` were passed
pub second_branch : (form : StmtForm) (v : Value) (branch : Box Stmt Global) (other : Option (Box Stmt Global)) (first : Stmt) (number left : ℕ) (r more : CodeSought) → form ≡ If v branch other → first ≡ branch.value
    → r ≡ Passed left → sought_by r ≡ sought (loops_within (plain_statement first)) number → sought_by more ≡ sought (loops_in_else (option_map (λ x. plain_statement x.value) other)) left
    → sought_by more ≡ sought (loops_within_form (plain_statement_form form)) number
second_branch form v branch other first number left r more is same there told again =
    again ∙ (passed_among (loops_within (plain_statement first)) (loops_in_else (option_map (λ x. plain_statement x.value) other)) number left r there told ∙ ap (λ ls. sought ls number) (within_if form v branch other first is same))
