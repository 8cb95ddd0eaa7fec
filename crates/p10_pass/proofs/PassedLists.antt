-- Lists of items and of statements, as far as a pass has come.
use Rattle.std.proofs.Common.{◌≡◌, ℕ, ◌+◌, ◌<◌, ◌≤◌, List, ◌∷◌, map, drop, length, get_or, refl}
use Rattle.p10_core.specs.declared.statements.Item.{Item}
use Rattle.p10_core.specs.declared.statements.Stmt.{Stmt}
use Rattle.p10_core.specs.Typed.{PlainItem, PlainWritten, one_scalar, scalars_of_text}
use Rattle.p10_core.specs.Views.{plain_item, plain_statement, plain_statements}
use Rattle.p10_absx.specs.Environments.{Environment}
use Rattle.p10_pass.specs.Passing.{Manner, Left, and_then_pass, items_passed, pass_statement, pass_statements}
use Rattle.p10_pass.specs.private.Items.{written_passed}
use Rattle.p10_pass.proofs.Following.{passed_next, passed_end}

items_more : (m : Manner) (item : PlainItem) (rest : List PlainItem) (env : Environment) → items_passed m (item ∷ rest) env ≡ and_then_pass (written_passed m item.written env) (items_passed m rest)
items_more m item rest env = at item.scalar item.written
  where
    at : (n : ℕ) (w : PlainWritten) → let item : PlainItem = record { scalar = n; written = w } in items_passed m (item ∷ rest) env ≡ and_then_pass (written_passed m w env) (items_passed m rest)
    at n (one_scalar v) = refl
    at n (scalars_of_text bytes) = refl

pub items_next : (m : Manner) (whole t now : Left) (xs : List Item) (i : ℕ) (x : Item) → i < length xs → x ≡ get_or xs i x → now ≡ and_then_pass t (written_passed m (plain_item x).written) →
    and_then_pass t (items_passed m (map plain_item (drop i xs))) ≡ whole → and_then_pass now (items_passed m (map plain_item (drop (i + 1) xs))) ≡ whole
items_next m whole t now xs i x below there is so-far =
    passed_next (λ (x : Item). written_passed m (plain_item x).written) (λ (xs : List Item). items_passed m (map plain_item xs)) (λ env. refl) (λ x xs env. items_more m (plain_item x) (map plain_item xs) env) whole t now xs i x below there is so-far

pub items_end : (m : Manner) (whole t : Left) (xs : List Item) (i : ℕ) → length xs ≤ i → and_then_pass t (items_passed m (map plain_item (drop i xs))) ≡ whole → t ≡ whole
items_end m whole t xs i b so-far =
    passed_end (λ (x : Item). written_passed m (plain_item x).written) (λ (xs : List Item). items_passed m (map plain_item xs)) (λ env. refl) (λ x xs env. items_more m (plain_item x) (map plain_item xs) env) whole t xs i b so-far

pub statements_next : (m : Manner) (whole t now : Left) (xs : List Stmt) (i : ℕ) (x : Stmt) → i < length xs → x ≡ get_or xs i x → now ≡ and_then_pass t (pass_statement m (plain_statement x)) →
    and_then_pass t (pass_statements m (plain_statements (drop i xs))) ≡ whole → and_then_pass now (pass_statements m (plain_statements (drop (i + 1) xs))) ≡ whole
statements_next m whole t now xs i x below there is so-far =
    passed_next (λ (x : Stmt). pass_statement m (plain_statement x)) (λ (xs : List Stmt). pass_statements m (plain_statements xs)) (λ env. refl) (λ x xs env. refl) whole t now xs i x below there is so-far

pub statements_end : (m : Manner) (whole t : Left) (xs : List Stmt) (i : ℕ) → length xs ≤ i → and_then_pass t (pass_statements m (plain_statements (drop i xs))) ≡ whole → t ≡ whole
statements_end m whole t xs i b so-far =
    passed_end (λ (x : Stmt). pass_statement m (plain_statement x)) (λ (xs : List Stmt). pass_statements m (plain_statements xs)) (λ env. refl) (λ x xs env. refl) whole t xs i b so-far
