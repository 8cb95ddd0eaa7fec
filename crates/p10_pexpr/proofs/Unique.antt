-- Trees of expressions are unique, since each is what is read.
use Rattle.std.proofs.Common.{◌≡◌, ℕ, suc, ◌+◌, ◌*◌, ◌<◌, List, [], Some, refl, sym, ◌∙◌, ap, arith}
use Rattle.std.proofs.lemmas.Option.{same_Some}
use Rattle.p10_syn.specs.Symbols.{Symbol}
use Rattle.p10_syn.specs.Scopes.{Scope, typedefs}
use Rattle.p10_syn.specs.Bare.{bare}
use Rattle.p10_syn.specs.Places.{locate}
use Rattle.p10_syn.specs.Spelling.{spell}
use Rattle.p10_syn.specs.Forms.{IsExpression}
use Rattle.p10_syn.specs.Trees.{Bare, Expression}
use Rattle.p10_pexpr.specs.Reading.{readers}
use Rattle.p10_pexpr.specs.Laws.{EndsExpression, ExpressionsAreUnique, PlacedTreesAreUnique}
use Rattle.p10_pexpr.proofs.Sizes.{size}
use Rattle.p10_pexpr.proofs.ExpressionAgain.{positive}
use Rattle.p10_pexpr.proofs.Again.{again}

read_with : (names : Scope) (t : Expression Bare) (n : ℕ) (rest : List Symbol) → IsExpression names t → EndsExpression rest → 2 * size t < n → (readers n).expression names 1 (spell t rest) ≡ Some (t, rest)
read_with names t n rest is ends enough = again t names is n 1 rest enough (positive names t is) (omega (arith, ends))

pub expressions_are_unique : ExpressionsAreUnique
expressions_are_unique names t u rest more ist isu ends others same =
    let n = suc (2 * (size t + size u)) in
    let both : (t, rest) ≡ (u, more) = same_Some _ _
    (sym (read_with names t n rest ist ends (omega arith)) ∙ ap ((readers n).expression names 1) same ∙ read_with names u n more isu others (omega arith)) in
    (ap (λ q. q.0) both, ap (λ q. q.1) both)

pub placed_trees_are_unique : PlacedTreesAreUnique
placed_trees_are_unique types words t u ist isu =
    let both = expressions_are_unique (typedefs types) (bare t) (bare u) [] [] ist.formed isu.formed refl refl (sym ist.spelled ∙ isu.spelled) in
    ist.placed ∙ ap (locate (record { words = words; before = 0 }) 0) both.0 ∙ sym isu.placed
