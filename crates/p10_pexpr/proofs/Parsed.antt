-- Reading all words, as deep as their number asks for.
use Rattle.std.proofs.Common.{◌≡◌, ℕ, suc, ◌+◌, ◌*◌, List, [], ◌∷◌, length, Some, None, sym, ◌∙◌, ap, arith}
use Rattle.std.proofs.lemmas.Option.{none-some, same_Some}
use Rattle.p10_syn.specs.Symbols.{Symbol}
use Rattle.p10_syn.specs.Scopes.{Scope}
use Rattle.p10_syn.specs.Spelling.{spell}
use Rattle.p10_syn.specs.Forms.{IsExpression}
use Rattle.p10_syn.specs.Trees.{Bare, Expression}
use Rattle.p10_pexpr.specs.Reading.{readers}
use Rattle.p10_pexpr.proofs.ExpressionAgain.{positive}
use Rattle.p10_pexpr.proofs.Takes.{takes}
use Rattle.p10_pexpr.proofs.Again.{again}
use Rattle.p10_pexpr.proofs.Lengths.{words}

-- a tree that is spelled by all words is read
pub parsed : (names : Scope) (t : Expression Bare) (symbols : List Symbol) → IsExpression names t → symbols ≡ spell t [] → (readers (8 * length symbols + 1)).expression names 1 symbols ≡ Some (t, [])
parsed names t symbols is spelled =
    let fits = words t names [] is in
    let same = ap length spelled in
    ap ((readers (8 * length symbols + 1)).expression names 1) spelled ∙ again t names is (8 * length symbols + 1) 1 [] (omega (arith, fits, same)) (positive names t is) (omega arith)

-- what is read and leaves no word is a tree of the grammar that spells the words
pub found : (names : Scope) (n : ℕ) (t : Expression Bare) (symbols : List Symbol) → (readers n).expression names 1 symbols ≡ Some (t, []) → IsExpression names t × (symbols ≡ spell t [])
found names n t symbols read = let k = (takes n).expression names 1 symbols (t, []) read in (k.formed, k.spelled)

-- where nothing is read, no tree spells the words
pub none_spells : (names : Scope) (symbols : List Symbol) → (readers (8 * length symbols + 1)).expression names 1 symbols ≡ None → (t : Expression Bare) → IsExpression names t → symbols ≡ spell t [] → ⊥
none_spells names symbols none t is spelled = none-some (t, []) (sym none ∙ parsed names t symbols is spelled)

-- nor where words are left
pub left_spells : (names : Scope) (symbols : List Symbol) (u : Expression Bare) (x : Symbol) (rest : List Symbol) → (readers (8 * length symbols + 1)).expression names 1 symbols ≡ Some (u, x ∷ rest) →
    (t : Expression Bare) → IsExpression names t → symbols ≡ spell t [] → ⊥
left_spells names symbols u x rest read t is spelled =
    let both : (u, x ∷ rest) ≡ (t, []) = same_Some _ _ (sym read ∙ parsed names t symbols is spelled) in
    let n : suc (length rest) ≡ 0 = ap (λ q. length q.1) both in
    absurd (omega (arith, n))
