-- Steps of the readers of single parts, as the code takes them.
use Rattle.std.proofs.Common.{◌≡◌, ℕ, ◌-◌, ◌<◌, zero, suc, List, [], ◌∷◌, drop, Bool, true, false, cond, refl, sym, ◌∙◌, ap, arith, Option, Some, None, option_map, option_and_then}
use Rattle.std.proofs.lemmas.Option.{none-some, same_Some}
use Rattle.p10_base.specs.Words.{Text}
use Rattle.p10_syn.specs.declared.sign.Sign.TheVariants as sign
use Rattle.p10_syn.specs.Symbols.{Symbol}
use Rattle.p10_syn.specs.Symbols as symbol
use Rattle.p10_syn.specs.Scopes.{Scope}
use Rattle.p10_syn.specs.Trees.{Bare, Initializer, Statement, Pragma}
use Rattle.p10_pexpr.specs.Heads.{Read, heads}
use Rattle.p10_pexpr.specs.Fronts.{mark_first}
use Rattle.p10_pexpr.specs.Reading.{readers}
use Rattle.p10_pexpr.specs.Readers.{Readers}
use Rattle.p10_parse.specs.declared.way.Way.{Way}
use Rattle.p10_parse.specs.Ways.{way_at, begins_declaration}
use Rattle.p10_parse.specs.DeclarationReading.{Builders, value_of, braced_at, initializer_once}
use Rattle.p10_parse.specs.StatementReading.{statement_by, statement_once, declared_at, item_at}
use Rattle.p10_parse.specs.ExternalReading.{builders}

-- ## Initialisers

pub initializer_nothing : (names : Scope) (symbols : List Symbol) → (builders 0).initializer names symbols ≡ None
unfolding builders
initializer_nothing names symbols = refl

initializer_step : (n : ℕ) (names : Scope) (symbols : List Symbol) (b : Bool) → 0 < n → heads sign.OpenBrace symbols ≡ b →
    (builders n).initializer names symbols ≡ cond b (braced_at (readers (n - 1)) (builders (n - 1)) names (drop 1 symbols)) (value_of (readers (n - 1)) (builders (n - 1)) names symbols)
unfolding builders
initializer_step zero names symbols b some e = absurd (omega (arith, some))
initializer_step (suc n) names symbols b some e =
    let less : n ≡ suc n - 1 = omega arith in
    let k = suc n - 1 in
    ap (λ k. initializer_once (readers k) (builders k) names symbols) less ∙ ap (λ c. cond c (braced_at (readers k) (builders k) names (drop 1 symbols)) (value_of (readers k) (builders k) names symbols)) e

pub initializer_braced : (n : ℕ) (names : Scope) (symbols : List Symbol) (x : Read (Initializer Bare)) → 0 < n → heads sign.OpenBrace symbols ≡ true →
    braced_at (readers (n - 1)) (builders (n - 1)) names (drop 1 symbols) ≡ x → (builders n).initializer names symbols ≡ x
initializer_braced n names symbols x some opens e = initializer_step n names symbols true some opens ∙ e

pub initializer_value : (n : ℕ) (names : Scope) (symbols : List Symbol) (x : Read (Initializer Bare)) → 0 < n → heads sign.OpenBrace symbols ≡ false →
    value_of (readers (n - 1)) (builders (n - 1)) names symbols ≡ x → (builders n).initializer names symbols ≡ x
initializer_value n names symbols x some none e = initializer_step n names symbols false some none ∙ e

-- ## Statements

pub statement_nothing : (names : Scope) (symbols : List Symbol) → (builders 0).statement names symbols ≡ None
unfolding builders
statement_nothing names symbols = refl

statement_step : (n : ℕ) (names : Scope) (symbols : List Symbol) → 0 < n → (builders n).statement names symbols ≡ statement_once (readers (n - 1)) (builders (n - 1)) names symbols
unfolding builders
statement_step zero names symbols some = absurd (omega (arith, some))
statement_step (suc n) names symbols some = let less : n ≡ suc n - 1 = omega arith in ap (λ k. statement_once (readers k) (builders k) names symbols) less

pub statement_way : (n : ℕ) (names : Scope) (symbols : List Symbol) (way : Way) (x : Read (Statement Bare)) → 0 < n → way ≡ way_at symbols →
    statement_by (readers (n - 1)) (builders (n - 1)) names way symbols ≡ x → (builders n).statement names symbols ≡ x
statement_way n names symbols way x some begins e = statement_step n names symbols some ∙ ap (λ w. statement_by (readers (n - 1)) (builders (n - 1)) names w symbols) (sym begins) ∙ e

-- ## Items of a block

pub item_mark : (e : Readers) (r : Builders) (names : Scope) (symbols : List Symbol) (x : Text) → mark_first symbols ≡ Some x → item_at e r names symbols ≡ Some (Pragma tt x, drop 1 symbols)
item_mark e r names [] x is = absurd (none-some x is)
item_mark e r names (symbol.Pragma y ∷ rest) x is = ap (λ y. Some (Pragma tt y, rest)) (same_Some _ _ is)
item_mark e r names (symbol.Name y ∷ rest) x is = absurd (none-some x is)
item_mark e r names (symbol.Number y ∷ rest) x is = absurd (none-some x is)
item_mark e r names (symbol.Character y ∷ rest) x is = absurd (none-some x is)
item_mark e r names (symbol.String y ∷ rest) x is = absurd (none-some x is)
item_mark e r names (symbol.Fixed y ∷ rest) x is = absurd (none-some x is)
item_mark e r names (symbol.Other y ∷ rest) x is = absurd (none-some x is)

item_by : (e : Readers) (r : Builders) (names : Scope) (symbols : List Symbol) → mark_first symbols ≡ None → item_at e r names symbols ≡ cond (begins_declaration names symbols) (declared_at e r names symbols) (r.statement names symbols)
item_by e r names [] none = refl
item_by e r names (symbol.Pragma y ∷ rest) none = absurd (none-some y (sym none))
item_by e r names (symbol.Name y ∷ rest) none = refl
item_by e r names (symbol.Number y ∷ rest) none = refl
item_by e r names (symbol.Character y ∷ rest) none = refl
item_by e r names (symbol.String y ∷ rest) none = refl
item_by e r names (symbol.Fixed y ∷ rest) none = refl
item_by e r names (symbol.Other y ∷ rest) none = refl

pub item_declared : (e : Readers) (r : Builders) (names : Scope) (symbols : List Symbol) (x : Read (Statement Bare)) → mark_first symbols ≡ None → begins_declaration names symbols ≡ true → declared_at e r names symbols ≡ x → item_at e r names symbols ≡ x
item_declared e r names symbols x none begins is =
    item_by e r names symbols none ∙ ap (λ b. cond b (declared_at e r names symbols) (r.statement names symbols)) begins ∙ is

pub item_stated : (e : Readers) (r : Builders) (names : Scope) (symbols : List Symbol) (x : Read (Statement Bare)) → mark_first symbols ≡ None → begins_declaration names symbols ≡ false → r.statement names symbols ≡ x → item_at e r names symbols ≡ x
item_stated e r names symbols x none begins is =
    item_by e r names symbols none ∙ ap (λ b. cond b (declared_at e r names symbols) (r.statement names symbols)) begins ∙ is
