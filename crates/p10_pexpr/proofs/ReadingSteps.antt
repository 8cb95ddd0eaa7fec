-- Steps of the readers, as the code takes them.
use Rattle.std.proofs.Common.{◌≡◌, ℕ, ◌-◌, ◌<◌, ◌≤◌, zero, suc, List, [], ◌∷◌, ◌++◌, drop, map, Bool, true, false, ◌&&◌, ◌||◌, cond, refl, sym, ◌∙◌, ap, arith, Some, None, option_and_then}
use Rattle.std.proofs.lemmas.Bool.{le-leb, lt-leb, false≢true, true≢false}
use Rattle.std.proofs.lemmas.Option.{none-some, same_Some}
use Rattle.std.proofs.lemmas.List.{map-append}
use Rattle.p10_base.specs.Words.{Text}
use Rattle.p10_syn.specs.declared.sign.Sign.{Sign}
use Rattle.p10_syn.specs.declared.sign.Sign.TheVariants as sign
use Rattle.p10_syn.specs.declared.setting.Naming.{Naming}
use Rattle.p10_syn.specs.declared.setting.Setting.{Setting}
use Rattle.p10_syn.specs.declared.tree.Expr.{Expr}
use Rattle.p10_syn.specs.Signs.{same_sign}
use Rattle.p10_syn.specs.Symbols.{Symbol, Fixed}
use Rattle.p10_syn.specs.Symbols as symbol
use Rattle.p10_syn.specs.Scopes.{Scope}
use Rattle.p10_syn.specs.Precedence.{level_of}
use Rattle.p10_syn.specs.Forms.{may_be_named, may_be_nameless}
use Rattle.p10_syn.specs.Trees.{Bare, Expression, Declarator, Named, Unnamed}
use Rattle.p10_syn.specs.Built.{bare_of}
use Rattle.p10_pexpr.specs.Heads.{Read, heads}
use Rattle.p10_pexpr.specs.Fronts.{name_first}
use Rattle.p10_pexpr.specs.Tables.{next_at, goes_on, opens_parameters}
use Rattle.p10_pexpr.specs.Readers.{Readers}
use Rattle.p10_pexpr.specs.Reading.{readers}
use Rattle.p10_pexpr.specs.Cut.{suffix_at}
use Rattle.p10_pexpr.specs.DeclaratorReading.{plain_name, nameless_at, pointer_at, wrapped_at, atom_at, array_at, function_at, declarator_once, suffixes_once}
use Rattle.p10_pexpr.specs.ExpressionReading.{operand_at, part_by, chain_of, chain_on, chain_once, expression_once, list_more, list_once}

-- ## Expressions

pub nothing_deep : (names : Scope) (level : ℕ) (symbols : List Symbol) → (readers 0).expression names level symbols ≡ None
unfolding readers
nothing_deep names level symbols = refl

expression_step : (n : ℕ) (names : Scope) (level : ℕ) (symbols : List Symbol) → 0 < n → (readers n).expression names level symbols ≡ expression_once (readers (n - 1)) names level symbols
unfolding readers
expression_step zero names level symbols some = absurd (omega (arith, some))
expression_step (suc n) names level symbols some = let less : n ≡ suc n - 1 = omega arith in ap (λ k. expression_once (readers k) names level symbols) less

pub expression_no_operand : (n : ℕ) (names : Scope) (level : ℕ) (symbols : List Symbol) → 0 < n → operand_at (readers (n - 1)) names symbols ≡ None → (readers n).expression names level symbols ≡ None
expression_no_operand n names level symbols some e = expression_step n names level symbols some ∙ ap (option_and_then (λ t. chain_of (readers (n - 1)) names level t.0 t.1)) e

pub expression_loose : (n : ℕ) (names : Scope) (level : ℕ) (symbols rest : List Symbol) (t : Expression Bare) → 0 < n → operand_at (readers (n - 1)) names symbols ≡ Some (t, rest) → level_of t < level → (readers n).expression names level symbols ≡ None
expression_loose n names level symbols rest t some e loose =
    expression_step n names level symbols some ∙ ap (option_and_then (λ t. chain_of (readers (n - 1)) names level t.0 t.1)) e ∙ ap (λ b. cond b ((readers (n - 1)).chain names level t rest) None) (lt-leb _ _ loose)

pub expression_chain : (n : ℕ) (names : Scope) (level : ℕ) (symbols rest : List Symbol) (t : Expression Bare) → 0 < n → operand_at (readers (n - 1)) names symbols ≡ Some (t, rest) → level ≤ level_of t →
    (readers n).expression names level symbols ≡ (readers (n - 1)).chain names level t rest
expression_chain n names level symbols rest t some e high =
    expression_step n names level symbols some ∙ ap (option_and_then (λ t. chain_of (readers (n - 1)) names level t.0 t.1)) e ∙ ap (λ b. cond b ((readers (n - 1)).chain names level t rest) None) (le-leb _ _ high)

-- ## Further parts

pub chain_nothing : (names : Scope) (level : ℕ) (t : Expression Bare) (symbols : List Symbol) → (readers 0).chain names level t symbols ≡ None
unfolding readers
chain_nothing names level t symbols = refl

chain_step : (n : ℕ) (names : Scope) (level : ℕ) (t : Expression Bare) (symbols : List Symbol) → 0 < n → (readers n).chain names level t symbols ≡ chain_once (readers (n - 1)) names level t symbols
unfolding readers
chain_step zero names level t symbols some = absurd (omega (arith, some))
chain_step (suc n) names level t symbols some = let less : n ≡ suc n - 1 = omega arith in ap (λ k. chain_once (readers k) names level t symbols) less

chain_choice : (n : ℕ) (names : Scope) (level : ℕ) (t : Expression Bare) (symbols : List Symbol) (b : Bool) → 0 < n → goes_on level (level_of t) (next_at symbols) ≡ b →
    (readers n).chain names level t symbols ≡ cond b (chain_on (readers (n - 1)) names level t symbols) (Some (t, symbols))
chain_choice n names level t symbols b some e =
    chain_step n names level t symbols some ∙ ap (λ c. cond c (chain_on (readers (n - 1)) names level t symbols) (Some (t, symbols))) e

pub chain_stops : (n : ℕ) (names : Scope) (level : ℕ) (t : Expression Bare) (symbols : List Symbol) → 0 < n → goes_on level (level_of t) (next_at symbols) ≡ false → (readers n).chain names level t symbols ≡ Some (t, symbols)
chain_stops n names level t symbols some e = chain_choice n names level t symbols false some e

pub chain_fails : (n : ℕ) (names : Scope) (level : ℕ) (t : Expression Bare) (symbols : List Symbol) → 0 < n → goes_on level (level_of t) (next_at symbols) ≡ true →
    part_by (readers (n - 1)) names t (next_at symbols) (drop 1 symbols) ≡ None → (readers n).chain names level t symbols ≡ None
chain_fails n names level t symbols some e none =
    chain_choice n names level t symbols true some e ∙ ap (option_and_then (λ x. (readers (n - 1)).chain names level x.0 x.1)) none

pub chain_next : (n : ℕ) (names : Scope) (level : ℕ) (t u : Expression Bare) (symbols rest : List Symbol) → 0 < n → goes_on level (level_of t) (next_at symbols) ≡ true →
    part_by (readers (n - 1)) names t (next_at symbols) (drop 1 symbols) ≡ Some (u, rest) → (readers n).chain names level t symbols ≡ (readers (n - 1)).chain names level u rest
chain_next n names level t u symbols rest some e made =
    chain_choice n names level t symbols true some e ∙ ap (option_and_then (λ x. (readers (n - 1)).chain names level x.0 x.1)) made

pub chain_over : (n : ℕ) (names : Scope) (level : ℕ) (t : Expression Bare) (symbols : List Symbol) (x : Read (Expression Bare)) → n ≤ 0 → (readers n).chain names level t symbols ≡ x → x ≡ None
chain_over zero names level t symbols x none same = sym same ∙ chain_nothing names level t symbols
chain_over (suc n) names level t symbols x none same = absurd (omega (arith, none))

-- ## Lists of expressions

pub list_nothing : (names : Scope) (done : List (Expression Bare)) (symbols : List Symbol) → (readers 0).list names done symbols ≡ None
unfolding readers
list_nothing names done symbols = refl

list_step : (n : ℕ) (names : Scope) (done : List (Expression Bare)) (symbols : List Symbol) → 0 < n → (readers n).list names done symbols ≡ list_once (readers (n - 1)) names done symbols
unfolding readers
list_step zero names done symbols some = absurd (omega (arith, some))
list_step (suc n) names done symbols some = let less : n ≡ suc n - 1 = omega arith in ap (λ k. list_once (readers k) names done symbols) less

pub list_none : (n : ℕ) (names : Scope) (done : List (Expression Bare)) (symbols : List Symbol) → 0 < n → (readers (n - 1)).expression names 2 symbols ≡ None → (readers n).list names done symbols ≡ None
list_none n names done symbols some e = list_step n names done symbols some ∙ ap (option_and_then (λ t. list_more (readers (n - 1)) names (done ++ t.0 ∷ []) t.1)) e

list_choice : (n : ℕ) (names : Scope) (done : List (Expression Bare)) (symbols rest : List Symbol) (t : Expression Bare) (b : Bool) → 0 < n → (readers (n - 1)).expression names 2 symbols ≡ Some (t, rest) → heads sign.Comma rest ≡ b →
    (readers n).list names done symbols ≡ cond b ((readers (n - 1)).list names (done ++ t ∷ []) (drop 1 rest)) (Some (done ++ t ∷ [], rest))
list_choice n names done symbols rest t b some e h =
    list_step n names done symbols some ∙ ap (option_and_then (λ t. list_more (readers (n - 1)) names (done ++ t.0 ∷ []) t.1)) e
    ∙ ap (λ c. cond c ((readers (n - 1)).list names (done ++ t ∷ []) (drop 1 rest)) (Some (done ++ t ∷ [], rest))) h

pub list_ends : (n : ℕ) (names : Scope) (done : List (Expression Bare)) (symbols rest : List Symbol) (t : Expression Bare) → 0 < n → (readers (n - 1)).expression names 2 symbols ≡ Some (t, rest) → heads sign.Comma rest ≡ false →
    (readers n).list names done symbols ≡ Some (done ++ t ∷ [], rest)
list_ends n names done symbols rest t some e h = list_choice n names done symbols rest t false some e h

pub list_next : (n : ℕ) (names : Scope) (done : List (Expression Bare)) (symbols rest : List Symbol) (t : Expression Bare) → 0 < n → (readers (n - 1)).expression names 2 symbols ≡ Some (t, rest) → heads sign.Comma rest ≡ true →
    (readers n).list names done symbols ≡ (readers (n - 1)).list names (done ++ t ∷ []) (drop 1 rest)
list_next n names done symbols rest t some e h = list_choice n names done symbols rest t true some e h

added : {A B : Type 0} (f : A → B) (all pushed : List A) (e : A) → pushed ≡ all ++ e ∷ [] → map f all ++ f e ∷ [] ≡ map f pushed
added f all pushed e items = sym (map-append f all (e ∷ [])) ∙ ap (map f) (sym items)

pub list_done : (n : ℕ) (names : Scope) (all pushed : List Expr) (e : Expr) (symbols rest : List Symbol) (x : Read (List (Expression Bare))) → 0 < n → (readers (n - 1)).expression names 2 symbols ≡ Some (bare_of e, rest) → heads sign.Comma rest ≡ false →
    pushed ≡ all ++ e ∷ [] → (readers n).list names (map bare_of all) symbols ≡ x → x ≡ Some (map bare_of pushed, rest)
list_done n names all pushed e symbols rest x some read h items same =
    sym same ∙ list_ends n names (map bare_of all) symbols rest (bare_of e) some read h ∙ ap (λ ts. Some (ts, rest)) (added bare_of all pushed e items)

pub list_goes : (n : ℕ) (names now : Scope) (all pushed : List Expr) (e : Expr) (symbols rest more : List Symbol) (x : Read (List (Expression Bare))) → 0 < n → (readers (n - 1)).expression names 2 symbols ≡ Some (bare_of e, rest) → heads sign.Comma rest ≡ true →
    pushed ≡ all ++ e ∷ [] → more ≡ drop 1 rest → now ≡ names → (readers n).list names (map bare_of all) symbols ≡ x → (readers (n - 1)).list now (map bare_of pushed) more ≡ x
list_goes n names now all pushed e symbols rest more x some read h items after scoped same =
    ap (λ a. (readers (n - 1)).list a (map bare_of pushed) more) scoped
    ∙ ap (λ ts. (readers (n - 1)).list names ts more) (sym (added bare_of all pushed e items)) ∙ ap ((readers (n - 1)).list names (map bare_of all ++ bare_of e ∷ [])) after
    ∙ sym (list_next n names (map bare_of all) symbols rest (bare_of e) some read h) ∙ same

-- ## Declarators

pub declarator_nothing : (names : Scope) (setting : Setting) (naming : Naming) (symbols : List Symbol) → (readers 0).declarator names setting naming symbols ≡ None
unfolding readers
declarator_nothing names setting naming symbols = refl

declarator_step : (n : ℕ) (names : Scope) (setting : Setting) (naming : Naming) (symbols : List Symbol) (b : Bool) → 0 < n → heads sign.Star symbols ≡ b →
    (readers n).declarator names setting naming symbols ≡ cond b (pointer_at (readers (n - 1)) names setting naming (drop 1 symbols)) (option_and_then (λ d. (readers (n - 1)).suffixes names setting d.0 d.1) (atom_at (readers (n - 1)) names setting naming symbols))
unfolding readers
declarator_step zero names setting naming symbols b some e = absurd (omega (arith, some))
declarator_step (suc n) names setting naming symbols b some e =
    let less : n ≡ suc n - 1 = omega arith in
    ap (λ k. declarator_once (readers k) names setting naming symbols) less
    ∙ ap (λ c. cond c (pointer_at (readers (suc n - 1)) names setting naming (drop 1 symbols)) (option_and_then (λ d. (readers (suc n - 1)).suffixes names setting d.0 d.1) (atom_at (readers (suc n - 1)) names setting naming symbols))) e

pub declarator_pointer : (n : ℕ) (names : Scope) (setting : Setting) (naming : Naming) (symbols : List Symbol) (x : Read (Declarator Bare)) → 0 < n → heads sign.Star symbols ≡ true →
    pointer_at (readers (n - 1)) names setting naming (drop 1 symbols) ≡ x → (readers n).declarator names setting naming symbols ≡ x
declarator_pointer n names setting naming symbols x some star e = declarator_step n names setting naming symbols true some star ∙ e

pub declarator_suffixes : (n : ℕ) (names : Scope) (setting : Setting) (naming : Naming) (symbols rest : List Symbol) (d : Declarator Bare) (x : Read (Declarator Bare)) → 0 < n → heads sign.Star symbols ≡ false →
    atom_at (readers (n - 1)) names setting naming symbols ≡ Some (d, rest) → (readers (n - 1)).suffixes names setting d rest ≡ x → (readers n).declarator names setting naming symbols ≡ x
declarator_suffixes n names setting naming symbols rest d x some star e f =
    declarator_step n names setting naming symbols false some star ∙ ap (option_and_then (λ d. (readers (n - 1)).suffixes names setting d.0 d.1)) e ∙ f

pub declarator_no_atom : (n : ℕ) (names : Scope) (setting : Setting) (naming : Naming) (symbols : List Symbol) → 0 < n → heads sign.Star symbols ≡ false →
    atom_at (readers (n - 1)) names setting naming symbols ≡ None → (readers n).declarator names setting naming symbols ≡ None
declarator_no_atom n names setting naming symbols some star e =
    declarator_step n names setting naming symbols false some star ∙ ap (option_and_then (λ d. (readers (n - 1)).suffixes names setting d.0 d.1)) e

-- ## Where a name may stand

pub atom_named : (r : Readers) (names : Scope) (setting : Setting) (naming : Naming) (symbols : List Symbol) (x : Text) → name_first symbols ≡ Some x → may_be_named naming ≡ true →
    atom_at r names setting naming symbols ≡ Some (Named (plain_name x), drop 1 symbols)
atom_named r names setting naming [] x e h = absurd (none-some x e)
atom_named r names setting naming (symbol.Name y ∷ rest) x e h =
    ap (λ b. cond b (Some (Named (plain_name y), rest)) (nameless_at naming (symbol.Name y ∷ rest))) h ∙ ap (λ y. Some (Named (plain_name y), rest)) (same_Some _ _ e)
atom_named r names setting naming (_ ∷ rest) x e h = absurd (none-some x e)

pub atom_unnamed : (r : Readers) (names : Scope) (setting : Setting) (naming : Naming) (symbols : List Symbol) (x : Text) (y : Read (Declarator Bare)) → name_first symbols ≡ Some x → may_be_named naming ≡ false →
    nameless_at naming symbols ≡ y → atom_at r names setting naming symbols ≡ y
atom_unnamed r names setting naming [] x y e h f = absurd (none-some x e)
atom_unnamed r names setting naming (symbol.Name z ∷ rest) x y e h f =
    ap (λ b. cond b (Some (Named (plain_name z), rest)) (nameless_at naming (symbol.Name z ∷ rest))) h ∙ f
atom_unnamed r names setting naming (_ ∷ rest) x y e h f = absurd (none-some x e)

nameless_sign : (r : Readers) (names : Scope) (setting : Setting) (naming : Naming) (s : Sign) (rest : List Symbol) → same_sign s sign.Open ≡ false → atom_at r names setting naming (Fixed s ∷ rest) ≡ nameless_at naming (Fixed s ∷ rest)
nameless_sign r names setting naming sign.Open rest h = absurd (true≢false h)
nameless_sign r names setting naming _ rest h = refl

pub atom_nameless : (r : Readers) (names : Scope) (setting : Setting) (naming : Naming) (symbols : List Symbol) (y : Read (Declarator Bare)) → name_first symbols ≡ None → heads sign.Open symbols ≡ false →
    nameless_at naming symbols ≡ y → atom_at r names setting naming symbols ≡ y
atom_nameless r names setting naming [] y e h f = f
atom_nameless r names setting naming (symbol.Name x ∷ rest) y e h f = absurd (none-some x (sym e))
atom_nameless r names setting naming (Fixed s ∷ rest) y e h f = nameless_sign r names setting naming s rest h ∙ f
atom_nameless r names setting naming (_ ∷ rest) y e h f = f

open_sign : (r : Readers) (names : Scope) (setting : Setting) (naming : Naming) (s : Sign) (rest : List Symbol) (b : Bool) → same_sign s sign.Open ≡ true → may_be_nameless naming && opens_parameters names rest ≡ b →
    atom_at r names setting naming (Fixed s ∷ rest) ≡ cond b (Some (Unnamed tt, Fixed s ∷ rest)) (wrapped_at r names setting naming rest)
open_sign r names setting naming sign.Open rest b h e = ap (λ c. cond c (Some (Unnamed tt, Fixed sign.Open ∷ rest)) (wrapped_at r names setting naming rest)) e
open_sign r names setting naming _ rest b h e = absurd (false≢true h)

open_choice : (r : Readers) (names : Scope) (setting : Setting) (naming : Naming) (symbols : List Symbol) (b : Bool) → heads sign.Open symbols ≡ true → may_be_nameless naming && opens_parameters names (drop 1 symbols) ≡ b →
    atom_at r names setting naming symbols ≡ cond b (Some (Unnamed tt, symbols)) (wrapped_at r names setting naming (drop 1 symbols))
open_choice r names setting naming [] b h e = absurd (false≢true h)
open_choice r names setting naming (Fixed s ∷ rest) b h e = open_sign r names setting naming s rest b h e
open_choice r names setting naming (_ ∷ rest) b h e = absurd (false≢true h)

pub atom_open : (r : Readers) (names : Scope) (setting : Setting) (naming : Naming) (symbols : List Symbol) → heads sign.Open symbols ≡ true → may_be_nameless naming && opens_parameters names (drop 1 symbols) ≡ true →
    atom_at r names setting naming symbols ≡ Some (Unnamed tt, symbols)
atom_open r names setting naming symbols h e = open_choice r names setting naming symbols true h e

pub atom_wrapped : (r : Readers) (names : Scope) (setting : Setting) (naming : Naming) (symbols : List Symbol) (y : Read (Declarator Bare)) → heads sign.Open symbols ≡ true → may_be_nameless naming && opens_parameters names (drop 1 symbols) ≡ false →
    wrapped_at r names setting naming (drop 1 symbols) ≡ y → atom_at r names setting naming symbols ≡ y
atom_wrapped r names setting naming symbols y h e f = open_choice r names setting naming symbols false h e ∙ f

-- ## Brackets and parameters after a declarator

pub suffixes_nothing : (names : Scope) (setting : Setting) (d : Declarator Bare) (symbols : List Symbol) → (readers 0).suffixes names setting d symbols ≡ None
unfolding readers
suffixes_nothing names setting d symbols = refl

chosen : (a b : Bool) (A B stay : Read (Declarator Bare)) (go : Declarator Bare × List Symbol → Read (Declarator Bare)) → a || b ≡ true → cond a (option_and_then go A) (cond b (option_and_then go B) stay) ≡ option_and_then go (cond a A B)
chosen true b A B stay go h = refl
chosen false true A B stay go h = refl
chosen false false A B stay go h = absurd (false≢true h)

stayed : (a b : Bool) (A B stay : Read (Declarator Bare)) (go : Declarator Bare × List Symbol → Read (Declarator Bare)) → a || b ≡ false → cond a (option_and_then go A) (cond b (option_and_then go B) stay) ≡ stay
stayed true b A B stay go h = absurd (true≢false h)
stayed false true A B stay go h = absurd (true≢false h)
stayed false false A B stay go h = refl

suffixes_step : (n : ℕ) (names : Scope) (setting : Setting) (d : Declarator Bare) (symbols : List Symbol) → 0 < n → (readers n).suffixes names setting d symbols ≡ suffixes_once (readers (n - 1)) names setting d symbols
unfolding readers
suffixes_step zero names setting d symbols some = absurd (omega (arith, some))
suffixes_step (suc n) names setting d symbols some = let less : n ≡ suc n - 1 = omega arith in ap (λ k. suffixes_once (readers k) names setting d symbols) less

pub suffixes_stop : (n : ℕ) (names : Scope) (setting : Setting) (d : Declarator Bare) (symbols : List Symbol) → 0 < n → heads sign.OpenSquare symbols || heads sign.Open symbols ≡ false → (readers n).suffixes names setting d symbols ≡ Some (d, symbols)
suffixes_stop n names setting d symbols some h =
    suffixes_step n names setting d symbols some
    ∙ stayed (heads sign.OpenSquare symbols) (heads sign.Open symbols) (array_at (readers (n - 1)) names d (drop 1 symbols)) (function_at (readers (n - 1)) names setting d (drop 1 symbols)) (Some (d, symbols)) (λ x. (readers (n - 1)).suffixes names setting x.0 x.1) h

suffixes_go : (n : ℕ) (names : Scope) (setting : Setting) (d : Declarator Bare) (symbols : List Symbol) → 0 < n → heads sign.OpenSquare symbols || heads sign.Open symbols ≡ true →
    (readers n).suffixes names setting d symbols ≡ option_and_then (λ x. (readers (n - 1)).suffixes names setting x.0 x.1) (suffix_at (readers (n - 1)) names setting d symbols)
suffixes_go n names setting d symbols some h =
    suffixes_step n names setting d symbols some
    ∙ chosen (heads sign.OpenSquare symbols) (heads sign.Open symbols) (array_at (readers (n - 1)) names d (drop 1 symbols)) (function_at (readers (n - 1)) names setting d (drop 1 symbols)) (Some (d, symbols)) (λ x. (readers (n - 1)).suffixes names setting x.0 x.1) h

pub suffixes_fail : (n : ℕ) (names : Scope) (setting : Setting) (d : Declarator Bare) (symbols : List Symbol) → 0 < n → heads sign.OpenSquare symbols || heads sign.Open symbols ≡ true →
    suffix_at (readers (n - 1)) names setting d symbols ≡ None → (readers n).suffixes names setting d symbols ≡ None
suffixes_fail n names setting d symbols some h e = suffixes_go n names setting d symbols some h ∙ ap (option_and_then (λ x. (readers (n - 1)).suffixes names setting x.0 x.1)) e

pub suffixes_next : (n : ℕ) (names : Scope) (setting : Setting) (d x : Declarator Bare) (symbols rest : List Symbol) → 0 < n → heads sign.OpenSquare symbols || heads sign.Open symbols ≡ true →
    suffix_at (readers (n - 1)) names setting d symbols ≡ Some (x, rest) → (readers n).suffixes names setting d symbols ≡ (readers (n - 1)).suffixes names setting x rest
suffixes_next n names setting d x symbols rest some h e = suffixes_go n names setting d symbols some h ∙ ap (option_and_then (λ x. (readers (n - 1)).suffixes names setting x.0 x.1)) e

pub suffixes_over : (n : ℕ) (names : Scope) (setting : Setting) (d : Declarator Bare) (symbols : List Symbol) (x : Read (Declarator Bare)) → n ≤ 0 → (readers n).suffixes names setting d symbols ≡ x → x ≡ None
suffixes_over zero names setting d symbols x none same = sym same ∙ suffixes_nothing names setting d symbols
suffixes_over (suc n) names setting d symbols x none same = absurd (omega (arith, none))
