-- The words outside of bodies tell the trees there, and the words of a function tell its body.
use Rattle.std.proofs.Common.{◌≡◌, ℕ, zero, suc, ◌+◌, ◌<◌, List, [], ◌∷◌, ◌++◌, map, length, Some, refl, sym, ap, ◌∙◌, subst, arith, append-nil}
use Rattle.std.specs.Prelude.{slice_get}
use Rattle.std.proofs.lemmas.Option.{same_Some}
use Rattle.p10_syn.specs.declared.sign.Sign.TheVariants as sign
use Rattle.p10_syn.specs.Symbols.{Symbol, Fixed}
use Rattle.p10_syn.specs.Scopes.{Scope}
use Rattle.p10_syn.specs.Declaring.{after_external}
use Rattle.p10_syn.specs.Spelling.{spell_specifiers, spell_declarator, spell_declaration}
use Rattle.p10_syn.specs.StatementForms.{IsDeclaration, IsDefinition, AreExternals}
use Rattle.p10_syn.specs.Trees.{Bare, InitDeclarator, Declaration, Definition, External, Outer, Defines}
use Rattle.p10_place.proofs.Counting.{counts_declaration}
use Rattle.p10_syn.specs.Counts.{count_specifiers, count_declarators, count_more_declarators, count_declaration}
use Rattle.p10_parse.proofs.Unique.{externals_are_apart}
use Rattle.p10_spelling_laws.specs.Outside.{spell_head, first_run, other_runs, function_words, functions_in, bodiless, without_body}
use Rattle.p10_spelling_laws.proofs.Following.{follow_declarator, follow_specifiers, follow_declaration}

-- ## Heads

-- an empty body
abbrev empty_body : List Symbol
empty_body = Fixed sign.OpenBrace ∷ Fixed sign.CloseBrace ∷ []

pub follow_head : (d : Definition Bare) (these more : List Symbol) → spell_head d (these ++ more) ≡ spell_head d these ++ more
follow_head d these more = ap (λ rest. spell_specifiers d.specifiers rest) (follow_declarator d.declarator these more) ∙ follow_specifiers d.specifiers (spell_declarator d.declarator these) more

-- a head with an empty body is a function
empty_is : (names : Scope) (d : Definition Bare) → IsDefinition names d → IsDefinition names (bodiless d)
empty_is names d h = (h.0, h.1, h.2, h.3, tt)

heads_are_one : (names : Scope) (d e : Definition Bare) → IsDefinition names d → IsDefinition names e → spell_head d [] ≡ spell_head e [] → Defines (bodiless d) ≡ Defines (bodiless e)
heads_are_one names d e isd ise same =
    (externals_are_apart names (Defines (bodiless d)) (Defines (bodiless e)) [] [] (empty_is names d isd) (empty_is names e ise)
    (follow_head d [] empty_body ∙ ap (λ run. run ++ empty_body) same ∙ sym (follow_head e [] empty_body))).0

declaration_or_function : (p : Bare) (d : Declaration Bare) (e : Definition Bare) → ◌≡◌ {A = External Bare} (Outer p d) (Defines e) → ⊥
declaration_or_function p d e same = cc

no_head : (names : Scope) (p : Bare) (d : Declaration Bare) (e : Definition Bare) (run : List Symbol) → IsDeclaration names d → IsDefinition names e → spell_declaration d run ≡ spell_head e [] → ⊥
no_head names p d e run isd ise same =
    declaration_or_function p d (bodiless e)
    (externals_are_apart names (Outer p d) (Defines (bodiless e)) (run ++ empty_body) [] isd (empty_is names e ise)
    (follow_declaration d run empty_body ∙ ap (λ run. run ++ empty_body) same ∙ sym (follow_head e [] empty_body))).0

-- ## Runs

more_declarators : (ds : List (InitDeclarator Bare)) → 0 < count_more_declarators ds
more_declarators [] = omega arith
more_declarators (d ∷ ds) = omega arith

some_declarators : (ds : List (InitDeclarator Bare)) → 0 < count_declarators ds
some_declarators [] = omega arith
some_declarators (d ∷ ds) = omega (arith, more_declarators ds)

-- a declaration has a word
pub some_words : (d : Declaration Bare) → 0 < count_declaration d
some_words d =
    let all : count_declaration d ≡ count_specifiers d.specifiers + count_declarators d.declarators = refl in
    omega (arith, all, some_declarators d.declarators)

no_words : (d : Declaration Bare) (run : List Symbol) → [] ≡ spell_declaration d run → ⊥
no_words d run same =
    let none : 0 ≡ length (spell_declaration d run) = ap length same in
    omega (arith, none, counts_declaration d run, some_words d)

no_more : (run : List Symbol) (runs : List (List Symbol)) → [] ≡ run ∷ runs → ⊥
no_more run runs same = cc

same_runs : (x y : List Symbol) (xs ys : List (List Symbol)) → x ∷ xs ≡ y ∷ ys → (x ≡ y) × (xs ≡ ys)
same_runs x y xs ys same = (cc, cc)

pub runs_tell_trees : (names : Scope) (es fs : List (External Bare)) → AreExternals names es → AreExternals names fs → first_run es ≡ first_run fs → other_runs es ≡ other_runs fs → map without_body es ≡ map without_body fs
runs_tell_trees names [] [] a b first others = refl
runs_tell_trees names [] (Outer p d ∷ fs) a b first others = absurd (no_words d (first_run fs) first)
runs_tell_trees names [] (Defines g ∷ fs) a b first others = absurd (no_more (first_run fs) (other_runs fs) others)
runs_tell_trees names (Outer p d ∷ es) [] a b first others = absurd (no_words d (first_run es) (sym first))
runs_tell_trees names (Defines d ∷ es) [] a b first others = absurd (no_more (first_run es) (other_runs es) (sym others))
runs_tell_trees names (Outer p d ∷ es) (Outer q e ∷ fs) a b first others =
    let (same, rest) = externals_are_apart names (Outer p d) (Outer q e) (first_run es) (first_run fs) a.0 b.0 first in
    let after = runs_tell_trees (after_external names (Outer p d)) es fs a.1 (subst (λ x. AreExternals (after_external names x) fs) (sym same) b.1) rest others in
    λ i. same i ∷ after i
runs_tell_trees names (Outer p d ∷ es) (Defines e ∷ fs) a b first others = absurd (no_head names p d e (first_run es) a.0 b.0 first)
runs_tell_trees names (Defines d ∷ es) (Outer q e ∷ fs) a b first others = absurd (no_head names q e d (first_run fs) b.0 a.0 (sym first))
runs_tell_trees names (Defines d ∷ es) (Defines e ∷ fs) a b first others =
    let same = heads_are_one names d e a.0 b.0 first in
    let (next, more) = same_runs _ _ _ _ others in
    let after = runs_tell_trees (after_external names (Defines d)) es fs a.1 (subst (λ x. AreExternals (after_external names x) fs) (sym same) b.1) next more in
    λ i. same i ∷ after i

-- ## Bodies

no_trees : (f : External Bare) (fs : List (External Bare)) → [] ≡ f ∷ fs → ⊥
no_trees f fs same = cc

same_trees : (e f : External Bare) (es fs : List (External Bare)) → e ∷ es ≡ f ∷ fs → (e ≡ f) × (es ≡ fs)
same_trees e f es fs same = (cc, cc)

definitions : (d e : Definition Bare) → Defines d ≡ Defines e → d ≡ e
definitions d e same = cc

-- what is told of functions by their words
abbrev pub Tell : List (List Symbol) → List (List Symbol) → List (Definition Bare) → List (Definition Bare) → Type 0
Tell words more these others = (n : ℕ) → slice_get words n ≡ slice_get more n → slice_get these n ≡ slice_get others n

-- where trees are the same but for bodies, the words of the function with a number tell it, if they do so of those after them
pub functions_before : (names : Scope) (es fs : List (External Bare)) (words more : List (List Symbol)) (these others : List (Definition Bare)) → AreExternals names es → AreExternals names fs
    → map without_body es ≡ map without_body fs → Tell words more these others → Tell (function_words es ++ words) (function_words fs ++ more) (functions_in es ++ these) (functions_in fs ++ others)
functions_before names [] [] words more these others a b alike tell n same = tell n same
functions_before names [] (f ∷ fs) words more these others a b alike tell n same = absurd (no_trees (without_body f) (map without_body fs) alike)
functions_before names (e ∷ es) [] words more these others a b alike tell n same = absurd (no_trees (without_body e) (map without_body es) (sym alike))
functions_before names (Outer p d ∷ es) (Outer q e ∷ fs) words more these others a b alike tell n same =
    let (first, rest) = same_trees _ _ _ _ alike in
    functions_before (after_external names (Outer p d)) es fs words more these others a.1 (subst (λ x. AreExternals (after_external names x) fs) (sym first) b.1) rest tell n same
functions_before names (Outer p d ∷ es) (Defines e ∷ fs) words more these others a b alike tell n same = absurd (declaration_or_function p d (bodiless e) (same_trees _ _ _ _ alike).0)
functions_before names (Defines d ∷ es) (Outer q e ∷ fs) words more these others a b alike tell n same = absurd (declaration_or_function q e (bodiless d) (sym (same_trees _ _ _ _ alike).0))
functions_before names (Defines d ∷ es) (Defines e ∷ fs) words more these others a b alike tell zero same =
    ap Some (definitions d e (externals_are_apart names (Defines d) (Defines e) [] [] a.0 b.0 (same_Some _ _ same)).0)
functions_before names (Defines d ∷ es) (Defines e ∷ fs) words more these others a b alike tell (suc n) same =
    let (first, rest) = same_trees _ _ _ _ alike in
    functions_before (after_external names (Defines d)) es fs words more these others a.1 (subst (λ x. AreExternals (after_external names x) fs) (sym first) b.1) rest tell n same

pub words_tell_function : (names : Scope) (es fs : List (External Bare)) → AreExternals names es → AreExternals names fs → map without_body es ≡ map without_body fs → Tell (function_words es) (function_words fs) (functions_in es) (functions_in fs)
words_tell_function names es fs a b alike n same =
    ap (λ ds. slice_get ds n) (sym (append-nil (functions_in es)))
    ∙ functions_before names es fs [] [] [] [] a b alike (λ n same. refl) n (ap (λ ws. slice_get ws n) (append-nil (function_words es)) ∙ same ∙ ap (λ ws. slice_get ws n) (sym (append-nil (function_words fs))))
    ∙ ap (λ ds. slice_get ds n) (append-nil (functions_in fs))
