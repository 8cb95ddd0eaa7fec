-- A declaration or function that is spelled is read, whatever words follow.
use Rattle.std.proofs.Common.{◌≡◌, ℕ, ◌*◌, ◌≤◌, List, [], ◌∷◌, drop, cond, refl, ◌∙◌, ap, arith, Some, option_map, option_and_then}
use Rattle.p10_syn.specs.declared.sign.Sign.TheVariants as sign
use Rattle.p10_syn.specs.declared.setting.Naming.TheVariants.{Required}
use Rattle.p10_syn.specs.declared.setting.Setting.TheVariants.{Outside}
use Rattle.p10_syn.specs.declared.setting.Said.TheVariants.{Nothing}
use Rattle.p10_syn.specs.Symbols.{Symbol, Fixed}
use Rattle.p10_syn.specs.Scopes.{Scope}
use Rattle.p10_syn.specs.Declaring.{after_specifiers, after_declarator, in_body}
use Rattle.p10_syn.specs.Spelling.{spell_declarator, spell_initial, spell_init_declarator, spell_more_declarators, spell_declarators, spell_statements, spell_external}
use Rattle.p10_syn.specs.Forms.{said_by}
use Rattle.p10_syn.specs.StatementForms.{AreInitDeclarators, IsExternal}
use Rattle.p10_syn.specs.Trees.{Bare, Specifiers, Declarator, InitDeclarator, Statements, External, Outer, Defines, statement_row}
use Rattle.p10_pexpr.specs.Heads.{Read}
use Rattle.p10_pexpr.specs.Reading.{readers}
use Rattle.p10_pexpr.proofs.FirstWords.{declarator_other, apart_leads}
use Rattle.p10_pexpr.proofs.DeclaratorAgain.{specifiers_at_again}
use Rattle.p10_pexpr.proofs.Again.{declarator_again, specifiers_again}
use Rattle.p10_parse.specs.DeclarationReading.{declaring, declarators_after}
use Rattle.p10_parse.specs.ExternalReading.{builders, defining, definition_at, outer_at, external_with, external_after, external_at}
use Rattle.p10_parse.proofs.Rows.{statement_again}
use Rattle.p10_parse.proofs.Sizes.{declarators_size, external_size}
use Rattle.p10_parse.proofs.DeclarationAgain.{more_after, initial_again, initial_ends, initial_apart, declarators_again, no_semicolon, declarator_no_brace_named, declarators_other, declarators_no_brace}
use Rattle.p10_parse.proofs.StatementAgain.{items_read}

-- what stands after the specifiers of a declaration
outer_after : (ds : List (InitDeclarator Bare)) (n : ℕ) (names : Scope) (ss : Specifiers Bare) (rest : List Symbol) → AreInitDeclarators names ss ds → 2 * declarators_size ds ≤ n →
    external_after (readers n) (builders n) names ss (spell_declarators ds rest) ≡ Some (Outer tt (declaring ss ds), rest)
outer_after [] n names ss rest h enough = refl
outer_after (d ∷ ds) n names ss rest h enough =
    let more = spell_more_declarators ds rest in
    let then = after_declarator names ss d.declarator in
    let inner = spell_initial d.initial more in
    let symbols = spell_init_declarator d more in
    let go : Declarator Bare × List Symbol → Read (External Bare) = λ x. external_with (readers n) (builders n) names ss x.0 x.1 in
    let on : InitDeclarator Bare × List Symbol → Read (External Bare) = λ v. option_map (λ xs. (Outer tt (declaring ss xs.0), xs.1)) (declarators_after (readers n) (builders n) names ss [] v.0 v.1) in
    ap (λ b. cond b (Some (Outer tt (declaring ss []), drop 1 symbols)) (option_and_then go ((readers n).declarator names Outside Required symbols))) (no_semicolon d.declarator names inner h.0.0)
    ∙ ap (option_and_then go) (declarator_again d.declarator names Outside Required h.0.0 n inner (omega (arith, enough)) (initial_ends d.initial more (more_after ds rest).ends))
    ∙ ap (λ b. cond b (definition_at (readers n) (builders n) names ss d.declarator (drop 1 inner)) (outer_at (readers n) (builders n) names ss d.declarator inner)) (initial_apart d ds rest)
    ∙ ap (option_and_then on) (initial_again d.initial n then d.declarator more h.0.1 (omega (arith, enough)) (more_after ds rest))
    ∙ ap (option_map (λ xs. (Outer tt (declaring ss xs.0), xs.1))) (declarators_again ds n then ss (d ∷ []) rest h.1 (omega (arith, enough)))

-- what is spelled is read, whatever stands after it
pub external_again : (e : External Bare) (n : ℕ) (names : Scope) (rest : List Symbol) → IsExternal names e → 2 * external_size e ≤ n → external_at (readers n) (builders n) names (spell_external e rest) ≡ Some (e, rest)
external_again (Outer p d) n names rest h enough =
    let ss = d.specifiers in
    let within = after_specifiers names ss in
    ap (option_and_then (λ x. external_after (readers n) (builders n) (after_specifiers names x.0) x.0 x.1))
    (specifiers_at_again names Outside ss n (spell_declarators d.declarators rest) (specifiers_again ss names Outside Nothing h.0) h.1 (omega (arith, enough))
    (declarators_other d.declarators within (said_by Nothing ss) rest h.2) (declarators_no_brace d.declarators rest))
    ∙ outer_after d.declarators n within ss rest h.3 (omega (arith, enough))
external_again (Defines f) n names rest h enough =
    let ss = f.specifiers in
    let d = f.declarator in
    let within = after_specifiers names ss in
    let body = spell_statements f.body (Fixed sign.CloseBrace ∷ rest) in
    let more = Fixed sign.OpenBrace ∷ body in
    let symbols = spell_declarator d more in
    let go : Declarator Bare × List Symbol → Read (External Bare) = λ x. external_with (readers n) (builders n) within ss x.0 x.1 in
    ap (option_and_then (λ x. external_after (readers n) (builders n) (after_specifiers names x.0) x.0 x.1))
    (specifiers_at_again names Outside ss n symbols (specifiers_again ss names Outside Nothing h.0) h.1 (omega (arith, enough))
    (declarator_other within Outside (said_by Nothing ss) d more (apart_leads within (said_by Nothing ss) d h.2) refl) (declarator_no_brace_named d within more h.3))
    ∙ ap (λ b. cond b (Some (Outer tt (declaring ss []), drop 1 symbols)) (option_and_then go ((readers n).declarator within Outside Required symbols))) (no_semicolon d within more h.3)
    ∙ ap (option_and_then go) (declarator_again d within Outside Required h.3 n more (omega (arith, enough)) refl)
    ∙ ap (option_map (λ x. (defining ss d (statement_row x.0), x.1))) (items_read f.body n (in_body (after_declarator within ss d) d) [] rest h.4 (omega (arith, enough)))
    ∙ ap (λ (xs : Statements Bare). Some (defining ss d xs, rest)) (statement_again f.body)
