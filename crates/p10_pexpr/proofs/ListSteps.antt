-- Steps of the readers of lists, as the loops take them.
use Rattle.std.proofs.Common.{◌≡◌, ℕ, ◌-◌, ◌<◌, ◌≤◌, zero, suc, List, [], ◌∷◌, ◌++◌, drop, map, Bool, true, false, ◌||◌, ◌&&◌, not, cond, refl, sym, ◌∙◌, ap, arith, Option, Some, None, option_map, option_and_then}
use Rattle.std.proofs.lemmas.List.{map-append}
use Rattle.p10_syn.specs.declared.sign.Sign.{Sign}
use Rattle.p10_syn.specs.declared.sign.Sign.TheVariants as sign
use Rattle.p10_syn.specs.declared.setting.Setting.{Setting}
use Rattle.p10_syn.specs.declared.setting.Said.{Said}
use Rattle.p10_syn.specs.declared.setting.Said.TheVariants.{Nothing}
use Rattle.p10_syn.specs.declared.tree.Spec.{Spec}
use Rattle.p10_syn.specs.declared.tree.Member.{Member}
use Rattle.p10_syn.specs.declared.tree.Field.{Field}
use Rattle.p10_syn.specs.declared.tree.Enumerator.{Enumerator}
use Rattle.p10_syn.specs.declared.tree.Parameter.{Parameter}
use Rattle.p10_syn.specs.Symbols.{Symbol}
use Rattle.p10_syn.specs.Scopes.{Scope}
use Rattle.p10_syn.specs.Declaring.{after_specifiers, after_specifier, after_members, after_member, after_enumerators, after_enumerator, after_parameter}
use Rattle.p10_syn.specs.Forms.{after_saying, may_have_body}
use Rattle.p10_syn.specs.Trees.{Bare, Identifier, Specifier, Specifiers, MemberDeclaration, Structure, Enumeration, NoMembers, NoEnumerators, specifier_row, member_row, enumerator_row}
use Rattle.p10_syn.specs.Trees as tree
use Rattle.p10_syn.specs.Built.{bare_specifier_of, bare_member_of, bare_field_of, bare_enumerator_of, bare_parameter_of}
use Rattle.p10_pexpr.specs.Heads.{Read, heads, expected, closed_by}
use Rattle.p10_pexpr.specs.declared.next.Specifying.{Specifying}
use Rattle.p10_pexpr.specs.Tables.{specifying_at, is_other}
use Rattle.p10_pexpr.specs.Readers.{Readers}
use Rattle.p10_pexpr.specs.Reading.{readers}
use Rattle.p10_pexpr.specs.Cut.{no_enumerator, enumerators_end, no_parameter, parameters_end}
use Rattle.p10_pexpr.specs.DeclaratorReading.{some_specifiers, specifiers_at, parameter_at, parameters_on, parameters_more, parameters_once}
use Rattle.p10_pexpr.specs.SpecifierReading.{specifier_by, specifiers_on, specifiers_once, member_at, members_more, members_once, field_at, fields_more, fields_once, enumerator_at, enumerators_on, enumerators_more, enumerators_once, structure_with_body, structure_of, structure_at, tagged_structure, enumeration_with_body, enumeration_of, enumeration_at, tagged_enumeration, tag_at}

added : {A B : Type 0} (f : A → B) (all pushed : List A) (e : A) → pushed ≡ all ++ e ∷ [] → map f all ++ f e ∷ [] ≡ map f pushed
added f all pushed e items = sym (map-append f all (e ∷ [])) ∙ ap (map f) (sym items)

-- ## Specifiers

pub specifiers_nothing : (names : Scope) (setting : Setting) (said : Said) (done : List (Specifier Bare)) (symbols : List Symbol) → (readers 0).specifiers names setting said done symbols ≡ None
unfolding readers
specifiers_nothing names setting said done symbols = refl

specifiers_step : (n : ℕ) (names : Scope) (setting : Setting) (said : Said) (done : List (Specifier Bare)) (symbols : List Symbol) (b : Bool) → 0 < n → is_other (specifying_at names setting said symbols) ≡ b →
    (readers n).specifiers names setting said done symbols ≡ cond b (Some (done, symbols)) (specifiers_on (readers (n - 1)) names setting said done symbols)
unfolding readers
specifiers_step zero names setting said done symbols b some e = absurd (omega (arith, some))
specifiers_step (suc n) names setting said done symbols b some e =
    let less : n ≡ suc n - 1 = omega arith in
    ap (λ k. specifiers_once (readers k) names setting said done symbols) less
    ∙ ap (λ c. cond c (Some (done, symbols)) (specifiers_on (readers (suc n - 1)) names setting said done symbols)) e

pub specifiers_stop : (n : ℕ) (names : Scope) (setting : Setting) (said : Said) (done : List (Specifier Bare)) (symbols : List Symbol) → 0 < n → is_other (specifying_at names setting said symbols) ≡ true →
    (readers n).specifiers names setting said done symbols ≡ Some (done, symbols)
specifiers_stop n names setting said done symbols some e = specifiers_step n names setting said done symbols true some e

pub specifiers_fail : (n : ℕ) (names : Scope) (setting : Setting) (said : Said) (done : List (Specifier Bare)) (symbols : List Symbol) → 0 < n → is_other (specifying_at names setting said symbols) ≡ false →
    specifier_by (readers (n - 1)) names setting (specifying_at names setting said symbols) symbols ≡ None → (readers n).specifiers names setting said done symbols ≡ None
specifiers_fail n names setting said done symbols some e f =
    specifiers_step n names setting said done symbols false some e
    ∙ ap (option_and_then (λ s. (readers (n - 1)).specifiers (after_specifier names s.0) setting (after_saying said s.0) (done ++ s.0 ∷ []) s.1)) f

pub specifiers_next : (n : ℕ) (names : Scope) (setting : Setting) (said : Said) (done : List (Specifier Bare)) (symbols rest : List Symbol) (s : Specifier Bare) → 0 < n → is_other (specifying_at names setting said symbols) ≡ false →
    specifier_by (readers (n - 1)) names setting (specifying_at names setting said symbols) symbols ≡ Some (s, rest) →
    (readers n).specifiers names setting said done symbols ≡ (readers (n - 1)).specifiers (after_specifier names s) setting (after_saying said s) (done ++ s ∷ []) rest
specifiers_next n names setting said done symbols rest s some e f =
    specifiers_step n names setting said done symbols false some e
    ∙ ap (option_and_then (λ s. (readers (n - 1)).specifiers (after_specifier names s.0) setting (after_saying said s.0) (done ++ s.0 ∷ []) s.1)) f

pub specifiers_over : (n : ℕ) (names : Scope) (setting : Setting) (said : Said) (done : List (Specifier Bare)) (symbols : List Symbol) (x : Read (List (Specifier Bare))) → n ≤ 0 → (readers n).specifiers names setting said done symbols ≡ x → x ≡ None
specifiers_over zero names setting said done symbols x none same = sym same ∙ specifiers_nothing names setting said done symbols
specifiers_over (suc n) names setting said done symbols x none same = absurd (omega (arith, none))

pub after_more_specifiers : (ss : List (Specifier Bare)) (names : Scope) (s : Specifier Bare) → after_specifiers names (specifier_row (ss ++ s ∷ [])) ≡ after_specifier (after_specifiers names (specifier_row ss)) s
after_more_specifiers [] names s = refl
after_more_specifiers (x ∷ ss) names s = after_more_specifiers ss (after_specifier names x) s

pub specifiers_goes : (n : ℕ) (names now : Scope) (setting : Setting) (said next : Said) (all pushed : List Spec) (s : Spec) (symbols rest : List Symbol) (x : Read (List (Specifier Bare))) → 0 < n → is_other (specifying_at names setting said symbols) ≡ false →
    specifier_by (readers (n - 1)) names setting (specifying_at names setting said symbols) symbols ≡ Some (bare_specifier_of s, rest) → pushed ≡ all ++ s ∷ [] → next ≡ after_saying said (bare_specifier_of s) → now ≡ after_specifier names (bare_specifier_of s) →
    (readers n).specifiers names setting said (map bare_specifier_of all) symbols ≡ x → (readers (n - 1)).specifiers now setting next (map bare_specifier_of pushed) rest ≡ x
specifiers_goes n names now setting said next all pushed s symbols rest x some e f items saying scoped same =
    ap (λ ss. (readers (n - 1)).specifiers now setting next ss rest) (sym (added bare_specifier_of all pushed s items))
    ∙ ap (λ a. (readers (n - 1)).specifiers now setting a (map bare_specifier_of all ++ bare_specifier_of s ∷ []) rest) saying
    ∙ ap (λ a. (readers (n - 1)).specifiers a setting (after_saying said (bare_specifier_of s)) (map bare_specifier_of all ++ bare_specifier_of s ∷ []) rest) scoped
    ∙ sym (specifiers_next n names setting said (map bare_specifier_of all) symbols rest (bare_specifier_of s) some e f) ∙ same

-- the same, where what the next word is was asked before
pub specifiers_goes_by : (n : ℕ) (names now : Scope) (setting : Setting) (said next : Said) (what : Specifying) (all pushed : List Spec) (s : Spec) (symbols rest : List Symbol) (x : Read (List (Specifier Bare))) → 0 < n →
    what ≡ specifying_at names setting said symbols → false ≡ is_other what → specifier_by (readers (n - 1)) names setting what symbols ≡ Some (bare_specifier_of s, rest) →
    next ≡ after_saying said (bare_specifier_of s) → pushed ≡ all ++ s ∷ [] → now ≡ after_specifier names (bare_specifier_of s) →
    (readers n).specifiers names setting said (map bare_specifier_of all) symbols ≡ x → (readers (n - 1)).specifiers now setting next (map bare_specifier_of pushed) rest ≡ x
specifiers_goes_by n names now setting said next what all pushed s symbols rest x some at other f saying items scoped same =
    specifiers_goes n names now setting said next all pushed s symbols rest x some (ap is_other (sym at) ∙ sym other)
    (ap (λ w. specifier_by (readers (n - 1)) names setting w symbols) (sym at) ∙ f) items saying scoped same

pub specifiers_scoped : (names old now : Scope) (all pushed : List Spec) (s : Spec) → old ≡ after_specifiers names (specifier_row (map bare_specifier_of all)) → now ≡ after_specifier old (bare_specifier_of s) → pushed ≡ all ++ s ∷ [] →
    now ≡ after_specifiers names (specifier_row (map bare_specifier_of pushed))
specifiers_scoped names old now all pushed s e f items =
    f ∙ ap (λ a. after_specifier a (bare_specifier_of s)) e ∙ sym (after_more_specifiers (map bare_specifier_of all) names (bare_specifier_of s))
    ∙ ap (λ ss. after_specifiers names (specifier_row ss)) (added bare_specifier_of all pushed s items)

-- at least one

specifiers_given : (r : Readers) (names : Scope) (setting : Setting) (symbols rest : List Symbol) (ss : List (Specifier Bare)) → r.specifiers names setting Nothing [] symbols ≡ Some (ss, rest) → specifiers_at r names setting symbols ≡ some_specifiers ss rest
specifiers_given r names setting symbols rest ss e = ap (option_and_then (λ ss. some_specifiers ss.0 ss.1)) e

pub specifiers_empty : (r : Readers) (names : Scope) (setting : Setting) (symbols rest : List Symbol) (all : List Spec) → r.specifiers names setting Nothing [] symbols ≡ Some (map bare_specifier_of all, rest) → all ≡ [] → specifiers_at r names setting symbols ≡ None
specifiers_empty r names setting symbols rest all e none = specifiers_given r names setting symbols rest (map bare_specifier_of all) e ∙ ap (λ ss. some_specifiers (map bare_specifier_of ss) rest) none

is_empty : List Spec → Bool
is_empty [] = true
is_empty (s ∷ ss) = false

pub specifiers_some : (r : Readers) (names : Scope) (setting : Setting) (symbols rest : List Symbol) (all : List Spec) → r.specifiers names setting Nothing [] symbols ≡ Some (map bare_specifier_of all, rest) → (all ≡ [] → ⊥) →
    specifiers_at r names setting symbols ≡ Some (specifier_row (map bare_specifier_of all), rest)
specifiers_some r names setting symbols rest [] e some = absurd (some refl)
specifiers_some r names setting symbols rest (s ∷ ss) e some = specifiers_given r names setting symbols rest (map bare_specifier_of (s ∷ ss)) e

-- ## Members

members_step : (n : ℕ) (names : Scope) (done : List (MemberDeclaration Bare)) (symbols : List Symbol) → 0 < n → (readers n).members names done symbols ≡ members_once (readers (n - 1)) names done symbols
unfolding readers
members_step zero names done symbols some = absurd (omega (arith, some))
members_step (suc n) names done symbols some = let less : n ≡ suc n - 1 = omega arith in ap (λ k. members_once (readers k) names done symbols) less

pub members_over : (n : ℕ) (names : Scope) (done : List (MemberDeclaration Bare)) (symbols : List Symbol) (x : Read (List (MemberDeclaration Bare))) → n ≤ 0 → (readers n).members names done symbols ≡ x → x ≡ None
unfolding readers
members_over zero names done symbols x none same = sym same
members_over (suc n) names done symbols x none same = absurd (omega (arith, none))

abbrev member_go : ℕ → Scope → List (MemberDeclaration Bare) → MemberDeclaration Bare × List Symbol → Read (List (MemberDeclaration Bare))
member_go k names done m = members_more (readers k) (after_member names m.0) (done ++ m.0 ∷ []) m.1

pub members_fail : (n : ℕ) (names : Scope) (done : List (MemberDeclaration Bare)) (symbols : List Symbol) → 0 < n → member_at (readers (n - 1)) names symbols ≡ None → (readers n).members names done symbols ≡ None
members_fail n names done symbols some e = members_step n names done symbols some ∙ ap (option_and_then (member_go (n - 1) names done)) e

members_read : (n : ℕ) (names : Scope) (all pushed : List Member) (m : Member) (symbols rest : List Symbol) (b : Bool) → 0 < n → member_at (readers (n - 1)) names symbols ≡ Some (bare_member_of m, rest) → pushed ≡ all ++ m ∷ [] → heads sign.CloseBrace rest ≡ b →
    (readers n).members names (map bare_member_of all) symbols ≡ cond b (Some (map bare_member_of pushed, drop 1 rest)) ((readers (n - 1)).members (after_member names (bare_member_of m)) (map bare_member_of pushed) rest)
members_read n names all pushed m symbols rest b some e items h =
    members_step n names (map bare_member_of all) symbols some ∙ ap (option_and_then (member_go (n - 1) names (map bare_member_of all))) e
    ∙ ap (λ ms. members_more (readers (n - 1)) (after_member names (bare_member_of m)) ms rest) (added bare_member_of all pushed m items)
    ∙ ap (λ c. cond c (Some (map bare_member_of pushed, drop 1 rest)) ((readers (n - 1)).members (after_member names (bare_member_of m)) (map bare_member_of pushed) rest)) h

pub members_done : (n : ℕ) (names : Scope) (all pushed : List Member) (m : Member) (symbols rest more : List Symbol) (x : Read (List (MemberDeclaration Bare))) → 0 < n → member_at (readers (n - 1)) names symbols ≡ Some (bare_member_of m, rest) → pushed ≡ all ++ m ∷ [] → heads sign.CloseBrace rest ≡ true →
    more ≡ drop 1 rest → (readers n).members names (map bare_member_of all) symbols ≡ x → x ≡ Some (map bare_member_of pushed, more)
members_done n names all pushed m symbols rest more x some e items h after same =
    sym same ∙ members_read n names all pushed m symbols rest true some e items h ∙ ap (λ y. Some (map bare_member_of pushed, y)) (sym after)

pub members_goes : (n : ℕ) (names now : Scope) (all pushed : List Member) (m : Member) (symbols rest : List Symbol) (x : Read (List (MemberDeclaration Bare))) → 0 < n → member_at (readers (n - 1)) names symbols ≡ Some (bare_member_of m, rest) → pushed ≡ all ++ m ∷ [] → heads sign.CloseBrace rest ≡ false →
    now ≡ after_member names (bare_member_of m) → (readers n).members names (map bare_member_of all) symbols ≡ x → (readers (n - 1)).members now (map bare_member_of pushed) rest ≡ x
members_goes n names now all pushed m symbols rest x some e items h scoped same =
    ap (λ a. (readers (n - 1)).members a (map bare_member_of pushed) rest) scoped ∙ sym (members_read n names all pushed m symbols rest false some e items h) ∙ same

after_more_members : (ms : List (MemberDeclaration Bare)) (names : Scope) (m : MemberDeclaration Bare) → after_members names (member_row (ms ++ m ∷ [])) ≡ after_member (after_members names (member_row ms)) m
after_more_members [] names m = refl
after_more_members (x ∷ ms) names m = after_more_members ms (after_member names x) m

pub members_scoped : (names old now : Scope) (all pushed : List Member) (m : Member) → old ≡ after_members names (member_row (map bare_member_of all)) → now ≡ after_member old (bare_member_of m) → pushed ≡ all ++ m ∷ [] →
    now ≡ after_members names (member_row (map bare_member_of pushed))
members_scoped names old now all pushed m e f items =
    f ∙ ap (λ a. after_member a (bare_member_of m)) e ∙ sym (after_more_members (map bare_member_of all) names (bare_member_of m))
    ∙ ap (λ ms. after_members names (member_row ms)) (added bare_member_of all pushed m items)

-- ## Declarators of members

fields_step : (n : ℕ) (names : Scope) (done : List (tree.Field Bare)) (symbols : List Symbol) → 0 < n → (readers n).fields names done symbols ≡ fields_once (readers (n - 1)) names done symbols
unfolding readers
fields_step zero names done symbols some = absurd (omega (arith, some))
fields_step (suc n) names done symbols some = let less : n ≡ suc n - 1 = omega arith in ap (λ k. fields_once (readers k) names done symbols) less

pub fields_over : (n : ℕ) (names : Scope) (done : List (tree.Field Bare)) (symbols : List Symbol) (x : Read (List (tree.Field Bare))) → n ≤ 0 → (readers n).fields names done symbols ≡ x → x ≡ None
unfolding readers
fields_over zero names done symbols x none same = sym same
fields_over (suc n) names done symbols x none same = absurd (omega (arith, none))

abbrev field_go : ℕ → Scope → List (tree.Field Bare) → tree.Field Bare × List Symbol → Read (List (tree.Field Bare))
field_go k names done f = fields_more (readers k) names (done ++ f.0 ∷ []) f.1

pub fields_fail : (n : ℕ) (names : Scope) (done : List (tree.Field Bare)) (symbols : List Symbol) → 0 < n → field_at (readers (n - 1)) names symbols ≡ None → (readers n).fields names done symbols ≡ None
fields_fail n names done symbols some e = fields_step n names done symbols some ∙ ap (option_and_then (field_go (n - 1) names done)) e

fields_read : (n : ℕ) (names : Scope) (all pushed : List Field) (f : Field) (symbols rest : List Symbol) (b : Bool) → 0 < n → field_at (readers (n - 1)) names symbols ≡ Some (bare_field_of f, rest) → pushed ≡ all ++ f ∷ [] → heads sign.Comma rest ≡ b →
    (readers n).fields names (map bare_field_of all) symbols ≡ cond b ((readers (n - 1)).fields names (map bare_field_of pushed) (drop 1 rest)) (closed_by sign.Semicolon (map bare_field_of pushed) rest)
fields_read n names all pushed f symbols rest b some e items h =
    fields_step n names (map bare_field_of all) symbols some ∙ ap (option_and_then (field_go (n - 1) names (map bare_field_of all))) e
    ∙ ap (λ fs. fields_more (readers (n - 1)) names fs rest) (added bare_field_of all pushed f items)
    ∙ ap (λ c. cond c ((readers (n - 1)).fields names (map bare_field_of pushed) (drop 1 rest)) (closed_by sign.Semicolon (map bare_field_of pushed) rest)) h

pub fields_done : (n : ℕ) (names : Scope) (all pushed : List Field) (f : Field) (symbols rest more : List Symbol) (x : Read (List (tree.Field Bare))) → 0 < n → field_at (readers (n - 1)) names symbols ≡ Some (bare_field_of f, rest) → pushed ≡ all ++ f ∷ [] → heads sign.Comma rest ≡ false →
    expected sign.Semicolon rest ≡ Some more → (readers n).fields names (map bare_field_of all) symbols ≡ x → x ≡ Some (map bare_field_of pushed, more)
fields_done n names all pushed f symbols rest more x some e items h closes same =
    sym same ∙ fields_read n names all pushed f symbols rest false some e items h ∙ ap (option_map (λ y. (map bare_field_of pushed, y))) closes

pub fields_open : (n : ℕ) (names : Scope) (all pushed : List Field) (f : Field) (symbols rest : List Symbol) (x : Read (List (tree.Field Bare))) → 0 < n → field_at (readers (n - 1)) names symbols ≡ Some (bare_field_of f, rest) → pushed ≡ all ++ f ∷ [] → heads sign.Comma rest ≡ false →
    expected sign.Semicolon rest ≡ None → (readers n).fields names (map bare_field_of all) symbols ≡ x → x ≡ None
fields_open n names all pushed f symbols rest x some e items h closes same =
    sym same ∙ fields_read n names all pushed f symbols rest false some e items h ∙ ap (option_map (λ y. (map bare_field_of pushed, y))) closes

pub fields_goes : (n : ℕ) (names now : Scope) (all pushed : List Field) (f : Field) (symbols rest more : List Symbol) (x : Read (List (tree.Field Bare))) → 0 < n → field_at (readers (n - 1)) names symbols ≡ Some (bare_field_of f, rest) → pushed ≡ all ++ f ∷ [] → heads sign.Comma rest ≡ true →
    more ≡ drop 1 rest → now ≡ names → (readers n).fields names (map bare_field_of all) symbols ≡ x → (readers (n - 1)).fields now (map bare_field_of pushed) more ≡ x
fields_goes n names now all pushed f symbols rest more x some e items h after scoped same =
    ap (λ a. (readers (n - 1)).fields a (map bare_field_of pushed) more) scoped ∙ ap ((readers (n - 1)).fields names (map bare_field_of pushed)) after ∙ sym (fields_read n names all pushed f symbols rest true some e items h) ∙ same

-- ## Constants of enumerations

-- a list, and what its end is
abbrev with_end : {A : Type 0} → List A → Bool × List Symbol → (List A × Bool) × List Symbol
with_end done e = ((done, e.0), e.1)

map_twice : {A B C : Type 0} (f : B → C) (g : A → B) (o : Option A) → option_map f (option_map g o) ≡ option_map (λ a. f (g a)) o
map_twice f g None = refl
map_twice f g (Some a) = refl

enumerators_by : (r : Readers) (names : Scope) (done : List (tree.Enumerator Bare)) (rest : List Symbol) (c d : Bool) → heads sign.Comma rest ≡ c → heads sign.CloseBrace (drop 1 rest) ≡ d →
    enumerators_more r names done rest ≡ cond (not c || d) (option_map (with_end done) (enumerators_end rest)) (r.enumerators names done (drop 1 rest))
enumerators_by r names done rest false d e f =
    ap (λ c. cond c (enumerators_on r names done (drop 1 rest)) (closed_by sign.CloseBrace (done, false) rest)) e
    ∙ sym (map_twice (with_end done) (λ more. (false, more)) (expected sign.CloseBrace rest))
    ∙ sym (ap (λ c. option_map (with_end done) (cond c (closed_by sign.CloseBrace true (drop 1 rest)) (closed_by sign.CloseBrace false rest))) e)
enumerators_by r names done rest true true e f =
    ap (λ c. cond c (enumerators_on r names done (drop 1 rest)) (closed_by sign.CloseBrace (done, false) rest)) e
    ∙ ap (λ c. cond c (Some ((done, true), drop 1 (drop 1 rest))) (r.enumerators names done (drop 1 rest))) f
    ∙ sym (ap (λ c. option_map (with_end done) (option_map (λ more. (true, more)) (cond c (Some (drop 1 (drop 1 rest))) None))) f)
    ∙ sym (ap (λ c. option_map (with_end done) (cond c (closed_by sign.CloseBrace true (drop 1 rest)) (closed_by sign.CloseBrace false rest))) e)
enumerators_by r names done rest true false e f =
    ap (λ c. cond c (enumerators_on r names done (drop 1 rest)) (closed_by sign.CloseBrace (done, false) rest)) e
    ∙ ap (λ c. cond c (Some ((done, true), drop 1 (drop 1 rest))) (r.enumerators names done (drop 1 rest))) f

enumerators_step : (n : ℕ) (names : Scope) (done : List (tree.Enumerator Bare)) (symbols : List Symbol) → 0 < n → (readers n).enumerators names done symbols ≡ enumerators_once (readers (n - 1)) names done symbols
unfolding readers
enumerators_step zero names done symbols some = absurd (omega (arith, some))
enumerators_step (suc n) names done symbols some = let less : n ≡ suc n - 1 = omega arith in ap (λ k. enumerators_once (readers k) names done symbols) less

pub enumerators_over : (n : ℕ) (names : Scope) (done : List (tree.Enumerator Bare)) (symbols : List Symbol) (x : Read (List (tree.Enumerator Bare) × Bool)) → n ≤ 0 → (readers n).enumerators names done symbols ≡ x → x ≡ None
unfolding readers
enumerators_over zero names done symbols x none same = sym same
enumerators_over (suc n) names done symbols x none same = absurd (omega (arith, none))

abbrev enumerator_go : ℕ → Scope → List (tree.Enumerator Bare) → tree.Enumerator Bare × List Symbol → Read (List (tree.Enumerator Bare) × Bool)
enumerator_go k names done e = enumerators_more (readers k) (after_enumerator names e.0) (done ++ e.0 ∷ []) e.1

pub enumerators_fail : (n : ℕ) (names : Scope) (done : List (tree.Enumerator Bare)) (symbols : List Symbol) → 0 < n → enumerator_at (readers (n - 1)) names symbols ≡ None → (readers n).enumerators names done symbols ≡ None
enumerators_fail n names done symbols some e = enumerators_step n names done symbols some ∙ ap (option_and_then (enumerator_go (n - 1) names done)) e

enumerators_read : (n : ℕ) (names : Scope) (all pushed : List Enumerator) (x : Enumerator) (symbols rest : List Symbol) (b : Bool) → 0 < n → enumerator_at (readers (n - 1)) names symbols ≡ Some (bare_enumerator_of x, rest) → pushed ≡ all ++ x ∷ [] → no_enumerator rest ≡ b →
    (readers n).enumerators names (map bare_enumerator_of all) symbols ≡ cond b (option_map (with_end (map bare_enumerator_of pushed)) (enumerators_end rest)) ((readers (n - 1)).enumerators (after_enumerator names (bare_enumerator_of x)) (map bare_enumerator_of pushed) (drop 1 rest))
enumerators_read n names all pushed x symbols rest b some e items h =
    enumerators_step n names (map bare_enumerator_of all) symbols some ∙ ap (option_and_then (enumerator_go (n - 1) names (map bare_enumerator_of all))) e
    ∙ ap (λ xs. enumerators_more (readers (n - 1)) (after_enumerator names (bare_enumerator_of x)) xs rest) (added bare_enumerator_of all pushed x items)
    ∙ enumerators_by (readers (n - 1)) (after_enumerator names (bare_enumerator_of x)) (map bare_enumerator_of pushed) rest (heads sign.Comma rest) (heads sign.CloseBrace (drop 1 rest)) refl refl
    ∙ ap (λ c. cond c (option_map (with_end (map bare_enumerator_of pushed)) (enumerators_end rest)) ((readers (n - 1)).enumerators (after_enumerator names (bare_enumerator_of x)) (map bare_enumerator_of pushed) (drop 1 rest))) h

pub enumerators_done : (n : ℕ) (names : Scope) (all pushed : List Enumerator) (x : Enumerator) (symbols rest more : List Symbol) (comma : Bool) (y : Read (List (tree.Enumerator Bare) × Bool)) → 0 < n → enumerator_at (readers (n - 1)) names symbols ≡ Some (bare_enumerator_of x, rest) → pushed ≡ all ++ x ∷ [] → no_enumerator rest ≡ true →
    enumerators_end rest ≡ Some (comma, more) → (readers n).enumerators names (map bare_enumerator_of all) symbols ≡ y → y ≡ Some ((map bare_enumerator_of pushed, comma), more)
enumerators_done n names all pushed x symbols rest more comma y some e items h ends same =
    sym same ∙ enumerators_read n names all pushed x symbols rest true some e items h ∙ ap (option_map (with_end (map bare_enumerator_of pushed))) ends

pub enumerators_open : (n : ℕ) (names : Scope) (all pushed : List Enumerator) (x : Enumerator) (symbols rest : List Symbol) (y : Read (List (tree.Enumerator Bare) × Bool)) → 0 < n → enumerator_at (readers (n - 1)) names symbols ≡ Some (bare_enumerator_of x, rest) → pushed ≡ all ++ x ∷ [] → no_enumerator rest ≡ true →
    enumerators_end rest ≡ None → (readers n).enumerators names (map bare_enumerator_of all) symbols ≡ y → y ≡ None
enumerators_open n names all pushed x symbols rest y some e items h ends same =
    sym same ∙ enumerators_read n names all pushed x symbols rest true some e items h ∙ ap (option_map (with_end (map bare_enumerator_of pushed))) ends

pub enumerators_goes : (n : ℕ) (names now : Scope) (all pushed : List Enumerator) (x : Enumerator) (symbols rest more : List Symbol) (y : Read (List (tree.Enumerator Bare) × Bool)) → 0 < n → enumerator_at (readers (n - 1)) names symbols ≡ Some (bare_enumerator_of x, rest) → pushed ≡ all ++ x ∷ [] → no_enumerator rest ≡ false →
    more ≡ drop 1 rest → now ≡ after_enumerator names (bare_enumerator_of x) → (readers n).enumerators names (map bare_enumerator_of all) symbols ≡ y → (readers (n - 1)).enumerators now (map bare_enumerator_of pushed) more ≡ y
enumerators_goes n names now all pushed x symbols rest more y some e items h after scoped same =
    ap (λ a. (readers (n - 1)).enumerators a (map bare_enumerator_of pushed) more) scoped ∙ ap ((readers (n - 1)).enumerators (after_enumerator names (bare_enumerator_of x)) (map bare_enumerator_of pushed)) after
    ∙ sym (enumerators_read n names all pushed x symbols rest false some e items h) ∙ same

after_more_enumerators : (es : List (tree.Enumerator Bare)) (names : Scope) (e : tree.Enumerator Bare) → after_enumerators names (enumerator_row (es ++ e ∷ [])) ≡ after_enumerator (after_enumerators names (enumerator_row es)) e
after_more_enumerators [] names e = refl
after_more_enumerators (x ∷ es) names e = after_more_enumerators es (after_enumerator names x) e

pub enumerators_scoped : (names old now : Scope) (all pushed : List Enumerator) (e : Enumerator) → old ≡ after_enumerators names (enumerator_row (map bare_enumerator_of all)) → now ≡ after_enumerator old (bare_enumerator_of e) → pushed ≡ all ++ e ∷ [] →
    now ≡ after_enumerators names (enumerator_row (map bare_enumerator_of pushed))
enumerators_scoped names old now all pushed e f g items =
    g ∙ ap (λ a. after_enumerator a (bare_enumerator_of e)) f ∙ sym (after_more_enumerators (map bare_enumerator_of all) names (bare_enumerator_of e))
    ∙ ap (λ es. after_enumerators names (enumerator_row es)) (added bare_enumerator_of all pushed e items)

-- ## Parameters

parameters_by : (r : Readers) (names : Scope) (setting : Setting) (done : List (tree.Parameter Bare)) (rest : List Symbol) (c d : Bool) → heads sign.Comma rest ≡ c → heads sign.Ellipsis (drop 1 rest) ≡ d →
    parameters_more r names setting done rest ≡ cond (not c || d) (option_map (with_end done) (parameters_end rest)) (r.parameters names setting done (drop 1 rest))
parameters_by r names setting done rest false d e f =
    ap (λ c. cond c (parameters_on r names setting done (drop 1 rest)) (closed_by sign.Close (done, false) rest)) e
    ∙ sym (map_twice (with_end done) (λ more. (false, more)) (expected sign.Close rest))
    ∙ sym (ap (λ c. option_map (with_end done) (cond c (closed_by sign.Close true (drop 1 (drop 1 rest))) (closed_by sign.Close false rest))) e)
parameters_by r names setting done rest true true e f =
    ap (λ c. cond c (parameters_on r names setting done (drop 1 rest)) (closed_by sign.Close (done, false) rest)) e
    ∙ ap (λ c. cond c (closed_by sign.Close (done, true) (drop 1 (drop 1 rest))) (r.parameters names setting done (drop 1 rest))) f
    ∙ sym (map_twice (with_end done) (λ more. (true, more)) (expected sign.Close (drop 1 (drop 1 rest))))
    ∙ sym (ap (λ c. option_map (with_end done) (cond c (closed_by sign.Close true (drop 1 (drop 1 rest))) (closed_by sign.Close false rest))) e)
parameters_by r names setting done rest true false e f =
    ap (λ c. cond c (parameters_on r names setting done (drop 1 rest)) (closed_by sign.Close (done, false) rest)) e
    ∙ ap (λ c. cond c (closed_by sign.Close (done, true) (drop 1 (drop 1 rest))) (r.parameters names setting done (drop 1 rest))) f

parameters_step : (n : ℕ) (names : Scope) (setting : Setting) (done : List (tree.Parameter Bare)) (symbols : List Symbol) → 0 < n → (readers n).parameters names setting done symbols ≡ parameters_once (readers (n - 1)) names setting done symbols
unfolding readers
parameters_step zero names setting done symbols some = absurd (omega (arith, some))
parameters_step (suc n) names setting done symbols some = let less : n ≡ suc n - 1 = omega arith in ap (λ k. parameters_once (readers k) names setting done symbols) less

pub parameters_over : (n : ℕ) (names : Scope) (setting : Setting) (done : List (tree.Parameter Bare)) (symbols : List Symbol) (x : Read (List (tree.Parameter Bare) × Bool)) → n ≤ 0 → (readers n).parameters names setting done symbols ≡ x → x ≡ None
unfolding readers
parameters_over zero names setting done symbols x none same = sym same
parameters_over (suc n) names setting done symbols x none same = absurd (omega (arith, none))

abbrev parameter_go : ℕ → Scope → Setting → List (tree.Parameter Bare) → tree.Parameter Bare × List Symbol → Read (List (tree.Parameter Bare) × Bool)
parameter_go k names setting done x = parameters_more (readers k) (after_parameter names x.0) setting (done ++ x.0 ∷ []) x.1

pub parameters_fail : (n : ℕ) (names : Scope) (setting : Setting) (done : List (tree.Parameter Bare)) (symbols : List Symbol) → 0 < n → parameter_at (readers (n - 1)) names setting symbols ≡ None → (readers n).parameters names setting done symbols ≡ None
parameters_fail n names setting done symbols some e = parameters_step n names setting done symbols some ∙ ap (option_and_then (parameter_go (n - 1) names setting done)) e

parameters_read : (n : ℕ) (names : Scope) (setting : Setting) (all pushed : List Parameter) (x : Parameter) (symbols rest : List Symbol) (b : Bool) → 0 < n → parameter_at (readers (n - 1)) names setting symbols ≡ Some (bare_parameter_of x, rest) → pushed ≡ all ++ x ∷ [] → no_parameter rest ≡ b →
    (readers n).parameters names setting (map bare_parameter_of all) symbols ≡ cond b (option_map (with_end (map bare_parameter_of pushed)) (parameters_end rest)) ((readers (n - 1)).parameters (after_parameter names (bare_parameter_of x)) setting (map bare_parameter_of pushed) (drop 1 rest))
parameters_read n names setting all pushed x symbols rest b some e items h =
    parameters_step n names setting (map bare_parameter_of all) symbols some ∙ ap (option_and_then (parameter_go (n - 1) names setting (map bare_parameter_of all))) e
    ∙ ap (λ xs. parameters_more (readers (n - 1)) (after_parameter names (bare_parameter_of x)) setting xs rest) (added bare_parameter_of all pushed x items)
    ∙ parameters_by (readers (n - 1)) (after_parameter names (bare_parameter_of x)) setting (map bare_parameter_of pushed) rest (heads sign.Comma rest) (heads sign.Ellipsis (drop 1 rest)) refl refl
    ∙ ap (λ c. cond c (option_map (with_end (map bare_parameter_of pushed)) (parameters_end rest)) ((readers (n - 1)).parameters (after_parameter names (bare_parameter_of x)) setting (map bare_parameter_of pushed) (drop 1 rest))) h

pub parameters_done : (n : ℕ) (names : Scope) (setting : Setting) (all pushed : List Parameter) (x : Parameter) (symbols rest more : List Symbol) (ellipsis : Bool) (y : Read (List (tree.Parameter Bare) × Bool)) → 0 < n → parameter_at (readers (n - 1)) names setting symbols ≡ Some (bare_parameter_of x, rest) → pushed ≡ all ++ x ∷ [] → no_parameter rest ≡ true →
    parameters_end rest ≡ Some (ellipsis, more) → (readers n).parameters names setting (map bare_parameter_of all) symbols ≡ y → y ≡ Some ((map bare_parameter_of pushed, ellipsis), more)
parameters_done n names setting all pushed x symbols rest more ellipsis y some e items h ends same =
    sym same ∙ parameters_read n names setting all pushed x symbols rest true some e items h ∙ ap (option_map (with_end (map bare_parameter_of pushed))) ends

pub parameters_open : (n : ℕ) (names : Scope) (setting : Setting) (all pushed : List Parameter) (x : Parameter) (symbols rest : List Symbol) (y : Read (List (tree.Parameter Bare) × Bool)) → 0 < n → parameter_at (readers (n - 1)) names setting symbols ≡ Some (bare_parameter_of x, rest) → pushed ≡ all ++ x ∷ [] → no_parameter rest ≡ true →
    parameters_end rest ≡ None → (readers n).parameters names setting (map bare_parameter_of all) symbols ≡ y → y ≡ None
parameters_open n names setting all pushed x symbols rest y some e items h ends same =
    sym same ∙ parameters_read n names setting all pushed x symbols rest true some e items h ∙ ap (option_map (with_end (map bare_parameter_of pushed))) ends

pub parameters_goes : (n : ℕ) (names now : Scope) (setting : Setting) (all pushed : List Parameter) (x : Parameter) (symbols rest more : List Symbol) (y : Read (List (tree.Parameter Bare) × Bool)) → 0 < n → parameter_at (readers (n - 1)) names setting symbols ≡ Some (bare_parameter_of x, rest) → pushed ≡ all ++ x ∷ [] → no_parameter rest ≡ false →
    more ≡ drop 1 rest → now ≡ after_parameter names (bare_parameter_of x) → (readers n).parameters names setting (map bare_parameter_of all) symbols ≡ y → (readers (n - 1)).parameters now setting (map bare_parameter_of pushed) more ≡ y
parameters_goes n names now setting all pushed x symbols rest more y some e items h after scoped same =
    ap (λ a. (readers (n - 1)).parameters a setting (map bare_parameter_of pushed) more) scoped ∙ ap ((readers (n - 1)).parameters (after_parameter names (bare_parameter_of x)) setting (map bare_parameter_of pushed)) after
    ∙ sym (parameters_read n names setting all pushed x symbols rest false some e items h) ∙ same

-- ## Bodies

pub structure_body : (r : Readers) (names : Scope) (setting : Setting) (s : Sign) (symbols rest : List Symbol) (tag : Option (Identifier Bare)) (y : Read (Specifier Bare)) → tag_at symbols ≡ (tag, rest) → may_have_body setting && heads sign.OpenBrace rest ≡ true →
    structure_with_body r names s tag (drop 1 rest) ≡ y → structure_at r names setting s symbols ≡ y
structure_body r names setting s symbols rest tag y e h f =
    ap (λ t. structure_of r names setting s t.0 t.1) e ∙ ap (λ c. cond c (structure_with_body r names s tag (drop 1 rest)) (tagged_structure s tag rest)) h ∙ f

pub structure_tagged : (r : Readers) (names : Scope) (setting : Setting) (s : Sign) (symbols rest : List Symbol) (tag : Option (Identifier Bare)) (y : Read (Specifier Bare)) → tag_at symbols ≡ (tag, rest) → may_have_body setting && heads sign.OpenBrace rest ≡ false →
    tagged_structure s tag rest ≡ y → structure_at r names setting s symbols ≡ y
structure_tagged r names setting s symbols rest tag y e h f =
    ap (λ t. structure_of r names setting s t.0 t.1) e ∙ ap (λ c. cond c (structure_with_body r names s tag (drop 1 rest)) (tagged_structure s tag rest)) h ∙ f

pub enumeration_body : (r : Readers) (names : Scope) (setting : Setting) (symbols rest : List Symbol) (tag : Option (Identifier Bare)) (y : Read (Specifier Bare)) → tag_at symbols ≡ (tag, rest) → may_have_body setting && heads sign.OpenBrace rest ≡ true →
    enumeration_with_body r names tag (drop 1 rest) ≡ y → enumeration_at r names setting symbols ≡ y
enumeration_body r names setting symbols rest tag y e h f =
    ap (λ t. enumeration_of r names setting t.0 t.1) e ∙ ap (λ c. cond c (enumeration_with_body r names tag (drop 1 rest)) (tagged_enumeration tag rest)) h ∙ f

pub enumeration_tagged : (r : Readers) (names : Scope) (setting : Setting) (symbols rest : List Symbol) (tag : Option (Identifier Bare)) (y : Read (Specifier Bare)) → tag_at symbols ≡ (tag, rest) → may_have_body setting && heads sign.OpenBrace rest ≡ false →
    tagged_enumeration tag rest ≡ y → enumeration_at r names setting symbols ≡ y
enumeration_tagged r names setting symbols rest tag y e h f =
    ap (λ t. enumeration_of r names setting t.0 t.1) e ∙ ap (λ c. cond c (enumeration_with_body r names tag (drop 1 rest)) (tagged_enumeration tag rest)) h ∙ f

-- ## Lists that aren't closed

pub fields_unclosed : (n : ℕ) (names : Scope) (done : List (tree.Field Bare)) (symbols rest : List Symbol) (f : tree.Field Bare) → 0 < n → field_at (readers (n - 1)) names symbols ≡ Some (f, rest) → heads sign.Comma rest ≡ false → expected sign.Semicolon rest ≡ None →
    (readers n).fields names done symbols ≡ None
fields_unclosed n names done symbols rest f some e h closes =
    fields_step n names done symbols some ∙ ap (option_and_then (field_go (n - 1) names done)) e
    ∙ ap (λ c. cond c ((readers (n - 1)).fields names (done ++ f ∷ []) (drop 1 rest)) (closed_by sign.Semicolon (done ++ f ∷ []) rest)) h
    ∙ ap (option_map (λ y. (done ++ f ∷ [], y))) closes

pub enumerators_unclosed : (n : ℕ) (names : Scope) (done : List (tree.Enumerator Bare)) (symbols rest : List Symbol) (x : tree.Enumerator Bare) → 0 < n → enumerator_at (readers (n - 1)) names symbols ≡ Some (x, rest) → no_enumerator rest ≡ true → enumerators_end rest ≡ None →
    (readers n).enumerators names done symbols ≡ None
enumerators_unclosed n names done symbols rest x some e h ends =
    enumerators_step n names done symbols some ∙ ap (option_and_then (enumerator_go (n - 1) names done)) e
    ∙ enumerators_by (readers (n - 1)) (after_enumerator names x) (done ++ x ∷ []) rest (heads sign.Comma rest) (heads sign.CloseBrace (drop 1 rest)) refl refl
    ∙ ap (λ c. cond c (option_map (with_end (done ++ x ∷ [])) (enumerators_end rest)) ((readers (n - 1)).enumerators (after_enumerator names x) (done ++ x ∷ []) (drop 1 rest))) h
    ∙ ap (option_map (with_end (done ++ x ∷ []))) ends

pub parameters_unclosed : (n : ℕ) (names : Scope) (setting : Setting) (done : List (tree.Parameter Bare)) (symbols rest : List Symbol) (x : tree.Parameter Bare) → 0 < n → parameter_at (readers (n - 1)) names setting symbols ≡ Some (x, rest) → no_parameter rest ≡ true → parameters_end rest ≡ None →
    (readers n).parameters names setting done symbols ≡ None
parameters_unclosed n names setting done symbols rest x some e h ends =
    parameters_step n names setting done symbols some ∙ ap (option_and_then (parameter_go (n - 1) names setting done)) e
    ∙ parameters_by (readers (n - 1)) (after_parameter names x) setting (done ++ x ∷ []) rest (heads sign.Comma rest) (heads sign.Ellipsis (drop 1 rest)) refl refl
    ∙ ap (λ c. cond c (option_map (with_end (done ++ x ∷ [])) (parameters_end rest)) ((readers (n - 1)).parameters (after_parameter names x) setting (done ++ x ∷ []) (drop 1 rest))) h
    ∙ ap (option_map (with_end (done ++ x ∷ []))) ends
