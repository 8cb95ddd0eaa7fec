-- One step of each reader.
use Rattle.std.proofs.Common.{◌≡◌, ℕ, suc, List, refl}
use Rattle.p10_syn.specs.declared.setting.Naming.{Naming}
use Rattle.p10_syn.specs.declared.setting.Setting.{Setting}
use Rattle.p10_syn.specs.declared.setting.Said.{Said}
use Rattle.p10_syn.specs.Symbols.{Symbol}
use Rattle.p10_syn.specs.Scopes.{Scope}
use Rattle.p10_syn.specs.Trees.{Bare, Expression, Specifier, MemberDeclaration, Field, Enumerator, Declarator, Parameter}
use Rattle.p10_pexpr.specs.DeclaratorReading.{declarator_once, suffixes_once, parameters_once}
use Rattle.p10_pexpr.specs.SpecifierReading.{specifiers_once, members_once, fields_once, enumerators_once}
use Rattle.p10_pexpr.specs.ExpressionReading.{expression_once, chain_once, list_once}
use Rattle.p10_pexpr.specs.Reading.{readers}

pub expression_suc : (n : ℕ) (names : Scope) (level : ℕ) (symbols : List Symbol) → (readers (suc n)).expression names level symbols ≡ expression_once (readers n) names level symbols
unfolding readers
expression_suc n names level symbols = refl

pub chain_suc : (n : ℕ) (names : Scope) (level : ℕ) (t : Expression Bare) (symbols : List Symbol) → (readers (suc n)).chain names level t symbols ≡ chain_once (readers n) names level t symbols
unfolding readers
chain_suc n names level t symbols = refl

pub list_suc : (n : ℕ) (names : Scope) (done : List (Expression Bare)) (symbols : List Symbol) → (readers (suc n)).list names done symbols ≡ list_once (readers n) names done symbols
unfolding readers
list_suc n names done symbols = refl

pub specifiers_suc : (n : ℕ) (names : Scope) (setting : Setting) (said : Said) (done : List (Specifier Bare)) (symbols : List Symbol) →
    (readers (suc n)).specifiers names setting said done symbols ≡ specifiers_once (readers n) names setting said done symbols
unfolding readers
specifiers_suc n names setting said done symbols = refl

pub members_suc : (n : ℕ) (names : Scope) (done : List (MemberDeclaration Bare)) (symbols : List Symbol) → (readers (suc n)).members names done symbols ≡ members_once (readers n) names done symbols
unfolding readers
members_suc n names done symbols = refl

pub fields_suc : (n : ℕ) (names : Scope) (done : List (Field Bare)) (symbols : List Symbol) → (readers (suc n)).fields names done symbols ≡ fields_once (readers n) names done symbols
unfolding readers
fields_suc n names done symbols = refl

pub enumerators_suc : (n : ℕ) (names : Scope) (done : List (Enumerator Bare)) (symbols : List Symbol) → (readers (suc n)).enumerators names done symbols ≡ enumerators_once (readers n) names done symbols
unfolding readers
enumerators_suc n names done symbols = refl

pub declarator_suc : (n : ℕ) (names : Scope) (setting : Setting) (naming : Naming) (symbols : List Symbol) → (readers (suc n)).declarator names setting naming symbols ≡ declarator_once (readers n) names setting naming symbols
unfolding readers
declarator_suc n names setting naming symbols = refl

pub suffixes_suc : (n : ℕ) (names : Scope) (setting : Setting) (d : Declarator Bare) (symbols : List Symbol) → (readers (suc n)).suffixes names setting d symbols ≡ suffixes_once (readers n) names setting d symbols
unfolding readers
suffixes_suc n names setting d symbols = refl

pub parameters_suc : (n : ℕ) (names : Scope) (setting : Setting) (done : List (Parameter Bare)) (symbols : List Symbol) →
    (readers (suc n)).parameters names setting done symbols ≡ parameters_once (readers n) names setting done symbols
unfolding readers
parameters_suc n names setting done symbols = refl
