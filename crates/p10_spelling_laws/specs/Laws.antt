-- Where two programs have the same words, their trees are the same but for places: one tree, each part of which has its place in both.
use Rattle.std.specs.Prelude.{◌≡◌, ◌≤◌, ℕ, List, map, length, slice_get, Ok}
use Rattle.p10_base.specs.declared.at.At.{At}
use Rattle.p10_base.specs.Gathered.{Gathered}
use Rattle.p10_base.specs.Words.{PlainWord}
use Rattle.p10_expand.specs.Expands.{Expansion, ExpandsTo}
use Rattle.p10_digests.specs.Lines.{all_words, roots_outside}
use Rattle.p10_digests.specs.Digests.{body_places}
use Rattle.p10_syn.specs.Trees.{Bare, Expression, Declaration, Statements, External}
use Rattle.p10_syn.specs.Spells.{Spells}
use Rattle.p10_syn.specs.Scopes.{Scope}
use Rattle.p10_syn.specs.StatementForms.{AreExternals}
use Rattle.p10_syn.specs.Places.{Source, locate, locate_declaration, locate_statements}
use Rattle.p10_expression_renaming.specs.Mapped.{mapped_expression}
use Rattle.p10_expression_renaming.specs.MappedStatements.{mapped_declaration, mapped_statements}
use Rattle.p10_spelling_laws.specs.Outside.{first_run, other_runs, function_words, functions_in, without_body}
use Rattle.p10_spelling_laws.specs.Lexed.{AreSound}
use Rattle.p10_spelling_laws.specs.Counterparts.{HaveCounterparts}

-- an expression among the words of two roots is one tree with two places
abbrev pub ExpressionsStandInBoth : Type 0
ExpressionsStandInBoth =
    (s : Source) (n : ℕ) (o : Source) (h : ℕ) (t : Expression Bare) → (both : Expression (At × At)) × (mapped_expression (λ p. p.0) both ≡ locate s n t) × (mapped_expression (λ p. p.1) both ≡ locate o h t)

-- so is a declaration
abbrev pub DeclarationsStandInBoth : Type 0
DeclarationsStandInBoth =
    (s : Source) (n : ℕ) (o : Source) (h : ℕ) (d : Declaration Bare)
    → (both : Declaration (At × At)) × (mapped_declaration (λ p. p.0) both ≡ locate_declaration s n d) × (mapped_declaration (λ p. p.1) both ≡ locate_declaration o h d)

-- and so are the statements of a body
abbrev pub StatementsStandInBoth : Type 0
StatementsStandInBoth =
    (s : Source) (n : ℕ) (o : Source) (h : ℕ) (body : Statements Bare)
    → (both : Statements (At × At)) × (mapped_statements (λ p. p.0) both ≡ locate_statements s n body) × (mapped_statements (λ p. p.1) both ≡ locate_statements o h body)

-- trees of a root whose words outside of bodies are the same are the same but for bodies
abbrev pub RunsTellTrees : Type 0
RunsTellTrees =
    (names : Scope) (es fs : List (External Bare)) → AreExternals names es → AreExternals names fs → first_run es ≡ first_run fs → other_runs es ≡ other_runs fs → map without_body es ≡ map without_body fs

-- and where the words of a function are the same too, so is the function
abbrev pub WordsTellFunction : Type 0
WordsTellFunction =
    (names : Scope) (es fs : List (External Bare)) → AreExternals names es → AreExternals names fs → map without_body es ≡ map without_body fs
    → (n : ℕ) → slice_get (function_words es) n ≡ slice_get (function_words fs) n → slice_get (functions_in es) n ≡ slice_get (functions_in fs) n

-- where trees spell the words of roots, and these have the same lines outside of bodies, the trees are counterparts; and so are the bodies of
-- a function that has the same lines
abbrev pub SameWordsSameTrees : Type 0
SameWordsSameTrees =
    (roots others : List (List PlainWord)) (trees those : List (External At)) → Spells roots trees → Spells others those → AreSound roots → AreSound others
    → length (all_words roots) ≤ 4294967295 → length (all_words others) ≤ 4294967295
    → roots_outside (body_places trees) 0 roots ≡ roots_outside (body_places those) 0 others → HaveCounterparts roots others trees those

-- all words of an expansion are marks and lexemes, and their numbers fit 32 bits
abbrev pub ExpandedAreSound : Type 0
ExpandedAreSound = (g : Gathered) (e : Expansion) → ExpandsTo g (Ok e) → AreSound e.roots × (length (all_words e.roots) ≤ 4294967295)
