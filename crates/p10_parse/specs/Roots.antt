-- The trees of a root, and where no further declaration or function begins.
use Rattle.std.specs.Prelude.{◌≡◌, ℕ, ◌≤◌, ◌*◌, zero, suc, length, List, [], ◌∷◌, ◌++◌, Option, Some, None}
use Rattle.p10_syn.specs.Symbols.{Symbol}
use Rattle.p10_syn.specs.Scopes.{Scope}
use Rattle.p10_syn.specs.Declaring.{after_external}
use Rattle.p10_syn.specs.Spelling.{spell_externals}
use Rattle.p10_syn.specs.StatementForms.{AreExternals}
use Rattle.p10_syn.specs.Trees.{Bare, External}
use Rattle.p10_pexpr.specs.Heads.{Read}
use Rattle.p10_pexpr.specs.Reading.{readers}
use Rattle.p10_parse.specs.ExternalReading.{builders, external_at}

-- declarations and functions, one after the other, spell the words before the rest
pub record SpellFront (names : Scope) (symbols : List Symbol) (es : List (External Bare)) (rest : List Symbol) : Type 0 where
  pub formed : AreExternals names es
  pub spelled : symbols ≡ spell_externals es rest

-- the words before this rest are the longest prefix that some declarations and functions spell
pub record SpellLongest (names : Scope) (symbols : List Symbol) (es : List (External Bare)) (rest : List Symbol) : Type 0 where
  pub front : SpellFront names symbols es rest
  pub longest : (fs : List (External Bare)) (more : List Symbol) → SpellFront names symbols fs more → length rest ≤ length more

-- ## Reading

-- the declaration or function that these words begin with, read as deep as their number asks for
abbrev pub next_external : Scope → List Symbol → Read (External Bare)
next_external names symbols = external_at (readers (8 * length symbols)) (builders (8 * length symbols)) names symbols

-- what comes of what was read, or else this
abbrev pub or_else : {A B : Type 0} → (A → B) → B → Option A → B
or_else f b None = b
or_else f b (Some a) = f a

-- at most this many declarations and functions after those that were read before, as many as there are, and the words that
-- are left
unfoldable pub externals_from : ℕ → Scope → List (External Bare) → List Symbol → List (External Bare) × List Symbol
externals_from zero names done symbols = (done, symbols)
externals_from (suc n) names done symbols =
    or_else (λ e. externals_from n (after_external names e.0) (done ++ e.0 ∷ []) e.1) (done, symbols) (next_external names symbols)
