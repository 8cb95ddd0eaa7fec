-- What ranges with differences, and the evidence of differences, are worth.
use Rattle.std.specs.Prelude.{◌≡◌, ℕ, List, slice_get, Some}
use Rattle.p10_core.specs.Typed.{PlainFunction, PlainProgram}
use Rattle.p10_core.specs.WholePrograms.{IsWholeProgram}
use Rattle.p10_meaning.specs.Calling.{Depth}
use Rattle.p10_absx.specs.Environments.{Environment}
use Rattle.p10_turns.specs.Laws.{IsLawful}
use Rattle.p10_walk.specs.Soundness.{IsSound}
use Rattle.p10_diff.specs.Differences.{Pair, Differences}
use Rattle.p10_diff.specs.Domain.{differences, DescribesDifferences}
use Rattle.p10_diff.specs.Evidence.{Rank, stands_by_differences}

-- ranges with differences are a sound domain
abbrev pub DifferencesAreSound : Type 0
DifferencesAreSound =
    (p : PlainProgram) → IsWholeProgram p → (n : ℕ) (depth : Depth) (number : ℕ) (f : PlainFunction) → slice_get p.functions number ≡ Some f →
    (below above : ℕ) (head : Environment) →
    let pair : Pair = record { variables = f.variables; below = below; above = above; head = head } in IsSound p n depth number f Differences (differences pair) (DescribesDifferences pair)

-- the evidence of differences is lawful, whatever ranks it has
abbrev pub DifferencesAreLawful : Type 0
DifferencesAreLawful = (p : PlainProgram) → IsWholeProgram p → (ranks : List Rank) → IsLawful p (stands_by_differences ranks p)
