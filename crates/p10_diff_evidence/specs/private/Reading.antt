-- How the lines of a section are read, on lists of bytes.
use Rattle.std.specs.Prelude.{ℕ, ◌-◌, ◌&&◌, ◌||◌, nat_eq, nat_lt, Bool, true, if◌then◌else◌, List, [], ◌∷◌, ◌++◌, length, slice_get, ℤ, codes, Option, Some, None}
use Rattle.std.specs.Option.{option_map}
use Rattle.p10_cert.specs.private.Reading.{◌>>=◌, after_front, labelled_at, signed_at, greatest_index}
use Rattle.p10_diff.specs.Evidence.{Fact, Rank}
use Rattle.p10_diff_evidence.specs.declared.lines.Line.{Line as CodeLine}
use Rattle.p10_diff_evidence.specs.declared.lines.Line.TheVariants.{Rank as CodeRank, Fact as CodeFact}

-- what a line says: a rank without facts, or a fact
pub data Line : Type 0 where
  a_rank : Rank → Line
  a_fact : Fact → Line

abbrev pub bare_rank : ℕ → ℕ → ℕ → ℕ → ℤ → Rank
bare_rank function at below above more = record { function = function; loop = at; below = below; above = above; more = more; facts = [] }

abbrev pub line_by : CodeLine → Line
line_by (CodeRank function at below above more) = a_rank (bare_rank function at below above more)
line_by (CodeFact greater lesser by) = a_fact (record { greater = greater; lesser = lesser; by = by })

-- ## One line

-- a value where nothing is left
abbrev pub at_end : {A : Type 0} → A → List ℕ → Option A
at_end x [] = Some x
at_end x (byte ∷ rest) = None

unfoldable pub rank_at : List ℕ → Option Line
rank_at text =
    labelled_at (codes "rank ") greatest_index text >>= λ (function, text).
    labelled_at (codes " ") greatest_index text >>= λ (at, text).
    labelled_at (codes " ") greatest_index text >>= λ (below, text).
    labelled_at (codes " ") greatest_index text >>= λ (above, text).
    after_front (codes " ") text >>= λ text.
    signed_at text >>= λ (more, text).
    at_end (a_rank (bare_rank function at below above more)) text

unfoldable pub fact_at : List ℕ → Option Line
fact_at text =
    labelled_at (codes "fact ") greatest_index text >>= λ (greater, text).
    labelled_at (codes " ") greatest_index text >>= λ (lesser, text).
    after_front (codes " ") text >>= λ text.
    signed_at text >>= λ (by, text).
    at_end (a_fact (record { greater = greater; lesser = lesser; by = by })) text

-- the first of two
abbrev pub first_of : {A : Type 0} → Option A → Option A → Option A
first_of None other = other
first_of (Some x) other = Some x

abbrev pub line_at : List ℕ → Option Line
line_at text = first_of (rank_at text) (fact_at text)

-- ## Lines, one after the other

-- whether a rank with these numbers comes after another one, if there is one
abbrev pub comes_after : ℕ → ℕ → Option Rank → Bool
comes_after function at None = true
comes_after function at (Some r) = nat_lt r.function function || (nat_eq r.function function && nat_lt r.loop at)

-- a rank with one more fact
abbrev pub and_fact : Fact → Rank → Rank
and_fact x r = record r { facts = r.facts ++ x ∷ [] }

-- ranks with one more fact of the last one
abbrev pub with_fact : Fact → List Rank → Option (List Rank)
with_fact x [] = None
with_fact x (r ∷ []) = Some (and_fact x r ∷ [])
with_fact x (r ∷ s ∷ ranks) = option_map (λ (more : List Rank). r ∷ more) (with_fact x (s ∷ ranks))

-- ranks with what one more line says, if it may stand there
abbrev pub with_line : Line → List Rank → Option (List Rank)
with_line (a_rank r) ranks = if comes_after r.function r.loop (slice_get ranks (length ranks - 1)) then Some (ranks ++ r ∷ []) else None
with_line (a_fact x) ranks = with_fact x ranks

abbrev pub with_text : List ℕ → List Rank → Option (List Rank)
with_text text ranks = line_at text >>= λ l. with_line l ranks

-- the same of lines, one after the other
abbrev pub with_texts : List (List ℕ) → List Rank → Option (List Rank)
with_texts [] ranks = Some ranks
with_texts (text ∷ lines) ranks = with_text text ranks >>= λ more. with_texts lines more
