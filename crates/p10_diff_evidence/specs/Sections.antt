-- The section of a certificate that holds ranks and facts: its lines, and the first of another form.
use Rattle.std.specs.Prelude.{◌≡◌, ℕ, ◌-◌, nat_eq, nat_lt, ◌&&◌, ◌||◌, Bool, true, List, [], ◌∷◌, ◌++◌, map, take, codes, decimal}
use Rattle.std.specs.List.{AllByRecursion}
use Rattle.std.specs.Fmt.{signed_decimal}
use Rattle.p10_cert.specs.Lines.{IsIndex, IsEnd, ◌then◌}
use Rattle.p10_diff.specs.Evidence.{Fact, Rank}

-- the line of a rank, and that of a fact
abbrev pub rank_line : Rank → List ℕ
rank_line r =
    codes "rank " then decimal r.function then codes " " then decimal r.loop then codes " " then decimal r.below then codes " " then decimal r.above then codes " " then signed_decimal r.more

abbrev pub fact_line : Fact → List ℕ
fact_line x = codes "fact " then decimal x.greater then codes " " then decimal x.lesser then codes " " then signed_decimal x.by

-- the lines of ranks: after each those of its facts
abbrev pub section_lines : List Rank → List (List ℕ)
section_lines [] = []
section_lines (r ∷ ranks) = rank_line r ∷ (map fact_line r.facts ++ section_lines ranks)

-- numbers that lines may name
pub record IsFact (x : Fact) : Type 0 where
  pub greater : IsIndex x.greater
  pub lesser : IsIndex x.lesser
  pub by : IsEnd x.by

pub record IsRank (r : Rank) : Type 0 where
  pub function : IsIndex r.function
  pub loop : IsIndex r.loop
  pub below : IsIndex r.below
  pub above : IsIndex r.above
  pub more : IsEnd r.more
  pub facts : AllByRecursion IsFact r.facts

-- whether a rank comes before another one: by the functions' numbers, then by the loops'
abbrev pub comes_before : Rank → Rank → Bool
comes_before r s = nat_lt r.function s.function || (nat_eq r.function s.function && nat_lt r.loop s.loop)

-- each rank comes before the next one
abbrev pub AreRising : List Rank → Type 0
AreRising [] = Unit {0}
AreRising (r ∷ []) = Unit {0}
AreRising (r ∷ s ∷ ranks) = (comes_before r s ≡ true) × AreRising (s ∷ ranks)

-- lines are those of ranks
pub record IsSection (lines : List (List ℕ)) (ranks : List Rank) : Type 0 where
  pub spelled : lines ≡ section_lines ranks
  pub numbers : AllByRecursion IsRank ranks
  pub rising : AreRising ranks

-- a line, counted from 1, is the first of another form: the lines before it are those of ranks, and with it they are those of none
pub record IsFirstOther (lines : List (List ℕ)) (line : ℕ) : Type 0 where
  pub before : (ranks : List Rank) × IsSection (take (line - 1) lines) ranks
  pub other : (ranks : List Rank) → IsSection (take line lines) ranks → ⊥
