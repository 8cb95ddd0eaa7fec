-- Where the occurrences of one thing lie, from the first to the last, and in which stretches.
use Rattle.std.specs.Prelude.{◌≡◌, ℕ, zero, suc, ◌+◌, ◌<◌, ◌≤◌, nat_le, Bool, false, ◌&&◌, if◌then◌else◌, List, [], ◌∷◌, length, Option, Some, None, slice_get, slice_set}
use Rattle.std.specs.List.{list_any}
use Rattle.p10_userules.specs.declared.occurrences.Referent.{Referent}
use Rattle.p10_userules.specs.declared.occurrences.Referent.TheVariants.{Variable, Object}
use Rattle.p10_userules.specs.declared.occurrences.Occurrence.{Occurrence}
use Rattle.p10_userules.specs.declared.parts.Stretch.{Stretch}
use Rattle.p10_userules.specs.declared.parts.BlockParts.{BlockParts}
use Rattle.p10_userules.specs.declared.spreads.Spread.{Spread}
use Rattle.p10_userules.specs.declared.spreads.Kind.{Kind}
use Rattle.p10_userules.specs.declared.spreads.Kind.TheVariants.{Variables, Objects}
use Rattle.p10_userules.specs.Occurrences.{is_same_referent}

-- where occurrences lie that come before others
abbrev pub joined : Option Spread → Option Spread → Option Spread
joined None s = s
joined (Some a) None = Some a
joined (Some a) (Some b) = Some (record { start = a.start; end = b.end; checked = a.checked })

-- where the occurrences of something lie if this one, at a place, is the only one
abbrev pub spread_at : ℕ → Referent → Occurrence → Option Spread
spread_at i x o = if is_same_referent x o.referent then Some (record { start = i; end = i + 1; checked = o.checked }) else None

-- where the occurrences of something lie among those from a place on
abbrev pub spread_of : ℕ → Referent → List Occurrence → Option Spread
spread_of i x [] = None
spread_of i x (o ∷ rest) = joined (spread_at i x o) (spread_of (i + 1) x rest)

-- whether there are occurrences, and all lie in a stretch
abbrev pub lies_in : Option Spread → Stretch → Bool
lies_in None t = false
lies_in (Some s) t = nat_le t.start s.start && nat_le s.end t.end

-- whether there are occurrences, and all lie in one of the stretches
abbrev pub lies_in_one : Option Spread → List Stretch → Bool
lies_in_one None ts = false
lies_in_one (Some s) ts = list_any (lies_in (Some s)) ts

-- stretches follow one another, between two places
abbrev pub Rises : ℕ → List Stretch → ℕ → Type 0
Rises from [] to = from ≤ to
Rises from (t ∷ ts) to = (from ≤ t.start) × (t.start ≤ t.end) × Rises t.end ts to

-- the thing of a kind with a number
abbrev pub numbered : Kind → ℕ → Referent
numbered Variables n = Variable n
numbered Objects n = Object n

-- where the occurrences of the things of a kind lie, by their numbers, among those from a place on
abbrev pub AreSpreads : Kind → ℕ → List Occurrence → List (Option Spread) → Type 0
AreSpreads kind start os spreads = (n : ℕ) → n < length spreads → slice_get spreads n ≡ Some (spread_of start (numbered kind n) os)

-- where the occurrences of `count` things of a kind lie, from number n on, among those from a place on
abbrev pub spreads_from : ℕ → Kind → ℕ → List Occurrence → ℕ → List (Option Spread)
spreads_from n kind start os zero = []
spreads_from n kind start os (suc count) = spread_of start (numbered kind n) os ∷ spreads_from (n + 1) kind start os count

-- the number of a thing of a kind
abbrev pub number_of_kind : Kind → Referent → Option ℕ
number_of_kind Variables (Variable n) = Some n
number_of_kind Objects (Object n) = Some n
number_of_kind kind x = None

-- where the occurrences of a thing lie, if it is there, once one more is known before them
abbrev pub put_first : List (Option Spread) → ℕ → Option (Option Spread) → Spread → List (Option Spread)
put_first spreads n None first = spreads
put_first spreads n (Some later) first = slice_set spreads n (joined (Some first) later)

-- the same, if it is of the kind that is looked at
abbrev pub note_first : List (Option Spread) → Option ℕ → Spread → List (Option Spread)
note_first spreads None first = spreads
note_first spreads (Some n) first = put_first spreads n (slice_get spreads n) first

-- the stretches follow one another
pub record StretchesRise (ts : List Stretch) : Type 0 where
  pub from : ℕ
  pub to : ℕ
  pub rises : Rises from ts to

-- the stretches of the nested blocks of a block follow one another
abbrev pub HasRising : BlockParts → Type 0
HasRising b = StretchesRise b.nested
