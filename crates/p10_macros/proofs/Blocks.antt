-- Sets of numbers.
use Rattle.std.proofs.Common.{◌≡◌, ◌≢◌, ℕ, zero, suc, ◌+◌, ◌-◌, ◌/◌, ◌%◌, ◌<◌, ◌≤◌, ◌==◌, List, [], ◌∷◌, ◌++◌, length, slice_index_or, take, drop, Bool, true, false, ◌||◌, sym, subst, ap, ◌∙◌, refl, arith, append_assoc, append-nil, length-append, length-take, drop-cons, take-append-drop, ◌⊎◌, inl, inr}
use Rattle.std.specs.Prelude.{◌^◌, reverse, max, bit_or, nat_lt}
use Rattle.std.specs.Int.{bit_at}
use Rattle.std.proofs.Math.Nat.{div-add-mod}
use Rattle.std.proofs.Math.Bool.{or_comm}
use Rattle.std.proofs.lemmas.List.{reverse-append, length-reverse}
use Rattle.std.proofs.lemmas.Nat.Bits.{bit_at-lt, bit_at_or, bit_at-pow_same, bit_at-pow_other}
use Rattle.std.proofs.lemmas.Bool.{cases_lt, cases_eq, cases_order}
use Rattle.std.proofs.lemmas.Bool.Decides.{nat_tests}
use Rattle.p10_macros.specs.declared.sets.Part.{Part}
use Rattle.p10_macros.specs.private.Sets.{in_part, has_in, has, Grows, IsPart, HasOneMore, HasAll, AreBelow, BitsAreBelow}

other_set : (set count : ℕ) → set ≤ count → (set == count + 1) ≡ false
other_set set count less = grind (arith, nat_tests)

beyond_set : (set count : ℕ) → count + 1 < set → (set == count + 1) ≡ false
beyond_set set count less = grind (arith, nat_tests)

this_set : (count : ℕ) → (count + 1 == count + 1) ≡ true
this_set count = grind (arith, nat_tests)

-- parts that are put before the others change no set that there was
has_in_older : (newer older : List Part) (set number : ℕ) → set ≤ length older → has_in (newer ++ older) set number ≡ has_in older set number
has_in_older [] older set number less = refl
has_in_older (part ∷ newer) older set number less =
    rw (other_set set (length (newer ++ older)) (omega (arith, length-append newer older))) (has_in_older newer older set number less)

has_in_beyond : (parts : List Part) (set number : ℕ) → length parts < set → has_in parts set number ≡ false
has_in_beyond [] set number less = refl
has_in_beyond (part ∷ older) set number less = rw (beyond_set set (length older) (omega arith)) (has_in_beyond older set number (omega arith))

has_in_nothing : (parts : List Part) (number : ℕ) → has_in parts 0 number ≡ false
has_in_nothing [] number = refl
has_in_nothing (part ∷ older) number = rw (other_set 0 (length older) (omega arith)) (has_in_nothing older number)

has_more : (old more : List Part) (set number : ℕ) → set ≤ length old → has (old ++ more) set number ≡ has old set number
unfolding has
has_more old more set number less =
    ap (λ (all : List Part). has_in all set number) (reverse-append old more) ∙ has_in_older (reverse more) (reverse old) set number (omega (arith, length-reverse old))

pub has_beyond : (parts : List Part) (set number : ℕ) → length parts < set → has parts set number ≡ false
unfolding has
has_beyond parts set number less = has_in_beyond (reverse parts) set number (omega (arith, length-reverse parts))

-- the set 0 is empty
pub has_nothing : (parts : List Part) (set number : ℕ) → set ≤ 0 → has parts set number ≡ false
unfolding has
has_nothing parts set number none = let zero' : set ≡ 0 = omega arith in rw zero' (has_in_nothing (reverse parts) number)

-- the newest part is the first one of the set with its number
has_last : (old : List Part) (part : Part) (set number : ℕ) → set ≡ length old + 1 →
    has (old ++ part ∷ []) set number ≡ in_part part.block part.bits (has old part.lower number) number
unfolding has
has_last old part set number is =
    ap (λ (all : List Part). has_in all set number) (reverse-append old (part ∷ []))
    ∙ (let same : set ≡ length (reverse old) + 1 = omega (arith, length-reverse old) in
    rw (same, this_set (length (reverse old))) refl)

-- ## More parts

pub grows_all : (old middle new : List Part) → Grows old middle → Grows middle new → Grows old new
grows_all old middle new first second =
    record { more = first.more ++ second.more; is = second.is ∙ ap (λ (all : List Part). all ++ second.more) first.is ∙ append_assoc old first.more second.more }

pub grows_itself : (old : List Part) → Grows old old
grows_itself old = record { more = []; is = sym (append-nil old) }

pub has_grown : (old new : List Part) → Grows old new → (set number : ℕ) → set ≤ length old → has new set number ≡ has old set number
has_grown old new grown set number less = ap (λ (all : List Part). has all set number) grown.is ∙ has_more old grown.more set number less

pub stays_known : (old new : List Part) → Grows old new → (set : ℕ) → set ≤ length old → set ≤ length new
stays_known old new grown set less = omega (arith, ap length grown.is, length-append old grown.more)

-- ## Reading and putting parts

-- a part where there is none
abbrev pub nowhere : Part
nowhere = record { block = 0; bits = 0; lower = 0 }

-- the part with a number
abbrev pub part_of : List Part → ℕ → Part
part_of parts set = slice_index_or parts (set - 1) nowhere

-- parts up to and including one of them
up_to : (parts : List Part) (place : ℕ) → place < length parts →
    parts ≡ (take place parts ++ slice_index_or parts place nowhere ∷ []) ++ drop (suc place) parts
up_to parts place less =
    sym (take-append-drop place parts) ∙ ap (λ (all : List Part). take place parts ++ all) (drop-cons parts place nowhere less)
    ∙ sym (append_assoc (take place parts) (slice_index_or parts place nowhere ∷ []) (drop (suc place) parts))

has_at : (parts : List Part) (set number : ℕ) → 0 < set → set ≤ length parts →
    has parts set number ≡ in_part (part_of parts set).block (part_of parts set).bits (has (take (set - 1) parts) (part_of parts set).lower number) number
has_at parts set number more less =
    let split : parts ≡ (take (set - 1) parts ++ part_of parts set ∷ []) ++ drop (suc (set - 1)) parts = up_to parts (set - 1) (omega arith) in
    let size : length (take (set - 1) parts) ≡ set - 1 = omega (arith, length-take (set - 1) parts) in
    let front : List Part = take (set - 1) parts ++ part_of parts set ∷ [] in
    ap (λ (all : List Part). has all set number) split
    ∙ has_more front (drop (suc (set - 1)) parts) set number (omega (arith, length-append (take (set - 1) parts) (part_of parts set ∷ [])))
    ∙ has_last (take (set - 1) parts) (part_of parts set) set number (omega arith)

-- of a set that isn't older nothing is seen
has_older : (parts : List Part) (set lower older number : ℕ) → 0 < set → set ≤ length parts → (lower < set → older ≡ lower) → (set ≤ lower → older ≡ 0) →
    has (take (set - 1) parts) lower number ≡ has parts older number
has_older parts set lower older number more less within beyond = go (cases_lt lower set)
  where
    front : List Part
    front = take (set - 1) parts

    behind : List Part
    behind = drop (set - 1) parts

    size : length front ≡ set - 1
    size = omega (arith, length-take (set - 1) parts)

    go : (lower < set) ⊎ (set ≤ lower) → has front lower number ≡ has parts older number
    go (inl before) =
        sym (has_more front behind lower number (omega (arith, size)))
        ∙ ap (λ (all : List Part). has all lower number) (take-append-drop (set - 1) parts)
        ∙ ap (λ (n : ℕ). has parts n number) (sym (within before))
    go (inr after) = has_beyond front lower number (omega (arith, size)) ∙ sym (has_nothing parts older number (omega (arith, beyond after)))

older_less : (set lower older : ℕ) → 0 < set → (lower < set → older ≡ lower) → (set ≤ lower → older ≡ 0) → older < set
older_less set lower older more within beyond = go (cases_lt lower set)
  where
    go : (lower < set) ⊎ (set ≤ lower) → older < set
    go (inl before) = omega (arith, within before, before)
    go (inr after) = omega (arith, beyond after, more)

pub read_part : (parts : List Part) (set older : ℕ) → 0 < set → set ≤ length parts →
    ((part_of parts set).lower < set → older ≡ (part_of parts set).lower) → (set ≤ (part_of parts set).lower → older ≡ 0) → IsPart parts set (part_of parts set).block (part_of parts set).bits older
read_part parts set older more less within beyond = record {
  known = less;
  older = older_less set (part_of parts set).lower older more within beyond;
  holds = λ number.
      has_at parts set number more less
      ∙ ap (λ (b : Bool). in_part (part_of parts set).block (part_of parts set).bits b number) (has_older parts set (part_of parts set).lower older number more less within beyond);
}

pub put_part : (old new : List Part) (part : Part) (set : ℕ) → new ≡ old ++ part ∷ [] → set ≡ length new → part.lower ≤ length old →
    IsPart new set part.block part.bits part.lower
put_part old new part set is count less = record {
  known = omega (arith, count);
  older = omega (arith, last);
  holds = λ number.
      ap (λ (all : List Part). has all set number) is
      ∙ has_last old part set number last
      ∙ ap (λ (b : Bool). in_part part.block part.bits b number)
      (sym (has_grown old new (record { more = part ∷ []; is = is }) part.lower number less));
}
  where
    last : set ≡ length old + 1
    last = omega (arith, count, ap length is, length-append old (part ∷ []))

part_more : (old new : List Part) → Grows old new → (set block bits lower : ℕ) → IsPart old set block bits lower → IsPart new set block bits lower
part_more old new grown set block bits lower part = record {
  known = stays_known old new grown set part.known;
  older = part.older;
  holds = λ number.
      has_grown old new grown set number part.known ∙ part.holds number
      ∙ ap (λ (b : Bool). in_part block bits b number) (sym (has_grown old new grown lower number (omega (arith, part.known, part.older))));
}

part_in : (slice parts : List Part) (set block bits lower : ℕ) → slice ≡ parts → IsPart slice set block bits lower → IsPart parts set block bits lower
part_in slice parts set block bits lower is part = subst (λ (all : List Part). IsPart all set block bits lower) is part

-- ## Numbers and their blocks

other_number : (other number : ℕ) → other / 64 ≢ number / 64 → (other == number) ≡ false
other_number other number apart = go (other == number) refl
  where
    go : (b : Bool) → (other == number) ≡ b → b ≡ false
    go false e = refl
    go true e = absurd (apart (ap (λ (n : ℕ). n / 64) (grind (arith, nat_tests, e))))

-- numbers of one block with one place in it are equal
same_number : (other number : ℕ) → other / 64 ≡ number / 64 → other % 64 ≡ number % 64 → other ≡ number
same_number other number block place = omega (arith, div-add-mod other 64, div-add-mod number 64, block, place)

in_block : (block bits : ℕ) (below : Bool) (number : ℕ) → number / 64 ≡ block → in_part block bits below number ≡ (bit_at bits (number % 64) == 1)
in_block block bits below number is = let same : (number / 64 == block) ≡ true = grind (arith, nat_tests, is) in rw same refl

under_block : (block bits : ℕ) (below : Bool) (number : ℕ) → number / 64 < block → in_part block bits below number ≡ below
under_block block bits below number less =
    let apart : (number / 64 == block) ≡ false = grind (arith, nat_tests, less) in
    let under : nat_lt (number / 64) block ≡ true = grind (arith, nat_tests, less) in
    rw (apart, under) refl

over_block : (block bits : ℕ) (below : Bool) (number : ℕ) → block < number / 64 → in_part block bits below number ≡ false
over_block block bits below number less =
    let apart : (number / 64 == block) ≡ false = grind (arith, nat_tests, less) in
    let over : nat_lt (number / 64) block ≡ false = grind (arith, nat_tests, less) in
    rw (apart, over) refl

greater_is_one : (a b : ℕ) → a < 2 → b < 2 → (max a b == 1) ≡ ((a == 1) || (b == 1))
greater_is_one zero b less less' = let greater : max 0 b ≡ b = omega arith in rw greater refl
greater_is_one (suc zero) zero less less' = refl
greater_is_one (suc zero) (suc zero) less less' = refl
greater_is_one (suc zero) (suc (suc b)) less less' = absurd (omega (arith, less'))
greater_is_one (suc (suc a)) b less less' = absurd (omega (arith, less))

or_bits : (a b place : ℕ) → (bit_at (bit_or a b) place == 1) ≡ ((bit_at a place == 1) || (bit_at b place == 1))
or_bits a b place =
    let both : bit_at (bit_or a b) place ≡ max (bit_at a place) (bit_at b place) = bit_at_or a b place in
    rw both (greater_is_one (bit_at a place) (bit_at b place) (bit_at-lt a place) (bit_at-lt b place))

one_bit : (other number : ℕ) → other / 64 ≡ number / 64 → (bit_at (2 ^ (number % 64)) (other % 64) == 1) ≡ (other == number)
one_bit other number block = go (cases_eq (other % 64) (number % 64))
  where
    go : (other % 64 ≡ number % 64) ⊎ (other % 64 ≢ number % 64) → (bit_at (2 ^ (number % 64)) (other % 64) == 1) ≡ (other == number)
    go (inl same) =
        let whole : other ≡ number = same_number other number block same in
        let set : bit_at (2 ^ (number % 64)) (number % 64) ≡ 1 = bit_at-pow_same (number % 64) in
        rw (whole, set) (grind (arith, nat_tests))
    go (inr apart) =
        let none : bit_at (2 ^ (number % 64)) (other % 64) ≡ 0 = bit_at-pow_other (number % 64) (other % 64) apart in
        let differ : (other == number) ≡ false = grind (arith, nat_tests, apart) in
        rw (none, differ) refl

or_no_more : (a : Bool) → a ≡ (a || false)
or_no_more true = refl
or_no_more false = refl

-- what is known of no number in the part's block or above can be said of the numbers below
with_lower : (block bits other : ℕ) (below more : Bool) → (block ≤ other / 64 → more ≡ false) → in_part block bits (below || more) other ≡ (in_part block bits below other || more)
with_lower block bits other below more none = go (cases_order (other / 64) block)
  where
    go : (other / 64 ≡ block) ⊎ ((other / 64 < block) ⊎ (block < other / 64)) → in_part block bits (below || more) other ≡ (in_part block bits below other || more)
    go (inl is) =
        in_block block bits (below || more) other is ∙ sym (in_block block bits below other is) ∙ or_no_more (in_part block bits below other)
        ∙ ap (λ (b : Bool). in_part block bits below other || b) (sym (none (omega (arith, is))))
    go (inr (inl less)) = under_block block bits (below || more) other less ∙ ap (λ (b : Bool). b || more) (sym (under_block block bits below other less))
    go (inr (inr less)) = over_block block bits (below || more) other less ∙ sym (none (omega (arith, less))) ∙ ap (λ (b : Bool). b || more) (sym (over_block block bits below other less))

-- a part with one number over a set in lower blocks
in_front : (other number : ℕ) (below : Bool) → (number / 64 ≤ other / 64 → below ≡ false) → in_part (number / 64) (2 ^ (number % 64)) below other ≡ (below || other == number)
in_front other number below none = go (cases_order (other / 64) (number / 64))
  where
    apart : other / 64 ≢ number / 64 → below ≡ (below || other == number)
    apart differ = or_no_more below ∙ ap (λ (b : Bool). below || b) (sym (other_number other number differ))

    go : (other / 64 ≡ number / 64) ⊎ ((other / 64 < number / 64) ⊎ (number / 64 < other / 64)) → in_part (number / 64) (2 ^ (number % 64)) below other ≡ (below || other == number)
    go (inl is) =
        in_block (number / 64) (2 ^ (number % 64)) below other is ∙ one_bit other number is ∙ ap (λ (b : Bool). b || other == number) (sym (none (omega (arith, is))))
    go (inr (inl less)) = under_block (number / 64) (2 ^ (number % 64)) below other less ∙ apart (λ is. omega (arith, is, less))
    go (inr (inr less)) = over_block (number / 64) (2 ^ (number % 64)) below other less ∙ sym (none (omega (arith, less))) ∙ apart (λ is. omega (arith, is, less))

-- two parts of one block
in_both : (block bits bits' other : ℕ) (below below' : Bool) → in_part block (bit_or bits bits') (below || below') other ≡ (in_part block bits below other || in_part block bits' below' other)
in_both block bits bits' other below below' = go (cases_order (other / 64) block)
  where
    joined : (one two : Bool) → in_part block bits below other ≡ one → in_part block bits' below' other ≡ two → (one || two) ≡ (in_part block bits below other || in_part block bits' below' other)
    joined one two is is' = ap (λ (b : Bool). b || two) (sym is) ∙ ap (λ (b : Bool). in_part block bits below other || b) (sym is')

    go : (other / 64 ≡ block) ⊎ ((other / 64 < block) ⊎ (block < other / 64)) → in_part block (bit_or bits bits') (below || below') other ≡ (in_part block bits below other || in_part block bits' below' other)
    go (inl is) =
        in_block block (bit_or bits bits') (below || below') other is ∙ or_bits bits bits' (other % 64)
        ∙ joined (bit_at bits (other % 64) == 1) (bit_at bits' (other % 64) == 1) (in_block block bits below other is) (in_block block bits' below' other is)
    go (inr (inl less)) =
        under_block block (bit_or bits bits') (below || below') other less ∙ joined below below' (under_block block bits below other less) (under_block block bits' below' other less)
    go (inr (inr less)) =
        over_block block (bit_or bits bits') (below || below') other less ∙ joined false false (over_block block bits below other less) (over_block block bits' below' other less)

-- a part with one more number of its block
in_part_more : (block bits own other number : ℕ) (below : Bool) → block ≡ number / 64 → own ≡ 2 ^ (number % 64) → in_part block (bit_or bits own) below other ≡ (in_part block bits below other || other == number)
in_part_more block bits own other number below is own_is =
    ap (λ (b : Bool). in_part block (bit_or bits own) b other) (or_no_more below)
    ∙ in_both block bits own other below false
    ∙ ap (λ (b : Bool). in_part block bits below other || b)
    (ap (λ (n : ℕ). in_part n own false other) is ∙ ap (λ (n : ℕ). in_part (number / 64) n false other) own_is ∙ in_front other number false (λ more. refl))

-- ## One more number

module _ (slice old new : List Part) (set number set' : ℕ) (read : slice ≡ old) where
  pub one_alone : (own : ℕ) → own ≡ 2 ^ (number % 64) → ((other : ℕ) → has slice set other ≡ false) → IsPart new set' (number / 64) own 0 → HasOneMore old set number new set'
  one_alone own is none part = record {
    known = part.known;
    one = λ other.
        part.holds other
        ∙ ap (λ (b : Bool). in_part (number / 64) own b other) (has_nothing new 0 other (omega arith))
        ∙ ap (λ (n : ℕ). in_part (number / 64) n false other) is
        ∙ in_front other number false (λ more. refl)
        ∙ ap (λ (b : Bool). b || other == number) (sym (sym (ap (λ (all : List Part). has all set other) read) ∙ none other));
  }

  module _ (block bits lower : ℕ) (seen : IsPart slice set block bits lower) where
    top : IsPart old set block bits lower
    top = part_in slice old set block bits lower read seen

    pub one_in_front : (own : ℕ) → own ≡ 2 ^ (number % 64) → block < number / 64 → Grows old new → IsPart new set' (number / 64) own set → HasOneMore old set number new set'
    one_in_front own is less grown part = record {
      known = part.known;
      one = λ other.
          part.holds other
          ∙ ap (λ (b : Bool). in_part (number / 64) own b other) (has_grown old new grown set other top.known)
          ∙ ap (λ (n : ℕ). in_part (number / 64) n (has old set other) other) is
          ∙ in_front other number (has old set other) (λ more. top.holds other ∙ over_block block bits (has old lower other) other (omega (arith, less, more)));
    }

    pub one_here : (own : ℕ) → own ≡ 2 ^ (number % 64) → block ≡ number / 64 → Grows old new →
        (IsPart old set block bits lower → lower ≤ length old → IsPart new set' block (bit_or bits own) lower) → HasOneMore old set number new set'
    one_here own is same grown put = record {
      known = part.known;
      one = λ other.
          part.holds other
          ∙ ap (λ (b : Bool). in_part block (bit_or bits own) b other) (has_grown old new grown lower other less)
          ∙ in_part_more block bits own other number (has old lower other) same is
          ∙ ap (λ (b : Bool). b || other == number) (sym (top.holds other));
    }
      where
        less : lower ≤ length old
        less = omega (arith, top.known, top.older)

        part : IsPart new set' block (bit_or bits own) lower
        part = put top less

    pub one_below : (middle : List Part) (next : ℕ) → number / 64 < block → Grows old middle → Grows middle new → HasOneMore old lower number middle next →
        (IsPart middle set block bits lower → next ≤ length middle → IsPart new set' block bits next) → HasOneMore old set number new set'
    one_below middle next less grown grown' has_it put = record {
      known = part.known;
      one = λ other.
          part.holds other
          ∙ ap (λ (b : Bool). in_part block bits b other) (has_grown middle new grown' next other has_it.known ∙ has_it.one other)
          ∙ with_lower block bits other (has old lower other) (other == number) (λ more. other_number other number (λ is. omega (arith, is, less, more)))
          ∙ ap (λ (b : Bool). b || other == number) (sym (top.holds other));
    }
      where
        part : IsPart new set' block bits next
        part = put (part_more old middle grown set block bits lower top) has_it.known

-- ## The numbers of two sets

all_swapped : (old new : List Part) (these those set : ℕ) → HasAll old those these new set → HasAll old these those new set
all_swapped old new these those set all = record {
  known = all.known;
  both = λ number. all.both number ∙ or_comm (has old those number) (has old these number);
}

module _ (slice slice' old middle new : List Part) (these those block bits lower block' bits' lower' next set : ℕ) (read : slice ≡ old) (read' : slice' ≡ old)
    (seen : IsPart slice these block bits lower) (seen' : IsPart slice' those block' bits' lower') (grown : Grows old middle) (grown' : Grows middle new) where
  first : IsPart old these block bits lower
  first = part_in slice old these block bits lower read seen

  second : IsPart old those block' bits' lower'
  second = part_in slice' old those block' bits' lower' read' seen'

  -- the first set has the higher block
  pub all_over_second : block' < block → (lower ≤ length old → those ≤ length old → HasAll old lower those middle next) →
      (IsPart middle these block bits lower → next ≤ length middle → IsPart new set block bits next) → HasAll old these those new set
  all_over_second less under put = record {
    known = part.known;
    both = λ number.
        part.holds number
        ∙ ap (λ (b : Bool). in_part block bits b number) (has_grown middle new grown' next number has_all.known ∙ has_all.both number)
        ∙ with_lower block bits number (has old lower number) (has old those number) (λ more. second.holds number ∙ over_block block' bits' (has old lower' number) number (omega (arith, less, more)))
        ∙ ap (λ (b : Bool). b || has old those number) (sym (first.holds number));
  }
    where
      has_all : HasAll old lower those middle next
      has_all = under (omega (arith, first.known, first.older)) second.known

      part : IsPart new set block bits next
      part = put (part_more old middle grown these block bits lower first) has_all.known

  -- both sets begin with one block
  all_level : block ≡ block' → HasAll old lower lower' middle next → IsPart new set block (bit_or bits bits') next → HasAll old these those new set
  all_level same has_all part = record {
    known = part.known;
    both = λ number.
        part.holds number
        ∙ ap (λ (b : Bool). in_part block (bit_or bits bits') b number) (has_grown middle new grown' next number has_all.known ∙ has_all.both number)
        ∙ in_both block bits bits' number (has old lower number) (has old lower' number)
        ∙ ap (λ (b : Bool). b || in_part block bits' (has old lower' number) number) (sym (first.holds number))
        ∙ ap (λ (b : Bool). has old these number || b) (ap (λ (n : ℕ). in_part n bits' (has old lower' number) number) same ∙ sym (second.holds number));
  }

  under_both : (lower ≤ length old → lower' ≤ length old → HasAll old lower lower' middle next) → HasAll old lower lower' middle next
  under_both under = under (omega (arith, first.known, first.older)) (omega (arith, second.known, second.older))

  pub all_over_both : block ≤ block' → block' ≤ block → (lower ≤ length old → lower' ≤ length old → HasAll old lower lower' middle next) →
      (IsPart middle these block bits lower → next ≤ length middle → IsPart new set block (bit_or bits bits') next) → HasAll old these those new set
  all_over_both less less' under put =
      let has_all : HasAll old lower lower' middle next = under_both under in
      all_level (omega (arith, less, less')) has_all (put (part_more old middle grown these block bits lower first) has_all.known)

pub all_over_first : (slice slice' old middle new : List Part) (these those block bits lower block' bits' lower' next set : ℕ) → slice ≡ old → slice' ≡ old →
    IsPart slice these block bits lower → IsPart slice' those block' bits' lower' → Grows old middle → Grows middle new →
    block < block' → (these ≤ length old → lower' ≤ length old → HasAll old these lower' middle next) →
    (IsPart middle those block' bits' lower' → next ≤ length middle → IsPart new set block' bits' next) → HasAll old these those new set
all_over_first slice slice' old middle new these those block bits lower block' bits' lower' next set read read' seen seen' grown grown' less under put =
    all_swapped old new these those set
    (all_over_second slice' slice old middle new those these block' bits' lower' block bits lower next set read' read seen' seen grown grown' less
    (λ known known'. all_swapped old middle lower' these next (under known' known)) put)

-- the second set has all that the first one has
pub all_is_second : (slice slice' old middle : List Part) (these those block bits lower block' bits' lower' next : ℕ) → slice ≡ old → slice' ≡ old →
    IsPart slice these block bits lower → IsPart slice' those block' bits' lower' → Grows old middle →
    block ≤ block' → block' ≤ block → bit_or bits bits' ≡ bits' → next ≡ lower' → (lower ≤ length old → lower' ≤ length old → HasAll old lower lower' middle next) → HasAll old these those middle those
all_is_second slice slice' old middle these those block bits lower block' bits' lower' next read read' seen seen' grown less less' same same' under =
    all_level slice slice' old middle middle these those block bits lower block' bits' lower' next those read read' seen seen' grown (grows_itself middle)
    block_same (under_both slice slice' old middle middle these those block bits lower block' bits' lower' next those read read' seen seen' grown (grows_itself middle) under)
    (subst (λ (n : ℕ). IsPart middle those block (bit_or bits bits') n) (sym same')
    (subst (λ (n : ℕ). IsPart middle those block n lower') (sym same)
    (subst (λ (n : ℕ). IsPart middle those n bits' lower') (sym block_same)
    (part_more old middle grown those block' bits' lower' (part_in slice' old those block' bits' lower' read' seen')))))
  where
    block_same : block ≡ block'
    block_same = omega (arith, less, less')

-- ## A bound of all numbers

pub none_below : (bound : ℕ) → AreBelow bound []
none_below bound set number e = go (cases_lt 0 set)
  where
    go : (0 < set) ⊎ (set ≤ 0) → number < bound
    go (inl more) = (let no : has [] set number ≡ false = has_beyond [] set number more in cc)
    go (inr none) = (let no : has [] set number ≡ false = has_nothing [] set number none in cc)

in_part_below : (bound block bits : ℕ) (below : Bool) (number : ℕ) → BitsAreBelow bound block bits → (below ≡ true → number < bound) → in_part block bits below number ≡ true → number < bound
in_part_below bound block bits below number told under e = go (cases_order (number / 64) block)
  where
    go : (number / 64 ≡ block) ⊎ ((number / 64 < block) ⊎ (block < number / 64)) → number < bound
    go (inl is) = told number is (sym (in_block block bits below number is) ∙ e)
    go (inr (inl less)) = under (sym (under_block block bits below number less) ∙ e)
    go (inr (inr more)) = (let no : in_part block bits below number ≡ false = over_block block bits below number more in cc)

pub below_put : (old new : List Part) (part : Part) (bound : ℕ) → new ≡ old ++ part ∷ [] → AreBelow bound old → BitsAreBelow bound part.block part.bits → AreBelow bound new
below_put old new part bound is below bits set number e = go (cases_order set (length old + 1))
  where
    e' : has (old ++ part ∷ []) set number ≡ true
    e' = ap (λ (all : List Part). has all set number) (sym is) ∙ e

    go : (set ≡ length old + 1) ⊎ ((set < length old + 1) ⊎ (length old + 1 < set)) → number < bound
    go (inl last) =
        in_part_below bound part.block part.bits (has old part.lower number) number bits (λ there. below part.lower number there) (sym (has_last old part set number last) ∙ e')
    go (inr (inl less)) = below set number (sym (has_more old (part ∷ []) set number (omega (arith, less))) ∙ e')
    go (inr (inr more)) =
        (let no : has (old ++ part ∷ []) set number ≡ false = has_beyond (old ++ part ∷ []) set number (omega (arith, more, length-append old (part ∷ []))) in cc)

pub below_same : (old new : List Part) (bound : ℕ) → new ≡ old → AreBelow bound old → AreBelow bound new
below_same old new bound is below = subst (λ (all : List Part). AreBelow bound all) (sym is) below

-- the numbers of a part are in a set
pub bits_of_part : (slice parts : List Part) (set block bits lower bound : ℕ) → slice ≡ parts → IsPart slice set block bits lower → AreBelow bound parts → BitsAreBelow bound block bits
bits_of_part slice parts set block bits lower bound read seen below number is e =
    let part : IsPart parts set block bits lower = part_in slice parts set block bits lower read seen in
    below set number (part.holds number ∙ in_block block bits (has parts lower number) number is ∙ e)

pub bits_of_one : (number own bound block : ℕ) → own ≡ 2 ^ (number % 64) → block ≡ number / 64 → number < bound → BitsAreBelow bound block own
bits_of_one number own bound block is same less other is' e =
    let one : (bit_at (2 ^ (number % 64)) (other % 64) == 1) ≡ (other == number) = one_bit other number (is' ∙ same) in
    let equal : (other == number) ≡ true = sym one ∙ ap (λ (n : ℕ). bit_at n (other % 64) == 1) (sym is) ∙ e in
    let same' : other ≡ number = grind (arith, nat_tests, equal) in
    omega (arith, same', less)

pub bits_of_both : (bits bits' bound block : ℕ) → BitsAreBelow bound block bits → BitsAreBelow bound block bits' → BitsAreBelow bound block (bit_or bits bits')
bits_of_both bits bits' bound block first second number is e = go (bit_at bits (number % 64) == 1) (bit_at bits' (number % 64) == 1) refl refl (sym (or_bits bits bits' (number % 64)) ∙ e)
  where
    go : (a b : Bool) → (bit_at bits (number % 64) == 1) ≡ a → (bit_at bits' (number % 64) == 1) ≡ b → (a || b) ≡ true → number < bound
    go true b there other e' = first number is there
    go false true there other e' = second number is other
    go false false there other e' = cc

-- the same for a block of the same number
pub bits_in : (block block' bits bound : ℕ) → block ≤ block' → block' ≤ block → BitsAreBelow bound block' bits → BitsAreBelow bound block bits
bits_in block block' bits bound less more told number is e = told number (omega (arith, is, less, more)) e
