-- What pending words and open uses stand for.
use Rattle.std.proofs.Common.{◌≡◌, ℕ, ◌+◌, ◌<◌, ◌≤◌, ◌==◌, List, [], ◌∷◌, ◌++◌, map, length, Bool, true, false, cond, Vec, Global, refl, sym, subst, ap, ◌∙◌, arith, length-append}
use Rattle.p10_base.specs.Words.{PlainWord, plain_word}
use Rattle.p10_macros.specs.declared.origin.Origins.{Origins}
use Rattle.p10_macros.specs.declared.pending.Traced.{Traced}
use Rattle.p10_macros.specs.declared.pending.Pending.{Pending}
use Rattle.p10_macros.specs.declared.pending.Open.{Open}
use Rattle.p10_macros.specs.Uses.{Sourced, opens, closes, depth_after}
use Rattle.p10_macros.specs.private.Looking.{next_opens, opens_on_top}
use Rattle.p10_macros.specs.Ends.{place_of_use}
use Rattle.p10_macros.specs.private.Running.{OpenUse, outer_of}
use Rattle.p10_macros.specs.private.Origins.{Extends}
use Rattle.p10_macros.specs.private.Traces.{IsTraced}
use Rattle.p10_macros.specs.private.Standing.{IsOpen, Stands, StandsBy, Role, NextWord, EndsArgument, EndsCall, role_of, place_among}
use Rattle.p10_macros.specs.private.Links.{word_of, call_end}
use Rattle.p10_macros.specs.private.Putting.{ArePut}
use Rattle.std.proofs.lemmas.Bool.Decides.{nat_tests}
use Rattle.p10_macros.proofs.Links.{closes_only, separates_only, call_at_most}
use Rattle.p10_macros.proofs.Growing.{traced_more, all_traced_more, values_more}

-- ## More origins

open_more : (old new : Origins) → Extends old new → (open' : Open) (use' : OpenUse) → IsOpen old open' use' → IsOpen new open' use'
open_more old new grown open' use' is = record {
  plain = is.plain;
  name = traced_more old new grown open'.name use'.name is.name;
  place = is.place;
  before = all_traced_more old new grown open'.before.items use'.before is.before;
  values = values_more old new grown (map (λ (value : Vec Traced Global). value.items) open'.values.items) use'.values is.values;
}

module _ (old new : Origins) (grown : Extends old new) (items : List Pending)
    (again : (stop : ℕ) (those : List Open) (todo : List Sourced) (uses : List OpenUse) → Stands old items stop those todo uses → Stands new items stop those todo uses) where
  stands_more_by : (pending : Pending) (role : Role) (stop : ℕ) (those : List Open) (todo : List Sourced) (uses : List OpenUse) →
      StandsBy old (Stands old items) pending role stop those todo uses → StandsBy new (Stands new items) pending role stop those todo uses
  stands_more_by pending NextWord stop those (word ∷ todo) uses (is, stands) = (traced_more old new grown pending.traced word is, again stop those todo uses stands)
  stands_more_by pending NextWord stop those [] uses stands = absurd stands
  stands_more_by pending EndsArgument stop (open' ∷ those) [] (use' ∷ uses) (next, others, waiting, split, stands) =
      (next, others, waiting, split, again pending.exits.argument (open' ∷ those) next (record use' { waiting = others } ∷ uses) stands)
  stands_more_by pending EndsArgument stop [] todo uses stands = absurd stands
  stands_more_by pending EndsArgument stop (open' ∷ those) [] [] stands = absurd stands
  stands_more_by pending EndsArgument stop (open' ∷ those) (word ∷ todo) uses stands = absurd stands
  stands_more_by pending EndsCall stop (open' ∷ those) [] (use' ∷ uses) (waiting, is, stands) = (waiting, open_more old new grown open' use' is, again open'.stop those use'.rest uses stands)
  stands_more_by pending EndsCall stop [] todo uses stands = absurd stands
  stands_more_by pending EndsCall stop (open' ∷ those) (word ∷ todo) uses stands = absurd stands
  stands_more_by pending EndsCall stop (open' ∷ those) [] [] stands = absurd stands

-- where nothing is pending, nothing is open and nothing is to be looked through
abbrev pub IsEmpty : ℕ → List Open → List Sourced → List OpenUse → Type 0
IsEmpty stop those todo uses = (stop ≡ 0) × (those ≡ []) × (todo ≡ []) × (uses ≡ [])

pub stands_empty : (origins : Origins) (stop : ℕ) (those : List Open) (todo : List Sourced) (uses : List OpenUse) → Stands origins [] stop those todo uses → IsEmpty stop those todo uses
stands_empty origins stop [] [] [] stands = (stands, refl, refl, refl)
stands_empty origins stop [] [] (use' ∷ uses) stands = absurd stands
stands_empty origins stop [] (word ∷ todo) uses stands = absurd stands
stands_empty origins stop (open' ∷ those) todo uses stands = absurd stands

empty_again : (old new : Origins) (stop : ℕ) (those : List Open) (todo : List Sourced) (uses : List OpenUse) → Stands old [] stop those todo uses → Stands new [] stop those todo uses
empty_again old new stop [] [] [] stands = stands
empty_again old new stop [] [] (use' ∷ uses) stands = absurd stands
empty_again old new stop [] (word ∷ todo) uses stands = absurd stands
empty_again old new stop (open' ∷ those) todo uses stands = absurd stands

pub stands_more : (old new : Origins) → Extends old new → (items : List Pending) (stop : ℕ) (those : List Open) (todo : List Sourced) (uses : List OpenUse) → Stands old items stop those todo uses → Stands new items stop those todo uses
stands_more old new grown [] stop those todo uses stands = empty_again old new stop those todo uses stands
stands_more old new grown (pending ∷ items) stop those todo uses stands =
    stands_more_by old new grown items (λ stop' those' todo' uses' stands'. stands_more old new grown items stop' those' todo' uses' stands') pending (role_of items stop (word_of pending)) stop those todo uses stands

-- ## Roles

is_stop : (stop count : ℕ) → (stop == count) ≡ true → stop ≡ count
is_stop stop count e = grind (arith, nat_tests)

not_stop : (stop count : ℕ) → stop ≤ count → (stop == count + 1) ≡ false
not_stop stop count less = grind (arith, nat_tests)

pub at_stop : (stop count : ℕ) → stop ≡ count + 1 → (stop == count + 1) ≡ true
at_stop stop count is = grind (arith, nat_tests)

-- a word above the end of the argument is the next one
pub next_role : (items : List Pending) (stop : ℕ) (word : PlainWord) → stop ≤ length items → role_of items stop word ≡ NextWord
next_role items stop word less = ap (λ (b : Bool). cond b (cond (closes word) EndsCall EndsArgument) NextWord) (not_stop stop (length items) less)

next_within : (origins : Origins) (items : List Pending) (again : (stop : ℕ) (those : List Open) (todo : List Sourced) (uses : List OpenUse) → Stands origins items stop those todo uses → stop ≤ length items) (pending : Pending)
    (stop : ℕ) (those : List Open) (todo : List Sourced) (uses : List OpenUse) → StandsBy origins (Stands origins items) pending NextWord stop those todo uses → stop ≤ length items
next_within origins items again pending stop those [] uses stands = absurd stands
next_within origins items again pending stop those (word ∷ todo) uses (is, stands) = again stop those todo uses stands

within_by : (origins : Origins) (items : List Pending) (again : (stop : ℕ) (those : List Open) (todo : List Sourced) (uses : List OpenUse) → Stands origins items stop those todo uses → stop ≤ length items) (pending : Pending)
    (stop : ℕ) (those : List Open) (todo : List Sourced) (uses : List OpenUse) (b : Bool) → (stop == length items + 1) ≡ b →
    StandsBy origins (Stands origins items) pending (cond b (cond (closes (word_of pending)) EndsCall EndsArgument) NextWord) stop those todo uses → stop ≤ length items + 1
within_by origins items again pending stop those todo uses true e stands = omega (arith, is_stop stop (length items + 1) e)
within_by origins items again pending stop those todo uses false e stands = omega (arith, next_within origins items again pending stop those todo uses stands)

-- the argument ends among the pending words
pub stop_within : (origins : Origins) (items : List Pending) (stop : ℕ) (those : List Open) (todo : List Sourced) (uses : List OpenUse) → Stands origins items stop those todo uses → stop ≤ length items
stop_within origins [] stop those todo uses stands = omega (arith, (stands_empty origins stop those todo uses stands).0)
stop_within origins (pending ∷ items) stop those todo uses stands =
    omega (arith, within_by origins items (λ s t l u e. stop_within origins items s t l u e) pending stop those todo uses (stop == length items + 1) refl stands)

-- ## Words that are put on top

pub stands_word : (origins : Origins) (pending : Pending) (word : Sourced) (items : List Pending) (stop : ℕ) (those : List Open) (todo : List Sourced) (uses : List OpenUse) →
    stop ≤ length items → IsTraced origins pending.traced word → Stands origins items stop those todo uses → Stands origins (pending ∷ items) stop those (word ∷ todo) uses
stands_word origins pending word items stop those todo uses less traced stands =
    subst (λ (r : Role). StandsBy origins (Stands origins items) pending r stop those (word ∷ todo) uses) (sym (next_role items stop (word_of pending) less)) (traced, stands)

pub stands_put : (origins : Origins) (put : List Pending) (words : List Sourced) (items : List Pending) (stop : ℕ) (those : List Open) (todo : List Sourced) (uses : List OpenUse) →
    ArePut origins put words → Stands origins items stop those todo uses → Stands origins (put ++ items) stop those (words ++ todo) uses
stands_put origins [] [] items stop those todo uses are stands = stands
stands_put origins (pending ∷ put) (word ∷ words) items stop those todo uses (traced, are) stands =
    stands_word origins pending word (put ++ items) stop those (words ++ todo) uses (omega (arith, stop_within origins items stop those todo uses stands, length-append put items)) traced
    (stands_put origins put words items stop those todo uses are stands)
stands_put origins [] (word ∷ words) items stop those todo uses are stands = absurd are
stands_put origins (pending ∷ put) [] items stop those todo uses are stands = absurd are

-- ## The word on top

-- the next pending word stands for a first word, where it ends nothing
abbrev pub HasNext : Origins → Traced → List Pending → ℕ → List Open → List Sourced → List OpenUse → Type 0
HasNext origins traced items stop those [] uses = ⊥
HasNext origins traced items stop those (word ∷ todo) uses = IsTraced origins traced word × Stands origins items stop those todo uses

pub has_next : (origins : Origins) (pending : Pending) (items : List Pending) (stop : ℕ) (those : List Open) (todo : List Sourced) (uses : List OpenUse) →
    StandsBy origins (Stands origins items) pending NextWord stop those todo uses → HasNext origins pending.traced items stop those todo uses
has_next origins pending items stop those [] uses stands = stands
has_next origins pending items stop those (word ∷ todo) uses stands = stands

opens_by : (origins : Origins) (items : List Pending) (pending : Pending) (stop : ℕ) (those : List Open) (todo : List Sourced) (uses : List OpenUse) (b c : Bool) → closes (word_of pending) ≡ c →
    StandsBy origins (Stands origins items) pending (cond b (cond c EndsCall EndsArgument) NextWord) stop those todo uses → opens (word_of pending) ≡ next_opens todo
opens_by origins items pending stop those [] uses false c closed stands = absurd stands
opens_by origins items pending stop those (word ∷ todo) uses false c closed (is, stands) = ap (λ (w : PlainWord). opens w) is.word
opens_by origins items pending stop those [] uses true true closed stands = closes_only (word_of pending) closed
opens_by origins items pending stop [] [] uses true false closed stands = absurd stands
opens_by origins items pending stop (open' ∷ those) [] [] true false closed stands = absurd stands
opens_by origins items pending stop (open' ∷ those) [] (use' ∷ uses) true false closed (next, others, waiting, split, stands) = separates_only (word_of pending) split
opens_by origins items pending stop [] (word ∷ todo) uses true true closed stands = absurd stands
opens_by origins items pending stop [] (word ∷ todo) uses true false closed stands = absurd stands
opens_by origins items pending stop (open' ∷ those) (word ∷ todo) uses true true closed stands = absurd stands
opens_by origins items pending stop (open' ∷ those) (word ∷ todo) uses true false closed stands = absurd stands

pub next_opens_is : (origins : Origins) (items : List Pending) (stop : ℕ) (those : List Open) (todo : List Sourced) (uses : List OpenUse) → Stands origins items stop those todo uses → opens_on_top items ≡ next_opens todo
next_opens_is origins [] stop those todo uses stands = ap (λ (l : List Sourced). next_opens l) (sym (stands_empty origins stop those todo uses stands).2)
next_opens_is origins (pending ∷ items) stop those todo uses stands =
    opens_by origins items pending stop those todo uses (stop == length items + 1) (closes (word_of pending)) refl stands

-- whether the first of the words is a `)`
abbrev pub next_closes : List Sourced → Bool
next_closes [] = false
next_closes (word ∷ words) = closes word.word

-- a word that is no end of an argument is the first one
first_closes : (origins : Origins) (items : List Pending) (pending : Pending) (stop : ℕ) (those : List Open) (todo : List Sourced) (uses : List OpenUse) → stop ≤ length items →
    Stands origins (pending ∷ items) stop those todo uses → next_closes todo ≡ closes (word_of pending)
first_closes origins items pending stop those todo uses less stands =
    by todo (subst (λ (r : Role). StandsBy origins (Stands origins items) pending r stop those todo uses) (next_role items stop (word_of pending) less) stands)
  where
    by : (l : List Sourced) → StandsBy origins (Stands origins items) pending NextWord stop those l uses → next_closes l ≡ closes (word_of pending)
    by [] stands' = absurd stands'
    by (word ∷ words) (is, stands') = ap (λ (w : PlainWord). closes w) (sym is.word)

call_by : (pending : Pending) (items : List Pending) (b : Bool) → closes (word_of pending) ≡ b → call_end 0 (pending ∷ items) ≡ cond b (length items + 1) (call_end (depth_after 0 (word_of pending)) items)
call_by pending items true closed = rw closed refl
call_by pending items false closed = rw closed refl

-- a use ends with its first word, where that word is a `)`
pub closed_at_once : (origins : Origins) (items : List Pending) (stop : ℕ) (those : List Open) (todo : List Sourced) (uses : List OpenUse) → Stands origins items stop those todo uses → stop < call_end 0 items →
    call_end 0 items ≡ length items → next_closes todo ≡ true
closed_at_once origins [] stop those todo uses stands inside is = absurd (omega arith)
closed_at_once origins (pending ∷ items) stop those todo uses stands inside is =
    first_closes origins items pending stop those todo uses (omega (arith, inside, is)) stands ∙ by (closes (word_of pending)) refl
  where
    by : (b : Bool) → closes (word_of pending) ≡ b → closes (word_of pending) ≡ true
    by true closed = closed
    by false closed = absurd (omega (arith, is, call_by pending items false closed, call_at_most (depth_after 0 (word_of pending)) items))

pub closed_later : (origins : Origins) (items : List Pending) (stop : ℕ) (those : List Open) (todo : List Sourced) (uses : List OpenUse) → Stands origins items stop those todo uses → stop < call_end 0 items →
    (call_end 0 items ≡ length items → ⊥) → next_closes todo ≡ false
closed_later origins [] stop those todo uses stands inside other = absurd (omega arith)
closed_later origins (pending ∷ items) stop those todo uses stands inside other = by (closes (word_of pending)) refl
  where
    by : (b : Bool) → closes (word_of pending) ≡ b → next_closes todo ≡ false
    by true closed = absurd (other (omega (arith, call_by pending items true closed)))
    by false closed =
        first_closes origins items pending stop those todo uses (omega (arith, inside, call_by pending items false closed, call_at_most (depth_after 0 (word_of pending)) items)) stands ∙ closed

-- ## Places of refusals

abbrev pub SamePlace : List Open → List OpenUse → Type 0
SamePlace [] [] = Unit {0}
SamePlace (open' ∷ those) (use' ∷ uses) = open'.place ≡ use'.place
SamePlace _ _ = ⊥

module _ (origins : Origins) (items : List Pending) (again : (stop : ℕ) (those : List Open) (todo : List Sourced) (uses : List OpenUse) → Stands origins items stop those todo uses → SamePlace those uses) where
  same_renewed : (those : List Open) (use' : OpenUse) (others : List (List Sourced)) (uses : List OpenUse) → SamePlace those (record use' { waiting = others } ∷ uses) → SamePlace those (use' ∷ uses)
  same_renewed [] use' others uses same = absurd same
  same_renewed (open' ∷ those) use' others uses same = same

  same_place_by : (pending : Pending) (role : Role) (stop : ℕ) (those : List Open) (todo : List Sourced) (uses : List OpenUse) → StandsBy origins (Stands origins items) pending role stop those todo uses → SamePlace those uses
  same_place_by pending NextWord stop those [] uses stands = absurd stands
  same_place_by pending NextWord stop those (word ∷ todo) uses (is, stands) = again stop those todo uses stands
  same_place_by pending EndsArgument stop (open' ∷ those) [] (use' ∷ uses) (next, others, waiting, split, stands) =
      same_renewed (open' ∷ those) use' others uses (again pending.exits.argument (open' ∷ those) next (record use' { waiting = others } ∷ uses) stands)
  same_place_by pending EndsArgument stop [] todo uses stands = absurd stands
  same_place_by pending EndsArgument stop (open' ∷ those) [] [] stands = absurd stands
  same_place_by pending EndsArgument stop (open' ∷ those) (word ∷ todo) uses stands = absurd stands
  same_place_by pending EndsCall stop (open' ∷ those) [] (use' ∷ uses) (waiting, is, stands) = is.place
  same_place_by pending EndsCall stop [] todo uses stands = absurd stands
  same_place_by pending EndsCall stop (open' ∷ those) (word ∷ todo) uses stands = absurd stands
  same_place_by pending EndsCall stop (open' ∷ those) [] [] stands = absurd stands

pub same_place : (origins : Origins) (items : List Pending) (stop : ℕ) (those : List Open) (todo : List Sourced) (uses : List OpenUse) → Stands origins items stop those todo uses → SamePlace those uses
same_place origins [] stop [] [] [] stands = tt
same_place origins [] stop [] [] (use' ∷ uses) stands = absurd stands
same_place origins [] stop [] (word ∷ todo) uses stands = absurd stands
same_place origins [] stop (open' ∷ those) todo uses stands = absurd stands
same_place origins (pending ∷ items) stop those todo uses stands =
    same_place_by origins items (λ stop' those' todo' uses' stands'. same_place origins items stop' those' todo' uses' stands') pending (role_of items stop (word_of pending)) stop those todo uses stands

place_by : (those : List Open) (uses : List OpenUse) (name : Traced) (word : Sourced) → plain_word name.word ≡ word.word → SamePlace those uses → place_among those name ≡ place_of_use (outer_of uses) word
place_by [] [] name word is same = ap (λ (w : PlainWord). w.at) is
place_by [] (use' ∷ uses) name word is same = absurd same
place_by (open' ∷ those) [] name word is same = absurd same
place_by (open' ∷ those) (use' ∷ uses) name word is same = same

-- the place of a refusal is that of the outermost use
pub place_is : (origins : Origins) (items : List Pending) (stop : ℕ) (those : List Open) (todo : List Sourced) (uses : List OpenUse) (name : Traced) (word : Sourced) → Stands origins items stop those todo uses →
    IsTraced origins name word → place_among those name ≡ place_of_use (outer_of uses) word
place_is origins items stop those todo uses name word stands is = place_by those uses name word is.word (same_place origins items stop those todo uses stands)
