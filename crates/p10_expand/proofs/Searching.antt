-- The first of some places at which there is a file.
use Rattle.std.proofs.Common.{◌≡◌, ℕ, zero, suc, ◌+◌, ◌<◌, ◌≤◌, List, [], ◌∷◌, ◌++◌, length, take, drop, get_or, Option, Some, None, ap, sym, ◌∙◌, subst, inl, inr, arith}
use Rattle.std.specs.Prelude.{All, Err}
use Rattle.std.proofs.lemmas.List.{take-append-drop, take_more, take_all, drop_more}
use Rattle.std.proofs.lemmas.List.Elements.{All-append}
use Rattle.p10_base.specs.Gathered.{count_of, with_file}
use Rattle.p10_world.specs.Files.{Named}
use Rattle.p10_lex.specs.declared.fault.LexFault.TheVariants as lexing
use Rattle.p10_lex.specs.Lexes.{Answers}
use Rattle.p10_expand.specs.declared.place.Place.{Place}
use Rattle.p10_expand.specs.declared.gathering.Gathering.{Gathering}
use Rattle.p10_expand.specs.declared.fault.Trouble.{Trouble}
use Rattle.p10_expand.specs.declared.fault.Trouble.TheVariants.{Read, Refused, Over, Memory}
use Rattle.p10_expand.specs.Finding.{name_at, is_header_place, IsThere, IsAbsent, IsFirst}
use Rattle.p10_expand.specs.Gathering.{IsAt, IsNew, HasRoom, present}
use Rattle.p10_expand.specs.private.Standing.{Keeps, AddsFile, IsFresh, IsLocated, Fails, FailsFirst, IsFound}
use Rattle.p10_expand.proofs.Standing.{text_there}

-- ## From a moment back to an earlier one at which the same files were gathered

fresh_back : (told : Option (List Named)) (old mid : Gathering) (place : Place) (text : List ℕ) → Keeps old mid → IsFresh told mid place text → IsFresh told old place text
fresh_back told old mid place text keeps fresh = record {
  new = subst (λ ks. IsNew ks place) keeps.known fresh.new;
  room = subst (λ ks. HasRoom ks place) keeps.known fresh.room;
  text_is = fresh.text_is;
}

adds_back : (old mid new : Gathering) (place : Place) (depth : ℕ) (text : List ℕ) (number : ℕ) → Keeps old mid → AddsFile mid new place depth text number → AddsFile old new place depth text number
adds_back old mid new place depth text number keeps adds = record {
  words = adds.words;
  includes = adds.includes;
  next = adds.next ∙ ap count_of keeps.sources;
  sources = adds.sources ∙ ap (λ g. with_file g (name_at place) text (is_header_place place) adds.words) keeps.sources;
  lexed = adds.lexed;
  known = adds.known ∙ ap (λ ks. ks ++ (record { place = place; depth = depth; includes = adds.includes }) ∷ []) keeps.known;
}

located_back : (told : Option (List Named)) (old mid new : Gathering) (place : Place) (depth number : ℕ) → Keeps old mid → IsLocated told mid new place depth number → IsLocated told old new place depth number
located_back told old mid new place depth number keeps located = record {
  there = located.there;
  how = elim located.how [
    | inl met ↦ inl (subst (λ ks. IsAt ks place number) keeps.known met.0, record { sources = met.1.sources ∙ keeps.sources; known = met.1.known ∙ keeps.known })
    | inr fresh ↦ inr (fresh.0, fresh_back told old mid place fresh.0 keeps fresh.1, adds_back old mid new place depth fresh.0 number keeps fresh.2)
  ];
}

fails_back : (told : Option (List Named)) (old mid new : Gathering) (place : Place) (trouble : Trouble) → Keeps old mid → Fails told mid new place trouble → Fails told old new place trouble
fails_back told old mid new place (Refused refusal) keeps (text, fresh, fails) =
    (text, fresh_back told old mid place text keeps fresh, (subst (λ n. Answers n text (Err (lexing.Refused refusal))) (ap count_of keeps.sources) fails.0, fails.1 ∙ ap (λ g. with_file g (name_at place) text (is_header_place place) []) keeps.sources))
fails_back told old mid new place (Over limit) keeps (inl (text, fresh, fails)) =
    inl (text, fresh_back told old mid place text keeps fresh, subst (λ n. Answers n text (Err (lexing.Over limit))) (ap count_of keeps.sources) fails)
fails_back told old mid new place (Over limit) keeps (inr (limit_is, full)) =
    inr (limit_is, record { name = full.name; place_is = full.place_is; new = subst (λ ks. IsNew ks place) keeps.known full.new; full = subst (λ ks. 256 ≤ present ks) keeps.known full.full; there = full.there })
fails_back told old mid new place Read keeps fails = tt
fails_back told old mid new place Memory keeps fails = tt

pub keeps_on : (old mid new : Gathering) → Keeps old mid → Keeps mid new → Keeps old new
keeps_on old mid new first second = record { sources = second.sources ∙ first.sources; known = second.known ∙ first.known }

-- ## The first place

one_more : (told : Option (List Named)) (place : Place) → IsAbsent told place → All (IsAbsent told) (place ∷ [])
one_more told place absent zero d below = absent
one_more told place absent (suc k) d below = absurd (omega (arith, below))

pub absent_more : (told : Option (List Named)) (places : List Place) (i : ℕ) (place : Place) → i < length places → place ≡ get_or places i place → All (IsAbsent told) (take i places) → IsAbsent told place →
    All (IsAbsent told) (take (i + 1) places)
absent_more told places i place within is none absent =
    subst (λ ps. All (IsAbsent told) ps) (ap (λ p. take i places ++ p ∷ []) is ∙ sym (take_more places i place within))
    (All-append (IsAbsent told) (take i places) (place ∷ []) none (one_more told place absent))

first_at : (told : Option (List Named)) (places : List Place) (i : ℕ) (place : Place) → i < length places → place ≡ get_or places i place → All (IsAbsent told) (take i places) → IsThere told place → IsFirst told places place
first_at told places i place within is none there = record {
  front = take i places;
  back = drop (i + 1) places;
  parts = sym (take-append-drop i places) ∙ (ap (λ ps. take i places ++ ps) (drop_more places i place within) ∙ ap (λ p. take i places ++ p ∷ drop (i + 1) places) (sym is));
  none = none;
  there = there;
}

found_first : (told : Option (List Named)) (old mid new : Gathering) (places : List Place) (i : ℕ) (place : Place) (depth number : ℕ) →
    i < length places → place ≡ get_or places i place → Keeps old mid → All (IsAbsent told) (take i places) → IsLocated told mid new place depth number →
    (p : Place) × IsFirst told places p × IsLocated told old new p depth number
found_first told old mid new places i place depth number within is keeps none located =
    (place, first_at told places i place within is none located.there, located_back told old mid new place depth number keeps located)

fails_first : (told : Option (List Named)) (old mid new : Gathering) (places : List Place) (i : ℕ) (place : Place) (trouble : Trouble) →
    i < length places → place ≡ get_or places i place → Keeps old mid → All (IsAbsent told) (take i places) → Fails told mid new place trouble → FailsFirst told old new places trouble
fails_first told old mid new places i place (Refused refusal) within is keeps none fails =
    (place, first_at told places i place within is none (text_there told place fails.0 fails.1.text_is), fails_back told old mid new place (Refused refusal) keeps fails)
fails_first told old mid new places i place (Over limit) within is keeps none (inl fails) =
    (place, first_at told places i place within is none (text_there told place fails.0 fails.1.text_is), fails_back told old mid new place (Over limit) keeps (inl fails))
fails_first told old mid new places i place (Over limit) within is keeps none (inr full) =
    (place, first_at told places i place within is none full.1.there, fails_back told old mid new place (Over limit) keeps (inr full))
fails_first told old mid new places i place Read within is keeps none fails = tt
fails_first told old mid new places i place Memory within is keeps none fails = tt

pub none_found : (told : Option (List Named)) (places : List Place) (i : ℕ) → length places ≤ i → All (IsAbsent told) (take i places) → All (IsAbsent told) places
none_found told places i all none = subst (λ ps. All (IsAbsent told) ps) (take_all i places all) none

found_none : (told : Option (List Named)) (old new : Gathering) (place : Place) (depth : ℕ) (found : Option ℕ) → IsFound told old new place depth found → found ≡ None → IsAbsent told place × Keeps old new
found_none told old new place depth found is none = subst (λ o. IsFound told old new place depth o) none is

found_some : (told : Option (List Named)) (old new : Gathering) (place : Place) (depth : ℕ) (found : Option ℕ) (number : ℕ) → IsFound told old new place depth found → found ≡ Some number → IsLocated told old new place depth number
found_some told old new place depth found number is some = subst (λ o. IsFound told old new place depth o) some is

-- ## The same, as the code says it: the told files are the same before and after

pub turn_fails : (was told : Option (List Named)) (old mid new : Gathering) (places : List Place) (i : ℕ) (place : Place) (trouble : Trouble) → was ≡ told →
    i < length places → place ≡ get_or places i place → Keeps old mid → All (IsAbsent told) (take i places) → Fails was mid new place trouble → FailsFirst told old new places trouble
turn_fails was told old mid new places i place trouble same within is keeps none fails =
    fails_first told old mid new places i place trouble within is keeps none (subst (λ h. Fails h mid new place trouble) same fails)

pub turn_finds : (was told : Option (List Named)) (old mid new : Gathering) (places : List Place) (i : ℕ) (place : Place) (depth : ℕ) (found : Option ℕ) (number : ℕ) → was ≡ told →
    i < length places → place ≡ get_or places i place → Keeps old mid → All (IsAbsent told) (take i places) → IsFound was mid new place depth found → found ≡ Some number →
    (p : Place) × IsFirst told places p × IsLocated told old new p depth number
turn_finds was told old mid new places i place depth found number same within is keeps none finds some =
    found_first told old mid new places i place depth number within is keeps none
    (found_some told mid new place depth found number (subst (λ h. IsFound h mid new place depth found) same finds) some)

pub turn_goes_on : (was told : Option (List Named)) (mid new : Gathering) (place : Place) (depth : ℕ) (found : Option ℕ) → was ≡ told → IsFound was mid new place depth found → found ≡ None → IsAbsent told place × Keeps mid new
turn_goes_on was told mid new place depth found same finds none =
    found_none told mid new place depth found (subst (λ h. IsFound h mid new place depth found) same finds) none
