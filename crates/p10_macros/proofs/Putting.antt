-- The words of a replacement are put on top from the last one to the first.
use Rattle.std.proofs.Common.{◌≡◌, ℕ, zero, suc, ◌+◌, ◌-◌, ◌<◌, ◌≤◌, List, [], ◌∷◌, ◌++◌, length, map, drop, slice_index_or, Option, Some, None, Vec, Global, Bor, refl, sym, subst, ap, ◌∙◌, arith, append_assoc, length-append, drop-cons}
use Rattle.std.specs.Prelude.{reverse, IfSome, All}
use Rattle.std.specs.List.{flat_map, slice_get}
use Rattle.std.proofs.lemmas.List.{reverse-append, map-append}
use Rattle.p10_base.specs.declared.span.Span.{Span}
use Rattle.p10_base.specs.declared.word.Word.{Word}
use Rattle.p10_base.specs.Words.{Text, plain_word}
use Rattle.p10_direct.specs.Directives.{PlainMacro}
use Rattle.p10_macros.specs.declared.origin.Origins.{Origins}
use Rattle.p10_macros.specs.declared.pending.Traced.{Traced}
use Rattle.p10_macros.specs.declared.pending.Pending.{Pending}
use Rattle.p10_macros.specs.declared.replaced.ReplaceFault.{ReplaceFault}
use Rattle.p10_macros.specs.declared.replaced.ReplaceFault.TheVariants as fault
use Rattle.p10_macros.specs.Uses.{Sourced, texts_of}
use Rattle.p10_macros.specs.private.Places.{at_place, place_named, part_there, chosen_parts, chosen_count, chosen_place}
use Rattle.p10_macros.specs.private.Traces.{AreTraced}
use Rattle.p10_macros.specs.private.Putting.{fresh, IsPushed, PutsTraced, part_of, value_or_word, Short}

pub short_by : (f : ReplaceFault) (P Q : Type 0) → Short f P → (P → Q) → Short f Q
short_by (fault.Refused refusal) P Q short so = short
short_by fault.TooMany P Q short so = so short
short_by fault.Memory P Q short so = short

-- ## Words that are put

pub puts_one : (before behind : List Pending) (traced : Traced) (left remaining : ℕ) → IsPushed before behind traced → left ≡ remaining + 1 → PutsTraced before behind (traced ∷ []) left remaining
puts_one before behind traced left remaining pushed costs = record {
  items = pushed.last ∷ [];
  pending = ap (λ (l : List Pending). reverse l) pushed.is ∙ reverse-append before (pushed.last ∷ []);
  put = ap (λ (t : Traced). t ∷ []) pushed.of;
  costs = omega (arith, costs);
}

pub puts_none : (before : List Pending) (words : List Traced) (left : ℕ) → words ≡ [] → PutsTraced before before words left left
puts_none before words left none = subst (λ (l : List Traced). PutsTraced before before l left left) (sym none) (record { items = []; pending = refl; put = refl; costs = omega arith })

pub puts_along : (before behind : List Pending) (these those : List Traced) (left remaining : ℕ) → these ≡ those → PutsTraced before behind these left remaining → PutsTraced before behind those left remaining
puts_along before behind these those left remaining e puts = subst (λ (l : List Traced). PutsTraced before behind l left remaining) e puts

pub short_along : (these those : List Traced) (left : ℕ) (f : ReplaceFault) → these ≡ those → Short f (left < length these) → Short f (left < length those)
short_along these those left f e short = subst (λ (l : List Traced). Short f (left < length l)) e short

-- words that are put before others
pub puts_more : (first second third : List Pending) (front words both : List Traced) (all left remaining : ℕ) → both ≡ front ++ words →
    PutsTraced first second words all left → PutsTraced second third front left remaining → PutsTraced first third both all remaining
puts_more first second third front words both all left remaining e these those = record {
  items = those.items ++ these.items;
  pending = those.pending ∙ ap (λ (l : List Pending). those.items ++ l) these.pending ∙ sym (append_assoc those.items these.items (reverse first));
  put = map-append (λ (p : Pending). p.traced) those.items these.items ∙ ap (λ (l : List Traced). l ++ map (λ (p : Pending). p.traced) these.items) those.put ∙ ap (λ (l : List Traced). front ++ l) these.put ∙ sym e;
  costs = omega (arith, these.costs, those.costs, length-append front words, ap length e);
}

-- the elements from a place on are the one there and those after it
pub drop_from : {A : Type 0} (xs : List A) (place : ℕ) (none : A) → 0 < place → place ≤ length xs → drop (place - 1) xs ≡ slice_index_or xs (place - 1) none ∷ drop place xs
drop_from {A = A} xs place none more less =
    let up : suc (place - 1) ≡ place = omega arith in
    drop-cons xs (place - 1) none (omega arith) ∙ ap (λ (n : ℕ). slice_index_or xs (place - 1) none ∷ drop n xs) up

flat_less : {A : Type 0} (part : A → List Traced) (xs : List A) (index : ℕ) → length (flat_map part (drop index xs)) ≤ length (flat_map part xs)
flat_less part xs zero = omega arith
flat_less part [] (suc index) = omega arith
flat_less part (x ∷ xs) (suc index) = omega (arith, flat_less part xs index, length-append (part x) (flat_map part xs))

-- ## Chosen words

-- what comes of the chosen words from this index on
abbrev pub parts_behind : (Word → List Traced) → List Word → Option (Vec ℕ Global) → ℕ → List Traced
parts_behind part words None index = flat_map part (drop index words)
parts_behind part words (Some places) index = flat_map (λ (place : ℕ). part_there part (slice_get words place)) (drop index places.items)

module _ (part : Word → List Traced) (words : List Word) where
  there : (words' : List Word) (place : ℕ) (none : Word) → place < length words' → slice_get words' place ≡ Some (slice_index_or words' place none)
  there [] place none less = absurd (omega arith)
  there (word ∷ words') zero none less = refl
  there (word ∷ words') (suc place) none less = there words' place none (omega arith)

  -- one more
  pub behind_one : (chosen : Option (Vec ℕ Global)) (index : ℕ) (none : Word) → 0 < index → index ≤ chosen_count words chosen → IfSome chosen (λ places. All (λ place. place < length words) places.items) →
      parts_behind part words chosen (index - 1) ≡ part (slice_index_or words (chosen_place chosen (index - 1)) none) ++ parts_behind part words chosen index
  behind_one None index none more less within = ap (λ (l : List Word). flat_map part l) (drop_from words index none more less)
  behind_one (Some places) index none more less within =
      let place : ℕ = slice_index_or places.items (index - 1) 0 in
      ap (λ (l : List ℕ). flat_map (λ (p : ℕ). part_there part (slice_get words p)) l) (drop_from places.items index 0 more less)
      ∙ ap (λ (o : Option Word). part_there part o ++ parts_behind part words (Some places) index) (there words place none (within (index - 1) 0 (omega arith)))

  -- what comes of those after is no more than what comes of all
  behind_less : (chosen : Option (Vec ℕ Global)) (index : ℕ) → length (parts_behind part words chosen index) ≤ length (chosen_parts part words chosen)
  behind_less None index = flat_less part words index
  behind_less (Some places) index = flat_less (λ (place : ℕ). part_there part (slice_get words place)) places.items index

-- ## The replacement list

-- what is put for a word is what stands for it
pub part_is : (plain : PlainMacro) (values : List (List Traced)) (at : Span) (from : ℕ) (words : List Word) (place place' : ℕ) (none : Word) (parameter : Option ℕ) (value : Option (List Traced)) (traced : Traced) → place' ≡ place →
    parameter ≡ place_named (texts_of plain.parameters) (plain_word (slice_index_or words place' none)) → value ≡ at_place parameter values → traced ≡ fresh (slice_index_or words place' none) at from →
    value_or_word value traced ≡ part_of plain values at from (slice_index_or words place none)
part_is plain values at from words place place' none parameter value traced same named there is =
    let word : Word = slice_index_or words place' none in
    ap (λ (v : Option (List Traced)). value_or_word v traced) (there ∙ ap (λ (p : Option ℕ). at_place p values) named)
    ∙ ap (λ (t : Traced). value_or_word (at_place (place_named (texts_of plain.parameters) (plain_word word)) values) t) is
    ∙ ap (λ (n : ℕ). part_of plain values at from (slice_index_or words n none)) same

module _ (part : Word → List Traced) (words : List Word) (chosen : Option (Vec ℕ Global)) where
  pub list_more : (first second third : List Pending) (index : ℕ) (none : Word) (put : List Traced) (all left remaining : ℕ) → 0 < index → index ≤ chosen_count words chosen →
      IfSome chosen (λ places. All (λ place. place < length words) places.items) → put ≡ part (slice_index_or words (chosen_place chosen (index - 1)) none) →
      PutsTraced first second (parts_behind part words chosen index) all left → PutsTraced second third put left remaining → PutsTraced first third (parts_behind part words chosen (index - 1)) all remaining
  list_more first second third index none put all left remaining more less within is these one =
      puts_more first second third put (parts_behind part words chosen index) (parts_behind part words chosen (index - 1)) all left remaining
      (behind_one part words chosen index none more less within ∙ ap (λ (l : List Traced). l ++ parts_behind part words chosen index) (sym is)) these one

  -- where the words that may still be made are too few for one of the parts, they are for the list
  pub list_short : (before behind : List Pending) (index : ℕ) (none : Word) (put : List Traced) (all left : ℕ) (f : ReplaceFault) → 0 < index → index ≤ chosen_count words chosen →
      IfSome chosen (λ places. All (λ place. place < length words) places.items) → put ≡ part (slice_index_or words (chosen_place chosen (index - 1)) none) →
      PutsTraced before behind (parts_behind part words chosen index) all left → Short f (left < length put) → Short f (all < length (chosen_parts part words chosen))
  list_short before behind index none put all left f more less within is puts short =
      let behind' = parts_behind part words chosen index in
      let one : parts_behind part words chosen (index - 1) ≡ put ++ behind' = behind_one part words chosen index none more less within ∙ ap (λ (l : List Traced). l ++ behind') (sym is) in
      short_by f (left < length put) (all < length (chosen_parts part words chosen)) short
      (λ wanting. omega (arith, wanting, puts.costs, ap length one, length-append put behind', behind_less part words chosen (index - 1)))

-- ## The replacement

-- the value of a parameter: its words, or there is none
abbrev pub IsValue : Origins → Option (List Traced) → Option (List Sourced) → Type 0
IsValue origins None None = Unit {0}
IsValue origins (Some value) (Some words) = AreTraced origins value words
IsValue origins _ _ = ⊥

abbrev pub texts_at : List (Bor Text) → List Text
texts_at params = map (λ (text : Bor Text). text.now) params
