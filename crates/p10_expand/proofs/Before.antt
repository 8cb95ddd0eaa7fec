-- The words before a refused use of a macro have a replacement.
use Rattle.std.proofs.Common.{◌≡◌, ℕ, suc, ◌<◌, ◌≤◌, ◌==◌, List, [], ◌∷◌, ◌++◌, map, Bool, true, false, ◌&&◌, cond, None, refl, sym, subst, ap, ◌∙◌, arith}
use Rattle.std.proofs.lemmas.Bool.Decides.{nat_tests}
use Rattle.p10_base.specs.declared.span.Span.{Span}
use Rattle.p10_base.specs.Words.{PlainWord, plain_word}
use Rattle.p10_base.specs.declared.report.Refusal.{Refusal}
use Rattle.p10_base.specs.declared.report.Family.{Family}
use Rattle.p10_macros.specs.declared.replaced.Replaced.{Replaced}
use Rattle.p10_macros.specs.declared.replaced.ReplaceFault.TheVariants as fault
use Rattle.p10_macros.specs.Table.{Table}
use Rattle.p10_macros.specs.Uses.{Sourced, written, sourced_words}
use Rattle.p10_macros.specs.Endings.{Ending, Gives, Refused, TooMany}
use Rattle.p10_macros.specs.Ends.{Ends}
use Rattle.p10_macros.specs.Answers.{IsReplaced, IsFault}
use Rattle.p10_macros.specs.Fronts.{FrontsGive}
use Rattle.p10_macros.proofs.OneEnding.{one_ending}
use Rattle.p10_expand.specs.Conditionals.{RunEnds, refusal_of}
use Rattle.p10_expand.specs.Obeying.{State, RefusedBy, StopsWith, begins_at, words_before, with_words, TextGives}
use Rattle.p10_expand.specs.private.Running.{GivesBefore}
use Rattle.p10_expand.specs.Before.{ComeInOrder, WordsBeforeGive}

-- words of which one is split off
record SplitAt (words : List PlainWord) (front : List Sourced) (name : Sourced) : Type 0 where
  before : List PlainWord
  word : PlainWord
  behind : List PlainWord
  is : words ≡ before ++ word ∷ behind
  front_is : front ≡ map written before
  name_is : name ≡ written word

split : (words : List PlainWord) (front : List Sourced) (name : Sourced) (behind : List Sourced) → map written words ≡ front ++ name ∷ behind → SplitAt words front name
split [] [] name behind is = cc
split [] (other ∷ front) name behind is = cc
split (word ∷ words) [] name behind is = let same : written word ≡ name = cc in record { before = []; word = word; behind = words; is = refl; front_is = refl; name_is = sym same }
split (word ∷ words) (other ∷ front) name behind is =
    let same : written word ≡ other = cc in
    let rest = split words front name behind (let e : map written words ≡ front ++ name ∷ behind = cc in e) in
    record {
      before = word ∷ rest.before;
      word = rest.word;
      behind = rest.behind;
      is = ap (λ (l : List PlainWord). word ∷ l) rest.is;
      front_is = ap (λ (s : Sourced). s ∷ front) (sym same) ∙ ap (λ (l : List Sourced). written word ∷ l) rest.front_is;
      name_is = rest.name_is;
    }

same_number : (n : ℕ) → (n == n) ≡ true
same_number n = grind (arith, nat_tests)

other_number : (m n : ℕ) → m < n → (m == n) ≡ false
other_number m n less = grind (arith, nat_tests)

no_and : (b c : Bool) → c ≡ false → (b && c) ≡ false
no_and true c e = e
no_and false c e = refl

-- the word at a place is found there, since the words before it begin before it
found_at : (place : ℕ) (before : List PlainWord) (word : PlainWord) (behind : List PlainWord) → ComeInOrder place (before ++ word ∷ behind) → (place ≤ word.at.start) × (words_before word.at (before ++ word ∷ behind) ≡ before)
found_at place [] word behind order = (
  order.0,
  ap (λ (b : Bool). cond (b && (word.at.start == word.at.start)) [] (word ∷ words_before word.at behind)) (same_number word.at.file)
      ∙ ap (λ (b : Bool). cond b [] (word ∷ words_before word.at behind)) (same_number word.at.start),
)
found_at place (first ∷ before) word behind order =
    let (less, rest) = found_at (suc first.at.start) before word behind order.1 in
    let earlier : first.at.start < word.at.start = omega (arith, less) in
    let no' : begins_at word.at first ≡ false = no_and (first.at.file == word.at.file) (first.at.start == word.at.start) (other_number first.at.start word.at.start earlier) in (
      omega (arith, order.0, earlier),
      ap (λ (b : Bool). cond b [] (first ∷ words_before word.at (before ++ word ∷ behind))) no' ∙ ap (λ (l : List PlainWord). first ∷ l) rest,
    )

pub words_before_give : FrontsGive → WordsBeforeGive
words_before_give fronts macros words left number at order ends =
    let stands = fronts macros (map written words) left number at ends in
    let here : SplitAt words stands.front stands.name = split words stands.front stands.name stands.rest stands.is in
    let place' : here.word.at ≡ at = ap (λ (s : Sourced). s.word.at) (sym here.name_is) ∙ stands.place in
    let found = found_at 0 here.before here.word here.behind (subst (λ (l : List PlainWord). ComeInOrder 0 l) here.is order) in
    let before : words_before at words ≡ here.before = ap (λ (a : Span). words_before a words) (sym place') ∙ ap (λ (l : List PlainWord). words_before here.word.at l) here.is ∙ found.1 in (
      stands.made,
      stands.remaining,
      subst (λ (l : List PlainWord). Ends macros None (map written l) left (Gives stands.made stands.remaining)) (sym before)
          (subst (λ (l : List Sourced). Ends macros None l left (Gives stands.made stands.remaining)) here.front_is stands.gives),
    )

-- words that have a replacement
module _ (macros : Table) (taken words : List PlainWord) (left : ℕ) (same : taken ≡ words) (made : List Sourced) (remaining : ℕ) (gives : RunEnds macros words left (Gives made remaining)) where
  ends_so : (ending : Ending (List Sourced)) → RunEnds macros taken left ending → ending ≡ Gives made remaining
  ends_so ending ends = one_ending macros None (map written words) left ending (Gives made remaining) (subst (λ (l : List PlainWord). RunEnds macros l left ending) same ends) gives

  -- give it,
  pub replaced_so : (replaced : Replaced) → IsReplaced macros taken left replaced → map plain_word replaced.words.items ≡ sourced_words made
  replaced_so replaced (other, ends, is) =
      let so : Gives other replaced.left ≡ Gives made remaining = ends_so (Gives other replaced.left) ends in
      let these : other ≡ made = cc in
      sym is ∙ ap sourced_words these

  -- aren't refused,
  pub not_refused : (refusal : Refusal) → IsFault macros taken left (fault.Refused refusal) → ⊥
  not_refused refusal (family, ends) =
      let so : Refused refusal.number refusal.span ≡ Gives made remaining = ends_so (Refused refusal.number refusal.span) ends in
      cc

  -- and don't give too many words
  pub not_too_many : IsFault macros taken left fault.TooMany → ⊥
  not_too_many ends =
      let so : TooMany ≡ Gives made remaining = ends_so TooMany ends in
      cc

-- ## The answer

-- a run that is refused at a place, after what the words before it give
pub refused_so : (s new : State) (words : List PlainWord) (refusal : Refusal) → FrontsGive → ComeInOrder 0 words → IsFault s.macros words s.left (fault.Refused refusal) → GivesBefore s (words_before refusal.span words) new → TextGives s words (StopsWith (RefusedBy new refusal))
refused_so s new words refusal fronts order (family, ends) given =
    let (made, remaining, gives) = words_before_give fronts s.macros words s.left refusal.number refusal.span order ends in
    let state : new ≡ with_words s (sourced_words made) = given made remaining gives in
    let is : refusal ≡ refusal_of refusal.number refusal.span = ap (λ (f : Family). let r : Refusal = record { family = f; number = refusal.number; span = refusal.span } in r) family in
    (Refused refusal.number refusal.span, ends, (made, remaining, gives, ap (λ (n : State). StopsWith (RefusedBy n refusal)) state ∙ ap (λ (r : Refusal). StopsWith (RefusedBy (with_words s (sourced_words made)) r)) is))
