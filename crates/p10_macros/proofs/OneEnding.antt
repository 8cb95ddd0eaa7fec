-- Words end in one way only.
use Rattle.std.proofs.Common.{◌≡◌, ℕ, ◌+◌, ◌<◌, List, ◌++◌, length, Option, sym, subst, ap, ◌∙◌, refl, arith}
use Rattle.p10_base.specs.declared.span.Span.{Span}
use Rattle.p10_direct.specs.Directives.{PlainMacro}
use Rattle.p10_macros.specs.Table.{Table}
use Rattle.p10_macros.specs.Uses.{Sourced, replacement}
use Rattle.p10_macros.specs.Endings.{Ending, Gives, after_word}
use Rattle.p10_macros.specs.Ends.{Ends, EndsAll, Follows, no_words, word_stays, use_refused, use_replaced, no_arguments, argument_given, argument_refused, argument_too_long, replacement_made, replacement_too_long, values_refused, values_too_long, WordsEndInOneWay}
use Rattle.p10_macros.proofs.Unfolding.{unfolds}

same_value : {A : Type 0} {value value' : A} {left left' : ℕ} → Gives value left ≡ Gives value' left' → value ≡ value'
same_value e = cc

same_left : {A : Type 0} {value value' : A} {left left' : ℕ} → Gives value left ≡ Gives value' left' → left ≡ left'
same_left e = cc

-- what a replacement costs leaves one number of words
same_remaining : (left left' cost cost' remaining remaining' : ℕ) → left ≡ cost + remaining → left' ≡ cost' + remaining' → left ≡ left' → cost ≡ cost' → remaining ≡ remaining'
same_remaining left left' cost cost' remaining remaining' e e' l c = omega arith

not_both : (left left' cost cost' remaining : ℕ) → left ≡ cost + remaining → left' < cost' → left ≡ left' → cost ≡ cost' → ⊥
not_both left left' cost cost' remaining e less l c = omega arith

mutual
  one_of_words : {table : Table} {outer : Option Span} {words : List Sourced} {left : ℕ} {this that : Ending (List Sourced)} →
      Ends table outer words left this → Ends table outer words left that → this ≡ that
  one_of_words no_words no_words = refl
  one_of_words (word_stays is ends gives) second =
      let (behind, others, gives') = unfolds second is in gives ∙ ap (after_word _) (one_of_words ends others) ∙ sym gives'
  one_of_words (use_refused is refused) second = refused ∙ sym (unfolds second is)
  one_of_words (use_replaced is ends follows) second =
      let (values, others, follows') = unfolds second is in one_of_use follows (one_of_arguments ends others) follows'

  one_of_arguments : {table : Table} {outer : Option Span} {arguments : List (List Sourced)} {left : ℕ} {this that : Ending (List (List Sourced))} →
      EndsAll table outer arguments left this → EndsAll table outer arguments left that → this ≡ that
  one_of_arguments no_arguments no_arguments = refl
  one_of_arguments {table} {outer} (argument_given {arguments = arguments} {others = behind} first others gives) (argument_given {others = behind'} first' others' gives') =
      let e : _ ≡ _ = one_of_words first first' in
      let rest : behind ≡ behind' = one_of_arguments others (subst (λ (middle : ℕ). EndsAll table outer arguments middle behind') (sym (same_left e)) others') in
      let value : _ ≡ _ = same_value e in
      cc
  one_of_arguments (argument_given first others gives) (argument_refused first') = let e : _ ≡ _ = one_of_words first first' in cc
  one_of_arguments (argument_given first others gives) (argument_too_long first') = let e : _ ≡ _ = one_of_words first first' in cc
  one_of_arguments (argument_refused first) (argument_given first' others' gives') = let e : _ ≡ _ = one_of_words first first' in cc
  one_of_arguments (argument_refused first) (argument_refused first') = let e : _ ≡ _ = one_of_words first first' in cc
  one_of_arguments (argument_refused first) (argument_too_long first') = let e : _ ≡ _ = one_of_words first first' in cc
  one_of_arguments (argument_too_long first) (argument_given first' others' gives') = let e : _ ≡ _ = one_of_words first first' in cc
  one_of_arguments (argument_too_long first) (argument_refused first') = let e : _ ≡ _ = one_of_words first first' in cc
  one_of_arguments (argument_too_long first) (argument_too_long first') = refl

  one_of_use : {table : Table} {outer : Option Span} {plain : PlainMacro} {name : Sourced} {rest : List Sourced} {values values' : Ending (List (List Sourced))} {this that : Ending (List Sourced)} →
      Follows table outer plain name rest values this → values ≡ values' → Follows table outer plain name rest values' that → this ≡ that
  one_of_use {table} {outer} {plain} {name} {rest} {that = that} (replacement_made {values = values} {remaining = remaining} costs ends) e (replacement_made {values = values'} {remaining = remaining'} costs' ends') =
      let same : values ≡ values' = same_value e in
      let made = λ (all : List (List Sourced)). replacement plain name all in
      let less : remaining ≡ remaining' = same_remaining _ _ _ _ remaining remaining' costs costs' (same_left e) (ap (λ (all : List (List Sourced)). length (made all)) same) in
      one_of_words ends (subst (λ (all : List (List Sourced)). Ends table outer (made all ++ rest) remaining that) (sym same) (subst (λ (k : ℕ). Ends table outer (made values' ++ rest) k that) (sym less) ends'))
  one_of_use {plain = plain} {name = name} (replacement_made costs ends) e (replacement_too_long less) =
      absurd (not_both _ _ _ _ _ costs less (same_left e) (ap (λ (all : List (List Sourced)). length (replacement plain name all)) (same_value e)))
  one_of_use (replacement_made costs ends) e values_refused = cc
  one_of_use (replacement_made costs ends) e values_too_long = cc
  one_of_use {plain = plain} {name = name} (replacement_too_long less) e (replacement_made costs' ends') =
      absurd (not_both _ _ _ _ _ costs' less (same_left (sym e)) (ap (λ (all : List (List Sourced)). length (replacement plain name all)) (same_value (sym e))))
  one_of_use (replacement_too_long less) e (replacement_too_long less') = refl
  one_of_use (replacement_too_long less) e values_refused = cc
  one_of_use (replacement_too_long less) e values_too_long = cc
  one_of_use values_refused e (replacement_made costs' ends') = cc
  one_of_use values_refused e (replacement_too_long less) = cc
  one_of_use values_refused e values_refused = cc
  one_of_use values_refused e values_too_long = cc
  one_of_use values_too_long e (replacement_made costs' ends') = cc
  one_of_use values_too_long e (replacement_too_long less) = cc
  one_of_use values_too_long e values_refused = cc
  one_of_use values_too_long e values_too_long = refl

pub one_ending : WordsEndInOneWay
one_ending table outer words left this that ends others = one_of_words ends others
