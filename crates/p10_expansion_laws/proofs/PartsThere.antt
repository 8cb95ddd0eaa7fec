-- Words are cut into lines, and whether they are a condition, and which, is decided.
use Rattle.std.proofs.Common.{◌≡◌, ℕ, ℤ, zero, suc, ◌<◌, ◌≤◌, List, [], ◌∷◌, length, map, Bool, true, false, not, codes, refl, sym, ◌∙◌, ap, subst, arith, inl, inr, ◌⊎◌, Option, Some, None, option_map, IfSome, IfNone}
use Rattle.std.proofs.lemmas.Option.{same_Some}
use Rattle.std.proofs.lemmas.Bool.{cases_order}
use Rattle.p10_base.specs.declared.word.Word.{Word}
use Rattle.p10_base.specs.Words.{PlainWord, plain_word, is_punctuator}
use Rattle.p10_direct.specs.Tokens.{tokens_of}
use Rattle.p10_direct.specs.Lines.{Piece, DirectiveLine, TextRun, begins_directive, AreCut}
use Rattle.p10_direct.specs.Cutting.{before, behind}
use Rattle.p10_direct.specs.Values.{Value, is_zero}
use Rattle.p10_direct.specs.Conditions.{depth_of, HasTruth}
use Rattle.p10_direct.specs.private.Climbing.{values, Found, climb, number_of}
use Rattle.p10_direct.specs.private.Parts.{from}
use Rattle.p10_direct.proofs.Cuts.{joined, before_fails, behind_passes, behind_shorter}
use Rattle.p10_direct.proofs.Trees.{result, climb_again}
use Rattle.p10_direct.proofs.Truths.{truth_holds, truth_fails}

-- ## Lines

cut_word : (word : PlainWord) (words : List PlainWord) (directive : Bool) → is_punctuator (codes "#") word ≡ directive → ((rest : List PlainWord) → length rest ≤ length words → (pieces : List Piece) × AreCut rest pieces) →
    (pieces : List Piece) × AreCut (word ∷ words) pieces
cut_word word words true is others =
    let rest = behind (λ w. w.first) words in
    let more = others rest (behind_shorter (λ w. w.first) words) in (
      DirectiveLine (word ∷ before (λ w. w.first) words) ∷ more.0,
      (rest, ap (λ ws. word ∷ ws) (sym (joined (λ w. w.first) words)), (is, before_fails (λ w. w.first) words, behind_passes (λ w. w.first) words), more.1),
    )
cut_word word words false is others =
    let rest = behind begins_directive words in
    let more = others rest (behind_shorter begins_directive words) in (
      TextRun (word ∷ before begins_directive words) ∷ more.0,
      (rest, ap (λ ws. word ∷ ws) (sym (joined begins_directive words)), (is, before_fails begins_directive words, behind_passes begins_directive words), more.1),
    )

cut_up_to : (size : ℕ) (words : List PlainWord) → length words ≤ size → (pieces : List Piece) × AreCut words pieces
cut_up_to size [] p = ([], refl)
cut_up_to zero (word ∷ words) p = absurd (omega (arith, p))
cut_up_to (suc size) (word ∷ words) p =
    cut_word word words (is_punctuator (codes "#") word) refl (λ rest less. cut_up_to size rest (omega (arith, p, less)))

-- words are cut into lines
pub cut_there : (words : List PlainWord) → (pieces : List Piece) × AreCut words pieces
cut_there words = cut_up_to (length words) words (omega arith)

-- ## Conditions

-- the words are a condition with a truth, or none with any
abbrev pub IsJudged : List PlainWord → Type 0
IsJudged words = ((truth : Bool) × HasTruth words truth) ⊎ ((truth : Bool) → HasTruth words truth → ⊥)

judged_by : (words : List PlainWord) (answer : Option Bool) → IfSome answer (HasTruth words) → IfNone answer ((truth : Bool) → HasTruth words truth → ⊥) → IsJudged words
judged_by words (Some truth) some none = inl (truth, some)
judged_by words None some none = inr none

module _ (words : List Word) where
  -- what the code reads of them
  abbrev read : Option (Found Value)
  read = climb values 512 0 (from 0 words)

  all_words : from 0 words ≡ tokens_of (map plain_word words)
  unfolding from
  all_words = refl

  -- a condition is read again, and isn't too deep
  read_again : (truth : Bool) (h : HasTruth (map plain_word words) truth) → read ≡ Some (result values h.tree [])
  read_again truth h = ap (climb values 512 0) (all_words ∙ h.spells.spelled) ∙ climb_again values h.tree 512 h.spells.formed h.shallow

  shallow_judged : IfSome read (λ f. f.depth ≤ 512) → IsJudged (map plain_word words)
  shallow_judged shallow =
      let number : Option ℤ = number_of read in
      let answer : Option Bool = option_map (λ n. not (is_zero n)) number in
      judged_by (map plain_word words) answer (truth_holds words number answer refl refl shallow) (truth_fails words number answer refl refl)

  deep_judged : (f : Found Value) → read ≡ Some f → 512 < f.depth → IsJudged (map plain_word words)
  deep_judged f is deep =
      inr (λ truth h.
      let same : f ≡ result values h.tree [] = same_Some f (result values h.tree []) (sym is ∙ read_again truth h) in
      let depth : f.depth ≡ depth_of h.tree = ap (λ (f : Found Value). f.depth) same in
      omega (arith, deep, depth, h.shallow))

  judged_at : (o : Option (Found Value)) → read ≡ o → IsJudged (map plain_word words)
  judged_at None is = shallow_judged (subst (λ o. IfSome o (λ f. f.depth ≤ 512)) (sym is) tt)
  judged_at (Some f) is =
      elim (cases_order f.depth 512) [
        | inl same ↦ shallow_judged (subst (λ o. IfSome o (λ f. f.depth ≤ 512)) (sym is) (omega (arith, same)))
        | inr apart ↦ elim apart [
          | inl less ↦ shallow_judged (subst (λ o. IfSome o (λ f. f.depth ≤ 512)) (sym is) (omega (arith, less)))
          | inr more ↦ deep_judged f is more
        ]
      ]

-- a word of the code, wherever its text lies
abbrev word_of : PlainWord → Word
word_of word = record { kind = word.kind; text = record { ref_ptr = (0, 0); now = word.text }; at = word.at; first = word.first }

plain_again : (words : List PlainWord) → map plain_word (map word_of words) ≡ words
plain_again [] = refl
plain_again (word ∷ words) = ap (λ others. word ∷ others) (plain_again words)

-- whether words are a condition, and which truth it has, is decided
pub judged_there : (words : List PlainWord) → IsJudged words
judged_there words = subst IsJudged (plain_again words) (judged_at (map word_of words) (climb values 512 0 (from 0 (map word_of words))) refl)
