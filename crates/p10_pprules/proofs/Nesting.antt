-- Groups in brackets are found where they end, and what is found is a group.
use Rattle.std.proofs.Common.{◌≡◌, List, [], ◌∷◌, ◌++◌, Bool, true, false, cond, bytes_eq, codes, Option, Some, None, option_and_then, refl, sym, ◌∙◌, ap, subst, append_assoc}
use Rattle.std.proofs.lemmas.List.{append-nil}
use Rattle.p10_base.specs.Words.{PlainWord, Text, is_punctuator}
use Rattle.p10_direct.proofs.Definitions.{other_punctuator}
use Rattle.p10_pprules.proofs.Booleans.{or_left, or_right, neither, not_both_ways}
use Rattle.p10_pprules.specs.declared.bracket.Bracket.{Bracket}
use Rattle.p10_pprules.specs.declared.bracket.Bracket.TheVariants.{Round, Square, Curly}
use Rattle.p10_pprules.specs.declared.bracket.Side.{Side}
use Rattle.p10_pprules.specs.declared.bracket.Side.TheVariants.{Opening, Closing, Neither}
use Rattle.p10_pprules.specs.Groups.{opens, closes, is_bracket, IsBalanced, empty, single, pair, IsGroup}
use Rattle.p10_pprules.specs.private.Scanning.{side_of, is_same, open_behind, behind_open, behind_group, is_end, is_one_group}

-- ## What words are to groups

-- a word is what it is said to be
abbrev SideIs : PlainWord → Side → Type 0
SideIs word (Opening bracket) = opens bracket word ≡ true
SideIs word (Closing bracket) = closes bracket word ≡ true
SideIs word Neither = is_bracket word ≡ false

choose : (word : PlainWord) (test : Bool) (first second : Side) → (test ≡ true → SideIs word first) → (test ≡ false → SideIs word second) → SideIs word (cond test first second)
choose word test first second on off =
    elim test as (λ b. test ≡ b → SideIs word (cond b first second)) [ true ↦ on | false ↦ off ] refl

side_is : (word : PlainWord) → SideIs word (side_of word)
side_is word =
    choose word (opens Round word) _ _ (λ e. e) (λ a.
    choose word (opens Square word) _ _ (λ e. e) (λ b.
    choose word (opens Curly word) _ _ (λ e. e) (λ c.
    choose word (closes Round word) _ _ (λ e. e) (λ d.
    choose word (closes Square word) _ _ (λ e. e) (λ f.
    choose word (closes Curly word) _ _ (λ e. e) (λ g.
    neither _ _ (neither _ _ (neither _ _ (neither _ _ (neither _ _ a b) c) d) f) g))))))

-- a word has one side
one_text : (text other : Text) (word : PlainWord) → bytes_eq text other ≡ false → is_punctuator text word ≡ true → is_punctuator other word ≡ true → ⊥
one_text text other word differ first second = not_both_ways (is_punctuator other word) second (other_punctuator text other word differ first)

opening_is : (bracket : Bracket) (word : PlainWord) (side : Side) → opens bracket word ≡ true → SideIs word side → side ≡ Opening bracket
opening_is Round word (Opening Round) e is = refl
opening_is Round word (Opening Square) e is = absurd (one_text (codes "(") (codes "[") word refl e is)
opening_is Round word (Opening Curly) e is = absurd (one_text (codes "(") (codes "{") word refl e is)
opening_is Round word (Closing Round) e is = absurd (one_text (codes "(") (codes ")") word refl e is)
opening_is Round word (Closing Square) e is = absurd (one_text (codes "(") (codes "]") word refl e is)
opening_is Round word (Closing Curly) e is = absurd (one_text (codes "(") (codes "}") word refl e is)
opening_is Round word Neither e is = absurd (not_both_ways (is_bracket word) (or_left _ _ (or_left _ _ (or_left _ _ (or_left _ _ (or_left _ _ e))))) is)
opening_is Square word (Opening Round) e is = absurd (one_text (codes "[") (codes "(") word refl e is)
opening_is Square word (Opening Square) e is = refl
opening_is Square word (Opening Curly) e is = absurd (one_text (codes "[") (codes "{") word refl e is)
opening_is Square word (Closing Round) e is = absurd (one_text (codes "[") (codes ")") word refl e is)
opening_is Square word (Closing Square) e is = absurd (one_text (codes "[") (codes "]") word refl e is)
opening_is Square word (Closing Curly) e is = absurd (one_text (codes "[") (codes "}") word refl e is)
opening_is Square word Neither e is = absurd (not_both_ways (is_bracket word) (or_left _ _ (or_left _ _ (or_left _ _ (or_left _ _ (or_right _ _ e))))) is)
opening_is Curly word (Opening Round) e is = absurd (one_text (codes "{") (codes "(") word refl e is)
opening_is Curly word (Opening Square) e is = absurd (one_text (codes "{") (codes "[") word refl e is)
opening_is Curly word (Opening Curly) e is = refl
opening_is Curly word (Closing Round) e is = absurd (one_text (codes "{") (codes ")") word refl e is)
opening_is Curly word (Closing Square) e is = absurd (one_text (codes "{") (codes "]") word refl e is)
opening_is Curly word (Closing Curly) e is = absurd (one_text (codes "{") (codes "}") word refl e is)
opening_is Curly word Neither e is = absurd (not_both_ways (is_bracket word) (or_left _ _ (or_left _ _ (or_left _ _ (or_right _ _ e)))) is)

closing_is : (bracket : Bracket) (word : PlainWord) (side : Side) → closes bracket word ≡ true → SideIs word side → side ≡ Closing bracket
closing_is Round word (Opening Round) e is = absurd (one_text (codes ")") (codes "(") word refl e is)
closing_is Round word (Opening Square) e is = absurd (one_text (codes ")") (codes "[") word refl e is)
closing_is Round word (Opening Curly) e is = absurd (one_text (codes ")") (codes "{") word refl e is)
closing_is Round word (Closing Round) e is = refl
closing_is Round word (Closing Square) e is = absurd (one_text (codes ")") (codes "]") word refl e is)
closing_is Round word (Closing Curly) e is = absurd (one_text (codes ")") (codes "}") word refl e is)
closing_is Round word Neither e is = absurd (not_both_ways (is_bracket word) (or_left _ _ (or_left _ _ (or_right _ _ e))) is)
closing_is Square word (Opening Round) e is = absurd (one_text (codes "]") (codes "(") word refl e is)
closing_is Square word (Opening Square) e is = absurd (one_text (codes "]") (codes "[") word refl e is)
closing_is Square word (Opening Curly) e is = absurd (one_text (codes "]") (codes "{") word refl e is)
closing_is Square word (Closing Round) e is = absurd (one_text (codes "]") (codes ")") word refl e is)
closing_is Square word (Closing Square) e is = refl
closing_is Square word (Closing Curly) e is = absurd (one_text (codes "]") (codes "}") word refl e is)
closing_is Square word Neither e is = absurd (not_both_ways (is_bracket word) (or_left _ _ (or_right _ _ e)) is)
closing_is Curly word (Opening Round) e is = absurd (one_text (codes "}") (codes "(") word refl e is)
closing_is Curly word (Opening Square) e is = absurd (one_text (codes "}") (codes "[") word refl e is)
closing_is Curly word (Opening Curly) e is = absurd (one_text (codes "}") (codes "{") word refl e is)
closing_is Curly word (Closing Round) e is = absurd (one_text (codes "}") (codes ")") word refl e is)
closing_is Curly word (Closing Square) e is = absurd (one_text (codes "}") (codes "]") word refl e is)
closing_is Curly word (Closing Curly) e is = refl
closing_is Curly word Neither e is = absurd (not_both_ways (is_bracket word) (or_right _ _ e) is)

-- ## What is skipped

opening_side : (bracket : Bracket) (word : PlainWord) → opens bracket word ≡ true → side_of word ≡ Opening bracket
opening_side bracket word e = opening_is bracket word (side_of word) e (side_is word)

closing_side : (bracket : Bracket) (word : PlainWord) → closes bracket word ≡ true → side_of word ≡ Closing bracket
closing_side bracket word e = closing_is bracket word (side_of word) e (side_is word)

no_side : (word : PlainWord) (side : Side) → is_bracket word ≡ false → SideIs word side → side ≡ Neither
no_side word Neither e is = refl
no_side word (Opening Round) e is = absurd (not_both_ways (is_bracket word) (or_left _ _ (or_left _ _ (or_left _ _ (or_left _ _ (or_left _ _ is))))) e)
no_side word (Opening Square) e is = absurd (not_both_ways (is_bracket word) (or_left _ _ (or_left _ _ (or_left _ _ (or_left _ _ (or_right _ _ is))))) e)
no_side word (Opening Curly) e is = absurd (not_both_ways (is_bracket word) (or_left _ _ (or_left _ _ (or_left _ _ (or_right _ _ is)))) e)
no_side word (Closing Round) e is = absurd (not_both_ways (is_bracket word) (or_left _ _ (or_left _ _ (or_right _ _ is))) e)
no_side word (Closing Square) e is = absurd (not_both_ways (is_bracket word) (or_left _ _ (or_right _ _ is)) e)
no_side word (Closing Curly) e is = absurd (not_both_ways (is_bracket word) (or_right _ _ is) e)

own : (bracket : Bracket) → is_same bracket bracket ≡ true
own Round = refl
own Square = refl
own Curly = refl

same_bracket : (a b : Bracket) → is_same a b ≡ true → a ≡ b
same_bracket Round Round e = refl
same_bracket Square Square e = refl
same_bracket Curly Curly e = refl
same_bracket Round Square e = absurd cc
same_bracket Round Curly e = absurd cc
same_bracket Square Round e = absurd cc
same_bracket Square Curly e = absurd cc
same_bracket Curly Round e = absurd cc
same_bracket Curly Square e = absurd cc

-- the open groups after a word with this side, and the words after them
abbrev onward : Side → List Bracket → List PlainWord → Option (List PlainWord)
onward side pending words = option_and_then (λ pending. behind_open pending words) (open_behind side pending)

closed_here : (bracket : Bracket) (pending : List Bracket) (closing : PlainWord) (after : List PlainWord) → closes bracket closing ≡ true → behind_open (bracket ∷ pending) (closing ∷ after) ≡ behind_open pending after
closed_here bracket pending closing after e =
    ap (λ s. onward s (bracket ∷ pending) after) (closing_side bracket closing e)
    ∙ ap (λ b. option_and_then (λ pending. behind_open pending after) (cond b (Some pending) None)) (own bracket)

-- balanced words are passed over
skipped : (inside : List PlainWord) → IsBalanced inside → (bracket : Bracket) (pending : List Bracket) (after : List PlainWord) → behind_open (bracket ∷ pending) (inside ++ after) ≡ behind_open (bracket ∷ pending) after
skipped _ empty bracket pending after = refl
skipped _ (single word words plain rest) bracket pending after =
    ap (λ s. onward s (bracket ∷ pending) (words ++ after)) (no_side word (side_of word) plain (side_is word)) ∙ skipped words rest bracket pending after
skipped _ (pair inner opening inside closing behind words opened closed first second parts) bracket pending after =
    ap (λ s. onward s (bracket ∷ pending) (words ++ after)) (opening_side inner opening opened)
    ∙ ap (behind_open (inner ∷ bracket ∷ pending)) (ap (λ l. l ++ after) parts ∙ append_assoc inside (closing ∷ behind) after)
    ∙ skipped inside first inner (bracket ∷ pending) (closing ∷ (behind ++ after))
    ∙ closed_here inner (bracket ∷ pending) closing (behind ++ after) closed
    ∙ skipped behind second bracket pending after

-- a group is found
pub group_again : (bracket : Bracket) (words rest : List PlainWord) → IsGroup bracket words → behind_group bracket (words ++ rest) ≡ Some rest
group_again bracket words rest is =
    ap (λ l. behind_group bracket (l ++ rest)) is.parts
    ∙ ap (λ b. cond b (behind_open (bracket ∷ []) ((is.inside ++ is.closing ∷ []) ++ rest)) None) is.opened
    ∙ ap (behind_open (bracket ∷ [])) (append_assoc is.inside (is.closing ∷ []) rest)
    ∙ skipped is.inside is.balanced bracket [] (is.closing ∷ rest)
    ∙ closed_here bracket [] is.closing rest is.closed

-- ## What is found

-- the words are those inside each open group and its end, one after the other, and then the rest
abbrev Ends : List Bracket → List PlainWord → List PlainWord → Type 0
Ends [] words rest = words ≡ rest
Ends (bracket ∷ pending) words rest = (inside : List PlainWord) × (closing : PlainWord) × (after : List PlainWord) × (words ≡ inside ++ closing ∷ after) × IsBalanced inside × (closes bracket closing ≡ true) × Ends pending after rest

one_single : (word : PlainWord) (words : List PlainWord) (bracket : Bracket) (pending : List Bracket) (rest : List PlainWord) → is_bracket word ≡ false → Ends (bracket ∷ pending) words rest → Ends (bracket ∷ pending) (word ∷ words) rest
one_single word words bracket pending rest plain (inside, closing, after, parts, balanced, closed, ends) =
    (word ∷ inside, closing, after, ap (λ l. word ∷ l) parts, single word inside plain balanced, closed, ends)

one_pair : (inner : Bracket) (word : PlainWord) (words : List PlainWord) (bracket : Bracket) (pending : List Bracket) (rest : List PlainWord) → opens inner word ≡ true → Ends (inner ∷ bracket ∷ pending) words rest → Ends (bracket ∷ pending) (word ∷ words) rest
one_pair inner word words bracket pending rest opened (inside, closing, after, parts, balanced, closed, (inside', closing', after', parts', balanced', closed', ends)) = (
  word ∷ (inside ++ closing ∷ inside'),
  closing',
  after',
  ap (λ l. word ∷ l) (parts ∙ ap (λ l. inside ++ closing ∷ l) parts' ∙ sym (append_assoc inside (closing ∷ inside') (closing' ∷ after'))),
  pair inner word inside closing inside' (inside ++ closing ∷ inside') opened closed balanced balanced' refl,
  closed',
  ends,
)

same_some : (a b : List PlainWord) → Some a ≡ Some b → a ≡ b
same_some a b e = cc

found : (words : List PlainWord) (pending : List Bracket) (rest : List PlainWord) → behind_open pending words ≡ Some rest → Ends pending words rest
found words [] rest e = same_some words rest e
found [] (bracket ∷ pending) rest e = absurd cc
found (word ∷ words) (bracket ∷ pending) rest e =
    elim (side_of word) as (λ s. SideIs word s → onward s (bracket ∷ pending) words ≡ Some rest → Ends (bracket ∷ pending) (word ∷ words) rest) [
      | Opening inner ↦ λ is e. one_pair inner word words bracket pending rest is (found words (inner ∷ bracket ∷ pending) rest e)
      | Closing inner ↦ λ is e. elim (is_same inner bracket) as (λ b. is_same inner bracket ≡ b → option_and_then (λ pending. behind_open pending words) (cond b (Some pending) None) ≡ Some rest → Ends (bracket ∷ pending) (word ∷ words) rest) [
        | true ↦ λ same e. ([], word, words, refl, empty, subst (λ b. closes b word ≡ true) (same_bracket inner bracket same) is, found words pending rest e)
        | false ↦ λ other e. absurd cc
      ] refl e
      | Neither ↦ λ is e. one_single word words bracket pending rest is (found words (bracket ∷ pending) rest e)
    ] (side_is word) e

-- what is found is a group
pub group_found : (bracket : Bracket) (words rest : List PlainWord) → behind_group bracket words ≡ Some rest → (group : List PlainWord) × (words ≡ group ++ rest) × IsGroup bracket group
group_found bracket [] rest e = absurd cc
group_found bracket (word ∷ words) rest e =
    elim (opens bracket word) as (λ b. opens bracket word ≡ b → cond b (behind_open (bracket ∷ []) words) None ≡ Some rest → (group : List PlainWord) × (word ∷ words ≡ group ++ rest) × IsGroup bracket group) [
      | true ↦ λ opened e. group_of bracket word words rest opened (found words (bracket ∷ []) rest e)
      | false ↦ λ other e. absurd cc
    ] refl e
  where
    group_of : (bracket : Bracket) (word : PlainWord) (words rest : List PlainWord) → opens bracket word ≡ true → Ends (bracket ∷ []) words rest → (group : List PlainWord) × (word ∷ words ≡ group ++ rest) × IsGroup bracket group
    group_of bracket word words rest opened (inside, closing, after, parts, balanced, closed, ends) = (
      word ∷ (inside ++ closing ∷ []),
      ap (λ l. word ∷ l) (parts ∙ ap (λ l. inside ++ closing ∷ l) ends ∙ sym (append_assoc inside (closing ∷ []) rest)),
      record { opening = word; inside = inside; closing = closing; parts = refl; opened = opened; balanced = balanced; closed = closed },
    )

end_is : (found : Option (List PlainWord)) → is_end found ≡ true → found ≡ Some []
end_is None e = absurd cc
end_is (Some []) e = refl
end_is (Some (word ∷ words)) e = absurd cc

pub one_group_is : (bracket : Bracket) (words : List PlainWord) → is_one_group bracket words ≡ true → IsGroup bracket words
one_group_is bracket words e =
    let found = group_found bracket words [] (end_is (behind_group bracket words) e) in
    subst (IsGroup bracket) (sym (found.1 ∙ append-nil found.0)) found.2

pub is_group_one : (bracket : Bracket) (words : List PlainWord) → IsGroup bracket words → is_one_group bracket words ≡ true
is_group_one bracket words is = ap (λ l. is_end (behind_group bracket l)) (sym (append-nil words)) ∙ ap is_end (group_again bracket words [] is)
