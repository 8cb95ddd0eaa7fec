-- The lines of ranks are lines that a section may have.
use Rattle.std.proofs.Common.{◌≡◌, ℕ, suc, ◌≤◌, true, ◌&&◌, nat_le, List, [], ◌∷◌, ◌++◌, map, ℤ, pos, negsuc, codes, decimal, refl, ap, ◌∙◌, arith}
use Rattle.std.proofs.lemmas.Bool.Decides.{nat_tests}
use Rattle.std.proofs.lemmas.Int.{ints}
use Rattle.std.specs.Char.{is_ascii_digit}
use Rattle.std.specs.Fmt.{signed_decimal}
use Rattle.std.specs.List.{list_all, AllByRecursion}
use Rattle.p10_cert.specs.Lines.{is_body_byte, is_section_byte, is_section_name, greatest_size, IsBody, IsEnd, IsIndex}
use Rattle.p10_cert.specs.Statements.{is_before}
use Rattle.p10_cert.proofs.Numerals.{numeral_of_again}
use Rattle.p10_cert.proofs.Steps.{both_true}
use Rattle.p10_diff.specs.Evidence.{Fact, Rank}
use Rattle.p10_diff_evidence.specs.Laws.{RankSectionsSay}
use Rattle.p10_diff_evidence.specs.Sections.{rank_line, fact_line, section_lines, IsFact, IsRank}

abbrev are_visible : List ℕ → Type 0
are_visible bytes = list_all is_body_byte bytes ≡ true

both_visible : (xs ys : List ℕ) → are_visible xs → are_visible ys → are_visible (xs ++ ys)
both_visible [] ys these those = those
both_visible (x ∷ xs) ys these those =
    let parts = both_true (is_body_byte x) (list_all is_body_byte xs) these in
    ap (λ b. b && list_all is_body_byte (xs ++ ys)) parts.0 ∙ both_visible xs ys parts.1 those

digit_visible : (x : ℕ) → is_ascii_digit x ≡ true → is_body_byte x ≡ true
unfolding is_body_byte
digit_visible x digit =
    let range = both_true (nat_le 48 x) (nat_le x 57) digit in
    let low : nat_le 32 x ≡ true = grind (arith, nat_tests) in
    let high : nat_le x 126 ≡ true = grind (arith, nat_tests) in
    ap (λ b. b && nat_le x 126) low ∙ high

digits_visible : (xs : List ℕ) → list_all is_ascii_digit xs ≡ true → are_visible xs
digits_visible [] all = refl
digits_visible (x ∷ xs) all =
    let parts = both_true (is_ascii_digit x) (list_all is_ascii_digit xs) all in
    ap (λ b. b && list_all is_body_byte xs) (digit_visible x parts.0) ∙ digits_visible xs parts.1

decimal_visible : (n : ℕ) → n ≤ greatest_size → are_visible (decimal n)
decimal_visible n small = digits_visible (decimal n) (numeral_of_again n small).1

signed_visible : (z : ℤ) → IsEnd z → are_visible (signed_decimal z)
unfolding is_body_byte
signed_visible (pos n) fits = decimal_visible n (omega (arith, ints, fits.greatest))
signed_visible (negsuc n) fits = both_visible (45 ∷ []) (decimal (suc n)) refl (decimal_visible (suc n) (omega (arith, ints, fits.least)))

-- ## Lines

-- a label, a number and what stands after it
labelled_visible : (label : List ℕ) (n : ℕ) (rest : List ℕ) → are_visible label → IsIndex n → are_visible rest → are_visible (label ++ (decimal n ++ rest))
labelled_visible label n rest first small last = both_visible label (decimal n ++ rest) first (both_visible (decimal n) rest (decimal_visible n (omega (arith, small.small))) last)

last_visible : (z : ℤ) → IsEnd z → are_visible (codes " " ++ signed_decimal z)
unfolding is_body_byte
last_visible z fits = both_visible (codes " ") (signed_decimal z) refl (signed_visible z fits)

rank_visible : (r : Rank) → IsRank r → are_visible (rank_line r)
unfolding is_body_byte
rank_visible r fits =
    labelled_visible (codes "rank ") r.function _ refl fits.function
    (labelled_visible (codes " ") r.loop _ refl fits.loop
    (labelled_visible (codes " ") r.below _ refl fits.below
    (labelled_visible (codes " ") r.above _ refl fits.above (last_visible r.more fits.more))))

fact_visible : (x : Fact) → IsFact x → are_visible (fact_line x)
unfolding is_body_byte
fact_visible x fits =
    labelled_visible (codes "fact ") x.greater _ refl fits.greater
    (labelled_visible (codes " ") x.lesser _ refl fits.lesser (last_visible x.by fits.by))

-- ## Sections

facts_fit : (xs : List Fact) (lines : List (List ℕ)) → AllByRecursion IsFact xs → AllByRecursion IsBody lines → AllByRecursion IsBody (map fact_line xs ++ lines)
facts_fit [] lines fits rest = rest
facts_fit (x ∷ xs) lines fits rest = (record { visible = fact_visible x fits.0 }, facts_fit xs lines fits.1 rest)

lines_fit : (ranks : List Rank) → AllByRecursion IsRank ranks → AllByRecursion IsBody (section_lines ranks)
lines_fit [] fits = tt
lines_fit (r ∷ ranks) fits = (record { visible = rank_visible r fits.0 }, facts_fit r.facts (section_lines ranks) fits.0.facts (lines_fit ranks fits.1))

diff_fits : is_section_name (codes "diff") ≡ true
unfolding is_section_byte
diff_fits = refl

pub sections_say : RankSectionsSay
sections_say [] fits rising few = (record { all = tt; rise = tt }, tt)
sections_say (r ∷ ranks) fits rising few = (
  record {
    all = (record { head = record { name = diff_fits; count = record { small = few } }; lines = lines_fit (r ∷ ranks) fits }, tt);
    rise = (name_rises, tt);
  },
  record { spelled = refl; numbers = fits; rising = rising },
)
  where
    name_rises : is_before [] (codes "diff") ≡ true
    name_rises = refl
