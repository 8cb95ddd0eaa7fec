-- Reading the lines of a section, one after the other: the ranks whose lines they are, or the first line of another form.
use Rattle.std.proofs.Common.{◌≡◌, ℕ, zero, suc, ◌+◌, ◌-◌, Bool, true, List, [], ◌∷◌, ◌++◌, map, length, take, drop, slice_get, get_or, Option, Some, None, ◌<◌, ◌≤◌, refl, sym, ap, subst, ◌∙◌, arith}
use Rattle.std.proofs.lemmas.List.{append-nil, append_assoc, take_all}
use Rattle.std.proofs.lemmas.Option.{same_Some, none-some}
use Rattle.std.specs.Prelude.{if◌then◌else◌}
use Rattle.std.specs.List.{AllByRecursion}
use Rattle.p10_cert.specs.private.Reading.{◌>>=◌}
use Rattle.p10_cert.proofs.Steps.{then_some, bind_is}
use Rattle.p10_diff.specs.Evidence.{Fact, Rank}
use Rattle.p10_diff_evidence.specs.Sections.{fact_line, section_lines, IsFact, IsRank, AreRising, IsSection, IsFirstOther}
use Rattle.p10_diff_evidence.specs.private.Reading.{a_rank, bare_rank, comes_after, and_fact, with_line, with_text, with_texts}
use Rattle.p10_diff_evidence.proofs.OneLine.{rank_again, fact_again}
use Rattle.p10_diff_evidence.proofs.Texts.{LastApart, none, some, last_apart, last_is, fact_last, rising_at, text_put}

-- ## What is read

texts_put : (lines : List (List ℕ)) (ranks all : List Rank) → IsSection (section_lines ranks) ranks → with_texts lines ranks ≡ Some all → IsSection (section_lines ranks ++ lines) all
texts_put [] ranks all section e = subst (λ ls. IsSection ls all) (sym (append-nil (section_lines ranks))) (subst (IsSection (section_lines ranks)) (same_Some ranks all e) section)
texts_put (text ∷ lines) ranks all section e =
    then_some _ _ _ e (λ more put rest.
    let next = text_put text ranks more section put in
    let here : IsSection (section_lines more) more = subst (λ ls. IsSection ls more) next.spelled next in
    subst (λ ls. IsSection ls all) (ap (λ ls. ls ++ lines) (sym next.spelled) ∙ append_assoc (section_lines ranks) (text ∷ []) lines) (texts_put lines more all here rest))

-- lines that are read are those of the ranks
pub read_section : (lines : List (List ℕ)) (ranks : List Rank) → with_texts lines [] ≡ Some ranks → IsSection lines ranks
read_section lines ranks e = texts_put lines [] ranks (record { spelled = refl; numbers = tt; rising = tt }) e

-- ## What is read again

-- a rank with more facts
abbrev and_facts : List Fact → Rank → Rank
and_facts [] r = r
and_facts (x ∷ xs) r = and_facts xs (and_fact x r)

facts_are : (xs : List Fact) (r : Rank) → and_facts xs r ≡ record r { facts = r.facts ++ xs }
facts_are [] r = ap (λ (fs : List Fact). record r { facts = fs }) (sym (append-nil r.facts))
facts_are (x ∷ xs) r = facts_are xs (and_fact x r) ∙ ap (λ (fs : List Fact). record r { facts = fs }) (append_assoc r.facts (x ∷ []) xs)

facts_again : (xs : List Fact) (lines : List (List ℕ)) (before : List Rank) (r : Rank) → AllByRecursion IsFact xs → with_texts (map fact_line xs ++ lines) (before ++ r ∷ []) ≡ with_texts lines (before ++ and_facts xs r ∷ [])
facts_again [] lines before r fits = refl
facts_again (x ∷ xs) lines before r fits =
    bind_is _ (before ++ and_fact x r ∷ []) _ _ (bind_is _ _ _ _ (fact_again x fits.0) (fact_last x before r)) (facts_again xs lines before (and_fact x r) fits.1)

may_follow : (ranks : List Rank) (r : Rank) (rest : List Rank) → AreRising (ranks ++ r ∷ rest) → comes_after r.function r.loop (slice_get ranks (length ranks - 1)) ≡ true
may_follow ranks r rest rising = of ranks (last_apart ranks) rising
  where
    of : (ranks : List Rank) → LastApart ranks → AreRising (ranks ++ r ∷ rest) → comes_after r.function r.loop (slice_get ranks (length ranks - 1)) ≡ true
    of [] none rising = refl
    of _ (some before q) rising = ap (comes_after r.function r.loop) (last_is before q) ∙ rising_at before q r rest rising

all_again : (ranks rest : List Rank) → AllByRecursion IsRank rest → AreRising (ranks ++ rest) → with_texts (section_lines rest) ranks ≡ Some (ranks ++ rest)
all_again ranks [] fits rising = ap Some (sym (append-nil ranks))
all_again ranks (r ∷ rest) fits rising =
    let bare : Rank = bare_rank r.function r.loop r.below r.above r.more in
    let follows = may_follow ranks r rest rising in
    let put : with_line (a_rank bare) ranks ≡ Some (ranks ++ bare ∷ []) = ap (λ (b : Bool). if b then Some (ranks ++ bare ∷ []) else None) follows in
    let whole : and_facts r.facts bare ≡ r = facts_are r.facts bare in
    let order : AreRising ((ranks ++ r ∷ []) ++ rest) = subst AreRising (sym (append_assoc ranks (r ∷ []) rest)) rising in
    bind_is _ (ranks ++ bare ∷ []) _ _ (bind_is _ _ _ _ (rank_again r fits.0) put) (
    facts_again r.facts (section_lines rest) ranks bare fits.0.facts
    ∙ (ap (λ (s : Rank). with_texts (section_lines rest) (ranks ++ s ∷ [])) whole
    ∙ (all_again (ranks ++ r ∷ []) rest fits.1 order ∙ ap Some (append_assoc ranks (r ∷ []) rest))))

pub section_read : (lines : List (List ℕ)) (ranks : List Rank) → IsSection lines ranks → with_texts lines [] ≡ Some ranks
section_read lines ranks section = ap (λ ls. with_texts ls []) section.spelled ∙ all_again [] ranks section.numbers section.rising

-- ## Lines up to a number

next_line : (n : ℕ) (lines others : List (List ℕ)) (text : List ℕ) → drop n lines ≡ text ∷ others → (take (n + 1) lines ≡ take n lines ++ text ∷ []) × (drop (n + 1) lines ≡ others)
next_line zero [] others text e = absurd cc
next_line zero (x ∷ lines) others text e = (cc, cc)
next_line (suc n) [] others text e = absurd cc
next_line (suc n) (x ∷ lines) others text e =
    let rest = next_line n lines others text e in
    let more : suc n + 1 ≡ suc (n + 1) = omega arith in
    (ap (λ k. take k (x ∷ lines)) more ∙ ap (λ ls. x ∷ ls) rest.0, ap (λ k. drop k (x ∷ lines)) more ∙ rest.1)

one_more : (lines : List (List ℕ)) (ranks before : List Rank) (text : List ℕ) → with_texts lines before ≡ Some ranks → with_texts (lines ++ text ∷ []) before ≡ with_text text ranks
one_more [] ranks before text e = one (with_text text before) ∙ ap (with_text text) (same_Some before ranks e)
  where
    one : (o : Option (List Rank)) → (o >>= λ more. Some more) ≡ o
    one None = refl
    one (Some more) = refl
one_more (x ∷ lines) ranks before text e = then_some _ _ _ e (λ more put rest. bind_is _ more _ _ put (one_more lines ranks more text rest))

-- after a line that was read, the ranks of one more line
pub goes_on : (n : ℕ) (lines others : List (List ℕ)) (text : List ℕ) (ranks : List Rank) → drop n lines ≡ text ∷ others → with_texts (take n lines) [] ≡ Some ranks
    → (with_texts (take (n + 1) lines) [] ≡ with_text text ranks) × (drop (n + 1) lines ≡ others)
goes_on n lines others text ranks left read =
    let next = next_line n lines others text left in
    (ap (λ ls. with_texts ls []) next.0 ∙ one_more (take n lines) ranks [] text read, next.1)

-- a line that isn't read is the first of another form
pub first_other : (n : ℕ) (lines others : List (List ℕ)) (text : List ℕ) (ranks : List Rank) → drop n lines ≡ text ∷ others → with_texts (take n lines) [] ≡ Some ranks → with_text text ranks ≡ None → IsFirstOther lines (n + 1)
first_other n lines others text ranks left read bad =
    let next = goes_on n lines others text ranks left read in
    let back : n + 1 - 1 ≡ n = omega arith in
    record {
      before = (ranks, subst (λ k. IsSection (take k lines) ranks) (sym back) (read_section (take n lines) ranks read));
      other = λ all section. none-some all (sym (next.0 ∙ bad) ∙ section_read (take (n + 1) lines) all section);
    }

-- after one more line that was read
pub record Gone (lines rest : List (List ℕ)) (n : ℕ) (more : List Rank) : Type 0 where
  pub counted : n + 1 + length (take (length rest - 1) (drop 1 rest)) ≡ length lines
  pub left : drop (n + 1) lines ≡ take (length rest - 1) (drop 1 rest)
  pub read : with_texts (take (n + 1) lines) [] ≡ Some more

pub one_read : (n : ℕ) (lines rest : List (List ℕ)) (ranks more : List Rank) (text item : List ℕ) → n + length rest ≡ length lines → drop n lines ≡ rest → with_texts (take n lines) [] ≡ Some ranks → 1 ≤ length rest → item ≡ get_or rest 0 item → text ≡ item
    → with_text text ranks ≡ Some more → Gone lines rest n more
one_read n lines [] ranks more text item counted left read long at is put = absurd (omega (arith, long))
one_read n lines (x ∷ others) ranks more text item counted left read long at is put =
    let whole : take (length (x ∷ others) - 1) others ≡ others = take_all (length (x ∷ others) - 1) others (omega arith) in
    let next = goes_on n lines others x ranks left read in
    let same : text ≡ x = is ∙ at in
    record {
      counted = ap (λ (ls : List (List ℕ)). n + 1 + length ls) whole ∙ (omega (arith, counted));
      left = next.1 ∙ sym whole;
      read = next.0 ∙ (ap (λ t. with_text t ranks) (sym same) ∙ put);
    }

-- all lines were read
all_read : (n : ℕ) (lines : List (List ℕ)) (ranks : List Rank) → drop n lines ≡ [] → with_texts (take n lines) [] ≡ Some ranks → IsSection lines ranks
all_read n lines ranks left read = read_section lines ranks (ap (λ ls. with_texts ls []) (sym (whole n lines left)) ∙ read)
  where
    whole : (n : ℕ) (lines : List (List ℕ)) → drop n lines ≡ [] → take n lines ≡ lines
    whole zero lines left = sym left
    whole (suc n) [] left = refl
    whole (suc n) (x ∷ lines) left = ap (λ ls. x ∷ ls) (whole n lines left)

pub ended : (n : ℕ) (lines rest : List (List ℕ)) (ranks : List Rank) → drop n lines ≡ rest → length rest < 1 → with_texts (take n lines) [] ≡ Some ranks → IsSection lines ranks
ended n lines [] ranks left few read = all_read n lines ranks left read
ended n lines (x ∷ rest) ranks left few read = absurd (omega (arith, few))
