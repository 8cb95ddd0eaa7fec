-- The sections of a text are collected one after the other.
use Rattle.std.proofs.Common.{◌≡◌, ℕ, zero, suc, ◌<◌, ◌≤◌, ◌-◌, List, [], ◌∷◌, ◌++◌, length, codes, decimal, Option, Some, None, refl, sym, ap, subst, ◌∙◌, arith, append_assoc, append-nil, length-append}
use Rattle.std.proofs.lemmas.Option.{none-some}
use Rattle.p10_cert.specs.Lines.{SectionHead}
use Rattle.p10_cert.specs.Statements.{Section}
use Rattle.p10_cert.specs.private.Reading.{or_else, body_text_at}
use Rattle.p10_cert.specs.private.Sections.{named_at, next_body_at, bodies_in, sections_from, sections_in}
use Rattle.p10_cert.proofs.Steps.{then_some, after_front_takes}
use Rattle.p10_cert.proofs.SectionLaws.{start_takes, body_takes}
use Rattle.p10_cert.proofs.SectionReads.{no_sections}

-- ---- what is left is shorter

pub named_shorter : (text : List ℕ) (h : SectionHead) (rest : List ℕ) → Some (h, rest) ≡ named_at text → length rest < length text
unfolding named_at
named_shorter text h rest e =
    then_some _ _ _ (sym e) (λ after front read.
    let word = after_front_takes (codes "section ") text after front in
    let line = (start_takes after (h, rest) read).0 in
    omega (arith, ap length word, ap length line, length-append h.name (codes " " ++ (decimal h.count ++ (codes "\n" ++ rest))), length-append (decimal h.count) (codes "\n" ++ rest)))

pub body_shorter : (text b rest : List ℕ) → Some (b, rest) ≡ body_text_at text → length rest < length text
body_shorter text b rest e =
    let line = (body_takes text (b, rest) (sym e)).0 in
    omega (arith, ap length line, length-append b (codes "\n" ++ rest))

bodies_shorter : (n : ℕ) (text : List ℕ) → length (bodies_in n text).1 ≤ length text
unfolding bodies_in
bodies_shorter zero text = omega arith
bodies_shorter (suc n) text = by_line (body_text_at text) refl (λ rest. bodies_shorter n rest)
  where
    by_line : (o : Option (List ℕ × List ℕ)) → body_text_at text ≡ o → ((rest : List ℕ) → length (bodies_in n rest).1 ≤ length rest) → length (or_else {B = List (List ℕ) × List ℕ} o (λ (bytes, rest). (bytes ∷ (bodies_in n rest).0, (bodies_in n rest).1)) ([], text)).1 ≤ length text
    by_line None e shorter = omega arith
    by_line (Some (b, rest)) e shorter = omega (arith, body_shorter text b rest (sym e), shorter rest)

-- ---- sections

-- these sections were collected of a text, and the rest stands after them
pub record IsCollected (found : List Section) (rest text : List ℕ) : Type 0 where
  pub most : ℕ
  pub enough : length rest ≤ most
  pub are : found ++ sections_from most rest ≡ sections_in text

pub none_collected : (found : List Section) (rest text : List ℕ) → found ≡ [] → rest ≡ text → IsCollected found rest text
unfolding sections_in
none_collected found rest text none whole = record { most = length text; enough = omega (arith, ap length whole); are = ap (λ f. f ++ sections_from (length text) rest) none ∙ ap (sections_from (length text)) whole }

section_with : List ℕ → List (List ℕ) → Section
section_with name lines = record { name = name; lines = lines }

-- one section more
pub one_collected : (found more : List Section) (rest after left text : List ℕ) (h : SectionHead) → IsCollected found rest text → Some (h, after) ≡ named_at rest
    → more ≡ found ++ record { name = h.name; lines = (bodies_in h.count after).0 } ∷ [] → left ≡ (bodies_in h.count after).1 → IsCollected more left text × (length left < length rest)
unfolding sections_from section_with
one_collected found more rest after left text h collected e pushed is =
    let shorter : length left < length rest = omega (arith, named_shorter rest h after e, bodies_shorter h.count after, ap length is) in
    (by_most collected.most collected.enough collected.are shorter, shorter)
  where
    by_most : (most : ℕ) → length rest ≤ most → found ++ sections_from most rest ≡ sections_in text → length left < length rest → IsCollected more left text
    by_most zero enough are shorter = absurd (omega (arith, enough, shorter))
    by_most (suc n) enough are shorter = record {
      most = n;
      enough = omega (arith, enough, shorter);
      are =
          let s : Section = section_with h.name (bodies_in h.count after).0 in
          let here : sections_from (suc n) rest ≡ s ∷ sections_from n (bodies_in h.count after).1 = rw (sym e) refl in
          ap (λ f. f ++ sections_from n left) pushed ∙ append_assoc found (s ∷ []) (sections_from n left) ∙ ap (λ t. found ++ (s ∷ sections_from n t)) is ∙ ap (λ ss. found ++ ss) (sym here) ∙ are;
    }

pub all_collected : (found : List Section) (rest text : List ℕ) → IsCollected found rest text → None ≡ named_at rest → found ≡ sections_in text
all_collected found rest text collected e =
    sym (append-nil found) ∙ ap (λ ss. found ++ ss) (sym (no_sections collected.most rest (sym e))) ∙ collected.are

-- ---- lines of a section

-- of at most so many lines these were collected, and so many may follow
pub record AreCollected (lines start : List (List ℕ)) (left : ℕ) (rest : List ℕ) (count : ℕ) (text : List ℕ) : Type 0 where
  pub are : lines ++ (bodies_in left rest).0 ≡ start ++ (bodies_in count text).0
  pub rest_is : (bodies_in left rest).1 ≡ (bodies_in count text).1

pub one_line : (lines more start : List (List ℕ)) (left fewer : ℕ) (rest after b : List ℕ) (count : ℕ) (text : List ℕ) → AreCollected lines start left rest count text → Some (b, after) ≡ next_body_at left rest
    → more ≡ lines ++ b ∷ [] → fewer ≡ left - 1 → AreCollected more start fewer after count text × (length after < length rest)
unfolding bodies_in
one_line lines more start zero fewer rest after b count text collected e pushed is = absurd (none-some (b, after) (sym e))
one_line lines more start (suc n) fewer rest after b count text collected e pushed is =
    let here : (bodies_in (suc n) rest).0 ≡ b ∷ (bodies_in n after).0 = rw (sym e) refl in
    let there : (bodies_in (suc n) rest).1 ≡ (bodies_in n after).1 = rw (sym e) refl in
    let same : n ≡ fewer = omega (arith, is) in
    let P : ℕ → Type 0 = λ k. AreCollected more start k after count text in (
      subst P same (record {
        are = ap (λ ls. ls ++ (bodies_in n after).0) pushed ∙ append_assoc lines (b ∷ []) (bodies_in n after).0 ∙ ap (λ ls. lines ++ ls) (sym here) ∙ collected.are;
        rest_is = sym there ∙ collected.rest_is;
      }),
      body_shorter rest b after e,
    )

-- nothing more stands there
pub no_line_more : (lines start : List (List ℕ)) (left : ℕ) (rest : List ℕ) (count : ℕ) (text : List ℕ) → AreCollected lines start left rest count text → None ≡ next_body_at left rest
    → (lines ≡ start ++ (bodies_in count text).0) × (rest ≡ (bodies_in count text).1)
unfolding bodies_in
no_line_more lines start left rest count text collected ends =
    let (no_lines, same) = nothing left ends in
    (sym (append-nil lines) ∙ ap (λ ls. lines ++ ls) (sym no_lines) ∙ collected.are, sym same ∙ collected.rest_is)
  where
    nothing : (left : ℕ) → None ≡ next_body_at left rest → ((bodies_in left rest).0 ≡ []) × ((bodies_in left rest).1 ≡ rest)
    nothing zero ends = (refl, refl)
    nothing (suc n) none = (rw (sym none) refl, rw (sym none) refl)
