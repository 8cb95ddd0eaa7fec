-- What one more line says, put after ranks: the lines of all.
use Rattle.std.proofs.Common.{◌≡◌, ℕ, suc, ◌-◌, true, List, [], ◌∷◌, ◌++◌, map, length, slice_get, Some, option_map, refl, sym, ap, subst, ◌∙◌, arith}
use Rattle.std.proofs.lemmas.List.{append-nil, append_assoc, map-append}
use Rattle.std.proofs.lemmas.Option.{same_Some}
use Rattle.std.specs.List.{AllByRecursion}
use Rattle.p10_cert.proofs.Steps.{then_some, if_some}
use Rattle.p10_diff.specs.Evidence.{Fact, Rank}
use Rattle.p10_diff_evidence.specs.Sections.{rank_line, fact_line, section_lines, IsFact, IsRank, comes_before, AreRising, IsSection}
use Rattle.p10_diff_evidence.specs.private.Reading.{Line, a_rank, a_fact, comes_after, and_fact, with_fact, with_line, with_text}
use Rattle.p10_diff_evidence.proofs.OneLine.{Says, line_takes}

-- ## Ranks, the last one apart

-- ranks, the last one apart
pub data LastApart : List Rank → Type 0 where
  none : LastApart []
  some : (before : List Rank) (r : Rank) → LastApart (before ++ r ∷ [])

pub last_apart : (ranks : List Rank) → LastApart ranks
last_apart [] = none
last_apart (r ∷ ranks) = of ranks (last_apart ranks)
  where
    of : (ranks : List Rank) → LastApart ranks → LastApart (r ∷ ranks)
    of [] none = some [] r
    of _ (some before s) = some (r ∷ before) s

pub last_is : (before : List Rank) (r : Rank) → slice_get (before ++ r ∷ []) (length (before ++ r ∷ []) - 1) ≡ Some r
last_is [] r = refl
last_is (a ∷ []) r = refl
last_is (a ∷ b ∷ before) r =
    let more : length ((a ∷ b ∷ before) ++ r ∷ []) - 1 ≡ suc (length ((b ∷ before) ++ r ∷ []) - 1) = omega arith in
    ap (λ k. slice_get (a ∷ ((b ∷ before) ++ r ∷ [])) k) more ∙ last_is (b ∷ before) r

pub fact_last : (x : Fact) (before : List Rank) (r : Rank) → with_fact x (before ++ r ∷ []) ≡ Some (before ++ and_fact x r ∷ [])
fact_last x [] r = refl
fact_last x (a ∷ []) r = refl
fact_last x (a ∷ b ∷ before) r = ap (option_map (λ (more : List Rank). a ∷ more)) (fact_last x (b ∷ before) r)

-- ## Lines of ranks

pub lines_append : (ranks others : List Rank) → section_lines (ranks ++ others) ≡ section_lines ranks ++ section_lines others
lines_append [] others = refl
lines_append (r ∷ ranks) others =
    ap (λ ls. rank_line r ∷ ls) (ap (λ ls. map fact_line r.facts ++ ls) (lines_append ranks others) ∙ sym (append_assoc (map fact_line r.facts) (section_lines ranks) (section_lines others)))

lines_fact : (x : Fact) (before : List Rank) (r : Rank) → section_lines (before ++ and_fact x r ∷ []) ≡ section_lines (before ++ r ∷ []) ++ fact_line x ∷ []
lines_fact x before r =
    let last : section_lines (and_fact x r ∷ []) ≡ section_lines (r ∷ []) ++ fact_line x ∷ [] =
    ap (λ ls. rank_line r ∷ ls) (
    append-nil _ ∙ map-append fact_line r.facts (x ∷ []) ∙ ap (λ ls. ls ++ fact_line x ∷ []) (sym (append-nil (map fact_line r.facts)))) in
    lines_append before (and_fact x r ∷ []) ∙ (ap (λ ls. section_lines before ++ ls) last
    ∙ (sym (append_assoc (section_lines before) (section_lines (r ∷ [])) (fact_line x ∷ [])) ∙ ap (λ ls. ls ++ fact_line x ∷ []) (sym (lines_append before (r ∷ [])))))

-- ## Numbers

all_append : {A : Type 0} (P : A → Type 0) (xs ys : List A) → AllByRecursion P xs → AllByRecursion P ys → AllByRecursion P (xs ++ ys)
all_append P [] ys these those = those
all_append P (x ∷ xs) ys these those = (these.0, all_append P xs ys these.1 those)

all_parts : {A : Type 0} (P : A → Type 0) (xs ys : List A) → AllByRecursion P (xs ++ ys) → AllByRecursion P xs × AllByRecursion P ys
all_parts P [] ys all = (tt, all)
all_parts P (x ∷ xs) ys all = let rest = all_parts P xs ys all.1 in ((all.0, rest.0), rest.1)

-- ## Order

rising_same : (x : Fact) (before : List Rank) (r : Rank) → AreRising (before ++ r ∷ []) → AreRising (before ++ and_fact x r ∷ [])
rising_same x [] r rising = tt
rising_same x (a ∷ []) r rising = rising
rising_same x (a ∷ b ∷ before) r rising = (rising.0, rising_same x (b ∷ before) r rising.1)

rising_next : (before : List Rank) (r s : Rank) → AreRising (before ++ r ∷ []) → comes_before r s ≡ true → AreRising ((before ++ r ∷ []) ++ s ∷ [])
rising_next [] r s rising next = (next, tt)
rising_next (a ∷ []) r s rising next = (rising.0, (next, tt))
rising_next (a ∷ b ∷ before) r s rising next = (rising.0, rising_next (b ∷ before) r s rising.1 next)

-- a rank comes after the last of those that it may follow
pub rising_at : (before : List Rank) (r s : Rank) (rest : List Rank) → AreRising ((before ++ r ∷ []) ++ s ∷ rest) → comes_before r s ≡ true
rising_at [] r s rest rising = rising.0
rising_at (a ∷ []) r s rest rising = rising.1.0
rising_at (a ∷ b ∷ before) r s rest rising = rising_at (b ∷ before) r s rest rising.1

-- ## One more line

-- a section with one more line
fact_put : (x : Fact) (ranks more : List Rank) → IsSection (section_lines ranks) ranks → IsFact x → with_fact x ranks ≡ Some more → IsSection (section_lines ranks ++ fact_line x ∷ []) more
fact_put x ranks more section fits e = of ranks (last_apart ranks) section e
  where
    of : (ranks : List Rank) → LastApart ranks → IsSection (section_lines ranks) ranks → with_fact x ranks ≡ Some more → IsSection (section_lines ranks ++ fact_line x ∷ []) more
    of [] none section e = absurd cc
    of _ (some before r) section e =
        let is : before ++ and_fact x r ∷ [] ≡ more = same_Some _ _ (sym (fact_last x before r) ∙ e) in
        let all = all_parts IsRank before (r ∷ []) section.numbers in
        let last = all.1.0 in
        let one : IsRank (and_fact x r) = record {
          function = last.function;
          loop = last.loop;
          below = last.below;
          above = last.above;
          more = last.more;
          facts = all_append IsFact r.facts (x ∷ []) last.facts (fits, tt);
        } in
        subst (IsSection (section_lines (before ++ r ∷ []) ++ fact_line x ∷ [])) is (record {
          spelled = sym (lines_fact x before r);
          numbers = all_append IsRank before (and_fact x r ∷ []) all.0 (one, tt);
          rising = rising_same x before r section.rising;
        })

rank_put : (s : Rank) (ranks more : List Rank) → IsSection (section_lines ranks) ranks → IsRank s → s.facts ≡ [] → with_line (a_rank s) ranks ≡ Some more → IsSection (section_lines ranks ++ rank_line s ∷ []) more
rank_put s ranks more section fits bare e =
    let found = if_some (comes_after s.function s.loop (slice_get ranks (length ranks - 1))) (Some (ranks ++ s ∷ [])) more e in
    let is : ranks ++ s ∷ [] ≡ more = same_Some _ _ found.1 in
    subst (IsSection (section_lines ranks ++ rank_line s ∷ [])) is (record {
      spelled = sym (lines_append ranks (s ∷ []) ∙ ap (λ (fs : List Fact). section_lines ranks ++ rank_line s ∷ (map fact_line fs ++ [])) bare);
      numbers = all_append IsRank ranks (s ∷ []) section.numbers (fits, tt);
      rising = rises ranks (last_apart ranks) section.rising found.0;
    })
  where
    rises : (ranks : List Rank) → LastApart ranks → AreRising ranks → comes_after s.function s.loop (slice_get ranks (length ranks - 1)) ≡ true → AreRising (ranks ++ s ∷ [])
    rises [] none rising next = tt
    rises _ (some before r) rising next = rising_next before r s rising (ap (comes_after s.function s.loop) (sym (last_is before r)) ∙ next)

pub text_put : (text : List ℕ) (ranks more : List Rank) → IsSection (section_lines ranks) ranks → with_text text ranks ≡ Some more → IsSection (section_lines ranks ++ text ∷ []) more
text_put text ranks more section e = then_some _ _ _ e (λ l read put. of l (line_takes text l read) put)
  where
    of : (l : Line) → Says text l → with_line l ranks ≡ Some more → IsSection (section_lines ranks ++ text ∷ []) more
    of (a_rank s) says put = subst (λ t. IsSection (section_lines ranks ++ t ∷ []) more) (sym says.0) (rank_put s ranks more section says.1 says.2 put)
    of (a_fact x) says put = subst (λ t. IsSection (section_lines ranks ++ t ∷ []) more) (sym says.0) (fact_put x ranks more section says.1 put)
