-- Laws of the reader of one line: what is read has the one text of what it says, and that text is read.
use Rattle.std.proofs.Common.{◌≡◌, ℕ, List, [], ◌∷◌, ◌++◌, codes, decimal, Option, Some, None, refl, sym, ap, subst, ◌∙◌, arith}
use Rattle.std.proofs.lemmas.List.{append-nil}
use Rattle.std.proofs.lemmas.Option.{same_Some}
use Rattle.std.specs.Fmt.{signed_decimal}
use Rattle.p10_cert.specs.private.Reading.{◌>>=◌, after_front, labelled_at, greatest_index}
use Rattle.p10_cert.proofs.Steps.{then_some, bind_is, after_front_takes, after_front_again}
use Rattle.p10_cert.proofs.NumberLaws.{labelled_takes, labelled_again, signed_takes, signed_again}
use Rattle.p10_diff.specs.Evidence.{Fact, Rank}
use Rattle.p10_diff_evidence.specs.Sections.{rank_line, fact_line, IsFact, IsRank}
use Rattle.p10_diff_evidence.specs.private.Reading.{Line, a_rank, a_fact, bare_rank, at_end, rank_at, fact_at, first_of, line_at}

-- ## What is read

-- a text is the line of what it says
abbrev pub Says : List ℕ → Line → Type 0
Says text (a_rank r) = (text ≡ rank_line r) × IsRank r × (r.facts ≡ [])
Says text (a_fact x) = (text ≡ fact_line x) × IsFact x

at_end_is : {A : Type 0} (x y : A) (rest : List ℕ) → at_end x rest ≡ Some y → (rest ≡ []) × (x ≡ y)
at_end_is x y [] e = (refl, same_Some x y e)
at_end_is x y (byte ∷ rest) e = absurd cc

rank_takes : (text : List ℕ) (l : Line) → rank_at text ≡ Some l → Says text l
unfolding rank_at
rank_takes text l e =
    then_some _ _ _ e (λ function e1 f1. then_some _ _ _ f1 (λ at e2 f2. then_some _ _ _ f2 (λ below e3 f3.
    then_some _ _ _ f3 (λ above e4 f4. then_some _ _ _ f4 (λ rest e5 f5. then_some _ _ _ f5 (λ more e6 f6.
    let p1 = labelled_takes (codes "rank ") greatest_index text function e1 in
    let p2 = labelled_takes (codes " ") greatest_index function.1 at e2 in
    let p3 = labelled_takes (codes " ") greatest_index at.1 below e3 in
    let p4 = labelled_takes (codes " ") greatest_index below.1 above e4 in
    let p5 = after_front_takes (codes " ") above.1 rest e5 in
    let p6 = signed_takes rest more e6 in
    let p7 = at_end_is (a_rank (bare_rank function.0 at.0 below.0 above.0 more.0)) l more.1 f6 in
    let end : rest ≡ signed_decimal more.0 = p6.0 ∙ ap (λ t. signed_decimal more.0 ++ t) p7.0 ∙ append-nil (signed_decimal more.0) in
    subst (Says text) p7.1 (
      rw (p1.0, p2.0, p3.0, p4.0, p5, end) refl,
      record {
        function = record { small = omega (arith, p1.1) };
        loop = record { small = omega (arith, p2.1) };
        below = record { small = omega (arith, p3.1) };
        above = record { small = omega (arith, p4.1) };
        more = p6.1;
        facts = tt;
      },
      refl,
    )))))))

fact_takes : (text : List ℕ) (l : Line) → fact_at text ≡ Some l → Says text l
unfolding fact_at
fact_takes text l e =
    then_some _ _ _ e (λ greater e1 f1. then_some _ _ _ f1 (λ lesser e2 f2. then_some _ _ _ f2 (λ rest e3 f3. then_some _ _ _ f3 (λ by e4 f4.
    let p1 = labelled_takes (codes "fact ") greatest_index text greater e1 in
    let p2 = labelled_takes (codes " ") greatest_index greater.1 lesser e2 in
    let p3 = after_front_takes (codes " ") lesser.1 rest e3 in
    let p4 = signed_takes rest by e4 in
    let p5 = at_end_is (a_fact (record { greater = greater.0; lesser = lesser.0; by = by.0 })) l by.1 f4 in
    let end : rest ≡ signed_decimal by.0 = p4.0 ∙ ap (λ t. signed_decimal by.0 ++ t) p5.0 ∙ append-nil (signed_decimal by.0) in
    subst (Says text) p5.1 (
      rw (p1.0, p2.0, p3, end) refl,
      record { greater = record { small = omega (arith, p1.1) }; lesser = record { small = omega (arith, p2.1) }; by = p4.1 },
    )))))

pub line_takes : (text : List ℕ) (l : Line) → line_at text ≡ Some l → Says text l
line_takes text l e = of (rank_at text) refl e
  where
    of : (o : Option Line) → rank_at text ≡ o → line_at text ≡ Some l → Says text l
    of None is e = fact_takes text l (sym (ap (λ (o : Option Line). first_of o (fact_at text)) is) ∙ e)
    of (Some x) is e = rank_takes text l (is ∙ (sym (ap (λ (o : Option Line). first_of o (fact_at text)) is) ∙ e))

-- ## What is read again

pub rank_again : (r : Rank) → IsRank r → line_at (rank_line r) ≡ Some (a_rank (bare_rank r.function r.loop r.below r.above r.more))
unfolding rank_at
rank_again r fits =
    let t4 : List ℕ = signed_decimal r.more ++ [] in
    let t3 : List ℕ = codes " " ++ t4 in
    let t2 : List ℕ = codes " " ++ (decimal r.above ++ t3) in
    let t1 : List ℕ = codes " " ++ (decimal r.below ++ t2) in
    let t0 : List ℕ = codes " " ++ (decimal r.loop ++ t1) in
    let whole : rank_at (codes "rank " ++ (decimal r.function ++ t0)) ≡ Some (a_rank (bare_rank r.function r.loop r.below r.above r.more)) =
    bind_is _ (r.function, t0) _ _ (labelled_again (codes "rank ") greatest_index r.function t0 (omega (arith, fits.function.small)) (omega arith) refl)
    (bind_is _ (r.loop, t1) _ _ (labelled_again (codes " ") greatest_index r.loop t1 (omega (arith, fits.loop.small)) (omega arith) refl)
    (bind_is _ (r.below, t2) _ _ (labelled_again (codes " ") greatest_index r.below t2 (omega (arith, fits.below.small)) (omega arith) refl)
    (bind_is _ (r.above, t3) _ _ (labelled_again (codes " ") greatest_index r.above t3 (omega (arith, fits.above.small)) (omega arith) refl)
    (bind_is _ t4 _ _ (after_front_again (codes " ") t4)
    (bind_is _ (r.more, []) _ _ (signed_again r.more [] fits.more refl) refl))))) in
    let is : rank_at (rank_line r) ≡ Some (a_rank (bare_rank r.function r.loop r.below r.above r.more)) =
    ap (λ t. rank_at (codes "rank " ++ (decimal r.function ++ (codes " " ++ (decimal r.loop ++ (codes " " ++ (decimal r.below ++ (codes " " ++ (decimal r.above ++ (codes " " ++ t)))))))))) (sym (append-nil (signed_decimal r.more))) ∙ whole in
    ap (λ (o : Option Line). first_of o (fact_at (rank_line r))) is

no_rank : (rest : List ℕ) → rank_at (codes "fact " ++ rest) ≡ None
unfolding rank_at labelled_at after_front
no_rank rest = refl

pub fact_again : (x : Fact) → IsFact x → line_at (fact_line x) ≡ Some (a_fact x)
unfolding fact_at
fact_again x fits =
    let t2 : List ℕ = signed_decimal x.by ++ [] in
    let t1 : List ℕ = codes " " ++ t2 in
    let t0 : List ℕ = codes " " ++ (decimal x.lesser ++ t1) in
    let whole : fact_at (codes "fact " ++ (decimal x.greater ++ t0)) ≡ Some (a_fact x) =
    bind_is _ (x.greater, t0) _ _ (labelled_again (codes "fact ") greatest_index x.greater t0 (omega (arith, fits.greater.small)) (omega arith) refl)
    (bind_is _ (x.lesser, t1) _ _ (labelled_again (codes " ") greatest_index x.lesser t1 (omega (arith, fits.lesser.small)) (omega arith) refl)
    (bind_is _ t2 _ _ (after_front_again (codes " ") t2)
    (bind_is _ (x.by, []) _ _ (signed_again x.by [] fits.by refl) refl))) in
    let is : fact_at (fact_line x) ≡ Some (a_fact x) =
    ap (λ t. fact_at (codes "fact " ++ (decimal x.greater ++ (codes " " ++ (decimal x.lesser ++ (codes " " ++ t)))))) (sym (append-nil (signed_decimal x.by))) ∙ whole in
    let none : rank_at (fact_line x) ≡ None = no_rank (decimal x.greater ++ (codes " " ++ (decimal x.lesser ++ (codes " " ++ signed_decimal x.by)))) in
    ap (λ (o : Option Line). first_of o (fact_at (fact_line x))) none ∙ is
