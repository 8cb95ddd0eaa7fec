-- What the code puts after other ranks.
use Rattle.std.proofs.Common.{◌≡◌, ℕ, ◌-◌, Bool, List, [], ◌∷◌, ◌++◌, map, length, slice_get, Option, Some, None, option_map, sym, ap, ◌∙◌, arith}
use Rattle.std.specs.Prelude.{if◌then◌else◌}
use Rattle.std.proofs.lemmas.List.{map-append, length-map}
use Rattle.std.proofs.lemmas.Option.{slice_get-map}
use Rattle.p10_diff.specs.declared.ranks.Fact.{Fact as CodeFact}
use Rattle.p10_diff.specs.declared.ranks.Rank.{Rank as CodeRank}
use Rattle.p10_diff.specs.Evidence.{Rank}
use Rattle.p10_diff.specs.Ranked.{fact_by, rank_by}
use Rattle.p10_diff_evidence.specs.private.Reading.{a_rank, comes_after, and_fact, with_fact, with_line}
use Rattle.p10_diff_evidence.proofs.Texts.{fact_last}

last_mapped : (ranks : List CodeRank) → option_map rank_by (slice_get ranks (length ranks - 1)) ≡ slice_get (map rank_by ranks) (length (map rank_by ranks) - 1)
last_mapped ranks = sym (slice_get-map rank_by ranks (length ranks - 1)) ∙ ap (λ n. slice_get (map rank_by ranks) (n - 1)) (sym (length-map ranks rank_by))

-- whether a rank may stand after others, by the last of them
pub rank_comes : (r : CodeRank) (ranks : List CodeRank) (last : Option CodeRank) (b : Bool) → last ≡ slice_get ranks (length ranks - 1) → b ≡ comes_after r.function r.at (option_map rank_by last)
    → with_line (a_rank (rank_by r)) (map rank_by ranks) ≡ (if b then Some (map rank_by ranks ++ rank_by r ∷ []) else None)
rank_comes r ranks last b is told =
    let same : comes_after r.function r.at (slice_get (map rank_by ranks) (length (map rank_by ranks) - 1)) ≡ b =
    ap (comes_after r.function r.at) (sym (last_mapped ranks) ∙ ap (option_map rank_by) (sym is)) ∙ sym told in
    ap (λ t. if t then Some (map rank_by ranks ++ rank_by r ∷ []) else None) same

pub rank_more : (ranks more : List CodeRank) (r : CodeRank) → more ≡ ranks ++ r ∷ [] → map rank_by ranks ++ rank_by r ∷ [] ≡ map rank_by more
rank_more ranks more r is = sym (map-append rank_by ranks (r ∷ [])) ∙ ap (map rank_by) (sym is)

-- a fact of the last rank
pub fact_comes : (x : CodeFact) (ranks before more : List CodeRank) (last changed : CodeRank) → ranks ≡ before ++ last ∷ [] → more ≡ before ++ changed ∷ [] → rank_by changed ≡ and_fact (fact_by x) (rank_by last)
    → with_fact (fact_by x) (map rank_by ranks) ≡ Some (map rank_by more)
fact_comes x ranks before more last changed is then_is changes =
    ap (λ rs. with_fact (fact_by x) (map rank_by rs)) is
    ∙ (ap (with_fact (fact_by x)) (map-append rank_by before (last ∷ []))
    ∙ (fact_last (fact_by x) (map rank_by before) (rank_by last)
    ∙ ap Some (ap (λ (r : Rank). map rank_by before ++ r ∷ []) (sym changes) ∙ (sym (map-append rank_by before (changed ∷ [])) ∙ ap (map rank_by) (sym then_is)))))

pub fact_alone : (x : CodeFact) (ranks : List CodeRank) → length ranks ≡ 0 → with_fact (fact_by x) (map rank_by ranks) ≡ None
fact_alone x [] none = cc
fact_alone x (r ∷ ranks) none = absurd (omega (arith, none))
