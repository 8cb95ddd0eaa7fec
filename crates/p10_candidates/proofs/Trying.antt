-- Candidates that are tried one after the other.
use Rattle.std.proofs.Common.{◌≡◌, ℕ, ◌+◌, ◌<◌, Bool, true, false, List, ◌∷◌, length, drop, get_or, map, Option, Some, if◌then◌else◌, sym, ◌∙◌, ap}
use Rattle.std.proofs.lemmas.List.{drop_more}
use Rattle.p10_cert.specs.Claims.{Loop}
use Rattle.p10_candidates.specs.Offering.{candidate_by}
use Rattle.p10_candidates.specs.declared.guard.Candidate.{Candidate as CodeCandidate}
use Rattle.p10_candidates.specs.Candidates.{LoopEntry}
use Rattle.p10_candidates.specs.Trials.{Rounds, claim_of, stands_alone, first_standing}

-- the candidates from one on
tried : (cs : List CodeCandidate) (i : ℕ) (x : CodeCandidate) → i < length cs → x ≡ get_or cs i x → map candidate_by (drop i cs) ≡ candidate_by x ∷ map candidate_by (drop (i + 1) cs)
tried cs i x inside is = ap (map candidate_by) (drop_more cs i x inside) ∙ ap (λ y. candidate_by y ∷ map candidate_by (drop (i + 1) cs)) (sym is)

-- what comes of a claim that stands or doesn't
chosen : Bool → Loop → Option Loop → Option Loop
chosen stands claim rest = if stands then Some claim else rest

-- the first one stands
pub one_stands : (round : Rounds) (l : LoopEntry) (depth : ℕ) (cs : List CodeCandidate) (i : ℕ) (x : CodeCandidate) (claim : Loop) (first : Option Loop) → i < length cs → x ≡ get_or cs i x →
    claim ≡ claim_of round l depth (candidate_by x) → true ≡ stands_alone round l claim → first_standing round l depth (map candidate_by (drop i cs)) ≡ first → Some claim ≡ first
unfolding chosen
one_stands round l depth cs i x claim first inside is claimed stands all =
    ap (λ b. chosen b claim (first_standing round l depth (map candidate_by (drop (i + 1) cs)))) stands ∙
    (ap (λ k. chosen (stands_alone round l k) k (first_standing round l depth (map candidate_by (drop (i + 1) cs)))) claimed ∙ (ap (first_standing round l depth) (sym (tried cs i x inside is)) ∙ all))

-- the first one doesn't
pub one_falls : (round : Rounds) (l : LoopEntry) (depth : ℕ) (cs : List CodeCandidate) (i : ℕ) (x : CodeCandidate) (claim : Loop) (first : Option Loop) → i < length cs → x ≡ get_or cs i x →
    claim ≡ claim_of round l depth (candidate_by x) → false ≡ stands_alone round l claim → first_standing round l depth (map candidate_by (drop i cs)) ≡ first → first_standing round l depth (map candidate_by (drop (i + 1) cs)) ≡ first
unfolding chosen
one_falls round l depth cs i x claim first inside is claimed falls all =
    ap (λ b. chosen b claim (first_standing round l depth (map candidate_by (drop (i + 1) cs)))) falls ∙
    (ap (λ k. chosen (stands_alone round l k) k (first_standing round l depth (map candidate_by (drop (i + 1) cs)))) claimed ∙ (ap (first_standing round l depth) (sym (tried cs i x inside is)) ∙ all))
