-- The bytes of frames, as far as a loop has come.
use Rattle.std.proofs.Common.{◌≡◌, ℕ, ◌+◌, ◌<◌, ◌≤◌, List, ◌∷◌, map, length, drop, get_or, sym, ◌∙◌, ap, subst, arith}
use Rattle.std.specs.Prelude.{sum}
use Rattle.std.proofs.lemmas.List.Sums.{sum_by-cons}
use Rattle.p10_base.specs.declared.report.TheConstants.Limit.{MOST_SUM}
use Rattle.p10_core.specs.declared.program.Variable.{Variable}
use Rattle.p10_core.specs.Typed.{PlainVariable}
use Rattle.p10_core.specs.Views.{plain_variable}
use Rattle.p10_sums.specs.private.Tallies.{capped}
use Rattle.p10_sums.proofs.Adding.{capped_left}
use Rattle.p10_sums.proofs.Rows.{drop_end, cut_at}

abbrev pub bytes_sum : List Variable → ℕ
bytes_sum xs = sum (map (λ (v : PlainVariable). v.bytes) (map plain_variable xs))

-- a total so far, and what is left
pub record Counts (whole total rest : ℕ) : Type 0 where
  pub is : capped whole ≡ capped (total + rest)
  pub small : total ≤ MOST_SUM + 1

pub counts_start : (whole : ℕ) → Counts whole 0 whole
counts_start whole = record { is = ap capped none; small = omega arith }
  where
    none : whole ≡ 0 + whole
    none = omega arith

at_most : (n : ℕ) → capped n ≤ MOST_SUM + 1
unfolding capped
at_most n = omega arith

pub counts_next : (whole total new : ℕ) (xs : List Variable) (i : ℕ) (x : Variable) → i < length xs → x ≡ get_or xs i x → new ≡ capped (total + x.bytes) → Counts whole total (bytes_sum (drop i xs)) →
    Counts whole new (bytes_sum (drop (i + 1) xs))
counts_next whole total new xs i x below is e c =
    let rest : ℕ = bytes_sum (drop (i + 1) xs) in
    let apart : bytes_sum (x ∷ drop (i + 1) xs) ≡ x.bytes + rest = sum_by-cons (λ n. n) x.bytes (map (λ (v : PlainVariable). v.bytes) (map plain_variable (drop (i + 1) xs))) in
    record {
      is = c.is ∙ (ap (λ ys. capped (total + bytes_sum ys)) (cut_at xs i x below is) ∙ (ap (λ n. capped (total + n)) apart ∙ (ap capped (regroup total x.bytes rest) ∙ (sym (capped_left (total + x.bytes) rest) ∙ ap (λ n. capped (n + rest)) (sym e)))));
      small = subst (λ n. n ≤ MOST_SUM + 1) (sym e) (at_most (total + x.bytes));
    }
  where
    regroup : (a b c : ℕ) → a + (b + c) ≡ (a + b) + c
    regroup a b c = omega arith

few : (n : ℕ) → n ≤ MOST_SUM + 1 → capped (n + 0) ≡ n
unfolding capped
few n h = omega arith

pub counts_end : (whole total : ℕ) (xs : List Variable) (i : ℕ) → length xs ≤ i → Counts whole total (bytes_sum (drop i xs)) → total ≡ capped whole
counts_end whole total xs i b c = sym (c.is ∙ (ap (λ ys. capped (total + bytes_sum ys)) (drop_end xs i b) ∙ few total c.small))
