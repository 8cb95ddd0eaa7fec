-- The ranges that lines claim of variables, by the variables' numbers.
use Rattle.std.proofs.Common.{◌≡◌, ℕ, zero, ◌+◌, nat_eq, Bool, true, false, List, [], ◌∷◌, map, Some, refl, ap, sym, ◌∙◌, subst, arith}
use Rattle.std.specs.Prelude.{slice_get, slice_set, if◌then◌else◌}
use Rattle.std.proofs.lemmas.Bool.Decides.{nat_tests}
use Rattle.p10_range.specs.Ranges.{Interval, interval_of}
use Rattle.p10_range.specs.Rows.{values_of}
use Rattle.p10_range.specs.declared.ranges.Range.{Range}
use Rattle.p10_core.specs.Constants.{integer_of}
use Rattle.p10_core.specs.Typed.{PlainVariable}
use Rattle.p10_cert.specs.declared.claims.LoopClaim.{LoopClaim}
use Rattle.p10_cert.specs.declared.claims.VarRange.{VarRange}
use Rattle.p10_cert.specs.Claims.{Var, Loop, var_of, loop_of}
use Rattle.p10_absx.specs.Environments.{Environment}
use Rattle.p10_absx.specs.Trails.{Branching, with_values}
use Rattle.p10_absx.specs.Branches.{unbranched}
use Rattle.p10_absx.proofs.Entries.{get_below, get_set, get_other}
use Rattle.p10_pass.specs.Scopes.{changed_each}
use Rattle.p10_pass.specs.Claiming.{range_claimed, own_offset, head_of, ranges_hold}
use Rattle.p10_pass.specs.private.Standing.{AreClaimed, with_lines}
use Rattle.p10_pass.specs.private.Renewing.{range_or, range_at, entries_lie}
use Rattle.p10_pass.proofs.Renewals.{same_changes, lie_where_claimed, same_ranges}

-- the range of a variable's type
abbrev pub type_range : PlainVariable → Interval
type_range v = values_of (integer_of v.type)

-- one more line is put
pub line_claimed : (line : Var) (lines : List Var) (vs : List PlainVariable) (ranges : List Interval) → AreClaimed lines vs ranges → AreClaimed (line ∷ lines) vs (slice_set ranges line.var line.ends)
line_claimed line lines vs ranges c = record { each = λ n v e. at n v (nat_eq line.var n) refl (c.each n v e) }
  where
    at : (n : ℕ) (v : PlainVariable) (b : Bool) → nat_eq line.var n ≡ b → slice_get ranges n ≡ Some (range_claimed lines n (integer_of v.type)) →
        slice_get (slice_set ranges line.var line.ends) n ≡ Some (if b then line.ends else range_claimed lines n (integer_of v.type))
    at n v true t h =
        let p : line.var ≡ n = grind (arith, nat_tests, t) in
        ap (λ m. slice_get (slice_set ranges m line.ends) n) p ∙ get_set ranges n line.ends (get_below ranges n _ h)
    at n v false t h = get_other ranges line.var n line.ends (λ p. absurd (grind (arith, nat_tests, t, p))) ∙ h

pub lines_claimed : (lines : List Var) (vs : List PlainVariable) (ranges : List Interval) → AreClaimed [] vs ranges → AreClaimed lines vs (with_lines lines ranges)
lines_claimed [] vs ranges c = c
lines_claimed (line ∷ lines) vs ranges c = line_claimed line lines vs (with_lines lines ranges) (lines_claimed lines vs ranges c)

-- the claimed ranges, at their places
found : (claim : Loop) (vs : List PlainVariable) (ranges : List Interval) (n : ℕ) (v : PlainVariable) → AreClaimed claim.vars vs ranges → slice_get vs n ≡ Some v → range_at ranges n v ≡ range_claimed claim.vars n (integer_of v.type)
found claim vs ranges n v c e = ap (range_or (integer_of v.type)) (c.each n v e)

pub headed : (claim : Loop) (vs : List PlainVariable) (ranges : List Interval) (env : Environment) → AreClaimed claim.vars vs ranges →
    changed_each (λ n v a. record { range = range_at ranges n v; offset = Some (own_offset n) }) 0 vs env ≡ head_of claim vs env
headed claim vs ranges env c = same_changes _ _ 0 vs env (λ n v a e. λ i. record { range = at n v e i; offset = Some (own_offset (zero + n)) })
  where
    at : (n : ℕ) (v : PlainVariable) → slice_get vs n ≡ Some v → range_at ranges (zero + n) v ≡ range_claimed claim.vars (zero + n) (integer_of v.type)
    at n v e = let p : zero + n ≡ n = omega arith in ap (λ m. range_at ranges m v) p ∙ (found claim vs ranges n v c e ∙ ap (λ m. range_claimed claim.vars m (integer_of v.type)) (sym p))

pub held : (claim : Loop) (vs : List PlainVariable) (ranges : List Interval) (env : Environment) → AreClaimed claim.vars vs ranges → entries_lie (range_at ranges) 0 vs env ≡ ranges_hold claim 0 vs env
held claim vs ranges env c = same_ranges (range_at ranges) (λ n v. range_claimed claim.vars n (integer_of v.type)) 0 vs env at ∙ lie_where_claimed claim vs env
  where
    at : (n : ℕ) (v : PlainVariable) → slice_get vs n ≡ Some v → range_at ranges (zero + n) v ≡ range_claimed claim.vars (zero + n) (integer_of v.type)
    at n v e = let p : zero + n ≡ n = omega arith in ap (λ m. range_at ranges m v) p ∙ (found claim vs ranges n v c e ∙ ap (λ m. range_claimed claim.vars m (integer_of v.type)) (sym p))

-- what the code makes of these
pub head_made : (claim : LoopClaim) (lines : List VarRange) (vs : List PlainVariable) (entry : Environment) (copy now : Branching) (ranges shown : List Range) → map var_of lines ≡ claim.inv →
    AreClaimed (map var_of lines) vs (map interval_of ranges) → copy ≡ unbranched entry → shown ≡ ranges →
    now ≡ with_values copy (changed_each (λ n v a. record { range = range_at (map interval_of shown) n v; offset = Some (own_offset n) }) 0 vs copy.values) → now ≡ unbranched (head_of (loop_of claim) vs entry)
head_made claim lines vs entry copy now ranges shown same claimed copied looked made =
    let c : AreClaimed (loop_of claim).vars vs (map interval_of shown) = subst (λ (rs : List Range). AreClaimed (loop_of claim).vars vs (map interval_of rs)) (sym looked) (subst (λ (ls : List Var). AreClaimed ls vs (map interval_of ranges)) same claimed) in
    made ∙ (ap (λ (b : Branching). with_values b (changed_each (λ n v a. record { range = range_at (map interval_of shown) n v; offset = Some (own_offset n) }) 0 vs b.values)) copied ∙
    ap unbranched (headed (loop_of claim) vs (map interval_of shown) entry c))

pub held_made : (claim : LoopClaim) (lines : List VarRange) (vs : List PlainVariable) (env : Environment) (ranges shown : List Range) (b : Bool) → map var_of lines ≡ claim.inv →
    AreClaimed (map var_of lines) vs (map interval_of ranges) → shown ≡ ranges → b ≡ entries_lie (range_at (map interval_of shown)) 0 vs env → b ≡ ranges_hold (loop_of claim) 0 vs env
held_made claim lines vs env ranges shown b same claimed looked is =
    let c : AreClaimed (loop_of claim).vars vs (map interval_of shown) = subst (λ (rs : List Range). AreClaimed (loop_of claim).vars vs (map interval_of rs)) (sym looked) (subst (λ (ls : List Var). AreClaimed ls vs (map interval_of ranges)) same claimed) in
    is ∙ held (loop_of claim) vs (map interval_of shown) env c

pub lines_put : (lines : List VarRange) (vs : List PlainVariable) (before now : List Range) → AreClaimed [] vs (map interval_of before) → map interval_of now ≡ with_lines (map var_of lines) (map interval_of before) →
    AreClaimed (map var_of lines) vs (map interval_of now)
lines_put lines vs before now claimed put = subst (λ (rs : List Interval). AreClaimed (map var_of lines) vs rs) (sym put) (lines_claimed (map var_of lines) vs (map interval_of before) claimed)
