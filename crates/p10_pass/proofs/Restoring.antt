-- What is known after loops: of marked variables nothing more than their types, or no offsets.
use Rattle.std.proofs.Common.{◌≡◌, ℕ, zero, ◌+◌, ◌<◌, ◌≤◌, Bool, List, length, Option, Some, None, refl, ap, sym, ◌∙◌, arith}
use Rattle.std.specs.Prelude.{slice_get, if◌then◌else◌}
use Rattle.std.specs.Option.{option_map}
use Rattle.p10_core.specs.declared.statements.LoopHead.{LoopHead}
use Rattle.p10_core.specs.Constants.{integer_of}
use Rattle.p10_core.specs.Typed.{PlainVariable}
use Rattle.p10_cert.specs.Claims.{Loop}
use Rattle.p10_absx.specs.Abstract.{whole_type}
use Rattle.p10_absx.specs.Environments.{Environment, known}
use Rattle.p10_absx.proofs.Entries.{get_below}
use Rattle.p10_pass.specs.Scopes.{changed_each, assigned_forgotten, offset_in, offsets_restored}
use Rattle.p10_pass.specs.Claiming.{ranges_hold, ranges_hold_reached}
use Rattle.p10_pass.specs.Passing.{Manner, Failing, Left, Round, rank_fails, loop_left}
use Rattle.p10_pass.specs.Marks.{is_marked, AreMarks}
use Rattle.p10_pass.specs.private.Walking.{after_loop, ends_changed}
use Rattle.p10_pass.proofs.Renewals.{same_changes}

told : (test : ℕ → Bool) (marks shown : List Bool) (count : ℕ) (vs : List PlainVariable) (n : ℕ) (v : PlainVariable) → shown ≡ marks → AreMarks test count marks → length vs ≤ count → slice_get vs n ≡ Some v →
    is_marked shown (zero + n) ≡ test (zero + n)
told test marks shown count vs n v same m l e =
    let p : zero + n ≡ n = omega arith in
    let b : n < length vs = get_below vs n v e in
    ap (is_marked shown) p ∙ (ap (λ bs. is_marked bs n) same ∙ (m.each n (omega arith) ∙ ap test (sym p)))

pub forgot : (test : ℕ → Bool) (marks shown : List Bool) (count : ℕ) (vs : List PlainVariable) (env : Environment) → shown ≡ marks → AreMarks test count marks → length vs ≤ count →
    changed_each (λ n v a. if is_marked shown n then whole_type (integer_of v.type) else a) 0 vs env ≡ assigned_forgotten test vs env
forgot test marks shown count vs env same m l =
    same_changes _ _ 0 vs env (λ n v a e. ap (λ b. if b then whole_type (integer_of v.type) else a) (told test marks shown count vs n v same m l e))

pub restored : (test : ℕ → Bool) (marks shown : List Bool) (count : ℕ) (entry : Environment) (vs : List PlainVariable) (env : Environment) → shown ≡ marks → AreMarks test count marks → length vs ≤ count →
    changed_each (λ n v a. record { range = a.range; offset = if is_marked shown n then None else offset_in (known entry n) }) 0 vs env ≡ offsets_restored test entry vs env
restored test marks shown count entry vs env same m l =
    same_changes _ _ 0 vs env (λ n v a e. λ i. record { range = a.range; offset = if told test marks shown count vs n v same m l e i then None else offset_in (known entry (zero + n)) })

-- the same for an end that may be lacking
pub end_restored : (test : ℕ → Bool) (marks shown : List Bool) (count : ℕ) (entry : Environment) (vs : List PlainVariable) (o : Option Environment) → shown ≡ marks → AreMarks test count marks → length vs ≤ count →
    option_map (changed_each (λ n v a. record { range = a.range; offset = if is_marked shown n then None else offset_in (known entry n) }) 0 vs) o ≡ option_map (offsets_restored test entry vs) o
end_restored test marks shown count entry vs None same m l = refl
end_restored test marks shown count entry vs (Some env) same m l = ap Some (restored test marks shown count entry vs env same m l)

-- what is judged and restored is what a loop leaves
pub loop_closed : (m : Manner) (claim : Loop) (head : LoopHead) (assigned : ℕ → Bool) (entry : Environment) (r now : Round) (enters goes_back : Bool) (fails : List Failing) (l : Left) →
    enters ≡ ranges_hold claim 0 m.variables entry → goes_back ≡ ranges_hold_reached claim m.variables r.back → fails ≡ rank_fails claim head.span entry r →
    now ≡ ends_changed (offsets_restored assigned entry m.variables) r → l ≡ after_loop head enters goes_back fails entry now → l ≡ loop_left m claim head assigned entry r
loop_closed m claim head assigned entry r now enters goes_back fails l e g f n is = is ∙ (λ i. after_loop head (e i) (g i) (f i) entry (n i))
