-- At the entry of a loop whose claimed ranges hold there, the environment at its head describes the frame.
use Rattle.std.proofs.Common.{◌≡◌, ℕ, zero, suc, true, List, [], ◌∷◌, refl, ◌∙◌, ap, sym, subst, Option, Some, None, ℤ}
use Rattle.std.specs.Prelude.{is_some, ◌&&◌}
use Rattle.std.specs.Option.{option_map}
use Rattle.std.proofs.lemmas.Option.{same_Some, none-some}
use Rattle.p10_range.specs.Ranges.{Interval, is_within}
use Rattle.p10_core.specs.Constants.{integer_of}
use Rattle.p10_core.specs.Typed.{PlainVariable}
use Rattle.p10_cert.specs.Claims.{Loop}
use Rattle.p10_meaning.specs.Values.{Held}
use Rattle.p10_absx.specs.Abstract.{Abstract, only_range}
use Rattle.p10_absx.specs.Environments.{Environment, known}
use Rattle.p10_absx.specs.Describing.{set_to, DescribesOne, DescribesVariable, Describes}
use Rattle.p10_pass.specs.Claiming.{range_claimed, head_of, ranges_hold}
use Rattle.p10_execution.proofs.Heads.{head_describes}
use Rattle.p10_turns.specs.Ranked.{RangesDescribe}

-- an environment without its offsets
abbrev ranges_of : Environment → Environment
ranges_of [] = []
ranges_of (a ∷ env) = option_map (λ (a : Abstract). only_range a.range) a ∷ ranges_of env

known_ranges : (env : Environment) (n : ℕ) → known (ranges_of env) n ≡ option_map (λ (a : Abstract). only_range a.range) (known env n)
known_ranges [] n = refl
known_ranges (a ∷ env) zero = refl
known_ranges (a ∷ env) (suc n) = known_ranges env n

holds_without : (claim : Loop) (i : ℕ) (variables : List PlainVariable) (env : Environment) → ranges_hold claim i variables (ranges_of env) ≡ ranges_hold claim i variables env
holds_without claim i [] [] = refl
holds_without claim i [] (a ∷ env) = refl
holds_without claim i (v ∷ variables) [] = refl
holds_without claim i (v ∷ variables) (None ∷ env) = holds_without claim (suc i) variables env
holds_without claim i (v ∷ variables) (Some a ∷ env) = ap (λ b. is_within a.range (range_claimed claim.vars i (integer_of v.type)) && b) (holds_without claim (suc i) variables env)

known_before : (o : Option Abstract) (a : Abstract) → option_map (λ (a : Abstract). only_range a.range) o ≡ Some a → (b : Abstract) × (o ≡ Some b) × (only_range b.range ≡ a)
known_before None a e = absurd (none-some _ e)
known_before (Some b) a e = (b, refl, same_Some _ _ e)

still_known : (o : Option Abstract) → is_some o ≡ true → is_some (option_map (λ (a : Abstract). only_range a.range) o) ≡ true
still_known None e = absurd cc
still_known (Some a) e = refl

-- K6
pub entry_describes : (claim : Loop) (variables : List PlainVariable) (entry : Environment) (held : List Held) → ranges_hold claim 0 variables entry ≡ true → RangesDescribe variables entry held → Describes variables (head_of claim variables entry) held held
entry_describes claim variables entry held h d = head_describes claim variables entry (ranges_of entry) [] held
    (λ n e. ap is_some (known_ranges entry n) ∙ still_known (known entry n) e) (holds_without claim 0 variables entry ∙ h) (record { each = each })
  where
    each : (n : ℕ) (a : Abstract) → known (ranges_of entry) n ≡ Some a → DescribesVariable variables [] held n a
    each n a e =
        let b = known_before (known entry n) a (sym (known_ranges entry n) ∙ e) in
        subst (λ a. DescribesVariable variables [] held n a) b.2 (d.each n b.0 b.1)

-- an environment's ranges describe a frame that it describes
range_alone : (head : List Held) (all : Interval) (n : ℕ) (a : Abstract) (o : Option ℤ) → DescribesOne head all n a o → DescribesOne [] all n (only_range a.range) o
range_alone head all n a (Some z) d = record { member = d.member; offset = tt }
range_alone head all n a None d = record { range = d.range; offset = tt }

pub ranges_describe : (variables : List PlainVariable) (env : Environment) (head held : List Held) → Describes variables env head held → RangesDescribe variables env held
ranges_describe variables env head held d = record {
  each = λ n a e.
      let v : DescribesVariable variables head held n a = d.each n a e in
      record { variable = v.variable; there = v.there; frame = v.frame; no_object = v.no_object; describes = range_alone head _ n a (set_to held n) v.describes };
}
