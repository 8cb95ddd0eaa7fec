-- What a certificate claims of a loop, and the conditions that it has to meet.
use Rattle.std.specs.Prelude.{ℕ, suc, nat_eq, ◌&&◌, if◌then◌else◌, Bool, true, false, List, [], ◌∷◌, slice_get, ℤ, pos, neg_ℤ, ◌-ℤ◌, int_le, Option, Some, None}
use Rattle.std.specs.Option.{option_map}
use Rattle.p10_int.specs.declared.types.IntType.{IntType}
use Rattle.p10_range.specs.Ranges.{Interval, from_to, is_within}
use Rattle.p10_range.specs.Rows.{values_of, only_zero}
use Rattle.p10_core.specs.Constants.{integer_of}
use Rattle.p10_core.specs.Typed.{PlainVariable}
use Rattle.p10_cert.specs.declared.claims.Rank.{Rank}
use Rattle.p10_cert.specs.declared.claims.Rank.TheVariants.{Up, Down, One, Task}
use Rattle.p10_cert.specs.Claims.{Var, Loop}
use Rattle.p10_absx.specs.Abstract.{Offset, Abstract}
use Rattle.p10_absx.specs.Environments.{Environment, known}
use Rattle.p10_pass.specs.Scopes.{changed_each}

-- ## The head of a loop

-- the range that is claimed of a variable: its type's where there is no line
abbrev pub range_claimed : List Var → ℕ → IntType → Interval
range_claimed [] n kind = values_of kind
range_claimed (v ∷ vars) n kind = if nat_eq v.var n then v.ends else range_claimed vars n kind

-- at the head a variable differs from itself by 0
abbrev pub own_offset : ℕ → Offset
own_offset n = record { about = n; by = only_zero }

-- the environment at the head of a loop: each variable in scope has its claimed range, and its own offset
abbrev pub head_of : Loop → List PlainVariable → Environment → Environment
head_of claim variables entry = changed_each (λ n v a. record { range = range_claimed claim.vars n (integer_of v.type); offset = Some (own_offset n) }) 0 variables entry

-- whether the claimed ranges hold in an environment
abbrev pub ranges_hold : Loop → ℕ → List PlainVariable → Environment → Bool
ranges_hold claim n (v ∷ variables) (Some a ∷ env) = is_within a.range (range_claimed claim.vars n (integer_of v.type)) && ranges_hold claim (suc n) variables env
ranges_hold claim n (v ∷ variables) (None ∷ env) = ranges_hold claim (suc n) variables env
ranges_hold claim n variables env = true

-- the same where a state may not come: then they hold
abbrev pub ranges_hold_reached : Loop → List PlainVariable → Option Environment → Bool
ranges_hold_reached claim variables None = true
ranges_hold_reached claim variables (Some env) = ranges_hold claim 0 variables env

-- ## Ranks

-- the range of a variable's rank in an environment: `up` is a bound less the variable, `down` the variable less a bound
abbrev pub rank_up : ℤ → Option Abstract → Option Interval
rank_up bound a = option_map (λ (a : Abstract). from_to (bound -ℤ a.range.high) (bound -ℤ a.range.low)) a

-- the same for `down`
abbrev pub rank_down : ℤ → Option Abstract → Option Interval
rank_down bound a = option_map (λ (a : Abstract). from_to (a.range.low -ℤ bound) (a.range.high -ℤ bound)) a

-- the rank in an environment: 1 for `one`; the task has none
abbrev pub rank_in : Rank → Environment → Option Interval
rank_in (Up v bound) env = rank_up bound (known env v)
rank_in (Down v bound) env = rank_down bound (known env v)
rank_in One env = Some (from_to (pos 1) (pos 1))
rank_in Task env = None

-- K8: where the body is entered, the rank is at least 1
abbrev pub is_positive : Option Interval → Bool
is_positive None = false
is_positive (Some r) = int_le (pos 1) r.low

-- the same where a state may not come
abbrev pub enters_ranked : Rank → Option Environment → Bool
enters_ranked rank None = true
enters_ranked rank (Some env) = is_positive (rank_in rank env)

-- whether the offset that is known of a variable is about itself, and at least 1 or at most -1
abbrev pub rises : ℕ → Option Abstract → Bool
rises n None = false
rises n (Some a) = of a.offset
  where
    of : Option Offset → Bool
    of None = false
    of (Some o) = nat_eq o.about n && int_le (pos 1) o.by.low

-- the same downwards
abbrev pub falls : ℕ → Option Abstract → Bool
falls n None = false
falls n (Some a) = of a.offset
  where
    of : Option Offset → Bool
    of None = false
    of (Some o) = nat_eq o.about n && int_le o.by.high (neg_ℤ (pos 1))

-- K9: on a way back the rank has fallen by at least 1, as the offset of its variable alone shows; `one` has no way back
abbrev pub goes_back_ranked : Rank → Option Environment → Bool
goes_back_ranked rank None = true
goes_back_ranked (Up v bound) (Some env) = rises v (known env v)
goes_back_ranked (Down v bound) (Some env) = falls v (known env v)
goes_back_ranked One (Some env) = false
goes_back_ranked Task (Some env) = true

-- K10: the turns are at least the rank at entry
abbrev pub is_enough : ℕ → Option Interval → Bool
is_enough turns None = false
is_enough turns (Some r) = int_le r.high (pos turns)

-- the loop that is claimed where there is none: it never comes where claims fit the program
abbrev pub no_claim : Loop
no_claim = record { depth = 0; rank = One; turns = 0; vars = [] }

-- a claim that may be lacking
abbrev pub claim_or_none : Option Loop → Loop
claim_or_none None = no_claim
claim_or_none (Some l) = l

-- the claim of a loop by its number
abbrev pub loop_claimed : List Loop → ℕ → Loop
loop_claimed loops n = claim_or_none (slice_get loops n)
