-- The rank of a loop: at least 1 where the body is entered, and smaller by at least 1 on each way back.
use Rattle.std.proofs.Common.{◌≡◌, ℕ, suc, ◌≤◌, true, List, refl, ◌∙◌, ap, sym, subst, Option, Some, None, ℤ, pos, neg_ℤ, ◌-ℤ◌, ◌≤ℤ◌, arith}
use Rattle.std.specs.Prelude.{slice_get, nat_eq, int_le, IfSome}
use Rattle.std.proofs.lemmas.Option.{same_Some, none-some}
use Rattle.std.proofs.lemmas.Int.{ints}
use Rattle.std.proofs.lemmas.Bool.{eqb-true}
use Rattle.p10_int.specs.declared.types.IntType.{IntType}
use Rattle.p10_range.specs.Ranges.{Interval, from_to}
use Rattle.p10_range.specs.Rows.{values_of}
use Rattle.p10_core.specs.Constants.{integer_of}
use Rattle.p10_core.specs.Typed.{PlainVariable}
use Rattle.p10_cert.specs.declared.claims.Rank.{Rank}
use Rattle.p10_cert.specs.declared.claims.Rank.TheVariants.{Up, Down, One, Task}
use Rattle.p10_meaning.specs.Values.{Held}
use Rattle.p10_absx.specs.Abstract.{Offset, Abstract}
use Rattle.p10_absx.specs.Environments.{Environment, known}
use Rattle.p10_absx.specs.Describing.{set_to, Differs, IsOwn, DescribesOne, DescribesVariable, Describes, MaybeDescribes}
use Rattle.p10_pass.specs.Claiming.{rank_up, rank_down, rank_in, is_positive, enters_ranked, rises, falls, goes_back_ranked, is_enough}
use Rattle.p10_range.proofs.Signs.{of_le}
use Rattle.p10_int.specs.Types.{InRange}
use Rattle.p10_int.proofs.Conversions.{zero_in}
use Rattle.p10_evaluation.proofs.Operating.{both_true}

-- ## What the rank is in a frame

-- all values of a variable's type
abbrev type_values : Option PlainVariable → Interval
type_values None = from_to (pos 0) (pos 0)
type_values (Some v) = values_of (integer_of v.type)

-- `up` of a variable is at most n: that of an unset one is as great as its type allows
abbrev UpTo : ℤ → Interval → ℕ → Option ℤ → Type 0
UpTo bound all n (Some z) = (bound -ℤ z) ≤ℤ pos n
UpTo bound all n None = (bound -ℤ all.low) ≤ℤ pos n

-- the same for `down`
abbrev DownTo : ℤ → Interval → ℕ → Option ℤ → Type 0
DownTo bound all n (Some z) = (z -ℤ bound) ≤ℤ pos n
DownTo bound all n None = (all.high -ℤ bound) ≤ℤ pos n

-- the rank is at most n in a frame
abbrev pub RankAtMost : List PlainVariable → Rank → ℕ → List Held → Type 0
RankAtMost variables (Up v bound) n held = UpTo bound (type_values (slice_get variables v)) n (set_to held v)
RankAtMost variables (Down v bound) n held = DownTo bound (type_values (slice_get variables v)) n (set_to held v)
RankAtMost variables One n held = 1 ≤ n
RankAtMost variables Task n held = ⊥

inhabited : (kind : IntType) → (values_of kind).low ≤ℤ (values_of kind).high
inhabited kind = let z : InRange kind (pos 0) = zero_in kind in omega (arith, ints, z.low, z.high)

-- a variable of which something is known, by what it holds
pub record IsKnown (variables : List PlainVariable) (head held : List Held) (v : ℕ) (a : Abstract) : Type 0 where
  pub kind : IntType
  pub all : type_values (slice_get variables v) ≡ values_of kind
  pub describes : DescribesOne head (values_of kind) v a (set_to held v)

known_is : (variables : List PlainVariable) (env : Environment) (head held : List Held) (v : ℕ) (a : Abstract) → Describes variables env head held → known env v ≡ Some a → IsKnown variables head held v a
known_is variables env head held v a d e = let u : DescribesVariable variables head held v a = d.each v a e in record { kind = integer_of u.variable.type; all = ap type_values u.there; describes = u.describes }

-- ## Where the loop is entered (K10)

up_enough : (bound : ℤ) (head : List Held) (all : Interval) (v n : ℕ) (a : Abstract) (o : Option ℤ) → int_le (bound -ℤ a.range.low) (pos n) ≡ true → DescribesOne head all v a o → UpTo bound all n o
up_enough bound head all v n a (Some z) e d = let h : (bound -ℤ a.range.low) ≤ℤ pos n = of_le (bound -ℤ a.range.low) (pos n) e in omega (arith, ints, h, d.member.above)
up_enough bound head all v n a None e d = let h : (bound -ℤ a.range.low) ≤ℤ pos n = of_le (bound -ℤ a.range.low) (pos n) e in omega (arith, ints, h, d.range.from_low)

down_enough : (bound : ℤ) (head : List Held) (all : Interval) (v n : ℕ) (a : Abstract) (o : Option ℤ) → int_le (a.range.high -ℤ bound) (pos n) ≡ true → DescribesOne head all v a o → DownTo bound all n o
down_enough bound head all v n a (Some z) e d = let h : (a.range.high -ℤ bound) ≤ℤ pos n = of_le (a.range.high -ℤ bound) (pos n) e in omega (arith, ints, h, d.member.below)
down_enough bound head all v n a None e d = let h : (a.range.high -ℤ bound) ≤ℤ pos n = of_le (a.range.high -ℤ bound) (pos n) e in omega (arith, ints, h, d.range.to_high)

at_least_one : (n : ℕ) → pos 1 ≤ℤ pos n → 1 ≤ n
at_least_one n h = omega (arith, ints, h)

pub entry_rank : (variables : List PlainVariable) (rank : Rank) (n : ℕ) (env : Environment) (head held : List Held) → is_enough n (rank_in rank env) ≡ true → Describes variables env head held → RankAtMost variables rank n held
entry_rank variables (Up v bound) n env head held e d = by_case (known env v) refl e
  where
    by_case : (o : Option Abstract) → known env v ≡ o → is_enough n (rank_up bound o) ≡ true → UpTo bound (type_values (slice_get variables v)) n (set_to held v)
    by_case None k e = absurd cc
    by_case (Some a) k e =
        let u : IsKnown variables head held v a = known_is variables env head held v a d k in
        subst (λ all. UpTo bound all n (set_to held v)) (sym u.all) (up_enough bound head (values_of u.kind) v n a (set_to held v) e u.describes)
entry_rank variables (Down v bound) n env head held e d = by_case (known env v) refl e
  where
    by_case : (o : Option Abstract) → known env v ≡ o → is_enough n (rank_down bound o) ≡ true → DownTo bound (type_values (slice_get variables v)) n (set_to held v)
    by_case None k e = absurd cc
    by_case (Some a) k e =
        let u : IsKnown variables head held v a = known_is variables env head held v a d k in
        subst (λ all. DownTo bound all n (set_to held v)) (sym u.all) (down_enough bound head (values_of u.kind) v n a (set_to held v) e u.describes)
entry_rank variables One n env head held e d = at_least_one n (of_le (pos 1) (pos n) e)
entry_rank variables Task n env head held e d = absurd cc

-- ## Where the body is entered (K8)

up_positive : (bound : ℤ) (head : List Held) (kind : IntType) (v : ℕ) (a : Abstract) (o : Option ℤ) → int_le (pos 1) (bound -ℤ a.range.high) ≡ true → DescribesOne head (values_of kind) v a o → UpTo bound (values_of kind) 0 o → ⊥
up_positive bound head kind v a (Some z) e d h = let k : pos 1 ≤ℤ (bound -ℤ a.range.high) = of_le (pos 1) (bound -ℤ a.range.high) e in omega (arith, ints, h, k, d.member.below)
up_positive bound head kind v a None e d h =
    let k : pos 1 ≤ℤ (bound -ℤ a.range.high) = of_le (pos 1) (bound -ℤ a.range.high) e in
    let i : (values_of kind).low ≤ℤ (values_of kind).high = inhabited kind in
    omega (arith, ints, h, k, i, d.range.to_high)

down_positive : (bound : ℤ) (head : List Held) (kind : IntType) (v : ℕ) (a : Abstract) (o : Option ℤ) → int_le (pos 1) (a.range.low -ℤ bound) ≡ true → DescribesOne head (values_of kind) v a o → DownTo bound (values_of kind) 0 o → ⊥
down_positive bound head kind v a (Some z) e d h = let k : pos 1 ≤ℤ (a.range.low -ℤ bound) = of_le (pos 1) (a.range.low -ℤ bound) e in omega (arith, ints, h, k, d.member.above)
down_positive bound head kind v a None e d h =
    let k : pos 1 ≤ℤ (a.range.low -ℤ bound) = of_le (pos 1) (a.range.low -ℤ bound) e in
    let i : (values_of kind).low ≤ℤ (values_of kind).high = inhabited kind in
    omega (arith, ints, h, k, i, d.range.from_low)

none_entered : 1 ≤ 0 → ⊥
none_entered h = omega (arith, h)

pub entered_positive : (variables : List PlainVariable) (rank : Rank) (o : Option Environment) (head held : List Held) → enters_ranked rank o ≡ true → MaybeDescribes variables o head held → RankAtMost variables rank 0 held → ⊥
entered_positive variables rank None head held e d h = d
entered_positive variables (Up v bound) (Some env) head held e d h = by_case (known env v) refl e
  where
    by_case : (o : Option Abstract) → known env v ≡ o → is_positive (rank_up bound o) ≡ true → ⊥
    by_case None k e = absurd cc
    by_case (Some a) k e =
        let u : IsKnown variables head held v a = known_is variables env head held v a d k in
        up_positive bound head u.kind v a (set_to held v) e u.describes (subst (λ all. UpTo bound all 0 (set_to held v)) u.all h)
entered_positive variables (Down v bound) (Some env) head held e d h = by_case (known env v) refl e
  where
    by_case : (o : Option Abstract) → known env v ≡ o → is_positive (rank_down bound o) ≡ true → ⊥
    by_case None k e = absurd cc
    by_case (Some a) k e =
        let u : IsKnown variables head held v a = known_is variables env head held v a d k in
        down_positive bound head u.kind v a (set_to held v) e u.describes (subst (λ all. DownTo bound all 0 (set_to held v)) u.all h)
entered_positive variables One (Some env) head held e d h = none_entered h
entered_positive variables Task (Some env) head held e d h = h

-- ## On a way back (K9)

-- an offset about a variable itself
pub record IsAbout (v : ℕ) (o : Option Offset) (P : Offset → Type 0) : Type 0 where
  pub offset : Offset
  pub is : o ≡ Some offset
  pub about : offset.about ≡ v
  pub moves : P offset

rises_is : (v : ℕ) (a : Abstract) → rises v (Some a) ≡ true → IsAbout v a.offset (λ o. pos 1 ≤ℤ o.by.low)
rises_is v a e = by_case a.offset e
  where
    by_case : (o : Option Offset) → rises v (Some (record a { offset = o })) ≡ true → IsAbout v o (λ o. pos 1 ≤ℤ o.by.low)
    by_case None e = absurd cc
    by_case (Some o) e = let both = both_true (nat_eq o.about v) (int_le (pos 1) o.by.low) e in record { offset = o; is = refl; about = eqb-true o.about v both.0; moves = of_le (pos 1) o.by.low both.1 }

falls_is : (v : ℕ) (a : Abstract) → falls v (Some a) ≡ true → IsAbout v a.offset (λ o. o.by.high ≤ℤ neg_ℤ (pos 1))
falls_is v a e = by_case a.offset e
  where
    by_case : (o : Option Offset) → falls v (Some (record a { offset = o })) ≡ true → IsAbout v o (λ o. o.by.high ≤ℤ neg_ℤ (pos 1))
    by_case None e = absurd cc
    by_case (Some o) e = let both = both_true (nat_eq o.about v) (int_le o.by.high (neg_ℤ (pos 1))) e in record { offset = o; is = refl; about = eqb-true o.about v both.0; moves = of_le o.by.high (neg_ℤ (pos 1)) both.1 }

-- what was set at the head has a rank there
up_from : (bound : ℤ) (all : Interval) (n : ℕ) (o : Option ℤ) (then : ℤ) → o ≡ Some then → UpTo bound all n o → (bound -ℤ then) ≤ℤ pos n
up_from bound all n None then e h = absurd (none-some _ e)
up_from bound all n (Some z) then e h = let same : z ≡ then = same_Some _ _ e in subst (λ z. (bound -ℤ z) ≤ℤ pos n) same h

down_from : (bound : ℤ) (all : Interval) (n : ℕ) (o : Option ℤ) (then : ℤ) → o ≡ Some then → DownTo bound all n o → (then -ℤ bound) ≤ℤ pos n
down_from bound all n None then e h = absurd (none-some _ e)
down_from bound all n (Some z) then e h = let same : z ≡ then = same_Some _ _ e in subst (λ z. (z -ℤ bound) ≤ℤ pos n) same h

up_falls : (bound : ℤ) (head : List Held) (all : Interval) (v n : ℕ) (a : Abstract) (o : Option ℤ) → IsAbout v a.offset (λ o. pos 1 ≤ℤ o.by.low) → DescribesOne head all v a o → UpTo bound all (suc n) (set_to head v) → UpTo bound all n o
up_falls bound head all v n a (Some z) r d h =
    let k : Differs head r.offset z = subst (λ o. IfSome o (λ o. Differs head o z)) r.is d.offset in
    let was : set_to head v ≡ Some k.then = ap (set_to head) (sym r.about) ∙ k.was in
    let before : (bound -ℤ k.then) ≤ℤ pos (suc n) = up_from bound all (suc n) (set_to head v) k.then was h in
    omega (arith, ints, before, r.moves, k.difference.above)
up_falls bound head all v n a None r d h =
    let own : IsOwn v r.offset = subst (λ o. IfSome o (IsOwn v)) r.is d.offset in
    absurd (omega (arith, ints, r.moves, own.zero.above))

down_falls : (bound : ℤ) (head : List Held) (all : Interval) (v n : ℕ) (a : Abstract) (o : Option ℤ) → IsAbout v a.offset (λ o. o.by.high ≤ℤ neg_ℤ (pos 1)) → DescribesOne head all v a o → DownTo bound all (suc n) (set_to head v) → DownTo bound all n o
down_falls bound head all v n a (Some z) r d h =
    let k : Differs head r.offset z = subst (λ o. IfSome o (λ o. Differs head o z)) r.is d.offset in
    let was : set_to head v ≡ Some k.then = ap (set_to head) (sym r.about) ∙ k.was in
    let before : (k.then -ℤ bound) ≤ℤ pos (suc n) = down_from bound all (suc n) (set_to head v) k.then was h in
    omega (arith, ints, before, r.moves, k.difference.below)
down_falls bound head all v n a None r d h =
    let own : IsOwn v r.offset = subst (λ o. IfSome o (IsOwn v)) r.is d.offset in
    absurd (omega (arith, ints, r.moves, own.zero.below))

pub back_falls : (variables : List PlainVariable) (rank : Rank) (n : ℕ) (o : Option Environment) (head held : List Held) → goes_back_ranked rank o ≡ true → MaybeDescribes variables o head held → RankAtMost variables rank (suc n) head → RankAtMost variables rank n held
back_falls variables rank n None head held e d h = absurd d
back_falls variables (Up v bound) n (Some env) head held e d h = by_case (known env v) refl e
  where
    by_case : (o : Option Abstract) → known env v ≡ o → rises v o ≡ true → UpTo bound (type_values (slice_get variables v)) n (set_to held v)
    by_case None k e = absurd cc
    by_case (Some a) k e =
        let u : IsKnown variables head held v a = known_is variables env head held v a d k in
        subst (λ all. UpTo bound all n (set_to held v)) (sym u.all) (up_falls bound head (values_of u.kind) v n a (set_to held v) (rises_is v a e) u.describes (subst (λ all. UpTo bound all (suc n) (set_to head v)) u.all h))
back_falls variables (Down v bound) n (Some env) head held e d h = by_case (known env v) refl e
  where
    by_case : (o : Option Abstract) → known env v ≡ o → falls v o ≡ true → DownTo bound (type_values (slice_get variables v)) n (set_to held v)
    by_case None k e = absurd cc
    by_case (Some a) k e =
        let u : IsKnown variables head held v a = known_is variables env head held v a d k in
        subst (λ all. DownTo bound all n (set_to held v)) (sym u.all) (down_falls bound head (values_of u.kind) v n a (set_to held v) (falls_is v a e) u.describes (subst (λ all. DownTo bound all (suc n) (set_to head v)) u.all h))
back_falls variables One n (Some env) head held e d h = absurd cc
back_falls variables Task n (Some env) head held e d h = absurd h
