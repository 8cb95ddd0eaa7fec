-- Ranks of what a frame holds, by what a pass finds: at most the turns at entry, at least 1 where the body is entered, less on a way back.
use Rattle.std.proofs.Common.{◌≡◌, ℕ, Bool, true, false, List, [], ◌++◌, refl, ◌∙◌, ap, sym, Option, Some, None, ℤ, pos, neg_ℤ, ◌+ℤ◌, ◌-ℤ◌, ◌≤ℤ◌, subst, arith}
use Rattle.std.specs.Prelude.{not, nat_eq, int_le, IfSome}
use Rattle.std.proofs.lemmas.Bool.{eqb-true}
use Rattle.std.proofs.lemmas.Int.{ints}
use Rattle.p10_base.specs.declared.span.Span.{Span}
use Rattle.p10_int.specs.declared.types.IntType.{IntType}
use Rattle.p10_int.proofs.Conversions.{zero_in}
use Rattle.p10_range.specs.Ranges.{Interval, IsMember}
use Rattle.p10_range.specs.Rows.{values_of}
use Rattle.p10_range.proofs.Signs.{of_le}
use Rattle.p10_core.specs.Constants.{integer_of}
use Rattle.p10_core.specs.Typed.{PlainVariable}
use Rattle.p10_cert.specs.declared.claims.Rank.{Rank}
use Rattle.p10_cert.specs.declared.claims.Rank.TheVariants.{Up, Down, One, Task}
use Rattle.p10_cert.specs.Claims.{Var, Loop}
use Rattle.p10_meaning.specs.Values.{Held}
use Rattle.p10_absx.specs.Abstract.{Offset, Abstract, only_range}
use Rattle.p10_absx.specs.Environments.{Environment, known}
use Rattle.p10_absx.specs.Describing.{set_to, Differs, IsOwn, DescribesOne, DescribesVariable, Describes, MaybeDescribes}
use Rattle.p10_pass.specs.Claiming.{rank_up, rank_down, rank_in, is_positive, enters_ranked, rises, falls, goes_back_ranked, is_enough}
use Rattle.p10_pass.specs.Passing.{Round, failing_if, rank_fails}
use Rattle.p10_evaluation.proofs.Operating.{both_true}
use Rattle.p10_turns.specs.Ranked.{RangesDescribe, is_ranked}

-- ## The rank of a frame

-- the number that a variable holds; where it is unset 0, which every type has
abbrev pub worth : Option ℤ → ℤ
worth (Some z) = z
worth None = pos 0

-- the rank of what a frame holds
abbrev pub rank_of_frame : Rank → List Held → ℤ
rank_of_frame (Up v bound) held = bound -ℤ worth (set_to held v)
rank_of_frame (Down v bound) held = worth (set_to held v) -ℤ bound
rank_of_frame One held = pos 1
rank_of_frame Task held = pos 0

-- what describes a variable has what it is worth
worth_member : (head : List Held) (kind : IntType) (n : ℕ) (a : Abstract) (o : Option ℤ) → DescribesOne head (values_of kind) n a o → IsMember a.range (worth o)
worth_member head kind n a (Some z) d = d.member
worth_member head kind n a None d = let z = zero_in kind in record { above = omega (arith, ints, z.low, d.range.from_low); below = omega (arith, ints, z.high, d.range.to_high) }

variable_member : (variables : List PlainVariable) (head held : List Held) (n : ℕ) (a : Abstract) → DescribesVariable variables head held n a → IsMember a.range (worth (set_to held n))
variable_member variables head held n a v = worth_member head (integer_of v.variable.type) n a (set_to held n) v.describes

-- ## Where the body is entered

module _ (variables : List PlainVariable) (head held : List Held) (env : Environment) (d : Describes variables env head held) where
  up_positive : (v : ℕ) (bound : ℤ) (o : Option Abstract) → known env v ≡ o → is_positive (rank_up bound o) ≡ true → pos 1 ≤ℤ (bound -ℤ worth (set_to held v))
  up_positive v bound None s e = absurd cc
  up_positive v bound (Some a) s e =
      let m : IsMember a.range (worth (set_to held v)) = variable_member variables head held v a (d.each v a s) in
      let l : pos 1 ≤ℤ (bound -ℤ a.range.high) = of_le _ _ e in
      omega (arith, ints, l, m.below)

  down_positive : (v : ℕ) (bound : ℤ) (o : Option Abstract) → known env v ≡ o → is_positive (rank_down bound o) ≡ true → pos 1 ≤ℤ (worth (set_to held v) -ℤ bound)
  down_positive v bound None s e = absurd cc
  down_positive v bound (Some a) s e =
      let m : IsMember a.range (worth (set_to held v)) = variable_member variables head held v a (d.each v a s) in
      let l : pos 1 ≤ℤ (a.range.low -ℤ bound) = of_le _ _ e in
      omega (arith, ints, l, m.above)

  env_positive : (rank : Rank) → is_positive (rank_in rank env) ≡ true → pos 1 ≤ℤ rank_of_frame rank held
  env_positive (Up v bound) e = up_positive v bound (known env v) refl e
  env_positive (Down v bound) e = down_positive v bound (known env v) refl e
  env_positive One e = omega (arith, ints)
  env_positive Task e = absurd cc

-- K8
pub enters_positive : (variables : List PlainVariable) (head held : List Held) (rank : Rank) (o : Option Environment) → enters_ranked rank o ≡ true → MaybeDescribes variables o head held → pos 1 ≤ℤ rank_of_frame rank held
enters_positive variables head held rank None e d = absurd d
enters_positive variables head held rank (Some env) e d = env_positive variables head held env d rank e

-- ## On a way back

-- an offset about a variable itself, with a bound of its range
record IsAbout (n : ℕ) (o : Option Offset) (P : Offset → Type 0) : Type 0 where
  offset : Offset
  there : o ≡ Some offset
  about : offset.about ≡ n
  holds : P offset

rises_is : (n : ℕ) (r : Interval) (o : Option Offset) → rises n (Some (record { range = r; offset = o })) ≡ true → IsAbout n o (λ x. pos 1 ≤ℤ x.by.low)
rises_is n r None e = absurd cc
rises_is n r (Some x) e =
    let b = both_true (nat_eq x.about n) (int_le (pos 1) x.by.low) e in
    record { offset = x; there = refl; about = eqb-true x.about n b.0; holds = of_le _ _ b.1 }

falls_is : (n : ℕ) (r : Interval) (o : Option Offset) → falls n (Some (record { range = r; offset = o })) ≡ true → IsAbout n o (λ x. x.by.high ≤ℤ neg_ℤ (pos 1))
falls_is n r None e = absurd cc
falls_is n r (Some x) e =
    let b = both_true (nat_eq x.about n) (int_le x.by.high (neg_ℤ (pos 1))) e in
    record { offset = x; there = refl; about = eqb-true x.about n b.0; holds = of_le _ _ b.1 }

-- a variable with an offset about itself without 0 was set at the head, and is set
record HasMoved (head : List Held) (n : ℕ) (x : Offset) (o : Option ℤ) : Type 0 where
  now : ℤ
  is : o ≡ Some now
  before : ℤ
  was : set_to head n ≡ Some before
  difference : IsMember x.by (now -ℤ before)

has_moved : (head : List Held) (all : Interval) (n : ℕ) (a : Abstract) (x : Offset) (o : Option ℤ) → a.offset ≡ Some x → x.about ≡ n → (IsMember x.by (pos 0) → ⊥) → DescribesOne head all n a o → HasMoved head n x o
has_moved head all n a x (Some z) e i none d =
    let f : Differs head x z = subst (λ o. IfSome o (λ o. Differs head o z)) e d.offset in
    record { now = z; is = refl; before = f.then; was = ap (set_to head) (sym i) ∙ f.was; difference = f.difference }
has_moved head all n a x None e i none d = let f : IsOwn n x = subst (λ o. IfSome o (IsOwn n)) e d.offset in absurd (none f.zero)

module _ (variables : List PlainVariable) (head held : List Held) (env : Environment) (d : Describes variables env head held) where
  up_falls : (v : ℕ) (bound : ℤ) (o : Option Abstract) → known env v ≡ o → rises v o ≡ true → (pos 1 +ℤ (bound -ℤ worth (set_to held v))) ≤ℤ (bound -ℤ worth (set_to head v))
  up_falls v bound None s e = absurd cc
  up_falls v bound (Some a) s e =
      let r = rises_is v a.range a.offset e in
      let u : DescribesVariable variables head held v a = d.each v a s in
      let h : HasMoved head v r.offset (set_to held v) = has_moved head _ v a r.offset (set_to held v) r.there r.about (λ z. omega (arith, ints, z.above, r.holds)) u.describes in
      let now : worth (set_to held v) ≡ h.now = ap worth h.is in
      let before : worth (set_to head v) ≡ h.before = ap worth h.was in
      omega (arith, ints, r.holds, h.difference.above, now, before)

  down_falls : (v : ℕ) (bound : ℤ) (o : Option Abstract) → known env v ≡ o → falls v o ≡ true → (pos 1 +ℤ (worth (set_to held v) -ℤ bound)) ≤ℤ (worth (set_to head v) -ℤ bound)
  down_falls v bound None s e = absurd cc
  down_falls v bound (Some a) s e =
      let r = falls_is v a.range a.offset e in
      let u : DescribesVariable variables head held v a = d.each v a s in
      let h : HasMoved head v r.offset (set_to held v) = has_moved head _ v a r.offset (set_to held v) r.there r.about (λ z. omega (arith, ints, z.below, r.holds)) u.describes in
      let now : worth (set_to held v) ≡ h.now = ap worth h.is in
      let before : worth (set_to head v) ≡ h.before = ap worth h.was in
      omega (arith, ints, r.holds, h.difference.below, now, before)

-- K9
pub back_falls : (variables : List PlainVariable) (head held : List Held) (rank : Rank) (o : Option Environment) → is_ranked rank ≡ true → goes_back_ranked rank o ≡ true → MaybeDescribes variables o head held →
    (pos 1 +ℤ rank_of_frame rank held) ≤ℤ rank_of_frame rank head
back_falls variables head held rank None i e d = absurd d
back_falls variables head held (Up v bound) (Some env) i e d = up_falls variables head held env d v bound (known env v) refl e
back_falls variables head held (Down v bound) (Some env) i e d = down_falls variables head held env d v bound (known env v) refl e
back_falls variables head held One (Some env) i e d = absurd cc
back_falls variables head held Task (Some env) i e d = absurd cc

-- ## At entry

module _ (variables : List PlainVariable) (held : List Held) (env : Environment) (d : RangesDescribe variables env held) (turns : ℕ) where
  up_enough : (v : ℕ) (bound : ℤ) (o : Option Abstract) → known env v ≡ o → is_enough turns (rank_up bound o) ≡ true → (bound -ℤ worth (set_to held v)) ≤ℤ pos turns
  up_enough v bound None s e = absurd cc
  up_enough v bound (Some a) s e =
      let m : IsMember a.range (worth (set_to held v)) = variable_member variables [] held v (only_range a.range) (d.each v a s) in
      let l : (bound -ℤ a.range.low) ≤ℤ pos turns = of_le _ _ e in
      omega (arith, ints, l, m.above)

  down_enough : (v : ℕ) (bound : ℤ) (o : Option Abstract) → known env v ≡ o → is_enough turns (rank_down bound o) ≡ true → (worth (set_to held v) -ℤ bound) ≤ℤ pos turns
  down_enough v bound None s e = absurd cc
  down_enough v bound (Some a) s e =
      let m : IsMember a.range (worth (set_to held v)) = variable_member variables [] held v (only_range a.range) (d.each v a s) in
      let l : (a.range.high -ℤ bound) ≤ℤ pos turns = of_le _ _ e in
      omega (arith, ints, l, m.below)

  -- K10
  pub rank_enough : (rank : Rank) → is_enough turns (rank_in rank env) ≡ true → rank_of_frame rank held ≤ℤ pos turns
  rank_enough (Up v bound) e = up_enough v bound (known env v) refl e
  rank_enough (Down v bound) e = down_enough v bound (known env v) refl e
  rank_enough One e = of_le _ _ e
  rank_enough Task e = absurd cc

-- ## The conditions

-- K8 to K10 hold
pub record RankHolds (claim : Loop) (entry : Environment) (r : Round) : Type 0 where
  pub enters : enters_ranked claim.rank r.enters ≡ true
  pub back : goes_back_ranked claim.rank r.back ≡ true
  pub enough : is_enough claim.turns (rank_in claim.rank entry) ≡ true

no_fault : (a b c : Bool) (at : Span) → (failing_if (not a) 8 at ++ (failing_if (not b) 9 at ++ failing_if (not c) 10 at)) ≡ [] → (a ≡ true) × (b ≡ true) × (c ≡ true)
no_fault true true true at e = (refl, refl, refl)
no_fault true true false at e = absurd cc
no_fault true false c at e = absurd cc
no_fault false b c at e = absurd cc

holds_of : (depth : ℕ) (rank : Rank) (turns : ℕ) (vars : List Var) (at : Span) (entry : Environment) (r : Round) → is_ranked rank ≡ true → rank_fails (record { depth = depth; rank = rank; turns = turns; vars = vars }) at entry r ≡ [] →
    RankHolds (record { depth = depth; rank = rank; turns = turns; vars = vars }) entry r
holds_of depth (Up v bound) turns vars at entry r i e =
    let t = no_fault (enters_ranked (Up v bound) r.enters) (goes_back_ranked (Up v bound) r.back) (is_enough turns (rank_in (Up v bound) entry)) at e in record { enters = t.0; back = t.1; enough = t.2 }
holds_of depth (Down v bound) turns vars at entry r i e =
    let t = no_fault (enters_ranked (Down v bound) r.enters) (goes_back_ranked (Down v bound) r.back) (is_enough turns (rank_in (Down v bound) entry)) at e in record { enters = t.0; back = t.1; enough = t.2 }
holds_of depth One turns vars at entry r i e =
    let t = no_fault (enters_ranked One r.enters) (goes_back_ranked One r.back) (is_enough turns (rank_in One entry)) at e in record { enters = t.0; back = t.1; enough = t.2 }
holds_of depth Task turns vars at entry r i e = absurd cc

pub rank_holds : (claim : Loop) (at : Span) (entry : Environment) (r : Round) → is_ranked claim.rank ≡ true → rank_fails claim at entry r ≡ [] → RankHolds claim entry r
rank_holds claim at entry r i e = holds_of claim.depth claim.rank claim.turns claim.vars at entry r i e
