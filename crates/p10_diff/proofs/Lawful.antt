-- The evidence of differences is lawful.
use Rattle.std.proofs.Common.{◌≡◌, ℕ, zero, suc, ◌+◌, ◌<◌, zero-add, Bool, true, false, List, [], ◌∷◌, length, refl, ◌∙◌, ap, sym, subst, Option, Some, None, slice_get, ℤ, pos, neg_ℤ, ◌+ℤ◌, ◌-ℤ◌, ◌≤ℤ◌, arith}
use Rattle.std.specs.Prelude.{IfSome, is_some, ◌&&◌, ◌||◌, if◌then◌else◌}
use Rattle.std.proofs.lemmas.Int.{ints}
use Rattle.p10_range.specs.Ranges.{Interval, IsMember}
use Rattle.p10_core.specs.Constants.{integer_of}
use Rattle.p10_core.specs.Typed.{PlainVariable, PlainFunction, PlainProgram}
use Rattle.p10_core.specs.WholePrograms.{declared_in, IsWholeProgram}
use Rattle.p10_cert.specs.Claims.{Loop}
use Rattle.p10_meaning.specs.States.{State}
use Rattle.p10_meaning.specs.Values.{Held}
use Rattle.p10_meaning.specs.Statements.{Frame}
use Rattle.p10_meaning.specs.Calling.{Depth}
use Rattle.p10_absx.specs.Abstract.{Abstract, only_range}
use Rattle.p10_absx.specs.Environments.{Environment, known}
use Rattle.p10_absx.specs.Describing.{set_to, DescribesVariable, Describes}
use Rattle.p10_absx.proofs.Entries.{get_below}
use Rattle.p10_pass.specs.Claiming.{head_of, ranges_hold}
use Rattle.p10_execution.specs.Scoping.{IsNumber, KnowsNumbers, IsBefore}
use Rattle.p10_execution.specs.Standing.{StandsSoundly}
use Rattle.p10_execution.proofs.Entries.{changed_knows}
use Rattle.p10_execution.proofs.Heads.{head_describes}
use Rattle.p10_turns.specs.LoopParts.{LoopParts, loops_among}
use Rattle.p10_turns.specs.Ranked.{RangesDescribe}
use Rattle.p10_turns.specs.Evidence.{stands_by_ranges}
use Rattle.p10_turns.specs.Laws.{KeepsTurns}
use Rattle.p10_turns.proofs.Bounded.{ranges_lawful}
use Rattle.p10_turns.proofs.Entries.{entry_describes}
use Rattle.p10_turns.proofs.WholeLoops.{loop_whole}
use Rattle.p10_walk.specs.Walking.{Round}
use Rattle.p10_walk.specs.Soundness.{Maybe}
use Rattle.p10_walk.specs.Turns.{round_from, Ranks}
use Rattle.p10_walk.specs.Ranges.{DescribesNumbers}
use Rattle.p10_walk.proofs.Turning.{ranks_bound_turns}
use Rattle.p10_diff.specs.Bounds.{plus, kept, is_at_most, AtMost}
use Rattle.p10_diff.specs.Differences.{Name, now, was, worth, Pair, has_name, Differences, unbounded, range_named, top, bottom, bound, fallen, same_name}
use Rattle.p10_diff.specs.Domain.{differences, distance_in, DescribesDifferences}
use Rattle.p10_diff.specs.Evidence.{Fact, Rank, rank_for, may_be_named, facts_may_be, pair_of, facts_learned, still, at_head, facts_hold, only_ranges, stays, stay_in_scope, where_coming, comes_back, is_positive, is_enough, enters_so, turns_so, rank_stands, loop_stands, stands_in, stands_by_differences}
use Rattle.p10_diff.specs.Laws.{DifferencesAreLawful}
use Rattle.p10_diff.proofs.Bounds.{at_most_is, plus_most, kept_most, top_most, bottom_most, most_of}
use Rattle.p10_diff.proofs.Named.{one_lies, variable_lies, if_lies, if_most, range_most, same_apart, bounded, falls_most, both_true, apart}
use Rattle.p10_diff.proofs.Changed.{learned_so}
use Rattle.p10_diff.proofs.Executed.{differences_sound}

-- ## Scopes

one_stays : (o e : Option Abstract) → stays o e ≡ true → is_some o ≡ true → is_some e ≡ true
one_stays None e s h = absurd cc
one_stays (Some a) None s h = absurd cc
one_stays (Some a) (Some b) s h = refl

in_scope_from : (k : ℕ) (vs : List PlainVariable) (head env : Environment) (n : ℕ) → stay_in_scope k vs head env ≡ true → n < length vs → is_some (known head (k + n)) ≡ true → is_some (known env (k + n)) ≡ true
in_scope_from k [] head env n s l e = absurd (omega (arith, l))
in_scope_from k (v ∷ vs) head env zero s l e =
    let q : k + zero ≡ k = omega arith in
    ap (λ m. is_some (known env m)) q ∙ one_stays (known head k) (known env k) (both_true (stays (known head k) (known env k)) (stay_in_scope (suc k) vs head env) s).0 (ap (λ m. is_some (known head m)) (sym q) ∙ e)
in_scope_from k (v ∷ vs) head env (suc n) s l e =
    let q : k + suc n ≡ suc k + n = omega arith in
    ap (λ m. is_some (known env m)) q ∙
    in_scope_from (suc k) vs head env n (both_true (stays (known head k) (known env k)) (stay_in_scope (suc k) vs head env) s).1 (omega (arith, l)) (ap (λ m. is_some (known head m)) (sym q) ∙ e)

in_scope : (vs : List PlainVariable) (head env : Environment) (n : ℕ) → stay_in_scope 0 vs head env ≡ true → IsNumber vs n → is_some (known head n) ≡ true → is_some (known env n) ≡ true
in_scope vs head env n s number e =
    ap (λ m. is_some (known env m)) (sym (zero-add n)) ∙ in_scope_from 0 vs head env n s (get_below vs n number.variable number.there) (ap (λ m. is_some (known head m)) (zero-add n) ∙ e)

-- ## Facts

abbrev FactsHold : List Held → List Fact → Type 0
FactsHold held [] = Unit {0}
FactsHold held (x ∷ facts) = ((worth held held (now x.greater) -ℤ worth held held (now x.lesser)) ≤ℤ x.by) × FactsHold held facts

facts_so : (p : Pair) (e : Differences) (held : List Held) (facts : List Fact) → ((n m : ℕ) → AtMost (worth held held (now n) -ℤ worth held held (now m)) (bound p e (now n) (now m))) → facts_hold p facts e ≡ true → FactsHold held facts
facts_so p e held [] b h = tt
facts_so p e held (x ∷ facts) b h =
    let both = both_true (is_at_most (bound p e (now x.greater) (now x.lesser)) x.by) (facts_hold p facts e) h in
    (at_most_is (worth held held (now x.greater) -ℤ worth held held (now x.lesser)) x.by (bound p e (now x.greater) (now x.lesser)) both.0 (b x.greater x.lesser), facts_so p e held facts b both.1)

abbrev AllAtMost : List Held → (Name → Name → Option ℤ) → Type 0
AllAtMost held bounds = (u w : Name) → AtMost (worth held held u -ℤ worth held held w) (bounds u w)

learned_facts : (held : List Held) (facts : List Fact) → FactsHold held facts → AllAtMost held (facts_learned facts unbounded)
learned_facts held [] h = λ u w. tt
learned_facts held (x ∷ facts) h = learned_so held held (now x.greater) (now x.lesser) x.by (facts_learned facts unbounded) h.0 (learned_facts held facts h.1)

none_apart : (z : ℤ) → (z -ℤ z) ≤ℤ pos 0
none_apart z = omega (arith, ints)

still_so : (held : List Held) (n : ℕ) (bounds : Name → Name → Option ℤ) → AllAtMost held bounds → AllAtMost held (still n bounds)
still_so held n bounds h = learned_so held held (now n) (was n) (pos 0) _ (none_apart (worth held held (now n))) (learned_so held held (was n) (now n) (pos 0) bounds (none_apart (worth held held (now n))) h)

-- ## Numbers

positive : (x y c : ℤ) → (x -ℤ y) ≤ℤ (c -ℤ pos 1) → pos 1 ≤ℤ ((y -ℤ x) +ℤ c)
positive x y c h = omega (arith, ints, h)

lower : (a b c : ℤ) → (a -ℤ b) ≤ℤ neg_ℤ (pos 1) → (a +ℤ c) ≤ℤ ((b +ℤ c) -ℤ pos 1)
lower a b c h = omega (arith, ints, h)

same_most : (c : ℤ) → c ≤ℤ c
same_most c = omega (arith, ints)

split_or : (a b : Bool) (P : Type 0) → (a || b) ≡ true → (a ≡ true → P) → (b ≡ true → P) → P
split_or true b P e f g = f refl
split_or false b P e f g = g e

module _ (p : PlainProgram) (whole : IsWholeProgram p) (number : ℕ) (f : PlainFunction) (there : slice_get p.functions number ≡ Some f) (k : ℕ) (l : LoopParts) (among : slice_get (loops_among f.body) k ≡ Some l)
    (entry : Environment) (before : IsBefore f.variables (declared_in l.body) entry) (claim : Loop) (r : Rank) where
  abbrev pair : Pair
  pair = pair_of f claim entry r

  abbrev D : Differences → List Held → List Held → Type 0
  D = DescribesDifferences pair

  abbrev h : Differences
  h = at_head pair r.facts

  abbrev round : Round Differences
  round = round_from (differences pair) l h

  abbrev rank : List Held → ℤ
  rank held = distance_in pair held held +ℤ r.more

  -- ## The head

  head_so : (held : List Held) → Describes f.variables pair.head held held → FactsHold held r.facts → D h held held
  head_so held d facts = record {
    ranges = record { describes = d; knows = record { each = λ n e. before.knows.each n (sym (changed_knows _ 0 f.variables entry n) ∙ e) } };
    before = λ n a e. variable_lies pair.head held held d n a e;
    bounds = still_so held r.below (still r.above (facts_learned r.facts unbounded)) (still_so held r.above (facts_learned r.facts unbounded) (learned_facts held r.facts facts));
    fall = tt;
  }

  -- ## The entry

  module _ (held : List Held) (d : RangesDescribe f.variables entry held) where
    entry_lies : (n : ℕ) → IfSome (range_named pair entry (now n)) (λ r. IsMember r (worth held held (now n)))
    entry_lies n = if_lies (has_name pair n) (known entry n) (worth held held (now n)) (λ a e.
        let v : DescribesVariable f.variables [] held n (only_range a.range) = d.each n a e in one_lies [] (integer_of v.variable.type) n (only_range a.range) (set_to held n) v.describes)

    entry_bounded : (n m : ℕ) → AtMost (worth held held (now n) -ℤ worth held held (now m)) (bound pair (only_ranges entry) (now n) (now m))
    entry_bounded n m = if_most (worth held held (now n) -ℤ worth held held (now m)) (same_name (now n) (now m)) (Some (pos 0)) (kept (plus (top (range_named pair entry (now n))) (bottom (range_named pair entry (now m)))))
        (λ q. same_apart held held (now n) (now m) q) (λ q. kept_most (worth held held (now n) -ℤ worth held held (now m)) (plus (top (range_named pair entry (now n))) (bottom (range_named pair entry (now m))))
        (range_most (worth held held (now n)) (worth held held (now m)) (range_named pair entry (now n)) (range_named pair entry (now m)) (entry_lies n) (entry_lies m)))

    enough : (turns : ℕ) → is_enough pair r.more turns entry ≡ true → rank held ≤ℤ pos turns
    enough turns e =
        let y : ℤ = worth held held (now r.above) in
        let x : ℤ = worth held held (now r.below) in
        at_most_is (rank held) (pos turns) (plus (plus (top (range_named pair entry (now r.above))) (bottom (range_named pair entry (now r.below)))) (Some r.more)) e
        (plus_most (y -ℤ x) r.more (plus (top (range_named pair entry (now r.above))) (bottom (range_named pair entry (now r.below)))) (Some r.more)
        (range_most y x (range_named pair entry (now r.above)) (range_named pair entry (now r.below)) (entry_lies r.above) (entry_lies r.below)) (same_most r.more))

  -- ## Rounds

  coming : (o : Option Differences) (test : Differences → Bool) (P : Type 0) (head held : List Held) → where_coming o test ≡ true → Maybe D o head held → ((e : Differences) → test e ≡ true → D e head held → P) → P
  coming None test P head held s d f = absurd d
  coming (Some e) test P head held s d f = f e s d

  again : (e : Differences) (head held : List Held) → comes_back pair claim r.facts e ≡ true → D e head held → D h held held
  again e head held s d =
      let parts = both_true (ranges_hold claim 0 f.variables e.ranges && stay_in_scope 0 f.variables pair.head e.ranges) (facts_hold pair r.facts e && is_at_most (fallen pair e) (neg_ℤ (pos 1))) s in
      let scope = both_true (ranges_hold claim 0 f.variables e.ranges) (stay_in_scope 0 f.variables pair.head e.ranges) parts.0 in
      let rest = both_true (facts_hold pair r.facts e) (is_at_most (fallen pair e) (neg_ℤ (pos 1))) parts.1 in
      head_so held (head_describes claim f.variables entry e.ranges head held (λ n q. in_scope f.variables pair.head e.ranges n scope.1 (before.knows.each n q) (changed_knows _ 0 f.variables entry n ∙ q)) scope.0 d.ranges.describes)
      (facts_so pair e held r.facts (λ n m. bounded pair e head held d (now n) (now m)) rest.0)

  falls : (e : Differences) (head held : List Held) → comes_back pair claim r.facts e ≡ true → D e head held → rank held ≤ℤ (rank head -ℤ pos 1)
  falls e head held s d =
      let parts = both_true (ranges_hold claim 0 f.variables e.ranges && stay_in_scope 0 f.variables pair.head e.ranges) (facts_hold pair r.facts e && is_at_most (fallen pair e) (neg_ℤ (pos 1))) s in
      let rest = both_true (facts_hold pair r.facts e) (is_at_most (fallen pair e) (neg_ℤ (pos 1))) parts.1 in
      lower (distance_in pair held held) (distance_in pair head head) r.more (at_most_is (distance_in pair head held -ℤ distance_in pair head head) (neg_ℤ (pos 1)) (fallen pair e) rest.1 (falls_most pair e head held d))

  enters_positive : (e : Differences) (head : List Held) → is_positive pair r.more e ≡ true → D e head head → pos 1 ≤ℤ rank head
  enters_positive e head s d =
      positive (worth head head (now r.below)) (worth head head (now r.above)) r.more
      (at_most_is (worth head head (now r.below) -ℤ worth head head (now r.above)) (r.more -ℤ pos 1) (bound pair e (now r.below) (now r.above)) s (bounded pair e head head d (now r.below) (now r.above)))

  -- ## The loop

  ranked : turns_so pair claim r round ≡ true → Ranks Differences (differences pair) D l h rank
  ranked s =
      let parts = both_true (where_coming round.enters (is_positive pair r.more)) (where_coming round.back (comes_back pair claim r.facts)) s in
      record {
        again = λ head held d. coming round.back (comes_back pair claim r.facts) (D h held held) head held parts.1 d (λ e s d. again e head held s d);
        positive = λ head d. coming round.enters (is_positive pair r.more) (pos 1 ≤ℤ rank head) head head parts.0 d (λ e s d. enters_positive e head s d);
        falls = λ head held d. coming round.back (comes_back pair claim r.facts) (rank held ≤ℤ (rank head -ℤ pos 1)) head held parts.1 d (λ e s d. falls e head held s d);
      }

  pub keeps_turns : rank_stands f l entry claim r ≡ true → (n : ℕ) (depth : Depth) → KeepsTurns p f l entry claim n depth
  keeps_turns s n depth frame w ready d =
      let names : Bool = (may_be_named f pair entry r.below && may_be_named f pair entry r.above) && facts_may_be f pair entry r.facts in
      let parts = both_true names (enters_so pair claim r entry && turns_so pair claim r round) s in
      let both = both_true (enters_so pair claim r entry) (turns_so pair claim r round) parts.1 in
      let starts = both_true (ranges_hold claim 0 f.variables entry && facts_hold pair r.facts (only_ranges entry)) (is_enough pair r.more claim.turns entry) both.0 in
      let first = both_true (ranges_hold claim 0 f.variables entry) (facts_hold pair r.facts (only_ranges entry)) starts.0 in
      let somewhere = loop_whole p whole number f there k l among in
      ranks_bound_turns p whole n depth number f there Differences (differences pair) D (differences_sound p whole n depth number f there r.below r.above pair.head)
      somewhere.scope somewhere.in_loop somewhere.in_switch l somewhere.is_whole before.once h rank (ranked both.1) claim.turns frame w ready
      (head_so frame.held (entry_describes claim f.variables entry frame.held first.0 d) (facts_so pair (only_ranges entry) frame.held r.facts (entry_bounded frame.held d) first.1)) (enough frame.held d claim.turns starts.1)

pub differences_lawful : DifferencesAreLawful
differences_lawful p whole ranks number f there k l among entry before claim s n depth =
    split_or (stands_by_ranges p number k entry claim) (stands_in (slice_get p.functions number) k entry claim (rank_for ranks number k)) (KeepsTurns p f l entry claim n depth) s
    (λ e. ranges_lawful p whole number f there k l among entry before claim e n depth) (λ e. by_rank (rank_for ranks number k) e)
  where
    by_rank : (o : Option Rank) → stands_in (slice_get p.functions number) k entry claim o ≡ true → KeepsTurns p f l entry claim n depth
    by_rank None e = absurd (none (subst (λ g. stands_in g k entry claim None ≡ true) there e))
      where
        none : loop_stands f (slice_get (loops_among f.body) k) entry claim None ≡ true → ⊥
        none e = by (slice_get (loops_among f.body) k) e
          where
            by : (m : Option LoopParts) → loop_stands f m entry claim None ≡ true → ⊥
            by None e = cc
            by (Some m) e = cc
    by_rank (Some r) e = keeps_turns p whole number f there k l among entry before claim r
        (subst (λ m. loop_stands f m entry claim (Some r) ≡ true) among (subst (λ g. stands_in g k entry claim (Some r) ≡ true) there e)) n depth
