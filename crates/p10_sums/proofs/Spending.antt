-- What pieces take, put together from what their parts take.
use Rattle.std.proofs.Common.{◌≡◌, ℕ, zero, suc, ◌+◌, ◌<◌, ◌≤◌, max, cond, Bool, true, false, refl, ◌∙◌, arith, Result, Ok, Err, Option}
use Rattle.p10_base.specs.declared.span.Span.{Span}
use Rattle.p10_int.specs.declared.operators.Stop.{Stop}
use Rattle.p10_meaning.specs.declared.pointers.Scalar.{Scalar}
use Rattle.p10_meaning.specs.States.{State, AssertionFailed, Undefined, StepsSpent, Progress, gives, ends, step_at, step, and_then, or_undefined}
use Rattle.p10_meaning.specs.Values.{used}
use Rattle.p10_sums.specs.Keeping.{OnGives, AfterStepAt, AfterStep}
use Rattle.p10_sums.specs.Laws.{Spends, RunsOut, Takes}

-- two states with as many steps left, the same depths and the same count
pub record Same (from to : State) : Type 0 where
  pub left : to.left ≡ from.left
  pub calls : to.calls ≡ from.calls
  pub bytes : to.bytes ≡ from.bytes
  pub counted : to.after_mark ≡ from.after_mark

no_deeper : (a b c : ℕ) → b ≡ a → b ≤ max a c
no_deeper a b c e = omega (arith, e)

deepest : (a b d c : ℕ) → b ≤ max a c → d ≤ max b c → d ≤ max a c
deepest a b d c x y = omega (arith, x, y)

module _ (C B : ℕ) (A : Bool) where
  pub spends_same : (n : ℕ) (from to : State) → Same from to → Spends n C B A from to
  spends_same n from to s = record {
    no_more = fewer to.left from.left s.left;
    steps = enough to.left from.left n s.left;
    calls_at_most = no_deeper from.calls to.calls C s.calls;
    bytes_at_most = no_deeper from.bytes to.bytes B s.bytes;
    quiet = λ e. s.counted;
  }
    where
      fewer : (a b : ℕ) → a ≡ b → a ≤ b
      fewer a b e = omega (arith, e)

      enough : (a b n : ℕ) → a ≡ b → b ≤ a + n
      enough a b n e = omega (arith, e)

  spends_trans : (m n : ℕ) (from mid to : State) → Spends m C B A from mid → Spends n C B A mid to → Spends (m + n) C B A from to
  spends_trans m n from mid to x y = record {
    no_more = first from.left mid.left to.left x.no_more y.no_more;
    steps = both from.left mid.left to.left x.steps y.steps;
    calls_at_most = deepest from.calls mid.calls to.calls C x.calls_at_most y.calls_at_most;
    bytes_at_most = deepest from.bytes mid.bytes to.bytes B x.bytes_at_most y.bytes_at_most;
    quiet = λ e. y.quiet e ∙ x.quiet e;
  }
    where
      first : (a b c : ℕ) → b ≤ a → c ≤ b → c ≤ a
      first a b c p q = omega (arith, p, q)

      both : (a b c : ℕ) → a ≤ b + m → b ≤ c + n → a ≤ c + (m + n)
      both a b c p q = omega (arith, p, q)

  runs_out_after : (m n : ℕ) (from mid to : State) → Spends m C B A from mid → RunsOut n C B A mid to → RunsOut (m + n) C B A from to
  runs_out_after m n from mid to x y = record {
    too_few = both from.left mid.left x.steps y.too_few;
    calls_at_most = deepest from.calls mid.calls to.calls C x.calls_at_most y.calls_at_most;
    bytes_at_most = deepest from.bytes mid.bytes to.bytes B x.bytes_at_most y.bytes_at_most;
    quiet = λ e. y.quiet e ∙ x.quiet e;
  }
    where
      both : (a b : ℕ) → a ≤ b + m → b < n → a < m + n
      both a b p q = omega (arith, p, q)

  pub takes_from : {X : Type 0} (m n : ℕ) (from mid : State) (o : Progress X) → Spends m C B A from mid → Takes n C B A mid o → Takes (m + n) C B A from o
  takes_from m n from mid (gives a to) x y = record { taken = spends_trans m n from mid to x y.taken }
  takes_from m n from mid (ends (AssertionFailed span) to) x y = record { taken = spends_trans m n from mid to x y.taken }
  takes_from m n from mid (ends (Undefined stop span) to) x y = record { taken = spends_trans m n from mid to x y.taken }
  takes_from m n from mid (ends StepsSpent to) x y = record { taken = runs_out_after m n from mid to x y.taken }

  spends_more : (m n : ℕ) (from to : State) → m ≤ n → Spends m C B A from to → Spends n C B A from to
  spends_more m n from to h x = record { no_more = x.no_more; steps = more from.left to.left x.steps; calls_at_most = x.calls_at_most; bytes_at_most = x.bytes_at_most; quiet = x.quiet }
    where
      more : (a b : ℕ) → a ≤ b + m → a ≤ b + n
      more a b p = omega (arith, h, p)

  runs_out_more : (m n : ℕ) (from to : State) → m ≤ n → RunsOut m C B A from to → RunsOut n C B A from to
  runs_out_more m n from to h x = record { too_few = more from.left x.too_few; calls_at_most = x.calls_at_most; bytes_at_most = x.bytes_at_most; quiet = x.quiet }
    where
      more : (a : ℕ) → a < m → a < n
      more a p = omega (arith, h, p)

  pub takes_more : {X : Type 0} (m n : ℕ) (from : State) (o : Progress X) → m ≤ n → Takes m C B A from o → Takes n C B A from o
  takes_more m n from (gives a to) h y = record { taken = spends_more m n from to h y.taken }
  takes_more m n from (ends (AssertionFailed span) to) h y = record { taken = spends_more m n from to h y.taken }
  takes_more m n from (ends (Undefined stop span) to) h y = record { taken = spends_more m n from to h y.taken }
  takes_more m n from (ends StepsSpent to) h y = record { taken = runs_out_more m n from to h y.taken }

  pub takes_here : {X : Type 0} (n : ℕ) (a : X) (from to : State) → Same from to → Takes n C B A from (gives a to)
  takes_here n a from to s = record { taken = spends_same n from to s }

  nothing : (n : ℕ) → 0 + n ≤ n
  nothing n = omega arith

  last_nothing : (n : ℕ) → n + 0 ≤ n
  last_nothing n = omega arith

  -- a change of objects, of the input or of the output
  pub takes_changed : {X : Type 0} (n : ℕ) (from to : State) (o : Progress X) → Same from to → Takes n C B A to o → Takes n C B A from o
  takes_changed n from to o s y = takes_more (0 + n) n from o (nothing n) (takes_from 0 n from to o (spends_same 0 from to s) y)

  takes_step_at : {X : Type 0} (n l : ℕ) (w : State) (P : State → Type 0) (go : State → Progress X) → l ≡ w.left → AfterStepAt l w P → ((v : State) → suc v.left ≡ w.left → P v → Takes n C B A v (go v)) →
      Takes (1 + n) C B A w (step_at l w go)
  takes_step_at n zero w P go e h k = record {
    taken = record {
      too_few = none w.left e;
      calls_at_most = no_deeper w.calls w.calls C refl;
      bytes_at_most = no_deeper w.bytes w.bytes B refl;
      quiet = λ e. refl;
    };
  }
    where
      none : (a : ℕ) → zero ≡ a → a < 1 + n
      none a e = omega (arith, e)
  takes_step_at n (suc l) w P go e h k = takes_from 1 n w (record w { left = l }) (go (record w { left = l })) (record {
    no_more = less l w.left e;
    steps = one l w.left e;
    calls_at_most = no_deeper w.calls w.calls C refl;
    bytes_at_most = no_deeper w.bytes w.bytes B refl;
    quiet = λ e. refl;
  }) (k (record w { left = l }) e h)
    where
      less : (a b : ℕ) → suc a ≡ b → a ≤ b
      less a b e = omega (arith, e)

      one : (a b : ℕ) → suc a ≡ b → b ≤ a + 1
      one a b e = omega (arith, e)

  -- a step, and what it pays for
  pub takes_step : {X : Type 0} (n : ℕ) (w : State) (P : State → Type 0) (go : State → Progress X) → AfterStep w P → ((v : State) → suc v.left ≡ w.left → P v → Takes n C B A v (go v)) → Takes (1 + n) C B A w (step w go)
  takes_step n w P go h k = takes_step_at n w.left w P go refl h.after k

  -- a step of which nothing is known
  pub takes_plain : {X : Type 0} (n : ℕ) (w : State) (go : State → Progress X) → ((v : State) → suc v.left ≡ w.left → Takes n C B A v (go v)) → Takes (1 + n) C B A w (step w go)
  takes_plain n w go k = takes_step_at n w.left w (λ v. Unit {0}) go refl (any w.left) (λ v l h. k v l)
    where
      any : (l : ℕ) → AfterStepAt l w (λ v. Unit {0})
      any zero = tt
      any (suc l) = tt

  -- one piece after another
  pub takes_then : {X Y : Type 0} (m n : ℕ) (w : State) (o : Progress X) (P : X → State → Type 0) (go : X → State → Progress Y) → Takes m C B A w o → OnGives P o →
      ((a : X) (v : State) → v.left ≤ w.left → P a v → Takes n C B A v (go a v)) → Takes (m + n) C B A w (and_then o go)
  takes_then m n w (gives a v) P go x h k = takes_from m n w v (go a v) x.taken (k a v x.taken.no_more h.given)
  takes_then m n w (ends (AssertionFailed span) v) P go x h k = record { taken = spends_more m (m + n) w v (more m n) x.taken }
    where
      more : (m n : ℕ) → m ≤ m + n
      more m n = omega arith
  takes_then m n w (ends (Undefined stop span) v) P go x h k = record { taken = spends_more m (m + n) w v (more m n) x.taken }
    where
      more : (m n : ℕ) → m ≤ m + n
      more m n = omega arith
  takes_then m n w (ends StepsSpent v) P go x h k = record { taken = runs_out_more m (m + n) w v (more m n) x.taken }
    where
      more : (m n : ℕ) → m ≤ m + n
      more m n = omega arith

  pub gives_any : {X : Type 0} (o : Progress X) → OnGives (λ a v. Unit {0}) o
  gives_any (gives a v) = record { given = tt }
  gives_any (ends end v) = record { given = tt }

  pub takes_after : {X Y : Type 0} (m n : ℕ) (w : State) (o : Progress X) (go : X → State → Progress Y) → Takes m C B A w o → ((a : X) (v : State) → v.left ≤ w.left → Takes n C B A v (go a v)) → Takes (m + n) C B A w (and_then o go)
  takes_after m n w o go x k = takes_then m n w o (λ a v. Unit {0}) go x (gives_any o) (λ a v l h. k a v l)

  -- a piece after which no step is taken
  pub takes_last : {X Y : Type 0} (n : ℕ) (w : State) (o : Progress X) (go : X → State → Progress Y) → Takes n C B A w o → ((a : X) (v : State) → Takes 0 C B A v (go a v)) → Takes n C B A w (and_then o go)
  takes_last n w o go x k = takes_more (n + 0) n w (and_then o go) (last_nothing n) (takes_after n 0 w o go x (λ a v l. k a v))

  -- a piece before which no step is taken
  pub takes_first : {X Y : Type 0} (n : ℕ) (w : State) (o : Progress X) (go : X → State → Progress Y) → Takes 0 C B A w o → ((a : X) (v : State) → v.left ≤ w.left → Takes n C B A v (go a v)) → Takes n C B A w (and_then o go)
  takes_first n w o go x k = takes_more (0 + n) n w (and_then o go) (nothing n) (takes_after 0 n w o go x k)

  pub takes_or : {X Y : Type 0} (n : ℕ) (r : Result X Stop) (span : Span) (w : State) (go : X → Progress Y) → ((a : X) → Takes n C B A w (go a)) → Takes n C B A w (or_undefined r span w go)
  takes_or n (Ok a) span w go k = k a
  takes_or n (Err stop) span w go k = record { taken = spends_same n w w (record { left = refl; calls = refl; bytes = refl; counted = refl }) }

  pub takes_if : {X : Type 0} (n : ℕ) (w : State) (b : Bool) (x y : Progress X) → (b ≡ true → Takes n C B A w x) → (b ≡ false → Takes n C B A w y) → Takes n C B A w (cond b x y)
  takes_if n w true x y f g = f (λ i. true)
  takes_if n w false x y f g = g (λ i. false)

  -- a value that is used
  pub takes_used : (n : ℕ) (w : State) (o : Progress (Option Scalar)) (span : Span) → Takes n C B A w o → Takes n C B A w (and_then o (λ x w. or_undefined (used x) span w (λ x. gives x w)))
  takes_used n w o span x = takes_last n w o (λ x w. or_undefined (used x) span w (λ x. gives x w)) x
      (λ a v. takes_or 0 (used a) span v (λ x. gives x v) (λ z. takes_here 0 z v v (record { left = refl; calls = refl; bytes = refl; counted = refl })))
