-- Bounds that cover what calls in trees are claimed to do.
use Rattle.std.proofs.Common.{◌≡◌, ℕ, ◌+◌, ◌≤◌, max, Bool, true, false, List, ◌++◌, map, refl, sym, ◌∙◌, arith}
use Rattle.std.specs.Prelude.{◌||◌, slice_get}
use Rattle.p10_core.specs.Nodes.{PlainNode}
use Rattle.p10_cert.specs.Claims.{Func}
use Rattle.p10_meaning.specs.States.{State, AssertionFailed, Undefined, StepsSpent, Progress, gives, ends}
use Rattle.p10_meaning.specs.Calling.{Depth}
use Rattle.p10_sums.specs.Counting.{calls_claimed, bytes_claimed}
use Rattle.p10_sums.specs.Depths.{callees, greatest_number, have_effect}
use Rattle.p10_sums.specs.Laws.{Spends, RunsOut, Takes, calls_under, bytes_under}
use Rattle.p10_sums.proofs.Telling.{greatest_of_both, effect_of_both}

-- depths and an effect lie within bounds
pub record Bounds (calls bytes : ℕ) (effect : Bool) (C B : ℕ) (A : Bool) : Type 0 where
  pub calls_in : calls ≤ C
  pub bytes_in : bytes ≤ B
  pub effect_in : A ≡ false → effect ≡ false

-- so do those of trees with these nodes
abbrev pub Covers : List Func → Depth → ℕ → ℕ → Bool → List PlainNode → Type 0
Covers functions depth C B A ns = Bounds (calls_under functions depth ns) (bytes_under functions depth ns) (have_effect functions ns) C B A

pub neither : (a b : Bool) → (a || b) ≡ false → (a ≡ false) × (b ≡ false)
neither true b e = absurd cc
neither false b e = (refl, e)

left_in : (d x a b C : ℕ) → d + x ≤ C → x ≡ max a b → d + a ≤ C
left_in d x a b C h e = omega (arith, h, e)

right_in : (d x a b C : ℕ) → d + x ≤ C → x ≡ max a b → d + b ≤ C
right_in d x a b C h e = omega (arith, h, e)

pub bounds_left : (d k a x b y : ℕ) (e f : Bool) (C B : ℕ) (A : Bool) → Bounds (d + max a x) (k + max b y) (e || f) C B A → Bounds (d + a) (k + b) e C B A
bounds_left d k a x b y e f C B A h = record { calls_in = left_in d (max a x) a x C h.calls_in refl; bytes_in = left_in k (max b y) b y B h.bytes_in refl; effect_in = λ q. (neither e f (h.effect_in q)).0 }

pub bounds_right : (d k a x b y : ℕ) (e f : Bool) (C B : ℕ) (A : Bool) → Bounds (d + max a x) (k + max b y) (e || f) C B A → Bounds (d + x) (k + y) f C B A
bounds_right d k a x b y e f C B A h = record { calls_in = right_in d (max a x) a x C h.calls_in refl; bytes_in = right_in k (max b y) b y B h.bytes_in refl; effect_in = λ q. (neither e f (h.effect_in q)).1 }

module _ (functions : List Func) (depth : Depth) (C B : ℕ) (A : Bool) where
  pub covers_left : (ns ks : List PlainNode) → Covers functions depth C B A (ns ++ ks) → Covers functions depth C B A ns
  covers_left ns ks h = record {
    calls_in = left_in depth.calls _ _ (greatest_number (map (λ g. calls_claimed (slice_get functions g)) (callees ks))) C h.calls_in (greatest_of_both (λ g. calls_claimed (slice_get functions g)) ns ks);
    bytes_in = left_in depth.bytes _ _ (greatest_number (map (λ g. bytes_claimed (slice_get functions g)) (callees ks))) B h.bytes_in (greatest_of_both (λ g. bytes_claimed (slice_get functions g)) ns ks);
    effect_in = λ q. (neither (have_effect functions ns) (have_effect functions ks) (sym (effect_of_both functions ns ks) ∙ h.effect_in q)).0;
  }

  pub covers_right : (ns ks : List PlainNode) → Covers functions depth C B A (ns ++ ks) → Covers functions depth C B A ks
  covers_right ns ks h = record {
    calls_in = right_in depth.calls _ (greatest_number (map (λ g. calls_claimed (slice_get functions g)) (callees ns))) _ C h.calls_in (greatest_of_both (λ g. calls_claimed (slice_get functions g)) ns ks);
    bytes_in = right_in depth.bytes _ (greatest_number (map (λ g. bytes_claimed (slice_get functions g)) (callees ns))) _ B h.bytes_in (greatest_of_both (λ g. bytes_claimed (slice_get functions g)) ns ks);
    effect_in = λ q. (neither (have_effect functions ns) (have_effect functions ks) (sym (effect_of_both functions ns ks) ∙ h.effect_in q)).1;
  }

-- within wider bounds
wider : (a b k C : ℕ) → a ≤ max b k → k ≤ C → a ≤ max b C
wider a b k C p q = omega (arith, p, q)

spends_wider : (n k b : ℕ) (e : Bool) (C B : ℕ) (A : Bool) (from to : State) → Bounds k b e C B A → Spends n k b e from to → Spends n C B A from to
spends_wider n k b e C B A from to h x = record {
  no_more = x.no_more;
  steps = x.steps;
  calls_at_most = wider to.calls from.calls k C x.calls_at_most h.calls_in;
  bytes_at_most = wider to.bytes from.bytes b B x.bytes_at_most h.bytes_in;
  quiet = λ q. x.quiet (h.effect_in q);
}

pub takes_wider : {X : Type 0} (n k b : ℕ) (e : Bool) (C B : ℕ) (A : Bool) (w : State) (o : Progress X) → Bounds k b e C B A → Takes n k b e w o → Takes n C B A w o
takes_wider n k b e C B A w (gives a v) h x = record { taken = spends_wider n k b e C B A w v h x.taken }
takes_wider n k b e C B A w (ends (AssertionFailed span) v) h x = record { taken = spends_wider n k b e C B A w v h x.taken }
takes_wider n k b e C B A w (ends (Undefined stop span) v) h x = record { taken = spends_wider n k b e C B A w v h x.taken }
takes_wider n k b e C B A w (ends StepsSpent v) h x =
    let y : RunsOut n k b e w v = x.taken in
    record {
      taken = record {
        too_few = y.too_few;
        calls_at_most = wider v.calls w.calls k C y.calls_at_most h.calls_in;
        bytes_at_most = wider v.bytes w.bytes b B y.bytes_at_most h.bytes_in;
        quiet = λ q. y.quiet (h.effect_in q);
      };
    }
