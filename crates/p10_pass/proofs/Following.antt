-- Parts that follow one another: it doesn't matter which are joined first.
use Rattle.std.proofs.Common.{◌≡◌, ℕ, ◌+◌, ◌<◌, ◌≤◌, eqb, Bool, true, false, List, [], ◌∷◌, drop, length, get_or, Option, Some, None, refl, ap, sym, ◌∙◌, arith, append_assoc, ℤ}
use Rattle.std.specs.Prelude.{if◌then◌else◌}
use Rattle.std.proofs.lemmas.Int.{ints, clamps}
use Rattle.std.proofs.lemmas.List.{append-nil}
use Rattle.std.proofs.lemmas.Bool.Decides.{nat_tests}
use Rattle.p10_range.specs.Ranges.{Interval, from_to, hull_of}
use Rattle.p10_absx.specs.Abstract.{Offset, Abstract, hull_offset, hull_abstract}
use Rattle.p10_absx.specs.Environments.{Environment, hull_entry, hull_environment, hull_reached}
use Rattle.p10_pass.specs.Passing.{Left, nowhere, reached, where_going, hull_range, followed, and_then_pass}
use Rattle.p10_pass.proofs.Lists.{cut_at, drop_end}

-- ## Hulls of three

ends : (a b c d : ℤ) → a ≡ c → b ≡ d → from_to a b ≡ from_to c d
ends a b c d p q = λ i. from_to (p i) (q i)

hull_assoc : (r s t : Interval) → hull_of (hull_of r s) t ≡ hull_of r (hull_of s t)
hull_assoc r s t = ends _ _ _ _ (omega (arith, ints, clamps)) (omega (arith, ints, clamps))

offset_assoc : (o p q : Option Offset) → hull_offset (hull_offset o p) q ≡ hull_offset o (hull_offset p q)
offset_assoc None p q = refl
offset_assoc (Some o) None None = refl
offset_assoc (Some o) None (Some q) = refl
offset_assoc (Some o) (Some p) None = at (eqb o.about p.about)
  where
    at : (b : Bool) → hull_offset (if b then Some (record { about = o.about; by = hull_of o.by p.by }) else None) None ≡ None
    at true = refl
    at false = refl
offset_assoc (Some o) (Some p) (Some q) = at (eqb o.about p.about) (eqb p.about q.about) (eqb o.about q.about) refl refl refl
  where
    at : (b c d : Bool) → eqb o.about p.about ≡ b → eqb p.about q.about ≡ c → eqb o.about q.about ≡ d →
        hull_offset (if b then Some (record { about = o.about; by = hull_of o.by p.by }) else None) (Some q) ≡ hull_offset (Some o) (if c then Some (record { about = p.about; by = hull_of p.by q.by }) else None)
    at true true true e f g =
        ap (λ b. if b then Some (record { about = o.about; by = hull_of (hull_of o.by p.by) q.by }) else None) g ∙ (ap (λ r. Some (record { about = o.about; by = r })) (hull_assoc o.by p.by q.by) ∙
        sym (ap (λ b. if b then Some (record { about = o.about; by = hull_of o.by (hull_of p.by q.by) }) else None) e))
    at true true false e f g = absurd (grind (arith, nat_tests, e, f, g))
    at true false true e f g = absurd (grind (arith, nat_tests, e, f, g))
    at true false false e f g = ap (λ b. if b then Some (record { about = o.about; by = hull_of (hull_of o.by p.by) q.by }) else None) g
    at false true d e f g = sym (ap (λ b. if b then Some (record { about = o.about; by = hull_of o.by (hull_of p.by q.by) }) else None) e)
    at false false d e f g = refl

abstract_assoc : (a b c : Abstract) → hull_abstract (hull_abstract a b) c ≡ hull_abstract a (hull_abstract b c)
abstract_assoc a b c = λ i. record { range = hull_assoc a.range b.range c.range i; offset = offset_assoc a.offset b.offset c.offset i }

entry_assoc : (a b c : Option Abstract) → hull_entry (hull_entry a b) c ≡ hull_entry a (hull_entry b c)
entry_assoc None b c = refl
entry_assoc (Some a) None None = refl
entry_assoc (Some a) None (Some c) = refl
entry_assoc (Some a) (Some b) None = refl
entry_assoc (Some a) (Some b) (Some c) = ap Some (abstract_assoc a b c)

environment_assoc : (a b c : Environment) → hull_environment (hull_environment a b) c ≡ hull_environment a (hull_environment b c)
environment_assoc [] b c = refl
environment_assoc (x ∷ a) [] [] = refl
environment_assoc (x ∷ a) [] (z ∷ c) = refl
environment_assoc (x ∷ a) (y ∷ b) [] = refl
environment_assoc (x ∷ a) (y ∷ b) (z ∷ c) = λ i. entry_assoc x y z i ∷ environment_assoc a b c i

pub reached_assoc : (a b c : Option Environment) → hull_reached (hull_reached a b) c ≡ hull_reached a (hull_reached b c)
reached_assoc None b c = refl
reached_assoc (Some a) None c = refl
reached_assoc (Some a) (Some b) None = refl
reached_assoc (Some a) (Some b) (Some c) = ap Some (environment_assoc a b c)

reached_none : (a : Option Environment) → hull_reached a None ≡ a
reached_none None = refl
reached_none (Some a) = refl

range_assoc : (a b c : Option Interval) → hull_range (hull_range a b) c ≡ hull_range a (hull_range b c)
range_assoc None b c = refl
range_assoc (Some a) None c = refl
range_assoc (Some a) (Some b) None = refl
range_assoc (Some a) (Some b) (Some c) = ap Some (hull_assoc a b c)

range_none : (a : Option Interval) → hull_range a None ≡ a
range_none None = refl
range_none (Some a) = refl

-- ## Parts

pub followed_assoc : (a b c : Left) → followed (followed a b) c ≡ followed a (followed b c)
followed_assoc a b c = λ i. record {
  normal = c.normal;
  breaks = reached_assoc a.breaks b.breaks c.breaks i;
  continues = reached_assoc a.continues b.continues c.continues i;
  returns = reached_assoc a.returns b.returns c.returns i;
  returned = range_assoc a.returned b.returned c.returned i;
  arguments = append_assoc a.arguments b.arguments c.arguments i;
  results = append_assoc a.results b.results c.results i;
  entries = append_assoc a.entries b.entries c.entries i;
  backs = append_assoc a.backs b.backs c.backs i;
  weak = append_assoc a.weak b.weak c.weak i;
}

-- a part after which states end as they did
pub followed_reached : (a : Left) (o : Option Environment) → a.normal ≡ o → followed a (reached o) ≡ a
followed_reached a o e = λ i. record {
  normal = sym e i;
  breaks = reached_none a.breaks i;
  continues = reached_none a.continues i;
  returns = reached_none a.returns i;
  returned = range_none a.returned i;
  arguments = append-nil a.arguments i;
  results = append-nil a.results i;
  entries = append-nil a.entries i;
  backs = append-nil a.backs i;
  weak = append-nil a.weak i;
}

pub and_then_assoc : (t : Left) (f g : Environment → Left) → and_then_pass (and_then_pass t f) g ≡ and_then_pass t (λ e. and_then_pass (f e) g)
and_then_assoc t f g = at t.normal
  where
    at : (o : Option Environment) → followed (followed t (where_going o f)) (where_going (where_going o f).normal g) ≡ followed t (where_going o (λ e. and_then_pass (f e) g))
    at None = followed_assoc t nowhere nowhere
    at (Some e) = followed_assoc t (f e) (where_going (f e).normal g)

and_then_reached : (t : Left) → and_then_pass t (λ e. reached (Some e)) ≡ t
and_then_reached t = at t.normal refl
  where
    at : (o : Option Environment) → t.normal ≡ o → followed t (where_going o (λ e. reached (Some e))) ≡ t
    at None e = followed_reached t None e
    at (Some x) e = followed_reached t (Some x) e

-- ## Any list whose pass goes from element to element

module _ {X : Type 0} (one : X → Environment → Left) (all : List X → Environment → Left) (none : (env : Environment) → all [] env ≡ reached (Some env))
    (more : (x : X) (xs : List X) (env : Environment) → all (x ∷ xs) env ≡ and_then_pass (one x env) (all xs)) where
  pub passed_next : (whole t now : Left) (xs : List X) (i : ℕ) (x : X) → i < length xs → x ≡ get_or xs i x → now ≡ and_then_pass t (one x) → and_then_pass t (all (drop i xs)) ≡ whole →
      and_then_pass now (all (drop (i + 1) xs)) ≡ whole
  passed_next whole t now xs i x below there is so-far =
      ap (λ a. and_then_pass a (all (drop (i + 1) xs))) is ∙ (and_then_assoc t (one x) (all (drop (i + 1) xs)) ∙
      ((λ j. and_then_pass t (λ e. sym (more x (drop (i + 1) xs) e) j)) ∙ (ap (λ ys. and_then_pass t (all ys)) (sym (cut_at xs i x below there)) ∙ so-far)))

  pub passed_end : (whole t : Left) (xs : List X) (i : ℕ) → length xs ≤ i → and_then_pass t (all (drop i xs)) ≡ whole → t ≡ whole
  passed_end whole t xs i b so-far =
      sym (and_then_reached t) ∙ ((λ j. and_then_pass t (λ e. sym (none e) j)) ∙ (ap (λ ys. and_then_pass t (all ys)) (sym (drop_end xs i b)) ∙ so-far))
