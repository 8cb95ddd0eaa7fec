-- Steps of declarations that leave the structures before those of their block.
use Rattle.std.proofs.Common.{◌≡◌, ◌∙◌, refl, sym, ap, subst, arith, ℕ, zero, suc, ◌+◌, ◌<◌, ◌≤◌, Bool, true, false, List, [], ◌∷◌, ◌++◌, length, drop, slice_get, Option, Some, None}
use Rattle.std.specs.Prelude.{if◌then◌else◌, bytes_eq}
use Rattle.std.proofs.lemmas.List.{length-append}
use Rattle.p10_base.specs.Words.{Text}
use Rattle.p10_core.specs.Types.{structure, PlainBody, PlainStructure}
use Rattle.p10_core.specs.Completing.{incomplete_structure, with_structure, with_body}
use Rattle.p10_elabx.specs.Scopes.{Meaning, Binding, last_named, PlainScope, tagged_type, last_floor, entered, left}
use Rattle.p10_elabx.specs.Innermost.{tagged_here}
use Rattle.p10_elabd.specs.Standing.{PlainStanding}
use Rattle.p10_elabd.specs.Tags.{with_tag}
use Rattle.p10_elabd.specs.Tagged.{Begun}
use Rattle.p10_declaration_renaming.proofs.Growing.{count_more, count_kept}
use Rattle.p10_block_scopes.specs.Laws.{ExtendsScope, IsAgain}
use Rattle.p10_block_scopes.proofs.Extending.{last_floor_is, left_again}
use Rattle.p10_block_structures.specs.Laws.{IsNewTag, AreNewTags, IsInside}

-- ## Steps

abbrev pub KeepsScope : PlainScope → PlainScope → Type 0
KeepsScope s t = (old : List Binding) (start : ℕ) (table : List PlainStructure) → IsInside old start table s → IsInside old start table t

abbrev pub Keeps : PlainStanding → PlainStanding → Type 0
Keeps s t = KeepsScope s.scope t.scope

-- where the members of a structure begin, its number is one from the start on
abbrev pub KeepsBegun : PlainStanding → Begun → Type 0
KeepsBegun s b = (old : List Binding) (start : ℕ) (table : List PlainStructure) → IsInside old start table s.scope → IsInside old start table b.standing.scope × (start ≤ b.number)

pub as_before : (s : PlainStanding) → Keeps s s
as_before s old start table p = p

pub keeps_on : {s t u : PlainScope} → KeepsScope s t → KeepsScope t u → KeepsScope s u
keeps_on a b old start table p = b old start table (a old start table p)

joined_twice : (xs ys zs : List Binding) → (xs ++ ys) ++ zs ≡ xs ++ (ys ++ zs)
joined_twice [] ys zs = refl
joined_twice (x ∷ xs) ys zs = ap (λ vs. x ∷ vs) (joined_twice xs ys zs)

fresh_more : (start : ℕ) (new : List Binding) (b : Binding) → AreNewTags start new → IsNewTag start b.what → AreNewTags start (new ++ b ∷ [])
fresh_more start [] b h k = (k, tt)
fresh_more start (x ∷ new) b h k = (h.0, fresh_more start new b h.1 k)

fresh_dropped : (start k : ℕ) (new : List Binding) → AreNewTags start new → AreNewTags start (drop k new)
fresh_dropped start zero [] h = h
fresh_dropped start zero (b ∷ new) h = h
fresh_dropped start (suc k) [] h = h
fresh_dropped start (suc k) (b ∷ new) h = fresh_dropped start k new h.1

pub fresh_past : (start k : ℕ) (old new : List Binding) → length old ≤ k → AreNewTags start new → AreNewTags start (drop k (old ++ new))
fresh_past start k [] new low h = fresh_dropped start k new h
fresh_past start zero (b ∷ old) new low h = absurd (omega (arith, low))
fresh_past start (suc k) (b ∷ old) new low h = fresh_past start k old new (omega (arith, low)) h

-- what a name is found to stand for
abbrev pub IsNewFound : ℕ → Option Meaning → Type 0
IsNewFound start None = Unit {0}
IsNewFound start (Some what) = IsNewTag start what

either_found : (start : ℕ) (b : Bool) (o q : Option Meaning) → IsNewFound start o → IsNewFound start q → IsNewFound start (if b then o else q)
either_found start true o q h k = h
either_found start false o q h k = k

last_found : (start : ℕ) (o : Option Meaning) (name : Text) (all : List Binding) → IsNewFound start o → AreNewTags start all → IsNewFound start (last_named o name all)
last_found start o name [] h k = h
last_found start o name (b ∷ rest) h k = last_found start (if bytes_eq b.name name then Some b.what else o) name rest (either_found start (bytes_eq b.name name) (Some b.what) o k.0 h) k.1

-- a tag of the innermost block
pub here_new : (old : List Binding) (start : ℕ) (table : List PlainStructure) (s : PlainScope) → IsInside old start table s → (name : Text) → IsNewFound start (tagged_here s name)
here_new old start table s p name =
    last_found start None name (drop (last_floor s.floors).1 s.tags) tt
    (subst (λ tags. AreNewTags start (drop (last_floor s.floors).1 tags)) (sym p.tags) (fresh_past start (last_floor s.floors).1 old p.new p.innermost p.fresh))

-- ## Tags and structures more

pub one_tag : (old : List Binding) (start : ℕ) (table : List PlainStructure) (s : PlainScope) (b : Binding) → IsNewTag start b.what → IsInside old start table s → IsInside old start table (record s { tags = s.tags ++ b ∷ [] })
one_tag old start table s b new p = record {
  new = p.new ++ b ∷ [];
  tags = ap (λ tags. tags ++ b ∷ []) p.tags ∙ joined_twice old p.new (b ∷ []);
  fresh = fresh_more start p.new b p.fresh new;
  innermost = p.innermost;
  enough = p.enough;
  kept = p.kept;
}

-- a tag that stands for no structure
pub one_tag_more : (s : PlainScope) (b : Binding) → ((start : ℕ) → IsNewTag start b.what) → KeepsScope s (record s { tags = s.tags ++ b ∷ [] })
one_tag_more s b never old start table p = one_tag old start table s b (never start) p

pub one_name_more : (s : PlainScope) (b : Binding) → KeepsScope s (record s { names = s.names ++ b ∷ [] })
one_name_more s b old start table p = record { new = p.new; tags = p.tags; fresh = p.fresh; innermost = p.innermost; enough = p.enough; kept = p.kept }

pushed_below : (ss : List PlainStructure) (x : PlainStructure) (n : ℕ) → n < length ss → slice_get (ss ++ x ∷ []) n ≡ slice_get ss n
pushed_below [] x n h = absurd (omega (arith, h))
pushed_below (y ∷ ss) x zero h = refl
pushed_below (y ∷ ss) x (suc n) h = pushed_below ss x n (omega (arith, h))

pub one_structure_more : (s : PlainScope) (tag : Option Text) → KeepsScope s (record s { structures = with_structure s.structures tag })
one_structure_more s tag old start table p = record {
  new = p.new;
  tags = p.tags;
  fresh = p.fresh;
  innermost = p.innermost;
  enough = omega (arith, p.enough, count_more s.structures tag);
  kept = λ n low. pushed_below s.structures (incomplete_structure (length s.structures) tag) n (omega (arith, low, p.enough)) ∙ p.kept n low;
}

-- a tag with a structure of its own
pub with_tag_more : (s : PlainScope) (name : Text) → KeepsScope s (with_tag s name)
with_tag_more s name old start table p =
    one_tag old start table (record s { structures = with_structure s.structures (Some name) }) (record { name = name; what = tagged_type (structure false (length s.structures)) }) p.enough (one_structure_more s (Some name) old start table p)

completed_below : (ss : List PlainStructure) (n : ℕ) (b : PlainBody) (k : ℕ) → k < n → slice_get (with_body ss n b) k ≡ slice_get ss k
completed_below [] n b k h = refl
completed_below (s ∷ ss) zero b k h = absurd (omega (arith, h))
completed_below (s ∷ ss) (suc n) b zero h = refl
completed_below (s ∷ ss) (suc n) b (suc k) h = completed_below ss n b k (omega (arith, h))

pub completed_inside : (old : List Binding) (start : ℕ) (table : List PlainStructure) (s : PlainScope) (n : ℕ) (b : PlainBody) → start ≤ n → IsInside old start table s → IsInside old start table (record s { structures = with_body s.structures n b })
completed_inside old start table s n b low p = record {
  new = p.new;
  tags = p.tags;
  fresh = p.fresh;
  innermost = p.innermost;
  enough = omega (arith, p.enough, count_kept s.structures n b);
  kept = λ k below. completed_below s.structures n b k (omega (arith, below, low)) ∙ p.kept k below;
}

-- ## Blocks

entered_inside : (old : List Binding) (start : ℕ) (table : List PlainStructure) (s : PlainScope) → IsInside old start table s → IsInside old start table (entered s)
entered_inside old start table s p =
    let count : length s.tags ≡ length old + length p.new = ap length p.tags ∙ length-append old p.new in
    let low : length old ≤ length s.tags = omega (arith, count) in
    record {
      new = p.new;
      tags = p.tags;
      fresh = p.fresh;
      innermost = subst (λ (f : ℕ × ℕ). length old ≤ f.1) (sym (last_floor_is s.floors (length s.names, length s.tags))) low;
      enough = p.enough;
      kept = p.kept;
    }

-- a block that is closed
pub keeps_left : (s q : PlainScope) → ExtendsScope (entered s) q → KeepsScope (entered s) q → KeepsScope s (left q)
keeps_left s q a k old start table p =
    let inside : IsInside old start table q = k old start table (entered_inside old start table s p) in
    let again : IsAgain s (left q) = left_again s q a in
    record {
      new = p.new;
      tags = again.tags ∙ p.tags;
      fresh = p.fresh;
      innermost = subst (λ (fs : List (ℕ × ℕ)). length old ≤ (last_floor fs).1) (sym again.floors) p.innermost;
      enough = inside.enough;
      kept = inside.kept;
    }
