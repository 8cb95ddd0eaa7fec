-- Structures of which more are joined than before: what stays as it was.
use Rattle.std.proofs.Common.{◌≡◌, ℕ, zero, suc, ◌+◌, ◌<◌, ◌≤◌, nat_eq, Bool, true, false, cond, if◌then◌else◌, List, [], ◌∷◌, map, length, Some, is_some, slice_get, refl, sym, ◌∙◌, ap, subst, arith, ◌⊎◌, inl, inr}
use Rattle.std.proofs.lemmas.Bool.Decides.{eqb_tells}
use Rattle.std.proofs.lemmas.List.{length-map}
use Rattle.p10_core.specs.Types.{PlainType, void, integer, pointer, array, structure, bare, PlainMember, PlainBody, PlainStructure, body_of, members_in, members_of, representative_in, representative_of}
use Rattle.p10_core.specs.WholePrograms.{bare_member}
use Rattle.p10_core.specs.Completing.{complete_count}
use Rattle.p10_linkage.specs.Uniting.{standing_for}
use Rattle.p10_linkage.specs.private.Meetings.{swapped}

-- two lists of structures with the same bodies, of which the second one joins what the first one joins
pub record IsJoined (ss ts : List PlainStructure) : Type 0 where
  pub long : length ts ≡ length ss
  pub count : complete_count ts ≡ complete_count ss
  pub bodies : (n : ℕ) → body_of ts n ≡ body_of ss n
  pub through : (n : ℕ) → representative_of ts (representative_of ss n) ≡ representative_of ts n

-- what stands for structures stands for itself, and is there
pub record StandsWell (ss : List PlainStructure) : Type 0 where
  pub own : (n : ℕ) → representative_of ss (representative_of ss n) ≡ representative_of ss n
  pub low : (n : ℕ) → n < length ss → representative_of ss n < length ss

-- what stands for a structure with a body has the same members, where types are as one that are one in other structures
pub record FitsAt (ss fs : List PlainStructure) (n : ℕ) (b : PlainBody) : Type 0 where
  pub members : map (bare_member fs) (members_of ss (representative_of ss n)) ≡ map (bare_member fs) b.members
  pub complete : is_some (body_of ss (representative_of ss n)) ≡ true

-- that holds of each structure with a body
abbrev pub Fits : List PlainStructure → List PlainStructure → Type 0
Fits ss fs = (n : ℕ) (b : PlainBody) → body_of ss n ≡ Some b → FitsAt ss fs n b

-- structures, and those in which more of them are joined
pub record IsKept (ss ts : List PlainStructure) : Type 0 where
  pub joined : IsJoined ss ts
  pub stands : StandsWell ts
  pub fits : (fs : List PlainStructure) → IsJoined ts fs → Fits ss fs → Fits ts fs

-- ## Types

bare_through : (ss ts : List PlainStructure) → IsJoined ss ts → (t : PlainType) → bare ts (bare ss t) ≡ bare ts t
bare_through ss ts j (void c) = refl
bare_through ss ts j (integer c i) = refl
bare_through ss ts j (pointer c t) = ap (pointer false) (bare_through ss ts j t)
bare_through ss ts j (array c t n) = ap (λ u. array false u n) (bare_through ss ts j t)
bare_through ss ts j (structure c n) = ap (structure false) (j.through n)

members_through : (ss ts : List PlainStructure) → IsJoined ss ts → (ms : List PlainMember) → map (bare_member ts) (map (bare_member ss) ms) ≡ map (bare_member ts) ms
members_through ss ts j [] = refl
members_through ss ts j (m ∷ ms) = λ i. record m { type = bare_through ss ts j m.type i } ∷ members_through ss ts j ms i

-- types that are one in structures are one where more are joined
pub bare_joined : (ss ts : List PlainStructure) → IsJoined ss ts → (t u : PlainType) → bare ss t ≡ bare ss u → bare ts t ≡ bare ts u
bare_joined ss ts j t u e = sym (bare_through ss ts j t) ∙ ap (bare ts) e ∙ bare_through ss ts j u

-- and so are those of members
pub members_joined : (ss ts : List PlainStructure) → IsJoined ss ts → (ms ks : List PlainMember) → map (bare_member ss) ms ≡ map (bare_member ss) ks → map (bare_member ts) ms ≡ map (bare_member ts) ks
members_joined ss ts j ms ks e = sym (members_through ss ts j ms) ∙ ap (map (bare_member ts)) e ∙ members_through ss ts j ks

-- ## One after the other

pub joined_itself : (ss : List PlainStructure) → StandsWell ss → IsJoined ss ss
joined_itself ss w = record { long = refl; count = refl; bodies = λ n. refl; through = w.own }

pub joined_on : (ss ts us : List PlainStructure) → IsJoined ss ts → IsJoined ts us → IsJoined ss us
joined_on ss ts us j k = record {
  long = k.long ∙ j.long;
  count = k.count ∙ j.count;
  bodies = λ n. k.bodies n ∙ j.bodies n;
  through = λ n. sym (k.through (representative_of ss n)) ∙ ap (representative_of us) (j.through n) ∙ k.through n;
}

pub kept_itself : (ss : List PlainStructure) → StandsWell ss → IsKept ss ss
kept_itself ss w = record { joined = joined_itself ss w; stands = w; fits = λ fs j f. f }

pub kept_on : (ss ts us : List PlainStructure) → IsKept ss ts → IsKept ts us → IsKept ss us
kept_on ss ts us k l = record {
  joined = joined_on ss ts us k.joined l.joined;
  stands = l.stands;
  fits = λ fs j f. l.fits fs j (k.fits fs (joined_on ts us fs l.joined j) f);
}

-- ## One structure comes to stand for others

-- a structure may come to stand for another: both stand for themselves
pub record MaySwap (ss : List PlainStructure) (old new : ℕ) : Type 0 where
  pub old_there : old < length ss
  pub new_there : new < length ss
  pub old_own : representative_of ss old ≡ old
  pub new_own : representative_of ss new ≡ new
  pub apart : nat_eq new old ≡ false

stands_in : (ss : List PlainStructure) (old new place n : ℕ) → (length ss ≤ place → nat_eq n old ≡ false) →
    representative_in n (slice_get (standing_for old new ss) place) ≡ swapped old new (representative_in n (slice_get ss place))
stands_in [] old new place n h = sym (ap (λ b. if b then new else n) (h (omega arith)))
stands_in (s ∷ ss) old new zero n h = refl
stands_in (s ∷ ss) old new (suc place) n h = stands_in ss old new place n (λ l. h (omega (arith, l)))

pub stands_at : (ss : List PlainStructure) (old new n : ℕ) → old < length ss → representative_of (standing_for old new ss) n ≡ swapped old new (representative_of ss n)
stands_at ss old new n there = stands_in ss old new n n (λ past. elim (eqb_tells n old) as (λ _. nat_eq n old ≡ false) [
  | inl (e, is) ↦ absurd (omega (arith, there, past, is))
  | inr (e, differ) ↦ e
])

pub body_stays : (ss : List PlainStructure) (old new n : ℕ) → body_of (standing_for old new ss) n ≡ body_of ss n
body_stays [] old new n = refl
body_stays (s ∷ ss) old new zero = refl
body_stays (s ∷ ss) old new (suc n) = body_stays ss old new n

count_stays : (ss : List PlainStructure) (old new : ℕ) → complete_count (standing_for old new ss) ≡ complete_count ss
count_stays [] old new = refl
count_stays (s ∷ ss) old new = ap (λ k. cond (is_some s.body) 1 0 + k) (count_stays ss old new)

pub swap_joins : (ss : List PlainStructure) (old new : ℕ) → StandsWell ss → MaySwap ss old new → IsJoined ss (standing_for old new ss)
swap_joins ss old new w may = record {
  long = length-map ss _;
  count = count_stays ss old new;
  bodies = body_stays ss old new;
  through = λ n.
      stands_at ss old new (representative_of ss n) may.old_there
      ∙ ap (swapped old new) (w.own n)
      ∙ sym (stands_at ss old new n may.old_there);
}

settled : (ss : List PlainStructure) (old new r : ℕ) → MaySwap ss old new → representative_of ss r ≡ r → representative_of (standing_for old new ss) (swapped old new r) ≡ swapped old new r
settled ss old new r may own = by_test (nat_eq r old) refl
  where
    ts : List PlainStructure
    ts = standing_for old new ss

    by_test : (b : Bool) → nat_eq r old ≡ b → representative_of ts (swapped old new r) ≡ swapped old new r
    by_test true e =
        let is : swapped old new r ≡ new = ap (λ b. if b then new else r) e in
        subst (λ x. representative_of ts x ≡ x) (sym is)
        (stands_at ss old new new may.old_there ∙ ap (swapped old new) may.new_own ∙ ap (λ b. if b then new else new) may.apart)
    by_test false e =
        let is : swapped old new r ≡ r = ap (λ b. if b then new else r) e in
        subst (λ x. representative_of ts x ≡ x) (sym is)
        (stands_at ss old new r may.old_there ∙ ap (swapped old new) own ∙ is)

swapped_low : (old new n most : ℕ) → new < most → n < most → swapped old new n < most
swapped_low old new n most h k = by_test (nat_eq n old)
  where
    by_test : (b : Bool) → (if b then new else n) < most
    by_test true = h
    by_test false = k

pub swap_stands : (ss : List PlainStructure) (old new : ℕ) → StandsWell ss → MaySwap ss old new → StandsWell (standing_for old new ss)
swap_stands ss old new w may = record {
  own = λ n.
      ap (representative_of (standing_for old new ss)) (stands_at ss old new n may.old_there)
      ∙ settled ss old new (representative_of ss n) may (w.own n)
      ∙ sym (stands_at ss old new n may.old_there);
  low = λ n h.
      let long : length (standing_for old new ss) ≡ length ss = length-map ss _ in
      subst (λ r. r < length (standing_for old new ss)) (sym (stands_at ss old new n may.old_there))
      (swapped_low old new (representative_of ss n) (length (standing_for old new ss)) (omega (arith, may.new_there, long)) (omega (arith, w.low n (omega (arith, h, long)), long)));
}

-- the one that stands now has the members of the one that stood
pub record StandsAsWell (ss fs : List PlainStructure) (old new : ℕ) : Type 0 where
  pub members : map (bare_member fs) (members_of ss new) ≡ map (bare_member fs) (members_of ss old)
  pub complete : is_some (body_of ss new) ≡ true

pub swap_fits : (ss fs : List PlainStructure) (old new : ℕ) → StandsWell ss → MaySwap ss old new → (is_some (body_of ss old) ≡ true → StandsAsWell ss fs old new) → Fits ss fs → Fits (standing_for old new ss) fs
swap_fits ss fs old new w may as_well fits n b is = by_test (eqb_tells (representative_of ss n) old)
  where
    ts : List PlainStructure
    ts = standing_for old new ss

    before : FitsAt ss fs n b
    before = fits n b (sym (body_stays ss old new n) ∙ is)

    fits_by : (r : ℕ) → representative_of ts n ≡ r → map (bare_member fs) (members_of ss r) ≡ map (bare_member fs) b.members → is_some (body_of ss r) ≡ true → FitsAt ts fs n b
    fits_by r stands members complete = record {
      members =
          ap (λ k. map (bare_member fs) (members_of ts k)) stands
          ∙ ap (λ o. map (bare_member fs) (members_in o)) (body_stays ss old new r)
          ∙ members;
      complete = ap (λ k. is_some (body_of ts k)) stands ∙ ap is_some (body_stays ss old new r) ∙ complete;
    }

    by_test : ((nat_eq (representative_of ss n) old ≡ true) × (representative_of ss n ≡ old)) ⊎ ((nat_eq (representative_of ss n) old ≡ false) × (representative_of ss n ≡ old → ⊥)) → FitsAt ts fs n b
    by_test (inl (e, same)) =
        let well : StandsAsWell ss fs old new = as_well (ap (λ k. is_some (body_of ss k)) (sym same) ∙ before.complete) in
        fits_by new (stands_at ss old new n may.old_there ∙ ap (λ t. if t then new else representative_of ss n) e)
        (well.members ∙ ap (λ k. map (bare_member fs) (members_of ss k)) (sym same) ∙ before.members) well.complete
    by_test (inr (e, differ)) =
        fits_by (representative_of ss n) (stands_at ss old new n may.old_there ∙ ap (λ t. if t then new else representative_of ss n) e) before.members before.complete
