-- The first function whose digests differ.
use Rattle.std.proofs.Common.{◌≡◌, ◌∙◌, ℕ, zero, suc, ◌+◌, ◌<◌, Bool, true, false, List, [], ◌∷◌, Option, Some, None, sym, ap, refl, subst, arith}
use Rattle.std.specs.Prelude.{if◌then◌else◌, bytes_eq, slice_get}
use Rattle.std.specs.Option.{option_or}
use Rattle.std.proofs.lemmas.Option.{same_Some}
use Rattle.std.proofs.lemmas.Slice.Eq.{bytes_eq-Decides}
use Rattle.p10_cert.specs.Statements.{Entry}
use Rattle.p10_check.specs.Texts.{StaleAt, differing_digests, first_stale, HasOwnDigest, IsFirstStale, FindsFirstStale}

-- a function with two digests
abbrev with_digests : ℕ → List ℕ → List ℕ → StaleAt
with_digests n kept found = record { number = n; kept = kept; found = found }

-- the digests of one function differ
record Differ (n : ℕ) (kept : Option (List ℕ)) (found : List ℕ) (stale : StaleAt) : Type 0 where
  pub number : stale.number ≡ n
  pub kept_is : kept ≡ Some stale.kept
  pub found_is : stale.found ≡ found
  pub differ : stale.kept ≡ stale.found → ⊥

they_differ : (n : ℕ) (kept : Option (List ℕ)) (found : List ℕ) (stale : StaleAt) → differing_digests n kept found ≡ Some stale → Differ n kept found stale
they_differ n None found stale is = cc
they_differ n (Some kept) found stale is = by_test (bytes_eq kept found) refl is
  where
    differ : bytes_eq kept found ≡ false → kept ≡ found → ⊥
    differ apart same = let alike : bytes_eq kept found ≡ true = (bytes_eq-Decides kept found).1 same in let both : true ≡ false = sym alike ∙ apart in cc

    by_test : (b : Bool) → bytes_eq kept found ≡ b → (if b then None else Some (with_digests n kept found)) ≡ Some stale → Differ n (Some kept) found stale
    by_test true alike is = cc
    by_test false apart is = subst (Differ n (Some kept) found) (same_Some (with_digests n kept found) stale is) (record { number = refl; kept_is = refl; found_is = refl; differ = differ apart })

they_agree : (n : ℕ) (digest : Option (List ℕ)) (kept found : List ℕ) → differing_digests n digest found ≡ None → digest ≡ Some kept → kept ≡ found
they_agree n None kept found none is = cc
they_agree n (Some own) kept found none is = sym (same_Some own kept is) ∙ by_test (bytes_eq own found) refl none
  where
    by_test : (b : Bool) → bytes_eq own found ≡ b → (if b then None else Some (with_digests n own found)) ≡ None → own ≡ found
    by_test true alike none = (bytes_eq-Decides own found).0 alike
    by_test false apart none = cc

-- digests of a function differ that stands at a place, where the first one has this number
record StaleFrom (n : ℕ) (entries : List Entry) (digests : List (List ℕ)) (stale : StaleAt) : Type 0 where
  pub place : ℕ
  pub number : stale.number ≡ n + place
  pub entry : Entry
  pub there : slice_get entries place ≡ Some entry
  pub kept : entry.digest ≡ Some stale.kept
  pub found : slice_get digests place ≡ Some stale.found
  pub differ : stale.kept ≡ stale.found → ⊥
  pub before : (m : ℕ) → m < place → HasOwnDigest entries digests m

first_agrees : (n : ℕ) (e : Entry) (entries : List Entry) (found : List ℕ) (digests : List (List ℕ)) → differing_digests n e.digest found ≡ None → HasOwnDigest (e ∷ entries) (found ∷ digests) 0
first_agrees n e entries found digests none f kept own there digest here =
    they_agree n e.digest kept found none (ap (λ (x : Entry). x.digest) (same_Some e f there) ∙ digest) ∙ same_Some found own here

-- both agree
next_agree : (n : ℕ) (e : Entry) (entries : List Entry) (found : List ℕ) (digests : List (List ℕ)) (place : ℕ) → differing_digests n e.digest found ≡ None → ((m : ℕ) → m < place → HasOwnDigest entries digests m)
    → (m : ℕ) → m < suc place → HasOwnDigest (e ∷ entries) (found ∷ digests) m
next_agree n e entries found digests place none before zero below = first_agrees n e entries found digests none
next_agree n e entries found digests place none before (suc m) below = before m (omega (arith, below))

found_from : (n : ℕ) (entries : List Entry) (digests : List (List ℕ)) (stale : StaleAt) → first_stale n entries digests ≡ Some stale → StaleFrom n entries digests stale
found_from n [] digests stale is = cc
found_from n (e ∷ entries) [] stale is = cc
found_from n (e ∷ entries) (found ∷ digests) stale is = by_own (differing_digests n e.digest found) refl is (found_from (n + 1) entries digests stale)
  where
    by_own : (o : Option StaleAt) → differing_digests n e.digest found ≡ o → option_or o (first_stale (n + 1) entries digests) ≡ Some stale → (first_stale (n + 1) entries digests ≡ Some stale → StaleFrom (n + 1) entries digests stale)
        → StaleFrom n (e ∷ entries) (found ∷ digests) stale
    by_own (Some own) here is later =
        let differ = they_differ n e.digest found stale (here ∙ is) in
        record {
          place = 0;
          number = omega (arith, differ.number);
          entry = e;
          there = refl;
          kept = differ.kept_is;
          found = ap Some (sym differ.found_is);
          differ = differ.differ;
          before = λ m below. absurd (omega (arith, below));
        }
    by_own None none is later =
        let more = later is in
        record {
          place = suc more.place;
          number = omega (arith, more.number);
          entry = more.entry;
          there = more.there;
          kept = more.kept;
          found = more.found;
          differ = more.differ;
          before = next_agree n e entries found digests more.place none more.before;
        }

-- nothing differs
none_from : (n : ℕ) (entries : List Entry) (digests : List (List ℕ)) → first_stale n entries digests ≡ None → (m : ℕ) → HasOwnDigest entries digests m
none_from n [] digests none m = λ e kept found there digest here. cc
none_from n (e ∷ entries) [] none m = λ f kept own there digest here. cc
none_from n (e ∷ entries) (found ∷ digests) none m = by_own (differing_digests n e.digest found) refl none (none_from (n + 1) entries digests) m
  where
    by_own : (o : Option StaleAt) → differing_digests n e.digest found ≡ o → option_or o (first_stale (n + 1) entries digests) ≡ None → (first_stale (n + 1) entries digests ≡ None → (k : ℕ) → HasOwnDigest entries digests k)
        → (m : ℕ) → HasOwnDigest (e ∷ entries) (found ∷ digests) m
    by_own (Some own) here none later m = cc
    by_own None here none later zero = first_agrees n e entries found digests here
    by_own None here none later (suc m) = later none m

is_first : (entries : List Entry) (digests : List (List ℕ)) (stale : StaleAt) → StaleFrom 0 entries digests stale → IsFirstStale entries digests stale
is_first entries digests stale found =
    let at : found.place ≡ stale.number = omega (arith, found.number) in
    record {
      entry = found.entry;
      there = subst (λ n. slice_get entries n ≡ Some found.entry) at found.there;
      kept = found.kept;
      found = subst (λ n. slice_get digests n ≡ Some stale.found) at found.found;
      differ = found.differ;
      before = λ m below. found.before m (omega (arith, below, at));
    }

pub finds_first_stale : FindsFirstStale
finds_first_stale entries digests = (λ stale is. is_first entries digests stale (found_from 0 entries digests stale is), none_from 0 entries digests)
