-- What isn't touched is as it was.
use Rattle.std.proofs.Common.{◌≡◌, ◌∙◌, ℕ, ◌&&◌, ◌||◌, not, Bool, true, false, List, Option, Some, None, option_map, refl, sym, ap}
use Rattle.std.specs.Prelude.{bytes_eq, slice_get}
use Rattle.std.proofs.lemmas.Option.{slice_get-map}
use Rattle.std.proofs.lemmas.Slice.Eq.{bytes_eq-Decides}
use Rattle.p10_cert.specs.Statements.{Entry, lines_named, Statement}
use Rattle.p10_check.specs.Texts.{claims_in}
use Rattle.p10_views.specs.Views.{SayTheSame}
use Rattle.p10_incr.specs.Alike.{same_func}
use Rattle.p10_incr.specs.Edits.{Edit, same_digest, touches_all, is_kept, is_touched, evidence_name, same_lines, same_evidence}
use Rattle.p10_incr.proofs.Deciding.{all_decide, same_func_decides}

-- both parts of a test that holds, and of one that doesn't
pub both_hold : (a b : Bool) → a && b ≡ true → (a ≡ true) × (b ≡ true)
both_hold true b h = (refl, h)
both_hold false b h = cc

pub neither_holds : (a b : Bool) → a || b ≡ false → (a ≡ false) × (b ≡ false)
neither_holds true b h = cc
neither_holds false b h = (refl, h)

holds : (b : Bool) → not b ≡ false → b ≡ true
holds true h = refl
holds false h = cc

-- a digest that is kept
digest_is : (kept : Option (List ℕ)) (found : List ℕ) → same_digest kept found ≡ true → kept ≡ Some found
digest_is None found h = cc
digest_is (Some kept) found h = ap Some ((bytes_eq-Decides kept found).0 h)

-- ## All functions

-- the words outside of bodies are those of the old certificate
pub outside_kept : (e : Edit) → touches_all e ≡ false → e.old.ending.outside ≡ Some e.outside
outside_kept e none =
    let all : (same_digest e.old.ending.outside e.outside && same_digest e.new.ending.outside e.outside) && same_evidence e.old.ending.sections e.new.ending.sections ≡ true =
    holds ((same_digest e.old.ending.outside e.outside && same_digest e.new.ending.outside e.outside) && same_evidence e.old.ending.sections e.new.ending.sections) none in
    let outsides = both_hold (same_digest e.old.ending.outside e.outside && same_digest e.new.ending.outside e.outside) (same_evidence e.old.ending.sections e.new.ending.sections) all in
    digest_is e.old.ending.outside e.outside (both_hold (same_digest e.old.ending.outside e.outside) (same_digest e.new.ending.outside e.outside) outsides.0).0

-- the lines of a section that are the same
lines_are : (these others : Option (List (List ℕ))) → same_lines these others ≡ true → these ≡ others
lines_are None None h = refl
lines_are None (Some others) h = cc
lines_are (Some these) None h = cc
lines_are (Some these) (Some others) h = ap Some ((all_decide bytes_eq bytes_eq-Decides these others).0 h)

-- both certificates have the same evidence of differences
pub evidence_kept : (e : Edit) → touches_all e ≡ false → lines_named evidence_name e.old.ending.sections ≡ lines_named evidence_name e.new.ending.sections
evidence_kept e none =
    let all : (same_digest e.old.ending.outside e.outside && same_digest e.new.ending.outside e.outside) && same_evidence e.old.ending.sections e.new.ending.sections ≡ true =
    holds ((same_digest e.old.ending.outside e.outside && same_digest e.new.ending.outside e.outside) && same_evidence e.old.ending.sections e.new.ending.sections) none in
    lines_are (lines_named evidence_name e.old.ending.sections) (lines_named evidence_name e.new.ending.sections)
    (both_hold (same_digest e.old.ending.outside e.outside && same_digest e.new.ending.outside e.outside) (same_evidence e.old.ending.sections e.new.ending.sections) all).1

-- ## One function

-- what is said of a function that isn't touched
pub record IsKept (e : Edit) (n : ℕ) : Type 0 where
  pub none : touches_all e ≡ false
  pub old : Entry
  pub new : Entry
  pub found : List ℕ
  pub was : slice_get e.old.entries n ≡ Some old
  pub there : slice_get e.new.entries n ≡ Some new
  pub digest : slice_get e.digests n ≡ Some found
  pub words : old.digest ≡ Some found
  pub claim : old.func ≡ new.func

kept_of : (e : Edit) (n : ℕ) → touches_all e ≡ false → (old new : Option Entry) (found : Option (List ℕ)) → slice_get e.old.entries n ≡ old → slice_get e.new.entries n ≡ new → slice_get e.digests n ≡ found → is_kept old new found ≡ true → IsKept e n
kept_of e n none (Some old) (Some new) (Some found) was there digest h =
    let parts = both_hold (same_digest old.digest found) (same_func old.func new.func) h in
    record {
      none = none;
      old = old;
      new = new;
      found = found;
      was = was;
      there = there;
      digest = digest;
      words = digest_is old.digest found parts.0;
      claim = (same_func_decides old.func new.func).0 parts.1;
    }
kept_of e n none (Some old) (Some new) None was there digest h = cc
kept_of e n none (Some old) None found was there digest h = cc
kept_of e n none None new found was there digest h = cc

pub untouched : (e : Edit) (n : ℕ) → is_touched e n ≡ false → IsKept e n
untouched e n isn't =
    let parts = neither_holds (touches_all e) (not (is_kept (slice_get e.old.entries n) (slice_get e.new.entries n) (slice_get e.digests n))) isn't in
    kept_of e n parts.0 (slice_get e.old.entries n) (slice_get e.new.entries n) (slice_get e.digests n) refl refl refl (holds (is_kept (slice_get e.old.entries n) (slice_get e.new.entries n) (slice_get e.digests n)) parts.1)

-- what a certificate claims of a function, by what it says of it
pub claim_there : (s : Statement) (n : ℕ) → slice_get (claims_in s).funcs n ≡ option_map (λ (x : Entry). x.func) (slice_get s.entries n)
claim_there s n = slice_get-map (λ (x : Entry). x.func) s.entries n

pub claims_kept : (e : Edit) (n : ℕ) → IsKept e n → SayTheSame (claims_in e.old).funcs (claims_in e.new).funcs n
claims_kept e n h =
    claim_there e.old n ∙ ap (option_map (λ (x : Entry). x.func)) h.was ∙ ap Some h.claim ∙ sym (ap (option_map (λ (x : Entry). x.func)) h.there) ∙ sym (claim_there e.new n)
