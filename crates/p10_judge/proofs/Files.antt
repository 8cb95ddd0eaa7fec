-- What the loaded bytes of a certificate's file come to, the file comes to.
use Rattle.std.proofs.Common.{◌≡◌, ℕ, ◌+◌, List, take, subst, Option}
use Rattle.p10_world.specs.Files.{Named}
use Rattle.p10_core.specs.Typed.{PlainProgram}
use Rattle.p10_check.specs.declared.verdict.Verdict.TheVariants as verdicts
use Rattle.p10_command.proofs.Files.{all_of, longer}
pub use Rattle.p10_command.proofs.Files.{given_is_held}
use Rattle.p10_judge.specs.declared.judgement.Judgement.{Judgement}
use Rattle.p10_judge.specs.declared.judgement.Judgement.TheVariants.{TooLong, BadCertificate, Stale, Failing, Accepted}
use Rattle.p10_judge.specs.Loading.{IsLoaded, certificate_limit}
use Rattle.p10_judge.specs.Judging.{IsJudged, IsWeighed}

module _ (p : PlainProgram) (digests : List (List ℕ)) (whole bytes : List ℕ) (front : bytes ≡ take (certificate_limit + 1) whole) where
  of_whole : (j : Judgement) → IsWeighed p digests bytes j → IsWeighed p digests whole j
  of_whole TooLong long = longer certificate_limit whole bytes front long
  of_whole (BadCertificate line) bad = subst (λ (b : List ℕ). IsWeighed p digests b (BadCertificate line)) (all_of certificate_limit whole bytes front bad.short) bad
  of_whole (Stale at kept found) is = subst (λ (b : List ℕ). IsWeighed p digests b (Stale at kept found)) (all_of certificate_limit whole bytes front is.1.read.short) is
  of_whole (Failing k at) claimed = subst (λ (b : List ℕ). IsWeighed p digests b (Failing k at)) (all_of certificate_limit whole bytes front claimed.read.short) claimed
  of_whole (Accepted bounds) claimed = subst (λ (b : List ℕ). IsWeighed p digests b (Accepted bounds)) (all_of certificate_limit whole bytes front claimed.read.short) claimed

pub judged : (held : Option (List Named)) (name bytes : List ℕ) (p : PlainProgram) (digests : List (List ℕ)) (j : Judgement) → IsLoaded held name bytes → IsWeighed p digests bytes j → IsJudged held name p digests j
judged held name bytes p digests j is weighed = record { bytes = is.whole; given = is.given; weighed = of_whole p digests is.whole bytes is.front j weighed }
