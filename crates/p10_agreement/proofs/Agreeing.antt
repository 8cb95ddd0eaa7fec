-- The text that `derive` writes is that of a certificate which `verify` accepts.
use Rattle.std.proofs.Common.{Bool, true, false, ◌≡◌, ◌∙◌, ℕ, ◌<◌, ◌≤◌, List, [], ◌∷◌, Option, length, map, refl, sym, ap, subst, arith, inl, inr, Some, None}
use Rattle.std.specs.Prelude.{slice_get, ◌||◌}
use Rattle.std.proofs.lemmas.Bool.{cases_order}
use Rattle.p10_base.specs.Gathered.{Gathered}
use Rattle.p10_base.specs.Words.{Text}
use Rattle.p10_world.specs.Files.{Named}
use Rattle.p10_core.specs.Typed.{PlainFunction, PlainProgram}
use Rattle.p10_cert.specs.Claims.{Loop, Claims}
use Rattle.p10_cert.specs.Certificate.{IsCertificate, certificate_text}
use Rattle.p10_cert.specs.Statements.{Section, plain_statement}
use Rattle.p10_cert.proofs.VersionLaws.{plain_good, plain_text}
use Rattle.p10_check.specs.declared.verdict.Verdict.TheVariants as verdicts
use Rattle.p10_check.specs.Passes.{Standing}
use Rattle.p10_check.specs.Conditions.{IsVerdict}
use Rattle.p10_check.specs.Texts.{claims_in}
use Rattle.p10_check.proofs.TextVerdicts.{claims_back, plain_fresh}
use Rattle.p10_expand.specs.Gathering.{Setting}
use Rattle.p10_expand.specs.Setting.{setting}
use Rattle.p10_approach.specs.Offers.{AreOffers, approach_offers, offers_if}
use Rattle.p10_approach.proofs.Offered.{guards_offer}
use Rattle.p10_finder.specs.Answers.{Certified, IsDerived}
use Rattle.p10_finder.specs.Ranking.{ranks_of}
use Rattle.p10_finder.proofs.OneClaims.{claims_have_results}
use Rattle.p10_front.specs.Digests.{PlainDigests, reading_digests}
use Rattle.p10_names.specs.Laws.{IsProgramOf, ReadingsArePrograms, ProgramsAreNamed, DerivedCertificatesOfFilesHaveText}
use Rattle.p10_acceptance.specs.Laws.{DerivedCertificatesAreAccepted}
use Rattle.p10_acceptance.specs.Supporting.{standing_if}
use Rattle.p10_derived_ranks.specs.Laws.{MayBeSaid, DerivedRanksHaveSections}
use Rattle.p10_command.specs.Programs.{HasProgram, HasProgramWithDigests}
use Rattle.p10_seal.specs.Laws.{AreSized, ReadingDigestsAreSized, SealedWithIsCertificate, SealedSaysTheSame}
use Rattle.p10_seal.specs.Sealing.{sealed, sealed_with}
use Rattle.p10_derive_command.specs.declared.command.DeriveCommand.{DeriveCommand}
use Rattle.p10_derive_command.specs.Ranks.{ranks_if, ranked_text}
use Rattle.p10_derive_command.specs.Laws.{SuccessIsACertificate, IsTextInVersion}
use Rattle.p10_derive_command.specs.Laws as written
use Rattle.p10_judge.specs.declared.judgement.Judgement.TheVariants.{Accepted}
use Rattle.p10_absx.specs.Environments.{Environment}
use Rattle.p10_turns.specs.LoopParts.{LoopParts, loops_among}
use Rattle.p10_turns.specs.Evidence.{stands_by_ranges}
use Rattle.p10_diff.specs.Evidence.{Rank, loop_stands, stands_in, stands_by_differences}
use Rattle.p10_diff_evidence.specs.Standing.{standing_by}
use Rattle.p10_diff_evidence.specs.Placing.{rank_sections, if_any}
use Rattle.p10_diff_evidence.specs.Laws.{RankSectionsSay}
use Rattle.p10_judge.specs.Judging.{IsClaimed, IsJudged}
use Rattle.p10_judge.specs.Loading.{certificate_limit}
use Rattle.p10_judge.proofs.Differing.{kept_fresh}
use Rattle.p10_verify_command.specs.declared.answer.Answer.TheVariants.{Judged}
use Rattle.p10_verify_command.specs.Laws.{VerifySaysOneThing}
use Rattle.p10_verify_command.specs.Told as verify
use Rattle.p10_agreement.specs.Laws.{seen_files, acceptance, with_certificate, HaveCertificate, DerivedCertificatesAreVerified, DerivedTextsAreVerified, IsVerifiedText}
use Rattle.p10_agreement.proofs.Looking.{gathered_alike}

-- what isn't over a limit is within it
not_over : (limit n : ℕ) → (limit < n → ⊥) → n ≤ limit
not_over limit n few = elim (cases_order limit n) [ inl same ↦ omega (arith, same) | inr apart ↦ elim apart [ inl over ↦ absurd (few over) | inr under ↦ omega (arith, under) ] ]

-- ## Sections

-- where nothing else stands, that of ranges does
differences_of_none : (p : PlainProgram) → stands_by_differences [] p ≡ stands_by_ranges p
differences_of_none p = λ i n k entry claim. ((λ j. stands_by_ranges p n k entry claim || no_rank (slice_get p.functions n) k entry claim j) ∙ or_false (stands_by_ranges p n k entry claim)) i
  where
    no_loop : (f : PlainFunction) (l : Option LoopParts) (entry : Environment) (claim : Loop) → loop_stands f l entry claim None ≡ false
    no_loop f None entry claim = refl
    no_loop f (Some l) entry claim = refl

    no_rank : (f : Option PlainFunction) (k : ℕ) (entry : Environment) (claim : Loop) → stands_in f k entry claim None ≡ false
    no_rank None k entry claim = refl
    no_rank (Some f) k entry claim = no_loop f (slice_get (loops_among f.body) k) entry claim

    or_false : (b : Bool) → b || false ≡ b
    or_false true = refl
    or_false false = refl

-- what stands for the loops of a derived certificate is what its ranks say
standing_is : (diff : Bool) (p : PlainProgram) (c : Claims) → standing_if diff p c ≡ standing_by p (if_any (ranks_if diff p c))
standing_is false p c = refl
standing_is true p c = by_ranks (ranks_of approach_offers p c)
  where
    by_ranks : (ranks : List Rank) → stands_by_differences ranks p ≡ standing_by p (if_any ranks)
    by_ranks [] = differences_of_none p
    by_ranks (r ∷ ranks) = refl

-- ranks of which a certificate may have a section
maybe_said : (diff : Bool) (p : PlainProgram) (c : Claims) → (diff ≡ true → MayBeSaid (ranks_of approach_offers p c)) → MayBeSaid (ranks_if diff p c)
maybe_said false p c h = record { numbers = tt; rising = tt; few = omega arith }
maybe_said true p c h = h refl

-- ## Texts that are accepted

-- sources are a program, for which bytes are accepted as the text of these claims
record AreAccepted (s : Setting) (g : Gathered) (p : PlainProgram) (c : Claims) (text : Text) : Type 0 where
  has : HasProgram s g p
  claimed : IsClaimed p (reading_digests has.reading).funcs text (verdicts.Accepted c.total)
  claims_are : claims_in claimed.certificate ≡ c

module _ (s : Setting) (g : Gathered) (p : PlainProgram) (c : Claims) (text : Text) (diff : Bool) (derived : IsDerived (offers_if diff) p (Certified c)) (good : IsCertificate c) (accepted : IsVerdict (standing_if diff p c) p c (verdicts.Accepted c.total)) where
  -- the text of version 1
  alone : HasProgram s g p → diff ≡ false → text ≡ certificate_text c → AreAccepted s g p c text
  alone has plain is = record {
    has = has;
    claimed = record {
      certificate = plain_statement c;
      read = record {
        short = subst (λ (t : Text). length t ≤ certificate_limit) (sym is) (not_over certificate_limit (length (certificate_text c)) derived.text);
        text_is = is ∙ sym (plain_text c);
        is_certificate = plain_good c good;
      };
      words = plain_fresh 0 c.funcs (reading_digests has.reading).funcs;
      has = record {
        ranked = record { ranks = None; are = tt };
        is = subst (λ (d : Claims). IsVerdict (stands_by_ranges p) p d (verdicts.Accepted c.total)) (sym (claims_back c)) (subst (λ (b : Bool). IsVerdict (standing_if b p c) p c (verdicts.Accepted c.total)) plain accepted);
      };
    };
    claims_are = claims_back c;
  }

  -- the text of version 2
  with_digests : SealedWithIsCertificate → SealedSaysTheSame → ReadingDigestsAreSized → RankSectionsSay → MayBeSaid (ranks_if diff p c) → (digests : PlainDigests) → HasProgramWithDigests s g p digests → text ≡ ranked_text c digests (ranks_if diff p c)
      → length text ≤ certificate_limit → AreAccepted s g p c text
  with_digests is_certificate says sized section may digests has is short =
      let ranks : List Rank = ranks_if diff p c in
      let sections : List Section = rank_sections ranks in
      let each : length digests.funcs ≡ length c.funcs = has.each ∙ sym (claims_have_results (offers_if diff) p c derived.claims.claims).each in
      let says_all = says c digests each in
      let same : claims_in (sealed_with c digests sections) ≡ c = λ i. record { funcs = says_all.funcs i; total = c.total } in
      let said = section ranks may.numbers may.rising may.few in
      record {
        has = has.has;
        claimed = record {
          certificate = sealed_with c digests sections;
          read = record { short = short; text_is = is; is_certificate = is_certificate c digests sections good (subst AreSized (sym has.are) (sized has.has.reading)) said.0 };
          words = kept_fresh (sealed c digests).entries (reading_digests has.has.reading).funcs (says_all.digests_are ∙ ap (λ (d : PlainDigests). map Some d.funcs) has.are);
          has = record {
            ranked = record { ranks = if_any ranks; are = said.1 };
            is = subst (λ (d : Claims). IsVerdict (standing_by p (if_any ranks)) p d (verdicts.Accepted c.total)) (sym same)
                (subst (λ (stands : Standing). IsVerdict stands p c (verdicts.Accepted c.total)) (standing_is diff p c) accepted);
          };
        };
        claims_are = same;
      }

  in_version : SealedWithIsCertificate → SealedSaysTheSame → ReadingDigestsAreSized → RankSectionsSay → MayBeSaid (ranks_if diff p c) → (version : ℕ) → (diff ≡ true → version ≡ 2) → HasProgram s g p → IsTextInVersion version diff s g p c text
      → AreAccepted s g p c text
  in_version is_certificate says sized section may version full has (written.alone other is) = alone has (not_asked diff full) is
    where
      not_asked : (b : Bool) → (b ≡ true → version ≡ 2) → b ≡ false
      not_asked false h = refl
      not_asked true h = absurd (other (h refl))
  in_version is_certificate says sized section may version full has (written.sealed two digests with is short) = with_digests is_certificate says sized section may digests with is short

-- ## What `verify` says of them

-- it is right to say so to `verify`
right : (command : DeriveCommand) (files later : List Named) (g : Gathered) (p : PlainProgram) (c : Claims) (text name : Text) → AreAccepted (setting (Some files) command.sources command.directories) g p c text
    → HaveCertificate (with_certificate command name) text files later → (before after : ℕ) → verify.SaysRight (with_certificate command name) (seen_files later before after) (acceptance c.total)
right command files later g p c text name accepted have before after =
    let program : HasProgram (setting (Some later) command.sources command.directories) g p = record {
      gathers = gathered_alike command.sources command.directories files later g have.sources accepted.has.gathers;
      reading = accepted.has.reading;
      read = accepted.has.read;
      whole = accepted.has.whole;
    } in
    let judged : IsJudged (Some later) name p (reading_digests accepted.has.reading).funcs (Accepted c.total) = record { bytes = text; given = have.given; weighed = accepted.claimed } in
    record { sources = g; answer = Judged (Accepted c.total); is_right = (p, program, judged, refl); said = refl }

verified : VerifySaysOneThing → (command : DeriveCommand) (files : List Named) (g : Gathered) (p : PlainProgram) (c : Claims) (text : Text) → AreAccepted (setting (Some files) command.sources command.directories) g p c text → IsVerifiedText command files c text
verified one command files g p c text accepted = record {
  certificate = accepted.claimed.certificate;
  is_certificate = accepted.claimed.read.is_certificate;
  claims_are = accepted.claims_are;
  text_is = accepted.claimed.read.text_is;
  verified = λ name later have. (
      let is_right = right command files later g p c text name accepted have in
      record {
        right = is_right;
        only = λ before after saying says five seven. one (with_certificate command name) later before after saying (acceptance c.total) says (is_right before after) five seven (λ is. omega (arith, is)) (λ is. omega (arith, is));
      }
      );
}

module _ (reading : ReadingsArePrograms) (naming : DerivedCertificatesOfFilesHaveText) (named : ProgramsAreNamed) (accepting : DerivedCertificatesAreAccepted) (one : VerifySaysOneThing) (is_certificate : SealedWithIsCertificate) (says : SealedSaysTheSame) (sized : ReadingDigestsAreSized)
    (section : RankSectionsSay) (ranked : DerivedRanksHaveSections) where
  pub derived_are_verified : DerivedCertificatesAreVerified
  derived_are_verified command files g p c text has derived full written =
      let is : IsProgramOf g p = reading g has.reading p has.read in
      let good : IsCertificate c = naming (offers_if command.diff) (all_offers command.diff) g p is has.whole c derived in
      let may : MayBeSaid (ranks_if command.diff p c) = maybe_said command.diff p c (λ asked. ranked approach_offers guards_offer p has.whole (named g p is) c (subst (λ (b : Bool). IsDerived (offers_if b) p (Certified c)) asked derived)) in
      verified one command files g p c text
      (in_version (setting (Some files) command.sources command.directories) g p c text command.diff derived good (accepting command.diff p has.whole c derived) is_certificate says sized section may command.version full has written)
    where
      all_offers : (diff : Bool) → AreOffers (offers_if diff)
      all_offers false n f k depth parts l = tt
      all_offers true n f k depth parts l = guards_offer n f k depth parts l

  pub texts_are_verified : SuccessIsACertificate → DerivedTextsAreVerified
  texts_are_verified success command files before after saying full is zero =
      let told = success command (seen_files files before after) saying is zero in
      (told.claims, derived_are_verified command files told.files told.program told.claims saying.out told.gathers told.derived full told.on_out)
