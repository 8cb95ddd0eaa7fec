-- Where files are told, one thing is right to say, unless a read fails or memory runs out.
use Rattle.std.proofs.Common.{◌≡◌, ◌≢◌, ℕ, Bool, List, sym, ◌∙◌, ap, subst, Some, IsSome}
use Rattle.p10_base.specs.Gathered.{Gathered}
use Rattle.p10_world.specs.Files.{Named}
use Rattle.p10_core.specs.Typed.{PlainProgram}
use Rattle.p10_expand.specs.Gathering.{Setting}
use Rattle.p10_cert.specs.Claims.{Claims}
use Rattle.p10_front.specs.Digests.{PlainDigests}
use Rattle.p10_front.specs.Laws.{ReadsOnce}
use Rattle.p10_approach.specs.Offers.{Offers, offers_if}
use Rattle.p10_finder.specs.Answers.{Derived, Certified, IsDerived}
use Rattle.p10_finder.specs.Laws.{DerivesOnce}
use Rattle.p10_command.specs.Programs.{HasProgram, HasProgramWithDigests}
use Rattle.p10_command.specs.Saying.{Saying}
use Rattle.p10_command.specs.Seen.{Seen}
use Rattle.p10_command.proofs.Once.{gathered_or_not, has_digests_once, has_once, is_told, one_ungathered, one_unread_saying, unread_or_program, untroubled}
use Rattle.p10_seal.specs.Saying.{sealed_saying}
use Rattle.p10_seal.specs.Sealing.{within_limit}
use Rattle.p10_derive_command.specs.declared.command.DeriveCommand.{DeriveCommand}
use Rattle.p10_derive_command.specs.Ranks.{ranks_if, ranked_text}
use Rattle.p10_derive_command.specs.Answers.{AsksForNoDigests, SaysRight, ungathered, unread, derived, sealed, troubled, setting_of, derived_saying}

-- ## Answers of one kind

same_derived : ReadsOnce → DerivesOnce → (o : Offers) (s : Setting) → IsSome s.held → (g h : Gathered) (p q : PlainProgram) (this that : Derived) → HasProgram s g p → HasProgram s h q → IsDerived o p this → IsDerived o q that → this ≡ that
same_derived once one o s told g h p q this that is is' derives derives' =
    let same = has_once once s told g h p q is is' in one o p this that derives (subst (λ (x : PlainProgram). IsDerived o x that) (sym same.program_is) derives')

one_derived : ReadsOnce → DerivesOnce → (o : Offers) (s : Setting) → IsSome s.held → (g h : Gathered) (p q : PlainProgram) (this that : Derived) → HasProgram s g p → HasProgram s h q → IsDerived o p this → IsDerived o q that
    → derived_saying g this ≡ derived_saying h that
one_derived once one o s told g h p q this that is is' derives derives' =
    let same = has_once once s told g h p q is is' in
    let answer : this ≡ that = same_derived once one o s told g h p q this that is is' derives derives' in
    ap (λ (x : Derived). derived_saying g x) answer ∙ ap (λ (x : Gathered). derived_saying x that) same.sources_are

one_sealed : ReadsOnce → DerivesOnce → (diff : Bool) (s : Setting) → IsSome s.held → (g h : Gathered) (p q : PlainProgram) (these those : PlainDigests) (c d : Claims) → HasProgramWithDigests s g p these → HasProgramWithDigests s h q those
    → IsDerived (offers_if diff) p (Certified c) → IsDerived (offers_if diff) q (Certified d) → sealed_saying (within_limit (ranked_text c these (ranks_if diff p c))) ≡ sealed_saying (within_limit (ranked_text d those (ranks_if diff q d)))
one_sealed once one diff s told g h p q these those c d is is' derives derives' =
    let same = has_digests_once once s told g h p q these those is is' in
    let answer : Certified c ≡ Certified d = same_derived once one (offers_if diff) s told g h p q (Certified c) (Certified d) is.has is'.has derives derives' in
    let claims : c ≡ d = cc in
    let programs : p ≡ q = same.program_is in
    λ i. sealed_saying (within_limit (ranked_text (claims i) (same.digests_are i) (ranks_if diff (programs i) (claims i))))

-- digests are asked for or they aren't
asked_or_not : (version : ℕ) (answer : Derived) (claims : Claims) → AsksForNoDigests version answer → answer ≡ Certified claims → version ≡ 2 → ⊥
asked_or_not version answer claims none is two = subst (AsksForNoDigests version) is none two

-- ## All answers

pub says_one_thing : ReadsOnce → DerivesOnce → (derive : DeriveCommand) (seen : Seen) (files : List Named) (some other : Saying) → seen.held ≡ Some files →
    SaysRight derive seen some → SaysRight derive seen other → some.status ≢ 5 → some.status ≢ 7 → other.status ≢ 5 → other.status ≢ 7 → some ≡ other
says_one_thing once one derive seen files some other held (troubled t may said) says five seven five' seven' = absurd (untroubled t some said five seven)
says_one_thing once one derive seen files some other held says (troubled t may said) five seven five' seven' = absurd (untroubled t other said five' seven')
says_one_thing once one derive seen files some other held (ungathered g why fails said) (ungathered h why' fails' said') five seven five' seven' =
    said ∙ one_ungathered (setting_of seen derive) (is_told seen.held files held) derive.sources g h why why' fails fails' ∙ sym said'
says_one_thing once one derive seen files some other held (ungathered g why fails said) (unread h why' gathers is said') five seven five' seven' =
    absurd (gathered_or_not (setting_of seen derive) (is_told seen.held files held) h g why gathers fails)
says_one_thing once one derive seen files some other held (ungathered g why fails said) (derived h q a gathers is asks said') five seven five' seven' =
    absurd (gathered_or_not (setting_of seen derive) (is_told seen.held files held) h g why gathers.gathers fails)
says_one_thing once one derive seen files some other held (unread g why gathers is said) (ungathered h why' fails said') five seven five' seven' =
    absurd (gathered_or_not (setting_of seen derive) (is_told seen.held files held) g h why' gathers fails)
says_one_thing once one derive seen files some other held (derived g p a gathers is asks said) (ungathered h why' fails said') five seven five' seven' =
    absurd (gathered_or_not (setting_of seen derive) (is_told seen.held files held) g h why' gathers.gathers fails)
says_one_thing once one derive seen files some other held (unread g why gathers is said) (unread h why' gathers' is' said') five seven five' seven' =
    said ∙ one_unread_saying once (setting_of seen derive) (is_told seen.held files held) g h why why' gathers is gathers' is' ∙ sym said'
says_one_thing once one derive seen files some other held (unread g why gathers is said) (derived h q a gathers' is' asks said') five seven five' seven' =
    absurd (unread_or_program once (setting_of seen derive) (is_told seen.held files held) g h why q gathers is gathers')
says_one_thing once one derive seen files some other held (derived g p a gathers is asks said) (unread h why' gathers' is' said') five seven five' seven' =
    absurd (unread_or_program once (setting_of seen derive) (is_told seen.held files held) h g why' p gathers' is' gathers)
says_one_thing once one derive seen files some other held (derived g p a gathers is asks said) (derived h q b gathers' is' asks' said') five seven five' seven' =
    said ∙ one_derived once one (offers_if derive.diff) (setting_of seen derive) (is_told seen.held files held) g h p q a b gathers gathers' is is' ∙ sym said'
says_one_thing once one derive seen files some other held (ungathered g why fails said) (sealed h q digests claims has is two said') five seven five' seven' =
    absurd (gathered_or_not (setting_of seen derive) (is_told seen.held files held) h g why has.has.gathers fails)
says_one_thing once one derive seen files some other held (sealed g p digests claims has is two said) (ungathered h why' fails said') five seven five' seven' =
    absurd (gathered_or_not (setting_of seen derive) (is_told seen.held files held) g h why' has.has.gathers fails)
says_one_thing once one derive seen files some other held (unread g why gathers is said) (sealed h q digests claims has is' two said') five seven five' seven' =
    absurd (unread_or_program once (setting_of seen derive) (is_told seen.held files held) g h why q gathers is has.has)
says_one_thing once one derive seen files some other held (sealed g p digests claims has is two said) (unread h why' gathers' is' said') five seven five' seven' =
    absurd (unread_or_program once (setting_of seen derive) (is_told seen.held files held) h g why' p gathers' is' has.has)
says_one_thing once one derive seen files some other held (derived g p a gathers is asks said) (sealed h q digests claims has is' two said') five seven five' seven' =
    absurd (asked_or_not derive.version a claims asks (same_derived once one (offers_if derive.diff) (setting_of seen derive) (is_told seen.held files held) g h p q a (Certified claims) gathers has.has is is') two)
says_one_thing once one derive seen files some other held (sealed g p digests claims has is two said) (derived h q a gathers is' asks said') five seven five' seven' =
    absurd (asked_or_not derive.version a claims asks (same_derived once one (offers_if derive.diff) (setting_of seen derive) (is_told seen.held files held) h g q p a (Certified claims) gathers has.has is' is) two)
says_one_thing once one derive seen files some other held (sealed g p these c has is two said) (sealed h q those d has' is' two' said') five seven five' seven' =
    said ∙ one_sealed once one derive.diff (setting_of seen derive) (is_told seen.held files held) g h p q these those c d has has' is is' ∙ sym said'
