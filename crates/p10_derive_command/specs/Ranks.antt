-- The ranks that a derived certificate is written with.
use Rattle.std.specs.Prelude.{◌≡◌, Bool, true, false, List, []}
use Rattle.p10_base.specs.Words.{Text}
use Rattle.p10_core.specs.Typed.{PlainProgram}
use Rattle.p10_cert.specs.Claims.{Claims}
use Rattle.p10_cert.specs.Statements.{statement_text}
use Rattle.p10_diff.specs.Evidence.{Rank}
use Rattle.p10_diff_evidence.specs.Placing.{rank_sections}
use Rattle.p10_approach.specs.Offers.{approach_offers}
use Rattle.p10_finder.specs.Ranking.{ranks_of}
use Rattle.p10_front.specs.Digests.{PlainDigests}
use Rattle.p10_seal.specs.Sealing.{sealed_with}

-- those of the program's loops where variables that approach each other may bound turns
abbrev pub ranks_if : Bool → PlainProgram → Claims → List Rank
ranks_if false p c = []
ranks_if true p c = ranks_of approach_offers p c

-- the text of version 2 of claims with digests and with these ranks
abbrev pub ranked_text : Claims → PlainDigests → List Rank → Text
ranked_text c digests ranks = statement_text (sealed_with c digests (rank_sections ranks))
