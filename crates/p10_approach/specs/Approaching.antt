-- What the code's sites and claims are.
use Rattle.p10_cert.specs.Claims.{loop_of}
use Rattle.p10_candidates.specs.Offering.{approach_by}
use Rattle.p10_approach.specs.declared.standing.Site.{Site as CodeSite}
use Rattle.p10_approach.specs.declared.standing.Approached.{Approached as CodeApproached}
use Rattle.p10_approach.specs.Approaches.{Site, Approached}

abbrev pub site_by : CodeSite → Site
site_by s = record { function = s.function; loop = s.at; depth = s.depth }

abbrev pub approached_of : CodeApproached → Approached
approached_of a = record { claim = loop_of a.claim; approach = approach_by a.approach }
