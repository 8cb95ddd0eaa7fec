use Rattle.std.proofs.Common.{Option, List, option_map, sym, ap, ◌∙◌}
use Rattle.p10_macros.specs.declared.known.Known.{Known}
use Rattle.p10_macros.specs.Known.{kept_at}
use Rattle.p10_macros.specs.private.KnownMacros.{plain_known}
use Rattle.p10_macros.proofs.Tables.{found_is, nothing_found}
use Rattle.p10_macros.proofs.table.Macros.entry.Goals as goal

pub returns-in-None : goal.returns-in-None
returns-in-None c = nothing_found c.args.self.now.kept.items c.args.self.now.places c.args.name.now c.args.self.now.placed (sym c.in-None.ensures.value)

pub returns-in-Some : goal.returns-in-Some
returns-in-Some c =
    ap (λ (o : Option Known). option_map plain_known o) (c.kept_at.ensures ∙ ap (λ (kept : List (Option Known)). kept_at kept c.in-Some.place.now) c.as_slice.ensures.value)
    ∙ found_is c.args.self.now.kept.items c.args.self.now.places c.args.name.now c.in-Some.place.now c.args.self.now.placed (sym c.in-Some.ensures.value)
