use Rattle.std.proofs.Common.{refl, ap, ◌∙◌, [], ◌∷◌, string_bytes}
use Rattle.p10_expand.specs.declared.place.Place.TheVariants.{File}
use Rattle.p10_expand.specs.declared.gathering.Gathering.{Gathering}
use Rattle.p10_expand.specs.Gathering.{Root}
use Rattle.p10_expand.proofs.Steps.{found_steps}
use Rattle.p10_expand.proofs.walk.add_root.Goals as goal

pub returns-clause-there : goal.returns-clause-there
returns-clause-there g c =
    let new : Gathering = record { alloc = c.first_present.new.state.alloc; sources = c.push_root.new.self; known = c.first_present.new.state.known; absent = c.first_present.new.state.absent } in
    λ yes dirs. found_steps (g.F.Files.held c.args.files.now) dirs c.args.state.now c.first_present.new.state new (Root (string_bytes c.args.root.now)) _ 0 c.in_ok-first_present.field-0 c.in-Some.number
    c.requires.stands.known refl (ap (λ n. File n ∷ []) (c.of.ensures ∙ c.in_ok-from_str.ensures.ok ∙ c.as_str.ensures.value)) c.in_ok-first_present.ensures.found c.in-Some.is c.in_ok-push_root-in-Some.ensures.ok refl
