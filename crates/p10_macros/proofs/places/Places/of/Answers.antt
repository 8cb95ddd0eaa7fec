use Rattle.std.proofs.Common.{◌≡◌, ℕ, List, Option, option_map, Bor, length, map, ap, sym, subst, ◌∙◌}
use Rattle.std.specs.List.{All}
use Rattle.std.proofs.lemmas.List.{length-map}
use Rattle.p10_direct.specs.Form.{plain_macro}
use Rattle.p10_base.specs.Words.{Text}
use Rattle.p10_macros.specs.private.Places.{places_of, IsBelow}
use Rattle.p10_macros.specs.Uses.{texts_of}
use Rattle.p10_macros.proofs.ByParameter.{all_below}
use Rattle.p10_macros.proofs.places.Places.of.Goals as goal
use Rattle.p10_macros.proofs.places.Places.of.Goals.{in-None, in-Some}

abbrev count : Option (List (Bor Text)) → ℕ
count params = length (texts_of (option_map (map (λ (text : Bor Text). text.now)) params))

-- as many as the macro has
counted : (c : goal.Joined-made) → length (texts_of (plain_macro c.args.made.now).parameters) ≡ c.match-made.count
counted c =
    elim c.match-made.branch [
      | in-None w ↦ ap count w.in-None.is ∙ sym w.count-is
      | in-Some w ↦ ap count w.in-Some.is ∙ length-map w.in-Some.params (λ (text : Bor Text). text.now) ∙ sym (w.count-is ∙ ap length w.as_slice.ensures)
    ]

pub of_words-requires : goal.of_words-requires
of_words-requires c =
    subst (λ (all : List (Option ℕ)). All (IsBelow c.match-made.count) all) (sym c.in_ok-all.ensures)
    (subst (λ (count : ℕ). All (IsBelow count) (places_of (plain_macro c.args.made.now).parameters (plain_macro c.args.made.now).body)) (counted c)
    (all_below (plain_macro c.args.made.now).parameters (plain_macro c.args.made.now).body))
