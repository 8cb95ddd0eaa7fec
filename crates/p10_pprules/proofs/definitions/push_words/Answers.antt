use Rattle.std.proofs.Common.{[], ◌∷◌, Some, None, map, sym, ◌∙◌, ap, append-nil}
use Rattle.std.proofs.lemmas.List.{map-append}
use Rattle.p10_direct.specs.Form.{plain_definition}
use Rattle.p10_pprules.proofs.Gathered.{words_gathered}
use Rattle.p10_pprules.proofs.definitions.push_words.Goals as goal

pub returns-in-Ok-None : goal.returns-in-Ok-None
returns-in-Ok-None c = words_gathered _ _ _ None (rw c.in-Ok-None.field-0-is at c.in-Ok-None.ensures) (sym (append-nil _))

pub returns-in_ok-push-in-Ok-Some : goal.returns-in_ok-push-in-Ok-Some
returns-in_ok-push-in-Ok-Some c =
    words_gathered _ _ _ (Some (plain_definition c.in-Ok-Some.found)) (rw c.in-Ok-Some.field-0-is at c.in-Ok-Some.ensures)
    (ap (map plain_definition) c.in_ok-push-in-Ok-Some.ensures.items ∙ map-append plain_definition c.args.definitions.now.items (c.in-Ok-Some.found ∷ []))
