use Rattle.std.proofs.Common.{◌∙◌, ap, sym}
use Rattle.std.specs.Prelude.{◌≡◌, ◌&&◌, false}
use Rattle.p10_nesting.specs.Roles.{is_string_role}
use Rattle.p10_nesting.proofs.Counting.{and_false, meets_added}
use Rattle.p10_nesting.proofs.open.Open.meet.Goals.{else-is_string-via-then-is_string+else-after_string, else-is_string-via-else-is_string}
use Rattle.p10_nesting.proofs.open.Open.meet.Goals as goal

pub returns-else-is_string : goal.returns-else-is_string
returns-else-is_string c =
    let joined : is_string_role c.args.role && c.args.after_string ≡ false = elim c.else-is_string.branch [
      | else-is_string-via-then-is_string+else-after_string w ↦ ap (λ b. is_string_role c.args.role && b) w.if-after_string.false ∙ and_false (is_string_role c.args.role)
      | else-is_string-via-else-is_string w ↦ ap (λ b. b && c.args.after_string) (sym c.is_string.ensures ∙ w.if-is_string.false)
    ] in
    meets_added c.args.role c.args.after_string c.args.self.now c.add.new.self c.add.result (sym c.closes.ensures ∙ c.if-closes.false) joined c.add.ensures
