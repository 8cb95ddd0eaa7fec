-- One function more was looked at.
use Rattle.std.proofs.Common.{◌∙◌, ◌<◌, ◌≤◌, length, refl, ap, subst, sym, arith}
use Rattle.std.specs.Prelude.{option_map}
use Rattle.std.proofs.lemmas.List.{length-map}
use Rattle.p10_core.specs.Views.{plain_function, plain_program}
use Rattle.p10_pass.specs.Leaving.{failing_of}
use Rattle.p10_check.specs.Conditions.{first_failing}
use Rattle.p10_check.specs.Fails.{failures_of}
use Rattle.p10_check.specs.Texts.{claims_in}
use Rattle.p10_check.specs.private.Firsts.{earlier}
use Rattle.p10_check.specs.private.Keeping.{claims_kept, lines_kept, AreKept}
use Rattle.p10_check.proofs.Earliest.{earliest_step, earliest_done}
use Rattle.p10_check.proofs.text.earliest_in_text.Goals as goal

pub loop-number-init : goal.loop-number-init
loop-number-init g c = record { same = refl; so_far = λ s good kept each. refl }

pub loop-number-preserved : goal.loop-number-preserved
loop-number-preserved g c =
    let p = plain_program c.args.program.now in
    let number = c.loop-number.number in
    let same = c.loop-number.invariant.same in
    let inside : number < length c.args.program.now.functions = subst (λ fs. number < length fs) c.as_slice-count.ensures c.loop-number-test.true in
    record {
      same = c.in_ok-fails.ensures.same ∙ same;
      so_far = λ s good kept each.
          let below : number < length (claims_in s).funcs = omega (arith, inside, each, length-map c.args.program.now.functions plain_function) in
          earliest_step (g.E.Evidence.standing c.args.evidence.now p) p (claims_in s) c.args.program.now.functions number (option_map failing_of c.loop-number.found) (option_map failing_of c.earlier-found.result) _ (failures_of c.in_ok-fails.fails.items)
          inside (c.in_ok-fails.ensures.fails s good (subst (λ k. AreKept s.entries (claims_kept k) (lines_kept k)) (sym same) kept) below)
          (c.earlier-found.ensures ∙ ap (earlier (option_map failing_of c.loop-number.found)) (c.first_fail.ensures ∙ ap (λ fs. first_failing (failures_of fs)) c.as_slice.ensures.value))
          (c.loop-number.invariant.so_far s good kept each);
    }

pub returns : goal.returns
returns g c =
    let p = plain_program c.args.program.now in
    λ s good kept each.
    earliest_done (g.E.Evidence.standing c.args.evidence.now p) p (claims_in s) c.args.program.now.functions c.loop-number.number (option_map failing_of c.loop-number.found) _
    (subst (λ fs. length fs ≤ c.loop-number.number) c.as_slice-count.ensures c.loop-number-test.false) (c.loop-number.invariant.so_far s good kept each)
