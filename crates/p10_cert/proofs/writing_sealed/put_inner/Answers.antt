use Rattle.std.proofs.Common.{List, ℕ, [], ◌∷◌, ◌++◌, sym, ap, ◌∙◌}
use Rattle.std.specs.List.{flat_map}
use Rattle.p10_cert.specs.declared.claims.LoopClaim.{LoopClaim}
use Rattle.p10_cert.specs.declared.claims.ValueClaim.{ValueClaim}
use Rattle.p10_cert.specs.Claims.{func_of, loop_of, value_of}
use Rattle.p10_cert.specs.Certificate.{loop_lines}
use Rattle.p10_cert.specs.Lines.{ParamLine, text_of}
use Rattle.p10_cert.specs.Statements.{inner_lines}
use Rattle.p10_cert.proofs.PieceTexts.{result_text, loops_part}
use Rattle.p10_cert.proofs.SealedTexts.{inner_parts}
use Rattle.p10_cert.proofs.Written.{on_err}
use Rattle.p10_cert.proofs.Thirds.{first_of_three, second_of_three, three_ok, three_front}
use Rattle.p10_cert.proofs.writing_sealed.put_inner.Goals as goal

pub returns-in_err-put_all-clause-front : goal.returns-in_err-put_all-clause-front
returns-in_err-put_all-clause-front g c =
    let f = c.args.func.now in
    let params : List ValueClaim → List ℕ = flat_map (λ v. text_of (ParamLine (value_of v) ∷ [])) in
    let loops : List LoopClaim → List ℕ = flat_map (λ l. text_of (loop_lines (loop_of l))) in
    on_err c.from_residual.result _ (first_of_three (g.O.Sink.taken c.args.out.now) (g.O.Sink.taken c.put_all.new.out) (text_of (inner_lines (func_of f))) (params c.as_slice.result.now) (result_text f) (loops_part f)
    (inner_parts f ∙ ap (λ t. t ++ (result_text f ++ loops_part f)) (sym (ap params c.as_slice.ensures))) c.in_err-put_all.ensures.front)

pub returns-in_err-put_result-clause-front : goal.returns-in_err-put_result-clause-front
returns-in_err-put_result-clause-front g c =
    let f = c.args.func.now in
    let params : List ValueClaim → List ℕ = flat_map (λ v. text_of (ParamLine (value_of v) ∷ [])) in
    let loops : List LoopClaim → List ℕ = flat_map (λ l. text_of (loop_lines (loop_of l))) in
    on_err c.from_residual-in_err-put_result.result _ (second_of_three (g.O.Sink.taken c.args.out.now) (g.O.Sink.taken c.put_all.new.out) (g.O.Sink.taken c.put_result.new.out) (text_of (inner_lines (func_of f))) (params c.as_slice.result.now) (result_text f) (loops_part f)
    (inner_parts f ∙ ap (λ t. t ++ (result_text f ++ loops_part f)) (sym (ap params c.as_slice.ensures))) c.in_ok-put_all.ensures.ok c.in_err-put_result.ensures.front)

pub returns-clause-ok : goal.returns-clause-ok
returns-clause-ok g c =
    let f = c.args.func.now in
    let params : List ValueClaim → List ℕ = flat_map (λ v. text_of (ParamLine (value_of v) ∷ [])) in
    let loops : List LoopClaim → List ℕ = flat_map (λ l. text_of (loop_lines (loop_of l))) in
    three_ok c.put_all-2.result (g.O.Sink.taken c.args.out.now) (g.O.Sink.taken c.put_all.new.out) (g.O.Sink.taken c.put_result.new.out) (g.O.Sink.taken c.put_all-2.new.out) (text_of (inner_lines (func_of f))) (params c.as_slice.result.now) (result_text f) (loops c.as_slice-2.result.now)
    (inner_parts f ∙ ap (λ t. t ++ (result_text f ++ loops_part f)) (sym (ap params c.as_slice.ensures)) ∙ ap (λ t. params c.as_slice.result.now ++ (result_text f ++ t)) (sym (ap loops c.as_slice-2.ensures))) c.in_ok-put_all.ensures.ok c.in_ok-put_result.ensures.ok c.put_all-2.ensures.ok

pub returns-clause-front : goal.returns-clause-front
returns-clause-front g c =
    let f = c.args.func.now in
    let params : List ValueClaim → List ℕ = flat_map (λ v. text_of (ParamLine (value_of v) ∷ [])) in
    let loops : List LoopClaim → List ℕ = flat_map (λ l. text_of (loop_lines (loop_of l))) in
    three_front c.put_all-2.result (g.O.Sink.taken c.args.out.now) (g.O.Sink.taken c.put_all.new.out) (g.O.Sink.taken c.put_result.new.out) (g.O.Sink.taken c.put_all-2.new.out) (text_of (inner_lines (func_of f))) (params c.as_slice.result.now) (result_text f) (loops c.as_slice-2.result.now)
    (inner_parts f ∙ ap (λ t. t ++ (result_text f ++ loops_part f)) (sym (ap params c.as_slice.ensures)) ∙ ap (λ t. params c.as_slice.result.now ++ (result_text f ++ t)) (sym (ap loops c.as_slice-2.ensures))) c.in_ok-put_all.ensures.ok c.in_ok-put_result.ensures.ok c.put_all-2.ensures.front
