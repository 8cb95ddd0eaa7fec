use Rattle.std.proofs.Common.{List, ℕ, [], ◌∷◌, refl, ap}
use Rattle.std.specs.List.{flat_map}
use Rattle.p10_cert.specs.declared.claims.LoopClaim.{LoopClaim}
use Rattle.p10_cert.specs.declared.claims.ValueClaim.{ValueClaim}
use Rattle.p10_cert.specs.Claims.{func_of, loop_of, value_of}
use Rattle.p10_cert.specs.Certificate.{func_text, loop_lines}
use Rattle.p10_cert.specs.Lines.{ParamLine, text_of}
use Rattle.p10_cert.proofs.PieceTexts.{func_parts, head_text, params_part, result_text, loops_part}
use Rattle.p10_cert.proofs.Written.{on_err}
use Rattle.p10_cert.proofs.Quarters.{renamed, first_stops, second_stops, third_stops, fourth_ok, fourth_stops}
use Rattle.p10_cert.proofs.texts.FuncClaimText.put.Goals as goal

pub returns-in_err-put_head-clause-front : goal.returns-in_err-put_head-clause-front
returns-in_err-put_head-clause-front g c =
    let f = c.args.self.now in
    on_err c.from_residual.result _ (first_stops (g.O.Sink.taken c.args.out.now) (g.O.Sink.taken c.put_head.new.out) (func_text (func_of f)) (head_text f) (params_part f) (result_text f) (loops_part f)
    (renamed (func_text (func_of f)) (head_text f) (params_part f) (result_text f) (loops_part f) (params_part f) (loops_part f) (func_parts f) (refl) (refl)) c.in_err-put_head.ensures.front)

pub returns-in_err-put_all-clause-front : goal.returns-in_err-put_all-clause-front
returns-in_err-put_all-clause-front g c =
    let f = c.args.self.now in
    let params : List ValueClaim → List ℕ = flat_map (λ v. text_of (ParamLine (value_of v) ∷ [])) in
    let loops : List LoopClaim → List ℕ = flat_map (λ l. text_of (loop_lines (loop_of l))) in
    on_err c.from_residual-in_err-put_all.result _ (second_stops (g.O.Sink.taken c.args.out.now) (g.O.Sink.taken c.put_head.new.out) (g.O.Sink.taken c.put_all.new.out) (func_text (func_of f)) (head_text f) (params c.as_slice.result.now) (result_text f) (loops_part f)
    (renamed (func_text (func_of f)) (head_text f) (params_part f) (result_text f) (loops_part f) (params c.as_slice.result.now) (loops_part f) (func_parts f) (ap params c.as_slice.ensures) (refl)) c.in_ok-put_head.ensures.ok c.in_err-put_all.ensures.front)

pub returns-in_err-put_result-clause-front : goal.returns-in_err-put_result-clause-front
returns-in_err-put_result-clause-front g c =
    let f = c.args.self.now in
    let params : List ValueClaim → List ℕ = flat_map (λ v. text_of (ParamLine (value_of v) ∷ [])) in
    let loops : List LoopClaim → List ℕ = flat_map (λ l. text_of (loop_lines (loop_of l))) in
    on_err c.from_residual-in_err-put_result.result _ (third_stops (g.O.Sink.taken c.args.out.now) (g.O.Sink.taken c.put_head.new.out) (g.O.Sink.taken c.put_all.new.out) (g.O.Sink.taken c.put_result.new.out) (func_text (func_of f)) (head_text f) (params c.as_slice.result.now) (result_text f) (loops_part f)
    (renamed (func_text (func_of f)) (head_text f) (params_part f) (result_text f) (loops_part f) (params c.as_slice.result.now) (loops_part f) (func_parts f) (ap params c.as_slice.ensures) (refl)) c.in_ok-put_head.ensures.ok c.in_ok-put_all.ensures.ok c.in_err-put_result.ensures.front)

pub returns-clause-ok : goal.returns-clause-ok
returns-clause-ok g c =
    let f = c.args.self.now in
    let params : List ValueClaim → List ℕ = flat_map (λ v. text_of (ParamLine (value_of v) ∷ [])) in
    let loops : List LoopClaim → List ℕ = flat_map (λ l. text_of (loop_lines (loop_of l))) in
    fourth_ok c.put_all-2.result (g.O.Sink.taken c.args.out.now) (g.O.Sink.taken c.put_head.new.out) (g.O.Sink.taken c.put_all.new.out) (g.O.Sink.taken c.put_result.new.out) (g.O.Sink.taken c.put_all-2.new.out) (func_text (func_of f)) (head_text f) (params c.as_slice.result.now) (result_text f) (loops c.as_slice-2.result.now)
    (renamed (func_text (func_of f)) (head_text f) (params_part f) (result_text f) (loops_part f) (params c.as_slice.result.now) (loops c.as_slice-2.result.now) (func_parts f) (ap params c.as_slice.ensures) (ap loops c.as_slice-2.ensures)) c.in_ok-put_head.ensures.ok c.in_ok-put_all.ensures.ok c.in_ok-put_result.ensures.ok c.put_all-2.ensures.ok

pub returns-clause-front : goal.returns-clause-front
returns-clause-front g c =
    let f = c.args.self.now in
    let params : List ValueClaim → List ℕ = flat_map (λ v. text_of (ParamLine (value_of v) ∷ [])) in
    let loops : List LoopClaim → List ℕ = flat_map (λ l. text_of (loop_lines (loop_of l))) in
    fourth_stops c.put_all-2.result (g.O.Sink.taken c.args.out.now) (g.O.Sink.taken c.put_head.new.out) (g.O.Sink.taken c.put_all.new.out) (g.O.Sink.taken c.put_result.new.out) (g.O.Sink.taken c.put_all-2.new.out) (func_text (func_of f)) (head_text f) (params c.as_slice.result.now) (result_text f) (loops c.as_slice-2.result.now)
    (renamed (func_text (func_of f)) (head_text f) (params_part f) (result_text f) (loops_part f) (params c.as_slice.result.now) (loops c.as_slice-2.result.now) (func_parts f) (ap params c.as_slice.ensures) (ap loops c.as_slice-2.ensures)) c.in_ok-put_head.ensures.ok c.in_ok-put_all.ensures.ok c.in_ok-put_result.ensures.ok c.put_all-2.ensures.front
