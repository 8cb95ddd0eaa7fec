use Rattle.std.proofs.Common.{List, ℕ, refl, ap, codes}
use Rattle.std.specs.List.{flat_map}
use Rattle.p10_cert.specs.declared.claims.FuncClaim.{FuncClaim}
use Rattle.p10_cert.specs.Claims.{claims_of, func_of}
use Rattle.p10_cert.specs.Certificate.{func_text, certificate_text}
use Rattle.p10_cert.proofs.PieceTexts.{certificate_parts, funcs_part, total_text}
use Rattle.p10_cert.proofs.Written.{on_err}
use Rattle.p10_cert.proofs.Quarters.{renamed, first_stops, second_stops, third_stops, fourth_ok, fourth_stops}
use Rattle.p10_cert.proofs.writing.write.Goals as goal

pub returns-in_err-put-clause-front : goal.returns-in_err-put-clause-front
returns-in_err-put-clause-front g c =
    let cert = c.args.cert.now in
    on_err c.from_residual.result _ (first_stops (g.O.Sink.taken c.args.out.now) (g.O.Sink.taken c.put.new.self) (certificate_text (claims_of cert)) (codes "p10cert 1\n") (funcs_part cert) (total_text cert) (codes "end\n")
    (record { parts = certificate_parts cert }) c.in_err-put.ensures.front)

pub returns-in_err-put_all-clause-front : goal.returns-in_err-put_all-clause-front
returns-in_err-put_all-clause-front g c =
    let cert = c.args.cert.now in
    let funcs : List FuncClaim → List ℕ = flat_map (λ f. func_text (func_of f)) in
    on_err c.from_residual-in_err-put_all.result _ (second_stops (g.O.Sink.taken c.args.out.now) (g.O.Sink.taken c.put.new.self) (g.O.Sink.taken c.put_all.new.out) (certificate_text (claims_of cert)) (codes "p10cert 1\n") (funcs c.as_slice.result.now) (total_text cert) (codes "end\n")
    (renamed (certificate_text (claims_of cert)) (codes "p10cert 1\n") (funcs_part cert) (total_text cert) (codes "end\n") _ _ (certificate_parts cert) (ap funcs c.as_slice.ensures) refl) c.in_ok-put.ensures.ok c.in_err-put_all.ensures.front)

pub returns-in_err-put_total-clause-front : goal.returns-in_err-put_total-clause-front
returns-in_err-put_total-clause-front g c =
    let cert = c.args.cert.now in
    let funcs : List FuncClaim → List ℕ = flat_map (λ f. func_text (func_of f)) in
    on_err c.from_residual-in_err-put_total.result _ (third_stops (g.O.Sink.taken c.args.out.now) (g.O.Sink.taken c.put.new.self) (g.O.Sink.taken c.put_all.new.out) (g.O.Sink.taken c.put_total.new.out) (certificate_text (claims_of cert)) (codes "p10cert 1\n") (funcs c.as_slice.result.now) (total_text cert) (codes "end\n")
    (renamed (certificate_text (claims_of cert)) (codes "p10cert 1\n") (funcs_part cert) (total_text cert) (codes "end\n") _ _ (certificate_parts cert) (ap funcs c.as_slice.ensures) refl) c.in_ok-put.ensures.ok c.in_ok-put_all.ensures.ok c.in_err-put_total.ensures.front)

pub returns-clause-ok : goal.returns-clause-ok
returns-clause-ok g c =
    let cert = c.args.cert.now in
    let funcs : List FuncClaim → List ℕ = flat_map (λ f. func_text (func_of f)) in
    fourth_ok c.put-2.result (g.O.Sink.taken c.args.out.now) (g.O.Sink.taken c.put.new.self) (g.O.Sink.taken c.put_all.new.out) (g.O.Sink.taken c.put_total.new.out) (g.O.Sink.taken c.put-2.new.self) (certificate_text (claims_of cert)) (codes "p10cert 1\n") (funcs c.as_slice.result.now) (total_text cert) (codes "end\n")
    (renamed (certificate_text (claims_of cert)) (codes "p10cert 1\n") (funcs_part cert) (total_text cert) (codes "end\n") _ _ (certificate_parts cert) (ap funcs c.as_slice.ensures) refl) c.in_ok-put.ensures.ok c.in_ok-put_all.ensures.ok c.in_ok-put_total.ensures.ok c.put-2.ensures.ok

pub returns-clause-front : goal.returns-clause-front
returns-clause-front g c =
    let cert = c.args.cert.now in
    let funcs : List FuncClaim → List ℕ = flat_map (λ f. func_text (func_of f)) in
    fourth_stops c.put-2.result (g.O.Sink.taken c.args.out.now) (g.O.Sink.taken c.put.new.self) (g.O.Sink.taken c.put_all.new.out) (g.O.Sink.taken c.put_total.new.out) (g.O.Sink.taken c.put-2.new.self) (certificate_text (claims_of cert)) (codes "p10cert 1\n") (funcs c.as_slice.result.now) (total_text cert) (codes "end\n")
    (renamed (certificate_text (claims_of cert)) (codes "p10cert 1\n") (funcs_part cert) (total_text cert) (codes "end\n") _ _ (certificate_parts cert) (ap funcs c.as_slice.ensures) refl) c.in_ok-put.ensures.ok c.in_ok-put_all.ensures.ok c.in_ok-put_total.ensures.ok c.put-2.ensures.front
