use Rattle.std.proofs.Common.{List, ℕ, ◌++◌, codes, sym, ap, ◌∙◌}
use Rattle.std.specs.List.{flat_map}
use Rattle.p10_base.specs.declared.digest.Digest.{Digest}
use Rattle.p10_cert.specs.declared.claims.FuncClaim.{FuncClaim}
use Rattle.p10_cert.specs.Lines.{text_of}
use Rattle.p10_cert.specs.Sealed.{entries_of, statement_of}
use Rattle.p10_cert.specs.Statements.{ending_lines, entry_text, statement_text}
use Rattle.p10_cert.proofs.SealedTexts.{entries_part, statement_parts}
use Rattle.p10_cert.proofs.Written.{on_err}
use Rattle.p10_cert.proofs.Thirds.{first_of_three, second_of_three, three_ok, three_front}
use Rattle.p10_cert.proofs.writing_sealed.write2.Goals as goal

pub returns-in_err-put-clause-front : goal.returns-in_err-put-clause-front
returns-in_err-put-clause-front g c =
    let cert = c.args.cert.now in
    let entries : List FuncClaim → List Digest → List ℕ = λ funcs digests. flat_map entry_text (entries_of funcs digests) in
    on_err c.from_residual.result _ (first_of_three (g.O.Sink.taken c.args.out.now) (g.O.Sink.taken c.put.new.self) (statement_text (statement_of cert)) (codes "p10cert 2\n") (entries_part cert) (text_of (ending_lines (statement_of cert).ending))
    (statement_parts cert) c.in_err-put.ensures.front)

pub returns-in_err-put_entries-clause-front : goal.returns-in_err-put_entries-clause-front
returns-in_err-put_entries-clause-front g c =
    let cert = c.args.cert.now in
    let entries : List FuncClaim → List Digest → List ℕ = λ funcs digests. flat_map entry_text (entries_of funcs digests) in
    on_err c.from_residual-in_err-put_entries.result _ (second_of_three (g.O.Sink.taken c.args.out.now) (g.O.Sink.taken c.put.new.self) (g.O.Sink.taken c.put_entries.new.out) (statement_text (statement_of cert)) (codes "p10cert 2\n") (entries c.as_slice.result.now c.as_slice-2.result.now) (text_of (ending_lines (statement_of cert).ending))
    (statement_parts cert ∙ ap (λ t. codes "p10cert 2\n" ++ (t ++ text_of (ending_lines (statement_of cert).ending))) (ap (λ funcs. entries funcs cert.digests) (sym c.as_slice.ensures) ∙ ap (entries c.as_slice.result.now) (sym c.as_slice-2.ensures))) c.in_ok-put.ensures.ok c.in_err-put_entries.ensures.front)

pub returns-clause-ok : goal.returns-clause-ok
returns-clause-ok g c =
    let cert = c.args.cert.now in
    let entries : List FuncClaim → List Digest → List ℕ = λ funcs digests. flat_map entry_text (entries_of funcs digests) in
    three_ok c.put_ending.result (g.O.Sink.taken c.args.out.now) (g.O.Sink.taken c.put.new.self) (g.O.Sink.taken c.put_entries.new.out) (g.O.Sink.taken c.put_ending.new.out) (statement_text (statement_of cert)) (codes "p10cert 2\n") (entries c.as_slice.result.now c.as_slice-2.result.now) (text_of (ending_lines (statement_of cert).ending))
    (statement_parts cert ∙ ap (λ t. codes "p10cert 2\n" ++ (t ++ text_of (ending_lines (statement_of cert).ending))) (ap (λ funcs. entries funcs cert.digests) (sym c.as_slice.ensures) ∙ ap (entries c.as_slice.result.now) (sym c.as_slice-2.ensures))) c.in_ok-put.ensures.ok c.in_ok-put_entries.ensures.ok c.put_ending.ensures.ok

pub returns-clause-front : goal.returns-clause-front
returns-clause-front g c =
    let cert = c.args.cert.now in
    let entries : List FuncClaim → List Digest → List ℕ = λ funcs digests. flat_map entry_text (entries_of funcs digests) in
    three_front c.put_ending.result (g.O.Sink.taken c.args.out.now) (g.O.Sink.taken c.put.new.self) (g.O.Sink.taken c.put_entries.new.out) (g.O.Sink.taken c.put_ending.new.out) (statement_text (statement_of cert)) (codes "p10cert 2\n") (entries c.as_slice.result.now c.as_slice-2.result.now) (text_of (ending_lines (statement_of cert).ending))
    (statement_parts cert ∙ ap (λ t. codes "p10cert 2\n" ++ (t ++ text_of (ending_lines (statement_of cert).ending))) (ap (λ funcs. entries funcs cert.digests) (sym c.as_slice.ensures) ∙ ap (entries c.as_slice.result.now) (sym c.as_slice-2.ensures))) c.in_ok-put.ensures.ok c.in_ok-put_entries.ensures.ok c.put_ending.ensures.front
