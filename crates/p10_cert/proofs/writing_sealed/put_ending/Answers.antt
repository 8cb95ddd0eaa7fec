use Rattle.std.proofs.Common.{List, ℕ, ◌++◌, codes, sym, ap, ◌∙◌}
use Rattle.std.specs.List.{flat_map}
use Rattle.p10_cert.specs.declared.sealed.Section.{Section}
use Rattle.p10_cert.specs.Lines.{text_of}
use Rattle.p10_cert.specs.Sealed.{section_of, statement_of}
use Rattle.p10_cert.specs.Statements.{section_lines, ending_lines}
use Rattle.p10_cert.proofs.SealedTexts.{outside_text, bounds_text, sections_part, ending_parts}
use Rattle.p10_cert.proofs.Written.{on_err}
use Rattle.p10_cert.proofs.Quarters.{first_stops, second_stops, third_stops, fourth_ok, fourth_stops}
use Rattle.p10_cert.proofs.writing_sealed.put_ending.Goals as goal

pub returns-in_err-put_digest-clause-front : goal.returns-in_err-put_digest-clause-front
returns-in_err-put_digest-clause-front g c =
    let cert = c.args.cert.now in
    on_err c.from_residual.result _ (first_stops (g.O.Sink.taken c.args.out.now) (g.O.Sink.taken c.put_digest.new.out) (text_of (ending_lines (statement_of cert).ending)) (outside_text cert) (bounds_text cert) (sections_part cert) (codes "end\n")
    (record { parts = ending_parts cert }) c.in_err-put_digest.ensures.front)

pub returns-in_err-put_total-clause-front : goal.returns-in_err-put_total-clause-front
returns-in_err-put_total-clause-front g c =
    let cert = c.args.cert.now in
    on_err c.from_residual-in_err-put_total.result _ (second_stops (g.O.Sink.taken c.args.out.now) (g.O.Sink.taken c.put_digest.new.out) (g.O.Sink.taken c.put_total.new.out) (text_of (ending_lines (statement_of cert).ending)) (outside_text cert) (bounds_text cert) (sections_part cert) (codes "end\n")
    (record { parts = ending_parts cert }) c.in_ok-put_digest.ensures.ok c.in_err-put_total.ensures.front)

pub returns-in_err-put_all-clause-front : goal.returns-in_err-put_all-clause-front
returns-in_err-put_all-clause-front g c =
    let cert = c.args.cert.now in
    let sections : List Section → List ℕ = flat_map (λ s. text_of (section_lines (section_of s))) in
    on_err c.from_residual-in_err-put_all.result _ (third_stops (g.O.Sink.taken c.args.out.now) (g.O.Sink.taken c.put_digest.new.out) (g.O.Sink.taken c.put_total.new.out) (g.O.Sink.taken c.put_all.new.out) (text_of (ending_lines (statement_of cert).ending)) (outside_text cert) (bounds_text cert) (sections c.as_slice.result.now) (codes "end\n")
    (record { parts = ending_parts cert ∙ ap (λ t. outside_text cert ++ (bounds_text cert ++ (t ++ codes "end\n"))) (sym (ap sections c.as_slice.ensures)) }) c.in_ok-put_digest.ensures.ok c.in_ok-put_total.ensures.ok c.in_err-put_all.ensures.front)

pub returns-clause-ok : goal.returns-clause-ok
returns-clause-ok g c =
    let cert = c.args.cert.now in
    let sections : List Section → List ℕ = flat_map (λ s. text_of (section_lines (section_of s))) in
    fourth_ok c.put.result (g.O.Sink.taken c.args.out.now) (g.O.Sink.taken c.put_digest.new.out) (g.O.Sink.taken c.put_total.new.out) (g.O.Sink.taken c.put_all.new.out) (g.O.Sink.taken c.put.new.self) (text_of (ending_lines (statement_of cert).ending)) (outside_text cert) (bounds_text cert) (sections c.as_slice.result.now) (codes "end\n")
    (record { parts = ending_parts cert ∙ ap (λ t. outside_text cert ++ (bounds_text cert ++ (t ++ codes "end\n"))) (sym (ap sections c.as_slice.ensures)) }) c.in_ok-put_digest.ensures.ok c.in_ok-put_total.ensures.ok c.in_ok-put_all.ensures.ok c.put.ensures.ok

pub returns-clause-front : goal.returns-clause-front
returns-clause-front g c =
    let cert = c.args.cert.now in
    let sections : List Section → List ℕ = flat_map (λ s. text_of (section_lines (section_of s))) in
    fourth_stops c.put.result (g.O.Sink.taken c.args.out.now) (g.O.Sink.taken c.put_digest.new.out) (g.O.Sink.taken c.put_total.new.out) (g.O.Sink.taken c.put_all.new.out) (g.O.Sink.taken c.put.new.self) (text_of (ending_lines (statement_of cert).ending)) (outside_text cert) (bounds_text cert) (sections c.as_slice.result.now) (codes "end\n")
    (record { parts = ending_parts cert ∙ ap (λ t. outside_text cert ++ (bounds_text cert ++ (t ++ codes "end\n"))) (sym (ap sections c.as_slice.ensures)) }) c.in_ok-put_digest.ensures.ok c.in_ok-put_total.ensures.ok c.in_ok-put_all.ensures.ok c.put.ensures.front
