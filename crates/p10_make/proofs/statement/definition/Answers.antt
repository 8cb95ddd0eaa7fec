use Rattle.std.proofs.Common.{◌∙◌, ap, map}
use Rattle.p10_syn.specs.Trees.{Bare, Specifiers, Statements, External, Defines, specifier_row, statement_row}
use Rattle.p10_syn.specs.Bare.{no_landmarks, bare_statements}
use Rattle.p10_syn.specs.Built.{bare_specifier_of, bare_declarator_of}
use Rattle.p10_syn.specs.BuiltStatements.{statement_of, bare_external_of}
use Rattle.p10_make.proofs.Rows.{specifiers_row}
use Rattle.p10_make.proofs.StatementRows.{statements_row}
use Rattle.p10_make.proofs.statement.definition.Goals as goal

pub returns : goal.returns
unfolding bare_external_of bare_declarator_of
returns c =
    let make = λ (ss : Specifiers Bare) (body : Statements Bare). let e : External Bare = Defines (record { place = tt; landmarks = no_landmarks; specifiers = ss; declarator = bare_declarator_of c.args.declarator; body_place = tt; body = body }) in e in
    ap (λ ss. make ss (bare_statements (statement_row (map statement_of c.args.body.items)))) (specifiers_row c.args.specs.items)
    ∙ ap (make (specifier_row (map bare_specifier_of c.args.specs.items))) (statements_row c.args.body.items)
