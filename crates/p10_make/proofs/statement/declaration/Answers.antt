use Rattle.std.proofs.Common.{◌∙◌, ap, List, map}
use Rattle.p10_syn.specs.Trees.{Bare, Specifiers, InitDeclarator, Declaration}
use Rattle.p10_syn.specs.Built.{bare_specifier_of}
use Rattle.p10_syn.specs.Trees.{specifier_row}
use Rattle.p10_syn.specs.Bare.{bare_init_declarators}
use Rattle.p10_syn.specs.BuiltStatements.{init_declarator_of, bare_declaration_of}
use Rattle.p10_make.proofs.Rows.{specifiers_row}
use Rattle.p10_make.proofs.StatementRows.{init_declarators_row}
use Rattle.p10_make.proofs.statement.declaration.Goals as goal

pub returns : goal.returns
unfolding bare_declaration_of
returns c =
    let make = λ (ss : Specifiers Bare) (ds : List (InitDeclarator Bare)). let d : Declaration Bare = record { place = tt; specifiers = ss; declarators = ds } in d in
    ap (λ ss. make ss (bare_init_declarators (map init_declarator_of c.args.declarators.items))) (specifiers_row c.args.specs.items)
    ∙ ap (make (specifier_row (map bare_specifier_of c.args.specs.items))) (init_declarators_row c.args.declarators.items)
