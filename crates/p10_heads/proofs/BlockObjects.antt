-- Objects of static lifetime in blocks.
use Rattle.std.specs.Prelude.{◌≡◌, ℕ, List, ◌++◌, map, Vec}
use Rattle.std.specs.declared.alloc.Global.{Global}
use Rattle.std.proofs.Common.{◌∙◌, ap, sym}
use Rattle.p10_base.specs.declared.at.At.{At}
use Rattle.p10_syn.specs.declared.statement.Stmt.TheVariants as stmt
use Rattle.p10_syn.specs.declared.statement.Stmt.{Stmt}
use Rattle.p10_syn.specs.Trees.{statement_row}
use Rattle.p10_syn.specs.BuiltStatements.{statement_of}
use Rattle.p10_heads.specs.Heads.{Head, heads_in, heads_in_all}
use Rattle.p10_heads.proofs.ListRows.{block_is}

-- the heads in a block are put down
pub block_put : (root : ℕ) (s : Stmt) (at : At) (all : Vec Stmt Global) (items : List Stmt) (before after : List Head) → s ≡ stmt.Block at all → items ≡ all.items →
    after ≡ before ++ heads_in_all root (statement_row (map statement_of items)) → after ≡ before ++ heads_in root (statement_of s)
block_put root s at all items before after is listed put =
    put ∙ ap (λ xs. before ++ heads_in_all root (statement_row (map statement_of xs))) listed
    ∙ ap (λ t. before ++ heads_in root t) (sym (ap statement_of is ∙ block_is at all))
