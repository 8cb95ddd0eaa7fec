-- Statements, items and switches step by step, as the code goes.
use Rattle.std.specs.Prelude.{Bool, Option, Some, None, List, []}
use Rattle.p10_base.specs.declared.at.At.{At}
use Rattle.p10_syn.specs.Trees.{Optional, Declaration, Statement, Block, Declare, Pragma, Statements}
use Rattle.p10_core.specs.Typed.{PlainValue, PlainStatement, mark}
use Rattle.p10_elabx.specs.First.{Keep}
use Rattle.p10_elabd.specs.declared.site.Site.TheVariants as site_is
use Rattle.p10_elabs.specs.declared.kind.Kind.{Kind}
use Rattle.p10_elabs.specs.declared.kind.Kind.TheVariants as item
use Rattle.p10_elabs.specs.declared.round.Round.{Round}
use Rattle.p10_elabs.specs.Locals.{Frame, Local, Done, opened, closed}
use Rattle.p10_elabs.specs.LocalDeclarations.{Declaring, declared_locally}
use Rattle.p10_elabs.specs.Expressions.{optional_clause, optional_test}
use Rattle.p10_elabs.specs.Marks.{mark_of}
use Rattle.p10_elabs.specs.Statements.{inside_switch, among_labels, kind_of, Block', items_added, with_declared, with_statement, pragma_done, Labelled, Switched, nothing_switched, with_labels, start_done, part_ended, block_of, done, switched_done}

-- ## Items

-- an item that is neither a declaration nor a pragma, after others
abbrev pub kept_item : Keep → Frame → Round → Kind → Block' → Statement At → Block'
kept_item h f r kind b s = with_statement b kind (done h f r b.after s)

-- an item after others
abbrev pub item_done : Keep → Frame → Bool → Round → Block' → Statement At → Block'
item_done h f in_main r b (Declare d) = with_declared b (declared_locally h f site_is.InBlock b.after d)
item_done h f in_main r b (Pragma at text) = with_statement b (item.Mark (mark_of text) at) (pragma_done h in_main at (mark (mark_of text)) b.after)
item_done h f in_main r b s = kept_item h f r (kind_of h b.after s) b s

-- ## The clauses of a `for`

-- the declarations that begin a `for`
abbrev pub declared_start : Keep → Frame → Local → Declaration At → Done (List PlainStatement)
declared_start h f l d =
    let p : Declaring = declared_locally h f site_is.InFor l d in
    record { made = items_added (Some []) p.items; after = p.after }

-- what they make, where they aren't refused, and what the body has then
pub record ForClauses : Type 0 where
  pub first : Option (List PlainStatement)
  pub test : Option (Option PlainValue)
  pub third : Option (List PlainStatement)
  pub after : Local

-- the clauses of a `for`, in order
abbrev pub clauses_done : Keep → Frame → Local → Statement At → Optional At → Optional At → ForClauses
clauses_done h f l start test step =
    let a : Done (List PlainStatement) = start_done h f l start in
    let v : Done (Option PlainValue) = optional_test h a.after test in
    let c : Done (List PlainStatement) = optional_clause h v.after step in
    record { first = a.made; test = v.made; third = c.made; after = c.after }

-- ## The body of a `switch`

-- its labels, what it makes where it isn't refused, and what the function's body has then
pub record SwitchBody : Type 0 where
  pub labels : Labelled
  pub made : Option PlainStatement
  pub after : Local

-- an item of its block, with the labels before it
abbrev pub switched_item : Keep → Frame → Round → Option PlainValue → Switched → Statement At → Switched
switched_item h f r v w s =
    let k : Labelled = with_labels h v w s in
    record { items = with_statement w.items item.Other (done h f r k.after s); labels = k }

-- a body that isn't a block
abbrev pub plain_body : Keep → Frame → Round → Local → Statement At → SwitchBody
plain_body h f r l s =
    let d : Done PlainStatement = part_ended (done h f (inside_switch r) (opened l) s) in
    record { labels = record { cases = Some []; otherwise = None; after = d.after }; made = d.made; after = d.after }

-- a body that is a block
abbrev pub block_body : Keep → Frame → Round → Local → Option PlainValue → At → Statements At → SwitchBody
block_body h f r l v place ss =
    let w : Switched = switched_done h f (among_labels r) v (nothing_switched (opened l)) ss in
    record { labels = w.labels; made = block_of place w.items.made; after = closed w.items.after }

-- a body
abbrev pub body_done : Keep → Frame → Round → Local → Option PlainValue → Statement At → SwitchBody
body_done h f r l v (Block place ss) = block_body h f r l v place ss
body_done h f r l v s = plain_body h f r l s

-- what stands after the last item is what the function's body has after the labels too
abbrev pub settled : Switched → Switched
settled w = record w { labels = record w.labels { after = w.items.after } }

abbrev pub settled_body : SwitchBody → SwitchBody
settled_body b = record b { labels = record b.labels { after = b.after } }
