-- What is found in a call, by what the walk finds in its parts.
use Rattle.std.specs.Prelude.{◌≡◌, ℕ, Option, List, map, length}
use Rattle.std.proofs.Common.{ap, sym, ◌∙◌}
use Rattle.p10_base.specs.declared.at.At.{At}
use Rattle.p10_syn.specs.declared.tree.Expr.{Expr}
use Rattle.p10_syn.specs.Trees.{Identifier, expression_row}
use Rattle.p10_syn.specs.Built.{expression_of}
use Rattle.p10_core.specs.declared.typed.Library.{Library}
use Rattle.p10_elabx.specs.declared.allocations.Site.{Site}
use Rattle.p10_elabx.specs.First.{Judged, only_first}
use Rattle.p10_elabx.specs.Scopes.{PlainScope, Meaning, named}
use Rattle.p10_elabx.specs.Operands.{PlainOperand}
use Rattle.p10_elabx.specs.Calls.{Callee, Wanted, Listed, of_library, callee_of, wants_of, wanted_of, no_arguments, call_judged, operand_call}
use Rattle.p10_elabx.specs.Judging.{count_of, judge_arguments}
use Rattle.p10_elabx.specs.private.Walking.{named_call, memory_call}
use Rattle.p10_elabx.proofs.TreeRows.{count_row}

-- what is found in arguments of which something is asked
abbrev asked : PlainScope → List Expr → List Wanted → Listed
asked s all w = judge_arguments only_first s w 0 no_arguments (expression_row (map expression_of all))

-- a call by its callee and the number of its arguments
abbrev called : PlainScope → At → At → List Expr → Callee → ℕ → Judged PlainOperand
called s at name_at all c n = call_judged only_first at name_at c n (asked s all (wanted_of (wants_of c) n))

called_is : (s : PlainScope) (at name_at : At) (all : List Expr) (c : Callee) (n : ℕ) (w : List Wanted) (k : Listed) (j : Judged PlainOperand) →
    n ≡ length all → w ≡ wanted_of (wants_of c) n → k ≡ asked s all w → j ≡ call_judged only_first at name_at c n k →
    j ≡ called s at name_at all c (count_of (expression_row (map expression_of all)))
called_is s at name_at all c n w k j en ew ek ej =
    ej ∙ ap (call_judged only_first at name_at c n) (ek ∙ ap (asked s all) ew)
    ∙ ap (called s at name_at all c) (en ∙ sym (count_row all))

-- a call of a name where an operand is needed
pub named_is : (s : PlainScope) (at : At) (f : Identifier At) (all : List Expr) (what : Option Meaning) (c : Callee) (n : ℕ) (w : List Wanted) (k : Listed) (j r : Judged PlainOperand) →
    what ≡ named s f.name → c ≡ callee_of what f.name → n ≡ length all → w ≡ wanted_of (wants_of c) n → k ≡ asked s all w →
    j ≡ call_judged only_first at f.place c n k → r ≡ operand_call only_first at c j →
    r ≡ named_call only_first s at f (expression_row (map expression_of all))
named_is s at f all what c n w k j r eo ec en ew ek ej er =
    er ∙ ap (operand_call only_first at c) (called_is s at f.place all c n w k j en ew ek ej)
    ∙ ap (λ x. operand_call only_first at x (called s at f.place all x (count_of (expression_row (map expression_of all))))) (ec ∙ ap (λ x. callee_of x f.name) eo)

-- a call of a library function for memory
pub memory_is : (s : PlainScope) (site : Site) (f : Library) (all : List Expr) (n : ℕ) (w : List Wanted) (k : Listed) (j : Judged PlainOperand) →
    n ≡ length all → w ≡ wanted_of (wants_of (of_library f)) n → k ≡ asked s all w → j ≡ call_judged only_first site.call_at site.name_at (of_library f) n k →
    j ≡ memory_call only_first s site f (expression_row (map expression_of all))
memory_is s site f all n w k j en ew ek ej = called_is s site.call_at site.name_at all (of_library f) n w k j en ew ek ej
