-- Lists of the nodes that are ahead of a walk.
use Rattle.std.proofs.Common.{◌≡◌, ℕ, List, [], ◌∷◌, ◌++◌, refl, sym, ◌∙◌, ap, append_assoc, ◌⊎◌, inl, inr}
use Rattle.std.proofs.lemmas.List.{append-nil}
use Rattle.p10_base.specs.declared.span.Span.{Span}
use Rattle.p10_core.specs.declared.nodes.Node.{Node}
use Rattle.p10_core.specs.declared.nodes.Node.TheVariants as node
use Rattle.p10_core.specs.declared.typed.Library.{Library}
use Rattle.p10_core.specs.declared.typed.Value.{Value}
use Rattle.p10_core.specs.declared.typed.ValueForm.{ValueForm}
use Rattle.p10_core.specs.declared.typed.ValueForm.TheVariants.{Call, Builtin}
use Rattle.p10_core.specs.Nodes.{PlainNode, nodes_of, nodes_in, nodes_in_form, nodes_of_values}
use Rattle.p10_core.specs.Views.{plain_form, plain_values}
use Rattle.p10_core.specs.Walks.{plain_node, nodes_ahead}
use Rattle.p10_core.proofs.Lists.{plain_call, plain_built_in}

-- the last one is the next one
pub ahead_last : (xs : List Node) (n : Node) → nodes_ahead (xs ++ n ∷ []) ≡ nodes_of (plain_node n) ++ nodes_ahead xs
ahead_last [] n = sym (append-nil (nodes_of (plain_node n)))
ahead_last (x ∷ xs) n = ap (λ ys. ys ++ nodes_of (plain_node x)) (ahead_last xs n) ∙ append_assoc (nodes_of (plain_node n)) (nodes_ahead xs) (nodes_of (plain_node x))

-- the next node, with those in it
pub node_first : (n : Node) → nodes_of (plain_node n) ≡ plain_node n ∷ nodes_in (plain_node n)
node_first (node.Stmt s) = refl
node_first (node.Value v) = refl
node_first (node.Place p) = refl

-- a step of a walk: the last one is taken off, and what lies in it is put in its place
pub walks_on : (old xs : List Node) (n : Node) (after : List PlainNode) → old ≡ xs ++ n ∷ [] → after ≡ nodes_in (plain_node n) ++ nodes_ahead xs → nodes_ahead old ≡ plain_node n ∷ after
walks_on old xs n after p q =
    ap nodes_ahead p ∙ ahead_last xs n ∙ ap (λ ns. ns ++ nodes_ahead xs) (node_first n) ∙ ap (λ ns. plain_node n ∷ ns) (sym q)

-- the nodes in a call are those of its arguments
pub values_in : (form : ValueForm) (all : List Value) → ((s : Span) × (n : ℕ) × form ≡ Call s n all) ⊎ ((s : Span) × (f : Library) × form ≡ Builtin s f all) → nodes_of_values (plain_values all) ≡ nodes_in_form (plain_form form)
values_in form all (inl c) = sym (ap nodes_in_form (ap plain_form c.2 ∙ plain_call c.0 c.1 all))
values_in form all (inr c) = sym (ap nodes_in_form (ap plain_form c.2 ∙ plain_built_in c.0 c.1 all))
