-- Walks and what they reach.
use Rattle.std.proofs.Common.{ℕ, zero, suc, List, refl, sym, subst}
use Rattle.p10_graph.specs.Graphs.{Edge, Reaches, Walk}

pub reaches_itself : (g : List (List ℕ)) (u : ℕ) → Reaches g u u
reaches_itself g u = record { edges = 0; walk = refl }

pub reaches_next : (g : List (List ℕ)) (u v : ℕ) → Edge g u v → Reaches g u v
reaches_next g u v e = record { edges = 1; walk = (v, e, refl) }

-- a walk goes on by another
longer : (g : List (List ℕ)) (n : ℕ) (u v w : ℕ) → Walk g n u v → Reaches g v w → Reaches g u w
longer g zero u v w e r = subst (λ (x : ℕ). Reaches g x w) (sym e) r
longer g (suc n) u v w h r =
    let rest = longer g n h.0 v w h.2 r in record { edges = suc rest.edges; walk = (h.0, h.1, rest.walk) }

pub reaches_on : (g : List (List ℕ)) (u v w : ℕ) → Reaches g u v → Reaches g v w → Reaches g u w
reaches_on g u v w first second = longer g first.edges u v w first.walk second
