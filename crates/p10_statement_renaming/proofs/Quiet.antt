-- What holds of both bodies where no row holds: step by step.
use Rattle.std.proofs.Common.{◌≡◌, ℕ, ◌+◌, Bool, true, false, List, [], ◌∷◌, None, ap, subst}
use Rattle.std.specs.Prelude.{if◌then◌else◌}
use Rattle.p10_base.specs.declared.at.At.{At}
use Rattle.p10_base.specs.declared.codes.SubsetCode.{SubsetCode}
use Rattle.p10_core.specs.Typed.{PlainStatementForm}
use Rattle.p10_elabx.specs.declared.problem.Problem.{Problem}
use Rattle.p10_elabx.specs.First.{Keep, joined}
use Rattle.p10_elabd.specs.Standing.{PlainStanding}
use Rattle.p10_elabs.specs.Locals.{Local, Done, with_standing, refusing_in, opened, closed}
use Rattle.p10_elabs.specs.Statements.{made_at, with_loop}
use Rattle.p10_renaming.specs.Renaming.{Pairing, SameStatement, same_statement, SameStatementForm}
use Rattle.p10_expression_renaming.proofs.Finding.{IsTold, joined_right}
use Rattle.p10_declaration_renaming.specs.Standings.{Both, AreQuiet, Leads}
use Rattle.p10_declaration_renaming.proofs.Scopes.{entered_same, left_same}
use Rattle.p10_statement_renaming.specs.Bodies.{SameLocal, LocalLeads}

-- where nothing is refused up to here, something holds, and both bodies have the same
abbrev pub Quiet : Pairing → ℕ → Type 0 → Local → Local → Type 0
Quiet R last B l k = AreQuiet last l.standing k.standing → B × SameLocal R last l k

-- so it is with what a part makes
abbrev pub Makes' : {A : Type 0} → Pairing → ℕ → Type 0 → (A → A → Type 0) → Done A → Done A → Type 0
Makes' R last B P d g = Quiet R last (B × Both P d.made g.made) d.after g.after

-- ## Steps

pub begun : (R : Pairing) (last : ℕ) (l k : Local) → (AreQuiet last l.standing k.standing → SameLocal R last l k) → Quiet R last (AreQuiet last l.standing k.standing) l k
begun R last l k a quiet = (quiet, a quiet)

-- what follows from what holds
pub so : {B C : Type 0} (R : Pairing) (last : ℕ) (l k : Local) → (B → C) → Quiet R last B l k → Quiet R last C l k
so R last l k go a quiet = (go (a quiet).0, (a quiet).1)

-- what both bodies have is the same
pub also_loops : {B : Type 0} (R : Pairing) (last : ℕ) (l k : Local) → Quiet R last B l k → Quiet R last (B × (l.loops ≡ k.loops)) l k
also_loops R last l k a quiet = (((a quiet).0, (a quiet).1.loops), (a quiet).1)

-- a part more
pub then_on : {B C : Type 0} (R : Pairing) (last : ℕ) (l k m n : Local) → Quiet R last B l k → LocalLeads R last C l k m n → Quiet R last (B × C) m n
then_on R last l k m n a step quiet =
    let r = step (λ q. (a q).1) quiet in
    (((a r.0).0, r.1.0), r.1.1)

-- a part that stands in the body
pub stands : {B C : Type 0} (R : Pairing) (last : ℕ) (l k : Local) (u v : PlainStanding) → Quiet R last B l k → Leads R last C l.standing k.standing u v → Quiet R last (B × C) (with_standing l u) (with_standing k v)
stands R last l k u v a step quiet =
    let r = step (λ q. (a q).1.standing) quiet in
    let b = a r.0 in
    ((b.0, r.1.0), record { standing = r.1.1; count = b.1.count; variables = b.1.variables; loops = b.1.loops })

-- the whole of parts, from their start
pub whole : {B C : Type 0} (R : Pairing) (last : ℕ) (l k m n : Local) → (Quiet R last (AreQuiet last l.standing k.standing) l k → Quiet R last B m n) → (B → AreQuiet last l.standing k.standing × C) → LocalLeads R last C l k m n
whole R last l k m n parts go a quiet =
    let b = parts (begun R last l k a) quiet in
    ((go b.0).0, ((go b.0).1, b.1))

pub opened_both : {B : Type 0} (R : Pairing) (last : ℕ) (l k : Local) → Quiet R last B l k → Quiet R last B (opened l) (opened k)
opened_both R last l k a quiet =
    let b = a (record { left = quiet.left; right = quiet.right; few = quiet.few }) in
    (b.0, record { standing = entered_same R last l.standing.scope k.standing.scope b.1.standing; count = b.1.count; variables = b.1.variables; loops = b.1.loops })

pub closed_both : {B : Type 0} (R : Pairing) (last : ℕ) (l k : Local) → Quiet R last B l k → Quiet R last B (closed l) (closed k)
closed_both R last l k a quiet =
    let b = a (record { left = quiet.left; right = quiet.right; few = quiet.few }) in
    (b.0, record { standing = left_same R last l.standing.scope k.standing.scope b.1.standing; count = b.1.count; variables = b.1.variables; loops = b.1.loops })

pub looped : {B : Type 0} (R : Pairing) (last : ℕ) (l k : Local) → Quiet R last B l k → Quiet R last B (with_loop l) (with_loop k)
looped R last l k a quiet =
    let b = a quiet in
    (b.0, record { standing = b.1.standing; count = b.1.count; variables = b.1.variables; loops = ap (λ n. n + 1) b.1.loops })

-- ## Rows

-- a row that holds is a problem
pub unquiet : (h : Keep) (rs : List Problem) (r : Problem) → joined h rs (r ∷ []) ≡ [] → ⊥
unquiet h rs r e = subst IsTold e (joined_right h rs (r ∷ []) tt)

-- where a row holds on one side, nothing need be said
pub refused_here : {C : Type 0} (last : ℕ) (h : Keep) (code : SubsetCode) (at : At) (l : Local) (t : PlainStanding) → AreQuiet last (refusing_in h true code at l).standing t → C
refused_here last h code at l t quiet = absurd (unquiet h l.standing.problems (record { code = code; at = at }) quiet.left)

pub refused_there : {C : Type 0} (last : ℕ) (h : Keep) (code : SubsetCode) (at : At) (s : PlainStanding) (k : Local) → AreQuiet last s (refusing_in h true code at k).standing → C
refused_there last h code at s k quiet = absurd (unquiet h k.standing.problems (record { code = code; at = at }) quiet.right)

-- a form as a statement where no row holds
pub unless_refused : {B : Type 0} (R : Pairing) (last : ℕ) (h : Keep) (b c : Bool) (code : SubsetCode) (at to : At) (f g : PlainStatementForm) (l k : Local) → SameStatementForm R f g → Quiet R last B l k
    → Makes' R last B (SameStatement R) (if b then made_at at f l else record { made = None; after = refusing_in h true code at l }) (if c then made_at to g k else record { made = None; after = refusing_in h true code to k })
unless_refused R last h true true code at to f g l k same a = so R last l k (λ b. (b, same_statement same)) a
unless_refused R last h true false code at to f g l k same a = λ quiet. refused_there last h code to l.standing k quiet
unless_refused R last h false true code at to f g l k same a = λ quiet. refused_here last h code at l k.standing quiet
unless_refused R last h false false code at to f g l k same a = λ quiet. refused_here last h code at l (refusing_in h true code to k).standing quiet
