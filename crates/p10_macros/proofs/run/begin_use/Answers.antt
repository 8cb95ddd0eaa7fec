use Rattle.std.proofs.Common.{◌≡◌, ℕ, List, Option, Bor, Vec, Global, sym, ap, ◌∙◌, subst}
use Rattle.std.specs.Prelude.{option_map, length}
use Rattle.std.proofs.lemmas.List.{length-map}
use Rattle.p10_macros.specs.private.KnownMacros.{plain_known}
use Rattle.p10_macros.specs.declared.replaced.ReplaceFault.{ReplaceFault}
use Rattle.p10_base.specs.Words.{Text}
use Rattle.p10_macros.specs.declared.pending.Traced.{Traced}
use Rattle.p10_macros.specs.Table.{Table}
use Rattle.p10_macros.specs.private.Standing.{FaultComes, IsReplacedIn, IsTooLong, AtUse, AtCall, State}
use Rattle.p10_macros.proofs.Beginnings.{use_recursive, use_object, use_object_too_long, at_call}
use Rattle.p10_macros.proofs.Results.{on_ok_so, if_err_so}
use Rattle.p10_macros.proofs.Putting.{texts_at}
use Rattle.p10_macros.specs.private.Traces.{lists_of}
use Rattle.p10_macros.proofs.run.begin_use.Goals as goal
use Rattle.p10_macros.proofs.run.begin_use.Goals.{After-begin_call}

pub returns-then-has-clause-err : goal.returns-then-has-clause-err
returns-then-has-clause-err c = λ table state at.
    subst (λ (f : ReplaceFault). FaultComes table state f) (sym c.refused.ensures)
    (use_recursive table c.args.run.now (plain_known c.args.known.now) c.args.name state at
    (sym c.has.ensures ∙ c.if-has.true))

pub returns-in-None-clause-ok : goal.returns-in-None-clause-ok
returns-in-None-clause-ok c =
    on_ok_so c.replace_use.result c.replace_use.ensures.ok (λ replaced. λ table state at.
    use_object table c.args.run.now (plain_known c.args.known.now) c.args.name state at (ap (λ (o : Option (List (Bor Text))). option_map texts_at o) c.in-None.is)
    (sym c.has.ensures ∙ c.if-has.false) c.replace_use.new.run
    (subst (λ (l : List (Vec Traced Global)). IsReplacedIn c.args.run.now c.replace_use.new.run (plain_known c.args.known.now) c.args.name (lists_of l)) c.new.ensures.items replaced))

pub returns-in-None-clause-err : goal.returns-in-None-clause-err
returns-in-None-clause-err c =
    if_err_so c.replace_use.result c.replace_use.ensures.err (λ f short. λ table state at.
    use_object_too_long table c.args.run.now (plain_known c.args.known.now) c.args.name state at (ap (λ (o : Option (List (Bor Text))). option_map texts_at o) c.in-None.is)
    (sym c.has.ensures ∙ c.if-has.false) f
    (subst (λ (l : List (Vec Traced Global)). IsTooLong c.args.run.now (plain_known c.args.known.now) c.args.name (lists_of l) f) c.new.ensures.items short))

-- the use of a function-like macro is at its call
call_of : (c : After-begin_call) (table : Table) (state : State) → AtUse table c.args.run.now (plain_known c.args.known.now) c.args.name state →
    AtCall table (record c.args.run.now { pending = c.skip-exits.new.self }) (plain_known c.args.known.now) (length c.as_slice-count.result.now) c.args.name state
call_of c table state at =
    let count : length (texts_at c.in-Some.params) ≡ length c.as_slice-count.result.now = length-map c.in-Some.params (λ (text : Bor Text). text.now) ∙ ap length (sym c.as_slice-count.ensures) in
    subst (λ (n : ℕ). AtCall table (record c.args.run.now { pending = c.skip-exits.new.self }) (plain_known c.args.known.now) n c.args.name state) count
    (at_call table c.args.run.now (plain_known c.args.known.now) c.args.name state at (texts_at c.in-Some.params) (ap (λ (o : Option (List (Bor Text))). option_map texts_at o) c.in-Some.is)
    (sym c.has.ensures ∙ c.if-has.false)
    c.skip-exits.new.self c.skip-exits.ensures.taken)

pub returns-in-Some-clause-ok : goal.returns-in-Some-clause-ok
returns-in-Some-clause-ok c = on_ok_so c.begin_call.result c.begin_call.ensures.ok (λ leads. λ table state at. leads table state (call_of c table state at))

pub returns-in-Some-clause-err : goal.returns-in-Some-clause-err
returns-in-Some-clause-err c = if_err_so c.begin_call.result c.begin_call.ensures.err (λ f comes. λ table state at. comes table state (call_of c table state at))
