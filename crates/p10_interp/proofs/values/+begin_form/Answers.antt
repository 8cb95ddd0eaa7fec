-- Each form takes a step in its first act.
use Rattle.std.proofs.Common.{◌∙◌, sym, ap, ◌∷◌, Some}
use Rattle.p10_core.specs.declared.typed.Place.{Place}
use Rattle.p10_core.specs.Types.{plain_type}
use Rattle.p10_core.specs.Typed.{read, address, decay}
use Rattle.p10_core.specs.Views.{plain_program, plain_form, plain_place}
use Rattle.p10_meaning.specs.declared.pointers.Scalar.TheVariants.{Int}
use Rattle.p10_meaning.specs.States.{step, and_then}
use Rattle.p10_meaning.specs.Values.{sensed}
use Rattle.p10_interp.specs.private.Tasks.{evaluated}
use Rattle.p10_interp.specs.private.Views.{tasks_in}
use Rattle.p10_interp.specs.private.Machines.{state_of}
use Rattle.p10_interp.specs.private.Acts.{goes_on}
use Rattle.p10_interp.proofs.Begun.{begun_by, answers_in}
use Rattle.p10_interp.proofs.values.+begin_form.Goals as goal

pub returns-in-Const : goal.returns-in-Const
returns-in-Const t c = λ io f calls e.
    begun_by (plain_program c.args.p.now) c.args.value.now.at (plain_type c.args.value.now.ty) _ _ _ _ _ _ _ _ _ _ (ap plain_form c.in-Const.is)
    (answers_in (λ calls. step (state_of c.args.outside.now io) (λ w. goes_on (tasks_in c.args.stacks.now.tasks) (evaluated (Some (Int c.in-Const.number)) ∷ c.args.stacks.now.operands) calls w)) _ _ _ _ _ e (c.begin_constant.ensures io _ _))

pub returns-in-Sense : goal.returns-in-Sense
returns-in-Sense t c = λ io f calls e.
    begun_by (plain_program c.args.p.now) c.args.value.now.at (plain_type c.args.value.now.ty) _ _ _ _ _ _ _ _ _ _ (ap plain_form c.in-Sense.is)
    (answers_in (λ calls. step (state_of c.args.outside.now io) (λ w. and_then (sensed (plain_type c.args.value.now.ty) w) (λ x w. goes_on (tasks_in c.args.stacks.now.tasks) (evaluated (Some x) ∷ c.args.stacks.now.operands) calls w))) _ _ _ _ _ e (c.sense.ensures io _ _))

pub returns-in-Read : goal.returns-in-Read
returns-in-Read t c = λ io f calls e.
    begun_by (plain_program c.args.p.now) c.args.value.now.at (plain_type c.args.value.now.ty) _ _ _ _ _ _ _ _ _ _ (ap plain_form c.in-Read.is ∙ ap (λ (q : Place). read (plain_place q)) (sym c.deref-in-Read.ensures)) (c.begin_read.ensures io f calls e)

pub returns-in-Addr : goal.returns-in-Addr
returns-in-Addr t c = λ io f calls e.
    begun_by (plain_program c.args.p.now) c.args.value.now.at (plain_type c.args.value.now.ty) _ _ _ _ _ _ _ _ _ _ (ap plain_form c.in-Addr.is ∙ ap (λ (q : Place). address (plain_place q)) (sym c.deref-in-Addr.ensures)) (c.pay_and_seek.ensures io f calls e)

pub returns-in-Decay : goal.returns-in-Decay
returns-in-Decay t c = λ io f calls e.
    begun_by (plain_program c.args.p.now) c.args.value.now.at (plain_type c.args.value.now.ty) _ _ _ _ _ _ _ _ _ _ (ap plain_form c.in-Decay.is ∙ ap (λ (q : Place). decay (plain_place q)) (sym c.deref-in-Decay.ensures)) (c.begin_decay.ensures io f calls e)
