use Rattle.p10_expand.proofs.Including.{push_text, push_none, push_some}
use Rattle.p10_expand.proofs.includes.push_include.Goals as goal

pub returns-in-Text : goal.returns-in-Text
returns-in-Text c = λ pieces named. push_text c.args.line.now c.in-Text.field-0 pieces _ c.in-Text.is named

pub returns-in-None : goal.returns-in-None
returns-in-None c = λ pieces named. push_none c.args.line.now c.in-Directive.words _ pieces _ c.in-Directive.is c.in_ok-include_of-in-Directive.ensures c.in-None.is named

pub returns-in_ok-push-in-Some : goal.returns-in_ok-push-in-Some
returns-in_ok-push-in-Some c =
    λ pieces named. push_some c.args.line.now c.in-Directive.words _ c.in-Some.include pieces c.args.includes.now.items _ c.in-Directive.is c.in_ok-include_of-in-Directive.ensures c.in-Some.is c.in_ok-push-in-Some.ensures.items named
