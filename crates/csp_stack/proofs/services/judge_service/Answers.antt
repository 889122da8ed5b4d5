use Rattle.std.proofs.Common.{length, sym, ap, ◌∙◌, Some}
use Rattle.csp_stack.proofs.services.judge_service.Goals as goal

pub returns-in-Some-Ping-clause-sendable : goal.returns-in-Some-Ping-clause-sendable
returns-in-Some-Ping-clause-sendable c = c.echo.ensures.sendable

pub returns-in-Some-Ping-clause-keeps : goal.returns-in-Some-Ping-clause-keeps
returns-in-Some-Ping-clause-keeps c = c.echo.ensures.keeps

pub returns-in-Some-clause-told : goal.returns-in-Some-clause-told
returns-in-Some-clause-told c = c.ask_service.ensures.told

pub returns-in-Some-clause-sendable : goal.returns-in-Some-clause-sendable
returns-in-Some-clause-sendable c = c.ask_service.ensures.sendable

pub returns-in-Some-clause-keeps : goal.returns-in-Some-clause-keeps
returns-in-Some-clause-keeps c = c.ask_service.ensures.keeps

pub returns-in-None-clause-keeps : goal.returns-in-None-clause-keeps
returns-in-None-clause-keeps c = rw (← c.into_buffer.ensures) (c.discard.ensures.keeps (length c.args.facts.now.ifaces))

pub returns-in-Some-Ping-clause-told : goal.returns-in-Some-Ping-clause-told
returns-in-Some-Ping-clause-told c = rw (sym c.service.ensures ∙ c.in-Some-Ping.is ∙ ap Some c.in-Some-Ping.field-0-is) c.echo.ensures.told

pub returns-in-None-clause-told : goal.returns-in-None-clause-told
returns-in-None-clause-told c = rw (sym c.service.ensures ∙ c.in-None.is, ← c.into_buffer.ensures) c.discard.ensures.told
