use Rattle.std.proofs.Common.{rules, tests}
use Rattle.std.proofs.lemmas.Iterator.{YieldsList-from_slice}
use Rattle.std.proofs.lemmas.Iterator.Search.{find_from_yields_List}
use Rattle.csp_record.specs.Record.{PlainPartyLog}
use Rattle.csp_log.specs.Who.{is_who}
use Rattle.csp_report.proofs.parties.party_at.Goals as goal

pub returns : goal.returns
returns c = find_from_yields_List (λ (party : PlainPartyLog). is_who c.args.who party.who) _ _ _ c.find.ensures.ran (YieldsList-from_slice c.args.parties.now cc) (λ x b q k. search (rules, tests))
