use Rattle.std.proofs.Common.{map, true, false, ap, sym, ◌∙◌}
use Rattle.std.specs.String.{string_bytes}
use Rattle.csp_words.specs.Grammar.{command_of}
use Rattle.csp_words.proofs.Rows.{of_sim, of_run, to_run, of_gen, to_gen, of_tap, to_tap, of_none, to_none}
use Rattle.csp_words.proofs.words.command.Goals as goal

pub returns-clause-sim : goal.returns-clause-sim
returns-clause-sim c = (λ e. of_sim (map string_bytes c.args.words.now) (sym c.named.ensures ∙ e), λ e. c.named.ensures ∙ ap command_of e)

pub returns-clause-run : goal.returns-clause-run
returns-clause-run c workers = (λ e. of_run workers (map string_bytes c.args.words.now) (sym c.named.ensures ∙ e), λ are. c.named.ensures ∙ to_run workers (map string_bytes c.args.words.now) are)

pub returns-clause-generated : goal.returns-clause-generated
returns-clause-generated c packets = (λ e. of_gen packets (map string_bytes c.args.words.now) (sym c.named.ensures ∙ e), λ are. c.named.ensures ∙ to_gen packets (map string_bytes c.args.words.now) are)

pub returns-clause-tap : goal.returns-clause-tap
returns-clause-tap c cover = (λ e. of_tap cover (map string_bytes c.args.words.now) (sym c.named.ensures ∙ e), λ e. c.named.ensures ∙ ap command_of e ∙ to_tap cover)

pub returns-clause-refused : goal.returns-clause-refused
returns-clause-refused c = (λ e. to_none (map string_bytes c.args.words.now) (sym c.named.ensures ∙ e), λ no. c.named.ensures ∙ of_none (map string_bytes c.args.words.now) no.0 no.1 no.2 (no.3 false) (no.3 true))
