use Rattle.std.proofs.Common.{◌≡◌, ◌∙◌, sym, Bool, true, false, ◌&&◌, refl}
use Rattle.csp_buffer.specs.Trails.{trace_of}
use Rattle.csp_log.proofs.Logged.{says-alone, no-items}
use Rattle.csp_log.proofs.log.say.Goals as goal

first : (a b : Bool) → (a && b) ≡ true → a ≡ true
first true b e = refl
first false b e = cc

pub returns-in-Some-clause-says : goal.returns-in-Some-clause-says
returns-in-Some-clause-says c =
    says-alone c.args.rows.now.rows c.args.bytes.now.items c.args.events.now.items c.args.time c.args.carried.now (trace_of c.args.trail.now) _ c.args.deed.now c.in-Some.line c.args.told.now (rw c.spoken.ensures at c.in-Some.is)
    (λ e. no-items c.args.told.now (sym (first _ _ e) ∙ c.is_empty.ensures))
