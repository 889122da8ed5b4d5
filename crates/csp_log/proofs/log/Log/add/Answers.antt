use Rattle.std.proofs.Common.{ℕ, ◌+◌, ◌-◌, ◌*◌, ◌<◌, ◌≤◌, length, length-append, map, ap, ◌∙◌, refl, arith}
use Rattle.csp_base.specs.declared.limits.TheConstants.{MAX_FRAME}
use Rattle.csp_log.specs.declared.event.TheConstants.{MAX_EVENTS}
use Rattle.csp_log.specs.PlainLog.{PlainLog, entry_with}
use Rattle.csp_log.specs.Rows.{draft_of, entry_at}
use Rattle.csp_buffer.specs.Trails.{trace_of}
use Rattle.csp_log.proofs.Weighing.{surplus-push}
use Rattle.csp_log.proofs.Logged.{rows-push, lines-push, entries-push, told-push, room_left}
use Rattle.csp_log.proofs.log.Log.add.Goals as goal

-- a list with no more in it than one of its parts has its room for the others
roomy : (new_len old_len spare new_cap cap each : ℕ) → 0 < spare → new_len ≤ old_len + each → old_len + spare * each ≤ cap → cap ≤ new_cap → new_len + (spare - 1) * each ≤ new_cap
roomy new_len old_len spare new_cap cap each some grown room up =
    let left = room_left old_len each spare each cap some (omega arith) room in omega arith

pub invariant_of-self : goal.invariant_of-self
invariant_of-self c =
    let old = c.self.inside in
    let kept = c.self.invariant in
    let says = c.say-line.ensures.says in
    let some : 0 < old.spare = rw (← c.self.view_is) at c.requires.room in
    record {
      lines = rw c.push_reserved.ensures.items (lines-push old.rows.rows old.bytes.items old.events.items c.args.time _ _ _ _ _ _ _ old.lines.items says kept.lines);
      rows = rows-push old.rows.rows old.bytes.items old.events.items c.args.time _ _ _ _ _ _ _ says kept.rows;
      told = rw c.push_reserved.ensures.items (told-push old.rows.rows old.bytes.items old.events.items c.args.time _ _ _ _ _ _ _ old.lines.items says kept.rows kept.lines kept.told);
      line_room = let len = c.push_reserved.ensures.len in let capacity = c.push_reserved.ensures.capacity in let room = kept.line_room in omega (arith, some);
      row_room = let used = c.say-line.ensures.rows_room in let room = kept.row_room in omega (arith, some);
      byte_room = let grown = c.say-line.ensures.bytes_capacity in roomy _ _ old.spare _ _ MAX_FRAME some grown.1 kept.byte_room grown.0;
      event_room = let grown = c.say-line.ensures.events_capacity in roomy _ _ old.spare _ _ MAX_EVENTS some grown.1 kept.event_room grown.0;
      few = let added = ap length c.push_reserved.ensures.items ∙ length-append old.lines.items _ in let before = kept.few in omega (arith, some, added);
      weighed =
          let after = entries-push old.rows.rows old.bytes.items old.events.items c.args.time _ _ c.args.told.now _ _ _ _ old.lines.items says kept.rows kept.lines in
          let added = ap length c.push_reserved.ensures.items ∙ length-append old.lines.items _ in
          let one = c.surplus-surplus.ensures.weight c.args.carried.now (trace_of c.args.trail.now) refl in
          rw (added, c.push_reserved.ensures.items, after) (surplus-push (map (entry_at old.rows.rows old.bytes.items old.events.items) old.lines.items) (entry_with c.args.time (draft_of c.args.carried.now (trace_of c.args.trail.now) c.args.deed.now) c.args.told.now) (length old.lines.items) old.surplus c.surplus-surplus.result kept.weighed (ap (λ n. 1 + n) one));
      light = let added = ap length c.push_reserved.ensures.items ∙ length-append old.lines.items _ in let before = kept.light in let most = c.surplus-surplus.ensures.most in omega (arith, added, before, most);
      fewer = let added = ap length c.push_reserved.ensures.items ∙ length-append old.lines.items _ in let more = ap length says.rows_are ∙ length-append old.rows.rows says.rows_more in let before = kept.fewer in omega (arith, added, more, says.few);
    }

pub returns : goal.returns
returns c =
    let old = c.self.inside in
    let kept = c.self.invariant in
    rw (← c.self.view_is)
    (ap (λ es. let l : PlainLog = record { entries = es; spare = old.spare - 1 } in l)
    (rw c.push_reserved.ensures.items
    (entries-push old.rows.rows old.bytes.items old.events.items c.args.time _ _ c.args.told.now _ _ _ _ old.lines.items c.say-line.ensures.says kept.rows kept.lines)))
