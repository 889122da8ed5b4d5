-- The machine of a reliable connection only goes on: what a router's turns found of it earlier had delivered no more, and past its opening had the same peer.
use Rattle.std.proofs.Common.{◌≡◌, ℕ, ◌<◌, Option, Some, List, [], ◌∷◌, ◌++◌, refl, sym, ap, ◌∙◌, subst, arith}
use Rattle.std.specs.List.{AllByRecursion}
use Rattle.csp_base.specs.Seat.{seat}
use Rattle.csp_base.specs.declared.seat.Seat.{Seat}
use Rattle.csp_conn.specs.PlainConns.{slot_at}
use Rattle.csp_base.specs.declared.limits.TheConstants.{SLOTS}
use Rattle.csp_deck.specs.Runs.{IsRun, state_after}
use Rattle.csp_log.specs.declared.entry.Entry.{Entry}
use Rattle.csp_log.specs.Pictures.{Fits}
use Rattle.csp_log.specs.declared.shown.AnswerShown.{AnswerShown}
use Rattle.csp_ports.specs.PlainPorts.{PlainPorts, machine_at, terms_at}
use Rattle.csp_ports.specs.Steps.{timed as ports_timed}
use Rattle.csp_rdp.specs.Jobs.{job_of}
use Rattle.csp_rdp.specs.Machine.{PlainRdp}
use Rattle.csp_rdp.specs.declared.jobs.Job.{Job}
use Rattle.csp_route.specs.Routes.{Routes}
use Rattle.csp_stack.specs.Config.{opening_state}
use Rattle.csp_stack.specs.Router.{Facts, Leaving, State, at_rest, flows_of}
use Rattle.csp_stack.specs.Turn.{asked_at, until_answer, asks_at, plan_of, timed, told_at, turn_of}
use Rattle.csp_prefix.specs.Machines.{IsSender}
use Rattle.csp_prefix.specs.Ports.{IsReliableOn, now_at}
use Rattle.csp_prefix.specs.Routers.{ComesSo, IsRouterLog, opening_router, router_steps}
use Rattle.csp_prefix.specs.Slots.{GoesOn, Now, Numbering}
use Rattle.csp_prefix.proofs.Public.{sender-kept, used, Past, no_past, past_after, with_openings, known_aim, known_is_aim, known_stands, known_turns, told_since, AreFound, sender_not, IsAim, Stands, opening_stands, past, stands_timed}
use Rattle.csp_peers.proofs.MachineFollows.{Follows, IsHomed, IsPast, anywhere-kept, homed-steady, past-steady, steady-kept}
use Rattle.csp_peers.proofs.WindowFacts.{IsBefore}

-- ---- what holds at all times: each connection is such as one that sends, and is at home
abbrev HasHome : Facts → Numbering → Seat → Now → Type 0
HasHome f m s n = IsSender (flows_of f) m s n × IsHomed m s n.machine n.ordinal

home_aim : (f : Facts) (whole : Past) → IsAim (known_aim (HasHome f)) f whole
home_aim f whole =
    known_is_aim (HasHome f) f whole (steady-kept (flows_of f) (IsSender (flows_of f)) IsHomed homed-steady (sender-kept (flows_of f)))
    (λ m s n is e. sender_not n.machine.state (flows_of f) m s n is.0 e)

-- what holds from a time on at which a machine was found
abbrev IsAnywhere : Facts → Numbering → Seat → Now → Type 0
IsAnywhere f m s n = (home : ℕ → Seat × ℕ) × IsSender (flows_of f) (record { made = m.made; home = home }) s n

abbrev GoesOnFrom : Facts → PlainRdp → Numbering → Seat → Now → Type 0
GoesOnFrom f old m s n = IsAnywhere f m s n × IsPast f.apps old m s n.machine n.ordinal

past_aim : (f : Facts) (old : PlainRdp) (whole : Past) → IsAim (known_aim (GoesOnFrom f old)) f whole
past_aim f old whole =
    known_is_aim (GoesOnFrom f old) f whole (steady-kept (flows_of f) (IsAnywhere f) (IsPast f.apps old) (past-steady f.apps old) (anywhere-kept (flows_of f) (IsSender (flows_of f)) (sender-kept (flows_of f))))
    (λ m s n is e. sender_not n.machine.state (flows_of f) (record { made = m.made; home = is.0.0 }) s n is.0.1 e)

-- ---- what is on a slot

-- of a reliable connection that is there, what is known is known
known_there : (Is : Numbering → Seat → Now → Type 0) (f : Facts) (h : Past) (p : PlainPorts) (o : Option Leaving) (w : Stands (known_aim Is) f h p o) (s : Seat) → s.app < f.apps → s.slot < SLOTS → IsReliableOn p s → Is w.numbering s (now_at p w.books s)
known_there Is f h p o w s few low x =
    used Is w.numbering s (slot_at p.conns s) (terms_at p s) (now_at p w.books s) x.connection x.there x.reliable (w.good.slots s (subst (λ n. s.app < n) (sym w.apps) few) low)

-- all numbers that were made have the home that no slot is
abbrev marked : Facts → Numbering → Numbering
marked f m = record { made = m.made; home = λ n. (seat f.apps 0, 0) }

follows_itself : (m : Numbering) (s : Seat) (ordinal : ℕ) (r : PlainRdp) → IsHomed m s r ordinal → Follows r r
follows_itself m s ordinal r is = record { more = omega arith; peer = λ past. refl; early = λ e. (e, is.early e) }

-- two machines of one number are one
follows_home : (m : Numbering) (p : PlainPorts) (s t : Seat) (ordinal n : ℕ) → IsHomed m s (machine_at p s) ordinal → IsHomed m t (machine_at p t) n → (machine_at p t).nth ≡ (machine_at p s).nth → Follows (machine_at p s) (machine_at p t)
follows_home m p s t ordinal n is also same =
    let homes : ◌≡◌ {A = Seat × ℕ} (s, ordinal) (t, n) = sym is.home ∙ sym (ap m.home same) ∙ also.home in
    subst (λ x. Follows (machine_at p s) (machine_at p x)) (ap (λ x. x.0) homes) (follows_itself m s ordinal (machine_at p s) is)

-- from the time on at which the machine of a slot was found
from_found : (f : Facts) (h : Past) (p : PlainPorts) (o : Option Leaving) (w : Stands (known_aim (HasHome f)) f h p o) (s : Seat) → HasHome f w.numbering s (now_at p w.books s)
    → Stands (known_aim (GoesOnFrom f (machine_at p s))) f (told_since (marked f w.numbering) h) p o
from_found f h p o w s is =
    known_stands (HasHome f) (GoesOnFrom f (machine_at p s)) f h p o w (marked f w.numbering) refl
    (λ t few low also. (
      (w.numbering.home, also.0),
      record {
        made = also.1.made;
        follows = λ here home same. follows_home w.numbering p s t (terms_at p s).ordinal (terms_at p t).ordinal is.1 also.1 same;
      },
    ))

-- ---- later turns

-- what is known of the router, told from this numbering on
record StandsSince (Is : Numbering → Seat → Now → Type 0) (f : Facts) (m : Numbering) (p : PlainPorts) (o : Option Leaving) : Type 0 where
  tells : Past
  stands : Stands (known_aim Is) f tells p o
  since : tells.since ≡ m

-- at the end of a run a machine with the number of the old one is known to go on from it
read_found : (f : Facts) (old : PlainRdp) (m : Numbering) (p : PlainPorts) (o : Option Leaving) → StandsSince (GoesOnFrom f old) f (marked f m) p o → old.nth < m.made → (s : Seat) → s.app < f.apps → s.slot < SLOTS → IsReliableOn p s → IsBefore (machine_at p s) old
read_found f old m p o w made s few low on same =
    let g = subst (λ k. GoesOn k w.stands.numbering) w.since w.stands.tells.goes_on in
    let is = known_there (GoesOnFrom f old) f w.tells p o w.stands s few low on in
    let home : w.stands.numbering.home (machine_at p s).nth ≡ (seat f.apps 0, 0) = ap w.stands.numbering.home (sym same) ∙ g.same old.nth made in
    let follows = is.1.follows few home (sym same) in
    (follows.more, λ past. sym (follows.peer past))

module _ (Is : Numbering → Seat → Now → Type 0) (f : Facts) (is_aim : (whole : Past) → IsAim (known_aim Is) f whole) (m : Numbering) where
  since_timed : (s : State) (time : ℕ) → StandsSince Is f m s.ports s.out → StandsSince Is f m (timed s time).ports (timed s time).out
  since_timed s time w = record { tells = with_openings (ports_timed time s.ports).events w.tells; stands = stands_timed (known_aim Is) f w.tells (is_aim w.tells) w.tells s time w.stands; since = w.since }

  -- the rest of a turn, once the timers were tried
  since_told : (s : State) (time : ℕ) (a : AnswerShown) → Fits (asks_at f s time) a → ComesSo (asks_at f s time) a → StandsSince Is f m (timed s time).ports (timed s time).out
      → StandsSince Is f m (told_at f (asked_at f s time) time a).state.ports (told_at f (asked_at f s time) time a).state.out
  since_told s time a fits comes w =
      let t : State = timed s time in
      record {
        tells = past_after (asks_at f s time) a ((turn_of f (at_rest (until_answer f t time (plan_of f t time))) time (plan_of f t time)).told a).events w.tells;
        stands = known_turns Is f is_aim w.tells s time a fits comes w.stands;
        since = w.since;
      }

  since_run : (rest : List Entry) (e : Entry) (time : ℕ) (s : State) → IsRun router_steps time (record { facts = f; state = s }) (rest ++ e ∷ []) → AllByRecursion (λ (d : Entry). ComesSo d.op d.answer) (rest ++ e ∷ []) → StandsSince Is f m s.ports s.out
      → StandsSince Is f m (timed (state_after router_steps (record { facts = f; state = s }) rest).state e.time).ports (timed (state_after router_steps (record { facts = f; state = s }) rest).state e.time).out
  since_run [] e time s run comes w = since_timed s e.time w
  since_run (d ∷ rest) e time s run comes w =
      since_run rest e d.time (told_at f (asked_at f s d.time) d.time d.answer).state run.2 comes.1
      (since_told s d.time d.answer run.1.fits (subst (λ o. ComesSo o d.answer) run.1.op comes.0) (since_timed s d.time w))

-- ---- what was found at each turn

module _ (f : Facts) (seat : Seat) (few : seat.app < f.apps) (low : seat.slot < SLOTS) where
  -- the machine of a slot that owes something, from where it was found to the end
  begun_found : (m : Numbering) (p : PlainPorts) (o : Option Leaving) (w : StandsSince (HasHome f) f m p o) (s : Seat) (time : ℕ) (j : Job) → s.app < f.apps → s.slot < SLOTS → job_of time (machine_at p s) ≡ Some j
      → StandsSince (GoesOnFrom f (machine_at p s)) f (marked f w.stands.numbering) p o × ((machine_at p s).nth < w.stands.numbering.made)
  begun_found m p o w s time j here there owed =
      let known = (home_aim f w.tells).ports.owes w.stands.numbering w.tells.ends w.stands.books p s time j (subst (λ n. s.app < n) (sym w.stands.apps) here) there owed w.stands.good in
      (record { tells = told_since (marked f w.stands.numbering) w.tells; stands = from_found f w.tells p o w.stands s known.1; since = refl }, known.1.1.made)

  each_found : (rest : List Entry) (e : Entry) (m : Numbering) (time : ℕ) (s : State) → IsRun router_steps time (record { facts = f; state = s }) (rest ++ e ∷ []) → AllByRecursion (λ (d : Entry). ComesSo d.op d.answer) (rest ++ e ∷ []) → StandsSince (HasHome f) f m s.ports s.out
      → IsReliableOn (timed (state_after router_steps (record { facts = f; state = s }) rest).state e.time).ports seat
      → AreFound (IsBefore (machine_at (timed (state_after router_steps (record { facts = f; state = s }) rest).state e.time).ports seat)) f s (rest ++ e ∷ [])
  each_found [] e m time s run comes w on = (
    λ k j here there owed.
        let t : State = timed s e.time in
        let v = since_timed (HasHome f) f (home_aim f) m s e.time w in
        let begun = begun_found m t.ports t.out v k e.time j here there owed in
        read_found f (machine_at t.ports k) v.stands.numbering t.ports t.out begun.0 begun.1 seat few low on,
    tt,
  )
  each_found (d ∷ rest) e m time s run comes w on =
      let t : State = timed s d.time in
      let next : State = (told_at f (asked_at f s d.time) d.time d.answer).state in
      let last : State = timed (state_after router_steps (record { facts = f; state = next }) rest).state e.time in
      let v = since_timed (HasHome f) f (home_aim f) m s d.time w in
      let came : ComesSo (asks_at f s d.time) d.answer = subst (λ o. ComesSo o d.answer) run.1.op comes.0 in (
        λ k j here there owed.
            let old : PlainRdp = machine_at t.ports k in
            let begun = begun_found m t.ports t.out v k d.time j here there owed in
            let mark : Numbering = marked f v.stands.numbering in
            let told = since_told (GoesOnFrom f old) f (past_aim f old) mark s d.time d.answer run.1.fits came begun.0 in
            read_found f old v.stands.numbering last.ports last.out (since_run (GoesOnFrom f old) f (past_aim f old) mark rest e d.time next run.2 comes.1 told) begun.1 seat few low on,
        each_found rest e m d.time next run.2 comes.1 (since_told (HasHome f) f (home_aim f) m s d.time d.answer run.1.fits came v) on,
      )

-- what a router's turns found of the connection on this slot earlier had delivered no more than the last of them finds, and past its opening had the same peer
pub past_found : (f : Facts) (routes : Routes) (before : List Entry) (e : Entry) (seat : Seat) → IsRouterLog f routes (before ++ e ∷ []) → seat.app < f.apps → seat.slot < SLOTS
    → let s : State = (state_after router_steps (opening_router f routes) before).state in
    IsReliableOn (timed s e.time).ports seat
    → AreFound (IsBefore (machine_at (timed s e.time).ports seat)) f (opening_state f.apps routes) (before ++ e ∷ [])
past_found f routes before e seat log few low on =
    each_found f seat few low before e no_past.since 0 (opening_state f.apps routes) log.run log.comes
    (record { tells = no_past; stands = opening_stands (known_aim (HasHome f)) f [] (home_aim f (past [])) log.few; since = refl }) on
