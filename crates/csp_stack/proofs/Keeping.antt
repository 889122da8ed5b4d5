-- no buffer is lost and none is used twice: what a router holds, counted, and what the steps of its state keep
use Rattle.std.proofs.Common.{◌≡◌, ℕ, Bool, true, false, ◌+◌, ◌≤◌, List, [], ◌∷◌, ◌++◌, length, Option, Some, None, refl, ap, ◌∙◌, arith, length-append}
use Rattle.std.proofs.lemmas.List.{map-append}
use Rattle.csp_buffer.specs.Content.{Content}
use Rattle.csp_deck.proofs.Public.{times-append}
use Rattle.csp_deck.specs.Keeping.{numbers_of}
use Rattle.csp_deck.specs.Step.{times}
use Rattle.csp_log.specs.declared.event.Event.{Event}
use Rattle.csp_ports.specs.Counts.{AreFar}
use Rattle.csp_ports.specs.Held.{held}
use Rattle.csp_ports.specs.Keeps.{Keeps as PortsKeep, at_hand}
use Rattle.csp_ports.specs.PlainPorts.{PlainPorts}
use Rattle.csp_rdp.specs.Counts.{IsFar}
use Rattle.csp_rdp.specs.Machine.{PlainRdp}
use Rattle.csp_route.specs.Routes.{IsWithin}
use Rattle.csp_service.specs.Facts.{PlainFacts}
use Rattle.csp_service.specs.declared.stats.Stats.{Stats}
use Rattle.csp_stack.specs.Counting.{with_stats}
use Rattle.csp_stack.specs.Serving.{with_facts}
use Rattle.csp_conn.specs.declared.slot.Connection.{Connection}
use Rattle.csp_header.specs.declared.word.Header.{Header}
use Rattle.csp_ports.specs.declared.terms.Terms.{Terms}
use Rattle.csp_stack.specs.Readings.{is_checked}
use Rattle.csp_stack.specs.Rules.{addressed, header_for}
use Rattle.csp_stack.specs.Sending.{headed, protected}
use Rattle.csp_stack.specs.Keeps.{Keeps}
use Rattle.csp_stack.specs.Router.{Facts, Leaving, State, StateAt, holds, out_buffers}
use Rattle.csp_stack.specs.Told.{absorbed, kept, leaving, spent, unchanged}

-- a number is in two lists together as often as in each
pub times_append : (k : ℕ) (ns ms : List ℕ) → times k (ns ++ ms) ≡ times k ns + times k ms
times_append k ns ms = times-append k ns ms

pub times_both : (k : ℕ) (xs ys : List Content) → times k (numbers_of (xs ++ ys)) ≡ times k (numbers_of xs) + times k (numbers_of ys)
times_both k xs ys = ap (times k) (map-append (λ (b : Content). b.number) xs ys) ∙ times-append k (numbers_of xs) (numbers_of ys)

-- what is held is in the trash, is to go out, or is in the ports
pub holds_apart : (k : ℕ) (trash : List Content) (out : Option Leaving) (p : PlainPorts) → times k (numbers_of (trash ++ out_buffers out ++ held p))
    ≡ times k (numbers_of trash) + (times k (numbers_of (out_buffers out)) + times k (numbers_of (held p)))
holds_apart k trash out p =
    let first = times_both k (trash ++ out_buffers out) (held p) in
    let second = times_both k trash (out_buffers out) in
    omega (arith, first, second)

-- who counted no further than n counted no further than the next
far_on : (n : ℕ) (r : PlainRdp) → IsFar n r → IsFar (n + 1) r
far_on n r h = let a = h.admitted in let d = h.delivered in record { admitted = omega (arith, a); delivered = omega (arith, d) }

pub far_later : (n : ℕ) (p : PlainPorts) → AreFar n p → AreFar (n + 1) p
far_later n p h = let made = h.made in record {
  machines = λ k d lt. far_on n _ (h.machines k d lt);
  made = omega (arith, made);
  ends = λ k d lt. let one = h.ends k d lt in omega (arith, one);
}

-- of a packet nothing comes but a report
pub spent_keeps : (ifaces : ℕ) (s : State) (e : Event) (b : Content) → Keeps ifaces s (spent s e b).state (b.number ∷ [])
spent_keeps ifaces s e b = record {
  numbers = λ k.
      let old = holds_apart k s.trash s.out s.ports in
      let new = holds_apart k (s.trash ++ b ∷ []) s.out s.ports in
      let more = times_both k s.trash (b ∷ []) in
      omega (arith, old, new, more);
  room = let more = length-append s.trash (b ∷ []) in omega (arith, more);
  within = λ w. w;
  far = λ n h. far_later n s.ports h;
  apps = refl;
  doing = refl;
  early = refl;
}

pub absorbed_keeps : (ifaces : ℕ) (s : State) (b : Content) → Keeps ifaces s (absorbed b (unchanged s)).state (b.number ∷ [])
absorbed_keeps ifaces s b = record {
  numbers = λ k.
      let old = holds_apart k s.trash s.out s.ports in
      let new = holds_apart k (s.trash ++ b ∷ []) s.out s.ports in
      let more = times_both k s.trash (b ∷ []) in
      omega (arith, old, new, more);
  room = let more = length-append s.trash (b ∷ []) in omega (arith, more);
  within = λ w. w;
  far = λ n h. far_later n s.ports h;
  apps = refl;
  doing = refl;
  early = refl;
}

-- nothing comes of it
pub unchanged_keeps : (ifaces : ℕ) (s : State) → Keeps ifaces s s []
unchanged_keeps ifaces s = record {
  numbers = λ k. omega arith;
  room = omega arith;
  within = λ w. w;
  far = λ n h. far_later n s.ports h;
  apps = refl;
  doing = refl;
  early = refl;
}

-- a packet is to go out
pub leaving_keeps : (ifaces : ℕ) (s : State) (o : Leaving) → s.out ≡ None → Keeps ifaces s (leaving s o).state (o.buffer.number ∷ [])
leaving_keeps ifaces s o none = record {
  numbers = λ k.
      let old = holds_apart k s.trash s.out s.ports in
      let new = holds_apart k s.trash (Some o) s.ports in
      let empty = ap (λ (out : Option Leaving). times k (numbers_of (out_buffers out))) none in
      omega (arith, old, new, empty);
  room = omega arith;
  within = λ w. w;
  far = λ n h. far_later n s.ports h;
  apps = refl;
  doing = refl;
  early = refl;
}

-- a buffer is the first of the trash again
pub kept_keeps : (ifaces : ℕ) (s : State) (b : Content) → Keeps ifaces s (kept s b).state (b.number ∷ [])
kept_keeps ifaces s b = record {
  numbers = λ k.
      let old = holds_apart k s.trash s.out s.ports in
      let new = holds_apart k (b ∷ s.trash) s.out s.ports in
      let more = times_both k (b ∷ []) s.trash in
      omega (arith, old, new, more);
  room = omega arith;
  within = λ w. w;
  far = λ n h. far_later n s.ports h;
  apps = refl;
  doing = refl;
  early = refl;
}

-- the timers are tried
pub timed_holds : (seen inside : StateAt) (p : PlainPorts) (after : List Content) (early : List Event) → inside ≡ seen → PortsKeep 0 (at_hand inside.state.ports inside.state.trash) (at_hand p after) [] →
    (k : ℕ) → times k (holds (record inside.state { ports = p; trash = after; early = early })) ≡ times k (holds seen.state)
timed_holds seen inside p after early same h k =
    let s = inside.state in
    let old = holds_apart k s.trash s.out s.ports in
    let new = holds_apart k after s.out p in
    let step = h.numbers k in
    let kept : times k (holds (record s { ports = p; trash = after; early = early })) ≡ times k (holds s) = omega (arith, old, new, step) in
    kept ∙ ap (λ (x : StateAt). times k (holds x.state)) same

-- who counted no further than n and nothing more
pub far_same : (n : ℕ) (p : PlainPorts) → AreFar (n + 0) p → AreFar n p
far_same n p x = let made = x.made in record {
  machines = λ k d lt. let r = x.machines k d lt in let a = r.admitted in let c = r.delivered in record { admitted = omega (arith, a); delivered = omega (arith, c) };
  made = omega (arith, made);
  ends = λ k d lt. let e = x.ends k d lt in omega (arith, e);
}

-- the ports make a step that counts one further at most, and let go what joins the trash
pub ported_keeps : (ifaces more : ℕ) (s : State) (p : PlainPorts) (after : List Content) (came : List ℕ) → more ≤ 1 → length came ≤ 1 → p.conns.apps ≡ s.ports.conns.apps →
    PortsKeep more (at_hand s.ports s.trash) (at_hand p after) came → Keeps ifaces s (record s { ports = p; trash = after }) came
ported_keeps ifaces more s p after came few one apps h = record {
  numbers = λ k.
      let old = holds_apart k s.trash s.out s.ports in
      let new = holds_apart k after s.out p in
      let step = h.numbers k in
      omega (arith, old, new, step);
  room = let size = h.size in omega (arith, size, one);
  within = λ w. w;
  far = λ n far. far_of more few n (h.far n far);
  apps = apps;
  doing = refl;
  early = refl;
}
  where
    far_of : (m : ℕ) → m ≤ 1 → (n : ℕ) → AreFar (n + m) p → AreFar (n + 1) p
    far_of m few n x = let made = x.made in record {
      machines = λ k d lt. let r = x.machines k d lt in let a = r.admitted in let c = r.delivered in record { admitted = omega (arith, a, few); delivered = omega (arith, c, few) };
      made = omega (arith, made, few);
      ends = λ k d lt. let e = x.ends k d lt in omega (arith, e, few);
    }

-- the ports alone make a step
pub ported_alone : (ifaces more : ℕ) (s : State) (p : PlainPorts) (came : List ℕ) → more ≤ 1 → length came ≤ 1 → p.conns.apps ≡ s.ports.conns.apps →
    PortsKeep more (at_hand s.ports []) (at_hand p []) came → Keeps ifaces s (record s { ports = p }) came
ported_alone ifaces more s p came few one apps h =
    let beside : PortsKeep more (at_hand s.ports s.trash) (at_hand p s.trash) came = record { numbers = λ k. let step = h.numbers k in omega (arith, step); size = let size = h.size in omega (arith, size); far = h.far } in
    ported_keeps ifaces more s p s.trash came few one apps beside

pub ported_seen : (seen inside : StateAt) (ifaces more : ℕ) (p : PlainPorts) (came : List ℕ) → inside ≡ seen → more ≤ 1 → length came ≤ 1 → p.conns.apps ≡ inside.state.ports.conns.apps →
    PortsKeep more (at_hand inside.state.ports []) (at_hand p []) came → Keeps ifaces seen.state (record inside.state { ports = p }) came
ported_seen seen inside ifaces more p came same few one apps h = rw (← same) (ported_alone ifaces more inside.state p came few one apps h)

-- what was counted comes before another step
pub after_counts : (ifaces : ℕ) (s t : State) (stats : List Stats) (came : List ℕ) → Keeps ifaces (with_stats s stats) t came → Keeps ifaces s t came
after_counts ifaces s t stats came k = record { numbers = k.numbers; room = k.room; within = k.within; far = k.far; apps = k.apps; doing = k.doing; early = k.early }

-- and a packet joins the trash besides
pub absorbing_keeps : (ifaces more : ℕ) (s : State) (p : PlainPorts) (after : List Content) (b : Content) → more ≤ 1 → p.conns.apps ≡ s.ports.conns.apps →
    PortsKeep more (at_hand s.ports s.trash) (at_hand p after) [] → Keeps ifaces s (record s { ports = p; trash = after ++ b ∷ [] }) (b.number ∷ [])
absorbing_keeps ifaces more s p after b few apps h =
    let k = ported_keeps ifaces more s p after [] few (omega arith) apps h in
    record {
      numbers = λ n.
          let old = holds_apart n after s.out p in
          let new = holds_apart n (after ++ b ∷ []) s.out p in
          let one = times_both n after (b ∷ []) in
          let step = k.numbers n in
          omega (arith, old, new, one, step);
      room = let size = h.size in let one = length-append after (b ∷ []) in omega (arith, size, one);
      within = λ w. w;
      far = k.far;
      apps = apps;
      doing = refl;
      early = refl;
    }

-- a step of the ports that lets nothing go, and counts no further, comes before another step
pub after_ports : (ifaces : ℕ) (s t : State) (p : PlainPorts) (came : List ℕ) → p.conns.apps ≡ s.ports.conns.apps → PortsKeep 0 (at_hand s.ports []) (at_hand p []) [] →
    Keeps ifaces (record s { ports = p }) t came → Keeps ifaces s t came
after_ports ifaces s t p came apps h k = record {
  numbers = λ n.
      let old = holds_apart n s.trash s.out s.ports in
      let new = holds_apart n s.trash s.out p in
      let first = h.numbers n in
      let second = k.numbers n in
      omega (arith, old, new, first, second);
  room = let size = h.size in let room = k.room in omega (arith, size, room);
  within = k.within;
  far = λ n far. k.far n (far_same n p (h.far n far));
  apps = k.apps ∙ apps;
  doing = k.doing;
  early = k.early;
}

-- where nothing came of it before, what comes of it now came of the state as it was
pub stayed : (old new : StateAt) (t : State) (n : ℕ) (came : List ℕ) → new ≡ old → Keeps n new.state t came → Keeps n old.state t came
stayed old new t n came same k = rw (← same) k

-- what services changed comes before another step
pub after_services : (ifaces : ℕ) (s t : State) (facts : PlainFacts) (came : List ℕ) → (IsWithin ifaces s.routes → IsWithin ifaces facts.routes) →
    Keeps ifaces (with_facts s facts) t came → Keeps ifaces s t came
after_services ifaces s t facts came within k = record { numbers = k.numbers; room = k.room; within = λ w. k.within (within w); far = k.far; apps = k.apps; doing = k.doing; early = k.early }

-- a packet keeps its number when it gets a checksum and a header
protected_number : (checked : Bool) (b : Content) → (protected checked b).number ≡ b.number
protected_number true b = refl
protected_number false b = refl

pub headed_number : (h : Header) (b : Content) → (headed h b).number ≡ b.number
headed_number h b = protected_number (is_checked h) b

pub addressed_number : (f : Facts) (c : Connection) (t : Terms) (b : Content) → (addressed f c t b).number ≡ b.number
addressed_number f c t b = headed_number (header_for f c t) b
