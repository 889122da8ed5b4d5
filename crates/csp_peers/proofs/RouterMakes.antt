-- What a router makes of its own: a packet of the reliable transport has a tag, which names the node and an index that its flow has come to; it shows
-- the node's address, and is for an address below a bound.
use Rattle.std.proofs.Common.{◌≡◌, ◌≢◌, ℕ, ◌+◌, ◌<◌, ◌≤◌, Bool, true, false, Option, None, Some, List, [], ◌∷◌, length, refl, sym, ap, ◌∙◌, subst, arith, length-append}
use Rattle.std.specs.Prelude.{⊤, IfSome, cond, find, map, not}
use Rattle.std.proofs.lemmas.Bool.{eqb-true}
use Rattle.std.specs.List.{range_with_len}
use Rattle.std.specs.Option.{unwrap_or}
use Rattle.std.proofs.lemmas.Nat.{and_le_r}
use Rattle.csp_base.specs.Seat.{seat}
use Rattle.csp_base.specs.declared.seat.Seat.{Seat}
use Rattle.csp_base.specs.declared.traces.Tag.{Tag}
use Rattle.csp_buffer.specs.Content.{Content}
use Rattle.csp_conn.specs.Circle.{circle_after, port_after}
use Rattle.csp_conn.specs.Opening.{is_taken, own_port_of}
use Rattle.csp_conn.specs.PlainConns.{PlainConns, slot_at}
use Rattle.csp_conn.specs.declared.circle.TheConstants.{OWN_PORTS}
use Rattle.csp_conn.specs.declared.slot.Connection.{Connection}
use Rattle.csp_conn.specs.declared.slot.Slot.TheVariants as has
use Rattle.csp_header.proofs.Public.{header_at-word_of}
use Rattle.csp_header.specs.Word.{IsInRange, header_at, word_of}
use Rattle.csp_header.specs.declared.word.Header.{Header}
use Rattle.csp_log.specs.declared.entry.Entry.{Entry}
use Rattle.csp_log.specs.declared.places.TheConstants.{UNMARKED}
use Rattle.csp_log.specs.declared.shown.ItemShown.TheVariants as item
use Rattle.csp_log.specs.declared.note.Note.TheVariants as note
use Rattle.csp_ports.specs.PlainPorts.{PlainPorts, machine_at, terms_at}
use Rattle.csp_ports.specs.Tasks.{made_in}
use Rattle.csp_ports.specs.declared.request.Request.{Request}
use Rattle.csp_rdp.specs.Jobs.{Says, job_of, says, tag_for}
use Rattle.csp_rdp.specs.Machine.{PlainRdp}
use Rattle.csp_rdp.specs.declared.jobs.Job.{Job}
use Rattle.csp_record.specs.Payloads.{sent}
use Rattle.csp_record.specs.declared.connections.Opening.{Opening}
use Rattle.csp_ports.specs.Asking.{is_reliable}
use Rattle.csp_stack.specs.Readings.{broadcast, is_checked}
use Rattle.csp_stack.specs.Router.{Facts, flows_of}
use Rattle.csp_stack.specs.Rules.{addressed, answer_flags, connection_of, header_for}
use Rattle.csp_prefix.specs.Machines.{IsOver}
use Rattle.csp_prefix.specs.Ports.{Books, IsAskedSo, connection_in, now_at}
use Rattle.csp_prefix.specs.Prefix.{IsBeginning}
use Rattle.csp_prefix.specs.Routers.{IsFlowOf}
use Rattle.csp_prefix.specs.Slots.{Book, Now, Numbering}
use Rattle.csp_prefix.proofs.Public.{sends-over, ports_kept, Past, Tells, opening_on, protected_trace, opening_flow, sender_not, Aim, IsAim, IsPart, past, past_sent}
use Rattle.csp_peers.specs.Nearness.{IsAddressable, IsMaker, addressable}
use Rattle.csp_peers.specs.Unforged.{ComesWell}
use Rattle.csp_peers.proofs.SenderBounds.{maker-kept, maker-says}

-- a packet that was made on a connection of the node
pub record IsMade (f : Facts) (top bound : ℕ) (b : Content) (t : Tag) : Type 0 where
  pub src : (header_at b.header).src ≡ f.addr
  pub dst : (header_at b.header).dst < top
  pub node : t.node ≡ f.node
  pub index : t.index ≤ bound

-- a packet of the node's own: one of the reliable transport has a tag, and one with a tag was made so
pub record IsOwn (f : Facts) (top bound : ℕ) (b : Content) : Type 0 where
  pub tagged : is_reliable (header_at b.header).flags.0 ≡ true → (t : Tag) × (b.trace.tag ≡ Some t)
  pub made : (t : Tag) → b.trace.tag ≡ Some t → IsMade f top bound b t

-- fewer packets were sent on each flow of a log
abbrev pub AreShort : ℕ → List Entry → Type 0
AreShort bound es = (app nth : ℕ) (x : Opening) → IsFlowOf es app nth x → length (sent (seat app x.slot) x.ordinal es) + 1 ≤ bound

-- an address that fits into a header, and is not that of broadcast, is below a bound
abbrev pub AllowsOne : ℕ → Type 0
AllowsOne top = (dest : ℕ) → dest < 32 → dest ≢ broadcast → dest < top

-- a packet that was heard, if it is of the reliable transport, came from an address below a bound
abbrev pub IsFromBelow : ℕ → Content → Type 0
IsFromBelow top b = is_reliable (header_at b.header).flags.0 ≡ true → (header_at b.header).src < top

-- ---- own ports
found_low : (p : ℕ → Bool) (last : ℕ) (steps : List ℕ) (own : ℕ) → find p (map (port_after last) steps) ≡ Some own → own < 64
found_low p last [] own e = absurd cc
found_low p last (k ∷ ks) own e =
    by (p (port_after last k)) (found_low p last ks own) e
  where
    by : (c : Bool) → (find p (map (port_after last) ks) ≡ Some own → own < 64) → cond c (Some (port_after last k)) (find p (map (port_after last) ks)) ≡ Some own → own < 64
    by true rest f = let same : port_after last k ≡ own = ap (λ o. unwrap_or o 0) f in omega (arith, same)
    by false rest f = rest f

own_low : (c : PlainConns) (dest : ℕ) (from : Option ℕ) (own : ℕ) → IfSome from (λ port. port < 64) → own_port_of c dest from ≡ Some own → own < 64
unfolding circle_after
own_low c dest (Some port) own low e = let same : port ≡ own = ap (λ o. unwrap_or o 0) e in omega (arith, low, same)
own_low c dest None own low e = found_low (λ port. not (is_taken c dest port)) c.last (range_with_len 1 OWN_PORTS) own e

-- ---- what was sent on a connection of the node is no more than its flow has
beginning_short : {X : Type 0} (xs ys : List X) (bound : ℕ) → IsBeginning xs ys → length ys + 1 ≤ bound → length xs + 1 ≤ bound
beginning_short xs ys bound b few = let l = length-append xs b.rest in let same = ap length b.whole in omega (arith, few, l, same)

module _ (f : Facts) (es : List Entry) (top bound : ℕ) (some : 1 ≤ bound) (short : AreShort bound es) where
  pub book_short : (Over : Numbering → ℕ → Opening → List (List ℕ) → Type 0) (h : Past) (m : Numbering) (books : Books) (s : Seat) (n : Now) → IsPart h (past es) → Tells Over f.apps m h books → n.book ≡ books s
      → IsMaker top (flows_of f) m s n → length n.book.sent + 1 ≤ bound
  book_short Over h m books s n part tells same is =
      by n.machine.was_open (sends-over (flows_of f) m s n.machine.state n is.0) refl
    where
      by : (was : Bool) → IsOver m s n → n.machine.was_open ≡ was → length n.book.sent + 1 ≤ bound
      by false over e = let none = ap (λ (b : Book). length b.sent) (over.1 e).book in omega (arith, some, none)
      by true over e =
          let opened : (books s).opened ≡ Some (Some n.machine.nth, n.machine.peer) = ap (λ (b : Book). b.opened) (sym same) ∙ (over.0 e).opened in
          let x : Opening = opening_on s (h.ends s) (Some n.machine.nth, n.machine.peer) in
          let flow = opening_flow es h s.app n.machine.nth x part (tells.back s (Some n.machine.nth, n.machine.peer) opened) refl in
          let told : n.book.sent ≡ h.sent s (h.ends s) = ap (λ (b : Book). b.sent) same ∙ tells.sent s in
          subst (λ xs. length xs + 1 ≤ bound) (sym told)
          (beginning_short (h.sent s (h.ends s)) ((past es).sent s (h.ends s)) bound (part.sent s (h.ends s))
          (subst (λ xs. length xs + 1 ≤ bound) (sym (past_sent es s (h.ends s))) (short s.app n.machine.nth x flow)))

-- ---- the header of a packet that is made
in_range : (f : Facts) (c : Connection) (p : PlainPorts) (s : Seat) (top : ℕ) → f.addr < 32 → top ≤ 32 → IsAddressable top c (terms_at p s).flags → IsInRange (header_for f c (terms_at p s))
in_range f c p s top low few is = record {
  src = low;
  dst = let one = is.peer in omega (arith, few, one);
  dport = is.peer_port;
  sport = is.own_port;
  flags = is.flags;
}

module _ (f : Facts) (es : List Entry) (top bound : ℕ) (low : f.addr < 32) (few : top ≤ 32) (some : 1 ≤ bound) (short : AreShort bound es) where
  makes_own : (Over : Numbering → ℕ → Opening → List (List ℕ) → Type 0) (h : Past) (m : Numbering) (books : Books) (p : PlainPorts) (seat : Seat) (time : ℕ) (j : Job) (b : Content) (c : Connection) → IsPart h (past es) → Tells Over f.apps m h books
      → slot_at p.conns seat ≡ has.Open c → IsMaker top (flows_of f) m seat (now_at p books seat) → job_of time (machine_at p seat) ≡ Some j
      → IsOwn f top bound (addressed f c (terms_at p seat) (made_in j time seat b p))
  makes_own Over h m books p seat time j b c part tells there is job =
      let r : PlainRdp = machine_at p seat in
      let s : Says = says j time r in
      let x : Content = made_in j time seat b p in
      let hdr : Header = header_for f c (terms_at p seat) in
      let traced = ap (λ t. t.tag) (protected_trace (is_checked hdr) x) in
      let with_whom : IsAddressable top c (terms_at p seat).flags = subst (λ o. IsAddressable top (connection_in o) (terms_at p seat).flags) there is.1.addressable in
      let head : header_at (word_of hdr) ≡ hdr = header_at-word_of hdr (in_range f c p seat top low few with_whom) in
      let far = book_short f es top bound some short Over h m books seat (now_at p books seat) part tells refl is in
      let index = (maker-says top (flows_of f) m seat (now_at p books seat) time j is job).index in
      let admitted = is.1.admitted in
      record {
        tagged = λ e. (tag_for s r, traced);
        made = λ tag e.
            let tags : ◌≡◌ {A = Option Tag} (Some (tag_for s r)) (Some tag) = sym traced ∙ e in
            let tag_is : tag_for s r ≡ tag = ap (λ (o : Option Tag). unwrap_or o (tag_for s r)) tags in
            subst (λ t. IsMade f top bound (addressed f c (terms_at p seat) x) t) tag_is (record {
              src = ap (λ (k : Header). k.src) head;
              dst = let same = ap (λ (k : Header). k.dst) head in let one = with_whom.peer in omega (arith, same, one);
              node = is.1.node;
              index = omega (arith, index, admitted, far);
            });
      }

-- ---- what is to be known of a node's connections, and of its packets
abbrev pub maker_aim : Facts → (top bound : ℕ) → (Content → Type 0) → Aim
maker_aim f top bound hears = record {
  is = IsMaker top (flows_of f);
  coming = addressable top;
  over = λ m app x down. ⊤;
  good = IsOwn f top bound;
  hears = hears;
  comes = ComesWell;
  fresh = λ e. ⊤;
  at = λ r. ⊤;
}

-- a packet without a tag that is not of the reliable transport is a node's own, whatever it is
pub own_plain : (f : Facts) (top bound : ℕ) (b : Content) → b.trace.tag ≡ None → is_reliable (header_at b.header).flags.0 ≡ false → IsOwn f top bound b
own_plain f top bound b none plain = record {
  tagged = λ e. absurd (let both : false ≡ true = sym plain ∙ e in cc);
  made = λ t e. absurd (let both : ◌≡◌ {A = Option Tag} None (Some t) = sym none ∙ e in cc);
}

-- the connection of a packet that was heard
pub heard_addressable : (top : ℕ) (b : Content) → IsFromBelow top b → is_reliable (header_at b.header).flags.0 ≡ true → IsAddressable top (connection_of (header_at b.header)) (answer_flags (header_at b.header))
heard_addressable top b from reliable = record {
  peer = from reliable;
  peer_port = omega arith;
  own_port = omega arith;
  flags = let small = and_le_r (header_at b.header).flags.0 3 in omega (arith, small);
}

-- and one that an application asks for
pub asked_addressable : (top : ℕ) (p : PlainPorts) (r : Request) → AllowsOne top → ComesWell (item.Note (note.Connect r.seat.slot r.dest r.port r.prio r.flags r.from)) → IsAskedSo (addressable top) p r
asked_addressable top p r allows comes reliable own chosen = record {
  peer = allows r.dest comes.0 (comes.3 reliable);
  peer_port = comes.1;
  own_port = own_low p.conns r.dest r.from own comes.4 chosen;
  flags = comes.2;
}

pub maker_is_aim : (f : Facts) (es : List Entry) (top bound : ℕ) (hears : Content → Type 0) → f.addr < 32 → top ≤ 32 → AllowsOne top → 1 ≤ bound → AreShort bound es → ((b : Content) → hears b → IsFromBelow top b) → IsAim (maker_aim f top bound hears) f (past es)
maker_is_aim f es top bound hears low few allows some short from = record {
  ports = ports_kept (flows_of f) (addressable top) (IsMaker top (flows_of f)) (maker-kept top (flows_of f));
  ended = λ m s n how is e. tt;
  plain = λ m s ordinal down. tt;
  grows = λ m m' app x down on over. tt;
  never_plain = λ m s n is e. sender_not n.machine.state (flows_of f) m s n is.0 e;
  unmarked = λ mark b e none comes. own_plain f top bound b none (comes (eqb-true mark UNMARKED e));
  unreliable = λ b none plain. own_plain f top bound b none plain;
  wishes = λ p r comes. asked_addressable top p r allows comes;
  makes = λ h m books p s time j b c part tells o there is found job. makes_own f es top bound low few some short _ h m books p s time j b c part tells there is job;
  feeds = λ b payload r read heard known fresh. tt;
  asks = λ b payload read heard known syn. heard_addressable top b (from b heard) known.reliable;
}
