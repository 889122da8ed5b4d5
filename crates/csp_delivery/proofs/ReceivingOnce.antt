-- An interface on a bus puts no more packets of a transmission into its inbox than it popped first frames of it.
use Rattle.std.proofs.Common.{◌≡◌, ℕ, ◌+◌, ◌≤◌, Option, Some, None, List, [], ◌∷◌, count_by, filter_map, refl, sym, ap, ◌∙◌, subst, zero-add, arith}
use Rattle.std.proofs.lemmas.List.Elements.{filter_map-append}
use Rattle.std.specs.List.{cons_option}
use Rattle.csp_base.specs.declared.traces.Origin.{Origin}
use Rattle.csp_buffer.specs.Content.{Content}
use Rattle.csp_deck.specs.Runs.{IsRun}
use Rattle.csp_iface.specs.Asking.{asked, asks}
use Rattle.csp_iface.specs.PlainIface.{PlainIface}
use Rattle.csp_iface.specs.Telling.{tells}
use Rattle.csp_link.specs.Turns.{frame_in}
use Rattle.csp_log.specs.Moving.{moved_by, moved_in}
use Rattle.csp_log.specs.declared.entry.Entry.{Entry}
use Rattle.csp_log.specs.declared.frame.Frame.{Frame}
use Rattle.csp_log.specs.declared.places.LinkKind.TheVariants as link
use Rattle.csp_log.specs.declared.places.QueueId.TheVariants as queue
use Rattle.csp_party.specs.Any.{an_iface}
use Rattle.csp_record.specs.Passed.{put_in}
use Rattle.csp_topology.specs.Parties.{iface_opening, party_steps}
use Rattle.csp_consistent.specs.Reading.{got_by, gets}
use Rattle.csp_consistent.proofs.Public.{IsNamed, step_named}
use Rattle.csp_delivery.specs.Delivery.{is_first_of, names}
use Rattle.csp_delivery.proofs.ReceivingCounts.{count_append, count_cons}
use Rattle.csp_delivery.proofs.ReceivingFrames.{IsBus}
use Rattle.csp_delivery.proofs.ReceivingTurns.{IsPaid, came_there, held_by, accepted_of, put_there, step_paid}

-- the packets that entries put into an inbox
abbrev pub packets_put : List Entry → List Content
packets_put es = filter_map (λ e. put_in (moved_in e)) es

-- the frames that they popped from the `Rx` of this number
abbrev pub frames_got : ℕ → List Entry → List Frame
frames_got number es = filter_map frame_in (gets (queue.Rx number) es)

module _ (o : Origin) where
  -- how many packets name the transmission, and how many frames are its first
  abbrev pub packets_of : List Content → ℕ
  packets_of bs = count_by (λ b. names o b.trace) bs

  abbrev pub firsts_of : List Frame → ℕ
  firsts_of fs = count_by (is_first_of o) fs

  -- with one more entry
  put_more : (p : Option Content) (rest : List Content) → packets_of (cons_option p rest) ≡ accepted_of o p + packets_of rest
  put_more None rest = sym (zero-add (packets_of rest))
  put_more (Some b) rest = count_cons (λ k. names o k.trace) b rest

  got_more : (number : ℕ) (e : Entry) (es : List Entry) → firsts_of (frames_got number (e ∷ es)) ≡ came_there o (queue.Rx number) e.op e.answer + firsts_of (frames_got number es)
  got_more number e es =
      ap firsts_of (filter_map-append frame_in (got_by (queue.Rx number) e.op e.answer) (gets (queue.Rx number) es))
      ∙ count_append (is_first_of o) (filter_map frame_in (got_by (queue.Rx number) e.op e.answer)) (frames_got number es)

  run_few : (node number : ℕ) (es : List Entry) (time : ℕ) (s : PlainIface) → IsRun party_steps time (an_iface s) es → IsNamed node number s → IsBus s.receiver
      → packets_of (packets_put es) ≤ held_by o s + firsts_of (frames_got number es)
  run_few node number [] time s run named bus = omega arith
  run_few node number (e ∷ es) time s run named bus =
      let t : PlainIface = tells (asked s e.time) e.time e.answer in
      let paid : IsPaid o s t (put_there o (asks s e.time) e.answer) (came_there o (queue.Rx s.number) (asks s e.time) e.answer) = step_paid o s e.time e.answer bus in
      let few : put_there o e.op e.answer + held_by o t ≤ held_by o s + came_there o (queue.Rx number) e.op e.answer =
      subst (λ p. put_there o p e.answer + held_by o t ≤ held_by o s + came_there o (queue.Rx number) p e.answer) (sym run.1.op)
      (subst (λ n. put_there o (asks s e.time) e.answer + held_by o t ≤ held_by o s + came_there o (queue.Rx n) (asks s e.time) e.answer) named.1 paid.few) in
      let later : packets_of (packets_put es) ≤ held_by o t + firsts_of (frames_got number es) = run_few node number es e.time t run.2 (step_named node number s e.time e.answer named) paid.bus in
      let put : packets_of (packets_put (e ∷ es)) ≡ put_there o e.op e.answer + packets_of (packets_put es) = put_more (put_in (moved_by e.op e.answer)) (packets_put es) in
      let got : firsts_of (frames_got number (e ∷ es)) ≡ came_there o (queue.Rx number) e.op e.answer + firsts_of (frames_got number es) = got_more number e es in
      omega (arith, few, later, put, got)

-- of one interface's log, from its opening
pub accepts_once : (o : Origin) (node number mtu : ℕ) (heeds : Option ℕ) (es : List Entry) → IsRun party_steps 0 (an_iface (iface_opening node number link.Can mtu heeds)) es
    → count_by (λ b. names o b.trace) (filter_map (λ e. put_in (moved_in e)) es) ≤ count_by (is_first_of o) (filter_map frame_in (gets (queue.Rx number) es))
accepts_once o node number mtu heeds es run =
    subst (λ n. packets_of o (packets_put es) ≤ n) (zero-add (firsts_of o (frames_got number es))) (run_few o node number es 0 (iface_opening node number link.Can mtu heeds) run (refl, refl) tt)
