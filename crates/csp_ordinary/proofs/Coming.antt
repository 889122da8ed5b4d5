-- What comes to an interface whose link does no harm: frames of the other ends' transmissions, as they were sent or with a flip that shows.
use Rattle.std.proofs.Common.{◌≡◌, ◌≢◌, ◌⊎◌, inl, inr, ℕ, zero, suc, ◌*◌, ◌/◌, ◌%◌, ◌<◌, ◌≤◌, ◌^◌, Bool, true, false, Option, None, Some, List, [], ◌∷◌, length, map, bit_xor, filter_map, slice_get, unwrap_or, refl, sym, ap, ◌∙◌, subst, arith}
use Rattle.std.proofs.Math.Seq.{set_out}
use Rattle.std.proofs.lemmas.Bool.{cases_lt}
use Rattle.std.specs.Prelude.{slice_index}
use Rattle.csp_base.specs.declared.limits.TheConstants.{MAX_PAYLOAD}
use Rattle.csp_base.specs.declared.traces.Origin.{Origin}
use Rattle.csp_base.specs.declared.traces.Trace.{Trace}
use Rattle.csp_buffer.specs.Content.{Content}
use Rattle.csp_can.specs.Fragments.{fragments_of}
use Rattle.csp_can.specs.Frames.{frame_of, written}
use Rattle.csp_can.specs.Identifiers.{identifier_of}
use Rattle.csp_can.specs.Rules.{arrival}
use Rattle.csp_can.specs.declared.frames.CanFrame.{CanFrame}
use Rattle.csp_iface.specs.Receiving.{arrived}
use Rattle.csp_iface.specs.Sending.{can_frame, frames_of, kiss_frame, next_node, sent_trace}
use Rattle.csp_iface.specs.declared.sender.TheConstants.{IDS}
use Rattle.csp_kiss.specs.Frame.{frame}
use Rattle.csp_link.specs.Copies.{damaged}
use Rattle.csp_link.specs.Copies as copies
use Rattle.csp_log.specs.declared.entry.Entry.{Entry}
use Rattle.csp_log.specs.declared.frame.Frame.{Frame}
use Rattle.csp_log.specs.declared.places.End.{End}
use Rattle.csp_log.specs.declared.places.LinkKind.{LinkKind}
use Rattle.csp_log.specs.declared.places.LinkKind.TheVariants as link
use Rattle.csp_noticed.specs.Flipping.{flipped}
use Rattle.csp_noticed.specs.Plain.{FlipsPlain}
use Rattle.csp_record.specs.Record.{PlainRecord}
use Rattle.csp_record.specs.Transmissions.{shown_in, transmission}
use Rattle.csp_log.specs.declared.who.Who.TheVariants as who
use Rattle.csp_scene.specs.Scene.{PlainLink}
use Rattle.csp_consistent.specs.Addressed.{addressed_in}
use Rattle.csp_consistent.specs.Reading.{entries_of}
use Rattle.csp_consistent.proofs.Public.{entries_alike, IsSentIn}
use Rattle.csp_ordinary.specs.AsSent.{IsAsSent}
use Rattle.csp_ordinary.specs.Harmless.{HasNoBit, IsHarmless}
use Rattle.csp_ordinary.specs.Ordinary.{transmissions}
use Rattle.csp_ordinary.specs.Words.{HasWords}
use Rattle.csp_ordinary.proofs.Buses.{IsCanOf, IsPieceSent}
use Rattle.csp_ordinary.proofs.Fragments.{IsPiece, piece_read}
use Rattle.csp_ordinary.proofs.Streams.{IsFlippedIn, IsKissOf}
use Rattle.csp_ordinary.proofs.Headers.{word_of}

-- a frame that came from an end but this one, by the kind of the link
abbrev pub IsComeTo : PlainRecord → PlainLink → (at mtu : ℕ) → LinkKind → Frame → Type 0
IsComeTo r l at mtu link.Kiss = IsKissOf (IsAsSent r) false mtu
IsComeTo r l at mtu link.KissHeader = IsKissOf (IsAsSent r) true mtu
IsComeTo r l at mtu link.Can = IsCanOf r l at

-- what an end shows of its transmissions: each has a serial below their number, and goes next to a node with an address
pub record ShowsWithin (r : PlainRecord) (from : End) : Type 0 where
  pub below : (n : ℕ) (b : Content) → slice_get (filter_map (shown_in n) (entries_of r (who.Iface from.node from.iface))) 0 ≡ Some b → n < transmissions (entries_of r (who.Iface from.node from.iface))
  pub low : (n to : ℕ) → slice_get (filter_map (addressed_in n) (entries_of r (who.Iface from.node from.iface))) 0 ≡ Some to → to < 32

-- ---- lists

mapped : {X Y : Type 0} (f : X → Y) (xs : List X) (k : ℕ) (y : Y) → slice_get (map f xs) k ≡ Some y → (x : X) × (slice_get xs k ≡ Some x) × (f x ≡ y)
mapped f [] k y e = absurd cc
mapped f (x ∷ xs) zero y e = (x, refl, ap (λ o. unwrap_or o (f x)) e)
mapped f (x ∷ xs) (suc k) y e = mapped f xs k y e

only_one : {X : Type 0} (x : X) (k : ℕ) (y : X) → slice_get (x ∷ []) k ≡ Some y → x ≡ y
only_one x zero y e = ap (λ o. unwrap_or o x) e
only_one x (suc k) y e = absurd cc

-- ---- a frame on a bus

-- a frame of a transmission on a bus is one of the packet's fragments, with the transmission's trace
abbrev pub IsOnBusAs : (node number mtu : ℕ) (es : List Entry) (f : Frame) → IsSentIn node number link.Can mtu es f → CanFrame → Type 0
IsOnBusAs node number mtu es f s c =
    (slice_get (map written (fragments_of s.packet.header s.packet.payload (next_node s.mark s.packet.header) (s.serial % IDS))) s.place ≡ Some c) × (can_frame (sent_trace node number s.serial s.packet.trace) c ≡ f)

pub on_bus : (node number mtu : ℕ) (es : List Entry) (f : Frame) (s : IsSentIn node number link.Can mtu es f) → (c : CanFrame) × IsOnBusAs node number mtu es f s c
on_bus node number mtu es f s =
    let got = mapped (can_frame (sent_trace node number s.serial s.packet.trace)) (map written (fragments_of s.packet.header s.packet.payload (next_node s.mark s.packet.header) (s.serial % IDS))) s.place f s.among in
    (got.0, (got.1, got.2))

-- it names, as it is read, the packet's source and number, and the node to which that goes next
pub bus_piece : (node number mtu : ℕ) (es : List Entry) (f : Frame) → (s : IsSentIn node number link.Can mtu es f) → next_node s.mark s.packet.header < 32 → length s.packet.payload ≤ MAX_PAYLOAD
    → IsPiece (next_node s.mark s.packet.header) (s.serial % IDS) s.packet.header s.packet.payload (frame_of (unwrap_or f.can 0) f.bytes.items)
bus_piece node number mtu es f s low short =
    let b : Content = s.packet in
    let next : ℕ = next_node s.mark b.header in
    let id : ℕ = s.serial % IDS in
    let small : id < 1024 = omega arith in
    let c : CanFrame = (on_bus node number mtu es f s).0 in
    let is : IsOnBusAs node number mtu es f s c = (on_bus node number mtu es f s).1 in
    subst (λ (g : Frame). IsPiece next id b.header b.payload (frame_of (unwrap_or g.can 0) g.bytes.items)) is.1 (piece_read b.header b.payload next id s.place c low small short is.0)

-- ---- a transmission of an end

module _ (r : PlainRecord) (from : End) (mtu : ℕ) (words : HasWords r) (most : mtu ≤ MAX_PAYLOAD) where
  abbrev own : List Entry
  own = entries_of r (who.Iface from.node from.iface)

  abbrev origin_of : ℕ → Origin
  origin_of serial = record { node = from.node; iface = from.iface; serial = serial }

  shown_there : (serial : ℕ) (b : Content) → slice_get (filter_map (shown_in serial) own) 0 ≡ Some b → transmission r (origin_of serial) ≡ Some b
  shown_there serial b e = ap (λ es. slice_get (filter_map (shown_in serial) es) 0) (entries_alike from.node from.iface r.parties) ∙ e

  as_sent : (serial : ℕ) (b : Content) (t : Trace) → slice_get (filter_map (shown_in serial) own) 0 ≡ Some b → t ≡ sent_trace from.node from.iface serial b.trace → IsAsSent r b.header b.payload (arrived t)
  as_sent serial b t e same = record {
    origin = origin_of serial;
    named = ap (λ (u : Trace). u.origin) same;
    sent = b;
    shown = shown_there serial b e;
    header_is = refl;
    payload_is = refl;
  }

  kiss_bytes : (cover : Bool) (kind : LinkKind) (f : Frame) (s : IsSentIn from.node from.iface kind mtu own f)
      → frames_of kind s.serial (next_node s.mark s.packet.header) s.packet (sent_trace from.node from.iface s.serial s.packet.trace) ≡ kiss_frame cover s.packet (sent_trace from.node from.iface s.serial s.packet.trace) ∷ []
      → (g : Frame) → g.trace ≡ f.trace → (f.bytes.items ≡ frame cover s.packet.header s.packet.payload → (g.bytes.items ≡ frame cover s.packet.header s.packet.payload) ⊎ IsFlippedIn cover (frame cover s.packet.header s.packet.payload) g.bytes.items)
      → IsKissOf (IsAsSent r) cover mtu g
  kiss_bytes cover kind f s are g same bytes =
      let t : Trace = sent_trace from.node from.iface s.serial s.packet.trace in
      let is : kiss_frame cover s.packet t ≡ f = only_one (kiss_frame cover s.packet t) s.place f (ap (λ fs. slice_get fs s.place) (sym are) ∙ s.among) in
      record {
        header = s.packet.header;
        payload = s.packet.payload;
        sent = as_sent s.serial s.packet g.trace s.shown (same ∙ sym (ap (λ (x : Frame). x.trace) is));
        word = word_of r words (origin_of s.serial) s.packet (shown_there s.serial s.packet s.shown);
        fits = s.fits;
        bytes = bytes (sym (ap (λ (x : Frame). x.bytes.items) is));
      }

  can_piece : (l : PlainLink) (at place : ℕ) → place ≢ at → slice_get l.ends place ≡ Some from → (f : Frame) → (s : IsSentIn from.node from.iface link.Can mtu own f) → transmissions own ≤ IDS → ShowsWithin r from
      → (bytes : List ℕ) → bytes ≡ f.bytes.items → (now : ℕ) → IsPieceSent r l at (arrival (identifier_of (unwrap_or f.can 0)) bytes (arrived f.trace) now)
  can_piece l at place apart there f s few shows bytes same now =
      let b : Content = s.packet in
      let short : length b.payload ≤ MAX_PAYLOAD = omega (arith, s.fits, most) in
      let low : next_node s.mark b.header < 32 = shows.low s.serial (next_node s.mark b.header) s.to in
      let come : IsPiece (next_node s.mark b.header) (s.serial % IDS) b.header b.payload (frame_of (unwrap_or f.can 0) bytes) =
      subst (λ bs. IsPiece (next_node s.mark b.header) (s.serial % IDS) b.header b.payload (frame_of (unwrap_or f.can 0) bs)) (sym same) (bus_piece from.node from.iface mtu own f s low short) in
      record {
        header = b.header;
        payload = b.payload;
        numbered = record {
          place = place;
          apart = apart;
          end = from;
          there = there;
          holds = record {
            serial = s.serial;
            below = omega (arith, few, shows.below s.serial b s.shown);
            id_is = come.id_is;
            packet = b;
            shown = shown_there s.serial b s.shown;
            source_is = come.source_is;
            header_is = refl;
            payload_is = refl;
          };
        };
        sent = as_sent s.serial b f.trace s.shown (sym (ap (λ (g : Frame). g.trace) (on_bus from.node from.iface mtu own f s).1.1));
        word = word_of r words (origin_of s.serial) b (shown_there s.serial b s.shown);
        short = short;
        piece = come.piece;
      }

  -- ---- and what a harmless plan makes of its frames

  -- a flip of a bit that a frame has not changes none of its bytes
  untouched : (bit : ℕ) (f : Frame) → HasNoBit bit f → (copies.flipped bit f).bytes.items ≡ f.bytes.items
  untouched bit f none = set_out f.bytes.items (bit / 8) (bit_xor (slice_index f.bytes.items (bit / 8)) (128 / 2 ^ (bit % 8))) (omega (arith, none))

  plain_flip : (bit : ℕ) (f : Frame) (whole : List ℕ) → (bit < 8 * length f.bytes.items → FlipsPlain bit f.bytes.items) → f.bytes.items ≡ whole → ((copies.flipped bit f).bytes.items ≡ whole) ⊎ IsFlippedIn true whole (copies.flipped bit f).bytes.items
  plain_flip bit f whole plain same =
      elim (cases_lt bit (8 * length f.bytes.items)) [
        | inl there ↦ inr (record { bit = bit; covers = refl; plain = subst (FlipsPlain bit) same (plain there); is = ap (flipped bit) same })
        | inr past ↦ inl (untouched bit f past ∙ same)
      ]

  pub comes : (l : PlainLink) (at place : ℕ) → place ≢ at → slice_get l.ends place ≡ Some from → (kind : LinkKind) (flip : Option ℕ) (f : Frame) → (kind ≡ link.Can → transmissions own ≤ IDS) → ShowsWithin r from
      → IsSentIn from.node from.iface kind mtu own f → IsHarmless kind flip f → IsComeTo r l at mtu kind (damaged flip f)
  comes l at place apart there link.Kiss None f few shows s h = kiss_bytes false link.Kiss f s refl f refl (λ same. inl same)
  comes l at place apart there link.Kiss (Some bit) f few shows s h = kiss_bytes false link.Kiss f s refl (copies.flipped bit f) refl (λ same. inl (untouched bit f h ∙ same))
  comes l at place apart there link.KissHeader None f few shows s h = kiss_bytes true link.KissHeader f s refl f refl (λ same. inl same)
  comes l at place apart there link.KissHeader (Some bit) f few shows s h = kiss_bytes true link.KissHeader f s refl (copies.flipped bit f) refl (λ same. plain_flip bit f (frame true s.packet.header s.packet.payload) h same)
  comes l at place apart there link.Can None f few shows s h = can_piece l at place apart there f s (few refl) shows f.bytes.items refl
  comes l at place apart there link.Can (Some bit) f few shows s h = can_piece l at place apart there f s (few refl) shows (copies.flipped bit f).bytes.items (untouched bit f h)
