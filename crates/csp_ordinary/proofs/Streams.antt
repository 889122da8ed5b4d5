-- An interface on a KISS link: between frames nothing of one is begun or left, and of each frame that comes it makes the packet that was sent, or none.
use Rattle.std.proofs.Common.{◌≡◌, ◌⊎◌, inl, inr, ℕ, ◌==◌, ◌<◌, ◌≤◌, ◌^◌, Bool, true, false, None, List, [], length, option_map, refl, sym, ap, ◌∙◌, subst}
use Rattle.std.proofs.lemmas.Bool.{cases_lt}
use Rattle.std.specs.Prelude.{if◌then◌else◌}
use Rattle.csp_base.specs.declared.traces.Trace.{Trace}
use Rattle.csp_iface.specs.Keeping.{PlainStream}
use Rattle.csp_iface.specs.Receiving.{arrived, followed, frame_heard, frame_read, read_further, traced}
use Rattle.csp_iface.specs.declared.receiver.Receiver.{Receiver}
use Rattle.csp_iface.specs.declared.receiver.Receiver.TheVariants as by
use Rattle.csp_iface.specs.declared.receiver.TheConstants.{MAX_HOPS}
use Rattle.csp_kiss.specs.Frame.{frame}
use Rattle.csp_kiss.specs.GoingOn.{packet_of, read_on}
use Rattle.csp_kiss.specs.Reading.{Reading, answers}
use Rattle.csp_kiss.specs.declared.event.KissEvent.{KissEvent}
use Rattle.csp_kiss.specs.declared.event.KissEvent.TheVariants.{Packet, BadCrc}
use Rattle.csp_log.specs.declared.frame.Frame.{Frame}
use Rattle.csp_noticed.specs.Flipping.{flipped}
use Rattle.csp_noticed.specs.Made.{HasNothingBegun, IsReadyFor, MakesJust, MakesWrong}
use Rattle.csp_noticed.specs.Plain.{FlipsPlain}
use Rattle.csp_noticed.proofs.Public.{frame-noticed, frame-read, frame-skipped}
use Rattle.csp_consistent.proofs.Public.{IsHeardSo, IsWholeSo, read_from}

-- one bit of a frame was turned over, on a link whose CRC covers the header: a plain one
pub record IsFlippedIn (cover : Bool) (whole bytes : List ℕ) : Type 0 where
  pub bit : ℕ
  pub covers : cover ≡ true
  pub plain : FlipsPlain bit whole
  pub is : bytes ≡ flipped bit whole

-- a frame that came with the packet that was sent in it: as it was sent, or so changed
pub record IsKissOf (As : ℕ → List ℕ → Trace → Type 0) (cover : Bool) (mtu : ℕ) (f : Frame) : Type 0 where
  pub header : ℕ
  pub payload : List ℕ
  pub sent : As header payload (arrived f.trace)
  pub word : header < 2 ^ 32
  pub fits : length payload ≤ mtu
  pub bytes : (f.bytes.items ≡ frame cover header payload) ⊎ IsFlippedIn cover (frame cover header payload) f.bytes.items

-- no byte of a frame is left, and nothing of one is begun
pub record IsBetweenFrames (cover : Bool) (mtu : ℕ) (s : PlainStream) : Type 0 where
  pub read : s.rest ≡ []
  pub between : HasNothingBegun s.reading
  pub cover_is : s.reading.cover ≡ cover
  pub mtu_is : s.reading.mtu ≡ mtu

abbrev pub IsStreamSo : Bool → ℕ → Receiver → Type 0
IsStreamSo cover mtu (by.Kiss s) = IsBetweenFrames cover mtu s
IsStreamSo cover mtu (by.Can l) = ⊥

module _ (As : ℕ → List ℕ → Trace → Type 0) (cover : Bool) (mtu : ℕ) where
  -- what is read on comes to one event, after which nothing is begun or left
  after_event : (t : Trace) (reading : Reading) (bytes : List ℕ) (event : KissEvent) → MakesJust reading bytes event → reading.cover ≡ cover → reading.mtu ≡ mtu → IsWholeSo As (option_map (traced t) (packet_of event))
      → IsHeardSo As (IsStreamSo cover mtu) (followed t (read_on reading bytes))
  after_event t reading bytes event made covers most whole =
      subst (λ p. IsHeardSo As (IsStreamSo cover mtu) (followed t p)) (sym made.read) (record { read = refl; between = tt; cover_is = covers; mtu_is = most }, whole)

  after_frame : (s : PlainStream) (f : Frame) → IsBetweenFrames cover mtu s → IsKissOf As cover mtu f → IsHeardSo As (IsStreamSo cover mtu) (followed (arrived f.trace) (read_on s.reading f.bytes.items))
  after_frame s f k g =
      by_bytes g.bytes
    where
      ready : IsReadyFor s.reading g.header g.payload
      ready = record { between = k.between; word = g.word; fits = subst (λ m. length g.payload ≤ m) (sym k.mtu_is) g.fits }

      own : frame s.reading.cover g.header g.payload ≡ frame cover g.header g.payload
      own = ap (λ c. frame c g.header g.payload) k.cover_is

      by_bytes : (f.bytes.items ≡ frame cover g.header g.payload) ⊎ IsFlippedIn cover (frame cover g.header g.payload) f.bytes.items → IsHeardSo As (IsStreamSo cover mtu) (followed (arrived f.trace) (read_on s.reading f.bytes.items))
      by_bytes (inl same) =
          after_event (arrived f.trace) s.reading f.bytes.items (Packet g.header (record { items = g.payload }))
          (subst (λ bytes. MakesJust s.reading bytes (Packet g.header (record { items = g.payload }))) (own ∙ sym same) (frame-read s.reading g.header g.payload ready)) k.cover_is k.mtu_is g.sent
      by_bytes (inr x) =
          let plain : FlipsPlain x.bit (frame s.reading.cover g.header g.payload) = subst (FlipsPlain x.bit) (sym own) x.plain in
          let covers : s.reading.cover ≡ true = k.cover_is ∙ x.covers in
          elim (cases_lt x.bit 16) [
            | inl low ↦
                after_event (arrived f.trace) s.reading f.bytes.items (Packet g.header (record { items = g.payload }))
                (subst (λ bytes. MakesJust s.reading bytes (Packet g.header (record { items = g.payload }))) (ap (flipped x.bit) own ∙ sym x.is) (frame-skipped s.reading g.header g.payload x.bit ready plain low)) k.cover_is k.mtu_is g.sent
            | inr high ↦
                let one : frame s.reading.cover g.header g.payload ≡ frame true g.header g.payload = ap (λ c. frame c g.header g.payload) covers in
                let wrong : MakesWrong s.reading (flipped x.bit (frame true g.header g.payload)) = frame-noticed s.reading g.header g.payload x.bit ready covers (subst (FlipsPlain x.bit) one plain) high in
                after_event (arrived f.trace) s.reading f.bytes.items (BadCrc wrong.0 wrong.1)
                (subst (λ bytes. MakesJust s.reading bytes (BadCrc wrong.0 wrong.1)) (ap (flipped x.bit) (sym one ∙ own) ∙ sym x.is) wrong.3) k.cover_is k.mtu_is tt
          ]

  nothing_left : (t : Trace) (reading : Reading) → HasNothingBegun reading → reading.cover ≡ cover → reading.mtu ≡ mtu → IsHeardSo As (IsStreamSo cover mtu) (followed t (read_on reading []))
  unfolding read_on answers
  nothing_left t reading between covers most = (record { read = refl; between = between; cover_is = covers; mtu_is = most }, tt)

  pub stream_rests : (r : Receiver) → IsStreamSo cover mtu r → IsHeardSo As (IsStreamSo cover mtu) (read_further r)
  stream_rests (by.Kiss s) k =
      subst (λ rest. IsHeardSo As (IsStreamSo cover mtu) (followed s.trace (read_on s.reading rest))) (sym k.read) (nothing_left s.trace s.reading k.between k.cover_is k.mtu_is)
  stream_rests (by.Can l) k = absurd k

  pub stream_hears : (now : ℕ) (r : Receiver) (f : Frame) → IsStreamSo cover mtu r → IsKissOf As cover mtu f → IsHeardSo As (IsStreamSo cover mtu) (read_from (frame_heard now r f))
  stream_hears now (by.Kiss s) f k g =
      chosen (f.trace.hops == MAX_HOPS)
    where
      chosen : (b : Bool) → IsHeardSo As (IsStreamSo cover mtu) (read_from (if b then record { receiver = by.Kiss s; whole = None; refused = 1 } else frame_read now (by.Kiss s) f))
      chosen true = stream_rests (by.Kiss s) k
      chosen false = after_frame s f k g
  stream_hears now (by.Can l) f k g = absurd k
