-- What a step leaves of the packets of a send window.
use Rattle.std.proofs.Common.{◌≡◌, ℕ, ◌+◌, Bool, true, false, not, List, [], map, Option, Some, None, refl, ◌∙◌}
use Rattle.std.specs.List.{All, filter, list_any}
use Rattle.std.specs.Prelude.{◌==◌, if◌then◌else◌}
use Rattle.std.proofs.lemmas.List.Elements.{All-filter, All-map, All-weaker}
use Rattle.csp_base.specs.declared.sequence.Seq.{Seq}
use Rattle.csp_rdp_window.specs.Sending.{PlainSend, acked_at, list_heard, is_inside, listed, marked, missed_at, needed_if, newest_of, sent_at, with_mark, without_listed}
use Rattle.csp_rdp_window.specs.declared.pending.Mark.{Mark}
use Rattle.csp_rdp_window.specs.declared.pending.Mark.TheVariants.{Acknowledged, Listed, Abandoned, Sent, Missed}
use Rattle.csp_rdp_window.specs.declared.pending.Pending.{Pending}

-- the start and the next index are as before, and each packet has the index and the payload of one before
pub record IsSameSend (a b : PlainSend) : Type 1 where
  pub start : b.start ≡ a.start
  pub next : b.nxt ≡ a.nxt
  pub packets : (P : ℕ → List ℕ → Type 0) → All (λ p. P p.index p.buffer.picture.payload) a.packets → All (λ p. P p.index p.buffer.picture.payload) b.packets
  pub none : a.packets ≡ [] → b.packets ≡ []

pub same-send : (w : PlainSend) → IsSameSend w w
same-send w = record { start = refl; next = refl; packets = λ P all. all; none = λ e. e }

pub same-after : (a b c : PlainSend) → IsSameSend a b → IsSameSend b c → IsSameSend a c
same-after a b c f g = record {
  start = g.start ∙ f.start;
  next = g.next ∙ f.next;
  packets = λ P all. g.packets P (f.packets P all);
  none = λ e. g.none (f.none e);
}

-- something befalls each packet
abbrev mapped : (Pending → Pending) → ℕ → PlainSend → PlainSend
mapped f una w = record w { una = una; packets = map f w.packets }

record IsSameAt (f : Pending → Pending) (p : Pending) : Type 0 where
  index : (f p).index ≡ p.index
  buffer : (f p).buffer ≡ p.buffer

empty-mapped : (f : Pending → Pending) (ps : List Pending) → ps ≡ [] → map f ps ≡ []
empty-mapped f ps e = rw e

same-mapped : (f : Pending → Pending) → ((p : Pending) → IsSameAt f p) → (una : ℕ) (w : PlainSend) → IsSameSend w (mapped f una w)
same-mapped f same una w = record {
  start = refl;
  next = refl;
  packets = λ P all. All-map (λ p. P p.index p.buffer.picture.payload) f w.packets
      (All-weaker (λ p. P p.index p.buffer.picture.payload) (λ p. P (f p).index (f p).buffer.picture.payload)
      (λ p h. rw ((same p).index, (same p).buffer) h) w.packets all);
  none = empty-mapped f w.packets;
}

-- a mark leaves the index and the buffer
index-if : (b : Bool) (x p : Pending) → x.index ≡ p.index → (if b then x else p).index ≡ p.index
index-if true x p e = e
index-if false x p e = refl

buffer-if : (b : Bool) (x p : Pending) → x.buffer ≡ p.buffer → (if b then x else p).buffer ≡ p.buffer
buffer-if true x p e = e
buffer-if false x p e = refl

marked-same : (m : Mark) (p : Pending) → IsSameAt (marked m) p
marked-same (Acknowledged last) p = record { index = refl; buffer = refl }
marked-same (Listed index) p = record { index = refl; buffer = refl }
marked-same Abandoned p = record { index = refl; buffer = refl }
marked-same (Sent index time) p = record { index = index-if (p.index == index) (sent_at time p) p refl; buffer = buffer-if (p.index == index) (sent_at time p) p refl }
marked-same (Missed newest time timeout) p = record { index = index-if _ (missed_at time p) p refl; buffer = buffer-if _ (missed_at time p) p refl }

pub same-marked : (m : Mark) (w : PlainSend) → IsSameSend w (with_mark m w)
same-marked m w = same-mapped (marked m) (marked-same m) w.una w

pub same-acked : (o : Option ℕ) (w : PlainSend) → IsSameSend w (acked_at o w)
same-acked None w = same-send w
same-acked (Some t) w = go (is_inside w t)
  where
    go : (b : Bool) → IsSameSend w (if b then record (with_mark (Acknowledged t) w) { una = t + 1 } else w)
    go true = same-mapped (marked (Acknowledged t)) (marked-same (Acknowledged t)) (t + 1) w
    go false = same-send w

same-listed : (ts : List ℕ) (w : PlainSend) → IsSameSend w (without_listed ts w)
same-listed ts w = same-mapped (λ p. needed_if (not (list_any (λ t. t == p.index) ts)) p) (λ p. record { index = refl; buffer = refl }) w.una w

pub same-heard : (numbers : List Seq) (time timeout : ℕ) (w : PlainSend) → IsSameSend w (list_heard numbers time timeout w)
same-heard numbers time timeout w =
    let ts = listed w numbers in
    same-after w (without_listed ts w) (list_heard numbers time timeout w) (same-listed ts w) (same-marked (Missed (newest_of ts) time timeout) (without_listed ts w))

empty-filtered : (test : Pending → Bool) (ps : List Pending) → ps ≡ [] → filter test ps ≡ []
empty-filtered test ps e = rw e

pub same-filtered : (test : Pending → Bool) (w : PlainSend) → IsSameSend w (record w { packets = filter test w.packets })
same-filtered test w = record {
  start = refl;
  next = refl;
  packets = λ P all. All-filter test (λ p. P p.index p.buffer.picture.payload) w.packets all;
  none = empty-filtered test w.packets;
}
