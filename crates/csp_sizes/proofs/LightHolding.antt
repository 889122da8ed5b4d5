-- What the windows of a reliable connection hold is light.
use Rattle.std.proofs.Common.{ℕ, ◌+◌, ◌≤◌, Bool, true, false, List, [], ◌∷◌, ◌++◌, length, map, sym, subst, arith}
use Rattle.std.proofs.lemmas.List.Elements.{All-append, All-cons, All-filter, All-head, All-map, All-nil, All-tail, All-weaker}
use Rattle.std.proofs.lemmas.List.{map-append}
use Rattle.std.specs.List.{All, filter}
use Rattle.std.specs.Prelude.{if◌then◌else◌, nat_lt}
use Rattle.csp_buffer.specs.Content.{Content}
use Rattle.csp_buffer.specs.PlainBuffer.{PlainBuffer}
use Rattle.csp_ports.specs.Came.{pictures}
use Rattle.csp_prefix.proofs.Public.{IsSameSend}
use Rattle.csp_rdp.specs.Holding.{loose_buffers, rdp_buffers, unneeded, useless_buffers}
use Rattle.csp_rdp.specs.Machine.{PlainRdp}
use Rattle.csp_rdp.specs.declared.answers.State.TheVariants.{Closed, SynSent, SynRcvd, Open, CloseWait}
use Rattle.csp_rdp.specs.declared.answers.State.{State}
use Rattle.csp_rdp_window.specs.Receiving.{Kept, kept_with}
use Rattle.csp_rdp_window.specs.Sending.{PlainSend, is_loose}
use Rattle.csp_rdp_window.specs.declared.pending.Pending.{Pending}
use Rattle.csp_sizes.specs.Light.{IsData, IsLight, IsLightKept, IsSized}

-- ---- packets of a send window, and those that a receive window keeps

abbrev pub AreData : List Pending → Type 0
AreData ps = All (λ p. IsData p.buffer.picture) ps

abbrev pub AreKept : ℕ → List Kept → Type 0
AreKept cur ks = All (IsLightKept cur) ks

-- what befalls the packets leaves their payloads
pub same_data : (a b : PlainSend) → IsSameSend a b → AreData a.packets → AreData b.packets
same_data a b same all = same.packets (λ index payload. length payload ≤ 522) all

-- later more is near
pub kept_later : (cur next : ℕ) (ks : List Kept) → cur ≤ next → AreKept cur ks → AreKept next ks
kept_later cur next ks more all = All-weaker (IsLightKept cur) (IsLightKept next) (λ k one. record { near = omega (arith, more, one.near); light = one.light }) ks all

-- one more is kept
pub kept_more : (cur t : ℕ) (b : PlainBuffer) (ks : List Kept) → t ≤ cur + 41 → IsLight b.picture → AreKept cur ks → AreKept cur (kept_with t b ks)
kept_more cur t b [] near light all = All-cons (IsLightKept cur) (record { index = t; buffer = b }) [] (record { near = near; light = light }) all
kept_more cur t b (k ∷ ks) near light all =
    go (nat_lt t k.index) (kept_more cur t b ks near light (All-tail (IsLightKept cur) k ks all))
  where
    go : (c : Bool) → AreKept cur (kept_with t b ks) → AreKept cur (if c then record { index = t; buffer = b } ∷ k ∷ ks else k ∷ kept_with t b ks)
    go true rest = All-cons (IsLightKept cur) (record { index = t; buffer = b }) (k ∷ ks) (record { near = near; light = light }) all
    go false rest = All-cons (IsLightKept cur) k (kept_with t b ks) (All-head (IsLightKept cur) k ks all) rest

-- their buffers
pub kept_buffers : (cur : ℕ) (ks : List Kept) → AreKept cur ks → All IsLight (pictures (map (λ k. k.buffer) ks))
kept_buffers cur ks all = All-map IsLight (λ (b : PlainBuffer). b.picture) (map (λ k. k.buffer) ks) (All-map (λ (b : PlainBuffer). IsLight b.picture) (λ (k : Kept). k.buffer) ks (All-weaker (IsLightKept cur) (λ k. IsLight k.buffer.picture) (λ k one. one.light) ks all))

pub data_light : (b : Content) → IsData b → IsLight b
data_light b short = omega (arith, short)

pub data_buffers : (ps : List Pending) → AreData ps → All IsLight (pictures (map (λ p. p.buffer) ps))
data_buffers ps all = All-map IsLight (λ (b : PlainBuffer). b.picture) (map (λ p. p.buffer) ps) (All-map (λ (b : PlainBuffer). IsLight b.picture) (λ (p : Pending). p.buffer) ps (All-weaker (λ p. IsData p.buffer.picture) (λ p. IsLight p.buffer.picture) (λ p one. data_light p.buffer.picture one) ps all))

pictures_both : (xs ys : List PlainBuffer) → All IsLight (pictures xs) → All IsLight (pictures ys) → All IsLight (pictures (xs ++ ys))
pictures_both xs ys one two = subst (λ bs. All IsLight bs) (sym (map-append (λ (b : PlainBuffer). b.picture) xs ys)) (All-append IsLight (pictures xs) (pictures ys) one two)

-- all that a connection holds
pub held_light : (r : PlainRdp) → IsSized r → All IsLight (pictures (rdp_buffers r))
held_light r h = pictures_both (map (λ p. p.buffer) r.send.packets) (map (λ k. k.buffer) r.recv.kept) (data_buffers r.send.packets h.sends) (kept_buffers r.recv.cur r.recv.kept h.keeps)

useless_light : (s : State) (r : PlainRdp) → IsSized r → All IsLight (pictures (useless_buffers s r.recv))
useless_light Open r h = All-nil IsLight
useless_light SynSent r h = kept_buffers r.recv.cur r.recv.kept h.keeps
useless_light SynRcvd r h = kept_buffers r.recv.cur r.recv.kept h.keeps
useless_light CloseWait r h = kept_buffers r.recv.cur r.recv.kept h.keeps
useless_light Closed r h = kept_buffers r.recv.cur r.recv.kept h.keeps

pub unneeded_light : (r : PlainRdp) → IsSized r → All IsLight (pictures (unneeded r))
unneeded_light r h =
    pictures_both (loose_buffers r.send) (useless_buffers r.state r.recv)
    (data_buffers (filter is_loose r.send.packets) (All-filter is_loose (λ p. IsData p.buffer.picture) r.send.packets h.sends)) (useless_light r.state r h)
