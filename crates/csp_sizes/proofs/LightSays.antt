-- What a reliable connection says in its packets is short.
use Rattle.std.proofs.Common.{length-append, ◌≡◌, ℕ, ◌+◌, ◌*◌, ◌≤◌, Bool, true, false, cond, List, [], ◌∷◌, ◌++◌, length, Some, refl, arith}
use Rattle.std.proofs.lemmas.List.Elements.{All-head, All-tail, All-weaker}
use Rattle.std.proofs.lemmas.List.{length-map}
use Rattle.std.specs.Int.{to_be_bytes, w32}
use Rattle.std.specs.List.{All, find, flat_map}
use Rattle.std.specs.Option.{option_map_or}
use Rattle.std.specs.Prelude.{◌==◌}
use Rattle.csp_base.specs.declared.sequence.Seq.{Seq}
use Rattle.csp_rdp.specs.Balance.{IsInOrder}
use Rattle.csp_rdp.specs.Jobs.{says, sending_index, syn_in}
use Rattle.csp_rdp.specs.Machine.{PlainRdp}
use Rattle.csp_rdp.specs.declared.answers.State.TheVariants.{Closed, SynSent, SynRcvd, Open, CloseWait}
use Rattle.csp_rdp.specs.declared.answers.State.{State}
use Rattle.csp_rdp.specs.declared.jobs.Job.TheVariants as job
use Rattle.csp_rdp.specs.declared.jobs.Job.{Job}
use Rattle.csp_rdp_header.specs.Head.{seq_bytes}
use Rattle.csp_rdp_header.specs.Options.{option_bytes}
use Rattle.csp_rdp_header.specs.declared.options.Options.{Options}
use Rattle.csp_rdp_window.specs.Receiving.{Kept, kept_numbers}
use Rattle.csp_rdp_window.specs.declared.pending.Pending.{Pending}
use Rattle.csp_sizes.proofs.LightHolding.{AreData}
use Rattle.csp_sizes.specs.Light.{IsData, IsLightKept, IsLightMachine}

-- ---- what its packets say

-- what is in order and near are few
in_order_few : (last most : ℕ) (ks : List Kept) → IsInOrder last ks → All (λ k. k.index ≤ most) ks → last ≤ most → length ks + last ≤ most
in_order_few last most [] order all low = omega (arith, low)
in_order_few last most (k ∷ ks) order all low =
    let first = All-head (λ (k : Kept). k.index ≤ most) k ks all in
    let rest = in_order_few k.index most ks order.1 (All-tail (λ (k : Kept). k.index ≤ most) k ks all) first in
    let past = order.0 in
    omega (arith, rest, past)

seqs_long : (ss : List Seq) → length (flat_map seq_bytes ss) ≡ 2 * length ss
seqs_long [] = refl
seqs_long (s ∷ ss) =
    let rest = seqs_long ss in
    let both : length (seq_bytes s ++ flat_map seq_bytes ss) ≡ 2 + length (flat_map seq_bytes ss) = length-append (seq_bytes s) (flat_map seq_bytes ss) in
    omega (arith, both, rest)

payload_short : (index : ℕ) (ps : List Pending) → AreData ps → length (option_map_or (λ p. p.buffer.picture.payload) (find (λ p. p.index == index) ps) []) ≤ 522
payload_short index [] all = omega arith
payload_short index (p ∷ ps) all = go (p.index == index) (payload_short index ps (All-tail (λ p. IsData p.buffer.picture) p ps all))
  where
    go : (c : Bool) → length (option_map_or (λ p. p.buffer.picture.payload) (find (λ p. p.index == index) ps) []) ≤ 522
        → length (option_map_or (λ p. p.buffer.picture.payload) (cond c (Some p) (find (λ p. p.index == index) ps)) []) ≤ 522
    go true rest = All-head (λ p. IsData p.buffer.picture) p ps all
    go false rest = rest

six_joined : (a b c d e f : List ℕ) → length a ≡ 4 → length b ≡ 4 → length c ≡ 4 → length d ≡ 4 → length e ≡ 4 → length f ≡ 4 → length (a ++ b ++ c ++ d ++ e ++ f) ≤ 522
six_joined a b c d e f one two three four five six = simp length-append (omega (arith, one, two, three, four, five, six))

four_long : (n : ℕ) → length (to_be_bytes w32 n) ≡ 4
four_long n = refl

options_short : (o : Options) → length (option_bytes o) ≤ 522
options_short o =
    six_joined (to_be_bytes w32 o.window) (to_be_bytes w32 o.conn_timeout) (to_be_bytes w32 o.packet_timeout) (to_be_bytes w32 o.delayed) (to_be_bytes w32 o.ack_timeout) (to_be_bytes w32 o.ack_count)
    (four_long o.window) (four_long o.conn_timeout) (four_long o.packet_timeout) (four_long o.delayed) (four_long o.ack_timeout) (four_long o.ack_count)

syn_short : (s : State) (r : PlainRdp) → length (syn_in s r).bytes ≤ 522
syn_short SynSent r = options_short r.options
syn_short SynRcvd r = omega arith
syn_short Open r = omega arith
syn_short CloseWait r = omega arith
syn_short Closed r = omega arith

list_short : (r : PlainRdp) → IsLightMachine r → length (flat_map seq_bytes (kept_numbers r.recv)) ≤ 522
list_short r h =
    let few = in_order_few r.recv.cur (r.recv.cur + 41) r.recv.kept h.whole.ordered (All-weaker (IsLightKept r.recv.cur) (λ k. k.index ≤ r.recv.cur + 41) (λ k one. one.near) r.recv.kept h.sized.keeps) (omega arith) in
    let long = seqs_long (kept_numbers r.recv) in
    let count : length (kept_numbers r.recv) ≡ length r.recv.kept = length-map r.recv.kept _ in
    omega (arith, few, long, count)

pub says_short : (j : Job) (time : ℕ) (r : PlainRdp) → IsLightMachine r → length (says j time r).bytes ≤ 522
says_short job.Rst time r h = omega arith
says_short job.Syn time r h = syn_short r.state r
says_short job.Deliver time r h = omega arith
says_short job.Eak time r h = list_short r h
says_short job.Data time r h = payload_short (sending_index time r) r.send.packets h.sized.sends
says_short job.Ack time r h = omega arith
