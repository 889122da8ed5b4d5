-- a connection whose buffers lie in another region makes the same steps
use Rattle.std.proofs.Common.{◌≡◌, ℕ, ◌+◌, Bool, true, false, not, cond, List, [], ◌∷◌, ◌++◌, map, Option, Some, None, ap, sym, ◌∙◌, refl}
use Rattle.std.specs.List.{cons_option, filter, filter_map, find, flat_map, list_any}
use Rattle.std.specs.Option.{option_map, option_map_or}
use Rattle.std.specs.Prelude.{◌==◌, ◌&&◌, ◌||◌, if◌then◌else◌, is_some, length, nat_lt, nat_le, unwrap_or}
use Rattle.std.proofs.lemmas.List.{map-append}
use Rattle.csp_arena.specs.Cells.{RegionName}
use Rattle.csp_base.specs.declared.sequence.Seq.{Seq}
use Rattle.csp_base.specs.declared.traces.Tag.{Tag}
use Rattle.csp_buffer.specs.PlainBuffer.{PlainBuffer}
use Rattle.csp_rdp_header.specs.Head.{has_flag, seq_bytes}
use Rattle.csp_rdp_header.specs.Numbers.{numbers_of}
use Rattle.csp_rdp_header.specs.declared.head.RdpHead.{RdpHead}
use Rattle.csp_rdp_header.specs.declared.head.TheConstants.{RST, EAK, ACK, SYN}
use Rattle.csp_rdp_window.specs.Receiving.{Kept, PlainRecv, index_in, is_awaited, is_kept, kept_numbers, kept_with, missing_from, next_buffer, without_first, without_next}
use Rattle.csp_rdp_window.specs.Sending.{PlainSend, acked, acked_at, acknowledges, admitted, due_index, fresh, list_heard, is_due, is_inside, is_loose, listed, listed_at, marked, missed_at, needed_if, newest_of, payload_at, sent_at, with_mark, without_listed}
use Rattle.csp_rdp_window.specs.Shown.{shown}
use Rattle.csp_rdp_window.specs.Times.{has_passed}
use Rattle.csp_rdp_window.specs.declared.pending.Mark.{Mark}
use Rattle.csp_rdp_window.specs.declared.pending.Mark.TheVariants.{Acknowledged, Listed, Abandoned, Sent, Missed}
use Rattle.csp_rdp_window.specs.declared.pending.Pending.{Pending}
use Rattle.csp_rdp.specs.Holding.{loose_buffers, rdp_buffers, rdp_numbers, recv_rested, rested, taken_out_of, unneeded, useless_buffers}
use Rattle.csp_rdp.specs.Jobs.{Says, admitting, closed_in, delivery_in, filled, filled_with, is_ack_due, job_in, job_of, keeping_again, reset_after, says, sending_index, sent, syn_in, taken_in, ticked, timed_out, without_ack}
use Rattle.csp_rdp.specs.Machine.{PlainRdp, broken, left, owes_eak, owes_rst}
use Rattle.csp_rdp.specs.Placed.{placed, placed_buffer, placed_kept, placed_pending}
use Rattle.csp_rdp.specs.Table.{ack_row, acknowledged, after, back_of, data_row, entered, entered_from, after_packet, is_bad_list, keeping, listing, reset_row, row_in, row_of, since_moved}
use Rattle.csp_rdp.specs.declared.answers.State.{State}
use Rattle.csp_rdp.specs.declared.answers.State.TheVariants.{Closed, SynSent, SynRcvd, Open, CloseWait}
use Rattle.csp_rdp.specs.declared.jobs.Job.{Job}
use Rattle.csp_rdp.specs.declared.jobs.Job.TheVariants as job
use Rattle.csp_rdp.specs.declared.rows.StateRow.{StateRow}
use Rattle.csp_rdp.specs.declared.rows.StateRow.TheVariants as row
use Rattle.csp_rdp.proofs.HoldingLemmas.{keeping_, sending}

-- the windows with their buffers of this region
abbrev placed_send : RegionName → PlainSend → PlainSend
placed_send n w = record w { packets = map (placed_pending n) w.packets }

abbrev placed_recv : RegionName → PlainRecv → PlainRecv
placed_recv n w = record w { kept = map (placed_kept n) w.kept }

-- ---- choices and lists of which each element is changed

-- a choice is changed as both of its ends are
pushed : {X Y : Type 0} (f : X → Y) (b : Bool) (x y : X) (u v : Y) → u ≡ f x → v ≡ f y → (if b then u else v) ≡ f (if b then x else y)
pushed f true x y u v e g = e
pushed f false x y u v e g = g

mapped : {X Y : Type 0} (f : X → Y) (g : X → X) (h : Y → Y) (xs : List X) → ((x : X) → f (g x) ≡ h (f x)) → map f (map g xs) ≡ map h (map f xs)
mapped f g h [] same = refl
mapped f g h (x ∷ xs) same = ap (λ y. y ∷ map f (map g xs)) (same x) ∙ ap (λ l. h (f x) ∷ l) (mapped f g h xs same)

unseen : {X Y : Type 0} (f : X → Y) (g : X → X) (xs : List X) → ((x : X) → f (g x) ≡ f x) → map f (map g xs) ≡ map f xs
unseen f g [] same = refl
unseen f g (x ∷ xs) same = ap (λ y. y ∷ map f (map g xs)) (same x) ∙ ap (λ l. f x ∷ l) (unseen f g xs same)

filtered : {X : Type 0} (test : X → Bool) (g : X → X) (xs : List X) → ((x : X) → test (g x) ≡ test x) → filter test (map g xs) ≡ map g (filter test xs)
filtered test g [] same = refl
filtered test g (x ∷ xs) same =
    ap (λ b. cond b (g x ∷ filter test (map g xs)) (filter test (map g xs))) (same x)
    ∙ pushed (map g) (test x) (x ∷ filter test xs) (filter test xs) (g x ∷ filter test (map g xs)) (filter test (map g xs)) (ap (λ l. g x ∷ l) (filtered test g xs same)) (filtered test g xs same)

found : {X : Type 0} (test : X → Bool) (g : X → X) (xs : List X) → ((x : X) → test (g x) ≡ test x) → find test (map g xs) ≡ option_map g (find test xs)
found test g [] same = refl
found test g (x ∷ xs) same =
    ap (λ b. cond b (Some (g x)) (find test (map g xs))) (same x)
    ∙ pushed (option_map g) (test x) (Some x) (find test xs) (Some (g x)) (find test (map g xs)) refl (found test g xs same)

any-of : {X : Type 0} (test : X → Bool) (g : X → X) (xs : List X) → ((x : X) → test (g x) ≡ test x) → list_any test (map g xs) ≡ list_any test xs
any-of test g [] same = refl
any-of test g (x ∷ xs) same = ap (λ b. b || list_any test (map g xs)) (same x) ∙ ap (λ b. test x || b) (any-of test g xs same)

alike : {X Y : Type 0} (f g : X → Option Y) (xs : List X) → ((x : X) → f x ≡ g x) → filter_map f xs ≡ filter_map g xs
alike f g [] same = refl
alike f g (x ∷ xs) same = ap (λ o. cons_option o (filter_map f xs)) (same x) ∙ ap (λ l. cons_option (g x) l) (alike f g xs same)

-- the same of an option
mapped-option : {X Y : Type 0} (f : X → Y) (g : X → X) (h : Y → Y) (o : Option X) → ((x : X) → f (g x) ≡ h (f x)) → option_map f (option_map g o) ≡ option_map h (option_map f o)
mapped-option f g h None same = refl
mapped-option f g h (Some x) same = ap Some (same x)

unseen-option : {X Y : Type 0} (f : X → Y) (g : X → X) (o : Option X) → ((x : X) → f (g x) ≡ f x) → option_map f (option_map g o) ≡ option_map f o
unseen-option f g None same = refl
unseen-option f g (Some x) same = ap Some (same x)

unseen-or : {X Y : Type 0} (f : X → Y) (g : X → X) (o : Option X) (y : Y) → ((x : X) → f (g x) ≡ f x) → option_map_or f (option_map g o) y ≡ option_map_or f o y
unseen-or f g None y same = refl
unseen-or f g (Some x) y same = same x

is-there : {X : Type 0} (g : X → X) (o : Option X) → is_some (option_map g o) ≡ is_some o
is-there g None = refl
is-there g (Some x) = refl

-- ---- the send window

placed-marked : (n : RegionName) (m : Mark) (p : Pending) → marked m (placed_pending n p) ≡ placed_pending n (marked m p)
placed-marked n (Acknowledged last) p = refl
placed-marked n (Listed index) p = refl
placed-marked n Abandoned p = refl
placed-marked n (Sent index time) p =
    pushed (placed_pending n) (p.index == index) (sent_at time p) p (sent_at time (placed_pending n p)) (placed_pending n p) refl refl
placed-marked n (Missed newest time timeout) p =
    pushed (placed_pending n) (p.needed && nat_lt p.index newest && has_passed p.asked timeout time) (missed_at time p) p (missed_at time (placed_pending n p)) (placed_pending n p) refl refl

placed-mark : (n : RegionName) (m : Mark) (w : PlainSend) → with_mark m (placed_send n w) ≡ placed_send n (with_mark m w)
placed-mark n m w = ap (λ ps. record w { packets = ps }) (mapped (marked m) (placed_pending n) (placed_pending n) w.packets (placed-marked n m))

placed-acked-at : (n : RegionName) (o : Option ℕ) (w : PlainSend) → acked_at o (placed_send n w) ≡ placed_send n (acked_at o w)
placed-acked-at n None w = refl
placed-acked-at n (Some t) w =
    pushed (placed_send n) (is_inside w t) (record (with_mark (Acknowledged t) w) { una = t + 1 }) w (record (with_mark (Acknowledged t) (placed_send n w)) { una = t + 1 }) (placed_send n w)
    (ap {A = PlainSend} (λ v. record v { una = t + 1 }) (placed-mark n (Acknowledged t) w)) refl

placed-acked : (n : RegionName) (number : ℕ) (w : PlainSend) → acked number (placed_send n w) ≡ placed_send n (acked number w)
placed-acked n number w = placed-acked-at n (shown number w.start w.una) w

placed-listed-at : (n : RegionName) (o : Option ℕ) (w : PlainSend) → listed_at (placed_send n w) o ≡ listed_at w o
placed-listed-at n None w = refl
placed-listed-at n (Some t) w = refl

placed-listed : (n : RegionName) (ns : List Seq) (w : PlainSend) → listed (placed_send n w) ns ≡ listed w ns
placed-listed n ns w =
    alike (λ m. listed_at (placed_send n w) (shown m.0 w.start w.una)) (λ m. listed_at w (shown m.0 w.start w.una)) ns (λ m. placed-listed-at n (shown m.0 w.start w.una) w)

placed-without-listed : (n : RegionName) (ts : List ℕ) (w : PlainSend) → without_listed ts (placed_send n w) ≡ placed_send n (without_listed ts w)
placed-without-listed n ts w =
    ap (λ ps. record w { packets = ps }) (mapped (λ p. needed_if (not (list_any (λ t. t == p.index) ts)) p) (placed_pending n) (placed_pending n) w.packets (λ p. refl))

placed-heard : (n : RegionName) (ns : List Seq) (time timeout : ℕ) (w : PlainSend) → list_heard ns time timeout (placed_send n w) ≡ placed_send n (list_heard ns time timeout w)
placed-heard n ns time timeout w =
    let m : Mark = Missed (newest_of (listed w ns)) time timeout in
    ap (λ ts. with_mark (Missed (newest_of ts) time timeout) (without_listed ts (placed_send n w))) (placed-listed n ns w)
    ∙ ap (with_mark m) (placed-without-listed n (listed w ns) w)
    ∙ placed-mark n m (without_listed (listed w ns) w)

placed-admitted : (n : RegionName) (b : PlainBuffer) (w : PlainSend) → admitted (placed_buffer n b) (placed_send n w) ≡ placed_send n (admitted b w)
placed-admitted n b w = ap (λ ps. record w { nxt = w.nxt + 1; packets = ps }) (sym (map-append (placed_pending n) w.packets (fresh w.nxt b ∷ [])))

placed-due : (n : RegionName) (time timeout : ℕ) (w : PlainSend) → due_index time timeout (placed_send n w) ≡ due_index time timeout w
placed-due n time timeout w =
    ap (option_map (λ p. p.index)) (found (is_due time timeout) (placed_pending n) w.packets (λ p. refl))
    ∙ unseen-option (λ p. p.index) (placed_pending n) (find (is_due time timeout) w.packets) (λ p. refl)

placed-payload : (n : RegionName) (index : ℕ) (w : PlainSend) → payload_at (placed_send n w) index ≡ payload_at w index
placed-payload n index w =
    ap (λ o. option_map_or (λ p. p.buffer.picture.payload) o []) (found (λ p. p.index == index) (placed_pending n) w.packets (λ p. refl))
    ∙ unseen-or (λ p. p.buffer.picture.payload) (placed_pending n) (find (λ p. p.index == index) w.packets) [] (λ p. refl)

-- ---- the receive window

pub placed-is-kept : (n : RegionName) (t : ℕ) (w : PlainRecv) → is_kept (placed_recv n w) t ≡ is_kept w t
placed-is-kept n t w = any-of (λ k. k.index == t) (placed_kept n) w.kept (λ k. refl)

placed-kept-with : (n : RegionName) (t : ℕ) (b : PlainBuffer) (ks : List Kept) → kept_with t (placed_buffer n b) (map (placed_kept n) ks) ≡ map (placed_kept n) (kept_with t b ks)
placed-kept-with n t b [] = refl
placed-kept-with n t b (k ∷ ks) =
    pushed (map (placed_kept n)) (nat_lt t k.index) (record { index = t; buffer = b } ∷ k ∷ ks) (k ∷ kept_with t b ks)
    (record { index = t; buffer = placed_buffer n b } ∷ placed_kept n k ∷ map (placed_kept n) ks) (placed_kept n k ∷ kept_with t (placed_buffer n b) (map (placed_kept n) ks))
    refl (ap (λ l. placed_kept n k ∷ l) (placed-kept-with n t b ks))

placed-missing : (n : RegionName) (t : ℕ) (ks : List Kept) → missing_from t (map (placed_kept n) ks) ≡ missing_from t ks
placed-missing n t [] = refl
placed-missing n t (k ∷ ks) = ap (λ m. if k.index == t then m else t) (placed-missing n (t + 1) ks)

placed-numbers : (n : RegionName) (w : PlainRecv) → kept_numbers (placed_recv n w) ≡ kept_numbers w
placed-numbers n w = unseen _ (placed_kept n) w.kept (λ k. refl)

placed-next : (n : RegionName) (w : PlainRecv) → next_buffer (placed_recv n w) ≡ option_map (placed_buffer n) (next_buffer w)
placed-next n w =
    ap (option_map (λ k. k.buffer)) (found (λ k. k.index == w.cur + 1) (placed_kept n) w.kept (λ k. refl))
    ∙ mapped-option (λ k. k.buffer) (placed_kept n) (placed_buffer n) (find (λ k. k.index == w.cur + 1) w.kept) (λ k. refl)

placed-without-next : (n : RegionName) (w : PlainRecv) → without_next (placed_recv n w) ≡ placed_recv n (without_next w)
placed-without-next n w = ap (λ ks. record w { kept = ks }) (filtered (λ k. not (k.index == w.cur + 1)) (placed_kept n) w.kept (λ k. refl))

placed-without-first : (n : RegionName) (ks : List Kept) → without_first (map (placed_kept n) ks) ≡ map (placed_kept n) (without_first ks)
placed-without-first n [] = refl
placed-without-first n (k ∷ ks) = refl

-- ---- the row

placed-reset-row : (n : RegionName) (o : Option ℕ) (r : PlainRdp) → reset_row (placed n r) o ≡ reset_row r o
placed-reset-row n None r = refl
placed-reset-row n (Some t) r =
    ap (λ m. if not (t == m) then row.Stray else if t == r.recv.cur + 1 then row.Reset else row.ResetAt t) (placed-missing n (r.recv.cur + 1) r.recv.kept)

placed-data-row : (n : RegionName) (o : Option ℕ) (r : PlainRdp) → data_row (placed n r) o ≡ data_row r o
placed-data-row n None r = refl
placed-data-row n (Some t) r = ap (λ b. if not (is_awaited r.recv t) then row.Outside else if b then row.Duplicate else row.Data t) (placed-is-kept n t r.recv)

placed-ack-row : (n : RegionName) (h : RdpHead) (bytes : List ℕ) (r : PlainRdp) → ack_row (placed n r) h bytes ≡ ack_row r h bytes
placed-ack-row n h bytes r =
    ap (λ y. if has_flag h EAK then row.Lists else if length bytes == 0 then row.Acknowledges else y) (placed-data-row n (index_in r.recv h.seq.0) r)

-- the rows of SynRcvd and Open, where a reset and an acknowledgement come to these
abbrev syn_rcvd_by : StateRow → StateRow → PlainRdp → RdpHead → List ℕ → StateRow
syn_rcvd_by reset ack r h bytes =
    if has_flag h RST then reset
    else if has_flag h SYN && not (has_flag h ACK) && h.seq.0 == r.recv.start then row.Repeated
    else if has_flag h SYN || not (has_flag h ACK) then row.Broken
    else if is_bad_list h bytes then row.Stray
    else if h.ack.0 == r.send.start then ack
    else row.Stray

abbrev open_by : StateRow → StateRow → PlainRdp → RdpHead → List ℕ → StateRow
open_by reset ack r h bytes =
    if has_flag h RST then reset
    else if has_flag h SYN && h.seq.0 == r.recv.start then row.Late
    else if has_flag h SYN || not (has_flag h ACK) then row.Broken
    else if is_bad_list h bytes then row.Stray
    else ack

placed-row-in : (n : RegionName) (s : State) (h : RdpHead) (bytes : List ℕ) (r : PlainRdp) → row_in s (placed n r) h bytes ≡ row_in s r h bytes
placed-row-in n SynSent h bytes r = refl
placed-row-in n SynRcvd h bytes r =
    ap (λ y. syn_rcvd_by y (ack_row (placed n r) h bytes) r h bytes) (placed-reset-row n (index_in r.recv h.seq.0) r)
    ∙ ap (λ y. syn_rcvd_by (reset_row r (index_in r.recv h.seq.0)) y r h bytes) (placed-ack-row n h bytes r)
placed-row-in n Open h bytes r =
    ap (λ y. open_by y (ack_row (placed n r) h bytes) r h bytes) (placed-reset-row n (index_in r.recv h.seq.0) r)
    ∙ ap (λ y. open_by (reset_row r (index_in r.recv h.seq.0)) y r h bytes) (placed-ack-row n h bytes r)
placed-row-in n CloseWait h bytes r = refl
placed-row-in n Closed h bytes r = refl

pub placed-row : (n : RegionName) (h : RdpHead) (bytes : List ℕ) (r : PlainRdp) → row_of (placed n r) h bytes ≡ row_of r h bytes
placed-row n h bytes r = placed-row-in n r.state h bytes r

pub placed-back : (n : RegionName) (y : StateRow) (p : PlainBuffer) → back_of y (placed_buffer n p) ≡ option_map (placed_buffer n) (back_of y p)
placed-back n row.Stray p = refl
placed-back n row.Refused p = refl
placed-back n row.Answered p = refl
placed-back n row.Repeated p = refl
placed-back n row.Late p = refl
placed-back n row.Reset p = refl
placed-back n (row.ResetAt t) p = refl
placed-back n row.Broken p = refl
placed-back n row.Ended p = refl
placed-back n row.Acknowledges p = refl
placed-back n row.Lists p = refl
placed-back n row.Outside p = refl
placed-back n row.Duplicate p = refl
placed-back n (row.Data t) p = refl

-- ---- what happens in it

placed-left : (n : RegionName) (state : State) (time : ℕ) (r : PlainRdp) → left state time (placed n r) ≡ placed n (left state time r)
placed-left n state time r = ap (λ w. record (placed n r) { state = state; since = time; send = w; reset_at = None }) (placed-mark n Abandoned r.send)

placed-broken : (n : RegionName) (time : ℕ) (r : PlainRdp) → broken time (placed n r) ≡ placed n (broken time r)
placed-broken n time r = ap owes_rst (placed-left n CloseWait time r)

placed-reset : (n : RegionName) (time : ℕ) (r : PlainRdp) → owes_rst (left Closed time (placed n r)) ≡ placed n (owes_rst (left Closed time r))
placed-reset n time r = ap owes_rst (placed-left n Closed time r)

placed-entered : (n : RegionName) (state : State) (time : ℕ) (r : PlainRdp) → entered_from state time (placed n r) ≡ placed n (entered_from state time r)
placed-entered n SynSent time r = refl
placed-entered n SynRcvd time r = refl
placed-entered n Open time r = refl
placed-entered n CloseWait time r = refl
placed-entered n Closed time r = refl

placed-acknowledged : (n : RegionName) (number time : ℕ) (r : PlainRdp) → acknowledged number time (placed n r) ≡ placed n (acknowledged number time r)
placed-acknowledged n number time r =
    ap (λ w. record (placed n r) { send = w; since = since_moved r.send.una w.una time r.since }) (placed-acked n number r.send)

placed-acknowledges : (n : RegionName) (o : Option ℕ) (w : PlainSend) → option_map_or (is_inside (placed_send n w)) o false ≡ option_map_or (is_inside w) o false
placed-acknowledges n None w = refl
placed-acknowledges n (Some t) w = refl

placed-listing : (n : RegionName) (b : Bool) (bytes : List ℕ) (time : ℕ) (r : PlainRdp) → listing b bytes time (placed n r) ≡ placed n (listing b bytes time r)
placed-listing n false bytes time r = refl
placed-listing n true bytes time r = ap (λ w. record (placed n r) { send = w }) (placed-heard n (numbers_of bytes) time r.options.packet_timeout r.send)

placed-keeping : (n : RegionName) (t : ℕ) (p : PlainBuffer) (r : PlainRdp) → keeping t (placed_buffer n p) (placed n r) ≡ placed n (keeping t p r)
placed-keeping n t p r =
    ap (λ ks. record (placed n r) { recv = record r.recv { kept = ks }; owed = record r.owed { eak = r.owed.eak || not (t == r.recv.cur + 1) } }) (placed-kept-with n t p r.recv.kept)

placed-heard-now : (n : RegionName) (h : RdpHead) (time : ℕ) (r : PlainRdp) → acknowledged h.ack.0 time (entered time (placed n r)) ≡ placed n (acknowledged h.ack.0 time (entered time r))
placed-heard-now n h time r = ap (acknowledged h.ack.0 time) (placed-entered n r.state time r) ∙ placed-acknowledged n h.ack.0 time (entered time r)

placed-after : (n : RegionName) (y : StateRow) (h : RdpHead) (tag : Option Tag) (p : PlainBuffer) (time : ℕ) (r : PlainRdp) →
    after y h tag (placed_buffer n p) time (placed n r) ≡ placed n (after y h tag p time r)
placed-after n row.Stray h tag p time r = refl
placed-after n row.Refused h tag p time r = placed-left n Closed time r
placed-after n row.Answered h tag p time r = refl
placed-after n row.Repeated h tag p time r = refl
placed-after n row.Late h tag p time r = refl
placed-after n row.Reset h tag p time r = placed-reset n time r
placed-after n (row.ResetAt t) h tag p time r = refl
placed-after n row.Broken h tag p time r = placed-broken n time r
placed-after n row.Ended h tag p time r = placed-left n Closed time r
placed-after n row.Acknowledges h tag p time r = placed-heard-now n h time r
placed-after n row.Lists h tag p time r =
    let bytes = p.picture.payload in
    let number = h.ack.0 in
    let next : PlainRdp = acknowledged number time (entered time (placed n r)) in
    ap (λ b. listing b bytes time next) (placed-acknowledges n (shown number r.send.start r.send.una) r.send)
    ∙ ap (listing (acknowledges r.send number) bytes time) (placed-heard-now n h time r)
    ∙ placed-listing n (acknowledges r.send number) bytes time (acknowledged number time (entered time r))
placed-after n row.Outside h tag p time r = ap owes_eak (placed-entered n r.state time r)
placed-after n row.Duplicate h tag p time r = placed-heard-now n h time r
placed-after n (row.Data t) h tag p time r =
    ap (keeping t (placed_buffer n p)) (placed-heard-now n h time r) ∙ placed-keeping n t p (acknowledged h.ack.0 time (entered time r))

pub placed-handed : (n : RegionName) (h : RdpHead) (tag : Option Tag) (p : PlainBuffer) (time : ℕ) (r : PlainRdp) →
    after_packet h tag (placed_buffer n p) time (placed n r) ≡ placed n (after_packet h tag p time r)
placed-handed n h tag p time r =
    ap (λ y. after y h tag (placed_buffer n p) time (placed n r)) (placed-row n h p.picture.payload r)
    ∙ placed-after n (row_of r h p.picture.payload) h tag p time r

-- ---- the job and its packet

placed-job-in : (n : RegionName) (s : State) (time : ℕ) (r : PlainRdp) → job_in s time (placed n r) ≡ job_in s time r
placed-job-in n SynSent time r = refl
placed-job-in n SynRcvd time r = refl
placed-job-in n Open time r =
    let by : Bool → Bool → Option Job = λ next due.
    if next then Some job.Deliver else if r.owed.eak then Some job.Eak else if due then Some job.Data else if is_ack_due time r then Some job.Ack else None in
    ap (λ next. by next (is_some (due_index time r.options.packet_timeout (placed n r).send))) (ap is_some (placed-next n r.recv) ∙ is-there (placed_buffer n) (next_buffer r.recv))
    ∙ ap (λ o. by (is_some (next_buffer r.recv)) (is_some o)) (placed-due n time r.options.packet_timeout r.send)
placed-job-in n CloseWait time r = refl
placed-job-in n Closed time r = refl

pub placed-job : (n : RegionName) (time : ℕ) (r : PlainRdp) → job_of time (placed n r) ≡ job_of time r
placed-job n time r = ap (λ o. if r.owed.rst then Some job.Rst else o) (placed-job-in n r.state time r)

placed-syn : (n : RegionName) (s : State) (r : PlainRdp) → syn_in s (placed n r) ≡ syn_in s r
placed-syn n SynSent r = refl
placed-syn n SynRcvd r = refl
placed-syn n Open r = refl
placed-syn n CloseWait r = refl
placed-syn n Closed r = refl

placed-sending : (n : RegionName) (time : ℕ) (r : PlainRdp) → sending_index time (placed n r) ≡ sending_index time r
placed-sending n time r = ap (λ o. unwrap_or o 0) (placed-due n time r.options.packet_timeout r.send)

placed-says : (n : RegionName) (j : Job) (time : ℕ) (r : PlainRdp) → says j time (placed n r) ≡ says j time r
placed-says n job.Rst time r = refl
placed-says n job.Syn time r = placed-syn n r.state r
placed-says n job.Deliver time r = refl
placed-says n job.Eak time r =
    let by : List Seq → Says = λ ns. record { flags = EAK + ACK; index = r.send.nxt; ack = r.recv.cur; bytes = flat_map seq_bytes ns } in
    ap by (placed-numbers n r.recv)
placed-says n job.Data time r =
    let by : ℕ → List ℕ → Says = λ index bytes. record { flags = ACK; index = index; ack = r.recv.cur; bytes = bytes } in
    ap (λ i. by i (payload_at (placed n r).send i)) (placed-sending n time r) ∙ ap (by (sending_index time r)) (placed-payload n (sending_index time r) r.send)
placed-says n job.Ack time r = refl

pub placed-filled : (n : RegionName) (j : Job) (time : ℕ) (r : PlainRdp) (b : PlainBuffer) → filled j time (placed n r) b ≡ filled j time r b
placed-filled n j time r b = ap (λ s. filled_with s r b) (placed-says n j time r)

pub placed-sent : (n : RegionName) (j : Job) (time : ℕ) (r : PlainRdp) → sent j time (placed n r) ≡ placed n (sent j time r)
placed-sent n job.Rst time r = refl
placed-sent n job.Syn time r = refl
placed-sent n job.Deliver time r = refl
placed-sent n job.Eak time r = refl
placed-sent n job.Data time r =
    let by : PlainSend → PlainRdp = λ w. record (placed n r) { send = w; owed = without_ack r.owed } in
    ap (λ i. by (with_mark (Sent i time) (placed n r).send)) (placed-sending n time r) ∙ ap by (placed-mark n (Sent (sending_index time r) time) r.send)
placed-sent n job.Ack time r = refl

-- ---- the other steps

pub placed-admitting : (n : RegionName) (b : PlainBuffer) (time : ℕ) (r : PlainRdp) → admitting (placed_buffer n b) time (placed n r) ≡ placed n (admitting b time r)
placed-admitting n b time r = ap (λ w. record (placed n r) { send = w; since = if r.send.una == r.send.nxt then time else r.since }) (placed-admitted n b r.send)

pub placed-delivery : (n : RegionName) (s : State) (r : PlainRdp) → delivery_in s (placed n r) ≡ option_map (placed_buffer n) (delivery_in s r)
placed-delivery n Open r = placed-next n r.recv
placed-delivery n SynSent r = refl
placed-delivery n SynRcvd r = refl
placed-delivery n CloseWait r = refl
placed-delivery n Closed r = refl

pub placed-taken : (n : RegionName) (s : State) (r : PlainRdp) → taken_in s (placed n r) ≡ placed n (taken_in s r)
placed-taken n Open r = ap (λ w. record (placed n r) { recv = w }) (placed-without-next n r.recv)
placed-taken n SynSent r = refl
placed-taken n SynRcvd r = refl
placed-taken n CloseWait r = refl
placed-taken n Closed r = refl

pub placed-again : (n : RegionName) (b : PlainBuffer) (r : PlainRdp) → keeping_again (placed_buffer n b) (placed n r) ≡ placed n (keeping_again b r)
placed-again n b r = ap (λ ks. record (placed n r) { recv = record r.recv { kept = ks } }) (placed-kept-with n (r.recv.cur + 1) b r.recv.kept)

pub placed-reset-after : (n : RegionName) (o : Option ℕ) (time : ℕ) (r : PlainRdp) → reset_after o time (placed n r) ≡ placed n (reset_after o time r)
placed-reset-after n None time r = refl
placed-reset-after n (Some t) time r =
    pushed (placed n) (nat_le t (r.recv.cur + 1)) (owes_rst (left Closed time r)) r (owes_rst (left Closed time (placed n r))) (placed n r) (placed-reset n time r) refl

placed-timed : (n : RegionName) (s : State) (time : ℕ) (r : PlainRdp) → timed_out s time (placed n r) ≡ placed n (timed_out s time r)
placed-timed n SynSent time r = placed-left n Closed time r
placed-timed n SynRcvd time r = placed-left n Closed time r
placed-timed n Open time r = pushed (placed n) (r.send.una == r.send.nxt) r (broken time r) (placed n r) (broken time (placed n r)) refl (placed-broken n time r)
placed-timed n CloseWait time r = placed-left n Closed time r
placed-timed n Closed time r = refl

pub placed-ticked : (n : RegionName) (time : ℕ) (r : PlainRdp) → ticked time (placed n r) ≡ placed n (ticked time r)
placed-ticked n time r =
    pushed (placed n) (has_passed (Some r.since) r.options.conn_timeout time) (timed_out r.state time r) r (timed_out r.state time (placed n r)) (placed n r) (placed-timed n r.state time r) refl

pub placed-closed : (n : RegionName) (s : State) (time : ℕ) (r : PlainRdp) → closed_in s time (placed n r) ≡ placed n (closed_in s time r)
placed-closed n SynSent time r = placed-left n Closed time r
placed-closed n SynRcvd time r = placed-broken n time r
placed-closed n Open time r = placed-broken n time r
placed-closed n CloseWait time r = refl
placed-closed n Closed time r = refl

-- ---- what it holds

placed-sending-of : (n : RegionName) (ps : List Pending) → sending (map (placed_pending n) ps) ≡ map (placed_buffer n) (sending ps)
placed-sending-of n ps = mapped (λ p. p.buffer) (placed_pending n) (placed_buffer n) ps (λ p. refl)

placed-keeping-of : (n : RegionName) (ks : List Kept) → keeping_ (map (placed_kept n) ks) ≡ map (placed_buffer n) (keeping_ ks)
placed-keeping-of n ks = mapped (λ k. k.buffer) (placed_kept n) (placed_buffer n) ks (λ k. refl)

-- two lists that are both of this region, one after the other
placed-both : (n : RegionName) (bs ds us vs : List PlainBuffer) → us ≡ map (placed_buffer n) bs → vs ≡ map (placed_buffer n) ds → us ++ vs ≡ map (placed_buffer n) (bs ++ ds)
placed-both n bs ds us vs e f = ap (λ l. l ++ vs) e ∙ ap (λ l. map (placed_buffer n) bs ++ l) f ∙ sym (map-append (placed_buffer n) bs ds)

placed-useless : (n : RegionName) (s : State) (w : PlainRecv) → useless_buffers s (placed_recv n w) ≡ map (placed_buffer n) (useless_buffers s w)
placed-useless n Open w = refl
placed-useless n SynSent w = placed-keeping-of n w.kept
placed-useless n SynRcvd w = placed-keeping-of n w.kept
placed-useless n CloseWait w = placed-keeping-of n w.kept
placed-useless n Closed w = placed-keeping-of n w.kept

pub placed-unneeded : (n : RegionName) (r : PlainRdp) → unneeded (placed n r) ≡ map (placed_buffer n) (unneeded r)
placed-unneeded n r =
    let loose = ap sending (filtered is_loose (placed_pending n) r.send.packets (λ p. refl)) ∙ placed-sending-of n (filter is_loose r.send.packets) in
    placed-both n (loose_buffers r.send) (useless_buffers r.state r.recv) (loose_buffers (placed n r).send) (useless_buffers r.state (placed n r).recv) loose (placed-useless n r.state r.recv)

placed-recv-rested : (n : RegionName) (s : State) (w : PlainRecv) → recv_rested s (placed_recv n w) ≡ placed_recv n (recv_rested s w)
placed-recv-rested n Open w = refl
placed-recv-rested n SynSent w = refl
placed-recv-rested n SynRcvd w = refl
placed-recv-rested n CloseWait w = refl
placed-recv-rested n Closed w = refl

pub placed-rested : (n : RegionName) (r : PlainRdp) → rested (placed n r) ≡ placed n (rested r)
placed-rested n r =
    let by : List Pending → PlainRecv → PlainRdp = λ ps w. record r { send = record r.send { packets = ps }; recv = w } in
    ap (λ ps. by ps (recv_rested r.state (placed n r).recv)) (filtered (λ p. p.needed) (placed_pending n) r.send.packets (λ p. refl))
    ∙ ap (by (map (placed_pending n) (filter (λ p. p.needed) r.send.packets))) (placed-recv-rested n r.state r.recv)

pub placed-out : (n : RegionName) (ps : List Pending) (r : PlainRdp) → taken_out_of (map (placed_pending n) ps) (placed n r) ≡ placed n (taken_out_of ps r)
placed-out n [] r = ap (λ ks. record (placed n r) { recv = record r.recv { kept = ks } }) (placed-without-first n r.recv.kept)
placed-out n (p ∷ ps) r = refl

pub placed-buffers : (n : RegionName) (r : PlainRdp) → rdp_buffers (placed n r) ≡ map (placed_buffer n) (rdp_buffers r)
placed-buffers n r =
    let ps = r.send.packets in
    let ks = r.recv.kept in
    placed-both n (sending ps) (keeping_ ks) (sending (map (placed_pending n) ps)) (keeping_ (map (placed_kept n) ks)) (placed-sending-of n ps) (placed-keeping-of n ks)

pub placed-rdp-numbers : (n : RegionName) (r : PlainRdp) → rdp_numbers (placed n r) ≡ rdp_numbers r
placed-rdp-numbers n r =
    ap (λ l. l ++ map (λ k. k.buffer.picture.number) (placed n r).recv.kept) (unseen (λ p. p.buffer.picture.number) (placed_pending n) r.send.packets (λ p. refl))
    ∙ ap (λ l. map (λ p. p.buffer.picture.number) r.send.packets ++ l) (unseen (λ k. k.buffer.picture.number) (placed_kept n) r.recv.kept (λ k. refl))
