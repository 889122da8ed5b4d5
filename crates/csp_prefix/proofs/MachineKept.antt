-- What the receive window of a reliable connection keeps: payloads of its peer's flow at their indices.
use Rattle.std.proofs.Common.{◌≡◌, ℕ, ◌+◌, ◌-◌, Bool, true, false, not, cond, List, [], ◌∷◌, ◌++◌, take, Option, Some, refl, ap, ◌∙◌, sym, subst, arith}
use Rattle.std.specs.Prelude.{◌==◌, if◌then◌else◌, nat_lt, pos, slice_get}
use Rattle.std.specs.List.{All, filter, find}
use Rattle.std.specs.Int.{abs_diff}
use Rattle.std.specs.Option.{option_map}
use Rattle.std.proofs.Math.Numerals.{add-one}
use Rattle.std.proofs.lemmas.Bool.{eqb-true, leb-false}
use Rattle.std.proofs.lemmas.Int.{ints}
use Rattle.std.proofs.lemmas.List.Elements.{All-cons, All-filter, All-head, All-nil, All-tail}
use Rattle.csp_base.specs.Sequence.{near, number_of}
use Rattle.csp_base.specs.declared.traces.Tag.{Tag}
use Rattle.csp_base.proofs.Public.{near_is}
use Rattle.csp_buffer.specs.PlainBuffer.{PlainBuffer}
use Rattle.csp_record.specs.Stale.{is_far}
use Rattle.csp_rdp_header.specs.declared.head.RdpHead.{RdpHead}
use Rattle.csp_rdp_window.specs.Receiving.{Kept, kept_with}
use Rattle.csp_rdp_window.specs.Shown.{index_of}
use Rattle.csp_rdp.specs.Jobs.{delivery_in}
use Rattle.csp_rdp.specs.Machine.{PlainRdp, flow_of}
use Rattle.csp_rdp.specs.declared.answers.State.{State}
use Rattle.csp_rdp.specs.declared.answers.State.TheVariants.{Closed, SynSent, SynRcvd, Open, CloseWait}
use Rattle.csp_rdp_window.specs.Receiving.{next_buffer}
use Rattle.csp_prefix.specs.Flows.{Flows, IsSaid}
use Rattle.csp_prefix.specs.Machines.{IsFed}
use Rattle.csp_prefix.proofs.MachineLists.{take-more}
use Rattle.csp_prefix.proofs.MachineSteps.{Carries}

-- each of those kept has a payload that was said, at its index
abbrev pub AreSaid : List (List ℕ) → List Kept → Type 0
AreSaid said ks = All (λ k. IsSaid said k.index k.buffer.picture.payload) ks

-- one more is kept
pub said-with : (said : List (List ℕ)) (t : ℕ) (b : PlainBuffer) (ks : List Kept) → IsSaid said t b.picture.payload → AreSaid said ks → AreSaid said (kept_with t b ks)
said-with said t b [] here all = All-cons (λ k. IsSaid said k.index k.buffer.picture.payload) (record { index = t; buffer = b }) [] here all
said-with said t b (k ∷ ks) here all =
    go (nat_lt t k.index) (said-with said t b ks here (All-tail (λ k. IsSaid said k.index k.buffer.picture.payload) k ks all))
  where
    go : (c : Bool) → AreSaid said (kept_with t b ks) → AreSaid said (if c then record { index = t; buffer = b } ∷ k ∷ ks else k ∷ kept_with t b ks)
    go true rest = All-cons (λ k. IsSaid said k.index k.buffer.picture.payload) (record { index = t; buffer = b }) (k ∷ ks) here all
    go false rest = All-cons (λ k. IsSaid said k.index k.buffer.picture.payload) k (kept_with t b ks) (All-head (λ k. IsSaid said k.index k.buffer.picture.payload) k ks all) rest

-- one that is found has what was said
pub said-found : (said : List (List ℕ)) (u : ℕ) (b : PlainBuffer) (ks : List Kept) → AreSaid said ks → option_map (λ k. k.buffer) (find (λ k. k.index == u) ks) ≡ Some b → IsSaid said u b.picture.payload
said-found said u b [] all e = absurd cc
said-found said u b (k ∷ ks) all e =
    go (k.index == u) refl e (said-found said u b ks (All-tail (λ k. IsSaid said k.index k.buffer.picture.payload) k ks all))
  where
    go : (c : Bool) → (k.index == u) ≡ c → option_map (λ k. k.buffer) (cond c (Some k) (find (λ k. k.index == u) ks)) ≡ Some b
        → (option_map (λ k. k.buffer) (find (λ k. k.index == u) ks) ≡ Some b → IsSaid said u b.picture.payload) → IsSaid said u b.picture.payload
    go true same f rest =
        let is : k.index ≡ u = eqb-true k.index u same in
        let buffer : k.buffer ≡ b = cc in
        subst (λ c. IsSaid said u c.picture.payload) buffer
        (subst (λ i. IsSaid said i k.buffer.picture.payload) is (All-head (λ k. IsSaid said k.index k.buffer.picture.payload) k ks all))
    go false same f rest = rest f

-- and is taken out
pub said-taken : (said : List (List ℕ)) (u : ℕ) (ks : List Kept) → AreSaid said ks → AreSaid said (filter (λ k. not (k.index == u)) ks)
said-taken said u ks all = All-filter (λ k. not (k.index == u)) (λ k. IsSaid said k.index k.buffer.picture.payload) ks all

pub said-none : (said : List (List ℕ)) (ks : List Kept) → ks ≡ [] → AreSaid said ks
said-none said ks e = subst (λ l. AreSaid said l) (sym e) (All-nil (λ k. IsSaid said k.index k.buffer.picture.payload))

-- the next one of a connection that is open
pub next-found : (s : State) (r : PlainRdp) (b : PlainBuffer) → delivery_in s r ≡ Some b → next_buffer r.recv ≡ Some b
next-found SynSent r b e = absurd cc
next-found SynRcvd r b e = absurd cc
next-found Open r b e = e
next-found CloseWait r b e = absurd cc
next-found Closed r b e = absurd cc

-- ---- the beginning of what was said

pub place-next : (said : List (List ℕ)) (cur : ℕ) (payload : List ℕ) → IsSaid said (cur + 1) payload → slice_get said cur ≡ Some payload
place-next said cur payload i = let same : cur + 1 - 1 ≡ cur = omega arith in subst (λ k. slice_get said k ≡ Some payload) same i.there

pub take-next : (said : List (List ℕ)) (cur : ℕ) (payload : List ℕ) → IsSaid said (cur + 1) payload → take (cur + 1) said ≡ take cur said ++ payload ∷ []
take-next said cur payload i = rw add-one (take-more said cur payload (place-next said cur payload i))

-- ---- data that comes

-- a number not far from where the connection stands shows its index
index-near : (start cur index : ℕ) (n : ℕ) → is_far index cur ≡ false → n ≡ number_of start (pos index) → near n start (pos cur) ≡ pos index
index-near start cur index n far e =
    let close = leb-false 32768 (abs_diff index cur) far in
    near_is n start (pos cur) (pos index) (record { shown = sym e; above = omega (arith, ints, close); below = omega (arith, ints, close) })

-- so what is kept was said
pub data-said : (flows : Flows) (r : PlainRdp) (h : RdpHead) (tag : Option Tag) (bytes : List ℕ) (t : ℕ) (flow : ℕ × ℕ) → IsFed flows r h tag bytes → r.peer ≡ Some flow
    → r.recv.start ≡ flows.start flow → Carries r h bytes t → IsSaid (flows.said flow) t bytes
data-said flows r h tag bytes t flow fed peer start c =
    let named = fed.peer flow peer in
    let true_of = fed.genuine named.0 named.1 in
    let number = true_of.number c.data_is in
    let starts : flows.start (flow_of named.0) ≡ r.recv.start = ap flows.start named.2 ∙ sym start in
    let shows = index-near r.recv.start r.recv.cur named.0.index h.seq.0 named.3 (number ∙ ap (λ s. number_of s (pos named.0.index)) starts) in
    let both : Some named.0.index ≡ Some t = sym (ap index_of shows) ∙ c.shown in
    let same : named.0.index ≡ t = cc in
    subst (λ f. IsSaid (flows.said f) t bytes) named.2 (subst (λ i. IsSaid (flows.said (flow_of named.0)) i bytes) same (true_of.payload c.data_is))
