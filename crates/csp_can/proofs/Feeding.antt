-- The frames of a chain, fed alone, give Part until the last, and there Whole.
use Rattle.std.proofs.Common.{◌≡◌, ℕ, ◌+◌, ◌-◌, ◌<◌, ◌≤◌, Bool, true, false, cond, nat_lt, Option, Some, None, List, [], ◌∷◌, ◌++◌, length, map, take, refl, sym, subst, ap, ◌∙◌, append-nil, append_assoc, replicate, arith}
use Rattle.std.specs.Prelude.{nat_le}
use Rattle.std.specs.Option.{option_map, option_to_list}
use Rattle.std.proofs.Math.Seq.{take-append_seam}
use Rattle.std.proofs.lemmas.List.{length-append, map-append}
use Rattle.std.proofs.lemmas.Bool.{lt-ltb, le-ltb, eq-eqb, and_from}
use Rattle.csp_can.specs.declared.answers.CanAnswer.{CanAnswer}
use Rattle.csp_can.specs.declared.answers.CanEvent.TheVariants.{ShortBegin, TooLong, BadRemain}
use Rattle.csp_can.specs.declared.identifiers.Key.{Key}
use Rattle.csp_can.specs.declared.identifiers.Kind.TheVariants.{Begin, More}
use Rattle.csp_can.specs.declared.partials.TheConstants.{MAX_PARTIALS, GIVE_UP}
use Rattle.csp_can.specs.Begins.{begin_length, begin_payload}
use Rattle.csp_can.specs.Identifiers.{key_of, same_key}
use Rattle.csp_can.specs.Frames.{Frame}
use Rattle.csp_can.specs.Rules.{Arrival, refused, leaves, ends, opens, goes_on, Ruling, opened_partial, grown_partial, measured, ruling_of}
use Rattle.csp_can.specs.Open.{fresh, standing, without, ruling, done, gone_on, answer, answer_of, next, Kept, joined, shown_frames, whole_frames}
use Rattle.csp_can.specs.Chains.{CountsDown, IsChain, Chain}
use Rattle.csp_can.specs.Alone.{answers, Prompt, part, whole, ReadsAs}
use Rattle.csp_can.proofs.Counted.{last_of-push, joined-push}
use Rattle.csp_can.proofs.Sound.{measured_same, measured_less, last_remain, last_remain-arrivals}

-- every frame has this key
abbrev pub OfKey : Key → List Frame → Type 0
OfKey key [] = Unit {0}
OfKey key (f ∷ fs) = (key_of f.head ≡ key) × OfKey key fs

same_key-self : (key : Key) → same_key key key ≡ true
same_key-self key =
    and_from _ _ (and_from _ _ (eq-eqb key.source key.source refl) (eq-eqb key.dest key.dest refl)) (eq-eqb key.id key.id refl)

-- a MORE frame that comes in time for the one partial packet that stands, which is of its key
module _ (mtu : ℕ) (k : Kept) (b : Arrival) (kind : b.frame.head.kind ≡ More) (key : key_of b.frame.head ≡ key_of k.begin.frame.head)
    (prompt : b.time - (shown_frames k).time < GIVE_UP) (next_one : b.frame.head.remain + 1 ≡ (shown_frames k).remain) where
  abbrev said : Ruling
  said = measured false (grown_partial (shown_frames k) b) goes_on

  here : same_key (shown_frames k).key (key_of b.frame.head) ≡ true
  here = ap (λ (q : Key). same_key (shown_frames k).key q) key ∙ same_key-self (key_of k.begin.frame.head)

  fresh_one : fresh whole_frames b.time (k ∷ []) ≡ k ∷ []
  fresh_one = ap (λ (t : Bool). cond t (k ∷ []) []) (lt-ltb (b.time - (shown_frames k).time) GIVE_UP prompt)

  standing_one : standing whole_frames (key_of b.frame.head) (k ∷ []) ≡ Some k
  standing_one = ap (λ (t : Bool). cond t (Some k) None) here

  without_one : without whole_frames (key_of b.frame.head) (k ∷ []) ≡ []
  without_one = ap (λ (t : Bool). cond t [] (k ∷ [])) here

  ruling_one : ruling whole_frames mtu (fresh whole_frames b.time (k ∷ [])) b ≡ said
  ruling_one =
      ap (λ (ks : List Kept). ruling whole_frames mtu ks b) fresh_one
      ∙ (λ i. ruling_of mtu (kind i) (option_map shown_frames (standing_one i)) (nat_le MAX_PARTIALS 1) b)
      ∙ ap (λ (t : Bool). cond t said (refused BadRemain ends)) (eq-eqb (b.frame.head.remain + 1) (shown_frames k).remain next_one)

  gone_on_one : gone_on whole_frames (k ∷ []) b ≡ whole_frames.grown k b ∷ []
  gone_on_one = ap (λ (o : Option Kept). option_to_list (option_map (λ q. whole_frames.grown q b) o)) standing_one

  answer_one : answer whole_frames mtu (k ∷ []) b ≡ answer_of said
  answer_one = ap answer_of ruling_one

  after_one : said.deed ≡ goes_on → next whole_frames mtu (k ∷ []) b ≡ whole_frames.grown k b ∷ []
  after_one deed =
      (λ i. done whole_frames (ruling_one i).deed (key_of b.frame.head) (whole_frames.opened b) (gone_on whole_frames (fresh_one i) b) (fresh_one i))
      ∙ (λ i. done whole_frames (deed i) (key_of b.frame.head) (whole_frames.opened b) (gone_on_one i) (k ∷ []))
      ∙ ap (λ (ks : List Kept). ks ++ whole_frames.grown k b ∷ []) without_one

-- the frame in the middle of frames that count down
CountsDown-middle : (remain : ℕ) (front : List Frame) (f : Frame) (back : List Frame) → CountsDown remain (front ++ f ∷ back) → (f.head.kind ≡ More) × (f.head.remain + 1 ≡ last_remain remain front)
CountsDown-middle remain [] f back down = (down.0, down.1)
CountsDown-middle remain (g ∷ gs) f back down = CountsDown-middle g.head.remain gs f back down.2

-- the rest of a chain, where its first frames are the one partial packet that stands
feed : (mtu : ℕ) (k : Kept) (b : Arrival) (later : List Arrival) (h : ℕ) (p : List ℕ)
    → IsChain k.begin.frame (map (λ a. a.frame) k.more ++ b.frame ∷ map (λ a. a.frame) later) h p
    → OfKey (key_of k.begin.frame.head) (b.frame ∷ map (λ a. a.frame) later) → Prompt (shown_frames k).time (b ∷ later)
    → answers mtu (k ∷ []) (b ∷ later) ≡ replicate (length later) part ++ whole h p k.begin.trace ∷ []
feed mtu k b [] h p chain keys prompt =
    let begin = k.begin.frame in
    let more : List Frame = map (λ a. a.frame) k.more in
    let mid = CountsDown-middle begin.head.remain more b.frame [] chain.counts_down in
    let payload : joined begin more ++ b.frame.bytes ≡ p = sym (joined-push begin more b.frame) ∙ chain.payload_is in
    let len : begin_length begin.bytes ≡ length (joined begin more ++ b.frame.bytes) = chain.length_is ∙ ap length (sym payload) in
    let is = measured_same false (grown_partial (shown_frames k) b) goes_on len in
    let answered : answer whole_frames mtu (k ∷ []) b ≡ whole h p k.begin.trace =
    answer_one mtu k b mid.0 keys.0 prompt.0 (mid.1 ∙ sym (last_remain-arrivals k.begin k.more))
    ∙ ap answer_of is
    ∙ (λ i. whole (chain.header_is i) (payload i) k.begin.trace) in
    ap (λ (x : CanAnswer). x ∷ []) answered
feed mtu k b (c ∷ later) h p chain keys prompt =
    let begin = k.begin.frame in
    let more : List Frame = map (λ a. a.frame) k.more in
    let back : List Frame = c.frame ∷ map (λ a. a.frame) later in
    let mid = CountsDown-middle begin.head.remain more b.frame back chain.counts_down in
    let split : more ++ b.frame ∷ back ≡ (more ++ b.frame ∷ []) ++ back = sym (append_assoc more (b.frame ∷ []) back) in
    let chain2 : IsChain begin ((more ++ b.frame ∷ []) ++ back) h p = subst (λ (fs : List Frame). IsChain begin fs h p) split chain in
    let longer = length-append (more ++ b.frame ∷ []) back in
    let front = chain2.no_shorter (length (more ++ b.frame ∷ [])) (omega arith) in
    let taken : take (length (more ++ b.frame ∷ [])) ((more ++ b.frame ∷ []) ++ back) ≡ more ++ b.frame ∷ [] = take-append_seam (more ++ b.frame ∷ []) back in
    let bytes : joined begin (take (length (more ++ b.frame ∷ [])) ((more ++ b.frame ∷ []) ++ back)) ≡ joined begin more ++ b.frame.bytes = ap (joined begin) taken ∙ joined-push begin more b.frame in
    let same = ap length bytes in
    let len = chain.length_is in
    let less : length (joined begin more ++ b.frame.bytes) < begin_length begin.bytes = omega arith in
    let is = measured_less false (grown_partial (shown_frames k) b) goes_on less in
    let remain = mid.1 ∙ sym (last_remain-arrivals k.begin k.more) in
    let answered : answer whole_frames mtu (k ∷ []) b ≡ part = answer_one mtu k b mid.0 keys.0 prompt.0 remain ∙ ap answer_of is in
    let moved = after_one mtu k b mid.0 keys.0 prompt.0 remain (ap (λ (r : Ruling). r.deed) is) in
    let frames : map (λ (a : Arrival). a.frame) (k.more ++ b ∷ []) ≡ more ++ b.frame ∷ [] = map-append (λ (a : Arrival). a.frame) k.more (b ∷ []) in
    let chain3 = subst (λ (fs : List Frame). IsChain begin (fs ++ back) h p) (sym frames) chain2 in
    let last = last_of-push k.begin k.more b in
    let on_time = subst (λ (a : Arrival). Prompt a.time (c ∷ later)) (sym last) prompt.1 in
    let rest = feed mtu (whole_frames.grown k b) c later h p chain3 keys.1 on_time in
    (λ i. answered i ∷ answers mtu (moved i) (c ∷ later)) ∙ ap (λ (xs : List CanAnswer). part ∷ xs) rest

-- the ruling on a BEGIN frame with a length that a packet may have, where nothing stands
begin_alone : (mtu : ℕ) (a : Arrival) → a.frame.head.kind ≡ Begin → 6 ≤ length a.frame.bytes → begin_length a.frame.bytes ≤ mtu
    → ruling whole_frames mtu [] a ≡ measured false (opened_partial a) opens
begin_alone mtu a kind enough fits =
    let is = measured false (opened_partial a) opens in
    (λ i. ruling_of mtu (kind i) None (nat_le MAX_PARTIALS 0) a)
    ∙ ap (λ (t : Bool). cond t (refused ShortBegin leaves) (cond (nat_lt mtu (begin_length a.frame.bytes)) (refused TooLong leaves) is)) (le-ltb (length a.frame.bytes) 6 enough)
    ∙ ap (λ (t : Bool). cond t (refused TooLong leaves) is) (le-ltb mtu (begin_length a.frame.bytes) fits)

-- a chain fed alone
pub chain_reads : (mtu : ℕ) (a : Arrival) (later : List Arrival) (h : ℕ) (p : List ℕ) → IsChain a.frame (map (λ b. b.frame) later) h p → OfKey (key_of a.frame.head) (map (λ b. b.frame) later)
    → length p ≤ mtu → Prompt a.time later → answers mtu [] (a ∷ later) ≡ replicate (length later) part ++ whole h p a.trace ∷ []
chain_reads mtu a [] h p chain keys fits prompt =
    let bytes = a.frame.bytes in
    let payload : begin_payload bytes ≡ p = sym (append-nil (begin_payload bytes)) ∙ chain.payload_is in
    let len : begin_length bytes ≡ length (begin_payload bytes) = chain.length_is ∙ ap length (sym payload) in
    let small = chain.length_is in
    let is = begin_alone mtu a chain.kind chain.enough (omega arith) ∙ measured_same false (opened_partial a) opens len in
    let answered : answer whole_frames mtu [] a ≡ whole h p a.trace = ap answer_of is ∙ (λ i. whole (chain.header_is i) (payload i) a.trace) in
    ap (λ (x : CanAnswer). x ∷ []) answered
chain_reads mtu a (c ∷ later) h p chain keys fits prompt =
    let bytes = a.frame.bytes in
    let small = chain.length_is in
    let front = chain.no_shorter 0 (omega arith) in
    let same = ap length (append-nil (begin_payload bytes)) in
    let less : length (begin_payload bytes) < begin_length bytes = omega arith in
    let is = begin_alone mtu a chain.kind chain.enough (omega arith) ∙ measured_less false (opened_partial a) opens less in
    let answered : answer whole_frames mtu [] a ≡ part = ap answer_of is in
    let moved : next whole_frames mtu [] a ≡ whole_frames.opened a ∷ [] = (λ i. done whole_frames (is i).deed (key_of a.frame.head) (whole_frames.opened a) [] []) in
    let rest = feed mtu (whole_frames.opened a) c later h p chain keys prompt in
    (λ i. answered i ∷ answers mtu (moved i) (c ∷ later)) ∙ ap (λ (xs : List CanAnswer). part ∷ xs) rest

-- all frames have the first one's key
abbrev pub OneKey : List Frame → Type 0
OneKey [] = Unit {0}
OneKey (f ∷ fs) = OfKey (key_of f.head) fs

pub reads_as : (mtu : ℕ) (frames : List Frame) (h : ℕ) (p : List ℕ) → Chain frames h p → OneKey frames → length p ≤ mtu → ReadsAs mtu frames h p
reads_as mtu frames h p chain key fits a later are prompt =
    chain_reads mtu a later h p (subst (λ (fs : List Frame). Chain fs h p) (sym are) chain) (subst OneKey (sym are) key) fits prompt
