-- A frame's answer is Whole exactly where it makes its key's list a chain.
use Rattle.std.proofs.Common.{◌≡◌, ℕ, zero, suc, ◌+◌, ◌-◌, ◌<◌, ◌≤◌, ◌&&◌, ◌||◌, Bool, true, false, not, nat_lt, nat_eq, Option, Some, None, List, [], ◌∷◌, ◌++◌, length, map, take, refl, sym, subst, ap, ◌∙◌, append-nil, arith, ◌↔◌}
use Rattle.std.specs.Prelude.{nat_le, fold, find, filter, is_some}
use Rattle.std.specs.Option.{option_map, option_to_list}
use Rattle.std.specs.List.{flat_map}
use Rattle.std.proofs.lemmas.List.{length-append, take-append-le, map-append}
use Rattle.std.proofs.lemmas.Bool.{cond_both, false≢true, ltb-true, ltb-false, lt-ltb, leb-true, leb-false, eqb-true, eqb-false}
use Rattle.arrayvec.specs.ArrayVec.{ArrayVec}
use Rattle.csp_base.specs.declared.traces.Trace.{Trace}
use Rattle.csp_can.specs.declared.answers.CanAnswer.{CanAnswer}
use Rattle.csp_can.specs.declared.answers.CanEvent.TheVariants.{Part, Whole, ShortBegin, BadRemain, TooMuch, TooLong, NoRoom}
use Rattle.csp_can.specs.declared.identifiers.Kind.{Kind}
use Rattle.csp_can.specs.declared.identifiers.Kind.TheVariants.{Begin, More}
use Rattle.csp_can.specs.declared.identifiers.Key.{Key}
use Rattle.csp_can.specs.declared.partials.Partial.{Partial}
use Rattle.csp_can.specs.declared.partials.TheConstants.{MAX_PARTIALS, GIVE_UP}
use Rattle.csp_can.specs.Begins.{begin_header, begin_length, begin_payload}
use Rattle.csp_can.specs.Identifiers.{key_of, same_key}
use Rattle.csp_can.specs.Frames.{Frame}
use Rattle.csp_can.specs.Rules.{Arrival, Deed, leaves, ends, opens, goes_on, Ruling, refused, opened_partial, grown_partial, measured, begin_ruling, more_ruling, ruling_of}
use Rattle.csp_can.specs.Open.{remove_first, fresh, standing, without, ruling, done, gone_on, answer, next, Kept, last_of, joined, shown_frames, whole_frames, open_after, counters, shown_partials}
use Rattle.csp_can.specs.Chains.{CountsDown, IsChain, Chain, chain_with, chain_trace, Completes}
use Rattle.csp_can.proofs.Counted.{joined-push, answer_counted}

-- a fact of what a partial packet is measured as, by three cases
pub measured_by : (stood : Bool) (q : Partial) (part : Deed) (P : Ruling → Type 0)
    → (q.length < length q.payload.items → P (record { restarted = stood; event = TooMuch; deed = ends }))
    → (q.length ≡ length q.payload.items → P (record { restarted = stood; event = Whole q.header q.payload q.trace; deed = ends }))
    → (length q.payload.items < q.length → P (record { restarted = stood; event = Part; deed = part }))
    → P (measured stood q part)
measured_by stood q part P much same less =
    let len = q.length in
    let payload = q.payload.items in
    cond_both (nat_lt len (length payload)) _ _ P (λ e. much (ltb-true len (length payload) e))
    (λ e.
    cond_both (nat_eq (length payload) len) _ _ P (λ f. same (sym (eqb-true (length payload) len f)))
    (λ f. less (let apart = eqb-false (length payload) len f in let le = ltb-false len (length payload) e in omega arith)))

-- what is measured as whole
measured_whole : (stood : Bool) (q : Partial) (part : Deed) (h : ℕ) (p : List ℕ) (t : Trace)
    → (measured stood q part).event ≡ Whole h (record { items = p }) t → (q.header ≡ h) × (q.length ≡ length q.payload.items) × (q.payload.items ≡ p) × (q.trace ≡ t)
measured_whole stood q part h p t =
    measured_by stood q part (λ r. r.event ≡ Whole h (record { items = p }) t → (q.header ≡ h) × (q.length ≡ length q.payload.items) × (q.payload.items ≡ p) × (q.trace ≡ t))
    (λ _ e. cc)
    (λ same e.
    let bytes : ◌≡◌ {A = ArrayVec ℕ} q.payload (record { items = p }) = cc in
    (cc, same, ap (λ (v : ArrayVec ℕ). v.items) bytes, cc))
    (λ _ e. cc)

pub measured_same : (stood : Bool) (q : Partial) (part : Deed)
    → q.length ≡ length q.payload.items → measured stood q part ≡ record { restarted = stood; event = Whole q.header q.payload q.trace; deed = ends }
measured_same stood q part e =
    measured_by stood q part (λ r. r ≡ record { restarted = stood; event = Whole q.header q.payload q.trace; deed = ends })
    (λ h. absurd (omega arith)) (λ h. refl) (λ h. absurd (omega arith))

pub measured_less : (stood : Bool) (q : Partial) (part : Deed) → length q.payload.items < q.length → measured stood q part ≡ record { restarted = stood; event = Part; deed = part }
measured_less stood q part e =
    measured_by stood q part (λ r. r ≡ record { restarted = stood; event = Part; deed = part })
    (λ h. absurd (omega arith)) (λ h. absurd (omega arith)) (λ h. refl)

whole_measured : (stood : Bool) (q : Partial) (part : Deed) → q.length ≡ length q.payload.items → (measured stood q part).event ≡ Whole q.header q.payload q.trace
whole_measured stood q part e = ap (λ (r : Ruling). r.event) (measured_same stood q part e)

-- what is measured as a part
measured_part : (stood : Bool) (q : Partial) (part : Deed) → (part ≡ ends → ⊥) → (measured stood q part).deed ≡ part → length q.payload.items < q.length
measured_part stood q part apart =
    measured_by stood q part (λ r. r.deed ≡ part → length q.payload.items < q.length)
    (λ _ e. absurd (apart (sym e))) (λ _ e. absurd (apart (sym e))) (λ less _. less)

-- a fact of the ruling on a BEGIN frame, by four cases
pub begin_by : (mtu : ℕ) (stood full : Bool) (a : Arrival) (P : Ruling → Type 0)
    → P (refused ShortBegin leaves) → P (refused TooLong leaves) → P (refused NoRoom leaves)
    → (6 ≤ length a.frame.bytes → begin_length a.frame.bytes ≤ mtu → (not stood && full) ≡ false
    → P (measured stood (opened_partial a) opens))
    → P (begin_ruling mtu stood full a)
begin_by mtu stood full a P short long room opened =
    cond_both (nat_lt (length a.frame.bytes) 6) _ _ P (λ _. short)
    (λ e.
    cond_both (nat_lt mtu (begin_length a.frame.bytes)) _ _ P (λ _. long)
    (λ f.
    cond_both (not stood && full) _ _ P (λ _. room)
    (λ g. opened (ltb-false (length a.frame.bytes) 6 e) (ltb-false mtu (begin_length a.frame.bytes) f) g)))

-- a fact of the ruling on a MORE frame where a partial packet stands, by two cases
pub more_by : (q : Partial) (a : Arrival) (P : Ruling → Type 0)
    → P (refused BadRemain ends)
    → (a.frame.head.remain + 1 ≡ q.remain → P (measured false (grown_partial q a) goes_on))
    → P (more_ruling (Some q) a)
more_by q a P bad good =
    cond_both (nat_eq (a.frame.head.remain + 1) q.remain) _ _ P (λ e. good (eqb-true (a.frame.head.remain + 1) q.remain e)) (λ _. bad)

-- the remain of the last frame
abbrev pub last_remain : ℕ → List Frame → ℕ
last_remain remain [] = remain
last_remain remain (f ∷ fs) = last_remain f.head.remain fs

pub last_remain-arrivals : (b : Arrival) (bs : List Arrival) → (last_of b bs).frame.head.remain ≡ last_remain b.frame.head.remain (map (λ a. a.frame) bs)
last_remain-arrivals b [] = refl
last_remain-arrivals b (c ∷ cs) = last_remain-arrivals c cs

CountsDown-push : (remain : ℕ) (more : List Frame) (f : Frame) → CountsDown remain more → f.head.kind ≡ More → f.head.remain + 1 ≡ last_remain remain more → CountsDown remain (more ++ f ∷ [])
CountsDown-push remain [] f down kind next = (kind, next, tt)
CountsDown-push remain (g ∷ gs) f down kind next = (down.0, down.1, CountsDown-push g.head.remain gs f down.2 kind next)

CountsDown-last : (remain : ℕ) (more : List Frame) (f : Frame) → CountsDown remain (more ++ f ∷ []) → f.head.remain + 1 ≡ last_remain remain more
CountsDown-last remain [] f down = down.1
CountsDown-last remain (g ∷ gs) f down = CountsDown-last g.head.remain gs f down.2

-- a front of the frames has no more bytes than all of them
front_bytes : (n : ℕ) (more : List Frame) → length (flat_map (λ f. f.bytes) (take n more)) ≤ length (flat_map (λ f. f.bytes) more)
front_bytes zero more = omega arith
front_bytes (suc n) [] = omega arith
front_bytes (suc n) (f ∷ fs) = omega (arith, front_bytes n fs, length-append f.bytes (flat_map (λ g. g.bytes) (take n fs)), length-append f.bytes (flat_map (λ g. g.bytes) fs))

front_joined : (begin : Frame) (n : ℕ) (more : List Frame) → length (joined begin (take n more)) ≤ length (joined begin more)
front_joined begin n more =
    omega (arith, front_bytes n more, length-append (begin_payload begin.bytes) (flat_map (λ f. f.bytes) (take n more)), length-append (begin_payload begin.bytes) (flat_map (λ f. f.bytes) more))

-- what holds of the frames kept of a partial packet
record Sound (mtu : ℕ) (k : Kept) : Type 0 where
  kind : k.begin.frame.head.kind ≡ Begin
  enough : 6 ≤ length k.begin.frame.bytes
  counts_down : CountsDown k.begin.frame.head.remain (map (λ a. a.frame) k.more)
  short : length (joined k.begin.frame (map (λ a. a.frame) k.more)) < begin_length k.begin.frame.bytes
  fits : begin_length k.begin.frame.bytes ≤ mtu

-- ---- a chain of one frame

-- the packet of one BEGIN frame
one_chain : (f : Frame) (h : ℕ) (p : List ℕ) → f.head.kind ≡ Begin → 6 ≤ length f.bytes → begin_header f.bytes ≡ h → begin_length f.bytes ≡ length (begin_payload f.bytes) → begin_payload f.bytes ≡ p → IsChain f [] h p
one_chain f h p kind enough header len payload =
    record {
      kind = kind;
      enough = enough;
      header_is = header;
      length_is = len ∙ ap length payload;
      counts_down = tt;
      payload_is = append-nil (begin_payload f.bytes) ∙ payload;
      no_shorter = λ n e. absurd (omega arith);
    }

-- room, as the ruling asks for it
room : (stood : Bool) (n : ℕ) → (not stood && nat_le MAX_PARTIALS n) ≡ false → (stood || nat_lt n MAX_PARTIALS) ≡ true
room true n e = refl
room false n e = lt-ltb n MAX_PARTIALS (leb-false MAX_PARTIALS n e)

no_room : (stood : Bool) (n : ℕ) → (stood || nat_lt n MAX_PARTIALS) ≡ true → (not stood && nat_le MAX_PARTIALS n) ≡ true → ⊥
no_room true n e f = false≢true f
no_room false n e f = let less = ltb-true n MAX_PARTIALS e in let more = leb-true MAX_PARTIALS n f in omega arith

begin_completes : (mtu : ℕ) (stood : Bool) (n : ℕ) (a : Arrival) (h : ℕ) (p : List ℕ) (t : Trace) → a.frame.head.kind ≡ Begin
    → (begin_ruling mtu stood (nat_le MAX_PARTIALS n) a).event ≡ Whole h (record { items = p }) t
    → ((stood || nat_lt n MAX_PARTIALS) ≡ true) × IsChain a.frame [] h p × (t ≡ a.trace) × (length p ≤ mtu)
begin_completes mtu stood n a h p t kind =
    begin_by mtu stood (nat_le MAX_PARTIALS n) a (λ r. r.event ≡ Whole h (record { items = p }) t → ((stood || nat_lt n MAX_PARTIALS) ≡ true) × IsChain a.frame [] h p × (t ≡ a.trace) × (length p ≤ mtu))
    (λ e. cc) (λ e. cc) (λ e. cc)
    (λ enough fits free e.
    let w = measured_whole stood (opened_partial a) opens h p t e in
    let total = w.1 ∙ ap length w.2 in
    (room stood n free, one_chain a.frame h p kind enough w.0 w.1 w.2, sym w.3, omega arith))

begin_completed : (mtu : ℕ) (stood : Bool) (n : ℕ) (a : Arrival) (h : ℕ) (p : List ℕ) (t : Trace) → (stood || nat_lt n MAX_PARTIALS) ≡ true → IsChain a.frame [] h p → t ≡ a.trace → length p ≤ mtu
    → (begin_ruling mtu stood (nat_le MAX_PARTIALS n) a).event ≡ Whole h (record { items = p }) t
begin_completed mtu stood n a h p t free chain trace fits =
    let bytes = a.frame.bytes in
    let payload : begin_payload bytes ≡ p = sym (append-nil (begin_payload bytes)) ∙ chain.payload_is in
    let len : begin_length bytes ≡ length (begin_payload bytes) = chain.length_is ∙ ap length (sym payload) in
    let enough = chain.enough in
    let whole = chain.length_is in
    cond_both (nat_lt (length bytes) 6) _ _ (λ (r : Ruling). r.event ≡ Whole h (record { items = p }) t) (λ e. absurd (let less = ltb-true (length bytes) 6 e in omega arith))
    (λ _.
    cond_both (nat_lt mtu (begin_length bytes)) _ _ (λ (r : Ruling). r.event ≡ Whole h (record { items = p }) t) (λ e. absurd (let less = ltb-true mtu (begin_length bytes) e in omega arith))
    (λ _.
    cond_both (not stood && nat_le MAX_PARTIALS n) _ _ (λ (r : Ruling). r.event ≡ Whole h (record { items = p }) t) (λ e. absurd (no_room stood n free e))
    (λ _.
    whole_measured stood (opened_partial a) opens len
    ∙ (λ i. Whole (chain.header_is i) (record { items = payload i }) (sym trace i)))))

-- ---- a chain that a MORE frame completes

more_completes : (mtu : ℕ) (k : Kept) (a : Arrival) (h : ℕ) (p : List ℕ) (t : Trace) → Sound mtu k → a.frame.head.kind ≡ More
    → (more_ruling (Some (shown_frames k)) a).event ≡ Whole h (record { items = p }) t
    → IsChain k.begin.frame (map (λ a. a.frame) k.more ++ a.frame ∷ []) h p × (t ≡ k.begin.trace) × (length p ≤ mtu)
more_completes mtu k a h p t sound kind =
    let f = a.frame in
    let begin = k.begin.frame in
    let more : List Frame = map (λ a. a.frame) k.more in
    more_by (shown_frames k) a (λ r. r.event ≡ Whole h (record { items = p }) t → IsChain begin (more ++ f ∷ []) h p × (t ≡ k.begin.trace) × (length p ≤ mtu))
    (λ e. cc)
    (λ next e.
    let w = measured_whole false (grown_partial (shown_frames k) a) goes_on h p t e in
    let total : length p ≡ begin_length begin.bytes = ap length (sym w.2) ∙ sym w.1 in
    let short = sound.short in (
      record {
        kind = sound.kind;
        enough = sound.enough;
        header_is = w.0;
        length_is = sym total;
        counts_down = CountsDown-push begin.head.remain more f sound.counts_down kind (next ∙ last_remain-arrivals k.begin k.more);
        payload_is = joined-push begin more f ∙ w.2;
        no_shorter = λ n e.
            let front : take n (more ++ f ∷ []) ≡ take n more = take-append-le n more (f ∷ []) (let len = length-append more (f ∷ []) in omega arith) in
            let fewer = front_joined begin n more in
            let same = ap (λ (fs : List Frame). length (joined begin fs)) front in
            omega arith;
      },
      sym w.3,
      (let fits = sound.fits in omega arith),
    ))

more_completed : (k : Kept) (a : Arrival) (h : ℕ) (p : List ℕ) (t : Trace) → IsChain k.begin.frame (map (λ a. a.frame) k.more ++ a.frame ∷ []) h p → t ≡ k.begin.trace
    → (more_ruling (Some (shown_frames k)) a).event ≡ Whole h (record { items = p }) t
more_completed k a h p t chain trace =
    let f = a.frame in
    let begin = k.begin.frame in
    let more : List Frame = map (λ a. a.frame) k.more in
    let next : f.head.remain + 1 ≡ (shown_frames k).remain = CountsDown-last begin.head.remain more f chain.counts_down ∙ sym (last_remain-arrivals k.begin k.more) in
    let payload : joined begin more ++ f.bytes ≡ p = sym (joined-push begin more f) ∙ chain.payload_is in
    let len : begin_length begin.bytes ≡ length (joined begin more ++ f.bytes) = chain.length_is ∙ ap length (sym payload) in
    cond_both (nat_eq (f.head.remain + 1) (shown_frames k).remain) _ _ (λ (r : Ruling). r.event ≡ Whole h (record { items = p }) t)
    (λ _.
    whole_measured false (grown_partial (shown_frames k) a) goes_on len
    ∙ (λ i. Whole (chain.header_is i) (record { items = payload i }) (sym trace i)))
    (λ e. absurd (eqb-false (f.head.remain + 1) (shown_frames k).remain e next))

-- ---- both, by the kind of the frame

AllSound : (mtu : ℕ) → Option Kept → Type 0
AllSound mtu None = Unit {0}
AllSound mtu (Some k) = Sound mtu k

begin_not_more : {X : Type 0} (kind : Kind) → kind ≡ Begin → kind ≡ More → X
begin_not_more kind b m = cc

completes : (mtu : ℕ) (kind : Kind) (kept : Option Kept) (n : ℕ) (a : Arrival) (h : ℕ) (p : List ℕ) (t : Trace) → a.frame.head.kind ≡ kind → AllSound mtu kept
    → (ruling_of mtu kind (option_map shown_frames kept) (nat_le MAX_PARTIALS n) a).event ≡ Whole h (record { items = p }) t
    → ((is_some kept || nat_lt n MAX_PARTIALS) ≡ true) × Chain (chain_with kind kept a.frame) h p × (t ≡ chain_trace kind kept a.trace) × (length p ≤ mtu)
unfolding AllSound
completes mtu Begin None n a h p t is sound e = begin_completes mtu false n a h p t is e
completes mtu Begin (Some k) n a h p t is sound e = begin_completes mtu true n a h p t is e
completes mtu More None n a h p t is sound e = cc
completes mtu More (Some k) n a h p t is sound e = let w = more_completes mtu k a h p t sound is e in (refl, w.0, w.1, w.2)

completed : (mtu : ℕ) (kind : Kind) (kept : Option Kept) (n : ℕ) (a : Arrival) (h : ℕ) (p : List ℕ) (t : Trace) → a.frame.head.kind ≡ kind
    → ((is_some kept || nat_lt n MAX_PARTIALS) ≡ true) × Chain (chain_with kind kept a.frame) h p × (t ≡ chain_trace kind kept a.trace) × (length p ≤ mtu)
    → (ruling_of mtu kind (option_map shown_frames kept) (nat_le MAX_PARTIALS n) a).event ≡ Whole h (record { items = p }) t
completed mtu Begin None n a h p t is w = begin_completed mtu false n a h p t w.0 w.1 w.2 w.3
completed mtu Begin (Some k) n a h p t is w = begin_completed mtu true n a h p t w.0 w.1 w.2 w.3
completed mtu More None n a h p t is w = begin_not_more a.frame.head.kind w.1.kind is
completed mtu More (Some k) n a h p t is w = more_completed k a h p t w.1 w.2

-- ---- every partial packet that stands is sound

abbrev pub Each : {K : Type 0} → (K → Type 0) → List K → Type 0
Each P [] = Unit {0}
Each P (k ∷ ks) = P k × Each P ks

pub Each-filter : {K : Type 0} (P : K → Type 0) (test : K → Bool) (ks : List K) → Each P ks → Each P (filter test ks)
Each-filter P test [] e = tt
Each-filter {K} P test (k ∷ ks) e =
    cond_both (test k) _ _ (λ (xs : List K). Each P xs) (λ _. (e.0, Each-filter P test ks e.1)) (λ _. Each-filter P test ks e.1)

pub Each-remove_first : {K : Type 0} (P : K → Type 0) (test : K → Bool) (ks : List K) → Each P ks → Each P (remove_first test ks)
Each-remove_first P test [] e = tt
Each-remove_first {K} P test (k ∷ ks) e =
    cond_both (test k) _ _ (λ (xs : List K). Each P xs) (λ _. e.1) (λ _. (e.0, Each-remove_first P test ks e.1))

pub Each-append : {K : Type 0} (P : K → Type 0) (xs ys : List K) → Each P xs → Each P ys → Each P (xs ++ ys)
Each-append P [] ys e f = f
Each-append P (x ∷ xs) ys e f = (e.0, Each-append P xs ys e.1 f)

AllSound-find : (mtu : ℕ) (test : Kept → Bool) (ks : List Kept) → Each (Sound mtu) ks → AllSound mtu (find test ks)
unfolding AllSound
AllSound-find mtu test [] e = tt
AllSound-find mtu test (k ∷ ks) e =
    cond_both (test k) _ _ (λ (o : Option Kept). AllSound mtu o) (λ _. e.0) (λ _. AllSound-find mtu test ks e.1)

-- a frame that opens a partial packet leaves a sound one
opens_sound : (mtu : ℕ) (kind : Kind) (kept : Option Kept) (n : ℕ) (a : Arrival) → a.frame.head.kind ≡ kind
    → (ruling_of mtu kind (option_map shown_frames kept) (nat_le MAX_PARTIALS n) a).deed ≡ opens → Sound mtu (whole_frames.opened a)
opens_sound mtu Begin kept n a is =
    begin_by mtu (is_some (option_map shown_frames kept)) (nat_le MAX_PARTIALS n) a (λ r. r.deed ≡ opens → Sound mtu (whole_frames.opened a))
    (λ e. cc) (λ e. cc) (λ e. cc)
    (λ enough fits free e.
    let less = measured_part (is_some (option_map shown_frames kept)) (opened_partial a) opens (λ f. cc) e in
    let none = ap length (append-nil (begin_payload a.frame.bytes)) in
    record { kind = is; enough = enough; counts_down = tt; short = omega arith; fits = fits })
opens_sound mtu More None n a is = λ e. cc
opens_sound mtu More (Some k) n a is =
    more_by (shown_frames k) a (λ r. r.deed ≡ opens → Sound mtu (whole_frames.opened a)) (λ e. cc)
    (λ next.
    measured_by false (grown_partial (shown_frames k) a) goes_on (λ r. r.deed ≡ opens → Sound mtu (whole_frames.opened a))
    (λ _ e. cc) (λ _ e. cc) (λ _ e. cc))

-- one that goes on leaves a sound one
grown_sound : (mtu : ℕ) (k : Kept) (a : Arrival) → Sound mtu k → a.frame.head.kind ≡ More → a.frame.head.remain + 1 ≡ (shown_frames k).remain
    → length (joined k.begin.frame (map (λ b. b.frame) k.more) ++ a.frame.bytes) < begin_length k.begin.frame.bytes → Sound mtu (whole_frames.grown k a)
grown_sound mtu k a sound kind next less =
    let begin = k.begin.frame in
    let more : List Frame = map (λ b. b.frame) k.more in
    let frames : map (λ (b : Arrival). b.frame) (k.more ++ a ∷ []) ≡ more ++ a.frame ∷ [] = map-append (λ (b : Arrival). b.frame) k.more (a ∷ []) in
    let down : CountsDown begin.head.remain (more ++ a.frame ∷ []) = CountsDown-push begin.head.remain more a.frame sound.counts_down kind (next ∙ last_remain-arrivals k.begin k.more) in
    let bytes = ap length (joined-push begin more a.frame) in
    let short : length (joined begin (more ++ a.frame ∷ [])) < begin_length begin.bytes = omega arith in
    record {
      kind = sound.kind;
      enough = sound.enough;
      counts_down = subst (λ (fs : List Frame). CountsDown begin.head.remain fs) (sym frames) down;
      short = subst (λ (fs : List Frame). length (joined begin fs) < begin_length begin.bytes) (sym frames) short;
      fits = sound.fits;
    }

goes_on_sound : (mtu : ℕ) (kind : Kind) (kept : Option Kept) (n : ℕ) (a : Arrival) → a.frame.head.kind ≡ kind → AllSound mtu kept
    → (ruling_of mtu kind (option_map shown_frames kept) (nat_le MAX_PARTIALS n) a).deed ≡ goes_on → Each (Sound mtu) (option_to_list (option_map (λ k. whole_frames.grown k a) kept))
unfolding AllSound
goes_on_sound mtu kind None n a is sound = λ e. tt
goes_on_sound mtu Begin (Some k) n a is sound =
    begin_by mtu true (nat_le MAX_PARTIALS n) a (λ r. r.deed ≡ goes_on → Sound mtu (whole_frames.grown k a) × Unit {0})
    (λ e. cc) (λ e. cc) (λ e. cc)
    (λ enough fits free.
    measured_by true (opened_partial a) opens (λ r. r.deed ≡ goes_on → Sound mtu (whole_frames.grown k a) × Unit {0})
    (λ _ e. cc) (λ _ e. cc) (λ _ e. cc))
goes_on_sound mtu More (Some k) n a is sound =
    more_by (shown_frames k) a (λ r. r.deed ≡ goes_on → Sound mtu (whole_frames.grown k a) × Unit {0}) (λ e. cc)
    (λ next e. (
      grown_sound mtu k a sound is next
          (measured_part false (grown_partial (shown_frames k) a) goes_on (λ f. cc) e),
      tt,
    ))

done_sound : (mtu : ℕ) (d : Deed) (key : Key) (one : Kept) (grown : List Kept) (ks : List Kept) → Each (Sound mtu) ks → (d ≡ opens → Sound mtu one) → (d ≡ goes_on → Each (Sound mtu) grown)
    → Each (Sound mtu) (done whole_frames d key one grown ks)
done_sound mtu leaves key one grown ks all opened more = all
done_sound mtu ends key one grown ks all opened more = Each-remove_first (Sound mtu) (λ k. same_key (shown_frames k).key key) ks all
done_sound mtu opens key one grown ks all opened more =
    Each-append (Sound mtu) (without whole_frames key ks) (one ∷ []) (Each-remove_first (Sound mtu) (λ k. same_key (shown_frames k).key key) ks all) (opened refl, tt)
done_sound mtu goes_on key one grown ks all opened more =
    Each-append (Sound mtu) (without whole_frames key ks) grown (Each-remove_first (Sound mtu) (λ k. same_key (shown_frames k).key key) ks all) (more refl)

fresh_sound : (mtu : ℕ) (now : ℕ) (ks : List Kept) → Each (Sound mtu) ks → Each (Sound mtu) (fresh whole_frames now ks)
fresh_sound mtu now ks all = Each-filter (Sound mtu) (λ k. nat_lt (now - (shown_frames k).time) GIVE_UP) ks all

next_sound : (mtu : ℕ) (ks : List Kept) (a : Arrival) → Each (Sound mtu) ks → Each (Sound mtu) (next whole_frames mtu ks a)
next_sound mtu ks a all =
    let left = fresh whole_frames a.time ks in
    let sound = fresh_sound mtu a.time ks all in
    let key = key_of a.frame.head in
    let kept = standing whole_frames key left in
    done_sound mtu (ruling whole_frames mtu left a).deed key (whole_frames.opened a) (gone_on whole_frames left a) left sound
    (opens_sound mtu a.frame.head.kind kept (length left) a refl)
    (goes_on_sound mtu a.frame.head.kind kept (length left) a refl (AllSound-find mtu (λ k. same_key (shown_frames k).key key) left sound))

from_sound : (mtu : ℕ) (ks : List Kept) (history : List Arrival) → Each (Sound mtu) ks → Each (Sound mtu) (fold (next whole_frames mtu) ks history)
from_sound mtu ks [] all = all
from_sound mtu ks (a ∷ history) all = from_sound mtu (next whole_frames mtu ks a) history (next_sound mtu ks a all)

-- after any history, the answer to a frame is Whole exactly where it completes a chain
pub whole_exactly : (mtu : ℕ) (history : List Arrival) (a : Arrival) (h : ℕ) (p : List ℕ) (t : Trace)
    → ((answer whole_frames mtu (open_after mtu history) a).event ≡ Whole h (record { items = p }) t) ↔ Completes mtu (open_after mtu history) a h p t
whole_exactly mtu history a h p t =
    let left = fresh whole_frames a.time (open_after mtu history) in
    let key = key_of a.frame.head in
    let kept = standing whole_frames key left in
    let sound = AllSound-find mtu (λ k. same_key (shown_frames k).key key) left (fresh_sound mtu a.time (open_after mtu history) (from_sound mtu [] history tt)) in
    (completes mtu a.frame.head.kind kept (length left) a h p t refl sound, completed mtu a.frame.head.kind kept (length left) a h p t refl)

-- the same for what the counters answer
pub counters_exactly : (mtu : ℕ) (old : List Partial) (a : Arrival) (r : CanAnswer) → r ≡ answer counters mtu old a
    → (history : List Arrival) → old ≡ shown_partials (open_after mtu history) → (h : ℕ) (p : List ℕ) (t : Trace)
    → (r.event ≡ Whole h (record { items = p }) t) ↔ Completes mtu (open_after mtu history) a h p t
counters_exactly mtu old a r said history was h p t =
    let told : r ≡ answer whole_frames mtu (open_after mtu history) a = said ∙ ap (λ (ps : List Partial). answer counters mtu ps a) was ∙ sym (answer_counted mtu (open_after mtu history) a) in
    subst (λ (s : CanAnswer). (s.event ≡ Whole h (record { items = p }) t) ↔ Completes mtu (open_after mtu history) a h p t) (sym told) (whole_exactly mtu history a h p t)
