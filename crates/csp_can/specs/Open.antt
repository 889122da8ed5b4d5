use Rattle.std.specs.Prelude.{ℕ, ◌-◌, Bool, nat_lt, nat_le, if◌then◌else◌, Option, List, [], ◌∷◌, ◌++◌, length, map, filter, find, fold}
use Rattle.std.specs.Option.{option_map, option_to_list}
use Rattle.std.specs.List.{flat_map}
use Rattle.csp_can.specs.declared.answers.CanAnswer.{CanAnswer}
use Rattle.csp_can.specs.declared.identifiers.Key.{Key}
use Rattle.csp_can.specs.declared.partials.Partial.{Partial}
use Rattle.csp_can.specs.declared.partials.TheConstants.{MAX_PARTIALS, GIVE_UP}
use Rattle.csp_can.specs.Begins.{begin_header, begin_length, begin_payload}
use Rattle.csp_can.specs.Identifiers.{key_of, same_key}
use Rattle.csp_can.specs.Frames.{Frame}
use Rattle.csp_can.specs.Rules.{Arrival, Deed, leaves, ends, opens, goes_on, Ruling, ruling_of, opened_partial, grown_partial}

-- what is kept of a partial packet: what the rules see of it, what a BEGIN frame leaves, and what one more frame leaves
pub record Keeping (K : Type 0) : Type 0 where
  pub shown : K → Partial
  pub opened : Arrival → K
  pub grown : K → Arrival → K

-- the list without the first element that passes
abbrev pub remove_first : {K : Type 0} → (K → Bool) → List K → List K
remove_first p [] = []
remove_first p (k ∷ ks) = if p k then ks else k ∷ remove_first p ks

-- the answer that a ruling gives
abbrev pub answer_of : Ruling → CanAnswer
answer_of r = record { restarted = r.restarted; event = r.event }

module _ {K : Type 0} (keeping : Keeping K) where
  -- the partial packets that are not given up: their last frame came less than 1,000 rounds ago
  abbrev pub fresh : ℕ → List K → List K
  fresh now ks = filter (λ k. nat_lt (now - (keeping.shown k).time) GIVE_UP) ks

  -- the partial packet of a key
  abbrev pub standing : Key → List K → Option K
  standing key ks = find (λ k. same_key (keeping.shown k).key key) ks

  -- the partial packets without that of a key, which stands at most once
  abbrev pub without : Key → List K → List K
  without key ks = remove_first (λ k. same_key (keeping.shown k).key key) ks

  -- the ruling on a frame where these partial packets stand
  abbrev pub ruling : (mtu : ℕ) → List K → Arrival → Ruling
  ruling mtu ks a =
      ruling_of mtu a.frame.head.kind (option_map keeping.shown (standing (key_of a.frame.head) ks)) (nat_le MAX_PARTIALS (length ks)) a

  -- the partial packets after a frame of this key: `one` is what it opens, and `grown` what it goes on with
  abbrev pub done : Deed → (key : Key) → (one : K) → (grown ks : List K) → List K
  done leaves key one grown ks = ks
  done ends key one grown ks = without key ks
  done opens key one grown ks = without key ks ++ one ∷ []
  done goes_on key one grown ks = without key ks ++ grown

  -- the partial packet of a frame's key, with the frame, where one stands
  abbrev pub gone_on : List K → Arrival → List K
  gone_on ks a = option_to_list (option_map (λ k. keeping.grown k a) (standing (key_of a.frame.head) ks))

  -- the answer to a frame: first what is too old is given up, then the ruling
  abbrev pub answer : (mtu : ℕ) → List K → Arrival → CanAnswer
  answer mtu ks a = answer_of (ruling mtu (fresh a.time ks) a)

  -- the partial packets after it
  abbrev pub next : (mtu : ℕ) → List K → Arrival → List K
  next mtu ks a =
      let left = fresh a.time ks in
      done (ruling mtu left a).deed (key_of a.frame.head) (keeping.opened a) (gone_on left a) left

-- counters and bytes in the place of whole frames
abbrev pub counters : Keeping Partial
counters = record { shown = λ p. p; opened = opened_partial; grown = grown_partial }

-- whole frames: the BEGIN frame, and the MORE frames after it, in the order in which they came
pub record Kept : Type 0 where
  pub begin : Arrival
  pub more : List Arrival

-- the last of these
abbrev pub last_of : Arrival → List Arrival → Arrival
last_of a [] = a
last_of a (b ∷ bs) = last_of b bs

-- the payload bytes of these frames, joined
abbrev pub joined : Frame → List Frame → List ℕ
joined begin more = begin_payload begin.bytes ++ flat_map (λ f. f.bytes) more

-- what the rules see of the frames kept: header, length and trace are the BEGIN frame's, remain and time the last one's
abbrev pub shown_frames : Kept → Partial
shown_frames k =
    record {
      key = key_of k.begin.frame.head;
      header = begin_header k.begin.frame.bytes;
      length = begin_length k.begin.frame.bytes;
      payload = record { items = joined k.begin.frame (map (λ a. a.frame) k.more) };
      remain = (last_of k.begin k.more).frame.head.remain;
      time = (last_of k.begin k.more).time;
      trace = k.begin.trace;
    }

-- a partial packet kept as the frames that came: the first, and those after it in order
abbrev pub whole_frames : Keeping Kept
whole_frames =
    record {
      shown = shown_frames;
      opened = λ a. record { begin = a; more = [] };
      grown = λ k a. record k { more = k.more ++ a ∷ [] };
    }

-- the partial packets, with the frames kept of each, after a history of frames
abbrev pub open_after : (mtu : ℕ) → List Arrival → List Kept
open_after mtu history = fold (next whole_frames mtu) [] history

-- what the counters show of the frames kept
abbrev pub shown_partials : List Kept → List Partial
shown_partials ks = map shown_frames ks
