-- The steps of a pool keep its rule.
use Rattle.std.proofs.Common.{◌≡◌, ◌≢◌, ℕ, ◌+◌, ◌<◌, ◌≤◌, List, [], ◌∷◌, ◌++◌, length, set, sym, refl, ap, ◌∙◌, ⊎_elim, arith, le_trans, length-append, append-nil, append_assoc, max}
use Rattle.std.specs.Prelude.{◌==◌, cond}
use Rattle.std.specs.List.{sum_by}
use Rattle.std.proofs.lemmas.List.Elements.{All-nil, All-head, All-tail, All-push}
use Rattle.std.proofs.lemmas.List.Sums.{sum_by-append, sum_by_push}
use mathlib.Core.Option.{some, some-ne-none}
use mathlib.Core.List.{map-append}
use lib.ListN.{get_elem?, length-map}
use Rattle.csp_arena.specs.Cells.{RegionName}
use Rattle.csp_buffer.specs.Memory.{AreAllOf}
use Rattle.csp_buffer.specs.PlainBuffer.{PlainBuffer}
use Rattle.crossbeam_queue.specs.Fifo.{Pushes, Pops, Forks, Merges, Learns}
use Rattle.crossbeam_queue.proofs.Lists.{at_set}
use Rattle.csp_ring.specs.Finds.{Finds}
use Rattle.csp_pool.specs.declared.hand.Hand.{Hand}
use Rattle.csp_pool.specs.Fairness.{puts_of, takes_of, IsAdditive, IsSound, FitsIn, Fair, Closes, HasClosed}
use Rattle.csp_pool.specs.Hands.{IsLive, IsAlone, first_hand, opening_hand, spent_hand, with_region, took, took_all, gave, found_empty, found_full, split_left, split_right, told_hand, report_of, news_of, both}
use Rattle.csp_pool.specs.PlainPool.{numbers}
use Rattle.csp_pool.specs.Tallies.{Tally, blank, accounted, known_total}
use Rattle.csp_pool.proofs.Totals.{Others, each_set, each_snoc, changed, share, pair, only}

abbrev Hands : Type 0
Hands = List Hand

pub more_sound : (n k : ℕ) (t : Tally) → n ≤ k → IsSound n t → IsSound k t
more_sound n k t le s = record { known = le_trans s.known le; reached = le_trans s.reached le }

pub more_fits : (r : RegionName) (p t p' t' : ℕ) (v : Hand) → p ≤ p' → t ≤ t' → FitsIn r p t v → FitsIn r p' t' v
more_fits r p t p' t' v a b f = record { puts_true = more_sound p p' v.puts a f.puts_true; takes_true = more_sound t t' v.takes b f.takes_true; live = f.live; idle = f.idle; away = f.away }

lengths : IsAdditive length
lengths xs ys = length-append xs ys

-- what a pass knows was done
knows_puts : (items : List PlainBuffer) (views : Hands) (r : Fair items views) (i : ℕ) (v : Hand) → get_elem? views i ≡ some v → known_total v.puts ≤ puts_of views
knows_puts items views r i v at = let k = (r.fits i v at).puts_true.known in let s = share (λ (u : Hand). accounted u.puts) views i v at in let e = r.puts_told in omega arith

knows_takes : (items : List PlainBuffer) (views : Hands) (r : Fair items views) (i : ℕ) (v : Hand) → get_elem? views i ≡ some v → known_total v.takes ≤ takes_of views
knows_takes items views r i v at = let k = (r.fits i v at).takes_true.known in let s = share (λ (u : Hand). accounted u.takes) views i v at in let e = r.takes_told in omega arith

-- one pass makes a step by which it stays what it was, and its lists and the items change alike
stepped : (items items' : List PlainBuffer) (views : Hands) (i : ℕ) (v w : Hand) (r : Fair items views) (region : RegionName) → get_elem? views i ≡ some v → AreAllOf region items' → w.opens ≡ v.opens → w.part ≡ v.part → w.out ≡ v.out
    → ((m : List ℕ → ℕ) → IsAdditive m → m w.put + m v.taken + m (numbers items) ≡ m v.put + m w.taken + m (numbers items'))
    → accounted w.puts + length v.put ≡ accounted v.puts + length w.put → accounted w.takes + length v.taken ≡ accounted v.takes + length w.taken → length v.put ≤ length w.put → length v.taken ≤ length w.taken
    → ((p t : ℕ) → p + length v.put ≡ puts_of views + length w.put → t + length v.taken ≡ takes_of views + length w.taken → FitsIn region p t w)
    → Others (FitsIn region (puts_of views) (takes_of views)) i views → Fair items' (set views i w)
stepped items items' views i v w r region at of_it opens part out weighs puts takes more_puts more_takes mine others =
    let np = changed (λ (u : Hand). length u.put) views i v w at in let nt = changed (λ (u : Hand). length u.taken) views i v w at in
    record {
      region = region;
      of_it = of_it;
      one_opens = let a = changed (λ (u : Hand). u.opens) views i v w at in let b = r.one_opens in omega arith;
      parted = let a = changed (λ (u : Hand). u.part) views i v w at in let b = changed (λ (u : Hand). u.out) views i v w at in let c = r.parted in omega arith;
      weighs = λ m additive.
          let a = changed (λ (u : Hand). m u.put) views i v w at in let b = changed (λ (u : Hand). m u.taken) views i v w at in let c = r.weighs m additive in let d = weighs m additive in omega arith;
      puts_told = let a = changed (λ (u : Hand). accounted u.puts) views i v w at in let c = r.puts_told in omega arith;
      takes_told = let a = changed (λ (u : Hand). accounted u.takes) views i v w at in let c = r.takes_told in omega arith;
      fits = each_set (FitsIn region (puts_of (set views i w)) (takes_of (set views i w))) views i w (mine (puts_of (set views i w)) (takes_of (set views i w)) np nt)
          (λ j u n e. more_fits region (puts_of views) (takes_of views) (puts_of (set views i w)) (takes_of (set views i w)) u (let k = np in omega arith) (let k = nt in omega arith) (others j u n e));
    }

-- the same in the region that it is
steps : (items items' : List PlainBuffer) (views : Hands) (i : ℕ) (v w : Hand) (r : Fair items views) → get_elem? views i ≡ some v → AreAllOf r.region items' → w.opens ≡ v.opens → w.part ≡ v.part → w.out ≡ v.out
    → ((m : List ℕ → ℕ) → IsAdditive m → m w.put + m v.taken + m (numbers items) ≡ m v.put + m w.taken + m (numbers items'))
    → accounted w.puts + length v.put ≡ accounted v.puts + length w.put → accounted w.takes + length v.taken ≡ accounted v.takes + length w.taken → length v.put ≤ length w.put → length v.taken ≤ length w.taken
    → ((p t : ℕ) → p + length v.put ≡ puts_of views + length w.put → t + length v.taken ≡ takes_of views + length w.taken → FitsIn r.region p t w) → Fair items' (set views i w)
steps items items' views i v w r at of_it opens part out weighs puts takes more_puts more_takes mine =
    stepped items items' views i v w r r.region at of_it opens part out weighs puts takes more_puts more_takes mine (λ j u _ e. r.fits j u e)

-- by every measure, a list with one more
one_more_by : (m : List ℕ → ℕ) → IsAdditive m → (ns : List ℕ) (n : ℕ) → m (ns ++ n ∷ []) ≡ m ns + m (n ∷ [])
one_more_by m additive ns n = additive ns (n ∷ [])

pub gives : (n i : ℕ) (v : Hand) (x : PlainBuffer) → IsLive v → x.region ≡ v.region → Pushes Fair n i v x (λ w. w ≡ gave (with_region v x.region) x.picture.number)
gives c i v x alive same items views short r at = let n : ℕ = x.picture.number in let w : Hand = gave (with_region v x.region) n in let f = r.fits i v at in let long : length w.put ≡ length v.put + 1 = length-append v.put (n ∷ []) in (
  w,
  steps items (items ++ x ∷ []) views i v w r at (All-push (λ b. b.region ≡ r.region) items x r.of_it (same ∙ f.live alive)) refl refl refl
      (λ m additive. let a = one_more_by m additive v.put n in let b = additive (numbers items) (n ∷ []) in let c = ap m (map-append (λ (b : PlainBuffer). b.picture.number) items (x ∷ [])) in omega arith)
      (omega arith) refl (omega arith) (omega arith)
      (λ p t a b. record {
        puts_true = record { known = let k = f.puts_true.known in omega arith; reached = let k = f.puts_true.reached in omega arith };
        takes_true = more_sound (takes_of views) t v.takes (omega arith) f.takes_true;
        live = λ _. same ∙ f.live alive;
        idle = λ none. absurd (let k : 0 < v.opens + v.part = alive in omega arith);
        away = f.away;
      }),
  refl,
)

-- ---- the opening pass, alone
-- what isn't it is no pass
others_idle : (items : List PlainBuffer) (views : Hands) (r : Fair items views) (i : ℕ) (v : Hand) → get_elem? views i ≡ some v → IsAlone v → (j : ℕ) (u : Hand) → j ≢ i → get_elem? views j ≡ some u → u.opens + u.part ≡ 0
others_idle items views r i v at alone j u other e =
    let opens : (k : ℕ) (x : Hand) → k ≢ i → get_elem? views k ≡ some x → x.opens ≡ 0 = λ k x n d. let a = pair (λ (y : Hand). y.opens) views i k v x n at d in let b = r.one_opens in let c : v.opens ≡ 1 = alone.0 in omega arith in
    let outs : sum_by (λ (y : Hand). y.out) views ≡ v.out = only (λ (y : Hand). y.out) views i v at (λ k x n d. (r.fits k x d).away (opens k x n d)) in
    let a = share (λ (y : Hand). y.part) views j u e in let b = r.parted in let c : v.out ≡ 0 = alone.1 in let d = opens j u other e in omega arith

closing : (items : List PlainBuffer) (views : Hands) (r : Fair items views) (i : ℕ) (v : Hand) → get_elem? views i ≡ some v → HasClosed v (numbers items)
closing items views r i v at alone =
    let idle = others_idle items views r i v at alone in let f = r.fits i v at in
    let empty : (m : List ℕ → ℕ) → IsAdditive m → m [] ≡ 0 = λ m additive. let a = additive [] [] in omega arith in
    let puts : (m : List ℕ → ℕ) → IsAdditive m → sum_by (λ (u : Hand). m u.put) views ≡ m v.put = λ m additive. only (λ (u : Hand). m u.put) views i v at (λ j u n e. ap m ((r.fits j u e).idle (idle j u n e)).0 ∙ empty m additive) in
    let takens : (m : List ℕ → ℕ) → IsAdditive m → sum_by (λ (u : Hand). m u.taken) views ≡ m v.taken = λ m additive. only (λ (u : Hand). m u.taken) views i v at (λ j u n e. ap m ((r.fits j u e).idle (idle j u n e)).1 ∙ empty m additive) in
    let weighs : (m : List ℕ → ℕ) → IsAdditive m → m v.put ≡ m v.taken + m (numbers items) = λ m additive. let a = puts m additive in let b = takens m additive in let c = r.weighs m additive in omega arith in
    record {
      whole = λ k. weighs (λ ns. sum_by (λ n. cond (n == k) 1 0) ns) (λ xs ys. sum_by-append _ xs ys);
      counted = weighs length lengths;
      puts_reached = let a = puts length lengths in let b = f.puts_true.reached in omega arith;
      takes_reached = let a = takens length lengths in let b = f.takes_true.reached in omega arith;
    }

pub leaves : (i : ℕ) (v : Hand) → Learns Fair i v (λ items. HasClosed v (numbers items))
leaves i v items views r at = closing items views r i v at

-- ---- takes
pub takes : (i : ℕ) (v : Hand) → IsLive v → Pops Fair i v (λ x w. (w ≡ took v x.picture.number) × (x.region ≡ v.region) × (IsAlone v → length v.taken < length v.put))
takes i v alive x items views r at = let n : ℕ = x.picture.number in let w : Hand = took v n in let f = r.fits i v at in let long : length w.taken ≡ length v.taken + 1 = length-append v.taken (n ∷ []) in (
  w,
  steps (x ∷ items) items views i v w r at (All-tail (λ b. b.region ≡ r.region) x items r.of_it) refl refl refl
      (λ m additive. let a = one_more_by m additive v.taken n in let b = additive (n ∷ []) (numbers items) in omega arith)
      refl (omega arith) (omega arith) (omega arith)
      (λ p t a b. record {
        puts_true = more_sound (puts_of views) p v.puts (omega arith) f.puts_true;
        takes_true = record { known = let k = f.takes_true.known in omega arith; reached = let k = f.takes_true.reached in omega arith };
        live = f.live;
        idle = λ none. absurd (let k : 0 < v.opens + v.part = alive in omega arith);
        away = f.away;
      }),
  (refl, All-head (λ b. b.region ≡ r.region) x items r.of_it ∙ sym (f.live alive), λ alone. let a = (closing (x ∷ items) views r i v at alone).counted in omega arith),
)

-- ---- the floors
pub empties : (i : ℕ) (v : Hand) → Finds Fair 0 i v (λ items w. (w ≡ found_empty v) × HasClosed v (numbers items))
empties i v items views bare r at = let w : Hand = found_empty v in let f = r.fits i v at in let known = knows_puts items views r i v at in let all = r.weighs length lengths in
    let none_there : length (numbers items) ≡ 0 = length-map items _ ∙ bare in (
      w,
      steps items items views i v w r at r.of_it refl refl refl (λ m additive. refl) refl refl (omega arith) (omega arith)
          (λ p t a b. record {
            puts_true = more_sound (puts_of views) p v.puts (omega arith) f.puts_true;
            takes_true = record { known = let k = f.takes_true.known in omega arith; reached = let k = f.takes_true.reached in omega arith };
            live = f.live;
            idle = f.idle;
            away = f.away;
          }),
      (refl, closing items views r i v at),
    )

pub fills : (n i : ℕ) (v : Hand) → Finds Fair n i v (λ items w. (w ≡ found_full (length items) v) × HasClosed v (numbers items))
fills n i v items views full r at = let w : Hand = found_full (length items) v in let f = r.fits i v at in let known = knows_takes items views r i v at in let all = r.weighs length lengths in
    let long : length (numbers items) ≡ length items = length-map items _ in (
      w,
      steps items items views i v w r at r.of_it refl refl refl (λ m additive. refl) refl refl (omega arith) (omega arith)
          (λ p t a b. record {
            puts_true = record { known = let k = f.puts_true.known in omega arith; reached = let k = f.puts_true.reached in omega arith };
            takes_true = more_sound (takes_of views) t v.takes (omega arith) f.takes_true;
            live = f.live;
            idle = f.idle;
            away = f.away;
          }),
      (refl, closing items views r i v at),
    )

-- ---- splits
-- v is cut into l, which stays what v was, and r, a note or a pass that has done nothing
pub record Cuts (v l r : Hand) : Type 0 where
  pub opens : (l.opens ≡ v.opens) × (r.opens ≡ 0)
  pub part : l.part ≡ v.part
  pub outs : (r.out ≡ 0) × (l.part + r.part + v.out ≡ v.part + l.out)
  pub lists : (l.put ≡ v.put) × (l.taken ≡ v.taken) × (r.put ≡ []) × (r.taken ≡ [])
  pub puts : accounted l.puts + accounted r.puts ≡ accounted v.puts
  pub takes : accounted l.takes + accounted r.takes ≡ accounted v.takes
  pub region : (l.region ≡ v.region) × (r.region ≡ v.region)
  pub sound : (n : ℕ) → known_total v.puts ≤ n → IsSound n v.puts → IsSound n l.puts × IsSound n r.puts
  pub sound_takes : (n : ℕ) → known_total v.takes ≤ n → IsSound n v.takes → IsSound n l.takes × IsSound n r.takes
  pub away : (v.opens ≡ 0 → v.out ≡ 0) → l.opens ≡ 0 → l.out ≡ 0

cut : (i : ℕ) (v l k : Hand) → IsLive v → Cuts v l k → Forks Fair i v l k
cut i v l k alive c items views r at =
    let f = r.fits i v at in let vs : Hands = set views i l in let all : Hands = vs ++ k ∷ [] in
    let total : (g : Hand → ℕ) → g l + g k ≡ g v → sum_by g all ≡ sum_by g views = λ g e. let a = changed g views i v l at in let b = sum_by_push g vs k in omega arith in
    let nil : (m : List ℕ → ℕ) → IsAdditive m → m [] ≡ 0 = λ m additive. let a = additive [] [] in omega arith in
    let put : (m : List ℕ → ℕ) → IsAdditive m → sum_by (λ (u : Hand). m u.put) all ≡ sum_by (λ (u : Hand). m u.put) views =
    λ m additive. total (λ (u : Hand). m u.put) (let a = ap m c.lists.0 in let b = ap m c.lists.2 in let d = nil m additive in omega arith) in
    let taken : (m : List ℕ → ℕ) → IsAdditive m → sum_by (λ (u : Hand). m u.taken) all ≡ sum_by (λ (u : Hand). m u.taken) views =
    λ m additive. total (λ (u : Hand). m u.taken) (let a = ap m c.lists.1 in let b = ap m c.lists.3 in let d = nil m additive in omega arith) in
    let p : puts_of all ≡ puts_of views = put length lengths in let t : takes_of all ≡ takes_of views = taken length lengths in
    let sp = c.sound (puts_of all) (let a = knows_puts items views r i v at in omega arith) (more_sound (puts_of views) (puts_of all) v.puts (omega arith) f.puts_true) in
    let st = c.sound_takes (takes_of all) (let a = knows_takes items views r i v at in omega arith) (more_sound (takes_of views) (takes_of all) v.takes (omega arith) f.takes_true) in
    let in_region : v.region ≡ r.region = f.live alive in
    record {
      region = r.region;
      of_it = r.of_it;
      one_opens = total (λ (u : Hand). u.opens) (let a = c.opens.0 in let b = c.opens.1 in omega arith) ∙ r.one_opens;
      parted = let a = changed (λ (u : Hand). u.part) views i v l at in let b = sum_by_push (λ (u : Hand). u.part) vs k in let d = changed (λ (u : Hand). u.out) views i v l at in
          let e = sum_by_push (λ (u : Hand). u.out) vs k in let g = r.parted in let h = c.outs.0 in let j = c.outs.1 in omega arith;
      weighs = λ m additive. let a = put m additive in let b = taken m additive in let d = r.weighs m additive in omega arith;
      puts_told = let a = total (λ (u : Hand). accounted u.puts) c.puts in let b = r.puts_told in omega arith;
      takes_told = let a = total (λ (u : Hand). accounted u.takes) c.takes in let b = r.takes_told in omega arith;
      fits = each_snoc (FitsIn r.region (puts_of all) (takes_of all)) vs k
          record { puts_true = sp.1; takes_true = st.1; live = λ _. c.region.1 ∙ in_region; idle = λ _. (c.lists.2, c.lists.3); away = λ _. c.outs.0 }
          (each_set (FitsIn r.region (puts_of all) (takes_of all)) views i l
          record {
            puts_true = sp.0;
            takes_true = st.0;
            live = λ _. c.region.0 ∙ in_region;
            idle = λ none. absurd (let a = c.opens.0 in let b = c.part in let d : 0 < v.opens + v.part = alive in omega arith);
            away = c.away f.away;
          }
          (λ j u _ e. more_fits r.region (puts_of views) (takes_of views) (puts_of all) (takes_of all) u (omega arith) (omega arith) (r.fits j u e)));
    }

sound_news : (t : Tally) (n : ℕ) → known_total t ≤ n → IsSound n record { untold = 0; counted = 0; known = known_total t; floor = 0 }
sound_news t n le = record { known = le; reached = omega arith }

pub parts : (i : ℕ) (v : Hand) → v.opens ≡ 1 → Forks Fair i v (split_left v) (split_right v)
parts i v first = cut i v (split_left v) (split_right v) (omega arith) record {
  opens = (refl, refl);
  part = refl;
  outs = (refl, omega arith);
  lists = (refl, refl, refl, refl);
  puts = omega arith;
  takes = omega arith;
  region = (refl, refl);
  sound = λ n le s. (s, sound_news v.puts n le);
  sound_takes = λ n le s. (s, sound_news v.takes n le);
  away = λ _ none. absurd (omega arith);
}

sound_told : (t : Tally) (n k : ℕ) → known_total t ≤ n → IsSound n t → IsSound n record { untold = 0; counted = t.counted; known = known_total t; floor = t.floor } × IsSound n record { untold = 0; counted = k; known = known_total t; floor = 0 }
sound_told t n k le s = (record { known = le; reached = s.reached }, record { known = le; reached = omega arith })

pub reports : (i : ℕ) (v : Hand) → IsLive v → Forks Fair i v (told_hand v) (report_of v)
reports i v alive = cut i v (told_hand v) (report_of v) alive record {
  opens = (refl, refl);
  part = refl;
  outs = (refl, omega arith);
  lists = (refl, refl, refl, refl);
  puts = omega arith;
  takes = omega arith;
  region = (refl, refl);
  sound = λ n le s. sound_told v.puts n v.puts.untold le s;
  sound_takes = λ n le s. sound_told v.takes n v.takes.untold le s;
  away = λ f. f;
}

pub tells : (i : ℕ) (v : Hand) → IsLive v → Forks Fair i v v (news_of v)
tells i v alive = cut i v v (news_of v) alive record {
  opens = (refl, refl);
  part = refl;
  outs = (refl, omega arith);
  lists = (refl, refl, refl, refl);
  puts = omega arith;
  takes = omega arith;
  region = (refl, refl);
  sound = λ n le s. (s, sound_news v.puts n le);
  sound_takes = λ n le s. (s, sound_news v.takes n le);
  away = λ f. f;
}

-- ---- joins
both_sound : (n : ℕ) (t u : Tally) → IsSound n t → IsSound n u → IsSound n record { untold = t.untold + u.untold; counted = t.counted + u.counted; known = max t.known u.known; floor = max t.floor u.floor }
both_sound n t u a b = record { known = let c = a.known in let d = b.known in omega arith; reached = let c = a.reached in let d = b.reached in omega arith }

joins : (i : ℕ) (v : Hand) (j : ℕ) (w : Hand) → IsLive v → (items : List PlainBuffer) (views : Hands) → Fair items views → get_elem? views i ≡ some v → ¬ (j ≡ i) → get_elem? views j ≡ some w → get_elem? (set views i (both v w)) j ≡ some w
    → (w.opens ≡ 0) × (w.part ≤ v.out) → Fair items (set (set views i (both v w)) j spent_hand)
joins i v j w alive items views r at other was still fit =
    let f = r.fits i v at in let g = r.fits j w was in let x : Hand = both v w in let vs : Hands = set views i x in let all : Hands = set vs j spent_hand in
    let total : (h : Hand → ℕ) → h x ≡ h v + h w → h spent_hand ≡ 0 → sum_by h all ≡ sum_by h views = λ h e z. let a = changed h views i v x at in let b = changed h vs j w spent_hand still in omega arith in
    let nil : (m : List ℕ → ℕ) → IsAdditive m → m [] ≡ 0 = λ m additive. let a = additive [] [] in omega arith in
    let put : (m : List ℕ → ℕ) → IsAdditive m → sum_by (λ (u : Hand). m u.put) all ≡ sum_by (λ (u : Hand). m u.put) views = λ m additive. total (λ (u : Hand). m u.put) (additive v.put w.put) (nil m additive) in
    let taken : (m : List ℕ → ℕ) → IsAdditive m → sum_by (λ (u : Hand). m u.taken) all ≡ sum_by (λ (u : Hand). m u.taken) views = λ m additive. total (λ (u : Hand). m u.taken) (additive v.taken w.taken) (nil m additive) in
    let p : puts_of all ≡ puts_of views = put length lengths in let t : takes_of all ≡ takes_of views = taken length lengths in
    let F : Hand → Type 0 = FitsIn r.region (puts_of all) (takes_of all) in
    let fits : (k : ℕ) (u : Hand) → get_elem? views k ≡ some u → F u = λ k u e. more_fits r.region (puts_of views) (takes_of views) (puts_of all) (takes_of all) u (omega arith) (omega arith) (r.fits k u e) in
    let fv : F v = fits i v at in let fw : F w = fits j w was in
    record {
      region = r.region;
      of_it = r.of_it;
      one_opens = total (λ (u : Hand). u.opens) (let a = fit.0 in omega arith) refl ∙ r.one_opens;
      parted = let a = changed (λ (u : Hand). u.part) views i v x at in let b = changed (λ (u : Hand). u.part) vs j w spent_hand still in let c = changed (λ (u : Hand). u.out) views i v x at in
          let d = changed (λ (u : Hand). u.out) vs j w spent_hand still in let e = r.parted in let o = g.away fit.0 in let k = fit.1 in omega arith;
      weighs = λ m additive. let a = put m additive in let b = taken m additive in let d = r.weighs m additive in omega arith;
      puts_told = let a = total (λ (u : Hand). accounted u.puts) (omega arith) refl in let b = r.puts_told in omega arith;
      takes_told = let a = total (λ (u : Hand). accounted u.takes) (omega arith) refl in let b = r.takes_told in omega arith;
      fits = each_set F vs j spent_hand
          record {
            puts_true = record { known = omega arith; reached = omega arith };
            takes_true = record { known = omega arith; reached = omega arith };
            live = λ (is : 0 < 0 + 0). absurd (omega arith);
            idle = λ _. (refl, refl);
            away = λ _. refl;
          }
          (λ k u _ e. each_set F views i x
          record {
            puts_true = both_sound (puts_of all) v.puts w.puts fv.puts_true fw.puts_true;
            takes_true = both_sound (takes_of all) v.takes w.takes fv.takes_true fw.takes_true;
            live = λ _. f.live alive;
            idle = λ none. absurd (let k : 0 < v.opens + v.part = alive in omega arith);
            away = λ first. let o = f.away first in let k = fit.1 in omega arith;
          }
          (λ l y _ d. fits l y d) k u e);
    }

-- a note is joined into any pass
pub hears : (i : ℕ) (v : Hand) (j : ℕ) (w : Hand) → IsLive v → w.opens ≡ 0 → w.part ≡ 0 → Merges Fair i v j w (both v w) spent_hand
hears i v j w alive opens part items views r at other still = let was : get_elem? views j ≡ some w = ⊎_elim (λ x. absurd (other x.0)) (λ x. x.1) (at_set views i j (both v w) w still) in
    joins i v j w alive items views r at other was still (opens, omega arith)

-- a pass is joined into the opening pass
pub takes_back : (i : ℕ) (v : Hand) (j : ℕ) (w : Hand) → v.opens ≡ 1 → Merges Fair i v j w (both v w) spent_hand
takes_back i v j w opening items views r at other still = let was : get_elem? views j ≡ some w = ⊎_elim (λ x. absurd (other x.0)) (λ x. x.1) (at_set views i j (both v w) w still) in
    let opens : (k : ℕ) (x : Hand) → k ≢ i → get_elem? views k ≡ some x → x.opens ≡ 0 = λ k x n d. let a = pair (λ (y : Hand). y.opens) views i k v x n at d in let b = r.one_opens in omega arith in
    let outs : sum_by (λ (y : Hand). y.out) views ≡ v.out = only (λ (y : Hand). y.out) views i v at (λ k x n d. (r.fits k x d).away (opens k x n d)) in
    joins i v j w (omega arith) items views r at other was still (opens j w other was, (let a = share (λ (y : Hand). y.part) views j w was in let b = r.parted in omega arith))

-- ---- the opening
pub begins : Fair [] (first_hand ∷ [])
begins = record {
  region = first_hand.region;
  of_it = All-nil (λ (b : PlainBuffer). b.region ≡ first_hand.region);
  one_opens = refl;
  parted = refl;
  weighs = λ m additive. let a = additive [] [] in omega arith;
  puts_told = refl;
  takes_told = refl;
  fits = each_snoc (FitsIn first_hand.region 0 0) [] first_hand record {
    puts_true = record { known = omega arith; reached = omega arith };
    takes_true = record { known = omega arith; reached = omega arith };
    live = λ _. refl;
    idle = λ none. absurd (omega arith);
    away = λ none. absurd (omega arith);
  } (λ j u e. absurd (some-ne-none u (sym e)));
}

-- the first give of all says of which region the buffers are
pub gives_first : (n i : ℕ) (x : PlainBuffer) → Pushes Fair n i first_hand x (λ w. w ≡ gave (with_region first_hand x.region) x.picture.number)
gives_first c i x items views short r at = let n : ℕ = x.picture.number in let v : Hand = first_hand in let w : Hand = gave (with_region v x.region) n in let f = r.fits i v at in
    let bare : 0 ≡ 0 + length (numbers items) = (closing items views r i v at (refl, refl)).counted in let none_there : length items ≡ 0 = let a = length-map items (λ (b : PlainBuffer). b.picture.number) in omega arith in (
      w,
      stepped items (items ++ x ∷ []) views i v w r x.region at (All-push (λ b. b.region ≡ x.region) items x (λ k d lt. absurd (omega arith)) refl) refl refl refl
          (λ m additive. let a = additive [] (n ∷ []) in let b = additive (numbers items) (n ∷ []) in let e = ap m (map-append (λ (b : PlainBuffer). b.picture.number) items (x ∷ [])) in omega arith)
          refl refl (omega arith) (omega arith)
          (λ p t a b. record {
            puts_true = record { known = omega arith; reached = omega arith };
            takes_true = record { known = omega arith; reached = omega arith };
            live = λ _. refl;
            idle = λ none. absurd (omega arith);
            away = λ _. refl;
          })
          (λ j u other e. let g = r.fits j u e in let idle = others_idle items views r i v at (refl, refl) j u other e in
          record { puts_true = g.puts_true; takes_true = g.takes_true; live = λ (alive : 0 < u.opens + u.part). absurd (omega arith); idle = g.idle; away = g.away }),
      refl,
    )

-- the opening pass once it has put these buffers
abbrev pub opened : RegionName → List PlainBuffer → Hand
opened r [] = first_hand
opened r (b ∷ bs) = opening_hand r (numbers (b ∷ bs))

opens_one : (r : RegionName) (ns : List ℕ) (n : ℕ) → gave (opening_hand r ns) n ≡ opening_hand r (ns ++ n ∷ [])
opens_one r ns n = λ i. record (opening_hand r (ns ++ n ∷ [])) { puts = record blank { untold = sym (length-append ns (n ∷ [])) i } }

pub opens_more : (r : RegionName) (bs : List PlainBuffer) (x : PlainBuffer) → x.region ≡ r → gave (with_region (opened r bs) x.region) x.picture.number ≡ opened r (bs ++ x ∷ [])
opens_more r [] x same = λ i. gave (with_region first_hand (same i)) x.picture.number
opens_more r (b ∷ bs) x same = let more = map-append (λ (y : PlainBuffer). y.picture.number) (b ∷ bs) (x ∷ []) in let n : ℕ = x.picture.number in let ns : List ℕ = numbers (b ∷ bs) in
    (λ i. gave (with_region (opened r (b ∷ bs)) (same i)) n) ∙ opens_one r ns n ∙ (λ i. opening_hand r (sym more i))

pub opens_all : (r : RegionName) (bs : List PlainBuffer) → 0 < length bs → opened r bs ≡ opening_hand r (numbers bs)
opens_all r [] some_there = absurd (omega arith)
opens_all r (b ∷ bs) some_there = refl

pub gives_opening : (n i : ℕ) (r : RegionName) (bs : List PlainBuffer) (x : PlainBuffer) → x.region ≡ r → Pushes Fair n i (opened r bs) x (λ w. w ≡ gave (with_region (opened r bs) x.region) x.picture.number)
gives_opening n i r [] x same = gives_first n i x
gives_opening n i r (b ∷ bs) x same = gives n i (opening_hand r (numbers (b ∷ bs))) x (omega arith) same

pub opened_alone : (r : RegionName) (bs : List PlainBuffer) → IsAlone (opened r bs)
opened_alone r [] = (refl, refl)
opened_alone r (b ∷ bs) = (refl, refl)

pub opened_puts : (r : RegionName) (bs : List PlainBuffer) → (length (opened r bs).put ≡ length bs) × (length (opened r bs).taken ≡ 0)
opened_puts r [] = (refl, refl)
opened_puts r (b ∷ bs) = (length-map (b ∷ bs) (λ (y : PlainBuffer). y.picture.number), refl)

-- ---- the close
pub took_none : (v : Hand) → v ≡ took_all v []
took_none v = let none_more : v.takes.untold ≡ v.takes.untold + 0 = omega arith in λ i. record v { taken = sym (append-nil v.taken) i; takes = record v.takes { untold = none_more i } }

pub took_more : (v : Hand) (bs : List PlainBuffer) (b : PlainBuffer) → took (took_all v (numbers bs)) b.picture.number ≡ took_all v (numbers (bs ++ b ∷ []))
took_more v bs b = let n : ℕ = b.picture.number in let ns : List ℕ = numbers bs in
    let count : v.takes.untold + length ns + 1 ≡ v.takes.untold + length (ns ++ n ∷ []) = omega (arith, length-append ns (n ∷ [])) in
    (λ i. record v { taken = append_assoc v.taken ns (n ∷ []) i; takes = record v.takes { untold = count i } }) ∙ (λ i. took_all v (sym (map-append (λ (y : PlainBuffer). y.picture.number) bs (b ∷ [])) i))

pub closes_all : (v : Hand) (left items rest : List PlainBuffer) → IsAlone v → Closes v (numbers items) → length rest ≡ 0 → HasClosed (took_all v (numbers left)) (numbers rest) → Closes v (numbers left)
closes_all v left items [] alone first bare last = let e = last alone in record {
  whole = λ k. let a = e.whole k in let b = sum_by-append (λ n. cond (n == k) 1 0) v.taken (numbers left) in omega arith;
  counted = let a = e.counted in let b = length-append v.taken (numbers left) in omega arith;
  puts_reached = first.puts_reached;
  takes_reached = first.takes_reached;
}
closes_all v left items (b ∷ bs) alone first bare last = absurd (omega arith)
