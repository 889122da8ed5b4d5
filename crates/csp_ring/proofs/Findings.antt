-- The two looks that change a view keep the ring's rule.
use Rattle.std.proofs.Common.{◌≡◌, ℕ, ◌+◌, ◌-◌, ◌≤◌, List, map, length, get_or, drop, set, sym, refl, ap, ◌∙◌, subst, arith, length-drop}
use mathlib.Core.Logic.{dite}
use mathlib.Core.Option.{none, some}
use native.Mathlib.Decide.{ℕ_discrete}
use lib.ListN.{get_elem?}
use lib.Seq.{set-get_or, map-set}
use Rattle.std.specs.Prelude.{Option}
use Rattle.atomic_table.specs.Table.{State, Me, step, keeps, stepped, Allows}
use Rattle.crossbeam_queue.specs.declared.array_queue.Doing.{Doing}
use Rattle.crossbeam_queue.specs.declared.array_queue.Stage.TheVariants.{Idle, SawHead, SawOld}
use Rattle.crossbeam_queue.specs.Fifo.{Held}
use Rattle.crossbeam_queue.specs.Stamps.{stamp}
use Rattle.crossbeam_queue.specs.Ring.{client, Ring, idle}
use Rattle.crossbeam_queue.proofs.Lists.{at_map}
use Rattle.crossbeam_queue.proofs.Stamps.{one_count}
use Rattle.crossbeam_queue.proofs.Cells.{seats_stay, reviewed, knows}
use Rattle.crossbeam_queue.proofs.Looks.{Goes, stands}
use Rattle.csp_ring.specs.Finds.{Finds, found_empty, found_full}

module _ {T V : Type 0} (holds : List T → List V → Type 0) where
  abbrev D : Type 0
  D = Doing T V

  abbrev St : Type 0
  St = State (Option T) D

  abbrev M : Type 0
  M = Me (Option T) D

  -- the seat of the id is idle, with the view w, and no word and no slot changes
  rests : (s : St) (r : Ring holds s) (i id : ℕ) (cs : List (ℕ × Option T)) (w : V) → holds (drop r.popped r.log) (set (map client s.views) id w) → Ring holds (stepped s i (get_or s.words i 0) id cs (idle w) keeps)
  rests s r i id cs w kept = subst (λ (ws : List ℕ). Ring holds record { words = ws; homes = s.homes; views = set s.views id (idle w) }) (sym (set-get_or s.words i 0))
      (reviewed holds s r (set s.views id (idle w)) (seats_stay holds (length s.homes) r.pushed r.popped r.log r.cells s.views id (idle w) tt (λ j d _. r.each_seat j d))
      (subst (holds (drop r.popped r.log)) (sym (map-set client s.views id (idle w))) kept))

  -- as many items as the counts are apart have been found
  finds : (found : V → List T → V → Type 0) (s : St) (r : Ring holds s) (k i id : ℕ) (me : M) (then : ℕ → M → Type 0) → get_elem? s.views id ≡ some me.0 → Finds holds k id me.0.client (found me.0.client) → r.pushed - r.popped ≡ k
      → ((w : V) → Held k (λ (items : List T). found me.0.client items w) → then (get_or s.words i 0) (idle w, me.1)) → Goes holds s i id me then (get_or s.words i 0)
  finds found s r k i id me then at law is told = let items : List T = drop r.popped r.log in
      let long : length items ≡ k = length-drop r.popped r.log ∙ ap (λ (z : ℕ). z - r.popped) r.long ∙ is in
      let c = law items (map client s.views) long r.kept (at_map client s.views id me.0 at) in
      (idle c.0, keeps, tt, rests s r i id me.1 c.0 c.1, told c.0 (items, long, c.2))

  pub finds_empty : (found : V → List T → V → Type 0) (n id : ℕ) (me : M) → me.0.stage ≡ SawHead → Finds holds 0 id me.0.client (found me.0.client)
      → Allows (Ring holds) n id me 16 (λ x. x) (found_empty found (step n 16 0 0 none) me)
  finds_empty found n id me st law s r wide at _ = let x : ℕ = get_or s.words 16 0 in let p : ℕ = me.0.at in let m : ℕ = length s.homes in let h : ℕ = r.pushed in let t : ℕ = r.popped in
      let below : p ≤ t = knows holds s r id me.0 SawHead at st in let behind : t ≤ h = r.behind in
      subst (λ (k : ℕ). Goes holds s 16 id me (found_empty found (step k 16 0 0 none) me) x) wide
      (dite (ℕ_discrete x (stamp m p))
      (λ hit. let same : h ≡ p = one_count m r.some_slot r.roomy p h (sym r.pushed_is ∙ hit) in finds found s r 0 16 id me (found_empty found (step m 16 0 0 none) me) at law (let g : h - t ≡ 0 = omega arith in g)
      (λ w held. (refl, (λ _. held), λ miss. absurd (miss hit))))
      (λ miss. stands holds s r 16 id me (found_empty found (step m 16 0 0 none) me) Idle p at tt (refl, (λ hit. absurd (miss hit)), λ _. refl)))

  pub finds_full : (found : V → List T → V → Type 0) (n id : ℕ) (me : M) → me.0.stage ≡ SawOld → Finds holds n id me.0.client (found me.0.client)
      → Allows (Ring holds) n id me 32 (λ x. x) (found_full found (step n 32 0 0 none) me)
  finds_full found n id me st law s r wide at _ = let x : ℕ = get_or s.words 32 0 in let p : ℕ = me.0.at in let m : ℕ = length s.homes in let h : ℕ = r.pushed in let t : ℕ = r.popped in
      let kn = knows holds s r id me.0 SawOld at st in let below : p ≤ h = kn.0 in let deep : m ≤ p = kn.1 in let within : h ≤ t + m = r.within in
      subst (λ (k : ℕ). Finds holds k id me.0.client (found me.0.client) → Goes holds s 32 id me (found_full found (step k 32 0 0 none) me) x) wide
      (λ law'. dite (ℕ_discrete x (stamp m (p - m)))
      (λ hit. let same : t ≡ p - m = one_count m r.some_slot r.roomy (p - m) t (sym r.popped_is ∙ hit) in
      finds found s r m 32 id me (found_full found (step m 32 0 0 none) me) at law' (let g : h - t ≡ m = omega arith in g) (λ w held. (refl, (λ _. held), λ miss. absurd (miss hit))))
      (λ miss. stands holds s r 32 id me (found_full found (step m 32 0 0 none) me) Idle p at tt (refl, (λ hit. absurd (miss hit)), λ _. refl))) law
