-- What a party of a node put and got is what it put into its own queues and got from them.
use Rattle.std.proofs.Common.{◌≡◌, ℕ, ◌+◌, ◌<◌, ◌==◌, Bool, true, false, Option, None, Some, List, [], ◌∷◌, ◌++◌, refl, sym, ap, ◌∙◌, arith}
use Rattle.std.specs.Prelude.{if◌then◌else◌, ⊤}
use Rattle.std.specs.List.{AllByRecursion}
use Rattle.std.proofs.lemmas.Bool.{eq-eqb}
use Rattle.std.proofs.lemmas.Grind.{flat_map-append}
use Rattle.std.proofs.lemmas.List.{append-nil}
use Rattle.csp_conserved.proofs.Homes.{AsksIn}
use Rattle.csp_conserved.proofs.Ifaces.{IsBare}
use Rattle.csp_conserved.proofs.Sums.{over, over_both, over_hit, over_none, over_same, parts, parts_both, parts_none}
use Rattle.csp_conserved.proofs.Turns.{all_got, all_put, entry_more, got_numbers, put_numbers}
use Rattle.csp_consistent.specs.Queues.{MayAsk}
use Rattle.csp_consistent.specs.Reading.{got_by, gets, is_queue, put_by, puts}
use Rattle.csp_deck.proofs.Public.{times-append}
use Rattle.csp_deck.specs.Step.{item_numbers, times}
use Rattle.csp_lists.specs.PlainDeck.{numbers_of}
use Rattle.csp_log.specs.declared.entry.Entry.{Entry}
use Rattle.csp_log.specs.declared.places.QueueId.{QueueId}
use Rattle.csp_log.specs.declared.places.QueueId.TheVariants as queue
use Rattle.csp_log.specs.declared.shown.AnswerShown.{AnswerShown}
use Rattle.csp_log.specs.declared.shown.AnswerShown.TheVariants as answer
use Rattle.csp_log.specs.declared.shown.ItemShown.{ItemShown}
use Rattle.csp_log.specs.declared.shown.ItemShown.TheVariants as item
use Rattle.csp_log.specs.declared.shown.OpShown.{OpShown}
use Rattle.csp_log.specs.declared.shown.OpShown.TheVariants as op
use Rattle.csp_log.specs.declared.who.Who.TheVariants as who
use Rattle.csp_topology.specs.Lanes.{leader_of}

-- how often a number is among the buffers of items
abbrev pub among : ℕ → List ItemShown → ℕ
among k is = times k (numbers_of is)

pub among_more : (k : ℕ) (xs ys : List ItemShown) → among k (xs ++ ys) ≡ among k xs + among k ys
among_more k xs ys = ap (times k) (flat_map-append item_numbers xs ys) ∙ times-append k (numbers_of xs) (numbers_of ys)

among_one : (k : ℕ) (i : ItemShown) → among k (i ∷ []) ≡ times k (item_numbers i)
among_one k i = ap (times k) (append-nil (item_numbers i))

pub among_if : (k : ℕ) (b : Bool) (i : ItemShown) → among k (if b then i ∷ [] else []) ≡ (if b then times k (item_numbers i) else 0)
among_if k true i = among_one k i
among_if k false i = refl

pub none_among : (k : ℕ) (is : List ItemShown) → AllByRecursion IsBare is → among k is ≡ 0
none_among k [] h = refl
none_among k (i ∷ is) h = omega (arith, times-append k (item_numbers i) (numbers_of is), ap (times k) h.0, none_among k is h.1)

-- what entries put, by a queue, and got
abbrev pub put_in : ℕ → List Entry → QueueId → ℕ
put_in k es q = among k (puts q es)

abbrev pub got_in : ℕ → List Entry → QueueId → ℕ
got_in k es q = among k (gets q es)

put_more : (k : ℕ) (e : Entry) (es : List Entry) (q : QueueId) → put_in k (e ∷ es) q ≡ among k (put_by q e.op e.answer) + put_in k es q
put_more k e es q = among_more k (put_by q e.op e.answer) (puts q es)

got_more : (k : ℕ) (e : Entry) (es : List Entry) (q : QueueId) → got_in k (e ∷ es) q ≡ among k (got_by q e.op e.answer) + got_in k es q
got_more k e es q = among_more k (got_by q e.op e.answer) (gets q es)

-- an item that goes to one of so many queues, and to no other
hit : (k n j : ℕ) (i : ItemShown) → j < n → over n (λ m. among k (if j == m then i ∷ [] else [])) ≡ times k (item_numbers i)
hit k n j i low =
    over_same n (λ m. among k (if j == m then i ∷ [] else [])) (λ m. if j == m then times k (item_numbers i) else 0) (λ m h. among_if k (j == m) i)
    ∙ over_hit n j (times k (item_numbers i)) low

none : (n : ℕ) → over n (λ m. 0) ≡ 0
none n = over_none n (λ m. 0) (λ m h. refl)

-- ---- a router or a bridge

module _ (k ifaces apps : ℕ) where
  -- an item of no buffer goes wherever it goes
  bare_put : (i : ItemShown) (q : QueueId) → IsBare i
      → times k (item_numbers i) ≡ parts ifaces apps (among k (put_by queue.Inbox (op.Push q i) answer.Pushed)) (λ j. among k (put_by (queue.Out j) (op.Push q i) answer.Pushed)) (λ j. among k (put_by (queue.Down j) (op.Push q i) answer.Pushed))
  bare_put i q h =
      let each : (b : Bool) → among k (if b then i ∷ [] else []) ≡ 0 = λ b. among_if k b i ∙ no b in
      omega (
        arith,
        ap (times k) h,
        each (is_queue queue.Inbox q),
        over_none ifaces (λ j. among k (put_by (queue.Out j) (op.Push q i) answer.Pushed)) (λ j low. each (is_queue (queue.Out j) q)),
        over_none apps (λ j. among k (put_by (queue.Down j) (op.Push q i) answer.Pushed)) (λ j low. each (is_queue (queue.Down j) q)),
      )
    where
      no : (b : Bool) → (if b then times k (item_numbers i) else 0) ≡ 0
      no true = ap (times k) h
      no false = refl

  hub_put : (o : OpShown) (a : AnswerShown) → AsksIn ifaces apps o
      → times k (put_numbers o a) ≡ parts ifaces apps (among k (put_by queue.Inbox o a)) (λ j. among k (put_by (queue.Out j) o a)) (λ j. among k (put_by (queue.Down j) o a))
  hub_put (op.Push queue.Inbox (item.Packet mark b)) answer.Pushed h = omega (arith, among_one k (item.Packet mark b), none ifaces, none apps)
  hub_put (op.Push (queue.Out j) (item.Packet mark b)) answer.Pushed h = omega (arith, hit k ifaces j (item.Packet mark b) h, none apps)
  hub_put (op.Push (queue.Down j) (item.Packet mark b)) answer.Pushed h = omega (arith, hit k apps j (item.Packet mark b) h, none ifaces)
  hub_put (op.Push (queue.Up j) (item.Packet mark b)) answer.Pushed h = absurd h
  hub_put (op.Push (queue.Tx j) (item.Packet mark b)) answer.Pushed h = absurd h
  hub_put (op.Push (queue.Rx j) (item.Packet mark b)) answer.Pushed h = absurd h
  hub_put (op.Push q (item.Frame f)) answer.Pushed h = bare_put (item.Frame f) q refl
  hub_put (op.Push q (item.Note n)) answer.Pushed h = bare_put (item.Note n) q refl
  hub_put _ _ h = sym (parts_none ifaces apps (λ j. 0) (λ j. 0) (λ j. refl) (λ j. refl))

  pub hub_puts : (es : List Entry) → AllByRecursion (λ e. AsksIn ifaces apps e.op) es
      → times k (all_put es) ≡ parts ifaces apps (put_in k es queue.Inbox) (λ j. put_in k es (queue.Out j)) (λ j. put_in k es (queue.Down j))
  hub_puts [] h = sym (parts_none ifaces apps (λ j. 0) (λ j. 0) (λ j. refl) (λ j. refl))
  hub_puts (e ∷ es) h =
      omega (
        arith,
        entry_more k (λ (x : Entry). put_numbers x.op x.answer) e es,
        hub_put e.op e.answer h.0,
        hub_puts es h.1,
        parts_both ifaces apps (put_in k (e ∷ es) queue.Inbox) (among k (put_by queue.Inbox e.op e.answer)) (put_in k es queue.Inbox)
            (λ j. put_in k (e ∷ es) (queue.Out j)) (λ j. among k (put_by (queue.Out j) e.op e.answer)) (λ j. put_in k es (queue.Out j))
            (λ j. put_in k (e ∷ es) (queue.Down j)) (λ j. among k (put_by (queue.Down j) e.op e.answer)) (λ j. put_in k es (queue.Down j))
            (put_more k e es queue.Inbox) (λ j. put_more k e es (queue.Out j)) (λ j. put_more k e es (queue.Down j)),
      )

  -- it pops its inbox, and the `Up` of applications that are there
  abbrev pub PopsIn : OpShown → Type 0
  PopsIn (op.Pop queue.Inbox) = ⊤
  PopsIn (op.Pop (queue.Up j)) = j < apps
  PopsIn (op.Pop _) = ⊥
  PopsIn _ = ⊤

  pub pops_in : (node : ℕ) (addr : Option ℕ) (o : OpShown) → MayAsk (leader_of node addr) o → AsksIn ifaces apps o → PopsIn o
  pops_in node (Some a) (op.Pop queue.Inbox) may asks = tt
  pops_in node (Some a) (op.Pop (queue.Up j)) may asks = asks
  pops_in node (Some a) (op.Pop (queue.Down j)) may asks = may
  pops_in node (Some a) (op.Pop (queue.Out j)) may asks = may
  pops_in node (Some a) (op.Pop (queue.Tx j)) may asks = may
  pops_in node (Some a) (op.Pop (queue.Rx j)) may asks = may
  pops_in node None (op.Pop queue.Inbox) may asks = tt
  pops_in node None (op.Pop (queue.Up j)) may asks = asks
  pops_in node None (op.Pop (queue.Down j)) may asks = may
  pops_in node None (op.Pop (queue.Out j)) may asks = may
  pops_in node None (op.Pop (queue.Tx j)) may asks = may
  pops_in node None (op.Pop (queue.Rx j)) may asks = may
  pops_in node addr _ may asks = tt

  hub_got : (o : OpShown) (a : AnswerShown) → PopsIn o → times k (got_numbers o a) ≡ among k (got_by queue.Inbox o a) + over apps (λ j. among k (got_by (queue.Up j) o a))
  hub_got (op.Pop queue.Inbox) (answer.Popped i) h = omega (arith, among_one k i, none apps)
  hub_got (op.Pop (queue.Up j)) (answer.Popped i) h = omega (arith, hit k apps j i h)
  hub_got (op.Pop (queue.Down j)) (answer.Popped i) h = absurd h
  hub_got (op.Pop (queue.Out j)) (answer.Popped i) h = absurd h
  hub_got (op.Pop (queue.Tx j)) (answer.Popped i) h = absurd h
  hub_got (op.Pop (queue.Rx j)) (answer.Popped i) h = absurd h
  hub_got _ _ h = omega (arith, none apps)

  pub hub_gets : (es : List Entry) → AllByRecursion (λ e. PopsIn e.op) es → times k (all_got es) ≡ got_in k es queue.Inbox + over apps (λ j. got_in k es (queue.Up j))
  hub_gets [] h = omega (arith, none apps)
  hub_gets (e ∷ es) h =
      omega (
        arith,
        entry_more k (λ (x : Entry). got_numbers x.op x.answer) e es,
        hub_got e.op e.answer h.0,
        hub_gets es h.1,
        got_more k e es queue.Inbox,
        over_both apps (λ j. got_in k (e ∷ es) (queue.Up j)) (λ j. among k (got_by (queue.Up j) e.op e.answer)) (λ j. got_in k es (queue.Up j)) (λ j low. got_more k e es (queue.Up j)),
      )

-- ---- an interface and an application

module _ (k node number : ℕ) where
  own : (j : ℕ) (i : ItemShown) → j ≡ number → among k (if j == number then i ∷ [] else []) ≡ times k (item_numbers i)
  own j i same = among_if k (j == number) i ∙ ap (λ b. if b then times k (item_numbers i) else 0) (eq-eqb j number same)

  iface_put : (o : OpShown) (a : AnswerShown) → MayAsk (who.Iface node number) o → times k (put_numbers o a) ≡ among k (put_by queue.Inbox o a) + among k (put_by (queue.Tx number) o a)
  iface_put (op.Push queue.Inbox i) answer.Pushed may = omega (arith, among_one k i)
  iface_put (op.Push (queue.Tx j) i) answer.Pushed may = omega (arith, own j i may)
  iface_put (op.Push (queue.Rx j) i) answer.Pushed may = absurd may
  iface_put (op.Push (queue.Up j) i) answer.Pushed may = absurd may
  iface_put (op.Push (queue.Down j) i) answer.Pushed may = absurd may
  iface_put (op.Push (queue.Out j) i) answer.Pushed may = absurd may
  iface_put _ _ may = refl

  pub iface_puts : (es : List Entry) → AllByRecursion (λ e. MayAsk (who.Iface node number) e.op) es → times k (all_put es) ≡ put_in k es queue.Inbox + put_in k es (queue.Tx number)
  iface_puts [] may = refl
  iface_puts (e ∷ es) may =
      omega (arith, entry_more k (λ (x : Entry). put_numbers x.op x.answer) e es, iface_put e.op e.answer may.0, iface_puts es may.1, put_more k e es queue.Inbox, put_more k e es (queue.Tx number))

  iface_got : (o : OpShown) (a : AnswerShown) → MayAsk (who.Iface node number) o → times k (got_numbers o a) ≡ among k (got_by (queue.Out number) o a) + among k (got_by (queue.Rx number) o a)
  iface_got (op.Pop (queue.Out j)) (answer.Popped i) may = omega (arith, own j i may)
  iface_got (op.Pop (queue.Rx j)) (answer.Popped i) may = omega (arith, own j i may)
  iface_got (op.Pop (queue.Tx j)) (answer.Popped i) may = absurd may
  iface_got (op.Pop (queue.Up j)) (answer.Popped i) may = absurd may
  iface_got (op.Pop (queue.Down j)) (answer.Popped i) may = absurd may
  iface_got (op.Pop queue.Inbox) (answer.Popped i) may = absurd may
  iface_got _ _ may = refl

  pub iface_gets : (es : List Entry) → AllByRecursion (λ e. MayAsk (who.Iface node number) e.op) es → times k (all_got es) ≡ got_in k es (queue.Out number) + got_in k es (queue.Rx number)
  iface_gets [] may = refl
  iface_gets (e ∷ es) may =
      omega (arith, entry_more k (λ (x : Entry). got_numbers x.op x.answer) e es, iface_got e.op e.answer may.0, iface_gets es may.1, got_more k e es (queue.Out number), got_more k e es (queue.Rx number))

  app_put : (o : OpShown) (a : AnswerShown) → MayAsk (who.App node number) o → times k (put_numbers o a) ≡ among k (put_by (queue.Up number) o a)
  app_put (op.Push (queue.Up j) i) answer.Pushed may = sym (own j i may)
  app_put (op.Push queue.Inbox i) answer.Pushed may = absurd may
  app_put (op.Push (queue.Down j) i) answer.Pushed may = absurd may
  app_put (op.Push (queue.Out j) i) answer.Pushed may = absurd may
  app_put (op.Push (queue.Tx j) i) answer.Pushed may = absurd may
  app_put (op.Push (queue.Rx j) i) answer.Pushed may = absurd may
  app_put _ _ may = refl

  pub app_puts : (es : List Entry) → AllByRecursion (λ e. MayAsk (who.App node number) e.op) es → times k (all_put es) ≡ put_in k es (queue.Up number)
  app_puts [] may = refl
  app_puts (e ∷ es) may = omega (arith, entry_more k (λ (x : Entry). put_numbers x.op x.answer) e es, app_put e.op e.answer may.0, app_puts es may.1, put_more k e es (queue.Up number))

  app_got : (o : OpShown) (a : AnswerShown) → MayAsk (who.App node number) o → times k (got_numbers o a) ≡ among k (got_by (queue.Down number) o a)
  app_got (op.Pop (queue.Down j)) (answer.Popped i) may = sym (own j i may)
  app_got (op.Pop queue.Inbox) (answer.Popped i) may = absurd may
  app_got (op.Pop (queue.Up j)) (answer.Popped i) may = absurd may
  app_got (op.Pop (queue.Out j)) (answer.Popped i) may = absurd may
  app_got (op.Pop (queue.Tx j)) (answer.Popped i) may = absurd may
  app_got (op.Pop (queue.Rx j)) (answer.Popped i) may = absurd may
  app_got _ _ may = refl

  pub app_gets : (es : List Entry) → AllByRecursion (λ e. MayAsk (who.App node number) e.op) es → times k (all_got es) ≡ got_in k es (queue.Down number)
  app_gets [] may = refl
  app_gets (e ∷ es) may = omega (arith, entry_more k (λ (x : Entry). got_numbers x.op x.answer) e es, app_got e.op e.answer may.0, app_gets es may.1, got_more k e es (queue.Down number))
