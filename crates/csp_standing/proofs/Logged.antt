-- Where the posts stand in a record: the entries of a name are those of the post of that name, and sums over posts are sums over logs.
use Rattle.std.proofs.Common.{◌≡◌, ◌⊎◌, inl, inr, ℕ, ◌+◌, ◌≤◌, Bool, true, false, Option, Some, None, List, [], ◌∷◌, ◌++◌, zero, suc, length, map, flat_map, option_map, unwrap_or, slice_get, IfSome, refl, sym, ap, ◌∙◌, subst, arith, length-append, le_of_eq}
use Rattle.std.proofs.lemmas.List.Sums.{sum_by-cons}
use Rattle.std.specs.Prelude.{if◌then◌else◌}
use Rattle.std.specs.List.{AllByRecursion}
use Rattle.csp_base.specs.declared.priority.Prio.{Prio}
use Rattle.csp_consistent.proofs.Public.{HasNone, are_apart, entries_at, entries_in, who_is}
use Rattle.csp_consistent.specs.Pools.{is_node}
use Rattle.csp_consistent.specs.Reading.{entries_of, puts, with_priority}
use Rattle.csp_consistent.specs.Runs.{AreLogsOf, IsLogOf}
use Rattle.csp_ends.specs.Ends.{PlainHome}
use Rattle.csp_ends.specs.Traced.{AreTraced, IsHomeTraced, IsMailTraced}
use Rattle.csp_inbox.specs.Passes as inbox
use Rattle.csp_log.specs.declared.entry.Entry.{Entry}
use Rattle.csp_log.specs.declared.places.QueueId.TheVariants as queue
use Rattle.csp_log.specs.declared.shown.ItemShown.{ItemShown}
use Rattle.csp_posts.specs.Between.{is_home, over_home}
use Rattle.csp_posts.specs.Posts.{PlainPost}
use Rattle.csp_record.specs.Record.{PlainPartyLog, PlainRecord}
use Rattle.csp_log.specs.Who.{node_of, is_who}
use Rattle.csp_log.specs.declared.who.Who.{Who}
use Rattle.csp_scene.specs.Scene.{PlainScene}
use Rattle.csp_standing.proofs.ListPlaces.{zip_after}
use Rattle.csp_standing.specs.Shown.{AreLoggedBy, IsLoggedBy, all_kept, kept_by, kept_in}
use Rattle.csp_topology.specs.Parties.{PlainOpening, parties_of}

-- the post of a name
pub record IsPostAt (posts : List PlainPost) (w : Who) : Type 0 where
  pub at : ℕ
  pub post : PlainPost
  pub there : slice_get posts at ≡ Some post
  pub who : post.who ≡ w

-- no party has a name, or one of the posts is it
pub find_post : (w : Who) (os : List PlainOpening) (logs : List PlainPartyLog) (posts : List PlainPost) → AreLogsOf os logs → AreLoggedBy posts logs → HasNone w os ⊎ IsPostAt posts w
find_post w [] logs posts are zip = inl tt
find_post w (o ∷ os) [] posts are zip = absurd are
find_post w (o ∷ os) (log ∷ logs) [] are zip = absurd zip
find_post w (o ∷ os) (log ∷ logs) (s ∷ posts) are zip =
    told (is_who w o.who) refl (find_post w os logs posts are.1 zip.1)
  where
    told : (b : Bool) → is_who w o.who ≡ b → HasNone w os ⊎ IsPostAt posts w → HasNone w (o ∷ os) ⊎ IsPostAt (s ∷ posts) w
    told true e rest = inr (record { at = 0; post = s; there = refl; who = sym zip.0.who ∙ are.0.who ∙ sym (who_is w o.who e) })
    told false e (inl none) = inl (e, none)
    told false e (inr p) = inr (record { at = suc p.at; post = p.post; there = p.there; who = p.who })

opening_at : (os : List PlainOpening) (logs : List PlainPartyLog) (k : ℕ) (log : PlainPartyLog) → AreLogsOf os logs → slice_get logs k ≡ Some log → (o : PlainOpening) × (slice_get os k ≡ Some o) × IsLogOf o log
opening_at [] [] k log are e = absurd cc
opening_at [] (l ∷ logs) k log are e = absurd are
opening_at (o ∷ os) [] k log are e = absurd are
opening_at (o ∷ os) (l ∷ logs) zero log are e = (o, refl, subst (IsLogOf o) (ap (λ f. unwrap_or f log) e) are.0)
opening_at (o ∷ os) (l ∷ logs) (suc k) log are e = opening_at os logs k log are.1 e

-- the entries of the name of a post are its own
pub post_entries : (scene : PlainScene) (r : PlainRecord) (posts : List PlainPost) (i : ℕ) (s : PlainPost) → AreLogsOf (parties_of scene) r.parties → AreLoggedBy posts r.parties → slice_get posts i ≡ Some s
    → entries_of r s.who ≡ s.entries
post_entries scene r posts i s are logged at =
    let log : (l : PlainPartyLog) × (slice_get r.parties i ≡ Some l) × IsLoggedBy s l = zip_after IsLoggedBy posts r.parties i s logged at in
    let o : (p : PlainOpening) × (slice_get (parties_of scene) i ≡ Some p) × IsLogOf p log.0 = opening_at (parties_of scene) r.parties i log.0 are log.1 in
    let e : (l : PlainPartyLog) × (slice_get r.parties i ≡ Some l) × IsLogOf o.0 l × (entries_in o.0.who r.parties ≡ l.entries) = entries_at (parties_of scene) r.parties i o.0 are (are_apart scene) o.1 in
    let same : e.0 ≡ log.0 = ap (λ f. unwrap_or f e.0) (sym e.1 ∙ log.1) in
    ap (λ w. entries_in w r.parties) (sym log.2.who ∙ o.2.who) ∙ e.3 ∙ ap (λ (l : PlainPartyLog). l.entries) same ∙ log.2.entries

-- a party is at a node where its name says so
pub at_home : (node : ℕ) (home : Option PlainHome) (o : Option ℕ) → option_map (λ (h : PlainHome). h.node) home ≡ o → is_home node home ≡ is_node node o
at_home node None o e = ap (is_node node) e
at_home node (Some h) o e = ap (is_node node) e

-- each post is at the node of its party
abbrev pub AtHome : PlainPost → Type 0
AtHome s = option_map (λ (h : PlainHome). h.node) s.ends.home ≡ node_of s.who

if_length : (f : List Entry → List ℕ) (b c : Bool) (es fs : List Entry) → b ≡ c → es ≡ fs → (if b then length (f es) else 0) ≡ length (if c then f fs else [])
if_length f b c es fs e same =
    ap (λ d. if d then length (f es) else 0) e ∙ ap (λ xs. if c then length (f xs) else 0) same ∙ by_test c
  where
    by_test : (c : Bool) → (if c then length (f fs) else 0) ≡ length (if c then f fs else [])
    by_test true = refl
    by_test false = refl

-- the numbers that the parties of a node have to do with, counted over the posts and over the logs
pub lengths : (node : ℕ) (f : List Entry → List ℕ) (posts : List PlainPost) (logs : List PlainPartyLog) → AllByRecursion AtHome posts → AreLoggedBy posts logs
    → over_home node (λ s. length (f s.entries)) posts ≡ length (flat_map (λ (log : PlainPartyLog). if is_node node (node_of log.who) then f log.entries else []) logs)
lengths node f [] [] homes zip = refl
lengths node f [] (log ∷ logs) homes zip = absurd zip
lengths node f (s ∷ posts) [] homes zip = absurd zip
lengths node f (s ∷ posts) (log ∷ logs) homes zip =
    sum_by-cons (λ (u : PlainPost). if is_home node u.ends.home then length (f u.entries) else 0) s posts
    ∙ ap (λ n. n + over_home node (λ u. length (f u.entries)) posts)
    (if_length f (is_home node s.ends.home) (is_node node (node_of log.who)) s.entries log.entries (at_home node s.ends.home (node_of log.who) (homes.0 ∙ ap node_of (sym zip.0.who))) (sym zip.0.entries))
    ∙ ap (λ n. length (if is_node node (node_of log.who) then f log.entries else []) + n) (lengths node f posts logs homes.1 zip.1)
    ∙ sym (length-append (if is_node node (node_of log.who) then f log.entries else []) (flat_map (λ (l : PlainPartyLog). if is_node node (node_of l.who) then f l.entries else []) logs))

-- a list made from another
pub flat_mapped : {X Y Z : Type 0} (f : Y → List Z) (g : X → Y) (xs : List X) → flat_map f (map g xs) ≡ flat_map (λ x. f (g x)) xs
flat_mapped f g [] = refl
flat_mapped f g (x ∷ xs) = ap (λ zs. f (g x) ++ zs) (flat_mapped f g xs)

-- what a party's pass put into an inbox is no more than its log says
kept_pass : (p : Prio) (es : List Entry) (pass : Option inbox.PlainPass) → IfSome pass (λ x. (q : Prio) → IsMailTraced es x q) → kept_in p pass ≤ length (with_priority p (puts queue.Inbox es))
kept_pass p es None told = omega arith
kept_pass p es (Some x) told = le_of_eq (ap length (told p).kept)

kept_home : (p : Prio) (opened : List ℕ) (es : List Entry) (home : Option PlainHome) → IfSome home (IsHomeTraced opened es) → kept_by p home ≤ length (with_priority p (puts queue.Inbox es))
kept_home p opened es None told = omega arith
kept_home p opened es (Some h) told = kept_pass p es h.inbox told.inbox

if_least : (b c : Bool) (n : ℕ) (is js : List ItemShown) → b ≡ c → is ≡ js → n ≤ length is → (if b then n else 0) ≤ length (if c then js else [])
if_least b c n is js e same h =
    subst (λ d. (if d then n else 0) ≤ length (if c then js else [])) (sym e) (by_test c (subst (λ xs. n ≤ length xs) same h))
  where
    by_test : (c : Bool) → n ≤ length js → (if c then n else 0) ≤ length (if c then js else [])
    by_test true h = h
    by_test false h = omega arith

inbox_step : (node : ℕ) (p : Prio) (opened : List ℕ) (s : PlainPost) (log : PlainPartyLog) → AreTraced opened s.entries s.ends → AtHome s → IsLoggedBy s log
    → (if is_home node s.ends.home then kept_by p s.ends.home else 0) ≤ length (if is_node node (node_of log.who) then with_priority p (puts queue.Inbox log.entries) else [])
inbox_step node p opened s log told home one =
    if_least (is_home node s.ends.home) (is_node node (node_of log.who)) (kept_by p s.ends.home) (with_priority p (puts queue.Inbox s.entries)) (with_priority p (puts queue.Inbox log.entries))
    (at_home node s.ends.home (node_of log.who) (home ∙ ap node_of (sym one.who))) (ap (λ es. with_priority p (puts queue.Inbox es)) (sym one.entries))
    (kept_home p opened s.entries s.ends.home told.home)

-- so it is of all parties of a node
pub inbox_reached : (node : ℕ) (p : Prio) (opened : Who → List ℕ) (posts : List PlainPost) (logs : List PlainPartyLog) → AllByRecursion (λ s. AreTraced (opened s.who) s.entries s.ends) posts → AllByRecursion AtHome posts → AreLoggedBy posts logs
    → all_kept node p posts ≤ length (flat_map (λ (log : PlainPartyLog). if is_node node (node_of log.who) then with_priority p (puts queue.Inbox log.entries) else []) logs)
inbox_reached node p opened [] [] told homes zip = omega arith
inbox_reached node p opened [] (log ∷ logs) told homes zip = absurd zip
inbox_reached node p opened (s ∷ posts) [] told homes zip = absurd zip
inbox_reached node p opened (s ∷ posts) (log ∷ logs) told homes zip =
    let here : (if is_home node s.ends.home then kept_by p s.ends.home else 0) ≤ length (if is_node node (node_of log.who) then with_priority p (puts queue.Inbox log.entries) else []) = inbox_step node p (opened s.who) s log told.0 homes.0 zip.0 in
    subst (λ n. n ≤ length ((if is_node node (node_of log.who) then with_priority p (puts queue.Inbox log.entries) else []) ++ flat_map (λ (l : PlainPartyLog). if is_node node (node_of l.who) then with_priority p (puts queue.Inbox l.entries) else []) logs))
    (sym (sum_by-cons (λ (u : PlainPost). if is_home node u.ends.home then kept_by p u.ends.home else 0) s posts))
    (subst (λ n. (if is_home node s.ends.home then kept_by p s.ends.home else 0) + all_kept node p posts ≤ n)
    (sym (length-append (if is_node node (node_of log.who) then with_priority p (puts queue.Inbox log.entries) else []) (flat_map (λ (l : PlainPartyLog). if is_node node (node_of l.who) then with_priority p (puts queue.Inbox l.entries) else []) logs)))
    (add_least _ _ _ _ here (inbox_reached node p opened posts logs told.1 homes.1 zip.1)))
  where
    add_least : (a b c d : ℕ) → a ≤ b → c ≤ d → a + c ≤ b + d
    add_least a b c d h k = omega (arith, h, k)
