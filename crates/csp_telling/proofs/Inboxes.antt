-- What went through the inbox of a node: what its parties put is what its leader got and what was left.
use Rattle.std.proofs.Common.{◌≡◌, ◌+◌, ℕ, false, true≢false, List, [], ◌∷◌, ◌++◌, Option, None, Some, map, refl, sym, ap, ◌∙◌, arith}
use Rattle.std.specs.Prelude.{IfSome, slice_get}
use Rattle.std.specs.List.{AllByRecursion}
use Rattle.std.specs.Option.{option_map}
use Rattle.std.proofs.lemmas.Option.{slice_get-map}
use Rattle.csp_base.specs.declared.priority.Prio.{Prio}
use Rattle.csp_base.specs.declared.priority.Prio.TheVariants.{Critical, High, Normal, Low}
use Rattle.csp_consistent.specs.Queues.{MayAsk, MayPop, UseTheirQueues, UsesItsQueues}
use Rattle.csp_consistent.specs.Reading.{got_by, gets, with_priority}
use Rattle.csp_consistent.specs.Runs.{AreLogsOf}
use Rattle.csp_ends.specs.Ends.{PlainHome, inbox_of}
use Rattle.csp_ends.specs.Traced.{IsHomeTraced, IsMailTraced}
use Rattle.csp_inbox.specs.Passes as inbox
use Rattle.csp_log.specs.declared.entry.Entry.{Entry}
use Rattle.csp_log.specs.declared.places.QueueId.TheVariants as queue
use Rattle.csp_log.specs.declared.shown.AnswerShown.{AnswerShown}
use Rattle.csp_log.specs.declared.shown.AnswerShown.TheVariants as answer
use Rattle.csp_log.specs.declared.shown.OpShown.{OpShown}
use Rattle.csp_log.specs.declared.shown.OpShown.TheVariants as op
use Rattle.csp_party.specs.Any.{present_step}
use Rattle.csp_posts.specs.Balance.{times_kept, times_taken_out}
use Rattle.csp_posts.specs.Posts.{PlainPost}
use Rattle.csp_record.specs.Record.{PlainPartyLog}
use Rattle.csp_log.specs.declared.who.Who.{Who}
use Rattle.csp_log.specs.declared.who.Who.TheVariants as who
use Rattle.csp_scene.specs.Scene.{PlainScene}
use Rattle.csp_standing.proofs.Public.{all_at}
use Rattle.csp_standing.specs.Network.{ArePostsOf, IsNetworkOf, PlainNetwork}
use Rattle.csp_telling.proofs.Marks.{among}
use Rattle.csp_telling.specs.Closed.{log_of}
use Rattle.csp_telling.specs.Remains.{kept_by, kept_from}
use Rattle.csp_topology.specs.Parties.{PlainOpening, parties_of}
use Rattle.csp_topology.specs.Wired.{is_leader}

-- who doesn't lead its node pops no inbox
no_pop : (w : Who) → is_leader w ≡ false → MayPop w queue.Inbox → ⊥
no_pop (who.Router n) e may = absurd (true≢false e)
no_pop (who.Bridge n) e may = absurd (true≢false e)
no_pop (who.Iface n k) e may = may
no_pop (who.App n k) e may = may
no_pop (who.Link k) e may = may

got_none : (w : Who) (o : OpShown) (a : AnswerShown) → is_leader w ≡ false → MayAsk w o → got_by queue.Inbox o a ≡ []
got_none w (op.Pop queue.Inbox) (answer.Popped i) e may = absurd (no_pop w e may)
got_none w (op.Pop (queue.Up k)) (answer.Popped i) e may = refl
got_none w (op.Pop (queue.Down k)) (answer.Popped i) e may = refl
got_none w (op.Pop (queue.Out k)) (answer.Popped i) e may = refl
got_none w (op.Pop (queue.Tx k)) (answer.Popped i) e may = refl
got_none w (op.Pop (queue.Rx k)) (answer.Popped i) e may = refl
got_none w _ _ e may = refl

gets_none : (w : Who) (es : List Entry) → is_leader w ≡ false → AllByRecursion (λ x. MayAsk w x.op) es → gets queue.Inbox es ≡ []
gets_none w [] e may = refl
gets_none w (x ∷ es) e may = ap (λ is. is ++ gets queue.Inbox es) (got_none w x.op x.answer e may.0) ∙ gets_none w es e may.1

-- so its pass got nothing
none_out : (k : ℕ) (es : List Entry) (x : Option inbox.PlainPass) → IfSome x (λ y. (p : Prio) → IsMailTraced es y p) → gets queue.Inbox es ≡ [] → times_taken_out k x ≡ 0
none_out k es None traced none = refl
none_out k es (Some x) traced none =
    let c : among k x.critical.got ≡ 0 = ap (among k) ((traced Critical).got ∙ ap (with_priority Critical) none) in
    let h : among k x.high.got ≡ 0 = ap (among k) ((traced High).got ∙ ap (with_priority High) none) in
    let n : among k x.normal.got ≡ 0 = ap (among k) ((traced Normal).got ∙ ap (with_priority Normal) none) in
    let l : among k x.low.got ≡ 0 = ap (among k) ((traced Low).got ∙ ap (with_priority Low) none) in
    omega (arith, c, h, n, l)

pub home_none_out : (k : ℕ) (opened : List ℕ) (es : List Entry) (home : Option PlainHome) → IfSome home (IsHomeTraced opened es) → gets queue.Inbox es ≡ [] → times_taken_out k (inbox_of home) ≡ 0
home_none_out k opened es None traced none = refl
home_none_out k opened es (Some h) traced none = none_out k es h.inbox traced.inbox none

-- the logs of posts are those of their parties
logs_of : (scene : PlainScene) (n : PlainNetwork) (os : List PlainOpening) (posts : List PlainPost) → ArePostsOf scene n os posts → AreLogsOf os (map log_of posts)
logs_of scene n [] [] are = tt
logs_of scene n (o ∷ os) (s ∷ posts) are = (record { who = are.0.who; run = are.0.from.runs.run; step = ap present_step (sym are.0.from.runs.reached) }, logs_of scene n os posts are.1)
logs_of scene n [] (s ∷ posts) are = absurd are
logs_of scene n (o ∷ os) [] are = absurd are

-- what csp_consistent says of who uses which queue
abbrev pub UseOwn : Type 0
UseOwn = (scene : PlainScene) (logs : List PlainPartyLog) → AreLogsOf (parties_of scene) logs → UseTheirQueues logs

pub followers_get_none : UseOwn → (scene : PlainScene) (n : PlainNetwork) (posts : List PlainPost) → IsNetworkOf scene n posts → (i : ℕ) (s : PlainPost) → slice_get posts i ≡ Some s → is_leader s.who ≡ false → gets queue.Inbox s.entries ≡ []
followers_get_none use_own scene n posts net i s there e =
    gets_none s.who s.entries e
    (all_at UsesItsQueues (map log_of posts) i (log_of s) (use_own scene (map log_of posts) (logs_of scene n (parties_of scene) posts net.parties)) (slice_get-map log_of posts i ∙ ap (option_map log_of) there))

-- what a pass put, by priority
kept_parts : (k : ℕ) (x : Option inbox.PlainPass) → times_kept k x ≡ among k (kept_by Critical x) + among k (kept_by High x) + among k (kept_by Normal x) + among k (kept_by Low x)
kept_parts k None = refl
kept_parts k (Some x) = refl

pub home_kept_parts : (k : ℕ) (home : Option PlainHome) → times_kept k (inbox_of home) ≡ among k (kept_from Critical home) + among k (kept_from High home) + among k (kept_from Normal home) + among k (kept_from Low home)
home_kept_parts k None = refl
home_kept_parts k (Some h) = kept_parts k h.inbox
