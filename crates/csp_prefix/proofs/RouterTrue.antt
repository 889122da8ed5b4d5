-- what is known of a router by the whole of its log, for what is to be known of its connections
use Rattle.std.proofs.Common.{◌≡◌, ℕ, suc, ◌+◌, ◌<◌, ◌≤◌, None, Some, List, [], ◌∷◌, ◌++◌, length, refl, sym, ap, ◌∙◌, subst, arith}
use Rattle.std.specs.Prelude.{⊤}
use Rattle.std.specs.List.{AllByRecursion, slice_get}
use Rattle.std.proofs.lemmas.List.{append-nil}
use Rattle.csp_base.specs.Seat.{seat}
use Rattle.csp_base.specs.declared.seat.Seat.{Seat}
use Rattle.csp_buffer.specs.Content.{Content}
use Rattle.csp_base.specs.declared.limits.TheConstants.{MAX_APPS, SLOTS}
use Rattle.csp_log.specs.declared.entry.Entry.{Entry}
use Rattle.csp_log.specs.declared.places.QueueId.TheVariants as queue
use Rattle.csp_log.specs.declared.shown.AnswerShown.{AnswerShown}
use Rattle.csp_log.specs.declared.shown.AnswerShown.TheVariants as answer
use Rattle.csp_log.specs.declared.shown.ItemShown.{ItemShown}
use Rattle.csp_log.specs.declared.shown.ItemShown.TheVariants as item
use Rattle.csp_log.specs.declared.shown.OpShown.{OpShown}
use Rattle.csp_log.specs.declared.shown.OpShown.TheVariants as op
use Rattle.csp_ports.specs.PlainPorts.{ports_of}
use Rattle.csp_record.specs.Connections.{openings}
use Rattle.csp_record.specs.Payloads.{sent}
use Rattle.csp_record.specs.declared.connections.Opening.{Opening}
use Rattle.csp_record.specs.declared.payloads.Transfer.TheVariants as way
use Rattle.csp_record.proofs.Public.{openings_are, payloads_are}
use Rattle.csp_route.specs.Routes.{Routes}
use Rattle.csp_stack.specs.Config.{opening_state}
use Rattle.csp_stack.specs.Router.{Facts}
use Rattle.csp_prefix.specs.Delivered.{delivered}
use Rattle.csp_consistent.specs.Reading.{got_by, gets}
use Rattle.csp_prefix.specs.Routers.{ComesSo, IsFlowOf, IsRouterLog}
use Rattle.csp_prefix.specs.Slots.{blank}
use Rattle.csp_prefix.proofs.PayloadReads.{delivered_are}
use Rattle.csp_prefix.proofs.RouterBooks.{Past, all_at, get_more, no_past, over_now, tells_nothing}
use Rattle.csp_prefix.proofs.RouterRun.{AreFound, IsCome, IsRunSo, past_of, reads_down, reads_opened, reads_sent, run_stands}
use Rattle.csp_prefix.proofs.RouterStanding.{Aim, IsAim, IsPart, Stands, over_present}
use Rattle.csp_prefix.proofs.RouterTurn.{HearsSo}

-- all that a log tells
abbrev pub past : List Entry → Past
past es = past_of es no_past

pub past_opened : (es : List Entry) (app : ℕ) → (past es).opened app ≡ openings app es
past_opened es app = reads_opened es no_past app ∙ sym (openings_are app es)

pub past_sent : (es : List Entry) (seat : Seat) (ordinal : ℕ) → (past es).sent seat ordinal ≡ sent seat ordinal es
past_sent es seat ordinal = reads_sent es no_past seat ordinal ∙ sym (payloads_are way.Sent seat ordinal es)

pub past_down : (es : List Entry) (seat : Seat) (ordinal : ℕ) → (past es).down seat ordinal ≡ delivered seat ordinal es
past_down es seat ordinal = reads_down es no_past seat ordinal ∙ sym (delivered_are seat ordinal es)

pub part_all : (h : Past) → IsPart h h
part_all h = record { sent = λ seat ordinal. record { rest = []; whole = append-nil (h.sent seat ordinal) }; opened = λ app. record { rest = []; whole = append-nil (h.opened app) } }

-- ---- what was got, entry by entry
get_past : (xs ys : List ItemShown) (i : ℕ) → slice_get (xs ++ ys) (length xs + i) ≡ slice_get ys i
get_past [] ys i = let same : length {A = ItemShown} [] + i ≡ i = omega arith in ap (slice_get ys) same
get_past (x ∷ xs) ys i = let same : length (x ∷ xs) + i ≡ suc (length xs + i) = omega arith in ap (slice_get (x ∷ (xs ++ ys))) same ∙ get_past xs ys i

IsGotBy : (Content → Type 0) → OpShown → AnswerShown → Type 0
IsGotBy P o a = (at mark : ℕ) (b : Content) → slice_get (got_by queue.Inbox o a) at ≡ Some (item.Packet mark b) → P b

-- what was popped from an application's `Up` is as it is to be
abbrev pub ComesUp : Aim → OpShown → AnswerShown → Type 0
ComesUp g (op.Pop (queue.Up k)) (answer.Popped i) = g.comes i
ComesUp g _ _ = ⊤

heard_one : (g : Aim) (o : OpShown) (a : AnswerShown) → ((at mark : ℕ) (b : Content) → slice_get (got_by queue.Inbox o a) at ≡ Some (item.Packet mark b) → g.hears b)
    → ComesUp g o a → HearsSo g o a
heard_one g (op.Pop queue.Inbox) (answer.Popped (item.Packet mark b)) h c = h 0 mark b refl
heard_one g (op.Pop (queue.Up k)) (answer.Popped i) h c = c
heard_one g _ _ h c = tt

pub heard_all : (g : Aim) (es : List Entry) → ((at mark : ℕ) (b : Content) → slice_get (gets queue.Inbox es) at ≡ Some (item.Packet mark b) → g.hears b)
    → AllByRecursion (λ e. ComesUp g e.op e.answer) es → AllByRecursion (λ e. HearsSo g e.op e.answer) es
heard_all g [] h c = tt
heard_all g (e ∷ es) h c =
    let first : List ItemShown = got_by queue.Inbox e.op e.answer in (
      heard_one g e.op e.answer (λ at mark b q. h at mark b (get_more first (gets queue.Inbox es) at (item.Packet mark b) q)) c.0,
      heard_all g es (λ at mark b q. h (length first + at) mark b (get_past first (gets queue.Inbox es) at ∙ q)) c.1,
    )

-- ---- what is known of a run
pub all_come : (g : Aim) (es : List Entry) → AllByRecursion (λ e. ComesSo e.op e.answer) es → AllByRecursion (λ e. HearsSo g e.op e.answer) es → AllByRecursion (λ e. AllByRecursion g.fresh e.events.items) es → AllByRecursion (IsCome g) es
all_come g [] c h f = tt
all_come g (e ∷ es) c h f = (record { comes = c.0; hears = h.0; fresh = f.0 }, all_come g es c.1 h.1 f.1)

-- where whatever comes is so, all that comes is
comes_any : (g : Aim) → ((i : ItemShown) → g.comes i) → (o : OpShown) (a : AnswerShown) → ComesUp g o a
comes_any g any (op.Pop (queue.Up k)) (answer.Popped i) = any i
comes_any g any _ _ = tt

pub each_comes : (g : Aim) → ((i : ItemShown) → g.comes i) → (es : List Entry) → AllByRecursion (λ e. ComesUp g e.op e.answer) es
each_comes g any [] = tt
each_comes g any (e ∷ es) = (comes_any g any e.op e.answer, each_comes g any es)

-- before its first turn
pub opening_stands : (g : Aim) (f : Facts) (es : List Entry) → IsAim g f (past es) → f.apps ≤ MAX_APPS → Stands g f no_past (ports_of f.apps) None
opening_stands g f es k few = record {
  numbering = record { made = 0; home = λ n. (seat 0 0, 0) };
  books = λ seat. blank;
  good = k.ports.opens f.apps (λ n. (seat 0 0, 0)) few;
  tells = tells_nothing g.over f.apps (record { made = 0; home = λ n. (seat 0 0, 0) });
  apps = refl;
  out = tt;
}

pub run_known : (g : Aim) (f : Facts) (routes : Routes) (es : List Entry) → IsAim g f (past es) → IsRouterLog f routes es → ((at mark : ℕ) (b : Content) → slice_get (gets queue.Inbox es) at ≡ Some (item.Packet mark b) → g.hears b)
    → AllByRecursion (λ e. ComesUp g e.op e.answer) es → AllByRecursion (λ e. AllByRecursion g.fresh e.events.items) es → AreFound g.at f (opening_state f.apps routes) es → IsRunSo g f no_past es
run_known g f routes es k log hears comes fresh found =
    run_stands g f (past es) k es 0 no_past (opening_state f.apps routes) log.run found (all_come g es log.comes (heard_all g es hears comes) fresh) (part_all (past es)) (opening_stands g f es k log.few)

-- of each opening what is to be known is known
pub opening_known : (g : Aim) (f : Facts) (es : List Entry) → IsAim g f (past es) → (r : IsRunSo g f no_past es) → (app nth : ℕ) (x : Opening) → IsFlowOf es app nth x → g.over r.stands.numbering app x (delivered (seat app x.slot) x.ordinal es)
opening_known g f es k r app nth x is =
    let h : Past = past es in
    let w : Stands g f h r.ports r.leaves = r.stands in
    let there : slice_get (h.opened app) is.at ≡ Some x = ap (λ xs. slice_get xs is.at) (past_opened es app) ∙ is.there in
    let i = all_at _ (h.opened app) is.at x (w.tells.told app) there in
    let few : app < r.ports.conns.apps = subst (λ n. app < n) (sym w.apps) i.app_there in
    subst (g.over w.numbering app x) (past_down es (seat app x.slot) x.ordinal)
    (over_now g.over f.apps w.numbering h w.books (seat app x.slot) x (λ how e. over_present g f h k h w.numbering w.books r.ports (seat app x.slot) how w.good few i.slot_there e) (w.tells.down (seat app x.slot)) refl i.reached i.present i.over)

-- and its application and its slot are there
pub opening_placed : (g : Aim) (f : Facts) (es : List Entry) → IsRunSo g f no_past es → (app at : ℕ) (x : Opening) → slice_get (openings app es) at ≡ Some x → (app < f.apps) × (x.slot < SLOTS)
opening_placed g f es r app at x e =
    let h : Past = past es in
    let w : Stands g f h r.ports r.leaves = r.stands in
    let there : slice_get (h.opened app) at ≡ Some x = ap (λ xs. slice_get xs at) (past_opened es app) ∙ e in
    let i = all_at _ (h.opened app) at x (w.tells.told app) there in
    (i.app_there, i.slot_there)
