-- The flows that a record shows: what was sent on each numbered connection of a router, and where its numbers begin.
use Rattle.std.proofs.Common.{◌≡◌, ◌⊎◌, inl, inr, ℕ, zero, suc, ◌==◌, Bool, true, false, Option, Some, None, List, [], ◌∷◌, ◌++◌, flat_map, slice_get, unwrap_or, refl, sym, ap, ◌∙◌, subst, eqb-true}
use Rattle.std.specs.Prelude.{if◌then◌else◌}
use Rattle.std.proofs.lemmas.Bool.{eq-eqb}
use Rattle.csp_base.specs.Seat.{seat}
use Rattle.csp_log.specs.Noting.{noted_in}
use Rattle.csp_log.specs.declared.entry.Entry.{Entry}
use Rattle.csp_log.specs.declared.event.Event.{Event}
use Rattle.csp_log.specs.declared.event.Event.TheVariants as event
use Rattle.csp_record.specs.Connections.{opened_by, openings}
use Rattle.csp_record.specs.Payloads.{sent}
use Rattle.csp_record.specs.declared.connections.Opening.{Opening}
use Rattle.csp_record.specs.declared.payloads.Transfer.TheVariants as way
use Rattle.csp_record.proofs.Public.{Ends, ended, no_ends, openings_after, openings_are}
use Rattle.csp_prefix.specs.Routers.{AreNumbered, IsFlowOf}

-- ---- the first opening with a number

-- an opening has this number
abbrev has_number : ℕ → Option ℕ → Bool
has_number nth None = false
has_number nth (Some n) = n == nth

pub number_is : (nth : ℕ) (o : Option ℕ) → has_number nth o ≡ true → o ≡ Some nth
number_is nth None e = absurd cc
number_is nth (Some n) e = ap Some (eqb-true n nth e)

number_has : (nth : ℕ) (o : Option ℕ) → o ≡ Some nth → has_number nth o ≡ true
number_has nth o e = ap (has_number nth) e ∙ eq-eqb nth nth refl

abbrev found_by : Bool → Opening → Option Opening → Option Opening
found_by true x rest = Some x
found_by false x rest = rest

abbrev find_number : ℕ → List Opening → Option Opening
find_number nth [] = None
find_number nth (x ∷ xs) = found_by (has_number nth x.nth) x (find_number nth xs)

-- what was found is there, and has the number
record IsFound (nth : ℕ) (xs : List Opening) (x : Opening) : Type 0 where
  at : ℕ
  there : slice_get xs at ≡ Some x
  numbered : x.nth ≡ Some nth

found_later : (nth : ℕ) (y : Opening) (xs : List Opening) (x : Opening) → IsFound nth xs x → IsFound nth (y ∷ xs) x
found_later nth y xs x f = record { at = suc f.at; there = f.there; numbered = f.numbered }

find_found : (nth : ℕ) (xs : List Opening) (x : Opening) → find_number nth xs ≡ Some x → IsFound nth xs x
find_found nth [] x e = absurd cc
find_found nth (y ∷ xs) x e =
    by (has_number nth y.nth) refl e (λ f. find_found nth xs x f)
  where
    by : (b : Bool) → has_number nth y.nth ≡ b → found_by b y (find_number nth xs) ≡ Some x → (find_number nth xs ≡ Some x → IsFound nth xs x) → IsFound nth (y ∷ xs) x
    by true h f rest =
        let same : y ≡ x = ap (λ o. unwrap_or o y) f in
        record { at = 0; there = f; numbered = subst (λ z. z.nth ≡ Some nth) same (number_is nth y.nth h) }
    by false h f rest = found_later nth y xs x (rest f)

-- where none was found, none has the number
find_none : (nth : ℕ) (xs : List Opening) (k : ℕ) (x : Opening) → find_number nth xs ≡ None → slice_get xs k ≡ Some x → x.nth ≡ Some nth → ⊥
find_none nth [] k x e there h = absurd cc
find_none nth (y ∷ xs) k x e there h =
    by (has_number nth y.nth) refl e (λ f j t. find_none nth xs j x f t h) k there
  where
    by : (b : Bool) → has_number nth y.nth ≡ b → found_by b y (find_number nth xs) ≡ None → (find_number nth xs ≡ None → (j : ℕ) → slice_get xs j ≡ Some x → ⊥) → (k : ℕ) → slice_get (y ∷ xs) k ≡ Some x → ⊥
    by true g f rest k there = absurd cc
    by false g f rest zero there =
        let same : y ≡ x = ap (λ o. unwrap_or o y) there in
        let has : has_number nth y.nth ≡ true = number_has nth y.nth (ap (λ z. z.nth) same ∙ h) in
        absurd cc
    by false g f rest (suc k) there = rest f k there

-- ---- the applications whose connections became open

abbrev app_in : Event → List ℕ
app_in (event.Opened app slot nth peer) = app ∷ []
app_in _ = []

abbrev apps_in : List Entry → List ℕ
apps_in [] = []
apps_in (e ∷ es) = flat_map app_in e.events.items ++ apps_in es

-- an application of a list
abbrev IsAmong : ℕ → List ℕ → Type 0
IsAmong app [] = ⊥
IsAmong app (x ∷ xs) = (x ≡ app) ⊎ IsAmong app xs

among_first : (app : ℕ) (xs ys : List ℕ) → IsAmong app xs → IsAmong app (xs ++ ys)
among_first app [] ys a = absurd a
among_first app (x ∷ xs) ys (inl e) = inl e
among_first app (x ∷ xs) ys (inr a) = inr (among_first app xs ys a)

among_last : (app : ℕ) (xs ys : List ℕ) → IsAmong app ys → IsAmong app (xs ++ ys)
among_last app [] ys a = a
among_last app (x ∷ xs) ys a = inr (among_last app xs ys a)

-- an opening is told by an event of its application, or comes later
event_among : (app : ℕ) (ends : Ends) (evs : List Event) (rest : List Opening) (k : ℕ) (x : Opening) → slice_get (flat_map (opened_by app ends) evs ++ rest) k ≡ Some x
    → IsAmong app (flat_map app_in evs) ⊎ ((j : ℕ) × (slice_get rest j ≡ Some x))
event_among app ends [] rest k x e = inr (k, e)
event_among app ends (event.Opened number slot nth peer ∷ evs) rest k x e =
    by (number == app) refl e (λ f. event_among app ends evs rest k x f)
  where
    later : IsAmong app (flat_map app_in evs) ⊎ ((j : ℕ) × (slice_get rest j ≡ Some x)) → IsAmong app (number ∷ flat_map app_in evs) ⊎ ((j : ℕ) × (slice_get rest j ≡ Some x))
    later (inl a) = inl (inr a)
    later (inr r) = inr r

    by : (b : Bool) → (number == app) ≡ b
        → slice_get (((if b then record { slot = slot; ordinal = ends slot; nth = nth; peer = peer } ∷ [] else []) ++ flat_map (opened_by app ends) evs) ++ rest) k ≡ Some x
        → (slice_get (flat_map (opened_by app ends) evs ++ rest) k ≡ Some x → IsAmong app (flat_map app_in evs) ⊎ ((j : ℕ) × (slice_get rest j ≡ Some x)))
        → IsAmong app (number ∷ flat_map app_in evs) ⊎ ((j : ℕ) × (slice_get rest j ≡ Some x))
    by true h f rec = inl (inl (eqb-true number app h))
    by false h f rec = later (rec f)
event_among app ends (_ ∷ evs) rest k x e = event_among app ends evs rest k x e

opening_among : (app : ℕ) (ends : Ends) (es : List Entry) (k : ℕ) (x : Opening) → slice_get (openings_after app ends es) k ≡ Some x → IsAmong app (apps_in es)
opening_among app ends [] k x e = absurd cc
opening_among app ends (d ∷ es) k x e =
    by (event_among app ends d.events.items (openings_after app (ended way.Sent app (noted_in d) ends) es) k x e) (λ j f. opening_among app (ended way.Sent app (noted_in d) ends) es j x f)
  where
    by : IsAmong app (flat_map app_in d.events.items) ⊎ ((j : ℕ) × (slice_get (openings_after app (ended way.Sent app (noted_in d) ends) es) j ≡ Some x))
        → ((j : ℕ) → slice_get (openings_after app (ended way.Sent app (noted_in d) ends) es) j ≡ Some x → IsAmong app (apps_in es)) → IsAmong app (apps_in (d ∷ es))
    by (inl a) rec = among_first app (flat_map app_in d.events.items) (apps_in es) a
    by (inr r) rec = among_last app (flat_map app_in d.events.items) (apps_in es) (rec r.0 r.1)

-- ---- what was sent on the connection with a number

abbrev said_by : ℕ → List Entry → Option Opening → List (List ℕ) → List (List ℕ)
said_by app es (Some x) rest = sent (seat app x.slot) x.ordinal es
said_by app es None rest = rest

abbrev said_among : List Entry → ℕ → List ℕ → List (List ℕ)
said_among es nth [] = []
said_among es nth (app ∷ apps) = said_by app es (find_number nth (openings app es)) (said_among es nth apps)

-- by the log of a router: nothing, where no connection with the number became open
abbrev pub said_of : List Entry → ℕ → List (List ℕ)
said_of es nth = said_among es nth (apps_in es)

-- no application of a list has an opening with the number
abbrev HasNone : List Entry → ℕ → List ℕ → Type 0
HasNone es nth apps = (app k : ℕ) (x : Opening) → IsAmong app apps → slice_get (openings app es) k ≡ Some x → x.nth ≡ Some nth → ⊥

-- and then nothing was said; or what was said is what was sent on such a connection
record IsSaidOn (es : List Entry) (nth : ℕ) (said : List (List ℕ)) : Type 0 where
  app : ℕ
  opening : Opening
  flow : IsFlowOf es app nth opening
  same : said ≡ sent (seat app opening.slot) opening.ordinal es

abbrev IsSearched : List Entry → ℕ → List ℕ → List (List ℕ) → Type 0
IsSearched es nth apps said = ((said ≡ []) × HasNone es nth apps) ⊎ IsSaidOn es nth said

search_next : (es : List Entry) (nth app : ℕ) (apps : List ℕ) (rest : List (List ℕ)) (o : Option Opening) → find_number nth (openings app es) ≡ o → IsSearched es nth apps rest → IsSearched es nth (app ∷ apps) (said_by app es o rest)
search_next es nth app apps rest (Some x) e s =
    let f : IsFound nth (openings app es) x = find_found nth (openings app es) x e in
    inr (record { app = app; opening = x; flow = record { at = f.at; there = f.there; numbered = f.numbered }; same = refl })
search_next es nth app apps rest None e (inr on) = inr on
search_next es nth app apps rest None e (inl none) =
    inl (none.0, never)
  where
    never : HasNone es nth (app ∷ apps)
    never other k x (inl same) there h = find_none nth (openings app es) k x e (subst (λ a. slice_get (openings a es) k ≡ Some x) (sym same) there) h
    never other k x (inr a) there h = none.1 other k x a there h

searched : (es : List Entry) (nth : ℕ) (apps : List ℕ) → IsSearched es nth apps (said_among es nth apps)
searched es nth [] = inl (refl, λ app k x a there h. a)
searched es nth (app ∷ apps) = search_next es nth app apps (said_among es nth apps) (find_number nth (openings app es)) refl (searched es nth apps)

-- of each connection with the number it is what was sent
pub said_is : (es : List Entry) → AreNumbered es → (app nth : ℕ) (x : Opening) → IsFlowOf es app nth x → said_of es nth ≡ sent (seat app x.slot) x.ordinal es
said_is es numbered app nth x flow =
    by (searched es nth (apps_in es))
  where
    by : IsSearched es nth (apps_in es) (said_of es nth) → said_of es nth ≡ sent (seat app x.slot) x.ordinal es
    by (inl none) = absurd (none.1 app flow.at x (opening_among app no_ends es flow.at x (ap (λ xs. slice_get xs flow.at) (sym (openings_are app es)) ∙ flow.there)) flow.there flow.numbered)
    by (inr on) =
        let same : (seat on.app on.opening.slot ≡ seat app x.slot) × (on.opening.ordinal ≡ x.ordinal) = numbered on.app app nth on.opening x on.flow flow in
        on.same ∙ λ i. sent (same.0 i) (same.1 i) es

-- and nothing where there is none
pub said_none : (es : List Entry) (nth : ℕ) → ((app : ℕ) (x : Opening) → IsFlowOf es app nth x → ⊥) → said_of es nth ≡ []
said_none es nth never =
    by (searched es nth (apps_in es))
  where
    by : IsSearched es nth (apps_in es) (said_of es nth) → said_of es nth ≡ []
    by (inl none) = none.0
    by (inr on) = absurd (never on.app on.opening on.flow)

-- what holds of nothing, and of what was sent on each connection with the number, holds of what was said
pub said_so : (P : List (List ℕ) → Type 0) (es : List Entry) (nth : ℕ) → P [] → ((app : ℕ) (x : Opening) → IsFlowOf es app nth x → P (sent (seat app x.slot) x.ordinal es)) → P (said_of es nth)
said_so P es nth nothing each =
    by (searched es nth (apps_in es))
  where
    by : IsSearched es nth (apps_in es) (said_of es nth) → P (said_of es nth)
    by (inl none) = subst P (sym none.0) nothing
    by (inr on) = subst P (sym on.same) (each on.app on.opening on.flow)
