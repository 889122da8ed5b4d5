-- Lemmas on a world whose one party is changed.
use Rattle.std.proofs.Common.{◌≡◌, ◌≢◌, ℕ, ◌+◌, ◌-◌, ◌<◌, ◌≤◌, Bool, true, false, None, Some, Result, Ok, Err, OnOk, OnErr, max, List, length, map, get_or, set, refl, sym, ◌∙◌, ap, arith}
use Rattle.std.specs.Prelude.{slice_get, slice_index, if◌then◌else◌}
use Rattle.std.proofs.lemmas.List.{map-set, set-get_or, get_or-map, get_or-set_same, get_or-set_other, length-map}
use Rattle.std.proofs.lemmas.Option.{slice_get-map, slice_get_read}
use Rattle.std.proofs.Math.Seq.{map-set_same}
use Rattle.csp_arena.specs.Cells.{RegionName}
use Rattle.csp_base.specs.declared.turns.Turn.{Turn}
use Rattle.csp_base.specs.declared.turns.Turn.TheVariants as turn_is
use Rattle.csp_log.specs.PlainLog.{PlainLog}
use Rattle.csp_log.specs.Pictures.{turn_of}
use Rattle.csp_nodes.specs.DecksAt.{DecksAt}
use Rattle.csp_party.specs.Any.{has_ended, plain}
use Rattle.csp_world.specs.Inside.{world_of}
use Rattle.csp_world.specs.Seen.{plain_member, answer_for, answer_at_place, turn_told}
use Rattle.csp_world.specs.SeenWorld.{SeenWorld}
use Rattle.csp_world.specs.World.{PlainMember, PlainWorld, answered, told, turned, turn_at, turn}
use Rattle.csp_world.specs.declared.member.Member.{Member}

abbrev pub spare_of : Member → ℕ
spare_of party = party.log.spare

-- a value written over one that is the same to every reader
same_set : {X : Type 0} (xs : List X) (i : ℕ) (x y : X) → x ≡ get_or xs i x → y ≡ x → set xs i y ≡ xs
same_set xs i x y e s = ap (λ v. set xs i v) (s ∙ e) ∙ set-get_or xs i x

-- a log that is given room is the same log
pub plain_same : (d : DecksAt) (items : List Member) (time place : ℕ) (old new : Member) → old ≡ get_or items place old → plain_member new ≡ plain_member old → world_of d (set items place new) time ≡ world_of d items time
plain_same d items time place old new e s =
    ap (λ ps. record { decks = d.decks; links = d.links; members = ps; time = time }) (map-set_same plain_member items place new old (s ∙ ap plain_member e))

-- the room of the party's log
pub spare_at : (items : List Member) (place : ℕ) (old : Member) → place < length items → old ≡ get_or items place old → slice_index (map spare_of items) place ≡ old.log.spare
spare_at items place old h e = get_or-map spare_of items place old 0 h ∙ sym (ap spare_of e)

-- and of a party that is written there
pub spare_new : (items : List Member) (place : ℕ) (new : Member) → place < length items → slice_index (map spare_of (set items place new)) place ≡ new.log.spare
spare_new items place new h =
    ap (λ l. slice_index l place) (map-set spare_of items place new)
    ∙ get_or-set_same (map spare_of items) place new.log.spare 0 (rw length-map h)

-- the others keep theirs
pub spare_other : (items : List Member) (place k : ℕ) (new : Member) → k ≢ place → slice_index (map spare_of (set items place new)) k ≡ slice_index (map spare_of items) k
spare_other items place k new ne =
    ap (λ l. slice_index l k) (map-set spare_of items place new)
    ∙ get_or-set_other (map spare_of items) place k new.log.spare 0 ne

-- the party at a place
pub member_got : (items : List Member) (place : ℕ) (old : Member) → place < length items → old ≡ get_or items place old → slice_get items place ≡ Some old
member_got items place old h e = slice_get_read items (length items) place old refl h e

pub plain_got : (items : List Member) (place : ℕ) (old : Member) → place < length items → old ≡ get_or items place old → slice_get (map plain_member items) place ≡ Some (plain_member old)
plain_got items place old h e = slice_get-map plain_member items place ∙ rw (member_got items place old h e) refl

-- where the party is known, a turn goes by it
pub turn_known : (w : PlainWorld) (place : ℕ) (party : PlainMember) → slice_get w.members place ≡ Some party → turn w place ≡ turn_at w place (Some party)
unfolding turn
turn_known w place party p = ap (turn_at w place) p

pub result_known : (w : PlainWorld) (place : ℕ) (party : PlainMember) → slice_get w.members place ≡ Some party → answer_at_place w place ≡ answer_for w (Some party)
unfolding answer_at_place
result_known w place party p = ap (answer_for w) p

-- what a turn did to a party and the lists
pub record Went (d e : DecksAt) (items : List Member) (time place : ℕ) (old new : Member) (result : Turn) : Type 0 where
  pub within : place < length items
  pub old_is : old ≡ get_or items place old
  pub links : e.links ≡ d.links
  pub ended : has_ended (plain old.party) ≡ true → (result ≡ turn_is.Ended) × (new ≡ old) × (e.decks ≡ d.decks)
  pub party : has_ended (plain old.party) ≡ false → plain_member new ≡ told (plain_member old) time (answered d.decks d.links time (plain_member old)).0
  pub left : has_ended (plain old.party) ≡ false → e.decks ≡ (answered d.decks d.links time (plain_member old)).1
  pub turned : has_ended (plain old.party) ≡ false → result ≡ turn_of (answered d.decks d.links time (plain_member old)).0

went_by : (d e : DecksAt) (items : List Member) (time place : ℕ) (old new : Member) (result : Turn) (b : Bool) → has_ended (plain old.party) ≡ b → Went d e items time place old new result
    → world_of e (set items place new) time ≡ (if b then world_of d items time else turned (world_of d items time) place (plain_member old))
went_by d e items time place old new result true h w =
    let (_, same, kept) = w.ended h in
    rw (kept, w.links) (ap (λ is. world_of d is time) (same_set items place old new w.old_is same))
went_by d e items time place old new result false h w =
    rw (w.left h, w.links)
    (ap (λ ps. record { decks = (answered d.decks d.links time (plain_member old)).1; links = d.links; members = ps; time = time })
    (map-set plain_member items place new ∙ ap (λ p. set (map plain_member items) place p) (w.party h)))

-- the world after the turn is the definition's
pub went : (d e : DecksAt) (items : List Member) (time place : ℕ) (old new : Member) (result : Turn) → Went d e items time place old new result
    → world_of e (set items place new) time ≡ turn (world_of d items time) place
went d e items time place old new result w =
    went_by d e items time place old new result (has_ended (plain old.party)) refl w
    ∙ sym (turn_known (world_of d items time) place (plain_member old) (plain_got items place old w.within w.old_is))

result_by : (d e : DecksAt) (items : List Member) (time place : ℕ) (old new : Member) (result : Turn) (b : Bool) → has_ended (plain old.party) ≡ b → Went d e items time place old new result
    → result ≡ turn_told (if b then None else Some (answered d.decks d.links time (plain_member old)).0)
result_by d e items time place old new result true h w = (w.ended h).0
result_by d e items time place old new result false h w = w.turned h

-- and so is what it came to
pub came_to : (d e : DecksAt) (items : List Member) (time place : ℕ) (old new : Member) (result : Turn) → Went d e items time place old new result
    → result ≡ turn_told (answer_at_place (world_of d items time) place)
came_to d e items time place old new result w =
    result_by d e items time place old new result (has_ended (plain old.party)) refl w
    ∙ ap turn_told (sym (result_known (world_of d items time) place (plain_member old) (plain_got items place old w.within w.old_is)))

-- the room that a log was given is the room of the party's place
pub room_made : {E : Type 0} (r : Result (Unit {0}) E) (items : List Member) (spares : List ℕ) (place turns : ℕ) (old new : Member) → place < length items → map spare_of items ≡ spares → old ≡ get_or items place old → OnOk r (new.log.spare ≡ max old.log.spare turns)
    → OnOk r (slice_index (map spare_of (set items place new)) place ≡ max (slice_index spares place) turns)
room_made (Err e) items spares place turns old new h s e' p = tt
room_made (Ok v) items spares place turns old new h s e' p =
    spare_new items place new h
    ∙ p ∙ ap (λ k. max k turns) (sym (spare_at items place old h e') ∙ ap (λ l. slice_index l place) s)

-- a turn spends at most one entry's room
pub spare_spent : (b : Bool) (old new : Member) → has_ended (plain old.party) ≡ b → (has_ended (plain old.party) ≡ true → new ≡ old) → (has_ended (plain old.party) ≡ false → new.log.spare ≡ old.log.spare - 1) → old.log.spare ≤ new.log.spare + 1
spare_spent true old new e p q = let h : new.log.spare ≡ old.log.spare = ap spare_of (p e) in omega arith
spare_spent false old new e p q = let h : new.log.spare ≡ old.log.spare - 1 = q e in omega arith

-- where room is refused the world is as it was
pub unchanged : {E : Type 0} (r : Result (Unit {0}) E) (items : List Member) (place : ℕ) (old new : Member) (after before : PlainWorld) (regions : List RegionName) (v : SeenWorld) → old ≡ get_or items place old → after ≡ before
    → (let w : SeenWorld = record { plain = before; spares = map spare_of items; regions = regions } in w ≡ v)
    → OnErr r (new.log ≡ old.log) → OnErr r (let w : SeenWorld = record { plain = after; spares = map spare_of (set items place new); regions = regions } in w ≡ v)
unchanged (Ok u) items place old new after before regions v e same is h = tt
unchanged (Err x) items place old new after before regions v e same is h =
    ap (λ (p : PlainWorld). record { plain = p; spares = map spare_of (set items place new); regions = regions }) same
    ∙ ap (λ (l : List ℕ). record { plain = before; spares = l; regions = regions }) (map-set_same spare_of items place new old (ap (λ (l : PlainLog). l.spare) h ∙ ap spare_of e))
    ∙ is
