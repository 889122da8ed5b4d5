-- What the lines of a report tell of connections: line by line, each connection that became open, with what was sent and taken on it.
use Rattle.std.proofs.Common.{◌≡◌, ℕ, Bool, true, false, cond, ◌&&◌, ◌||◌, List, [], ◌∷◌, ◌++◌, take, drop, map, filter, refl, sym, ap, subst, ◌∙◌, append_assoc, append-nil}
use Rattle.std.specs.Prelude.{codes}
use Rattle.std.specs.List.{AllByRecursion, flat_map, starts_with}
use Rattle.std.specs.Str.{bytes_eq}
use Rattle.std.proofs.lemmas.List.{map-append}
use Rattle.std.proofs.lemmas.List.Elements.{filter-append}
use Rattle.std.proofs.lemmas.List.Sums.{take_while-cons}
use Rattle.csp_report.specs.Lines.{Line}
use Rattle.csp_report.specs.ReliablePrefix.{is_conn, is_on, following, text_in, ToldConnection, told_connection, all_told}
use Rattle.csp_report.proofs.Cutting.{recut}

-- ---- lines that tell nothing of connections

-- a line that tells of no payload on any connection; one that tells of no connection at all
abbrev pub begins_with : List ℕ → Line → Bool
begins_with word line = starts_with bytes_eq line (word ∷ [])

pub record IsBreak (line : Line) : Type 0 where
  pub no_sent : begins_with (codes "sent") line ≡ false
  pub no_took : begins_with (codes "took") line ≡ false

pub record IsOther (line : Line) : Type 0 where
  pub no_conn : is_conn line ≡ false
  pub breaks : IsBreak line

not_on : (word : List ℕ) (conn line : Line) → begins_with word line ≡ false → is_on word conn line ≡ false
not_on word conn [] h = refl
not_on word conn (first ∷ line) h = by_test (bytes_eq word first) h
  where
    by_test : (t : Bool) → (t && true) ≡ false → (t && starts_with bytes_eq line (take 4 (drop 1 conn))) ≡ false
    by_test true e = cc
    by_test false e = refl

-- lines before which those of a connection end
abbrev pub IsClosed : List Line → Type 0
IsClosed [] = Unit {0}
IsClosed (line ∷ lines) = IsBreak line

none_follow : (conn : Line) (lines : List Line) → IsClosed lines → following conn lines ≡ []
none_follow conn [] closed = refl
none_follow conn (line ∷ lines) closed =
    take_while-cons (λ l. is_on (codes "sent") conn l || is_on (codes "took") conn l) line lines
    ∙ ap (λ t. cond (t || is_on (codes "took") conn line) (line ∷ following conn lines) []) (not_on (codes "sent") conn line closed.no_sent)
    ∙ ap (λ t. cond t (line ∷ following conn lines) []) (not_on (codes "took") conn line closed.no_took)

all_follow : (conn : Line) (lines rest : List Line) → AllByRecursion (λ l. (is_on (codes "sent") conn l || is_on (codes "took") conn l) ≡ true) lines → IsClosed rest → following conn (lines ++ rest) ≡ lines
all_follow conn [] rest all closed = none_follow conn rest closed
all_follow conn (line ∷ lines) rest all closed =
    take_while-cons (λ l. is_on (codes "sent") conn l || is_on (codes "took") conn l) line (lines ++ rest)
    ∙ ap (λ t. cond t (line ∷ following conn (lines ++ rest)) []) all.0
    ∙ ap (λ (more : List Line). line ∷ more) (all_follow conn lines rest all.1 closed)

pub skipped : (lines rest : List Line) → AllByRecursion (λ l. is_conn l ≡ false) lines → all_told (lines ++ rest) ≡ all_told rest
skipped [] rest all = refl
skipped (line ∷ lines) rest all =
    ap (λ t. cond t (told_connection line (lines ++ rest) ∷ []) [] ++ all_told (lines ++ rest)) all.0 ∙ skipped lines rest all.1

-- ---- what lines tell, whatever comes after them

-- these lines of words, cut out of a text again, tell of these connections, where those of the last one end with them
pub record Tells (lines : List Line) (told : List ToldConnection) : Type 0 where
  pub tells : (rest : List Line) → IsClosed rest → all_told (map recut lines ++ rest) ≡ told ++ all_told rest
  pub closed : (rest : List Line) → IsClosed rest → IsClosed (map recut lines ++ rest)

pub tells_none : Tells [] []
tells_none = record { tells = λ rest closed. refl; closed = λ rest closed. closed }

apart : (a b rest : List Line) → map recut (a ++ b) ++ rest ≡ map recut a ++ (map recut b ++ rest)
apart a b rest = ap (λ (ls : List Line). ls ++ rest) (map-append recut a b) ∙ append_assoc (map recut a) (map recut b) rest

pub tells_both : (a b : List Line) (s t : List ToldConnection) → Tells a s → Tells b t → Tells (a ++ b) (s ++ t)
tells_both a b s t one two = record {
  tells = λ rest closed.
      ap all_told (apart a b rest) ∙ one.tells (map recut b ++ rest) (two.closed rest closed) ∙ ap (λ (ts : List ToldConnection). s ++ ts) (two.tells rest closed) ∙ sym (append_assoc s t (all_told rest));
  closed = λ rest closed. subst IsClosed (sym (apart a b rest)) (one.closed (map recut b ++ rest) (two.closed rest closed));
}

others_skipped : (lines : List Line) → AllByRecursion (λ l. IsOther (recut l)) lines → AllByRecursion (λ l. is_conn l ≡ false) (map recut lines)
others_skipped [] all = tt
others_skipped (line ∷ lines) all = (all.0.no_conn, others_skipped lines all.1)

others_closed : (lines rest : List Line) → AllByRecursion (λ l. IsOther (recut l)) lines → IsClosed rest → IsClosed (map recut lines ++ rest)
others_closed [] rest all closed = closed
others_closed (line ∷ lines) rest all closed = all.0.breaks

pub tells_nothing : (lines : List Line) → AllByRecursion (λ l. IsOther (recut l)) lines → Tells lines []
tells_nothing lines all = record { tells = λ rest closed. skipped (map recut lines) rest (others_skipped lines all); closed = λ rest closed. others_closed lines rest all closed }

pub tells_each : {X : Type 0} (R : X → Type 0) (f : X → List Line) (g : X → List ToldConnection) → ((x : X) → R x → Tells (f x) (g x)) → (xs : List X) → AllByRecursion R xs → Tells (flat_map f xs) (flat_map g xs)
tells_each R f g each [] all = tells_none
tells_each R f g each (x ∷ xs) all = tells_both (f x) (flat_map f xs) (g x) (flat_map g xs) (each x all.0) (tells_each R f g each xs all.1)

-- ---- a connection's lines

module _ (conn : Line) (sents tooks : List Line) where
  -- the lines of a connection: its own, those of what was sent, those of what was taken
  pub record IsBlock : Type 0 where
    pub own : recut conn ≡ conn
    pub is_own : is_conn conn ≡ true
    pub breaks : IsBreak conn
    pub sents_same : map recut sents ≡ sents
    pub tooks_same : map recut tooks ≡ tooks
    pub sents_told : AllByRecursion (λ l. (is_conn l ≡ false) × (is_on (codes "sent") conn l ≡ true) × (is_on (codes "took") conn l ≡ false)) sents
    pub tooks_told : AllByRecursion (λ l. (is_conn l ≡ false) × (is_on (codes "sent") conn l ≡ false) × (is_on (codes "took") conn l ≡ true)) tooks

  abbrev pub told_block : ToldConnection
  told_block = record { line = conn; sent = map text_in sents; took = map text_in tooks }

each_as : {X : Type 0} (P Q : X → Type 0) → ((x : X) → P x → Q x) → (xs : List X) → AllByRecursion P xs → AllByRecursion Q xs
each_as P Q so [] all = tt
each_as P Q so (x ∷ xs) all = (so x all.0, each_as P Q so xs all.1)

each_both : {X : Type 0} (P : X → Type 0) (xs ys : List X) → AllByRecursion P xs → AllByRecursion P ys → AllByRecursion P (xs ++ ys)
each_both P [] ys a b = b
each_both P (x ∷ xs) ys a b = (a.0, each_both P xs ys a.1 b)

all_pass : {X : Type 0} (p : X → Bool) (xs : List X) → AllByRecursion (λ x. p x ≡ true) xs → filter p xs ≡ xs
all_pass p [] all = refl
all_pass p (x ∷ xs) all = ap (λ t. cond t (x ∷ filter p xs) (filter p xs)) all.0 ∙ ap (λ ys. x ∷ ys) (all_pass p xs all.1)

none_pass : {X : Type 0} (p : X → Bool) (xs : List X) → AllByRecursion (λ x. p x ≡ false) xs → filter p xs ≡ []
none_pass p [] all = refl
none_pass p (x ∷ xs) all = ap (λ t. cond t (x ∷ filter p xs) (filter p xs)) all.0 ∙ none_pass p xs all.1

either : (a b : Bool) → b ≡ true → (a || b) ≡ true
either true b e = refl
either false b e = e

first_of : (a b : Bool) → a ≡ true → (a || b) ≡ true
first_of true b e = refl
first_of false b e = cc

module _ (conn : Line) (sents tooks : List Line) (is : IsBlock conn sents tooks) where
  block_follows : (rest : List Line) → IsClosed rest → following conn ((sents ++ tooks) ++ rest) ≡ sents ++ tooks
  block_follows rest closed =
      all_follow conn (sents ++ tooks) rest
      (each_both (λ l. (is_on (codes "sent") conn l || is_on (codes "took") conn l) ≡ true) sents tooks
      (each_as (λ l. (is_conn l ≡ false) × (is_on (codes "sent") conn l ≡ true) × (is_on (codes "took") conn l ≡ false)) (λ l. (is_on (codes "sent") conn l || is_on (codes "took") conn l) ≡ true) (λ l h. first_of (is_on (codes "sent") conn l) (is_on (codes "took") conn l) h.1) sents is.sents_told)
      (each_as (λ l. (is_conn l ≡ false) × (is_on (codes "sent") conn l ≡ false) × (is_on (codes "took") conn l ≡ true)) (λ l. (is_on (codes "sent") conn l || is_on (codes "took") conn l) ≡ true) (λ l h. either (is_on (codes "sent") conn l) (is_on (codes "took") conn l) h.2) tooks is.tooks_told))
      closed

  sent_filtered : filter (is_on (codes "sent") conn) (sents ++ tooks) ≡ sents
  sent_filtered =
      filter-append (is_on (codes "sent") conn) sents tooks
      ∙ ap (λ (ls : List Line). ls ++ filter (is_on (codes "sent") conn) tooks) (all_pass (is_on (codes "sent") conn) sents (each_as (λ l. (is_conn l ≡ false) × (is_on (codes "sent") conn l ≡ true) × (is_on (codes "took") conn l ≡ false)) (λ l. is_on (codes "sent") conn l ≡ true) (λ l h. h.1) sents is.sents_told))
      ∙ ap (λ (ls : List Line). sents ++ ls) (none_pass (is_on (codes "sent") conn) tooks (each_as (λ l. (is_conn l ≡ false) × (is_on (codes "sent") conn l ≡ false) × (is_on (codes "took") conn l ≡ true)) (λ l. is_on (codes "sent") conn l ≡ false) (λ l h. h.1) tooks is.tooks_told))
      ∙ append-nil sents

  took_filtered : filter (is_on (codes "took") conn) (sents ++ tooks) ≡ tooks
  took_filtered =
      filter-append (is_on (codes "took") conn) sents tooks
      ∙ ap (λ (ls : List Line). ls ++ filter (is_on (codes "took") conn) tooks) (none_pass (is_on (codes "took") conn) sents (each_as (λ l. (is_conn l ≡ false) × (is_on (codes "sent") conn l ≡ true) × (is_on (codes "took") conn l ≡ false)) (λ l. is_on (codes "took") conn l ≡ false) (λ l h. h.2) sents is.sents_told))
      ∙ all_pass (is_on (codes "took") conn) tooks (each_as (λ l. (is_conn l ≡ false) × (is_on (codes "sent") conn l ≡ false) × (is_on (codes "took") conn l ≡ true)) (λ l. is_on (codes "took") conn l ≡ true) (λ l h. h.2) tooks is.tooks_told)

  told_is : (rest : List Line) → IsClosed rest → told_connection conn ((sents ++ tooks) ++ rest) ≡ told_block conn sents tooks
  told_is rest closed =
      ap (λ (ls : List Line). record { line = conn; sent = map text_in (filter (is_on (codes "sent") conn) ls); took = map text_in (filter (is_on (codes "took") conn) ls) }) (block_follows rest closed)
      ∙ ap (λ (ls : List Line). record { line = conn; sent = map text_in ls; took = map text_in (filter (is_on (codes "took") conn) (sents ++ tooks)) }) sent_filtered
      ∙ ap (λ (ls : List Line). record { line = conn; sent = map text_in sents; took = map text_in ls }) took_filtered

  no_more : AllByRecursion (λ l. is_conn l ≡ false) (sents ++ tooks)
  no_more =
      each_both (λ l. is_conn l ≡ false) sents tooks
      (each_as (λ l. (is_conn l ≡ false) × (is_on (codes "sent") conn l ≡ true) × (is_on (codes "took") conn l ≡ false)) (λ l. is_conn l ≡ false) (λ l h. h.0) sents is.sents_told)
      (each_as (λ l. (is_conn l ≡ false) × (is_on (codes "sent") conn l ≡ false) × (is_on (codes "took") conn l ≡ true)) (λ l. is_conn l ≡ false) (λ l h. h.0) tooks is.tooks_told)

  all_same : map recut (conn ∷ sents ++ tooks) ≡ conn ∷ sents ++ tooks
  all_same =
      ap (λ (l : Line). l ∷ map recut (sents ++ tooks)) is.own
      ∙ ap (λ (ls : List Line). conn ∷ ls) (map-append recut sents tooks ∙ ap (λ (ls : List Line). ls ++ map recut tooks) is.sents_same ∙ ap (λ (ls : List Line). sents ++ ls) is.tooks_same)

  block_tells : (rest : List Line) → IsClosed rest → all_told ((conn ∷ sents ++ tooks) ++ rest) ≡ told_block conn sents tooks ∷ all_told rest
  block_tells rest closed =
      ap (λ t. cond t (told_connection conn ((sents ++ tooks) ++ rest) ∷ []) [] ++ all_told ((sents ++ tooks) ++ rest)) is.is_own
      ∙ ap (λ (x : ToldConnection). x ∷ all_told ((sents ++ tooks) ++ rest)) (told_is rest closed)
      ∙ ap (λ (ts : List ToldConnection). told_block conn sents tooks ∷ ts) (skipped (sents ++ tooks) rest no_more)

  pub tells_block : Tells (conn ∷ sents ++ tooks) (told_block conn sents tooks ∷ [])
  tells_block = record {
    tells = λ rest closed. ap (λ (ls : List Line). all_told (ls ++ rest)) all_same ∙ block_tells rest closed;
    closed = λ rest closed. subst IsClosed (sym (ap (λ (ls : List Line). ls ++ rest) all_same)) is.breaks;
  }
