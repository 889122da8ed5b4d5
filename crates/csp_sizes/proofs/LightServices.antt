-- Replies of services are short, or no longer than their requests.
use Rattle.std.proofs.Common.{length-append, ◌≡◌, ℕ, ◌+◌, ◌*◌, ◌-◌, ◌≤◌, Bool, true, false, List, [], ◌∷◌, ◌++◌, length, take, drop, get_or, slice_get, Option, None, Some, Result, Ok, Err, refl, sym, subst, arith}
use Rattle.std.proofs.lemmas.Bool.{ltb-false}
use Rattle.std.proofs.lemmas.List.{length-replicate, length-take}
use Rattle.std.specs.Int.{to_be_bytes, w32}
use Rattle.std.specs.List.{All, flat_map}
use Rattle.std.specs.Prelude.{⊤, ◌==◌, IfOk, IfSome, if◌then◌else◌, nat_lt, replicate, slice_range}
use Rattle.arrayvec.specs.ArrayVec.{ArrayVec}
use Rattle.csp_cmp.specs.Codes.{code_of}
use Rattle.csp_cmp.specs.Reading.{by_code, chunk_of, count_or_zero, decoded, if_few, if_whole, need_of, read_as}
use Rattle.csp_cmp.specs.Replies.{ident_bytes, padded, peek_bytes, same_bytes, stats_bytes}
use Rattle.csp_cmp.specs.declared.code.Code.TheVariants as code
use Rattle.csp_cmp.specs.declared.code.Code.{Code}
use Rattle.csp_cmp.specs.declared.errors.CmpError.TheVariants.{BadLength, BadCount, BadType}
use Rattle.csp_cmp.specs.declared.errors.CmpError.{CmpError}
use Rattle.csp_cmp.specs.declared.reading.TheConstants.{REQUEST}
use Rattle.csp_cmp.specs.declared.replies.TheConstants.{MODEL, REVISION, DATE, TIME, HOST_ROOM, MODEL_ROOM, REVISION_ROOM, DATE_ROOM, TIME_ROOM}
use Rattle.csp_cmp.specs.declared.request.CmpRequest.TheVariants.{Ident, RouteSet, Stats, Peek, Poke, Clock}
use Rattle.csp_cmp.specs.declared.request.CmpRequest.{CmpRequest}
use Rattle.csp_ports.proofs.Public.{all_or}
use Rattle.csp_route.specs.Routes.{key_of, with_row}
use Rattle.csp_route.specs.declared.row.Row.{Row}
use Rattle.csp_service.specs.Answers.{outcome, overwritten, refused, replied, with_routes, with_services, Outcome, answered, has_no_room, iface_of, peeked, poked, requested, rebooted, routed, row_asked, at_service, told_stats}
use Rattle.csp_service.specs.Clock.{seconds_of}
use Rattle.csp_service.specs.Counting.{no_stats}
use Rattle.csp_service.specs.Facts.{PlainFacts}
use Rattle.csp_service.specs.Services.{service_at}
use Rattle.csp_service.specs.declared.answers.Served.TheVariants.{NoService, Refused}
use Rattle.csp_service.specs.declared.answers.Served.{Served}
use Rattle.csp_service.specs.declared.answers.ServiceError.TheVariants.{BadAddress, Cmp, Full, NoInterface}
use Rattle.csp_service.specs.declared.answers.ServiceError.{ServiceError}
use Rattle.csp_service.specs.declared.facts.TheConstants.{MEMORY}
use Rattle.csp_service.specs.declared.service.Service.TheVariants as service
use Rattle.csp_service.specs.declared.service.Service.{Service}
use Rattle.csp_sizes.specs.Light.{IsFew}

take_few : {A : Type 0} (n : ℕ) (xs : List A) → length (take n xs) ≤ n
take_few n xs = omega (arith, length-take n xs)

-- ---- what a request is

abbrev IsSmall : CmpRequest → Type 0
IsSmall Ident = ⊤
IsSmall (RouteSet dest via field) = length field ≤ 11
IsSmall (Stats field) = length field ≤ 11
IsSmall (Peek addr len) = len ≤ 200
IsSmall (Poke addr bytes) = length bytes.items ≤ 200
IsSmall (Clock sec nsec) = ⊤

counted_few : (o : Option ℕ) → IfSome o (λ n. n ≤ 200) → count_or_zero o ≤ 200
counted_few None h = omega arith
counted_few (Some n) h = h

read_small : (c : Code) (bytes : List ℕ) → IfSome (chunk_of c bytes) (λ n. n ≤ 200) → IsSmall (read_as c bytes)
read_small code.Ident bytes h = tt
read_small code.RouteSet bytes h = take_few 11 (drop 4 bytes)
read_small code.Stats bytes h = take_few 11 (drop 2 bytes)
read_small code.Peek bytes h = counted_few (slice_get bytes 6) h
read_small code.Poke bytes h =
    let few = counted_few (slice_get bytes 6) h in
    let taken = take_few (count_or_zero (slice_get bytes 6)) (drop 7 bytes) in
    omega (arith, few, taken)
read_small code.Clock bytes h = tt

whole_small : (c : Code) (bytes : List ℕ) → IfSome (chunk_of c bytes) (λ n. n ≤ 200) → IfOk (if_whole c bytes) IsSmall
whole_small c bytes h = go (nat_lt (length bytes) (need_of c bytes))
  where
    go : (b : Bool) → IfOk (if b then Err (BadLength (need_of c bytes)) else Ok (read_as c bytes)) IsSmall
    go true = tt
    go false = read_small c bytes h

few_small : (o : Option ℕ) (c : Code) (bytes : List ℕ) → chunk_of c bytes ≡ o → IfOk (if_few o (if_whole c bytes)) IsSmall
few_small None c bytes e = whole_small c bytes (subst (λ (x : Option ℕ). IfSome x (λ n. n ≤ 200)) (sym e) tt)
few_small (Some count) c bytes e = go (nat_lt 200 count) refl
  where
    go : (b : Bool) → nat_lt 200 count ≡ b → IfOk (if b then Err (BadCount count) else if_whole c bytes) IsSmall
    go true p = tt
    go false p = whole_small c bytes (subst (λ (x : Option ℕ). IfSome x (λ n. n ≤ 200)) (sym e) (ltb-false 200 count p))

code_small : (number : ℕ) (o : Option Code) (bytes : List ℕ) → IfOk (by_code number o bytes) IsSmall
code_small number None bytes = tt
code_small number (Some c) bytes = few_small (chunk_of c bytes) c bytes refl

decoded_small : (bytes : List ℕ) → IfOk (decoded bytes) IsSmall
decoded_small [] = tt
decoded_small (kind ∷ []) = tt
decoded_small (kind ∷ number ∷ fields) = go (kind == REQUEST)
  where
    go : (b : Bool) → IfOk (if b then by_code number (code_of number) (kind ∷ number ∷ fields) else Err (BadType kind)) IsSmall
    go true = code_small number (code_of number) (kind ∷ number ∷ fields)
    go false = tt

-- ---- replies

-- no longer than this, and the counts are as many as before
record IsAnswered (n : ℕ) (o : Outcome) : Type 0 where
  short : length o.reply ≤ n
  stats : All IsFew o.facts.services.stats

padded_long : (text : List ℕ) (room : ℕ) → length text ≤ room → length (padded text room) ≡ room
padded_long text room h =
    let zeros : List ℕ = replicate (room - length text) 0 in
    let both = length-append text zeros in
    let rest : length zeros ≡ room - length text = length-replicate (room - length text) 0 in
    omega (arith, h, both, rest)

six_joined : (a b c d e f : List ℕ) → length a ≤ 2 → length b ≤ 20 → length c ≤ 30 → length d ≤ 20 → length e ≤ 12 → length f ≤ 9 → length (a ++ b ++ c ++ d ++ e ++ f) ≤ 93
six_joined a b c d e f one two three four five six = simp length-append (omega (arith, one, two, three, four, five, six))

padded_short : (text : List ℕ) (room : ℕ) → length text ≤ room → length (padded text room) ≤ room
padded_short text room h = let e = padded_long text room h in omega (arith, e)

ident_short : (host : List ℕ) → length host ≤ 20 → length (ident_bytes host) ≤ 93
ident_short host h =
    six_joined (same_bytes Ident) (padded host HOST_ROOM) (padded MODEL.now MODEL_ROOM) (padded REVISION.now REVISION_ROOM) (padded DATE.now DATE_ROOM) (padded TIME.now TIME_ROOM)
    (omega arith) (padded_short host 20 h) (padded_short MODEL.now 30 (omega arith)) (padded_short REVISION.now 20 (omega arith)) (padded_short DATE.now 12 (omega arith)) (padded_short TIME.now 9 (omega arith))

counts_long : (counts : List ℕ) → length (flat_map (to_be_bytes w32) counts) ≡ 4 * length counts
counts_long [] = refl
counts_long (n ∷ counts) =
    let rest = counts_long counts in
    let both : length (to_be_bytes w32 n ++ flat_map (to_be_bytes w32) counts) ≡ 4 + length (flat_map (to_be_bytes w32) counts) = length-append (to_be_bytes w32 n) (flat_map (to_be_bytes w32) counts) in
    omega (arith, both, rest)

stats_short : (field counts : List ℕ) → length field ≤ 11 → length counts ≤ 10 → length (stats_bytes field counts) ≤ 53
stats_short field counts f c =
    let long = counts_long counts in
    let both = length-append (same_bytes (Stats field)) (flat_map (to_be_bytes w32) counts) in
    omega (arith, f, c, long, both)

range_few : (bytes : List ℕ) (first len : ℕ) → length (slice_range bytes first (first + len)) ≤ len
range_few bytes first len =
    let e : (first + len) - first ≡ len = omega arith in
    let few = take_few ((first + len) - first) (drop first bytes) in
    omega (arith, e, few)

peek_short : (addr : ℕ) (bytes : List ℕ) → length bytes ≤ 200 → length (peek_bytes addr bytes) ≤ 207
peek_short addr bytes h = omega (arith, h, length-append (same_bytes (Peek addr (length bytes))) bytes)

module _ (n : ℕ) (low : 400 ≤ n) (facts : PlainFacts) (name : length facts.name ≤ 20) (few : All IsFew facts.services.stats) where
  refused_short : (served : Served) → IsAnswered n (outcome served [] facts)
  refused_short served = record { short = omega (arith, low); stats = few }

  replied_short : (reply : List ℕ) → length reply ≤ 400 → IsAnswered n (replied reply facts)
  replied_short reply h = record { short = omega (arith, low, h); stats = few }

  routed_short : (reply : List ℕ) (r : Result Row ServiceError) → length reply ≤ 400 → IsAnswered n (routed reply r facts)
  routed_short reply (Err error) h = refused_short (Refused error)
  routed_short reply (Ok row) h = go (has_no_room facts.routes (key_of row))
    where
      go : (b : Bool) → IsAnswered n (if b then refused Full facts else replied reply (with_routes facts (with_row facts.routes row)))
      go true = refused_short (Refused Full)
      go false = record { short = omega (arith, low, h); stats = few }

  told_stats_short : (field : List ℕ) (o : Option ℕ) → length field ≤ 11 → IsAnswered n (told_stats field o facts)
  told_stats_short field None h = refused_short (Refused NoInterface)
  told_stats_short field (Some iface) h =
      let one = all_or IsFew facts.services.stats iface no_stats few (omega arith) in
      let short = stats_short field (get_or facts.services.stats iface no_stats).counts h one in
      replied_short (stats_bytes field (get_or facts.services.stats iface no_stats).counts) (omega (arith, short))

  peeked_short : (addr len : ℕ) → len ≤ 200 → IsAnswered n (peeked addr len facts)
  peeked_short addr len h = go (nat_lt MEMORY (addr + len))
    where
      go : (b : Bool) → IsAnswered n (if b then refused BadAddress facts else replied (peek_bytes addr (slice_range facts.services.memory addr (addr + len))) facts)
      go true = refused_short (Refused BadAddress)
      go false =
          let range = range_few facts.services.memory addr len in
          let short = peek_short addr (slice_range facts.services.memory addr (addr + len)) (omega (arith, range, h)) in
          replied_short (peek_bytes addr (slice_range facts.services.memory addr (addr + len))) (omega (arith, short))

  poked_short : (addr : ℕ) (bytes : ArrayVec ℕ) → length bytes.items ≤ 200 → IsAnswered n (poked addr bytes facts)
  poked_short addr bytes h = go (nat_lt MEMORY (addr + length bytes.items))
    where
      go : (b : Bool) → IsAnswered n (if b then refused BadAddress facts else replied (same_bytes (Poke addr bytes)) (with_services facts (record facts.services { memory = overwritten facts.services.memory addr bytes.items })))
      go true = refused_short (Refused BadAddress)
      go false = record { short = omega (arith, low, h, length-append (to_be_bytes w32 addr) (length bytes.items ∷ bytes.items)); stats = few }

  requested_short : (r : Result CmpRequest CmpError) (now : ℕ) → IfOk r IsSmall → IsAnswered n (requested r facts now)
  requested_short (Err error) now h = refused_short (Refused (Cmp error))
  requested_short (Ok Ident) now h = let short = ident_short facts.name name in replied_short (ident_bytes facts.name) (omega (arith, short))
  requested_short (Ok (RouteSet dest via field)) now h = routed_short (same_bytes (RouteSet dest via field)) (row_asked dest via field facts.ifaces) (omega (arith, h))
  requested_short (Ok (Stats field)) now h = told_stats_short field (iface_of field facts.ifaces) h
  requested_short (Ok (Peek addr len)) now h = peeked_short addr len h
  requested_short (Ok (Poke addr bytes)) now h = poked_short addr bytes h
  requested_short (Ok (Clock sec nsec)) now h = record { short = omega (arith, low); stats = few }

  served_short : (s : Option Service) (request : List ℕ) (now : ℕ) → length request ≤ n → IsAnswered n (at_service s request facts now)
  served_short None request now h = refused_short NoService
  served_short (Some service.Cmp) request now h = requested_short (decoded request) now (decoded_small request)
  served_short (Some service.Ping) request now h = record { short = h; stats = few }
  served_short (Some service.FreeMemory) request now h = replied_short (to_be_bytes w32 MEMORY) (omega arith)
  served_short (Some service.Reboot) request now h = refused_short (rebooted request)
  served_short (Some service.Uptime) request now h = replied_short (to_be_bytes w32 (seconds_of now)) (omega arith)

-- what a node's services answer
pub answered_short : (n port : ℕ) (request : List ℕ) (facts : PlainFacts) (now : ℕ) → 400 ≤ n → length facts.name ≤ 20 → All IsFew facts.services.stats → length request ≤ n
    → length (answered port request facts now).reply ≤ n
answered_short n port request facts now low name few h = (served_short n low facts name few (service_at port) request now h).short

pub answered_few : (port : ℕ) (request : List ℕ) (facts : PlainFacts) (now : ℕ) → length facts.name ≤ 20 → All IsFew facts.services.stats → length request ≤ 531
    → All IsFew (answered port request facts now).facts.services.stats
answered_few port request facts now name few h = (served_short 531 (omega arith) facts name few (service_at port) request now h).stats
