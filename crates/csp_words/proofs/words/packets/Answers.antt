use Rattle.std.proofs.Common.{◌≡◌, ◌<◌, ◌^◌, ◌∙◌, arith}
use Rattle.csp_words.proofs.Rows.{is_number, number_is}
use Rattle.csp_words.proofs.words.packets.Goals as goal
use Rattle.csp_words.proofs.words.packets.Goals.{then-packets-lt1-via-then-packets-lt1, then-packets-lt1-via-else-packets-lt1+then-packets-from}
use Rattle.csp_text.specs.Numbers.{number_of}

pub returns-in_err-packets-clause-none : goal.returns-in_err-packets-clause-none
returns-in_err-packets-clause-none c none packets are =
    let is = is_number packets c.args.digits.now are in
    let most = are.most in
    let small : number_of c.args.digits.now < 2 ^ 64 = omega (arith, is.1) in
    c.in_err-packets.ensures (is.0, small)

pub returns-then-packets-lt1-clause-none : goal.returns-then-packets-lt1-clause-none
returns-then-packets-lt1-clause-none c none packets are =
    let is = is_number packets c.args.digits.now are in
    let same : c.in_ok-packets.packets ≡ packets = c.in_ok-packets.ensures.1 ∙ is.1 in
    let least = are.least in
    let most = are.most in
    elim c.then-packets-lt1.branch [ then-packets-lt1-via-then-packets-lt1 w ↦ omega arith | then-packets-lt1-via-else-packets-lt1+then-packets-from w ↦ omega arith ]

pub returns-clause-some : goal.returns-clause-some
returns-clause-some c = number_is c.in_ok-packets.packets c.args.digits.now c.in_ok-packets.ensures.0.0 c.in_ok-packets.ensures.0.1 c.in_ok-packets.ensures.1 (omega arith) (omega arith)
