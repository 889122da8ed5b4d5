use Rattle.std.proofs.Common.{refl, sym, ◌∙◌, arith}
use Rattle.csp_log.specs.declared.shown.AnswerShown.TheVariants as answer
use Rattle.csp_deck.proofs.turns.look.Goals as goal

pub miss-requires : goal.miss-requires
miss-requires g c = record {
  waiting = c.requires.waiting;
  awaits = c.requires.awaits;
  early = c.requires.early;
  room = c.requires.room;
  countable = c.requires.countable;
  stock = c.requires.stock;
}

pub carry-requires : goal.carry-requires
carry-requires g c = record {
  waiting = c.requires.waiting;
  awaits = c.requires.awaits;
  early = c.requires.early;
  room = c.requires.room;
  countable = c.requires.countable;
  asked = c.requires.asked;
  served = λ q r u. c.misses.ensures.rules q ∙ c.requires.served q r u;
  of_it = tt;
  region = c.requires.region ∙ sym c.misses.ensures.region;
  stock = c.requires.stock;
}

pub returns-then-misses : goal.returns-then-misses
returns-then-misses g c = record {
  went = (
    answer.Empty,
    c.misses.ensures.answer c.if-misses.true,
    tt,
    c.misses.ensures.empty c.if-misses.true,
    c.miss.ensures.party,
    c.miss.ensures.log,
    refl,
    λ k. (let same = c.miss.ensures.holds k in omega (arith, same)),
  );
  ready = c.miss.ensures.ready;
  counted = c.miss.ensures.counted;
  uses = c.miss.ensures.uses;
  rules = c.misses.ensures.rules;
  region = (c.miss.ensures.region, c.misses.ensures.region);
  needs = c.miss.ensures.needs;
  least = c.miss.ensures.least;
  most = c.miss.ensures.most;
}

pub returns-else-misses : goal.returns-else-misses
returns-else-misses g c = record {
  went = rw (c.misses.ensures.rest c.if-misses.false) at c.carry.ensures.went;
  ready = c.carry.ensures.ready;
  counted = c.carry.ensures.counted;
  uses = c.carry.ensures.uses;
  rules = λ q. c.carry.ensures.rules q ∙ c.misses.ensures.rules q;
  region = (c.carry.ensures.region.0, c.carry.ensures.region.1 ∙ c.misses.ensures.region);
  needs = c.carry.ensures.needs;
  least = c.carry.ensures.least;
  most = c.carry.ensures.most;
}
