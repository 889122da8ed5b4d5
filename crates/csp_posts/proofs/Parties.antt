-- What a turn makes of a party, whichever it is.
use Rattle.std.proofs.Common.{◌≡◌, inl, inr, ℕ, ◌+◌, ◌*◌, ◌-◌, ◌<◌, ◌≤◌, true, false, List, [], ◌∷◌, ◌++◌, refl, sym, ap, ◌∙◌, arith}
use Rattle.std.proofs.lemmas.List.{append-nil}
use Rattle.csp_deck.specs.Step.{entry_of, op_numbers, answer_numbers, times}
use Rattle.csp_ends.specs.Causes.{CauseOf}
use Rattle.csp_ends.specs.Ends.{PlainNodeQueues}
use Rattle.csp_ends.specs.Moves.{ends_after, room_for}
use Rattle.csp_log.specs.Pictures.{Fits}
use Rattle.csp_log.specs.declared.shown.AnswerShown.{AnswerShown}
use Rattle.csp_party.specs.Any.{PlainParty, a_router, a_bridge, an_iface, an_app, a_link, a_hub, is_ready, has_ended, asks, asked, tells, events, holds}
use Rattle.csp_party.specs.declared.any.AnyParty.TheVariants as party
use Rattle.csp_posts.specs.Posts.{PlainPost, AreTurns}

-- that it is ready depends on no time
pub any_time : (p : PlainParty) (a b : ℕ) → is_ready p a → is_ready p b
any_time (a_router r) a b h = h
any_time (a_bridge r) a b h = h
any_time (an_iface i) a b h = h
any_time (an_app p) a b h = h
any_time (a_link l) a b h = h
any_time (a_hub u) a b h = h

-- one turn of a party that goes on
pub one_turn : (nodes : List PlainNodeQueues) (time : ℕ) (s t : PlainPost) (a : AnswerShown) → has_ended s.party ≡ false → Fits (asks s.party time) a → t.who ≡ s.who
    → t.party ≡ tells (asked s.party time) time a
    → t.entries ≡ s.entries ++ entry_of time (asks s.party time) a (events (asked s.party time) time a) ∷ []
    → t.ends ≡ ends_after (room_for nodes s.ends.home) (asks s.party time) a s.ends
    → CauseOf s.ends (asks s.party time) a
    → ((k : ℕ) → times k (holds t.party) + times k (op_numbers (asks s.party time)) ≡ times k (holds s.party) + times k (answer_numbers a))
    → AreTurns nodes time 1 s t
one_turn nodes time s t a goes fits who state entries ends cause held =
    let e = entry_of time (asks s.party time) a (events (asked s.party time) time a) in
    record {
      more = e ∷ [];
      entries = entries;
      times = (refl, tt);
      run = (omega arith, record { goes_on = goes; op = refl; fits = fits; events = refl }, tt);
      reached = sym state;
      held = λ k. rw (append-nil (op_numbers (asks s.party time)), append-nil (answer_numbers a)) (held k);
      ends = ends;
      causes = (cause, tt);
      all = inl refl;
      none = λ ended. absurd cc;
      stays = λ ended. absurd cc;
      who = who;
    }

-- and of one that has ended
pub ended_turn : (nodes : List PlainNodeQueues) (time count : ℕ) (s t : PlainPost) → has_ended s.party ≡ true → t.who ≡ s.who → t.party ≡ s.party → t.entries ≡ s.entries → t.ends ≡ s.ends → AreTurns nodes time count s t
ended_turn nodes time count s t ended who state entries ends = record {
  more = [];
  entries = entries ∙ sym (append-nil s.entries);
  times = tt;
  run = tt;
  reached = sym state;
  held = λ k. ap (λ (p : PlainParty). times k (holds p) + 0) state;
  ends = ends;
  causes = tt;
  all = inr (ap has_ended state ∙ ended, omega arith);
  none = λ e. refl;
  stays = λ e. ap has_ended state ∙ e;
  who = who;
}
