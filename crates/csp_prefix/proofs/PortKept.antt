-- every step of the ports keeps what is known of each connection
use Rattle.csp_base.specs.declared.seat.Seat.{Seat}
use Rattle.csp_ports.specs.declared.flows.OwnFlows.{OwnFlows}
use Rattle.csp_prefix.proofs.PortAnswers.{answered_answers}
use Rattle.csp_prefix.proofs.PortBegun.{accepted_good, connect_comes, invited_comes}
use Rattle.csp_prefix.proofs.PortEnds.{close_comes}
use Rattle.csp_prefix.proofs.PortPackets.{delivered_comes, handed_comes}
use Rattle.csp_prefix.proofs.PortQuiet.{bound_good, keeps_good, makes_good, opens_good, owes_good, told_good, turned_good}
use Rattle.csp_prefix.proofs.PortSubmits.{submitted_submits}
use Rattle.csp_prefix.proofs.PortTimes.{timed_comes}
use Rattle.csp_prefix.specs.Ports.{ArePortsKept}
use Rattle.csp_prefix.specs.Slots.{Coming, IsKept, Now, Numbering}

pub ports_kept : (o : OwnFlows) (C : Coming) (Is : Numbering → Seat → Now → Type 0) → IsKept o C Is → ArePortsKept o C Is
ports_kept o C Is kept = record {
  opens = λ apps home few. opens_good Is apps home few;
  times = λ m ordinals books p time g. timed_comes kept g time;
  turns = λ m ordinals books p seat g. turned_good g seat;
  binds = λ m ordinals books p app port need here g. bound_good g app port need here;
  connects = λ m ordinals books p r time here there asked g. connect_comes kept r here there asked g time;
  closes = λ m ordinals books p seat time here there none g. close_comes kept seat time here there none g;
  accepts = λ m ordinals books p seat c prio flags here there free plain g. accepted_good seat here there g c prio flags free plain;
  invites = λ m ordinals books p seat c prio flags i time here there free reliable syn invites g. invited_comes kept seat here there g c prio flags i time free reliable syn invites;
  hands = λ m ordinals books p seat h b time here there on fed g. handed_comes kept seat here there g h b time on fed;
  submits = λ m ordinals books p seat b time here there on none g. submitted_submits kept seat b time here there on none g;
  owes = λ m ordinals books p seat time j here there e g. owes_good kept seat here there g time j e;
  makes = λ m ordinals books p seat time j here there e g. makes_good kept seat here there g time j e;
  delivers = λ m ordinals books p seat time b here there e g. delivered_comes kept seat here there g time b e;
  keeps = λ m ordinals books p seat b here there e g. keeps_good kept seat here there g b e;
  tells = λ m ordinals books p seat g. told_good g seat;
  answers = λ m ordinals books p first rest e g. answered_answers g first rest e;
}
