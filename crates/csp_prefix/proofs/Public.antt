-- What other crates may cite of the proofs of this one.

-- what an application puts into a queue is what its steps put there: the packets that they make, and the notes that they ask
pub use Rattle.csp_prefix.proofs.AppPuts.{PutsSo, app_puts}
-- what the turns of an application show: it pushes packets without a trace, and tells once of each packet that it pops
pub use Rattle.csp_prefix.proofs.AppTurns.{blobs_so}
-- the flows that a record shows: what was sent on each numbered connection of a router, and where its numbers begin
pub use Rattle.csp_prefix.proofs.FlowReads.{said_so}
-- every packet that a router got from its inbox is genuine, by the flows that the record shows: each router sends only such, but for what it passes on
pub use Rattle.csp_prefix.proofs.GenuinePackets.{are_shown, flows_in, genuine_like, hears_genuine, true_router}
-- where each router sends only packets of a kind, but for what it passes on, and links change nothing, each router hears only such: by induction on the links that a packet crossed
pub use Rattle.csp_prefix.proofs.HeardPackets.{hears_only}
-- what routers, bridges and interfaces ask and put, by their own logs
pub use Rattle.csp_prefix.proofs.HubLogs.{ServesOwn, app_run, router_run, serves_own}
-- what a packet makes of a reliable connection, by its state and the row that the packet comes to
pub use Rattle.csp_prefix.proofs.MachineHearing.{hears-handed}
-- what the receive window of a reliable connection keeps: payloads of its peer's flow at their indices
pub use Rattle.csp_prefix.proofs.MachineKept.{next-found, place-next, said-found}
-- by which steps a reliable connection becomes open
pub use Rattle.csp_prefix.proofs.MachineOpens.{IsEarly, opens-early}
-- what is known of a reliable connection that receives is kept by each step
pub use Rattle.csp_prefix.proofs.MachineReceiver.{receiver-kept}
-- what a reliable connection says in its packets is true, and where it became open it has its number
pub use Rattle.csp_prefix.proofs.MachineSays.{sender-opens, sender-says}
-- what is known of a reliable connection that sends is kept by each step
pub use Rattle.csp_prefix.proofs.MachineSender.{sender-kept, sends-over}
-- what a step makes of a reliable connection: its state, its flow, and what its receive window keeps
pub use Rattle.csp_prefix.proofs.MachineSteps.{Delivers, Goes, Hears, IsSameOwn, Ways, answers, delivers, delivers-both, delivers-open, enters, enters_keeping, goes-kept-again, goes-rested, goes-sent, keeps, moves, off, on, over, resets, ways-closing, ways-ticked}
-- what a step leaves of the packets of a send window
pub use Rattle.csp_prefix.proofs.MachineWindows.{IsSameSend, same-acked, same-heard, same-marked}
-- the lanes of a node are in order, and each name's log is that of its party
pub use Rattle.csp_prefix.proofs.NodeLanes.{AreAppLanes, RouterThere, app_lanes_there, out_lane_there, owner_of, router_there, run_of}
-- each connection that became open is on a slot of an application that its node has
pub use Rattle.csp_prefix.proofs.OpeningPlaces.{opener}
-- what holds of each packet among items: of those of each priority, or with each mark; and what is read off a record's logs
pub use Rattle.csp_prefix.proofs.PacketLists.{each_any, each_both, events_of, none_counted}
-- ports that are good, by their slots; one step after another; and what is on a slot
pub use Rattle.csp_prefix.proofs.PortFacts.{used}
-- every step of the ports keeps what is known of each connection
pub use Rattle.csp_prefix.proofs.PortKept.{ports_kept}
-- the log of a router, entry by entry: what it tells of the connections so far, and the books that go with it
pub use Rattle.csp_prefix.proofs.RouterBooks.{IsAmong, IsTold, Past, Tells, all_at, among_more, ends_of, no_past, opening_on, past_after, with_openings}
-- what is put into the bytes of a packet is what is read there
pub use Rattle.csp_prefix.proofs.RouterBytes.{checked_back, checked_flag, parted_back, unwrapped_is}
-- where a router hears genuine packets alone, of which none was stale, it delivers beginnings of what its connections' peers sent
pub use Rattle.csp_prefix.proofs.RouterDelivers.{fed_tag, none_stale, read_true}
-- what one entry adds to what the log of a router tells
pub use Rattle.csp_prefix.proofs.RouterEntry.{split_entry}
-- what comes of a packet that a router hears
pub use Rattle.csp_prefix.proofs.RouterHeard.{IsFound, found_there, protected_trace}
-- what is known of a router's connections alone, whatever comes to it and goes out: that it may be told by another numbering, and that it holds after a turn
pub use Rattle.csp_prefix.proofs.RouterKnown.{hears_any, known_aim, known_is_aim, known_stands, known_turns, told_since}
-- each router is true: of what its machines, its ports and its turns keep
pub use Rattle.csp_prefix.proofs.RouterLaw.{true_routers}
-- what the plan of a turn says of the ports
pub use Rattle.csp_prefix.proofs.RouterPlans.{IsTask, deliver_job, found_passes, serves_free, task_there}
-- the runs of a router: what is to be known of its connections holds at the end
pub use Rattle.csp_prefix.proofs.RouterRun.{AreFound, IsCome, found_any, part_of, past_of, past_with, step_stands}
-- a router's connections have numbers of their own, and it sends genuine packets
pub use Rattle.csp_prefix.proofs.RouterSends.{all_fresh, opening_flow, sender_aim, sender_is_aim, sender_not}
-- what holds of a router between two steps, for what is to be known of its connections
pub use Rattle.csp_prefix.proofs.RouterStanding.{Aim, IsAim, IsPart, IsRead, Stands, unwrapped}
-- what the events of a router's turn tell: those of its timers, of lost packets alone; those of an application's packet, besides, that it was sent on its slot
pub use Rattle.csp_prefix.proofs.RouterTells.{IsHanding, IsOfPopped, TellsAt, entry_tells, events_are, packet_tells, timed_tells, timed_unsent}
-- what is known of a router by the whole of its log, for what is to be known of its connections
pub use Rattle.csp_prefix.proofs.RouterTrue.{ComesUp, all_come, each_comes, heard_all, opening_stands, part_all, past, past_sent, run_known}
-- the turns of a router: what is to be known of its connections holds after each
pub use Rattle.csp_prefix.proofs.RouterTurn.{HearsSo, PushedSo, stands_timed, timed_part}
