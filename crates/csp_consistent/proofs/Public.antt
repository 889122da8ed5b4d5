-- What other crates may cite of the proofs of this one.

-- what crosses a link or a hub and its lanes is what its plan makes of it, and keeps its trace
pub use Rattle.csp_consistent.proofs.Across.{AreLanes, end_lanes_of, through}
-- what an interface handed to its inbox was sent by an interface at another end of its link
pub use Rattle.csp_consistent.proofs.Beyond.{IsIfaceRun, IsJoint, IsOfOther, came_from_others, entries_alike, iface_run, joint, more_at}
-- what holds of each element of a list made from others
pub use Rattle.csp_consistent.proofs.Each.{each_at, each_filter, each_first, each_if, each_last, each_there, first_given, one_at}
-- what is heard is of a kind, where the frame is, and what was kept before; so it has the trace of a frame: of the one that is heard now, or of one that was kept
pub use Rattle.csp_consistent.proofs.Heard.{IsHeardSo, IsListeningSo, IsWholeSo, read_by, read_from, reassembled_so}
-- the parties of a scene have different names, so that the entries of a name are those of one log
pub use Rattle.csp_consistent.proofs.Names.{AreApart, HasNone, Logged, are_apart, entries_at, entries_in, none_there, who_is, who_same}
-- each party uses its own queues, from its opening in a scene on
pub use Rattle.csp_consistent.proofs.OwnQueues.{IsOwn, own_asks, own_run, own_told, scene_own, uses}
-- what a scene has under each name: the party that stands there
pub use Rattle.csp_consistent.proofs.Owners.{IsAppAt, IsBridgeAt, IsIfaceAt, IsLinkAt, IsOf, IsOwner, IsRouterAt, are_owners, as_hub, as_link}
-- A link or a hub of a record applies its plan
pub use Rattle.csp_consistent.proofs.Planned.{PopsWithin, logged, pops_within}
-- A queue is the one of its own name, and of no other
pub use Rattle.csp_consistent.proofs.QueueNames.{queue_apart, queue_is, queue_same, queue_turned}
-- what an interface hands to its inbox is as what was whole when it heard its frames: it has the trace of a frame that it popped, with one hop more
pub use Rattle.csp_consistent.proofs.Received.{IsFrameOf, IsNamed, IsOn, IsPacketOf, IsPacketSo, IsSuchFrame, IsSuchIfHeeded, came, heeded, never_taking, read_on_in, received_so, step_named, step_on, such_also, taking, told, waiting}
-- what an interface hands to its link is a frame of a transmission: of the packet in the first entry that shows its serial. It has its trace
pub use Rattle.csp_consistent.proofs.Transmitted.{IsBegun, IsSentIn, Marked, begun_step, caught_serial, handed_serial, kept_serial, pushed_serial, sent_frames, shown_as, transmitted_all, turn_silent}
-- who leads a node is its router or its bridge; with which marks its parties put into its inbox, and what an inbox carries of a priority
pub use Rattle.csp_consistent.proofs.Writers.{apps_put_none, if_put, leader_bridge, leader_router, links_put_none, more_put, one_put, own_puts, prio_is, priority_carried}
