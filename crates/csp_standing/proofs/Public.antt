-- What other crates may cite of the proofs of this one.

-- what is early stays so: turns of a round change nothing of what was early in it or before, and add to what holds after each entry
pub use Rattle.csp_standing.proofs.Early.{early_now}
-- who leads a node
pub use Rattle.csp_standing.proofs.Leaders.{Apart, HasHub, Hubs, Led, home_in, hub_at, hub_leads, hub_node, hub_place_of, node_in}
-- what is at a place of a list, of two lists of one length, or of a list that was made from another
pub use Rattle.csp_standing.proofs.ListPlaces.{each_at, mapped_at}
-- where the posts stand in a record: the entries of a name are those of the post of that name, and sums over posts are sums over logs
pub use Rattle.csp_standing.proofs.Logged.{at_home, post_entries}
-- where the posts of a network stand
pub use Rattle.csp_standing.proofs.Places.{HasPost, IsAt, all_at, all_from, home_named, post_at, post_of}
-- the ends that parties have are those of the lanes of their scene
pub use Rattle.csp_standing.proofs.Sides.{IsIn, JoinsAll, both_same, from_end, getting_end, in_nodes, named_side, putting_end, same_who, to_end}
