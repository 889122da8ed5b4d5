mod AllLanes
mod Ends
mod Joints
mod NewParties
mod PartyLemmas
mod PartyPlaces
mod Places
mod PlanLemmas
mod Serving
mod SeenLanes
mod TopologyLemmas
mod WireOrder
mod WirePlaces
mod WireSteps
mod WiringLemmas
mod WriterLemmas
pub mod Public
