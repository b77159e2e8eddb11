-- Lemmas on flat timelines.
pub mod CopyLemmas
pub mod FirstLemmas
pub mod PlaceLemmas
pub mod RootLemmas
mod RateLemmas
pub mod TrackLemmas
pub mod RunLemmas
pub mod LayerLemmas
pub mod LongestLemmas
pub mod MeasureLemmas
pub mod CrossingLemmas
pub mod BlockLemmas
pub mod InputLemmas
pub mod KnowLemmas
pub mod SeatLemmas
pub mod MostLemmas
pub mod JoinedTracks
pub mod OwnerLemmas
pub mod GiverLemmas
pub mod CountLemmas
pub mod JoinLemmas
pub mod StraightLemmas
pub mod PartLemmas
pub mod WindowFaults
pub mod ZoneLemmas
pub mod PassedLemmas
mod WindowLemmas
pub mod TrackPlaces
pub mod MisfitLemmas
pub mod SoughtLemmas
pub mod RefusalLemmas
mod PieceLemmas
mod PileLemmas
pub mod CountedSteps
pub mod Carrying
pub mod Ending
pub mod OneStep
pub mod OneGathered
pub mod OneOutcome
pub mod PortionLemmas
pub mod MoveLemmas
