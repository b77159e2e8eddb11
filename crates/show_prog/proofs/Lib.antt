-- What is proved of shows and listings.
mod Euclid
mod FarInstants
pub mod PrintTexts
pub mod Roots
pub mod ShowLemmas
pub mod DarkItems
pub mod SoundnessFacts
pub mod Walk
pub mod SeatLemmas
pub mod ReachedItems
pub mod SpareLemmas
pub mod Starts
pub mod FrameCounts
pub mod EndFrames
pub mod Pieces
pub mod SentLines
pub mod PlaceLemmas
pub mod SpotLemmas
pub mod SpotPlaces
pub mod SpotOrder
pub mod TrackLemmas
pub mod CountLemmas
pub mod SpareListings
pub mod WorkedLemmas
