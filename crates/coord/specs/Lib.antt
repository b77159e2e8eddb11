-- What timelines show, and which of them are sound.
pub mod Looks
pub mod Speeds
pub mod Keys
pub mod Sights
pub mod Programs
pub mod Soundness
pub mod Walk
pub mod Images
pub mod Agreement
pub mod Worked
pub mod WorkedItems
