pub mod SpeedLemmas
pub mod DayLemmas
pub mod ChannelLemmas
pub mod LayoutLemmas
pub mod RecordOrder
