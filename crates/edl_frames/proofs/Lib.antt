pub mod ChannelEvents
