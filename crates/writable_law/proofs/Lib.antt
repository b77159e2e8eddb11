pub mod CalmTimelines
pub mod MadeChildren
pub mod WritableChildren
