-- Laws of flat timelines; their words stand in `flat`.
pub mod Inputs
