-- Definitions of upgraded JSON values.
pub mod Names
pub mod UpgradeRows
pub mod Upgrades
