-- Words of the reader's own state, which its proofs are about: nothing here needs to be believed.
pub mod Machine
pub mod Opened
pub mod Runs
pub mod Stands
