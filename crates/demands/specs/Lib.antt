-- What a reader must believe of the demands.
pub mod Invariant
pub mod Refusals
pub mod Reads
pub mod Sequences
