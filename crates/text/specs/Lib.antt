pub mod Names
pub mod Stacks
