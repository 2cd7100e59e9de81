pub mod Breaks
pub mod Chain
pub mod ChainFaults
pub mod Extension
pub mod Laws
pub mod inside
