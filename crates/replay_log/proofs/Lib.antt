pub mod Determined
pub mod Laws
pub mod Quick
pub mod Unroll
