-- Laws that several proofs of this crate cite.
pub mod Turned
pub mod Written
pub mod Loop
