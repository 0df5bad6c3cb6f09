-- Laws that several proofs of this crate cite.
pub mod Answers
pub mod ReadersAt
pub mod Links
pub mod Nets
pub mod Exts
pub mod Carries
pub mod Slices
