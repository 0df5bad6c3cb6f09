-- What the proofs of several functions share.
pub mod Digits
pub mod Pieces
pub mod Valid
pub mod Telling
pub mod Replies
