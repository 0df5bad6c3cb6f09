-- What a comparison of texts says, what a tally counts, and that both are settled.
pub mod Agreed
pub mod Tallied
pub mod Settled
