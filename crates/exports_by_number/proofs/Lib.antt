-- Laws that the proofs here share: header k out of a list and a count.
pub mod HeaderK
