-- What each answer is on the other side of the boundary (Handed).
pub mod Handed
