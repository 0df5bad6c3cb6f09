-- Laws of the definitions of crate rules: tests, kinds, one header at a place, how a frame opens, the walk, and answers gathered from it;
-- from the paper's numbers back (Back); and memory made zeros (Zeros).
pub mod Tests
pub mod Kinds
pub mod Reads
pub mod Walks
pub mod Gather
pub mod Parts
pub mod Openings
pub mod Back
pub mod Zeros
