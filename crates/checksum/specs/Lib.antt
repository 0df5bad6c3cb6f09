-- The checksum: its definitions (Sum), their laws (Laws), and document 01's examples F10 and F11 (Vectors).
pub mod Sum
pub mod Laws
pub mod Vectors
