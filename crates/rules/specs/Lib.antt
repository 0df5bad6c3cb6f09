-- Document 01 as definitions: bytes as numbers, the paper's numbers, tests, refusals, fields, the header rules, a header at a place, the walk.
pub mod Bytes
pub mod Numbers
pub mod Named
pub mod Test
pub mod Paper
pub mod Fields
pub mod Rules
pub mod Place
pub mod Walk
