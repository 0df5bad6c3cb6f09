-- The program's text: what it is, what it means that it was written into a buffer, numbers in decimal, two samples, and that the text of
-- every frame of at most 65,536 bytes fits a buffer.
pub mod Text
pub mod Put
pub mod Clash
pub mod Told
pub mod Decimals
pub mod Samples
pub mod Sizes
pub mod Values
pub mod Fits
