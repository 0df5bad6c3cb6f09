-- Where a number leads (Turns), a reader's answer at its place (At), and a header of any kind at a place (Header).
pub mod Onwards
pub mod Turns
pub mod At
pub mod Header
