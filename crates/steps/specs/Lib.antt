-- Headers by number and as numbers (Lists), and the step from a place (Places).
pub mod Lists
pub mod Places
pub mod Kept
