-- TCP options: document 01's rules (Options), the answers on paper (Paper), laws of one option (OneOption); the theorems: where options stand
-- (Order), which answer a place has (Places), that there is no second answer (Settled); short slices computed (Vectors).
pub mod Options
pub mod Paper
pub mod OneOption
pub mod Order
pub mod Places
pub mod Settled
pub mod Vectors
