pub mod Places
pub mod Proofs
