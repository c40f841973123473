pub mod Nef
pub mod Places
pub mod Reflexive
pub mod Agreement
pub mod Walk
pub mod Laws
pub mod Examples
