pub mod Tops
pub mod Counting
pub mod Laws
pub mod Visited
