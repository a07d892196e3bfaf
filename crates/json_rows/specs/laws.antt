pub mod Fitness
pub mod Meanings
