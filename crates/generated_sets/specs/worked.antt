pub mod OneSet
