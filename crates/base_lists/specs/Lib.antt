pub mod Fronts
pub mod Options
pub mod Remembered
pub mod Results
pub mod Rising
pub mod SevenBits
pub mod formers
