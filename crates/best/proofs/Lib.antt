-- Why one comparison of scores decides, and what each turn of the scans adds.
pub mod Bounds
pub mod Score
pub mod Merit
pub mod Turn
