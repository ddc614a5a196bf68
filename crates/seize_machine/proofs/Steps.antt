-- The steps of the machine, and what each leaves as it was.
pub mod Relation
pub mod Exactness
pub mod Forced
pub mod Frames
