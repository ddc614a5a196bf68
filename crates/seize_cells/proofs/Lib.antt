pub mod OneThread
pub mod Latches
pub mod Sends
