pub mod Collectors
pub mod Exchanges
pub mod Guards
pub mod Links
pub mod Loose
pub mod Moments
pub mod Registrations
