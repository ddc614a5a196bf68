-- Legal lists of events, and their moments.
pub mod Histories
pub mod LegalLists
pub mod Ends
