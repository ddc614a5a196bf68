pub mod Facts
pub mod UnderWay
